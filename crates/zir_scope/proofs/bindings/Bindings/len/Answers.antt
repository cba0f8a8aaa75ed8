use Rattle.std.proofs.Common.{◌∙◌, sym, ap, length}
use Rattle.zir_scope.specs.Bindings.{BindingsState}
use Rattle.zir_scope.proofs.BindingLemmas.{length-bindings_of}
use Rattle.zir_scope.proofs.bindings.Bindings.len.Goals as goal

pub returns : goal.returns
returns c =
    c.len.ensures ∙ c.self.inside.rows.ok.0 ∙ sym (length-bindings_of c.self.inside.rows.items)
    ∙ ap (λ (s : BindingsState). length s.entries) c.self.view_is
