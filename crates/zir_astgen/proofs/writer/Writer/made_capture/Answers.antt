use Rattle.std.proofs.Common.{◌∙◌, ap, false, sym}
use Rattle.zir_astgen.specs.Control.{captured_names, first_in, made_capture}
use Rattle.zir_astgen.specs.Parts.{Parts}
use Rattle.zir_astgen.specs.Writing.{parts}
use Rattle.zir_astgen.specs.declared.writer.Writer.{Writer}
use Rattle.zir_astgen.proofs.AddLemmas.{absent_adds, none_left}
use Rattle.zir_astgen.proofs.writer.Writer.made_capture.Goals as goal

pub returns-clause-tree : goal.returns-clause-tree
unfolding made_capture captured_names
returns-clause-tree c =
    absent_adds c.args.self.now.lines c.loop-rest.self.lines _ c.loop-rest.self.has_firsts (ap (λ (w : Writer). w.lines) c.loop-rest.invariant.self)
    (ap (λ (p : Parts). first_in (captured_names c.loop-rest.pointer p)) (sym (none_left _ _ c.loop-rest.rest.now c.in_default.len_below)) ∙ c.loop-rest.invariant.same
    ∙ ap (λ (w : Writer). first_in (captured_names false (parts w c.args.row.now))) c.loop-rest.invariant.self)
