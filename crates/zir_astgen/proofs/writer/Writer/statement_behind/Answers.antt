use Rattle.std.proofs.Common.{◌∙◌, ap, sym}
use Rattle.zir_astgen.specs.Control.{statement_behind}
use Rattle.zir_astgen.specs.Parts.{Parts}
use Rattle.zir_astgen.specs.Writing.{file, parts, site}
use Rattle.zir_astgen.specs.declared.writer.Writer.{Writer}
use Rattle.zir_astgen.proofs.AddLemmas.{absent_adds, none_left}
use Rattle.zir_astgen.proofs.writer.Writer.statement_behind.Goals as goal

pub returns-clause-tree : goal.returns-clause-tree
unfolding statement_behind
returns-clause-tree c =
    absent_adds c.args.self.now.lines c.loop-rest.self.lines _ c.loop-rest.self.has_firsts (ap (λ (w : Writer). w.lines) c.loop-rest.invariant.self)
    (ap (λ (p : Parts). statement_behind (file c.loop-rest.self) (site c.loop-rest.self) c.args.wanted p) (sym (none_left _ _ c.loop-rest.rest.now c.in_default.len_below)) ∙ c.loop-rest.invariant.same
    ∙ ap (λ (w : Writer). statement_behind (file w) (site w) c.args.wanted (parts w c.args.row.now)) c.loop-rest.invariant.self)
