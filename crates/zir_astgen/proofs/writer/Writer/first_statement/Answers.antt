use Rattle.std.proofs.Common.{◌∙◌, ap, sym}
use Rattle.zir_astgen.specs.Control.{first_statement}
use Rattle.zir_astgen.specs.Parts.{Parts}
use Rattle.zir_astgen.specs.Writing.{file, parts, site}
use Rattle.zir_astgen.specs.declared.writer.Writer.{Writer}
use Rattle.zir_astgen.proofs.AddLemmas.{absent_adds, none_left}
use Rattle.zir_astgen.proofs.writer.Writer.first_statement.Goals as goal

pub returns-clause-tree : goal.returns-clause-tree
unfolding first_statement
returns-clause-tree c =
    absent_adds c.args.self.now.lines c.loop-rest.self.lines _ c.loop-rest.self.has_firsts (ap (λ (w : Writer). w.lines) c.loop-rest.invariant.self)
    (ap (λ (p : Parts). first_statement (file c.loop-rest.self) (site c.loop-rest.self) p) (sym (none_left _ _ c.loop-rest.rest.now c.in_default.len_below)) ∙ c.loop-rest.invariant.same
    ∙ ap (λ (w : Writer). first_statement (file w) (site w) (parts w c.args.row.now)) c.loop-rest.invariant.self)
