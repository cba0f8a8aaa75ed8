use Rattle.zir_astgen.proofs.FrameLemmas.{absent_line, absent_past}
use Rattle.zir_astgen.proofs.writer.Writer.is_absent.Goals as goal

pub returns-in-Some : goal.returns-in-Some
returns-in-Some c = absent_line c.args.self.now.lines c.args.line _ _ c.in-Some.ensures c.is_absent_form.ensures

pub returns-in-None : goal.returns-in-None
returns-in-None c = absent_past c.args.self.now.lines c.args.line c.in-None.ensures
