use Rattle.zir_astgen.proofs.FrameLemmas.{absent_form, absent_is}
use Rattle.zir_astgen.proofs.levels.is_absent_form.Goals as goal

pub returns-in-Absent : goal.returns-in-Absent
returns-in-Absent c = λ at. absent_is at _ c.in-Absent.is

pub returns-in_default : goal.returns-in_default
returns-in_default c = λ at. absent_form at _ c.in_default.not-Absent
