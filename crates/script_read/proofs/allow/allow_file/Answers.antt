use Rattle.std.proofs.Common.{arith}
use Rattle.zw_base.proofs.SizeLemmas.{others_have_no_more}
use Rattle.script_read.proofs.allow.allow_file.Goals as goal

pub passed_beside-requires : goal.passed_beside-requires
passed_beside-requires c = rw c.tally_others.ensures (omega (arith, others_have_no_more c.args.path.now c.args.have.now))
