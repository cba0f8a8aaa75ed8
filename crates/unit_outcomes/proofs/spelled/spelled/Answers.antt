use Rattle.std.proofs.Common.{ap, Err, arith}
use Rattle.unit_outcomes.proofs.SpellLemmas.{not-long}
use Rattle.unit_outcomes.proofs.spelled.spelled.Goals as goal

pub unreachable-requires : goal.unreachable-requires
unreachable-requires c =
    let long = c.in-Err-TooLong.ensures.too_long.0 (ap Err c.in-Err-TooLong.field-0-is) in
    let short = not-long c.args.unit.now c.requires in
    omega (arith, long, short)
