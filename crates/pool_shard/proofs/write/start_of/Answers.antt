use Rattle.std.proofs.Common.{arith}
use Rattle.pool_words.proofs.Places.{width_pos, width_low, start_low, start_is}
use Rattle.pool_shard.proofs.write.start_of.Goals as goal

pub overflow_mul-result : goal.overflow_mul-result
overflow_mul-result c = let z = c.args.layout.now in let e = c.slots_of.ensures in let w = width_low z z.top c.requires (omega arith) in record { fits = omega arith }

pub overflow_sub-result : goal.overflow_sub-result
overflow_sub-result c = let z = c.args.layout.now in let e = c.slots_of.ensures in let w = width_pos z.top in omega arith

pub returns-clause-start : goal.returns-clause-start
returns-clause-start c = let z = c.args.layout.now in let e = c.slots_of.ensures in let w = width_pos z.top in let s = start_is z in omega arith

pub returns-clause-room : goal.returns-clause-room
returns-clause-room c = let z = c.args.layout.now in let e = c.slots_of.ensures in let s = start_is z in let l = start_low z c.requires in let m = c.requires.large in omega arith
