use Rattle.std.proofs.Common.{arith, ℕ, ◌<◌, ◌^◌}
use Rattle.pool_words.proofs.Places.{width_pos, size_low}
use Rattle.pool_shard.proofs.Readings.{slot_sum, slot_is}
use Rattle.pool_shard.proofs.look.slot_of.Goals as goal

below_all : (a b : ℕ) → a < b → b < 2 ^ 60 → a < 2 ^ 64
below_all a b h l = omega arith

pub overflow_sub-result : goal.overflow_sub-result
overflow_sub-result c = let w = width_pos c.args.at in let e = c.slots_of-slots.ensures in omega arith

pub overflow_add-result : goal.overflow_add-result
overflow_add-result c = let r = c.requires in record { fits = (slot_sum c.args.layout.now c.args.at c.args.hash c.args.far c.slots_of-slots.result r.laid r.level c.slots_of-slots.ensures (let e = c.slots_of-slots.ensures in omega arith) c.ranges.hash.fits).1 }

pub overflow_add-result-2 : goal.overflow_add-result-2
overflow_add-result-2 c =
    let r = c.requires in
    let s = r.laid.small in
    let f = size_low c.args.layout.now r.laid in
    let b : c.args.layout.now.size < 2 ^ 60 = omega arith in
    record { fits = below_all _ c.args.layout.now.size (slot_sum c.args.layout.now c.args.at c.args.hash c.args.far c.slots_of-slots.result r.laid r.level c.slots_of-slots.ensures (let e = c.slots_of-slots.ensures in omega arith) c.ranges.hash.fits).3 b }

pub overflow_add-result-3 : goal.overflow_add-result-3
overflow_add-result-3 c = let r = c.requires in record { fits = below_all _ c.args.layout.now.words (slot_sum c.args.layout.now c.args.at c.args.hash c.args.far c.slots_of-slots.result r.laid r.level c.slots_of-slots.ensures (let e = c.slots_of-slots.ensures in omega arith) c.ranges.hash.fits).0 r.laid.small }

pub returns-clause-slot : goal.returns-clause-slot
returns-clause-slot c key e = slot_is c.args.layout.now c.args.at c.args.hash c.args.far c.slots_of-slots.result key c.slots_of-slots.ensures e

pub returns-clause-inside : goal.returns-clause-inside
returns-clause-inside c = let r = c.requires in (slot_sum c.args.layout.now c.args.at c.args.hash c.args.far c.slots_of-slots.result r.laid r.level c.slots_of-slots.ensures (let e = c.slots_of-slots.ensures in omega arith) c.ranges.hash.fits).0
