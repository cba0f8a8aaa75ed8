use Rattle.std.proofs.Common.{◌≡◌, ℕ, suc, ◌+◌, ◌*◌, ◌/◌, ◌%◌, ◌<◌, ◌≤◌, ap, ◌∙◌, subst, arith}
use Rattle.std.proofs.Math.Nat.{mod-add-div, le-div_iff_mul-le, div-le_self, mod-lt}
use Rattle.pool_words.specs.Layout.{level_at}
use Rattle.pool_words.proofs.Places.{level_first, level_next, level_from, width_pos, top_low}
use Rattle.pool_shard.proofs.rows.layout_of.Goals as goal

-- a level begins at twice where the one before it does, and 63
doubled : (k : ℕ) → level_at (suc k) ≡ 2 * level_at k + 63
doubled k = let n = level_next k in let f = level_from k in let w = width_pos k in omega arith

-- a shard has at least 1,024 words
large : (shards words : ℕ) → 0 < shards → shards * 1024 ≤ words → 1024 ≤ words / shards
large shards words s h = (le-div_iff_mul-le s).1 (omega arith)

pub loop-next-init : goal.loop-next-init
loop-next-init c =
    let l = large c.args.shards c.args.words c.requires.some c.requires.many in
    let a : level_at 1 ≡ 2 * level_at 0 + 63 = doubled 0 in
    let b : level_at 2 ≡ 2 * level_at 1 + 63 = doubled 1 in
    let f = level_first in
    let n : ℕ = c.args.words / c.args.shards in
    let l' : 1024 ≤ n = l in
    let d = mod-add-div n 4 in
    let m : n % 4 < 4 = mod-lt n (omega arith) in
    record { next = omega arith; below = omega arith }

pub overflow_add-top : goal.overflow_add-top
overflow_add-top c =
    let i = c.loop-next.invariant in
    let t = top_low (c.loop-next.top + 1) in
    let n : ℕ = c.args.words / c.args.shards in
    let s : n ≤ c.args.words = div-le_self c.args.words c.args.shards in
    let q : n / 4 ≤ n = div-le_self n 4 in
    let w = c.requires.small in
    let b : level_at (c.loop-next.top + 1) ≤ n / 4 = i.below in
    record { fits = omega arith }

pub loop-next-preserved : goal.loop-next-preserved
loop-next-preserved c =
    let i = c.loop-next.invariant in
    let k : ℕ = c.loop-next.top in
    let a : level_at (suc (k + 2)) ≡ 2 * level_at (k + 2) + 63 = doubled (k + 2) in
    let e : suc (k + 2) ≡ k + 1 + 2 = omega arith in
    let f : k + 2 ≡ k + 1 + 1 = omega arith in
    let n : 2 * c.loop-next.next + 63 ≡ level_at (suc (k + 2)) = let b = i.next in omega arith in
    record {
      next = n ∙ ap level_at e;
      below = subst (λ m. level_at m ≤ c.args.words / c.args.shards / 4) f (let b = i.next in let t = c.loop-next-test.true in omega arith);
    }
