use Rattle.std.proofs.Common.{◌+◌, ◌<◌, ◌≤◌, slice_set, sym, subst, arith}
use Rattle.pool_words.specs.declared.view.Layout.{Layout}
use Rattle.pool_words.specs.Rule.{Same}
use Rattle.pool_words.proofs.Places.{base_in}
use Rattle.pool_words.specs.Layout.{base, start, used, rows_of}
use Rattle.pool_shard.proofs.Keeping.{Keeps-private}
use Rattle.pool_shard.proofs.write.put.Goals as goal

pub store_private-requires-clause-inside : goal.store_private-requires-clause-inside
store_private-requires-clause-inside c =
    let q = c.requires.seat in
    let b = base_in c.args.layout.now c.args.shard q.laid c.requires.ours.1 in
    let i = c.requires.inside in
    let e = q.wide in
    let f = q.of in
    omega arith

pub store_private-requires-clause-behind : goal.store_private-requires-clause-behind
store_private-requires-clause-behind c =
    let q = c.requires.seat in
    let v = c.args.seat.now.me.0 in
    record {
      shard = c.args.shard;
      ours = c.requires.ours.0;
      above = subst (λ (y : Layout). base y c.args.shard + (start y + used (rows_of y c.args.shard v.log)) ≤ c.args.word) (sym q.layout) c.requires.behind;
      inside = subst (λ (y : Layout). c.args.word < base y c.args.shard + y.size) (sym q.layout) c.requires.inside;
    }

pub returns-clause-keeps : goal.returns-clause-keeps
returns-clause-keeps c =
    let q = c.requires.seat in
    Keeps-private c.args.layout.now c.args.seat.now.me.0 c.store_private.new.seat.me.0 c.args.shard c.args.word c.args.value q.layout q.laid q.pool c.requires.ours.1 c.requires.behind c.requires.inside c.store_private.ensures.stored

pub returns-clause-stored : goal.returns-clause-stored
returns-clause-stored c =
    let q = c.requires.seat in
    let v = c.args.seat.now.me.0 in
    let w = c.store_private.new.seat.me.0 in
    subst (λ y. Same y c.args.shard (slice_set v.words c.args.word c.args.value) v.log w.words w.log) q.layout (c.store_private.ensures.stored.owns c.args.shard c.requires.ours.0)
