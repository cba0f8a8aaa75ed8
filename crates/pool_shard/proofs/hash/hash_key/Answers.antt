use Rattle.std.proofs.Common.{◌∙◌, sym, ap, arith, bit_xor, ◌/◌, ◌^◌}
use Rattle.std.proofs.lemmas.List.{at_drop_more, at_drop_all}
use Rattle.pool_words.specs.Layout.{hash_of, hash_from}
use Rattle.pool_shard.proofs.hash.hash_key.Goals as goal

pub loop-word-preserved : goal.loop-word-preserved
unfolding hash_from
loop-word-preserved c = sym (at_drop_more (hash_from c.loop-word.hash) c.args.key.now c.loop-word.word-index 0 c.loop-word-test.true) ∙ c.loop-word.invariant

pub returns : goal.returns
unfolding hash_from hash_of
returns c =
    let e = sym (at_drop_all (hash_from c.loop-word.hash) c.args.key.now c.loop-word.word-index (omega arith)) ∙ c.loop-word.invariant in
    ap (λ h. bit_xor h (h / 2 ^ 32)) e
