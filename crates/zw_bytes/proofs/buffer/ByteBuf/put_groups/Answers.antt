use Rattle.std.proofs.Common.{◌≡◌, ◌+◌, ◌<◌, ◌++◌, ◌^◌, ◌∷◌, [], length, arith, rules, ap, sym, ◌∙◌}
use Rattle.zw_bytes.specs.Leb.{low_group}
use Rattle.zw_bytes.proofs.LebLemmas.{groups_last, groups_moved, length-groups_more, length-groups_positive}
use Rattle.zw_bytes.proofs.buffer.ByteBuf.put_groups.Goals as goal

pub put-requires : goal.put-requires
put-requires c = omega (arith, length-groups_positive c.args.limit c.args.negative c.loop-rest.rest)

pub loop-rest-preserved : goal.loop-rest-preserved
loop-rest-preserved c =
    let below : c.loop-rest.rest < 2 ^ 64 = search rules in
    let low = c.low_group.ensures.value in
    let e : c.put.new.self.bytes ≡ c.loop-rest.self.bytes ++ (128 + low_group c.args.negative c.loop-rest.rest) ∷ [] = rw (← low) c.put.ensures.bytes in
    let len = length-groups_more c.args.limit c.args.negative c.loop-rest.rest c.requires.limit.0 c.loop-rest-test.true below in
    record {
      bytes = groups_moved c.args.limit c.args.negative c.loop-rest.rest _ _ c.requires.limit.0 c.loop-rest-test.true below e ∙ c.loop-rest.invariant.bytes;
      spare = omega arith;
      room = omega arith;
    }

pub put-requires-2 : goal.put-requires-2
put-requires-2 c = omega (arith, length-groups_positive c.args.limit c.args.negative c.loop-rest.rest)

pub returns-clause-bytes : goal.returns-clause-bytes
returns-clause-bytes c =
    let last = groups_last c.args.limit c.args.negative 9 c.loop-rest.rest c.loop-rest-test.false in
    c.put-2.ensures.bytes ∙ ap (λ b. c.loop-rest.self.bytes ++ b ∷ []) c.low_group-2.ensures.value
    ∙ ap (λ gs. c.loop-rest.self.bytes ++ gs) (sym last) ∙ c.loop-rest.invariant.bytes

pub returns-clause-spare : goal.returns-clause-spare
returns-clause-spare c =
    let last = ap length (groups_last c.args.limit c.args.negative 9 c.loop-rest.rest c.loop-rest-test.false) in
    omega arith
