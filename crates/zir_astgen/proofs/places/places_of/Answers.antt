use Rattle.std.proofs.Common.{ap, arith, nat_eq}
use Rattle.std.specs.BTreeMap.{get}
use Rattle.std.specs.List.{position_from}
use Rattle.std.specs.Option.{option_or}
use Rattle.std.specs.Ordering.{nat_cmp}
use Rattle.zir_astgen.specs.Site.{place_in}
use Rattle.zir_astgen.proofs.IndexLemmas.{get-empty, place_done, place_step}
use Rattle.zir_astgen.proofs.places.places_of.Goals as goal

pub loop-rest-init : goal.loop-rest-init
unfolding place_in
loop-rest-init c q = ap (λ o. option_or o (position_from (nat_eq q) 0 c.args.numbers.now)) (get-empty c.new-places.result q c.new-places.ensures.empty)

pub loop-rest-preserved : goal.loop-rest-preserved
loop-rest-preserved c q =
    place_step c.loop-rest.at c.in_ok-at.at q c.loop-rest.rest.now (get nat_cmp c.loop-rest.places q) (get nat_cmp c.enter.new.places q) _ (omega arith) c.in_ok-at.ensures (c.in_ok-enter.ensures q) (c.loop-rest.invariant q)

pub returns : goal.returns
returns c q = place_done c.loop-rest.at q c.loop-rest.rest.now (get nat_cmp c.loop-rest.places q) _ c.in_default.len_below (c.loop-rest.invariant q)
