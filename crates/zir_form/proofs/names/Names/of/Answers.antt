use Rattle.std.proofs.Common.{◌∙◌, arith}
use Rattle.zir_form.specs.Names.{first_name}
use Rattle.zir_form.specs.Places.{place_in}
use Rattle.zir_form.proofs.NameLemmas.{places_more, first_is, firsts_more, firsts_whole}
use Rattle.zir_form.proofs.PlaceLemmas.{place_in-empty}
use Rattle.zir_form.proofs.names.Names.of.Goals as goal

pub loop-i-init : goal.loop-i-init
loop-i-init c = record {
  places = λ name. place_in-empty c.new-places.result name c.new-places.ensures.empty;
  firsts = c.in_ok-firsts.ensures.items;
}

pub loop-i-preserved : goal.loop-i-preserved
loop-i-preserved c =
    let text = c.args.text.now in
    let tokens = c.args.tokens.now in
    record {
      places = places_more text tokens c.loop-i.i _ (place_in c.loop-i.places) (place_in c.enter.new.places) c.loop-i-test.true c.loop-i.invariant.places c.in_ok-first.ensures.places;
      firsts = firsts_more (first_name text tokens) c.loop-i.firsts.items c.push.new.self.items c.loop-i.i c.in_ok-first.first c.loop-i.invariant.firsts c.in_ok-push.ensures.items
          (c.in_ok-first.ensures.first ∙ first_is text tokens c.loop-i.i _ (place_in c.loop-i.places) c.loop-i-test.true c.loop-i.invariant.places);
    }

pub returns : goal.returns
returns c = firsts_whole c.args.text.now c.args.tokens.now c.loop-i.firsts.items c.loop-i.i (omega (arith, c.loop-i.auto.i-end, c.loop-i-test.false)) c.loop-i.invariant.firsts
