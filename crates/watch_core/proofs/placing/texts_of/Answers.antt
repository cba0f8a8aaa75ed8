use Rattle.std.proofs.Common.{sym, subst, arith}
use Rattle.watch_core.specs.Placing.{AreTexts}
use Rattle.watch_core.proofs.PlaceLemmas.{no_texts, there_next, there_all, all_shown, listed_shown}
use Rattle.watch_core.proofs.placing.texts_of.Goals as goal

pub loop-diag-init : goal.loop-diag-init
loop-diag-init c = record {
  texts = subst (AreTexts c.args.files.now.entries) (sym c.new-texts.ensures.empty) (no_texts c.args.files.now.entries);
  there = tt;
}

pub loop-diag-preserved : goal.loop-diag-preserved
loop-diag-preserved c = record {
  texts = c.in_ok-put_text.ensures.texts;
  there = there_next c.loop-diag.texts.entries c.put_text.new.texts.entries c.args.diags.now c.loop-diag.diag-index c.diag-item.result
      c.loop-diag-test.true c.diag-item.is c.in_ok-put_text.ensures.stay c.in_ok-put_text.ensures.there c.loop-diag.invariant.there;
}

pub returns : goal.returns
returns c =
    listed_shown c.listed.result c.args.files.now.entries c.loop-diag.texts.entries c.args.diags.now c.listed.ensures
    (all_shown c.args.files.now.entries c.loop-diag.texts.entries c.args.diags.now c.loop-diag.invariant.texts
    (there_all c.loop-diag.texts.entries c.args.diags.now c.loop-diag.diag-index (omega arith) c.loop-diag.invariant.there))
