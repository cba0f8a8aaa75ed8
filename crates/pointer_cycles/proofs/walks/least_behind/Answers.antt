-- Each step keeps a place of least text of those so far.
use Rattle.std.proofs.Common.{◌≡◌, ℕ, ◌+◌, ◌<◌, ◌≤◌, inl, inr, List, true, false, length, refl, sym, ap, subst, ◌∙◌, arith}
use Rattle.std.proofs.lemmas.Bool.{cases_lt}
use Rattle.pointer_cycles.specs.Cycles.{is_before, text_of}
use Rattle.pointer_cycles.specs.Walks.{after, times}
use Rattle.pointer_cycles.proofs.Order.{not-before-chain, not-before-back, not-before-itself}
use Rattle.pointer_cycles.proofs.Steps.{step-at}
use Rattle.pointer_cycles.proofs.walks.least_behind.Goals as goal
use Rattle.pointer_cycles.proofs.walks.least_behind.Goals.{then-comes_before, else-comes_before}

module _ (f : ℕ → ℕ) (text : ℕ → List ℕ) (n start least new place : ℕ) (at : times f (n + 1) start ≡ place) (lowest : (k : ℕ) → k ≤ n → is_before (text (times f k start)) (text least) ≡ false) where
  -- a place of least text of the places up to this one and the next
  step-lowest : is_before (text least) (text new) ≡ false → is_before (text place) (text new) ≡ false
      → (k : ℕ) → k ≤ n + 1 → is_before (text (times f k start)) (text new) ≡ false
  step-lowest below here k h =
      elim (cases_lt n k) [
        | inl gt ↦ let is : k ≡ n + 1 = omega arith in subst (λ j. is_before (text j) (text new) ≡ false) (sym (ap (λ j. times f j start) is ∙ at)) here
        | inr le ↦ not-before-chain (text new) (text least) (text (times f k start)) below (lowest k le)
      ]

  taken-lowest : new ≡ place → is_before (text place) (text least) ≡ true → (k : ℕ) → k ≤ n + 1 → is_before (text (times f k start)) (text new) ≡ false
  taken-lowest is before =
      step-lowest
      (subst (λ j. is_before (text least) (text j) ≡ false) (sym is) (not-before-back (text place) (text least) before))
      (subst (λ j. is_before (text j) (text new) ≡ false) is (not-before-itself (text new)))

  left-lowest : new ≡ least → is_before (text place) (text least) ≡ false → (k : ℕ) → k ≤ n + 1 → is_before (text (times f k start)) (text new) ≡ false
  left-lowest is after =
      step-lowest
      (subst (λ j. is_before (text j) (text new) ≡ false) is (not-before-itself (text new)))
      (subst (λ j. is_before (text place) (text j) ≡ false) (sym is) after)

pub loop-step-init : goal.loop-step-init
loop-step-init c = record {
  at = refl;
  among = (0, refl);
  lowest = λ k h. subst (λ j. is_before (text_of c.args.texts.now (times (after c.args.next.now) j c.args.start)) (text_of c.args.texts.now c.args.start) ≡ false)
      (let z : 0 ≡ k = omega arith in z) (not-before-itself (text_of c.args.texts.now c.args.start));
}

pub comes_before-requires-clause-one : goal.comes_before-requires-clause-one
comes_before-requires-clause-one c =
    let at = step-at (after c.args.next.now) c.loop-step._step c.args.start c.loop-step.place c.loop-step.invariant.at ∙ sym c.place_after-place.ensures in
    subst (λ n. c.place_after-place.result < n) (sym c.requires.texts) (subst (λ j. j < length c.args.next.now) at (c.requires.within (c.loop-step._step + 1)))

pub loop-step-preserved : goal.loop-step-preserved
loop-step-preserved c =
    let f = after c.args.next.now in
    let text = text_of c.args.texts.now in
    let i = c.loop-step.invariant in
    let at = step-at f c.loop-step._step c.args.start c.loop-step.place i.at ∙ sym c.place_after-place.ensures in
    elim c.if-comes_before.branch [
      | then-comes_before w ↦ record {
        at = at;
        among = (c.loop-step._step + 1, at ∙ sym w.least-is);
        lowest = taken-lowest f text c.loop-step._step c.args.start c.loop-step.least c.if-comes_before.least c.place_after-place.result at i.lowest w.least-is (sym c.comes_before.ensures ∙ w.if-comes_before.true);
      }
      | else-comes_before w ↦ record {
        at = at;
        among = (i.among.0, i.among.1 ∙ sym w.least-is);
        lowest = left-lowest f text c.loop-step._step c.args.start c.loop-step.least c.if-comes_before.least c.place_after-place.result at i.lowest w.least-is (sym c.comes_before.ensures ∙ w.if-comes_before.false);
      }
    ]
