-- The steps of a table of pointers, and its cycles as its pointers tell them.
use Rattle.std.proofs.Common.{◌≡◌, ℕ, zero, suc, ◌<◌, ◌≤◌, List, Option, Some, None, Bool, true, false, length, get_or, refl, sym, ap, subst, ◌∙◌, arith}
use Rattle.std.specs.Prelude.{slice_get, min}
use Rattle.std.proofs.lemmas.Option.{slice_get_past, slice_get-get_or, get_or_from_slice_get, slice_get_within}
use Rattle.pointer_cycles.specs.Cycles.{PointsTo, Leads, is_before, text_of, IsLeastOfCycle, MarksLeast}
use Rattle.pointer_cycles.specs.Walks.{landing, after, times, Least, Settled}

landing-low : (len : ℕ) (p : Option (Option ℕ)) → landing len p ≤ len
landing-low len (Some (Some j)) = omega arith
landing-low len (Some None) = omega arith
landing-low len None = omega arith

landing-some : (len j : ℕ) (p : Option (Option ℕ)) → landing len p ≡ j → j < len → p ≡ Some (Some j)
landing-some len j (Some (Some k)) e lt = ap (λ x. Some (Some x)) (let z : k ≡ j = omega (arith, e) in z)
landing-some len j (Some None) e lt = absurd (omega (arith, e))
landing-some len j None e lt = absurd (omega (arith, e))

pub after-low : (next : List (Option ℕ)) (i : ℕ) → after next i ≤ length next
unfolding after
after-low next i = landing-low (length next) (slice_get next i)

pub after-end : (next : List (Option ℕ)) → after next (length next) ≡ length next
unfolding after
after-end next = ap (landing (length next)) (slice_get_past next (length next) (let z : length next ≤ length next = omega arith in z))

pub after-some : (next : List (Option ℕ)) (i j : ℕ) → i < length next → get_or next i None ≡ Some j → min j (length next) ≡ after next i
unfolding after
after-some next i j lt e = ap (landing (length next)) (sym (slice_get-get_or next i None lt ∙ ap (λ p. Some p) e))

pub after-none : (next : List (Option ℕ)) (i : ℕ) → i < length next → get_or next i None ≡ None → length next ≡ after next i
unfolding after
after-none next i lt e = ap (landing (length next)) (sym (slice_get-get_or next i None lt ∙ ap (λ p. Some p) e))

pub after-points : (next : List (Option ℕ)) (i j : ℕ) → after next i ≡ j → j < length next → PointsTo next i j
unfolding after
after-points next i j e lt = (landing-some (length next) j (slice_get next i) e lt, lt)

pub points-after : (next : List (Option ℕ)) (i j : ℕ) → PointsTo next i j → after next i ≡ j
unfolding after
points-after next i j p = ap (landing (length next)) p.0 ∙ (let lt = p.1 in let z : min j (length next) ≡ j = omega (arith, lt) in z)

pub leads-times : (next : List (Option ℕ)) (n i j : ℕ) → Leads next n i j → times (after next) n i ≡ j
leads-times next zero i j e = e
leads-times next (suc n) i j l = ap (after next) (leads-times next n i l.0 l.1) ∙ points-after next l.0 j l.2

-- what leads on from beyond the end leads beyond it
past-end : (next : List (Option ℕ)) (i j : ℕ) → after next i ≡ j → j < length next → i < length next
past-end next i j e lt = slice_get_within next i (Some j) (after-points next i j e lt).0

pub times-leads : (next : List (Option ℕ)) (n i j : ℕ) → times (after next) n i ≡ j → j < length next → Leads next n i j
times-leads next zero i j e lt = e
times-leads next (suc n) i j e lt =
    let before = past-end next (times (after next) n i) j e lt in
    (times (after next) n i, times-leads next n i (times (after next) n i) refl before, after-points next (times (after next) n i) j e lt)

-- a place that is led back to is within the table
led-within : (next : List (Option ℕ)) (n i j : ℕ) → Leads next (suc n) i j → j < length next
led-within next n i j l = l.2.1

pub led-within-all : (next : List (Option ℕ)) (n i j : ℕ) → i < length next → Leads next n i j → j < length next
led-within-all next zero i j low e = subst (λ k. k < length next) e low
led-within-all next (suc n) i j low l = l.2.1

module _ (next : List (Option ℕ)) (text : ℕ → List ℕ) where
  pub least-told : (i : ℕ) → Least (after next) (length next) text i → IsLeastOfCycle next text i
  least-told i l = (
    (l.others, times-leads next (suc l.others) i i l.returns l.within),
    λ n j leads.
        let there = leads-times next n i j leads in
        subst (λ k. is_before (text k) (text i) ≡ false) there
        (l.least n (subst (λ k. k < length next) (sym there) (led-within-all next n i j l.within leads))),
  )

  pub told-least : (i : ℕ) → IsLeastOfCycle next text i → Least (after next) (length next) text i
  told-least i t = record {
    within = led-within next t.0.0 i i t.0.1;
    others = t.0.0;
    returns = leads-times next (suc t.0.0) i i t.0.1;
    least = λ n low. t.1 n (times (after next) n i) (times-leads next n i (times (after next) n i) refl low);
  }

-- once all places are visited, the marks are those that are wanted
pub all-marked : (next : List (Option ℕ)) (texts : List (List ℕ)) (visits : List ℕ) (marks : List Bool) (count : ℕ) → Settled (after next) (length next) (text_of texts) visits marks count → ((i : ℕ) → i < length next → 0 < get_or visits i 0) → MarksLeast next texts marks
all-marked next texts visits marks count s all = record {
  one_for_each = s.one_for_each;
  least = λ i. (
    (λ e. least-told next (text_of texts) i (s.sound i (get_or_from_slice_get marks i true false e))),
    (λ t. let l = told-least next (text_of texts) i t in
        slice_get-get_or marks i false (subst (λ n. i < n) (sym s.one_for_each) l.within)
        ∙ ap (λ b. Some b) (s.complete i (all i l.within) l)),
  );
}
