-- What one walk does, and what it leaves for the next.
use Rattle.std.proofs.Common.{◌≡◌, ℕ, zero, suc, ◌+◌, ◌-◌, ◌*◌, ◌<◌, ◌≤◌, ◌⊎◌, inl, inr, List, Bool, true, false, length, get_or, set, refl, sym, ap, subst, ◌∙◌, arith, get_or-set_other, get_or-set_same}
use Rattle.std.specs.List.{sum_by}
use Rattle.std.proofs.lemmas.Bool.{cases_lt, cases_eq}
use Rattle.std.proofs.lemmas.List.{length-set}
use Rattle.std.proofs.lemmas.List.Sums.{sum_by-set}
use Rattle.pointer_cycles.specs.Cycles.{is_before}
use Rattle.pointer_cycles.specs.Walks.{times, unvisited, Least, Walked, Passed, Settled}
use Rattle.pointer_cycles.proofs.Order.{not-before-chain}
use Rattle.pointer_cycles.proofs.Steps.{times-add, way-back, also-returns, within-round, all-behind}

-- a visit of one more place
unvisited-less : (visits : List ℕ) (place n : ℕ) → place < length visits → get_or visits place 0 ≡ 0 → sum_by unvisited (set visits place (suc n)) + 1 ≡ sum_by unvisited visits
unvisited-less visits place n low none =
    let e = sum_by-set unvisited visits place (suc n) 0 low in
    let one : unvisited (get_or visits place 0) ≡ 1 = ap unvisited none in
    omega (arith, e, one)

-- one that is not visited counts
unvisited-some : (visits : List ℕ) (place : ℕ) → place < length visits → get_or visits place 0 ≡ 0 → 0 < sum_by unvisited visits
unvisited-some visits place low none = let e = unvisited-less visits place 0 low none in omega (arith, e)

module _ (f : ℕ → ℕ) (len : ℕ) where
  pub walked-none : (before : List ℕ) (count start : ℕ) → length before ≡ len → count + sum_by unvisited before ≡ len → Walked f len before count start before count start
  walked-none before count start sized room = record {
    steps = 0;
    counted = omega arith;
    ends = refl;
    kept = λ i h. refl;
    trail = λ k h. absurd (omega arith);
    only = λ i h. inl h;
    sized = sized;
    room = room;
  }

  module _ (before : List ℕ) (count start : ℕ) (visits : List ℕ) (reached stop : ℕ) (w : Walked f len before count start visits reached stop) where
    pub walked-room : stop < len → get_or visits stop 0 ≡ 0 → reached < len
    walked-room low none =
        let within : stop < length visits = rw w.sized low in
        let some = unvisited-some visits stop within none in omega (arith, some, w.room)

    module _ (low : stop < len) (none : get_or visits stop 0 ≡ 0) where
      more : List ℕ
      more = set visits stop (suc reached)

      within : stop < length visits
      within = rw w.sized low

      here : get_or more stop 0 ≡ suc reached
      unfolding more
      here = get_or-set_same visits stop (suc reached) 0 within

      there : (i : ℕ) → 0 < get_or visits i 0 → get_or more i 0 ≡ get_or visits i 0
      unfolding more
      there i some = get_or-set_other visits stop i (suc reached) 0 (λ e. let z : get_or visits i 0 ≡ 0 = ap (λ k. get_or visits k 0) e ∙ none in omega arith)

      more-trail : (k : ℕ) → k < suc w.steps → get_or more (times f k start) 0 ≡ suc (k + count)
      more-trail k h =
          elim (cases_lt k w.steps) [
            | inl lt ↦ let was = w.trail k lt in there (times f k start) (omega (arith, was)) ∙ was
            | inr ge ↦ let is : k ≡ w.steps = omega arith in
                ap (λ j. get_or more j 0) (ap (λ j. times f j start) is ∙ w.ends) ∙ here ∙ (let z : suc reached ≡ suc (k + count) = omega (arith, w.counted, is) in z)
          ]

      more-only : (i : ℕ) → 0 < get_or more i 0 → (0 < get_or before i 0) ⊎ ((k : ℕ) × (k < suc w.steps) × (times f k start ≡ i))
      unfolding more
      more-only i some =
          elim (cases_eq i stop) [
            | inl is ↦ inr (w.steps, omega arith, w.ends ∙ sym is)
            | inr ne ↦ elim (w.only i (let e = get_or-set_other visits stop i (suc reached) 0 ne in omega (arith, e))) [
              | inl old ↦ inl old
              | inr on ↦ inr (on.0, (let z = on.1 in omega arith), on.2)
            ]
          ]

      pub walked-more : Walked f len before count start (set visits stop (suc reached)) (suc reached) (f stop)
      unfolding more
      walked-more = record {
        steps = suc w.steps;
        counted = omega (arith, w.counted);
        ends = ap f w.ends;
        kept = λ i old. (let was = w.kept i old in there i (omega (arith, was)) ∙ was);
        trail = more-trail;
        only = more-only;
        sized = length-set visits stop (suc reached) ∙ w.sized;
        room = let e = unvisited-less visits stop reached within none in omega (arith, e, w.room);
      }

-- what lies within a table, and its end
module _ (f : ℕ → ℕ) (len : ℕ) (f-end : f len ≡ len) (f-low : (i : ℕ) → f i ≤ len) where
  pub times-low : (n i : ℕ) → i ≤ len → times f n i ≤ len
  times-low zero i low = low
  times-low (suc n) i low = f-low (times f n i)

  times-end : (n : ℕ) → times f n len ≡ len
  times-end zero = refl
  times-end (suc n) = ap f (times-end n) ∙ f-end

  -- a place on a cycle does not lead to the end
  pub never-ends : (p i m : ℕ) → times f (suc p) i ≡ i → i < len → times f m i ≡ len → ⊥
  never-ends p i m round low ends =
      let back = way-back f p i m len round ends in
      let is : i ≡ len = sym back ∙ times-end (m * p) in omega arith

  module _ (text : ℕ → List ℕ) (visits : List ℕ) (marks : List Bool) (count : ℕ) (s : Settled f len text visits marks count) where
    abbrev OldOrEnd : ℕ → Type 0
    OldOrEnd i = (i ≡ len) ⊎ (0 < get_or visits i 0)

    stays-old : (i : ℕ) → OldOrEnd i → OldOrEnd (f i)
    stays-old i (inl ends) = inl (ap f ends ∙ f-end)
    stays-old i (inr old) = elim (cases_lt (f i) len) [ inl lt ↦ inr (s.closed i old lt) | inr ge ↦ inl (let low = f-low i in omega (arith, low)) ]

    module _ (start : ℕ) (visits' : List ℕ) (reached stop : ℕ) (w : Walked f len visits count start visits' reached stop) (low : start < len) (stopped : stop < len → 0 < get_or visits' stop 0) where
      new-bounded : (i : ℕ) → get_or visits' i 0 ≤ reached
      new-bounded i =
          elim (cases_lt 0 (get_or visits' i 0)) [
            | inr none ↦ omega arith
            | inl some ↦ elim (w.only i some) [
              | inl old ↦ let e = w.kept i old in let b = s.bounded i in omega (arith, e, b, w.counted)
              | inr on ↦ let e : get_or visits' i 0 ≡ suc (on.0 + count) = ap (λ j. get_or visits' j 0) (sym on.2) ∙ w.trail on.0 on.1 in
                  let l = on.1 in omega (arith, e, l, w.counted)
            ]
          ]

      new-closed : (i : ℕ) → 0 < get_or visits' i 0 → f i < len → 0 < get_or visits' (f i) 0
      new-closed i some fits =
          elim (w.only i some) [
            | inl old ↦ let was = s.closed i old fits in let e = w.kept (f i) was in omega (arith, e, was)
            | inr on ↦ elim (cases_lt (suc on.0) w.steps) [
              | inl lt ↦ let e : get_or visits' (f i) 0 ≡ suc (suc on.0 + count) = ap (λ j. get_or visits' (f j) 0) (sym on.2) ∙ w.trail (suc on.0) lt in omega (arith, e)
              | inr ge ↦ let k : suc on.0 ≡ w.steps = (let l = on.1 in omega (arith, l)) in
                  let is : f i ≡ stop = ap f (sym on.2) ∙ ap (λ j. times f j start) k ∙ w.ends in
                  let there : stop < len = subst (λ j. j < len) is fits in
                  subst (λ j. 0 < get_or visits' j 0) (sym is) (stopped there)
            ]
          ]

      pub start-visited : 0 < get_or visits' start 0
      start-visited =
          elim (cases_lt 0 w.steps) [
            | inl lt ↦ let e = w.trail 0 lt in omega (arith, e)
            | inr ge ↦ let none : w.steps ≡ 0 = omega arith in
                let is : start ≡ stop = ap (λ j. times f j start) (sym none) ∙ w.ends in
                subst (λ j. 0 < get_or visits' j 0) (sym is) (stopped (subst (λ j. j < len) is low))
          ]

      pub still-visited : (i : ℕ) → 0 < get_or visits i 0 → 0 < get_or visits' i 0
      still-visited i old = let e = w.kept i old in omega (arith, e)

      -- where a place of the walk goes on to where the walk stops
      to-stop : (k i : ℕ) → k < w.steps → times f k start ≡ i → times f (w.steps - k) i ≡ stop
      to-stop k i lt on =
          ap (times f (w.steps - k)) (sym on) ∙ sym (times-add f (w.steps - k) k start)
          ∙ ap (λ j. times f j start) (let z : w.steps - k + k ≡ w.steps = omega arith in z) ∙ w.ends

      -- a walk that stops at a place of an earlier one, or at the end, finds no cycle
      finds-none : OldOrEnd stop → (i : ℕ) → 0 < get_or visits' i 0 → Least f len text i → 0 < get_or visits i 0
      finds-none old i some l =
          elim (w.only i some) [
            | inl was ↦ was
            | inr on ↦
                let back = way-back f l.others i (w.steps - on.0) stop l.returns (to-stop on.0 i on.1 on.2) in
                let at : OldOrEnd i = subst OldOrEnd back (all-behind f OldOrEnd stays-old ((w.steps - on.0) * l.others) stop old) in
                elim at [ inl ends ↦ (let lw = l.within in absurd (omega (arith, ends, lw))) | inr was ↦ was ]
          ]

      pub settled-same : OldOrEnd stop → Settled f len text visits' marks reached
      settled-same old = record {
        sized = w.sized;
        room = w.room;
        bounded = new-bounded;
        closed = new-closed;
        one_for_each = s.one_for_each;
        sound = s.sound;
        complete = λ i some l. s.complete i (finds-none old i some l) l;
      }

      -- a place with a number of an earlier walk was visited before this one
      pub older : stop < len → get_or visits' stop 0 ≤ count → OldOrEnd stop
      older fits few =
          elim (w.only stop (stopped fits)) [
            | inl was ↦ inr was
            | inr on ↦ let e : get_or visits' stop 0 ≡ suc (on.0 + count) = ap (λ j. get_or visits' j 0) (sym on.2) ∙ w.trail on.0 on.1 in absurd (omega (arith, e, few))
          ]

      pub at-end : len ≤ stop → OldOrEnd stop
      at-end ge = inl (let l : stop ≤ len = subst (λ j. j ≤ len) w.ends (times-low w.steps start (let z : start ≤ len = omega arith in z)) in omega (arith, ge, l))

      -- a walk that stops at a place of its own has found a cycle
      module _ (fits : stop < len) (new : count < get_or visits' stop 0) where
        pub cycle-round : times f (suc (reached - get_or visits' stop 0)) stop ≡ stop
        cycle-round =
            elim (w.only stop (stopped fits)) [
              | inl was ↦ let e = w.kept stop was in let b = s.bounded stop in absurd (omega (arith, e, b, new))
              | inr on ↦
                  let e : get_or visits' stop 0 ≡ suc (on.0 + count) = ap (λ j. get_or visits' j 0) (sym on.2) ∙ w.trail on.0 on.1 in
                  let l = on.1 in
                  let n : suc (reached - get_or visits' stop 0) ≡ w.steps - on.0 = omega (arith, e, l, w.counted) in
                  ap (λ j. times f j stop) n ∙ to-stop on.0 stop on.1 on.2
            ]

        pub cycle-within : (k : ℕ) → times f k stop < len
        cycle-within k =
            elim (cases_lt (times f k stop) len) [
              | inl lt ↦ lt
              | inr ge ↦ let l = times-low k stop (let z : stop ≤ len = omega (arith, fits) in z) in
                  absurd (never-ends (reached - get_or visits' stop 0) stop k cycle-round fits (omega (arith, l, ge)))
            ]

        module _ (best m : ℕ) (among : times f m stop ≡ best) (lowest : (k : ℕ) → k ≤ reached - get_or visits' stop 0 → is_before (text (times f k stop)) (text best) ≡ false) where
          pub best-within : best < len
          best-within = subst (λ j. j < len) among (cycle-within m)

          lowest-all : (n : ℕ) → is_before (text (times f n stop)) (text best) ≡ false
          lowest-all n =
              let r = within-round f (reached - get_or visits' stop 0) stop cycle-round n in
              subst (λ j. is_before (text j) (text best) ≡ false) r.2 (lowest r.0 r.1)

          -- each place behind whose text the least does not come before is a least one too
          alike-is-least : (i k : ℕ) → times f k stop ≡ i → is_before (text best) (text i) ≡ false → Least f len text i
          alike-is-least i k on alike = record {
            within = subst (λ j. j < len) on (cycle-within k);
            others = reached - get_or visits' stop 0;
            returns = also-returns f (suc (reached - get_or visits' stop 0)) stop k i cycle-round on;
            least = λ n h. not-before-chain (text i) (text best) (text (times f n i)) alike
                (subst (λ j. is_before (text j) (text best) ≡ false) (times-add f n k stop ∙ ap (times f n) on) (lowest-all (n + k)));
          }

          -- a least place on the walk is met on the way round the cycle
          met-round : (i k : ℕ) → k < w.steps → times f k start ≡ i → Least f len text i → (r : ℕ) × (r ≤ reached - get_or visits' stop 0) × (times f r stop ≡ i)
          met-round i k lt on l =
              let back = way-back f l.others i (w.steps - k) stop l.returns (to-stop k i lt on) in
              let r = within-round f (reached - get_or visits' stop 0) stop cycle-round ((w.steps - k) * l.others) in
              (r.0, r.1, r.2 ∙ back)

          not-after-best : (i k : ℕ) → k < w.steps → times f k start ≡ i → Least f len text i → is_before (text best) (text i) ≡ false
          not-after-best i k lt on l =
              let way : times f (m + (w.steps - k)) i ≡ best = times-add f m (w.steps - k) i ∙ ap (times f m) (to-stop k i lt on) ∙ among in
              subst (λ j. is_before (text j) (text i) ≡ false) way (l.least (m + (w.steps - k)) (subst (λ j. j < len) (sym way) best-within))

          pub settled-more : (marks' : List Bool) → Passed f text (text best) marks stop (suc (reached - get_or visits' stop 0)) marks' → Settled f len text visits' marks' reached
          settled-more marks' p = record {
            sized = w.sized;
            room = w.room;
            bounded = new-bounded;
            closed = new-closed;
            one_for_each = p.sized ∙ s.one_for_each;
            sound = λ i is. elim (p.only i is) [
              | inl was ↦ s.sound i was
              | inr on ↦ alike-is-least i on.0 on.1 on.2
            ];
            complete = λ i some l. elim (w.only i some) [
              | inl old ↦ p.kept i (s.complete i old l)
              | inr on ↦
                  let r = met-round i on.0 on.1 on.2 l in
                  let low = r.1 in
                  subst (λ j. get_or marks' j false ≡ true) r.2
                  (p.marked r.0 (omega (arith, low)) (subst (λ j. is_before (text best) (text j) ≡ false) (sym r.2) (not-after-best i on.0 on.1 on.2 l)))
            ];
          }
