-- Where the pointers of stuck units lead.
use Rattle.std.proofs.Common.{◌≡◌, ℕ, zero, suc, ◌+◌, ◌≤◌, ◌<◌, Bool, true, false, ◌||◌, List, [], ◌∷◌, length, map, ◌⊎◌, Option, Some, None, refl, sym, ap, ◌∙◌, subst, inl, inr, arith}
use Rattle.std.specs.Prelude.{if◌then◌else◌, IsSome}
use Rattle.std.specs.List.{IsDistinct, AllByRecursion, list_any}
use Rattle.std.specs.Cmp.{IsEquivalence}
use Rattle.std.proofs.lemmas.Bool.{cases_lt}
use Rattle.std.proofs.lemmas.Map.Made.{length-le_from_is_member}
use Rattle.question_runs.specs.Rounds.{Language, Stuck}
use Rattle.question_runs.specs.Kept.{KeptUnit}
use Rattle.sched_core.specs.declared.event.Event.{Event}
use Rattle.sched_core.specs.declared.event.Stand.{Stand}
use Rattle.sched_core.specs.declared.event.Stand.TheVariants as at
use Rattle.sched_core.specs.Machine.{Schedule, IsSameness, stand, IsKnown, done_in, replay}
use Rattle.sched_laws.specs.Honest.{run_in}
use Rattle.sched_laws.specs.Laws.{IsUpdate, IsAtRest}
use Rattle.sched_laws.specs.Cycles.{Leads, IsOnCycle, IsShown, IsAntisymmetric, IsOrder}
use Rattle.sched_laws.proofs.EventFacts.{IsSome-value, IsSome-of, stand-done}
use Rattle.sched_laws.proofs.Moments.{Moment, needs-meets, moment-of}
use Rattle.sched_laws.proofs.Resting.{one-need, complete, settled, waiting-stuck}
use Rattle.sched_laws.proofs.Bounds.{length-map}

module _ {Q A U R : Type 0} (l : Language Q A U R) (files : Q → A) (roots : List U) where
  -- one pointer more at the end
  pub leads-snoc : (n : ℕ) (u v w : U) → Leads l files roots n u v → Stuck l files roots v w → Leads l files roots (suc n) u w
  leads-snoc zero u v w is stuck = (w, (subst (λ x. Stuck l files roots x w) (sym is) stuck, refl))
  leads-snoc (suc n) u v w (x, (first, rest)) stuck = (x, (first, leads-snoc n x v w rest stuck))

  pub leads-trans : (n m : ℕ) (u v w : U) → Leads l files roots n u v → Leads l files roots m v w → (k : ℕ) × Leads l files roots k u w
  leads-trans zero m u v w is later = (m, subst (λ x. Leads l files roots m x w) (sym is) later)
  leads-trans (suc n) m u v w (x, (first, rest)) later = let more : (k : ℕ) × Leads l files roots k x w = leads-trans n m x v w rest later in (suc more.0, (x, (first, more.1)))

  -- what a unit of a cycle leads to leads back to it
  pub leads-back : (n : ℕ) (u v : U) → IsOnCycle l files roots u → Leads l files roots n u v → (k : ℕ) × Leads l files roots k v u
  leads-back zero u v cycle is = (0, sym is)
  leads-back (suc n) u v (c, (x, (first, round))) (w, (stuck, rest)) =
      let one : x ≡ w = one-need l files roots u x w first stuck in
      let home : Leads l files roots c w u = subst (λ z. Leads l files roots c z u) one round in
      let cycle : IsOnCycle l files roots w = (c, leads-snoc c w u w home stuck) in
      let back : (k : ℕ) × Leads l files roots k v w = leads-back n w v cycle rest in
      leads-trans back.0 c v w u back.1 home

  pub shown-once : (before : U → U → Bool) → IsAntisymmetric before → (u v : U) (n : ℕ) → IsShown l files roots before u → IsShown l files roots before v → Leads l files roots n u v → u ≡ v
  shown-once before anti u v n a b leads = let back : (k : ℕ) × Leads l files roots k v u = leads-back n u v a.on_cycle leads in anti u v (b.first back.0 u back.1) (a.first n v leads)

-- a list without such a member, or with one
member-or-apart : {U : Type 0} (same : U → U → Bool) (u : U) (P : U → Type 0) (us : List U) → AllByRecursion P us → ((x : U) × ((same u x ≡ true) × P x)) ⊎ AllByRecursion (λ x. same u x ≡ false) us
member-or-apart same u P [] all = inr tt
member-or-apart {U} same u P (x ∷ us) all = go (same u x) refl (member-or-apart same u P us all.1)
  where
    go : (b : Bool) → same u x ≡ b → ((y : U) × ((same u y ≡ true) × P y)) ⊎ AllByRecursion (λ y. same u y ≡ false) us → ((y : U) × ((same u y ≡ true) × P y)) ⊎ AllByRecursion (λ y. same u y ≡ false) (x ∷ us)
    go true is rest = inl (x, (is, all.0))
    go false is rest = elim rest [ inl found ↦ inl found | inr apart ↦ inr (is, apart) ]

all-map : {U : Type 0} (P P' : U → Type 0) (us : List U) → ((x : U) → P x → P' x) → AllByRecursion P us → AllByRecursion P' us
all-map P P' [] step all = tt
all-map P P' (x ∷ us) step all = (step x all.0, all-map P P' us step all.1)

or-cases : (a b : Bool) → (a || b) ≡ true → (a ≡ true) ⊎ (b ≡ true)
or-cases true b e = inl refl
or-cases false b e = inr e

module _ {U : Type 0} (same : U → U → Bool) (laws : IsSameness same) where
  turned : (u v : U) (b c : Bool) → same u v ≡ b → same v u ≡ c → b ≡ c
  turned u v true c is is' = let one : u ≡ v = laws.sound u v is in sym (sym is' ∙ ap (same v) one ∙ laws.self v)
  turned u v false true is is' = let one : v ≡ u = laws.sound v u is' in let so : same u v ≡ true = ap (same u) one ∙ laws.self u in absurd (cc)
  turned u v false false is is' = refl

  congruent : (x y z : U) → same x y ≡ true → same x z ≡ same y z
  congruent x y z is = ap (λ w. same w z) (laws.sound x y is)

  sameness-equivalence : IsEquivalence same
  sameness-equivalence = record { refl = laws.self; symm = λ x y. turned x y (same x y) (same y x) refl refl; congr = congruent }

module _ {U R : Type 0} (same : U → U → Bool) (laws : IsSameness same) where
  -- a known unit is one of the units of the schedule
  any-known : (b c : Bool) (x : Stand U R) (y : Option (Stand U R)) (rest : Bool) → b ≡ c → IsSome (if b then Some x else y) → (IsSome y → rest ≡ true) → (c || rest) ≡ true
  any-known b true x y rest is known step = refl
  any-known true false x y rest is known step = cc
  any-known false false x y rest is known step = step known

  known-member : (s : Schedule U R) (u : U) → IsKnown same s u → list_any (same u) (map (λ p. p.0) s) ≡ true
  known-member [] u known = cc
  known-member (p ∷ s) u known = any-known (same p.0 u) (same u p.0) p.1 (stand same s u) (list_any (same u) (map (λ q. q.0) s)) (turned same laws p.0 u (same p.0 u) (same u p.0) refl refl) known (known-member s u)

  all-known : (s : Schedule U R) (us : List U) → AllByRecursion (λ x. IsKnown same s x) us → (q : U) → list_any (same q) us ≡ true → list_any (same q) (map (λ p. p.0) s) ≡ true
  all-known s [] all q member = cc
  all-known s (x ∷ us) all q member = elim (or-cases (same q x) (list_any (same q) us) member) [
    | inl is ↦ subst (λ z. list_any (same z) (map (λ p. p.0) s) ≡ true) (sym (laws.sound q x is)) (known-member s x all.0)
    | inr later ↦ all-known s us all.1 q later
  ]

  -- no more different units than there are are known
  pub few-known : (s : Schedule U R) (us : List U) → IsDistinct same us → AllByRecursion (λ x. IsKnown same s x) us → length us ≤ length s
  few-known s us distinct all = let few : length us ≤ length (map (λ p. p.0) s) = length-le_from_is_member (sameness-equivalence same laws) us (map (λ p. p.0) s) distinct (all-known s us all) in subst (λ n. length us ≤ n) (length-map (λ p. p.0) s) few

module _ {Q A U R : Type 0} (l : Language Q A U R) (files : Q → A) (roots : List U) (s : Schedule U R) (m : Moment l files roots s) (rest : IsAtRest l files roots s) (laws : IsSameness l.same_unit) where
  -- the pointer of a stuck unit points to a stuck unit
  pointer-points : (u v : U) → Stuck l files roots u v → (w : U) × Stuck l files roots v w
  pointer-points u v stuck =
      let waits : stand l.same_unit s u ≡ Some (at.Waiting v) = ((complete l files roots s m rest).waiting u v).1 stuck in
      let v_known : IsKnown l.same_unit s v = (m.waiting u v waits).all v (needs-meets l files (run_in l files s u) v (m.waiting u v waits).need) in
      let has : (y : Stand U R) × (stand l.same_unit s v ≡ Some y) = IsSome-value (stand l.same_unit s v) v_known in
      elim (settled l files roots s m rest v has.0 has.1) [
        | inl (r, is) ↦ let done : done_in l.same_unit s v ≡ Some r = stand-done l.same_unit s v r is in let none : done_in l.same_unit s v ≡ None = (m.waiting u v waits).none in absurd (cc)
        | inr (w, is) ↦ (w, waiting-stuck l files roots s m rest v w is)
      ]

  -- from a stuck unit along the pointers, past those that were met, until one is met again
  follow : (fuel : ℕ) (us : List U) (u v : U) → length s < fuel + length us → IsDistinct l.same_unit us → AllByRecursion (λ x. IsKnown l.same_unit s x) us → AllByRecursion (λ x. (n : ℕ) × Leads l files roots (suc n) x u) us → Stuck l files roots u v → (w : U) × ((n : ℕ) × (Leads l files roots n u w × IsOnCycle l files roots w))
  unfolding IsDistinct
  follow zero us u v enough distinct known leads stuck = let few : length us ≤ length s = few-known l.same_unit laws s us distinct known in absurd (omega arith)
  follow (suc fuel) us u v enough distinct known leads stuck = elim (member-or-apart l.same_unit u (λ x. (n : ℕ) × Leads l files roots (suc n) x u) us leads) [
    | inl (x, (is, (n, back))) ↦ (u, (0, (refl, (n, subst (λ z. Leads l files roots (suc n) z u) (sym (laws.sound u x is)) back))))
    | inr apart ↦
        let next : (w : U) × Stuck l files roots v w = pointer-points u v stuck in
        let later : (w : U) × ((n : ℕ) × (Leads l files roots n v w × IsOnCycle l files roots w)) =
        follow fuel (u ∷ us) v next.0 (let more : length (u ∷ us) ≡ suc (length us) = refl in omega arith) (apart, distinct)
        (IsSome-of (stand l.same_unit s u) (at.Waiting v) (((complete l files roots s m rest).waiting u v).1 stuck), known)
        ((0, (v, (stuck, refl))), all-map (λ x. (n : ℕ) × Leads l files roots (suc n) x u) (λ x. (n : ℕ) × Leads l files roots (suc n) x v) us (λ x has. (suc has.0, leads-snoc l files roots (suc has.0) x u v has.1 stuck)) leads)
        next.1 in
        (later.0, (suc later.1.0, ((v, (stuck, later.1.1.0)), later.1.1.1)))
  ]

pub stuck-lead : {Q A U R : Type 0} (l : Language Q A U R) (files : Q → A) (roots : List U) (kept : List (KeptUnit Q A U R)) (log : List (Event U R)) → IsUpdate l files roots kept log → IsAtRest l files roots (replay l.same_unit log) → (u v : U) → Stuck l files roots u v → (w : U) × ((n : ℕ) × (Leads l files roots n u w × IsOnCycle l files roots w))
unfolding IsDistinct
stuck-lead l files roots kept log update rest u v stuck = follow l files roots (replay l.same_unit log) (moment-of l files roots kept update.lawful update.is_kept log update.possible update.honest) rest update.lawful.units (suc (length (replay l.same_unit log))) [] u v (omega arith) tt tt tt stuck

module _ {Q A U R : Type 0} (l : Language Q A U R) (files : Q → A) (roots : List U) (before : U → U → Bool) (order : IsOrder before) where
  -- the first of what so many pointers lead to
  first-of : (n : ℕ) (u v : U) → Leads l files roots n u v → (w : U) × (((k : ℕ) × Leads l files roots k u w) × ((k : ℕ) (x : U) → k ≤ n → Leads l files roots k u x → before x w ≡ false))
  first-of zero u v is = (u, ((0, refl), λ k x below leads. first-here k x below leads))
    where
      first-here : (k : ℕ) (x : U) → k ≤ 0 → Leads l files roots k u x → before x u ≡ false
      first-here zero x below leads = subst (λ z. before z u ≡ false) leads (order.not_self u)
      first-here (suc k) x below leads = absurd (omega arith)
  first-of (suc n) u v (y, (stuck, rest)) = choose (first-of n y v rest) (before u (first-of n y v rest).0) refl
    where
      choose : (f : (w : U) × (((k : ℕ) × Leads l files roots k y w) × ((k : ℕ) (x : U) → k ≤ n → Leads l files roots k y x → before x w ≡ false))) (b : Bool) → before u f.0 ≡ b → (w : U) × (((k : ℕ) × Leads l files roots k u w) × ((k : ℕ) (x : U) → k ≤ suc n → Leads l files roots k u x → before x w ≡ false))
      choose f false is = (f.0, ((suc f.1.0.0, (y, (stuck, f.1.0.1))), later))
        where
          later : (k : ℕ) (x : U) → k ≤ suc n → Leads l files roots k u x → before x f.0 ≡ false
          later zero x below leads = subst (λ z. before z f.0 ≡ false) leads is
          later (suc k) x below (y', (stuck', leads)) = f.1.1 k x (omega arith) (subst (λ z. Leads l files roots k z x) (one-need l files roots u y' y stuck' stuck) leads)
      choose f true is = (u, ((0, refl), later))
        where
          later : (k : ℕ) (x : U) → k ≤ suc n → Leads l files roots k u x → before x u ≡ false
          later zero x below leads = subst (λ z. before z u ≡ false) leads (order.not_self u)
          later (suc k) x below (y', (stuck', leads)) = order.after_all u f.0 x is (f.1.1 k x (omega arith) (subst (λ z. Leads l files roots k z x) (one-need l files roots u y' y stuck' stuck) leads))

  -- what a unit of a cycle leads to, it leads to in one round
  in-one-round : (c : ℕ) (u : U) → Leads l files roots (suc c) u u → (n : ℕ) (v : U) → Leads l files roots n u v → (k : ℕ) × ((k ≤ c) × Leads l files roots k u v)
  in-one-round c u round zero v is = (0, (omega arith, is))
  in-one-round c u round (suc n) v leads =
      let last : (x : U) × (Leads l files roots n u x × Stuck l files roots x v) = leads-last n u v leads in
      let earlier : (k : ℕ) × ((k ≤ c) × Leads l files roots k u last.0) = in-one-round c u round n last.0 last.1.0 in
      elim (cases_lt earlier.0 c) [
        | inl less ↦ (suc earlier.0, (omega arith, leads-snoc l files roots earlier.0 u last.0 v earlier.1.1 last.1.1))
        | inr reached ↦
            let all : earlier.0 ≡ c = let low : earlier.0 ≤ c = earlier.1.0 in omega arith in
            let there : Leads l files roots c u last.0 = subst (λ k. Leads l files roots k u last.0) all earlier.1.1 in
            let home : (x : U) × (Leads l files roots c u x × Stuck l files roots x u) = leads-last c u u round in
            let one : home.0 ≡ last.0 = leads-one c u home.0 last.0 home.1.0 there in
            let same : u ≡ v = one-need l files roots last.0 u v (subst (λ z. Stuck l files roots z u) one home.1.1) last.1.1 in
            (0, (omega arith, same))
      ]
    where
      leads-last : (k : ℕ) (a b : U) → Leads l files roots (suc k) a b → (x : U) × (Leads l files roots k a x × Stuck l files roots x b)
      leads-last zero a b (w, (stuck, is)) = (a, (refl, subst (λ z. Stuck l files roots a z) is stuck))
      leads-last (suc k) a b (w, (stuck, more)) = let deeper : (x : U) × (Leads l files roots k w x × Stuck l files roots x b) = leads-last k w b more in (deeper.0, ((w, (stuck, deeper.1.0)), deeper.1.1))

      leads-one : (k : ℕ) (a x y : U) → Leads l files roots k a x → Leads l files roots k a y → x ≡ y
      leads-one zero a x y is is' = sym is ∙ is'
      leads-one (suc k) a x y (w, (stuck, more)) (w', (stuck', more')) = leads-one k w x y more (subst (λ z. Leads l files roots k z y) (one-need l files roots a w' w stuck' stuck) more')

  pub cycle-shown : (u : U) → IsOnCycle l files roots u → (w : U) × (((n : ℕ) × Leads l files roots n u w) × IsShown l files roots before w)
  cycle-shown u (c, round) =
      let f : (w : U) × (((k : ℕ) × Leads l files roots k u w) × ((k : ℕ) (x : U) → k ≤ suc c → Leads l files roots k u x → before x w ≡ false)) = first-of (suc c) u u round in
      let back : (k : ℕ) × Leads l files roots k f.0 u = leads-back l files roots f.1.0.0 u f.0 (c, round) f.1.0.1 in (
        f.0,
        (
          f.1.0,
          record {
            on_cycle = shown-on-cycle f.1.0.0 f.0 f.1.0.1 back;
            first = λ n v leads.
                let whole : (k : ℕ) × Leads l files roots k u v = leads-trans l files roots f.1.0.0 n u f.0 v f.1.0.1 leads in
                let short : (k : ℕ) × ((k ≤ c) × Leads l files roots k u v) = in-one-round c u round whole.0 v whole.1 in
                f.1.1 short.0 v (let low : short.0 ≤ c = short.1.0 in omega arith) short.1.1;
          },
        ),
      )
    where
      -- it is on the cycle, since it leads back to the unit that leads to it
      shown-on-cycle : (n : ℕ) (w : U) → Leads l files roots n u w → (k : ℕ) × Leads l files roots k w u → IsOnCycle l files roots w
      shown-on-cycle n w there (zero, is) = subst (IsOnCycle l files roots) (sym is) (c, round)
      shown-on-cycle n w there (suc k, (x, (stuck, rest))) = let whole : (j : ℕ) × Leads l files roots j x w = leads-trans l files roots k n x u w rest there in (whole.0, (x, (stuck, whole.1)))
