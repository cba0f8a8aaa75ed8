-- The known units are different ones, and with a further one that may be demanded they are so many different demanded units.
use Rattle.std.proofs.Common.{◌≡◌, suc, ◌≤◌, ◌<◌, Bool, true, false, List, [], ◌∷◌, ◌++◌, length, map, ◌⊎◌, Option, Some, None, refl, sym, ap, ◌∙◌, subst, inl, inr, arith}
use Rattle.std.specs.Prelude.{if◌then◌else◌, IsSome, is_some}
use Rattle.std.specs.List.{Contains, IsDistinct, AllByRecursion}
use Rattle.std.proofs.lemmas.List.Elements.{Contains-push_cases, Contains-append_cases}
use Rattle.question_runs.specs.Rounds.{Language, Demanded}
use Rattle.question_runs.specs.Kept.{KeptUnit}
use Rattle.sched_core.specs.declared.event.TheConstants.{MOST_UNITS}
use Rattle.sched_core.specs.declared.event.Event.{Event}
use Rattle.sched_core.specs.declared.event.Stand.{Stand}
use Rattle.sched_core.specs.declared.event.Event.TheVariants as event
use Rattle.sched_core.specs.declared.event.Stand.TheVariants as at
use Rattle.sched_core.specs.Machine.{Schedule, change, IsSameness, stand, IsKnown, Enabled, moved, after, replay, IsLog}
use Rattle.sched_laws.specs.Honest.{Wanted}
use Rattle.sched_laws.specs.Laws.{IsUpdate, AtMostDemanded, IsOneMore}
use Rattle.sched_laws.proofs.Moments.{Moment, moment-of, wanted-demanded}

pub nothing-in : {X : Type 0} (x : X) → Contains [] x → ⊥
nothing-in x (k, below, is) = omega arith

-- the first of a list, or one of the rest
pub Contains-cases : {X : Type 0} (x : X) (xs : List X) (y : X) → Contains (x ∷ xs) y → (x ≡ y) ⊎ Contains xs y
Contains-cases x xs y among = elim (Contains-append_cases (x ∷ []) xs y among) [
  | inl first ↦ elim (Contains-push_cases [] x y first) [ inl none ↦ absurd (nothing-in y none) | inr is ↦ inl is ]
  | inr later ↦ inr later
]

pub same-apart : {U : Type 0} (same : U → U → Bool) → IsSameness same → (u v : U) (b : Bool) → same u v ≡ b → same v u ≡ false → b ≡ false
same-apart same laws u v true is apart = let one : u ≡ v = laws.sound u v is in let so : same v u ≡ true = ap (same v) one ∙ laws.self v in cc
same-apart same laws u v false is apart = refl

module _ {U R : Type 0} (same : U → U → Bool) (laws : IsSameness same) where
  none-if : (b : Bool) (x : Stand U R) (y : Option (Stand U R)) → (if b then Some x else y) ≡ None → (b ≡ false) × (y ≡ None)
  none-if true x y e = absurd (cc)
  none-if false x y e = (refl, e)

  -- a unit that is not known is none of them
  pub apart : (s : Schedule U R) (u : U) → stand same s u ≡ None → AllByRecursion (λ v. same u v ≡ false) (map (λ p. p.0) s)
  apart [] u none = tt
  apart (p ∷ s) u none = let both : (same p.0 u ≡ false) × (stand same s u ≡ None) = none-if (same p.0 u) p.1 (stand same s u) none in (same-apart same laws u p.0 (same u p.0) refl both.0, apart s u both.1)

  distinct-push : (s : Schedule U R) (u : U) (x : Stand U R) → stand same s u ≡ None → IsDistinct same (map (λ p. p.0) s) → IsDistinct same (map (λ p. p.0) (s ++ (u, x) ∷ []))
  unfolding IsDistinct
  distinct-push [] u x none distinct = (tt, tt)
  distinct-push (p ∷ s) u x none distinct = let both : (same p.0 u ≡ false) × (stand same s u ≡ None) = none-if (same p.0 u) p.1 (stand same s u) none in (apart-push s p.0 u x both.0 distinct.0, distinct-push s u x both.1 distinct.1)
    where
      apart-push : (t : Schedule U R) (v w : U) (y : Stand U R) → same v w ≡ false → AllByRecursion (λ z. same v z ≡ false) (map (λ q. q.0) t) → AllByRecursion (λ z. same v z ≡ false) (map (λ q. q.0) (t ++ (w, y) ∷ []))
      apart-push [] v w y e all = (e, tt)
      apart-push (q ∷ t) v w y e all = (all.0, apart-push t v w y e all.1)

  units-change : (f : U → Stand U R → Stand U R) (s : Schedule U R) → map (λ p. p.0) (change f s) ≡ map (λ p. p.0) s
  units-change f [] = refl
  units-change f (p ∷ s) = ap (λ us. p.0 ∷ us) (units-change f s)

  distinct-after : (s : Schedule U R) (e : Event U R) → Enabled same s e → IsDistinct same (map (λ p. p.0) s) → IsDistinct same (map (λ p. p.0) (after same s e))
  distinct-after s (event.Demand u) enabled distinct = distinct-push s u at.Queued enabled.0 distinct
  distinct-after s (event.Claim w u purpose) enabled distinct = subst (IsDistinct same) (sym (units-change (moved same s (event.Claim w u purpose)) s)) distinct
  distinct-after s (event.Need w u on) enabled distinct = subst (IsDistinct same) (sym (units-change (moved same s (event.Need w u on)) s)) distinct
  distinct-after s (event.Finish w u r) enabled distinct = subst (IsDistinct same) (sym (units-change (moved same s (event.Finish w u r)) s)) distinct
  distinct-after s (event.Reclaim w) enabled distinct = subst (IsDistinct same) (sym (units-change (moved same s (event.Reclaim w)) s)) distinct

  pub distinct-log : (log : List (Event U R)) → IsLog same log → IsDistinct same (map (λ p. p.0) (replay same log))
  unfolding IsDistinct
  distinct-log [] possible = tt
  distinct-log (e ∷ past) possible = distinct-after (replay same past) e possible.0 (distinct-log past possible.1)

  -- each of them is known
  known-here : (b : Bool) (x : Stand U R) (y : Option (Stand U R)) → b ≡ true → IsSome (if b then Some x else y)
  known-here b x y is = ap (λ c. is_some (if c then Some x else y)) is

  known-later : (b : Bool) (x : Stand U R) (y : Option (Stand U R)) → IsSome y → IsSome (if b then Some x else y)
  known-later true x y is = refl
  known-later false x y is = is

  pub units-known : (s : Schedule U R) (u : U) → Contains (map (λ p. p.0) s) u → IsKnown same s u
  units-known [] u (k, below, is) = absurd (omega arith)
  units-known (p ∷ s) u among = elim (Contains-cases p.0 (map (λ q. q.0) s) u among) [
    | inl is ↦ known-here (same p.0 u) p.1 (stand same s u) (ap (same p.0) (sym is) ∙ laws.self p.0)
    | inr later ↦ known-later (same p.0 u) p.1 (stand same s u) (units-known s u later)
  ]

pub one-more : {Q A U R : Type 0} (l : Language Q A U R) (files : Q → A) (roots : List U) (kept : List (KeptUnit Q A U R)) (log : List (Event U R)) → IsUpdate l files roots kept log → (u : U) → Wanted l files kept roots (replay l.same_unit log) u → stand l.same_unit (replay l.same_unit log) u ≡ None → IsOneMore l files roots (replay l.same_unit log) u
unfolding IsDistinct
one-more l files roots kept log update u wanted none =
    let m : Moment l files roots (replay l.same_unit log) = moment-of l files roots kept update.lawful update.is_kept log update.possible update.honest in
    record {
      distinct = (apart l.same_unit update.lawful.units (replay l.same_unit log) u none, distinct-log l.same_unit update.lawful.units log update.possible);
      demanded = λ v among. elim (Contains-cases u (map (λ p. p.0) (replay l.same_unit log)) v among) [
        | inl is ↦ subst (Demanded l files roots) is (wanted-demanded l files roots kept update.lawful update.is_kept (replay l.same_unit log) m u wanted)
        | inr later ↦ m.demanded v (units-known l.same_unit update.lawful.units (replay l.same_unit log) v later)
      ];
    }

pub length-map : {X Y : Type 0} (f : X → Y) (xs : List X) → length (map f xs) ≡ length xs
length-map f [] = refl
length-map f (x ∷ xs) = ap suc (length-map f xs)

pub room-left : {Q A U R : Type 0} (l : Language Q A U R) (files : Q → A) (roots : List U) (kept : List (KeptUnit Q A U R)) (log : List (Event U R)) → IsUpdate l files roots kept log → AtMostDemanded l files roots MOST_UNITS → (u : U) → Wanted l files kept roots (replay l.same_unit log) u → stand l.same_unit (replay l.same_unit log) u ≡ None → length (replay l.same_unit log) < MOST_UNITS
room-left l files roots kept log update few u wanted none =
    let more : IsOneMore l files roots (replay l.same_unit log) u = one-more l files roots kept log update u wanted none in
    let room : suc (length (map (λ p. p.0) (replay l.same_unit log))) ≤ MOST_UNITS = few (u ∷ map (λ p. p.0) (replay l.same_unit log)) more.distinct more.demanded in
    subst (λ n. n < MOST_UNITS) (length-map (λ p. p.0) (replay l.same_unit log)) room
