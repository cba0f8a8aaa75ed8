-- What one event changes: five facts, each of which tells which event it was.
use Rattle.std.proofs.Common.{◌≡◌, ◌≢◌, ℕ, Bool, true, false, ◌⊎◌, Option, Some, None, refl, sym, ap, ◌∙◌, inl, inr}
use Rattle.std.specs.Prelude.{if◌then◌else◌, is_some, IsSome}
use Rattle.std.specs.Option.{option_map, option_and_then}
use Rattle.sched_core.specs.declared.event.Event.{Event}
use Rattle.sched_core.specs.declared.event.Stand.{Stand}
use Rattle.sched_core.specs.declared.event.Event.TheVariants as event
use Rattle.sched_core.specs.declared.event.Stand.TheVariants as at
use Rattle.sched_core.specs.Machine.{Schedule, result_at, is_claimed_by, is_waiting_for, IsSameness, stand, IsKnown, done_in, Enabled, moved, after}
use Rattle.sched_core.proofs.Schedules.{stand-change, stand-append-known, stand-append-new}

-- a value that is there
pub IsSome-value : {A : Type 0} (x : Option A) → IsSome x → (a : A) × (x ≡ Some a)
IsSome-value None is = absurd (cc)
IsSome-value (Some a) is = (a, refl)

pub IsSome-of : {A : Type 0} (x : Option A) (a : A) → x ≡ Some a → IsSome x
IsSome-of x a e = ap is_some e

-- events other than a demand change each stand by itself
abbrev pub Changes : {U R : Type 0} → Event U R → Type 0
Changes (event.Demand u) = ⊥
Changes _ = Unit {0}

module _ {U R : Type 0} (same : U → U → Bool) (laws : IsSameness same) (s : Schedule U R) where
  stand-after : (e : Event U R) → Changes e → (u : U) → stand same (after same s e) u ≡ option_map (moved same s e u) (stand same s u)
  stand-after (event.Demand v) changes u = absurd changes
  stand-after (event.Claim w v kind) changes u = stand-change same laws (moved same s (event.Claim w v kind)) s u
  stand-after (event.Need w v on) changes u = stand-change same laws (moved same s (event.Need w v on)) s u
  stand-after (event.Finish w v r) changes u = stand-change same laws (moved same s (event.Finish w v r)) s u
  stand-after (event.Reclaim w) changes u = stand-change same laws (moved same s (event.Reclaim w)) s u

  -- a known unit's stand is moved
  pub stand-moved : (e : Event U R) (u : U) (x : Stand U R) → stand same s u ≡ Some x → stand same (after same s e) u ≡ Some (moved same s e u x)
  stand-moved (event.Demand v) u x is = stand-append-known same s v u at.Queued x is
  stand-moved (event.Claim w v kind) u x is = stand-after (event.Claim w v kind) tt u ∙ ap (option_map (moved same s (event.Claim w v kind) u)) is
  stand-moved (event.Need w v on) u x is = stand-after (event.Need w v on) tt u ∙ ap (option_map (moved same s (event.Need w v on) u)) is
  stand-moved (event.Finish w v r) u x is = stand-after (event.Finish w v r) tt u ∙ ap (option_map (moved same s (event.Finish w v r) u)) is
  stand-moved (event.Reclaim w) u x is = stand-after (event.Reclaim w) tt u ∙ ap (option_map (moved same s (event.Reclaim w) u)) is

  -- known units stay known
  pub known-stays : (e : Event U R) (u : U) → IsKnown same s u → IsKnown same (after same s e) u
  known-stays e u known = let has : (x : Stand U R) × (stand same s u ≡ Some x) = IsSome-value (stand same s u) known in IsSome-of (stand same (after same s e) u) (moved same s e u has.0) (stand-moved e u has.0 has.1)

  -- one that is not known stays so, but for the one that a demand names
  unknown-stays : (e : Event U R) (u : U) → Changes e → stand same s u ≡ None → stand same (after same s e) u ≡ None
  unknown-stays e u changes none = stand-after e changes u ∙ ap (option_map (moved same s e u)) none

  demand-new : (v u : U) (b : Bool) → same v u ≡ b → stand same s u ≡ None → (stand same (after same s (event.Demand v)) u ≡ None) ⊎ ((v ≡ u) × (stand same (after same s (event.Demand v)) u ≡ Some at.Queued))
  demand-new v u true is none = inr (laws.sound v u is, stand-append-new same s v u at.Queued none ∙ ap (λ b. if b then Some at.Queued else None) is)
  demand-new v u false is none = inl (stand-append-new same s v u at.Queued none ∙ ap (λ b. if b then Some at.Queued else None) is)

  -- what is behind an event of a unit that was not known
  pub new-unit : (e : Event U R) (u : U) → stand same s u ≡ None → (stand same (after same s e) u ≡ None) ⊎ ((e ≡ event.Demand u) × (stand same (after same s e) u ≡ Some at.Queued))
  new-unit (event.Demand v) u none = elim (demand-new v u (same v u) refl none) [ inl stays ↦ inl stays | inr is ↦ inr (ap (λ x. event.Demand x) is.0, is.1) ]
  new-unit (event.Claim w v kind) u none = inl (unknown-stays (event.Claim w v kind) u tt none)
  new-unit (event.Need w v on) u none = inl (unknown-stays (event.Need w v on) u tt none)
  new-unit (event.Finish w v r) u none = inl (unknown-stays (event.Finish w v r) u tt none)
  new-unit (event.Reclaim w) u none = inl (unknown-stays (event.Reclaim w) u tt none)

  -- a unit that is known newly was demanded
  pub known-new : (e : Event U R) (u : U) (x : Option (Stand U R)) → stand same s u ≡ x → IsKnown same (after same s e) u → IsKnown same s u ⊎ (e ≡ event.Demand u)
  known-new e u (Some x) is known = inl (IsSome-of (stand same s u) x is)
  known-new e u None is known = elim (new-unit e u is) [ inl stays ↦ let none : is_some (stand same (after same s e) u) ≡ false = ap is_some stays in absurd (cc) | inr new ↦ inr new.0 ]

-- a stand with a result is done
pub result-done : {U R : Type 0} (x : Stand U R) (r : R) → result_at x ≡ Some r → x ≡ at.Done r
result-done at.Queued r e = cc
result-done (at.Claimed w) r e = cc
result-done (at.Waiting v) r e = cc
result-done (at.Done x) r e = let is : x ≡ r = cc in ap (λ z. at.Done z) is

pub done-stand : {U R : Type 0} (same : U → U → Bool) (s : Schedule U R) (u : U) (r : R) → done_in same s u ≡ Some r → stand same s u ≡ Some (at.Done r)
done-stand {U} {R} same s u r e = go (stand same s u) refl e
  where
    go : (x : Option (Stand U R)) → stand same s u ≡ x → option_and_then result_at x ≡ Some r → stand same s u ≡ Some (at.Done r)
    go None is e' = absurd (cc)
    go (Some x) is e' = is ∙ ap (λ z. Some z) (result-done x r e')

pub stand-done : {U R : Type 0} (same : U → U → Bool) (s : Schedule U R) (u : U) (r : R) → stand same s u ≡ Some (at.Done r) → done_in same s u ≡ Some r
stand-done same s u r e = ap (option_and_then result_at) e

module _ {U R : Type 0} (same : U → U → Bool) (laws : IsSameness same) (s : Schedule U R) where
  -- two stands of one unit
  stands-one : (u v : U) (x y : Stand U R) → same u v ≡ true → stand same s u ≡ Some x → stand same s v ≡ Some y → x ≡ y
  stands-one u v x y b e f = let is : u ≡ v = laws.sound u v b in let e' : stand same s v ≡ Some x = ap (stand same s) (sym is) ∙ e in cc

  -- what is done stays done
  stays-if : (u v : U) (r : R) (y z : Stand U R) (b : Bool) → same u v ≡ b → stand same s u ≡ Some (at.Done r) → stand same s v ≡ Some y → (y ≡ at.Done r → ⊥) → (if b then z else at.Done r) ≡ at.Done r
  stays-if u v r y z true is e f other = absurd (other (sym (stands-one u v (at.Done r) y is e f)))
  stays-if u v r y z false is e f other = refl

  moved-done : (e : Event U R) → Enabled same s e → (u : U) (r : R) → stand same s u ≡ Some (at.Done r) → moved same s e u (at.Done r) ≡ at.Done r
  moved-done (event.Demand v) enabled u r is = refl
  moved-done (event.Claim w v kind) enabled u r is = stays-if u v r at.Queued (at.Claimed w) (same u v) refl is enabled.0 (λ e. cc)
  moved-done (event.Need w v on) enabled u r is = stays-if u v r (at.Claimed w) (if is_some (done_in same s on) then at.Queued else at.Waiting on) (same u v) refl is enabled.0 (λ e. cc)
  moved-done (event.Finish w v x) enabled u r is = stays-if u v r (at.Claimed w) (at.Done x) (same u v) refl is enabled (λ e. cc)
  moved-done (event.Reclaim w) enabled u r is = refl

  pub done-stays : (e : Event U R) → Enabled same s e → (u : U) (r : R) → done_in same s u ≡ Some r → done_in same (after same s e) u ≡ Some r
  done-stays e enabled u r is = let at_u : stand same s u ≡ Some (at.Done r) = done-stand same s u r is in stand-done same (after same s e) u r (stand-moved same laws s e u (at.Done r) at_u ∙ ap (λ x. Some x) (moved-done e enabled u r at_u))

  -- what is done newly was finished
  claim-done : (w : ℕ) (r : R) (x : Stand U R) (b : Bool) → (if b then at.Claimed w else x) ≡ at.Done r → x ≡ at.Done r
  claim-done w r x true e = cc
  claim-done w r x false e = e

  queued-done : (r : R) (x : Stand U R) (b : Bool) → (if b then at.Queued else x) ≡ at.Done r → x ≡ at.Done r
  queued-done r x true e = cc
  queued-done r x false e = e

  need-done : (on : U) (r : R) (x : Stand U R) (b c : Bool) → (if b then (if c then at.Queued else at.Waiting on) else x) ≡ at.Done r → x ≡ at.Done r
  need-done on r x true true e = cc
  need-done on r x true false e = cc
  need-done on r x false c e = e

  finish-done : (w : ℕ) (u v : U) (r r' : R) (x : Stand U R) (b c : Bool) → same u v ≡ b → (if b then at.Done r' else (if c then at.Queued else x)) ≡ at.Done r → (x ≡ at.Done r) ⊎ (event.Finish w v r' ≡ event.Finish w u r)
  finish-done w u v r r' x true c is e = let one : r' ≡ r = cc in inr (ap (λ z. event.Finish w z r') (sym (laws.sound u v is)) ∙ ap (λ z. event.Finish w u z) one)
  finish-done w u v r r' x false c is e = inl (queued-done r x c e)

  moved-to-done : (e : Event U R) (u : U) (r : R) (x : Stand U R) → moved same s e u x ≡ at.Done r → (x ≡ at.Done r) ⊎ ((w : ℕ) × (e ≡ event.Finish w u r))
  moved-to-done (event.Demand v) u r x e = inl e
  moved-to-done (event.Claim w v kind) u r x e = inl (claim-done w r x (same u v) e)
  moved-to-done (event.Need w v on) u r x e = inl (need-done on r x (same u v) (is_some (done_in same s on)) e)
  moved-to-done (event.Finish w v r') u r x e = elim (finish-done w u v r r' x (same u v) (is_waiting_for same v x) refl e) [ inl old ↦ inl old | inr new ↦ inr (w, new) ]
  moved-to-done (event.Reclaim w) u r x e = inl (queued-done r x (is_claimed_by w x) e)

  pub done-new : (e : Event U R) (u : U) (r : R) (x : Option (Stand U R)) → stand same s u ≡ x → done_in same (after same s e) u ≡ Some r → (done_in same s u ≡ Some r) ⊎ ((w : ℕ) × (e ≡ event.Finish w u r))
  done-new e u r None is e' = elim (new-unit same laws s e u is) [
    | inl stays ↦ let none : done_in same (after same s e) u ≡ None = ap (option_and_then result_at) stays in absurd (cc)
    | inr new ↦ let none : done_in same (after same s e) u ≡ None = ap (option_and_then result_at) new.1 in absurd (cc)
  ]
  done-new e u r (Some x) is e' =
      let moves : stand same (after same s e) u ≡ Some (moved same s e u x) = stand-moved same laws s e u x is in
      let done : stand same (after same s e) u ≡ Some (at.Done r) = done-stand same (after same s e) u r e' in
      let there : moved same s e u x ≡ at.Done r = cc in
      elim (moved-to-done e u r x there) [ inl old ↦ inl (stand-done same s u r (is ∙ ap (λ z. Some z) old)) | inr new ↦ inr new ]

  -- what waits newly needed that unit, which is not done; what waited before still does, since that unit was not finished
  claim-waits : (w : ℕ) (v : U) (x : Stand U R) (b : Bool) → (if b then at.Claimed w else x) ≡ at.Waiting v → x ≡ at.Waiting v
  claim-waits w v x true e = cc
  claim-waits w v x false e = e

  queued-waits : (v : U) (x : Stand U R) (b : Bool) → (if b then at.Queued else x) ≡ at.Waiting v → (b ≡ false) × (x ≡ at.Waiting v)
  queued-waits v x true e = cc
  queued-waits v x false e = (refl, e)

  abbrev need_of : ℕ → U → U → Event U R
  need_of w u on = event.Need w u on

  need-waits : (w : ℕ) (u a on v : U) (x : Stand U R) (o : Option R) (b : Bool) → same u a ≡ b → done_in same s on ≡ o → (if b then (if is_some o then at.Queued else at.Waiting on) else x) ≡ at.Waiting v → (x ≡ at.Waiting v) ⊎ ((need_of w a on ≡ need_of w u v) × (done_in same s v ≡ None))
  need-waits w u a on v x (Some r) true is done e = absurd (cc)
  need-waits w u a on v x None true is done e = let one : on ≡ v = cc in inr (ap (λ z. need_of w z on) (sym (laws.sound u a is)) ∙ ap (λ z. need_of w u z) one, ap (done_in same s) (sym one) ∙ done)
  need-waits w u a on v x o false is done e = inl e

  finish-waits : (u a v : U) (r : R) (x : Stand U R) (b c : Bool) → (if b then at.Done r else (if c then at.Queued else x)) ≡ at.Waiting v → (c ≡ false) × (x ≡ at.Waiting v)
  finish-waits u a v r x true c e = cc
  finish-waits u a v r x false c e = queued-waits v x c e

  moved-to-waiting : (e : Event U R) (u v : U) (x : Stand U R) → moved same s e u x ≡ at.Waiting v → ((x ≡ at.Waiting v) × ((w : ℕ) (r : R) → e ≢ event.Finish w v r)) ⊎ ((w : ℕ) × ((e ≡ event.Need w u v) × (done_in same s v ≡ None)))
  moved-to-waiting (event.Demand a) u v x e = inl (e, λ w r is. cc)
  moved-to-waiting (event.Claim w a kind) u v x e = inl (claim-waits w v x (same u a) e, λ w' r is. cc)
  moved-to-waiting (event.Need w a on) u v x e = elim (need-waits w u a on v x (done_in same s on) (same u a) refl refl e) [ inl old ↦ inl (old, λ w' r is. cc) | inr new ↦ inr (w, new) ]
  moved-to-waiting (event.Finish w a r) u v x e =
      let both : (is_waiting_for same a x ≡ false) × (x ≡ at.Waiting v) = finish-waits u a v r x (same u a) (is_waiting_for same a x) e in
      inl (both.1, λ w' r' is. let one : a ≡ v = cc in let not_so : same v a ≡ false = ap (is_waiting_for same a) (sym both.1) ∙ both.0 in let so : same v a ≡ true = ap (same v) one ∙ laws.self v in cc)
  moved-to-waiting (event.Reclaim w) u v x e = inl ((queued-waits v x (is_claimed_by w x) e).1, λ w' r is. cc)

  pub waiting-new : (e : Event U R) (u v : U) (x : Option (Stand U R)) → stand same s u ≡ x → stand same (after same s e) u ≡ Some (at.Waiting v) → ((stand same s u ≡ Some (at.Waiting v)) × ((w : ℕ) (r : R) → e ≢ event.Finish w v r)) ⊎ ((w : ℕ) × ((e ≡ event.Need w u v) × (done_in same s v ≡ None)))
  waiting-new e u v None is e' = elim (new-unit same laws s e u is) [ inl stays ↦ absurd (cc) | inr new ↦ let queued : stand same (after same s e) u ≡ Some at.Queued = new.1 in absurd (cc) ]
  waiting-new e u v (Some x) is e' =
      let moves : stand same (after same s e) u ≡ Some (moved same s e u x) = stand-moved same laws s e u x is in
      let there : moved same s e u x ≡ at.Waiting v = cc in
      elim (moved-to-waiting e u v x there) [ inl old ↦ inl (is ∙ ap (λ z. Some z) old.0, old.1) | inr new ↦ inr new ]
