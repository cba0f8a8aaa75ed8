-- The test by the tables is the machine's rule.
use Rattle.std.proofs.Common.{◌≡◌, ℕ, ◌<◌, Bool, true, false, ◌&&◌, List, Option, Some, None, refl, sym, ap, ◌∙◌, subst, nat_eq, nat_lt}
use Rattle.std.specs.Prelude.{is_some, is_none}
use Rattle.std.specs.Option.{option_and_then}
use Rattle.std.proofs.lemmas.Bool.{ltb-true, lt-ltb}
use Rattle.sched_core.specs.declared.event.TheConstants.{MOST_UNITS}
use Rattle.sched_core.specs.declared.event.Event.{Event}
use Rattle.sched_core.specs.declared.event.Stand.{Stand}
use Rattle.sched_core.specs.declared.event.Event.TheVariants as event
use Rattle.sched_core.specs.declared.event.Stand.TheVariants as at
use Rattle.sched_core.specs.Machine.{stand, Enabled, replay}
use Rattle.sched_core.specs.Tables.{Stands, Claims, read, unit_of, is_queued, is_unit, is_possible, Shows}
use Rattle.sched_core.proofs.Entries.{nat_eq-self, nat_eq-sound}
use Rattle.sched_core.proofs.TableSteps.{stored-claim, schedule-claim}

and-left : (a b : Bool) → (a && b) ≡ true → a ≡ true
and-left true b e = refl
and-left false b e = cc

and-right : (a b : Bool) → (a && b) ≡ true → b ≡ true
and-right true b e = e
and-right false b e = cc

and-both : (a b : Bool) → a ≡ true → b ≡ true → (a && b) ≡ true
and-both a b e f = ap (λ x. x && b) e ∙ f

none-is : {A : Type 0} (x : Option A) → is_none x ≡ true → x ≡ None
none-is None e = refl
none-is (Some a) e = cc

some-is : {A : Type 0} (x : Option A) → is_some x ≡ true → (a : A) × (x ≡ Some a)
some-is None e = absurd (cc)
some-is (Some a) e = (a, refl)

queued-is : (x : Option (Stand ℕ ℕ)) → is_queued x ≡ true → x ≡ Some at.Queued
queued-is None e = cc
queued-is (Some at.Queued) e = refl
queued-is (Some (at.Claimed w)) e = cc
queued-is (Some (at.Waiting u)) e = cc
queued-is (Some (at.Done r)) e = cc

unit-is : (u : ℕ) (x : Option ℕ) → is_unit u x ≡ true → x ≡ Some u
unit-is u None e = cc
unit-is u (Some v) e = ap (λ z. Some z) (nat_eq-sound v u e)

is-unit : (u : ℕ) (x : Option ℕ) → x ≡ Some u → is_unit u x ≡ true
is-unit u x e = ap (is_unit u) e ∙ nat_eq-self u

-- a worker's unit, from its entry
joined : (x : Option (Option ℕ)) (u : ℕ) → option_and_then (λ z. z) x ≡ Some u → x ≡ Some (Some u)
joined None u e = cc
joined (Some None) u e = cc
joined (Some (Some v)) u e = ap (λ z. Some z) e

module _ (stands : Stands) (claims : Claims) (known : ℕ) (log : List (Event ℕ ℕ)) (shows : Shows stands claims known log) where
  at_unit : (u : ℕ) → read stands u ≡ stand nat_eq (replay nat_eq log) u
  at_unit u = shows.stands_are u

  has-unit : (w u : ℕ) → stand nat_eq (replay nat_eq log) u ≡ Some (at.Claimed w) → unit_of claims w ≡ Some u
  has-unit w u e = ap (option_and_then (λ z. z)) ((shows.claims_are w u).0 (stored-claim stands claims (replay nat_eq log) shows.stands_are shows.claims_are u w e))

  unit-has : (w u : ℕ) → unit_of claims w ≡ Some u → stand nat_eq (replay nat_eq log) u ≡ Some (at.Claimed w)
  unit-has w u e = schedule-claim stands claims (replay nat_eq log) shows.stands_are shows.claims_are u w ((shows.claims_are w u).1 (joined (claims w) u e))

  idle-none : (w : ℕ) (x : Option ℕ) → unit_of claims w ≡ x → ((v : ℕ) → stand nat_eq (replay nat_eq log) v ≡ Some (at.Claimed w) → ⊥) → is_none x ≡ true
  idle-none w None e idle = refl
  idle-none w (Some u) e idle = absurd (idle u (unit-has w u e))

  none-idle : (w : ℕ) → unit_of claims w ≡ None → (v : ℕ) → stand nat_eq (replay nat_eq log) v ≡ Some (at.Claimed w) → ⊥
  none-idle w none v e = let here : unit_of claims w ≡ Some v = has-unit w v e in cc

  pub possible-enabled : (e : Event ℕ ℕ) → is_possible stands claims known e ≡ true → Enabled nat_eq (replay nat_eq log) e
  possible-enabled (event.Demand u) e = (sym (at_unit u) ∙ none-is (read stands u) (and-left (is_none (read stands u)) (nat_lt known MOST_UNITS) e), subst (λ n. n < MOST_UNITS) shows.known_are (ltb-true known MOST_UNITS (and-right (is_none (read stands u)) (nat_lt known MOST_UNITS) e)))
  possible-enabled (event.Claim w u kind) e = (sym (at_unit u) ∙ queued-is (read stands u) (and-left (is_queued (read stands u)) (is_none (unit_of claims w)) e), none-idle w (none-is (unit_of claims w) (and-right (is_queued (read stands u)) (is_none (unit_of claims w)) e)))
  possible-enabled (event.Need w u on) e = (unit-has w u (unit-is u (unit_of claims w) (and-left (is_unit u (unit_of claims w)) (is_some (read stands on)) e)), ap is_some (sym (at_unit on)) ∙ and-right (is_unit u (unit_of claims w)) (is_some (read stands on)) e)
  possible-enabled (event.Finish w u r) e = unit-has w u (unit-is u (unit_of claims w) e)
  possible-enabled (event.Reclaim w) e = let has : (u : ℕ) × (unit_of claims w ≡ Some u) = some-is (unit_of claims w) e in (has.0, unit-has w has.0 has.1)

  pub enabled-possible : (e : Event ℕ ℕ) → Enabled nat_eq (replay nat_eq log) e → is_possible stands claims known e ≡ true
  enabled-possible (event.Demand u) e = and-both (is_none (read stands u)) (nat_lt known MOST_UNITS) (ap is_none (at_unit u ∙ e.0)) (lt-ltb known MOST_UNITS (subst (λ n. n < MOST_UNITS) (sym shows.known_are) e.1))
  enabled-possible (event.Claim w u kind) e = and-both (is_queued (read stands u)) (is_none (unit_of claims w)) (ap is_queued (at_unit u ∙ e.0)) (idle-none w (unit_of claims w) refl e.1)
  enabled-possible (event.Need w u on) e = and-both (is_unit u (unit_of claims w)) (is_some (read stands on)) (is-unit u (unit_of claims w) (has-unit w u e.0)) (ap is_some (at_unit on) ∙ e.1)
  enabled-possible (event.Finish w u r) e = is-unit u (unit_of claims w) (has-unit w u e)
  enabled-possible (event.Reclaim w) (u, is) = ap is_some (has-unit w u is)
