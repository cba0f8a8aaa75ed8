-- How often a unit is claimed. Claims of any kind, needs and takings back take turns, so they can be counted against each other.
use Rattle.std.proofs.Common.{◌≡◌, ℕ, suc, ◌+◌, ◌≤◌, Bool, true, false, List, [], ◌∷◌, length, Option, Some, None, refl, sym, ap, ◌∙◌, subst, inl, inr, arith}
use Rattle.std.specs.Prelude.{if◌then◌else◌, is_some}
use Rattle.std.specs.List.{Contains, IsDistinct, AllByRecursion}
use Rattle.question_runs.specs.Runs.{Run, ends, fails, stops, goes, asked, referred, Asks}
use Rattle.question_runs.specs.RunLaws.{AsksFirst, Continues}
use Rattle.question_runs.specs.Rounds.{Language}
use Rattle.question_runs.specs.Kept.{KeptUnit}
use Rattle.question_runs.proofs.GrowingRounds.{run_by-continues}
use Rattle.sched_core.specs.declared.event.Kind.{Kind}
use Rattle.sched_core.specs.declared.event.Kind.TheVariants as kind
use Rattle.sched_core.specs.declared.event.Event.{Event}
use Rattle.sched_core.specs.declared.event.Stand.{Stand}
use Rattle.sched_core.specs.declared.event.Event.TheVariants as event
use Rattle.sched_core.specs.declared.event.Stand.TheVariants as at
use Rattle.sched_core.specs.Machine.{Schedule, is_claimed_by, is_waiting_for, IsSameness, stand, done_in, Enabled, moved, after, replay, IsLog}
use Rattle.sched_laws.specs.Honest.{KnownUpTo, run_in, NoNeed, IsHonest}
use Rattle.sched_laws.specs.Laws.{IsUpdate}
use Rattle.sched_laws.specs.Claims.{is_had_by, works, needed, taken_back, HasFewClaims}
use Rattle.sched_laws.proofs.EventFacts.{stand-moved, new-unit, done-stays}
use Rattle.sched_laws.proofs.Bounds.{Contains-cases, nothing-in, same-apart}

-- the claims that a unit still has open: one, where a worker has it or it is done
abbrev open_claims : {U R : Type 0} → Option (Stand U R) → ℕ
open_claims (Some (at.Claimed w)) = 1
open_claims (Some (at.Done r)) = 1
open_claims _ = 0

same-turned : {U : Type 0} (same : U → U → Bool) → IsSameness same → (u v : U) → same v u ≡ true → same u v ≡ true
same-turned same laws u v is = let one : v ≡ u = laws.sound v u is in ap (same u) one ∙ laws.self u

module _ {U R : Type 0} (same : U → U → Bool) (laws : IsSameness same) where
  -- the claims of a unit, of any kind
  abbrev claims : U → List (Event U R) → ℕ
  claims u [] = 0
  claims u (event.Claim w v purpose ∷ past) = if same v u then suc (claims u past) else claims u past
  claims u (_ ∷ past) = claims u past

  works-claims : (u : U) (log : List (Event U R)) → works same u log ≤ claims u log
  works-claims u [] = omega arith
  works-claims u (event.Demand v ∷ past) = works-claims u past
  works-claims u (event.Need w v on ∷ past) = works-claims u past
  works-claims u (event.Finish w v r ∷ past) = works-claims u past
  works-claims u (event.Reclaim w ∷ past) = works-claims u past
  works-claims u (event.Claim w v kind.Work ∷ past) = both (same v u) (works-claims u past)
    where
      both : (b : Bool) → works same u past ≤ claims u past → (if b then suc (works same u past) else works same u past) ≤ (if b then suc (claims u past) else claims u past)
      both true less = omega arith
      both false less = less
  works-claims u (event.Claim w v kind.Check ∷ past) = more (same v u) (works-claims u past)
    where
      more : (b : Bool) → works same u past ≤ claims u past → works same u past ≤ (if b then suc (claims u past) else claims u past)
      more true less = omega arith
      more false less = less
  works-claims u (event.Claim w v kind.Kept ∷ past) = more (same v u) (works-claims u past)
    where
      more : (b : Bool) → works same u past ≤ claims u past → works same u past ≤ (if b then suc (claims u past) else claims u past)
      more true less = omega arith
      more false less = less

  -- where an event leaves open what was open of a known unit, it does so of every unit
  open-same : (s : Schedule U R) (e : Event U R) (u : U) (x : Option (Stand U R)) → stand same s u ≡ x → ((y : Stand U R) → open_claims (Some (moved same s e u y)) ≡ open_claims (Some y)) → open_claims (stand same (after same s e) u) ≡ open_claims x
  open-same s e u None is same_open = elim (new-unit same laws s e u is) [ inl stays ↦ ap open_claims stays | inr new ↦ ap open_claims new.1 ]
  open-same s e u (Some y) is same_open = ap open_claims (stand-moved same laws s e u y is) ∙ same_open y

  -- an event of another unit
  open-other : (b : Bool) (y z : Stand U R) → b ≡ false → open_claims (Some (if b then z else y)) ≡ open_claims (Some y)
  open-other true y z is = let f : true ≡ false = is in absurd (cc)
  open-other false y z is = refl

  open-finish : (b c : Bool) (u v : U) (y z : Stand U R) → b ≡ false → is_waiting_for same v y ≡ c → open_claims (Some (if b then z else (if c then at.Queued else y))) ≡ open_claims (Some y)
  open-finish true c u v y z is waits = let f : true ≡ false = is in absurd (cc)
  open-finish false false u v y z is waits = refl
  open-finish false true u v at.Queued z is waits = refl
  open-finish false true u v (at.Waiting x) z is waits = refl
  open-finish false true u v (at.Claimed w) z is waits = absurd (cc)
  open-finish false true u v (at.Done r) z is waits = absurd (cc)

  -- a unit stands with so many claims open
  open-at : (s : Schedule U R) (u : U) (y : Stand U R) → stand same s u ≡ Some y → open_claims (stand same s u) ≡ open_claims (Some y)
  open-at s u y is = ap open_claims is

  -- the stand of a unit behind an event that names it
  moved-here : (s : Schedule U R) (e : Event U R) (u : U) (y z : Stand U R) → stand same s u ≡ Some y → moved same s e u y ≡ z → stand same (after same s e) u ≡ Some z
  moved-here s e u y z is there = stand-moved same laws s e u y is ∙ ap (λ x. Some x) there

  if-true : (b : Bool) (y z : Stand U R) → b ≡ true → (if b then y else z) ≡ y
  if-true true y z is = refl
  if-true false y z is = let f : false ≡ true = is in absurd (cc)

  open-needed : (b : Bool) (on : U) (y : Stand U R) → y ≡ (if b then at.Queued else at.Waiting on) → open_claims (Some y) ≡ 0
  open-needed true on y is = ap (λ z. open_claims (Some z)) is
  open-needed false on y is = ap (λ z. open_claims (Some z)) is

  claimed-by : (w : ℕ) (y : Stand U R) → is_claimed_by w y ≡ true → open_claims (Some y) ≡ 1
  claimed-by w at.Queued is = absurd (cc)
  claimed-by w (at.Waiting v) is = absurd (cc)
  claimed-by w (at.Done r) is = absurd (cc)
  claimed-by w (at.Claimed v) is = refl

  balance-claim : (u v : U) (w : ℕ) (purpose : Kind) (past : List (Event U R)) (b : Bool) → same v u ≡ b → Enabled same (replay same past) (event.Claim w v purpose) → claims u past ≡ length (needed same u past) + taken_back same u past + open_claims (stand same (replay same past) u) → (if b then suc (claims u past) else claims u past) ≡ length (needed same u past) + taken_back same u past + open_claims (stand same (after same (replay same past) (event.Claim w v purpose)) u)
  balance-claim u v w purpose past true is enabled before =
      let one : v ≡ u = laws.sound v u is in
      let queued : stand same (replay same past) u ≡ Some at.Queued = ap (stand same (replay same past)) (sym one) ∙ enabled.0 in
      let none : open_claims (stand same (replay same past) u) ≡ 0 = ap open_claims queued in
      let now_open : open_claims (stand same (after same (replay same past) (event.Claim w v purpose)) u) ≡ 1 = ap open_claims (moved-here (replay same past) (event.Claim w v purpose) u at.Queued (at.Claimed w) queued (if-true (same u v) (at.Claimed w) at.Queued (same-turned same laws u v is))) in
      omega arith
  balance-claim u v w purpose past false is enabled before =
      let stays : open_claims (stand same (after same (replay same past) (event.Claim w v purpose)) u) ≡ open_claims (stand same (replay same past) u) = open-same (replay same past) (event.Claim w v purpose) u (stand same (replay same past) u) refl (λ y. open-other (same u v) y (at.Claimed w) (same-apart same laws u v (same u v) refl is)) in
      omega arith

  balance-need : (u v on : U) (w : ℕ) (past : List (Event U R)) (b : Bool) → same v u ≡ b → Enabled same (replay same past) (event.Need w v on) → claims u past ≡ length (needed same u past) + taken_back same u past + open_claims (stand same (replay same past) u) → claims u past ≡ length (if b then on ∷ needed same u past else needed same u past) + taken_back same u past + open_claims (stand same (after same (replay same past) (event.Need w v on)) u)
  balance-need u v on w past true is enabled before =
      let one : v ≡ u = laws.sound v u is in
      let had : stand same (replay same past) u ≡ Some (at.Claimed w) = ap (stand same (replay same past)) (sym one) ∙ enabled.0 in
      let was : open_claims (stand same (replay same past) u) ≡ 1 = ap open_claims had in
      let now_open : open_claims (stand same (after same (replay same past) (event.Need w v on)) u) ≡ 0 = ap open_claims (stand-moved same laws (replay same past) (event.Need w v on) u (at.Claimed w) had) ∙ open-needed (is_some (done_in same (replay same past) on)) on (moved same (replay same past) (event.Need w v on) u (at.Claimed w)) (if-true (same u v) (if is_some (done_in same (replay same past) on) then at.Queued else at.Waiting on) (at.Claimed w) (same-turned same laws u v is)) in
      omega arith
  balance-need u v on w past false is enabled before =
      let stays : open_claims (stand same (after same (replay same past) (event.Need w v on)) u) ≡ open_claims (stand same (replay same past) u) = open-same (replay same past) (event.Need w v on) u (stand same (replay same past) u) refl (λ y. open-other (same u v) y (if is_some (done_in same (replay same past) on) then at.Queued else at.Waiting on) (same-apart same laws u v (same u v) refl is)) in
      omega arith

  balance-finish : (u v : U) (r : R) (w : ℕ) (past : List (Event U R)) (b : Bool) → same v u ≡ b → Enabled same (replay same past) (event.Finish w v r) → open_claims (stand same (after same (replay same past) (event.Finish w v r)) u) ≡ open_claims (stand same (replay same past) u)
  balance-finish u v r w past true is enabled =
      let one : v ≡ u = laws.sound v u is in
      let had : stand same (replay same past) u ≡ Some (at.Claimed w) = ap (stand same (replay same past)) (sym one) ∙ enabled in
      ap open_claims (moved-here (replay same past) (event.Finish w v r) u (at.Claimed w) (at.Done r) had (if-true (same u v) (at.Done r) (at.Claimed w) (same-turned same laws u v is))) ∙ sym (ap open_claims had)
  balance-finish u v r w past false is enabled = open-same (replay same past) (event.Finish w v r) u (stand same (replay same past) u) refl (λ y. open-finish (same u v) (is_waiting_for same v y) u v y (at.Done r) (same-apart same laws u v (same u v) refl is) refl)

  balance-reclaim : (u : U) (w : ℕ) (past : List (Event U R)) (x : Option (Stand U R)) → stand same (replay same past) u ≡ x → claims u past ≡ length (needed same u past) + taken_back same u past + open_claims x → claims u past ≡ length (needed same u past) + (if is_had_by w x then suc (taken_back same u past) else taken_back same u past) + open_claims (stand same (after same (replay same past) (event.Reclaim w)) u)
  balance-reclaim u w past None is before =
      let stays : open_claims (stand same (after same (replay same past) (event.Reclaim w)) u) ≡ 0 = elim (new-unit same laws (replay same past) (event.Reclaim w) u is) [ inl stays ↦ ap open_claims stays | inr new ↦ ap open_claims new.1 ] in
      omega arith
  balance-reclaim u w past (Some y) is before = go (is_claimed_by w y) refl
    where
      go : (b : Bool) → is_claimed_by w y ≡ b → claims u past ≡ length (needed same u past) + (if is_claimed_by w y then suc (taken_back same u past) else taken_back same u past) + open_claims (stand same (after same (replay same past) (event.Reclaim w)) u)
      go true had =
          let was : open_claims (Some y) ≡ 1 = claimed-by w y had in
          let now_open : open_claims (stand same (after same (replay same past) (event.Reclaim w)) u) ≡ 0 = ap open_claims (moved-here (replay same past) (event.Reclaim w) u y at.Queued is (ap (λ b. if b then at.Queued else y) had)) in
          let count : (if is_claimed_by w y then suc (taken_back same u past) else taken_back same u past) ≡ suc (taken_back same u past) = ap (λ b. if b then suc (taken_back same u past) else taken_back same u past) had in
          omega arith
      go false had =
          let now_open : open_claims (stand same (after same (replay same past) (event.Reclaim w)) u) ≡ open_claims (Some y) = ap open_claims (moved-here (replay same past) (event.Reclaim w) u y y is (ap (λ b. if b then at.Queued else y) had)) in
          let count : (if is_claimed_by w y then suc (taken_back same u past) else taken_back same u past) ≡ taken_back same u past = ap (λ b. if b then suc (taken_back same u past) else taken_back same u past) had in
          omega arith

  balanced : (u : U) (log : List (Event U R)) → IsLog same log → claims u log ≡ length (needed same u log) + taken_back same u log + open_claims (stand same (replay same log) u)
  balanced u [] possible = refl
  balanced u (event.Demand v ∷ past) possible =
      let before : claims u past ≡ length (needed same u past) + taken_back same u past + open_claims (stand same (replay same past) u) = balanced u past possible.1 in
      let stays : open_claims (stand same (after same (replay same past) (event.Demand v)) u) ≡ open_claims (stand same (replay same past) u) = open-same (replay same past) (event.Demand v) u (stand same (replay same past) u) refl (λ y. refl) in
      omega arith
  balanced u (event.Claim w v purpose ∷ past) possible = balance-claim u v w purpose past (same v u) refl possible.0 (balanced u past possible.1)
  balanced u (event.Need w v on ∷ past) possible = balance-need u v on w past (same v u) refl possible.0 (balanced u past possible.1)
  balanced u (event.Finish w v r ∷ past) possible =
      let before : claims u past ≡ length (needed same u past) + taken_back same u past + open_claims (stand same (replay same past) u) = balanced u past possible.1 in
      let stays : open_claims (stand same (after same (replay same past) (event.Finish w v r)) u) ≡ open_claims (stand same (replay same past) u) = balance-finish u v r w past (same v u) refl possible.0 in
      omega arith
  balanced u (event.Reclaim w ∷ past) possible = balance-reclaim u w past (stand same (replay same past) u) refl (balanced u past possible.1)

-- what a run asks, a run that goes on in its moves asks
AsksFirst-Asks : {Q A U R : Type 0} (r : Run Q A U R) (q : Q) → AsksFirst r q → Asks r q
AsksFirst-Asks (ends x) q asks = asks
AsksFirst-Asks fails q asks = asks
AsksFirst-Asks (stops p) q asks = asks
AsksFirst-Asks (goes (asked p a) r) q asks = inl asks
AsksFirst-Asks (goes (referred u) r) q asks = absurd asks

continues-asks : {Q A U R : Type 0} (r later : Run Q A U R) (q : Q) → Continues r later → Asks r q → Asks later q
continues-asks (ends x) later q c asks = absurd asks
continues-asks fails later q c asks = absurd asks
continues-asks (stops p) later q c asks = AsksFirst-Asks later q (subst (AsksFirst later) asks c)
continues-asks (goes (asked p a) r) later q (rest, (is, c)) asks = subst (λ x. Asks x q) (sym is) (elim asks [ inl here ↦ inl here | inr there ↦ inr (continues-asks r rest q c there) ])
continues-asks (goes (referred u) r) later q (rest, (is, c)) asks = subst (λ x. Asks x q) (sym is) (continues-asks r rest q c asks)

-- the question by which a run asks for a unit
known-asks : {Q A U R : Type 0} (l : Language Q A U R) (s : Schedule U R) (r : Run Q A U R) (v : U) → KnownUpTo l s r v → (q : Q) × (Asks r q × (l.unit_asked q ≡ Some v))
known-asks l s (ends x) v k = absurd k
known-asks l s fails v k = absurd k
known-asks l s (stops q) v k = (q, (refl, k))
known-asks {Q = Q} l s (goes (asked q a) r) v (here, later) = elim later [ inl is ↦ (q, (inl refl, is)) | inr k ↦ let more : (p : Q) × (Asks r p × (l.unit_asked p ≡ Some v)) = known-asks l s r v k in (more.0, (inr more.1.0, more.1.1)) ]
known-asks l s (goes (referred u) r) v (here, k) = known-asks l s r v k

module _ {Q A U R : Type 0} (l : Language Q A U R) (files : Q → A) (roots : List U) (kept : List (KeptUnit Q A U R)) (laws : IsSameness l.same_unit) where
  -- a unit that was not needed before is none of those that were
  none-needed : (u on : U) (past : List (Event U R)) → NoNeed l files kept past u on → AllByRecursion (λ v. l.same_unit on v ≡ false) (needed l.same_unit u past)
  none-needed u on [] no_need = tt
  none-needed u on (event.Demand v ∷ past) no_need = none-needed u on past no_need.1
  none-needed u on (event.Claim w v purpose ∷ past) no_need = none-needed u on past no_need.1
  none-needed u on (event.Finish w v r ∷ past) no_need = none-needed u on past no_need.1
  none-needed u on (event.Reclaim w ∷ past) no_need = none-needed u on past no_need.1
  none-needed u on (event.Need w v other ∷ past) no_need = both (l.same_unit v u) refl (l.same_unit on other) refl (none-needed u on past no_need.1)
    where
      both : (b : Bool) → l.same_unit v u ≡ b → (c : Bool) → l.same_unit on other ≡ c → AllByRecursion (λ x. l.same_unit on x ≡ false) (needed l.same_unit u past) → AllByRecursion (λ x. l.same_unit on x ≡ false) (if b then other ∷ needed l.same_unit u past else needed l.same_unit u past)
      both false is c is' rest = rest
      both true is false is' rest = (is', rest)
      both true is true is' rest = absurd (no_need.0 w (ap (λ x. event.Need w x other) (laws.sound v u is) ∙ ap (λ x. event.Need w u x) (sym (laws.sound on other is'))))

  needed-distinct : (u : U) (log : List (Event U R)) → IsHonest l files kept roots log → IsDistinct l.same_unit (needed l.same_unit u log)
  unfolding IsDistinct
  needed-distinct u [] honest = tt
  needed-distinct u (event.Demand v ∷ past) honest = needed-distinct u past honest.1
  needed-distinct u (event.Claim w v purpose ∷ past) honest = needed-distinct u past honest.1
  needed-distinct u (event.Finish w v r ∷ past) honest = needed-distinct u past honest.1
  needed-distinct u (event.Reclaim w ∷ past) honest = needed-distinct u past honest.1
  needed-distinct u (event.Need w v on ∷ past) honest = both (l.same_unit v u) refl (needed-distinct u past honest.1)
    where
      both : (b : Bool) → l.same_unit v u ≡ b → IsDistinct l.same_unit (needed l.same_unit u past) → IsDistinct l.same_unit (if b then on ∷ needed l.same_unit u past else needed l.same_unit u past)
      both false is rest = rest
      both true is rest = (none-needed u on past (subst (λ x. NoNeed l files kept past x on) (laws.sound v u is) honest.0.1), rest)

  -- the run of the unit asks for each that it needed
  asked-later : (s : Schedule U R) (e : Event U R) → Enabled l.same_unit s e → (u v : U) → (q : Q) × (Asks (run_in l files s u) q × (l.unit_asked q ≡ Some v)) → (q : Q) × (Asks (run_in l files (after l.same_unit s e) u) q × (l.unit_asked q ≡ Some v))
  asked-later s e enabled u v (q, (asks, is)) = (q, (continues-asks (run_in l files s u) (run_in l files (after l.same_unit s e) u) q (run_by-continues l files (done_in l.same_unit s) (done_in l.same_unit (after l.same_unit s e)) (done-stays l.same_unit laws s e enabled) u) asks, is))

  needed-asked : (u v : U) (log : List (Event U R)) → IsLog l.same_unit log → IsHonest l files kept roots log → Contains (needed l.same_unit u log) v → (q : Q) × (Asks (run_in l files (replay l.same_unit log) u) q × (l.unit_asked q ≡ Some v))
  needed-asked u v [] possible honest among = absurd (nothing-in v among)
  needed-asked u v (event.Demand x ∷ past) possible honest among = asked-later (replay l.same_unit past) (event.Demand x) possible.0 u v (needed-asked u v past possible.1 honest.1 among)
  needed-asked u v (event.Claim w x purpose ∷ past) possible honest among = asked-later (replay l.same_unit past) (event.Claim w x purpose) possible.0 u v (needed-asked u v past possible.1 honest.1 among)
  needed-asked u v (event.Finish w x r ∷ past) possible honest among = asked-later (replay l.same_unit past) (event.Finish w x r) possible.0 u v (needed-asked u v past possible.1 honest.1 among)
  needed-asked u v (event.Reclaim w ∷ past) possible honest among = asked-later (replay l.same_unit past) (event.Reclaim w) possible.0 u v (needed-asked u v past possible.1 honest.1 among)
  needed-asked u v (event.Need w x on ∷ past) possible honest among = asked-later (replay l.same_unit past) (event.Need w x on) possible.0 u v (both (l.same_unit x u) refl (λ among'. needed-asked u v past possible.1 honest.1 among') among)
    where
      both : (b : Bool) → l.same_unit x u ≡ b → (Contains (needed l.same_unit u past) v → (q : Q) × (Asks (run_in l files (replay l.same_unit past) u) q × (l.unit_asked q ≡ Some v))) → Contains (if b then on ∷ needed l.same_unit u past else needed l.same_unit u past) v → (q : Q) × (Asks (run_in l files (replay l.same_unit past) u) q × (l.unit_asked q ≡ Some v))
      both false is earlier among' = earlier among'
      both true is earlier among' = elim (Contains-cases on (needed l.same_unit u past) v among') [
        | inl here ↦ known-asks l (replay l.same_unit past) (run_in l files (replay l.same_unit past) u) v (subst (KnownUpTo l (replay l.same_unit past) (run_in l files (replay l.same_unit past) u)) here (subst (λ y. KnownUpTo l (replay l.same_unit past) (run_in l files (replay l.same_unit past) y) on) (laws.sound x u is) honest.0.0))
        | inr later ↦ earlier later
      ]

one-open : {U R : Type 0} (x : Option (Stand U R)) → open_claims x ≤ 1
one-open None = omega arith
one-open (Some at.Queued) = omega arith
one-open (Some (at.Waiting v)) = omega arith
one-open (Some (at.Claimed w)) = omega arith
one-open (Some (at.Done r)) = omega arith

pub few-claims : {Q A U R : Type 0} (l : Language Q A U R) (files : Q → A) (roots : List U) (kept : List (KeptUnit Q A U R)) (log : List (Event U R)) → IsUpdate l files roots kept log → (u : U) → HasFewClaims l files log u
few-claims l files roots kept log update u =
    let equal : claims l.same_unit update.lawful.units u log ≡ length (needed l.same_unit u log) + taken_back l.same_unit u log + open_claims (stand l.same_unit (replay l.same_unit log) u) = balanced l.same_unit update.lawful.units u log update.possible in
    let less : works l.same_unit u log ≤ claims l.same_unit update.lawful.units u log = works-claims l.same_unit update.lawful.units u log in
    let open_one : open_claims (stand l.same_unit (replay l.same_unit log) u) ≤ 1 = one-open (stand l.same_unit (replay l.same_unit log) u) in
    record {
      count = omega arith;
      distinct = needed-distinct l files roots kept update.lawful.units u log update.honest;
      asked_for = λ v among. needed-asked l files roots kept update.lawful.units u v log update.possible update.honest among;
    }
