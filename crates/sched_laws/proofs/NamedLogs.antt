-- Logs over numbers and over what they name.
use Rattle.std.proofs.Common.{◌≡◌, ℕ, suc, ◌<◌, Bool, true, false, List, [], ◌∷◌, ◌++◌, length, ◌⊎◌, Option, Some, None, refl, sym, ap, ◌∙◌, subst, inl, inr}
use Rattle.std.specs.Prelude.{if◌then◌else◌, is_some, IsSome}
use Rattle.std.specs.Option.{option_map, option_and_then}
use Rattle.sched_core.specs.declared.event.TheConstants.{MOST_UNITS}
use Rattle.sched_core.specs.declared.event.Event.{Event}
use Rattle.sched_core.specs.declared.event.Stand.{Stand}
use Rattle.sched_core.specs.declared.event.Event.TheVariants as event
use Rattle.sched_core.specs.declared.event.Stand.TheVariants as at
use Rattle.sched_core.specs.Machine.{Schedule, change, result_at, is_claimed_by, is_waiting_for, IsSameness, stand, IsKnown, done_in, Enabled, moved, after, replay, IsLog}
use Rattle.sched_core.proofs.Schedules.{stand-append-new}
use Rattle.sched_laws.specs.Renaming.{stand_named, event_named, schedule_named, TellsApart, IsNamedLog}
use Rattle.sched_laws.proofs.EventFacts.{IsSome-of, known-stays}

-- a fact of each entry
abbrev AllEntries : {N M : Type 0} → (N → Stand N M → Type 0) → Schedule N M → Type 0
AllEntries P [] = Unit {0}
AllEntries P (p ∷ s) = P p.0 p.1 × AllEntries P s

entries-map : {N M : Type 0} (P P' : N → Stand N M → Type 0) (s : Schedule N M) → ((n : N) (x : Stand N M) → P n x → P' n x) → AllEntries P s → AllEntries P' s
entries-map P P' [] step all = tt
entries-map P P' (p ∷ s) step all = (step p.0 p.1 all.0, entries-map P P' s step all.1)

entries-both : {N M : Type 0} (P P' : N → Stand N M → Type 0) (s : Schedule N M) → AllEntries P s → AllEntries P' s → AllEntries (λ n x. P n x × P' n x) s
entries-both P P' [] all all' = tt
entries-both P P' (p ∷ s) all all' = ((all.0, all'.0), entries-both P P' s all.1 all'.1)

entries-change : {N M : Type 0} (P : N → Stand N M → Type 0) (f : N → Stand N M → Stand N M) (s : Schedule N M) → AllEntries (λ n x. P n (f n x)) s → AllEntries P (change f s)
entries-change P f [] all = tt
entries-change P f (p ∷ s) all = (all.0, entries-change P f s all.1)

entries-push : {N M : Type 0} (P : N → Stand N M → Type 0) (s : Schedule N M) (n : N) (x : Stand N M) → AllEntries P s → P n x → AllEntries P (s ++ (n, x) ∷ [])
entries-push P [] n x all here = (here, tt)
entries-push P (p ∷ s) n x all here = (all.0, entries-push P s n x all.1 here)

some-if : {A : Type 0} (b : Bool) (x : A) (y : Option A) → IsSome y → IsSome (if b then Some x else y)
some-if true x y is = refl
some-if false x y is = is

some-here : {A : Type 0} (b : Bool) (x : A) (y : Option A) → b ≡ true → (if b then Some x else y) ≡ Some x
some-here b x y is = ap (λ c. if c then Some x else y) is

some-later : {A : Type 0} (b : Bool) (x : A) (y : Option A) → b ≡ false → (if b then Some x else y) ≡ y
some-later b x y is = ap (λ c. if c then Some x else y) is

module _ {N M : Type 0} (same : N → N → Bool) (laws : IsSameness same) where
  -- each entry is of a known unit
  entries-known : (s : Schedule N M) → AllEntries (λ n x. IsKnown same s n) s
  entries-known [] = tt
  entries-known (p ∷ s) = (IsSome-of (stand same (p ∷ s) p.0) p.1 (some-here (same p.0 p.0) p.1 (stand same s p.0) (laws.self p.0)), entries-map (λ n x. IsKnown same s n) (λ n x. IsKnown same (p ∷ s) n) s (λ n x known. some-if (same p.0 n) p.1 (stand same s n) known) (entries-known s))

  -- a unit that another waits for is known
  abbrev WaitsForKnown : Schedule N M → Stand N M → Type 0
  WaitsForKnown s (at.Waiting v) = IsKnown same s v
  WaitsForKnown s _ = Unit {0}

  waits-mono : (s s' : Schedule N M) → ((n : N) → IsKnown same s n → IsKnown same s' n) → (x : Stand N M) → WaitsForKnown s x → WaitsForKnown s' x
  waits-mono s s' up at.Queued w = tt
  waits-mono s s' up (at.Claimed v) w = tt
  waits-mono s s' up (at.Done r) w = tt
  waits-mono s s' up (at.Waiting v) w = up v w

  waits-if : (s : Schedule N M) (b : Bool) (x y : Stand N M) → WaitsForKnown s x → WaitsForKnown s y → WaitsForKnown s (if b then x else y)
  waits-if s true x y w w' = w
  waits-if s false x y w w' = w'

  waits-moved : (s : Schedule N M) (e : Event N M) → Enabled same s e → (n : N) (x : Stand N M) → WaitsForKnown s x → WaitsForKnown s (moved same s e n x)
  waits-moved s (event.Demand u) enabled n x w = w
  waits-moved s (event.Claim v u kind) enabled n x w = waits-if s (same n u) (at.Claimed v) x tt w
  waits-moved s (event.Need v u on) enabled n x w = waits-if s (same n u) (if is_some (done_in same s on) then at.Queued else at.Waiting on) x (waits-if s (is_some (done_in same s on)) at.Queued (at.Waiting on) tt enabled.1) w
  waits-moved s (event.Finish v u r) enabled n x w = waits-if s (same n u) (at.Done r) (if is_waiting_for same u x then at.Queued else x) tt (waits-if s (is_waiting_for same u x) at.Queued x tt w)
  waits-moved s (event.Reclaim v) enabled n x w = waits-if s (is_claimed_by v x) at.Queued x tt w

  waits-changed : (s : Schedule N M) (e : Event N M) → Enabled same s e → AllEntries (λ n x. WaitsForKnown s x) s → AllEntries (λ n x. WaitsForKnown (after same s e) x) (change (moved same s e) s)
  waits-changed s e enabled all = entries-change (λ n x. WaitsForKnown (after same s e) x) (moved same s e) s (entries-map (λ n x. WaitsForKnown s x) (λ n x. WaitsForKnown (after same s e) (moved same s e n x)) s (λ n x w. waits-mono s (after same s e) (known-stays same laws s e) (moved same s e n x) (waits-moved s e enabled n x w)) all)

  waits-after : (s : Schedule N M) (e : Event N M) → Enabled same s e → AllEntries (λ n x. WaitsForKnown s x) s → AllEntries (λ n x. WaitsForKnown (after same s e) x) (after same s e)
  waits-after s (event.Demand u) enabled all = entries-push (λ n x. WaitsForKnown (after same s (event.Demand u)) x) s u at.Queued (entries-map (λ n x. WaitsForKnown s x) (λ n x. WaitsForKnown (after same s (event.Demand u)) x) s (λ n x w. waits-mono s (after same s (event.Demand u)) (known-stays same laws s (event.Demand u)) x w) all) tt
  waits-after s (event.Claim v u kind) enabled all = waits-changed s (event.Claim v u kind) enabled all
  waits-after s (event.Need v u on) enabled all = waits-changed s (event.Need v u on) enabled all
  waits-after s (event.Finish v u r) enabled all = waits-changed s (event.Finish v u r) enabled all
  waits-after s (event.Reclaim v) enabled all = waits-changed s (event.Reclaim v) enabled all

if-ap : {A B : Type 0} (f : A → B) (b : Bool) (x y : A) → f (if b then x else y) ≡ (if b then f x else f y)
if-ap f true x y = refl
if-ap f false x y = refl

if-both : {A : Type 0} (b c : Bool) (x x' y y' : A) → b ≡ c → x ≡ x' → y ≡ y' → (if b then x else y) ≡ (if c then x' else y')
if-both b c x x' y y' is here there = ap (λ d. if d then x else y) is ∙ ap (λ z. if c then z else y) here ∙ ap (λ z. if c then x' else z) there

is_some-map : {A B : Type 0} (f : A → B) (x : Option A) → is_some (option_map f x) ≡ is_some x
is_some-map f None = refl
is_some-map f (Some a) = refl

module _ {N M U R : Type 0} (unit : N → U) (outcome : M → R) where
  result-named : (x : Stand N M) → result_at (stand_named unit outcome x) ≡ option_map outcome (result_at x)
  result-named at.Queued = refl
  result-named (at.Claimed w) = refl
  result-named (at.Waiting v) = refl
  result-named (at.Done r) = refl

  result-named-map : (x : Option (Stand N M)) → option_and_then result_at (option_map (stand_named unit outcome) x) ≡ option_map outcome (option_and_then result_at x)
  result-named-map None = refl
  result-named-map (Some x) = result-named x

  claimed-named : (w : ℕ) (x : Stand N M) → is_claimed_by w (stand_named unit outcome x) ≡ is_claimed_by w x
  claimed-named w at.Queued = refl
  claimed-named w (at.Claimed v) = refl
  claimed-named w (at.Waiting v) = refl
  claimed-named w (at.Done r) = refl

  named-change : (f : N → Stand N M → Stand N M) (f' : U → Stand U R → Stand U R) (s : Schedule N M) → AllEntries (λ n x. f' (unit n) (stand_named unit outcome x) ≡ stand_named unit outcome (f n x)) s → change f' (schedule_named unit outcome s) ≡ schedule_named unit outcome (change f s)
  named-change f f' [] all = refl
  named-change f f' (p ∷ s) all = ap (λ x. (unit p.0, x) ∷ change f' (schedule_named unit outcome s)) all.0 ∙ ap (λ t. (unit p.0, stand_named unit outcome (f p.0 p.1)) ∷ t) (named-change f f' s all.1)

  named-push : (s : Schedule N M) (n : N) (x : Stand N M) → schedule_named unit outcome (s ++ (n, x) ∷ []) ≡ schedule_named unit outcome s ++ (unit n, stand_named unit outcome x) ∷ []
  named-push [] n x = refl
  named-push (p ∷ s) n x = ap (λ t. (unit p.0, stand_named unit outcome p.1) ∷ t) (named-push s n x)

  length-named : (s : Schedule N M) → length (schedule_named unit outcome s) ≡ length s
  length-named [] = refl
  length-named (p ∷ s) = ap suc (length-named s)

  module _ (same : N → N → Bool) (same_unit : U → U → Bool) (laws : IsSameness same) where
    -- the test of a number against each entry is that of what they name
    abbrev Tells : Schedule N M → N → Type 0
    Tells s n = AllEntries (λ m x. same_unit (unit m) (unit n) ≡ same m n) s

    stand-named : (s : Schedule N M) (n : N) → AllEntries (λ m x. same_unit (unit m) (unit n) ≡ same m n) s → stand same_unit (schedule_named unit outcome s) (unit n) ≡ option_map (stand_named unit outcome) (stand same s n)
    stand-named [] n tells = refl
    stand-named (p ∷ s) n tells = if-both (same_unit (unit p.0) (unit n)) (same p.0 n) (Some (stand_named unit outcome p.1)) (Some (stand_named unit outcome p.1)) (stand same_unit (schedule_named unit outcome s) (unit n)) (option_map (stand_named unit outcome) (stand same s n)) tells.0 refl (stand-named s n tells.1) ∙ sym (if-ap (option_map (stand_named unit outcome)) (same p.0 n) (Some p.1) (stand same s n))

    done-named : (s : Schedule N M) (n : N) → AllEntries (λ m x. same_unit (unit m) (unit n) ≡ same m n) s → done_in same_unit (schedule_named unit outcome s) (unit n) ≡ option_map outcome (done_in same s n)
    done-named s n tells = ap (option_and_then result_at) (stand-named s n tells) ∙ result-named-map (stand same s n)

    -- what is found under a name is an entry
    find-later : (b : Bool) (p_n : N) (v : U) (x y : Stand U R) (rest : Option (Stand U R)) → same_unit (unit p_n) v ≡ b → (if b then Some x else rest) ≡ Some y → ((b ≡ true) × (x ≡ y)) ⊎ ((b ≡ false) × (rest ≡ Some y))
    find-later true p_n v x y rest is e = let one : x ≡ y = cc in inl (refl, one)
    find-later false p_n v x y rest is e = inr (refl, e)

    not-same : (m n : N) (v : U) (b : Bool) → same m n ≡ b → same_unit (unit n) v ≡ true → same_unit (unit m) v ≡ false → b ≡ false
    not-same m n v true is here there = let one : m ≡ n = laws.sound m n is in let both : same_unit (unit m) v ≡ true = ap (λ z. same_unit (unit z) v) one ∙ here in cc
    not-same m n v false is here there = refl

    found : (s : Schedule N M) (v : U) (y : Stand U R) → stand same_unit (schedule_named unit outcome s) v ≡ Some y → (n : N) × ((x : Stand N M) × ((same_unit (unit n) v ≡ true) × ((stand same s n ≡ Some x) × (stand_named unit outcome x ≡ y))))
    found [] v y e = absurd (cc)
    found (p ∷ s) v y e = elim (find-later (same_unit (unit p.0) v) p.0 v (stand_named unit outcome p.1) y (stand same_unit (schedule_named unit outcome s) v) refl e) [
      | inl here ↦ (p.0, (p.1, (here.0, (some-here (same p.0 p.0) p.1 (stand same s p.0) (laws.self p.0), here.1))))
      | inr later ↦
          let more : (n : N) × ((x : Stand N M) × ((same_unit (unit n) v ≡ true) × ((stand same s n ≡ Some x) × (stand_named unit outcome x ≡ y)))) = found s v y later.1 in
          (more.0, (more.1.0, (more.1.1.0, (some-later (same p.0 more.0) p.1 (stand same s more.0) (not-same p.0 more.0 v (same p.0 more.0) refl more.1.1.0 later.0) ∙ more.1.1.1.0, more.1.1.1.1))))
    ]

    waiting-named : (u : N) (x : Stand N M) (s : Schedule N M) → ((n : N) → IsKnown same s n → same_unit (unit n) (unit u) ≡ same n u) → WaitsForKnown same laws s x → is_waiting_for same_unit (unit u) (stand_named unit outcome x) ≡ is_waiting_for same u x
    waiting-named u at.Queued s tells w = refl
    waiting-named u (at.Claimed v) s tells w = refl
    waiting-named u (at.Done r) s tells w = refl
    waiting-named u (at.Waiting v) s tells w = tells v w

    named-claimed : (w : ℕ) (x : Stand N M) → stand_named unit outcome x ≡ at.Claimed w → x ≡ at.Claimed w
    named-claimed w at.Queued e = cc
    named-claimed w (at.Claimed v) e = let one : v ≡ w = cc in ap (λ z. at.Claimed z) one
    named-claimed w (at.Waiting v) e = cc
    named-claimed w (at.Done r) e = cc

    module _ (s : Schedule N M) (e : Event N M) (enabled : Enabled same s e) (tells : TellsApart unit outcome same same_unit (after same s e)) (waits : AllEntries (λ n x. WaitsForKnown same laws s x) s) where
      agree : (n m : N) → IsKnown same s n → IsKnown same (after same s e) m → same_unit (unit n) (unit m) ≡ same n m
      agree n m known known' = tells n m (known-stays same laws s e n known) known'

      tells-of : (m : N) → IsKnown same (after same s e) m → AllEntries (λ n x. same_unit (unit n) (unit m) ≡ same n m) s
      tells-of m known' = entries-map (λ n x. IsKnown same s n) (λ n x. same_unit (unit n) (unit m) ≡ same n m) s (λ n x known. agree n m known known') (entries-known same laws s)

      known-now : (m : N) (x : Stand N M) → stand same s m ≡ Some x → IsKnown same (after same s e) m
      known-now m x is = known-stays same laws s e m (IsSome-of (stand same s m) x is)

      stand-is : (m : N) (x : Stand N M) → stand same s m ≡ Some x → stand same_unit (schedule_named unit outcome s) (unit m) ≡ Some (stand_named unit outcome x)
      stand-is m x is = stand-named s m (tells-of m (known-now m x is)) ∙ ap (option_map (stand_named unit outcome)) is

      known-is : (m : N) → IsKnown same s m → IsKnown same_unit (schedule_named unit outcome s) (unit m)
      known-is m known = ap is_some (stand-named s m (tells-of m (known-stays same laws s e m known))) ∙ is_some-map (stand_named unit outcome) (stand same s m) ∙ known

      -- each entry moves as its name does
      both-entries : AllEntries (λ n x. IsKnown same s n × WaitsForKnown same laws s x) s
      both-entries = entries-both (λ n x. IsKnown same s n) (λ n x. WaitsForKnown same laws s x) s (entries-known same laws s) waits

      change-is : (f : N → Stand N M → Stand N M) (f' : U → Stand U R → Stand U R) → ((n : N) (x : Stand N M) → IsKnown same s n → WaitsForKnown same laws s x → f' (unit n) (stand_named unit outcome x) ≡ stand_named unit outcome (f n x)) → change f' (schedule_named unit outcome s) ≡ schedule_named unit outcome (change f s)
      change-is f f' each = named-change f f' s (entries-map (λ n x. IsKnown same s n × WaitsForKnown same laws s x) (λ n x. f' (unit n) (stand_named unit outcome x) ≡ stand_named unit outcome (f n x)) s (λ n x both. each n x both.0 both.1) both-entries)

      -- one entry of another unit or of this one
      put-is : (u : N) → IsKnown same (after same s e) u → (n : N) → IsKnown same s n → (y : Stand N M) (y' : Stand U R) → y' ≡ stand_named unit outcome y → (z : Stand N M) (z' : Stand U R) → z' ≡ stand_named unit outcome z → (if same_unit (unit n) (unit u) then y' else z') ≡ stand_named unit outcome (if same n u then y else z)
      put-is u known' n known y y' here z z' there = if-both (same_unit (unit n) (unit u)) (same n u) y' (stand_named unit outcome y) z' (stand_named unit outcome z) (agree n u known known') here there ∙ sym (if-ap (stand_named unit outcome) (same n u) y z)

    after-named : (s : Schedule N M) (e : Event N M) → Enabled same s e → TellsApart unit outcome same same_unit (after same s e) → AllEntries (λ n x. WaitsForKnown same laws s x) s → after same_unit (schedule_named unit outcome s) (event_named unit outcome e) ≡ schedule_named unit outcome (after same s e)
    after-named s (event.Demand u) enabled tells waits = sym (named-push s u at.Queued)
    after-named s (event.Claim w u kind) enabled tells waits = change-is s (event.Claim w u kind) enabled tells waits (moved same s (event.Claim w u kind)) (moved same_unit (schedule_named unit outcome s) (event_named unit outcome (event.Claim w u kind))) (λ n x known w'. put-is s (event.Claim w u kind) enabled tells waits u (known-now s (event.Claim w u kind) enabled tells waits u at.Queued enabled.0) n known (at.Claimed w) (at.Claimed w) refl x (stand_named unit outcome x) refl)
    after-named s (event.Need w u on) enabled tells waits = change-is s (event.Need w u on) enabled tells waits (moved same s (event.Need w u on)) (moved same_unit (schedule_named unit outcome s) (event_named unit outcome (event.Need w u on))) (λ n x known w'. put-is s (event.Need w u on) enabled tells waits u (known-now s (event.Need w u on) enabled tells waits u (at.Claimed w) enabled.0) n known
        (if is_some (done_in same s on) then at.Queued else at.Waiting on)
        (if is_some (done_in same_unit (schedule_named unit outcome s) (unit on)) then at.Queued else at.Waiting (unit on))
        (if-both (is_some (done_in same_unit (schedule_named unit outcome s) (unit on))) (is_some (done_in same s on)) at.Queued (stand_named unit outcome at.Queued) (at.Waiting (unit on)) (stand_named unit outcome (at.Waiting on)) (ap is_some (done-named s on (tells-of s (event.Need w u on) enabled tells waits on (known-stays same laws s (event.Need w u on) on enabled.1))) ∙ is_some-map outcome (done_in same s on)) refl refl ∙ sym (if-ap (stand_named unit outcome) (is_some (done_in same s on)) at.Queued (at.Waiting on)))
        x (stand_named unit outcome x) refl)
    after-named s (event.Finish w u r) enabled tells waits = change-is s (event.Finish w u r) enabled tells waits (moved same s (event.Finish w u r)) (moved same_unit (schedule_named unit outcome s) (event_named unit outcome (event.Finish w u r))) (λ n x known w'. put-is s (event.Finish w u r) enabled tells waits u (known-now s (event.Finish w u r) enabled tells waits u (at.Claimed w) enabled) n known (at.Done r) (at.Done (outcome r)) refl
        (if is_waiting_for same u x then at.Queued else x)
        (if is_waiting_for same_unit (unit u) (stand_named unit outcome x) then at.Queued else stand_named unit outcome x)
        (if-both (is_waiting_for same_unit (unit u) (stand_named unit outcome x)) (is_waiting_for same u x) at.Queued (stand_named unit outcome at.Queued) (stand_named unit outcome x) (stand_named unit outcome x) (waiting-named u x s (λ m known'. agree s (event.Finish w u r) enabled tells waits m u known' (known-now s (event.Finish w u r) enabled tells waits u (at.Claimed w) enabled)) w') refl refl ∙ sym (if-ap (stand_named unit outcome) (is_waiting_for same u x) at.Queued x)))
    after-named s (event.Reclaim w) enabled tells waits = change-is s (event.Reclaim w) enabled tells waits (moved same s (event.Reclaim w)) (moved same_unit (schedule_named unit outcome s) (event_named unit outcome (event.Reclaim w))) (λ n x known w'. if-both (is_claimed_by w (stand_named unit outcome x)) (is_claimed_by w x) at.Queued (stand_named unit outcome at.Queued) (stand_named unit outcome x) (stand_named unit outcome x) (claimed-named w x) refl refl ∙ sym (if-ap (stand_named unit outcome) (is_claimed_by w x) at.Queued x))

    enabled-named : (s : Schedule N M) (e : Event N M) → Enabled same s e → TellsApart unit outcome same same_unit (after same s e) → AllEntries (λ n x. WaitsForKnown same laws s x) s → Enabled same_unit (schedule_named unit outcome s) (event_named unit outcome e)
    enabled-named s (event.Demand u) enabled tells waits =
        let known' : IsKnown same (after same s (event.Demand u)) u = IsSome-of (stand same (s ++ (u, at.Queued) ∷ []) u) at.Queued (stand-append-new same s u u at.Queued enabled.0 ∙ ap (λ b. if b then Some at.Queued else None) (laws.self u)) in
        (stand-named s u (tells-of s (event.Demand u) enabled tells waits u known') ∙ ap (option_map (stand_named unit outcome)) enabled.0, subst (λ n. n < MOST_UNITS) (sym (length-named s)) enabled.1)
    enabled-named s (event.Claim w u kind) enabled tells waits = (
      stand-is s (event.Claim w u kind) enabled tells waits u at.Queued enabled.0,
      λ v is.
          let has : (n : N) × ((x : Stand N M) × ((same_unit (unit n) v ≡ true) × ((stand same s n ≡ Some x) × (stand_named unit outcome x ≡ at.Claimed w)))) = found s v (at.Claimed w) is in
          enabled.1 has.0 (has.1.1.1.0 ∙ ap (λ z. Some z) (named-claimed w has.1.0 has.1.1.1.1)),
    )
    enabled-named s (event.Need w u on) enabled tells waits = (stand-is s (event.Need w u on) enabled tells waits u (at.Claimed w) enabled.0, known-is s (event.Need w u on) enabled tells waits on enabled.1)
    enabled-named s (event.Finish w u r) enabled tells waits = stand-is s (event.Finish w u r) enabled tells waits u (at.Claimed w) enabled
    enabled-named s (event.Reclaim w) (u, is) tells waits = (unit u, stand-is s (event.Reclaim w) (u, is) tells waits u (at.Claimed w) is)

    waits-log : (log : List (Event N M)) → IsLog same log → AllEntries (λ n x. WaitsForKnown same laws (replay same log) x) (replay same log)
    waits-log [] possible = tt
    waits-log (e ∷ past) possible = waits-after same laws (replay same past) e possible.0 (waits-log past possible.1)

    tells-past : (past : List (Event N M)) (e : Event N M) → TellsApart unit outcome same same_unit (after same (replay same past) e) → TellsApart unit outcome same same_unit (replay same past)
    tells-past past e tells n m known known' = tells n m (known-stays same laws (replay same past) e n known) (known-stays same laws (replay same past) e m known')

    pub named-log : (log : List (Event N M)) → IsLog same log → TellsApart unit outcome same same_unit (replay same log) → IsNamedLog unit outcome same same_unit log
    named-log [] possible tells = record { possible = tt; schedule = refl }
    named-log (e ∷ past) possible tells =
        let before : IsNamedLog unit outcome same same_unit past = named-log past possible.1 (tells-past past e tells) in
        let waits : AllEntries (λ n x. WaitsForKnown same laws (replay same past) x) (replay same past) = waits-log past possible.1 in
        record {
          possible = (subst (λ t. Enabled same_unit t (event_named unit outcome e)) (sym before.schedule) (enabled-named (replay same past) e possible.0 tells waits), before.possible);
          schedule = ap (λ t. after same_unit t (event_named unit outcome e)) before.schedule ∙ after-named (replay same past) e possible.0 tells waits;
        }
