-- The machine's tables after an event say what the log with this event gives.
use Rattle.std.proofs.Common.{◌≡◌, ◌≢◌, ℕ, ◌+◌, Bool, true, false, List, [], ◌∷◌, ◌++◌, length, Option, Some, None, refl, sym, ap, ◌∙◌, subst, inl, inr, nat_eq, length-append, add-zero}
use Rattle.std.specs.Prelude.{if◌then◌else◌, is_some, ◌↔◌}
use Rattle.std.specs.Option.{option_map, option_and_then}
use Rattle.sched_core.specs.declared.event.Event.{Event}
use Rattle.sched_core.specs.declared.event.Stand.{Stand}
use Rattle.sched_core.specs.declared.event.Event.TheVariants as event
use Rattle.sched_core.specs.declared.event.Stand.TheVariants as at
use Rattle.sched_core.specs.Machine.{Schedule, result_at, is_claimed_by, is_waiting_for, stand, done_in, Enabled, moved, after, replay}
use Rattle.sched_core.specs.Tables.{Stands, Claims, put, as_read, read, put_back, stands_after, claims_after, new_units, Shows}
use Rattle.sched_core.proofs.Schedules.{stand-change, stand-append-known, stand-append-new, length-change}
use Rattle.sched_core.proofs.Entries.{nat_eq-self, nat_eq-other, nat_eq-sameness, same-or-other, put-here, put-there, result_in, result_in-read, as_read-results, result_in-put, claimed-read}

-- which workers have which units, by both tables
abbrev ClaimsAre : Stands → Claims → Type 0
ClaimsAre stands claims = (w u : ℕ) → (stands u ≡ Some (at.Claimed w)) ↔ (claims w ≡ Some (Some u))

-- a unit that is put elsewhere, and a worker without one
released : (stands : Stands) (claims : Claims) → ClaimsAre stands claims → (w u : ℕ) (x : Stand ℕ ℕ) → stands u ≡ Some (at.Claimed w) → ((v : ℕ) → x ≡ at.Claimed v → ⊥) → ClaimsAre (put stands u x) (put claims w None)
released stands claims are w u x claimed free v q = (there, back)
  where
    there : put stands u x q ≡ Some (at.Claimed v) → put claims w None v ≡ Some (Some q)
    there e = elim (same-or-other u q) [
      | inl is ↦ let here : put stands u x u ≡ Some (at.Claimed v) = subst (λ z. put stands u x z ≡ Some (at.Claimed v)) (sym is) e in let same : x ≡ at.Claimed v = let stored : put stands u x u ≡ Some x = put-here stands u x in cc in absurd (free v same)
      | inr ne ↦ let old : stands q ≡ Some (at.Claimed v) = sym (put-there stands u q x ne) ∙ e in
          let had : claims v ≡ Some (Some q) = (are v q).0 old in
          elim (same-or-other w v) [
            | inl is ↦ let first : claims w ≡ Some (Some u) = (are w u).0 claimed in let second : claims w ≡ Some (Some q) = ap claims is ∙ had in let same : u ≡ q = cc in absurd (ne same)
            | inr apart ↦ put-there claims w v None apart ∙ had
          ]
    ]

    back : put claims w None v ≡ Some (Some q) → put stands u x q ≡ Some (at.Claimed v)
    back e = elim (same-or-other w v) [
      | inl is ↦ let here : put claims w None w ≡ Some (Some q) = subst (λ z. put claims w None z ≡ Some (Some q)) (sym is) e in let stored : put claims w None w ≡ Some None = put-here claims w None in absurd (cc)
      | inr apart ↦ let old : stands q ≡ Some (at.Claimed v) = (are v q).1 (sym (put-there claims w v None apart) ∙ e) in
          elim (same-or-other u q) [
            | inl is ↦ let first : stands q ≡ Some (at.Claimed w) = ap stands (sym is) ∙ claimed in let same : w ≡ v = cc in absurd (apart same)
            | inr ne ↦ put-there stands u q x ne ∙ old
          ]
    ]

-- a unit that a worker takes
claimed : (stands : Stands) (claims : Claims) → ClaimsAre stands claims → (w u : ℕ) → ((v : ℕ) → stands u ≡ Some (at.Claimed v) → ⊥) → ((q : ℕ) → stands q ≡ Some (at.Claimed w) → ⊥) → ClaimsAre (put stands u (at.Claimed w)) (put claims w (Some u))
claimed stands claims are w u free idle v q = (there, back)
  where
    there : put stands u (at.Claimed w) q ≡ Some (at.Claimed v) → put claims w (Some u) v ≡ Some (Some q)
    there e = elim (same-or-other u q) [
      | inl is ↦ let here : put stands u (at.Claimed w) u ≡ Some (at.Claimed v) = subst (λ z. put stands u (at.Claimed w) z ≡ Some (at.Claimed v)) (sym is) e in
          let stored : put stands u (at.Claimed w) u ≡ Some (at.Claimed w) = put-here stands u (at.Claimed w) in
          let same : w ≡ v = cc in
          subst (λ z. put claims w (Some u) z ≡ Some (Some q)) same (put-here claims w (Some u) ∙ ap (λ z. Some (Some z)) is)
      | inr ne ↦ let old : stands q ≡ Some (at.Claimed v) = sym (put-there stands u q (at.Claimed w) ne) ∙ e in
          elim (same-or-other w v) [
            | inl is ↦ absurd (idle q (old ∙ ap (λ z. Some (at.Claimed z)) (sym is)))
            | inr apart ↦ put-there claims w v (Some u) apart ∙ (are v q).0 old
          ]
    ]

    back : put claims w (Some u) v ≡ Some (Some q) → put stands u (at.Claimed w) q ≡ Some (at.Claimed v)
    back e = elim (same-or-other w v) [
      | inl is ↦ let here : put claims w (Some u) w ≡ Some (Some q) = subst (λ z. put claims w (Some u) z ≡ Some (Some q)) (sym is) e in
          let stored : put claims w (Some u) w ≡ Some (Some u) = put-here claims w (Some u) in
          let same : u ≡ q = cc in
          subst (λ z. put stands u (at.Claimed w) z ≡ Some (at.Claimed v)) same (put-here stands u (at.Claimed w) ∙ ap (λ z. Some (at.Claimed z)) is)
      | inr apart ↦ let old : stands q ≡ Some (at.Claimed v) = (are v q).1 (sym (put-there claims w v (Some u) apart) ∙ e) in
          elim (same-or-other u q) [
            | inl is ↦ absurd (free v (ap stands is ∙ old))
            | inr ne ↦ put-there stands u q (at.Claimed w) ne ∙ old
          ]
    ]

-- a unit that becomes known
demanded : (stands : Stands) (claims : Claims) → ClaimsAre stands claims → (u : ℕ) → stands u ≡ None → ClaimsAre (put stands u at.Queued) claims
demanded stands claims are u none v q = (there, back)
  where
    there : put stands u at.Queued q ≡ Some (at.Claimed v) → claims v ≡ Some (Some q)
    there e = elim (same-or-other u q) [
      | inl is ↦ let here : put stands u at.Queued u ≡ Some (at.Claimed v) = subst (λ z. put stands u at.Queued z ≡ Some (at.Claimed v)) (sym is) e in let stored : put stands u at.Queued u ≡ Some at.Queued = put-here stands u at.Queued in absurd (cc)
      | inr ne ↦ (are v q).0 (sym (put-there stands u q at.Queued ne) ∙ e)
    ]

    back : claims v ≡ Some (Some q) → put stands u at.Queued q ≡ Some (at.Claimed v)
    back e = let old : stands q ≡ Some (at.Claimed v) = (are v q).1 e in elim (same-or-other u q) [
      | inl is ↦ let first : stands q ≡ None = ap stands (sym is) ∙ none in absurd (cc)
      | inr ne ↦ put-there stands u q at.Queued ne ∙ old
    ]

-- where a unit stands that the event puts elsewhere, and any other
map-moved : (stands : Stands) (f : Stand ℕ ℕ → Stand ℕ ℕ) (u : ℕ) (x : Stand ℕ ℕ) → read stands u ≡ Some x → option_map f (read stands u) ≡ Some (f x)
map-moved stands f u x e = ap (option_map f) e

map-same : (f : Stand ℕ ℕ → Stand ℕ ℕ) (x : Option (Stand ℕ ℕ)) → ((y : Stand ℕ ℕ) → f y ≡ y) → option_map f x ≡ x
map-same f None same = refl
map-same f (Some y) same = ap (λ z. Some z) (same y)

map-agree : (f g h : Stand ℕ ℕ → Stand ℕ ℕ) (x : Option (Stand ℕ ℕ)) → ((y : Stand ℕ ℕ) → x ≡ Some y → f y ≡ g (h y)) → option_map f x ≡ option_map g (option_map h x)
map-agree f g h None same = refl
map-agree f g h (Some y) same = ap (λ z. Some z) (same y refl)

if-other : (a b : ℕ) (x y : Stand ℕ ℕ) → a ≢ b → (if nat_eq a b then x else y) ≡ y
if-other a b x y ne = ap (λ t. if t then x else y) (nat_eq-other a b ne)

if-self : (a : ℕ) (x y : Stand ℕ ℕ) → (if nat_eq a a then x else y) ≡ x
if-self a x y = ap (λ t. if t then x else y) (nat_eq-self a)

module _ (stands : Stands) (s : Schedule ℕ ℕ) (are : (u : ℕ) → read stands u ≡ stand nat_eq s u) where
  -- results are those of the schedule
  done-is : (u : ℕ) → done_in nat_eq s u ≡ result_in stands u
  done-is u = ap (option_and_then result_at) (sym (are u)) ∙ result_in-read stands u

  result-none : (u : ℕ) (x : Stand ℕ ℕ) → read stands u ≡ Some x → result_at x ≡ None → result_in stands u ≡ None
  result-none u x e none = sym (result_in-read stands u) ∙ ap (option_and_then result_at) e ∙ none

  -- an event that puts one unit elsewhere, which neither was done nor is, and leaves the others
  moves-one : (e : Event ℕ ℕ) (u : ℕ) (x y : Stand ℕ ℕ) → stand nat_eq s u ≡ Some y → result_at y ≡ None → result_at x ≡ None → moved nat_eq s e u y ≡ as_read (put stands u x) x → ((v : ℕ) → u ≢ v → (z : Stand ℕ ℕ) → stand nat_eq s v ≡ Some z → moved nat_eq s e v z ≡ z) → (v : ℕ) → read (put stands u x) v ≡ option_map (moved nat_eq s e v) (stand nat_eq s v)
  moves-one e u x y at_y y_none x_none here others v = elim (same-or-other u v) [
    | inl is ↦ subst (λ w. read (put stands u x) w ≡ option_map (moved nat_eq s e w) (stand nat_eq s w)) is
        (ap (option_map (as_read (put stands u x))) (put-here stands u x) ∙ ap (λ z. Some z) (sym here) ∙ sym (ap (option_map (moved nat_eq s e u)) at_y))
    | inr ne ↦
        ap (option_map (as_read (put stands u x))) (put-there stands u v x ne)
        ∙ map-agree (as_read (put stands u x)) (moved nat_eq s e v) (as_read stands) (stands v) (λ z is. as_read-results stands (put stands u x) (result_in-put stands u x (result-none u y (are u ∙ at_y) y_none) x_none) z ∙ sym (others v ne (as_read stands z) (sym (are v) ∙ ap (option_map (as_read stands)) is)))
        ∙ ap (option_map (moved nat_eq s e v)) (are v)
  ]

-- a unit that is done wakes those that wait for it
abbrev waiting_on : Bool → ℕ → Stand ℕ ℕ
waiting_on b on = if b then at.Queued else at.Waiting on

finish-waiting : (u on : ℕ) (b : Bool) → u ≢ on → waiting_on b on ≡ (if is_waiting_for nat_eq u (waiting_on b on) then at.Queued else waiting_on b on)
finish-waiting u on true ne = refl
finish-waiting u on false ne = sym (if-other on u at.Queued (at.Waiting on) (λ is. ne (sym is)))

finish-reads : (stands : Stands) (u r : ℕ) (z : Stand ℕ ℕ) → result_in stands u ≡ None → as_read (put stands u (at.Done r)) z ≡ (if is_waiting_for nat_eq u (as_read stands z) then at.Queued else as_read stands z)
finish-reads stands u r at.Queued none = refl
finish-reads stands u r (at.Claimed w) none = refl
finish-reads stands u r (at.Done x) none = refl
finish-reads stands u r (at.Waiting on) none = elim (same-or-other u on) [
  | inl is ↦ subst (λ o. as_read (put stands u (at.Done r)) (at.Waiting o) ≡ (if is_waiting_for nat_eq u (as_read stands (at.Waiting o)) then at.Queued else as_read stands (at.Waiting o))) is
      (ap (λ x. if is_some (option_and_then result_at x) then at.Queued else at.Waiting u) (put-here stands u (at.Done r))
      ∙ sym (if-self u at.Queued (at.Waiting u))
      ∙ sym (ap (λ x. if is_waiting_for {U = ℕ} {R = ℕ} nat_eq u (if is_some x then at.Queued else at.Waiting u) then at.Queued else (if is_some x then at.Queued else at.Waiting u)) none))
  | inr ne ↦
      ap (λ x. if is_some (option_and_then result_at x) then at.Queued else at.Waiting on) (put-there stands u on (at.Done r) ne)
      ∙ finish-waiting u on (is_some (result_in stands on)) ne
]

unclaimed-other : (w : ℕ) (z : Stand ℕ ℕ) → (z ≡ at.Claimed w → ⊥) → (if is_claimed_by w z then at.Queued else z) ≡ z
unclaimed-other w at.Queued not_so = refl
unclaimed-other w (at.Done r) not_so = refl
unclaimed-other w (at.Waiting on) not_so = refl
unclaimed-other w (at.Claimed v) not_so = if-other v w at.Queued (at.Claimed v) (λ is. not_so (ap (λ x. at.Claimed x) is))

module _ (stands : Stands) (claims : Claims) (s : Schedule ℕ ℕ) (are : (u : ℕ) → read stands u ≡ stand nat_eq s u) (claims_are : ClaimsAre stands claims) where
  -- what the schedule says is claimed, both tables say
  pub stored-claim : (u w : ℕ) → stand nat_eq s u ≡ Some (at.Claimed w) → stands u ≡ Some (at.Claimed w)
  stored-claim u w e = claimed-read stands u w (are u ∙ e)

  -- and the other way round
  pub schedule-claim : (u w : ℕ) → stands u ≡ Some (at.Claimed w) → stand nat_eq s u ≡ Some (at.Claimed w)
  schedule-claim u w e = sym (are u) ∙ ap (option_map (as_read stands)) e

  -- of two units of one worker each is the other
  one-claim : (u v w : ℕ) → stands u ≡ Some (at.Claimed w) → stands v ≡ Some (at.Claimed w) → u ≡ v
  one-claim u v w e f = let first : claims w ≡ Some (Some u) = (claims_are w u).0 e in let second : claims w ≡ Some (Some v) = (claims_are w v).0 f in cc

  reclaimed : (w u : ℕ) → stands u ≡ Some (at.Claimed w) → stands_after stands claims (event.Reclaim w) ≡ put stands u at.Queued
  reclaimed w u e = ap (λ x. put_back stands (option_and_then (λ z. z) x)) ((claims_are w u).0 e)

  none-stored : (u : ℕ) (x : Option (Stand ℕ ℕ)) → stands u ≡ x → stand nat_eq s u ≡ None → x ≡ None
  none-stored u None is e = refl
  none-stored u (Some x) is e = let here : read stands u ≡ Some (as_read stands x) = ap (option_map (as_read stands)) is in let there : read stands u ≡ None = are u ∙ e in absurd (cc)

  stands-after : (e : Event ℕ ℕ) → Enabled nat_eq s e → (v : ℕ) → read (stands_after stands claims e) v ≡ stand nat_eq (after nat_eq s e) v
  stands-after (event.Demand u) enabled v = elim (same-or-other u v) [
    | inl is ↦ subst (λ w. read (put stands u at.Queued) w ≡ stand nat_eq (s ++ (u, at.Queued) ∷ []) w) is
        (ap (option_map (as_read (put stands u at.Queued))) (put-here stands u at.Queued) ∙ sym (stand-append-new nat_eq s u u at.Queued enabled.0 ∙ ap (λ b. if b then Some at.Queued else None) (nat_eq-self u)))
    | inr ne ↦ ap (option_map (as_read (put stands u at.Queued))) (put-there stands u v at.Queued ne) ∙ map-reads v ∙ other v ne (stand nat_eq s v) refl
  ]
    where
      none : result_in stands u ≡ None
      none = ap (option_and_then result_at) (none-stored u (stands u) refl enabled.0)

      map-reads : (w : ℕ) → option_map (as_read (put stands u at.Queued)) (stands w) ≡ stand nat_eq s w
      map-reads w = map-agree (as_read (put stands u at.Queued)) (λ z. z) (as_read stands) (stands w) (λ z is. as_read-results stands (put stands u at.Queued) (result_in-put stands u at.Queued none refl) z) ∙ map-same (λ z. z) (read stands w) (λ z. refl) ∙ are w

      other : (w : ℕ) → u ≢ w → (x : Option (Stand ℕ ℕ)) → stand nat_eq s w ≡ x → stand nat_eq s w ≡ stand nat_eq (s ++ (u, at.Queued) ∷ []) w
      other w ne None is = is ∙ sym (stand-append-new nat_eq s u w at.Queued is ∙ ap (λ b. if b then Some at.Queued else None) (nat_eq-other u w ne))
      other w ne (Some x) is = is ∙ sym (stand-append-known nat_eq s u w at.Queued x is)
  stands-after (event.Claim w u kind) enabled v = moves-one stands s are (event.Claim w u kind) u (at.Claimed w) at.Queued enabled.0 refl refl (if-self u (at.Claimed w) at.Queued) (λ q ne z is. if-other q u (at.Claimed w) z (λ same. ne (sym same))) v ∙ sym (stand-change nat_eq nat_eq-sameness (moved nat_eq s (event.Claim w u kind)) s v)
  stands-after (event.Need w u on) enabled v = moves-one stands s are (event.Need w u on) u (at.Waiting on) (at.Claimed w) enabled.0 refl refl (if-self u _ (at.Claimed w) ∙ ap (λ x. if is_some x then at.Queued else at.Waiting on) (done-is stands s are on ∙ sym (result_in-put stands u (at.Waiting on) none refl on))) (λ q ne z is. if-other q u _ z (λ same. ne (sym same))) v ∙ sym (stand-change nat_eq nat_eq-sameness (moved nat_eq s (event.Need w u on)) s v)
    where
      none : result_in stands u ≡ None
      none = result-none stands s are u (at.Claimed w) (are u ∙ enabled.0) refl
  stands-after (event.Finish w u r) enabled v = elim (same-or-other u v) [
    | inl is ↦ subst (λ q. read (put stands u (at.Done r)) q ≡ option_map (moved nat_eq s (event.Finish w u r) q) (stand nat_eq s q)) is
        (ap (option_map (as_read (put stands u (at.Done r)))) (put-here stands u (at.Done r)) ∙ ap (λ z. Some z) (sym (if-self u (at.Done r) _)) ∙ sym (ap (option_map (moved nat_eq s (event.Finish w u r) u)) enabled))
    | inr ne ↦
        ap (option_map (as_read (put stands u (at.Done r)))) (put-there stands u v (at.Done r) ne)
        ∙ map-agree (as_read (put stands u (at.Done r))) (moved nat_eq s (event.Finish w u r) v) (as_read stands) (stands v) (λ z is. finish-reads stands u r z none ∙ sym (if-other v u (at.Done r) _ (λ same. ne (sym same))))
        ∙ ap (option_map (moved nat_eq s (event.Finish w u r) v)) (are v)
  ] ∙ sym (stand-change nat_eq nat_eq-sameness (moved nat_eq s (event.Finish w u r)) s v)
    where
      none : result_in stands u ≡ None
      none = result-none stands s are u (at.Claimed w) (are u ∙ enabled) refl
  stands-after (event.Reclaim w) (u, is) v = ap (λ t. read t v) (reclaimed w u (stored-claim u w is)) ∙ moves-one stands s are (event.Reclaim w) u at.Queued (at.Claimed w) is refl refl (if-self w at.Queued (at.Claimed w)) (λ q ne z at_z. unclaimed-other w z (λ claimed_z. ne (one-claim u q w (stored-claim u w is) (stored-claim q w (at_z ∙ ap (λ x. Some x) claimed_z))))) v ∙ sym (stand-change nat_eq nat_eq-sameness (moved nat_eq s (event.Reclaim w)) s v)

  claims-after : (e : Event ℕ ℕ) → Enabled nat_eq s e → ClaimsAre (stands_after stands claims e) (claims_after claims e)
  claims-after (event.Demand u) enabled = demanded stands claims claims_are u (none-stored u (stands u) refl enabled.0)
  claims-after (event.Claim w u kind) enabled = claimed stands claims claims_are w u (λ v e. let here : stand nat_eq s u ≡ Some (at.Claimed v) = schedule-claim u v e in let there : stand nat_eq s u ≡ Some at.Queued = enabled.0 in cc) (λ q e. enabled.1 q (schedule-claim q w e))
  claims-after (event.Need w u on) enabled = released stands claims claims_are w u (at.Waiting on) (stored-claim u w enabled.0) (λ v e. cc)
  claims-after (event.Finish w u r) enabled = released stands claims claims_are w u (at.Done r) (stored-claim u w enabled) (λ v e. cc)
  claims-after (event.Reclaim w) (u, is) = subst (λ t. ClaimsAre t (put claims w None)) (sym (reclaimed w u (stored-claim u w is))) (released stands claims claims_are w u at.Queued (stored-claim u w is) (λ v e. cc))

known-after : (s : Schedule ℕ ℕ) (e : Event ℕ ℕ) → length s + new_units e ≡ length (after nat_eq s e)
known-after s (event.Demand u) = sym (length-append s ((u, at.Queued) ∷ []))
known-after s (event.Claim w u kind) = add-zero (length s) ∙ sym (length-change (moved nat_eq s (event.Claim w u kind)) s)
known-after s (event.Need w u on) = add-zero (length s) ∙ sym (length-change (moved nat_eq s (event.Need w u on)) s)
known-after s (event.Finish w u r) = add-zero (length s) ∙ sym (length-change (moved nat_eq s (event.Finish w u r)) s)
known-after s (event.Reclaim w) = add-zero (length s) ∙ sym (length-change (moved nat_eq s (event.Reclaim w)) s)

-- the tables after an event that may happen say what the longer log gives
pub shows-after : (stands stands' : Stands) (claims claims' : Claims) (known known' : ℕ) (log : List (Event ℕ ℕ)) (e : Event ℕ ℕ) → Shows stands claims known log → Enabled nat_eq (replay nat_eq log) e → ((q : ℕ) → stands' q ≡ stands_after stands claims e q) → ((q : ℕ) → claims' q ≡ claims_after claims e q) → known' ≡ known + new_units e → Shows stands' claims' known' (e ∷ log)
shows-after stands stands' claims claims' known known' log e shows enabled units workers count =
    let first : Shows (stands_after stands claims e) (claims_after claims e) known' (e ∷ log) = record {
      possible = (enabled, shows.possible);
      stands_are = stands-after stands claims (replay nat_eq log) shows.stands_are shows.claims_are e enabled;
      known_are = count ∙ ap (λ n. n + new_units e) shows.known_are ∙ known-after (replay nat_eq log) e;
      claims_are = claims-after stands claims (replay nat_eq log) shows.stands_are shows.claims_are e enabled;
    } in
    let second : Shows stands' (claims_after claims e) known' (e ∷ log) = subst (λ t. Shows t (claims_after claims e) known' (e ∷ log)) (sym (λ i q. units q i)) first in
    subst (λ t. Shows stands' t known' (e ∷ log)) (sym (λ i q. workers q i)) second
