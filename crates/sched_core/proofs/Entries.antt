-- Lemmas on the machine's tables: entries that are put, and results that are read.
use Rattle.std.proofs.Common.{◌≡◌, ◌≢◌, ℕ, Bool, true, false, ◌⊎◌, Option, Some, None, refl, sym, ap, ◌∙◌, subst, inl, inr, nat_eq}
use Rattle.std.specs.Prelude.{if◌then◌else◌, is_some}
use Rattle.std.specs.Option.{option_map, option_and_then}
use Rattle.std.proofs.lemmas.Bool.Decides.{eqb_tells}
use Rattle.sched_core.specs.declared.event.Stand.{Stand}
use Rattle.sched_core.specs.declared.event.Stand.TheVariants as at
use Rattle.sched_core.specs.Machine.{IsSameness, result_at}
use Rattle.sched_core.specs.Tables.{Stands, put, as_read, read}

pub nat_eq-self : (n : ℕ) → nat_eq n n ≡ true
nat_eq-self n = elim (eqb_tells n n) [ inl yes_ ↦ yes_.0 | inr no_ ↦ absurd (no_.1 refl) ]

pub nat_eq-sound : (a b : ℕ) → nat_eq a b ≡ true → a ≡ b
nat_eq-sound a b e = elim (eqb_tells a b) [ inl yes_ ↦ yes_.1 | inr no_ ↦ let f : nat_eq a b ≡ false = no_.0 in absurd (cc) ]

pub nat_eq-other : (a b : ℕ) → a ≢ b → nat_eq a b ≡ false
nat_eq-other a b ne = elim (eqb_tells a b) [ inl yes_ ↦ absurd (ne yes_.1) | inr no_ ↦ no_.0 ]

pub nat_eq-sameness : IsSameness nat_eq
nat_eq-sameness = record { sound = nat_eq-sound; self = nat_eq-self }

pub same-or-other : (a b : ℕ) → (a ≡ b) ⊎ (a ≢ b)
same-or-other a b = elim (eqb_tells a b) [ inl yes_ ↦ inl yes_.1 | inr no_ ↦ inr no_.1 ]

pub put-here : {X : Type 0} (table : ℕ → Option X) (k : ℕ) (x : X) → put table k x k ≡ Some x
put-here table k x = ap (λ b. if b then Some x else table k) (nat_eq-self k)

pub put-there : {X : Type 0} (table : ℕ → Option X) (k q : ℕ) (x : X) → k ≢ q → put table k x q ≡ table q
put-there table k q x ne = ap (λ b. if b then Some x else table q) (nat_eq-other k q ne)

-- the result of a unit, by the table
abbrev pub result_in : Stands → ℕ → Option ℕ
result_in stands u = option_and_then result_at (stands u)

result_at-as_read : (stands : Stands) (x : Stand ℕ ℕ) → result_at (as_read stands x) ≡ result_at x
result_at-as_read stands (at.Waiting on) = go (is_some (result_in stands on))
  where
    go : (b : Bool) → result_at {U = ℕ} {R = ℕ} (if b then at.Queued else at.Waiting on) ≡ None
    go true = refl
    go false = refl
result_at-as_read stands at.Queued = refl
result_at-as_read stands (at.Claimed w) = refl
result_at-as_read stands (at.Done r) = refl

-- it is the one that is read
result_in-map : (stands : Stands) (x : Option (Stand ℕ ℕ)) → option_and_then result_at (option_map (as_read stands) x) ≡ option_and_then result_at x
result_in-map stands None = refl
result_in-map stands (Some x) = result_at-as_read stands x

pub result_in-read : (stands : Stands) (u : ℕ) → option_and_then result_at (read stands u) ≡ result_in stands u
result_in-read stands u = result_in-map stands (stands u)

-- stands are read by results alone
pub as_read-results : (stands stands' : Stands) → ((u : ℕ) → result_in stands' u ≡ result_in stands u) → (x : Stand ℕ ℕ) → as_read stands' x ≡ as_read stands x
as_read-results stands stands' same (at.Waiting on) = ap (λ r. if is_some r then at.Queued else at.Waiting on) (same on)
as_read-results stands stands' same at.Queued = refl
as_read-results stands stands' same (at.Claimed w) = refl
as_read-results stands stands' same (at.Done r) = refl

-- an entry without a result, in place of another, changes no result
pub result_in-put : (stands : Stands) (u : ℕ) (x : Stand ℕ ℕ) → result_in stands u ≡ None → result_at x ≡ None → (v : ℕ) → result_in (put stands u x) v ≡ result_in stands v
result_in-put stands u x before after v = elim (same-or-other u v) [ inl is ↦ subst (λ w. result_in (put stands u x) w ≡ result_in stands w) is (ap (option_and_then result_at) (put-here stands u x) ∙ after ∙ sym before) | inr ne ↦ ap (option_and_then result_at) (put-there stands u v x ne) ]

-- what is read as claimed is stored so
waits-unclaimed : (on w : ℕ) (b : Bool) (x : Stand ℕ ℕ) → x ≡ (if b then at.Queued else at.Waiting on) → Some x ≡ Some (at.Claimed w) → ⊥
waits-unclaimed on w true x is e = cc
waits-unclaimed on w false x is e = cc

claimed-stored : (stands : Stands) (w : ℕ) (x : Option (Stand ℕ ℕ)) → option_map (as_read stands) x ≡ Some (at.Claimed w) → x ≡ Some (at.Claimed w)
claimed-stored stands w None e = absurd (cc)
claimed-stored stands w (Some at.Queued) e = absurd (cc)
claimed-stored stands w (Some (at.Claimed v)) e = e
claimed-stored stands w (Some (at.Done r)) e = absurd (cc)
claimed-stored stands w (Some (at.Waiting on)) e = absurd (waits-unclaimed on w (is_some (result_in stands on)) (as_read stands (at.Waiting on)) refl e)

pub claimed-read : (stands : Stands) (u w : ℕ) → read stands u ≡ Some (at.Claimed w) → stands u ≡ Some (at.Claimed w)
claimed-read stands u w e = claimed-stored stands w (stands u) e
