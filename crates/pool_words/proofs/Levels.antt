-- Slots of a level, and what a row put into one does to them.
use Rattle.std.proofs.Common.{◌≡◌, ◌≢◌, ⊎_elim, ℕ, zero, suc, ◌+◌, ◌<◌, List, [], ◌∷◌, ◌++◌, length, set, replicate, refl, sym, ap, ◌∙◌, subst, arith, get_or-set_same, get_or-set_other, length-append, slice_index}
use Rattle.std.proofs.lemmas.Bool.{cases_eq}
use Rattle.std.proofs.lemmas.List.{get_or-replicate}
use Rattle.pool_words.specs.Layout.{Row, width, spot}
use Rattle.pool_words.specs.Rule.{In, Stands, HasRows, taken}
use Rattle.pool_words.proofs.Places.{spot_in, spot_reaches}
use Rattle.pool_words.proofs.Members.{In-push, In-left, In-last}

-- slots that are not 0 stay
abbrev pub KeepsSlots : List ℕ → List ℕ → ℕ → Type 0
KeepsSlots slots slots' k = (j : ℕ) → j < width k → slice_index slots j ≢ 0 → slice_index slots' j ≡ slice_index slots j

above_zero : (n m : ℕ) → n ≡ m + 1 → n ≢ 0
above_zero n m e z = absurd (omega arith)

pub Stands-kept : (slots slots' : List ℕ) (k : ℕ) (r : Row) → KeepsSlots slots slots' k → Stands slots k r → Stands slots' k r
Stands-kept slots slots' k r h s = record {
  far = s.far;
  within = s.within;
  here = h (spot r.1 k s.far) (spot_in r.1 k s.far) (above_zero _ r.0 s.here) ∙ s.here;
  run = λ d l z. s.run d l (sym (h (spot r.1 k d) (spot_in r.1 k d) (s.run d l)) ∙ z);
}

pub set_keeps : (slots : List ℕ) (k j x : ℕ) → slice_index slots j ≡ 0 → KeepsSlots slots (set slots j x) k
set_keeps slots k j x free i l n = ⊎_elim (λ e. absurd (n (ap (slice_index slots) e ∙ free))) (λ e. get_or-set_other slots j i x 0 e) (cases_eq i j)

pub taken-set : (slots : List ℕ) (j x : ℕ) → j < length slots → slice_index slots j ≡ 0 → x ≢ 0 → taken (set slots j x) ≡ suc (taken slots)
taken-set [] j x l f n = absurd (omega arith)
taken-set (zero ∷ ys) zero zero l f n = absurd (n refl)
taken-set (zero ∷ ys) zero (suc x) l f n = refl
taken-set (suc y ∷ ys) zero x l f n = absurd (omega arith)
taken-set (zero ∷ ys) (suc j) x l f n = taken-set ys j x (omega arith) f n
taken-set (suc y ∷ ys) (suc j) x l f n = ap suc (taken-set ys j x (omega arith) f n)

pub taken-zeros : (n : ℕ) → taken (replicate n 0) ≡ 0
taken-zeros zero = refl
taken-zeros (suc n) = taken-zeros n

pub taken-all : (slots : List ℕ) → ((j : ℕ) → j < length slots → slice_index slots j ≢ 0) → taken slots ≡ length slots
taken-all [] h = refl
taken-all (zero ∷ ys) h = absurd (h 0 (omega arith) refl)
taken-all (suc y ∷ ys) h = ap suc (taken-all ys (λ j l. h (suc j) (omega arith)))

-- where no slot of a key's circle is 0, none of the level is
pub circle_full : (slots : List ℕ) (ws : List ℕ) (k : ℕ) → length slots ≡ width k → ((d : ℕ) → d < width k → slice_index slots (spot ws k d) ≢ 0) → taken slots ≡ width k
circle_full slots ws k e h = taken-all slots (λ j l. let s = spot_reaches ws k j (omega arith) in subst (λ n. slice_index slots n ≢ 0) s.2 (h s.0 s.1)) ∙ e

pub HasRows-none : (k : ℕ) → HasRows (replicate (width k) 0) k []
HasRows-none k = record {
  stands = λ r h. absurd h;
  backed = λ j l n. absurd (n (get_or-replicate (width k) j 0 0 l));
  counted = taken-zeros (width k);
}

-- one row more, in the first free slot of its circle
pub HasRows-set : (slots : List ℕ) (k : ℕ) (rows : List Row) (r : Row) (far : ℕ) → length slots ≡ width k → HasRows slots k rows → far < width k → slice_index slots (spot r.1 k far) ≡ 0
    → ((d : ℕ) → d < far → slice_index slots (spot r.1 k d) ≢ 0) → HasRows (set slots (spot r.1 k far) (r.0 + 1)) k (rows ++ r ∷ [])
HasRows-set slots k rows r far len h within free run = record {
  stands = λ q i. ⊎_elim (λ o. Stands-kept slots put k q keeps (h.stands q o)) (λ e. subst (Stands put k) (sym e) new) (In-push q r rows i);
  backed = λ i l n. ⊎_elim (λ e. (r, In-last r rows, ap (slice_index put) e ∙ here)) (λ e. old i l e n) (cases_eq i j);
  counted = taken-set slots j (r.0 + 1) low free (above_zero _ r.0 refl) ∙ ap suc h.counted ∙ sym (length-append rows (r ∷ []) ∙ one_more (length rows));
}
  where
    j : ℕ
    j = spot r.1 k far

    put : List ℕ
    put = set slots (spot r.1 k far) (r.0 + 1)

    one_more : (n : ℕ) → n + 1 ≡ suc n
    one_more n = omega arith

    low : spot r.1 k far < length slots
    low = let s = spot_in r.1 k far in omega arith

    keeps : KeepsSlots slots (set slots (spot r.1 k far) (r.0 + 1)) k
    keeps = set_keeps slots k (spot r.1 k far) (r.0 + 1) free

    here : slice_index (set slots (spot r.1 k far) (r.0 + 1)) (spot r.1 k far) ≡ r.0 + 1
    here = get_or-set_same slots (spot r.1 k far) (r.0 + 1) 0 low

    new : Stands (set slots (spot r.1 k far) (r.0 + 1)) k r
    new = record {
      far = far;
      within = within;
      here = here;
      run = λ d l z. run d l (sym (keeps (spot r.1 k d) (spot_in r.1 k d) (run d l)) ∙ z);
    }

    old : (i : ℕ) → i < width k → (i ≡ spot r.1 k far → ⊥) → slice_index (set slots (spot r.1 k far) (r.0 + 1)) i ≢ 0 → (q : Row) × In q (rows ++ r ∷ []) × (slice_index (set slots (spot r.1 k far) (r.0 + 1)) i ≡ q.0 + 1)
    old i l e n =
        let same : slice_index (set slots (spot r.1 k far) (r.0 + 1)) i ≡ slice_index slots i = get_or-set_other slots (spot r.1 k far) i (r.0 + 1) 0 e in
        let b = h.backed i l (λ z. n (same ∙ z)) in
        (b.0, In-left b.0 rows (r ∷ []) b.1, same ∙ b.2)
