-- Whether the first update answered memory, by what was written of its answer.
use Rattle.std.proofs.Common.{◌≡◌, ◌≢◌, ℕ, zero, suc, ◌+◌, ◌-◌, ◌<◌, ◌≤◌, ◌==◌, ◌||◌, Bool, true, false, if◌then◌else◌, List, [], ◌∷◌, ◌++◌, length, take, drop, get_or, codes, nat_eq, refl, ap, sym, ◌∙◌, subst, arith, append_assoc, append-nil, ◌⊎◌, inl, inr}
use Rattle.std.specs.Fmt.{decimal}
use Rattle.std.specs.List.{concat, list_any, starts_with}
use Rattle.std.proofs.lemmas.Fmt.{decimal_digit}
use Rattle.std.proofs.Math.Seq.{take-append-add, take-length}
use Rattle.std.proofs.lemmas.Bool.Decides.{Decides-eqb}
use Rattle.std.proofs.lemmas.List.{take-append-drop, take-append-le}
use Rattle.std.proofs.lemmas.List.Folds.{list_any-append}
use Rattle.std.proofs.lemmas.Slice.Eq.{starts_is}
use Rattle.diag_order.specs.declared.line.Line.{Line}
use Rattle.watch_core.specs.declared.session.Update.{Update}
use Rattle.watch_core.specs.declared.session.Update.TheVariants as update
use Rattle.watch_main.specs.AnswerText.{update_text}
use Rattle.watch_main.specs.Memory.{memory_from, memory_in, memory_mark, marked, answer_len}
use Rattle.watch_main.specs.RunOnce.{IsFrontOf}

pub one : decimal 1 ≡ codes "1"
one = decimal_digit 1 (omega arith)

mark_is : memory_mark 1 ≡ codes "update 1 me"
mark_is = ap (λ (d : List ℕ). concat (codes "update " ∷ d ∷ codes " me" ∷ [])) one

-- ---- the walk

-- it finds no number before the first
not_before : (number skip : ℕ) (text : List ℕ) (k : ℕ) → k < number → list_any (λ n. n == k) (memory_from number skip text) ≡ false
unfolding memory_from
not_before number skip [] k h = refl
not_before number (suc skip) (b ∷ text) k h = not_before number skip text k h
not_before number zero (b ∷ text) k h =
    list_any-append (λ n. n == k) (marked number (b ∷ text)) (memory_from (number + 1) (answer_len (b ∷ text) - 1) text)
    ∙ ap (λ (c : Bool). list_any (λ n. n == k) (marked number (b ∷ text)) || c) (not_before (number + 1) (answer_len (b ∷ text) - 1) text k (omega arith))
    ∙ here (starts_with nat_eq (b ∷ text) (memory_mark number))
  where
    differ : (number == k) ≡ false
    differ = grind arith

    here : (c : Bool) → (list_any (λ n. n == k) (if c then number ∷ [] else []) || false) ≡ false
    here true = rw differ refl
    here false = refl

-- the first update is found by the mark at the front
pub first_found : (written : List ℕ) → memory_in written 1 ≡ starts_with nat_eq written (codes "update 1 me")
unfolding memory_from
first_found [] = refl
first_found (b ∷ text) =
    list_any-append (λ n. n == 1) (marked 1 (b ∷ text)) (memory_from (1 + 1) (answer_len (b ∷ text) - 1) text)
    ∙ ap (λ (c : Bool). list_any (λ n. n == 1) (marked 1 (b ∷ text)) || c) (not_before (1 + 1) (answer_len (b ∷ text) - 1) text 1 (omega arith))
    ∙ here (starts_with nat_eq (b ∷ text) (memory_mark 1))
    ∙ ap (starts_with nat_eq (b ∷ text)) mark_is
  where
    here : (c : Bool) → (list_any (λ n. n == 1) (if c then 1 ∷ [] else []) || false) ≡ c
    here true = refl
    here false = refl

begins : (written : List ℕ) → starts_with nat_eq written (codes "update 1 me") ≡ true → written ≡ codes "update 1 me" ++ drop 11 written
begins written h = (starts_is Decides-eqb written (codes "update 1 me") _ refl).0 h

begun : (written rest : List ℕ) → written ≡ codes "update 1 me" ++ rest → memory_in written 1 ≡ true
begun written rest e = first_found written ∙ (starts_is Decides-eqb written (codes "update 1 me") _ refl).1 rest e

-- ---- answers

pub memory_text : update_text 1 update.Memory ≡ codes "update 1 memory\n"
memory_text = ap (λ (d : List ℕ). concat (codes "update " ∷ d ∷ codes " memory\n" ∷ [])) one

module_begins : (bytes : List ℕ) (analysed reused : ℕ) → (rest : List ℕ) × (update_text 1 (update.Module bytes analysed reused) ≡ codes "update 1 mo" ++ rest)
module_begins bytes analysed reused = (drop 11 (update_text 1 (update.Module bytes analysed reused)), rw one refl)

errors_begin : (lines : List Line) (analysed reused : ℕ) → (rest : List ℕ) × (update_text 1 (update.Errors lines analysed reused) ≡ codes "update 1 e" ++ rest)
errors_begin lines analysed reused = (drop 10 (update_text 1 (update.Errors lines analysed reused)), rw one refl)

no_mark : (written : List ℕ) → (written ≡ codes "update 1 me" ++ drop 11 written → ⊥) → memory_in written 1 ≡ false
no_mark written none = first_found written ∙ tested (starts_with nat_eq written (codes "update 1 me")) refl
  where
    tested : (c : Bool) → starts_with nat_eq written (codes "update 1 me") ≡ c → c ≡ false
    tested true e = absurd (none (begins written e))
    tested false e = refl

-- the front of another answer doesn't tell of memory
pub no_memory_told : (answer : Update) (written : List ℕ) → answer ≢ update.Memory → IsFrontOf written (update_text 1 answer) → memory_in written 1 ≡ false
no_memory_told (update.Module bytes analysed reused) written other front = no_mark written (λ e.
    let text = module_begins bytes analysed reused in
    let same : codes "update 1 mo" ++ text.0 ≡ (codes "update 1 me" ++ drop 11 written) ++ front.0 = sym text.1 ∙ front.1 ∙ ap (λ (w : List ℕ). w ++ front.0) e in
    let letter : 111 ≡ 101 = ap (λ (l : List ℕ). get_or l 10 0) same in
    omega arith)
no_memory_told (update.Errors lines analysed reused) written other front = no_mark written (λ e.
    let text = errors_begin lines analysed reused in
    let same : codes "update 1 e" ++ text.0 ≡ (codes "update 1 me" ++ drop 11 written) ++ front.0 = sym text.1 ∙ front.1 ∙ ap (λ (w : List ℕ). w ++ front.0) e in
    let letter : 101 ≡ 109 = ap (λ (l : List ℕ). get_or l 9 0) same in
    omega arith)
no_memory_told update.Memory written other front = absurd (other refl)

-- the whole answer of memory tells of it
pub memory_told : (written : List ℕ) → written ≡ update_text 1 update.Memory → memory_in written 1 ≡ true
memory_told written e = begun written (codes "mory\n") (e ∙ memory_text)

-- the front of all answers
pub record IsShort (written : List ℕ) : Type 0 where
  pub rest : List ℕ
  pub whole : codes "update 1 " ≡ written ++ rest

over : (k n : ℕ) → (n < k) ⊎ (k ≤ n)
over zero n = inr (omega arith)
over (suc k) zero = inl (omega arith)
over (suc k) (suc n) = elim (over k n) [ inl h ↦ inl (omega arith) | inr h ↦ inr (omega arith) ]

-- what stands in the front stands in all
front_at : (n : ℕ) (written rest all : List ℕ) → all ≡ written ++ rest → n ≤ length written → take n written ≡ take n all
front_at n written rest all e h = sym (ap (take n) e ∙ take-append-le n written rest h)

-- The front of memory's answer tells of memory; or it is the front of any answer, or leaves memory open.
pub memory_front : (written : List ℕ) → IsFrontOf written (update_text 1 update.Memory) → (memory_in written 1 ≡ true) ⊎ IsShort written ⊎ (written ≡ codes "update 1 m")
memory_front written front = long (over 11 (length written))
  where
    all : codes "update 1 memory\n" ≡ written ++ front.0
    all = sym memory_text ∙ front.1

    at_ten : length written < 11 → 10 ≤ length written → written ≡ codes "update 1 m"
    at_ten h k =
        let ten : length written ≡ 10 = omega arith in
        sym (ap (λ (n : ℕ). take n written) (sym ten) ∙ take-length written) ∙ front_at 10 written front.0 (codes "update 1 memory\n") all k

    below : length written < 10 → IsShort written
    below h =
        let sum : 9 ≡ length written + (9 - length written) = omega arith in
        record {
          rest = take (9 - length written) front.0;
          whole = ap (take 9) all ∙ ap (λ (n : ℕ). take n (written ++ front.0)) sum ∙ take-append-add written front.0 (9 - length written);
        }

    short : length written < 11 → (length written < 10) ⊎ (10 ≤ length written) → IsShort written ⊎ (written ≡ codes "update 1 m")
    short h (inl k) = inl (below k)
    short h (inr k) = inr (at_ten h k)

    long : (length written < 11) ⊎ (11 ≤ length written) → (memory_in written 1 ≡ true) ⊎ IsShort written ⊎ (written ≡ codes "update 1 m")
    long (inl h) = inr (short h (over 10 (length written)))
    long (inr h) =
        let mark : take 11 written ≡ codes "update 1 me" = front_at 11 written front.0 (codes "update 1 memory\n") all h in
        inl (begun written (drop 11 written) (sym (take-append-drop 11 written) ∙ ap (λ (w : List ℕ). w ++ drop 11 written) mark))

-- every answer begins so
pub answer_begins : (answer : Update) → (rest : List ℕ) × (update_text 1 answer ≡ codes "update 1 " ++ rest)
answer_begins (update.Module bytes analysed reused) = (drop 9 (update_text 1 (update.Module bytes analysed reused)), rw one refl)
answer_begins (update.Errors lines analysed reused) = (drop 9 (update_text 1 (update.Errors lines analysed reused)), rw one refl)
answer_begins update.Memory = (codes "memory\n", memory_text)
