-- Moves that are put behind others.
use Rattle.std.proofs.Common.{◌≡◌, ℕ, zero, suc, ◌+◌, ◌<◌, Bool, true, false, Some, None, Option, List, [], ◌∷◌, ◌++◌, length, refl, sym, ap, ◌∙◌, if◌then◌else◌, arith, length-append}
use Rattle.std.specs.Prelude.{slice_get}
use Rattle.elab_form.proofs.Sameness.{true-together}
use Rattle.trace_log.specs.declared.answer.Answer.{Answer}
use Rattle.trace_log.specs.declared.question.UnitIndex.{UnitIndex}
use Rattle.trace_log.specs.declared.question.Question.{Question}
use Rattle.trace_log.specs.declared.trace.Move.{Move}
use Rattle.trace_log.specs.declared.trace.Move.TheVariants as move
use Rattle.trace_log.specs.TableStates.{same_question, PutsQuestion}
use Rattle.trace_log.specs.Traces.{recall, answer_in, answer_by, HasPlaces}
use Rattle.trace_log.proofs.Sameness.{same_question-self, same_question-true}

same_question-sym : (p q : Question) → same_question p q ≡ same_question q p
same_question-sym p q =
    true-together _ _
    (λ e. ap (λ r. same_question r p) (sym (same_question-true p q e)) ∙ same_question-self p)
    (λ e. ap (λ r. same_question r q) (sym (same_question-true q p e)) ∙ same_question-self q)

slice_get-front : {A : Type 0} (xs ys : List A) (i : ℕ) → i < length xs → slice_get (xs ++ ys) i ≡ slice_get xs i
slice_get-front [] ys i h = absurd (omega arith)
slice_get-front (x ∷ xs) ys zero h = refl
slice_get-front (x ∷ xs) ys (suc i) h = slice_get-front xs ys i (omega arith)

slice_get-last : {A : Type 0} (xs : List A) (x : A) → slice_get (xs ++ x ∷ []) (length xs) ≡ Some x
slice_get-last [] x = refl
slice_get-last (y ∷ xs) x = slice_get-last xs x

answer_by-front : (ms : List Move) (m : Move) (place : Option ℕ) → ((n : ℕ) → place ≡ Some n → n < length ms) → answer_by (ms ++ m ∷ []) place ≡ answer_by ms place
answer_by-front ms m None h = refl
answer_by-front ms m (Some n) h = ap answer_in (slice_get-front ms (m ∷ []) n (h n refl))

length-more : (ms : List Move) (m : Move) → length (ms ++ m ∷ []) ≡ length ms + 1
length-more ms m = length-append ms (m ∷ [])

-- ---- a unit that is referred to

recall-referred : (ms : List Move) (u : UnitIndex) (q : Question) → recall (ms ++ move.Referred u ∷ []) q ≡ recall ms q
recall-referred [] u q = refl
recall-referred (move.Asked p a ∷ ms) u q = ap (λ r. if same_question p q then Some a else r) (recall-referred ms u q)
recall-referred (move.Referred v ∷ ms) u q = recall-referred ms u q

pub places-referred : (ms : List Move) (places : Question → Option ℕ) (u : UnitIndex) → HasPlaces ms places → HasPlaces (ms ++ move.Referred u ∷ []) places
places-referred ms places u h = record {
  finds = λ q. answer_by-front ms (move.Referred u) (places q) (h.within q) ∙ (h.finds q ∙ sym (recall-referred ms u q));
  within = λ q n e. let below = h.within q n e in omega (arith, length-more ms (move.Referred u));
}

-- ---- a question with its answer

-- the answer that stands first
abbrev first_of : Option Answer → Option Answer → Option Answer
first_of None b = b
first_of (Some a) b = Some a

recall-asked : (ms : List Move) (q : Question) (a : Answer) (p : Question)
    → recall (ms ++ move.Asked q a ∷ []) p ≡ first_of (recall ms p) (if same_question q p then Some a else None)
recall-asked [] q a p = refl
recall-asked (move.Asked r b ∷ ms) q a p =
    ap (λ x. if same_question r p then Some b else x) (recall-asked ms q a p)
    ∙ elim (same_question r p) as (λ c. (if c then Some b else first_of (recall ms p) (if same_question q p then Some a else None)) ≡ first_of (if c then Some b else recall ms p) (if same_question q p then Some a else None)) [
      | true ↦ refl
      | false ↦ refl
    ]
recall-asked (move.Referred v ∷ ms) q a p = recall-asked ms q a p

first-none : (r : Option Answer) → first_of r None ≡ r
first-none None = refl
first-none (Some a) = refl

-- what is found of a question where the test tells whether it is the one that was put last
found : (ms : List Move) (places now : Question → Option ℕ) (q : Question) (a : Answer) (n : ℕ) → HasPlaces ms places → recall ms q ≡ None → n ≡ length ms
    → (p : Question) (c : Bool) → same_question p q ≡ c → now p ≡ (if c then Some n else places p)
    → answer_by (ms ++ move.Asked q a ∷ []) (now p) ≡ recall (ms ++ move.Asked q a ∷ []) p
found ms places now q a n h none at p true same e =
    let one : p ≡ q = same_question-true p q same in
    let there : answer_by (ms ++ move.Asked q a ∷ []) (now p) ≡ Some a =
    ap (answer_by (ms ++ move.Asked q a ∷ [])) (e ∙ ap Some at) ∙ ap answer_in (slice_get-last ms (move.Asked q a)) in
    let before : recall ms p ≡ None = ap (recall ms) one ∙ none in
    let back : same_question q p ≡ true = same_question-sym q p ∙ same in
    there ∙ sym (recall-asked ms q a p ∙ ap (λ r. first_of r (if same_question q p then Some a else None)) before ∙ ap (λ (c : Bool). if c then Some a else None) back)
found ms places now q a n h none at p false same e =
    let back : same_question q p ≡ false = same_question-sym q p ∙ same in
    ap (answer_by (ms ++ move.Asked q a ∷ [])) e
    ∙ (answer_by-front ms (move.Asked q a) (places p) (h.within p)
    ∙ (h.finds p
    ∙ sym (recall-asked ms q a p ∙ ap (λ (c : Bool). first_of (recall ms p) (if c then Some a else None)) back ∙ first-none (recall ms p))))

below : (ms : List Move) (places now : Question → Option ℕ) (q : Question) (a : Answer) (n : ℕ) → HasPlaces ms places → n ≡ length ms
    → (p : Question) (c : Bool) → now p ≡ (if c then Some n else places p) → (i : ℕ) → now p ≡ Some i → i < length (ms ++ move.Asked q a ∷ [])
below ms places now q a n h at p true e i f = let one : n ≡ i = cc in omega (arith, length-more ms (move.Asked q a))
below ms places now q a n h at p false e i f = let within : i < length ms = h.within p i (sym e ∙ f) in omega (arith, length-more ms (move.Asked q a))

pub places-asked : (ms : List Move) (places now : Question → Option ℕ) (q : Question) (a : Answer) (n : ℕ) → HasPlaces ms places → recall ms q ≡ None
    → n ≡ length ms → PutsQuestion places now q n → HasPlaces (ms ++ move.Asked q a ∷ []) now
places-asked ms places now q a n h none at puts = record {
  finds = λ p. found ms places now q a n h none at p (same_question p q) refl (puts p);
  within = λ p i e. below ms places now q a n h at p (same_question p q) (puts p) i e;
}
