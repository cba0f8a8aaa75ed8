-- What a snapshot answers stays as more is known.
use Rattle.std.proofs.Common.{◌≡◌, ℕ, Some, None, Option, List, refl, sym, ap, ◌∙◌, subst, ◌⊎◌, inl, inr}
use Rattle.std.specs.Option.{option_map, option_and_then}
use Rattle.zir_form.specs.Front.{front_in}
use Rattle.type_form.specs.declared.index.Index.{Index}
use Rattle.type_form.specs.declared.unit.Unit.{Unit as AnyUnit}
use Rattle.type_form.specs.Known.{Known, IsInjective}
use Rattle.type_form.specs.Means.{Grows, IsBytes, bytes_at}
use Rattle.elab_form.specs.Questions as plain
use Rattle.trace_log.specs.declared.answers.Answers.{Answers}
use Rattle.trace_log.specs.declared.question.UnitIndex.{UnitIndex}
use Rattle.trace_log.specs.Files.{file_answer}
use Rattle.trace_log.specs.Indices.{bytes_index, unit_index}
use Rattle.trace_log.specs.Readings.{IsUnit, unit_at, unit_result_at}
use Rattle.trace_log.specs.Snapshots.{AreAnswers, file_get, files_at, front_at, front_get, given_at, result_get, results_at}
use Rattle.trace_log.proofs.Growing.{IsUnit-grows, unit-grows, IsUnitResult-grows, unit_result-grows}
use Rattle.trace_log.proofs.IndexLemmas.{bytes_index-at, bytes_index-is, unit_index-at, unit_index-is}

-- a look-up by an index that may have come to be known since answers as before, where nothing stands at that index
looked-up : {I F : Type 0} (f : I → Option F) (old new : Option I) → ((i : I) → old ≡ Some i → new ≡ Some i) → ((i : I) → new ≡ Some i → (f i ≡ None) ⊎ (old ≡ Some i))
    → option_and_then f new ≡ option_and_then f old
looked-up f None None kept fresh = refl
looked-up f None (Some i) kept fresh = elim (fresh i refl) as (λ _. f i ≡ None) [ inl e ↦ e | inr e ↦ absurd (cc) ]
looked-up f (Some i) new kept fresh = ap (option_and_then f) (kept i refl)

none-or-some : {A : Type 0} (o : Option A) → (o ≡ None) ⊎ ((x : A) × (o ≡ Some x))
none-or-some None = inl refl
none-or-some (Some x) = inr (x, refl)

-- ---- bytes

bytes-kept : (k l : Known) → Grows k l → IsInjective l → (b : List ℕ) (i : Index) → bytes_index k b ≡ Some i → bytes_index l b ≡ Some i
bytes-kept k l g n b i e =
    let t = bytes_index-is k b i e in
    let same : bytes_at l i ≡ b = g.stays.bytes i t.0 ∙ t.1 in
    subst (λ c. bytes_index l c ≡ Some i) same (bytes_index-at l n i (g.stays.is_bytes i t.0))

bytes-fresh : (k l : Known) → Grows k l → IsInjective k → (b : List ℕ) (i : Index) → bytes_index l b ≡ Some i → IsBytes k i → bytes_index k b ≡ Some i
bytes-fresh k l g m b i e h =
    let t = bytes_index-is l b i e in
    let same : bytes_at k i ≡ b = sym (g.stays.bytes i h) ∙ t.1 in
    subst (λ c. bytes_index k c ≡ Some i) same (bytes_index-at k m i h)

pub files-grow : (k l : Known) (a : Answers) → Grows k l → IsInjective k → IsInjective l → AreAnswers k a → (b : List ℕ) → files_at l a b ≡ files_at k a b
files-grow k l a g m n h b =
    ap (option_map front_in) (looked-up (front_at a) (bytes_index k b) (bytes_index l b) (bytes-kept k l g n b)
    (λ i e. elim (none-or-some (file_get a i)) as (λ _. (front_at a i ≡ None) ⊎ (bytes_index k b ≡ Some i)) [
      | inl none ↦ inl (ap (option_and_then (front_get a)) none)
      | inr t ↦ inr (bytes-fresh k l g m b i e (h.files i t.0 t.1))
    ]))

-- ---- units

unit-kept : (k l : Known) → Grows k l → IsInjective l → (x : AnyUnit) (u : UnitIndex) → unit_index k x ≡ Some u → unit_index l x ≡ Some u
unit-kept k l g n x u e =
    let t = unit_index-is k x u e in
    let same : unit_at l u ≡ x = unit-grows k l u g t.known ∙ t.is in
    subst (λ y. unit_index l y ≡ Some u) same (unit_index-at l n u (IsUnit-grows k l u g t.known))

unit-fresh : (k l : Known) → Grows k l → IsInjective k → (x : AnyUnit) (u : UnitIndex) → unit_index l x ≡ Some u → IsUnit k u → unit_index k x ≡ Some u
unit-fresh k l g m x u e h =
    let t = unit_index-is l x u e in
    let same : unit_at k u ≡ x = sym (unit-grows k l u g h) ∙ t.is in
    subst (λ y. unit_index k y ≡ Some u) same (unit_index-at k m u h)

results-found : (k l : Known) (a : Answers) → Grows k l → IsInjective k → IsInjective l → AreAnswers k a → (x : AnyUnit)
    → option_and_then (result_get a) (unit_index l x) ≡ option_and_then (result_get a) (unit_index k x)
results-found k l a g m n h x =
    looked-up (result_get a) (unit_index k x) (unit_index l x) (unit-kept k l g n x)
    (λ u e. elim (none-or-some (result_get a u)) as (λ _. (result_get a u ≡ None) ⊎ (unit_index k x ≡ Some u)) [
      | inl none ↦ inl none
      | inr t ↦ inr (unit-fresh k l g m x u e (h.units u t.0 t.1))
    ])

-- what was looked up is of the snapshot
read-alike : (k l : Known) (a : Answers) → Grows k l → AreAnswers k a → (o : Option UnitIndex) → option_map (unit_result_at l) (option_and_then (result_get a) o) ≡ option_map (unit_result_at k) (option_and_then (result_get a) o)
read-alike k l a g h None = refl
read-alike k l a g h (Some u) =
    elim (none-or-some (result_get a u)) as (λ _. option_map (unit_result_at l) (result_get a u) ≡ option_map (unit_result_at k) (result_get a u)) [
      | inl none ↦ ap (option_map (unit_result_at l)) none ∙ sym (ap (option_map (unit_result_at k)) none)
      | inr t ↦ ap (option_map (unit_result_at l)) t.1 ∙ (ap Some (unit_result-grows k l t.0 g (h.results u t.0 t.1)) ∙ sym (ap (option_map (unit_result_at k)) t.1))
    ]

pub results-grow : (k l : Known) (a : Answers) → Grows k l → IsInjective k → IsInjective l → AreAnswers k a → (x : AnyUnit) → results_at l a x ≡ results_at k a x
results-grow k l a g m n h x = ap (option_map (unit_result_at l)) (results-found k l a g m n h x) ∙ read-alike k l a g h (unit_index k x)

-- ---- answers

pub given-grows : (k l : Known) (a : Answers) (q : plain.Question) → Grows k l → IsInjective k → IsInjective l → AreAnswers k a → given_at l a q ≡ given_at k a q
unfolding given_at
given-grows k l a (plain.text p) g m n h = let e : files_at l a ≡ files_at k a = λ i b. files-grow k l a g m n h b i in ap (λ f. Some (file_answer f (plain.text p))) e
given-grows k l a (plain.name c name) g m n h = let e : files_at l a ≡ files_at k a = λ i b. files-grow k l a g m n h b i in ap (λ f. Some (file_answer f (plain.name c name))) e
given-grows k l a (plain.import path) g m n h = let e : files_at l a ≡ files_at k a = λ i b. files-grow k l a g m n h b i in ap (λ f. Some (file_answer f (plain.import path))) e
given-grows k l a (plain.result u) g m n h = ap (option_map plain.answer_of) (results-grow k l a g m n h u)

pub AreAnswers-grows : (k l : Known) (a : Answers) → Grows k l → AreAnswers k a → AreAnswers l a
AreAnswers-grows k l a g h = record {
  files = λ path n e. g.stays.is_bytes path (h.files path n e);
  units = λ u r e. IsUnit-grows k l u g (h.units u r e);
  results = λ u r e. IsUnitResult-grows k l r g (h.results u r e);
}
