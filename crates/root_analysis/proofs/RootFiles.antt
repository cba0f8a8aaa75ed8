-- What the snapshot of a root alone answers.
use Rattle.std.proofs.Common.{◌≡◌, ℕ, ◌==◌, Bool, true, false, List, Option, Some, None, refl, sym, ap, ◌∙◌, subst, arith, if◌then◌else◌}
use Rattle.std.specs.Option.{option_map, option_and_then}
use Rattle.std.specs.Str.{bytes_eq}
use Rattle.std.proofs.Math.Path.{fun_ext}
use Rattle.std.proofs.lemmas.Slice.Eq.{bytes_eq-Decides}
use Rattle.zir_form.specs.declared.front.Front.{Front}
use Rattle.zir_form.specs.Front.{front_in}
use Rattle.type_form.specs.declared.index.Index.{Index}
use Rattle.type_form.specs.Known.{Known, IsInjective}
use Rattle.type_form.specs.Means.{IsBytes, bytes_at}
use Rattle.trace_log.specs.declared.answers.Answers.{Answers}
use Rattle.trace_log.specs.declared.question.UnitIndex.{UnitIndex}
use Rattle.trace_log.specs.declared.result.UnitResult.{UnitResult}
use Rattle.trace_log.specs.Indices.{bytes_index}
use Rattle.trace_log.specs.Snapshots.{AreAnswers, files_at, front_at, front_get, result_get}
use Rattle.trace_log.proofs.IndexLemmas.{bytes_index-at, bytes_index-is}
use Rattle.root_analysis.specs.Roots.{root_files}
use Rattle.root_analysis.specs.Snapshots.{IsOfRoot}

same-number : (m n : ℕ) → (m == n) ≡ true → m ≡ n
same-number m n e = grind (arith, e)

self-number : (n : ℕ) → (n == n) ≡ true
self-number n = grind arith

same-index : (i j : Index) → (i.0 == j.0) ≡ true → i ≡ j
same-index i j e = ap (λ (n : ℕ). record { 0 = n }) (same-number i.0 j.0 e)

taken : (b : Bool) (n : ℕ) → (if b then Some 0 else None) ≡ Some n → b ≡ true
taken true n e = refl
taken false n e = absurd (cc)

module _ (path : Index) (front : Front) (a : Answers) (h : IsOfRoot path front a) where
  -- its indices denote what is wanted there
  pub root-answers : (k : Known) → IsBytes k path → AreAnswers k a
  root-answers k p = record {
    files = λ i n e. subst (IsBytes k) (sym (same-index i path (taken (i.0 == path.0) n (sym (h.files i) ∙ e)))) p;
    units = λ u r e. absurd (no-result u r e);
    results = λ u r e. absurd (no-result u r e);
  }
    where
      no-result : (u : UnitIndex) (r : UnitResult) → result_get a u ≡ Some r → ⊥
      no-result u r e = let none = h.results u in absurd (cc)

  at-path : front_at a path ≡ Some front
  at-path =
      ap (option_and_then (front_get a)) (h.files path)
      ∙ ap (λ b. option_and_then (front_get a) (if b then Some 0 else None)) (self-number path.0) ∙ h.front_is

  at-other : (i : Index) → (i.0 == path.0) ≡ false → front_at a i ≡ None
  at-other i e = ap (option_and_then (front_get a)) (h.files i ∙ ap (λ b. if b then Some 0 else None) e)

  -- and the root is the one file that is there
  pub root-files : (k : Known) (root : List ℕ) → IsInjective k → IsBytes k path → bytes_at k path ≡ root → files_at k a ≡ root_files root (front_in front)
  root-files k root inj p is = fun_ext (λ q. by-path q (bytes_eq q root) refl)
    where
      index : (q : List ℕ) → q ≡ root → bytes_index k q ≡ Some path
      index q e = ap (bytes_index k) (e ∙ sym is) ∙ bytes_index-at k inj path p

      other-index : (q : List ℕ) (o : Option Index) → (q ≡ root → ⊥) → bytes_index k q ≡ o → option_map front_in (option_and_then (front_at a) o) ≡ None
      other-index q None apart e = refl
      other-index q (Some i) apart e =
          let b = bytes_index-is k q i e in
          ap (option_map front_in) (at-other i (not-path (i.0 == path.0) refl))
        where
          not-path : (t : Bool) → (i.0 == path.0) ≡ t → (i.0 == path.0) ≡ false
          not-path false f = f
          not-path true f =
              let b = bytes_index-is k q i e in
              absurd (apart (sym b.1 ∙ ap (bytes_at k) (same-index i path f) ∙ is))

      by-path : (q : List ℕ) (b : Bool) → bytes_eq q root ≡ b → files_at k a q ≡ root_files root (front_in front) q
      by-path q true e =
          let same : q ≡ root = (bytes_eq-Decides q root).0 e in
          ap (λ o. option_map front_in (option_and_then (front_at a) o)) (index q same)
          ∙ ap (option_map front_in) at-path
          ∙ sym (ap (λ b. if b then Some (front_in front) else None) e)
      by-path q false e =
          let apart : q ≡ root → ⊥ = λ s. let t = (bytes_eq-Decides q root).1 s in absurd (cc) in
          other-index q (bytes_index k q) apart refl
          ∙ sym (ap (λ b. if b then Some (front_in front) else None) e)
