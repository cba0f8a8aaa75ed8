-- Analysis at a level, and what the round there comes to.
use Rattle.std.proofs.Common.{◌≡◌, ℕ, zero, suc, ◌+◌, ◌<◌, ◌≤◌, Bool, true, false, List, [], ◌⊎◌, Option, Some, None, IsSome, length, map, refl, sym, ap, ap₂, ◌∙◌, subst, inl, inr, arith, flat_map, if◌then◌else◌}
use Rattle.std.specs.Prelude.{slice_get}
use Rattle.std.specs.List.{All, Contains}
use Rattle.std.specs.Option.{option_map, option_and_then}
use Rattle.std.proofs.Math.Path.{fun_ext}
use Rattle.std.proofs.lemmas.List.Elements.{All-nil}
use Rattle.type_form.specs.declared.unit.Unit.{Unit as AnyUnit}
use Rattle.type_form.specs.Known.{Known, IsInjective}
use Rattle.type_form.specs.Means.{Grows}
use Rattle.question_runs.specs.Rounds.{run_by, result_of, needs}
use Rattle.elab_form.specs.Questions as plain
use Rattle.elab_form.specs.Units.{language}
use Rattle.trace_log.specs.declared.answers.Answers.{Answers}
use Rattle.trace_log.specs.declared.question.UnitIndex.{UnitIndex}
use Rattle.trace_log.specs.Attempts.{file_answers, unit_run}
use Rattle.trace_log.specs.Indices.{unit_index}
use Rattle.trace_log.specs.Readings.{IsUnit, unit_at, unit_result_at}
use Rattle.trace_log.specs.Snapshots.{AreAnswers, result_get, results_at}
use Rattle.unit_levels.specs.Levels.{has_unit, with_units, met_in, units_at, result_at, run_at_level, IsSettled, last_level}
use Rattle.unit_levels.proofs.Growth.{known-length}
use Rattle.unit_levels.proofs.Settled.{last-settled}
use Rattle.unit_levels.proofs.UnitLists.{Contains-has}
use Rattle.unit_rounds.specs.declared.analyse.Rest.{Rest}
use Rattle.unit_rounds.specs.KnownUnits.{with_indices}
use Rattle.unit_rounds.specs.Analyses.{IsRest, IsMany, WaitsFor}
use Rattle.unit_rounds.specs.Rounds.{IsBegun, GetsOne, IsMovedRound, IsSettledRound, next_results, next_units, units_of}
use Rattle.unit_rounds.specs.RoundSteps.{WaitsSo}
use Rattle.unit_rounds.specs.Standing.{IsFilled, SameFiles}
use Rattle.unit_rounds.proofs.IndexSteps.{tells-units, with-all-at, are-with-all}
use Rattle.unit_rounds.proofs.InRound.{files-grown, length-map}
use Rattle.unit_rounds.proofs.ResultLemmas.{file_answers-same, SameFiles-trans}
use Rattle.unit_rounds.proofs.UnitSteps.{needs-result, none-some, slice_get-Contains}

-- units, what they wait for and a snapshot are those of a level, and no level before it is settled
pub record AtLevel (k : Known) (files : plain.Question → plain.Answer) (roots : List AnyUnit) (start a : Answers) (n : ℕ) (now : List UnitIndex) (waits : List (Option ℕ)) : Type 0 where
  pub begun : IsBegun k a now waits
  pub units : units_of k now ≡ units_at language files roots n
  pub results : (u : AnyUnit) → results_at k a u ≡ result_at language files roots n u
  pub answers : file_answers k a ≡ files
  pub same_files : SameFiles start a
  pub unsettled : (j : ℕ) → suc j ≡ n → IsSettled language files roots j → ⊥

suc-one : (i j : ℕ) → suc i ≡ suc j → i ≡ j
suc-one i j e = omega (arith, e)

next-none : {R : Type 0} (b : Bool) (x o : Option R) → (b ≡ false → o ≡ None) → (if b then x else o) ≡ (if b then x else None)
next-none true x o e = refl
next-none false x o e = e refl

module _ (k : Known) (files : plain.Question → plain.Answer) (roots : List AnyUnit) (start a : Answers) (n : ℕ) (units : List UnitIndex) (waits : List (Option ℕ)) (h : AtLevel k files roots start a n units waits) where
  abbrev K : List AnyUnit
  K = units_at language files roots n

  abbrev E : AnyUnit → Option plain.UnitResult
  E = result_at language files roots n

  results-are : results_at k a ≡ E
  results-are = fun_ext h.results

  run-is : (u : AnyUnit) → unit_run k a u ≡ run_at_level language files roots n u
  unfolding unit_run
  run-is u = ap₂ (λ f r. run_by language f r u) h.answers results-are

  units-next : next_units k a units ≡ units_at language files roots (suc n)
  unfolding next_units
  units-next =
      ap (λ f. with_units language (units_of k units) (flat_map (λ u. met_in language (f u)) (units_of k units))) (fun_ext run-is)
      ∙ ap (λ us. with_units language us (flat_map (λ u. met_in language (run_at_level language files roots n u)) us)) h.units

  outside : (u : AnyUnit) → has_unit language (units_of k units) u ≡ false → results_at k a u ≡ None
  outside u e = h.begun.stands.outside u e

  results-next : (u : AnyUnit) → next_results k a units u ≡ result_at language files roots (suc n) u
  unfolding next_results
  results-next u =
      next-none (has_unit language (units_of k units) u) (result_of language (unit_run k a u)) (results_at k a u) (outside u)
      ∙ ap₂ (λ us r. if has_unit language us u then result_of language r else None) h.units (run-is u)

  in-level : (u : AnyUnit) → Contains K u → result_at language files roots (suc n) u ≡ result_of language (run_at_level language files roots n u)
  in-level u among = ap (λ (b : Bool). if b then result_of language (run_at_level language files roots n u) else None) (Contains-has language tells-units K u among)

  pub many-next : 65536 < length (next_units k a units) → IsMany files roots
  many-next many = record { level = suc n; many = subst (λ us. 65536 < length us) units-next many }

  module _ (l : Known) (known : List UnitIndex) (waits' : List (Option ℕ)) where
    settled-level : IsSettledRound k l a units known waits' → IsSettled language files roots n
    settled-level s = record {
      known = sym units-next ∙ s.met ∙ h.units;
      finished = λ u among. in-level u among ∙ ap (result_of language) (sym (run-is u)) ∙ s.given u (subst (λ us. Contains us u) (sym h.units) among) ∙ h.results u;
    }

    waits-for : (u : AnyUnit) (w : Option ℕ) → result_of language (unit_run k a u) ≡ results_at k a u → WaitsSo language (units_of k units) (unit_run k a u) w → WaitsFor files roots n u w
    waits-for u None e so = subst IsSome (e ∙ h.results u) so
    waits-for u (Some j) e so =
        (so.0, subst (λ us. slice_get us j ≡ Some so.0) h.units so.1, sym (h.results u) ∙ sym e ∙ needs-result language (unit_run k a u) so.0 so.2, ap (needs language) (sym (run-is u)) ∙ so.2)

    pub level-rests : (r : Rest) → IsSettledRound k l a units known waits' → Grows k l → IsInjective l → results_at l a ≡ results_at k a → AreAnswers l a
        → r.units.items ≡ known → r.answers ≡ a → r.waits.items ≡ waits' → IsRest l files roots start r
    level-rests r s g one same answers us of ws = record {
      level = n;
      settled = settled-level s;
      units = ap (map (unit_at l)) us ∙ s.same ∙ h.units;
      few = let e : length r.units.items ≡ length units = ap (λ xs. length xs) us ∙ sym (length-map (unit_at l) known) ∙ ap (λ xs. length xs) s.same ∙ length-map (unit_at k) units in omega (arith, e, h.begun.few);
      results = λ u. ap (λ b. results_at l b u) of ∙ ap (λ f. f u) same ∙ h.results u;
      are = subst (All (IsUnit l)) (sym us) s.are;
      answers = subst (AreAnswers l) (sym of) answers;
      same_files = subst (SameFiles start) (sym of) h.same_files;
      long = ap (λ xs. length xs) ws ∙ s.long ∙ ap (λ xs. length xs) (sym us);
      waits = λ i u at.
          let place : slice_get (units_of k units) i ≡ Some u = subst (λ xs. slice_get xs i ≡ Some u) (sym h.units) at in
          let t = s.waits.each i u place in
          (t.0, ap (λ xs. slice_get xs i) ws ∙ t.1, waits-for u t.0 (s.given u (slice_get-Contains (units_of k units) i u place)) t.2);
    }

    pub level-moves : (next : Answers) → IsMovedRound k l a next units known waits' → Grows k l → IsInjective l → AtLevel l files roots start next (suc n) known waits'
    level-moves next m g one = record {
      begun = m.begun;
      units = m.units ∙ units-next;
      results = λ u. m.results u ∙ results-next u;
      answers = file_answers-same l a next m.files ∙ files-grown k l a g h.begun.one one h.begun.answers ∙ h.answers;
      same_files = SameFiles-trans start a next h.same_files m.files;
      unsettled = λ j e settled. moved j e settled m.moved;
    }
      where
        moved : (j : ℕ) → suc j ≡ suc n → IsSettled language files roots j → (length units < length known) ⊎ GetsOne k a units → ⊥
        moved j e settled (inl more) =
            let same : units_at language files roots (suc n) ≡ K = subst (λ i. units_at language files roots (suc i) ≡ units_at language files roots i) (suc-one j n e) settled.known in
            let long : length known ≡ length units = sym (length-map (unit_at l) known) ∙ ap (λ us. length us) (m.units ∙ units-next ∙ same ∙ sym h.units) ∙ length-map (unit_at k) units in
            omega (arith, long, more)
        moved j e settled (inr t) =
            let at : Contains K t.unit = subst (λ us. Contains us t.unit) h.units t.known in
            let at_j : Contains (units_at language files roots j) t.unit = subst (λ i. Contains (units_at language files roots i) t.unit) (sym (suc-one j n e)) at in
            let same : result_at language files roots (suc n) t.unit ≡ E t.unit = subst (λ i. result_at language files roots (suc i) t.unit ≡ result_at language files roots i t.unit) (suc-one j n e) (settled.finished t.unit at_j) in
            none-some (E t.unit) t.result (sym (h.results t.unit) ∙ t.none) (sym same ∙ in-level t.unit at ∙ ap (result_of language) (sym (run-is t.unit)) ∙ t.gives)

    pub level-next : (next : Answers) → IsMovedRound k l a next units known waits' → Grows k l → IsInjective l → AtLevel l files roots start next (n + 1) known waits'
    level-next next m g one = subst (λ i. AtLevel l files roots start next i known waits') (omega arith) (level-moves next m g one)

-- the last level is settled
settled-last : (files : plain.Question → plain.Answer) (roots : List AnyUnit) (most j : ℕ) → j ≡ last_level most → length (units_at language files roots j) ≤ most → IsSettled language files roots j
settled-last files roots most j e few = subst (λ i. IsSettled language files roots i) (sym e) (last-settled language tells-units files roots most (subst (λ i. length (units_at language files roots i) ≤ most) e few))

-- so not every level brings something
pub level-ends : (k : Known) (files : plain.Question → plain.Answer) (roots : List AnyUnit) (start a : Answers) (n : ℕ) (units : List UnitIndex) (waits : List (Option ℕ)) → AtLevel k files roots start a n units waits → n ≡ 131074 → ⊥
level-ends k files roots start a zero units waits h e = omega (arith, e)
level-ends k files roots start a (suc j) units waits h e =
    let long : length (units_at language files roots (suc j)) ≤ 65536 = subst (λ us. length us ≤ 65536) h.units (omega (arith, length-map (unit_at k) units, h.begun.few)) in
    let before : length (units_at language files roots j) ≤ length (units_at language files roots (suc j)) = known-length language files roots j (suc j) (omega arith) in
    let last : j ≡ 131073 = omega (arith, e) in
    h.unsettled j refl (settled-last files roots 65536 j last (omega (arith, before, long)))

-- ---- the first level

module _ (k : Known) (a : Answers) (roots units : List UnitIndex) (waits : List (Option ℕ)) (one : IsInjective k) (all : All (IsUnit k) roots) (answers : AreAnswers k a) (nothing : (u : UnitIndex) → result_get a u ≡ None)
    (noted : units ≡ with_indices [] roots) where
  no-result : (u : AnyUnit) → results_at k a u ≡ None
  no-result u = by-index (unit_index k u)
    where
      by-index : (o : Option UnitIndex) → option_map (unit_result_at k) (option_and_then (result_get a) o) ≡ None
      by-index None = refl
      by-index (Some i) = ap (option_map (unit_result_at k)) (nothing i)

  units-first : units_of k units ≡ units_at language (file_answers k a) (map (unit_at k) roots) 0
  units-first = ap (units_of k) noted ∙ with-all-at k one [] roots (All-nil (IsUnit k)) all

  pub many-first : 65536 < length units → IsMany (file_answers k a) (map (unit_at k) roots)
  many-first many = record { level = 0; many = subst (λ us. 65536 < length us) units-first (omega (arith, length-map (unit_at k) units, many)) }

  pub level-begins : (empty : List (Option ℕ)) → length empty ≡ 0 → length units ≤ 65536 → IsFilled empty waits → length waits ≡ length units → AtLevel k (file_answers k a) (map (unit_at k) roots) a a 0 units waits
  level-begins empty nothing_there few filled long = record {
    begun = record {
      one = one;
      are = subst (All (IsUnit k)) (sym noted) (are-with-all k [] roots (All-nil (IsUnit k)) all);
      few = few;
      long = long;
      answers = answers;
      stands = record {
        outside = λ u e. no-result u;
        over = λ u r among e. absurd (none-some (results_at k a u) r (no-result u) e);
        clear = λ i u w r at here e. absurd (none-some (results_at k a u) r (no-result u) e);
        waiting = λ i j u at here. let is_none = filled.fresh i (Some j) (omega (arith, nothing_there)) here in absurd (cc);
      };
    };
    units = units-first;
    results = λ u. no-result u;
    answers = refl;
    same_files = record { fronts = λ n. refl; files = λ path. refl };
    unsettled = λ j e. absurd (omega (arith, e));
  }
