-- A round on its way, over an interner's indices.
use Rattle.std.proofs.Common.{◌≡◌, ℕ, zero, suc, ◌+◌, ◌<◌, ◌≤◌, Bool, true, false, List, [], ◌∷◌, ◌++◌, Option, Some, None, is_some, length, map, take, drop, set, get_or, refl, sym, ap, ap₂, ◌∙◌, subst, arith, flat_map, if◌then◌else◌, length-append}
use Rattle.std.specs.Prelude.{slice_get, ◌||◌}
use Rattle.std.specs.List.{All, Contains}
use Rattle.std.specs.Option.{option_map, is_none}
use Rattle.std.proofs.Math.Path.{fun_ext}
use Rattle.std.proofs.lemmas.List.{take-append-drop}
use Rattle.std.proofs.lemmas.Grind.{flat_map-append}
use Rattle.std.proofs.lemmas.Option.{slice_get-map, slice_get-get_or, slice_get_within, get_or_from_slice_get}
use Rattle.type_form.specs.declared.unit.Unit.{Unit as AnyUnit}
use Rattle.type_form.specs.Known.{Known, IsInjective}
use Rattle.type_form.specs.Means.{Grows}
use Rattle.type_form.proofs.MeansLemmas.{Grows-trans}
use Rattle.question_runs.specs.Rounds.{run_by, result_of}
use Rattle.elab_form.specs.Questions as plain
use Rattle.elab_form.specs.Units.{language}
use Rattle.trace_log.specs.declared.answers.Answers.{Answers}
use Rattle.trace_log.specs.declared.attempt.Attempt.{Attempt}
use Rattle.trace_log.specs.declared.question.UnitIndex.{UnitIndex}
use Rattle.trace_log.specs.declared.result.UnitResult.{UnitResult}
use Rattle.trace_log.specs.Attempts.{UnitRun, EndsSo, file_answers, unit_run, IsAttempt}
use Rattle.trace_log.specs.Files.{file_answer}
use Rattle.trace_log.specs.Readings.{IsUnit, unit_at, unit_result_at}
use Rattle.trace_log.specs.Snapshots.{AreAnswers, result_get, results_at}
use Rattle.trace_log.proofs.Growing.{IsUnit-grows, unit-grows}
use Rattle.trace_log.proofs.SnapshotLemmas.{AreAnswers-grows, files-grow, results-grow}
use Rattle.unit_levels.specs.Levels.{has_unit, with_units, met_in}
use Rattle.unit_levels.proofs.UnitLists.{nothing-in, with_units-front}
use Rattle.unit_rounds.specs.KnownUnits.{with_indices}
use Rattle.unit_rounds.specs.MetUnits.{met_units}
use Rattle.unit_rounds.specs.Rounds.{IsBegun, units_of, next_units}
use Rattle.unit_rounds.specs.RoundSteps.{IsRound}
use Rattle.unit_rounds.specs.Settling.{PutsResult, PutsWait}
use Rattle.unit_rounds.specs.Standing.{SameFiles, rests, still_waits, lacks_result}
use Rattle.unit_rounds.proofs.IndexSteps.{tells-units, with-all-at, are-with-all, map-grows, are-grown}
use Rattle.unit_rounds.proofs.MetLemmas.{attempt-met, attempt-are}
use Rattle.unit_rounds.proofs.ResultLemmas.{results-at, results-put, answers-put, results-same, answers-same, SameFiles-trans}
use Rattle.unit_rounds.proofs.UnitSteps as steps

pub record InRound (k0 k : Known) (a : Answers) (units0 : List UnitIndex) (waits0 : List (Option ℕ)) (count : ℕ) (moved : Bool) (units : List UnitIndex) (waits : List (Option ℕ)) (next : Answers) : Type 0 where
  pub grows : Grows k0 k
  pub one : IsInjective k
  pub are : All (IsUnit k) units
  pub few : length units ≤ 65536
  pub next_are : AreAnswers k next
  pub files : SameFiles a next
  pub round : IsRound language (file_answers k0 a) (results_at k0 a) (units_of k0 units0) count moved (units_of k units) waits (results_at k next)
  pub long : length waits ≡ length units0
  pub later : (i : ℕ) → count ≤ i → slice_get waits i ≡ slice_get waits0 i

-- ---- lists

pub All-at : {X : Type 0} (P : X → Type 0) (xs : List X) (i : ℕ) (x : X) → All P xs → slice_get xs i ≡ Some x → P x
All-at P xs i x h e = subst P (get_or_from_slice_get xs i x x e) (h i x (slice_get_within xs i x e))

set-here : {X : Type 0} (xs : List X) (i : ℕ) (x : X) → i < length xs → slice_get (set xs i x) i ≡ Some x
set-here [] i x h = absurd (omega arith)
set-here (y ∷ xs) zero x h = refl
set-here (y ∷ xs) (suc i) x h = set-here xs i x (omega arith)

set-before : {X : Type 0} (xs : List X) (i j : ℕ) (x : X) → j < i → slice_get (set xs i x) j ≡ slice_get xs j
set-before [] i j x h = refl
set-before (y ∷ xs) zero j x h = absurd (omega arith)
set-before (y ∷ xs) (suc i) zero x h = refl
set-before (y ∷ xs) (suc i) (suc j) x h = set-before xs i j x (omega arith)

set-after : {X : Type 0} (xs : List X) (i j : ℕ) (x : X) → i < j → slice_get (set xs i x) j ≡ slice_get xs j
set-after [] i j x h = refl
set-after (y ∷ xs) zero zero x h = absurd (omega arith)
set-after (y ∷ xs) zero (suc j) x h = refl
set-after (y ∷ xs) (suc i) zero x h = absurd (omega arith)
set-after (y ∷ xs) (suc i) (suc j) x h = set-after xs i j x (omega arith)

set-long : {X : Type 0} (xs : List X) (i : ℕ) (x : X) → length (set xs i x) ≡ length xs
set-long [] i x = refl
set-long (y ∷ xs) zero x = refl
set-long (y ∷ xs) (suc i) x = ap suc (set-long xs i x)

take-none : {X : Type 0} (xs : List X) → take 0 xs ≡ []
take-none [] = refl
take-none (x ∷ xs) = refl

pub length-map : {X Y : Type 0} (f : X → Y) (xs : List X) → length (map f xs) ≡ length xs
length-map f [] = refl
length-map f (x ∷ xs) = ap suc (length-map f xs)

none-if : {X : Type 0} (o : Option X) → is_none o ≡ true → o ≡ None
none-if None e = refl
none-if (Some x) e = absurd (cc)

-- ---- runs as the interner grows

module _ (k l : Known) (a : Answers) (g : Grows k l) (m : IsInjective k) (n : IsInjective l) (h : AreAnswers k a) where
  pub files-grown : file_answers l a ≡ file_answers k a
  files-grown = ap file_answer (fun_ext (λ path. files-grow k l a g m n h path))

  pub results-grown : results_at l a ≡ results_at k a
  results-grown = fun_ext (λ u. results-grow k l a g m n h u)

  pub run-grown : (u : AnyUnit) → unit_run l a u ≡ unit_run k a u
  unfolding unit_run
  run-grown u = ap₂ (λ f r. run_by language f r u) files-grown results-grown

-- ---- the first turn

pub round-begins : (k : Known) (a next : Answers) (units : List UnitIndex) (waits : List (Option ℕ)) → IsBegun k a units waits → Grows k k → SameFiles a next
    → ((u : UnitIndex) → result_get next u ≡ result_get a u) → InRound k k a units waits 0 false units waits next
round-begins k a next units waits b g files same =
    let none : take 0 (units_of k units) ≡ [] = take-none (units_of k units) in
    record {
      grows = g;
      one = b.one;
      are = b.are;
      few = b.few;
      next_are = answers-same k a next files same b.answers;
      files = files;
      round = record {
        units = ap (λ us. with_units language (units_of k units) (flat_map (λ u. met_in language (run_by language (file_answers k a) (results_at k a) u)) us)) (sym none);
        given = λ u. ap (λ f. f u) (results-same k a next same) ∙ ap (λ us. if has_unit language us u then result_of language (run_by language (file_answers k a) (results_at k a) u) else results_at k a u) (sym none);
        waits = λ i u below at. absurd (omega arith);
        still = λ e u among. absurd (nothing-in u (subst (λ us. Contains us u) none among));
        some = λ e. absurd (cc);
      };
      long = b.long;
      later = λ i above. refl;
    }

-- ---- a turn

module _ (k0 k : Known) (a : Answers) (units0 : List UnitIndex) (waits0 : List (Option ℕ)) (count : ℕ) (moved : Bool) (units : List UnitIndex) (waits : List (Option ℕ)) (next : Answers) (b : IsBegun k0 a units0 waits0)
    (h : InRound k0 k a units0 waits0 count moved units waits next) (below : count < length units0) (u : UnitIndex) (w : Option ℕ) (at : slice_get units count ≡ Some u) (here : slice_get waits count ≡ Some w) where
  abbrev known : List AnyUnit
  known = units_of k0 units0

  abbrev x : AnyUnit
  x = unit_at k u

  is_unit : IsUnit k u
  is_unit = All-at (IsUnit k) units count u h.are at

  front : (more : List AnyUnit) × (units_of k units ≡ known ++ more)
  front = steps.round-front language tells-units (file_answers k0 a) (results_at k0 a) known count moved (units_of k units) waits (results_at k next) h.round

  unit-in : (i : ℕ) (v : UnitIndex) → slice_get units i ≡ Some v → slice_get (units_of k units) i ≡ Some (unit_at k v)
  unit-in i v e = slice_get-map (unit_at k) units i ∙ ap (option_map (unit_at k)) e

  pub placed : slice_get known count ≡ Some x
  placed = steps.at-front known (units_of k units) front.0 count x front.1 (omega (arith, length-map (unit_at k0) units0)) (unit-in count u at)

  -- what the round's beginning has of a unit
  pub before : (v : UnitIndex) → IsUnit k v → results_at k0 a (unit_at k v) ≡ option_map (unit_result_at k) (result_get a v)
  before v is = sym (ap (λ f. f (unit_at k v)) (results-grown k0 k a h.grows b.one h.one b.answers)) ∙ results-at k a v h.one is

  wait-here : slice_get waits0 count ≡ Some w
  wait-here = sym (h.later count (omega arith)) ∙ here

  abbrev AtRest : Type 0
  AtRest = steps.Rests language tells-units (file_answers k0 a) (results_at k0 a) known waits0 count x

  -- a unit that needs no attempt
  lacking : (j : ℕ) (y : AnyUnit) → slice_get known j ≡ Some y → slice_get waits0 count ≡ Some (Some j) → results_at k0 a x ≡ None → (o : Option UnitIndex) → slice_get units j ≡ o → lacks_result a o ≡ true → AtRest
  lacking j y there place none None e is = absurd (cc)
  lacking j y there place none (Some v) e is =
      let in_known : slice_get known j ≡ Some (unit_at k v) = steps.at-front known (units_of k units) front.0 j (unit_at k v) front.1 (slice_get_within known j y there) (unit-in j v e) in
      let nothing : result_get a v ≡ None = none-if (result_get a v) is in
      steps.waits_on j (unit_at k v) place in_known none (before v (All-at (IsUnit k) units j v h.are e) ∙ ap (option_map (unit_result_at k)) nothing)

  waits-still : (v : Option ℕ) → w ≡ v → results_at k0 a x ≡ None → still_waits a units v ≡ true → AtRest
  waits-still None e none is = absurd (cc)
  waits-still (Some j) e none is =
      let place : slice_get waits0 count ≡ Some (Some j) = wait-here ∙ ap Some e in
      let t = b.stands.waiting count j x placed place in
      lacking j t.0 t.1 place none (slice_get units j) refl is

  at-rest : (o : Option UnitResult) → result_get a u ≡ o → (is_some o || still_waits a units w) ≡ true → AtRest
  at-rest None e is = waits-still w refl (before u is_unit ∙ ap (option_map (unit_result_at k)) e) is
  at-rest (Some r) e is = steps.has_result (unit_result_at k r) (before u is_unit ∙ ap (option_map (unit_result_at k)) e)

  pub round-rests : rests a units u w ≡ true → InRound k0 k a units0 waits0 (count + 1) moved units waits next
  round-rests is = record {
    grows = h.grows;
    one = h.one;
    are = h.are;
    few = h.few;
    next_are = h.next_are;
    files = h.files;
    round =
        let r : AtRest = at-rest (result_get a u) refl is in
        let s = steps.rests-step language tells-units (file_answers k0 a) (results_at k0 a) known count moved (units_of k units) waits (results_at k next) waits0 x w h.round b.stands placed wait-here r in
        let one : suc count ≡ count + 1 = omega arith in
        subst (λ n. IsRound language (file_answers k0 a) (results_at k0 a) known n moved (units_of k units) waits (results_at k next)) one
        (steps.round-step language tells-units (file_answers k0 a) (results_at k0 a) known count x moved moved (units_of k units) (units_of k units) waits waits (results_at k next) (results_at k next) w h.round placed s here (λ i less. refl));
    long = h.long;
    later = λ i above. h.later i (omega arith);
  }

  -- a unit that was attempted had no result
  no-result : (o : Option UnitResult) → result_get a u ≡ o → (is_some o || still_waits a units w) ≡ false → results_at k0 a x ≡ None
  no-result None e is = before u is_unit ∙ ap (option_map (unit_result_at k)) e
  no-result (Some r) e is = absurd (cc)

  module _ (l : Known) (g : Grows k l) (n : IsInjective l) (t : Attempt) (ran : IsAttempt l a t (unit_run k a x)) (units' : List UnitIndex) (noted : units' ≡ with_indices units (met_units t)) (idle : rests a units u w ≡ false) where
    none : results_at k0 a x ≡ None
    none = no-result (result_get a u) refl idle

    grown : Grows k0 l
    grown = Grows-trans _ _ _ h.grows g

    abbrev run0 : UnitRun
    run0 = run_by language (file_answers k0 a) (results_at k0 a) x

    ran0 : unit_run k a x ≡ run0
    unfolding unit_run
    ran0 = run-grown k0 k a h.grows b.one h.one b.answers x

    same-x : unit_at l u ≡ x
    same-x = unit-grows k l u g is_unit

    are' : All (IsUnit l) units'
    are' = subst (All (IsUnit l)) (sym noted) (are-with-all l units (met_units t) (are-grown k l g units h.are) (attempt-are l a t (unit_run k a x) ran))

    units-now : units_of l units' ≡ with_units language (units_of k units) (met_in language run0)
    units-now =
        ap (units_of l) noted
        ∙ with-all-at l n units (met_units t) (are-grown k l g units h.are) (attempt-are l a t (unit_run k a x) ran)
        ∙ ap₂ (λ us vs. with_units language us vs) (map-grows k l g units h.are) (attempt-met l a t (unit_run k a x) ran ∙ ap (met_in language) ran0)

    next-grown : results_at l next ≡ results_at k next
    next-grown = results-grown k l next g h.one n h.next_are

    run-ends : EndsSo l t.outcome run0
    run-ends = subst (EndsSo l t.outcome) ran0 ran.outcome

    later-set : (waits' : List (Option ℕ)) (v : Option ℕ) → waits' ≡ set waits count v → (i : ℕ) → count + 1 ≤ i → slice_get waits' i ≡ slice_get waits0 i
    later-set waits' v e i above = ap (λ ws. slice_get ws i) e ∙ set-after waits count i v (omega arith) ∙ h.later i (omega arith)

    turned : (moved' : Bool) (waits' : List (Option ℕ)) (next' : Answers) (v : Option ℕ) → waits' ≡ set waits count v
        → steps.IsStep language tells-units (file_answers k0 a) (results_at k0 a) known x (units_of k units) (results_at k next) moved (units_of l units') (results_at l next') moved' v
        → IsRound language (file_answers k0 a) (results_at k0 a) known (count + 1) moved' (units_of l units') waits' (results_at l next')
    turned moved' waits' next' v e s =
        let one : suc count ≡ count + 1 = omega arith in
        let there : slice_get waits' count ≡ Some v = ap (λ ws. slice_get ws count) e ∙ set-here waits count v (omega (arith, h.long)) in
        subst (λ m. IsRound language (file_answers k0 a) (results_at k0 a) known m moved' (units_of l units') waits' (results_at l next')) one
        (steps.round-step language tells-units (file_answers k0 a) (results_at k0 a) known count x moved moved' (units_of k units) (units_of l units') waits waits' (results_at k next) (results_at l next') v h.round placed s there
        (λ i less. ap (λ ws. slice_get ws i) e ∙ set-before waits count i v less))

    -- it ended with a result
    pub round-done : (waits' : List (Option ℕ)) (next' : Answers) → SameFiles next next' → PutsResult u t.outcome count units' waits waits' next next' → InRound k0 l a units0 waits0 (count + 1) true units' waits' next'
    round-done waits' next' files p =
        let ends = subst (λ o. EndsSo l o run0) p.ended run-ends in
        let put : (v : AnyUnit) → results_at l next' v ≡ (if plain.same_unit v x then Some (unit_result_at l p.result) else results_at k next v) =
        λ v.
        results-put l next next' u p.result n (IsUnit-grows k l u g is_unit) p.puts v
        ∙ ap₂ (λ y o. if plain.same_unit v y then Some (unit_result_at l p.result) else o) same-x (ap (λ f. f v) next-grown) in
        let s = steps.done-step language tells-units (file_answers k0 a) (results_at k0 a) known moved (units_of k units) (units_of l units') (results_at k next) (results_at l next') x (unit_result_at l p.result) units-now ends.1 none put in
        record {
          grows = grown;
          one = n;
          are = are';
          few = p.few;
          next_are = answers-put l next next' u p.result n (IsUnit-grows k l u g is_unit) p.puts ends.0 files.files (AreAnswers-grows k l next g h.next_are);
          files = SameFiles-trans a next next' h.files files;
          round = turned true waits' next' None p.waits s;
          long = ap (λ ws. length ws) p.waits ∙ set-long waits count None ∙ h.long;
          later = λ i above. later-set waits' None p.waits i above;
        }

    -- it stopped for a unit
    pub round-waits : (waits' : List (Option ℕ)) (next' : Answers) → PutsWait t.outcome count units' waits waits' next next' → InRound k0 l a units0 waits0 (count + 1) moved units' waits' next'
    round-waits waits' next' p =
        let ends = subst (λ o. EndsSo l o run0) p.ended run-ends in
        let there : slice_get (units_of l units') p.place ≡ Some (unit_at l p.needed) = slice_get-map (unit_at l) units' p.place ∙ ap (option_map (unit_at l)) p.there in
        let same : results_at l next' ≡ results_at k next = ap (results_at l) p.same ∙ next-grown in
        let s = steps.waits-step language tells-units (file_answers k0 a) (results_at k0 a) known count moved (units_of k units) (units_of l units') waits (results_at k next) (results_at l next') x (unit_at l p.needed) p.place h.round units-now ends.1 there none (λ v. ap (λ f. f v) same) in
        record {
          grows = grown;
          one = n;
          are = are';
          few = p.few;
          next_are = subst (AreAnswers l) (sym p.same) (AreAnswers-grows k l next g h.next_are);
          files = subst (SameFiles a) (sym p.same) h.files;
          round = turned moved waits' next' (Some p.place) p.waits s;
          long = ap (λ ws. length ws) p.waits ∙ set-long waits count (Some p.place) ∙ h.long;
          later = λ i above. later-set waits' (Some p.place) p.waits i above;
        }

    -- more units came to be known than may be
    pub round-many : 65536 < length units' → 65536 < length (next_units k0 a units0)
    unfolding next_units unit_run
    round-many many =
        let f : AnyUnit → List AnyUnit = λ v. met_in language (run_by language (file_answers k0 a) (results_at k0 a) v) in
        let next_step : take (suc count) known ≡ take count known ++ x ∷ [] = steps.take-next known count x placed in
        let now : units_of l units' ≡ with_units language known (flat_map f (take (suc count) known)) =
        units-now ∙ ap (λ us. with_units language us (f x)) h.round.units
        ∙ sym (steps.with_units-append language known (flat_map f (take count known)) (f x))
        ∙ ap (with_units language known) (sym (steps.flat_map-push f (take count known) x) ∙ ap (flat_map f) (sym next_step)) in
        let whole : flat_map f known ≡ flat_map f (take (suc count) known) ++ flat_map f (drop (suc count) known) =
        ap (flat_map f) (sym (take-append-drop (suc count) known)) ∙ flat_map-append f (take (suc count) known) (drop (suc count) known) in
        let all : with_units language known (flat_map f known) ≡ with_units language (units_of l units') (flat_map f (drop (suc count) known)) =
        ap (with_units language known) whole ∙ steps.with_units-append language known (flat_map f (take (suc count) known)) (flat_map f (drop (suc count) known))
        ∙ ap (λ us. with_units language us (flat_map f (drop (suc count) known))) (sym now) in
        let rest = with_units-front language (units_of l units') (flat_map f (drop (suc count) known)) in
        let size : length (with_units language known (flat_map f known)) ≡ length (units_of l units') + length rest.0 =
        ap (λ us. length us) (all ∙ rest.1) ∙ length-append (units_of l units') rest.0 in
        omega (arith, size, length-map (unit_at l) units', many)

-- ---- where a turn stands

module _ (k0 k : Known) (a : Answers) (units0 : List UnitIndex) (waits0 : List (Option ℕ)) (count : ℕ) (moved : Bool) (units : List UnitIndex) (waits : List (Option ℕ)) (next : Answers)
    (h : InRound k0 k a units0 waits0 count moved units waits next) where
  pub round-size : length units0 ≤ length units
  round-size =
      let front : (more : List AnyUnit) × (units_of k units ≡ units_of k0 units0 ++ more) = steps.round-front language tells-units (file_answers k0 a) (results_at k0 a) (units_of k0 units0) count moved (units_of k units) waits (results_at k next) h.round in
      let size : length (units_of k units) ≡ length (units_of k0 units0) + length front.0 = ap (λ us. length us) front.1 ∙ length-append (units_of k0 units0) front.0 in
      omega (arith, size, length-map (unit_at k) units, length-map (unit_at k0) units0)

  pub round-unit : (i : ℕ) (d : UnitIndex) → i < length units0 → IsUnit k (get_or units i d)
  round-unit i d below = let size = round-size in h.are i d (omega arith)

  pub round-answers : IsBegun k0 a units0 waits0 → AreAnswers k a
  round-answers b = AreAnswers-grows k0 k a h.grows b.answers

-- the unit that is read at a place
pub place-at : (us units : List UnitIndex) (i : ℕ) (d : UnitIndex) → us ≡ units → i < length units → slice_get units i ≡ Some (get_or us i d)
place-at us units i d same below = slice_get-get_or units i d below ∙ ap (λ vs. Some (get_or vs i d)) (sym same)

-- a round whose turns are over
pub at-end : {k0 k : Known} {a : Answers} {units0 : List UnitIndex} {waits0 : List (Option ℕ)} {count : ℕ} {moved : Bool} {units : List UnitIndex} {waits : List (Option ℕ)} {next : Answers}
    → InRound k0 k a units0 waits0 count moved units waits next → count ≡ length units0 → InRound k0 k a units0 waits0 (length units0) moved units waits next
at-end {k0 = k0} {k = k} {a = a} {units0 = units0} {waits0 = waits0} {moved = moved} {units = units} {waits = waits} {next = next} h e = subst (λ n. InRound k0 k a units0 waits0 n moved units waits next) e h
