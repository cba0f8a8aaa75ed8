-- A snapshot after a change: what its indices denote, and which files and results it has.
use Rattle.std.proofs.Common.{◌≡◌, ℕ, ◌==◌, Bool, true, false, Some, None, Option, List, refl, sym, ap, ◌∙◌, subst, if◌then◌else◌}
use Rattle.std.specs.Option.{option_map, option_and_then}
use Rattle.std.specs.Str.{bytes_eq}
use Rattle.std.proofs.lemmas.Bool.{eqb-true, eq-eqb}
use Rattle.std.proofs.lemmas.Slice.Eq.{bytes_eq-Decides}
use Rattle.zir_form.specs.declared.front.Front.{Front}
use Rattle.zir_form.specs.Front.{front_in}
use Rattle.type_form.specs.declared.index.Index.{Index}
use Rattle.type_form.specs.declared.unit.Unit.{Unit as AnyUnit}
use Rattle.type_form.specs.Known.{Known, IsInjective}
use Rattle.type_form.specs.Means.{IsBytes, bytes_at}
use Rattle.type_form.proofs.LayerLemmas.{bytes_at-injective}
use Rattle.elab_form.specs.Questions as plain
use Rattle.elab_form.proofs.Sameness.{same_unit-self as plain-self, same_unit-true as plain-true, true-together}
use Rattle.trace_log.specs.declared.answers.Answers.{Answers}
use Rattle.trace_log.specs.declared.question.UnitIndex.{UnitIndex}
use Rattle.trace_log.specs.declared.result.UnitResult.{UnitResult}
use Rattle.trace_log.specs.Indices.{bytes_index, unit_index}
use Rattle.trace_log.specs.Readings.{IsUnit, IsUnitResult, unit_at, unit_result_at}
use Rattle.trace_log.specs.Snapshots.{AreAnswers, file_get, files_at, front_at, front_get, lines_of, front_lines, result_get, results_at}
use Rattle.trace_log.specs.Tables.{PutsAt}
use Rattle.trace_log.specs.TableStates.{same_unit, PutsUnit}
use Rattle.trace_log.proofs.IndexLemmas.{bytes_index-at, bytes_index-is, unit_index-at, unit_index-is}
use Rattle.trace_log.proofs.Sameness.{same_unit-self, same_unit-true, unit_at-injective}

-- ---- snapshots alike

pub files-alike : (k : Known) (old new : Answers) → ((n : ℕ) → front_get new n ≡ front_get old n) → ((path : Index) → file_get new path ≡ file_get old path)
    → files_at k new ≡ files_at k old
files-alike k old new fronts files = λ i b. option_map front_in (option_and_then (λ path. option_and_then (λ n. fronts n i) (files path i)) (bytes_index k b))

pub results-alike : (k : Known) (old new : Answers) → ((u : UnitIndex) → result_get new u ≡ result_get old u) → results_at k new ≡ results_at k old
results-alike k old new results = λ i x. option_map (unit_result_at k) (option_and_then (λ u. results u i) (unit_index k x))

pub lines-alike : (old new : Answers) → ((n : ℕ) → front_get new n ≡ front_get old n) → lines_of new ≡ lines_of old
lines-alike old new fronts = λ i n. front_lines (fronts n i)

pub AreAnswers-alike : (k : Known) (old new : Answers) → ((path : Index) → file_get new path ≡ file_get old path) → ((u : UnitIndex) → result_get new u ≡ result_get old u)
    → AreAnswers k old → AreAnswers k new
AreAnswers-alike k old new files results h = record {
  files = λ path n e. h.files path n (sym (files path) ∙ e);
  units = λ u r e. h.units u r (sym (results u) ∙ e);
  results = λ u r e. h.results u r (sym (results u) ∙ e);
}

-- ---- a snapshot with nothing

pub AreAnswers-none : (k : Known) (a : Answers) → ((path : Index) → file_get a path ≡ None) → ((u : UnitIndex) → result_get a u ≡ None) → AreAnswers k a
AreAnswers-none k a files results = record {
  files = λ path n e. let none = files path in absurd (cc);
  units = λ u r e. let none = results u in absurd (cc);
  results = λ u r e. let none = results u in absurd (cc);
}

then-none : {A B : Type 0} (f : A → Option B) (o : Option A) → ((x : A) → f x ≡ None) → option_and_then f o ≡ None
then-none f None h = refl
then-none f (Some x) h = h x

pub files-none : (k : Known) (a : Answers) → ((path : Index) → file_get a path ≡ None) → (b : List ℕ) → files_at k a b ≡ None
files-none k a files b = ap (option_map front_in) (then-none (front_at a) (bytes_index k b) (λ path. ap (option_and_then (front_get a)) (files path)))

pub results-none : (k : Known) (a : Answers) → ((u : UnitIndex) → result_get a u ≡ None) → (x : AnyUnit) → results_at k a x ≡ None
results-none k a results x = ap (option_map (unit_result_at k)) (then-none (result_get a) (unit_index k x) results)

-- ---- a result that was put

-- what holds of a value that was put and of all that was there holds of what is there
put-holds : {T : Type 0} (old new : UnitIndex → Option T) (u : UnitIndex) (v : T) (Holds : UnitIndex → T → Type 0) → PutsUnit old new u v
    → Holds u v → ((w : UnitIndex) (x : T) → old w ≡ Some x → Holds w x) → (w : UnitIndex) (x : T) → new w ≡ Some x → Holds w x
put-holds {T = T} old new u v Holds puts here there w x e = by_test (same_unit w u) refl (sym (puts w) ∙ e)
  where
    by_test : (b : Bool) → same_unit w u ≡ b → (if b then Some v else old w) ≡ Some x → Holds w x
    by_test true f g =
        let is : v ≡ x = cc in
        subst (λ y. Holds y x) (sym (same_unit-true w u f)) (subst (Holds u) is here)
    by_test false f g = there w x g

pub AreAnswers-result : (k : Known) (old new : Answers) (u : UnitIndex) (r : UnitResult) → ((path : Index) → file_get new path ≡ file_get old path)
    → PutsUnit (result_get old) (result_get new) u r → IsUnit k u → IsUnitResult k r → AreAnswers k old → AreAnswers k new
AreAnswers-result k old new u r files puts known denotes h = record {
  files = λ path n e. h.files path n (sym (files path) ∙ e);
  units = put-holds (result_get old) (result_get new) u r (λ w x. IsUnit k w) puts known h.units;
  results = put-holds (result_get old) (result_get new) u r (λ w x. IsUnitResult k x) puts denotes h.results;
}

-- the test on units is the test on the units by indices that they are
unit-tested : (k : Known) (w u : UnitIndex) (x : AnyUnit) → IsInjective k → IsUnit k w → IsUnit k u → unit_at k w ≡ x → same_unit w u ≡ plain.same_unit x (unit_at k u)
unit-tested k w u x g a b is =
    true-together _ _
    (λ e. ap (λ y. plain.same_unit y (unit_at k u)) (sym is ∙ ap (unit_at k) (same_unit-true w u e)) ∙ plain-self (unit_at k u))
    (λ e. ap (same_unit w) (sym (unit_at-injective k w u g a b (is ∙ plain-true x (unit_at k u) e))) ∙ same_unit-self w)

-- the results that are there now: one more, or another
pub results-put : (k : Known) (old new : Answers) (u : UnitIndex) (r : UnitResult) → IsInjective k → IsUnit k u → PutsUnit (result_get old) (result_get new) u r
    → (x : AnyUnit) → results_at k new x ≡ (if plain.same_unit x (unit_at k u) then Some (unit_result_at k r) else results_at k old x)
results-put k old new u r g h puts x = by_index (unit_index k x) refl
  where
    tested : (b : Bool) (o : Option UnitResult) → option_map (unit_result_at k) (if b then Some r else o) ≡ (if b then Some (unit_result_at k r) else option_map (unit_result_at k) o)
    tested true o = refl
    tested false o = refl

    other : (b : Bool) → plain.same_unit x (unit_at k u) ≡ b → unit_index k x ≡ None → None ≡ (if b then Some (unit_result_at k r) else None)
    other true e f =
        let there : unit_index k x ≡ Some u = ap (unit_index k) (plain-true x (unit_at k u) e) ∙ unit_index-at k g u h in
        absurd (cc)
    other false e f = refl

    by_index : (o : Option UnitIndex) → unit_index k x ≡ o
        → option_map (unit_result_at k) (option_and_then (result_get new) o)
        ≡ (if plain.same_unit x (unit_at k u) then Some (unit_result_at k r) else option_map (unit_result_at k) (option_and_then (result_get old) o))
    by_index None e = other (plain.same_unit x (unit_at k u)) refl e
    by_index (Some w) e =
        let t = unit_index-is k x w e in
        ap (option_map (unit_result_at k)) (puts w)
        ∙ (tested (same_unit w u) (result_get old w)
        ∙ ap (λ b. if b then Some (unit_result_at k r) else option_map (unit_result_at k) (result_get old w)) (unit-tested k w u x g t.known h t.is))

-- ---- a file that was put

pub AreAnswers-file : (k : Known) (old new : Answers) (path : Index) (number : ℕ) → ((i : Index) → file_get new i ≡ (if i.0 == path.0 then Some number else file_get old i))
    → ((u : UnitIndex) → result_get new u ≡ result_get old u) → IsBytes k path → AreAnswers k old → AreAnswers k new
AreAnswers-file k old new path number puts results known h = record {
  files = λ i n e. by_test i n (i.0 == path.0) refl (sym (puts i) ∙ e);
  units = λ u r e. h.units u r (sym (results u) ∙ e);
  results = λ u r e. h.results u r (sym (results u) ∙ e);
}
  where
    by_test : (i : Index) (n : ℕ) (b : Bool) → (i.0 == path.0) ≡ b → (if b then Some number else file_get old i) ≡ Some n → IsBytes k i
    by_test i n true e f = let one : path ≡ i = ap (λ m. record { 0 = m }) (sym (eqb-true i.0 path.0 e)) in subst (IsBytes k) one known
    by_test i n false e f = h.files i n f

-- a look-up of a front by a number at which none was put
kept-front : (old new : Answers) (number : ℕ) (front : Front) → PutsAt (front_get old) (front_get new) number (Some front) → (o : Option ℕ) → (o ≡ Some number → ⊥)
    → option_and_then (front_get new) o ≡ option_and_then (front_get old) o
kept-front old new number front puts None other = refl
kept-front old new number front puts (Some m) other = puts m ∙ by_test (m == number) refl
  where
    by_test : (b : Bool) → (m == number) ≡ b → (if b then Some front else front_get old m) ≡ front_get old m
    by_test true e = absurd (other (ap Some (eqb-true m number e)))
    by_test false e = refl

put-front : (old new : Answers) (number : ℕ) (front : Front) → PutsAt (front_get old) (front_get new) number (Some front) → front_get new number ≡ Some front
put-front old new number front puts = puts number ∙ ap (λ (b : Bool). if b then Some front else front_get old number) (eq-eqb number number refl)

-- the test on bytes is the test on their indices
bytes-tested : (k : Known) (i path : Index) (b : List ℕ) → IsInjective k → IsBytes k i → IsBytes k path → bytes_at k i ≡ b → (i.0 == path.0) ≡ bytes_eq b (bytes_at k path)
bytes-tested k i path b g h p is =
    true-together _ _
    (λ e. (bytes_eq-Decides b (bytes_at k path)).1 (sym is ∙ ap (bytes_at k) (ap (λ n. record { 0 = n }) (eqb-true i.0 path.0 e))))
    (λ e.
    let one : i ≡ path = bytes_at-injective k i path g h p (is ∙ (bytes_eq-Decides b (bytes_at k path)).0 e) in
    eq-eqb i.0 path.0 (ap (λ (j : Index). j.0) one))

-- The files that are there now: one more, or another. No other file has the number of its front.
pub files-put : (k : Known) (old new : Answers) (path : Index) (number : ℕ) (front : Front) → IsInjective k → IsBytes k path
    → PutsAt (front_get old) (front_get new) number (Some front)
    → ((i : Index) → file_get new i ≡ (if i.0 == path.0 then Some number else file_get old i))
    → ((i : Index) → file_get old i ≡ Some number → i ≡ path)
    → (b : List ℕ) → files_at k new b ≡ (if bytes_eq b (bytes_at k path) then Some (front_in front) else files_at k old b)
files-put k old new path number front g h fronts puts only b = by_index (bytes_index k b) refl
  where
    other : (c : Bool) → bytes_eq b (bytes_at k path) ≡ c → bytes_index k b ≡ None → None ≡ (if c then Some (front_in front) else None)
    other true e f =
        let there : bytes_index k b ≡ Some path = ap (bytes_index k) ((bytes_eq-Decides b (bytes_at k path)).0 e) ∙ bytes_index-at k g path h in
        absurd (cc)
    other false e f = refl

    by_test : (i : Index) (c : Bool) → (i.0 == path.0) ≡ c
        → option_map front_in (option_and_then (front_get new) (if c then Some number else file_get old i))
        ≡ (if c then Some (front_in front) else option_map front_in (front_at old i))
    by_test i true e = ap (option_map front_in) (put-front old new number front fronts)
    by_test i false e =
        ap (option_map front_in) (kept-front old new number front fronts (file_get old i) (λ f.
        let one : (i.0 == path.0) ≡ true = eq-eqb i.0 path.0 (ap (λ (j : Index). j.0) (only i f)) in
        absurd (cc)))

    by_index : (o : Option Index) → bytes_index k b ≡ o
        → option_map front_in (option_and_then (front_at new) o) ≡ (if bytes_eq b (bytes_at k path) then Some (front_in front) else option_map front_in (option_and_then (front_at old) o))
    by_index None e = other (bytes_eq b (bytes_at k path)) refl e
    by_index (Some i) e =
        let t = bytes_index-is k b i e in
        ap (λ o. option_map front_in (option_and_then (front_get new) o)) (puts i)
        ∙ (by_test i (i.0 == path.0) refl
        ∙ ap (λ c. if c then Some (front_in front) else option_map front_in (front_at old i)) (bytes-tested k i path b g t.0 h t.1))

-- a front that is put at a number, and then is that of a file
pub files-put-both : (k : Known) (old mid new : Answers) (path : Index) (number : ℕ) (front : Front) → IsInjective k → IsBytes k path
    → PutsAt (front_get old) (front_get mid) number (Some front) → ((i : Index) → file_get mid i ≡ file_get old i)
    → ((n : ℕ) → front_get new n ≡ front_get mid n) → ((i : Index) → file_get new i ≡ (if i.0 == path.0 then Some number else file_get mid i))
    → ((i : Index) → file_get old i ≡ Some number → i ≡ path)
    → (b : List ℕ) → files_at k new b ≡ (if bytes_eq b (bytes_at k path) then Some (front_in front) else files_at k old b)
files-put-both k old mid new path number front g h fronts same after puts only b =
    files-put k old new path number front g h (λ n. after n ∙ fronts n)
    (λ i. puts i ∙ ap (λ o. if i.0 == path.0 then Some number else o) (same i)) only b

-- a front at a number that no file has
pub files-unused : (k : Known) (old new : Answers) (number : ℕ) (front : Front) → PutsAt (front_get old) (front_get new) number (Some front)
    → ((i : Index) → file_get new i ≡ file_get old i) → ((i : Index) → file_get old i ≡ Some number → ⊥) → (b : List ℕ) → files_at k new b ≡ files_at k old b
files-unused k old new number front fronts same unused b = λ j. option_map front_in (option_and_then (λ i. alike i j) (bytes_index k b))
  where
    alike : (i : Index) → front_at new i ≡ front_at old i
    alike i = ap (option_and_then (front_get new)) (same i) ∙ kept-front old new number front fronts (file_get old i) (unused i)

-- a file that has the front with a number now
pub file-put : (k : Known) (old new : Answers) (path : Index) (number : ℕ) → IsInjective k → IsBytes k path → ((n : ℕ) → front_get new n ≡ front_get old n)
    → ((i : Index) → file_get new i ≡ (if i.0 == path.0 then Some number else file_get old i))
    → (b : List ℕ) → files_at k new b ≡ (if bytes_eq b (bytes_at k path) then option_map front_in (front_get old number) else files_at k old b)
file-put k old new path number g h fronts puts b = by_index (bytes_index k b) refl
  where
    other : (c : Bool) → bytes_eq b (bytes_at k path) ≡ c → bytes_index k b ≡ None → None ≡ (if c then option_map front_in (front_get old number) else None)
    other true e f =
        let there : bytes_index k b ≡ Some path = ap (bytes_index k) ((bytes_eq-Decides b (bytes_at k path)).0 e) ∙ bytes_index-at k g path h in
        absurd (cc)
    other false e f = refl

    as_before : (o : Option ℕ) → option_and_then (front_get new) o ≡ option_and_then (front_get old) o
    as_before o = λ j. option_and_then (λ n. fronts n j) o

    by_test : (i : Index) (c : Bool)
        → option_map front_in (option_and_then (front_get old) (if c then Some number else file_get old i))
        ≡ (if c then option_map front_in (front_get old number) else option_map front_in (front_at old i))
    by_test i true = refl
    by_test i false = refl

    by_index : (o : Option Index) → bytes_index k b ≡ o
        → option_map front_in (option_and_then (front_at new) o) ≡ (if bytes_eq b (bytes_at k path) then option_map front_in (front_get old number) else option_map front_in (option_and_then (front_at old) o))
    by_index None e = other (bytes_eq b (bytes_at k path)) refl e
    by_index (Some i) e =
        let t = bytes_index-is k b i e in
        ap (option_map front_in) (as_before (file_get new i) ∙ ap (option_and_then (front_get old)) (puts i))
        ∙ (by_test i (i.0 == path.0)
        ∙ ap (λ c. if c then option_map front_in (front_get old number) else option_map front_in (front_at old i)) (bytes-tested k i path b g t.0 h t.1))
