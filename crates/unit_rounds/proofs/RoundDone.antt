-- What a round came to, over an interner's indices.
use Rattle.std.proofs.Common.{◌≡◌, ℕ, ◌+◌, ◌<◌, ◌≤◌, Bool, true, false, List, [], ◌∷◌, ◌++◌, ◌⊎◌, Option, length, refl, sym, ap, ◌∙◌, subst, inl, inr, arith, flat_map, length-append, append-nil}
use Rattle.std.specs.Prelude.{nat_lt, ◌||◌}
use Rattle.std.specs.List.{Contains}
use Rattle.std.proofs.Math.Seq.{take-length}
use Rattle.std.proofs.lemmas.Bool.{cases_lt}
use Rattle.std.proofs.lemmas.Bool.Decides.{Decides-ltb}
use Rattle.std.proofs.lemmas.Option.{slice_get_within}
use Rattle.type_form.specs.declared.unit.Unit.{Unit as AnyUnit}
use Rattle.type_form.specs.Known.{Known}
use Rattle.question_runs.specs.Rounds.{run_by}
use Rattle.elab_form.specs.Units.{language}
use Rattle.trace_log.specs.declared.answers.Answers.{Answers}
use Rattle.trace_log.specs.declared.question.UnitIndex.{UnitIndex}
use Rattle.trace_log.specs.Attempts.{file_answers, unit_run}
use Rattle.trace_log.specs.Readings.{unit_at}
use Rattle.trace_log.specs.Snapshots.{results_at}
use Rattle.unit_levels.specs.Levels.{with_units, met_in}
use Rattle.unit_rounds.specs.Rounds.{IsBegun, GetsOne, IsMovedRound, IsSettledRound, next_results, next_units, units_of}
use Rattle.unit_rounds.specs.RoundSteps.{WaitsSo, StandSo, IsRound}
use Rattle.unit_rounds.specs.Standing.{IsFilled}
use Rattle.unit_rounds.proofs.IndexSteps.{tells-units}
use Rattle.unit_rounds.proofs.InRound.{InRound, files-grown, length-map}
use Rattle.unit_rounds.proofs.ResultLemmas.{file_answers-same}
use Rattle.unit_rounds.proofs.RoundEnd as ending
use Rattle.unit_rounds.proofs.UnitSteps.{round-front}

nothing-long : {X : Type 0} (xs : List X) → length xs ≤ 0 → xs ≡ []
nothing-long [] below = refl
nothing-long (x ∷ xs) below = absurd (omega arith)

module _ (k0 k : Known) (a : Answers) (units0 : List UnitIndex) (waits0 : List (Option ℕ)) (moved : Bool) (units : List UnitIndex) (waits : List (Option ℕ)) (next : Answers) (b : IsBegun k0 a units0 waits0)
    (h : InRound k0 k a units0 waits0 (length units0) moved units waits next) where
  abbrev known : List AnyUnit
  known = units_of k0 units0

  abbrev f : AnyUnit → List AnyUnit
  f u = met_in language (run_by language (file_answers k0 a) (results_at k0 a) u)

  round : IsRound language (file_answers k0 a) (results_at k0 a) known (length known) moved (units_of k units) waits (results_at k next)
  round = subst (λ n. IsRound language (file_answers k0 a) (results_at k0 a) known n moved (units_of k units) waits (results_at k next)) (sym (length-map (unit_at k0) units0)) h.round

  units-are : units_of k units ≡ next_units k0 a units0
  unfolding next_units unit_run
  units-are = round.units ∙ ap (λ us. with_units language known (flat_map f us)) (take-length known)

  front : (more : List AnyUnit) × (units_of k units ≡ known ++ more)
  front = round-front language tells-units (file_answers k0 a) (results_at k0 a) known (length known) moved (units_of k units) waits (results_at k next) round

  size : length units ≡ length units0 + length front.0
  size = sym (length-map (unit_at k) units) ∙ ap (λ us. length us) front.1 ∙ length-append known front.0 ∙ ap (λ n. n + length front.0) (length-map (unit_at k0) units0)

  pub round-settled : moved ≡ false → length units ≤ length units0 → IsSettledRound k0 k a units0 units waits
  unfolding unit_run
  round-settled idle long =
      let none : front.0 ≡ [] = nothing-long front.0 (omega (arith, size, long)) in
      let same : units_of k units ≡ known = front.1 ∙ ap (λ us. known ++ us) none ∙ append-nil known in
      record {
        same = same;
        met = sym units-are ∙ same;
        given = λ u among. round.still idle u (subst (λ us. Contains us u) (sym (take-length known)) among);
        are = h.are;
        long = omega (arith, size, long, h.long);
        waits = record {
          each = λ i u at.
              let w = round.waits i u (slice_get_within known i u at) at in
              (w.0, w.1, subst (λ us. WaitsSo language us (run_by language (file_answers k0 a) (results_at k0 a) u) w.0) same w.2);
        };
      }

  files-are : file_answers k next ≡ file_answers k0 a
  files-are = file_answers-same k a next h.files ∙ files-grown k0 k a h.grows b.one h.one b.answers

  gets-one : moved ≡ true → GetsOne k0 a units0
  unfolding unit_run
  gets-one e = let t = round.some e in record { unit = t.0; known = t.2; none = t.3; result = t.1; gives = t.4 }

  moved-by : (moved ≡ true) ⊎ (length units0 < length units) → (length units0 < length units) ⊎ GetsOne k0 a units0
  moved-by (inl e) = inr (gets-one e)
  moved-by (inr more) = inl more

  pub round-moved : (waits' : List (Option ℕ)) → IsFilled waits waits' → length waits' ≡ length units → (moved ≡ true) ⊎ (length units0 < length units) → IsMovedRound k0 k a next units0 units waits'
  unfolding next_results unit_run
  round-moved waits' filled long more = record {
    units = units-are;
    results = λ u. ending.done-is language tells-units (file_answers k0 a) (results_at k0 a) known waits0 b.stands moved (units_of k units) waits (results_at k next) round u;
    begun = record {
      one = h.one;
      are = h.are;
      few = h.few;
      long = long;
      answers = h.next_are;
      stands = subst (λ g. StandSo language g (results_at k next) (units_of k units) waits') (sym files-are)
          (ending.next-stands language tells-units (file_answers k0 a) (results_at k0 a) known waits0 b.stands moved (units_of k units) waits (results_at k next) round waits' filled (h.long ∙ sym (length-map (unit_at k0) units0)));
    };
    files = h.files;
    moved = moved-by more;
  }

true-false : (b : Bool) → b ≡ true → b ≡ false → ⊥
true-false b e f = absurd (cc)

-- what the test on a round tells
pub brings-false : (m : Bool) (n o : ℕ) → (m || nat_lt n o) ≡ false → (m ≡ false) × (o ≤ n)
brings-false true n o e = absurd (cc)
brings-false false n o e = (refl, elim (cases_lt n o) [ inl less ↦ absurd (true-false (nat_lt n o) ((Decides-ltb n o).1 less) e) | inr more ↦ more ])

pub brings-true : (m : Bool) (n o : ℕ) → (m || nat_lt n o) ≡ true → (m ≡ true) ⊎ (n < o)
brings-true true n o e = inl refl
brings-true false n o e = inr ((Decides-ltb n o).0 e)
