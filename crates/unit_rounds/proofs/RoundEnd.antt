-- Known units as they stand at the beginning of the next round.
use Rattle.std.proofs.Common.{◌≡◌, ℕ, ◌<◌, Bool, true, false, List, ◌++◌, Option, Some, None, length, take, refl, sym, ap, ◌∙◌, subst, inl, inr, arith, flat_map, if◌then◌else◌}
use Rattle.std.specs.Prelude.{slice_get}
use Rattle.std.specs.List.{Contains}
use Rattle.std.proofs.Math.Seq.{take-length}
use Rattle.std.proofs.lemmas.Bool.{cases_lt}
use Rattle.std.proofs.lemmas.List.Folds.{list_any-append}
use Rattle.question_runs.specs.Runs.{Run}
use Rattle.question_runs.specs.RunLaws.{Lower}
use Rattle.question_runs.specs.Rounds.{Language, run_by, result_of, needs}
use Rattle.question_runs.proofs.GrowingRounds.{run_by-continues}
use Rattle.question_runs.proofs.KeptRuns.{continues-over}
use Rattle.unit_levels.specs.Levels.{TellsUnits, has_unit, met_in}
use Rattle.unit_levels.proofs.UnitLists.{Contains-flat_map, with_units-has, has-Contains, Contains-has}
use Rattle.unit_levels.proofs.Waiting.{stays}
use Rattle.unit_rounds.specs.RoundSteps.{WaitsSo, Knows, StandSo, IsRound}
use Rattle.unit_rounds.specs.Standing.{IsFilled}
use Rattle.unit_rounds.proofs.UnitSteps.{at-front, needs-result, none-some, or-false, result-over, round-front, slice_get-Contains, some-one}

module _ {Q A U R : Type 0} (l : Language Q A U R) (tells : TellsUnits l) (files : Q → A) (results : U → Option R) (known : List U) (waits : List (Option ℕ)) (stood : StandSo l files results known waits)
    (moved : Bool) (now : List U) (waiting : List (Option ℕ)) (done : U → Option R) (round : IsRound l files results known (length known) moved now waiting done) where
  abbrev ran : U → Run Q A U R
  ran u = run_by l files results u

  abbrev again : U → Run Q A U R
  again u = run_by l files done u

  pub done-is : (u : U) → done u ≡ (if has_unit l known u then result_of l (ran u) else results u)
  done-is u = round.given u ∙ ap (λ ks. if has_unit l ks u then result_of l (ran u) else results u) (take-length known)

  done-if : (u : U) (b : Bool) → has_unit l known u ≡ b → done u ≡ (if b then result_of l (ran u) else results u)
  done-if u b e = done-is u ∙ ap (λ c. if c then result_of l (ran u) else results u) e

  pub done-known : (u : U) → Contains known u → done u ≡ result_of l (ran u)
  done-known u among = done-if u true (Contains-has l tells known u among)

  lower-by : (u : U) (r : R) (b : Bool) → has_unit l known u ≡ b → results u ≡ Some r → done u ≡ Some r
  lower-by u r true is e = done-if u true is ∙ (stood.over u r (has-Contains l tells known u is) e).0
  lower-by u r false is e = absurd (none-some (results u) r (stood.outside u is) e)

  pub lower : Lower results done
  lower u r e = lower-by u r (has_unit l known u) refl e

  front : (more : List U) × (now ≡ known ++ more)
  front = round-front l tells files results known (length known) moved now waiting done round

  met-known : (u : U) → Contains known u → Knows l now (ran u)
  met-known u there v among =
      subst (λ us. Contains us v) (sym round.units)
      (with_units-has l tells known (flat_map (λ x. met_in l (ran x)) (take (length known) known)) v
      (Contains-flat_map (λ x. met_in l (ran x)) (take (length known) known) u v (subst (λ ks. Contains ks u) (sym (take-length known)) there) among))

  over-again : (u : U) (r : R) → result_of l (ran u) ≡ Some r → again u ≡ ran u
  over-again u r e = continues-over (ran u) (again u) (run_by-continues l files results done lower u) (result-over l (ran u) r e)

  waits-again : (u v : U) → needs l (ran u) ≡ Some v → done v ≡ None → again u ≡ ran u
  waits-again u v need none = stays l files results u v need done (run_by-continues l files results done lower u) none

  outside-by : (u : U) → has_unit l now u ≡ false → done u ≡ None
  outside-by u e =
      let parts = or-false (has_unit l known u) (has_unit l front.0 u) (sym (list_any-append (l.same_unit u) known front.0) ∙ ap (λ us. has_unit l us u) (sym front.1) ∙ e) in
      done-if u false parts.0 ∙ stood.outside u parts.0

  over-by : (u : U) (r : R) (b : Bool) → has_unit l known u ≡ b → done u ≡ Some r → (result_of l (again u) ≡ Some r) × Knows l now (again u)
  over-by u r true is e =
      let ended : result_of l (ran u) ≡ Some r = sym (done-if u true is) ∙ e in
      let same : again u ≡ ran u = over-again u r ended in
      (ap (result_of l) same ∙ ended, subst (Knows l now) (sym same) (met-known u (has-Contains l tells known u is)))
  over-by u r false is e = absurd (none-some (done u) r (done-if u false is ∙ stood.outside u is) e)

  clear-by : (u : U) (r : R) (w : Option ℕ) → WaitsSo l now (ran u) w → result_of l (ran u) ≡ Some r → w ≡ None
  clear-by u r None so e = refl
  clear-by u r (Some j) so e = absurd (none-some (result_of l (ran u)) r (needs-result l (ran u) so.0 so.2) e)

  -- a known unit's place in the units of the round
  placed : (i : ℕ) (u : U) → i < length known → slice_get now i ≡ Some u → slice_get known i ≡ Some u
  placed i u below at = at-front known now front.0 i u front.1 below at

  module _ (next : List (Option ℕ)) (filled : IsFilled waiting next) (long : length waiting ≡ length known) where
    found : (i : ℕ) (u : U) (w : Option ℕ) → i < length known → slice_get now i ≡ Some u → slice_get next i ≡ Some w → Contains known u × WaitsSo l now (ran u) w
    found i u w below at here =
        let old = placed i u below at in
        let t = round.waits i u below old in
        let one : t.0 ≡ w = some-one t.0 w (sym t.1 ∙ sym (filled.same i (omega (arith, long))) ∙ here) in
        (slice_get-Contains known i u old, subst (WaitsSo l now (ran u)) one t.2)

    clear-at : (i : ℕ) (u : U) (w : Option ℕ) (r : R) → slice_get now i ≡ Some u → slice_get next i ≡ Some w → done u ≡ Some r → w ≡ None
    clear-at i u w r at here e = elim (cases_lt i (length known)) [
      | inl below ↦ let f = found i u w below at here in clear-by u r w f.1 (sym (done-known u f.0) ∙ e)
      | inr above ↦ filled.fresh i w (omega (arith, long)) here
    ]

    waiting-at : (i j : ℕ) (u : U) → slice_get now i ≡ Some u → slice_get next i ≡ Some (Some j)
        → (v : U) × (slice_get now j ≡ Some v) × (done v ≡ None → (needs l (again u) ≡ Some v) × Knows l now (again u))
    waiting-at i j u at here = elim (cases_lt i (length known)) [
      | inl below ↦
          let f = found i u (Some j) below at here in
          (f.1.0, f.1.1, λ none. let same : again u ≡ ran u = waits-again u f.1.0 f.1.2 none in (ap (needs l) same ∙ f.1.2, subst (Knows l now) (sym same) (met-known u f.0)))
      | inr above ↦ let is_none = filled.fresh i (Some j) (omega (arith, long)) here in absurd (cc)
    ]

    pub next-stands : StandSo l files done now next
    next-stands = record {
      outside = outside-by;
      over = λ u r among e. over-by u r (has_unit l known u) refl e;
      clear = clear-at;
      waiting = waiting-at;
    }
