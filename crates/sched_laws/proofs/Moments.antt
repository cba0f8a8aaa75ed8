-- What holds at every moment of an honest log.
use Rattle.std.proofs.Common.{◌≡◌, ◌≢◌, ℕ, suc, ◌≤◌, max, List, [], ◌∷◌, Option, Some, None, refl, sym, ap, ◌∙◌, subst, inl, inr, arith}
use Rattle.std.proofs.Math.Nat.{le-max_left, le-max_right}
use Rattle.std.specs.Option.{option_map, option_and_then}
use Rattle.question_runs.specs.Runs.{Run, ends, fails, stops, goes, asked, referred, Answers, stop_of}
use Rattle.question_runs.specs.RunLaws.{Lower}
use Rattle.question_runs.specs.Rounds.{Language, answer_by, now, run_by, result_of, needs, Meets, round, run_at, Demanded, root, met}
use Rattle.question_runs.specs.Kept.{KeptUnit, IsKept, Clean}
use Rattle.question_runs.specs.KeptLaws.{Serves}
use Rattle.question_runs.proofs.RunSteps.{Answers-run}
use Rattle.question_runs.proofs.GrowingRuns.{continues-stop}
use Rattle.question_runs.proofs.GrowingRounds.{run_by-continues, continues-meets, round-grows}
use Rattle.question_runs.proofs.KeptRuns.{result-over, continues-over, clean-unit-serves}
use Rattle.sched_core.specs.declared.event.Event.{Event}
use Rattle.sched_core.specs.declared.event.Event.TheVariants as event
use Rattle.sched_core.specs.declared.event.Stand.TheVariants as at
use Rattle.sched_core.specs.Machine.{Schedule, stand, IsKnown, done_in, Enabled, after, replay, IsLog}
use Rattle.sched_laws.specs.Honest.{AllKnown, KnownUpTo, run_in, Wanted, as_root, by_run, by_kept, Ended, ran, kept_so, HasReason, IsHonest}
use Rattle.sched_laws.specs.Laws.{IsLawful, IsUpdate, IsSound}
use Rattle.sched_laws.proofs.EventFacts.{known-stays, known-new, done-stays, done-new, waiting-new, stand-done}

-- a unit waits for the one that its run stops for, with all that the run meets known
pub record Waits {Q A U R : Type 0} (l : Language Q A U R) (files : Q → A) (s : Schedule U R) (u v : U) : Type 0 where
  pub need : needs l (run_in l files s u) ≡ Some v
  pub none : done_in l.same_unit s v ≡ None
  pub all : AllKnown l s (run_in l files s u)

-- one round serves for all that is done
pub record Moment {Q A U R : Type 0} (l : Language Q A U R) (files : Q → A) (roots : List U) (s : Schedule U R) : Type 0 where
  pub level : ℕ
  pub done : (u : U) (r : R) → done_in l.same_unit s u ≡ Some r → (result_of l (run_at l files level u) ≡ Some r) × AllKnown l s (run_at l files level u)
  pub demanded : (u : U) → IsKnown l.same_unit s u → Demanded l files roots u
  pub waiting : (u v : U) → stand l.same_unit s u ≡ Some (at.Waiting v) → Waits l files s u v

-- the question that a run stops at, of a unit that it needs
pub needs-stop : {Q A U R : Type 0} (l : Language Q A U R) (r : Run Q A U R) (v : U) → needs l r ≡ Some v → (q : Q) × ((stop_of r ≡ Some q) × (l.unit_asked q ≡ Some v))
needs-stop {Q} l r v e = go (stop_of r) refl e
  where
    go : (x : Option Q) → stop_of r ≡ x → option_and_then l.unit_asked x ≡ Some v → (q : Q) × ((stop_of r ≡ Some q) × (l.unit_asked q ≡ Some v))
    go None is e' = absurd (cc)
    go (Some q) is e' = (q, (is, e'))

module _ {Q A U R : Type 0} (l : Language Q A U R) (files : Q → A) where
  -- no answer where the unit that is asked for has no result
  pub none-now : (results : U → Option R) (q : Q) (v : U) → l.unit_asked q ≡ Some v → results v ≡ None → now l files results q ≡ None
  none-now results q v at none = ap (answer_by (files q) l.answer_of results) at ∙ ap (option_map l.answer_of) none

  option_map-none : (x : Option R) → option_map l.answer_of x ≡ None → x ≡ None
  option_map-none None e = refl
  option_map-none (Some r) e = absurd (cc)

  pub now-none : (results : U → Option R) (q : Q) (v : U) → l.unit_asked q ≡ Some v → now l files results q ≡ None → results v ≡ None
  now-none results q v at none = option_map-none (results v) (sym (ap (answer_by (files q) l.answer_of results) at) ∙ none)

  -- a run that stops for a unit is the same with more results, as long as that unit has none
  pub stays-stopped : (few more : U → Option R) → Lower few more → (u v : U) → needs l (run_by l files few u) ≡ Some v → more v ≡ None → run_by l files more u ≡ run_by l files few u
  stays-stopped few more up u v need none =
      let at : (q : Q) × ((stop_of (run_by l files few u) ≡ Some q) × (l.unit_asked q ≡ Some v)) = needs-stop l (run_by l files few u) v need in
      continues-stop (now l files more) (run_by l files few u) (run_by l files more u) at.0 (run_by-continues l files few more up u) (Answers-run l.setting (now l files more) (l.elab u) []) at.1.0 (none-now more at.0 v at.1.1 none)

  -- a run that has a result is the same with more results
  pub stays-over : (few more : U → Option R) → Lower few more → (u : U) (r : R) → result_of l (run_by l files few u) ≡ Some r → run_by l files more u ≡ run_by l files few u
  stays-over few more up u r is = continues-over (run_by l files few u) (run_by l files more u) (run_by-continues l files few more up u) (result-over l (run_by l files few u) r is)

  -- the unit that a run needs is one that it meets
  pub needs-meets : (r : Run Q A U R) (v : U) → needs l r ≡ Some v → Meets l r v
  needs-meets (ends x) v e = absurd (cc)
  needs-meets fails v e = absurd (cc)
  needs-meets (stops q) v e = e
  needs-meets (goes (asked q a) r) v e = inr (needs-meets r v e)
  needs-meets (goes (referred u) r) v e = inr (needs-meets r v e)

  -- a unit of which all is known up to a unit without a result stops for that one
  pub known-up-to : (s : Schedule U R) (r : Run Q A U R) (v : U) → Answers (now l files (done_in l.same_unit s)) r → done_in l.same_unit s v ≡ None → IsKnown l.same_unit s v → KnownUpTo l s r v → (needs l r ≡ Some v) × AllKnown l s r
  known-up-to s (ends x) v w none known k = absurd k
  known-up-to s fails v w none known k = absurd k
  known-up-to s (stops q) v w none known k = (k, λ u meets. let one : v ≡ u = cc in subst (IsKnown l.same_unit s) one known)
  known-up-to s (goes (asked q a) r) v w none known (here, later) = elim later [
    | inl is ↦ let no_answer : now l files (done_in l.same_unit s) q ≡ None = none-now (done_in l.same_unit s) q v is none in let answer : now l files (done_in l.same_unit s) q ≡ Some a = w.0 in absurd (cc)
    | inr k ↦ let rest : (needs l r ≡ Some v) × AllKnown l s r = known-up-to s r v w.1 none known k in (rest.0, λ u meets. elim meets [ inl e ↦ here u e | inr m ↦ rest.1 u m ])
  ]
  known-up-to s (goes (referred u) r) v w none known (here, k) = let rest : (needs l r ≡ Some v) × AllKnown l s r = known-up-to s r v w none known k in (rest.0, λ u' meets. elim meets [ inl is ↦ subst (IsKnown l.same_unit s) is here | inr m ↦ rest.1 u' m ])

module _ {Q A U R : Type 0} (l : Language Q A U R) (files : Q → A) (roots : List U) (kept : List (KeptUnit Q A U R)) (lawful : IsLawful l) (is_kept : IsKept l kept) where
  -- what is done is done by the round behind the level
  pub lower-level : (s : Schedule U R) (m : Moment l files roots s) → Lower (done_in l.same_unit s) (round l files (suc m.level))
  lower-level s m u r is = (m.done u r is).0

  serves : (k : KeptUnit Q A U R) → Clean l files kept k → Serves l files k
  serves k clean = clean-unit-serves l files kept lawful.answers is_kept k clean

  -- a unit with a reason to be demanded is demanded
  pub wanted-demanded : (s : Schedule U R) (m : Moment l files roots s) (u : U) → Wanted l files kept roots s u → Demanded l files roots u
  wanted-demanded s m u (as_root is) = root is
  wanted-demanded s m u (by_run v known meets) = met (m.demanded v known) (suc m.level) (continues-meets l (run_in l files s v) (run_at l files (suc m.level) v) u (run_by-continues l files (done_in l.same_unit s) (round l files (suc m.level)) (lower-level s m) v) meets)
  wanted-demanded s m u (by_kept k clean known meets) = let again : Serves l files k = serves k clean in met (m.demanded k.unit known) again.level (subst (λ r. Meets l r u) (sym again.runs) meets)

  module _ (past : List (Event U R)) (m : Moment l files roots (replay l.same_unit past)) (e : Event U R) (enabled : Enabled l.same_unit (replay l.same_unit past) e) (reason : HasReason l files kept roots past e) where
    all-stays : (r : Run Q A U R) → AllKnown l (replay l.same_unit past) r → AllKnown l (after l.same_unit (replay l.same_unit past) e) r
    all-stays r all u meets = known-stays l.same_unit lawful.units (replay l.same_unit past) e u (all u meets)

    none-stays : (v : U) (x : Option R) → done_in l.same_unit (replay l.same_unit past) v ≡ None → ((w : ℕ) (r : R) → e ≢ event.Finish w v r) → done_in l.same_unit (after l.same_unit (replay l.same_unit past) e) v ≡ x → x ≡ None
    none-stays v None none not_so is = refl
    none-stays v (Some r) none not_so is = elim (done-new l.same_unit lawful.units (replay l.same_unit past) e v r (stand l.same_unit (replay l.same_unit past) v) refl is) [ inl old ↦ absurd (cc) | inr (w, finish) ↦ absurd (not_so w r finish) ]

    waits-stays : (u v : U) → Waits l files (replay l.same_unit past) u v → ((w : ℕ) (r : R) → e ≢ event.Finish w v r) → Waits l files (after l.same_unit (replay l.same_unit past) e) u v
    waits-stays u v waits not_so =
        let none : done_in l.same_unit (after l.same_unit (replay l.same_unit past) e) v ≡ None = none-stays v (done_in l.same_unit (after l.same_unit (replay l.same_unit past) e) v) waits.none not_so refl in
        let same : run_in l files (after l.same_unit (replay l.same_unit past) e) u ≡ run_in l files (replay l.same_unit past) u = stays-stopped l files (done_in l.same_unit (replay l.same_unit past)) (done_in l.same_unit (after l.same_unit (replay l.same_unit past) e)) (done-stays l.same_unit lawful.units (replay l.same_unit past) e enabled) u v waits.need none in
        record {
          need = ap (needs l) same ∙ waits.need;
          none = none;
          all = subst (λ r. AllKnown l (after l.same_unit (replay l.same_unit past) e) r) (sym same) (all-stays (run_in l files (replay l.same_unit past) u) waits.all);
        }

    demanded-after : (u : U) → IsKnown l.same_unit (after l.same_unit (replay l.same_unit past) e) u → Demanded l files roots u
    demanded-after u known = elim (known-new l.same_unit lawful.units (replay l.same_unit past) e u (stand l.same_unit (replay l.same_unit past) u) refl known) [
      | inl old ↦ m.demanded u old
      | inr is ↦ wanted-demanded (replay l.same_unit past) m u (subst (λ x. HasReason l files kept roots past x) is reason)
    ]

    needed : (w : ℕ) (u v : U) → e ≡ event.Need w u v → done_in l.same_unit (replay l.same_unit past) v ≡ None → Waits l files (replay l.same_unit past) u v
    needed w u v is none =
        let up_to : HasReason l files kept roots past (event.Need w u v) = subst (λ x. HasReason l files kept roots past x) is reason in
        let may : Enabled l.same_unit (replay l.same_unit past) (event.Need w u v) = subst (λ x. Enabled l.same_unit (replay l.same_unit past) x) is enabled in
        let both : (needs l (run_in l files (replay l.same_unit past) u) ≡ Some v) × AllKnown l (replay l.same_unit past) (run_in l files (replay l.same_unit past) u) = known-up-to l files (replay l.same_unit past) (run_in l files (replay l.same_unit past) u) v (Answers-run l.setting (now l files (done_in l.same_unit (replay l.same_unit past))) (l.elab u) []) none may.1 up_to.0 in
        record { need = both.0; none = none; all = both.1 }

    waiting-after : (u v : U) → stand l.same_unit (after l.same_unit (replay l.same_unit past) e) u ≡ Some (at.Waiting v) → Waits l files (after l.same_unit (replay l.same_unit past) e) u v
    waiting-after u v is = elim (waiting-new l.same_unit lawful.units (replay l.same_unit past) e u v (stand l.same_unit (replay l.same_unit past) u) refl is) [
      | inl (old, not_so) ↦ waits-stays u v (m.waiting u v old) not_so
      | inr (w, (new, none)) ↦ waits-stays u v (needed w u v new none) (λ w' r finish. cc)
    ]

    -- a moment with this level, where the level serves for what is finished newly
    at-level : (level : ℕ) → m.level ≤ level → ((w : ℕ) (u : U) (r : R) → e ≡ event.Finish w u r → (result_of l (run_at l files level u) ≡ Some r) × AllKnown l (replay l.same_unit past) (run_at l files level u)) → Moment l files roots (after l.same_unit (replay l.same_unit past) e)
    at-level level higher new = record {
      level = level;
      done = λ u r is. elim (done-new l.same_unit lawful.units (replay l.same_unit past) e u r (stand l.same_unit (replay l.same_unit past) u) refl is) [
        | inl old ↦
            let was : (result_of l (run_at l files m.level u) ≡ Some r) × AllKnown l (replay l.same_unit past) (run_at l files m.level u) = m.done u r old in
            let same : run_at l files level u ≡ run_at l files m.level u = stays-over l files (round l files m.level) (round l files level) (round-grows l files m.level level higher) u r was.0 in
            (ap (result_of l) same ∙ was.0, subst (λ x. AllKnown l (after l.same_unit (replay l.same_unit past) e) x) (sym same) (all-stays (run_at l files m.level u) was.1))
        | inr (w, finish) ↦ ((new w u r finish).0, all-stays (run_at l files level u) (new w u r finish).1)
      ];
      demanded = demanded-after;
      waiting = waiting-after;
    }

module _ {Q A U R : Type 0} (l : Language Q A U R) (files : Q → A) (roots : List U) (kept : List (KeptUnit Q A U R)) (lawful : IsLawful l) (is_kept : IsKept l kept) where
  -- what is finished serves at some level
  FinishServes : Schedule U R → ℕ → U → R → Type 0
  FinishServes s level u r = (higher : ℕ) × ((level ≤ higher) × ((result_of l (run_at l files higher u) ≡ Some r) × AllKnown l s (run_at l files higher u)))

  finish-serves : (s : Schedule U R) (m : Moment l files roots s) (u : U) (r : R) → Ended l files kept s u r → FinishServes s m.level u r
  unfolding FinishServes
  finish-serves s m u r (ran is all) =
      let same : run_at l files (suc m.level) u ≡ run_in l files s u = stays-over l files (done_in l.same_unit s) (round l files (suc m.level)) (lower-level l files roots kept lawful is_kept s m) u r is in
      (suc m.level, (omega arith, (ap (result_of l) same ∙ is, subst (λ x. AllKnown l s x) (sym same) all)))
  finish-serves s m u r (kept_so k clean unit result all) =
      let again : Serves l files k = serves l files roots kept lawful is_kept k clean in
      let higher : ℕ = max m.level again.level in
      let same : run_at l files higher k.unit ≡ k.ran = stays-over l files (round l files again.level) (round l files higher) (round-grows l files again.level higher (le-max_right m.level again.level)) k.unit k.result (ap (result_of l) again.runs ∙ again.ended) ∙ again.runs in
      let here : run_at l files higher u ≡ k.ran = ap (run_at l files higher) (sym unit) ∙ same in
      (higher, (le-max_left m.level again.level, (ap (result_of l) here ∙ again.ended ∙ ap (λ x. Some x) result, subst (λ x. AllKnown l s x) (sym here) all)))

  moment-step : (past : List (Event U R)) → Moment l files roots (replay l.same_unit past) → (e : Event U R) → Enabled l.same_unit (replay l.same_unit past) e → HasReason l files kept roots past e → Moment l files roots (after l.same_unit (replay l.same_unit past) e)
  unfolding FinishServes
  moment-step past m (event.Demand u) enabled reason = at-level l files roots kept lawful is_kept past m (event.Demand u) enabled reason m.level (omega arith) (λ w v r is. absurd (cc))
  moment-step past m (event.Claim w u purpose) enabled reason = at-level l files roots kept lawful is_kept past m (event.Claim w u purpose) enabled reason m.level (omega arith) (λ w' v r is. absurd (cc))
  moment-step past m (event.Need w u on) enabled reason = at-level l files roots kept lawful is_kept past m (event.Need w u on) enabled reason m.level (omega arith) (λ w' v r is. absurd (cc))
  moment-step past m (event.Reclaim w) enabled reason = at-level l files roots kept lawful is_kept past m (event.Reclaim w) enabled reason m.level (omega arith) (λ w' v r is. absurd (cc))
  moment-step past m (event.Finish w u r) enabled reason =
      let serves_it : FinishServes (replay l.same_unit past) m.level u r = finish-serves (replay l.same_unit past) m u r reason in
      at-level l files roots kept lawful is_kept past m (event.Finish w u r) enabled reason serves_it.0 serves_it.1.0 (λ w' v x is.
      let unit : u ≡ v = cc in
      let result : r ≡ x = cc in
      (ap (λ z. result_of l (run_at l files serves_it.0 z)) (sym unit) ∙ serves_it.1.1.0 ∙ ap (λ z. Some z) result, subst (λ z. AllKnown l (replay l.same_unit past) (run_at l files serves_it.0 z)) unit serves_it.1.1.1))

  pub moment-of : (log : List (Event U R)) → IsLog l.same_unit log → IsHonest l files kept roots log → Moment l files roots (replay l.same_unit log)
  moment-of [] possible honest = record { level = 0; done = λ u r is. absurd (cc); demanded = λ u known. absurd (cc); waiting = λ u v is. absurd (cc) }
  moment-of (e ∷ past) possible honest = moment-step past (moment-of past possible.1 honest.1) e possible.0 honest.0

pub every-moment : {Q A U R : Type 0} (l : Language Q A U R) (files : Q → A) (roots : List U) (kept : List (KeptUnit Q A U R)) (log : List (Event U R)) → IsUpdate l files roots kept log → IsSound l files roots (replay l.same_unit log)
every-moment l files roots kept log update =
    let m : Moment l files roots (replay l.same_unit log) = moment-of l files roots kept update.lawful update.is_kept log update.possible update.honest in
    record { done = λ u r is. (suc m.level, (m.done u r (stand-done l.same_unit (replay l.same_unit log) u r is)).0); demanded = m.demanded }
