-- What holds of an honest log at rest.
use Rattle.std.proofs.Common.{◌≡◌, ℕ, zero, suc, List, [], ◌⊎◌, Option, Some, None, refl, sym, ap, ◌∙◌, subst, inl, inr, arith}
use Rattle.std.proofs.lemmas.Bool.{cases_lt}
use Rattle.question_runs.specs.Runs.{Run, ends, fails, stops, goes}
use Rattle.question_runs.specs.RunLaws.{Continues}
use Rattle.question_runs.specs.Rounds.{Language, now, result_of, needs, Meets, round, run_at, Demanded, root, met, Stuck}
use Rattle.question_runs.specs.Kept.{KeptUnit, KeptAfter, Clean}
use Rattle.question_runs.proofs.GrowingRuns.{continues-run}
use Rattle.question_runs.proofs.GrowingRounds.{run_at-continues, continues-result, continues-meets, round-grows, answer-again}
use Rattle.question_runs.proofs.KeptRuns.{Asks-Meets, Answers-given, result-over, over-same, clean-unit-serves}
use Rattle.question_runs.proofs.RunSteps.{Answers-run, run-same}
use Rattle.question_runs.specs.KeptLaws.{Serves}
use Rattle.sched_core.specs.declared.event.Event.{Event}
use Rattle.sched_core.specs.declared.event.Stand.{Stand}
use Rattle.sched_core.specs.declared.event.Stand.TheVariants as at
use Rattle.sched_core.specs.Machine.{Schedule, stand, IsKnown, done_in, replay}
use Rattle.sched_laws.specs.Honest.{AllKnown, run_in}
use Rattle.sched_laws.specs.Laws.{IsUpdate, IsAtRest, IsComplete, IsKeptOf}
use Rattle.sched_laws.proofs.EventFacts.{IsSome-value, IsSome-of, done-stand, stand-done}
use Rattle.sched_laws.proofs.Moments.{Waits, Moment, stays-stopped, stays-over, needs-meets, moment-of}

-- two rounds that give a unit results give it one
pub rounds-one : {Q A U R : Type 0} (l : Language Q A U R) (files : Q → A) (n m : ℕ) (u : U) (x y : R) → round l files n u ≡ Some x → round l files m u ≡ Some y → x ≡ y
rounds-one l files n m u x y e f = elim (cases_lt n m) [
  | inl less ↦ let here : round l files m u ≡ Some x = round-grows l files n m (omega arith) u x e in cc
  | inr below ↦ let here : round l files n u ≡ Some y = round-grows l files m n below u y f in cc
]

-- a run that needs a unit has no result
needs-none : {Q A U R : Type 0} (l : Language Q A U R) (r : Run Q A U R) (v : U) (x : R) → needs l r ≡ Some v → result_of l r ≡ Some x → ⊥
needs-none l (ends y) v x e f = cc
needs-none l fails v x e f = cc
needs-none l (stops q) v x e f = cc
needs-none l (goes m r) v x e f = needs-none l r v x e f

-- a stuck unit needs one unit
pub one-need : {Q A U R : Type 0} (l : Language Q A U R) (files : Q → A) (roots : List U) (u v w : U) → Stuck l files roots u v → Stuck l files roots u w → v ≡ w
one-need l files roots u v w a b = elim (cases_lt a.needs_it.0 b.needs_it.0) [
  | inl less ↦ let same : run_at l files b.needs_it.0 u ≡ run_at l files a.needs_it.0 u = stays-stopped l files (round l files a.needs_it.0) (round l files b.needs_it.0) (round-grows l files a.needs_it.0 b.needs_it.0 (omega arith)) u v a.needs_it.1 (a.it_has_none b.needs_it.0) in
      let here : needs l (run_at l files b.needs_it.0 u) ≡ Some v = ap (needs l) same ∙ a.needs_it.1 in
      let there : needs l (run_at l files b.needs_it.0 u) ≡ Some w = b.needs_it.1 in
      cc
  | inr below ↦ let same : run_at l files a.needs_it.0 u ≡ run_at l files b.needs_it.0 u = stays-stopped l files (round l files b.needs_it.0) (round l files a.needs_it.0) (round-grows l files b.needs_it.0 a.needs_it.0 below) u w b.needs_it.1 (b.it_has_none a.needs_it.0) in
      let here : needs l (run_at l files a.needs_it.0 u) ≡ Some w = ap (needs l) same ∙ b.needs_it.1 in
      let there : needs l (run_at l files a.needs_it.0 u) ≡ Some v = a.needs_it.1 in
      cc
]

module _ {Q A U R : Type 0} (l : Language Q A U R) (files : Q → A) (roots : List U) (s : Schedule U R) (m : Moment l files roots s) (rest : IsAtRest l files roots s) where
  -- a known unit is done or waits
  pub settled : (u : U) (x : Stand U R) → stand l.same_unit s u ≡ Some x → ((r : R) × (stand l.same_unit s u ≡ Some (at.Done r))) ⊎ ((v : U) × (stand l.same_unit s u ≡ Some (at.Waiting v)))
  settled u at.Queued is = absurd (rest.none_queued u is)
  settled u (at.Claimed w) is = absurd (rest.none_claimed u w is)
  settled u (at.Done r) is = inl (r, is)
  settled u (at.Waiting v) is = inr (v, is)

  done-round : (u : U) (r : R) → stand l.same_unit s u ≡ Some (at.Done r) → round l files (suc m.level) u ≡ Some r
  done-round u r is = (m.done u r (stand-done l.same_unit s u r is)).0

  -- a unit that waits goes no further with the results of a round, if these are done where the units are known
  no-further : (n : ℕ) → ((u : U) (x : R) → IsKnown l.same_unit s u → round l files n u ≡ Some x → done_in l.same_unit s u ≡ Some x) → (u v : U) → Waits l files s u v → Continues (run_at l files n u) (run_in l files s u)
  no-further n final u v waits = continues-run l.setting (now l files (round l files n)) (now l files (done_in l.same_unit s)) (l.elab u) [] (λ q a asks e. answer-again (files q) (files q) a l.answer_of (round l files n) (done_in l.same_unit s) (l.unit_asked q) (λ none same. same) (λ u' r at is. final u' r (waits.all u' (Asks-Meets l (run_in l files s u) q u' asks at)) is) e)

  -- what a round gives a known unit is done
  final : (n : ℕ) (u : U) (x : R) → IsKnown l.same_unit s u → round l files n u ≡ Some x → done_in l.same_unit s u ≡ Some x
  final zero u x known e = cc
  final (suc n) u x known e =
      let has : (y : Stand U R) × (stand l.same_unit s u ≡ Some y) = IsSome-value (stand l.same_unit s u) known in
      elim (settled u has.0 has.1) [
        | inl (r, is) ↦ stand-done l.same_unit s u x (is ∙ ap (λ z. Some (at.Done z)) (rounds-one l files (suc m.level) (suc n) u r x (done-round u r is) e))
        | inr (v, is) ↦
            let waits : Waits l files s u v = m.waiting u v is in
            absurd (needs-none l (run_in l files s u) v x waits.need (continues-result l (run_at l files n u) (run_in l files s u) x (no-further n (final n) u v waits) e))
      ]

  demanded-known : (u : U) → Demanded l files roots u → IsKnown l.same_unit s u
  demanded-known u (root is) = rest.roots_known u is
  demanded-known u (met {u = v} d n meets) =
      let has : (y : Stand U R) × (stand l.same_unit s v ≡ Some y) = IsSome-value (stand l.same_unit s v) (demanded-known v d) in
      elim (settled v has.0 has.1) [
        | inl (r, is) ↦
            let done : (result_of l (run_at l files m.level v) ≡ Some r) × AllKnown l s (run_at l files m.level v) = m.done v r (stand-done l.same_unit s v r is) in
            elim (cases_lt n m.level) [
              | inl less ↦ done.1 u (continues-meets l (run_at l files n v) (run_at l files m.level v) u (run_at-continues l files n m.level v (omega arith)) meets)
              | inr below ↦ done.1 u (subst (λ x. Meets l x u) (stays-over l files (round l files m.level) (round l files n) (round-grows l files m.level n below) v r done.0) meets)
            ]
        | inr (w, is) ↦
            let waits : Waits l files s v w = m.waiting v w is in
            waits.all u (continues-meets l (run_at l files n v) (run_in l files s v) u (no-further n (final n) v w waits) meets)
      ]

  -- a unit that waits has no result in any round, and is stuck
  waits-none : (u v : U) → stand l.same_unit s u ≡ Some (at.Waiting v) → (n : ℕ) (x : Option R) → round l files n u ≡ x → x ≡ None
  waits-none u v is n None e = refl
  waits-none u v is n (Some x) e = let done : stand l.same_unit s u ≡ Some (at.Done x) = done-stand l.same_unit s u x (final n u x (IsSome-of (stand l.same_unit s u) (at.Waiting v) is) e) in absurd (cc)

  undone-none : (v : U) → IsKnown l.same_unit s v → done_in l.same_unit s v ≡ None → (n : ℕ) (x : Option R) → round l files n v ≡ x → x ≡ None
  undone-none v known none n None e = refl
  undone-none v known none n (Some x) e = let done : done_in l.same_unit s v ≡ Some x = final n v x known e in absurd (cc)

  pub waiting-stuck : (u v : U) → stand l.same_unit s u ≡ Some (at.Waiting v) → Stuck l files roots u v
  waiting-stuck u v is =
      let waits : Waits l files s u v = m.waiting u v is in
      let v_known : IsKnown l.same_unit s v = waits.all v (needs-meets l files (run_in l files s u) v waits.need) in
      record {
        demanded = m.demanded u (IsSome-of (stand l.same_unit s u) (at.Waiting v) is);
        none = λ n. waits-none u v is n (round l files n u) refl;
        needs_it = (suc m.level, ap (needs l) (stays-stopped l files (done_in l.same_unit s) (round l files (suc m.level)) (λ u' r is'. (m.done u' r is').0) u v waits.need (undone-none v v_known waits.none (suc m.level) (round l files (suc m.level) v) refl)) ∙ waits.need);
        it_has_none = λ n. undone-none v v_known waits.none n (round l files n v) refl;
      }

  stuck-waiting : (u v : U) → Stuck l files roots u v → stand l.same_unit s u ≡ Some (at.Waiting v)
  stuck-waiting u v stuck =
      let has : (y : Stand U R) × (stand l.same_unit s u ≡ Some y) = IsSome-value (stand l.same_unit s u) (demanded-known u stuck.demanded) in
      elim (settled u has.0 has.1) [
        | inl (r, is) ↦ let given : round l files (suc m.level) u ≡ Some r = done-round u r is in let none : round l files (suc m.level) u ≡ None = stuck.none (suc m.level) in absurd (cc)
        | inr (w, is) ↦ is ∙ ap (λ z. Some (at.Waiting z)) (one-need l files roots u w v (waiting-stuck u w is) stuck)
      ]

  pub complete : IsComplete l files roots s
  complete = record {
    known = λ u. (m.demanded u, demanded-known u);
    done = λ u r. (λ is. (m.demanded u (IsSome-of (stand l.same_unit s u) (at.Done r) is), (suc m.level, done-round u r is)), λ w. done-stand l.same_unit s u r (final w.1.0 u r (demanded-known u w.0) w.1.1));
    waiting = λ u v. (waiting-stuck u v, stuck-waiting u v);
  }

pub last-moment : {Q A U R : Type 0} (l : Language Q A U R) (files : Q → A) (roots : List U) (kept : List (KeptUnit Q A U R)) (log : List (Event U R)) → IsUpdate l files roots kept log → IsAtRest l files roots (replay l.same_unit log) → IsComplete l files roots (replay l.same_unit log)
last-moment l files roots kept log update rest = complete l files roots (replay l.same_unit log) (moment-of l files roots kept update.lawful update.is_kept log update.possible update.honest) rest

-- at rest a unit that is done has its run of the round
module _ {Q A U R : Type 0} (l : Language Q A U R) (files : Q → A) (roots : List U) (s : Schedule U R) (m : Moment l files roots s) (rest : IsAtRest l files roots s) where
  done-run : (u : U) (r : R) → stand l.same_unit s u ≡ Some (at.Done r) → run_in l files s u ≡ run_at l files m.level u
  done-run u r is =
      let done : (result_of l (run_at l files m.level u) ≡ Some r) × AllKnown l s (run_at l files m.level u) = m.done u r (stand-done l.same_unit s u r is) in
      run-same l.setting (now l files (round l files m.level)) (now l files (done_in l.same_unit s)) (l.elab u) [] (Answers-given (now l files (round l files m.level)) (now l files (done_in l.same_unit s)) (run_at l files m.level u) (result-over l (run_at l files m.level u) r done.0) (Answers-run l.setting (now l files (round l files m.level)) (l.elab u) []) (λ q a was asks e. answer-again (files q) (files q) a l.answer_of (round l files m.level) (done_in l.same_unit s) (l.unit_asked q) (λ none same. same) (λ v x at is'. final l files roots s m rest m.level v x (done.1 v (Asks-Meets l (run_at l files m.level u) q v asks at)) is') e))

  pub kept-after : (new : List (KeptUnit Q A U R)) → IsKeptOf l files roots s new → KeptAfter l files roots new
  kept-after new is = record {
    demanded = λ k among. m.demanded k.unit (IsSome-of (stand l.same_unit s k.unit) (at.Done k.result) (is.done k among));
    ran = λ k among. (m.level, sym (done-run k.unit k.result (is.done k among)) ∙ is.ran k among);
    ended = λ k among. ap (result_of l) (sym (is.ran k among) ∙ done-run k.unit k.result (is.done k among)) ∙ (m.done k.unit k.result (stand-done l.same_unit s k.unit k.result (is.done k among))).0;
    all = λ u n r d given. is.all u r (done-stand l.same_unit s u r (final l files roots s m rest n u r (demanded-known l files roots s m rest u d) given));
  }

  pub clean-stays : (k : KeptUnit Q A U R) → Serves l files k → IsKnown l.same_unit s k.unit → (run_in l files s k.unit ≡ k.ran) × (stand l.same_unit s k.unit ≡ Some (at.Done k.result))
  clean-stays k again known =
      let given : round l files (suc again.level) k.unit ≡ Some k.result = ap (result_of l) again.runs ∙ again.ended in
      let done : stand l.same_unit s k.unit ≡ Some (at.Done k.result) = done-stand l.same_unit s k.unit k.result (final l files roots s m rest (suc again.level) k.unit k.result known given) in
      (done-run k.unit k.result done ∙ over-same l files m.level again.level k.unit (result-over l (run_at l files m.level k.unit) k.result (m.done k.unit k.result (stand-done l.same_unit s k.unit k.result done)).0) (result-over l (run_at l files again.level k.unit) k.result given) ∙ again.runs, done)

pub kept-again : {Q A U R : Type 0} (l : Language Q A U R) (files : Q → A) (roots : List U) (kept : List (KeptUnit Q A U R)) (log : List (Event U R)) → IsUpdate l files roots kept log → IsAtRest l files roots (replay l.same_unit log) → (new : List (KeptUnit Q A U R)) → IsKeptOf l files roots (replay l.same_unit log) new → KeptAfter l files roots new
kept-again l files roots kept log update rest new is = kept-after l files roots (replay l.same_unit log) (moment-of l files roots kept update.lawful update.is_kept log update.possible update.honest) rest new is

pub clean-runs-stay : {Q A U R : Type 0} (l : Language Q A U R) (files : Q → A) (roots : List U) (kept : List (KeptUnit Q A U R)) (log : List (Event U R)) → IsUpdate l files roots kept log → IsAtRest l files roots (replay l.same_unit log) → (k : KeptUnit Q A U R) → Clean l files kept k → IsKnown l.same_unit (replay l.same_unit log) k.unit → (run_in l files (replay l.same_unit log) k.unit ≡ k.ran) × (stand l.same_unit (replay l.same_unit log) k.unit ≡ Some (at.Done k.result))
clean-runs-stay l files roots kept log update rest k clean known = clean-stays l files roots (replay l.same_unit log) (moment-of l files roots kept update.lawful update.is_kept log update.possible update.honest) rest k (clean-unit-serves l files kept update.lawful.answers update.is_kept k clean) known
