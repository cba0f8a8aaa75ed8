-- Kept runs that are runs now.
use Rattle.std.proofs.Common.{◌≡◌, ℕ, zero, suc, ◌<◌, List, [], length, Option, Some, None, refl, sym, ap, ◌∙◌, subst, inl, inr, arith}
use Rattle.std.proofs.lemmas.Bool.{cases_lt}
use Rattle.std.specs.List.{Contains}
use Rattle.question_runs.specs.Runs.{Run, ends, fails, stops, goes, asked, referred, Asks, WasGiven, IsOver, Answers}
use Rattle.question_runs.specs.RunLaws.{Continues}
use Rattle.question_runs.specs.Rounds.{Language, now, result_of, Meets, round, run_at, Demanded, met}
use Rattle.question_runs.specs.Kept.{KeptUnit, KeptAfter, IsKept, Suspect, changed, follows, Clean}
use Rattle.question_runs.specs.KeptLaws.{IsCompared, Serves}
use Rattle.question_runs.proofs.RunSteps.{Answers-run, run-same, IsRunOf-run}
use Rattle.question_runs.proofs.GrowingRounds.{run_at-continues, answer-again}

-- a run with a result is over, and what goes on in its moves is the same
pub result-over : {Q A U R : Type 0} (l : Language Q A U R) (r : Run Q A U R) (x : R) → result_of l r ≡ Some x → IsOver r
result-over l (ends y) x e = tt
result-over l fails x e = tt
result-over l (stops q) x e = cc
result-over l (goes m r) x e = result-over l r x e

pub continues-over : {Q A U R : Type 0} (r later : Run Q A U R) → Continues r later → IsOver r → later ≡ r
continues-over (ends y) later c over = c
continues-over fails later c over = c
continues-over (stops q) later c over = absurd over
continues-over (goes m r) later (rest, (is, c)) over = is ∙ ap (λ x. goes m x) (continues-over r rest c over)

-- of two rounds whose runs are over each has the other's
pub over-same : {Q A U R : Type 0} (l : Language Q A U R) (files : Q → A) (n m : ℕ) (u : U) → IsOver (run_at l files n u) → IsOver (run_at l files m u) → run_at l files n u ≡ run_at l files m u
over-same l files n m u over over' = elim (cases_lt n m) [
  | inl less ↦ sym (continues-over (run_at l files n u) (run_at l files m u) (run_at-continues l files n m u (omega arith)) over)
  | inr below ↦ continues-over (run_at l files m u) (run_at l files n u) (run_at-continues l files m n u below) over'
]

-- a run that is over has its answers at hand where each that it was given is there
pub Answers-given : {Q A U R : Type 0} (given other : Q → Option A) (r : Run Q A U R) → IsOver r → Answers given r → ((q : Q) (a : A) → WasGiven r q a → Asks r q → given q ≡ Some a → other q ≡ Some a) → Answers other r
Answers-given given other (ends y) over w each = tt
Answers-given given other fails over w each = tt
Answers-given given other (stops q) over w each = absurd over
Answers-given given other (goes (asked q a) r) over w each = (each q a (inl (refl, refl)) (inl refl) w.0, Answers-given given other r over w.1 (λ p b was asks e. each p b (inr was) (inr asks) e))
Answers-given given other (goes (referred u) r) over w each = Answers-given given other r over w each

pub Asks-Meets : {Q A U R : Type 0} (l : Language Q A U R) (r : Run Q A U R) (q : Q) (u : U) → Asks r q → l.unit_asked q ≡ Some u → Meets l r u
Asks-Meets l (ends y) q u asks e = absurd asks
Asks-Meets l fails q u asks e = absurd asks
Asks-Meets l (stops p) q u asks e = ap l.unit_asked asks ∙ e
Asks-Meets l (goes (asked p a) r) q u asks e = elim asks [ inl is ↦ inl (ap l.unit_asked is ∙ e) | inr there ↦ inr (Asks-Meets l r q u there e) ]
Asks-Meets l (goes (referred v) r) q u asks e = inr (Asks-Meets l r q u asks e)

module _ {Q A U R : Type 0} (l : Language Q A U R) (old files : Q → A) (roots : List U) (kept : List (KeptUnit Q A U R)) (compared : IsCompared A) (after : KeptAfter l old roots kept) where
  -- the run of a kept unit is the one of each old round that gives it a result
  ran-at : (k : KeptUnit Q A U R) → Contains kept k → (n : ℕ) → IsOver (run_at l old n k.unit) → run_at l old n k.unit ≡ k.ran
  ran-at k among n over =
      let ran : (m : ℕ) × (run_at l old m k.unit ≡ k.ran) = after.ran k among in
      over-same l old n ran.0 k.unit over (subst IsOver (sym ran.1) (result-over l k.ran k.result (after.ended k among))) ∙ ran.1

  -- what a clean unit asks for is clean
  clean-asked : (k k' : KeptUnit Q A U R) (q : Q) (u : U) → Clean l files kept k → Asks k.ran q → l.unit_asked q ≡ Some u → Contains kept k' → k'.unit ≡ u → Clean l files kept k'
  clean-asked k k' q u clean asks e among is = record { among = among; sound = λ s. clean.sound (follows k clean.among q u asks e (subst (λ v. Suspect l files kept v) is s)) }

  -- the files answer a clean unit as they did
  file-same : (k : KeptUnit Q A U R) (q : Q) (a : A) → Clean l files kept k → WasGiven k.ran q a → l.unit_asked q ≡ None → files q ≡ a
  file-same k q a clean was e = elim (compared a (files q)) [ inl is ↦ sym is | inr differs ↦ absurd (clean.sound (changed k clean.among q a was e differs)) ]

  clean-answers : (n : ℕ) → ((k : KeptUnit Q A U R) (x : R) → Clean l files kept k → round l old n k.unit ≡ Some x → round l files n k.unit ≡ Some x) → (k : KeptUnit Q A U R) → Clean l files kept k → run_at l old n k.unit ≡ k.ran → Answers (now l files (round l files n)) k.ran
  clean-answers n step k clean is = Answers-given (now l old (round l old n)) (now l files (round l files n)) k.ran (result-over l k.ran k.result (after.ended k clean.among)) (subst (λ r. Answers (now l old (round l old n)) r) is (Answers-run l.setting (now l old (round l old n)) (l.elab k.unit) [])) (λ q a was asks e. answer-again (old q) (files q) a l.answer_of (round l old n) (round l files n) (l.unit_asked q) (λ none same. file-same k q a clean was none) (λ u r at e'.
      let demanded : Demanded l old roots u = met (after.demanded k clean.among) n (subst (λ r'. Meets l r' u) (sym is) (Asks-Meets l k.ran q u asks at)) in
      let other : (k' : KeptUnit Q A U R) × Contains kept k' × (k'.unit ≡ u) = after.all u n r demanded e' in
      subst (λ v. round l files n v ≡ Some r) other.2 (step other.0 r (clean-asked k other.0 q u clean asks at other.1 other.2) (ap (round l old n) other.2 ∙ e'))) e)

  clean-round : (n : ℕ) (k : KeptUnit Q A U R) (x : R) → Clean l files kept k → round l old n k.unit ≡ Some x → round l files n k.unit ≡ Some x
  clean-round zero k x clean e = cc
  clean-round (suc n) k x clean e =
      let is : run_at l old n k.unit ≡ k.ran = ran-at k clean.among n (result-over l (run_at l old n k.unit) x e) in
      let again : run_at l files n k.unit ≡ run_at l old n k.unit = run-same l.setting (now l old (round l old n)) (now l files (round l files n)) (l.elab k.unit) [] (subst (λ r. Answers (now l files (round l files n)) r) (sym is) (clean-answers n (clean-round n) k clean is)) in
      ap (result_of l) again ∙ e

  clean-serves : (k : KeptUnit Q A U R) → Clean l files kept k → Serves l files k
  clean-serves k clean =
      let ran : (n : ℕ) × (run_at l old n k.unit ≡ k.ran) = after.ran k clean.among in
      let again : run_at l files ran.0 k.unit ≡ run_at l old ran.0 k.unit = run-same l.setting (now l old (round l old ran.0)) (now l files (round l files ran.0)) (l.elab k.unit) [] (subst (λ r. Answers (now l files (round l files ran.0)) r) (sym ran.1) (clean-answers ran.0 (clean-round ran.0) k clean ran.1)) in
      record { level = ran.0; runs = again ∙ ran.1; ended = after.ended k clean.among }

same-serves : {Q A U R : Type 0} (l : Language Q A U R) (old files : Q → A) (roots : List U) (kept : List (KeptUnit Q A U R)) → KeptAfter l old roots kept → (k : KeptUnit Q A U R) → Contains kept k → (n : ℕ) → Answers (now l files (round l files n)) k.ran → Serves l files k
same-serves l old files roots kept after k among n answers =
    let ran : (m : ℕ) × (run_at l old m k.unit ≡ k.ran) = after.ran k among in
    record { level = n; runs = IsRunOf-run l.setting (now l files (round l files n)) (l.elab k.unit) k.ran (now l old (round l old ran.0), ran.1) answers; ended = after.ended k among }

-- nothing is kept, or an update's units
none-kept : {Q A U R : Type 0} (kept : List (KeptUnit Q A U R)) (k : KeptUnit Q A U R) → kept ≡ [] → Contains kept k → ⊥
none-kept {Q} {A} {U} {R} kept k is (i, below, there) = let none : i < 0 = subst (λ (ks : List (KeptUnit Q A U R)). i < length ks) is below in omega arith

pub clean-unit-serves : {Q A U R : Type 0} (l : Language Q A U R) (files : Q → A) (kept : List (KeptUnit Q A U R)) → IsCompared A → IsKept l kept → (k : KeptUnit Q A U R) → Clean l files kept k → Serves l files k
clean-unit-serves l files kept compared is_kept k clean = elim is_kept [ inl is ↦ absurd (none-kept kept k is clean.among) | inr (old, (roots, after)) ↦ clean-serves l old files roots kept compared after k clean ]

pub same-unit-serves : {Q A U R : Type 0} (l : Language Q A U R) (files : Q → A) (kept : List (KeptUnit Q A U R)) → IsKept l kept → (k : KeptUnit Q A U R) → Contains kept k → (n : ℕ) → Answers (now l files (round l files n)) k.ran → Serves l files k
same-unit-serves l files kept is_kept k among n answers = elim is_kept [ inl is ↦ absurd (none-kept kept k is among) | inr (old, (roots, after)) ↦ same-serves l old files roots kept after k among n answers ]
