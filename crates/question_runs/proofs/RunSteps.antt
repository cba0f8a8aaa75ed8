-- Lemmas on runs. Each goes along the program; at a question it looks at the answer that it had before and at the one at hand.
use Rattle.std.proofs.Common.{◌≡◌, Bool, true, false, List, [], ◌∷◌, ◌++◌, Option, Some, None, refl, sym, ap, ◌∙◌, subst}
use Rattle.question_runs.specs.Programs.{Prog, done, ask, refer}
use Rattle.question_runs.specs.Runs.{Move, asked, referred, Run, ends, fails, stops, goes, Setting, recall, unless, hears, run, IsOver, Answers, IsRunOf}
use Rattle.question_runs.specs.RunLaws.{Lower, AsksAnew}

-- the answers of a run are those at hand
Answers-unless : {Q A U R : Type 0} (given : Q → Option A) (b : Bool) (r : Run Q A U R) → Answers given r → Answers given (unless b r)
Answers-unless given true r w = tt
Answers-unless given false r w = w

Answers-hears : {Q A U R : Type 0} (s : Setting Q A) (given : Q → Option A) (moves : List (Move Q A U)) (q : Q) (before hand : Option A) → given q ≡ hand → (rest : A → List (Move Q A U) → Run Q A U R) → ((a : A) (now : List (Move Q A U)) → Answers given (rest a now)) → Answers given (hears s moves q before hand rest)
Answers-hears s given moves q (Some a) hand e rest w = Answers-unless given (s.failing a) (rest a moves) (w a moves)
Answers-hears s given moves q None (Some a) e rest w = (e, Answers-unless given (s.failing a) (rest a (moves ++ asked q a ∷ [])) (w a (moves ++ asked q a ∷ [])))
Answers-hears s given moves q None None e rest w = e

pub Answers-run : {Q A U R : Type 0} (s : Setting Q A) (given : Q → Option A) (p : Prog Q A U R) (moves : List (Move Q A U)) → Answers given (run s given moves p)
Answers-run s given (done r) moves = tt
Answers-run s given (ask q rest) moves = Answers-hears s given moves q (recall s.same moves q) (given q) refl (λ a now. run s given now (rest a)) (λ a now. Answers-run s given (rest a) now)
Answers-run s given (refer u p) moves = Answers-run s given p (moves ++ referred u ∷ [])

-- a run asks each question once
AsksAnew-unless : {Q A U R : Type 0} (s : Setting Q A) (moves : List (Move Q A U)) (b : Bool) (r : Run Q A U R) → AsksAnew s moves r → AsksAnew s moves (unless b r)
AsksAnew-unless s moves true r w = tt
AsksAnew-unless s moves false r w = w

AsksAnew-hears : {Q A U R : Type 0} (s : Setting Q A) (moves : List (Move Q A U)) (q : Q) (before hand : Option A) → recall s.same moves q ≡ before → (rest : A → List (Move Q A U) → Run Q A U R) → ((a : A) (now : List (Move Q A U)) → AsksAnew s now (rest a now)) → AsksAnew s moves (hears s moves q before hand rest)
AsksAnew-hears s moves q (Some a) hand e rest w = AsksAnew-unless s moves (s.failing a) (rest a moves) (w a moves)
AsksAnew-hears s moves q None (Some a) e rest w = (e, AsksAnew-unless s (moves ++ asked q a ∷ []) (s.failing a) (rest a (moves ++ asked q a ∷ [])) (w a (moves ++ asked q a ∷ [])))
AsksAnew-hears s moves q None None e rest w = e

pub AsksAnew-run : {Q A U R : Type 0} (s : Setting Q A) (given : Q → Option A) (p : Prog Q A U R) (moves : List (Move Q A U)) → AsksAnew s moves (run s given moves p)
AsksAnew-run s given (done r) moves = tt
AsksAnew-run s given (ask q rest) moves = AsksAnew-hears s moves q (recall s.same moves q) (given q) refl (λ a now. run s given now (rest a)) (λ a now. AsksAnew-run s given (rest a) now)
AsksAnew-run s given (refer u p) moves = AsksAnew-run s given p (moves ++ referred u ∷ [])

-- with the answers of a run at hand the program makes that run
same-unless : {Q A U R : Type 0} (given : Q → Option A) (b : Bool) (r r' : Run Q A U R) → (Answers given r → r' ≡ r) → Answers given (unless b r) → unless b r' ≡ unless b r
same-unless given true r r' step w = refl
same-unless given false r r' step w = step w

same-hears : {Q A U R : Type 0} (s : Setting Q A) (other : Q → Option A) (moves : List (Move Q A U)) (q : Q) (before hand : Option A) → (rest rest' : A → List (Move Q A U) → Run Q A U R) → ((a : A) (now : List (Move Q A U)) → Answers other (rest a now) → rest' a now ≡ rest a now) → Answers other (hears s moves q before hand rest) → hears s moves q before (other q) rest' ≡ hears s moves q before hand rest
same-hears s other moves q (Some a) hand rest rest' step w = same-unless other (s.failing a) (rest a moves) (rest' a moves) (step a moves) w
same-hears s other moves q None (Some a) rest rest' step w = ap (λ x. hears s moves q None x rest') w.0 ∙ ap (λ x. goes (asked q a) x) (same-unless other (s.failing a) (rest a (moves ++ asked q a ∷ [])) (rest' a (moves ++ asked q a ∷ [])) (step a (moves ++ asked q a ∷ [])) w.1)
same-hears s other moves q None None rest rest' step w = ap (λ x. hears s moves q None x rest') w

pub run-same : {Q A U R : Type 0} (s : Setting Q A) (given other : Q → Option A) (p : Prog Q A U R) (moves : List (Move Q A U)) → Answers other (run s given moves p) → run s other moves p ≡ run s given moves p
run-same s given other (done r) moves w = refl
run-same s given other (ask q rest) moves w = same-hears s other moves q (recall s.same moves q) (given q) (λ a now. run s given now (rest a)) (λ a now. run s other now (rest a)) (λ a now. run-same s given other (rest a) now) w
run-same s given other (refer u p) moves w = ap (λ x. goes (referred u) x) (run-same s given other p (moves ++ referred u ∷ []) w)

pub IsRunOf-run : {Q A U R : Type 0} (s : Setting Q A) (given : Q → Option A) (p : Prog Q A U R) (r : Run Q A U R) → IsRunOf s p r → Answers given r → run s given [] p ≡ r
IsRunOf-run s given p r (other, e) w = run-same s other given p [] (subst (λ x. Answers given x) (sym e) w) ∙ e

pub run-IsRunOf : {Q A U R : Type 0} (s : Setting Q A) (given : Q → Option A) (p : Prog Q A U R) (r : Run Q A U R) → run s given [] p ≡ r → IsRunOf s p r × Answers given r
run-IsRunOf s given p r e = ((given, e), subst (λ x. Answers given x) e (Answers-run s given p []))

-- more answers keep a run that is over
Answers-Lower : {Q A U R : Type 0} (few more : Q → Option A) → Lower few more → (r : Run Q A U R) → IsOver r → Answers few r → Answers more r
Answers-Lower few more up (ends r) over w = tt
Answers-Lower few more up fails over w = tt
Answers-Lower few more up (stops q) over w = absurd over
Answers-Lower few more up (goes (asked q a) r) over w = (up q a w.0, Answers-Lower few more up r over w.1)
Answers-Lower few more up (goes (referred u) r) over w = Answers-Lower few more up r over w

pub run-more : {Q A U R : Type 0} (s : Setting Q A) (few more : Q → Option A) (p : Prog Q A U R) (moves : List (Move Q A U)) → Lower few more → IsOver (run s few moves p) → run s more moves p ≡ run s few moves p
run-more s few more p moves up over = run-same s few more p moves (Answers-Lower few more up (run s few moves p) over (Answers-run s few p moves))
