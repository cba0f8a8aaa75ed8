-- How an elaboration goes on: the run of a form from the runs of its parts, question by question.
use Rattle.std.proofs.Common.{◌≡◌, ℕ, length, take, drop, true, false, List, [], ◌∷◌, ◌++◌, Option, Some, None, refl, sym, ap, ◌∙◌, append_assoc, append-nil}
use Rattle.type_form.specs.declared.unit.Unit.{Unit as AnyUnit}
use Rattle.question_runs.specs.Programs.{Prog, done, bind}
use Rattle.question_runs.specs.Runs.{Move, asked, referred, Run, ends, fails, stops, goes, Setting, recall, unless, hears, run, behind, resumed}
use Rattle.question_runs.specs.RunLaws.{on_end}
use Rattle.question_runs.proofs.RunParts.{run-bind}
use Rattle.elab_form.specs.Questions.{Question, Answer, Diagnostic, within, setting, same_question, is_failure}
use Rattle.elab_form.specs.State.{State, Frame, Operand}
use Rattle.zw_base.specs.declared.diag.DiagCode.{DiagCode}
use Rattle.zw_base.specs.declared.diag.DiagCode.TheVariants as code
use Rattle.air_form.specs.Typed.{Statement}
use Rattle.elab_form.specs.Asking.{Out, gives, returns, wrong_by, Elab, pure, on_given, seq, asking, referring, wrong, acts, closed, apart, kept_in, evaluated}
use Rattle.elab_form.specs.Standing.{Answers, Moves, Course, stand}

-- ---- moves before a run

behind-append : {Q A U R : Type 0} (t more : List (Move Q A U)) (r : Run Q A U R) → behind (t ++ more) r ≡ behind t (behind more r)
behind-append [] more r = refl
behind-append (m ∷ t) more r = ap (λ x. goes m x) (behind-append t more r)

on_end-behind : {Q A U R S : Type 0} (before t : List (Move Q A U)) (r : Run Q A U R) (next : List (Move Q A U) → R → Run Q A U S) → on_end before (behind t r) next ≡ behind t (on_end (before ++ t) r next)
on_end-behind before [] r next = ap (λ x. on_end x r next) (sym (append-nil before))
on_end-behind before (m ∷ t) r next =
    ap (λ x. goes m x) (on_end-behind (before ++ m ∷ []) t r next ∙ ap (λ x. behind t (on_end x r next)) (append_assoc before (m ∷ []) t))

-- ---- a program and then another

resumed-bind : {Q A U R S : Type 0} (s : Setting Q A) (given : Q → Option A) (t : List (Move Q A U)) (p : Prog Q A U R) (next : R → Prog Q A U S) → resumed s given t (bind p next) ≡ on_end [] (resumed s given t p) (λ now r. run s given now (next r))
resumed-bind s given t p next =
    ap (λ x. behind t x) (run-bind s given p next t) ∙ sym (on_end-behind [] t (run s given t p) (λ now r. run s given now (next r)))

pub resumed-ends : {Q A U R S : Type 0} (s : Setting Q A) (given : Q → Option A) (t t' : List (Move Q A U)) (p : Prog Q A U R) (next : R → Prog Q A U S) (r : R) → resumed s given t p ≡ behind t' (ends r) → resumed s given t (bind p next) ≡ resumed s given t' (next r)
resumed-ends s given t t' p next r e =
    resumed-bind s given t p next ∙ ap (λ x. on_end [] x (λ now r'. run s given now (next r'))) e ∙ on_end-behind [] t' (ends r) (λ now r'. run s given now (next r'))

pub resumed-stops : {Q A U R S : Type 0} (s : Setting Q A) (given : Q → Option A) (t t' : List (Move Q A U)) (p : Prog Q A U R) (next : R → Prog Q A U S) (q : Q) → resumed s given t p ≡ behind t' (stops q) → resumed s given t (bind p next) ≡ behind t' (stops q)
resumed-stops s given t t' p next q e =
    resumed-bind s given t p next ∙ ap (λ x. on_end [] x (λ now r'. run s given now (next r'))) e ∙ on_end-behind [] t' (stops q) (λ now r'. run s given now (next r'))

pub resumed-fails : {Q A U R S : Type 0} (s : Setting Q A) (given : Q → Option A) (t t' : List (Move Q A U)) (p : Prog Q A U R) (next : R → Prog Q A U S) → resumed s given t p ≡ behind t' fails → resumed s given t (bind p next) ≡ behind t' fails
resumed-fails s given t t' p next e =
    resumed-bind s given t p next ∙ ap (λ x. on_end [] x (λ now r'. run s given now (next r'))) e ∙ on_end-behind [] t' fails (λ now r'. run s given now (next r'))

-- ---- a form and then another

module _ {A B : Type 0} (given : Answers) (t t' : Moves) (m : Elab A) (next : A → Elab B) (st st' : State) where
  -- where the first gives something, the other goes on from there
  pub seq-gives : (a : A) → stand given t m st ≡ behind t' (ends (gives st' a)) → stand given t (seq m next) st ≡ stand given t' (next a) st'
  unfolding stand seq
  seq-gives a e = resumed-ends setting given t t' (m st) (on_given next) (gives st' a) e

  -- an exit, a diagnostic, a question without an answer and an answer that fails pass by what follows
  pub seq-returns : (o : Operand) → stand given t m st ≡ behind t' (ends (returns st' o)) → stand given t (seq m next) st ≡ behind t' (ends (returns st' o))
  unfolding stand seq
  seq-returns o e = resumed-ends setting given t t' (m st) (on_given next) (returns st' o) e

  pub seq-wrong : (d : Diagnostic) → stand given t m st ≡ behind t' (ends (wrong_by d)) → stand given t (seq m next) st ≡ behind t' (ends (wrong_by d))
  unfolding stand seq
  seq-wrong d e = resumed-ends setting given t t' (m st) (on_given next) (wrong_by d) e

  pub seq-stops : (q : Question) → stand given t m st ≡ behind t' (stops q) → stand given t (seq m next) st ≡ behind t' (stops q)
  unfolding stand seq
  seq-stops q e = resumed-stops setting given t t' (m st) (on_given next) q e

  pub seq-fails : stand given t m st ≡ behind t' fails → stand given t (seq m next) st ≡ behind t' fails
  unfolding stand seq
  seq-fails e = resumed-fails setting given t t' (m st) (on_given next) e

-- ---- a question

abbrev asked_by : {A : Type 0} → Answers → Moves → Question → (Answer → Elab A) → State → Option Answer → Option Answer → Course A
asked_by given t q next st before hand = behind t (hears setting t q before hand (λ a now. run setting given now (next a st)))

module _ {A : Type 0} (given : Answers) (t : Moves) (q : Question) (next : Answer → Elab A) (st : State) where
  -- an answer that it had before serves again
  pub asking-again : (a : Answer) → recall same_question t q ≡ Some a → is_failure a ≡ false → stand given t (asking q next) st ≡ stand given t (next a) st
  unfolding stand asking
  asking-again a e sound =
      ap (λ x. asked_by given t q next st x (given q)) e ∙ ap (λ b. behind t (unless b (run setting given t (next a st)))) sound

  pub asking-fails-again : (a : Answer) → recall same_question t q ≡ Some a → is_failure a ≡ true → stand given t (asking q next) st ≡ behind t fails
  unfolding stand asking
  asking-fails-again a e failing =
      ap (λ x. asked_by given t q next st x (given q)) e ∙ ap (λ b. behind t (unless b (run setting given t (next a st)))) failing

  abbrev then : Answer → Moves
  then a = t ++ asked q a ∷ []

  -- a new one is a move
  pub asking-anew : (a : Answer) → recall same_question t q ≡ None → given q ≡ Some a → is_failure a ≡ false → stand given t (asking q next) st ≡ stand given (then a) (next a) st
  unfolding stand asking
  asking-anew a e hand sound =
      ap (λ x. asked_by given t q next st x (given q)) e
      ∙ ap (λ x. asked_by given t q next st None x) hand
      ∙ ap (λ b. behind t (goes (asked q a) (unless b (run setting given (then a) (next a st))))) sound
      ∙ sym (behind-append t (asked q a ∷ []) (run setting given (then a) (next a st)))

  pub asking-fails : (a : Answer) → recall same_question t q ≡ None → given q ≡ Some a → is_failure a ≡ true → stand given t (asking q next) st ≡ behind (then a) fails
  unfolding stand asking
  asking-fails a e hand failing =
      ap (λ x. asked_by given t q next st x (given q)) e
      ∙ ap (λ x. asked_by given t q next st None x) hand
      ∙ ap (λ b. behind t (goes (asked q a) (unless b (run setting given (then a) (next a st))))) failing
      ∙ sym (behind-append t (asked q a ∷ []) fails)

  -- it stops at one that has no answer
  pub asking-stops : recall same_question t q ≡ None → given q ≡ None → stand given t (asking q next) st ≡ behind t (stops q)
  unfolding stand asking
  asking-stops e hand = ap (λ x. asked_by given t q next st x (given q)) e ∙ ap (λ x. asked_by given t q next st None x) hand

-- a unit that is referred to is a move
pub referring-goes : {A : Type 0} (given : Answers) (t : Moves) (u : AnyUnit) (m : Elab A) (st : State) → stand given t (referring u m) st ≡ stand given (t ++ referred u ∷ []) m st
unfolding stand referring
referring-goes given t u m st = sym (behind-append t (referred u ∷ []) (run setting given (t ++ referred u ∷ []) (m st)))

-- ---- what a form gives by itself

pub stand-pure : {A : Type 0} (given : Answers) (t : Moves) (a : A) (st : State) → stand given t (pure a) st ≡ behind t (ends (gives st a))
unfolding stand pure
stand-pure given t a st = refl

pub stand-wrong : {A : Type 0} (given : Answers) (t : Moves) (f : Frame) (place : ℕ) (c : DiagCode) (st : State) → stand {A = A} given t (wrong f place c) st ≡ behind t (ends (wrong_by (record { spot = within f.part place; code = c; text = [] })))
unfolding stand wrong
stand-wrong given t f place c st = refl

-- statements that are put
pub stand-acts : (given : Answers) (t : Moves) (statements : List Statement) (st : State) → stand given t (acts statements) st ≡ behind t (ends (gives (record st { statements = st.statements ++ statements }) tt))
unfolding stand acts
stand-acts given t statements st = refl

-- ---- a list of statements of its own

module _ {A : Type 0} (given : Answers) (t t' : Moves) (m : Elab A) (st st' : State) where
  apart-done : (out : Out A) → stand given t m st ≡ behind t' (ends out) → stand given t (apart m) st ≡ behind t' (ends (closed (length st.statements) out))
  unfolding stand apart
  apart-done out e = resumed-ends setting given t t' (m st) (λ out. done (closed (length st.statements) out)) out e

  pub apart-gives : (a : A) → stand given t m st ≡ behind t' (ends (gives st' a)) → stand given t (apart m) st ≡ behind t' (ends (gives (record st' { statements = take (length st.statements) st'.statements }) (drop (length st.statements) st'.statements, a)))
  apart-gives a e = apart-done (gives st' a) e

  pub apart-returns : (o : Operand) → stand given t m st ≡ behind t' (ends (returns st' o)) → stand given t (apart m) st ≡ behind t' (ends (returns st' o))
  apart-returns o e = apart-done (returns st' o) e

  pub apart-wrong : (d : Diagnostic) → stand given t m st ≡ behind t' (ends (wrong_by d)) → stand given t (apart m) st ≡ behind t' (ends (wrong_by d))
  apart-wrong d e = apart-done (wrong_by d) e

  pub apart-stops : (q : Question) → stand given t m st ≡ behind t' (stops q) → stand given t (apart m) st ≡ behind t' (stops q)
  unfolding stand apart
  apart-stops q e = resumed-stops setting given t t' (m st) (λ out. done (closed (length st.statements) out)) q e

  pub apart-fails : stand given t m st ≡ behind t' fails → stand given t (apart m) st ≡ behind t' fails
  unfolding stand apart
  apart-fails e = resumed-fails setting given t t' (m st) (λ out. done (closed (length st.statements) out)) e

  -- ---- evaluation at comptime

  pub evaluated-gives : (f : Frame) (place : ℕ) (a : A) → stand given t m st ≡ behind t' (ends (gives st' a)) → stand given t (evaluated f place m) st ≡ behind t' (ends (gives st' a))
  unfolding stand evaluated
  evaluated-gives f place a e = resumed-ends setting given t t' (m st) (kept_in f place) (gives st' a) e

  pub evaluated-returns : (f : Frame) (place : ℕ) (o : Operand) → stand given t m st ≡ behind t' (ends (returns st' o)) → stand given t (evaluated f place m) st ≡ stand given t' (wrong f place code.NotComptimeKnown) st'
  unfolding stand evaluated
  evaluated-returns f place o e = resumed-ends setting given t t' (m st) (kept_in f place) (returns st' o) e

  pub evaluated-wrong : (f : Frame) (place : ℕ) (d : Diagnostic) → stand given t m st ≡ behind t' (ends (wrong_by d)) → stand given t (evaluated f place m) st ≡ behind t' (ends (wrong_by d))
  unfolding stand evaluated
  evaluated-wrong f place d e = resumed-ends setting given t t' (m st) (kept_in f place) (wrong_by d) e

  pub evaluated-stops : (f : Frame) (place : ℕ) (q : Question) → stand given t m st ≡ behind t' (stops q) → stand given t (evaluated f place m) st ≡ behind t' (stops q)
  unfolding stand evaluated
  evaluated-stops f place q e = resumed-stops setting given t t' (m st) (kept_in f place) q e

  pub evaluated-fails : (f : Frame) (place : ℕ) → stand given t m st ≡ behind t' fails → stand given t (evaluated f place m) st ≡ behind t' fails
  unfolding stand evaluated
  evaluated-fails f place e = resumed-fails setting given t t' (m st) (kept_in f place) e
