-- How a question is answered: by an answer that it had before, or by one that is at hand.
use Rattle.std.proofs.Common.{◌≡◌, Bool, true, false, if◌then◌else◌, List, [], ◌∷◌, ◌++◌, refl, sym, ap, ap₂, ◌∙◌, subst, Option, Some, None, Result, Err}
use Rattle.std.specs.Option.{option_map}
use Rattle.type_form.specs.Known.{Known, IsInjective}
use Rattle.type_form.specs.Means.{Grows}
use Rattle.question_runs.specs.Runs as runs
use Rattle.elab_form.specs.Questions as plain
use Rattle.elab_form.specs.Standing.{Moves}
use Rattle.trace_log.specs.declared.answer.Answer.{Answer}
use Rattle.trace_log.specs.declared.answer.Answer.TheVariants as answer
use Rattle.trace_log.specs.declared.answers.Answers.{Answers}
use Rattle.trace_log.specs.declared.question.Question.{Question}
use Rattle.trace_log.specs.declared.trace.Move.{Move}
use Rattle.trace_log.specs.declared.trace.Move.TheVariants as move
use Rattle.trace_log.specs.Readings.{question_at, IsQuestion, answer_at, IsAnswer, move_at, moves_at, AreMoves, LinesOf}
use Rattle.trace_log.specs.Snapshots.{lines_of, given_at}
use Rattle.trace_log.specs.TableStates.{same_question}
use Rattle.trace_log.specs.Traces.{recall}
use Rattle.trace_log.proofs.Growing.{IsQuestion-grows, question-grows, IsAnswer-grows, answer-grows}
use Rattle.trace_log.proofs.Sameness.{recall-at}
use Rattle.sema_body.specs.declared.halt.Halt.{Halt}
use Rattle.sema_body.specs.declared.halt.Halt.TheVariants as halt
use Rattle.sema_body.specs.declared.work.Work.{Work}
use Rattle.sema_body.specs.Meets.{trace, hand, Stands, Heard, again, anew, HearsBy, Hears, StandsBy}
use Rattle.sema_body.specs.Faults.{unless_failure}
use Rattle.sema_body.proofs.Growth.{trace-grows}
use Rattle.sema_body.proofs.Reaching.{Stands-grows}

-- what was answered denotes
recalled-by : (k : Known) (p q : Question) (a b : Answer) (rest : Option Answer) (c : Bool) → IsAnswer k b → (rest ≡ Some a → IsAnswer k a) → (if c then Some b else rest) ≡ Some a → IsAnswer k a
recalled-by k p q a b rest true w later e = let one : b ≡ a = cc in subst (IsAnswer k) one w
recalled-by k p q a b rest false w later e = later e

recalled-known : (k : Known) (ms : List Move) (q : Question) (a : Answer) → AreMoves k ms → recall ms q ≡ Some a → IsAnswer k a
recalled-known k [] q a h e = absurd (cc)
recalled-known k (move.Referred u ∷ ms) q a h e = recalled-known k ms q a h.1 e
recalled-known k (move.Asked p b ∷ ms) q a h e = recalled-by k p q a b (recall ms q) (same_question p q) h.0.1 (recalled-known k ms q a h.1) e

-- an answer that fails nobody goes on, and another fails
answered : (k0 l : Known) (cx : Answers) (given : plain.Question → Option plain.Answer) (t t' : Moves) (q : plain.Question) (a : Answer) → IsAnswer l a
    → Heard given t q (answer_at l (lines_of cx) a) t' → HearsBy l cx given t q t' (unless_failure a)
answered k0 l cx given t t' q answer.Failure w h = h
answered k0 l cx given t t' q (answer.Tree r) w h = (w, h, refl)
answered k0 l cx given t t' q (answer.Declaration r) w h = (w, h, refl)
answered k0 l cx given t t' q (answer.Exports e) w h = (w, h, refl)
answered k0 l cx given t t' q (answer.Given v) w h = (w, h, refl)

stands-so : (l : Known) (cx : Answers) (s : Work) (a : Answer) → Stands l cx s → StandsBy l cx s (unless_failure a)
stands-so l cx s answer.Failure w = w
stands-so l cx s (answer.Tree r) w = w
stands-so l cx s (answer.Declaration r) w = w
stands-so l cx s (answer.Exports e) w = w
stands-so l cx s (answer.Given v) w = w

-- an answer that it had before
pub heard-again : (k : Known) (cx : Answers) (s : Work) (q : Question) (a : Answer) (r : Result Answer Halt) → Stands k cx s → IsQuestion k q
    → recall s.trace q ≡ Some a → r ≡ unless_failure a → Hears k cx s (question_at k q) k s r
unfolding trace
heard-again k cx s q a r w h e f =
    let before : runs.recall plain.same_question (trace k cx s) (question_at k q) ≡ Some (answer_at k (lines_of cx) a) =
    recall-at k (lines_of cx) s.trace q w.agrees w.moves h ∙ ap (option_map (answer_at k (lines_of cx))) e in
    subst (Hears k cx s (question_at k q) k s) (sym f) (record {
      stands = stands-so k cx s a w;
      body = refl;
      is = answered k k cx (hand k cx) (trace k cx s) (trace k cx s) (question_at k q) a (recalled-known k s.trace q a w.moves e) (again before refl);
    })

never-before : (k : Known) (cx : Answers) (s : Work) (q : Question) → Stands k cx s → IsQuestion k q → recall s.trace q ≡ None
    → runs.recall plain.same_question (trace k cx s) (question_at k q) ≡ None
unfolding trace
never-before k cx s q w h e = recall-at k (lines_of cx) s.trace q w.agrees w.moves h ∙ ap (option_map (answer_at k (lines_of cx))) e

moves-more : (l : Known) (lines : LinesOf) (ms : List Move) (m : Move) → moves_at l lines (ms ++ m ∷ []) ≡ moves_at l lines ms ++ moves_at l lines (m ∷ [])
moves-more l lines [] m = refl
moves-more l lines (n ∷ ms) m = ap (λ x. move_at l lines n ∷ x) (moves-more l lines ms m)

moves-known : (l : Known) (ms : List Move) (q : Question) (a : Answer) → AreMoves l ms → IsQuestion l q → IsAnswer l a → AreMoves l (ms ++ move.Asked q a ∷ [])
moves-known l [] q a h b c = ((b, c), tt)
moves-known l (m ∷ ms) q a h b c = (h.0, moves-known l ms q a h.1 b c)

-- with a question and its answer as one move more
abbrev with_asked : Work → Question → Answer → Work
with_asked s q a = record s { trace = s.trace ++ move.Asked q a ∷ [] }

-- a new one
pub heard-anew : (k l : Known) (cx : Answers) (s s' : Work) (q : Question) (a : Answer) (r : Result Answer Halt) → Stands k cx s → Grows k l → IsInjective l → IsQuestion k q
    → recall s.trace q ≡ None → Some (answer_at k (lines_of cx) a) ≡ given_at k cx (question_at k q) → IsAnswer k a
    → s' ≡ record s { trace = s.trace ++ move.Asked q a ∷ [] } → r ≡ unless_failure a → Hears k cx s (question_at k q) l s' r
unfolding trace hand
heard-anew k l cx s s' q a r w g agrees h e f known put is =
    subst (λ x. Hears k cx s (question_at k q) l x r) (sym put)
    (subst (Hears k cx s (question_at k q) l (with_asked s q a)) (sym is) (record {
      stands = stands-so l cx (with_asked s q a) a later;
      body = refl;
      is = answered k l cx (hand k cx) (trace k cx s) (trace l cx (with_asked s q a)) (question_at k q) a (IsAnswer-grows k l a g known)
          (anew (never-before k cx s q w h e) (sym f ∙ ap Some (sym (answer-grows k l (lines_of cx) a g known))) moved);
    }))
  where
    wide : Stands l cx s
    wide = Stands-grows k l cx s g agrees w

    later : Stands l cx (with_asked s q a)
    later = record {
      agrees = agrees;
      answers = wide.answers;
      moves = moves-known l s.trace q a wide.moves (IsQuestion-grows k l q g h) (IsAnswer-grows k l a g known);
      body = wide.body;
    }

    moved : trace l cx (with_asked s q a) ≡ trace k cx s ++ runs.asked (question_at k q) (answer_at l (lines_of cx) a) ∷ []
    moved =
        moves-more l (lines_of cx) s.trace (move.Asked q a)
        ∙ ap₂ (λ x y. x ++ runs.asked y (answer_at l (lines_of cx) a) ∷ []) (trace-grows k l g cx s w.moves) (question-grows k l q g h)

-- no answer
pub heard-needs : (k l : Known) (cx : Answers) (s : Work) (q : Question) → Stands k cx s → Grows k l → IsInjective l → IsQuestion k q
    → recall s.trace q ≡ None → None ≡ given_at k cx (question_at k q) → Hears k cx s (question_at k q) l s (Err (halt.Needs q))
unfolding hand
heard-needs k l cx s q w g agrees h e f = record {
  stands = Stands-grows k l cx s g agrees w;
  body = refl;
  is = (IsQuestion-grows k l q g h, question-grows k l q g h, never-before k cx s q w h e, sym f, trace-grows k l g cx s w.moves);
}

-- want of room or memory
pub heard-full : (k l : Known) (cx : Answers) (s s' : Work) (q : plain.Question) → s'.body ≡ s.body → Hears k cx s q l s' (Err halt.OutOfMemory)
heard-full k l cx s s' q e = record { stands = tt; body = e; is = tt }

pub ruleset asking_steps = (heard-again, heard-anew, heard-needs, heard-full)
