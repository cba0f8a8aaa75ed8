-- What was asked and answered among moves.
use Rattle.std.specs.Prelude.{◌≡◌, ℕ, ◌<◌, List, [], ◌∷◌, length, Option, Some, None, slice_get, if◌then◌else◌}
use Rattle.trace_log.specs.declared.answer.Answer.{Answer}
use Rattle.trace_log.specs.declared.question.Question.{Question}
use Rattle.trace_log.specs.declared.trace.Move.{Move}
use Rattle.trace_log.specs.declared.trace.Move.TheVariants as move
use Rattle.trace_log.specs.TableStates.{same_question}

-- the answer that a question was given among these moves
abbrev pub recall : List Move → Question → Option Answer
recall [] q = None
recall (move.Asked p a ∷ ms) q = if same_question p q then Some a else recall ms q
recall (move.Referred u ∷ ms) q = recall ms q

-- the answer that is given by the move with this number
abbrev pub answer_in : Option Move → Option Answer
answer_in None = None
answer_in (Some (move.Asked q a)) = Some a
answer_in (Some (move.Referred u)) = None

abbrev pub answer_by : List Move → Option ℕ → Option Answer
answer_by ms None = None
answer_by ms (Some n) = answer_in (slice_get ms n)

-- each question has the number of the move that gives its answer
pub record HasPlaces (ms : List Move) (places : Question → Option ℕ) : Type 0 where
  pub finds : (q : Question) → answer_by ms (places q) ≡ recall ms q
  pub within : (q : Question) (n : ℕ) → places q ≡ Some n → n < length ms
