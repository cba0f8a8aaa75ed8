-- Faults of an interner, and answers that fail whoever asks, as what halts a form.
use Rattle.std.specs.Prelude.{Result, Ok, Err}
use Rattle.trace_log.specs.declared.answer.Answer.{Answer}
use Rattle.trace_log.specs.declared.answer.Answer.TheVariants as answer
use Rattle.type_form.specs.declared.pool.InternFault.{InternFault}
use Rattle.type_form.specs.declared.pool.InternFault.TheVariants as fault
use Rattle.sema_body.specs.declared.halt.Halt.{Halt}
use Rattle.sema_body.specs.declared.halt.Halt.TheVariants as halt

abbrev pub halt_of : InternFault → Halt
halt_of (fault.Full shard) = halt.Full shard
halt_of fault.OutOfMemory = halt.OutOfMemory

-- an answer, unless it says that a unit failed
abbrev pub unless_failure : Answer → Result Answer Halt
unless_failure answer.Failure = Err halt.Failed
unless_failure (answer.Tree r) = Ok (answer.Tree r)
unless_failure (answer.Declaration r) = Ok (answer.Declaration r)
unless_failure (answer.Exports e) = Ok (answer.Exports e)
unless_failure (answer.Given v) = Ok (answer.Given v)
