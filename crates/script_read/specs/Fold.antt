-- What a whole script does to a state: its commands change the state in order, until the script ends or one of
-- them is refused. Each command is judged for the files as they then stand, which are part of the state.
use Rattle.std.specs.Prelude.{ℕ, zero, suc, List, length, None, Ok, Err}
use Rattle.zw_base.specs.declared.limits.Limits.{Limits}
use Rattle.zw_base.specs.Limits.{Sizes}
use Rattle.script_read.specs.declared.command.Command.{Command}
use Rattle.script_read.specs.declared.command.Next.{Next}
use Rattle.script_read.specs.declared.command.Next.TheVariants as next
use Rattle.script_read.specs.ReaderState.{ReaderState}
use Rattle.script_read.specs.Reads.{answer_of, after_command}
use Rattle.script_read.specs.Script.{next_of}
use Rattle.script_read.specs.ScriptLaw.{Meaning}

-- a reader before the first byte of a script
abbrev pub reader_of : Limits → ReaderState
reader_of limits = record { limits = limits; line = 1; commands = 0; stopped = None }

-- what follows a command, or how the script ends
abbrev pub followed_by : {S : Type 0} → ReaderState → S → (Command → List ℕ → S × Next) → Meaning → S × Next
followed_by reader state more (Ok found) = more found.0 found.1
followed_by reader state more (Err refusal) = (state, answer_of reader refusal)

-- the state after a script of less than so many commands, and the answer that ended it, which is no command
unfoldable pub fold_within : {S : Type 0} → (S → Sizes) → (S → Command → S) → ℕ → ReaderState → S → List ℕ → S × Next
fold_within sizes step zero reader state bytes = (state, next.End)
fold_within sizes step (suc most) reader state bytes =
    followed_by reader state (λ given rest. fold_within sizes step most (after_command reader given) (step state given) rest)
    (next_of reader.limits reader.commands (sizes state) bytes)

-- of the bytes that a reader has left; no script has more commands than bytes
unfoldable pub fold_from : {S : Type 0} → (S → Sizes) → (S → Command → S) → ReaderState → S → List ℕ → S × Next
fold_from sizes step reader state bytes = fold_within sizes step (suc (length bytes)) reader state bytes

-- of a whole script
abbrev pub fold_script : {S : Type 0} → (S → Sizes) → (S → Command → S) → Limits → S → List ℕ → S × Next
fold_script sizes step limits state bytes = fold_from sizes step (reader_of limits) state bytes
