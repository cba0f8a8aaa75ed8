-- The next command of a script: what it is, or why there is none.
use Rattle.std.specs.Prelude.{ℕ, ◌+◌, ◌==◌, nat_le, if◌then◌else◌, List, length, take, drop, slice_index, Result, Ok, Err}
use Rattle.zw_base.specs.declared.reason.Reason.TheVariants.{CutShort, MissingEnd}
use Rattle.script_read.specs.declared.command.Command.{Command}
use Rattle.script_read.specs.declared.command.Command.TheVariants as command
use Rattle.zw_base.specs.declared.limits.Limits.{Limits}
use Rattle.script_read.specs.declared.command.Refusal.{Refusal}
use Rattle.script_read.specs.declared.command.Refusal.TheVariants.{Bad}
use Rattle.script_read.specs.declared.command.Request.{Request}
use Rattle.script_read.specs.declared.command.Request.TheVariants as request
use Rattle.script_read.specs.Answers.{◌>>=◌}
use Rattle.script_read.specs.Line.{line_at}
use Rattle.script_read.specs.Words.{request_of}
use Rattle.zw_base.specs.Limits.{Sizes}
use Rattle.script_read.specs.Sizes.{allowed}

-- so many bytes and the LF after them, and the bytes that follow
abbrev pub content_at : ℕ → List ℕ → Result (List ℕ × List ℕ) Refusal
content_at len bytes =
    if nat_le (length bytes) len then Err (Bad CutShort)
    else if slice_index bytes len == 10 then Ok (take len bytes, drop (len + 1) bytes)
    else Err (Bad MissingEnd)

-- the command that a line asks for, with the bytes that it takes from behind the line
abbrev pub completed : Request → List ℕ → Result (Command × List ℕ) Refusal
completed (request.File path len) bytes = content_at len bytes >>= λ found. Ok (command.File path found.0, found.1)
completed (request.Drop path) bytes = Ok (command.Drop path, bytes)
completed request.Update bytes = Ok (command.Update, bytes)

-- what a whole line asks for, where it may be carried out
abbrev pub judged : Limits → ℕ → Sizes → List ℕ → Result Request Refusal
judged limits commands files line =
    request_of line >>= λ asked. allowed limits commands files asked >>= λ _. Ok asked

-- The next command after so many others, and the bytes that follow it; or the first refusal: of the line, of its
-- words, of what it asks for, and last of the bytes behind it.
abbrev pub next_of : Limits → ℕ → Sizes → List ℕ → Result (Command × List ℕ) Refusal
next_of limits commands files bytes =
    line_at limits.line bytes >>= λ found. judged limits commands files found.0 >>= λ asked. completed asked found.1
