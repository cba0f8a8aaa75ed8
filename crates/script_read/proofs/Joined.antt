-- The steps to a command, one after another.
use Rattle.std.proofs.Common.{◌≡◌, ℕ, List, ◌∷◌, ◌++◌, Option, None, Some, IfSome, IfNone, Result, Ok, Err, refl, ◌∙◌, append_assoc}
use Rattle.script_read.specs.declared.command.Command.{Command}
use Rattle.zw_base.specs.declared.limits.Limits.{Limits}
use Rattle.script_read.specs.declared.command.Next.TheVariants as next
use Rattle.script_read.specs.declared.command.Request.{Request}
use Rattle.script_read.specs.declared.command.Refusal.{Refusal}
use Rattle.script_read.specs.declared.command.Refusal.TheVariants.{End, Bad, Over, ReadFault, OutOfMemory}
use Rattle.script_read.specs.ReaderState.{ReaderState}
use Rattle.script_read.specs.Line.{line_at}
use Rattle.script_read.specs.Script.{completed, judged, next_of}
use Rattle.zw_base.specs.Limits.{Sizes}
use Rattle.script_read.specs.Reads.{Reads, ReadsFrom, Answers}
use Rattle.script_read.proofs.Lines.{line_found}
use Rattle.script_read.proofs.Shapes.{line_shape, next_ends}

-- once the line is found and judged, the bytes behind it decide
pub next_behind : (limits : Limits) (commands : ℕ) (files : Sizes) (bytes line rest : List ℕ) (asked : Request) → line_at limits.line bytes ≡ Ok (line, rest) → judged limits commands files line ≡ Ok asked → next_of limits commands files bytes ≡ completed asked rest
next_behind limits commands files bytes line rest asked found judgement = rw (found, judgement) refl

read_behind : (limits : Limits) (commands : ℕ) (files : Sizes) (bytes line rest : List ℕ) (asked : Request) (new : Option (List ℕ)) (result : Result Command Refusal) →
    line_at limits.line bytes ≡ Ok (line, rest) → judged limits commands files line ≡ Ok asked →
    ReadsFrom (λ command. command) (completed asked) rest new result → ReadsFrom (λ command. command) (next_of limits commands files) bytes new result
read_behind limits commands files bytes line rest asked new (Ok command) found judgement (left, is, e) = (left, is, next_behind limits commands files bytes line rest asked found judgement ∙ e)
read_behind limits commands files bytes line rest asked new (Err End) found judgement e = next_behind limits commands files bytes line rest asked found judgement ∙ e
read_behind limits commands files bytes line rest asked new (Err (Bad reason)) found judgement e = next_behind limits commands files bytes line rest asked found judgement ∙ e
read_behind limits commands files bytes line rest asked new (Err (Over which)) found judgement e = next_behind limits commands files bytes line rest asked found judgement ∙ e
read_behind limits commands files bytes line rest asked new (Err ReadFault) found judgement (taken, left, is, front, unfinished) =
    let shape = line_shape limits.line bytes line rest found in
    let again : line_at limits.line (line ++ 10 ∷ taken) ≡ Ok (line, taken) = line_found limits.line line taken shape.parted.none shape.short in (
      line ++ 10 ∷ taken,
      left,
      is,
      shape.parted.whole ∙ rw (front, append_assoc line (10 ∷ taken) left) refl,
      rw (next_behind limits commands files (line ++ 10 ∷ taken) line taken asked again judgement) unfinished,
    )
read_behind limits commands files bytes line rest asked new (Err OutOfMemory) found judgement e = tt

-- the bytes behind a line that was read and judged
pub read_then : {X : Type 0} (view : X → List ℕ) (limits : Limits) (commands : ℕ) (files : Sizes) (old mid new : Option (List ℕ)) (line : X) (asked : Request) (result : Result Command Refusal) →
    Reads view (line_at limits.line) old mid (Ok line) → judged limits commands files (view line) ≡ Ok asked →
    Reads (λ command. command) (completed asked) mid new result → Reads (λ command. command) (next_of limits commands files) old new result
read_then view limits commands files None mid new line asked result found judgement behind = tt
read_then view limits commands files (Some bytes) mid new line asked result (rest, is, found) judgement behind =
    read_behind limits commands files bytes (view line) rest asked new result found judgement (rw is at behind)

command_read_at : (reader : ReaderState) (files : Sizes) (old new : Option (List ℕ)) (command : Command) →
    Reads (λ command. command) (next_of reader.limits reader.commands files) old new (Ok command) → IfSome old (λ bytes. Answers reader files bytes new (next.Command command))
command_read_at reader files None new command h = tt
command_read_at reader files (Some bytes) new command (rest, is, e) = (rest, is, e, next_ends reader.limits reader.commands files bytes command rest e)

-- a command that was read is the reader's answer
pub command_read : (reader : ReaderState) (limits : Limits) (commands : ℕ) (stopped : Option Refusal) (files : Sizes) (old new : Option (List ℕ)) (command : Command) →
    limits ≡ reader.limits → commands ≡ reader.commands →
    Reads (λ command. command) (next_of limits commands files) old new (Ok command) → IfNone stopped (IfSome old (λ bytes. Answers reader files bytes new (next.Command command)))
command_read reader limits commands None files old new command e f h = command_read_at reader files old new command (rw (e, f) at h)
command_read reader limits commands (Some refusal) files old new command e f h = tt
