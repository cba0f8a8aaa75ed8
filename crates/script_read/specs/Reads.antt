-- How an answer agrees with the bytes that a source had left.
use Rattle.std.specs.Prelude.{◌≡◌, ℕ, ◌+◌, ◌-◌, ◌^◌, min, List, ◌++◌, ◌⊎◌, Option, None, Some, option_to_list, Result, Ok, Err}
use Rattle.std.specs.Option.{option_map}
use Rattle.zw_base.specs.declared.reason.Reason.TheVariants.{CutShort}
use Rattle.zw_base.specs.Limits.{Sizes, limit_of}
use Rattle.script_read.specs.declared.command.Command.{Command}
use Rattle.script_read.specs.declared.command.Command.TheVariants as command
use Rattle.script_read.specs.declared.command.Next.{Next}
use Rattle.script_read.specs.declared.command.Next.TheVariants as next
use Rattle.script_read.specs.declared.command.Refusal.{Refusal}
use Rattle.script_read.specs.declared.command.Refusal.TheVariants.{End, Bad, Over, ReadFault, OutOfMemory}
use Rattle.script_read.specs.ReaderState.{ReaderState}
use Rattle.script_read.specs.Line.{line_ends}
use Rattle.script_read.specs.Script.{next_of}

-- what was left before a byte was read, by what is left after it; a read that fails has taken nothing
abbrev pub byte_before : {E : Type 0} → Option (List ℕ) → Result (Option ℕ) E → Option (List ℕ)
byte_before left (Ok byte) = option_map (λ rest. option_to_list byte ++ rest) left
byte_before left (Err _) = left

-- As a whole input, the bytes would end too soon: so no whole command stands in them.
abbrev pub IsUnfinished : {A : Type 0} → Result A Refusal → Type 0
IsUnfinished found = (found ≡ Err End) ⊎ (found ≡ Err (Bad CutShort))

-- A refusal is the one of these bytes. A fault comes where the bytes that were taken are unfinished.
abbrev pub RefusesAt : {A : Type 0} → (List ℕ → Result (A × List ℕ) Refusal) → List ℕ → Option (List ℕ) → Refusal → Type 0
RefusesAt found bytes left End = found bytes ≡ Err End
RefusesAt found bytes left (Bad reason) = found bytes ≡ Err (Bad reason)
RefusesAt found bytes left (Over which) = found bytes ≡ Err (Over which)
RefusesAt found bytes left ReadFault = (taken rest : List ℕ) × (left ≡ Some rest) × (bytes ≡ taken ++ rest) × IsUnfinished (found taken)
RefusesAt found bytes left OutOfMemory = Unit {0}

-- What was read from the front of these bytes, and what is left after it.
abbrev pub ReadsFrom : {X A : Type 0} → (X → A) → (List ℕ → Result (A × List ℕ) Refusal) → List ℕ → Option (List ℕ) → Result X Refusal → Type 0
ReadsFrom view found bytes left (Ok x) = (rest : List ℕ) × (left ≡ Some rest) × (found bytes ≡ Ok (view x, rest))
ReadsFrom view found bytes left (Err e) = RefusesAt found bytes left e

-- The same, where the source tells what it has left.
abbrev pub Reads : {X A : Type 0} → (X → A) → (List ℕ → Result (A × List ℕ) Refusal) → Option (List ℕ) → Option (List ℕ) → Result X Refusal → Type 0
Reads view found None left result = Unit {0}
Reads view found (Some bytes) left result = ReadsFrom view found bytes left result

-- how many LF bytes a command's text has
abbrev pub lines_of : Command → ℕ
lines_of (command.File path bytes) = line_ends bytes + 2
lines_of (command.Drop path) = 1
lines_of command.Update = 1

-- what a reader answers that has stopped
abbrev pub answer_of : ReaderState → Refusal → Next
answer_of reader End = next.End
answer_of reader (Bad reason) = next.BadScript reader.line reason
answer_of reader (Over which) = next.Limit which (limit_of reader.limits which)
answer_of reader ReadFault = next.ReadFault
answer_of reader OutOfMemory = next.OutOfMemory

-- the reader after a command: one more command, and the line number by the LF bytes of its text, up to the last
-- number that is kept
abbrev pub after_command : ReaderState → Command → ReaderState
after_command reader given = record {
  limits = reader.limits;
  line = min (reader.line + lines_of given) (2 ^ 64 - 1);
  commands = reader.commands + 1;
  stopped = None;
}

-- the reader after an answer: it goes on after a command, and stops with any other
abbrev pub after : ReaderState → Next → ReaderState
after reader (next.Command given) = after_command reader given
after reader next.End = record reader { stopped = Some End }
after reader (next.BadScript line reason) = record reader { stopped = Some (Bad reason) }
after reader (next.Limit which number) = record reader { stopped = Some (Over which) }
after reader next.ReadFault = record reader { stopped = Some ReadFault }
after reader next.OutOfMemory = record reader { stopped = Some OutOfMemory }

-- An answer is the one of the bytes that were left; after a command what follows it is left. At a fault no whole
-- command stands in the bytes that were taken. Want of memory says nothing.
abbrev pub Answers : ReaderState → Sizes → List ℕ → Option (List ℕ) → Next → Type 0
Answers reader files bytes left (next.Command given) =
    (rest : List ℕ) × (left ≡ Some rest) × (next_of reader.limits reader.commands files bytes ≡ Ok (given, rest))
    × (line_ends bytes ≡ lines_of given + line_ends rest)
Answers reader files bytes left next.End = next_of reader.limits reader.commands files bytes ≡ Err End
Answers reader files bytes left (next.BadScript line reason) =
    (line ≡ reader.line) × (next_of reader.limits reader.commands files bytes ≡ Err (Bad reason))
Answers reader files bytes left (next.Limit which number) =
    (number ≡ limit_of reader.limits which) × (next_of reader.limits reader.commands files bytes ≡ Err (Over which))
Answers reader files bytes left next.ReadFault =
    (taken rest : List ℕ) × (left ≡ Some rest) × (bytes ≡ taken ++ rest)
    × IsUnfinished (next_of reader.limits reader.commands files taken)
Answers reader files bytes left next.OutOfMemory = Unit {0}
