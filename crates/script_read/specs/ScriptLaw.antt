-- What a script's bytes mean, and how a reader's answer agrees with it.
use Rattle.std.specs.Prelude.{◌≡◌, ℕ, List, [], ◌++◌, ◌⊎◌, Option, Some, Result, Ok, Err}
use Rattle.zw_base.specs.declared.reason.Reason.TheVariants.{CutShort}
use Rattle.script_read.specs.declared.command.Command.{Command}
use Rattle.zw_base.specs.declared.limits.Limits.{Limits}
use Rattle.script_read.specs.declared.command.Next.{Next}
use Rattle.script_read.specs.declared.command.Next.TheVariants as next
use Rattle.script_read.specs.declared.command.Refusal.{Refusal}
use Rattle.script_read.specs.declared.command.Refusal.TheVariants.{End, Bad, Over, ReadFault, OutOfMemory}
use Rattle.script_read.specs.ReaderState.{ReaderState}
use Rattle.zw_base.specs.Limits.{Sizes, limit_of}
use Rattle.script_read.specs.Reads.{answer_of}
use Rattle.script_read.specs.Grammar.{IsSentence}
use Rattle.script_read.specs.Causes.{Cause, order, refused_with, Stands, NoneStands, IsFirst}

-- what bytes can mean: a command and the bytes behind it, or a refusal
abbrev pub Meaning : Type 0
Meaning = Result (Command × List ℕ) Refusal

-- the first cause that stands is answered so
abbrev pub IsRefused : Limits → ℕ → Sizes → List ℕ → Refusal → Type 0
IsRefused limits commands files bytes refusal =
    (cause : Cause) × (refused_with cause ≡ refusal) × IsFirst (Stands limits commands files bytes) order cause

-- Bytes mean a command and the bytes behind it where they are a sentence of the command followed by these, and no
-- cause of refusal stands. They mean the end where there are none, and else a refusal by the first cause that stands.
abbrev pub Means : Limits → ℕ → Sizes → List ℕ → Meaning → Type 0
Means limits commands files bytes (Ok found) =
    (text : List ℕ) × IsSentence found.0 text × (bytes ≡ text ++ found.1) × NoneStands (Stands limits commands files bytes) order
Means limits commands files bytes (Err End) = bytes ≡ []
Means limits commands files bytes (Err (Bad reason)) = IsRefused limits commands files bytes (Bad reason)
Means limits commands files bytes (Err (Over which)) = IsRefused limits commands files bytes (Over which)
Means limits commands files bytes (Err ReadFault) = ⊥
Means limits commands files bytes (Err OutOfMemory) = ⊥

-- An answer has its cause in the bytes that were left; after a command what follows it is left. At a fault the bytes
-- that were taken have no whole command and no refusal in them. Want of memory says nothing.
abbrev pub HasCause : ReaderState → Sizes → List ℕ → Option (List ℕ) → Next → Type 0
HasCause reader files bytes left (next.Command given) =
    (rest : List ℕ) × (left ≡ Some rest) × Means reader.limits reader.commands files bytes (Ok (given, rest))
HasCause reader files bytes left next.End = Means reader.limits reader.commands files bytes (Err End)
HasCause reader files bytes left (next.BadScript line reason) =
    (line ≡ reader.line) × Means reader.limits reader.commands files bytes (Err (Bad reason))
HasCause reader files bytes left (next.Limit which number) =
    (number ≡ limit_of reader.limits which) × Means reader.limits reader.commands files bytes (Err (Over which))
HasCause reader files bytes left next.ReadFault =
    (taken rest : List ℕ) × (left ≡ Some rest) × (bytes ≡ taken ++ rest)
    × (Means reader.limits reader.commands files taken (Err End) ⊎ Means reader.limits reader.commands files taken (Err (Bad CutShort)))
HasCause reader files bytes left next.OutOfMemory = Unit {0}

-- the answer with which a meaning is told
abbrev pub IsTold : ReaderState → Option (List ℕ) → Next → Meaning → Type 0
IsTold reader left answer (Ok found) = (answer ≡ next.Command found.0) × (left ≡ Some found.1)
IsTold reader left answer (Err refusal) = answer ≡ answer_of reader refusal

-- Whatever the bytes mean is told, unless they could not be read or there was no memory.
abbrev pub IsExact : ReaderState → Sizes → List ℕ → Option (List ℕ) → Next → Type 0
IsExact reader files bytes left answer =
    (meaning : Meaning) → Means reader.limits reader.commands files bytes meaning →
    IsTold reader left answer meaning ⊎ (answer ≡ next.ReadFault) ⊎ (answer ≡ next.OutOfMemory)
