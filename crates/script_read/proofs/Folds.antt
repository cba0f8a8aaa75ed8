-- The fold of a script goes by commands: a command is a step, and what follows it is folded on; a refusal ends it.
use Rattle.std.proofs.Common.{◌≡◌, ℕ, zero, suc, ◌+◌, ◌<◌, List, ◌∷◌, ◌++◌, length, Ok, Err, refl, ap, ◌∙◌, arith, length-append}
use Rattle.zw_base.specs.declared.limits.Limits.{Limits}
use Rattle.zw_base.specs.Limits.{Sizes}
use Rattle.script_read.specs.declared.command.Command.{Command}
use Rattle.script_read.specs.declared.command.Next.{Next}
use Rattle.script_read.specs.declared.command.Refusal.{Refusal}
use Rattle.script_read.specs.ReaderState.{ReaderState}
use Rattle.script_read.specs.Reads.{answer_of, after_command}
use Rattle.script_read.specs.Script.{next_of}
use Rattle.script_read.specs.Grammar.{IsSentence, line_for, request_for, behind_line}
use Rattle.script_read.specs.ScriptLaw.{Meaning}
use Rattle.script_read.specs.Fold.{followed_by, fold_within, fold_from}
use Rattle.script_read.proofs.Meanings.{computed_is_meant}

sentence_has_bytes : (given : Command) (text : List ℕ) → IsSentence given text → 0 < length text
sentence_has_bytes given text h =
    let e : length (line_for (request_for given) ++ 10 ∷ behind_line given) ≡ length (line_for (request_for given)) + length (10 ∷ behind_line given) = length-append (line_for (request_for given)) (10 ∷ behind_line given) in
    rw h.text_is (omega arith)

-- a command takes bytes
pub next_is_shorter : (limits : Limits) (commands : ℕ) (files : Sizes) (bytes : List ℕ) (given : Command) (rest : List ℕ) → next_of limits commands files bytes ≡ Ok (given, rest) → length rest < length bytes
next_is_shorter limits commands files bytes given rest h =
    let meant = computed_is_meant limits commands files bytes (Ok (given, rest)) h in
    let some = sentence_has_bytes given meant.0 meant.1 in
    let e : length (meant.0 ++ rest) ≡ length meant.0 + length rest = length-append meant.0 rest in
    rw meant.2 (omega arith)

module _ {S : Type 0} (sizes : S → Sizes) (step : S → Command → S) where
  -- what follows a command, by a fold of less than so many commands
  abbrev folded_on : ℕ → ReaderState → S → Command → List ℕ → S × Next
  folded_on most reader state given rest = fold_within sizes step most (after_command reader given) (step state given) rest

  same_ends : (reader : ReaderState) (state : S) (more others : Command → List ℕ → S × Next) (found : Meaning) →
      ((given : Command) (rest : List ℕ) → found ≡ Ok (given, rest) → more given rest ≡ others given rest) → followed_by reader state more found ≡ followed_by reader state others found
  same_ends reader state more others (Ok found) h = h found.0 found.1 refl
  same_ends reader state more others (Err refusal) h = refl

  -- a number that is above that of the bytes is enough
  fold_enough : (j k : ℕ) (reader : ReaderState) (state : S) (bytes : List ℕ) → length bytes < j → length bytes < k →
      fold_within sizes step j reader state bytes ≡ fold_within sizes step k reader state bytes
  unfolding fold_within
  fold_enough zero k reader state bytes h g = absurd (omega arith)
  fold_enough (suc j) zero reader state bytes h g = absurd (omega arith)
  fold_enough (suc j) (suc k) reader state bytes h g =
      same_ends reader state (folded_on j reader state) (folded_on k reader state) (next_of reader.limits reader.commands (sizes state) bytes)
      (λ given rest e.
      let less = next_is_shorter reader.limits reader.commands (sizes state) bytes given rest e in
      fold_enough j k (after_command reader given) (step state given) rest (omega arith) (omega arith))

  -- a command is a step, and what follows it is folded on
  pub fold_command : (reader : ReaderState) (state : S) (bytes : List ℕ) (given : Command) (rest : List ℕ) → next_of reader.limits reader.commands (sizes state) bytes ≡ Ok (given, rest) →
      fold_from sizes step reader state bytes ≡ fold_from sizes step (after_command reader given) (step state given) rest
  unfolding fold_within fold_from
  fold_command reader state bytes given rest e =
      let less = next_is_shorter reader.limits reader.commands (sizes state) bytes given rest e in
      ap (followed_by reader state (folded_on (length bytes) reader state)) e
      ∙ fold_enough (length bytes) (suc (length rest)) (after_command reader given) (step state given) rest less (omega arith)

  -- where there is none, the state stays, and the answer says why
  pub fold_ends : (reader : ReaderState) (state : S) (bytes : List ℕ) (refusal : Refusal) → next_of reader.limits reader.commands (sizes state) bytes ≡ Err refusal →
      fold_from sizes step reader state bytes ≡ (state, answer_of reader refusal)
  unfolding fold_within fold_from
  fold_ends reader state bytes refusal e = ap (followed_by reader state (folded_on (length bytes) reader state)) e
