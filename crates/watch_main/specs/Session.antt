-- What a run answers and how it ends: a fold over the script's bytes, by their own meaning as commands, in which
-- each update answers for the files as they then stand.
use Rattle.std.specs.Prelude.{ℕ, ◌+◌, Bool, not, if◌then◌else◌, nat_le, List, [], ◌∷◌, ◌++◌, length, filter, codes, Option, None, Some, Result, Ok, Err}
use Rattle.std.specs.Str.{bytes_eq}
use Rattle.zw_base.specs.Outside.{file_at}
use Rattle.zw_base.specs.Limits.{limit_of, sizes_of}
use Rattle.zw_base.specs.declared.limits.TheConstants.{FILES, LIMITS}
use Rattle.zw_base.specs.declared.status.Which.{Which}
use Rattle.zw_base.specs.declared.status.Which.TheVariants as which
use Rattle.zw_base.specs.declared.status.Status.{Status}
use Rattle.zw_base.specs.declared.status.Status.TheVariants as status
use Rattle.script_read.specs.declared.command.Command.{Command}
use Rattle.script_read.specs.declared.command.Command.TheVariants as command
use Rattle.script_read.specs.declared.command.Next.{Next}
use Rattle.script_read.specs.declared.command.Next.TheVariants as next
use Rattle.script_read.specs.Fold.{fold_script}
use Rattle.watch_core.specs.declared.session.Update.{Update}
use Rattle.watch_core.specs.declared.session.Update.TheVariants as update
use Rattle.watch_core.specs.Compile.{Files, compile}
use Rattle.watch_core.specs.Counts.{Kept, Nothing, counts, kept_after, update_of}
use Rattle.watch_core.specs.SessionState.{with_file, limit_passed}
use Rattle.watch_main.specs.declared.words.Words.{Words}
use Rattle.watch_main.specs.AnswerText.{status_after, texts_from}
use Rattle.watch_main.specs.Words.{words_of}

-- ---- a run

-- A run between two commands: its root, its files, what is kept of the last answer, the answers so far, of which the
-- first is that of update 1, and how it would end now.
pub record Progress : Type 0 where
  pub root : List ℕ
  pub files : Files
  pub kept : Kept
  pub answers : List Update
  pub status : Status

-- the answer of the next update, where memory says at which numbers there is none
abbrev pub next_answer : (ℕ → Bool) → Progress → Update
next_answer memory p =
    if memory (length p.answers + 1) then update.Memory else update_of (compile p.root p.files) (counts p.root p.files p.kept)

abbrev pub answered : Progress → Update → Progress
answered p answer = record p {
  kept = kept_after answer;
  answers = p.answers ++ answer ∷ [];
  status = status_after answer;
}

abbrev pub without_file : Files → List ℕ → Files
without_file files path = filter (λ file. not (bytes_eq file.0 path)) files

-- the run after a command
abbrev pub carried_out : (ℕ → Bool) → Progress → Command → Progress
carried_out memory p (command.File path bytes) = record p { files = with_file p.files path bytes }
carried_out memory p (command.Drop path) = record p { files = without_file p.files path }
carried_out memory p command.Update = answered p (next_answer memory p)

-- how a run ends whose script ended so, after its last command or at one that is refused
abbrev pub status_at : Progress → Next → Status
status_at p (next.Command given) = p.status
status_at p next.End = p.status
status_at p (next.BadScript line reason) = status.BadScript line reason
status_at p (next.Limit which number) = status.Limit which number
status_at p next.ReadFault = status.ReadFault
status_at p next.OutOfMemory = status.Memory

-- the answers of a run, and how it ends
pub record Ending : Type 0 where
  pub answers : List Update
  pub status : Status

abbrev pub ending_of : Progress × Next → Ending
ending_of run = record { answers = run.0.answers; status = status_at run.0 run.1 }

-- a run over the bytes of a script
abbrev pub run_over : (ℕ → Bool) → Progress → List ℕ → Ending
run_over memory p script = ending_of (fold_script (λ p. sizes_of p.files) (carried_out memory) LIMITS p script)

-- the bytes that it writes
abbrev pub bytes_of : Ending → List ℕ
bytes_of ending = texts_from 1 ending.answers

-- a run that is refused before its first command
abbrev pub refused : Status → Ending
refused why = record { answers = []; status = why }

-- ---- before the script

-- a run that passes a limit
abbrev pub over : {A : Type 0} → Which → Result A Status
over which = Err (status.Limit which (limit_of LIMITS which))

abbrev pub unless_over : Option Which → Files → Result Files Status
unless_over None files = Ok files
unless_over (Some which) files = over which

-- the file that a word names, put beside those that were read before it, or why it is refused: there are too many,
-- it is absent, or it passes a limit
abbrev pub with_text : Files → List ℕ → Option (List ℕ) → Result Files Status
with_text files path None = Err (status.NoFile path)
with_text files path (Some bytes) = unless_over (limit_passed files path bytes) (with_file files path bytes)

abbrev pub with_word : Files → List ℕ → Option (List ℕ) → Result Files Status
with_word files path file = if nat_le FILES (length files) then over which.Files else with_text files path file

-- a file, and then the others; the first refusal is the answer
abbrev pub read_then : Result Files Status → (Files → Result Files Status) → Result Files Status
read_then (Ok files) others = others files
read_then (Err why) others = Err why

-- the files that words name, read in their order
abbrev pub read_words : Files → List (List ℕ) → Files → Result Files Status
read_words held [] files = Ok files
read_words held (path ∷ paths) files = read_then (with_word files path (file_at held path)) (read_words held paths)

-- the files of the words, or the refusal before any command: of the words, or of a file
abbrev pub files_of : Files → Option Words → Result Files Status
files_of held None = Err status.Usage
files_of held (Some words) = read_words held words.paths []

-- ---- the session

abbrev pub started : Words → Files → Progress
started words files = record { root = words.root; files = files; kept = Nothing; answers = []; status = status.Module }

-- with `--once` the script is one update
abbrev pub script_of : Words → List ℕ → List ℕ
script_of words script = if words.once then codes "update\n" else script

abbrev pub session_by : Option Words → Result Files Status → List ℕ → (ℕ → Bool) → Ending
session_by None files script memory = refused status.Usage
session_by (Some words) (Err why) script memory = refused why
session_by (Some words) (Ok files) script memory = run_over memory (started words files) (script_of words script)

-- what the program answers for these words, where the outside holds these files and this is the script
unfoldable pub session : List (List ℕ) → Files → List ℕ → (ℕ → Bool) → Ending
session words held script memory = session_by (words_of words) (files_of held (words_of words)) script memory
