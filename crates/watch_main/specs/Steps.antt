-- What the steps of a run promise.
use Rattle.std.specs.Prelude.{◌≡◌, ℕ, Bool, if◌then◌else◌, List, [], ◌∷◌, ◌++◌, Option, None, Some, Result, Ok, Err, IsSome}
use Rattle.std.specs.Option.{option_map}
use Rattle.zw_base.specs.declared.status.Status.{Status}
use Rattle.zw_base.specs.declared.status.Status.TheVariants as status
use Rattle.watch_core.specs.Compile.{Files}
use Rattle.watch_core.specs.SessionState.{SessionState}
use Rattle.watch_core.specs.declared.session.Update.{Update}
use Rattle.watch_core.specs.declared.session.Update.TheVariants as update
use Rattle.watch_main.specs.declared.words.Words.{Words}
use Rattle.watch_main.specs.AnswerText.{update_text, status_after}
use Rattle.watch_main.specs.RunOnce.{IsFrontOf}

-- the words ask for this; want of memory comes only where they are served
abbrev pub Serves : Result Words Status → Option Words → Type 0
Serves (Ok words) asked = asked ≡ Some words
Serves (Err status.Usage) asked = asked ≡ None
Serves (Err status.Memory) asked = IsSome asked
Serves (Err _) asked = ⊥

-- the same of the path that a word says
abbrev pub NamesPath : Result (List ℕ) Status → Option (List ℕ) → Type 0
NamesPath (Ok path) named = named ≡ Some path
NamesPath (Err status.Usage) named = named ≡ None
NamesPath (Err status.Memory) named = IsSome named
NamesPath (Err _) named = ⊥

-- how reading the files may be refused
abbrev pub IsReadRefusal : Status → Type 0
IsReadRefusal status.FileFault = Unit {0}
IsReadRefusal (status.NoFile path) = Unit {0}
IsReadRefusal status.Memory = Unit {0}
IsReadRefusal (status.Limit which number) = Unit {0}
IsReadRefusal _ = ⊥

-- the refusal that comes first, unless a file could not be read or there was no memory
abbrev pub RefusesRead : Status → Result Files Status → Type 0
RefusesRead status.FileFault wanted = Unit {0}
RefusesRead status.Memory wanted = Unit {0}
RefusesRead why wanted = wanted ≡ Err why

-- these are the files with those that were read, or this is the first refusal
abbrev pub Reads : Result (Unit {0}) Status → Files → Result Files Status → Type 0
Reads (Ok _) files wanted = wanted ≡ Ok files
Reads (Err why) files wanted = RefusesRead why wanted

-- a session over the files that were read, or the first refusal
abbrev pub Opens : Result SessionState Status → List ℕ → Result Files Status → Type 0
Opens (Ok session) root wanted = (wanted ≡ Ok session.files) × (session.root ≡ root)
Opens (Err why) root wanted = RefusesRead why wanted

-- what a sink has taken, with these bytes behind it
abbrev pub taken_with : Option (List ℕ) → List ℕ → Option (List ℕ)
taken_with taken bytes = option_map (λ before. before ++ bytes) taken

-- the sink took the front of these bytes
pub record TookFront (old new : Option (List ℕ)) (bytes : List ℕ) : Type 0 where
  pub written : List ℕ
  pub rest : List ℕ
  pub whole : bytes ≡ written ++ rest
  pub taken : new ≡ taken_with old written

-- the first update, as it answered or as want of memory made it
abbrev pub first_answer : Bool → Update → Update
first_answer memory answer = if memory then update.Memory else answer

-- the first answer was written, or its front and the sink failed
abbrev pub FitsAnswer : Status → List ℕ → Update → Type 0
FitsAnswer status.WriteFault written answer = IsFrontOf written (update_text 1 answer)
FitsAnswer s written answer = (written ≡ update_text 1 answer) × (status_after answer ≡ s)

pub record Ends (s : Status) (old new : Option (List ℕ)) (answer : Update) : Type 0 where
  pub memory : Bool
  pub written : List ℕ
  pub taken : new ≡ taken_with old written
  pub fits : FitsAnswer s written (first_answer memory answer)

-- the sink took these bytes, of which P holds; where a sink doesn't tell what it took, there are bytes of which P holds
abbrev pub Writes : Option (List ℕ) → Option (List ℕ) → (List ℕ → Type 0) → Type 0
Writes old new P = (written : List ℕ) × (new ≡ taken_with old written) × P written

-- how a run may end that came to writing
abbrev pub IsWritten : Status → Type 0
IsWritten status.Module = Unit {0}
IsWritten status.Diagnostics = Unit {0}
IsWritten status.WriteFault = Unit {0}
IsWritten status.Memory = Unit {0}
IsWritten _ = ⊥
