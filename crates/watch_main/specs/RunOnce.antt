-- What a run promises.
use Rattle.std.specs.Prelude.{◌≡◌, ℕ, Bool, List, [], ◌∷◌, ◌++◌, ◌⊎◌, codes, Option, Result, Ok}
use Rattle.std.specs.Fmt.{decimal}
use Rattle.std.specs.List.{concat}
use Rattle.zw_base.specs.declared.status.Status.{Status}
use Rattle.zw_base.specs.declared.status.Status.TheVariants as status
use Rattle.watch_core.specs.Compile.{Files}
use Rattle.watch_main.specs.Memory.{memory_in, with_memory}
use Rattle.watch_main.specs.Session.{Ending, bytes_of, files_of, session}
use Rattle.watch_main.specs.Words.{words_of}

-- a session, by which updates find no memory
abbrev pub Sessions : Type 0
Sessions = (ℕ → Bool) → Ending

-- bytes are the front of others
abbrev pub IsFrontOf : List ℕ → List ℕ → Type 0
IsFrontOf front all = (rest : List ℕ) × (all ≡ front ++ rest)

-- All that the session writes, and its end. Which updates found no memory is told by what was written.
pub record IsWhole (s : Status) (written : List ℕ) (sessions : Sessions) : Type 0 where
  pub bytes : written ≡ bytes_of (sessions (memory_in written))
  pub status : (sessions (memory_in written)).status ≡ s

-- the last answer is cut at `update N m`, which leaves open whether it is `memory`
abbrev pub IsCutAt : ℕ → List ℕ → Type 0
IsCutAt number written = (before : List ℕ) × (written ≡ before ++ concat (codes "update " ∷ decimal number ∷ codes " m" ∷ []))

-- the front of what the session writes
abbrev pub IsFront : List ℕ → Sessions → Type 0
IsFront written sessions =
    IsFrontOf written (bytes_of (sessions (memory_in written)))
    ⊎ ((number : ℕ) × IsCutAt number written × IsFrontOf written (bytes_of (sessions (with_memory number (memory_in written)))))

-- What was written and how the run ended, beside the session. A fault of a file comes before the first byte, and one
-- of the sink may cut an answer anywhere. Want of memory comes before the first byte or as an answer.
abbrev pub Fits : Status → List ℕ → Sessions → Type 0
Fits status.FileFault written sessions = written ≡ []
Fits status.WriteFault written sessions = IsFront written sessions
Fits status.Memory written sessions = (written ≡ []) ⊎ IsWhole status.Memory written sessions
Fits s written sessions = IsWhole s written sessions

-- the run wrote this and ended so; no script is read
abbrev pub Follows : Status → List ℕ → List (List ℕ) → Files → Type 0
Follows s written words held = Fits s written (session words held [])

-- the files of the words, or the refusal before any update
abbrev pub files_asked : List (List ℕ) → Files → Result Files Status
files_asked words held = files_of held (words_of words)

-- the words are served, and their files are there and within the limits
abbrev pub IsReady : List (List ℕ) → Files → Type 0
IsReady words held = (files : Files) × (files_asked words held ≡ Ok files)

-- a run that is refused is so answered, unless a file could not be read or there was no memory
abbrev pub Refuses : Status → Status → Type 0
Refuses s why = (s ≡ why) ⊎ (s ≡ status.FileFault) ⊎ (s ≡ status.Memory)

-- an update was answered, or there was no memory
abbrev pub IsAnswered : Status → Type 0
IsAnswered status.Module = Unit {0}
IsAnswered status.Diagnostics = Unit {0}
IsAnswered status.Memory = Unit {0}
IsAnswered _ = ⊥
