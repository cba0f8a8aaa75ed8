-- What the outside answers: files that are read, a sink that is written, and the count of their faults.
use Rattle.std.specs.Prelude.{◌≡◌, ℕ, ◌+◌, ◌-◌, ◌^◌, ◌<◌, ◌≤◌, ◌==◌, min, if◌then◌else◌, nat_lt, List, [], ◌∷◌, ◌++◌, length, take, Option, None, Some, Result, Ok, Err}
use Rattle.std.specs.Option.{option_map}
use lib.Pointwise.{pointwise}
use Rattle.zw_base.specs.declared.files.Fetched.{Fetched}
use Rattle.zw_base.specs.declared.files.Fetched.TheVariants.{Read, Absent, TooLong, Failed, NoMemory}

-- A count of faults rose in a call: it is greater after it, or stands at the last value that a kept counter has.
abbrev pub Rose : ℕ → ℕ → Type 0
Rose before now = min (before + 1) (2 ^ 64 - 1) ≤ now

-- a count of calls after one more; it stands still at its type's end
abbrev pub one_call_more : ℕ → ℕ
one_call_more n = min (n + 1) (2 ^ 64 - 1)

-- the bytes of the file at a path, among pairs of path and bytes: those of the first pair with the path
abbrev pub file_at : List (List ℕ × List ℕ) → List ℕ → Option (List ℕ)
file_at [] path = None
file_at (file ∷ files) path = if pointwise ◌==◌ file.0 path then Some file.1 else file_at files path

-- what reading a file answers where nothing fails
abbrev pub fetched_of : Option (List ℕ) → ℕ → Fetched
fetched_of None limit = Absent
fetched_of (Some bytes) limit = if nat_lt limit (length bytes) then TooLong else Read

-- An answer agrees with the file that is there: the whole of it at Read, and a file that is longer than the
-- limit at TooLong. A fault and want of memory say nothing of the file.
abbrev pub Agrees : Fetched → Option (List ℕ) → ℕ → List ℕ → Type 0
Agrees Read file limit into = file ≡ Some into
Agrees Absent file limit into = file ≡ None
Agrees TooLong file limit into = (bytes : List ℕ) × (file ≡ Some bytes) × (limit < length bytes)
Agrees Failed file limit into = Unit {0}
Agrees NoMemory file limit into = Unit {0}

-- what the buffer holds after an answer: a file within the limit at Read, and nothing after any other
abbrev pub Leaves : Fetched → ℕ → List ℕ → Type 0
Leaves Read limit into = length into ≤ limit
Leaves _ limit into = into ≡ []

-- what a sink has taken after a call: the front of the piece at Ok, and nothing more at a fault
abbrev pub taken_after : {E : Type 0} → Option (List ℕ) → List ℕ → Result ℕ E → Option (List ℕ)
taken_after taken piece (Ok n) = option_map (λ bytes. bytes ++ take n piece) taken
taken_after taken piece (Err _) = taken
