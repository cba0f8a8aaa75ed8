-- The words of the command line.
use Rattle.std.specs.Prelude.{ℕ, ◌≤◌, true, ◌&&◌, if◌then◌else◌, List, [], ◌∷◌, codes, Option, None, Some, is_none}
use Rattle.std.specs.Option.{option_map}
use Rattle.std.specs.Str.{bytes_eq}
use Rattle.zw_base.specs.Path.{path_fault}
use Rattle.watch_main.specs.declared.words.Words.{Words}
use Rattle.watch_main.specs.declared.words.TheConstants.{JOBS, SHARDS}

-- the numbers of workers and of shards are those that there may be
abbrev pub AreInRange : Words → Type 0
AreInRange words = (1 ≤ words.jobs) × (words.jobs ≤ 64) × (1 ≤ words.shards) × (words.shards ≤ 64)

-- the path that a word says, where it says one
abbrev pub path_named : List ℕ → Option (List ℕ)
path_named word = if is_none (path_fault word) then Some word else None

-- one compilation of one file, which is its root
abbrev pub once_over : List ℕ → Words
once_over path = record { once = true; root = path; paths = path ∷ []; jobs = JOBS; shards = SHARDS; load = None }

-- The path of the words that are served so far, `--once --root PATH PATH` with the same path twice.
abbrev pub once_path : List (List ℕ) → Option (List ℕ)
once_path (once ∷ root ∷ first ∷ second ∷ []) =
    if bytes_eq once (codes "--once") && bytes_eq root (codes "--root") && bytes_eq first second then path_named first else None
once_path _ = None

-- what the words ask for, where they are served
abbrev pub words_of : List (List ℕ) → Option Words
words_of words = option_map once_over (once_path words)
