-- Files by their lengths, and the limits on them.
use Rattle.std.specs.Prelude.{ℕ, ◌+◌, ◌==◌, ◌≤◌, nat_lt, Bool, not, if◌then◌else◌, List, length, Option, None, Some, filter, map, sum_by, All}
use Rattle.std.specs.List.{list_any}
use lib.Pointwise.{pointwise}
use Rattle.zw_base.specs.declared.limits.Limits.{Limits}
use Rattle.zw_base.specs.declared.limits.Tally.{Tally}
use Rattle.zw_base.specs.declared.status.Which.{Which}
use Rattle.zw_base.specs.declared.status.Which.TheVariants.{Commands, FileBytes, Files, TotalBytes}

-- files, as pairs of path and length
abbrev pub Sizes : Type 0
Sizes = List (List ℕ × ℕ)

-- the lengths of files that are pairs of path and bytes
abbrev pub sizes_of : List (List ℕ × List ℕ) → Sizes
sizes_of files = map (λ file. (file.0, length file.1)) files

abbrev pub has_path : List ℕ → List ℕ × ℕ → Bool
has_path path file = pointwise ◌==◌ file.0 path

-- the files with other paths
abbrev pub others : List ℕ → Sizes → Sizes
others path files = filter (λ file. not (has_path path file)) files

abbrev pub total : Sizes → ℕ
total files = sum_by (λ file. file.1) files

abbrev pub tally : Sizes → Tally
tally files = record { files = length files; bytes = total files }

-- the limit by its name
abbrev pub limit_of : Limits → Which → ℕ
limit_of limits Commands = limits.commands
limit_of limits FileBytes = limits.file_bytes
limit_of limits Files = limits.files
limit_of limits TotalBytes = limits.total_bytes

-- a limit is passed by so many commands and these files
abbrev pub is_over : Limits → ℕ → Sizes → Which → Bool
is_over limits commands files Commands = nat_lt limits.commands commands
is_over limits commands files FileBytes = list_any (λ file. nat_lt limits.file_bytes file.1) files
is_over limits commands files Files = nat_lt limits.files (length files)
is_over limits commands files TotalBytes = nat_lt limits.total_bytes (total files)

-- the first limit on files that is passed
abbrev pub files_exceeded : Limits → Sizes → Option Which
files_exceeded limits files =
    if is_over limits 0 files FileBytes then Some FileBytes
    else if is_over limits 0 files Files then Some Files
    else if is_over limits 0 files TotalBytes then Some TotalBytes
    else None

-- the first limit that is passed, by so many commands or these files
abbrev pub exceeded : Limits → ℕ → Sizes → Option Which
exceeded limits commands files =
    if is_over limits commands files Commands then Some Commands else files_exceeded limits files

-- files within the limits
pub record AreWithin (limits : Limits) (files : Sizes) : Type 0 where
  pub each : All (λ file. file.1 ≤ limits.file_bytes) files
  pub count : length files ≤ limits.files
  pub sum : total files ≤ limits.total_bytes

-- the first limit that one more file passes, beside others that are so many and so long and within the limits
abbrev pub passed_beside : Limits → Tally → ℕ → Option Which
passed_beside limits beside len =
    if nat_lt limits.file_bytes len then Some FileBytes
    else if nat_lt limits.files (beside.files + 1) then Some Files
    else if nat_lt limits.total_bytes (beside.bytes + len) then Some TotalBytes
    else None
