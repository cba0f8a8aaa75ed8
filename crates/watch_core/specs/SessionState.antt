-- What contracts see of a session, and the limits on its files.
use Rattle.std.specs.Prelude.{◌≡◌, ℕ, List, length, Option, None, Some, Result, Ok, Err}
use Rattle.std.specs.List.{sum_by}
use Rattle.std.specs.Map.{values_of}
use Rattle.std.specs.BTreeMap.{insert_entry}
use Rattle.std.specs.Ordering.{nat_cmp}
use Rattle.std.specs.Cmp.Lexicographic.{slice_cmp}
use Rattle.zw_base.specs.declared.limits.TheConstants.{LIMITS}
use Rattle.zw_base.specs.declared.status.Which.{Which}
use Rattle.zw_base.specs.Limits.{AreWithin, files_exceeded, limit_of, sizes_of}
use Rattle.zir_form.specs.declared.front.Front.{Front}
use Rattle.watch_core.specs.declared.session.SetFault.{SetFault}
use Rattle.watch_core.specs.declared.session.SetFault.TheVariants.{Limit, OutOfMemory}
use Rattle.watch_core.specs.Compile.{Files}
use Rattle.watch_core.specs.Sources.{AreRead}

-- the root's path, and the files as pairs of path and bytes, in the order of the paths and each path once
pub record SessionState : Type 0 where
  pub root : List ℕ
  pub files : Files

-- the files with one more, or with another text for one
abbrev pub with_file : Files → List ℕ → List ℕ → Files
with_file files path bytes = insert_entry (slice_cmp nat_cmp) files path bytes

abbrev pub total_bytes : Files → ℕ
total_bytes files = sum_by length (values_of files)

-- what a session keeps: its files are within the limits, so many bytes, and those that were read are as they stand
pub record IsKept (files : Files) (total : ℕ) (sources : List (List ℕ × Front)) : Type 0 where
  pub within : AreWithin LIMITS (sizes_of files)
  pub total_is : total ≡ total_bytes files
  pub read : AreRead sources files

-- the first limit that files with one more would pass
abbrev pub limit_passed : Files → List ℕ → List ℕ → Option Which
limit_passed files path bytes = files_exceeded LIMITS (sizes_of (with_file files path bytes))

-- a call's answer is the limit that is passed, or that none is; want of memory is free
abbrev pub MeetsLimit : {T : Type 0} → Result T SetFault → Option Which → Type 0
MeetsLimit (Ok _) passed = passed ≡ None
MeetsLimit (Err OutOfMemory) passed = Unit {0}
MeetsLimit (Err (Limit which number)) passed = (passed ≡ Some which) × (number ≡ limit_of LIMITS which)
