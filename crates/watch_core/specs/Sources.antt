-- The files that were read, each as it stands.
use Rattle.std.specs.Prelude.{◌≡◌, ℕ, List, Option, Some}
use Rattle.std.specs.Map.{lookup}
use Rattle.std.specs.BTreeMap.{is_at}
use Rattle.std.specs.Ordering.{nat_cmp}
use Rattle.std.specs.Cmp.Lexicographic.{slice_cmp}
use Rattle.diag_order.specs.Sorted.{text_in}
use Rattle.zir_form.specs.declared.front.Front.{Front}
use Rattle.zir_form.specs.Front.{front_in}
use Rattle.watch_core.specs.Compile.{Files}
use Rattle.watch_core.specs.Front.{front_of}

-- what a map has at a path
abbrev pub at_path : {V : Type 0} → List (List ℕ × V) → List ℕ → Option V
at_path entries path = lookup (is_at (slice_cmp nat_cmp path)) entries

-- a file was read as it stands
abbrev pub IsRead : List ℕ → Front → Type 0
IsRead text file = front_in file ≡ front_of text

-- each file that was read was read as it stands
abbrev pub AreRead : List (List ℕ × Front) → Files → Type 0
AreRead sources files =
    (path : List ℕ) (file : Front) → at_path sources path ≡ Some file → IsRead (text_in files path) file
