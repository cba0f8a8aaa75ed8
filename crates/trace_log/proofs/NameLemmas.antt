-- Bytes among lists of numbers.
use Rattle.std.proofs.Common.{◌≡◌, sym, subst}
use Rattle.type_form.specs.declared.index.Index.{Index}
use Rattle.type_form.specs.Known.{Known}
use Rattle.type_form.specs.Means.{AreBytes, IsBytes, IsList, bytes_at, list_at}
use Rattle.type_form.proofs.MeansLemmas.{IsBytes-list, IsBytes-bytes}

pub is_list : (k : Known) (i : Index) → IsBytes k i → IsList k i
is_list k i h = (IsBytes-list k i h).known

pub list_is : (k : Known) (i : Index) → IsBytes k i → list_at k i ≡ bytes_at k i
list_is k i h = (IsBytes-list k i h).is

pub are_bytes : (k : Known) (i : Index) → IsBytes k i → AreBytes (list_at k i)
are_bytes k i h = subst AreBytes (sym (list_is k i h)) (IsBytes-bytes k i h)

pub ruleset byte_lists = (is_list, list_is, are_bytes)
