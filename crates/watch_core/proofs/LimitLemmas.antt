-- The limits on files with one more.
use Rattle.std.proofs.Common.{◌≡◌, ℕ, ◌+◌, ◌≤◌, ◌<◌, nat_lt, Bool, true, false, ◌||◌, if◌then◌else◌, List, [], ◌∷◌, length, map, Option, None, Some, refl, ap, sym, ◌∙◌, arith}
use Rattle.std.specs.List.{list_any, sum_by, AllByRecursion}
use Rattle.std.specs.Map.{values_of}
use Rattle.std.specs.BTreeMap.{insert_entry}
use Rattle.std.specs.Ordering.{nat_cmp, match_ordering}
use Rattle.std.specs.declared.cmp.Ordering.{Ordering}
use Rattle.std.specs.declared.cmp.Ordering.TheVariants.{Less, Equal, Greater}
use Rattle.std.specs.Cmp.Lexicographic.{slice_cmp}
use Rattle.std.proofs.lemmas.Bool.Decides.{nat_tests}
use Rattle.std.proofs.lemmas.List.Elements.{All-from_recursion, recursion_from_All}
use Rattle.std.proofs.lemmas.List.Sums.{sum_by-cons}
use Rattle.std.proofs.lemmas.List.{length-map}
use Rattle.zw_base.specs.declared.limits.TheConstants.{LIMITS}
use Rattle.zw_base.specs.declared.limits.Tally.{Tally}
use Rattle.zw_base.specs.declared.status.Which.{Which}
use Rattle.zw_base.specs.declared.status.Which.TheVariants.{FileBytes, Files, TotalBytes}
use Rattle.zw_base.specs.Limits.{Sizes, AreWithin, files_exceeded, passed_beside, sizes_of, total}
use Rattle.watch_core.specs.SessionState.{total_bytes, with_file, limit_passed}

-- the lengths of files are as many, and as much together
pub sizes_total : (files : List (List ℕ × List ℕ)) → total (sizes_of files) ≡ total_bytes files
sizes_total [] = refl
sizes_total (file ∷ files) =
    sum_by-cons (λ (f : List ℕ × ℕ). f.1) (file.0, length file.1) (sizes_of files)
    ∙ ap (λ n. length file.1 + n) (sizes_total files)
    ∙ sym (sum_by-cons length file.1 (values_of files))

pub sizes_length : (files : List (List ℕ × List ℕ)) → length (sizes_of files) ≡ length files
sizes_length files = length-map files (λ file. (file.0, length file.1))

-- ---- a limit that no file passes

at_most : (m n : ℕ) → nat_lt m n ≡ false → n ≤ m
at_most m n e = grind (arith, nat_tests)

or_false : (b : Bool) → (b || false) ≡ b
or_false true = refl
or_false false = refl

small : (most : ℕ) (files : Sizes) → AllByRecursion (λ file. file.1 ≤ most) files → list_any (λ file. nat_lt most file.1) files ≡ false
small most [] h = refl
small most (file ∷ files) h =
    let here : nat_lt most file.1 ≡ false = grind (arith, nat_tests) in
    rw (here, small most files h.1) refl

all_small : (most : ℕ) (files : Sizes) → list_any (λ file. nat_lt most file.1) files ≡ false → AllByRecursion (λ file. file.1 ≤ most) files
all_small most [] h = tt
all_small most (file ∷ files) h =
    let both = neither (nat_lt most file.1) (list_any (λ file. nat_lt most file.1) files) h in
    (at_most most file.1 both.0, all_small most files both.1)
  where
    neither : (a b : Bool) → (a || b) ≡ false → (a ≡ false) × (b ≡ false)
    neither true b e = absurd (cc)
    neither false b e = (refl, e)

-- with one more file it is that file which passes it
small_more : (most : ℕ) (files : List (List ℕ × List ℕ)) (path bytes : List ℕ) → AllByRecursion (λ file. file.1 ≤ most) (sizes_of files) → list_any (λ file. nat_lt most file.1) (sizes_of (with_file files path bytes)) ≡ nat_lt most (length bytes)
small_more most [] path bytes h = or_false (nat_lt most (length bytes))
small_more most (file ∷ files) path bytes h = step (slice_cmp nat_cmp path file.0) (small_more most files path bytes h.1)
  where
    here : nat_lt most (length file.1) ≡ false
    here = let fits : length file.1 ≤ most = h.0 in grind (arith, nat_tests)

    rest : list_any (λ f. nat_lt most f.1) (sizes_of files) ≡ false
    rest = small most (sizes_of files) h.1

    step : (o : Ordering) → list_any (λ f. nat_lt most f.1) (sizes_of (with_file files path bytes)) ≡ nat_lt most (length bytes) → list_any (λ f. nat_lt most f.1) (sizes_of (match_ordering o ((path, bytes) ∷ file ∷ files) ((file.0, bytes) ∷ files) (file ∷ with_file files path bytes))) ≡ nat_lt most (length bytes)
    step Less more = rw (here, rest) (or_false (nat_lt most (length bytes)))
    step Equal more = rw rest (or_false (nat_lt most (length bytes)))
    step Greater more = rw (here, more) refl

-- ---- the first limit that is passed

-- it is told by the other files' number and bytes
pub passed_is : (files : List (List ℕ × List ℕ)) (path bytes : List ℕ) (others : Tally) → AreWithin LIMITS (sizes_of files)
    → others.files + 1 ≡ length (with_file files path bytes) → others.bytes + length bytes ≡ total_bytes (with_file files path bytes)
    → passed_beside LIMITS others (length bytes) ≡ limit_passed files path bytes
passed_is files path bytes others w count sum =
    rw (small_more LIMITS.file_bytes files path bytes (recursion_from_All _ (sizes_of files) w.each), sizes_length (with_file files path bytes), sizes_total (with_file files path bytes), ← count, ← sum) refl

none_first : (a b c : Bool) → (if a then Some FileBytes else if b then Some Files else if c then Some TotalBytes else None) ≡ None → (a ≡ false) × (b ≡ false) × (c ≡ false)
none_first true b c e = absurd (cc)
none_first false true c e = absurd (cc)
none_first false false true e = absurd (cc)
none_first false false false e = (refl, refl, refl)

none_within : (files : Sizes) → files_exceeded LIMITS files ≡ None → AreWithin LIMITS files
none_within files e =
    let none = none_first (list_any (λ file. nat_lt LIMITS.file_bytes file.1) files) (nat_lt LIMITS.files (length files)) (nat_lt LIMITS.total_bytes (total files)) e in
    record {
      each = All-from_recursion _ files (all_small LIMITS.file_bytes files none.0);
      count = at_most LIMITS.files (length files) none.1;
      sum = at_most LIMITS.total_bytes (total files) none.2;
    }

-- where none is passed, the files are within them
pub within_more : (files : List (List ℕ × List ℕ)) (path bytes : List ℕ) → limit_passed files path bytes ≡ None → AreWithin LIMITS (sizes_of (with_file files path bytes))
within_more files path bytes e = none_within (sizes_of (with_file files path bytes)) e

-- files within them have so many bytes
pub total_within : (files : List (List ℕ × List ℕ)) → AreWithin LIMITS (sizes_of files) → total_bytes files ≤ 67108864
total_within files w = let sum = w.sum in rw (← sizes_total files) sum
