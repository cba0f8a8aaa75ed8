-- Files with other paths are no more, and have no more bytes; so only one more file can pass a limit on files.
use Rattle.std.proofs.Common.{◌≡◌, ℕ, ◌+◌, ◌≤◌, ◌<◌, nat_lt, Bool, true, false, not, ◌||◌, List, [], ◌∷◌, length, None, refl, sym, ◌∙◌, ap, arith, if◌then◌else◌, drop, get_or, suc, add_comm, add-one, drop-cons}
use Rattle.std.proofs.lemmas.Bool.Decides.{nat_tests}
use Rattle.std.proofs.lemmas.List.Filters.{length-filter_both, sum_by-filter_both}
use Rattle.std.proofs.lemmas.List.Sums.{sum_by-cons}
use Rattle.std.proofs.lemmas.List.Elements.{recursion_from_All}
use Rattle.std.specs.List.{list_any, AllByRecursion}
use Rattle.zw_base.specs.declared.limits.Limits.{Limits}
use Rattle.zw_base.specs.Limits.{Sizes, has_path, others, total, tally, files_exceeded, passed_beside, AreWithin}

not_not : (b : Bool) → b ≡ not (not b)
not_not true = refl
not_not false = refl

pub others_are_no_more : (path : List ℕ) (files : Sizes) → length (others path files) ≤ length files
others_are_no_more path files =
    omega (arith, length-filter_both (λ file. not (has_path path file)) (has_path path) (λ file. not_not (has_path path file)) files)

pub others_have_no_more : (path : List ℕ) (files : Sizes) → total (others path files) ≤ total files
others_have_no_more path files =
    omega (arith, sum_by-filter_both (λ file. not (has_path path file)) (has_path path) (λ file. not_not (has_path path file)) (λ file. file.1) files)

small_cons : (most : ℕ) (file : List ℕ × ℕ) (kept : Bool) (found : Sizes) → file.1 ≤ most → list_any (λ file. nat_lt most file.1) found ≡ false → list_any (λ file. nat_lt most file.1) (if kept then file ∷ found else found) ≡ false
small_cons most file true found fits h = let e : nat_lt most file.1 ≡ false = grind (arith, nat_tests) in rw (e, h) refl
small_cons most file false found fits h = h

small_others : (most : ℕ) (path : List ℕ) (files : Sizes) → AllByRecursion (λ file. file.1 ≤ most) files → list_any (λ file. nat_lt most file.1) (others path files) ≡ false
small_others most path [] h = refl
small_others most path (file ∷ files) h = small_cons most file (not (has_path path file)) (others path files) h.0 (small_others most path files h.1)

small_files : (most : ℕ) (files : Sizes) → AllByRecursion (λ file. file.1 ≤ most) files → list_any (λ file. nat_lt most file.1) files ≡ false
small_files most [] h = refl
small_files most (file ∷ files) h = small_cons most file true files h.0 (small_files most files h.1)

or_false : (b : Bool) → (b || false) ≡ b
or_false true = refl
or_false false = refl

-- one more file beside files within the limits
pub one_more : (limits : Limits) (path : List ℕ) (len : ℕ) (beside : Sizes) → list_any (λ file. nat_lt limits.file_bytes file.1) beside ≡ false →
    files_exceeded limits ((path, len) ∷ beside) ≡ passed_beside limits (tally beside) len
one_more limits path len beside small =
    let added : total ((path, len) ∷ beside) ≡ total beside + len = sum_by-cons (λ file. file.1) (path, len) beside ∙ add_comm len (total beside) in
    rw (small, or_false, added, add-one (length beside)) refl

-- one more file beside those with other paths
pub one_more_of : (limits : Limits) (path : List ℕ) (len : ℕ) (files : Sizes) → AreWithin limits files →
    files_exceeded limits ((path, len) ∷ others path files) ≡ passed_beside limits (tally (others path files)) len
one_more_of limits path len files w = one_more limits path len (others path files) (small_others _ path files (recursion_from_All _ files w.each))

not_over : (limits : Limits) (files : Sizes) → list_any (λ file. nat_lt limits.file_bytes file.1) files ≡ false → length files ≤ limits.files → total files ≤ limits.total_bytes → files_exceeded limits files ≡ None
not_over limits files small count sum =
    let few : nat_lt limits.files (length files) ≡ false = grind (arith, nat_tests) in
    let short : nat_lt limits.total_bytes (total files) ≡ false = grind (arith, nat_tests) in
    rw (small, few, short) refl

-- files within the limits pass none
pub within_not_over : (limits : Limits) (files : Sizes) → AreWithin limits files → files_exceeded limits files ≡ None
within_not_over limits files w = not_over limits files (small_files _ files (recursion_from_All _ files w.each)) w.count w.sum

-- nor do they without a path
pub others_not_over : (limits : Limits) (path : List ℕ) (files : Sizes) → AreWithin limits files → files_exceeded limits (others path files) ≡ None
others_not_over limits path files w =
    not_over limits (others path files) (small_others _ path files (recursion_from_All _ files w.each))
    (omega (arith, others_are_no_more path files)) (omega (arith, others_have_no_more path files))

-- what one of the other files adds
pub next_fits : (path : List ℕ) (files : Sizes) (i : ℕ) (file : List ℕ × ℕ) → i < length files → file ≡ get_or files i file → not (has_path path file) ≡ true → file.1 ≤ total (others path (drop i files))
next_fits path files i file h is other =
    let e : drop i files ≡ file ∷ drop (suc i) files = drop-cons files i file h ∙ ap (λ x. x ∷ drop (suc i) files) (sym is) in
    rw (e, other, sum_by-cons (λ x. x.1) file (others path (drop (suc i) files))) (omega arith)
