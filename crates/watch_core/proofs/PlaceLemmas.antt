-- Diagnostics in the texts of their files.
use Rattle.std.proofs.Common.{◌≡◌, ℕ, ◌+◌, ◌<◌, ◌≤◌, ◌↔◌, min, List, [], ◌∷◌, ◌++◌, length, map, take, get_or, Option, None, Some, Result, Ok, Err, IfOk, refl, ap, sym, ◌∙◌, subst, arith, Bool, true, false, cond}
use Rattle.std.specs.Prelude.{All, Contains, IsSome, is_some, unwrap_or}
use Rattle.std.specs.List.{AllByRecursion}
use Rattle.std.specs.List.Sorted.{IsStrictlySortedBy}
use Rattle.std.specs.BTreeMap.{is_at, insert_entry}
use Rattle.std.specs.Ordering.{nat_cmp}
use Rattle.std.specs.Cmp.Lexicographic.{slice_cmp}
use Rattle.std.proofs.lemmas.List.{take_all, take_min, take_more}
use Rattle.std.proofs.lemmas.List.Elements.{All-from_recursion, recursion_from_All}
use Rattle.diag_order.specs.declared.line.Diag.{Diag}
use Rattle.diag_order.specs.declared.line.Line.{Line}
use Rattle.diag_order.specs.Order.{line_cmp}
use Rattle.diag_order.specs.Places.{line_at, col_at}
use Rattle.diag_order.specs.Sorted.{text_in, line_of, IsInFile}
use Rattle.watch_core.specs.Compile.{Files, placed}
use Rattle.watch_core.specs.InOrder.{in_order}
use Rattle.watch_core.specs.Placing.{AreTexts, Shows, within}
use Rattle.watch_core.specs.SessionState.{total_bytes}
use Rattle.watch_core.specs.Sources.{at_path}
use Rattle.watch_core.proofs.FilesLemmas.{at_path-insert, path_is, path_passes, text_at, text_within}
use Rattle.watch_core.proofs.InOrder.{lines_in_order}

-- ---- the texts of files with a diagnostic

-- they have the files of these diagnostics
abbrev pub AreThere : Files → List Diag → Type 0
AreThere texts diags = AllByRecursion (λ d. IsSome (at_path texts d.path)) diags

pub no_texts : (files : Files) → AreTexts files []
no_texts files path text e = absurd (cc)

-- one more is the file's
pub texts_more : (files texts : Files) (path : List ℕ) → AreTexts files texts → AreTexts files (insert_entry (slice_cmp nat_cmp) texts path (text_in files path))
texts_more files texts path h q text e =
    chosen (is_at (slice_cmp nat_cmp q) path) refl (sym (at_path-insert texts path (text_in files path) q) ∙ e)
  where
    chosen : (b : Bool) → is_at (slice_cmp nat_cmp q) path ≡ b → cond b (Some (text_in files path)) (at_path texts q) ≡ Some text → text_in files q ≡ text
    chosen true at e = let same : text_in files path ≡ text = cc in ap (text_in files) (path_is q path at) ∙ same
    chosen false at e = h q text e

-- the others stay there
pub there_stay : (texts : Files) (path text q : List ℕ) → IsSome (at_path texts q) → IsSome (at_path (insert_entry (slice_cmp nat_cmp) texts path text) q)
there_stay texts path text q h =
    subst IsSome (sym (at_path-insert texts path text q)) (chosen (is_at (slice_cmp nat_cmp q) path))
  where
    chosen : (b : Bool) → IsSome (cond b (Some text) (at_path texts q))
    chosen true = refl
    chosen false = h

all_stay : (old new : Files) (diags : List Diag) → ((q : List ℕ) → IsSome (at_path old q) → IsSome (at_path new q)) → AreThere old diags → AreThere new diags
all_stay old new [] stay h = tt
all_stay old new (d ∷ ds) stay h = (stay d.path h.0, all_stay old new ds stay h.1)

-- one more diagnostic
-- one more is there
pub there_new : (texts : Files) (path text : List ℕ) → IsSome (at_path (insert_entry (slice_cmp nat_cmp) texts path text) path)
there_new texts path text = ap is_some (at_path-insert texts path text path ∙ ap (λ (b : Bool). cond b (Some text) (at_path texts path)) (path_passes path path refl))

there_more : (texts : Files) (diags : List Diag) (d : Diag) → AreThere texts diags → IsSome (at_path texts d.path) → AreThere texts (diags ++ d ∷ [])
there_more texts [] d h here = (here, tt)
there_more texts (e ∷ ds) d h here = (h.0, there_more texts ds d h.1 here)

-- the next of some diagnostics
pub there_next : (old new : Files) (diags : List Diag) (i : ℕ) (d : Diag) → i < length diags → d ≡ get_or diags i d → ((q : List ℕ) → IsSome (at_path old q) → IsSome (at_path new q)) → IsSome (at_path new d.path)
    → AreThere old (take i diags) → AreThere new (take (i + 1) diags)
there_next old new diags i d h is stay here there =
    subst (AreThere new) (sym (take_more diags i d h ∙ ap (λ (x : Diag). take i diags ++ x ∷ []) (sym is))) (there_more new (take i diags) d (all_stay old new (take i diags) stay there) here)

-- all of them
pub there_all : (texts : Files) (diags : List Diag) (i : ℕ) → length diags ≤ i → AreThere texts (take i diags) → AreThere texts diags
there_all texts diags i h there = subst (AreThere texts) (take_all i diags h) there

-- so the texts are those of the diagnostics' files
shown : (files texts : Files) (d : Diag) → AreTexts files texts → IsSome (at_path texts d.path) → Shows files texts d
shown files texts d h here = found (at_path texts d.path) refl here
  where
    found : (o : Option (List ℕ)) → at_path texts d.path ≡ o → IsSome o → Shows files texts d
    found None e i = absurd (cc)
    found (Some text) e i = sym (text_at texts d.path) ∙ ap (λ t. unwrap_or t []) e ∙ sym (h d.path text e)

each_shown : (files texts : Files) (diags : List Diag) → AreTexts files texts → AreThere texts diags → AllByRecursion (Shows files texts) diags
each_shown files texts [] h there = tt
each_shown files texts (d ∷ ds) h there = (shown files texts d h there.0, each_shown files texts ds h there.1)

pub all_shown : (files texts : Files) (diags : List Diag) → AreTexts files texts → AreThere texts diags → All (Shows files texts) diags
all_shown files texts diags h there = All-from_recursion (Shows files texts) diags (each_shown files texts diags h there)

pub listed_shown : {E : Type 0} (r : Result Files E) (files texts : Files) (diags : List Diag) → IfOk r (λ list. list ≡ texts) → All (Shows files texts) diags → IfOk r (λ list. All (Shows files list) diags)
listed_shown (Ok list) files texts diags e h = subst (λ (t : Files). All (Shows files t) diags) (sym e) h
listed_shown (Err e) files texts diags f h = tt

-- ---- places

-- a place behind a text's end is its end
line_within : (text : List ℕ) (n : ℕ) → line_at text (min n (length text)) ≡ line_at text n
line_within text n = rw (take_min n text) refl

col_within : (text : List ℕ) (n : ℕ) → col_at text (min n (length text)) ≡ col_at text n
col_within text n = rw (take_min n text) refl

in_file : (files texts : Files) (d : Diag) → total_bytes files ≤ 67108864 → Shows files texts d → IsInFile texts (within files d)
in_file files texts d h shows =
    let short : length (text_in files d.path) ≤ 67108864 = text_within files d.path 67108864 h in
    let inside : min d.offset (length (text_in files d.path)) ≤ length (text_in files d.path) = omega arith in
    (rw shows inside, omega arith)

each_in_file : (files texts : Files) (diags : List Diag) → total_bytes files ≤ 67108864 → AllByRecursion (Shows files texts) diags → AllByRecursion (IsInFile texts) (map (within files) diags)
each_in_file files texts [] h shows = tt
each_in_file files texts (d ∷ ds) h shows = (in_file files texts d h shows.0, each_in_file files texts ds h shows.1)

-- the diagnostics lie in their files
pub all_in_file : (files texts : Files) (given diags : List Diag) → given ≡ map (within files) diags → total_bytes files ≤ 67108864 → All (Shows files texts) diags → All (IsInFile texts) given
all_in_file files texts given diags e h shows =
    subst (All (IsInFile texts)) (sym e) (All-from_recursion (IsInFile texts) (map (within files) diags) (each_in_file files texts diags h (recursion_from_All (Shows files texts) diags shows)))

placed_alike : (files texts : Files) (d : Diag) → Shows files texts d → line_of texts (within files d) ≡ line_of files d
placed_alike files texts d shows = rw (shows, line_within (text_in files d.path) d.offset, col_within (text_in files d.path) d.offset) refl

each_placed : (files texts : Files) (diags : List Diag) → AllByRecursion (Shows files texts) diags → map (line_of texts) (map (within files) diags) ≡ map (line_of files) diags
each_placed files texts [] shows = refl
each_placed files texts (d ∷ ds) shows =
    ap (λ (l : Line). l ∷ map (line_of texts) (map (within files) ds)) (placed_alike files texts d shows.0)
    ∙ ap (λ (ls : List Line). line_of files d ∷ ls) (each_placed files texts ds shows.1)

-- sorted, they are the diagnostics in their places
pub placed_in_order : (files texts : Files) (given diags : List Diag) (lines : List Line) → given ≡ map (within files) diags → All (Shows files texts) diags
    → IsStrictlySortedBy line_cmp lines → ((l : Line) → Contains lines l ↔ Contains (map (line_of texts) given) l) → lines ≡ placed files diags
placed_in_order files texts given diags lines e shows rises same =
    lines_in_order lines (map (line_of texts) given) rises same
    ∙ ap (λ (ds : List Diag). in_order (map (line_of texts) ds)) e
    ∙ ap in_order (each_placed files texts diags (recursion_from_All (Shows files texts) diags shows))
