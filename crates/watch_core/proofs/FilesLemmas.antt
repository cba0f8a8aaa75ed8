-- Files in a map under their paths, and how many and how long they are.
use Rattle.std.proofs.Common.{◌≡◌, ℕ, ◌+◌, ◌-◌, ◌≤◌, ◌==◌, Bool, true, false, cond, if◌then◌else◌, List, [], ◌∷◌, length, Option, None, Some, refl, ap, sym, ◌∙◌, subst, arith, suc}
use Rattle.std.specs.Option.{option_map, unwrap_or}
use Rattle.std.specs.List.{sum_by}
use Rattle.std.specs.Map.{values_of, keys_of, lookup}
use Rattle.std.specs.BTreeMap.{is_at, insert_entry}
use Rattle.std.specs.Ordering.{nat_cmp, is_eq, match_ordering}
use Rattle.std.specs.declared.cmp.Ordering.{Ordering}
use Rattle.std.specs.declared.cmp.Ordering.TheVariants.{Less, Equal, Greater}
use Rattle.std.specs.Cmp.Lexicographic.{slice_cmp}
use Rattle.std.specs.List.Sorted.{IsStrictlySortedBy}
use Rattle.std.proofs.lemmas.Cmp.{nat_list_cmp_total, nat_list_eq_equiv}
use Rattle.std.proofs.lemmas.Map.Entries.{sum_by-insert_entry, sum_by-remove_entry}
use Rattle.std.proofs.lemmas.List.Sums.{sum_by-cons}
use Rattle.std.proofs.lemmas.Map.Text.{is_eq-slice_cmp}
use Rattle.std.specs.Str.{bytes_eq}
use Rattle.std.proofs.lemmas.Slice.Eq.{bytes_eq-Decides}
use lib.Pointwise.{pointwise}
use Rattle.zw_base.specs.Outside.{file_at}
use Rattle.diag_order.specs.Sorted.{text_in}
use Rattle.zir_form.specs.declared.front.Front.{Front}
use Rattle.watch_core.specs.SessionState.{with_file, total_bytes}
use Rattle.watch_core.specs.Sources.{at_path, AreRead, IsRead}

one_more : (n : ℕ) → 1 + n ≡ suc n
one_more n = omega arith

sum_ones : (files : List (List ℕ × List ℕ)) → sum_by (λ _. 1) (values_of files) ≡ length files
sum_ones [] = refl
sum_ones (file ∷ files) = sum_by-cons (λ _. 1) file.1 (values_of files) ∙ ap (λ n. 1 + n) (sum_ones files) ∙ one_more (length files)

-- one file more, unless there is one with the path
pub length-with_file : (files : List (List ℕ × List ℕ)) (path bytes : List ℕ) → IsStrictlySortedBy (slice_cmp nat_cmp) (keys_of files) → length (with_file files path bytes) + unwrap_or (option_map (λ _. 1) (at_path files path)) 0 ≡ length files + 1
length-with_file files path bytes s =
    let all = sum_by-insert_entry (λ _. 1) nat_list_cmp_total files path bytes s in
    let new = sum_ones (with_file files path bytes) in
    let old = sum_ones files in
    omega arith

-- the new file's bytes more, without those of the one with the path
pub total_bytes-with_file : (files : List (List ℕ × List ℕ)) (path bytes : List ℕ) → IsStrictlySortedBy (slice_cmp nat_cmp) (keys_of files) → total_bytes (with_file files path bytes) + unwrap_or (option_map length (at_path files path)) 0 ≡ total_bytes files + length bytes
total_bytes-with_file files path bytes s = sum_by-insert_entry length nat_list_cmp_total files path bytes s

same_path : (path held : List ℕ) → is_at (slice_cmp nat_cmp path) held ≡ pointwise ◌==◌ held path
same_path path held = is_eq-slice_cmp path held ∙ nat_list_eq_equiv.symm path held

-- the map has the file that stands at the path
pub at_path_is : (files : List (List ℕ × List ℕ)) (path : List ℕ) → at_path files path ≡ file_at files path
at_path_is [] path = refl
at_path_is (file ∷ files) path = rw (same_path path file.0, at_path_is files path) refl

-- a path that no file has
pub length_new : (files : List (List ℕ × List ℕ)) (path bytes : List ℕ) → IsStrictlySortedBy (slice_cmp nat_cmp) (keys_of files) → None ≡ at_path files path → length files + 1 ≡ length (with_file files path bytes)
length_new files path bytes s e = let all = rw (← e) at (length-with_file files path bytes s) in omega arith

pub total_new : (files : List (List ℕ × List ℕ)) (path bytes : List ℕ) → IsStrictlySortedBy (slice_cmp nat_cmp) (keys_of files) → None ≡ at_path files path → total_bytes files + length bytes ≡ total_bytes (with_file files path bytes)
total_new files path bytes s e = let all = rw (← e) at (total_bytes-with_file files path bytes s) in omega arith

-- a path that a file has
pub length_same : (files : List (List ℕ × List ℕ)) (path bytes old : List ℕ) → IsStrictlySortedBy (slice_cmp nat_cmp) (keys_of files) → Some old ≡ at_path files path → length files ≡ length (with_file files path bytes)
length_same files path bytes old s e = let all = rw (← e) at (length-with_file files path bytes s) in omega arith

pub old_within : (files : List (List ℕ × List ℕ)) (path old : List ℕ) → Some old ≡ at_path files path → length old ≤ total_bytes files
old_within files path old e = let all = rw (← e) at (sum_by-remove_entry length (is_at (slice_cmp nat_cmp path)) files) in omega arith

-- there is a file
pub some_file : (files : List (List ℕ × List ℕ)) (path old : List ℕ) → Some old ≡ at_path files path → 1 ≤ length files
some_file [] path old e = absurd (cc)
some_file (file ∷ files) path old e = omega arith

pub total_same : (files : List (List ℕ × List ℕ)) (path bytes old : List ℕ) → IsStrictlySortedBy (slice_cmp nat_cmp) (keys_of files) → Some old ≡ at_path files path → total_bytes files - length old + length bytes ≡ total_bytes (with_file files path bytes)
total_same files path bytes old s e =
    let all = rw (← e) at (total_bytes-with_file files path bytes s) in
    let within = old_within files path old e in
    omega arith

-- ---- the text of a file

-- a file that is not there reads as an empty one
text_is : (files : List (List ℕ × List ℕ)) (path : List ℕ) → unwrap_or (file_at files path) [] ≡ text_in files path
unfolding text_in
text_is [] path = refl
text_is (file ∷ files) path = text_or (pointwise ◌==◌ file.0 path) file.1 (file_at files path) (text_in files path) (text_is files path)
  where
    text_or : (here : Bool) (text : List ℕ) (other : Option (List ℕ)) (rest : List ℕ) → unwrap_or other [] ≡ rest → unwrap_or (if here then Some text else other) [] ≡ (if here then text else rest)
    text_or true text other rest e = refl
    text_or false text other rest e = e

pub text_at : (files : List (List ℕ × List ℕ)) (path : List ℕ) → unwrap_or (at_path files path) [] ≡ text_in files path
text_at files path = ap (λ t. unwrap_or t []) (at_path_is files path) ∙ text_is files path

-- it is no longer than all files together
pub text_within : (files : List (List ℕ × List ℕ)) (path : List ℕ) (limit : ℕ) → total_bytes files ≤ limit → length (text_in files path) ≤ limit
text_within files path limit h = within (at_path files path) refl
  where
    within : (found : Option (List ℕ)) → at_path files path ≡ found → length (text_in files path) ≤ limit
    within None e = rw (← text_at files path, e) (omega arith)
    within (Some text) e = let old = old_within files path text (sym e) in rw (← text_at files path, e) (omega arith)

pub text_there : (files : List (List ℕ × List ℕ)) (path text : List ℕ) → Some text ≡ file_at files path → text ≡ text_in files path
text_there files path text e = ap (λ t. unwrap_or t []) e ∙ text_is files path

pub text_missing : (files : List (List ℕ × List ℕ)) (path : List ℕ) → None ≡ file_at files path → [] ≡ text_in files path
text_missing files path e = ap (λ t. unwrap_or t []) e ∙ text_is files path

-- ---- maps under paths

-- a path passes the test of the same path alone
pub path_is : (path key : List ℕ) → is_at (slice_cmp nat_cmp path) key ≡ true → path ≡ key
path_is path key h = (bytes_eq-Decides path key).0 (sym (is_eq-slice_cmp path key) ∙ h)

pub path_passes : (path key : List ℕ) → path ≡ key → is_at (slice_cmp nat_cmp path) key ≡ true
path_passes path key e = is_eq-slice_cmp path key ∙ (bytes_eq-Decides path key).1 e

-- the other way round
path_back : (path key : List ℕ) → is_at (slice_cmp nat_cmp path) key ≡ is_at (slice_cmp nat_cmp key) path
path_back path key = is_eq-slice_cmp path key ∙ nat_list_eq_equiv.symm path key ∙ sym (is_eq-slice_cmp key path)

-- a map with one entry more, or another value for one
pub at_path-insert : {V : Type 0} (entries : List (List ℕ × V)) (path : List ℕ) (v : V) (q : List ℕ) → at_path (insert_entry (slice_cmp nat_cmp) entries path v) q ≡ cond (is_at (slice_cmp nat_cmp q) path) (Some v) (at_path entries q)
at_path-insert [] path v q = refl
at_path-insert {V} (e ∷ es) path v q = step (slice_cmp nat_cmp path e.0) refl (at_path-insert es path v q)
  where
    over : (a b : Bool) (x y more : Option V) → a ≡ b → cond a x more ≡ cond b x (cond a y more)
    over true true x y more e = refl
    over false false x y more e = refl
    over true false x y more e = absurd (cc)
    over false true x y more e = absurd (cc)

    swapped : (a b : Bool) (x y more : Option V) → (a ≡ true → b ≡ true → ⊥) → cond a x (cond b y more) ≡ cond b y (cond a x more)
    swapped true true x y more apart = absurd (apart refl refl)
    swapped true false x y more apart = refl
    swapped false b x y more apart = refl

    apart : slice_cmp nat_cmp path e.0 ≡ Greater → is_at (slice_cmp nat_cmp q) e.0 ≡ true → is_at (slice_cmp nat_cmp q) path ≡ true → ⊥
    apart greater at_key at_new =
        let same : path ≡ e.0 = sym (path_is q path at_new) ∙ path_is q e.0 at_key in
        let passes : is_eq (slice_cmp nat_cmp path e.0) ≡ true = path_passes path e.0 same in
        let fails : is_eq (slice_cmp nat_cmp path e.0) ≡ false = ap is_eq greater in
        absurd (cc)

    rest : List (List ℕ × V) → Type 0
    rest found = at_path found q ≡ cond (is_at (slice_cmp nat_cmp q) path) (Some v) (at_path es q)

    step : (o : Ordering) → slice_cmp nat_cmp path e.0 ≡ o → rest (insert_entry (slice_cmp nat_cmp) es path v)
        → at_path (match_ordering o ((path, v) ∷ e ∷ es) ((e.0, v) ∷ es) (e ∷ insert_entry (slice_cmp nat_cmp) es path v)) q ≡ cond (is_at (slice_cmp nat_cmp q) path) (Some v) (at_path (e ∷ es) q)
    step Less o r = refl
    step Equal o r =
        let same : path ≡ e.0 = path_is path e.0 (ap is_eq o) in
        over (is_at (slice_cmp nat_cmp q) e.0) (is_at (slice_cmp nat_cmp q) path) (Some v) (Some e.1) (at_path es q) (ap (λ (k : List ℕ). is_at (slice_cmp nat_cmp q) k) (sym same))
    step Greater o r =
        ap (cond (is_at (slice_cmp nat_cmp q) e.0) (Some e.1)) r
        ∙ swapped (is_at (slice_cmp nat_cmp q) e.0) (is_at (slice_cmp nat_cmp q) path) (Some e.1) (Some v) (at_path es q) (apart o)

-- the texts of files with one more, or with another text for one
text_in-with_file : (files : List (List ℕ × List ℕ)) (path text q : List ℕ) → text_in (with_file files path text) q ≡ cond (is_at (slice_cmp nat_cmp q) path) text (text_in files q)
text_in-with_file files path text q =
    sym (text_at (with_file files path text) q)
    ∙ ap (λ t. unwrap_or t []) (at_path-insert files path text q)
    ∙ pushed (is_at (slice_cmp nat_cmp q) path) (at_path files q)
    ∙ ap (cond (is_at (slice_cmp nat_cmp q) path) text) (text_at files q)
  where
    pushed : (b : Bool) (other : Option (List ℕ)) → unwrap_or (cond b (Some text) other) [] ≡ cond b text (unwrap_or other [])
    pushed true other = refl
    pushed false other = refl

-- ---- files that were read

some_same : {A : Type 0} (x y : A) → Some x ≡ Some y → x ≡ y
some_same x y e = cc

-- one more was read
pub read_more : (sources : List (List ℕ × Front)) (files : List (List ℕ × List ℕ)) (path : List ℕ) (file : Front) → AreRead sources files → IsRead (text_in files path) file → AreRead (insert_entry (slice_cmp nat_cmp) sources path file) files
read_more sources files path file read new q found e =
    chosen (is_at (slice_cmp nat_cmp q) path) refl (sym (at_path-insert sources path file q) ∙ e)
  where
    chosen : (b : Bool) → is_at (slice_cmp nat_cmp q) path ≡ b → cond b (Some file) (at_path sources q) ≡ Some found → IsRead (text_in files q) found
    chosen true at e =
        let same : q ≡ path = path_is q path at in
        subst (λ (p : List ℕ). IsRead (text_in files p) found) (sym same) (subst (IsRead (text_in files path)) (some_same file found e) new)
    chosen false at e = read q found e

-- those that were read without one
pub read_less : (old new : List (List ℕ × Front)) (files : List (List ℕ × List ℕ)) (path : List ℕ) → ((q : List ℕ) → at_path new q ≡ cond (is_at (slice_cmp nat_cmp path) q) None (at_path old q)) → AreRead old files → AreRead new files
read_less old new files path less read q found e = chosen (is_at (slice_cmp nat_cmp path) q) (sym (less q) ∙ e)
  where
    chosen : (b : Bool) → cond b None (at_path old q) ≡ Some found → IsRead (text_in files q) found
    chosen true e = absurd (cc)
    chosen false e = read q found e

-- they stay read where that one has another text
pub read_changed : (old new : List (List ℕ × Front)) (files : List (List ℕ × List ℕ)) (path text : List ℕ) → ((q : List ℕ) → at_path new q ≡ cond (is_at (slice_cmp nat_cmp path) q) None (at_path old q)) → AreRead old files → AreRead new (with_file files path text)
read_changed old new files path text less read q found e = chosen (is_at (slice_cmp nat_cmp path) q) refl (sym (less q) ∙ e)
  where
    chosen : (b : Bool) → is_at (slice_cmp nat_cmp path) q ≡ b → cond b None (at_path old q) ≡ Some found → IsRead (text_in (with_file files path text) q) found
    chosen true at e = absurd (cc)
    chosen false at e =
        let same : text_in (with_file files path text) q ≡ text_in files q = text_in-with_file files path text q ∙ ap (λ b. cond b text (text_in files q)) (path_back q path ∙ at) in
        subst (λ (t : List ℕ). IsRead t found) (sym same) (read q found e)

-- and where it has the same text
pub read_same : (sources : List (List ℕ × Front)) (files : List (List ℕ × List ℕ)) (path text : List ℕ) → bytes_eq (text_in files path) text ≡ true → AreRead sources files → AreRead sources (with_file files path text)
read_same sources files path text same read q found e =
    subst (λ (t : List ℕ). IsRead t found) (sym (text_in-with_file files path text q ∙ chosen (is_at (slice_cmp nat_cmp q) path) refl)) (read q found e)
  where
    chosen : (b : Bool) → is_at (slice_cmp nat_cmp q) path ≡ b → cond b text (text_in files q) ≡ text_in files q
    chosen true at = sym ((bytes_eq-Decides (text_in files path) text).0 same) ∙ ap (text_in files) (sym (path_is q path at))
    chosen false at = refl
