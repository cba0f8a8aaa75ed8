-- The row of a node is that of what it holds.
use Rattle.std.proofs.Common.{◌≡◌, ℕ, zero, suc, ◌+◌, ◌<◌, ◌≤◌, Bool, true, false, ◌&&◌, List, [], ◌∷◌, ◌++◌, length, get_or, refl, sym, ◌∙◌, ap, subst, arith, nat_lt, add-zero, zero-add, Some, None, length-append}
use Rattle.std.specs.Prelude.{slice_get}
use Rattle.std.proofs.lemmas.Bool.Decides.{nat_tests}
use Rattle.std.proofs.lemmas.List.{get_or_append_left}
use Rattle.std.proofs.lemmas.Option.{slice_get_past, slice_get_read}
use Rattle.std.proofs.Math.Seq.{get_or-append_seam}
use Rattle.zig_tree.specs.declared.token.Token.{Token}
use Rattle.zig_tree.specs.declared.tree.Kid.{Kid}
use Rattle.zig_tree.specs.declared.tree.Kid.TheVariants as kid
use Rattle.zig_tree.specs.declared.tree.Node.{Node}
use Rattle.zig_tree.specs.Nodes.{is_earlier, are_earlier, all_earlier, AreEarlier}
use Rattle.zir_scope.specs.Syntax.{Syntax, nothing, word, node, kind_at, rule_at, row_at, row, rows_after, rows_of}

and_first : (a b : Bool) → a && b ≡ true → a ≡ true
and_first true b h = refl
and_first false b h = h

and_second : (a b : Bool) → a && b ≡ true → b ≡ true
and_second true b h = h
and_second false b h = cc

length_done : (done : List Syntax) (r : Syntax) → length (done ++ r ∷ []) ≡ length done + 1
length_done done r = length-append done (r ∷ [])

-- rows that are done stay
kept : (ts : List Token) (all : List Node) (done : List Syntax) (ns : List Node) (j : ℕ) → j < length done → row_at (rows_after ts all done ns) j ≡ row_at done j
kept ts all done [] j h = refl
kept ts all done (n ∷ ns) j h =
    let r : Syntax = row ts all done n.kids in
    let l : length (done ++ r ∷ []) ≡ length done + 1 = length_done done r in
    kept ts all (done ++ r ∷ []) ns j (omega (arith, l, h)) ∙ get_or_append_left done (r ∷ []) nothing j h

-- a row depends on the rows of earlier nodes alone
same_row : (ts : List Token) (all : List Node) (before after : List Syntax) (k : ℕ) (kids : List Kid) → are_earlier k kids ≡ true
    → ((j : ℕ) → j < k → row_at before j ≡ row_at after j) → row ts all before kids ≡ row ts all after kids
same_row ts all before after k [] h same = refl
same_row ts all before after k (kid.Token t ∷ more) h same =
    ap (λ (s : Syntax). word t (kind_at ts t) s) (same_row ts all before after k more (and_second true (are_earlier k more) h) same)
same_row ts all before after k (kid.Node n ∷ more) h same =
    let here : nat_lt n k ≡ true = and_first (nat_lt n k) (are_earlier k more) h in
    let below : n < k = grind (arith, nat_tests) in
    let rest : row ts all before more ≡ row ts all after more = same_row ts all before after k more (and_second (nat_lt n k) (are_earlier k more) h) same in
    let one : row_at before n ≡ row_at after n = same n below in
    ap (λ (s : Syntax). node (rule_at all n) s (row ts all before more)) one ∙ ap (λ (s : Syntax). node (rule_at all n) (row_at after n) s) rest

some_same : {T : Type 0} (a b : T) → Some a ≡ Some b → a ≡ b
some_same a b e = cc

at_number : (ts : List Token) (all : List Node) (done : List Syntax) (ns : List Node) (i : ℕ) (n : Node) → all_earlier (length done) ns ≡ true
    → slice_get ns i ≡ Some n → row_at (rows_after ts all done ns) (length done + i) ≡ row ts all (rows_after ts all done ns) n.kids
at_number ts all done [] i n h e = absurd (cc)
at_number ts all done (m ∷ ns) zero n h e =
    let r : Syntax = row ts all done m.kids in
    let full : List Syntax = rows_after ts all (done ++ r ∷ []) ns in
    let l : length (done ++ r ∷ []) ≡ length done + 1 = length_done done r in
    let is : m ≡ n = some_same m n e in
    let stays : row_at full (length done) ≡ row_at (done ++ r ∷ []) (length done) = kept ts all (done ++ r ∷ []) ns (length done) (omega (arith, l)) in
    let last : row_at (done ++ r ∷ []) (length done) ≡ r = get_or-append_seam done r [] nothing in
    let early : are_earlier (length done) m.kids ≡ true = and_first (are_earlier (length done) m.kids) (all_earlier (length done + 1) ns) h in
    let same : (j : ℕ) → j < length done → row_at done j ≡ row_at full j =
    λ j b. sym (kept ts all (done ++ r ∷ []) ns j (omega (arith, l, b)) ∙ get_or_append_left done (r ∷ []) nothing j b) in
    rw add-zero (stays ∙ last ∙ same_row ts all done full (length done) m.kids early same ∙ ap (λ (x : Node). row ts all full x.kids) is)
at_number ts all done (m ∷ ns) (suc i) n h e =
    let r : Syntax = row ts all done m.kids in
    let l : length (done ++ r ∷ []) ≡ length done + 1 = length_done done r in
    let index : length (done ++ r ∷ []) + i ≡ length done + suc i = omega (arith, l) in
    let early : all_earlier (length (done ++ r ∷ [])) ns ≡ true =
    subst (λ (k : ℕ). all_earlier k ns ≡ true) (sym l) (and_second (are_earlier (length done) m.kids) (all_earlier (length done + 1) ns) h) in
    let found : row_at (rows_after ts all (done ++ r ∷ []) ns) (length (done ++ r ∷ []) + i) ≡ row ts all (rows_after ts all (done ++ r ∷ []) ns) n.kids =
    at_number ts all (done ++ r ∷ []) ns i n early e in
    subst (λ (k : ℕ). row_at (rows_after ts all (done ++ r ∷ []) ns) k ≡ row ts all (rows_after ts all (done ++ r ∷ []) ns) n.kids) index found

-- the row with a node's number is that of what the node holds
pub node_row : (ts : List Token) (ns : List Node) (i : ℕ) (n : Node) → AreEarlier ns → slice_get ns i ≡ Some n → row ts ns (rows_of ts ns) n.kids ≡ row_at (rows_of ts ns) i
unfolding rows_of
node_row ts ns i n h e = sym (let same : 0 + i ≡ i = zero-add i in subst (λ (k : ℕ). row_at (rows_after ts ns [] ns) k ≡ row ts ns (rows_after ts ns [] ns) n.kids) same (at_number ts ns [] ns i n h e))

rows_length : (ts : List Token) (all : List Node) (done : List Syntax) (ns : List Node) → length (rows_after ts all done ns) ≡ length done + length ns
rows_length ts all done [] = sym (add-zero (length done))
rows_length ts all done (n ∷ ns) =
    let r : Syntax = row ts all done n.kids in
    let l : length (done ++ r ∷ []) ≡ length done + 1 = length_done done r in
    let later : length (rows_after ts all (done ++ r ∷ []) ns) ≡ length (done ++ r ∷ []) + length ns = rows_length ts all (done ++ r ∷ []) ns in
    later ∙ omega (arith, l)

get_past : {T : Type 0} (xs : List T) (i : ℕ) (d : T) → slice_get xs i ≡ None → get_or xs i d ≡ d
get_past [] i d e = refl
get_past (x ∷ xs) zero d e = absurd (cc)
get_past (x ∷ xs) (suc i) d e = get_past xs i d e

none_past : {T : Type 0} (xs : List T) (i : ℕ) → slice_get xs i ≡ None → length xs ≤ i
none_past [] i e = omega arith
none_past (x ∷ xs) zero e = absurd (cc)
none_past (x ∷ xs) (suc i) e = let later : length xs ≤ i = none_past xs i e in omega (arith, later)

-- no node has a number beyond the last, and no row
pub no_row : (ts : List Token) (ns : List Node) (i : ℕ) → slice_get ns i ≡ None → nothing ≡ row_at (rows_of ts ns) i
unfolding rows_of
no_row ts ns i e =
    let l : length (rows_after ts ns [] ns) ≡ 0 + length ns = rows_length ts ns [] ns in
    let past : length ns ≤ i = none_past ns i e in
    sym (get_past (rows_after ts ns [] ns) i nothing (slice_get_past (rows_after ts ns [] ns) i (omega (arith, l, past))))

-- what a node holds lies before it
kids_at : (first : ℕ) (ns : List Node) (i : ℕ) (n : Node) → all_earlier first ns ≡ true → slice_get ns i ≡ Some n → are_earlier (first + i) n.kids ≡ true
kids_at first [] i n h e = absurd (cc)
kids_at first (m ∷ ns) zero n h e = let is : m ≡ n = some_same m n e in rw add-zero (subst (λ (x : Node). are_earlier first x.kids ≡ true) is (and_first (are_earlier first m.kids) (all_earlier (first + 1) ns) h))
kids_at first (m ∷ ns) (suc i) n h e =
    let same : first + 1 + i ≡ first + suc i = omega arith in
    subst (λ (k : ℕ). are_earlier k n.kids ≡ true) same (kids_at (first + 1) ns i n (and_second (are_earlier first m.kids) (all_earlier (first + 1) ns) h) e)

pub node_kids : (ns : List Node) (i : ℕ) (n : Node) → AreEarlier ns → slice_get ns i ≡ Some n → are_earlier i n.kids ≡ true
node_kids ns i n h e = let same : 0 + i ≡ i = zero-add i in subst (λ (k : ℕ). are_earlier k n.kids ≡ true) same (kids_at 0 ns i n h e)

-- the same, as a slice's `get` tells it
there : (ns : List Node) (i : ℕ) (n : Node) → true ≡ nat_lt i (length ns) → n ≡ get_or ns i n → slice_get ns i ≡ Some n
there ns i n within e = let below : i < length ns = grind (arith, nat_tests, within) in slice_get_read ns (length ns) i n refl below e

pub found_row : (ts : List Token) (ns : List Node) (i : ℕ) (n : Node) (kids : List Kid) → AreEarlier ns → true ≡ nat_lt i (length ns) → n ≡ get_or ns i n → kids ≡ n.kids
    → row ts ns (rows_of ts ns) kids ≡ row_at (rows_of ts ns) i
found_row ts ns i n kids h within e k = ap (λ (ks : List Kid). row ts ns (rows_of ts ns) ks) k ∙ node_row ts ns i n h (there ns i n within e)

pub found_kids : (ns : List Node) (i : ℕ) (n : Node) (kids : List Kid) → AreEarlier ns → true ≡ nat_lt i (length ns) → n ≡ get_or ns i n → kids ≡ n.kids → are_earlier i kids ≡ true
found_kids ns i n kids h within e k = ap (λ (ks : List Kid). are_earlier i ks) k ∙ node_kids ns i n h (there ns i n within e)

pub missing_row : (ts : List Token) (ns : List Node) (i : ℕ) → length ns ≤ i → nothing ≡ row_at (rows_of ts ns) i
missing_row ts ns i past = no_row ts ns i (slice_get_past ns i past)

-- what a row holds before a number, step by step
pub earlier_node : (before n : ℕ) (more : List Kid) → are_earlier before (kid.Node n ∷ more) ≡ true → n < before
earlier_node before n more h = let here : nat_lt n before ≡ true = and_first (nat_lt n before) (are_earlier before more) h in grind (arith, nat_tests)

pub earlier_rest : (before : ℕ) (k : Kid) (more : List Kid) → are_earlier before (k ∷ more) ≡ true → are_earlier before more ≡ true
earlier_rest before k more h = and_second (is_earlier before k) (are_earlier before more) h

pub ruleset earlier_steps = (earlier_node, earlier_rest)
