-- How deep the tokens of pieces lie: what it says of the pieces that none of the first tokens lies below
-- the 200th node.
use Rattle.std.proofs.Common.{◌≡◌, ℕ, ◌+◌, ◌<◌, ◌≤◌, Bool, true, false, ◌⊎◌, inl, inr, List, [], ◌∷◌, ◌++◌, length, take, refl, sym, ◌∙◌, ap, subst, arith, append_assoc, length-append, take_all}
use Rattle.std.specs.Prelude.{zero, suc, max, if◌then◌else◌, ◌&&◌, not}
use Rattle.zig_tree.specs.declared.token.TokenKind.{TokenKind}
use Rattle.zig_tree.specs.declared.grammar.Rule.{Rule}
use Rattle.zig_tree.specs.declared.grammar.Part.{Part}
use Rattle.zig_tree.specs.GrammarSentences.{Pieces, nothing, word, node, followed, makes_no_node_alone, is_one_node, made, height, token_depths, AreShallow, Derives, derives_none, derives_token, derives_one_of, derives_group, derives_rule}
use Rattle.zig_tree.specs.Grammar.{rule_rows}
use Rattle.zig_parse.proofs.Derived.{open_is_row, row_tested}
use Rattle.zig_parse.proofs.Shapes.{count, row_fills}
use Rattle.zig_parse.proofs.Tables.{rule_filled}
use Rattle.zig_parse.proofs.Balance.{reads_some}
use Rattle.zig_tree.specs.declared.tree.TheConstants.{DEPTH_LIMIT}

-- ---- tokens of pieces

-- how many tokens pieces hold
abbrev pub words : Pieces → ℕ
words nothing = 0
words (word k more) = words more + 1
words (node r inside more) = words inside + words more

pub words_followed : (p q : Pieces) → words (followed p q) ≡ words p + words q
words_followed nothing q = omega arith
words_followed (word k more) q = omega (arith, words_followed more q)
words_followed (node r inside more) q = omega (arith, words_followed more q)

words_if : (b : Bool) (r : Rule) (p : Pieces) → words (if b then p else node r p nothing) ≡ words p
words_if true r p = refl
words_if false r p = omega arith

pub words_made : (r : Rule) (p : Pieces) → words (made r p) ≡ words p
words_made r p = words_if (makes_no_node_alone r && is_one_node p) r p

pub words_read : (ps : List Part) (tokens next : List TokenKind) (p : Pieces) → Derives ps tokens next p → length tokens ≡ words p + length next
words_read ps tokens next p (derives_none _) = omega arith
words_read ps tokens next p (derives_token k more after _ later d) = omega (arith, words_read more after next later d)
words_read ps tokens next p (derives_one_of c k more after _ later e d) = omega (arith, words_read more after next later d)
words_read ps tokens next p (derives_group g a more _ mid _ inside later m d e) = omega (arith, words_read a.parts tokens mid inside d, words_read more mid next later e, words_followed inside later)
words_read ps tokens next p (derives_rule r a more _ mid _ inside later m d e) =
    omega (arith, words_read a.parts tokens mid inside d, words_read more mid next later e, words_followed (made r inside) later, words_made r inside)

-- each node holds a token
abbrev pub IsFull : Pieces → Type 0
IsFull nothing = Unit {0}
IsFull (word k more) = IsFull more
IsFull (node r inside more) = (0 < words inside) × IsFull inside × IsFull more

full_followed : (p q : Pieces) → IsFull p → IsFull q → IsFull (followed p q)
full_followed nothing q f g = g
full_followed (word k more) q f g = full_followed more q f g
full_followed (node r inside more) q f g = (f.0, f.1, full_followed more q f.2 g)

full_if : (b : Bool) (r : Rule) (p : Pieces) → 0 < words p → IsFull p → IsFull (if b then p else node r p nothing)
full_if true r p l f = f
full_if false r p l f = (l, f, tt)

pub full_made : (r : Rule) (p : Pieces) → 0 < words p → IsFull p → IsFull (made r p)
full_made r p l f = full_if (makes_no_node_alone r && is_one_node p) r p l f

pub derived_full : (ps : List Part) (tokens next : List TokenKind) (p : Pieces) → Derives ps tokens next p → IsFull p
derived_full ps tokens next p (derives_none _) = tt
derived_full ps tokens next p (derives_token k more after _ later d) = derived_full more after next later d
derived_full ps tokens next p (derives_one_of c k more after _ later e d) = derived_full more after next later d
derived_full ps tokens next p (derives_group g a more _ mid _ inside later m d e) = full_followed inside later (derived_full a.parts tokens mid inside d) (derived_full more mid next later e)
derived_full ps tokens next p (derives_rule r a more _ mid _ inside later m d e) =
    let some = reads_some a.parts tokens mid inside d (row_tested row_fills a (rule_rows r) (rule_filled r) (open_is_row tokens a (rule_rows r) m)) in
    full_followed (made r inside) later (full_made r inside (omega (arith, words_read a.parts tokens mid inside d)) (derived_full a.parts tokens mid inside d)) (derived_full more mid next later e)

-- ---- their depths

pub depths_length : (depth : ℕ) (p : Pieces) → length (token_depths depth p) ≡ words p
depths_length depth nothing = refl
depths_length depth (word k more) = omega (arith, depths_length depth more)
depths_length depth (node r inside more) =
    omega (arith, depths_length (depth + 1) inside, depths_length depth more, length-append (token_depths (depth + 1) inside) (token_depths depth more))

pub depths_followed : (depth : ℕ) (p q : Pieces) → token_depths depth (followed p q) ≡ token_depths depth p ++ token_depths depth q
depths_followed depth nothing q = refl
depths_followed depth (word k more) q = ap (λ (l : List ℕ). depth ∷ l) (depths_followed depth more q)
depths_followed depth (node r inside more) q =
    ap (λ (l : List ℕ). token_depths (depth + 1) inside ++ l) (depths_followed depth more q) ∙ sym (append_assoc (token_depths (depth + 1) inside) (token_depths depth more) (token_depths depth q))

shallow_left : (n : ℕ) (xs ys : List ℕ) → AreShallow (take n (xs ++ ys)) → AreShallow (take n xs)
shallow_left zero [] ys h = tt
shallow_left zero (x ∷ xs) ys h = tt
shallow_left (suc n) [] ys h = tt
shallow_left (suc n) (x ∷ xs) ys h = (h.0, shallow_left n xs ys h.1)

shallow_after : (xs ys : List ℕ) (n m : ℕ) → m ≡ length xs + n → AreShallow (take m (xs ++ ys)) → AreShallow (take n ys)
shallow_after [] ys n m e h = subst (λ (k : ℕ). AreShallow (take k ys)) (let s : m ≡ n = omega arith in s) h
shallow_after (x ∷ xs) ys n zero e h = absurd (omega arith)
shallow_after (x ∷ xs) ys n (suc m) e h = shallow_after xs ys n m (omega arith) h.1

pub shallow_fewer : (n m : ℕ) (xs : List ℕ) → n ≤ m → AreShallow (take m xs) → AreShallow (take n xs)
shallow_fewer zero m [] l h = tt
shallow_fewer zero m (x ∷ xs) l h = tt
shallow_fewer (suc n) zero xs l h = absurd (omega arith)
shallow_fewer (suc n) (suc m) [] l h = tt
shallow_fewer (suc n) (suc m) (x ∷ xs) l h = (h.0, shallow_fewer n m xs (omega arith) h.1)

-- the tokens of pieces in a node at this depth lie as a condition on how many tokens are read says: where
-- it holds at a number, those before that number lie no deeper than 200
abbrev pub Lies : (ℕ → Type 0) → ℕ → ℕ → Pieces → Type 0
Lies low at depth p = (n m : ℕ) → m ≡ at + n → low m → AreShallow (take n (token_depths depth p))

pub lies_left : (low : ℕ → Type 0) (at depth : ℕ) (p q : Pieces) → Lies low at depth (followed p q) → Lies low at depth p
lies_left low at depth p q h = λ n m e l. shallow_left n (token_depths depth p) (token_depths depth q) (subst (λ (xs : List ℕ). AreShallow (take n xs)) (depths_followed depth p q) (h n m e l))

pub lies_right : (low : ℕ → Type 0) (at depth : ℕ) (p q : Pieces) → Lies low at depth (followed p q) → Lies low (at + words p) depth q
lies_right low at depth p q h = λ n m e l.
    shallow_after (token_depths depth p) (token_depths depth q) n (words p + n) (omega (arith, depths_length depth p))
    (subst (λ (xs : List ℕ). AreShallow (take (words p + n) xs)) (depths_followed depth p q) (h (words p + n) m (omega arith) l))

lies_if : (low : ℕ → Type 0) (at depth : ℕ) (b : Bool) (r : Rule) (p : Pieces) → Lies low at depth (if b then p else node r p nothing) → Lies low at (depth + count (not b)) p
lies_if low at depth true r p h = λ n m e l. subst (λ (d : ℕ). AreShallow (take n (token_depths d p))) (let s : depth ≡ depth + 0 = omega arith in s) (h n m e l)
lies_if low at depth false r p h = λ n m e l. shallow_left n (token_depths (depth + 1) p) [] (h n m e l)

pub lies_made : (low : ℕ → Type 0) (at depth : ℕ) (r : Rule) (p : Pieces) → Lies low at depth (made r p) → Lies low at (depth + count (not (makes_no_node_alone r && is_one_node p))) p
lies_made low at depth r p h = lies_if low at depth (makes_no_node_alone r && is_one_node p) r p h

-- ---- what it says of them

-- no node lies too deep, or there is none
abbrev pub IsLow : ℕ → ℕ → ℕ → Type 0
IsLow depth count_words tall = ((count_words ≡ 0) × (tall ≡ 0)) ⊎ (depth + tall ≤ DEPTH_LIMIT)

first_of_node : (depth some : ℕ) (xs ys : List ℕ) → length xs ≡ some → (0 < some → AreShallow (take 1 xs) → depth + 1 ≤ DEPTH_LIMIT) → (some ≡ 0 → AreShallow (take 1 ys) → depth ≤ DEPTH_LIMIT) → AreShallow (take 1 (xs ++ ys)) → depth ≤ DEPTH_LIMIT
first_of_node depth zero xs ys e f g h = g refl (shallow_after xs ys 1 1 (omega arith) h)
first_of_node depth (suc n) xs ys e f g h = let deeper = f (omega arith) (shallow_left 1 xs ys h) in omega arith

first_low : (depth : ℕ) (p : Pieces) → 0 < words p → AreShallow (take 1 (token_depths depth p)) → depth ≤ DEPTH_LIMIT
first_low depth nothing l h = absurd (omega arith)
first_low depth (word k more) l h = h.0
first_low depth (node r inside more) l h =
    first_of_node depth (words inside) (token_depths (depth + 1) inside) (token_depths depth more) (depths_length (depth + 1) inside) (λ s. first_low (depth + 1) inside s) (λ e. first_low depth more (omega arith)) h

shallow_split : (xs ys : List ℕ) → AreShallow (xs ++ ys) → AreShallow xs × AreShallow ys
shallow_split [] ys h = (tt, h)
shallow_split (x ∷ xs) ys h = let s = shallow_split xs ys h.1 in ((h.0, s.0), s.1)

low_node : (depth some more tall other : ℕ) → 0 < some → IsLow (depth + 1) some tall → IsLow depth more other → depth + max (tall + 1) other ≤ DEPTH_LIMIT
low_node depth some more tall other l (inl none) k = absurd (omega (arith, none.0))
low_node depth some more tall other l (inr h) (inl none) = omega (arith, none.1)
low_node depth some more tall other l (inr h) (inr k) = omega arith

all_low : (depth : ℕ) (p : Pieces) → IsFull p → AreShallow (token_depths depth p) → IsLow depth (words p) (height p)
all_low depth nothing f h = inl (refl, refl)
all_low depth (word k more) f h = inr (elim (all_low depth more f h.1) [ inl none ↦ omega (arith, none.1, h.0) | inr l ↦ l ])
all_low depth (node r inside more) f h =
    let parts = shallow_split (token_depths (depth + 1) inside) (token_depths depth more) h in
    inr (low_node depth (words inside) (words more) (height inside) (height more) f.0 (all_low (depth + 1) inside f.1 parts.0) (all_low depth more f.2 parts.1))

-- the node that the next token lies in
pub next_low : (low : ℕ → Type 0) (at depth : ℕ) (p : Pieces) → 0 < words p → Lies low at depth p → low (at + 1) → depth ≤ DEPTH_LIMIT
next_low low at depth p s h l = first_low depth p s (h 1 (at + 1) refl l)

-- and those that are read
pub read_low : (low : ℕ → Type 0) (at depth : ℕ) (p : Pieces) → IsFull p → Lies low at depth p → low (at + words p) → IsLow depth (words p) (height p)
read_low low at depth p f h l =
    all_low depth p f (subst AreShallow (take_all (words p) (token_depths depth p) (omega (arith, depths_length depth p))) (h (words p) (at + words p) refl l))

pub low_joined : (depth a b tall other : ℕ) → IsLow depth a tall → IsLow depth b other → IsLow depth (a + b) (max tall other)
low_joined depth a b tall other (inl h) (inl k) = inl (omega (arith, h.0, k.0), omega (arith, h.1, k.1))
low_joined depth a b tall other (inl h) (inr k) = inr (omega (arith, h.1))
low_joined depth a b tall other (inr h) (inl k) = inr (omega (arith, k.1))
low_joined depth a b tall other (inr h) (inr k) = inr (omega arith)

-- ---- trees that are low

shallow_both : (xs ys : List ℕ) → AreShallow xs → AreShallow ys → AreShallow (xs ++ ys)
shallow_both [] ys h k = k
shallow_both (x ∷ xs) ys h k = (h.0, shallow_both xs ys h.1 k)

pub shallow_tree : (depth : ℕ) (p : Pieces) → depth + height p ≤ DEPTH_LIMIT → AreShallow (token_depths depth p)
shallow_tree depth nothing h = tt
shallow_tree depth (word k more) h = (omega arith, shallow_tree depth more h)
shallow_tree depth (node r inside more) h = shallow_both (token_depths (depth + 1) inside) (token_depths depth more) (shallow_tree (depth + 1) inside (omega arith)) (shallow_tree depth more (omega arith))

pub shallow_some : (n : ℕ) (xs : List ℕ) → AreShallow xs → AreShallow (take n xs)
shallow_some zero [] h = tt
shallow_some zero (x ∷ xs) h = tt
shallow_some (suc n) [] h = tt
shallow_some (suc n) (x ∷ xs) h = (h.0, shallow_some n xs h.1)
