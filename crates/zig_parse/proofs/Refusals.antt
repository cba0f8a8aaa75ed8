-- A list of tokens has at most one answer: a tree, or one refused token.
use Rattle.std.proofs.Common.{◌≡◌, ℕ, zero, suc, ◌+◌, ◌<◌, ◌≤◌, inl, inr, List, [], ◌∷◌, ◌++◌, length, take, drop, refl, sym, ap, subst, arith, append_assoc, length-append}
use Rattle.std.proofs.lemmas.Bool.{cases_order}
use Rattle.zig_tree.specs.declared.token.TokenKind.{TokenKind}
use Rattle.zig_tree.specs.GrammarSentences.{Pieces, nothing, word, node, Sentence, Accepted, AreShallow, Begins, BeginsShallow, IsRefused, IsUnexpected, IsTooDeep, height, token_depths}
use Rattle.zig_tree.specs.declared.tree.TheConstants.{DEPTH_LIMIT}

-- ---- depths

shallow_joined : (xs ys : List ℕ) → AreShallow xs → AreShallow ys → AreShallow (xs ++ ys)
shallow_joined [] ys h k = k
shallow_joined (x ∷ xs) ys h k = (h.0, shallow_joined xs ys h.1 k)

shallow_front : (n m : ℕ) (xs : List ℕ) → n ≤ m → AreShallow (take m xs) → AreShallow (take n xs)
shallow_front zero m xs l h = tt
shallow_front (suc n) zero xs l h = absurd (omega arith)
shallow_front (suc n) (suc m) [] l h = tt
shallow_front (suc n) (suc m) (x ∷ xs) l h = (h.0, shallow_front n m xs (omega arith) h.1)

shallow_taken : (n : ℕ) (xs : List ℕ) → AreShallow xs → AreShallow (take n xs)
shallow_taken zero xs h = tt
shallow_taken (suc n) [] h = tt
shallow_taken (suc n) (x ∷ xs) h = (h.0, shallow_taken n xs h.1)

-- no token of a tree lies deeper than the tree is high
depths_low : (depth : ℕ) (p : Pieces) → depth + height p ≤ DEPTH_LIMIT → AreShallow (token_depths depth p)
depths_low depth nothing h = tt
depths_low depth (word k more) h = (omega arith, depths_low depth more h)
depths_low depth (node r inside more) h =
    shallow_joined (token_depths (depth + 1) inside) (token_depths depth more) (depths_low (depth + 1) inside (omega arith)) (depths_low depth more (omega arith))

-- ---- fronts of a list

cut_front : (n : ℕ) (xs : List TokenKind) → take n xs ++ drop n xs ≡ xs
cut_front zero xs = refl
cut_front (suc n) [] = refl
cut_front (suc n) (x ∷ xs) = ap (λ (l : List TokenKind). x ∷ l) (cut_front n xs)

shorter_front : (n m : ℕ) (xs : List TokenKind) → n ≤ m → (x : List TokenKind) × (take m xs ≡ take n xs ++ x)
shorter_front zero m xs l = (take m xs, refl)
shorter_front (suc n) zero xs l = absurd (omega arith)
shorter_front (suc n) (suc m) [] l = ([], refl)
shorter_front (suc n) (suc m) (x ∷ xs) l = let s = shorter_front n m xs (omega arith) in (s.0, ap (λ (l : List TokenKind). x ∷ l) s.1)

pub front_begins : (front more : List TokenKind) → BeginsShallow (front ++ more) → BeginsShallow front
unfolding BeginsShallow
front_begins front more b = (
  more ++ b.0,
  b.1,
  subst (λ (l : List TokenKind). Sentence l b.1) (append_assoc front more b.0) b.2,
  shallow_front (length front) (length (front ++ more)) (token_depths 0 b.1) (omega (arith, length-append front more)) b.3,
)

fewer_begin : (n m : ℕ) (tokens : List TokenKind) → n ≤ m → BeginsShallow (take m tokens) → BeginsShallow (take n tokens)
fewer_begin n m tokens l b = let s = shorter_front n m tokens l in front_begins (take n tokens) s.0 (subst BeginsShallow s.1 b)

accepted_begins : (tokens : List TokenKind) (tree : Pieces) (n : ℕ) → Accepted tokens tree → BeginsShallow (take n tokens)
unfolding Accepted BeginsShallow
accepted_begins tokens tree n a = (
  drop n tokens,
  tree,
  subst (λ (l : List TokenKind). Sentence l tree) (sym (cut_front n tokens)) a.0,
  shallow_taken (length (take n tokens)) (token_depths 0 tree) (depths_low 0 tree (omega (arith, a.1))),
)

-- ---- one answer

-- what is accepted is refused at no token
pub never_both : (tokens : List TokenKind) (tree : Pieces) (at : ℕ) → Accepted tokens tree → IsRefused tokens at → ⊥
unfolding IsRefused
never_both tokens tree at a r = r.2 (accepted_begins tokens tree (at + 1) a)

earlier_refused : (tokens : List TokenKind) (at later : ℕ) → at < later → IsRefused tokens at → IsRefused tokens later → ⊥
unfolding IsRefused
earlier_refused tokens at later l r s = r.2 (fewer_begin (at + 1) later tokens (omega arith) s.1)

-- and what is refused is so at one token
pub one_refusal : (tokens : List TokenKind) (a b : ℕ) → IsRefused tokens a → IsRefused tokens b → a ≡ b
one_refusal tokens a b r s =
    elim (cases_order a b) [
      | inl e ↦ e
      | inr (inl l) ↦ absurd (earlier_refused tokens a b l r s)
      | inr (inr l) ↦ absurd (earlier_refused tokens b a l s r)
    ]

-- for one reason
pub one_reason : (tokens : List TokenKind) (a b : ℕ) → IsUnexpected tokens a → IsTooDeep tokens b → ⊥
unfolding IsUnexpected IsTooDeep
one_reason tokens a b u d = u.1 (subst (λ (n : ℕ). Begins (take (n + 1) tokens)) (sym (one_refusal tokens a b u.0 d.0)) d.1)
