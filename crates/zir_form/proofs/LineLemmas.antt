-- Trees of lines, as lines are put behind others.
use Rattle.std.proofs.Common.{◌≡◌, ℕ, zero, suc, ◌+◌, ◌≤◌, List, [], ◌∷◌, ◌++◌, length, take, refl, sym, ◌∙◌, ap, subst, arith, add-zero, zero-add, Some, None, Option, length-append, append_assoc}
use Rattle.std.specs.Prelude.{slice_get}
use Rattle.std.proofs.lemmas.List.{append-nil}
use Rattle.std.proofs.Math.Seq.{get_or-append_seam, take-append_seam}
use Rattle.zir_form.specs.declared.form.Form.{Form}
use Rattle.zir_form.specs.Core.{Core}
use Rattle.zir_form.specs.Core as core
use Rattle.zir_form.specs.Lines.{over_cores, tree_at, trees_after, trees_of, core_at, form_tree}

-- one line more
after_put : (trees : List Core) (lines : List Form) (f : Form)
    → trees_after trees (lines ++ f ∷ []) ≡ trees_after trees lines ++ over_cores (tree_at (trees_after trees lines)) f ∷ []
after_put trees [] f = refl
after_put trees (g ∷ more) f = after_put (trees ++ over_cores (tree_at trees) g ∷ []) more f

pub put_line : (lines : List Form) (f : Form) → trees_of (lines ++ f ∷ []) ≡ trees_of lines ++ over_cores (tree_at (trees_of lines)) f ∷ []
unfolding trees_of
put_line lines f = after_put [] lines f

length_one : (trees : List Core) (c : Core) → length (trees ++ c ∷ []) ≡ length trees + 1
length_one trees c = length-append trees (c ∷ [])

after_length : (trees : List Core) (lines : List Form) → length (trees_after trees lines) ≡ length trees + length lines
after_length trees [] = sym (add-zero (length trees))
after_length trees (f ∷ more) =
    let c : Core = over_cores (tree_at trees) f in
    let one : length (trees ++ c ∷ []) ≡ length trees + 1 = length_one trees c in
    let later : length (trees_after (trees ++ c ∷ []) more) ≡ length (trees ++ c ∷ []) + length more = after_length (trees ++ c ∷ []) more in
    later ∙ omega (arith, one)

pub lines_length : (lines : List Form) → length (trees_of lines) ≡ length lines
unfolding trees_of
lines_length lines = after_length [] lines ∙ zero-add (length lines)

-- the trees before stay
pub record Begins (front all : List Core) : Type 0 where
  pub later : List Core
  pub is : all ≡ front ++ later

after_front : (trees : List Core) (lines : List Form) → Begins trees (trees_after trees lines)
after_front trees [] = record { later = []; is = sym (append-nil trees) }
after_front trees (f ∷ more) =
    let c : Core = over_cores (tree_at trees) f in
    let b = after_front (trees ++ c ∷ []) more in
    record { later = c ∷ b.later; is = b.is ∙ append_assoc trees (c ∷ []) b.later }

some_same : (a b : Form) → Some a ≡ Some b → a ≡ b
some_same a b h = cc

-- the tree of a line is its form over the trees before it
at_line : (trees : List Core) (lines : List Form) (i : ℕ) (f : Form) → slice_get lines i ≡ Some f
    → tree_at (trees_after trees lines) (length trees + i) ≡ over_cores (tree_at (take (length trees + i) (trees_after trees lines))) f
at_line trees [] i f e = absurd (cc)
at_line trees (g ∷ more) zero f e =
    let c : Core = over_cores (tree_at trees) g in
    let all : List Core = trees_after (trees ++ c ∷ []) more in
    let b = after_front (trees ++ c ∷ []) more in
    let split : all ≡ trees ++ (c ∷ b.later) = b.is ∙ append_assoc trees (c ∷ []) b.later in
    let here : tree_at all (length trees) ≡ c = ap (λ (l : List Core). tree_at l (length trees)) split ∙ get_or-append_seam trees c b.later core.missing in
    let front : take (length trees) all ≡ trees = ap (take (length trees)) split ∙ take-append_seam trees (c ∷ b.later) in
    let same : g ≡ f = some_same g f e in
    rw add-zero (here ∙ ap (λ (x : Form). over_cores (tree_at trees) x) same ∙ ap (λ (l : List Core). over_cores (tree_at l) f) (sym front))
at_line trees (g ∷ more) (suc i) f e =
    let c : Core = over_cores (tree_at trees) g in
    let all : List Core = trees_after (trees ++ c ∷ []) more in
    let one : length (trees ++ c ∷ []) ≡ length trees + 1 = length_one trees c in
    let index : length (trees ++ c ∷ []) + i ≡ length trees + suc i = omega (arith, one) in
    subst (λ (k : ℕ). tree_at all k ≡ over_cores (tree_at (take k all)) f) index (at_line (trees ++ c ∷ []) more i f e)

past_all : (trees : List Core) (n : ℕ) → length trees ≤ n → tree_at trees n ≡ core.missing
past_all [] n h = refl
past_all (c ∷ cs) zero h = absurd (omega arith)
past_all (c ∷ cs) (suc n) h = past_all cs n (omega arith)

none_past : (lines : List Form) (n : ℕ) → slice_get lines n ≡ None → length lines ≤ n
none_past [] n e = omega arith
none_past (f ∷ fs) zero e = absurd (cc)
none_past (f ∷ fs) (suc n) e = let later : length fs ≤ n = none_past fs n e in omega (arith, later)

-- by what a slice's `get` answers
pub line_tree : (lines : List Form) (n : ℕ) (r : Option Form) → slice_get lines n ≡ r
    → core_at lines n ≡ form_tree (tree_at (take n (trees_of lines))) r
unfolding trees_of core_at
line_tree lines n None e =
    let l : length (trees_after [] lines) ≡ 0 + length lines = after_length [] lines in
    let p : length lines ≤ n = none_past lines n e in
    past_all (trees_after [] lines) n (omega (arith, l, p))
line_tree lines n (Some f) e =
    let same : 0 + n ≡ n = zero-add n in
    subst (λ (k : ℕ). tree_at (trees_after [] lines) k ≡ over_cores (tree_at (take k (trees_after [] lines))) f) same (at_line [] lines n f e)

pub ruleset line_steps = (put_line, lines_length, line_tree)
