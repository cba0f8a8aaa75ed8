-- Lines that are put behind others: the trees before stay, and so does what pieces stand for.
use Rattle.std.proofs.Common.{◌≡◌, ℕ, ◌+◌, ◌<◌, ◌≤◌, List, [], ◌∷◌, ◌++◌, length, map, refl, sym, ◌∙◌, ap, subst, arith, Result, Some, append_assoc, length-append}
use Rattle.std.specs.Result.{IfOk}
use Rattle.std.proofs.lemmas.List.{append-nil, get_or_append_left, map-append}
use Rattle.std.proofs.lemmas.Result.{IfOk-weaker}
use Rattle.std.proofs.Math.Seq.{get_or-append_seam}
use Rattle.std.specs.Prelude.{slice_get}
use Rattle.zir_form.specs.declared.form.Form.{Form}
use Rattle.zir_form.specs.declared.form.Form.TheVariants as form
use Rattle.zir_form.specs.Core.{Core, cores_of}
use Rattle.zir_form.specs.Core as core
use Rattle.zir_form.specs.Lines.{core_at, over_cores, tree_at, trees_of}
use Rattle.zir_form.proofs.LineLemmas.{put_line, lines_length, line_tree}
use Rattle.zir_scope.specs.Syntax.{inside_of}
use Rattle.zir_scope.specs.declared.outline.Outline.{Outline}
use Rattle.zir_astgen.specs.declared.piece.Piece.{Piece}
use Rattle.zir_astgen.specs.declared.piece.Piece.TheVariants as piece
use Rattle.zir_astgen.specs.Firsts.{Adds, AreBelow, Firsts, Grows}
use Rattle.zir_astgen.specs.Parts.{Parts, ended, token, part}
use Rattle.zir_astgen.specs.Pieces.{parts_of, Below}

-- ---- one line more

pub put_adds : (lines now : List Form) (f : Form) (n : ℕ) → n ≡ length lines → now ≡ lines ++ f ∷ []
    → Adds (trees_of lines) (trees_of now) (over_cores (tree_at (trees_of lines)) f) n
put_adds lines now f n number is =
    let c : Core = over_cores (tree_at (trees_of lines)) f in
    let all : trees_of now ≡ trees_of lines ++ c ∷ [] = ap trees_of is ∙ put_line lines f in
    let count : length (trees_of lines) ≡ length lines = lines_length lines in
    let longer : length (trees_of now) ≡ length (trees_of lines) + 1 = ap length all ∙ length-append (trees_of lines) (c ∷ []) in
    let place : n ≡ length (trees_of lines) = number ∙ sym count in
    record {
      added = c ∷ [];
      extends = all;
      inside = omega (arith, longer, place);
      stands = ap (λ (l : List Core). tree_at l n) all ∙ ap (λ (k : ℕ). tree_at (trees_of lines ++ c ∷ []) k) place ∙ get_or-append_seam (trees_of lines) c [] core.missing;
    }

-- ---- trees stay

pub grown : (old now : List Core) (tree : Core) (line : ℕ) → Adds old now tree line → Grows old now
grown old now tree line h = record { added = h.added; extends = h.extends }

pub grows_none : (now : List Core) → Grows now now
grows_none now = record { added = []; extends = sym (append-nil now) }

pub grows_more : (a b c : List Core) → Grows a b → Grows b c → Grows a c
grows_more a b c h k = record { added = h.added ++ k.added; extends = k.extends ∙ ap (λ (l : List Core). l ++ k.added) h.extends ∙ append_assoc a h.added k.added }

pub longer : (old now : List Core) → Grows old now → length old ≤ length now
longer old now h =
    let l : length now ≡ length old + length h.added = ap length h.extends ∙ length-append old h.added in
    omega (arith, l)

pub tree_stays : (old now : List Core) (n : ℕ) → Grows old now → n < length old → tree_at now n ≡ tree_at old n
tree_stays old now n h lt = ap (λ (l : List Core). tree_at l n) h.extends ∙ get_or_append_left old h.added core.missing n lt

-- ---- the first two lines

pub firsts_stay : (lines now : List Form) (f : Form) → Firsts lines → now ≡ lines ++ f ∷ [] → Firsts now
firsts_stay lines now f h is = subst (λ (l : List Form). Firsts l) (sym is) (by lines h.missing h.absent)
  where
    by : (l : List Form) → slice_get l 0 ≡ Some form.Missing → slice_get l 1 ≡ Some form.Absent → Firsts (l ++ f ∷ [])
    by [] m a = absurd (cc)
    by (x ∷ []) m a = absurd (cc)
    by (x ∷ y ∷ more) m a = record { missing = m; absent = a }

pub missing_tree : (lines : List Form) → Firsts lines → tree_at (trees_of lines) 0 ≡ core.missing
unfolding over_cores core_at
missing_tree lines h = line_tree lines 0 (Some form.Missing) h.missing

pub absent_tree : (lines : List Form) → Firsts lines → tree_at (trees_of lines) 1 ≡ core.absent
unfolding over_cores core_at
absent_tree lines h = line_tree lines 1 (Some form.Absent) h.absent

pub two_lines : (lines : List Form) → Firsts lines → 1 < length (trees_of lines)
two_lines lines h = let l : length (trees_of lines) ≡ length lines = lines_length lines in let two : 1 < length lines = by lines h.absent in omega (arith, l, two)
  where
    by : (l : List Form) → slice_get l 1 ≡ Some form.Absent → 1 < length l
    by [] a = absurd (cc)
    by (x ∷ []) a = absurd (cc)
    by (x ∷ y ∷ more) a = omega arith

pub ruleset first_steps = (missing_tree, absent_tree, two_lines)

-- ---- what a line stands for stays

pub adds_keeps : (a b c : List Core) (tree : Core) (line : ℕ) → Adds a b tree line → Grows b c → Adds a c tree line
adds_keeps a b c tree line h g =
    let l : length b ≤ length c = longer b c g in
    let i : line < length b = h.inside in
    let k : Grows a c = grows_more a b c (grown a b tree line h) g in
    record { added = k.added; extends = k.extends; inside = omega (arith, l, i); stands = tree_stays b c line g i ∙ h.stands }

pub adds_behind : (a b c : List Core) (tree same : Core) (line : ℕ) → Grows a b → Adds b c tree line → tree ≡ same → Adds a c same line
adds_behind a b c tree same line g h e =
    let k : Grows a c = grows_more a b c g (grown b c tree line h) in
    record { added = k.added; extends = k.extends; inside = h.inside; stands = h.stands ∙ e }

pub adds_same : (a b : List Core) (tree same : Core) (line : ℕ) → Adds a b tree line → tree ≡ same → Adds a b same line
adds_same a b tree same line h e = record { added = h.added; extends = h.extends; inside = h.inside; stands = h.stands ∙ e }

-- a line that is there already
pub adds_none : (now : List Core) (tree : Core) (line : ℕ) → line < length now → tree_at now line ≡ tree → Adds now now tree line
adds_none now tree line i e = record { added = []; extends = sym (append-nil now); inside = i; stands = e }

pub absent_adds : (lines now : List Form) (tree : Core) → Firsts now → now ≡ lines → core.absent ≡ tree → Adds (trees_of lines) (trees_of now) tree 1
absent_adds lines now tree h same e =
    subst (λ (l : List Form). Adds (trees_of l) (trees_of now) tree 1) same (adds_none (trees_of now) tree 1 (two_lines now h) (absent_tree now h ∙ e))

-- ---- what pieces stand for stays

pub below_more : (n m : ℕ) (row : List Piece) → n ≤ m → Below n row → Below m row
below_more n m [] le h = tt
below_more n m (piece.Token t k ∷ more) le h = below_more n m more le h
below_more n m (piece.Node r i first line ∷ more) le h =
    let here : line < n = h.0 in
    (omega (arith, here, le), below_more n m more le h.1)

pub below_stays : (old now : List Core) (row : List Piece) → Grows old now → Below (length old) row → Below (length now) row
below_stays old now row g h = below_more (length old) (length now) row (longer old now g) h

pub parts_stay : (o : Outline) (old now : List Core) (row : List Piece) → Grows old now → Below (length old) row → parts_of o now row ≡ parts_of o old row
unfolding parts_of
parts_stay o old now [] g h = refl
parts_stay o old now (piece.Token t k ∷ more) g h = ap (λ (p : Parts). token t k p) (parts_stay o old now more g h)
parts_stay o old now (piece.Node r i first line ∷ more) g h =
    ap (λ (c : Core). part r (inside_of o i) first c (parts_of o now more)) (tree_stays old now line g h.0)
    ∙ ap (λ (p : Parts). part r (inside_of o i) first (tree_at old line) p) (parts_stay o old now more g h.1)

pub none_left : (o : Outline) (trees : List Core) (rest : List Piece) → length rest < 1 → parts_of o trees rest ≡ ended
unfolding parts_of
none_left o trees [] h = refl
none_left o trees (p ∷ more) h = absurd (omega (arith, h))

-- ---- lines in a row

pub are_below_more : (n m : ℕ) (lines : List ℕ) → n ≤ m → AreBelow n lines → AreBelow m lines
are_below_more n m [] le h = tt
are_below_more n m (line ∷ more) le h = let here : line < n = h.0 in (omega (arith, here, le), are_below_more n m more le h.1)

pub are_below_push : (n line : ℕ) (lines : List ℕ) → AreBelow n lines → line < n → AreBelow n (lines ++ line ∷ [])
are_below_push n line [] h lt = (lt, tt)
are_below_push n line (l ∷ more) h lt = (h.0, are_below_push n line more h.1 lt)

pub trees_stay : (old now : List Core) (lines : List ℕ) → Grows old now → AreBelow (length old) lines → map (tree_at now) lines ≡ map (tree_at old) lines
trees_stay old now [] g h = refl
trees_stay old now (line ∷ more) g h =
    ap (λ (c : Core). c ∷ map (tree_at now) more) (tree_stays old now line g h.0)
    ∙ ap (λ (cs : List Core). tree_at old line ∷ cs) (trees_stay old now more g h.1)

-- one line behind those so far, where its tree comes first of those that are left
pub trees_push : (now : List Core) (lines after : List ℕ) (line : ℕ) (tree : Core) (left all : List Core) → after ≡ lines ++ line ∷ [] → tree_at now line ≡ tree
    → map (tree_at now) lines ++ (tree ∷ left) ≡ all → map (tree_at now) after ++ left ≡ all
trees_push now lines after line tree left all is e h =
    ap (λ (l : List ℕ). map (tree_at now) l ++ left) is
    ∙ ap (λ (l : List Core). l ++ left) (map-append (tree_at now) lines (line ∷ []))
    ∙ append_assoc (map (tree_at now) lines) (tree_at now line ∷ []) left
    ∙ ap (λ (c : Core). map (tree_at now) lines ++ (c ∷ left)) e ∙ h

-- where lines were put meanwhile
pub all_push : (old between now : List Core) (lines after : List ℕ) (line : ℕ) (tree : Core) (left all : List Core)
    → Grows old between → AreBelow (length between) lines → Adds between now tree line → after ≡ lines ++ line ∷ []
    → map (tree_at between) lines ++ (tree ∷ left) ≡ all → AreBelow (length now) after × (map (tree_at now) after ++ left ≡ all)
all_push old between now lines after line tree left all g inside adds is h =
    let k : Grows between now = grown between now tree line adds in
    let le : length between ≤ length now = longer between now k in
    let same : map (tree_at now) lines ≡ map (tree_at between) lines = trees_stay between now lines k inside in (
      subst (λ (l : List ℕ). AreBelow (length now) l) (sym is) (are_below_push (length now) line lines (are_below_more (length between) (length now) lines le inside) adds.inside),
      trees_push now lines after line tree left all is adds.stands (ap (λ (l : List Core). l ++ (tree ∷ left)) same ∙ h),
    )

-- ---- of what a call answers

pub adds_after : {E : Type 0} (r : Result ℕ E) (a b c : List Core) (tree same : Core) → Grows a b → IfOk r (Adds b c tree) → tree ≡ same → IfOk r (Adds a c same)
adds_after r a b c tree same g h e = IfOk-weaker r (Adds b c tree) (Adds a c same) (λ line k. adds_behind a b c tree same line g k e) h

pub ruleset add_steps = (grown, adds_none, adds_same, adds_behind, adds_keeps, parts_stay, below_stays)
