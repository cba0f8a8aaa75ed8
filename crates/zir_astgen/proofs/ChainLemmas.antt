-- Lines for operators in a row, and for a row that is gone through from its end.
use Rattle.std.proofs.Common.{◌≡◌, ℕ, zero, suc, ◌+◌, ◌<◌, ◌≤◌, ◌-◌, true, false, List, [], ◌∷◌, length, drop, take, get_or, refl, sym, ◌∙◌, ap, arith, Option, Some, None, Bor, length-drop}
use Rattle.std.proofs.lemmas.List.{drop_more, take_all}
use Rattle.zig_tree.specs.declared.token.TokenKind.{TokenKind}
use Rattle.zig_tree.specs.declared.grammar.Rule.{Rule}
use Rattle.zig_tree.specs.declared.grammar.Rule.TheVariants as rule
use Rattle.zig_tree.specs.Kinds.{is_rule}
use Rattle.zir_form.specs.declared.form.Form.{Form}
use Rattle.zir_form.specs.Core.{Core}
use Rattle.zir_form.specs.Core as core
use Rattle.zir_form.specs.Lines.{trees_of}
use Rattle.zir_scope.specs.Syntax.{Syntax}
use Rattle.zir_astgen.specs.Chains.{chain, joined}
use Rattle.zir_astgen.specs.declared.source.Source.{Source}
use Rattle.zir_astgen.specs.declared.writer.Writer.{Writer}
use Rattle.zir_astgen.specs.Firsts.{Adds, Firsts, Grows}
use Rattle.zir_astgen.specs.Leaving.{AreLeft, leaves_of}
use Rattle.zir_astgen.specs.Writing.{file, parts, site, trees}
use Rattle.zir_astgen.specs.declared.piece.Piece.{Piece}
use Rattle.zir_astgen.specs.declared.piece.Piece.TheVariants as piece
use Rattle.zir_astgen.specs.Pieces.{Below, parts_of}
use Rattle.zir_astgen.specs.Parts.{Parts, token, part}
use Rattle.zir_astgen.specs.Site.{File, Site, offset}
use Rattle.zir_astgen.proofs.AddLemmas.{absent_tree, adds_none, are_below_more, longer, missing_tree, parts_stay, trees_stay, two_lines}

pub missing_adds : (lines : List Form) → Firsts lines → Adds (trees_of lines) (trees_of lines) core.missing 0
missing_adds lines h = let two : 1 < length (trees_of lines) = two_lines lines h in adds_none (trees_of lines) core.missing 0 (omega (arith, two)) (missing_tree lines h)

pub absent_adds : (lines : List Form) → Firsts lines → Adds (trees_of lines) (trees_of lines) core.absent 1
absent_adds lines h = adds_none (trees_of lines) core.absent 1 (two_lines lines h) (absent_tree lines h)

-- ---- operands in a row

module _ (f : File) (s : Site) (p t : ℕ) (k : TokenKind) (whole : Core) where
  pub chain_word : (u : ℕ) (m : TokenKind) (more : Parts) (left capture next : Core) → next ≡ core.absent → chain f s p left t k capture (token u m more) ≡ whole → chain f s p left u m next more ≡ whole
  unfolding chain
  chain_word u m more left capture next e h = ap (λ (c : Core). chain f s p left u m c more) e ∙ h

  pub chain_capture : (r : Rule) (inside : Syntax) (first : ℕ) (more : Parts) (left capture next tree : Core) → is_rule r rule.Capture ≡ true → next ≡ tree
      → chain f s p left t k capture (part r inside first tree more) ≡ whole → chain f s p left t k next more ≡ whole
  unfolding chain
  chain_capture r inside first more left capture next tree e same h = ap (λ (c : Core). chain f s p left t k c more) same ∙ rw e at h

  pub chain_joined : (r : Rule) (inside : Syntax) (first q : ℕ) (more : Parts) (left capture next tree there absent : Core) → is_rule r rule.Capture ≡ false → q ≡ offset f s t → there ≡ tree
      → next ≡ joined p q k capture left there → absent ≡ core.absent
      → chain f s p left t k capture (part r inside first tree more) ≡ whole → chain f s p next t k absent more ≡ whole
  unfolding chain
  chain_joined r inside first q more left capture next tree there absent e place same is none h =
      ap (λ (c : Core). chain f s p next t k c more) none
      ∙ ap (λ (c : Core). chain f s p c t k core.absent more) (is ∙ ap (λ (n : ℕ). joined p n k capture left there) place ∙ ap (λ (c : Core). joined p (offset f s t) k capture left c) same)
      ∙ rw e at h

-- ---- a row from its end

pub below_drop : (n i : ℕ) (row : List Piece) → Below n row → Below n (drop i row)
below_drop n zero row h = h
below_drop n (suc i) [] h = tt
below_drop n (suc i) (piece.Token t k ∷ more) h = below_drop n i more h
below_drop n (suc i) (piece.Node r m first line ∷ more) h = below_drop n i more h.1

pub from_end : (row : List Piece) (i : ℕ) (d : Piece) → 0 < i → i ≤ length row → get_or row (i - 1) d ∷ drop i row ≡ drop (i - 1) row
from_end row i d lt le =
    let e : i - 1 + 1 ≡ i = omega arith in
    ap (λ (n : ℕ). get_or row (i - 1) d ∷ drop n row) (sym e) ∙ sym (drop_more row (i - 1) d (omega arith))

-- what a slice from a place on holds
pub behind_place : (row : List Piece) (i : ℕ) → 0 < i → i ≤ length row → take (length row - (i - 1 + 1)) (drop (i - 1 + 1) row) ≡ drop i row
behind_place row i lt le =
    let e : i - 1 + 1 ≡ i = omega arith in
    let l : length (drop i row) ≡ length row - i = length-drop i row in
    ap (λ (n : ℕ). take (length row - n) (drop n row)) e ∙ take_all (length row - i) (drop i row) (omega (arith, l))

-- ---- what is known of a writer stays known as lines are added

pub carried : (F : File → Site → Parts → Core) (w v : Writer) (row : List Piece) → v.source ≡ w.source → Grows (trees w) (trees v) → Below (length (trees w)) row
    → F (file v) (site v) (parts v row) ≡ F (file w) (site w) (parts w row)
carried F w v row e g b =
    ap (λ (x : Source). F (file (record w { source = x })) (site (record w { source = x })) (parts_of x.outline.now (trees v) row)) e
    ∙ ap (F (file w) (site w)) (parts_stay w.source.outline.now (trees w) (trees v) row g b)

pub leaves_stay : (old now : List Core) (leaves : Option (Bor (List ℕ))) → Grows old now → AreLeft (length old) leaves → leaves_of now leaves ≡ leaves_of old leaves
leaves_stay old now None g h = refl
leaves_stay old now (Some lines) g h = ap (λ (l : List Core). Some l) (trees_stay old now lines.now g h)

pub are_left_stay : (old now : List Core) (leaves : Option (Bor (List ℕ))) → Grows old now → AreLeft (length old) leaves → AreLeft (length now) leaves
are_left_stay old now None g h = tt
are_left_stay old now (Some lines) g h = are_below_more (length old) (length now) lines.now (longer old now g) h
