-- What a writer's pieces stand for, as it puts lines.
use Rattle.std.proofs.Common.{◌≡◌, ℕ, ◌<◌, Bool, false, List, [], ◌∷◌, ◌++◌, length, map, get_or, take, drop, ◌-◌, ◌≤◌, arith, sym, ◌∙◌, ap, if◌then◌else◌}
use Rattle.std.proofs.Math.Seq.{take-length}
use Rattle.zig_tree.specs.declared.grammar.Rule.{Rule}
use Rattle.zir_form.specs.Core.{Core}
use Rattle.zir_form.specs.Core as core
use Rattle.zir_form.specs.Lines.{tree_at}
use Rattle.zir_scope.specs.declared.outline.Outline.{Outline}
use Rattle.zir_astgen.specs.declared.piece.Piece.{Piece}
use Rattle.zir_astgen.specs.declared.piece.Piece.TheVariants as piece
use Rattle.zir_astgen.specs.declared.source.Source.{Source}
use Rattle.zir_astgen.specs.declared.writer.Writer.{Writer}
use Rattle.zir_astgen.specs.Control.{captured_names}
use Rattle.zir_astgen.specs.Firsts.{Adds, AreBelow, Grows}
use Rattle.zir_astgen.specs.Pieces.{parts_of, Below}
use Rattle.zir_astgen.specs.Writing.{parts, trees}
use Rattle.zir_astgen.proofs.AddLemmas.{adds_same, all_push, parts_stay, tree_stays}

pub parts_kept : (w v : Writer) (row : List Piece) → v.source ≡ w.source → Grows (trees w) (trees v) → Below (length (trees w)) row → parts v row ≡ parts w row
parts_kept w v row e g b =
    ap (λ (s : Source). parts_of s.outline.now (trees v) row) e ∙ parts_stay w.source.outline.now (trees w) (trees v) row g b

-- one name more is captured
pub captured_step : (o : Outline) (start between now : List Core) (lines after : List ℕ) (line name : ℕ) (pointer : Bool) (r : Rule) (n first : ℕ) (more : List Piece) (all : List Core)
    → Grows start between → AreBelow (length between) lines → line < length start
    → Adds between now (if pointer then core.pointer_capture (tree_at between line) else tree_at between line) name → after ≡ lines ++ name ∷ []
    → map (tree_at between) lines ++ captured_names pointer (parts_of o start (piece.Node r n first line ∷ more)) ≡ all
    → AreBelow (length now) after × (map (tree_at now) after ++ captured_names false (parts_of o start more) ≡ all)
unfolding captured_names parts_of
captured_step o start between now lines after line name pointer r n first more all g inside lt adds is h =
    all_push start between now lines after name (if pointer then core.pointer_capture (tree_at start line) else tree_at start line) (captured_names false (parts_of o start more)) all g inside
    (adds_same between now _ _ name adds (ap (λ (c : Core). if pointer then core.pointer_capture c else c) (tree_stays start between line g lt))) is h

-- a row by its first piece and what follows
pub split_row : (rest : List Piece) (d p : Piece) → 1 ≤ length rest → get_or rest 0 d ≡ p → rest ≡ p ∷ take (length rest - 1) (drop 1 rest)
split_row [] d p h e = absurd (omega arith)
split_row (x ∷ more) d p h e =
    let n : length (x ∷ more) - 1 ≡ length more = omega arith in
    ap (λ (y : Piece). y ∷ more) e ∙ ap (λ (l : List Piece). p ∷ l) (sym (ap (λ (k : ℕ). take k more) n ∙ take-length more))
