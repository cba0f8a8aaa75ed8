use Rattle.std.proofs.Common.{◌≡◌, ◌<◌, ◌-◌, [], ◌∷◌, List, Option, ℕ, length, drop, refl, sym, ◌∙◌, ap, subst, arith}
use Rattle.std.proofs.lemmas.List.{drop_all}
use Rattle.zig_tree.specs.declared.token.TokenKind.TheVariants as kind
use Rattle.zir_form.specs.Core.{Core}
use Rattle.zir_astgen.specs.declared.piece.Piece.{Piece}
use Rattle.zir_astgen.specs.declared.piece.Piece.TheVariants as piece
use Rattle.zir_astgen.specs.Chains.{operand}
use Rattle.zir_astgen.specs.Firsts.{Grows}
use Rattle.zir_astgen.specs.Leaving.{leaves_of}
use Rattle.zir_astgen.specs.Parts.{Parts}
use Rattle.zir_astgen.specs.Pieces.{Below, parts_of}
use Rattle.zir_astgen.specs.Site.{File, Site}
use Rattle.zir_astgen.specs.Writing.{file, parts, site, trees}
use Rattle.zir_astgen.proofs.AddLemmas.{below_stays, grown, grows_more, grows_none, missing_tree, two_lines}
use Rattle.zir_astgen.proofs.ChainLemmas.{are_left_stay, below_drop, carried, from_end, leaves_stay}
use Rattle.zir_astgen.proofs.writer.Writer.made_prefix.Goals as goal

pub loop-at-init : goal.loop-at-init
unfolding operand parts_of
loop-at-init c =
    let two : 1 < length (trees c.args.self.now) = two_lines _ c.args.self.now.has_firsts in
    record {
      grows = grows_none _;
      source = refl;
      within = omega arith;
      below = c.requires.below;
      left = c.requires.left;
      leaves = refl;
      inside = omega (arith, two);
      same = missing_tree _ c.args.self.now.has_firsts ∙ ap (λ (l : List Piece). operand (file c.args.self.now) (site c.args.self.now) (leaves_of (trees c.args.self.now) c.args.leaves) (parts c.args.self.now l)) (sym (drop_all (length c.args.row.now) c.args.row.now (omega arith)));
    }

first_below : (n : ℕ) (p : Piece) (row : List Piece) → Below n (p ∷ row) → Below n (p ∷ [])
first_below n (piece.Token t k) row h = tt
first_below n (piece.Node r m first line) row h = (h.0, tt)

pub operand_part-requires : goal.operand_part-requires
operand_part-requires c =
    let test : 0 < c.loop-at.at = c.loop-at-test.true in
    let e = from_end c.args.row.now c.loop-at.at (piece.Token 0 kind.Identifier) test c.loop-at.invariant.within in
    record { below = first_below _ _ (drop c.loop-at.at c.args.row.now) (subst (λ (l : List Piece). Below (length (trees c.loop-at.self)) l) (sym e) (below_drop (length (trees c.loop-at.self)) (c.loop-at.at - 1) c.args.row.now c.loop-at.invariant.below)) }

pub loop-at-preserved : goal.loop-at-preserved
loop-at-preserved c =
    let test : 0 < c.loop-at.at = c.loop-at-test.true in
    let adds = c.in_ok-line.ensures.tree (drop c.loop-at.at c.args.row.now) c.loop-at.invariant.same in
    let g : Grows (trees c.loop-at.self) (trees c.operand_part.new.self) = grown _ _ _ _ adds in
    let row = drop (c.loop-at.at - 1) c.args.row.now in
    let stay : leaves_of (trees c.operand_part.new.self) c.args.leaves ≡ leaves_of (trees c.loop-at.self) c.args.leaves = leaves_stay _ _ c.args.leaves g c.loop-at.invariant.left in
    record {
      grows = grows_more _ _ _ c.loop-at.invariant.grows g;
      source = c.in_ok-line.ensures.source ∙ c.loop-at.invariant.source;
      within = omega (arith, c.loop-at.invariant.within);
      below = below_stays _ _ c.args.row.now g c.loop-at.invariant.below;
      left = are_left_stay _ _ c.args.leaves g c.loop-at.invariant.left;
      leaves = stay ∙ c.loop-at.invariant.leaves;
      inside = adds.inside;
      same = adds.stands
          ∙ ap (λ (l : List Piece). operand (file c.loop-at.self) (site c.loop-at.self) (leaves_of (trees c.loop-at.self) c.args.leaves) (parts c.loop-at.self l)) (from_end c.args.row.now c.loop-at.at (piece.Token 0 kind.Identifier) test c.loop-at.invariant.within)
          ∙ sym (carried (λ (f : File) (s : Site) (p : Parts). operand f s (leaves_of (trees c.loop-at.self) c.args.leaves) p) c.loop-at.self c.operand_part.new.self row c.in_ok-line.ensures.source g (below_drop (length (trees c.loop-at.self)) (c.loop-at.at - 1) c.args.row.now c.loop-at.invariant.below))
          ∙ ap (λ (l : Option (List Core)). operand (file c.operand_part.new.self) (site c.operand_part.new.self) l (parts c.operand_part.new.self row)) (sym stay);
    }

pub returns-clause-tree : goal.returns-clause-tree
returns-clause-tree c =
    let none : c.loop-at.at ≡ 0 = omega arith in
    record {
      added = c.loop-at.invariant.grows.added;
      extends = c.loop-at.invariant.grows.extends;
      inside = c.loop-at.invariant.inside;
      stands = c.loop-at.invariant.same
          ∙ ap (λ (n : ℕ). operand (file c.loop-at.self) (site c.loop-at.self) (leaves_of (trees c.loop-at.self) c.args.leaves) (parts c.loop-at.self (drop n c.args.row.now))) none
          ∙ carried (λ (f : File) (s : Site) (p : Parts). operand f s (leaves_of (trees c.loop-at.self) c.args.leaves) p) c.args.self.now c.loop-at.self c.args.row.now c.loop-at.invariant.source c.loop-at.invariant.grows c.requires.below
          ∙ ap (λ (l : Option (List Core)). operand (file c.args.self.now) (site c.args.self.now) l (parts c.args.self.now c.args.row.now)) c.loop-at.invariant.leaves;
    }
