use Rattle.std.proofs.Common.{◌≡◌, ◌<◌, ◌-◌, ◌∷◌, List, ℕ, length, drop, get_or, refl, sym, ◌∙◌, ap, subst, arith}
use Rattle.std.proofs.lemmas.List.{drop_all}
use Rattle.zig_tree.specs.declared.token.TokenKind.TheVariants as kind
use Rattle.zir_astgen.specs.declared.piece.Piece.{Piece}
use Rattle.zir_astgen.specs.declared.piece.Piece.TheVariants as piece
use Rattle.zir_astgen.specs.Chains.{made_type}
use Rattle.zir_astgen.specs.Firsts.{Grows}
use Rattle.zir_astgen.specs.Pieces.{Below, parts_of}
use Rattle.zir_astgen.specs.Writing.{file, parts, site, trees}
use Rattle.zir_astgen.proofs.AddLemmas.{below_stays, grown, grows_more, grows_none, missing_tree, two_lines}
use Rattle.zir_astgen.proofs.ChainLemmas.{behind_place, below_drop, carried, from_end}
use Rattle.zir_astgen.proofs.writer.Writer.made_type.Goals as goal

pub loop-at-init : goal.loop-at-init
unfolding made_type parts_of
loop-at-init c =
    let two : 1 < length (trees c.args.self.now) = two_lines _ c.args.self.now.has_firsts in
    record {
      grows = grows_none _;
      source = refl;
      within = omega arith;
      below = c.requires.below;
      inside = omega (arith, two);
      same = missing_tree _ c.args.self.now.has_firsts ∙ ap (λ (l : List Piece). made_type (file c.args.self.now) (site c.args.self.now) (parts c.args.self.now l)) (sym (drop_all (length c.args.row.now) c.args.row.now (omega arith)));
    }

pub type_part-requires-clause-below : goal.type_part-requires-clause-below
type_part-requires-clause-below c =
    let test : 0 < c.loop-at.at = c.loop-at-test.true in
    let e = ap (λ (l : List Piece). get_or c.args.row.now (c.loop-at.at - 1) (piece.Token 0 kind.Identifier) ∷ l) (behind_place c.args.row.now c.loop-at.at test c.loop-at.invariant.within) ∙ from_end c.args.row.now c.loop-at.at (piece.Token 0 kind.Identifier) test c.loop-at.invariant.within in
    subst (λ (l : List Piece). Below (length (trees c.loop-at.self)) l) (sym e) (below_drop (length (trees c.loop-at.self)) (c.loop-at.at - 1) c.args.row.now c.loop-at.invariant.below)

pub type_part-requires-clause-behind : goal.type_part-requires-clause-behind
type_part-requires-clause-behind c =
    c.loop-at.invariant.same ∙ ap (λ (l : List Piece). made_type (file c.loop-at.self) (site c.loop-at.self) (parts c.loop-at.self l)) (sym (behind_place c.args.row.now c.loop-at.at c.loop-at-test.true c.loop-at.invariant.within))

pub loop-at-preserved : goal.loop-at-preserved
loop-at-preserved c =
    let test : 0 < c.loop-at.at = c.loop-at-test.true in
    let adds = c.in_ok-line.ensures.tree in
    let g : Grows (trees c.loop-at.self) (trees c.type_part.new.self) = grown _ _ _ _ adds in
    let row = drop (c.loop-at.at - 1) c.args.row.now in
    record {
      grows = grows_more _ _ _ c.loop-at.invariant.grows g;
      source = c.in_ok-line.ensures.source ∙ c.loop-at.invariant.source;
      within = omega (arith, c.loop-at.invariant.within);
      below = below_stays _ _ c.args.row.now g c.loop-at.invariant.below;
      inside = adds.inside;
      same = adds.stands
          ∙ ap (λ (l : List Piece). made_type (file c.loop-at.self) (site c.loop-at.self) (parts c.loop-at.self (get_or c.args.row.now (c.loop-at.at - 1) (piece.Token 0 kind.Identifier) ∷ l))) (behind_place c.args.row.now c.loop-at.at test c.loop-at.invariant.within)
          ∙ ap (λ (l : List Piece). made_type (file c.loop-at.self) (site c.loop-at.self) (parts c.loop-at.self l)) (from_end c.args.row.now c.loop-at.at (piece.Token 0 kind.Identifier) test c.loop-at.invariant.within)
          ∙ sym (carried made_type c.loop-at.self c.type_part.new.self row c.in_ok-line.ensures.source g (below_drop (length (trees c.loop-at.self)) (c.loop-at.at - 1) c.args.row.now c.loop-at.invariant.below));
    }

pub returns-clause-tree : goal.returns-clause-tree
returns-clause-tree c =
    let none : c.loop-at.at ≡ 0 = omega arith in
    record {
      added = c.loop-at.invariant.grows.added;
      extends = c.loop-at.invariant.grows.extends;
      inside = c.loop-at.invariant.inside;
      stands = c.loop-at.invariant.same
          ∙ ap (λ (n : ℕ). made_type (file c.loop-at.self) (site c.loop-at.self) (parts c.loop-at.self (drop n c.args.row.now))) none
          ∙ carried made_type c.args.self.now c.loop-at.self c.args.row.now c.loop-at.invariant.source c.loop-at.invariant.grows c.requires.below;
    }
