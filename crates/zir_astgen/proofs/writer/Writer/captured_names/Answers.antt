use Rattle.std.proofs.Common.{◌≡◌, false, ◌++◌, ◌∷◌, ◌∙◌, ◌-◌, List, drop, length, map, subst, take}
use Rattle.zir_form.specs.Lines.{tree_at}
use Rattle.zir_astgen.specs.declared.piece.Piece.{Piece}
use Rattle.zir_astgen.specs.declared.piece.Piece.TheVariants as piece
use Rattle.zir_astgen.specs.Control.{captured_names}
use Rattle.zir_astgen.specs.Pieces.{Below}
use Rattle.zir_astgen.specs.Writing.{parts, trees}
use Rattle.zir_astgen.proofs.AddLemmas.{grown, grows_more}
use Rattle.zir_astgen.proofs.WriterLemmas.{captured_step, split_row}
use Rattle.zir_astgen.proofs.writer.Writer.captured_names.Goals as goal

pub loop-rest-preserved : goal.loop-rest-preserved
loop-rest-preserved c =
    let start = c.args.self.now in
    let between = c.loop-rest.self in
    let now = c.captured_name.new.self in
    let rest = c.loop-rest.rest.now in
    let more : List Piece = take (length rest - 1) (drop 1 rest) in
    let i = c.loop-rest.invariant in
    let node : Piece = piece.Node c.in-Node.rule c.in-Node.node c.in-Node.first c.in-Node.line in
    let split : rest ≡ node ∷ more = split_row rest _ node c.in-len1-up.len_at_least c.in-Node.is in
    let below : Below (length (trees start)) (node ∷ more) = subst (λ (l : List Piece). Below (length (trees start)) l) split i.below in
    let same = subst (λ (l : List Piece). map (tree_at (trees between)) c.loop-rest.names.items ++ captured_names c.loop-rest.pointer (parts start l) ≡ captured_names false (parts start c.args.row.now)) split i.same in
    let adds = c.in_ok-name-in-Node.ensures.tree in
    let step = captured_step start.source.outline.now (trees start) (trees between) (trees now) c.loop-rest.names.items c.push.new.self.items c.in-Node.line c.in_ok-name-in-Node.name c.loop-rest.pointer c.in-Node.rule c.in-Node.node c.in-Node.first more _
    i.grows i.inside below.0 adds c.in_ok-push-in-Node.ensures.items same in
    record {
      same = step.1;
      inside = step.0;
      grows = grows_more (trees start) (trees between) (trees now) i.grows (grown (trees between) (trees now) _ _ adds);
      below = below.1;
      source = c.captured_name.ensures.source ∙ i.source;
    }
