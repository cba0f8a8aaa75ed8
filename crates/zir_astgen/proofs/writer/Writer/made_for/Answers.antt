use Rattle.std.proofs.Common.{◌≡◌}
use Rattle.zir_form.specs.Core as core
use Rattle.zir_form.specs.Lines.{over_cores, tree_at}
use Rattle.zir_astgen.specs.Control.{made_for}
use Rattle.zir_astgen.specs.Firsts.{Grows}
use Rattle.zir_astgen.specs.Writing.{parts, trees}
use Rattle.zir_astgen.proofs.AddLemmas.{absent_tree, adds_after, adds_keeps, grown, grows_more}
use Rattle.zir_astgen.proofs.WriterLemmas.{parts_kept}
use Rattle.zir_astgen.proofs.writer.Writer.made_for.Goals as goal

pub returns-clause-tree : goal.returns-clause-tree
unfolding made_for over_cores
returns-clause-tree c =
    let w0 = c.args.self.now in
    let w1 = c.for_head.new.self in
    let w2 = c.branches_in.new.self in
    let row = c.args.row.now in
    let h = c.in_ok-head.ensures.tree in
    let b = c.in_ok-branches.ensures.tree in
    let g1 : Grows (trees w0) (trees w1) = grown (trees w0) (trees w1) _ _ h in
    let g2 : Grows (trees w1) (trees w2) = grown (trees w1) (trees w2) _ _ b in
    let g : Grows (trees w0) (trees w2) = grows_more (trees w0) (trees w1) (trees w2) g1 g2 in
    let s1 : w1.source ≡ w0.source = c.for_head.ensures.source in
    let s2 : w2.source ≡ w0.source = cc (c.branches_in.ensures.source) in
    let p1 : parts w1 row ≡ parts w0 row = parts_kept w0 w1 row s1 g1 c.requires.below in
    let p2 : parts w2 row ≡ parts w0 row = parts_kept w0 w2 row s2 g c.requires.below in
    let head = (adds_keeps (trees w0) (trees w1) (trees w2) _ _ h g2).stands in
    let turn : tree_at (trees w2) 1 ≡ core.absent = absent_tree w2.lines w2.has_firsts in
    let branches = b.stands in
    adds_after c.put.result (trees w0) (trees w2) (trees c.put.new.self) _ _ g c.put.ensures.tree (cc (head, turn, branches, p1, p2))
