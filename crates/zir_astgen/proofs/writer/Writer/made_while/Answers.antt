use Rattle.std.proofs.Common.{◌≡◌}
use Rattle.zir_form.specs.Lines.{over_cores}
use Rattle.zir_astgen.specs.Control.{made_while}
use Rattle.zir_astgen.specs.Firsts.{Grows}
use Rattle.zir_astgen.specs.Writing.{parts, trees}
use Rattle.zir_astgen.proofs.AddLemmas.{adds_after, adds_keeps, grown, grows_more}
use Rattle.zir_astgen.proofs.WriterLemmas.{parts_kept}
use Rattle.zir_astgen.proofs.writer.Writer.made_while.Goals as goal

pub returns-clause-tree : goal.returns-clause-tree
unfolding made_while over_cores
returns-clause-tree c =
    let w0 = c.args.self.now in
    let w1 = c.while_head.new.self in
    let w2 = c.statement_behind.new.self in
    let w3 = c.branches_in.new.self in
    let row = c.args.row.now in
    let h = c.in_ok-head.ensures.tree in
    let t = c.in_ok-turn.ensures.tree in
    let b = c.in_ok-branches.ensures.tree in
    let g1 : Grows (trees w0) (trees w1) = grown (trees w0) (trees w1) _ _ h in
    let g2 : Grows (trees w1) (trees w2) = grown (trees w1) (trees w2) _ _ t in
    let g3 : Grows (trees w2) (trees w3) = grown (trees w2) (trees w3) _ _ b in
    let g12 : Grows (trees w0) (trees w2) = grows_more (trees w0) (trees w1) (trees w2) g1 g2 in
    let g : Grows (trees w0) (trees w3) = grows_more (trees w0) (trees w2) (trees w3) g12 g3 in
    let s1 : w1.source ≡ w0.source = c.while_head.ensures.source in
    let s2 : w2.source ≡ w0.source = cc (c.statement_behind.ensures.source) in
    let s3 : w3.source ≡ w0.source = cc (c.branches_in.ensures.source) in
    let p1 : parts w1 row ≡ parts w0 row = parts_kept w0 w1 row s1 g1 c.requires.below in
    let p2 : parts w2 row ≡ parts w0 row = parts_kept w0 w2 row s2 g12 c.requires.below in
    let p3 : parts w3 row ≡ parts w0 row = parts_kept w0 w3 row s3 g c.requires.below in
    let head = (adds_keeps (trees w0) (trees w1) (trees w3) _ _ h (grows_more (trees w1) (trees w2) (trees w3) g2 g3)).stands in
    let turn = (adds_keeps (trees w1) (trees w2) (trees w3) _ _ t g3).stands in
    let branches = b.stands in
    adds_after c.put.result (trees w0) (trees w3) (trees c.put.new.self) _ _ g c.put.ensures.tree (cc (head, turn, branches, p1, p2, p3))
