use Rattle.std.proofs.Common.{◌≡◌, ◌∙◌, ap}
use Rattle.zir_form.specs.Lines.{over_cores, tree_at}
use Rattle.zir_astgen.specs.Statements.{made_prototype}
use Rattle.zir_astgen.specs.Firsts.{Grows}
use Rattle.zir_astgen.specs.Writing.{linkage_of, parts, site, trees}
use Rattle.zir_astgen.specs.declared.source.Source.{Source}
use Rattle.zir_astgen.proofs.AddLemmas.{adds_after, adds_keeps, grown, grows_more}
use Rattle.zir_astgen.proofs.WriterLemmas.{parts_kept}
use Rattle.zir_astgen.proofs.writer.Writer.made_prototype.Goals as goal

pub returns-clause-tree : goal.returns-clause-tree
unfolding made_prototype over_cores
returns-clause-tree c =
    let w0 = c.args.self.now in
    let w1 = c.inferred_line.new.self in
    let w2 = c.linkage_line.new.self in
    let row = c.args.row.now in
    let h = c.in_ok-inferred.ensures.tree in
    let b = c.in_ok-linkage.ensures.tree in
    let g1 : Grows (trees w0) (trees w1) = grown (trees w0) (trees w1) _ _ h in
    let g2 : Grows (trees w1) (trees w2) = grown (trees w1) (trees w2) _ _ b in
    let g : Grows (trees w0) (trees w2) = grows_more (trees w0) (trees w1) (trees w2) g1 g2 in
    let s1 : w1.source ≡ w0.source = c.inferred_line.ensures.source in
    let s2 : w2.source ≡ w0.source = cc (c.linkage_line.ensures.source) in
    let p2 : parts w2 row ≡ parts w0 row = parts_kept w0 w2 row s2 g c.requires.below in
    let inferred = (adds_keeps (trees w0) (trees w1) (trees w2) _ _ h g2).stands in
    let linkage : tree_at (trees w2) c.in_ok-linkage.linkage ≡ (site w0).linkage = b.stands ∙ ap (λ (s : Source). linkage_of s.part.now.linkage) s1 in
    let parameters = c.in_ok-parameters.ensures in
    adds_after c.put.result (trees w0) (trees w2) (trees c.put.new.self) _ _ g c.put.ensures.tree (cc (linkage, inferred, parameters, p2))
