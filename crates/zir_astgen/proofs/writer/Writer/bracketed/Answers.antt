use Rattle.std.proofs.Common.{◌≡◌, map, slice_index_or, ◌∙◌, ap, subst, IfOk}
use Rattle.zir_form.specs.Core.{Core}
use Rattle.zir_form.specs.Core as core
use Rattle.zir_form.specs.Lines.{over_cores, tree_at}
use Rattle.zir_astgen.specs.Asking.{Asks}
use Rattle.zir_astgen.specs.Names.{now}
use Rattle.zir_astgen.specs.Writing.{trees}
use Rattle.zir_astgen.proofs.AddLemmas.{absent_tree}
use Rattle.zir_astgen.proofs.AskLemmas.{item_tree}
use Rattle.zir_astgen.proofs.writer.Writer.bracketed.Goals as goal

pub returns-then-asking-clause-asks : goal.returns-then-asking-clause-asks
unfolding over_cores
returns-then-asking-clause-asks c =
    let old = trees c.args.self.now in
    let items = c.args.asking.items.items in
    let absent : tree_at old 1 ≡ core.absent = absent_tree _ c.args.self.now.has_firsts in
    let first : c.item_at-first.result ≡ slice_index_or items 0 1 = cc in
    let end : c.item_at-end.result ≡ slice_index_or items 1 1 = cc in
    let object = tree_at old c.args.asking.object in
    let eq : core.slice c.args.place object (tree_at old c.item_at-first.result) (tree_at old c.item_at-end.result) ≡ core.slice c.args.place object (slice_index_or (map (tree_at old) items) 0 core.absent) (slice_index_or (map (tree_at old) items) 1 core.absent) =
    ap (λ (x : Core). core.slice c.args.place object x (tree_at old c.item_at-end.result)) (ap (tree_at old) first ∙ item_tree old items 0 absent)
    ∙ ap (core.slice c.args.place object (slice_index_or (map (tree_at old) items) 0 core.absent)) (ap (tree_at old) end ∙ item_tree old items 1 absent) in
    rw c.if-asking.true (subst (λ (x : Core). IfOk c.asked_of_form.result (Asks old (trees c.asked_of_form.new.self) (now x))) eq c.asked_of_form.ensures.asks)

pub returns-clause-asks : goal.returns-clause-asks
unfolding over_cores
returns-clause-asks c =
    let old = trees c.args.self.now in
    let items = c.args.asking.items.items in
    let absent : tree_at old 1 ≡ core.absent = absent_tree _ c.args.self.now.has_firsts in
    let first : c.item_at-first.result ≡ slice_index_or items 0 1 = cc in
    let object = tree_at old c.args.asking.object in
    let eq : core.index c.args.place object (tree_at old c.item_at-first.result) ≡ core.index c.args.place object (slice_index_or (map (tree_at old) items) 0 core.absent) =
    ap (core.index c.args.place object) (ap (tree_at old) first ∙ item_tree old items 0 absent) in
    rw c.if-asking.false (subst (λ (x : Core). IfOk c.asked_of_form-else-asking.result (Asks old (trees c.asked_of_form-else-asking.new.self) (now x))) eq c.asked_of_form-else-asking.ensures.asks)
