use Rattle.std.proofs.Common.{ap, ◌∙◌}
use Rattle.std.proofs.lemmas.Result.{err_from_is_err_and}
use Rattle.watch_core.proofs.StageLemmas.{no_tree, with_stages}
use Rattle.watch_core.proofs.front.stages.Goals as goal

pub returns-in_err-tree-clause-stop : goal.returns-in_err-tree-clause-stop
returns-in_err-tree-clause-stop c =
    let p = err_from_is_err_and c.from_residual-in_err-tree.result c.from_residual-in_err-tree.ensures.1 in
    rw (p.1, p.2)
    (no_tree c.args.text.now c.in_ok-list.list.items c.as_slice-tokens.result.now c.in_err-tree.field-0.0 c.in_ok-list.ensures.ok c.as_slice-tokens.ensures.value (c.in_err-tree.ensures.stop c.args.text.now))

pub returns-clause-ok : goal.returns-clause-ok
returns-clause-ok c =
    with_stages c.args.text.now c.in_ok-list.list.items c.as_slice-tokens.result.now c.in_ok-tree.tree.nodes c.in_ok-tree.tree.root
    c.in_ok-scopes.scopes.found c.in_ok-core.core.found c.in_ok-front.front.found c.in_ok-core.core.zir c.in_ok-front-2.front
    c.in_ok-list.ensures.ok c.as_slice-tokens.ensures.value c.in_ok-tree.ensures.ok c.in_ok-tree.ensures.root
    c.in_ok-scopes.ensures.found c.in_ok-core.ensures.found c.in_ok-core.ensures.zir
    c.in_ok-front.ensures.found c.in_ok-front-2.ensures.found (c.in_ok-front-2.ensures.zir ∙ c.in_ok-front.ensures.zir)
