use Rattle.std.proofs.Common.{sym, subst, ap}
use Rattle.std.specs.Prelude.{◌≡◌, IfOk}
use Rattle.air_form.specs.Denote.{air_at, as_scalar}
use Rattle.air_form.proofs.Trees.{node_tree}
use Rattle.elab_form.specs.Code.{scalar_code}
use Rattle.wasm_gen.specs.Pieces.{onto, so_far}
use Rattle.wasm_gen.proofs.Nodes.{no-node, node-known}
use Rattle.wasm_gen.proofs.scalar.push_scalar.Goals as goal

pub push_scalar_node-requires-clause-node : goal.push_scalar_node-requires-clause-node
push_scalar_node-requires-clause-node g c = node-known _ c.args.body.now.nodes _ _ c.requires.body.nodes (sym c.in-Some.ensures.node)

pub returns-in-Some-clause-code : goal.returns-in-Some-clause-code
returns-in-Some-clause-code g c =
    let known = g.P.Keys.known c.args.p.now in
    let nodes = c.args.body.now.nodes in
    subst (λ x. IfOk c.push_scalar_node.result (λ has. so_far has c.push_scalar_node.new.code.items ≡ onto c.args.code.now.items (scalar_code (as_scalar x))))
    (sym (node_tree known nodes c.args.at c.in-Some.node.now c.in-Some.ensures.earlier (sym c.in-Some.ensures.node)))
    (c.push_scalar_node.ensures.code (air_at known nodes))

pub returns-in-None-clause-code : goal.returns-in-None-clause-code
returns-in-None-clause-code g c =
    ap (λ x. onto c.args.code.now.items (scalar_code (as_scalar x))) (sym (no-node (g.P.Keys.known c.args.p.now) c.args.body.now.nodes c.args.at (sym c.in-None.ensures.node)))
