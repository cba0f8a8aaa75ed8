use Rattle.std.proofs.Common.{sym, subst, ap}
use Rattle.std.specs.Prelude.{◌≡◌, IfOk}
use Rattle.air_form.specs.Denote.{as_statement}
use Rattle.air_form.proofs.Trees.{node_tree}
use Rattle.elab_form.specs.Code.{statement_code}
use Rattle.wasm_gen.specs.Pieces.{onto, so_far}
use Rattle.wasm_gen.proofs.Nodes.{no-node}
use Rattle.wasm_gen.proofs.statement.push_statement.Goals as goal

pub returns-in-Some-clause-code : goal.returns-in-Some-clause-code
returns-in-Some-clause-code g c =
    let known = g.P.Keys.known c.args.p.now in
    let nodes = c.args.body.now.nodes in
    subst (λ x. IfOk c.push_statement_node.result (λ has. so_far has c.push_statement_node.new.code.items ≡ onto c.args.code.now.items (statement_code (as_statement x))))
    (sym (node_tree known nodes c.args.at c.in-Some.node.now c.in-Some.ensures.earlier (sym c.in-Some.ensures.node)))
    c.push_statement_node.ensures.code

pub returns-in-None-clause-code : goal.returns-in-None-clause-code
returns-in-None-clause-code g c =
    ap (λ x. onto c.args.code.now.items (statement_code (as_statement x))) (sym (no-node (g.P.Keys.known c.args.p.now) c.args.body.now.nodes c.args.at (sym c.in-None.ensures.node)))
