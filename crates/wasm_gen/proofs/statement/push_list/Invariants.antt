use Rattle.std.proofs.Common.{◌≡◌, drop}
use Rattle.type_form.specs.Known.{IsInjective}
use Rattle.type_form.specs.Pool.{Reads}
use Rattle.air_form.specs.Denote.{air_at, list_of}
use Rattle.elab_form.specs.Code.{statements_code}
use Rattle.wasm_gen.specs.Pieces.{onto}
use Rattle.wasm_gen.proofs.statement.push_list.Given as goal

-- the code so far, and behind it that of the statements to come, is the code of all
abbrev pub invariant-loop-statement : goal.invariant-loop-statement
invariant-loop-statement g l =
    let known = g.P.Keys.known in
    let at = air_at (known l.fn.p) l.body.nodes in
    record {
      reads : Reads known g.P.Keys.home g.P.Keys.fulls l.fn.p l.p;
      agrees : IsInjective (known l.p);
      code : onto l.code.items (statements_code (list_of at (drop l.statement-index l.statements))) ≡ onto l.fn.code.items (statements_code (list_of at l.statements));
    }
