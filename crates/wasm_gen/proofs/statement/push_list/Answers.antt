use Rattle.std.proofs.Common.{sym, ap, ◌∙◌}
use Rattle.type_form.proofs.MeansLemmas.{Grows-trans}
use Rattle.air_form.proofs.Trees.{IsBody-grows}
use Rattle.wasm_gen.specs.Pieces.{so_far}
use Rattle.wasm_gen.proofs.Steps.{list-goes, list-ends, list-done}
use Rattle.wasm_gen.proofs.statement.push_list.Goals as goal

pub push_statement-requires-clause-body : goal.push_statement-requires-clause-body
push_statement-requires-clause-body g c = IsBody-grows _ _ _ c.loop-statement.invariant.reads.grows c.requires.body

pub returns-then-not-branch-clause-code : goal.returns-then-not-branch-clause-code
returns-then-not-branch-clause-code g c =
    list-ends _ _ c.loop-statement.invariant.reads.grows c.args.body.now.nodes c.requires.body.nodes c.args.statements.now c.loop-statement.statement-index _ c.loop-statement-test.true
    c.args.code.now.items c.loop-statement.code.items c.push_statement.new.code.items _
    (ap (λ b. so_far b c.push_statement.new.code.items) (sym c.if-not-branch.true) ∙ c.in_ok-push_statement.ensures.code)
    c.loop-statement.invariant.code

pub loop-statement-preserved : goal.loop-statement-preserved
loop-statement-preserved g c = record {
  reads = record {
    grows = Grows-trans _ _ _ c.loop-statement.invariant.reads.grows c.push_statement.ensures.reads.grows;
    same_home = c.push_statement.ensures.reads.same_home ∙ c.loop-statement.invariant.reads.same_home;
    same_fulls = c.push_statement.ensures.reads.same_fulls ∙ c.loop-statement.invariant.reads.same_fulls;
  };
  agrees = c.push_statement.ensures.agrees;
  code = list-goes _ _ c.loop-statement.invariant.reads.grows c.args.body.now.nodes c.requires.body.nodes c.args.statements.now c.loop-statement.statement-index _ c.loop-statement-test.true
      c.args.code.now.items c.loop-statement.code.items c.push_statement.new.code.items _
      (ap (λ b. so_far b c.push_statement.new.code.items) (sym c.if-not-branch.false) ∙ c.in_ok-push_statement.ensures.code)
      c.loop-statement.invariant.code;
}

pub returns-clause-code : goal.returns-clause-code
returns-clause-code g c =
    list-done _ _ c.args.statements.now c.loop-statement.statement-index _ _ _ c.loop-statement-test.false c.loop-statement.invariant.code
