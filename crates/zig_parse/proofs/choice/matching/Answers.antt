use Rattle.std.proofs.Common.{sym, ◌∙◌, arith, ap, map}
use Rattle.zig_tree.specs.Productions.{alternative}
use Rattle.zig_parse.proofs.Steps.{matching_here, matching_end, left_whole}
use Rattle.zig_parse.proofs.choice.matching.Goals as goal

pub returns-then-holds : goal.returns-then-holds
returns-then-holds c =
    ap (map alternative) (left_whole c.loop-i.i c.args.productions.now)
    ∙ sym (matching_here c.args.look c.args.productions.now c.loop-i.i _ c.loop-i-test.true (sym c.holds.ensures ∙ c.if-holds.true))
    ∙ c.loop-i.invariant

pub returns : goal.returns
returns c = sym (matching_end c.args.look c.args.productions.now c.loop-i.i (omega arith)) ∙ c.loop-i.invariant
