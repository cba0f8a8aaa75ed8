use Rattle.zir_scope.specs.Syntax.{inside_of, row_in}
use Rattle.zir_scope.proofs.Trees.{found_row, found_kids, missing_row}
use Rattle.zir_scope.proofs.outline.Outline.kids.Goals as goal

pub returns-in-Some-clause-row : goal.returns-in-Some-clause-row
unfolding row_in inside_of
returns-in-Some-clause-row c =
    found_row _ _ c.args.node _ _ c.args.self.now.kids_are_earlier c.in-Some.ensures.lookup.0 c.in-Some.ensures.lookup.1 c.as_slice.ensures

pub returns-in-Some-clause-earlier : goal.returns-in-Some-clause-earlier
returns-in-Some-clause-earlier c =
    found_kids _ c.args.node _ _ c.args.self.now.kids_are_earlier c.in-Some.ensures.lookup.0 c.in-Some.ensures.lookup.1 c.as_slice.ensures

pub returns-in-None-clause-row : goal.returns-in-None-clause-row
unfolding row_in inside_of
returns-in-None-clause-row c = missing_row _ _ c.args.node c.in-None.ensures.lookup.3
