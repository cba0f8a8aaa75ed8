use Rattle.std.proofs.Common.{List, sym, ◌∙◌, ap}
use Rattle.std.specs.Prelude.{reverse}
use Rattle.zig_parse.specs.declared.thread.Item.{Item}
use Rattle.zig_parse.specs.Stack.{rest}
use Rattle.zig_parse.specs.Moves.{same_parts}
use Rattle.zig_parse.proofs.Steps.{covers_below, covers_not}
use Rattle.zig_parse.proofs.thread.covers_items.Goals as goal

pub returns-then-covers : goal.returns-then-covers
returns-then-covers c =
    c.same_items.ensures
    ∙ ap (λ (l : List Item). same_parts l c.below-then-covers.result.now) c.below.ensures
    ∙ ap (λ (l : List Item). same_parts (reverse (rest c.args.a.now)) l) c.below-then-covers.ensures
    ∙ sym (covers_below _ _ _ _ c.in-Some-Some.ensures c.in-Some-Some.ensures' (sym c.covers.ensures ∙ c.if-covers.true))

pub returns-else-covers : goal.returns-else-covers
returns-else-covers c = c.if-covers.false ∙ sym (covers_not _ _ _ _ c.in-Some-Some.ensures c.in-Some-Some.ensures' (sym c.covers.ensures ∙ c.if-covers.false))
