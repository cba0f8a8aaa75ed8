-- The place behind, by what stands in the table.
use Rattle.std.proofs.Common.{◌∙◌}
use Rattle.pointer_cycles.proofs.Pointers.{after-some, after-none}
use Rattle.pointer_cycles.proofs.walks.place_after.Goals as goal

pub returns-in-Some : goal.returns-in-Some
returns-in-Some c = c.min.ensures ∙ after-some c.args.next.now c.args.place c.in-Some.behind c.requires c.in-Some.is

pub returns-in-None : goal.returns-in-None
returns-in-None c = after-none c.args.next.now c.args.place c.requires c.in-None.is
