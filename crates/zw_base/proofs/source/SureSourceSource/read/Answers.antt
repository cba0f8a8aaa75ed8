use Rattle.std.proofs.Common.{Some, ap}
use Rattle.zw_base.proofs.Sources.{front_and_rest, part_to_end}
use Rattle.zw_base.proofs.source.SureSourceSource.read.Goals as goal

pub returns-clause-left : goal.returns-clause-left
returns-clause-left c = ap (λ x. Some x) (front_and_rest _ _ _ _ _ _ c.self.view_is (part_to_end _ _ _ c.as_slice.ensures) c.give-portion.ensures.given)
