use Rattle.std.proofs.Common.{refl}
use Rattle.sema_body.proofs.ControlLemmas.{constant-writes, writes-alone, writes-behind, and-below}
use Rattle.sema_body.proofs.control.constant_behind.Goals as goal

pub put-requires-else-is_empty : goal.put-requires-else-is_empty
put-requires-else-is_empty c = and-below _ _ _ _ _ c.in_ok-constant.ensures.put c.in_ok-constant.ensures.number c.requires

pub returns-then-is_empty-clause-writes : goal.returns-then-is_empty-clause-writes
returns-then-is_empty-clause-writes c = λ k w is.
    writes-alone _ _ _ _ _ _ _ (c.if-is_empty.ensures.0 refl) (constant-writes _ _ _ _ _ _ w is c.in_ok-constant.ensures.put c.in_ok-constant.ensures.number)

pub returns-in_ok-whole-clause-writes : goal.returns-in_ok-whole-clause-writes
returns-in_ok-whole-clause-writes c = λ k w is.
    writes-behind _ _ _ _ _ _ _ _ _ _ (λ none. cc (c.if-is_empty.ensures.1 none)) c.requires c.in_ok-constant.ensures.put
    (constant-writes _ _ _ _ _ _ w is c.in_ok-constant.ensures.put c.in_ok-constant.ensures.number) c.in_ok-whole.ensures.put c.in_ok-whole.ensures.number
