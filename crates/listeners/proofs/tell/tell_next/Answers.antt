use Rattle.std.proofs.Common.{refl, inl, inr}
use Rattle.listeners.proofs.tell.tell_next.Goals as goal

pub returns-then-tell-clause-told : goal.returns-then-tell-clause-told
returns-then-tell-clause-told g c =
    (c.in-Some.listener, c.tell.new.listener, c.pop_front.new.self.items, c.in-Some.ensures.items, inl (c.push_back_reserved.ensures.items, refl, c.tell.ensures.heard c.if-tell.true))

pub returns-else-tell-clause-told : goal.returns-else-tell-clause-told
returns-else-tell-clause-told g c =
    (c.in-Some.listener, c.tell.new.listener, c.pop_front.new.self.items, c.in-Some.ensures.items, inr (refl, c.push_reserved.ensures.items, c.tell.ensures.failed c.if-tell.false))
