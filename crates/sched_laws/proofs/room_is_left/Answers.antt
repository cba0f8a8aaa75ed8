use Rattle.sched_laws.proofs.Bounds.{one-more, room-left}
use Rattle.sched_laws.proofs.room_is_left.Goals as goal

pub returns-clause-one_more : goal.returns-clause-one_more
returns-clause-one_more g c = one-more

pub returns-clause-room_left : goal.returns-clause-room_left
returns-clause-room_left g c = room-left
