use Rattle.std.proofs.Common.{arith}
use Rattle.zw_bytes.proofs.LebLemmas.{unsigned_room}
use Rattle.zw_bytes.proofs.buffer.ByteBuf.put_u32.Goals as goal

pub put_groups-requires-clause-room : goal.put_groups-requires-clause-room
put_groups-requires-clause-room c = omega (arith, unsigned_room c.from.result)
