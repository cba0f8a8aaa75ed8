use Rattle.watch_main.proofs.WriteLemmas.{memory_ends, memory_fault_ends}
use Rattle.watch_main.proofs.answer.write_memory.Goals as goal

pub returns-in-Ok-clause-ends : goal.returns-in-Ok-clause-ends
returns-in-Ok-clause-ends g c answer = memory_ends _ _ answer c.in-Ok.ensures.ok

pub returns-in-Err-clause-ends : goal.returns-in-Err-clause-ends
returns-in-Err-clause-ends g c answer = memory_fault_ends _ _ answer c.in-Err.ensures.err
