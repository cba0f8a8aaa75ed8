use Rattle.std.proofs.Common.{sym, subst, List, IfErr}
use Rattle.pool_words.specs.Layout.{Row}
use Rattle.pool_shard.specs.Looks.{HasNot}
use Rattle.pool_shard.proofs.Sharing.{reader_log}
use Rattle.pool_shard.proofs.writer.Writer.intern.Goals as goal

pub returns-clause-absent : goal.returns-clause-absent
returns-clause-absent g c = subst (λ (l : List Row). IfErr c.intern_own-answer.result (λ e. HasNot l c.args.key.now)) (sym (reader_log c.intern_own-answer.new.seat c.copy.result c.copy.ensures.reads)) c.intern_own-answer.ensures.absent
