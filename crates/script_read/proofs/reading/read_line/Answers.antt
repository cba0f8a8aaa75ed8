use Rattle.std.proofs.Common.{arith}
use Rattle.std.proofs.lemmas.Result.{err_from_is_err_and}
use Rattle.script_read.proofs.LineReads.{line_fault, line_whole}
use Rattle.script_read.proofs.reading.read_line.Goals as goal

pub returns-in_err-read_byte-clause-told : goal.returns-in_err-read_byte-clause-told
returns-in_err-read_byte-clause-told g c =
    let p = err_from_is_err_and c.from_residual.result c.from_residual.ensures.1 in
    rw (p.1, p.2) (line_fault (λ v. v.items) c.args.most _ _ c.loop.line.items (rw c.in_err-read_byte.ensures.left at c.loop.invariant.left) c.loop.invariant.none (omega arith))

pub returns-in-Some-eq10-clause-told : goal.returns-in-Some-eq10-clause-told
returns-in-Some-eq10-clause-told g c =
    line_whole (λ v. v.items) c.args.most _ _ _ c.loop.line c.loop.invariant.left (rw (c.in-Some-eq10.is, c.in-Some-eq10.field-0-test) at c.in_ok-read_byte.ensures.left) c.loop.invariant.none (omega arith)
