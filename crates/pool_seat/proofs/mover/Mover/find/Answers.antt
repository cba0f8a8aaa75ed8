use Rattle.std.proofs.Common.{◌≡◌, suc, ◌-◌, slice_index, sym, ◌∙◌, arith}
use Rattle.std.proofs.lemmas.List.{get_or_read}
use Rattle.pool_seat.proofs.mover.Mover.find.Goals as goal

pub returns-else-new-eq0-clause-some : goal.returns-else-new-eq0-clause-some
returns-else-new-eq0-clause-some c =
    let x : c.index-new.result.now ≡ slice_index c.args.self.now.table.items c.args.i = get_or_read c.args.self.now.table.items c.args.i c.index-new.result.now c.requires.inside c.index-new.ensures 0 in
    let n = c.if-new-eq0.false in
    let e : c.index-new.result.now ≡ suc (c.index-new.result.now - 1) = omega arith in
    c.requires.mover.listed c.args.i (c.index-new.result.now - 1) (sym x ∙ e)
