use Rattle.std.proofs.Common.{sym, ◌∙◌}
use Rattle.zir_same.proofs.SameLemmas.{numbered_form, numbered_none}
use Rattle.zir_same.proofs.same.KnownTrees.number.Goals as goal

pub returns-then-is_missing : goal.returns-then-is_missing
returns-then-is_missing c seen trees i s = numbered_none seen trees c.args.self.now c.args.form.now i (sym c.is_missing.ensures ∙ c.if-is_missing.true)

pub returns : goal.returns
returns c seen trees i s =
    numbered_form seen trees c.args.self.now c.number_of.new.self c.args.numbers.now c.args.form.now _ _ i s (sym c.is_missing.ensures ∙ c.if-is_missing.false) c.in_ok-key.ensures
    (record { number = c.in_ok-number.ensures.number; numbers = c.in_ok-number.ensures.numbers; next = c.in_ok-number.ensures.next })
