use Rattle.std.proofs.Common.{List, ℕ, ◌+◌, take, sym, subst}
use Rattle.zir_same.specs.Same.{Stand}
use Rattle.zir_same.proofs.SameLemmas.{line_more, numbered_begun, numbered_line}
use Rattle.zir_same.proofs.same.KnownTrees.numbers.Goals as goal

pub loop-form-init : goal.loop-form-init
loop-form-init c seen i = numbered_begun seen c.args.self.now c.new-numbers.result.items c.new-numbers.ensures.items i

pub loop-form-preserved : goal.loop-form-preserved
loop-form-preserved c seen i =
    let at = c.loop-form.line in
    let f = c.in-Some.form.now in
    let lines = c.args.lines.now in
    numbered_line seen c.loop-form.self c.number.new.self (take at lines) (take (at + 1) lines) f c.loop-form.numbers.items c.push.new.self.items c.in_ok-number.number
    (c.loop-form.invariant seen i)
    (λ s t k st. c.in_ok-number.ensures s t k (subst (λ (ns : List ℕ). Stand s t ns) (sym c.as_slice.ensures.value) st))
    c.in_ok-push.ensures.items (line_more lines at f (sym c.in-Some.ensures))
