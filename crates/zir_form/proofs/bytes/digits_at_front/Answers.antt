use Rattle.std.proofs.Common.{◌≡◌, ◌+◌, ◌*◌, ◌∙◌, min, sym, ap, drop, arith}
use Rattle.zir_form.proofs.Digits.{capped, number_more, number_end, number_done, count_more, count_end, count_done}
use Rattle.zir_form.proofs.bytes.digits_at_front.Goals as goal

pub returns-in-None-clause-number : goal.returns-in-None-clause-number
returns-in-None-clause-number c =
    let ends = number_end c.args.bytes.now c.loop-i.i c.loop-i-test.true c.loop-i.number c.in-None.ensures.exact in
    let e : c.loop-i.number ≡ min c.loop-i.number 0x110000 = omega (arith, c.loop-i.invariant.small) in
    e ∙ ap (λ n. min n 0x110000) (sym ends) ∙ c.loop-i.invariant.number

pub returns-in-None-clause-count : goal.returns-in-None-clause-count
returns-in-None-clause-count c =
    omega (arith, c.loop-i.invariant.count, count_end c.args.bytes.now c.loop-i.i c.loop-i-test.true c.in-None.ensures.exact)

pub loop-i-preserved : goal.loop-i-preserved
loop-i-preserved c =
    let bytes = c.args.bytes.now in
    let i = c.loop-i.i in
    let next = 16 * c.loop-i.number + c.in-Some.digit in
    let more = number_more bytes i c.loop-i-test.true c.loop-i.number c.in-Some.digit c.in-Some.ensures.exact in
    let counted = count_more bytes i c.loop-i-test.true c.in-Some.digit c.in-Some.ensures.exact in
    let same : min c.min-number.result 0x110000 ≡ min next 0x110000 = omega (arith, c.min-number.ensures) in
    record {
      number = capped c.min-number.result next (drop (i + 1) bytes) same ∙ ap (λ n. min n 0x110000) (sym more) ∙ c.loop-i.invariant.number;
      count = omega (arith, counted, c.loop-i.invariant.count);
      small = omega (arith, c.min-number.ensures);
    }

pub returns-clause-number : goal.returns-clause-number
returns-clause-number c =
    let ends = number_done c.args.bytes.now c.loop-i.i c.loop-i.number c.loop-i-test.false in
    let e : c.loop-i.number ≡ min c.loop-i.number 0x110000 = omega (arith, c.loop-i.invariant.small) in
    e ∙ ap (λ n. min n 0x110000) (sym ends) ∙ c.loop-i.invariant.number

pub returns-clause-count : goal.returns-clause-count
returns-clause-count c =
    omega (arith, c.loop-i.invariant.count, count_done c.args.bytes.now c.loop-i.i c.loop-i-test.false)
