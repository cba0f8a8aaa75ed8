use Rattle.std.proofs.Common.{sym, ap, of_z, arith, ◌∙◌}
use Rattle.std.proofs.lemmas.Int.{ints}
use Rattle.std.proofs.lemmas.Nat.{or_lt}
use Rattle.std.specs.Int.{w128}
use Rattle.int_ops.specs.Bits.{int_bit_at}
use Rattle.int_ops.proofs.BitsOf.{residue_128, signed_128}
use Rattle.int_ops.proofs.Laws.{or_bits}
use Rattle.int_ops.proofs.bits.or.Goals as goal

pub returns-clause-value : goal.returns-clause-value
returns-clause-value c =
    sym (rw (residue_128 c.args.a c.ranges.a, residue_128 c.args.b c.ranges.b)
    (signed_128 _ (or_lt 128 (of_z w128 c.args.a) (of_z w128 c.args.b) (omega (arith, ints)) (omega (arith, ints)))))

pub returns-clause-each_bit : goal.returns-clause-each_bit
returns-clause-each_bit c = λ i. ap (λ z. int_bit_at z i) (returns-clause-value c) ∙ or_bits c.args.a c.args.b i
