use Rattle.std.proofs.Common.{◌≡◌, drop}
use Rattle.zir_form.specs.Primitives.{word_in}
use Rattle.zir_form.specs.Primitives.{written}
use Rattle.zir_form.proofs.primitive.word_in.Given as goal

abbrev pub invariant-loop-text : goal.invariant-loop-text
invariant-loop-text l = word_in (written (drop l.text-index l.rows)) l.name ≡ word_in (written l.rows) l.name
