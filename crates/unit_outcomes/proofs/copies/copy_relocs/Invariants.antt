use Rattle.std.proofs.Common.{◌≡◌, take}
use Rattle.unit_outcomes.proofs.copies.copy_relocs.Given as goal

abbrev pub invariant-loop-reloc : goal.invariant-loop-reloc
invariant-loop-reloc l = l.copies.items ≡ take l.reloc-index l.relocs
