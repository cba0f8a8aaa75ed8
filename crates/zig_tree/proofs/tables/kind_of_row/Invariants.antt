use Rattle.std.proofs.Common.{◌≡◌, drop}
use Rattle.zig_tree.specs.TokenTables.{kind_of_row}
use Rattle.zig_tree.specs.Written.{written}
use Rattle.zig_tree.proofs.tables.kind_of_row.Given as goal

abbrev pub invariant-loop-text : goal.invariant-loop-text
invariant-loop-text l = kind_of_row (written (drop l.text-index l.rows)) l.word ≡ kind_of_row (written l.rows) l.word
