use Rattle.std.proofs.Common.{◌≡◌, drop}
use Rattle.zig_tree.specs.TokenTables.{row_at_front}
use Rattle.zig_tree.specs.Written.{written}
use Rattle.zig_tree.proofs.tables.row_at_front.Given as goal

abbrev pub invariant-loop-text : goal.invariant-loop-text
invariant-loop-text l = row_at_front (written (drop l.text-index l.rows)) l.bytes ≡ row_at_front (written l.rows) l.bytes
