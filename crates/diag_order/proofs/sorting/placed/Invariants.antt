use Rattle.std.proofs.Common.{◌≡◌, ◌++◌, map, reverse, vec_len}
use Rattle.std.specs.Prelude.{All}
use Rattle.diag_order.specs.Sorted.{line_of, IsInFile}
use Rattle.diag_order.specs.Last.{last_text, IsPlace}
use Rattle.diag_order.proofs.sorting.placed.Given as goal

abbrev pub invariant-loop-diag : goal.invariant-loop-diag
invariant-loop-diag l = record {
  done : l.lines.items ++ map (line_of l.texts) (reverse l.list.items) ≡ map (line_of l.texts) (reverse l.fn.list.items);
  left : All (IsInFile l.texts) l.list.items;
  file : l.last.0.now ≡ last_text l.texts l.lines.items;
  place : IsPlace l.last.0.now l.last.1;
}

abbrev pub decreases-loop-diag : goal.decreases-loop-diag
decreases-loop-diag l = vec_len l.list
