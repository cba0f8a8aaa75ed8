use Rattle.std.proofs.Common.{◌≡◌, ℕ, List, map, take}
use Rattle.std.specs.List.{range_with_len}
use Rattle.zir_form.specs.Names.{first_with, first_name}
use Rattle.zir_form.specs.Places.{place_in}
use Rattle.zir_form.proofs.names.Names.of.Given as goal

-- the map has the names of the tokens so far
abbrev pub invariant-loop-i : goal.invariant-loop-i
invariant-loop-i l = record {
  places : (name : List ℕ) → place_in l.places name ≡ first_with l.text (take l.i l.tokens) name;
  firsts : l.firsts.items ≡ map (first_name l.text l.tokens) (range_with_len 0 l.i);
}
