-- What is asked of an atom so far, as a writer has it: a line, and lines since the last opening bracket.
use Rattle.std.specs.Prelude.{◌≡◌, ◌<◌, List, [], ◌∷◌, ◌++◌, length, map}
use Rattle.zir_form.specs.Core.{Core}
use Rattle.zir_form.specs.Lines.{tree_at}
use Rattle.zir_astgen.specs.declared.asking.Asking.{Asking}
use Rattle.zir_astgen.specs.Firsts.{AreBelow, Grows}
use Rattle.zir_astgen.specs.Names.{Asked}

-- the same by the trees of the lines
abbrev pub asked_of : List Core → Asking → Asked
asked_of trees a = record { object = tree_at trees a.object; items = map (tree_at trees) a.items.items; ranged = a.ranged }

-- some lines more, and what is asked then, its lines among them
pub record Asks (old now : List Core) (asked : Asked) (a : Asking) : Type 0 where
  pub grows : Grows old now
  pub object : a.object < length now
  pub items : AreBelow (length now) a.items.items
  pub is : asked_of now a ≡ asked

-- one expression more in brackets or parentheses
abbrev pub with_item : Asked → Core → Asked
with_item a tree = record a { items = a.items ++ tree ∷ [] }
