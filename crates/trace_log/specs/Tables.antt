-- Which values stand in a table, by their numbers.
use Rattle.std.specs.Prelude.{◌≡◌, ℕ, ◌==◌, ◌/◌, ◌%◌, ◌-◌, Option, Some, None, if◌then◌else◌}
use Rattle.std.specs.declared.alloc.Global.{Global}
use Rattle.std.specs.declared.sync.Arc.{Arc}
use Rattle.trace_log.specs.declared.tables.table.Node.{Node, fold-Node}
use Rattle.trace_log.specs.declared.tables.table.Node.TheOpen as layer
use Rattle.trace_log.specs.declared.tables.table.Node.TheOpen.{Node-F}

-- what stands at a number in the tree of a link, where its trees are read so
abbrev pub linked : {T : Type 0} → Option (Arc (ℕ → Option T) Global) → ℕ → Option T
linked None number = None
linked (Some node) number = node.value number

-- Number 0 stands in the fork itself, an odd one 2 n + 1 as n in one tree, an even one 2 n + 2 as n in the other.
abbrev pub forked : {T : Type 0} → Option T → (ℕ → Option T) → (ℕ → Option T) → ℕ → Option T
forked here odd even number = if number == 0 then here else if number % 2 == 1 then odd (number / 2) else even (number / 2 - 1)

abbrev pub layer_get : {T : Type 0} → Node-F T (ℕ → Option T) → ℕ → Option T
layer_get (layer.One own value) number = if number == own then Some value else None
layer_get (layer.Fork here odd even) number = forked here (linked odd) (linked even) number

-- what stands at a number in a tree
abbrev pub node_get : {T : Type 0} → Node T → ℕ → Option T
node_get {T} = fold-Node T (ℕ → Option T) layer_get

-- what stands at a number in the tree of a link
abbrev pub link_get : {T : Type 0} → Option (Arc (Node T) Global) → ℕ → Option T
link_get None number = None
link_get (Some node) number = node_get node.value number

-- one value stands at a number now, and every other number has what it had
abbrev pub PutsAt : {T : Type 0} → (ℕ → Option T) → (ℕ → Option T) → ℕ → Option T → Type 0
PutsAt old new number value = (n : ℕ) → new n ≡ (if n == number then value else old n)
