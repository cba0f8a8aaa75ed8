-- Maps beside lists, by which the program searches them.
use Rattle.std.specs.Prelude.{◌≡◌, ℕ, List, [], Option, Some, None, Vec}
use Rattle.std.specs.Ordering.{nat_cmp}
use Rattle.std.specs.BTreeMap.{BTreeMap, get}
use Rattle.std.specs.declared.alloc.Global.{Global}
use Rattle.zir_scope.specs.declared.captures.Capture.{Capture}
use Rattle.zir_scope.specs.declared.event.Event.{Event}
use Rattle.zir_scope.specs.declared.event.Target.{Target}
use Rattle.zir_astgen.specs.Site.{captures_from, mentioned, place_in}

-- the map has the place of each number
pub record AgreePlaces (numbers : List ℕ) (places : BTreeMap ℕ ℕ) : Type 0 where
  pub agree : (n : ℕ) → get nat_cmp places n ≡ place_in numbers n

-- the map has what stands for the name at each token
pub record AgreeTargets (events : List Event) (targets : BTreeMap ℕ Target) : Type 0 where
  pub agree : (t : ℕ) → get nat_cmp targets t ≡ mentioned events t

-- what a map has, where it may have none
abbrev pub items_of : Option (Vec ℕ Global) → List ℕ
items_of None = []
items_of (Some v) = v.items

-- the map has the locals that each container captures
pub record AgreeLocals (captures : List Capture) (locals : BTreeMap ℕ (Vec ℕ Global)) : Type 0 where
  pub agree : (c : ℕ) → items_of (get nat_cmp locals c) ≡ captures_from c captures
