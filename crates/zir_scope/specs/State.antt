-- What scoping has in hand: what is in scope, and what was found so far.
use Rattle.std.specs.Prelude.{◌≡◌, ℕ, List, [], ◌∷◌, ◌++◌, Option, Some, None}
use Rattle.zir_scope.specs.declared.bindings.Binding.{Binding}
use Rattle.zir_scope.specs.declared.place.Exit.{Exit}
use Rattle.zir_scope.specs.declared.place.Context.{Context}
use Rattle.zir_scope.specs.declared.event.Event.{Event}
use Rattle.zir_scope.specs.declared.outline.Outline.{Outline}
use Rattle.zir_scope.specs.declared.scope.Scope.{Scope}
use Rattle.zir_scope.specs.Syntax.{inside_of}
use Rattle.zir_scope.specs.Binders.{names_in}
use Rattle.zir_scope.specs.Scoping.{Place}

pub record Seen : Type 0 where
  pub locals : List Binding
  pub members : List Binding
  pub exits : List Exit
  pub events : List Event

abbrev pub seen : Scope → Seen
seen s = record { locals = s.locals.entries; members = s.members.entries; exits = s.exits.items; events = s.events.items }

-- the names that bars or a head bound for what is to come
abbrev pub bound_of : Outline → Option ℕ → List ℕ
bound_of o None = []
bound_of o (Some n) = names_in (inside_of o n)

-- what holds at a place, by what is in scope and how its row is read
abbrev pub place : Outline → Seen → Context → Place
place o s c = record {
  locals = s.locals;
  members = s.members;
  exits = s.exits;
  in_function = c.in_function;
  reading = c.reading;
  bound = bound_of o c.bound;
  next_exit = c.next_exit;
}

-- a list begins with another
pub record Extends {T : Type 0} (xs ys : List T) : Type 0 where
  pub more : List T
  pub is : ys ≡ xs ++ more

-- what may be left, with one more where there is one
abbrev pub exits_with : Option Exit → List Exit → List Exit
exits_with None exits = exits
exits_with (Some e) exits = exits ++ e ∷ []
