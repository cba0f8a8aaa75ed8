-- Which locals a container captures: those of an enclosing function, block or other scope that are
-- mentioned in its text.
use Rattle.std.specs.Prelude.{ℕ, ◌-◌, nat_lt, List, [], ◌∷◌, ◌++◌, length, take, if◌then◌else◌, unwrap_or}
use Rattle.zir_scope.specs.declared.bindings.Binding.{Binding}
use Rattle.zir_scope.specs.declared.captures.Capture.{Capture}
use Rattle.zir_scope.specs.declared.event.Target.{Target}
use Rattle.zir_scope.specs.declared.event.Target.TheVariants as target
use Rattle.zir_scope.specs.declared.event.Event.{Event}
use Rattle.zir_scope.specs.declared.event.Event.TheVariants as event
use Rattle.zir_scope.specs.Bindings.{latest}
use Rattle.zir_scope.specs.Findings.{uses_of}

-- of these containers those that begin behind a token capture a local
unfoldable pub captured : ℕ → ℕ → List ℕ → List Capture
captured since local [] = []
captured since local (c ∷ more) =
    if nat_lt since c then (record { container = c; local = local }) ∷ captured since local more else captured since local more

-- where a local was mentioned last, and else where it is declared
abbrev pub last_seen : List Binding → ℕ → ℕ
last_seen used local = unwrap_or (latest used local) local

-- the containers around a mention that begin behind the last one, or behind the local's declaration,
-- capture it there: to them it is the first mention
abbrev pub captured_at : List ℕ → List Binding → Target → List Capture
captured_at around used (target.Local d) = captured (last_seen used d) d around
captured_at around used (target.Declared c) = []
captured_at around used target.Primitive = []
captured_at around used target.Unknown = []

abbrev pub event_captures : List ℕ → List Binding → Event → List Capture
event_captures around used (event.Mentions t to) = captured_at around used to
event_captures around used _ = []

-- the containers around what follows, the innermost last
abbrev pub around_after : List ℕ → Event → List ℕ
around_after around (event.Opens c) = around ++ c ∷ []
around_after around event.Closes = take (length around - 1) around
around_after around _ = around

unfoldable pub captures_from : List ℕ → List Binding → List Event → List Capture
captures_from around used [] = []
captures_from around used (e ∷ more) = event_captures around used e ++ captures_from (around_after around e) (used ++ uses_of e) more

-- the captures of a file's containers, each at the first mention of the local in the container's text
unfoldable pub captures_of : List Event → List Capture
captures_of events = captures_from [] [] events
