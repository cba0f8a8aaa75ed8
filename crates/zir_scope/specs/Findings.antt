-- What is wrong with a file's names, by what was found in the order of its text.
use Rattle.std.specs.Prelude.{ℕ, List, [], ◌∷◌, ◌++◌, slice_get, Option, Some, None}
use Rattle.zw_base.specs.declared.diag.DiagCode.{DiagCode}
use Rattle.zw_base.specs.declared.diag.DiagCode.TheVariants.{Undeclared, NameUsed, NeverUsed, NeverChanged, NothingToLeave}
use Rattle.zw_base.specs.declared.diag.Found.{Found}
use Rattle.zw_base.specs.declared.diag.Span.{Span}
use Rattle.zig_tree.specs.declared.token.Token.{Token}
use Rattle.zig_tree.specs.declared.tree.Node.{Node}
use Rattle.zir_scope.specs.declared.bindings.Binding.{Binding}
use Rattle.zir_scope.specs.declared.event.Target.{Target}
use Rattle.zir_scope.specs.declared.event.Target.TheVariants as target
use Rattle.zir_scope.specs.declared.event.Sort.{Sort}
use Rattle.zir_scope.specs.declared.event.Sort.TheVariants as sort
use Rattle.zir_scope.specs.declared.event.Event.{Event}
use Rattle.zir_scope.specs.declared.event.Event.TheVariants as event
use Rattle.zir_scope.specs.Bindings.{latest}
use Rattle.zir_scope.specs.Facts.{facts_of}
use Rattle.zir_scope.specs.Scoping.{events_of}
use Rattle.zir_scope.specs.Syntax.{row_at, rows_of, rule_at}

-- the locals that are mentioned, each with the token that does
abbrev pub use_of : ℕ → Target → List Binding
use_of t (target.Local d) = (record { name = d; value = t }) ∷ []
use_of t (target.Declared c) = []
use_of t target.Primitive = []
use_of t target.Unknown = []

abbrev pub uses_of : Event → List Binding
uses_of (event.Mentions t to) = use_of t to
uses_of _ = []

unfoldable pub uses : List Event → List Binding
uses [] = []
uses (e ∷ more) = uses_of e ++ uses more

-- the locals that may be changed
abbrev pub changes_of : Event → List Binding
changes_of (event.Changes d) = (record { name = d; value = d }) ∷ []
changes_of _ = []

unfoldable pub changes : List Event → List Binding
changes [] = []
changes (e ∷ more) = changes_of e ++ changes more

abbrev pub span_of : Option Token → Span
span_of None = record { start = 0; end = 0 }
span_of (Some t) = t.span

-- a diagnostic at a token
abbrev pub found_at : List Token → DiagCode → ℕ → Found
found_at tokens code t = record { code = code; span = span_of (slice_get tokens t); text = [] }

-- what a local owes that is never among these
abbrev pub unless_found : List Token → DiagCode → ℕ → Option ℕ → List Found
unless_found tokens code t None = found_at tokens code t ∷ []
unless_found tokens code t (Some by) = []

-- a local that is never mentioned is E203, and a variable that is never changed E204
abbrev pub owed : List Token → List Binding → List Binding → ℕ → Sort → List Found
owed tokens used changed t sort.Given = []
owed tokens used changed t sort.Constant = unless_found tokens NeverUsed t (latest used t)
owed tokens used changed t sort.Variable = unless_found tokens NeverUsed t (latest used t) ++ unless_found tokens NeverChanged t (latest changed t)

-- a name that stands for nothing is E201
abbrev pub mention_found : List Token → ℕ → Target → List Found
mention_found tokens t target.Unknown = found_at tokens Undeclared t ∷ []
mention_found tokens t (target.Local d) = []
mention_found tokens t (target.Declared c) = []
mention_found tokens t target.Primitive = []

-- one that is used already is E202, and a keyword with nothing to leave E205
unfoldable pub event_found : List Token → List Binding → List Binding → Event → List Found
event_found tokens used changed (event.Mentions t to) = mention_found tokens t to
event_found tokens used changed (event.Declares t s) = owed tokens used changed t s
event_found tokens used changed (event.Repeats t) = found_at tokens NameUsed t ∷ []
event_found tokens used changed (event.Strays t) = found_at tokens NothingToLeave t ∷ []
event_found tokens used changed _ = []

unfoldable pub found_from : List Token → List Binding → List Binding → List Event → List Found
found_from tokens used changed [] = []
found_from tokens used changed (e ∷ more) = event_found tokens used changed e ++ found_from tokens used changed more

unfoldable pub found_of : List Token → List Event → List Found
found_of tokens events = found_from tokens (uses events) (changes events) events

-- what is found in the order of a file's text, from its root on
unfoldable pub scoped : List ℕ → List Token → List Node → ℕ → List Event
scoped text tokens nodes root = events_of (facts_of text tokens) (rule_at nodes root) (row_at (rows_of tokens nodes) root)

-- the diagnostics of a file's names
unfoldable pub scope_faults : List ℕ → List Token → List Node → ℕ → List Found
scope_faults text tokens nodes root = found_of tokens (scoped text tokens nodes root)
