-- Which names are in scope at each place of a file, and what is found there.
use Rattle.std.specs.Prelude.{ℕ, Bool, true, false, not, ◌||◌, nat_eq, List, [], ◌∷◌, ◌++◌, Option, Some, None, slice_get, if◌then◌else◌}
use Rattle.zig_tree.specs.declared.grammar.Rule.{Rule}
use Rattle.zir_scope.specs.declared.roles.Role.{Role}
use Rattle.zir_scope.specs.declared.roles.Role.TheVariants as role
use Rattle.zir_scope.specs.declared.roles.Mark.{Mark}
use Rattle.zir_scope.specs.declared.roles.Mark.TheVariants as mark
use Rattle.zir_scope.specs.declared.facts.Fact.{Fact}
use Rattle.zir_scope.specs.declared.place.Reading.{Reading}
use Rattle.zir_scope.specs.declared.place.Reading.TheVariants as reading
use Rattle.zir_scope.specs.declared.place.Exit.{Exit}
use Rattle.zir_scope.specs.declared.place.Exit.TheVariants as exit
use Rattle.zir_scope.specs.declared.event.Target.{Target}
use Rattle.zir_scope.specs.declared.event.Target.TheVariants as target
use Rattle.zir_scope.specs.declared.event.Sort.{Sort}
use Rattle.zir_scope.specs.declared.event.Sort.TheVariants as sort
use Rattle.zir_scope.specs.declared.event.Event.{Event}
use Rattle.zir_scope.specs.declared.event.Event.TheVariants as event
use Rattle.zir_scope.specs.declared.bindings.Binding.{Binding}
use Rattle.zir_scope.specs.Bindings.{latest}
use Rattle.zir_scope.specs.Roles.{role_of, mark_of}
use Rattle.zir_scope.specs.Syntax.{Syntax, nothing, word, node}
use Rattle.zir_scope.specs.Binders.{second_name, binders, members_in, declarations_in, is_var_local}
use Rattle.zir_scope.specs.Changes.{changes}

-- What holds at a place: the locals in scope, and the declarations of the containers around it, each
-- the latest last; what `break` and `continue` may leave, the innermost last; whether it lies in a
-- function; and of the row that it lies in how its next parts are read, the names that bars or a head
-- bound for them, and what the next loop or block is to leave.
pub record Place : Type 0 where
  pub locals : List Binding
  pub members : List Binding
  pub exits : List Exit
  pub in_function : Bool
  pub reading : Reading
  pub bound : List ℕ
  pub next_exit : Option Exit

abbrev pub name_of : Option Fact → ℕ
name_of None = 0
name_of (Some f) = f.name

-- the name of a token, as the number of the first identifier that has it
unfoldable pub name_at : List Fact → ℕ → ℕ
name_at facts t = name_of (slice_get facts t)

abbrev pub is_primitive_of : Option Fact → Bool
is_primitive_of None = false
is_primitive_of (Some f) = f.is_primitive

unfoldable pub is_primitive_at : List Fact → ℕ → Bool
is_primitive_at facts t = is_primitive_of (slice_get facts t)

-- what a name that is no local and no declaration is
abbrev pub primitive_or_unknown : Bool → Target
primitive_or_unknown true = target.Primitive
primitive_or_unknown false = target.Unknown

abbrev pub declared_or : Option ℕ → Target → Target
declared_or (Some c) later = target.Declared c
declared_or None later = later

abbrev pub local_or : Option ℕ → Target → Target
local_or (Some d) later = target.Local d
local_or None later = later

-- what a name stands for: a local, else a declaration of the innermost container that has one, else a
-- primitive, else nothing
unfoldable pub target_of : List Fact → List Binding → List Binding → ℕ → Target
target_of facts locals members t =
    local_or (latest locals (name_at facts t)) (declared_or (latest members (name_at facts t)) (primitive_or_unknown (is_primitive_at facts t)))

-- a local may have a name that stands for nothing yet
abbrev pub is_unknown : Target → Bool
is_unknown target.Unknown = true
is_unknown (target.Local d) = false
is_unknown (target.Declared c) = false
is_unknown target.Primitive = false

unfoldable pub is_free : List Fact → List Binding → List Binding → ℕ → Bool
is_free facts locals members t = is_unknown (target_of facts locals members t)

abbrev pub binding : List Fact → ℕ → ℕ → Binding
binding facts t value = record { name = name_at facts t; value = value }

-- a name is bound where it is free
unfoldable pub bound_with : List Fact → List Binding → List Binding → ℕ → List Binding
bound_with facts members locals t = if is_free facts locals members t then locals ++ binding facts t t ∷ [] else locals

-- names are bound, one after another
unfoldable pub bind : List Fact → List Binding → List Binding → List ℕ → List Binding
bind facts members locals [] = locals
bind facts members locals (t ∷ more) = bind facts members (bound_with facts members locals t) more

-- a name that is free is declared; another one repeats a name
unfoldable pub declaration : List Fact → Sort → List Binding → List Binding → ℕ → Event
declaration facts s members locals t = if is_free facts locals members t then event.Declares t s else event.Repeats t

-- names are declared, one after another
unfoldable pub declare : List Fact → Sort → List Binding → List Binding → List ℕ → List Event
declare facts s members locals [] = []
declare facts s members locals (t ∷ more) =
    declaration facts s members locals t ∷ declare facts s members (bound_with facts members locals t) more

-- a member may not have the name of an earlier one
abbrev pub is_bound : Option ℕ → Bool
is_bound None = false
is_bound (Some v) = true

unfoldable pub repeated : List Fact → List Binding → List ℕ → List Event
repeated facts earlier [] = []
repeated facts earlier (t ∷ more) =
    if is_bound (latest earlier (name_at facts t)) then event.Repeats t ∷ repeated facts earlier more
    else repeated facts (earlier ++ binding facts t 0 ∷ []) more

-- a container's declarations come into scope, each under the token that begins the members
unfoldable pub with_members : List Fact → ℕ → List Binding → List ℕ → List Binding
with_members facts begin members [] = members
with_members facts begin members (t ∷ more) = with_members facts begin (members ++ binding facts t begin ∷ []) more

-- the token that begins the members of a container; a file's begin at the first token
unfoldable pub first_token : Syntax → ℕ
first_token nothing = 0
first_token (word t k more) = t
first_token (node r inside more) = 0

-- whether a `break` or a `continue` has something to leave: a loop; or with a label the innermost block
-- or loop of that label, which has to be a loop for `continue`
abbrev pub has_label : ℕ → Option ℕ → Bool
has_label l None = false
has_label l (Some m) = nat_eq l m

abbrev pub loop_left : Option ℕ → Option ℕ → Bool → Bool
loop_left None of outer = true
loop_left (Some l) of outer = has_label l of || outer

abbrev pub block_left : Bool → Option ℕ → ℕ → Bool → Bool
block_left on None of outer = outer
block_left on (Some l) of outer = if nat_eq l of then not on else outer

abbrev pub left_by : Bool → Option ℕ → Exit → Bool → Bool
left_by on label exit.Wall outer = false
left_by on label (exit.Loop of) outer = loop_left label of outer
left_by on label (exit.Block of) outer = block_left on label of outer

unfoldable pub is_left : Bool → Option ℕ → Bool → List Exit → Bool
is_left on label outer [] = outer
is_left on label outer (e ∷ more) = is_left on label (left_by on label e outer) more

-- the label behind a `break` or a `continue`
abbrev pub label_by : List Fact → Mark → Option ℕ → Option ℕ
label_by facts mark.Colon (Some t) = Some (name_at facts t)
label_by facts mark.Colon None = None
label_by facts _ later = None

unfoldable pub label_after : List Fact → Syntax → Option ℕ
label_after facts nothing = None
label_after facts (word t k more) = label_by facts (mark_of k) (second_name (word t k more))
label_after facts (node r inside more) = None

abbrev pub strays : Bool → ℕ → List Event
strays true t = []
strays false t = event.Strays t ∷ []

-- an identifier is mentioned where an atom begins
abbrev pub mentioned : List Fact → Place → ℕ → Reading → List Event
mentioned facts p t reading.Atom = event.Mentions t (target_of facts p.locals p.members t) ∷ []
mentioned facts p t _ = []

-- what is found at a token, which others follow
unfoldable pub word_events : List Fact → Place → ℕ → Mark → Syntax → List Event
word_events facts p t mark.Identifier more = mentioned facts p t p.reading
word_events facts p t mark.Try more = strays p.in_function t
word_events facts p t mark.Return more = strays p.in_function t
word_events facts p t mark.Break more = strays (is_left false (label_after facts more) false p.exits) t
word_events facts p t mark.Continue more = strays (is_left true (label_after facts more) false p.exits) t
word_events facts p t _ more = []

-- a new way to read the next parts, with nothing bound
abbrev pub read_as : Reading → Place → Place
read_as r p = record p { reading = r; bound = []; next_exit = None }

-- a label leads the next part
abbrev pub labelled : List Fact → ℕ → Mark → Place → Place
labelled facts t mark.Identifier p = record p { next_exit = Some (exit.Block (name_at facts t)) }
labelled facts t mark.Colon p = p
labelled facts t _ p = read_as reading.Plain p

-- how parts that are not bound are read after a word
abbrev pub after_plain : Mark → Place → Place
after_plain mark.Defer p = read_as reading.Deferred p
after_plain mark.Catch p = read_as reading.Bound p
after_plain mark.Arrow p = read_as reading.Bound p
after_plain mark.Else p = read_as reading.Bound p
after_plain mark.Test p = read_as reading.Function p
after_plain _ p = p

abbrev pub after_head : Mark → Place → Place
after_head mark.RightParen p = record p { reading = reading.Bound }
after_head _ p = p

abbrev pub after_bound : Mark → Place → Place
after_bound mark.Colon p = record p { reading = reading.Turn }
after_bound _ p = p

abbrev pub past_word_by : List Fact → ℕ → Mark → Place → Reading → Place
past_word_by facts t m p reading.Plain = after_plain m p
past_word_by facts t m p reading.Atom = read_as reading.Plain p
past_word_by facts t m p reading.Labelled = labelled facts t m p
past_word_by facts t m p reading.Head = after_head m p
past_word_by facts t m p reading.Bound = after_bound m p
past_word_by facts t m p reading.Turn = after_head m p
past_word_by facts t m p reading.Function = p
past_word_by facts t m p (reading.Parameters must) = p
past_word_by facts t m p reading.Deferred = p

-- what holds after a token
unfoldable pub past_word : List Fact → Place → ℕ → Mark → Place
past_word facts p t m = past_word_by facts t m p p.reading

-- what the names of a node owe
unfoldable pub parameter_sort : Reading → Sort
parameter_sort (reading.Parameters true) = sort.Constant
parameter_sort (reading.Parameters false) = sort.Given
parameter_sort _ = sort.Given

unfoldable pub local_sort : Bool → Sort
local_sort true = sort.Variable
local_sort false = sort.Constant

-- the names that a node declares
unfoldable pub declared : List Fact → Place → Role → Syntax → List Event
declared facts p role.Parameter inside = declare facts (parameter_sort p.reading) p.members p.locals (binders role.Parameter inside)
declared facts p role.Statement inside = declare facts (local_sort (is_var_local inside)) p.members p.locals (binders role.Statement inside)
declared facts p role.Captures inside = declare facts sort.Constant p.members p.locals (binders role.Captures inside)
declared facts p role.Members inside = repeated facts [] (members_in inside)
declared facts p role.Container inside = event.Opens (first_token inside) ∷ []
declared facts p _ inside = []

-- a local is changed where it stands at the base of what a form may change
abbrev pub change_of : Target → List Event
change_of (target.Local d) = event.Changes d ∷ []
change_of (target.Declared c) = []
change_of target.Primitive = []
change_of target.Unknown = []

unfoldable pub changed : List Fact → List Binding → List Binding → List ℕ → List Event
changed facts locals members [] = []
changed facts locals members (t ∷ more) = change_of (target_of facts locals members t) ++ changed facts locals members more

-- what is found behind a node
unfoldable pub end_events : Role → List Event
end_events role.Container = event.Closes ∷ []
end_events _ = []

-- what is bound comes into scope
abbrev pub with_bound : List Fact → Place → Place
with_bound facts p = record p { locals = bind facts p.members p.locals p.bound }

abbrev pub with_exit : Option Exit → Place → Place
with_exit None p = p
with_exit (Some e) p = record p { exits = p.exits ++ e ∷ [] }

-- nothing around is left from within
abbrev pub walled : Bool → Place → Place
walled in_function p = record p { exits = p.exits ++ exit.Wall ∷ []; in_function = in_function }

-- a part that takes what is bound for it: bars and the parts of an `if` or a loop pass it on
abbrev pub enter_bound : List Fact → Role → Place → Place
enter_bound facts role.Captures p = p
enter_bound facts role.Parts p = p
enter_bound facts _ p = with_exit p.next_exit (with_bound facts p)

abbrev pub enter_function : List Fact → Role → Place → Place
enter_function facts role.Block p = walled true (with_bound facts p)
enter_function facts _ p = p

abbrev pub enter_deferred : List Fact → Role → Place → Place
enter_deferred facts role.Captures p = p
enter_deferred facts _ p = walled false (with_bound facts p)

abbrev pub enter_labelled : Role → Place → Place
enter_labelled role.Block p = with_exit p.next_exit p
enter_labelled _ p = p

unfoldable pub entered : List Fact → Role → Place → Reading → Place
entered facts r p reading.Plain = p
entered facts r p reading.Atom = p
entered facts r p reading.Labelled = enter_labelled r p
entered facts r p reading.Head = p
entered facts r p reading.Bound = enter_bound facts r p
entered facts r p reading.Turn = with_bound facts p
entered facts r p reading.Function = enter_function facts r p
entered facts r p (reading.Parameters must) = p
entered facts r p reading.Deferred = enter_deferred facts r p

-- a loop keeps the label before it
abbrev pub label_of : Option Exit → Option ℕ
label_of (Some (exit.Block l)) = Some l
label_of (Some (exit.Loop l)) = None
label_of (Some exit.Wall) = None
label_of None = None

abbrev pub loop_label : Reading → Option Exit → Option ℕ
loop_label reading.Labelled e = label_of e
loop_label _ e = None

abbrev pub looping : Place → Place
looping p = record p { reading = reading.Head; bound = []; next_exit = Some (exit.Loop (loop_label p.reading p.next_exit)) }

abbrev pub is_function : Reading → Bool
is_function reading.Function = true
is_function _ = false

-- the parts of an `if` or a loop take what is bound for them
abbrev pub parts_of : Reading → Place → Place
parts_of reading.Bound p = p
parts_of _ p = read_as reading.Plain p

-- the members of a container come into scope
abbrev pub begun_members : List Fact → Syntax → Place → Place
begun_members facts inside p = read_as reading.Plain (walled false (record p { members = with_members facts (first_token inside) p.members (declarations_in inside) }))

-- a container's tag stands in no function, and nothing around it is left from within
abbrev pub begun_container : Place → Place
begun_container p = read_as reading.Plain (walled false p)

-- how the row of another node is read from its start
abbrev pub begun_by : Role → Place → Place
begun_by role.If p = read_as reading.Head p
begun_by role.While p = looping p
begun_by role.For p = looping p
begun_by role.Parts p = parts_of p.reading p
begun_by role.Function p = read_as reading.Function p
begun_by role.Prototype p = read_as (reading.Parameters (is_function p.reading)) p
begun_by role.Labelled p = read_as reading.Labelled p
begun_by role.Atom p = read_as reading.Atom p
begun_by _ p = read_as reading.Plain p

-- how the row of a node is read from its start, where this much is in scope
unfoldable pub begun : List Fact → Role → Syntax → Place → Place
begun facts role.Members inside p = begun_members facts inside p
begun facts role.Container inside p = begun_container p
begun facts r inside p = begun_by r p

-- what holds at the first part within a node
unfoldable pub within : List Fact → Place → Role → Syntax → Place
within facts p r inside = begun facts r inside (entered facts r p p.reading)

-- a part that has taken what was bound ends it
abbrev pub after_part : Reading → Place → Place
after_part reading.Bound p = read_as reading.Plain p
after_part _ p = p

-- what holds after a node
unfoldable pub past_node : List Fact → Place → Role → Syntax → Place
past_node facts p role.Statement inside = record p { locals = bind facts p.members p.locals (binders role.Statement inside) }
past_node facts p role.Parameter inside = record p { locals = bind facts p.members p.locals (binders role.Parameter inside) }
past_node facts p role.Captures inside = record p { bound = binders role.Captures inside }
past_node facts p role.Prototype inside = record p { bound = binders role.Prototype inside }
past_node facts p _ inside = after_part p.reading p

-- what a node changes, seen from within it
unfoldable pub changes_within : List Fact → Place → Role → Syntax → List Event
changes_within facts p r inside = changed facts p.locals p.members (changes facts r inside)

-- what is found in a row, from a place on
unfoldable pub walk : List Fact → Place → Syntax → List Event
walk facts p nothing = []
walk facts p (word t k more) = word_events facts p t (mark_of k) more ++ walk facts (past_word facts p t (mark_of k)) more
walk facts p (node r inside more) =
    declared facts p (role_of r) inside ++ changes_within facts (within facts p (role_of r) inside) (role_of r) inside
    ++ walk facts (within facts p (role_of r) inside) inside ++ end_events (role_of r)
    ++ walk facts (past_node facts p (role_of r) inside) more

-- what is found in a node and behind it
unfoldable pub visited : List Fact → Place → Role → Syntax → List Event
visited facts p r inside =
    declared facts p r inside ++ changes_within facts (within facts p r inside) r inside ++ walk facts (within facts p r inside) inside ++ end_events r

-- before a file's first token nothing is in scope
abbrev pub outside : Place
outside = record { locals = []; members = []; exits = []; in_function = false; reading = reading.Plain; bound = []; next_exit = None }

-- what is found in a file, by its root and what that holds
unfoldable pub events_of : List Fact → Rule → Syntax → List Event
events_of facts root inside = visited facts outside (role_of root) inside
