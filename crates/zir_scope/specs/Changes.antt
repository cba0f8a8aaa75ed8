-- Which names stand at the base of what a form may change: of an assignment's target, of `&`, of
-- slicing, of a method call, and of a capture by pointer.
use Rattle.std.specs.Prelude.{ℕ, Bool, true, false, not, ◌||◌, List, [], ◌∷◌, Option, Some, None, slice_get, if◌then◌else◌}
use Rattle.zir_scope.specs.declared.roles.Role.{Role}
use Rattle.zir_scope.specs.declared.roles.Role.TheVariants as role
use Rattle.zir_scope.specs.declared.roles.Mark.{Mark}
use Rattle.zir_scope.specs.declared.roles.Mark.TheVariants as mark
use Rattle.zir_scope.specs.declared.facts.Fact.{Fact}
use Rattle.zir_scope.specs.Roles.{role_of, mark_of}
use Rattle.zir_scope.specs.Syntax.{Syntax, nothing, word, node}
use Rattle.zir_scope.specs.Binders.{joined}

-- whether the token with this number is the builtin `@field`
abbrev pub is_field_of : Option Fact → Bool
is_field_of None = false
is_field_of (Some f) = f.is_field

unfoldable pub is_field_at : List Fact → ℕ → Bool
is_field_at facts t = is_field_of (slice_get facts t)

-- whether a suffix calls something
abbrev pub is_call : Mark → Bool
is_call mark.LeftParen = true
is_call _ = false

unfoldable pub has_call : Syntax → Bool
has_call nothing = false
has_call (word t k more) = is_call (mark_of k) || has_call more
has_call (node r inside more) = has_call more

-- of an atom that this mark leads: the name itself, or what its parentheses hold first
abbrev pub provided : Bool → Option ℕ → Option ℕ
provided true found = found
provided false found = None

abbrev pub base_led : List Fact → ℕ → Mark → Option ℕ → Option ℕ
base_led facts t mark.Identifier within = Some t
base_led facts t mark.LeftParen within = within
base_led facts t mark.Builtin within = provided (is_field_at facts t) within
base_led facts t _ within = None

unfoldable pub atom_base : List Fact → Syntax → Option ℕ → Option ℕ
atom_base facts nothing within = None
atom_base facts (word t k more) within = base_led facts t (mark_of k) within
atom_base facts (node r inside more) within = None

abbrev pub base_by : List Fact → Role → Syntax → Option ℕ → Option ℕ
base_by facts role.Atom inside within = atom_base facts inside within
base_by facts role.Suffix inside within = provided (not (has_call inside)) within
base_by facts _ inside within = None

-- the name at the base of the first operand of a row: the leftmost name through members, indexes,
-- slices, `.*`, `.?`, parentheses and the first argument of `@field`; a call ends the search
unfoldable pub base : List Fact → Syntax → Option ℕ
base facts nothing = None
base facts (word t k more) = base facts more
base facts (node r inside more) = base_by facts (role_of r) inside (base facts inside)

-- whether a target is assigned to: an operand leads the row and an operator follows it
unfoldable pub is_followed : Syntax → Bool
is_followed nothing = false
is_followed (word t k more) = true
is_followed (node r inside more) = false

unfoldable pub is_assigned : Syntax → Bool
is_assigned nothing = false
is_assigned (word t k more) = false
is_assigned (node r inside more) = is_followed more

-- whether the last operator before an operand is `&`
abbrev pub is_ampersand : Mark → Bool
is_ampersand mark.Ampersand = true
is_ampersand _ = false

unfoldable pub is_addressed : Bool → Syntax → Bool
is_addressed last nothing = false
is_addressed last (word t k more) = is_addressed (is_ampersand (mark_of k)) more
is_addressed last (node r inside more) = last

-- whether a suffix, up to its first call, slices what stands before, or its first call is a method's.
-- What was read last: nothing of note, a name, or an index
abbrev pub after_index : Bool → Mark → Bool → Bool
after_index named mark.Ellipsis later = true
after_index named mark.LeftParen later = named
after_index named _ later = later

abbrev pub is_name_mark : Mark → Bool
is_name_mark mark.Identifier = true
is_name_mark _ = false

unfoldable pub is_taken : Bool → Syntax → Bool
is_taken named nothing = false
is_taken named (word t k more) = after_index named (mark_of k) (is_taken (is_name_mark (mark_of k)) more)
is_taken named (node r inside more) = is_taken false more

-- whether a capture is by pointer
abbrev pub is_asterisk : Mark → Bool
is_asterisk mark.Asterisk = true
is_asterisk _ = false

unfoldable pub has_asterisk : Syntax → Bool
has_asterisk nothing = false
has_asterisk (word t k more) = is_asterisk (mark_of k) || has_asterisk more
has_asterisk (node r inside more) = has_asterisk more

-- whether bars in a row, or in the parts of an `if` or a loop there, capture by pointer
abbrev pub points_by : Role → Syntax → Bool → Bool
points_by role.Captures inside within = has_asterisk inside
points_by role.Parts inside within = within
points_by _ inside within = false

unfoldable pub points : Syntax → Bool
points nothing = false
points (word t k more) = points more
points (node r inside more) = points_by (role_of r) inside (points inside) || points more

-- whether a prong of a switch captures by pointer
unfoldable pub prong_points : Role → Syntax → Bool
prong_points role.Prong inside = points inside
prong_points _ inside = false

unfoldable pub prongs_point : Syntax → Bool
prongs_point nothing = false
prongs_point (word t k more) = prongs_point more
prongs_point (node r inside more) = prong_points (role_of r) inside || prongs_point more

-- whether each name in bars is captured by pointer
abbrev pub flags_by : Bool → Role → List Bool → List Bool
flags_by last role.Name later = last ∷ later
flags_by last _ later = later

unfoldable pub flags : Bool → Syntax → List Bool
flags last nothing = []
flags last (word t k more) = flags (is_asterisk (mark_of k)) more
flags last (node r inside more) = flags_by last (role_of r) (flags false more)

-- those of the bars in a row
abbrev pub bar_flags_by : Role → Syntax → List Bool → List Bool
bar_flags_by role.Captures inside later = flags false inside
bar_flags_by _ inside later = later

unfoldable pub bar_flags : Syntax → List Bool
bar_flags nothing = []
bar_flags (word t k more) = bar_flags more
bar_flags (node r inside more) = bar_flags_by (role_of r) inside (bar_flags more)

-- the bases of those operands of a `for` whose names are captured by pointer
abbrev pub first_flag : List Bool → Bool
first_flag [] = false
first_flag (b ∷ bs) = b

abbrev pub other_flags : List Bool → List Bool
other_flags [] = []
other_flags (b ∷ bs) = bs

abbrev pub is_argument : Role → Bool
is_argument role.ForArgument = true
is_argument _ = false

unfoldable pub argument_bases : List Fact → List Bool → Syntax → List ℕ
argument_bases facts bs nothing = []
argument_bases facts bs (word t k more) = argument_bases facts bs more
argument_bases facts bs (node r inside more) =
    if is_argument (role_of r) then joined (provided (first_flag bs) (base facts inside)) (argument_bases facts (other_flags bs) more)
    else argument_bases facts bs more

-- whether the first operator of a row is a `catch` that captures by pointer
unfoldable pub leads_pointer : Syntax → Bool
leads_pointer nothing = false
leads_pointer (word t k more) = false
leads_pointer (node r inside more) = points_by (role_of r) inside false

abbrev pub catches_by : Mark → Bool → Bool
catches_by mark.Catch led = led
catches_by _ led = false

unfoldable pub is_caught : Syntax → Bool
is_caught nothing = false
is_caught (word t k more) = catches_by (mark_of k) (leads_pointer more)
is_caught (node r inside more) = false

unfoldable pub catches : Syntax → Bool
catches nothing = false
catches (word t k more) = false
catches (node r inside more) = is_caught more

-- whether a node may change what stands at the base of its first operand
unfoldable pub changes_base : Role → Syntax → Bool
changes_base role.Assignment inside = is_assigned inside
changes_base role.Prefix inside = is_addressed false inside
changes_base role.Suffix inside = is_taken false inside
changes_base role.Switch inside = prongs_point inside
changes_base role.If inside = points inside
changes_base role.While inside = points inside
changes_base role.Bit inside = catches inside
changes_base _ inside = false

-- the names at the base of what a node may change
abbrev pub is_for : Role → Bool
is_for role.For = true
is_for _ = false

unfoldable pub changes : List Fact → Role → Syntax → List ℕ
changes facts r inside =
    if is_for r then argument_bases facts (bar_flags inside) inside
    else joined (provided (changes_base r inside) (base facts inside)) []
