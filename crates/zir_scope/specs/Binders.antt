-- Which tokens of a row declare names, and which begin what is changed.
use Rattle.std.specs.Prelude.{ℕ, Bool, true, false, List, [], ◌∷◌, Option, Some, None}
use Rattle.zir_scope.specs.declared.roles.Role.{Role}
use Rattle.zir_scope.specs.declared.roles.Role.TheVariants as role
use Rattle.zir_scope.specs.declared.roles.Mark.{Mark}
use Rattle.zir_scope.specs.declared.roles.Mark.TheVariants as mark
use Rattle.zir_scope.specs.Roles.{role_of, mark_of}
use Rattle.zir_scope.specs.Syntax.{Syntax, nothing, word, node}

-- an identifier at the front of a row, after `comptime` where that leads it
abbrev pub front_name_by : ℕ → Mark → Option ℕ → Option ℕ
front_name_by t mark.Identifier later = Some t
front_name_by t mark.Comptime later = later
front_name_by t _ later = None

unfoldable pub front_name : Syntax → Option ℕ
front_name nothing = None
front_name (word t k more) = front_name_by t (mark_of k) (front_name more)
front_name (node r inside more) = None

-- the token after the first one, where it is an identifier
unfoldable pub second_name : Syntax → Option ℕ
second_name nothing = None
second_name (word t k more) = front_name more
second_name (node r inside more) = None

-- the name of a variable, of a head, or of a function, by its head
unfoldable pub head_name : Syntax → Option ℕ
head_name nothing = None
head_name (word t k more) = None
head_name (node r inside more) = second_name inside

unfoldable pub declared_by : Role → Syntax → Option ℕ
declared_by role.Variable inside = second_name inside
declared_by role.Prototype inside = second_name inside
declared_by role.Function inside = head_name inside
declared_by _ inside = None

-- the name that a declaration declares, after the words that lead it; a block declares none
unfoldable pub declared_name : Syntax → Option ℕ
declared_name nothing = None
declared_name (word t k more) = declared_name more
declared_name (node r inside more) = declared_by (role_of r) inside

-- the name of a local that a statement declares, with `comptime` before it or not
unfoldable pub local_by : Role → Syntax → Option ℕ
local_by role.Variable inside = second_name inside
local_by _ inside = None

abbrev pub comptime_local : Mark → Option ℕ → Option ℕ
comptime_local mark.Comptime later = later
comptime_local _ later = None

unfoldable pub local_name : Syntax → Option ℕ
local_name nothing = None
local_name (word t k more) = comptime_local (mark_of k) (local_name more)
local_name (node r inside more) = local_by (role_of r) inside

-- whether the local is a variable
abbrev pub is_var : Mark → Bool
is_var mark.Var = true
is_var _ = false

unfoldable pub begins_var : Syntax → Bool
begins_var nothing = false
begins_var (word t k more) = is_var (mark_of k)
begins_var (node r inside more) = false

unfoldable pub is_var_local : Syntax → Bool
is_var_local nothing = false
is_var_local (word t k more) = is_var_local more
is_var_local (node r inside more) = begins_var inside

-- names joined, where there is one, to others
abbrev pub joined : Option ℕ → List ℕ → List ℕ
joined None names = names
joined (Some t) names = t ∷ names

-- the names that parts of a row bind: names in bars, and parameters
unfoldable pub bound_by : Role → Syntax → Option ℕ
bound_by role.Name inside = front_name inside
bound_by role.Parameter inside = front_name inside
bound_by _ inside = None

unfoldable pub names_in : Syntax → List ℕ
names_in nothing = []
names_in (word t k more) = names_in more
names_in (node r inside more) = joined (bound_by (role_of r) inside) (names_in more)

-- the names that a node binds for what follows it
abbrev pub binders : Role → Syntax → List ℕ
binders role.Parameter inside = joined (front_name inside) []
binders role.Statement inside = joined (local_name inside) []
binders role.Captures inside = names_in inside
binders role.Prototype inside = names_in inside
binders _ inside = []

-- the declaration of a member, or its field
abbrev pub member_by : Role → Syntax → Option ℕ
member_by role.Declaration inside = declared_name inside
member_by role.Field inside = front_name inside
member_by _ inside = None

unfoldable pub member_name : Syntax → Option ℕ
member_name nothing = None
member_name (word t k more) = None
member_name (node r inside more) = member_by (role_of r) inside

unfoldable pub member_in : Role → Syntax → Option ℕ
member_in role.Member inside = member_name inside
member_in _ inside = None

-- the names of the members of a row, fields included
unfoldable pub members_in : Syntax → List ℕ
members_in nothing = []
members_in (word t k more) = members_in more
members_in (node r inside more) = joined (member_in (role_of r) inside) (members_in more)

-- the declaration of a member; a field is none
abbrev pub declaration_by : Role → Syntax → Option ℕ
declaration_by role.Declaration inside = declared_name inside
declaration_by _ inside = None

unfoldable pub declaration_name : Syntax → Option ℕ
declaration_name nothing = None
declaration_name (word t k more) = None
declaration_name (node r inside more) = declaration_by (role_of r) inside

unfoldable pub declaration_in : Role → Syntax → Option ℕ
declaration_in role.Member inside = declaration_name inside
declaration_in _ inside = None

-- the names of the declarations among the members of a row
unfoldable pub declarations_in : Syntax → List ℕ
declarations_in nothing = []
declarations_in (word t k more) = declarations_in more
declarations_in (node r inside more) = joined (declaration_in (role_of r) inside) (declarations_in more)
