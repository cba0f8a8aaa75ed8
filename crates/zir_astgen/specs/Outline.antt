-- The parts of a file: its declarations, the fields of its containers, and its blocks, each with what is known
-- of the place where it stands.
use Rattle.std.specs.Prelude.{ℕ, List, [], ◌∷◌, ◌++◌, Option, Some, None, if◌then◌else◌}
use Rattle.zig_tree.specs.declared.grammar.Rule.{Rule}
use Rattle.zig_tree.specs.declared.grammar.Rule.TheVariants as rule
use Rattle.zig_tree.specs.Kinds.{is_rule}
use Rattle.zir_scope.specs.declared.roles.Role.{Role}
use Rattle.zir_scope.specs.declared.roles.Role.TheVariants as role
use Rattle.zir_scope.specs.Binders.{front_name, local_name, names_in, joined, declared_name}
use Rattle.zir_scope.specs.Roles.{role_of}
use Rattle.zir_scope.specs.Syntax.{Syntax, nothing, word, node}
use Rattle.zir_astgen.specs.Parts.{lead_of}
use Rattle.zir_astgen.specs.Trees.{is_apart}

-- ---- what a part counts

-- the names that a node declares by itself: a parameter's, a local's, and those in bars
abbrev pub declares : Role → Syntax → List ℕ
declares role.Parameter inside = joined (front_name inside) []
declares role.Statement inside = joined (local_name inside) []
declares role.Captures inside = names_in inside
declares _ inside = []

-- the locals of a part, by the tokens that declare them, in the order of the text; a local's number is its
-- place among them
unfoldable pub own_locals : Syntax → List ℕ
own_locals nothing = []
own_locals (word t k more) = own_locals more
own_locals (node r inside more) =
    if is_apart r then own_locals more else declares (role_of r) inside ++ own_locals inside ++ own_locals more

-- the containers of a declaration, by their keywords, in the order of the text; those in declarations of a
-- container belong to those declarations
unfoldable pub own_containers : Syntax → List ℕ
own_containers nothing = []
own_containers (word t k more) = own_containers more
own_containers (node r inside more) =
    if is_rule r rule.Declaration then own_containers more
    else (if is_rule r rule.Container then lead_of inside ∷ own_containers inside ++ own_containers more
    else own_containers inside ++ own_containers more)

-- ---- where a part stands

-- The container that it is a member of, by its keyword (the file, where it is a member of none, by 0); the
-- tokens that begin the members of the containers around, the file's first; and the declaration that it lies
-- in, by the token of its name, with the containers of that declaration.
pub record Where : Type 0 where
  pub container : ℕ
  pub around : List ℕ
  pub owner : ℕ
  pub containers : List ℕ

-- where the members of a file stand
abbrev pub in_file : Where
in_file = record { container = 0; around = 0 ∷ []; owner = 0; containers = [] }

-- the token that begins the members of a container
unfoldable pub brace_of : Syntax → ℕ
brace_of nothing = 0
brace_of (word t k more) = brace_of more
brace_of (node r inside more) = if is_rule r rule.ContainerBody then lead_of inside else brace_of more

-- where what a container holds stands
abbrev pub into_container : Where → Syntax → Where
into_container w inside = record w { container = lead_of inside; around = w.around ++ brace_of inside ∷ [] }

-- a declaration goes by the token of its name, and a block by its first token
abbrev pub token_or : ℕ → Option ℕ → ℕ
token_or other None = other
token_or other (Some t) = t

unfoldable pub declared_token : Syntax → ℕ
declared_token inside = token_or (lead_of inside) (declared_name inside)

abbrev pub into_declaration : Where → Syntax → Where
into_declaration w inside = record w { owner = declared_token inside; containers = own_containers inside }

-- ---- the parts in order

-- a declaration, or a container with its fields, with what each holds
pub data Entry : Type 0 where
  declares_there : Where → Syntax → Entry
  contains_there : Where → Syntax → Entry

-- what a node is by itself, and where what it holds stands
abbrev pub entry_of : Where → Rule → Syntax → List Entry
entry_of w r inside =
    if is_rule r rule.Declaration then declares_there (into_declaration w inside) inside ∷ []
    else (if is_rule r rule.Container then contains_there (into_container w inside) inside ∷ [] else [])

abbrev pub where_within : Where → Rule → Syntax → Where
where_within w r inside =
    if is_rule r rule.Declaration then into_declaration w inside
    else (if is_rule r rule.Container then into_container w inside else w)

-- the declarations and containers of a row, in the order of the text
unfoldable pub entries : Where → Syntax → List Entry
entries w nothing = []
entries w (word t k more) = entries w more
entries w (node r inside more) = entry_of w r inside ++ entries (where_within w r inside) inside ++ entries w more
