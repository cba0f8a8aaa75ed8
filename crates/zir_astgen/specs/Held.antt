-- What one node adds to what a part counts.
use Rattle.std.specs.Prelude.{ℕ, List, [], ◌∷◌, ◌++◌, if◌then◌else◌}
use Rattle.zig_tree.specs.declared.grammar.Rule.{Rule}
use Rattle.zig_tree.specs.declared.grammar.Rule.TheVariants as rule
use Rattle.zig_tree.specs.Kinds.{is_rule}
use Rattle.zir_scope.specs.Roles.{role_of}
use Rattle.zir_scope.specs.Syntax.{Syntax}
use Rattle.zir_astgen.specs.Outline.{declares, own_containers, own_locals}
use Rattle.zir_astgen.specs.Parts.{lead_of}
use Rattle.zir_astgen.specs.Trees.{is_apart}

-- its locals
unfoldable pub locals_of : Rule → Syntax → List ℕ
locals_of r inside = if is_apart r then [] else declares (role_of r) inside ++ own_locals inside

-- its containers
unfoldable pub containers_of : Rule → Syntax → List ℕ
containers_of r inside =
    if is_rule r rule.Declaration then []
    else (if is_rule r rule.Container then lead_of inside ∷ own_containers inside else own_containers inside)
