-- The core tree of a node: one case for each rule of the grammar, over the trees of what the node holds, and
-- a separate context, which is passed down.
use Rattle.std.specs.Prelude.{ℕ, Bool, ◌||◌, List, [], if◌then◌else◌}
use Rattle.zig_tree.specs.declared.token.TokenKind.{TokenKind}
use Rattle.zig_tree.specs.declared.grammar.Rule.{Rule}
use Rattle.zig_tree.specs.declared.grammar.Rule.TheVariants as rule
use Rattle.zig_tree.specs.Kinds.{is_rule}
use Rattle.zir_form.specs.Core.{Core}
use Rattle.zir_form.specs.Core as core
use Rattle.zir_scope.specs.Syntax.{Syntax, nothing, word, node}
use Rattle.zir_astgen.specs.declared.stage.Stage.TheVariants as stage
use Rattle.zir_astgen.specs.Chains.{made_chain, made_prefix, made_type}
use Rattle.zir_astgen.specs.Control.{made_capture, made_captures, made_for, made_for_argument, made_if, made_item, made_name, made_primary, made_prong, made_rest, made_switch, made_while}
use Rattle.zir_astgen.specs.Levels.{Level}
use Rattle.zir_astgen.specs.Names.{made_atom, made_suffix, made_values}
use Rattle.zir_astgen.specs.Parts.{Parts, ended, token, part, first_of, first_tree, lead_of}
use Rattle.zir_astgen.specs.Site.{File, Site}
use Rattle.zir_astgen.specs.Stages.{Around, past_node, past_token, within}
use Rattle.zir_astgen.specs.Statements.{container_at, made_assignment, made_block, made_body, made_container, made_field, made_members, made_parameter, made_prototype, made_statement, made_variable}

-- the tree of a node of a rule, by what lies around its start and its end, and the trees of what it holds
unfoldable pub made_by : File → Site → List Level → List Level → Rule → Parts → Core
made_by f s levels behind rule.Root parts = core.missing
made_by f s levels behind rule.Member parts = first_tree parts
made_by f s levels behind rule.Field parts = made_field f s parts
made_by f s levels behind rule.Declaration parts = core.missing
made_by f s levels behind rule.Variable parts = made_variable f s parts
made_by f s levels behind rule.Prototype parts = made_prototype f s parts
made_by f s levels behind rule.Function parts = core.missing
made_by f s levels behind rule.Parameter parts = made_parameter f s parts
made_by f s levels behind rule.Block parts = made_block f s behind parts
made_by f s levels behind rule.Statement parts = made_statement f s parts
made_by f s levels behind rule.Body parts = made_body f s parts
made_by f s levels behind rule.IfStatement parts = made_if f s parts
made_by f s levels behind rule.WhileStatement parts = made_while f s parts
made_by f s levels behind rule.ForStatement parts = made_for f s parts
made_by f s levels behind rule.Rest parts = made_rest f s parts
made_by f s levels behind rule.ForArgument parts = made_for_argument f s parts
made_by f s levels behind rule.Captures parts = made_captures parts
made_by f s levels behind rule.Capture parts = made_capture parts
made_by f s levels behind rule.Name parts = made_name f s parts
made_by f s levels behind rule.Assignment parts = made_assignment f s parts
made_by f s levels behind rule.Or parts = made_chain f s parts
made_by f s levels behind rule.And parts = made_chain f s parts
made_by f s levels behind rule.Compare parts = made_chain f s parts
made_by f s levels behind rule.Bit parts = made_chain f s parts
made_by f s levels behind rule.Shift parts = made_chain f s parts
made_by f s levels behind rule.Add parts = made_chain f s parts
made_by f s levels behind rule.Multiply parts = made_chain f s parts
made_by f s levels behind rule.Prefix parts = made_prefix f s levels parts
made_by f s levels behind rule.Primary parts = made_primary f s levels parts
made_by f s levels behind rule.IfExpression parts = made_if f s parts
made_by f s levels behind rule.WhileExpression parts = made_while f s parts
made_by f s levels behind rule.ForExpression parts = made_for f s parts
made_by f s levels behind rule.RestExpression parts = made_rest f s parts
made_by f s levels behind rule.TypeExpression parts = made_type f s parts
made_by f s levels behind rule.TypePrefix parts = first_tree parts
made_by f s levels behind rule.Suffix parts = made_suffix f s parts
made_by f s levels behind rule.Atom parts = made_atom f s parts
made_by f s levels behind rule.Initializer parts = made_values f parts
made_by f s levels behind rule.Container parts = made_container f s parts
made_by f s levels behind rule.ContainerBody parts = made_members parts
made_by f s levels behind rule.Switch parts = made_switch f s parts
made_by f s levels behind rule.Prong parts = made_prong f s parts
made_by f s levels behind rule.Item parts = made_item f s parts

-- what is in parts of its own: containers, and the declarations among the members of one
unfoldable pub is_apart : Rule → Bool
is_apart r = is_rule r rule.Container || is_rule r rule.Declaration

-- what stands for it in the part around
unfoldable pub apart : File → Site → Rule → Syntax → Core
apart f s r inside = if is_rule r rule.Container then container_at f s (lead_of inside) else core.absent

-- the parts of a row, and what lies around its end
pub record Walked : Type 0 where
  pub parts : Parts
  pub behind : Around

abbrev pub past : ℕ → TokenKind → Walked → Walked
past t k w = record { parts = token t k w.parts; behind = w.behind }

abbrev pub over : Rule → Syntax → ℕ → Core → Walked → Walked
over r inside first tree w = record { parts = part r inside first tree w.parts; behind = w.behind }

-- the tree of a node with what it holds
abbrev pub made : File → Site → Around → Rule → Walked → Core
made f s a r w = made_by f s a.levels w.behind.levels r w.parts

-- the parts of a row, from a place on
unfoldable pub walk : File → Site → Around → Syntax → Walked
walk f s a nothing = record { parts = ended; behind = a }
walk f s a (word t k more) = past t k (walk f s (past_token f a t k) more)
walk f s a (node r inside more) =
    if is_apart r then over r inside (lead_of inside) (apart f s r inside) (walk f s (past_node a r inside (apart f s r inside)) more)
    else over r inside (first_of (walk f s (within a r) inside).parts) (made f s (within a r) r (walk f s (within a r) inside))
    (walk f s (past_node a r inside (made f s (within a r) r (walk f s (within a r) inside))) more)

-- before a part's first token nothing lies around
abbrev pub at_start : Around
at_start = record { levels = []; stage = stage.Plain }

-- before the body of a function its head stands
abbrev pub at_body : Around
at_body = record { levels = []; stage = stage.Function }

-- the tree of a node at a place of a part
unfoldable pub tree_at : File → Site → Around → Rule → Syntax → Core
tree_at f s a r inside = made f s (within a r) r (walk f s (within a r) inside)
