-- What lies around each part of a row, and how the row is read.
use Rattle.std.specs.Prelude.{ℕ, Bool, false, ◌||◌, List, ◌∷◌, Option, Some, None, if◌then◌else◌}
use Rattle.zig_tree.specs.declared.token.TokenKind.{TokenKind}
use Rattle.zig_tree.specs.declared.token.TokenKind.TheVariants as kind
use Rattle.zig_tree.specs.declared.grammar.Rule.{Rule}
use Rattle.zig_tree.specs.declared.grammar.Rule.TheVariants as rule
use Rattle.zig_tree.specs.Kinds.{is_kind, is_rule}
use Rattle.zir_form.specs.Core.{Core}
use Rattle.zir_scope.specs.Syntax.{Syntax}
use Rattle.zir_scope.specs.Scoping.{name_at}
use Rattle.zir_astgen.specs.declared.stage.Layer.{Layer}
use Rattle.zir_astgen.specs.declared.stage.Layer.TheVariants as layer
use Rattle.zir_astgen.specs.declared.stage.Stage.{Stage}
use Rattle.zir_astgen.specs.declared.stage.Stage.TheVariants as stage
use Rattle.zir_astgen.specs.Levels.{Level, level, put_off_in}
use Rattle.zir_astgen.specs.Parts.{begins_with}
use Rattle.zir_astgen.specs.Site.{File}

-- the functions, loops and blocks around a place, the innermost first, and how its row is read
pub record Around : Type 0 where
  pub levels : List Level
  pub stage : Stage

-- ---- behind a token

abbrev pub after_plain : TokenKind → Stage
after_plain k = if is_kind k kind.KeywordDefer || is_kind k kind.KeywordErrdefer then stage.Deferred else stage.Plain

-- an identifier that leads a row before a colon is a label
abbrev pub after_lead : File → ℕ → TokenKind → Stage
after_lead f t k = if is_kind k kind.Identifier then stage.Label (name_at f.facts t) else stage.Plain

abbrev pub after_label : ℕ → TokenKind → Stage
after_label l k = if is_kind k kind.Colon then stage.Label l else stage.Plain

abbrev pub after_head : Option ℕ → TokenKind → Stage → Stage
after_head l k same = if is_kind k kind.RightParen then stage.Bound l else same

abbrev pub after_bound : Option ℕ → TokenKind → Stage
after_bound l k = if is_kind k kind.Colon then stage.Turn l else stage.Bound l

abbrev pub stage_past_token : File → ℕ → TokenKind → Stage → Stage
stage_past_token f t k stage.Plain = after_plain k
stage_past_token f t k stage.Lead = after_lead f t k
stage_past_token f t k (stage.Label l) = after_label l k
stage_past_token f t k (stage.Head l) = after_head l k (stage.Head l)
stage_past_token f t k (stage.Bound l) = after_bound l k
stage_past_token f t k (stage.Turn l) = after_head l k (stage.Turn l)
stage_past_token f t k stage.Deferred = stage.Deferred
stage_past_token f t k stage.Function = stage.Function

unfoldable pub past_token : File → Around → ℕ → TokenKind → Around
past_token f a t k = record a { stage = stage_past_token f t k a.stage }

-- ---- within a node

-- names in bars
unfoldable pub is_bars : Rule → Bool
is_bars r = is_rule r rule.Capture || is_rule r rule.Captures

-- what holds the body of an `if` or a loop and what stands behind `else`
unfoldable pub is_rest : Rule → Bool
is_rest r = is_rule r rule.Rest || is_rule r rule.RestExpression

-- the body of a loop can leave it, and what a `defer` puts off nothing
abbrev pub around_body : Option ℕ → Rule → List Level → List Level
around_body l r levels = if is_bars r || is_rest r then levels else level (layer.Loop l) ∷ levels

abbrev pub around_deferred : Rule → List Level → List Level
around_deferred r levels = if is_bars r then levels else level layer.Wall ∷ levels

abbrev pub around_function : Rule → List Level → List Level
around_function r levels = if is_rule r rule.Block then level layer.Function ∷ levels else levels

abbrev pub levels_into : Rule → List Level → Stage → List Level
levels_into r levels (stage.Bound l) = around_body l r levels
levels_into r levels stage.Deferred = around_deferred r levels
levels_into r levels stage.Function = around_function r levels
levels_into r levels _ = levels

-- a block of its own, with the label before it
abbrev pub block_layer : Stage → Layer
block_layer (stage.Label l) = layer.Labelled l
block_layer _ = layer.Block

abbrev pub loop_label : Stage → Option ℕ
loop_label (stage.Label l) = Some l
loop_label _ = None

-- the body of a loop stands in its parts
abbrev pub rest_stage : Stage → Stage
rest_stage (stage.Bound l) = stage.Bound l
rest_stage _ = stage.Plain

unfoldable pub stage_within : Rule → Stage → Stage
stage_within rule.Body s = stage.Lead
stage_within rule.Primary s = stage.Lead
stage_within rule.WhileStatement s = stage.Head (loop_label s)
stage_within rule.WhileExpression s = stage.Head (loop_label s)
stage_within rule.ForStatement s = stage.Head (loop_label s)
stage_within rule.ForExpression s = stage.Head (loop_label s)
stage_within rule.Rest s = rest_stage s
stage_within rule.RestExpression s = rest_stage s
stage_within rule.Function s = stage.Function
stage_within _ s = stage.Plain

abbrev pub levels_within : Rule → Stage → List Level → List Level
levels_within r s levels = if is_rule r rule.Block then level (block_layer s) ∷ levels else levels

-- what lies around the first part within a node
unfoldable pub within : Around → Rule → Around
within a r = record { levels = levels_within r a.stage (levels_into r a.levels a.stage); stage = stage_within r a.stage }

-- ---- behind a node

abbrev pub stage_past_node : Rule → Stage → Stage
stage_past_node r (stage.Bound l) = if is_bars r then stage.Bound l else stage.Plain
stage_past_node r stage.Lead = stage.Plain
stage_past_node r (stage.Label l) = stage.Plain
stage_past_node r stage.Plain = stage.Plain
stage_past_node r (stage.Head l) = stage.Head l
stage_past_node r (stage.Turn l) = stage.Turn l
stage_past_node r stage.Deferred = stage.Deferred
stage_past_node r stage.Function = stage.Function

-- whether a statement puts something off, and whether for each exit
unfoldable pub is_put_off : Rule → Syntax → Bool
is_put_off r inside =
    if is_rule r rule.Statement then begins_with kind.KeywordDefer inside || begins_with kind.KeywordErrdefer inside else false

abbrev pub levels_past : Rule → Syntax → Core → List Level → List Level
levels_past r inside tree levels =
    if is_put_off r inside then put_off_in (begins_with kind.KeywordDefer inside) tree levels else levels

unfoldable pub past_node : Around → Rule → Syntax → Core → Around
past_node a r inside tree = record { levels = levels_past r inside tree a.levels; stage = stage_past_node r a.stage }
