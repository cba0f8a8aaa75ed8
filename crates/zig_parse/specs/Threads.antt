-- One way to read the tokens, and how it changes.
use Rattle.std.specs.Prelude.{ℕ, ◌+◌, ◌-◌, ◌^◌, Bool, true, false, not, ◌&&◌, ◌||◌, nat_lt, min, max, List, [], ◌∷◌, ◌++◌, map, length, Option, Some, None, if◌then◌else◌}
use Rattle.zig_tree.specs.declared.grammar.Rule.{Rule}
use Rattle.zig_tree.specs.declared.grammar.Rule.TheVariants as rule
use Rattle.zig_tree.specs.declared.grammar.Group.{Group}
use Rattle.zig_tree.specs.declared.grammar.Group.TheVariants as group
use Rattle.zig_tree.specs.declared.grammar.Part.{Part}
use Rattle.zig_tree.specs.declared.grammar.Part.TheVariants as part
use Rattle.zig_parse.specs.declared.thread.Frame.{Frame}
use Rattle.zig_parse.specs.declared.thread.Item.{Item}
use Rattle.zig_parse.specs.declared.thread.Thread.{Thread}
use Rattle.zig_parse.specs.Stack.{rest, with_first}
use Rattle.zig_tree.specs.declared.tree.TheConstants.{DEPTH_LIMIT}

-- one more, up to the greatest count
abbrev pub one_more : ℕ → ℕ
one_more n = min (n + 1) (2 ^ 32 - 1)

-- whether so many nodes below a node at this depth lie below the 200th
unfoldable pub is_deep : ℕ → ℕ → Bool
is_deep depth height = nat_lt DEPTH_LIMIT (min (depth + height) (2 ^ 32 - 1))

-- whether a rule makes no node where it takes one part and no token of its own
unfoldable pub collapses : Rule → Bool
collapses rule.Or = true
collapses rule.And = true
collapses rule.Compare = true
collapses rule.Bit = true
collapses rule.Shift = true
collapses rule.Add = true
collapses rule.Multiply = true
collapses rule.Prefix = true
collapses rule.Primary = true
collapses rule.IfExpression = true
collapses rule.WhileExpression = true
collapses rule.ForExpression = true
collapses rule.RestExpression = true
collapses rule.TypeExpression = true
collapses rule.TypePrefix = true
collapses rule.Suffix = true
collapses _ = false

-- whether a rule begins with a brace
unfoldable pub is_braced : Rule → Bool
is_braced rule.Block = true
is_braced rule.Initializer = true
is_braced rule.ContainerBody = true
is_braced _ = false

-- whether a group begins with a brace
abbrev pub has_braces : Group → Bool
has_braces group.ErrorBraces = true
has_braces group.SwitchBraces = true
has_braces _ = false

-- whether a brace begins this part, and ends it: the first pass reads it by threads of its own
abbrev pub is_apart : Part → Bool
is_apart (part.Token _) = false
is_apart (part.OneOf _) = false
is_apart (part.Rule r) = is_braced r
is_apart (part.Group g) = has_braces g

-- whether a second part follows the part that this rule derives
unfoldable pub is_never_alone : Rule → Bool
is_never_alone rule.TypePrefix = true
is_never_alone _ = false

-- an open node with one more part, below which so many nodes lie
abbrev pub with_part : ℕ → Frame → Frame
with_part height f = record f { parts = one_more f.parts; height = max f.height height }

-- how many nodes one in the other an open node is as a part
abbrev pub part_height : Frame → ℕ
part_height f = if f.solid then one_more f.height else f.height

-- the innermost node with one more part
abbrev pub gained : ℕ → List Frame → List Frame
gained height [] = []
gained height (f ∷ fs) = with_part height f ∷ fs

-- how many nodes lie one in the other, where all open ones are closed, the innermost of them with a
-- part below which so many lie
unfoldable pub risen : ℕ → List Frame → ℕ
risen height [] = height
risen height (f ∷ fs) = risen (part_height (with_part height f)) fs

-- the innermost node is closed
abbrev pub closed_from : Thread → List Frame → Thread
closed_from t [] = t
closed_from t (f ∷ fs) = record t { frames = gained (part_height f) fs; depth = if f.solid then t.depth - 1 else t.depth }

unfoldable pub closed : Thread → Thread
closed t = closed_from t t.frames

-- the innermost node is made a node, which puts what it has one deeper
unfoldable pub hardened : Frame → Thread → Thread
hardened f t = record t {
  frames = with_first (record f { solid = true }) t.frames;
  depth = one_more t.depth;
  deep = t.deep || is_deep (one_more t.depth) f.height;
}

-- a rule begins in the innermost node: as a second part it makes it a node
abbrev pub met_from : Rule → Thread → List Frame → Thread
met_from r t [] = t
met_from r t (f ∷ fs) = if not f.solid && (nat_lt 0 f.parts || is_never_alone r) then hardened f t else t

unfoldable pub met : Rule → Thread → Thread
met r t = met_from r t t.frames

-- where a part begins that is a rule, the node around it is met
abbrev pub met_part : Part → Thread → Thread
met_part (part.Rule r) t = met r t
met_part (part.Token _) t = t
met_part (part.OneOf _) t = t
met_part (part.Group _) t = t

-- a node is opened
unfoldable pub opened : Rule → Thread → Thread
opened r t = record t {
  frames = (record { rule = r; parts = 0; height = 0; solid = not (collapses r) }) ∷ t.frames;
  depth = if collapses r then t.depth else one_more t.depth;
}

-- a part that is to come where so many nodes are open
abbrev pub item : ℕ → Part → Item
item level p = record { part = p; level = level }

-- parts are put in front of what is to come
unfoldable pub put : List Part → Thread → Thread
put ps t = record t { items = map (item (length t.frames)) ps ++ t.items }

-- the first of what is to come is taken off
abbrev pub passed : Thread → Thread
passed t = record t { items = rest t.items }

-- the first of what is to come, a rule or a group, is replaced by parts
unfoldable pub replaced : Option Rule → List Part → Thread → Thread
replaced None ps t = put ps (passed t)
replaced (Some r) ps t = put ps (opened r (met r (passed t)))

-- a token is read in the innermost node, which is a node from then on
abbrev pub touched_from : Thread → List Frame → Thread
touched_from t [] = t
touched_from t (f ∷ fs) = if f.solid then record t { deep = t.deep || is_deep t.depth 0 } else hardened f t

abbrev pub with_gain : ℕ → Thread → Thread
with_gain height t = record t { frames = gained height t.frames }

unfoldable pub after_read : Thread → Thread
after_read t = with_gain 0 (touched_from (passed t) t.frames)

-- what another thread read for the first of what is to come is there
unfoldable pub received : ℕ → Thread → Thread
received height t = record (with_gain height (passed t)) { deep = t.deep || is_deep t.depth height }

-- choices that were made inside a part come in front
abbrev pub with_choices : List ℕ → Thread → Thread
with_choices inner t = record t { choices = inner ++ t.choices }

-- an open node around a group in braces, which the nodes in the group are put in
abbrev pub surround : Frame
surround = record { rule = rule.Atom; parts = 0; height = 0; solid = true }

-- the thread that reads what a part derives, before a node is opened
unfoldable pub fresh : Part → ℕ → Thread
fresh r d = record { goal = r; items = []; frames = []; depth = d; deep = false; choices = [] }
