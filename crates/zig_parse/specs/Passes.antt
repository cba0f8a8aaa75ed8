-- The first pass over tokens: every way to read them, until one way is left or none.
use Rattle.std.specs.Prelude.{ℕ, ◌-◌, Bool, true, false, not, ◌&&◌, ◌||◌, nat_eq, min, List, [], ◌∷◌, ◌++◌, length, slice_set, Option, Some, None, is_some, if◌then◌else◌}
use Rattle.std.specs.Borrow.{Bor}
use Rattle.zig_tree.specs.declared.token.TokenKind.TheVariants.{RightBrace}
use Rattle.zig_tree.specs.declared.grammar.Rule.TheVariants as rule
use Rattle.zig_tree.specs.declared.grammar.Group.TheVariants as group
use Rattle.zig_tree.specs.declared.grammar.Part.{Part}
use Rattle.zig_tree.specs.declared.grammar.Part.TheVariants as part
use Rattle.zig_tree.specs.Kinds.{is_kind, is_part}
use Rattle.zig_tree.specs.Grammar.{group_rows, rule_rows}
use Rattle.zig_parse.specs.declared.choice.Look.{Look}
use Rattle.zig_parse.specs.declared.thread.Thread.{Thread}
use Rattle.zig_parse.specs.declared.survey.Finished.{Finished}
use Rattle.zig_parse.specs.declared.survey.Verdict.{Verdict}
use Rattle.zig_parse.specs.declared.survey.Verdict.TheVariants as verdict
use Rattle.zig_parse.specs.Choices.{choices}
use Rattle.zig_parse.specs.Threads.{after_read, fresh, met_part, opened, put, received, risen, surround, with_choices}
use Rattle.zig_parse.specs.Moves.{goes_as_far, waits_for}
use Rattle.zig_tree.specs.declared.tree.TheConstants.{DEPTH_LIMIT}

-- the alternatives of a part that are taken
abbrev pub part_choices : Look → Part → List (List Part)
part_choices look (part.Rule r) = choices look (rule_rows r)
part_choices look (part.Group g) = choices look (group_rows g)
part_choices look (part.Token _) = []
part_choices look (part.OneOf _) = []

-- the innermost node while a part is read: one of its own for a rule, the one around for a group
abbrev pub enclosed : Part → Thread → Thread
enclosed (part.Rule r) t = opened r t
enclosed (part.Group _) t = record t { frames = surround ∷ t.frames }
enclosed (part.Token _) t = t
enclosed (part.OneOf _) t = t

-- the thread that reads what a part derives, from the parts of the one alternative that is taken
abbrev pub begun_by : List (List Part) → Thread → Thread
begun_by [] t = t
begun_by (p ∷ []) t = put p t
begun_by (p ∷ q ∷ _) t = t

unfoldable pub begun : Look → Part → ℕ → Thread
begun look goal depth = begun_by (part_choices look goal) (enclosed goal (fresh goal depth))

-- whether a thread waits for a part
abbrev pub is_wanted : Option Part → Part → Bool
is_wanted None goal = false
is_wanted (Some p) goal = is_part p goal

unfoldable pub wants : Thread → Part → Bool
wants t goal = is_wanted (waits_for t) goal

-- a thread that waits, with the node around the brace made one where a part came before
abbrev pub waiting_by : Option Part → Thread → List Thread
waiting_by None t = []
waiting_by (Some p) t = met_part p t ∷ []

-- the threads that wait
unfoldable pub those_waiting : List Thread → List Thread
those_waiting [] = []
those_waiting (t ∷ ts) = waiting_by (waits_for t) t ++ those_waiting ts

-- whether one does
unfoldable pub any_waits : List Thread → Bool
any_waits [] = false
any_waits (t ∷ ts) = is_some (waits_for t) || any_waits ts

-- how deep the node around the brace lies, where no token lies too deep
abbrev pub depth_for : Thread → ℕ
depth_for t = if t.deep then DEPTH_LIMIT else t.depth

abbrev pub least_with : ℕ → Option ℕ → ℕ
least_with d None = d
least_with d (Some other) = min d other

-- the least of these depths and of those of the threads that wait for a part
unfoldable pub least_from : Option ℕ → Part → List Thread → Option ℕ
least_from least goal [] = least
least_from least goal (t ∷ ts) = least_from (if wants t goal then Some (least_with (depth_for t) least) else least) goal ts

-- the thread for a part, where one waits for it
abbrev pub begun_at : Look → Part → Option ℕ → List Thread
begun_at look goal None = []
begun_at look goal (Some depth) = begun look goal depth ∷ []

abbrev pub begun_for : Look → List Thread → Part → List Thread
begun_for look waiting goal = begun_at look goal (least_from None goal waiting)

-- the threads that read what begins with the brace
unfoldable pub inside : Look → List Thread → List Thread
inside look waiting =
    begun_for look waiting (part.Rule rule.Block) ++ (begun_for look waiting (part.Rule rule.Initializer) ++ (begun_for look waiting (part.Rule rule.ContainerBody)
    ++ (begun_for look waiting (part.Group group.ErrorBraces) ++ begun_for look waiting (part.Group group.SwitchBraces))))

-- whether one of some threads reads whatever this one does
unfoldable pub is_among : List Thread → Thread → Bool
is_among [] t = false
is_among (other ∷ others) t = goes_as_far other t || is_among others t

-- a thread is kept where no earlier one reads whatever it does
abbrev pub kept_with : List Thread → Thread → List Thread
kept_with kept t = if is_among kept t then kept else kept ++ t ∷ []

-- those that are kept, where each reads the token
unfoldable pub after_token : List Thread → List Thread → List Thread
after_token kept [] = kept
after_token kept (t ∷ ts) = after_token (kept_with kept (after_read t)) ts

-- the marks, with one at each of these tokens
unfoldable pub marked : List ℕ → List Bool → List Bool
marked [] marks = marks
marked (at ∷ more) marks = marked more (slice_set marks at true)

-- how many nodes lie one in the other in a part, of so many with the innermost node while it is read
abbrev pub own_height : Part → ℕ → ℕ
own_height (part.Group _) height = height - 1
own_height (part.Rule _) height = height
own_height (part.Token _) height = height
own_height (part.OneOf _) height = height

-- what a thread read, once its brace is closed
abbrev pub finished : Thread → Finished
finished t = record { goal = t.goal; height = own_height t.goal (risen 0 t.frames); choices = t.choices }

-- what was read for a part
unfoldable pub result_for : List Finished → Part → Option Finished
result_for [] goal = None
result_for (f ∷ fs) goal = if is_part f.goal goal then Some f else result_for fs goal

-- a thread that waited goes on, where what it waits for was read
abbrev pub resumed_at : List Thread → Thread → Option Finished → List Thread
resumed_at kept t None = kept
resumed_at kept t (Some f) = kept_with kept (with_choices f.choices (received f.height t))

abbrev pub resumed_by : List Finished → List Thread → Thread → Option Part → List Thread
resumed_by found kept t None = kept
resumed_by found kept t (Some p) = resumed_at kept t (result_for found p)

-- a value that the code's answer names
abbrev pub lent_one : {T : Type 0} → Option (Bor T) → Option T
lent_one None = None
lent_one (Some x) = Some x.now

unfoldable pub resumed : List Finished → List Thread → List Thread → List Thread
resumed found kept [] = kept
resumed found kept (t ∷ ts) = resumed found (resumed_by found kept t (waits_for t)) ts

-- whether each thread has read a token that lies too deep
unfoldable pub all_deep : List Thread → Bool
all_deep [] = true
all_deep (t ∷ ts) = t.deep && all_deep ts

-- whether the innermost brace is closed
abbrev pub has_read_all : List Thread → Bool
has_read_all [] = false
has_read_all (t ∷ ts) = nat_eq (length t.items) 0

unfoldable pub is_closed : Look → List Thread → Bool
is_closed look live = is_kind look.kind RightBrace && has_read_all live

-- the threads that waited for the innermost brace, where it is closed
abbrev pub resumed_top : List Finished → List (List Thread) → List Thread
resumed_top found [] = []
resumed_top found (those ∷ others) = resumed found [] those

-- one thread alone needs no choices: they hold
abbrev pub alone : List Thread → List Thread
alone [] = []
alone (t ∷ []) = record t { choices = [] } ∷ []
alone (t ∷ u ∷ ts) = t ∷ u ∷ ts

abbrev pub marked_alone : List Thread → List Bool → List Bool
marked_alone [] marks = marks
marked_alone (t ∷ []) marks = marked t.choices marks
marked_alone (t ∷ u ∷ ts) marks = marks

-- whether one of some threads reads the token within the limit of depth
unfoldable pub any_shallow : List Thread → Bool
any_shallow [] = false
any_shallow (t ∷ ts) = not (after_read t).deep || any_shallow ts

-- what became of the tokens so far, where one is spared or not that all threads which are left count as too deep
abbrev pub verdict_of : Bool → List Thread → Verdict
verdict_of spared [] = verdict.Unexpected
verdict_of spared (t ∷ ts) = if all_deep (t ∷ ts) && not spared then verdict.TooDeep else verdict.Fine
