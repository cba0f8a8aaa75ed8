-- The token of the file's end is read last: it stands in the row of the root alone, and at its end.
use Rattle.std.proofs.Common.{◌≡◌, ℕ, zero, suc, ◌+◌, ◌-◌, ◌<◌, Bool, true, false, ◌&&◌, ◌||◌, ◌⊎◌, inl, inr, List, [], ◌∷◌, ◌++◌, map, length, Option, Some, None, Result, Ok, Err, refl, sym, ◌∙◌, ap, subst, arith}
use Rattle.std.specs.Prelude.{if◌then◌else◌, not, nat_lt}
use Rattle.std.proofs.lemmas.Bool.{and_parts, and_from, not-true, eq-eqb}
use Rattle.zig_tree.specs.declared.token.Token.{Token}
use Rattle.zig_tree.specs.declared.token.TokenKind.{TokenKind}
use Rattle.zig_tree.specs.declared.token.TokenKind.TheVariants as kind
use Rattle.zig_tree.specs.declared.grammar.Rule.{Rule}
use Rattle.zig_tree.specs.declared.grammar.Rule.TheVariants as rule
use Rattle.zig_tree.specs.declared.grammar.Group.{Group}
use Rattle.zig_tree.specs.declared.grammar.Group.TheVariants as group
use Rattle.zig_tree.specs.declared.grammar.Part.{Part}
use Rattle.zig_tree.specs.declared.grammar.Part.TheVariants as part
use Rattle.zig_tree.specs.Kinds.{has_kind, is_kind, number_of, is_const_or_var, is_name_word, is_assign_operator, is_compare_operator, is_bit_operator, is_shift_operator, is_add_operator, is_multiply_operator, is_prefix_operator, is_pointer_mark, is_atom_word}
use Rattle.zig_tree.specs.Grammar.{Alternative, group_rows, rule_rows}
use Rattle.zig_parse.specs.declared.choice.Look.{Look}
use Rattle.zig_parse.specs.declared.thread.Frame.{Frame}
use Rattle.zig_parse.specs.declared.thread.Item.{Item}
use Rattle.zig_parse.specs.declared.thread.Thread.{Thread}
use Rattle.zig_parse.specs.declared.thread.Move.{Move}
use Rattle.zig_parse.specs.declared.thread.Move.TheVariants as move
use Rattle.zig_parse.specs.declared.fault.SyntaxFault.{SyntaxFault}
use Rattle.zig_parse.specs.declared.fault.SyntaxFault.TheVariants.{Unexpected, TooDeep}
use Rattle.zig_parse.specs.Choices.{choices, matching}
use Rattle.zig_parse.specs.Stack.{rest}
use Rattle.zig_parse.specs.Threads.{fresh, after_read, closed, closed_from, hardened, is_deep, item, met, met_from, opened, passed, put, replaced, touched_from}
use Rattle.zig_parse.specs.Moves.{move_at, move_from, moves_for, next_move, reading}
use Rattle.zig_parse.specs.Passes.{begun}
use Rattle.zig_parse.specs.Surveys.{look_at}
use Rattle.zig_parse.specs.Nodes.{with_token}
use Rattle.zig_parse.specs.Growth.{Grown, sprout, Ready, all_read, is_second, known, known_by, moved, moved_by, picked, read_one, ready, ready_by, shut, shut_from, stuck_at, swapped, token_read, ◌>>=◌}
use Rattle.zig_parse.proofs.Derived.{each_row, open_is_row, row_tested}
use Rattle.zig_parse.proofs.Tables.{same_kind}
use Rattle.zig_parse.proofs.Picks.{picked_open}
use Rattle.zig_parse.proofs.Costs.{IsFront, rule_front, group_front_at, met_keeps}

-- the end is no such part
abbrev pub is_root : Rule → Bool
is_root rule.Root = true
is_root _ = false

abbrev pub is_free : Part → Bool
is_free (part.Token k) = not (is_kind k kind.End)
is_free (part.OneOf c) = not (has_kind c kind.End)
is_free (part.Rule r) = not (is_root r)
is_free (part.Group g) = true

abbrev pub are_free : List Part → Bool
are_free [] = true
are_free (p ∷ ps) = is_free p && are_free ps

abbrev pub row_free : Alternative → Bool
row_free a = are_free a.parts

-- the end stands last of some parts, and nowhere else
abbrev pub is_end : Part → Bool
is_end (part.Token k) = is_kind k kind.End
is_end (part.OneOf c) = false
is_end (part.Rule r) = false
is_end (part.Group g) = false

abbrev pub end_last : List Part → Bool
end_last [] = false
end_last (p ∷ []) = is_end p
end_last (p ∷ q ∷ ps) = is_free p && end_last (q ∷ ps)

pub rule_free : (r : Rule) → is_root r ≡ false → each_row row_free (rule_rows r) ≡ true
unfolding rule_rows number_of is_const_or_var is_name_word is_assign_operator is_compare_operator is_bit_operator is_shift_operator is_add_operator is_multiply_operator is_prefix_operator is_pointer_mark is_atom_word
rule_free rule.Root h = absurd (cc)
rule_free rule.Member h = refl
rule_free rule.Field h = refl
rule_free rule.Declaration h = refl
rule_free rule.Variable h = refl
rule_free rule.Prototype h = refl
rule_free rule.Function h = refl
rule_free rule.Parameter h = refl
rule_free rule.Block h = refl
rule_free rule.Statement h = refl
rule_free rule.Body h = refl
rule_free rule.IfStatement h = refl
rule_free rule.WhileStatement h = refl
rule_free rule.ForStatement h = refl
rule_free rule.Rest h = refl
rule_free rule.ForArgument h = refl
rule_free rule.Captures h = refl
rule_free rule.Capture h = refl
rule_free rule.Name h = refl
rule_free rule.Assignment h = refl
rule_free rule.Or h = refl
rule_free rule.And h = refl
rule_free rule.Compare h = refl
rule_free rule.Bit h = refl
rule_free rule.Shift h = refl
rule_free rule.Add h = refl
rule_free rule.Multiply h = refl
rule_free rule.Prefix h = refl
rule_free rule.Primary h = refl
rule_free rule.IfExpression h = refl
rule_free rule.WhileExpression h = refl
rule_free rule.ForExpression h = refl
rule_free rule.RestExpression h = refl
rule_free rule.TypeExpression h = refl
rule_free rule.TypePrefix h = refl
rule_free rule.Suffix h = refl
rule_free rule.Atom h = refl
rule_free rule.Initializer h = refl
rule_free rule.Container h = refl
rule_free rule.ContainerBody h = refl
rule_free rule.Switch h = refl
rule_free rule.Prong h = refl
rule_free rule.Item h = refl

pub group_free : (g : Group) → each_row row_free (group_rows g) ≡ true
unfolding group_rows number_of is_const_or_var is_name_word is_assign_operator is_compare_operator is_bit_operator is_shift_operator is_add_operator is_multiply_operator is_prefix_operator is_pointer_mark is_atom_word
group_free group.RootMembers = refl
group_free group.Members = refl
group_free group.FieldEnd = refl
group_free group.TypeOption = refl
group_free group.ValueOption = refl
group_free group.StringOption = refl
group_free group.PubOption = refl
group_free group.Declared = refl
group_free group.Parameters = refl
group_free group.MoreParameters = refl
group_free group.BangOption = refl
group_free group.ComptimeOption = refl
group_free group.ParameterType = refl
group_free group.Statements = refl
group_free group.ComptimeStatement = refl
group_free group.LabelledStatement = refl
group_free group.ContinueOption = refl
group_free group.MoreForArguments = refl
group_free group.ForArguments = refl
group_free group.ElseOption = refl
group_free group.RestEnd = refl
group_free group.RangeOption = refl
group_free group.ExpressionOption = refl
group_free group.MoreCaptures = refl
group_free group.FurtherCaptures = refl
group_free group.PointerOption = refl
group_free group.CaptureOption = refl
group_free group.AssignTail = refl
group_free group.OrTail = refl
group_free group.AndTail = refl
group_free group.CompareTail = refl
group_free group.BitTail = refl
group_free group.ShiftTail = refl
group_free group.AddTail = refl
group_free group.MultiplyTail = refl
group_free group.MorePrefixes = refl
group_free group.LabelledExpression = refl
group_free group.BreakLabel = refl
group_free group.InitializerOption = refl
group_free group.ElseExpression = refl
group_free group.MoreTypePrefixes = refl
group_free group.BangTypeOption = refl
group_free group.ConstOption = refl
group_free group.BracketPrefix = refl
group_free group.SuffixTail = refl
group_free group.Arguments = refl
group_free group.MoreArguments = refl
group_free group.DotAtom = refl
group_free group.ErrorAtom = refl
group_free group.ErrorNames = refl
group_free group.MoreErrorNames = refl
group_free group.InitializerBody = refl
group_free group.MoreFields = refl
group_free group.FurtherFields = refl
group_free group.TagOption = refl
group_free group.UnionTag = refl
group_free group.Prongs = refl
group_free group.MoreProngs = refl
group_free group.ProngHead = refl
group_free group.MoreItems = refl
group_free group.Items = refl
group_free group.ItemRange = refl
group_free group.ErrorBraces = refl
group_free group.SwitchBraces = refl

-- ---- what is to come

abbrev pub parts_to_come : Thread → List Part
parts_to_come t = map (λ (i : Item). i.part) t.items

abbrev item_parts : List Item → List Part
item_parts is = map (λ (i : Item). i.part) is

free_before : (p : Part) (ps : List Part) → is_free p ≡ true → end_last ps ≡ true → end_last (p ∷ ps) ≡ true
free_before p [] h e = absurd (cc)
free_before p (q ∷ ps) h e = and_from (is_free p) (end_last (q ∷ ps)) h e

free_joined : (level : ℕ) (ps : List Part) (is : List Item) → are_free ps ≡ true → end_last (item_parts is) ≡ true → end_last (item_parts (map (item level) ps ++ is)) ≡ true
free_joined level [] is h e = e
free_joined level (p ∷ ps) is h e =
    let s = and_parts (is_free p) (are_free ps) h in
    free_before p (item_parts (map (item level) ps ++ is)) s.0 (free_joined level ps is s.1 e)

-- a part that is no end stands before others
before_end : (p : Part) (ps : List Part) → is_end p ≡ false → end_last (p ∷ ps) ≡ true → (is_free p ≡ true) × (end_last ps ≡ true)
before_end p [] n h = absurd (cc)
before_end p (q ∷ ps) n h = and_parts (is_free p) (end_last (q ∷ ps)) h

-- ---- a move keeps it

closed_items : (t : Thread) (fs : List Frame) → (closed_from t fs).items ≡ t.items
closed_items t [] = refl
closed_items t (f ∷ fs) = refl

shut_items : (tokens : List Token) (g : Grown) (fs : List Frame) → (shut_from tokens g fs).thread.items ≡ (closed g.thread).items
shut_items tokens g [] = refl
shut_items tokens g (f ∷ fs) = refl

rule_items : (r : Rule) (ps : List Part) (t : Thread) (n : ℕ) (f : IsFront n t.items (part.Rule r)) → are_free ps ≡ true → end_last (item_parts f.is) ≡ true → end_last (parts_to_come (replaced (Some r) ps t)) ≡ true
unfolding replaced put opened met
rule_items r ps t n f h e =
    let k = met_keeps r (passed t) t.frames in
    let same : (met_from r (passed t) t.frames).items ≡ f.is = k.0 ∙ ap rest f.items in
    free_joined (suc (length (met_from r (passed t) t.frames).frames)) ps (met_from r (passed t) t.frames).items h (ap (λ (l : List Item). end_last (item_parts l)) same ∙ e)

group_items : (g : Group) (ps : List Part) (t : Thread) (n : ℕ) (f : IsFront n t.items (part.Group g)) → are_free ps ≡ true → end_last (item_parts f.is) ≡ true → end_last (parts_to_come (replaced None ps t)) ≡ true
unfolding replaced put
group_items g ps t n f h e = free_joined (length t.frames) ps (rest t.items) h (ap (λ (l : List Item). end_last (item_parts (rest l))) f.items ∙ e)

front_last : (t : Thread) (n : ℕ) (p : Part) (f : IsFront n t.items p) → end_last (parts_to_come t) ≡ true → end_last (p ∷ item_parts f.is) ≡ true
front_last t n p f h = ap (λ (q : Part). end_last (q ∷ item_parts f.is)) (sym f.part_is) ∙ ap (λ (l : List Item). end_last (item_parts l)) (sym f.items) ∙ h

root_no : (r : Rule) → not (is_root r) ≡ true → is_root r ≡ false
root_no r h = not-true (is_root r) h

swapped_rule : (look : Look) (second : Bool) (g : Grown) (r : Rule) (o : Option (List Part)) → next_move look false g.thread ≡ move.Rule r → picked second (choices look (rule_rows r)) ≡ o → end_last (parts_to_come g.thread) ≡ true → end_last (parts_to_come (swapped (Some r) o g).thread) ≡ true
unfolding next_move
swapped_rule look second g r None h e k = k
swapped_rule look second g r (Some ps) h e k =
    let f = rule_front look false (length g.thread.frames) g.thread.items r h in
    let b = before_end (part.Rule r) (item_parts f.is) refl (front_last g.thread (length g.thread.frames) (part.Rule r) f k) in
    let p = picked_open (look.kind ∷ look.next ∷ []) second (rule_rows r) ps e in
    let free = row_tested row_free p.0 (rule_rows r) (rule_free r (root_no r b.0)) (open_is_row (look.kind ∷ look.next ∷ []) p.0 (rule_rows r) p.1) in
    subst (λ (x : List Part). end_last (parts_to_come (replaced (Some r) x g.thread)) ≡ true) p.2 (rule_items r p.0.parts g.thread (length g.thread.frames) f free b.1)

swapped_group : (look : Look) (second : Bool) (g : Grown) (j : Group) (o : Option (List Part)) → next_move look false g.thread ≡ move.Group j → picked second (choices look (group_rows j)) ≡ o → end_last (parts_to_come g.thread) ≡ true → end_last (parts_to_come (swapped None o g).thread) ≡ true
unfolding next_move
swapped_group look second g j None h e k = k
swapped_group look second g j (Some ps) h e k =
    let f = group_front_at look false (length g.thread.frames) g.thread.items j h in
    let b = before_end (part.Group j) (item_parts f.is) refl (front_last g.thread (length g.thread.frames) (part.Group j) f k) in
    let p = picked_open (look.kind ∷ look.next ∷ []) second (group_rows j) ps e in
    let free = row_tested row_free p.0 (group_rows j) (group_free j) (open_is_row (look.kind ∷ look.next ∷ []) p.0 (group_rows j) p.1) in
    subst (λ (x : List Part). end_last (parts_to_come (replaced None x g.thread)) ≡ true) p.2 (group_items j p.0.parts g.thread (length g.thread.frames) f free b.1)

moved_by_last : (tokens : List Token) (look : Look) (second : Bool) (g : Grown) (m : Move) → next_move look false g.thread ≡ m → end_last (parts_to_come g.thread) ≡ true → end_last (parts_to_come (moved_by tokens look second g m).thread) ≡ true
unfolding shut closed
moved_by_last tokens look second g move.Stop h k = k
moved_by_last tokens look second g move.Read h k = k
moved_by_last tokens look second g move.Close h k = ap (λ (l : List Item). end_last (item_parts l)) (shut_items tokens g g.thread.frames ∙ closed_items g.thread g.thread.frames) ∙ k
moved_by_last tokens look second g (move.Rule r) h k = swapped_rule look second g r (picked second (choices look (rule_rows r))) h refl k
moved_by_last tokens look second g (move.Group j) h k = swapped_group look second g j (picked second (choices look (group_rows j))) h refl k

moved_last : (tokens : List Token) (look : Look) (second : Bool) (g : Grown) → end_last (parts_to_come g.thread) ≡ true → end_last (parts_to_come (moved tokens look second g).thread) ≡ true
unfolding moved
moved_last tokens look second g k = moved_by_last tokens look second g (next_move look false g.thread) refl k

-- ---- up to a token

record AtRead (look : Look) (g : Grown) : Type 0 where
  last : end_last (parts_to_come g.thread) ≡ true
  reads : next_move look false g.thread ≡ move.Read

stuck_true : (o : Option (List Part)) (b : Bool) → stuck_at o ≡ Some b → b ≡ true → ⊥
stuck_true None b h e = cc
stuck_true (Some ps) b h e = cc

read_known : (tokens : List Token) (look : Look) (second b : Bool) (g : Grown) (m : Move) → next_move look false g.thread ≡ m → known_by look second m ≡ Some b → b ≡ true → end_last (parts_to_come g.thread) ≡ true → AtRead look (moved_by tokens look second g m)
read_known tokens look second b g move.Stop n h e k = absurd (cc)
read_known tokens look second b g move.Read n h e k = record { last = k; reads = n }
read_known tokens look second b g move.Close n h e k = absurd (cc)
read_known tokens look second b g (move.Rule r) n h e k = absurd (stuck_true (picked second (choices look (rule_rows r))) b h e)
read_known tokens look second b g (move.Group j) n h e k = absurd (stuck_true (picked second (choices look (group_rows j))) b h e)

read_now : (tokens : List Token) (look : Look) (second b : Bool) (g : Grown) → known look second g ≡ Some b → b ≡ true → end_last (parts_to_come g.thread) ≡ true → AtRead look (moved tokens look second g)
unfolding moved known
read_now tokens look second b g h e k = read_known tokens look second b g (next_move look false g.thread) refl h e k

ready_case : (tokens : List Token) (look : Look) (second : Bool) (g : Grown) (more : Ready) (o : Option Bool) → known look second g ≡ o → end_last (parts_to_come g.thread) ≡ true → (more.fits ≡ true → AtRead look more.grown)
    → (ready_by o (moved tokens look second g) more).fits ≡ true → AtRead look (ready_by o (moved tokens look second g) more).grown
ready_case tokens look second g more None h k f e = f e
ready_case tokens look second g more (Some b) h k f e = read_now tokens look second b g h e k

ready_last : (n : ℕ) (tokens : List Token) (look : Look) (second : Bool) (g : Grown) → end_last (parts_to_come g.thread) ≡ true → (ready n tokens look second g).fits ≡ true → AtRead look (ready n tokens look second g).grown
unfolding ready
ready_last zero tokens look second g k e = absurd (cc)
ready_last (suc n) tokens look second g k e =
    ready_case tokens look second g (ready n tokens look second (moved tokens look second g)) (known look second g) refl k (λ h. ready_last n tokens look second (moved tokens look second g) (moved_last tokens look second g k) h) e

-- ---- a token is read

reading_is : (b : Bool) → reading b ≡ move.Read → b ≡ true
reading_is true h = refl
reading_is false h = absurd (cc)

end_read : (look : Look) (p : Part) → move_at look false p ≡ move.Read → is_end p ≡ true → look.kind ≡ kind.End
end_read look (part.Token k) h e = sym (same_kind k look.kind (reading_is (is_kind k look.kind) h)) ∙ same_kind k kind.End e
end_read look (part.OneOf c) h e = absurd (cc)
end_read look (part.Rule r) h e = absurd (cc)
end_read look (part.Group g) h e = absurd (cc)

free_read : (look : Look) (p : Part) → move_at look false p ≡ move.Read → is_free p ≡ true → look.kind ≡ kind.End → ⊥
free_read look (part.Token k) h f e =
    let same : k ≡ kind.End = same_kind k look.kind (reading_is (is_kind k look.kind) h) ∙ e in
    let yes : is_kind k kind.End ≡ true = ap (λ (j : TokenKind). is_kind j kind.End) same ∙ eq-eqb (number_of kind.End) (number_of kind.End) refl in
    let never : not (is_kind k kind.End) ≡ false = ap not yes in
    cc
free_read look (part.OneOf c) h f e =
    let yes : has_kind c kind.End ≡ true = ap (has_kind c) (sym e) ∙ reading_is (has_kind c look.kind) h in
    let never : not (has_kind c kind.End) ≡ false = ap not yes in
    cc
free_read look (part.Rule r) h f e = cc
free_read look (part.Group g) h f e = cc

at_level : (look : Look) (n : ℕ) (i : Item) (is : List Item) (b : Bool) → nat_lt i.level n ≡ b → (if b then move.Close else move_at look false i.part) ≡ move.Read → move_at look false i.part ≡ move.Read
at_level look n i is true e h = absurd (cc)
at_level look n i is false e h = h

-- nothing is to come after the end, and the end is to come last after another token
record After (look : Look) (is : List Item) : Type 0 where
  ended : look.kind ≡ kind.End → is ≡ []
  last : (is ≡ []) ⊎ (end_last (item_parts is) ≡ true)

read_rest : (look : Look) (n : ℕ) (is : List Item) → move_from look false n is ≡ move.Read → end_last (item_parts is) ≡ true → After look (rest is)
read_rest look n [] h k = absurd (cc)
read_rest look n (i ∷ []) h k = record { ended = λ e. refl; last = inl refl }
read_rest look n (i ∷ j ∷ is) h k =
    let s = and_parts (is_free i.part) (end_last (item_parts (j ∷ is))) k in
    record { ended = λ e. absurd (free_read look i.part (at_level look n i (j ∷ is) (nat_lt i.level n) refl h) s.0 e); last = inr s.1 }

touched_items : (t : Thread) (fs : List Frame) → (touched_from (passed t) fs).items ≡ rest t.items
unfolding hardened
touched_items t [] = refl
touched_items t (f ∷ fs) = by f.solid
  where
    by : (b : Bool) → (if b then record (passed t) { deep = t.deep || is_deep t.depth 0 } else hardened f (passed t)).items ≡ rest t.items
    by true = refl
    by false = refl

read_after : (look : Look) (t : Thread) → next_move look false t ≡ move.Read → end_last (parts_to_come t) ≡ true → After look (after_read t).items
unfolding after_read next_move
read_after look t h k = subst (After look) (sym (touched_items t t.frames)) (read_rest look (length t.frames) t.items h k)

one_case : (tokens : List Token) (at : ℕ) (look : Look) (r : Ready) (made g : Grown) (fits deep : Bool) → (r.fits ≡ true → AtRead look r.grown) → r.fits ≡ fits → made.thread ≡ after_read r.grown.thread
    → (if fits then (if deep then Err (TooDeep at) else Ok made) else Err (Unexpected look.kind at)) ≡ Ok g → After look g.thread.items
one_case tokens at look r made g false deep f e m h = absurd (cc)
one_case tokens at look r made g true true f e m h = absurd (cc)
one_case tokens at look r made g true false f e m h =
    let a = f e in
    let same : made ≡ g = cc in
    subst (λ (x : Grown). After look x.thread.items) same (subst (λ (x : Thread). After look x.items) (sym m) (read_after look r.grown.thread a.reads a.last))

one_last : (tokens : List Token) (at : ℕ) (second : Bool) (g next : Grown) → end_last (parts_to_come g.thread) ≡ true → read_one at tokens (look_at tokens at) second g ≡ Ok next → After (look_at tokens at) next.thread.items
unfolding read_one
one_last tokens at second g next k h =
    let r = ready (moves_for g.thread) tokens (look_at tokens at) second g in
    one_case tokens at (look_at tokens at) r (record { thread = after_read r.grown.thread; parts = with_token at r.grown.parts }) next r.fits (after_read r.grown.thread).deep
    (λ e. ready_last (moves_for g.thread) tokens (look_at tokens at) second g k e) refl refl h

-- where nothing is to come no token is read
stuck_known : (look : Look) (second : Bool) (g : Grown) → g.thread.items ≡ [] → known look second g ≡ Some false
unfolding known next_move
stuck_known look second g e = ap (λ (l : List Item). known_by look second (move_from look false (length g.thread.frames) l)) e

stuck_ready : (n : ℕ) (tokens : List Token) (look : Look) (second : Bool) (g : Grown) → g.thread.items ≡ [] → (ready n tokens look second g).fits ≡ false
unfolding ready
stuck_ready zero tokens look second g e = refl
stuck_ready (suc n) tokens look second g e = ap (λ (o : Option Bool). (ready_by o (moved tokens look second g) (ready n tokens look second (moved tokens look second g))).fits) (stuck_known look second g e)

stuck_by : (at : ℕ) (look : Look) (r : Ready) (next : Grown) (fits : Bool) → fits ≡ false → (if fits then token_read at look r.grown else Err (Unexpected look.kind at)) ≡ Ok next → ⊥
stuck_by at look r next true e h = absurd (cc)
stuck_by at look r next false e h = cc

stuck_one : (tokens : List Token) (at : ℕ) (second : Bool) (g next : Grown) → g.thread.items ≡ [] → read_one at tokens (look_at tokens at) second g ≡ Ok next → ⊥
unfolding read_one
stuck_one tokens at second g next e h =
    let r = ready (moves_for g.thread) tokens (look_at tokens at) second g in
    let none = stuck_ready (moves_for g.thread) tokens (look_at tokens at) second g e in
    stuck_by at (look_at tokens at) r next r.fits none h

bound_ok : {A B : Type 0} (r : Result A SyntaxFault) (f : A → Result B SyntaxFault) (y : B) → (r >>= f) ≡ Ok y → (x : A) × (r ≡ Ok x) × (f x ≡ Ok y)
bound_ok (Ok x) f y h = (x, refl, h)
bound_ok (Err e) f y h = absurd (cc)

no_more : (n at : ℕ) (tokens : List Token) (marks : List Bool) (g next : Grown) → g.thread.items ≡ [] → 0 < n → all_read n at tokens marks g ≡ Ok next → ⊥
unfolding all_read
no_more zero at tokens marks g next e s h = omega arith
no_more (suc n) at tokens marks g next e s h =
    let b = bound_ok (read_one at tokens (look_at tokens at) (is_second marks at) g) (all_read n (at + 1) tokens marks) next h in
    stuck_one tokens at (is_second marks at) g b.0 e b.1

-- all tokens are read, the last of them the end: nothing is to come
pub all_ended : (n at : ℕ) (tokens : List Token) (marks : List Bool) (g next : Grown) → at + n ≡ length tokens → 0 < n → (look_at tokens (length tokens - 1)).kind ≡ kind.End → end_last (parts_to_come g.thread) ≡ true → all_read n at tokens marks g ≡ Ok next → next.thread.items ≡ []
unfolding all_read
all_ended zero at tokens marks g next e s l k h = absurd (omega arith)
all_ended (suc zero) at tokens marks g next e s l k h =
    let b = bound_ok (read_one at tokens (look_at tokens at) (is_second marks at) g) (all_read 0 (at + 1) tokens marks) next h in
    let a = one_last tokens at (is_second marks at) g b.0 k b.1 in
    let same : b.0 ≡ next = (let z = b.2 in cc) in
    let number : length tokens - 1 ≡ at = omega arith in
    let end : (look_at tokens at).kind ≡ kind.End = ap (λ (m : ℕ). (look_at tokens m).kind) (sym number) ∙ l in
    ap (λ (x : Grown). x.thread.items) (sym same) ∙ a.ended end
all_ended (suc (suc n)) at tokens marks g next e s l k h =
    let b = bound_ok (read_one at tokens (look_at tokens at) (is_second marks at) g) (all_read (suc n) (at + 1) tokens marks) next h in
    let a = one_last tokens at (is_second marks at) g b.0 k b.1 in
    elim a.last [
      | inl none ↦ absurd (no_more (suc n) (at + 1) tokens marks b.0 next none (omega arith) b.2)
      | inr last ↦ all_ended (suc n) (at + 1) tokens marks b.0 next (omega arith) (omega arith) l last b.2
    ]

pub sprout_last : (look : Look) → end_last (parts_to_come (sprout look).thread) ≡ true
unfolding sprout begun choices matching rule_rows put opened fresh number_of
sprout_last look = refl
