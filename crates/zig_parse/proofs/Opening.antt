-- The thread that reads what stands in a brace, before the brace; and what the parts of a path derive.
use Rattle.std.proofs.Common.{◌≡◌, ℕ, ◌+◌, ◌-◌, Bool, true, false, ◌||◌, inl, inr, List, [], ◌∷◌, length, Some, None, refl, sym, ◌∙◌, ap, subst}
use Rattle.std.specs.Prelude.{if◌then◌else◌}
use Rattle.zig_tree.specs.declared.token.TokenKind.{TokenKind}
use Rattle.zig_tree.specs.declared.token.TokenKind.TheVariants as kind
use Rattle.zig_tree.specs.declared.grammar.Rule.{Rule}
use Rattle.zig_tree.specs.declared.grammar.Rule.TheVariants as rule
use Rattle.zig_tree.specs.declared.grammar.Group.{Group}
use Rattle.zig_tree.specs.declared.grammar.Group.TheVariants as group
use Rattle.zig_tree.specs.declared.grammar.When.TheVariants as when
use Rattle.zig_tree.specs.declared.grammar.Part.{Part}
use Rattle.zig_tree.specs.declared.grammar.Part.TheVariants as part
use Rattle.zig_tree.specs.Kinds.{is_kind, number_of}
use Rattle.zig_tree.specs.Grammar.{Alternative, row, group_rows, rule_rows}
use Rattle.zig_tree.specs.GrammarSentences.{Pieces, nothing, word, followed, made, open_at, Among, Derives, derives_none, derives_group, derives_rule}
use Rattle.zig_parse.specs.declared.thread.Thread.{Thread}
use Rattle.zig_parse.specs.declared.thread.Move.TheVariants as move
use Rattle.zig_parse.specs.Stack.{rest}
use Rattle.zig_parse.specs.Threads.{collapses, fresh, has_braces, is_apart, is_braced, opened, put, after_read, closed, replaced, received, met_part}
use Rattle.zig_parse.specs.Moves.{next_move, waits_for}
use Rattle.zig_parse.specs.Choices.{choices, matching}
use Rattle.zig_parse.specs.Passes.{begun, own_height}
use Rattle.zig_parse.proofs.Derived.{joined_derived}
use Rattle.zig_parse.specs.Ways.{Fork, Taken, taken_sole, taken_first, taken_second}
use Rattle.zig_parse.proofs.Paths.{Told, within, Path, path_ends, path_closes, path_rule, path_group, path_reads, path_waits, look_of, parts_of_items, is_cons}
use Rattle.zig_parse.proofs.Tidy.{tidy}
use Rattle.zig_parse.proofs.Moving.{coming, closed_keeps, met_part_keeps, read_keeps, received_keeps, rule_comes, group_comes, reads_front, waits_front, fits_derives}

-- ---- the five parts in braces

pub data Five : Part → Type 0 where
  five_block : Five (part.Rule rule.Block)
  five_initializer : Five (part.Rule rule.Initializer)
  five_body : Five (part.Rule rule.ContainerBody)
  five_errors : Five (part.Group group.ErrorBraces)
  five_switch : Five (part.Group group.SwitchBraces)

rule_five : (r : Rule) → is_braced r ≡ true → Five (part.Rule r)
unfolding is_braced
rule_five rule.Block h = five_block
rule_five rule.Initializer h = five_initializer
rule_five rule.ContainerBody h = five_body
rule_five _ h = absurd (cc)

group_five : (g : Group) → has_braces g ≡ true → Five (part.Group g)
group_five group.ErrorBraces h = five_errors
group_five group.SwitchBraces h = five_switch
group_five _ h = absurd (cc)

pub apart_five : (p : Part) → is_apart p ≡ true → Five p
apart_five (part.Rule r) h = rule_five r h
apart_five (part.Group g) h = group_five g h
apart_five (part.Token _) h = absurd (cc)
apart_five (part.OneOf _) h = absurd (cc)

-- the parts after the brace
abbrev pub body : Part → List Part
body (part.Rule rule.Initializer) = part.Group group.InitializerBody ∷ []
body (part.Rule rule.ContainerBody) = part.Group group.Members ∷ part.Token kind.RightBrace ∷ []
body (part.Rule _) = part.Group group.Statements ∷ part.Token kind.RightBrace ∷ []
body (part.Group group.ErrorBraces) = part.Group group.ErrorNames ∷ part.Token kind.RightBrace ∷ []
body (part.Group _) = part.Group group.Prongs ∷ part.Token kind.RightBrace ∷ []
body (part.Token _) = []
body (part.OneOf _) = []

-- what a part in braces begins with
pub record Opens (tokens : List TokenKind) (p : Part) (depth : ℕ) : Type 0 where
  pub own_goal : (begun (look_of tokens) p depth).goal ≡ p
  pub own_choices : (begun (look_of tokens) p depth).choices ≡ []
  pub first : coming (begun (look_of tokens) p depth) ≡ part.Token kind.LeftBrace ∷ body p
  pub body_tidy : tidy false (body p) ≡ true
  pub waits : waits_for (begun (look_of tokens) p depth) ≡ None
  pub reads : is_kind kind.LeftBrace (look_of tokens).kind ≡ true → next_move (look_of tokens) true (begun (look_of tokens) p depth) ≡ move.Read
  pub derives : (end : List TokenKind) (q : Pieces) → Derives (part.Token kind.LeftBrace ∷ body p) tokens end q → (made_of : Pieces) × Derives (p ∷ []) tokens end made_of

read_if : (b : Bool) → b ≡ true → (if b then move.Read else move.Stop) ≡ move.Read
read_if true h = refl
read_if false h = absurd (cc)

alone_rule : (r : Rule) (a : Alternative) (tokens end : List TokenKind) (q : Pieces) → Among a (open_at tokens (rule_rows r)) → Derives a.parts tokens end q → (p : Pieces) × Derives (part.Rule r ∷ []) tokens end p
alone_rule r a tokens end q m d = (followed (made r q) nothing, derives_rule r a [] tokens end end q nothing m d (derives_none end))

alone_group : (g : Group) (a : Alternative) (tokens end : List TokenKind) (q : Pieces) → Among a (open_at tokens (group_rows g)) → Derives a.parts tokens end q → (p : Pieces) × Derives (part.Group g ∷ []) tokens end p
alone_group g a tokens end q m d = (followed q nothing, derives_group g a [] tokens end end q nothing m d (derives_none end))

pub opens : (tokens : List TokenKind) (p : Part) (depth : ℕ) → Five p → Opens tokens p depth
unfolding begun choices matching rule_rows group_rows put opened fresh collapses next_move waits_for number_of is_braced
opens tokens p depth five_block = record {
  own_goal = refl;
  own_choices = refl;
  first = refl;
  body_tidy = refl;
  waits = refl;
  reads = λ h. rw h refl;
  derives = λ end q d. alone_rule rule.Block (row (when.Always) (part.Token kind.LeftBrace ∷ body (part.Rule rule.Block))) tokens end q (inl refl) d;
}
opens tokens p depth five_initializer = record {
  own_goal = refl;
  own_choices = refl;
  first = refl;
  body_tidy = refl;
  waits = refl;
  reads = λ h. rw h refl;
  derives = λ end q d. alone_rule rule.Initializer (row (when.Always) (part.Token kind.LeftBrace ∷ body (part.Rule rule.Initializer))) tokens end q (inl refl) d;
}
opens tokens p depth five_body = record {
  own_goal = refl;
  own_choices = refl;
  first = refl;
  body_tidy = refl;
  waits = refl;
  reads = λ h. rw h refl;
  derives = λ end q d. alone_rule rule.ContainerBody (row (when.Always) (part.Token kind.LeftBrace ∷ body (part.Rule rule.ContainerBody))) tokens end q (inl refl) d;
}
opens tokens p depth five_errors = record {
  own_goal = refl;
  own_choices = refl;
  first = refl;
  body_tidy = refl;
  waits = refl;
  reads = λ h. rw h refl;
  derives = λ end q d. alone_group group.ErrorBraces (row (when.Always) (part.Token kind.LeftBrace ∷ body (part.Group group.ErrorBraces))) tokens end q (inl refl) d;
}
opens tokens p depth five_switch = record {
  own_goal = refl;
  own_choices = refl;
  first = refl;
  body_tidy = refl;
  waits = refl;
  reads = λ h. rw h refl;
  derives = λ end q d. alone_group group.SwitchBraces (row (when.Always) (part.Token kind.LeftBrace ∷ body (part.Group group.SwitchBraces))) tokens end q (inl refl) d;
}

-- ---- a path's parts derive its tokens

taken_among : (later : List Part) (tokens end : List TokenKind) (rows : List Alternative) (a : Alternative) (choices : List Bool) → Taken later tokens end rows a choices → Among a rows
taken_among later tokens end rows a choices (taken_sole _) = inl refl
taken_among later tokens end rows a choices (taken_first _ b) = inl refl
taken_among later tokens end rows a choices (taken_second _ b f) = inr (inl refl)

no_items : (t : Thread) (end : List TokenKind) → t.items ≡ [] → (p : Pieces) × Derives (coming t) end end p
no_items t end e = (nothing, subst (λ (l : List Part). Derives l end end nothing) (ap parts_of_items (sym e)) (derives_none end))

pub path_derives : (low : ℕ → Type 0) (told : Told) (calm : Bool) (t : Thread) (at : ℕ) (tokens end : List TokenKind) (height : ℕ) (forks : List Fork) → Path true low told calm t at tokens end height forks → (p : Pieces) × Derives (coming t) tokens end p
path_derives low told calm t at tokens end height forks (path_ends _ _ _ _ _ e) = no_items t end e
path_derives low told calm t at tokens end height forks (path_closes _ _ _ _ _ _ _ _ h more) =
    let d = path_derives low told calm (closed t) at tokens end height forks more in
    (d.0, subst (λ l. Derives (parts_of_items l) tokens end d.0) (closed_keeps t).0 d.1)
path_derives low told calm t at tokens end height forks (path_rule _ _ _ _ _ _ _ later r a choices h c k more) =
    let d = path_derives low told (calm || is_cons choices) (replaced (Some r) a.parts t) at tokens end height later more in
    (rule_comes tokens t r a h (taken_among _ tokens end (open_at tokens (rule_rows r)) a choices k)).back end d.0 d.1
path_derives low told calm t at tokens end height forks (path_group _ _ _ _ _ _ _ later g a choices h c k more) =
    let d = path_derives low told (calm || is_cons choices) (replaced None a.parts t) at tokens end height later more in
    (group_comes tokens t g a h (taken_among _ tokens end (open_at tokens (group_rows g)) a choices k)).back end d.0 d.1
path_derives low told calm t at tokens end height forks (path_reads _ _ _ _ k left _ _ _ h w f seen more) =
    let d = path_derives low told false (after_read t) (at + 1) left end height forks more in
    let s = reads_front (look_of (k ∷ left)) t h w in (
      word k d.0,
      subst (λ (l : List Part). Derives l (k ∷ left) end (word k d.0)) (sym s.first)
          (fits_derives s.p (parts_of_items (rest t.items)) k left end d.0 s.fits (subst (λ l. Derives (parts_of_items l) left end d.0) (read_keeps t).0 d.1)),
    )
path_derives low told calm t at tokens end height forks (path_waits _ _ _ _ left mid _ _ inner_height inner outer p base ap_true h w f awaits go g seen more) =
    let whole = kind.LeftBrace ∷ left in
    let x = met_part p t in
    let d = path_derives low told false (received (own_height p inner_height) x) (at + (length whole - length mid)) mid end height outer more in
    let s = waits_front t p w in
    let o = opens whole p 0 (apart_five p s.apart) in
    let i = path_derives low (within told false at base) false (begun (look_of whole) p 0) at whole mid inner_height inner (go 0 false (λ e. absurd (cc))) in
    let j = o.derives mid i.0 (subst (λ (l : List Part). Derives l whole mid i.0) o.first i.1) in
    let same = (received_keeps (own_height p inner_height) x).0 ∙ ap rest (met_part_keeps p t).0 in (
      followed j.0 d.0,
      subst (λ (l : List Part). Derives l whole end (followed j.0 d.0)) (sym s.first)
          (joined_derived (p ∷ []) (parts_of_items (rest t.items)) whole mid end j.0 d.0 j.1 (subst (λ l. Derives (parts_of_items l) mid end d.0) same d.1)),
    )
