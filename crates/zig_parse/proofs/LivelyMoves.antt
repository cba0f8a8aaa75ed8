-- What a thread stands for stays as it moves and reads.
use Rattle.std.proofs.Common.{◌≡◌, ℕ, Bool, true, false, ◌⊎◌, inl, inr, List, [], ◌∷◌, ◌++◌, Some, None, refl, sym, ◌∙◌, ap, subst}
use Rattle.std.specs.Prelude.{if◌then◌else◌}
use Rattle.zig_tree.specs.declared.token.TokenKind.{TokenKind}
use Rattle.zig_tree.specs.declared.token.TokenKind.TheVariants as kind
use Rattle.zig_tree.specs.declared.grammar.Rule.{Rule}
use Rattle.zig_tree.specs.declared.grammar.Rule.TheVariants as rule
use Rattle.zig_tree.specs.declared.grammar.Group.{Group}
use Rattle.zig_tree.specs.declared.grammar.Group.TheVariants as group
use Rattle.zig_tree.specs.declared.grammar.TokenClass.TheVariants as class
use Rattle.zig_tree.specs.declared.grammar.When.TheVariants as when
use Rattle.zig_tree.specs.declared.grammar.Part.{Part}
use Rattle.zig_tree.specs.declared.grammar.Part.TheVariants as part
use Rattle.zig_tree.specs.Kinds.{is_kind, number_of}
use Rattle.zig_tree.specs.Kinds as kinds
use Rattle.zig_tree.specs.Grammar.{Alternative, group_rows, row, rule_rows}
use Rattle.zig_tree.specs.GrammarSentences.{next_kind, open_at, Among}
use Rattle.zig_parse.specs.declared.choice.Look.{Look}
use Rattle.zig_parse.specs.declared.thread.Thread.{Thread}
use Rattle.zig_parse.specs.declared.thread.Move.{Move}
use Rattle.zig_parse.specs.declared.thread.Move.TheVariants as move
use Rattle.zig_parse.specs.Stack.{rest}
use Rattle.zig_parse.specs.Threads.{closed, replaced}
use Rattle.zig_parse.specs.Moves.{at_choice, moving, moving_by, next_move, spread}
use Rattle.zig_parse.proofs.Derived.{each_row, open_is_row, token_derived}
use Rattle.zig_parse.proofs.Tables.{same_kind}
use Rattle.zig_parse.proofs.Picks.{choices_as}
use Rattle.zig_parse.proofs.Paths.{look_of, parts_of_items}
use Rattle.zig_parse.proofs.Reading.{Reads, split_read, joined_read, rule_made, group_made}
use Rattle.zig_parse.proofs.Tidy.{tidy, rule_tidy, group_tidy}
use Rattle.zig_parse.proofs.Moving.{coming, Each, chosen_move, closed_keeps, group_coming, group_goal, group_in_front, rule_coming, rule_goal, rule_in_front, spread_each}
use Rattle.zig_parse.proofs.Behind.{agree_other, agree_plain, group_plain, is_no_label, rule_plain}
use Rattle.zig_parse.proofs.Lively.{GoesOnAt, GoesOnPlainAt, Midway, Typed, group_ended, is_colon, open_same, rule_ended, typed_atom, typed_suffix, typed_type, typed_word}

-- ---- the parts of an alternative, and later ones

rule_taken : (q : Rule) (a : Alternative) (ps : List Part) (tokens end : List TokenKind) → Among a (open_at tokens (rule_rows q)) → Reads (a.parts ++ ps) tokens end → Reads (part.Rule q ∷ ps) tokens end
rule_taken q a ps tokens end m r = let s = split_read a.parts ps tokens end r in joined_read (part.Rule q ∷ []) ps tokens s.0 end (rule_made q a tokens s.0 m s.1) s.2

group_taken : (g : Group) (a : Alternative) (ps : List Part) (tokens end : List TokenKind) → Among a (open_at tokens (group_rows g)) → Reads (a.parts ++ ps) tokens end → Reads (part.Group g ∷ ps) tokens end
group_taken g a ps tokens end m r = let s = split_read a.parts ps tokens end r in joined_read (part.Group g ∷ []) ps tokens s.0 end (group_made g a tokens s.0 m s.1) s.2

-- ---- an alternative is taken

-- the next two tokens as they are looked at
abbrev seen : Look → List TokenKind
seen look = look.kind ∷ look.next ∷ []

-- the same alternatives are open before all tokens that begin with this one
abbrev AllSame : Look → List Alternative → Type 0
AllSame look rows = (c : List TokenKind) → open_at (seen look) rows ≡ open_at (look.kind ∷ c) rows

plain_same : (look : Look) (rows : List Alternative) → each_row (λ (a : Alternative). is_no_label a.at) rows ≡ true → AllSame look rows
plain_same look rows h c = open_same (seen look) (look.kind ∷ c) rows (agree_plain (look_of (seen look)) (look_of (look.kind ∷ c)) rows refl h)

other_same : (look : Look) (rows : List Alternative) → is_kind look.kind kind.Identifier ≡ false → AllSame look rows
other_same look rows h c = open_same (seen look) (look.kind ∷ c) rows (agree_other (look_of (seen look)) (look_of (look.kind ∷ c)) rows refl h)

group_free : (read : List TokenKind) (look : Look) (goal : Part) (g : Group) (a : Alternative) (qs : List Part) → Among a (open_at (seen look) (group_rows g)) → GoesOnAt look.kind read goal (part.Group g ∷ qs) → GoesOnAt look.kind read goal (a.parts ++ qs)
group_free read look goal g a qs m f c end r =
    f c end (group_taken g a qs (look.kind ∷ c) end (subst (λ (l : List Alternative). Among a l) (plain_same look (group_rows g) (group_plain g) c) m) r)

rule_free : (read : List TokenKind) (look : Look) (goal : Part) (q : Rule) (a : Alternative) (qs : List Part) → AllSame look (rule_rows q) → Among a (open_at (seen look) (rule_rows q)) → GoesOnAt look.kind read goal (part.Rule q ∷ qs) → GoesOnAt look.kind read goal (a.parts ++ qs)
rule_free read look goal q a qs same m f c end r = f c end (rule_taken q a qs (look.kind ∷ c) end (subst (λ (l : List Alternative). Among a l) (same c) m) r)

rule_bound : (read : List TokenKind) (look : Look) (goal : Part) (q : Rule) (a : Alternative) (qs : List Part) → AllSame look (rule_rows q) → Among a (open_at (seen look) (rule_rows q)) → GoesOnPlainAt look.kind read goal (part.Rule q ∷ qs) → GoesOnPlainAt look.kind read goal (a.parts ++ qs)
rule_bound read look goal q a qs same m f c end plain r = f c end plain (rule_taken q a qs (look.kind ∷ c) end (subst (λ (l : List Alternative). Among a l) (same c) m) r)

-- what is known of a thread's story before it reads a token
abbrev Story : List TokenKind → Look → Part → List Part → Type 0
Story read look goal ps = GoesOnAt look.kind read goal ps ⊎ ((look.kind ≡ kind.Identifier) × (is_colon look.next ≡ false) × Typed ps × GoesOnPlainAt look.kind read goal ps)

label_row : Alternative
label_row = row when.Label (part.Token kind.Identifier ∷ part.Token kind.Colon ∷ part.Group group.LabelledExpression ∷ [])

type_row : Alternative
type_row = row (when.In class.TypeStart) (part.Rule rule.TypeExpression ∷ part.Group group.InitializerOption ∷ [])

primary_open : (n : TokenKind) (c : List TokenKind) (b : Bool) → is_kind n kind.Colon ≡ b → open_at (kind.Identifier ∷ n ∷ c) (rule_rows rule.Primary) ≡ (if b then label_row else type_row) ∷ []
unfolding rule_rows number_of kinds.is_type_start label_row type_row
primary_open n c true e = rw e refl
primary_open n c false e = rw e refl

-- the same where nothing follows
primary_alone : open_at (kind.Identifier ∷ []) (rule_rows rule.Primary) ≡ type_row ∷ []
unfolding rule_rows number_of kinds.is_type_start type_row
primary_alone = refl

type_open : (c : List TokenKind) → is_colon (next_kind c) ≡ false → open_at (kind.Identifier ∷ c) (rule_rows rule.Primary) ≡ type_row ∷ []
type_open [] h = primary_alone
type_open (n ∷ c) h = primary_open n c false h

one_among : (a b : Alternative) → Among a (b ∷ []) → a ≡ b
one_among a b (inl e) = e
one_among a b (inr m) = elim m [ ]

primary_story : (read : List TokenKind) (n : TokenKind) (goal : Part) (a : Alternative) (qs : List Part) (b : Bool) → is_colon n ≡ b → a ≡ (if b then label_row else type_row)
    → GoesOnAt kind.Identifier read goal (part.Rule rule.Primary ∷ qs) → Story read (record { kind = kind.Identifier; next = n }) goal (a.parts ++ qs)
unfolding label_row type_row number_of
primary_story read n goal a qs true e same f =
    subst (λ (x : Alternative). Story read (record { kind = kind.Identifier; next = n }) goal (x.parts ++ qs)) (sym same) (inl (λ c end r.
    (let s = token_derived kind.Identifier (part.Token kind.Colon ∷ part.Group group.LabelledExpression ∷ qs) (kind.Identifier ∷ c) end r.0 r.1 in
    let u = token_derived kind.Colon (part.Group group.LabelledExpression ∷ qs) s.0 end s.1 s.4 in
    let front : c ≡ kind.Colon ∷ u.0 = (let whole = s.2 in cc) in
    let one : open_at (kind.Identifier ∷ c) (rule_rows rule.Primary) ≡ label_row ∷ [] = ap (λ (l : List TokenKind). open_at (kind.Identifier ∷ l) (rule_rows rule.Primary)) front ∙ primary_open kind.Colon u.0 true colon_is in
    f c end (rule_taken rule.Primary label_row qs (kind.Identifier ∷ c) end (subst (λ (l : List Alternative). Among label_row l) (sym one) (inl refl)) r))))
  where
    colon_is : is_kind kind.Colon kind.Colon ≡ true
    colon_is = refl
primary_story read n goal a qs false e same f =
    subst (λ (x : Alternative). Story read (record { kind = kind.Identifier; next = n }) goal (x.parts ++ qs)) (sym same) (inr (
      refl,
      e,
      typed_type (part.Group group.InitializerOption ∷ qs),
      λ c end plain r.
          f c end (rule_taken rule.Primary type_row qs (kind.Identifier ∷ c) end (subst (λ (l : List Alternative). Among type_row l) (sym (type_open c plain)) (inl refl)) r),
    ))

-- the rows behind a type that begins with an identifier
typed_rows : (n : TokenKind) (q : Rule) (a : Alternative) (qs : List Part) → Typed (part.Rule q ∷ qs) → Among a (open_at (kind.Identifier ∷ n ∷ []) (rule_rows q)) → Typed (a.parts ++ qs)
unfolding rule_rows number_of kinds.is_type_prefix_start kinds.is_atom_word
typed_rows n q a qs (typed_type _) (inl e) = subst (λ (x : Alternative). Typed (x.parts ++ qs)) (sym e) (typed_suffix (part.Group group.BangTypeOption ∷ qs))
typed_rows n q a qs (typed_type _) (inr m) = elim m [ ]
typed_rows n q a qs (typed_suffix _) (inl e) = subst (λ (x : Alternative). Typed (x.parts ++ qs)) (sym e) (typed_atom qs)
typed_rows n q a qs (typed_suffix _) (inr m) = elim m [ ]
typed_rows n q a qs (typed_atom more) (inl e) = subst (λ (x : Alternative). Typed (x.parts ++ part.Group group.SuffixTail ∷ more)) (sym e) (typed_word more)
typed_rows n q a qs (typed_atom more) (inr m) = elim m [ ]

typed_same : (look : Look) (q : Rule) (qs : List Part) → Typed (part.Rule q ∷ qs) → each_row (λ (a : Alternative). is_no_label a.at) (rule_rows q) ≡ true
unfolding rule_rows
typed_same look q qs (typed_type _) = refl
typed_same look q qs (typed_suffix _) = refl
typed_same look q qs (typed_atom _) = refl

identifier_or : (look : Look) (b : Bool) → is_kind look.kind kind.Identifier ≡ b → (look.kind ≡ kind.Identifier) ⊎ (is_kind look.kind kind.Identifier ≡ false)
identifier_or look true e = inl (same_kind look.kind kind.Identifier e)
identifier_or look false e = inr e

first_story : (read : List TokenKind) (look : Look) (goal : Part) (a : Alternative) (qs : List Part) → look.kind ≡ kind.Identifier → Among a (open_at (seen look) (rule_rows rule.Primary)) → GoesOnAt look.kind read goal (part.Rule rule.Primary ∷ qs)
    → Story read look goal (a.parts ++ qs)
first_story read look goal a qs e m f =
    let l : look ≡ record { kind = kind.Identifier; next = look.next } = ap (λ (k : TokenKind). record { kind = k; next = look.next }) e in
    let one = one_among a (if is_colon look.next then label_row else type_row)
    (subst (λ (x : List Alternative). Among a x) (ap (λ (k : TokenKind). open_at (k ∷ look.next ∷ []) (rule_rows rule.Primary)) e ∙ primary_open look.next [] (is_colon look.next) refl) m) in
    subst (λ (x : Look). Story read x goal (a.parts ++ qs)) (sym l) (primary_story read look.next goal a qs (is_colon look.next) refl one (subst (λ (k : TokenKind). GoesOnAt k read goal (part.Rule rule.Primary ∷ qs)) e f))

rule_story : (read : List TokenKind) (look : Look) (goal : Part) (q : Rule) (a : Alternative) (qs : List Part) → Among a (open_at (seen look) (rule_rows q)) → Story read look goal (part.Rule q ∷ qs) → Story read look goal (a.parts ++ qs)
rule_story read look goal q a qs m (inl f) =
    elim (identifier_or look (is_kind look.kind kind.Identifier) refl) [
      | inr other ↦ inl (rule_free read look goal q a qs (other_same look (rule_rows q) other) m f)
      | inl e ↦ elim (rule_plain q) [
        | inr plain ↦ inl (rule_free read look goal q a qs (plain_same look (rule_rows q) plain) m f)
        | inl primary ↦ first_story read look goal a qs e (subst (λ (x : Rule). Among a (open_at (seen look) (rule_rows x))) primary m) (subst (λ (x : Rule). GoesOnAt look.kind read goal (part.Rule x ∷ qs)) primary f)
      ]
    ]
rule_story read look goal q a qs m (inr (e, plain, typed, f)) =
    inr (e, plain, typed_rows look.next q a qs typed (subst (λ (k : TokenKind). Among a (open_at (k ∷ look.next ∷ []) (rule_rows q))) e m), rule_bound read look goal q a qs (plain_same look (rule_rows q) (typed_same look q qs typed)) m f)

no_group : {A : Type 0} (g : Group) (qs : List Part) → Typed (part.Group g ∷ qs) → A
no_group g qs typed = elim typed [ ]

group_story : (read : List TokenKind) (look : Look) (goal : Part) (g : Group) (a : Alternative) (qs : List Part) → Among a (open_at (seen look) (group_rows g)) → Story read look goal (part.Group g ∷ qs) → Story read look goal (a.parts ++ qs)
group_story read look goal g a qs m (inl f) = inl (group_free read look goal g a qs m f)
group_story read look goal g a qs m (inr (e, plain, typed, f)) = no_group g qs typed

rule_midway : (read : List TokenKind) (look : Look) (goal : Part) (q : Rule) (a : Alternative) (qs : List Part) → Among a (open_at (seen look) (rule_rows q)) → Midway read look goal (part.Rule q ∷ qs) → Midway read look goal (a.parts ++ qs)
rule_midway read look goal q a qs m h = record {
  story = rule_story read look goal q a qs m h.story;
  ended = rule_ended goal q a qs (open_is_row (seen look) a (rule_rows q) m) h.ended;
}

group_midway : (read : List TokenKind) (look : Look) (goal : Part) (g : Group) (a : Alternative) (qs : List Part) → Among a (open_at (seen look) (group_rows g)) → Midway read look goal (part.Group g ∷ qs) → Midway read look goal (a.parts ++ qs)
group_midway read look goal g a qs m h = record {
  story = group_story read look goal g a qs m h.story;
  ended = group_ended goal g a qs (open_is_row (seen look) a (group_rows g) m) h.ended;
}

-- ---- a thread moves

-- a thread in a brace or, where that is told, in the file, before it has read a token
pub record Moves (root : Bool) (read : List TokenKind) (look : Look) (t : Thread) : Type 0 where
  pub midway : Midway read look t.goal (coming t)
  pub tidies : tidy root (coming t) ≡ true

moves_as : (root : Bool) (read : List TokenKind) (look : Look) (goal : Part) (ps : List Part) (t : Thread) → t.goal ≡ goal → coming t ≡ ps → Midway read look goal ps → tidy root ps ≡ true → Moves root read look t
moves_as root read look goal ps t e f h k = record {
  midway = subst (λ (g : Part). Midway read look g (coming t)) (sym e) (subst (λ (l : List Part). Midway read look goal l) (sym f) h);
  tidies = subst (λ (l : List Part). tidy root l ≡ true) (sym f) k;
}

rule_moves : (root : Bool) (read : List TokenKind) (look : Look) (t : Thread) (r : Rule) (a : Alternative) → next_move look true t ≡ move.Rule r → Among a (open_at (seen look) (rule_rows r)) → Moves root read look t → Moves root read look (replaced (Some r) a.parts t)
rule_moves root read look t r a h m s =
    let f = rule_in_front look t r h in
    let qs = parts_of_items (rest t.items) in
    moves_as root read look t.goal (a.parts ++ qs) (replaced (Some r) a.parts t) (rule_goal r a.parts t) (rule_coming r a.parts t)
    (rule_midway read look t.goal r a qs m (subst (λ (l : List Part). Midway read look t.goal l) f.0 s.midway))
    (rule_tidy root r a qs f.1 (open_is_row (seen look) a (rule_rows r) m) (subst (λ (l : List Part). tidy root l ≡ true) f.0 s.tidies))

group_moves : (root : Bool) (read : List TokenKind) (look : Look) (t : Thread) (g : Group) (a : Alternative) → next_move look true t ≡ move.Group g → Among a (open_at (seen look) (group_rows g)) → Moves root read look t → Moves root read look (replaced None a.parts t)
group_moves root read look t g a h m s =
    let f = group_in_front look t g h in
    let qs = parts_of_items (rest t.items) in
    moves_as root read look t.goal (a.parts ++ qs) (replaced None a.parts t) (group_goal a.parts t) (group_coming a.parts t)
    (group_midway read look t.goal g a qs m (subst (λ (l : List Part). Midway read look t.goal l) f.0 s.midway))
    (group_tidy root g a qs f.1 (open_is_row (seen look) a (group_rows g) m) (subst (λ (l : List Part). tidy root l ≡ true) f.0 s.tidies))

-- with a choice of its own it is as before
own_choice : (root : Bool) (read : List TokenKind) (look : Look) (at : ℕ) (t : Thread) → Moves root read look t → Moves root read look (at_choice at t)
own_choice root read look at t s = record { midway = s.midway; tidies = s.tidies }

moving_by_moves : (root : Bool) (read : List TokenKind) (look : Look) (at : ℕ) (t : Thread) (m : Move) → next_move look true t ≡ m → Moves root read look t → Each (Moves root read look) (moving_by look at t m)
moving_by_moves root read look at t move.Stop h s = tt
moving_by_moves root read look at t move.Read h s = tt
moving_by_moves root read look at t move.Close h s =
    let k = closed_keeps t in
    (moves_as root read look t.goal (coming t) (closed t) k.1 (ap parts_of_items k.0) s.midway s.tidies, tt)
moving_by_moves root read look at t (move.Rule r) h s =
    subst (λ (l : List (List Part)). Each (Moves root read look) (spread at (Some r) l t)) (sym (choices_as (seen look) (rule_rows r)))
    (spread_each (Moves root read look) at (Some r) (open_at (seen look) (rule_rows r)) t (λ a m. (rule_moves root read look t r a h m s, rule_moves root read look (at_choice at t) r a (chosen_move look at t (move.Rule r) h) m (own_choice root read look at t s))))
moving_by_moves root read look at t (move.Group g) h s =
    subst (λ (l : List (List Part)). Each (Moves root read look) (spread at None l t)) (sym (choices_as (seen look) (group_rows g)))
    (spread_each (Moves root read look) at None (open_at (seen look) (group_rows g)) t (λ a m. (group_moves root read look t g a h m s, group_moves root read look (at_choice at t) g a (chosen_move look at t (move.Group g) h) m (own_choice root read look at t s))))

pub moving_moves : (root : Bool) (read : List TokenKind) (look : Look) (at : ℕ) (t : Thread) → Moves root read look t → Each (Moves root read look) (moving look at t)
unfolding moving
moving_moves root read look at t s = moving_by_moves root read look at t (next_move look true t) refl s
