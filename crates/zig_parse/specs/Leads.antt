-- Which way of the first pass goes before all others.
use Rattle.std.specs.Prelude.{◌≡◌, ℕ, ◌+◌, ◌<◌, ◌≤◌, Bool, true, false, ◌&&◌, ◌||◌, ◌⊎◌, List, [], ◌∷◌, ◌++◌, length, map, Option, Some, None, ◌-◌, if◌then◌else◌}
use Rattle.zig_tree.specs.declared.token.TokenKind.{TokenKind}
use Rattle.zig_tree.specs.declared.token.TokenKind.TheVariants.{Colon, Comma, End, Identifier}
use Rattle.zig_tree.specs.declared.grammar.Rule.TheVariants as rule
use Rattle.zig_tree.specs.declared.grammar.Part.{Part}
use Rattle.zig_tree.specs.declared.grammar.Part.TheVariants as part
use Rattle.zig_tree.specs.Kinds.{is_kind, is_part}
use Rattle.zig_tree.specs.GrammarSentences.{Pieces, Derives, next_kind}
use Rattle.zig_parse.specs.declared.thread.Frame.{Frame}
use Rattle.zig_parse.specs.declared.thread.Item.{Item}
use Rattle.zig_parse.specs.declared.thread.Thread.{Thread}
use Rattle.zig_parse.specs.declared.state.State.{State}
use Rattle.zig_parse.specs.Stack.{rest}
use Rattle.zig_parse.specs.Moves.{waits_for}
use Rattle.zig_parse.specs.Passes.{all_deep, least_from}
use Rattle.zig_parse.specs.Surveys.{first_state, next_state}
use Rattle.zig_tree.specs.declared.tree.TheConstants.{DEPTH_LIMIT}

-- ---- the first of the ways

-- whether one of some threads reads this part
abbrev pub any_reads : Part → List Thread → Bool
any_reads goal [] = false
any_reads goal (t ∷ ts) = is_part t.goal goal || any_reads goal ts

-- whether one of some threads that wait, which reads this part, waits for one of the parts that are alive
abbrev pub goes_for : (Part → Bool) → Option Part → Bool
goes_for alive None = false
goes_for alive (Some p) = alive p

abbrev pub any_goes : (Part → Bool) → Part → List Thread → Bool
any_goes alive goal [] = false
any_goes alive goal (t ∷ ts) = is_part t.goal goal && goes_for alive (waits_for t) || any_goes alive goal ts

-- So many nodes more may lie around open nodes than are counted, the innermost of which lies at this depth: neither
-- they nor those below them lie too deep then.
abbrev pub Roomy : ℕ → ℕ → List Frame → Type 0
Roomy more depth [] = Unit {0}
Roomy more depth (f ∷ fs) = (f.height + depth + more ≤ DEPTH_LIMIT) × Roomy more (if f.solid then depth - 1 else depth) fs

abbrev pub HasRoom : ℕ → Thread → Type 0
HasRoom more t = (more ≡ 0) ⊎ ((t.depth + more ≤ DEPTH_LIMIT) × Roomy more t.depth t.frames)

-- A thread that waits isn't marked as deep and lies within the limit, also with those nodes around it that aren't
-- counted. For what it waits for the count begins at this depth, so that there so many nodes aren't counted.
pub record Sits (t : Thread) (around least more : ℕ) : Type 0 where
  pub shallow : t.deep ≡ false
  pub low : t.depth + around ≤ DEPTH_LIMIT
  pub room : HasRoom around t
  pub counted : t.depth + around ≤ least + more
  pub some : (t.depth + around ≡ least) ⊎ (0 < least)

-- Of the threads that wait at each open brace one leads: it waits for a part that is alive, which some thread in the
-- brace reads on, and it is the first of these that reads the part which the leader of the brace around waits for. It
-- isn't marked as deep and lies within the limit, also with the nodes around it that aren't counted since another that
-- waits for the same lies less deep. In the innermost brace, with the parts that are alive in it, the leader waits for
-- this part, the count begins at this depth, and so many nodes around aren't counted.
pub data Leads : List (List Thread) → (Part → Bool) → Part → ℕ → ℕ → Type 0 where
  leads_file : (alive : Part → Bool) (more : ℕ) → Leads [] alive (part.Rule rule.Root) 0 more
  leads_brace : (those before after : List Thread) (t : Thread) (others : List (List Thread)) (alive : Part → Bool) (p : Part) (depth around least more : ℕ)
      → those ≡ before ++ t ∷ after → Leads others (λ q. any_goes alive q those) t.goal depth around → any_goes alive t.goal before ≡ false → waits_for t ≡ Some p
      → least_from None p those ≡ Some least → Sits t around least more → Leads (those ∷ others) alive p least more

-- whether a colon is to come first
abbrev pub begins_colon : List Item → Bool
begins_colon [] = false
begins_colon (i ∷ is) = is_part i.part (part.Token Colon)

-- a live thread leads that has more to come: first a colon where the next token is to be one, and only there
pub record Leader (next : TokenKind) (s : State) : Type 0 where
  pub before : List Thread
  pub after : List Thread
  pub t : Thread
  pub depth : ℕ
  pub live_is : s.live ≡ before ++ t ∷ after
  pub none : any_reads t.goal before ≡ false
  pub some : 0 < length t.items
  pub more : ℕ
  pub room : HasRoom more t
  pub leads : Leads s.waiting (λ q. any_reads q s.live) t.goal depth more
  pub colon : begins_colon t.items ≡ is_kind next Colon

-- ---- threads that are even

-- Of live threads the first that reads a part is marked as deep only where all are, and it has room for so many nodes
-- more; after an identifier a colon is to come first where the next token is to be one, and only there.
abbrev pub EvenLive : Bool → TokenKind → ℕ → List Thread → Type 0
EvenLive named next more live =
    (before after : List Thread) (t : Thread) → live ≡ before ++ t ∷ after → any_reads t.goal before ≡ false → (t.deep ≡ all_deep live) × HasRoom more t × (named ≡ true → begins_colon t.items ≡ is_kind next Colon)

-- Of those that wait at an open brace the first that reads one part and waits for another isn't too deep, and in the
-- brace not more than so many nodes around it aren't counted.
abbrev pub EvenWaiting : List (List Thread) → ℕ → Type 0
EvenWaiting [] more = Unit {0}
EvenWaiting (those ∷ others) more =
    (around : ℕ) × EvenWaiting others around × ((before after : List Thread) (t : Thread) (p : Part) (least : ℕ) → those ≡ before ++ t ∷ after → waits_for t ≡ Some p → any_goes (λ q. is_part q p) t.goal before ≡ false → least_from None p those ≡ Some least → Sits t around least more)

-- ---- a way with tokens that end it

-- how many of some tokens are no commas
abbrev pub weight : TokenKind → ℕ
weight Comma = 0
weight _ = 1

abbrev pub heavy : List TokenKind → ℕ
heavy [] = 0
heavy (k ∷ ks) = weight k + heavy ks

-- parts derive these tokens up to others, and they derive none that are fewer, commas not counted
pub record EndsWith (ps : List Part) (tokens end : List TokenKind) : Type 0 where
  pub tree : Pieces
  pub derived : Derives ps tokens end tree
  pub fewest : (other later : List TokenKind) (p : Pieces) → Derives ps other later p → heavy tokens + heavy later ≤ heavy other + heavy end

-- none of some threads that read this part ends its brace with these tokens
abbrev pub NoneEnds : Part → List TokenKind → List TokenKind → List Thread → Type 0
NoneEnds goal tokens end [] = Unit {0}
NoneEnds goal tokens end (t ∷ ts) = (t.goal ≡ goal → (p : Pieces) → Derives (map (λ (i : Item). i.part) t.items) tokens end p → ⊥) × NoneEnds goal tokens end ts

-- none of some threads that wait for parts that are alive, and read this part, ends its brace with these tokens
-- behind the one that it waits for
abbrev pub NoneGoesOn : Part → (Part → Bool) → List TokenKind → List TokenKind → List Thread → Type 0
NoneGoesOn goal alive tokens end [] = Unit {0}
NoneGoesOn goal alive tokens end (t ∷ ts) =
    (t.goal ≡ goal → (q : Part) → waits_for t ≡ Some q → (alive q ≡ false) ⊎ ((p : Pieces) → Derives (map (λ (i : Item). i.part) (rest t.items)) tokens end p → ⊥)) × NoneGoesOn goal alive tokens end ts

-- Of the threads that wait at each open brace one goes on with some tokens, the fewest that may be: those behind
-- the innermost brace are told. No thread before it goes on with them, and it sits within the limit. Nothing in the
-- brace that reads a part which isn't alive ends with these tokens. In the innermost brace it waits for this part,
-- the count begins at this depth, and so many nodes around aren't counted.
pub data Ends : List (List Thread) → (Part → Bool) → Part → ℕ → ℕ → List TokenKind → Type 0 where
  ends_file : (alive : Part → Bool) (more : ℕ) → Ends [] alive (part.Rule rule.Root) 0 more []
  ends_brace : (those before after : List Thread) (t : Thread) (others : List (List Thread)) (alive alive_around : Part → Bool) (p : Part) (depth around least more : ℕ) (tokens end : List TokenKind)
      → those ≡ before ++ t ∷ after → Ends others alive_around t.goal depth around end → waits_for t ≡ Some p
      → EndsWith (map (λ (i : Item). i.part) (rest t.items)) tokens end
      → NoneGoesOn t.goal alive tokens end before → ((q : Part) → alive_around q ≡ false → NoneGoesOn q alive tokens end those)
      → least_from None p those ≡ Some least → Sits t around least more → Ends (those ∷ others) alive p least more tokens

-- A live thread ends all with these tokens, the fewest that may be, and none before it does: they begin with a
-- colon where the next token is to be one, and only there.
pub record Ending (next : TokenKind) (s : State) (tokens : List TokenKind) : Type 0 where
  pub before : List Thread
  pub after : List Thread
  pub t : Thread
  pub depth : ℕ
  pub alive : Part → Bool
  pub end : List TokenKind
  pub live_is : s.live ≡ before ++ t ∷ after
  pub own : EndsWith (map (λ (i : Item). i.part) t.items) tokens end
  pub none : NoneEnds t.goal tokens end before
  pub none_lost : (q : Part) → alive q ≡ false → NoneEnds q tokens end s.live
  pub more : ℕ
  pub room : HasRoom more t
  pub ends : Ends s.waiting alive t.goal depth more end
  pub some : 0 < length tokens
  pub colon : is_kind (next_kind tokens) Colon ≡ is_kind next Colon

-- ---- tokens that are read

-- the first of some kinds of token, or the one after them
abbrev pub kind_before : List TokenKind → TokenKind → TokenKind
kind_before [] next = next
kind_before (k ∷ ks) next = k

-- the state of the first pass after these tokens, before one of this kind
unfoldable pub after_front : List TokenKind → TokenKind → ℕ → State → State
after_front [] next at s = s
after_front (k ∷ ks) next at s = after_front ks next (at + 1) (next_state (record { kind = k; next = kind_before ks next }) at s)

unfoldable pub read_front : List TokenKind → TokenKind → State
read_front front next = after_front front next 0 (first_state (record { kind = kind_before front next; next = next }))

-- whether the last of some kinds of token is this one
abbrev pub ends_with : TokenKind → List TokenKind → Bool
ends_with kind [] = false
ends_with kind (k ∷ []) = is_kind k kind
ends_with kind (k ∷ j ∷ ks) = ends_with kind (j ∷ ks)

-- whether it is an identifier
abbrev pub ends_named : List TokenKind → Bool
ends_named front = ends_with Identifier front

-- after these tokens, the last of which isn't the file's end, the threads of the first pass are even
pub record IsEven (front : List TokenKind) (next : TokenKind) : Type 0 where
  pub unended : ends_with End front ≡ false
  pub more : ℕ
  pub live : EvenLive (ends_named front) next more (read_front front next).live
  pub waiting : EvenWaiting (read_front front next).waiting more
