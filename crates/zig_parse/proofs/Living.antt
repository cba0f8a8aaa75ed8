-- What holds of the threads in a brace, before and after a token, and of those that wait around it.
use Rattle.std.proofs.Common.{◌≡◌, ℕ, ◌+◌, ◌<◌, Bool, true, false, ◌&&◌, ◌⊎◌, inr, List, [], ◌∷◌, ◌++◌, length, take, Some, None, refl, sym, ◌∙◌, ap, subst, arith}
use Rattle.std.specs.Prelude.{not}
use Rattle.std.proofs.lemmas.Bool.{and_parts}
use Rattle.zig_tree.specs.declared.token.TokenKind.{TokenKind}
use Rattle.zig_tree.specs.declared.token.TokenKind.TheVariants as kind
use Rattle.zig_tree.specs.declared.grammar.Rule.TheVariants as rule
use Rattle.zig_tree.specs.declared.grammar.Group.{Group}
use Rattle.zig_tree.specs.declared.grammar.Group.TheVariants as group
use Rattle.zig_tree.specs.declared.grammar.Part.{Part}
use Rattle.zig_tree.specs.declared.grammar.Part.TheVariants as part
use Rattle.zig_tree.specs.Kinds.{number_of}
use Rattle.zig_tree.specs.Grammar.{group_rows}
use Rattle.zig_tree.specs.GrammarSentences.{AreShallow, Pieces, word, Derives}
use Rattle.zig_parse.specs.declared.thread.Item.{Item}
use Rattle.zig_parse.specs.declared.thread.Thread.{Thread}
use Rattle.zig_parse.specs.declared.thread.Move.TheVariants as move
use Rattle.zig_parse.specs.Stack.{rest}
use Rattle.zig_parse.specs.Threads.{after_read, received}
use Rattle.zig_parse.specs.Moves.{moving, next_move, settled_all, waits_for}
use Rattle.zig_parse.specs.Passes.{begun, own_height}
use Rattle.zig_parse.proofs.Derived.{each_row, row_tested, group_derived, no_longer, open_is_row, split_derived}
use Rattle.zig_parse.proofs.Shapes.{row_fills}
use Rattle.zig_parse.proofs.Balance.{reads_some}
use Rattle.zig_parse.specs.Ways.{Fork}
use Rattle.zig_parse.proofs.Paths.{Awaits, Seen, Told, Path, look_of, parts_of_items}
use Rattle.zig_parse.proofs.Layers.{Spot, inside_spot, root_spot}
use Rattle.zig_parse.proofs.Tidy.{tidy, is_last, is_body, is_plain, Left, tidy_read}
use Rattle.zig_parse.proofs.Moving.{coming, Each, each_kept, Comes, moving_come, settled_each, read_keeps, reads_front, fits_derives}
use Rattle.zig_parse.proofs.Opening.{Five, five_block, five_initializer, five_body, five_errors, five_switch, body, opens}
use Rattle.zig_parse.proofs.Settling.{Dead}

-- ---- tidy parts read a token at least

body_filled : (g : Group) → is_body g ≡ true → each_row row_fills (group_rows g) ≡ true
unfolding group_rows
body_filled group.RootMembers h = absurd (cc)
body_filled group.Members h = absurd (cc)
body_filled group.FieldEnd h = absurd (cc)
body_filled group.TypeOption h = absurd (cc)
body_filled group.ValueOption h = absurd (cc)
body_filled group.StringOption h = absurd (cc)
body_filled group.PubOption h = absurd (cc)
body_filled group.Declared h = absurd (cc)
body_filled group.Parameters h = absurd (cc)
body_filled group.MoreParameters h = absurd (cc)
body_filled group.BangOption h = absurd (cc)
body_filled group.ComptimeOption h = absurd (cc)
body_filled group.ParameterType h = absurd (cc)
body_filled group.Statements h = absurd (cc)
body_filled group.ComptimeStatement h = absurd (cc)
body_filled group.LabelledStatement h = absurd (cc)
body_filled group.ContinueOption h = absurd (cc)
body_filled group.MoreForArguments h = absurd (cc)
body_filled group.ForArguments h = absurd (cc)
body_filled group.ElseOption h = absurd (cc)
body_filled group.RestEnd h = absurd (cc)
body_filled group.RangeOption h = absurd (cc)
body_filled group.ExpressionOption h = absurd (cc)
body_filled group.MoreCaptures h = absurd (cc)
body_filled group.FurtherCaptures h = absurd (cc)
body_filled group.PointerOption h = absurd (cc)
body_filled group.CaptureOption h = absurd (cc)
body_filled group.AssignTail h = absurd (cc)
body_filled group.OrTail h = absurd (cc)
body_filled group.AndTail h = absurd (cc)
body_filled group.CompareTail h = absurd (cc)
body_filled group.BitTail h = absurd (cc)
body_filled group.ShiftTail h = absurd (cc)
body_filled group.AddTail h = absurd (cc)
body_filled group.MultiplyTail h = absurd (cc)
body_filled group.MorePrefixes h = absurd (cc)
body_filled group.LabelledExpression h = absurd (cc)
body_filled group.BreakLabel h = absurd (cc)
body_filled group.InitializerOption h = absurd (cc)
body_filled group.ElseExpression h = absurd (cc)
body_filled group.MoreTypePrefixes h = absurd (cc)
body_filled group.BangTypeOption h = absurd (cc)
body_filled group.ConstOption h = absurd (cc)
body_filled group.BracketPrefix h = absurd (cc)
body_filled group.SuffixTail h = absurd (cc)
body_filled group.Arguments h = absurd (cc)
body_filled group.MoreArguments h = absurd (cc)
body_filled group.DotAtom h = absurd (cc)
body_filled group.ErrorAtom h = absurd (cc)
body_filled group.ErrorNames h = absurd (cc)
body_filled group.MoreErrorNames h = absurd (cc)
body_filled group.InitializerBody h = refl
body_filled group.MoreFields h = absurd (cc)
body_filled group.FurtherFields h = absurd (cc)
body_filled group.TagOption h = absurd (cc)
body_filled group.UnionTag h = absurd (cc)
body_filled group.Prongs h = absurd (cc)
body_filled group.MoreProngs h = absurd (cc)
body_filled group.ProngHead h = absurd (cc)
body_filled group.MoreItems h = absurd (cc)
body_filled group.Items h = absurd (cc)
body_filled group.ItemRange h = absurd (cc)
body_filled group.ErrorBraces h = absurd (cc)
body_filled group.SwitchBraces h = absurd (cc)

not_and : (x y : Bool) → (not x && y) ≡ true → y ≡ true
not_and true y h = absurd (cc)
not_and false y h = h

last_shorter : (root : Bool) (p : Part) (tokens end : List TokenKind) (q : Pieces) → is_last root p ≡ true → Derives (p ∷ []) tokens end q → length end < length tokens
last_shorter root (part.Token k) tokens end q h d = reads_some (part.Token k ∷ []) tokens end q d refl
last_shorter root (part.OneOf c) tokens end q h d = reads_some (part.OneOf c ∷ []) tokens end q d refl
last_shorter root (part.Rule r) tokens end q h d = reads_some (part.Rule r ∷ []) tokens end q d refl
last_shorter root (part.Group g) tokens end q h d =
    let s = group_derived g [] tokens end q d in
    let t = s.0 in
    let some = reads_some t.a.parts tokens t.next t.inside t.first (row_tested row_fills t.a (group_rows g) (body_filled g (not_and root (is_body g) h)) (open_is_row tokens t.a (group_rows g) t.among)) in
    omega (arith, some, no_longer [] t.next end t.later t.others)

pub tidy_shorter : (root : Bool) (ps : List Part) (tokens end : List TokenKind) (q : Pieces) → tidy root ps ≡ true → (ps ≡ [] → ⊥) → Derives ps tokens end q → length end < length tokens
tidy_shorter root [] tokens end q h some d = absurd (some refl)
tidy_shorter root (p ∷ []) tokens end q h some d = last_shorter root p tokens end q h d
tidy_shorter root (p ∷ r ∷ ps) tokens end q h some d =
    let s = split_derived (p ∷ []) (r ∷ ps) tokens end q d in
    let less = tidy_shorter root (r ∷ ps) s.0 end s.2 (and_parts (is_plain p) (tidy root (r ∷ ps)) h).1 (λ e. cc) s.5 in
    omega (arith, less, no_longer (p ∷ []) tokens s.0 s.1 s.4)

-- ---- a thread before a token

-- a thread in a brace that began before `from`: whatever its parts derive, its goal derives from there
pub record Good (root : Bool) (from tokens : List TokenKind) (y : Thread) : Type 0 where
  pub sound : (end : List TokenKind) (p : Pieces) → Derives (coming y) tokens end p → (q : Pieces) × Derives (y.goal ∷ []) from end q
  pub tidies : tidy root (coming y) ≡ true
  pub rooted : root ≡ true → y.goal ≡ part.Rule rule.Root

pub come_good : (root : Bool) (from tokens : List TokenKind) (t u : Thread) → Good root from tokens t → Comes tokens t.goal (coming t) u → Good root from tokens u
come_good root from tokens t u g c = record {
  sound = λ end p d. (let q = c.back end p d in let s = g.sound end q.0 q.1 in (s.0, subst (λ (x : Part). Derives (x ∷ []) from end s.0) (sym c.same_goal) s.1));
  tidies = c.tidies root g.tidies;
  rooted = λ e. c.same_goal ∙ g.rooted e;
}

-- one that can read the token
abbrev pub Readable : Bool → List TokenKind → List TokenKind → Thread → Type 0
Readable root from tokens y = Good root from tokens y × (next_move (look_of tokens) true y ≡ move.Read)

pub settled_good : (root : Bool) (from tokens : List TokenKind) (at : ℕ) (ts : List Thread) → Each (Good root from tokens) ts → Each (Readable root from tokens) (settled_all (look_of tokens) at ts)
unfolding settled_all
settled_good root from tokens at ts h =
    settled_each (Good root from tokens) (Readable root from tokens) (look_of tokens) at
    (λ t g. each_kept (Comes tokens t.goal (coming t)) (Good root from tokens) (moving (look_of tokens) at t) (λ u c. come_good root from tokens t u g c) (moving_come tokens at t))
    (λ t g r. (g, r)) _ ts h

-- ---- a thread after a token

-- a thread that has read this token
pub record Gone (root : Bool) (from : List TokenKind) (k : TokenKind) (more : List TokenKind) (y : Thread) : Type 0 where
  pub sound : (end : List TokenKind) (p : Pieces) → Derives (coming y) more end p → (q : Pieces) × Derives (y.goal ∷ []) from end q
  pub left : Left root k (coming y)
  pub rooted : root ≡ true → y.goal ≡ part.Rule rule.Root

pub read_gone : (root : Bool) (from : List TokenKind) (k : TokenKind) (more : List TokenKind) (y : Thread) → Readable root from (k ∷ more) y → waits_for y ≡ None → Gone root from k more (after_read y)
read_gone root from k more y g w =
    let s = reads_front (look_of (k ∷ more)) y g.1 w in
    let keep = read_keeps y in
    let qs = parts_of_items (rest y.items) in
    record {
      sound = λ end p d. (let e = fits_derives s.p qs k more end p s.fits (subst (λ l. Derives (parts_of_items l) more end p) keep.0 d) in
          let q = g.0.sound end (word k p) (subst (λ (l : List Part). Derives l (k ∷ more) end (word k p)) (sym s.first) e) in
          (q.0, subst (λ (x : Part). Derives (x ∷ []) from end q.0) (sym keep.1) q.1));
      left = subst (λ l. Left root k (parts_of_items l)) (sym keep.0) (tidy_read root s.p qs k s.fits (subst (λ (l : List Part). tidy root l ≡ true) s.first g.0.tidies));
      rooted = λ e. keep.1 ∙ g.0.rooted e;
    }

-- a way that leads nowhere leads nowhere after the token
pub read_dead : (root : Bool) (from : List TokenKind) (k : TokenKind) (more end : List TokenKind) (goal : Part) (y : Thread) → Readable root from (k ∷ more) y → waits_for y ≡ None → Dead goal (k ∷ more) end y → Dead goal more end (after_read y)
read_dead root from k more end goal y g w dead e p d =
    let s = reads_front (look_of (k ∷ more)) y g.1 w in
    let keep = read_keeps y in
    let qs = parts_of_items (rest y.items) in
    dead (sym keep.1 ∙ e) (word k p) (subst (λ (l : List Part). Derives l (k ∷ more) end (word k p)) (sym s.first)
    (fits_derives s.p qs k more end p s.fits (subst (λ l. Derives (parts_of_items l) more end p) keep.0 d)))

rest_parts : (items : List Item) → rest (parts_of_items items) ≡ parts_of_items (rest items)
rest_parts [] = refl
rest_parts (i ∷ items) = refl

some_body : (p : Part) → Five p → body p ≡ [] → ⊥
some_body p f e = by p f e
  where
    by : (p : Part) → Five p → body p ≡ [] → ⊥
    by _ five_block e = cc
    by _ five_initializer e = cc
    by _ five_body e = cc
    by _ five_errors e = cc
    by _ five_switch e = cc

-- the thread that begins to read a part in braces, after the brace
pub begun_gone : (more : List TokenKind) (p : Part) (depth : ℕ) → Five p → Gone false (kind.LeftBrace ∷ more) kind.LeftBrace more (after_read (begun (look_of (kind.LeftBrace ∷ more)) p depth))
unfolding number_of
begun_gone more p depth f =
    let whole = kind.LeftBrace ∷ more in
    let o = opens whole p depth f in
    let b = begun (look_of whole) p depth in
    let keep = read_keeps b in
    let same : coming (after_read b) ≡ body p = ap parts_of_items keep.0 ∙ sym (rest_parts b.items) ∙ ap rest o.first in
    record {
      sound = λ end q d. (let e = o.derives end (word kind.LeftBrace q) (fits_derives (part.Token kind.LeftBrace) (body p) kind.LeftBrace more end q refl (subst (λ (l : List Part). Derives l more end q) same d)) in
          (e.0, subst (λ (x : Part). Derives (x ∷ []) whole end e.0) (sym (keep.1 ∙ o.own_goal)) e.1));
      left = inr (refl, subst (λ (l : List Part). tidy false l ≡ true) (sym same) o.body_tidy, λ e. some_body p f (sym same ∙ e));
      rooted = λ e. absurd (cc);
    }

-- ---- the threads that wait

-- What waits around a brace: for each open brace the threads that wait for its end, and among them the one
-- of a path. The inner part is read from the brace up to `mid`, and has so many nodes one in the other; in
-- the end the file has `top`.
pub data Around (low : ℕ → Type 0) (top total : ℕ) : Spot → List (List Thread) → Part → List TokenKind → List TokenKind → ℕ → Bool → List ℕ → List Fork → Type 0 where
  at_root : (depths : List ℕ) (from : List TokenKind) → ((n : ℕ) → AreShallow (take n depths) → low n) → Around low top total (root_spot depths) [] (part.Rule rule.Root) from [] top true [] []
  in_brace : (those before after : List Thread) (others : List (List Thread)) (x : Thread) (p goal : Part) (begin from mid end : List TokenKind) (told : Told) (root : Bool) (at inner_height height begin_at base : ℕ) (cs : List ℕ) (outer forks : List Fork)
      → those ≡ before ++ x ∷ after → waits_for x ≡ Some p → x.goal ≡ goal
      → Each (Dead goal from end) before → Each (Good root begin from) those
      → (told.is ≡ true → low at → (received (own_height p inner_height) x).deep ≡ false)
      → Awaits told.spot begin_at mid end x.frames x.items p base
      → Seen told.spot at mid end (received (own_height p inner_height) x).frames (received (own_height p inner_height) x).items
      → Path true low told false (received (own_height p inner_height) x) at mid end height outer
      → at + length mid ≡ total → (told.is ≡ true) ⊎ (low at → ⊥)
      → Around low top total told.spot others goal begin end height root cs forks
      → Around low top total (inside_spot told.spot begin_at base) (those ∷ others) p from mid inner_height false (x.choices ++ cs) (outer ++ forks)
