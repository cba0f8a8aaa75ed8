-- After a token that isn't the file's end each live thread has more to come.
use Rattle.std.proofs.Common.{◌≡◌, ℕ, ◌<◌, Bool, true, false, inl, inr, List, [], ◌∷◌, ◌++◌, map, length, Option, Some, None, refl, sym, ◌∙◌, ap, subst, arith}
use Rattle.std.specs.Prelude.{if◌then◌else◌, nat_eq}
use Rattle.zig_tree.specs.declared.token.TokenKind.{TokenKind}
use Rattle.zig_tree.specs.declared.token.TokenKind.TheVariants as kind
use Rattle.zig_tree.specs.declared.grammar.Part.{Part}
use Rattle.zig_tree.specs.Kinds.{is_kind}
use Rattle.zig_parse.specs.declared.choice.Look.{Look}
use Rattle.zig_parse.specs.declared.thread.Item.{Item}
use Rattle.zig_parse.specs.declared.thread.Thread.{Thread}
use Rattle.zig_parse.specs.declared.survey.Finished.{Finished}
use Rattle.zig_parse.specs.declared.state.State.{State}
use Rattle.zig_parse.specs.Stack.{rest}
use Rattle.zig_parse.specs.Moves.{waits_for}
use Rattle.zig_parse.specs.Passes.{alone, finished, is_closed, result_for, resumed_top}
use Rattle.zig_parse.specs.Surveys.{left, next_live, next_state, read_live, read_waiting}
use Rattle.zig_parse.proofs.Paths.{parts_of_items}
use Rattle.zig_parse.proofs.Tidy.{Left, closer, is_kind_same, tidy, tidy_apart}
use Rattle.zig_parse.proofs.Moving.{Each, coming, each_joined, received_keeps, waits_front}
use Rattle.zig_parse.proofs.Keeping.{all_go_on, goes_on, goes_on_by, keep_each, resumed_as}
use Rattle.zig_parse.proofs.Lasting.{Around, Gone, Lasts, Waits, around_brace, is_file}
use Rattle.zig_parse.proofs.LastingSteps.{Passed, closing_not, passes}

-- more is to come
abbrev pub Pending : Thread → Type 0
Pending t = 0 < length t.items

some_items : (items : List Item) → (parts_of_items items ≡ [] → ⊥) → 0 < length items
some_items [] h = absurd (h refl)
some_items (i ∷ items) h = omega arith

-- ---- the brace stays open

gone_pending : (waiting : List (List Thread)) (read : List TokenKind) (k n : TokenKind) (t : Thread) → (k ≡ closer (is_file waiting) → ⊥) → Gone waiting read k n t → Pending t
gone_pending waiting read k n t f g = by g.left
  where
    by : Left (is_file waiting) k (coming t) → Pending t
    by (inl e) = absurd (f e.0)
    by (inr e) = some_items t.items e.2

all_pending : (waiting : List (List Thread)) (read : List TokenKind) (k n : TokenKind) (ts : List Thread) → (k ≡ closer (is_file waiting) → ⊥) → Each (Gone waiting read k n) ts → Each Pending ts
all_pending waiting read k n [] f h = tt
all_pending waiting read k n (t ∷ ts) f h = (gone_pending waiting read k n t f h.0, all_pending waiting read k n ts f h.1)

none_to_come : (items : List Item) → parts_of_items items ≡ [] → nat_eq (length items) 0 ≡ true
none_to_come [] e = refl
none_to_come (i ∷ items) e = absurd (cc)

-- where it does after a closing brace, no thread is live
open_pending : (waiting : List (List Thread)) (read : List TokenKind) (look : Look) (ts : List Thread) → is_kind look.kind kind.End ≡ false → is_closed look ts ≡ false → Each (Gone waiting read look.kind look.next) ts → Each Pending ts
unfolding is_closed
open_pending waiting read look [] plain stays h = tt
open_pending [] read look (t ∷ ts) plain stays h = all_pending [] read look.kind look.next (t ∷ ts) (λ e. (let wrong : true ≡ false = sym (ap (λ (k : TokenKind). is_kind k kind.End) e ∙ is_kind_same kind.End) ∙ plain in cc)) h
open_pending (those ∷ others) read look (t ∷ ts) plain stays h =
    all_pending (those ∷ others) read look.kind look.next (t ∷ ts)
    (λ e. (let shut : is_kind look.kind kind.RightBrace ≡ true = ap (λ (k : TokenKind). is_kind k kind.RightBrace) e ∙ is_kind_same kind.RightBrace in
    let empty = none_to_come t.items (none_left (subst (λ (k : TokenKind). Left false k (coming t)) e h.0.left)) in
    let wrong : true ≡ false = sym (rw (shut, empty) refl) ∙ stays in cc)) h
  where
    none_left : Left false kind.RightBrace (coming t) → coming t ≡ []
    none_left (inl x) = x.1
    none_left (inr x) = absurd (closing_not x.0)

-- ---- it is closed

one_pending : (waiting : List (List Thread)) (read : List TokenKind) (found : List Finished) (w : Thread) → Waits waiting read w → Each Pending (goes_on_by found w (waits_for w))
unfolding goes_on_by goes_on
one_pending waiting read found w h = subst (λ (o : Option Part). Each Pending (goes_on_by found w o)) (sym h.waits) (by (result_for found h.p))
  where
    first : (p : Part) → waits_for w ≡ Some p → parts_of_items (rest w.items) ≡ [] → ⊥
    first p e = (let s = waits_front w p e in (tidy_apart (is_file waiting) p (parts_of_items (rest w.items)) s.apart (subst (λ (l : List Part). tidy (is_file waiting) l ≡ true) s.first h.tidies)).1)

    by : (o : Option Finished) → Each Pending (goes_on w o)
    by None = tt
    by (Some f) = (subst (λ (items : List Item). 0 < length items) (sym (received_keeps f.height w).0) (some_items (rest w.items) (first h.p h.waits)), tt)

waits_pending : (waiting : List (List Thread)) (read : List TokenKind) (found : List Finished) (ws : List Thread) → Each (Waits waiting read) ws → Each Pending (all_go_on found ws)
unfolding all_go_on
waits_pending waiting read found [] h = tt
waits_pending waiting read found (w ∷ ws) h = each_joined Pending (goes_on_by found w (waits_for w)) (all_go_on found ws) (one_pending waiting read found w h.0) (waits_pending waiting read found ws h.1)

top_pending : (before : List TokenKind) (found : List Finished) (waiting : List (List Thread)) → Around before waiting → Each Pending (resumed_top found waiting)
top_pending before found [] a = tt
top_pending before found (those ∷ others) (around_brace front read _ _ a starts each) =
    subst (λ (l : List Thread). Each Pending l) (sym (resumed_as found [] those)) (keep_each Pending [] (all_go_on found those) tt (waits_pending others read found those each))

-- ---- a token

alone_pending : (ts : List Thread) → Each Pending ts → Each Pending (alone ts)
alone_pending [] h = h
alone_pending (t ∷ []) h = (h.0, tt)
alone_pending (t ∷ u ∷ ts) h = h

pub next_pending : (look : Look) (at : ℕ) (s : State) (front : List TokenKind) → Lasts s.live s.waiting front look.kind → is_kind look.kind kind.End ≡ false → Each Pending (next_state look at s).live
unfolding next_state next_live left
next_pending look at s front l plain = alone_pending (left look live (read_waiting look at s)) (by (is_closed look live) refl)
  where
    live : List Thread
    live = read_live look at s

    p : Passed live (read_waiting look at s) (front ++ look.kind ∷ []) look.kind look.next
    p = passes look at s front l

    by : (b : Bool) → is_closed look live ≡ b → Each Pending (if b then resumed_top (map finished live) (read_waiting look at s) else live)
    by true e = top_pending p.before (map finished live) (read_waiting look at s) p.around
    by false e = open_pending (read_waiting look at s) p.read look live plain e p.gone
