-- What nodes in a row spell.
use Rattle.std.proofs.Common.{◌≡◌, ℕ, zero, suc, ◌+◌, ◌-◌, ◌<◌, ◌≤◌, inl, inr, List, [], ◌∷◌, ◌++◌, length, drop, Option, Some, refl, sym, ◌∙◌, ap, arith}
use Rattle.std.specs.Prelude.{slice_get}
use Rattle.std.proofs.lemmas.Bool.{cases_lt}
use Rattle.zw_base.specs.declared.diag.Span.{Span}
use Rattle.zig_tree.specs.declared.token.Token.{Token}
use Rattle.zig_tree.specs.declared.token.TokenKind.{TokenKind}
use Rattle.zig_tree.specs.declared.tree.Kid.{Kid}
use Rattle.zig_tree.specs.declared.tree.Kid.TheVariants as kid
use Rattle.zig_tree.specs.declared.tree.Node.{Node}
use Rattle.zig_tree.specs.GrammarSentences.{Pieces, nothing, word, node, followed, next_kind, second_kind}
use Rattle.zig_parse.specs.declared.choice.Look.{Look}
use Rattle.zig_parse.specs.Nodes.{joined, node_span, span_at, span_of, token_span}
use Rattle.zig_parse.specs.Surveys.{kind_of, look_at}
use Rattle.zig_parse.specs.Trees.{Spells, spells_nothing, spells_token, spells_node, bytes_from, kinds_of}

pub got_more : {A : Type 0} (xs ys : List A) (i : ℕ) (x : A) → slice_get xs i ≡ Some x → slice_get (xs ++ ys) i ≡ Some x
got_more [] ys i x h = absurd (cc)
got_more (y ∷ xs) ys zero x h = h
got_more (y ∷ xs) ys (suc i) x h = got_more xs ys i x h

pub got_last : {A : Type 0} (xs : List A) (x : A) → slice_get (xs ++ x ∷ []) (length xs) ≡ Some x
got_last [] x = refl
got_last (y ∷ xs) x = got_last xs x

-- more nodes change nothing
pub spells_more : (tokens : List Token) (nodes more : List Node) (kids : List Kid) (a b : ℕ) (p : Pieces) → Spells tokens nodes kids a b p → Spells tokens (nodes ++ more) kids a b p
spells_more tokens nodes more kids a b p (spells_nothing _) = spells_nothing a
spells_more tokens nodes more kids a b p (spells_token _ _ t ks later h s) = spells_token a b t ks later h (spells_more tokens nodes more ks (a + 1) b later s)
spells_more tokens nodes more kids a b p (spells_node number _ next _ n ks inside later h l e s t) =
    spells_node number a next b n ks inside later (got_more nodes more number n h) l e (spells_more tokens nodes more n.kids a next inside s) (spells_more tokens nodes more ks next b later t)

-- one row after another
pub spells_joined : (tokens : List Token) (nodes : List Node) (kids more : List Kid) (a b c : ℕ) (p q : Pieces) → Spells tokens nodes kids a b p → Spells tokens nodes more b c q → Spells tokens nodes (kids ++ more) a c (followed p q)
spells_joined tokens nodes kids more a b c p q (spells_nothing _) e = e
spells_joined tokens nodes kids more a b c p q (spells_token _ _ t ks later h s) e = spells_token a c t (ks ++ more) (followed later q) h (spells_joined tokens nodes ks more (a + 1) b c later q s e)
spells_joined tokens nodes kids more a b c p q (spells_node number _ next _ n ks inside later h l f s t) e =
    spells_node number a next c n (ks ++ more) inside (followed later q) h l f s (spells_joined tokens nodes ks more next b c later q t e)

-- how many pieces stand in a row
abbrev pub amount : Pieces → ℕ
amount nothing = 0
amount (word k more) = suc (amount more)
amount (node r inside more) = suc (amount more)

pub spells_amount : (tokens : List Token) (nodes : List Node) (kids : List Kid) (a b : ℕ) (p : Pieces) → Spells tokens nodes kids a b p → amount p ≡ length kids
spells_amount tokens nodes kids a b p (spells_nothing _) = refl
spells_amount tokens nodes kids a b p (spells_token _ _ t ks later h s) = ap suc (spells_amount tokens nodes ks (a + 1) b later s)
spells_amount tokens nodes kids a b p (spells_node number _ next _ n ks inside later h l e s t) = ap suc (spells_amount tokens nodes ks next b later t)

pub spells_within : (tokens : List Token) (nodes : List Node) (kids : List Kid) (a b : ℕ) (p : Pieces) → Spells tokens nodes kids a b p → length kids + a ≤ b
spells_within tokens nodes kids a b p (spells_nothing _) = omega arith
spells_within tokens nodes kids a b p (spells_token _ _ t ks later h s) = let w = spells_within tokens nodes ks (a + 1) b later s in omega arith
spells_within tokens nodes kids a b p (spells_node number _ next _ n ks inside later h l e s t) = let w = spells_within tokens nodes ks next b later t in omega arith

-- each of the tokens is there
pub holds_token : (tokens : List Token) (nodes : List Node) (kids : List Kid) (a b : ℕ) (p : Pieces) → Spells tokens nodes kids a b p → (i : ℕ) → a ≤ i → i < b → (t : Token) × (slice_get tokens i ≡ Some t)
holds_token tokens nodes kids a b p (spells_nothing _) i l u = absurd (omega arith)
holds_token tokens nodes kids a b p (spells_token _ _ t ks later h s) i l u =
    elim (cases_lt a i) [
      | inl more ↦ holds_token tokens nodes ks (a + 1) b later s i (omega arith) u
      | inr here ↦ let same : i ≡ a = omega arith in (t, ap (slice_get tokens) same ∙ h)
    ]
holds_token tokens nodes kids a b p (spells_node number _ next _ n ks inside later h k e s t) i l u =
    elim (cases_lt i next) [
      | inl first ↦ holds_token tokens nodes n.kids a next inside s i l first
      | inr after ↦ holds_token tokens nodes ks next b later t i after u
    ]

-- ---- where a row lies

record Begins (o q : Option Span) : Type 0 where
  left : Span
  right : Span
  at_left : o ≡ Some left
  at_right : q ≡ Some right
  same : left.start ≡ right.start

record Stops (o q : Option Span) : Type 0 where
  left : Span
  right : Span
  at_left : o ≡ Some left
  at_right : q ≡ Some right
  same : left.end ≡ right.end

bytes_are : (tokens : List Token) (a b : ℕ) (s t : Token) → slice_get tokens a ≡ Some s → slice_get tokens (b - 1) ≡ Some t → bytes_from tokens a b ≡ record { start = s.span.start; end = t.span.end }
bytes_are tokens a b s t h k = ap (λ (o : Option Token). joined (token_span o) (token_span (slice_get tokens (b - 1)))) h ∙ ap (λ (o : Option Token). joined (Some s.span) (token_span o)) k

first_begins : (tokens : List Token) (nodes : List Node) (kids : List Kid) (a b : ℕ) (p : Pieces) → Spells tokens nodes kids a b p → a < b → Begins (span_at tokens nodes (slice_get kids 0)) (token_span (slice_get tokens a))
first_begins tokens nodes kids a b p (spells_nothing _) l = absurd (omega arith)
first_begins tokens nodes kids a b p (spells_token _ _ t ks later h s) l = record { left = t.span; right = t.span; at_left = ap token_span h; at_right = ap token_span h; same = refl }
first_begins tokens nodes kids a b p (spells_node number _ next _ n ks inside later h k e s u) l =
    let first = holds_token tokens nodes n.kids a next inside s a (omega arith) k in
    let last = holds_token tokens nodes n.kids a next inside s (next - 1) (omega arith) (omega arith) in
    record {
      left = n.span;
      right = first.0.span;
      at_left = ap (λ (o : Option Node). node_span o) h;
      at_right = ap token_span first.1;
      same = ap (λ (x : Span). x.start) (e ∙ bytes_are tokens a next first.0 last.0 first.1 last.1);
    }

last_more : {A : Type 0} (x : A) (xs : List A) → 0 < length xs → slice_get (x ∷ xs) (length (x ∷ xs) - 1) ≡ slice_get xs (length xs - 1)
last_more x [] h = absurd (omega arith)
last_more x (y ∷ ys) h =
    let e : suc (suc (length ys)) - 1 ≡ suc (length ys) = omega arith in
    let f : suc (length ys) - 1 ≡ length ys = omega arith in
    rw (e, f) refl

last_alone : {A : Type 0} (x : A) (xs : List A) → length xs ≡ 0 → slice_get (x ∷ xs) (length (x ∷ xs) - 1) ≡ Some x
last_alone x [] h = refl
last_alone x (y ∷ ys) h = absurd (omega arith)

not_empty : (tokens : List Token) (nodes : List Node) (kids : List Kid) (a b : ℕ) (p : Pieces) → Spells tokens nodes kids a b p → a < b → 0 < length kids
not_empty tokens nodes kids a b p (spells_nothing _) l = absurd (omega arith)
not_empty tokens nodes kids a b p (spells_token _ _ t ks later h s) l = omega arith
not_empty tokens nodes kids a b p (spells_node number _ next _ n ks inside later h k e s u) l = omega arith

last_stops : (tokens : List Token) (nodes : List Node) (kids : List Kid) (a b : ℕ) (p : Pieces) → Spells tokens nodes kids a b p → a < b → Stops (span_at tokens nodes (slice_get kids (length kids - 1))) (token_span (slice_get tokens (b - 1)))
last_stops tokens nodes kids a b p (spells_nothing _) l = absurd (omega arith)
last_stops tokens nodes kids a b p (spells_token _ _ t ks later h s) l =
    let w = spells_within tokens nodes ks (a + 1) b later s in
    elim (cases_lt (a + 1) b) [
      | inl more ↦
          let r = last_stops tokens nodes ks (a + 1) b later s more in
          record { left = r.left; right = r.right; at_left = ap (span_at tokens nodes) (last_more (kid.Token a) ks (not_empty tokens nodes ks (a + 1) b later s more)) ∙ r.at_left; at_right = r.at_right; same = r.same }
      | inr none ↦
          let empty : length ks ≡ 0 = omega arith in
          let same : b - 1 ≡ a = omega arith in
          record { left = t.span; right = t.span; at_left = ap (span_at tokens nodes) (last_alone (kid.Token a) ks empty) ∙ ap token_span h; at_right = ap (λ (n : ℕ). token_span (slice_get tokens n)) same ∙ ap token_span h; same = refl }
    ]
last_stops tokens nodes kids a b p (spells_node number _ next _ n ks inside later h k e s u) l =
    let w = spells_within tokens nodes ks next b later u in
    elim (cases_lt next b) [
      | inl more ↦
          let r = last_stops tokens nodes ks next b later u more in
          record { left = r.left; right = r.right; at_left = ap (span_at tokens nodes) (last_more (kid.Node number) ks (not_empty tokens nodes ks next b later u more)) ∙ r.at_left; at_right = r.at_right; same = r.same }
      | inr none ↦
          let empty : length ks ≡ 0 = omega arith in
          let same : b ≡ next = omega arith in
          let first = holds_token tokens nodes n.kids a next inside s a (omega arith) k in
          let last = holds_token tokens nodes n.kids a next inside s (next - 1) (omega arith) (omega arith) in
          record {
            left = n.span;
            right = last.0.span;
            at_left = ap (span_at tokens nodes) (last_alone (kid.Node number) ks empty) ∙ ap (λ (o : Option Node). node_span o) h;
            at_right = ap (λ (m : ℕ). token_span (slice_get tokens (m - 1))) same ∙ ap token_span last.1;
            same = ap (λ (x : Span). x.end) (e ∙ bytes_are tokens a next first.0 last.0 first.1 last.1);
          }
    ]

span_same : (a b c d : ℕ) → a ≡ b → c ≡ d → ◌≡◌ {A = Span} (record { start = a; end = c }) (record { start = b; end = d })
span_same a b c d h k = rw (h, k) refl

pub spells_span : (tokens : List Token) (nodes : List Node) (kids : List Kid) (a b : ℕ) (p : Pieces) → Spells tokens nodes kids a b p → a < b → span_of tokens nodes kids ≡ bytes_from tokens a b
unfolding span_of
spells_span tokens nodes kids a b p s l =
    let f = first_begins tokens nodes kids a b p s l in
    let e = last_stops tokens nodes kids a b p s l in
    let left : joined (span_at tokens nodes (slice_get kids 0)) (span_at tokens nodes (slice_get kids (length kids - 1))) ≡ record { start = f.left.start; end = e.left.end } =
    ap (λ (o : Option Span). joined o (span_at tokens nodes (slice_get kids (length kids - 1)))) f.at_left ∙ ap (joined (Some f.left)) e.at_left in
    let right : bytes_from tokens a b ≡ record { start = f.right.start; end = e.right.end } =
    ap (λ (o : Option Span). joined o (token_span (slice_get tokens (b - 1)))) f.at_right ∙ ap (joined (Some f.right)) e.at_right in
    let middle : record { start = f.left.start; end = e.left.end } ≡ record { start = f.right.start; end = e.right.end } = span_same f.left.start f.right.start e.left.end e.right.end f.same e.same in
    left ∙ middle ∙ sym right

-- ---- the next tokens

-- the kinds of the next two tokens
abbrev pub here : List TokenKind → Look
here ks = record { kind = next_kind ks; next = second_kind ks }

kind_at : (tokens : List Token) (at : ℕ) → kind_of (slice_get tokens at) ≡ next_kind (drop at (kinds_of tokens))
kind_at [] zero = refl
kind_at [] (suc at) = refl
kind_at (t ∷ ts) zero = refl
kind_at (t ∷ ts) (suc at) = kind_at ts at

kind_after : (tokens : List Token) (at : ℕ) → kind_of (slice_get tokens (at + 1)) ≡ second_kind (drop at (kinds_of tokens))
kind_after [] zero = refl
kind_after [] (suc at) = refl
kind_after (t ∷ ts) zero = kind_at ts 0
kind_after (t ∷ ts) (suc at) = let e : suc at + 1 ≡ suc (at + 1) = omega arith in rw e (kind_after ts at)

look_same : (a b c d : TokenKind) → a ≡ b → c ≡ d → ◌≡◌ {A = Look} (record { kind = a; next = c }) (record { kind = b; next = d })
look_same a b c d h k = rw (h, k) refl

pub look_here : (tokens : List Token) (at : ℕ) → look_at tokens at ≡ here (drop at (kinds_of tokens))
look_here tokens at = look_same (kind_of (slice_get tokens at)) (next_kind (drop at (kinds_of tokens))) (kind_of (slice_get tokens (at + 1))) (second_kind (drop at (kinds_of tokens))) (kind_at tokens at) (kind_after tokens at)

-- a token is the first of the rest
pub token_next : (tokens : List Token) (at : ℕ) (t : Token) → slice_get tokens at ≡ Some t → drop at (kinds_of tokens) ≡ t.kind ∷ drop (at + 1) (kinds_of tokens)
token_next [] at t h = absurd (cc)
token_next (x ∷ ts) zero t h = let e : x ≡ t = cc in ap (λ (y : Token). y.kind ∷ kinds_of ts) e
token_next (x ∷ ts) (suc at) t h = let e : suc at + 1 ≡ suc (at + 1) = omega arith in rw e (token_next ts at t h)
