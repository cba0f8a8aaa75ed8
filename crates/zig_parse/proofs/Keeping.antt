-- Which threads are kept of those that read what others do.
use Rattle.std.proofs.Common.{◌≡◌, Bool, true, false, ◌||◌, inl, inr, List, [], ◌∷◌, ◌++◌, map, reverse, Option, Some, None, refl, sym, ◌∙◌, ap, subst, append_assoc, append-nil}
use Rattle.std.specs.Prelude.{if◌then◌else◌}
use Rattle.std.proofs.lemmas.Bool.{and_parts, or_cases}
use Rattle.std.proofs.lemmas.List.{reverse-append}
use Rattle.zig_tree.specs.declared.token.TokenKind.{TokenKind}
use Rattle.zig_tree.specs.declared.token.TokenKind.TheVariants as kind
use Rattle.zig_tree.specs.declared.grammar.Group.TheVariants as group
use Rattle.zig_tree.specs.declared.grammar.When.TheVariants as when
use Rattle.zig_tree.specs.declared.grammar.Part.{Part}
use Rattle.zig_tree.specs.declared.grammar.Part.TheVariants as part
use Rattle.zig_tree.specs.Grammar.{group_rows, row}
use Rattle.zig_tree.specs.Kinds.{is_part, number_of}
use Rattle.zig_tree.specs.GrammarSentences.{Pieces, nothing, word, followed, Derives, derives_none, derives_token, derives_group}
use Rattle.zig_parse.specs.declared.thread.Item.{Item}
use Rattle.zig_parse.specs.declared.thread.Thread.{Thread}
use Rattle.zig_parse.specs.declared.survey.Finished.{Finished}
use Rattle.zig_parse.specs.Threads.{after_read, received, with_choices}
use Rattle.zig_parse.specs.Moves.{covers, covers_items, goes_as_far, reads_more, same_parts, waits_for}
use Rattle.zig_parse.specs.Passes.{after_token, is_among, kept_with, result_for, resumed, resumed_at, resumed_by}
use Rattle.zig_parse.proofs.Paths.{parts_of_items}
use Rattle.zig_parse.proofs.SameParts.{same_part}
use Rattle.zig_parse.proofs.Moving.{coming, Each, each_joined}
use Rattle.zig_parse.proofs.Settling.{Dead}

-- ---- the same to come

same_items : (a b : List Item) → same_parts a b ≡ true → parts_of_items a ≡ parts_of_items b
unfolding same_parts
same_items [] [] h = refl
same_items [] (j ∷ js) h = absurd (cc)
same_items (i ∷ is) [] h = absurd (cc)
same_items (i ∷ is) (j ∷ js) h =
    let s = and_parts (is_part i.part j.part) (same_parts is js) h in
    ap (λ (p : Part). p ∷ parts_of_items is) (same_part i.part j.part s.0) ∙ ap (λ (l : List Part). j.part ∷ l) (same_items is js s.1)

parts_joined : (a b : List Item) → parts_of_items (a ++ b) ≡ parts_of_items a ++ parts_of_items b
parts_joined [] b = refl
parts_joined (i ∷ a) b = ap (λ (l : List Part). i.part ∷ l) (parts_joined a b)

last_same : {T : Type 0} (a b : List T) (x y : T) → a ++ x ∷ [] ≡ b ++ y ∷ [] → (a ≡ b) × (x ≡ y)
last_same [] [] x y e = (refl, cc)
last_same [] (z ∷ []) x y e = absurd (cc)
last_same [] (z ∷ w ∷ b) x y e = absurd (cc)
last_same (z ∷ []) [] x y e = absurd (cc)
last_same (z ∷ w ∷ a) [] x y e = absurd (cc)
last_same (z ∷ a) (w ∷ b) x y e = let s = last_same a b x y (cc) in let h : z ≡ w = cc in (ap (λ q. q ∷ a) h ∙ ap (λ l. w ∷ l) s.0, s.1)

no_last : {T : Type 0} (a : List T) (x : T) → a ++ x ∷ [] ≡ [] → ⊥
no_last [] x e = cc
no_last (z ∷ a) x e = cc

reverse_parts : (i : Item) (a : List Item) → parts_of_items (reverse (i ∷ a)) ≡ parts_of_items (reverse a) ++ i.part ∷ []
reverse_parts i a = ap parts_of_items (reverse-append (i ∷ []) a) ∙ parts_joined (reverse a) (i ∷ [])

reversed_same : (a b : List Item) → parts_of_items (reverse a) ≡ parts_of_items (reverse b) → parts_of_items a ≡ parts_of_items b
reversed_same [] [] e = refl
reversed_same [] (j ∷ b) e = absurd (no_last (parts_of_items (reverse b)) j.part (sym (reverse_parts j b) ∙ sym e))
reversed_same (i ∷ a) [] e = absurd (no_last (parts_of_items (reverse a)) i.part (sym (reverse_parts i a) ∙ e))
reversed_same (i ∷ a) (j ∷ b) e =
    let s = last_same (parts_of_items (reverse a)) (parts_of_items (reverse b)) i.part j.part (sym (reverse_parts i a) ∙ e ∙ reverse_parts j b) in
    ap (λ (p : Part). p ∷ parts_of_items a) s.1 ∙ ap (λ (l : List Part). j.part ∷ l) (reversed_same a b s.0)

-- ---- threads that read whatever others do

-- what stands behind a dot may be a name
some_name : (ps : List Part) (tokens end : List TokenKind) (p : Pieces) → Derives (part.Token kind.Identifier ∷ ps) tokens end p → (q : Pieces) × Derives (part.Group group.DotAtom ∷ ps) tokens end q
unfolding group_rows number_of
some_name ps tokens end p (derives_token _ _ more _ later d) = (
  followed (word kind.Identifier nothing) later,
  derives_group group.DotAtom (row (when.Is kind.Identifier) (part.Token kind.Identifier ∷ [])) ps (kind.Identifier ∷ more) more end (word kind.Identifier nothing) later
      (inl refl) (derives_token kind.Identifier [] more more nothing (derives_none more)) d,
)

covered : (a b : Part) (ps : List Part) (tokens end : List TokenKind) (p : Pieces) → covers a b ≡ true → Derives (b ∷ ps) tokens end p → (q : Pieces) × Derives (a ∷ ps) tokens end q
covered a b ps tokens end p h d =
    elim (or_cases (is_part a b) (reads_more a b) h) [
      | inl e ↦ (p, subst (λ (x : Part). Derives (x ∷ ps) tokens end p) (sym (same_part a b e)) d)
      | inr e ↦
          let s = and_parts (is_part a (part.Group group.DotAtom)) (is_part b (part.Token kind.Identifier)) e in
          let name = some_name ps tokens end p (subst (λ (x : Part). Derives (x ∷ ps) tokens end p) (same_part b (part.Token kind.Identifier) s.1) d) in
          (name.0, subst (λ (x : Part). Derives (x ∷ ps) tokens end name.0) (sym (same_part a (part.Group group.DotAtom) s.0)) name.1)
    ]

items_covered : (a b : List Item) (tokens end : List TokenKind) (p : Pieces) → covers_items a b ≡ true → Derives (parts_of_items b) tokens end p → (q : Pieces) × Derives (parts_of_items a) tokens end q
unfolding covers_items
items_covered [] [] tokens end p h d = (p, d)
items_covered [] (j ∷ js) tokens end p h d = absurd (cc)
items_covered (i ∷ is) [] tokens end p h d = absurd (cc)
items_covered (i ∷ is) (j ∷ js) tokens end p h d =
    let s = and_parts (covers i.part j.part) (same_parts (reverse is) (reverse js)) h in
    let below = reversed_same is js (same_items (reverse is) (reverse js) s.1) in
    covered i.part j.part (parts_of_items is) tokens end p s.0 (subst (λ (l : List Part). Derives (j.part ∷ l) tokens end p) (sym below) d)

-- a thread that goes as far as another derives what the other does
pub as_far : (a b : Thread) (tokens end : List TokenKind) (p : Pieces) → goes_as_far a b ≡ true → Derives (coming b) tokens end p → (a.goal ≡ b.goal) × ((q : Pieces) × Derives (coming a) tokens end q)
unfolding goes_as_far
as_far a b tokens end p h d =
    let s = and_parts (is_part a.goal b.goal) (covers_items a.items b.items) h in
    (same_part a.goal b.goal s.0, items_covered a.items b.items tokens end p s.1 d)

-- ---- threads are kept one after the other

unfoldable pub keep_all : List Thread → List Thread → List Thread
keep_all kept [] = kept
keep_all kept (t ∷ ts) = keep_all (kept_with kept t) ts

pub keep_joined : (kept a b : List Thread) → keep_all kept (a ++ b) ≡ keep_all (keep_all kept a) b
unfolding keep_all
keep_joined kept [] b = refl
keep_joined kept (t ∷ a) b = keep_joined (kept_with kept t) a b

keep_if : (P : Thread → Type 0) (kept : List Thread) (t : Thread) (b : Bool) → Each P kept → P t → Each P (if b then kept else kept ++ t ∷ [])
keep_if P kept t true h p = h
keep_if P kept t false h p = each_joined P kept (t ∷ []) h (p, tt)

pub keep_each : (P : Thread → Type 0) (kept ts : List Thread) → Each P kept → Each P ts → Each P (keep_all kept ts)
unfolding keep_all
keep_each P kept [] h k = h
keep_each P kept (t ∷ ts) h k = keep_each P (kept_with kept t) ts (keep_if P kept t (is_among kept t) h k.0) k.1

keep_more : (kept : List Thread) (t : Thread) (b : Bool) → (more : List Thread) × ((if b then kept else kept ++ t ∷ []) ≡ kept ++ more)
keep_more kept t true = ([], sym (append-nil kept))
keep_more kept t false = (t ∷ [], refl)

-- those that were kept stay in front
pub keep_front : (kept ts : List Thread) → (more : List Thread) × (keep_all kept ts ≡ kept ++ more)
unfolding keep_all
keep_front kept [] = ([], sym (append-nil kept))
keep_front kept (t ∷ ts) =
    let one = keep_more kept t (is_among kept t) in
    let all = keep_front (kept_with kept t) ts in
    (one.0 ++ all.0, all.1 ∙ ap (λ (l : List Thread). l ++ all.0) one.1 ∙ append_assoc kept one.0 all.0)

among_by : (goal : Part) (tokens end : List TokenKind) (t : Thread) (ts : List Thread) (x : Thread) (p : Pieces) → x.goal ≡ goal → Derives (coming x) tokens end p → Dead goal tokens end t → is_among ts x ≡ false
    → (b : Bool) → goes_as_far t x ≡ b → (goes_as_far t x || is_among ts x) ≡ false
among_by goal tokens end t ts x p g d dead none false e = ap (λ (y : Bool). y || is_among ts x) e ∙ none
among_by goal tokens end t ts x p g d dead none true e = let s = as_far t x tokens end p e d in absurd (dead (s.0 ∙ g) s.1.0 s.1.1)

-- where those that are kept lead nowhere, none of them reads what a thread does whose parts derive the tokens
among_no : (goal : Part) (tokens end : List TokenKind) (kept : List Thread) (x : Thread) (p : Pieces) → x.goal ≡ goal → Derives (coming x) tokens end p → Each (Dead goal tokens end) kept → is_among kept x ≡ false
unfolding is_among
among_no goal tokens end [] x p g d h = refl
among_no goal tokens end (t ∷ ts) x p g d h = among_by goal tokens end t ts x p g d h.0 (among_no goal tokens end ts x p g d h.1) (goes_as_far t x) refl

pub record Kept (goal : Part) (tokens end : List TokenKind) (x : Thread) (all : List Thread) : Type 0 where
  pub before : List Thread
  pub after : List Thread
  pub is : all ≡ before ++ x ∷ after
  pub dead : Each (Dead goal tokens end) before

kept_alone : (kept : List Thread) (x : Thread) (b : Bool) → b ≡ false → (if b then kept else kept ++ x ∷ []) ≡ kept ++ x ∷ []
kept_alone kept x true h = absurd (cc)
kept_alone kept x false h = refl

pub keeps_it : (goal : Part) (tokens end : List TokenKind) (before after : List Thread) (x : Thread) (p : Pieces) → x.goal ≡ goal → Derives (coming x) tokens end p → Each (Dead goal tokens end) before
    → Kept goal tokens end x (keep_all [] (before ++ x ∷ after))
unfolding keep_all
keeps_it goal tokens end before after x p g d h =
    let front = keep_all [] before in
    let dead : Each (Dead goal tokens end) front = keep_each (Dead goal tokens end) [] before tt h in
    let none = among_no goal tokens end front x p g d dead in
    let more = keep_front (front ++ x ∷ []) after in
    record {
      before = front;
      after = more.0;
      is = keep_joined [] before (x ∷ after) ∙ ap (λ (l : List Thread). keep_all l after) (kept_alone front x (is_among front x) none) ∙ more.1 ∙ append_assoc front (x ∷ []) more.0;
      dead = dead;
    }

-- ---- the threads after a token

pub token_as : (kept ts : List Thread) → after_token kept ts ≡ keep_all kept (map after_read ts)
unfolding after_token keep_all
token_as kept [] = refl
token_as kept (t ∷ ts) = token_as (kept_with kept (after_read t)) ts

-- ---- those that go on after a brace

unfoldable pub goes_on : Thread → Option Finished → List Thread
goes_on t None = []
goes_on t (Some f) = with_choices f.choices (received f.height t) ∷ []

unfoldable pub goes_on_by : List Finished → Thread → Option Part → List Thread
goes_on_by found t None = []
goes_on_by found t (Some p) = goes_on t (result_for found p)

unfoldable pub all_go_on : List Finished → List Thread → List Thread
all_go_on found [] = []
all_go_on found (t ∷ ts) = goes_on_by found t (waits_for t) ++ all_go_on found ts

goes_as : (kept : List Thread) (t : Thread) (o : Option Finished) → resumed_at kept t o ≡ keep_all kept (goes_on t o)
unfolding keep_all goes_on
goes_as kept t None = refl
goes_as kept t (Some f) = refl

goes_by_as : (found : List Finished) (kept : List Thread) (t : Thread) (o : Option Part) → resumed_by found kept t o ≡ keep_all kept (goes_on_by found t o)
unfolding keep_all goes_on_by
goes_by_as found kept t None = refl
goes_by_as found kept t (Some p) = goes_as kept t (result_for found p)

pub resumed_as : (found : List Finished) (kept ts : List Thread) → resumed found kept ts ≡ keep_all kept (all_go_on found ts)
unfolding resumed keep_all all_go_on
resumed_as found kept [] = refl
resumed_as found kept (t ∷ ts) =
    resumed_as found (resumed_by found kept t (waits_for t)) ts
    ∙ ap (λ (l : List Thread). keep_all l (all_go_on found ts)) (goes_by_as found kept t (waits_for t))
    ∙ sym (keep_joined kept (goes_on_by found t (waits_for t)) (all_go_on found ts))

pub go_on_joined : (found : List Finished) (a b : List Thread) → all_go_on found (a ++ b) ≡ all_go_on found a ++ all_go_on found b
unfolding all_go_on
go_on_joined found [] b = refl
go_on_joined found (t ∷ a) b = ap (λ (l : List Thread). goes_on_by found t (waits_for t) ++ l) (go_on_joined found a b) ∙ sym (append_assoc (goes_on_by found t (waits_for t)) (all_go_on found a) (all_go_on found b))
