-- What is to come in a thread that is left, and in those that wait for it, can end: so a sentence begins with
-- the tokens so far.
use Rattle.std.proofs.Common.{◌≡◌, true, false, ◌⊎◌, inl, inr, List, [], ◌∷◌, ◌++◌, Option, Some, refl, sym, ◌∙◌, ap, subst, append_assoc}
use Rattle.std.specs.Prelude.{not}
use Rattle.std.proofs.lemmas.Bool.{and_parts, not-true}
use Rattle.zig_tree.specs.declared.token.TokenKind.{TokenKind}
use Rattle.zig_tree.specs.declared.token.TokenKind.TheVariants as kind
use Rattle.zig_tree.specs.declared.grammar.Rule.TheVariants as rule
use Rattle.zig_tree.specs.declared.grammar.Group.TheVariants as group
use Rattle.zig_tree.specs.declared.grammar.Part.{Part}
use Rattle.zig_tree.specs.declared.grammar.Part.TheVariants as part
use Rattle.zig_tree.specs.Kinds.{number_of}
use Rattle.zig_tree.specs.GrammarSentences.{nothing, word, next_kind, derives_none, derives_token}
use Rattle.zig_parse.specs.declared.thread.Thread.{Thread}
use Rattle.zig_parse.specs.Stack.{rest}
use Rattle.zig_parse.specs.Threads.{is_apart}
use Rattle.zig_parse.proofs.Tables.{same_kind}
use Rattle.zig_parse.proofs.Paths.{parts_of_items}
use Rattle.zig_parse.proofs.Reading.{Reads, joined_read}
use Rattle.zig_parse.proofs.Tidy.{tidy, is_last, is_plain}
use Rattle.zig_parse.proofs.Moving.{coming, Each, waits_front}
use Rattle.zig_parse.proofs.Endings.{after_group, each_kind, ends_before, first_or, is_in, may_follow, quick, quick_all}
use Rattle.zig_parse.proofs.Completing.{can_end, kind_among}
use Rattle.zig_parse.proofs.Lively.{GoesOn, GoesOnPlain, Lively, is_colon}
use Rattle.zig_parse.proofs.Lasting.{Alive, Around, around_none, around_brace, In, Lasts, Starts, Waits, Wanted}

-- ---- the end of the file

-- parts that end with the file's end
abbrev EndsFile : List Part → Type 0
EndsFile ps = (qs : List Part) × (ps ≡ qs ++ part.Token kind.End ∷ [])

last_is_end : (p : Part) → is_last true p ≡ true → p ≡ part.Token kind.End
last_is_end (part.Token k) h = ap part.Token (sym (same_kind kind.End k h))
last_is_end (part.OneOf c) h = absurd (cc)
last_is_end (part.Rule r) h = absurd (cc)
last_is_end (part.Group g) h = absurd (cc)

file_ends : (p : Part) (ps : List Part) → tidy true (p ∷ ps) ≡ true → EndsFile (p ∷ ps)
file_ends p [] h = ([], ap (λ (x : Part). x ∷ []) (last_is_end p h))
file_ends p (q ∷ qs) h = let s = file_ends q qs (and_parts (is_plain p) (tidy true (q ∷ qs)) h).1 in (p ∷ s.0, ap (λ (l : List Part). p ∷ l) s.1)

first_last : (xs : List TokenKind) (j k : TokenKind) → first_or (xs ++ j ∷ []) k ≡ first_or xs j
first_last [] j k = refl
first_last (x ∷ xs) j k = refl

quick_front : (qs : List Part) (j : TokenKind) → quick_all (qs ++ part.Token j ∷ []) ≡ quick_all qs ++ j ∷ []
quick_front [] j = refl
quick_front (q ∷ qs) j = ap (λ (l : List TokenKind). quick q ++ l) (quick_front qs j) ∙ sym (append_assoc (quick q) (quick_all qs) (j ∷ []))

ends_front : (qs : List Part) (j k : TokenKind) → ends_before k (qs ++ part.Token j ∷ []) ≡ true → ends_before j qs ≡ true
ends_front [] j k h = refl
ends_front (q ∷ qs) j k h =
    let s = and_parts (may_follow (first_or (quick_all (qs ++ part.Token j ∷ [])) k) q) (ends_before k (qs ++ part.Token j ∷ [])) h in
    let same : first_or (quick_all (qs ++ part.Token j ∷ [])) k ≡ first_or (quick_all qs) j = ap (λ (l : List TokenKind). first_or l k) (quick_front qs j) ∙ first_last (quick_all qs) j k in
    rw (sym (ap (λ (i : TokenKind). may_follow i q) same) ∙ s.0, ends_front qs j k s.1) refl

-- such parts derive their shortest tokens, after which nothing comes
file_read : (ps : List Part) → EndsFile ps → ends_before kind.End ps ≡ true → Reads ps (quick_all ps) []
file_read ps (qs, e) h =
    let front = can_end qs kind.End [] (ends_front qs kind.End kind.End (subst (λ (l : List Part). ends_before kind.End l ≡ true) e h)) in
    let whole = joined_read qs (part.Token kind.End ∷ []) (quick_all qs ++ kind.End ∷ []) (kind.End ∷ []) [] front (word kind.End nothing, derives_token kind.End [] [] [] nothing (derives_none [])) in
    subst (λ (l : List Part). Reads l (quick_all l) []) (sym e) (subst (λ (l : List TokenKind). Reads (qs ++ part.Token kind.End ∷ []) l []) (sym (quick_front qs kind.End)) whole)

-- ---- a token that stands behind

split_first : (l : List TokenKind) (k : TokenKind) (more : List TokenKind) → (m : List TokenKind) × (l ++ k ∷ more ≡ first_or l k ∷ m)
split_first [] k more = (more, refl)
split_first (j ∷ js) k more = (js ++ k ∷ more, refl)

next_first : (l : List TokenKind) → next_kind l ≡ first_or l kind.End
next_first [] = refl
next_first (j ∷ js) = refl

next_of : (l : List TokenKind) (k : TokenKind) (more : List TokenKind) → next_kind (l ++ k ∷ more) ≡ first_or l k
next_of [] k more = refl
next_of (j ∷ js) k more = refl

no_colons : each_kind (λ j. not (is_colon j)) (after_group group.SuffixTail) ≡ true
unfolding number_of
no_colons = refl

-- a colon doesn't follow what may be asked of an atom
plain_end : (k : TokenKind) (more : List Part) → ends_before k (part.Group group.SuffixTail ∷ more) ≡ true → is_colon (first_or (quick_all (part.Group group.SuffixTail ∷ more)) k) ≡ false
plain_end k more h =
    let first = first_or (quick_all more) k in
    let s = and_parts (is_in first (after_group group.SuffixTail)) (ends_before k more) h in
    not-true (is_colon first) (kind_among (λ j. not (is_colon j)) first (after_group group.SuffixTail) s.0 no_colons)

-- a lively thread, with the shortest tokens of what is to come in it
ended_read : (read : List TokenKind) (n : TokenKind) (goal : Part) (ps : List Part) (k : TokenKind) (c end : List TokenKind) → Lively read n goal ps → ends_before k ps ≡ true → next_kind c ≡ first_or (quick_all ps) k → Reads ps c end → Reads (goal ∷ []) (read ++ c) end
ended_read read n goal ps k c end l h e r = by l.story
  where
    by : GoesOn read goal ps ⊎ ((is_colon n ≡ false) × ((qs : List Part) × (ps ≡ part.Group group.SuffixTail ∷ qs)) × GoesOnPlain read goal ps) → Reads (goal ∷ []) (read ++ c) end
    by (inl s) = s c end r
    by (inr s) =
        s.2 c end (ap is_colon e ∙ ap (λ (l : List Part). is_colon (first_or (quick_all l) k)) s.1.1 ∙ plain_end k s.1.0 (subst (λ (l : List Part). ends_before k l ≡ true) s.1.1 h)) r

-- ---- what waits

-- behind what is read in a brace these tokens can come, with which all ends
pub record Completes (before : List TokenKind) (goal : Part) (tail : List TokenKind) : Type 0 where
  pub k : TokenKind
  pub m : List TokenKind
  pub tail_is : tail ≡ k ∷ m
  pub follows : may_follow k goal ≡ true
  pub close : (y : List TokenKind) → ((more : List TokenKind) × (y ≡ kind.LeftBrace ∷ more)) → Reads (goal ∷ []) (y ++ k ∷ m) (k ∷ m) → Reads (part.Rule rule.Root ∷ []) (before ++ (y ++ k ∷ m)) []

root_follows : may_follow kind.End (part.Rule rule.Root) ≡ true
unfolding number_of
root_follows = refl

no_before : (front : List TokenKind) → Around front [] → front ≡ []
no_before front around_none = refl

not_end : (p : Part) (qs : List Part) → is_apart p ≡ true → EndsFile (p ∷ qs) → EndsFile qs
not_end p qs a ([], e) = absurd (let same : p ≡ part.Token kind.End = cc in let wrong : false ≡ true = sym (ap is_apart same) ∙ a in cc)
not_end p qs a (x ∷ xs, e) = (xs, cc)

-- what is to come in the file after a brace
pub file_tail : (read : List TokenKind) (w : Thread) → Waits [] read w → Reads (parts_of_items (rest w.items)) (quick_all (parts_of_items (rest w.items))) []
file_tail read w h =
    let first = waits_front w h.p h.waits in
    let qs = parts_of_items (rest w.items) in
    let root : w.goal ≡ part.Rule rule.Root = h.wanted in
    let whole = subst (λ (l : List Part). ends_before kind.End l ≡ true) first.first (h.ended kind.End (subst (λ (g : Part). may_follow kind.End g ≡ true) (sym root) root_follows)) in
    let s = and_parts (may_follow (first_or (quick_all qs) kind.End) h.p) (ends_before kind.End qs) whole in
    file_read qs (not_end h.p qs first.apart (file_ends h.p qs (subst (λ (l : List Part). tidy true l ≡ true) first.first h.tidies))) s.1

-- in the file itself
pub file_completes : (front read : List TokenKind) (w : Thread) (goal : Part) → Around front [] → (h : Waits [] read w) → h.p ≡ goal → Completes (front ++ read) goal (quick_all (parts_of_items (rest w.items)))
file_completes front read w goal a h same =
    let first = waits_front w h.p h.waits in
    let qs = parts_of_items (rest w.items) in
    let root : w.goal ≡ part.Rule rule.Root = h.wanted in
    let ended = h.ended kind.End (subst (λ (g : Part). may_follow kind.End g ≡ true) (sym root) root_follows) in
    let whole = subst (λ (l : List Part). ends_before kind.End l ≡ true) first.first ended in
    let s = and_parts (may_follow (first_or (quick_all qs) kind.End) h.p) (ends_before kind.End qs) whole in
    let tail = file_tail read w h in
    let some = some_tokens qs (not_end h.p qs first.apart (file_ends h.p qs (subst (λ (l : List Part). tidy true l ≡ true) first.first h.tidies))) in
    record {
      k = first_or (quick_all qs) kind.End;
      m = some.0;
      tail_is = some.1;
      follows = subst (λ (g : Part). may_follow (first_or (quick_all qs) kind.End) g ≡ true) same s.0;
      close = λ y starts r. (
          let k = first_or (quick_all qs) kind.End in
          let both = joined_read (h.p ∷ []) qs (y ++ k ∷ some.0) (k ∷ some.0) [] (subst (λ (g : Part). Reads (g ∷ []) (y ++ k ∷ some.0) (k ∷ some.0)) (sym same) r) (subst (λ (l : List TokenKind). Reads qs l []) some.1 tail) in
          let brace : y ++ k ∷ some.0 ≡ kind.LeftBrace ∷ (starts.0 ++ k ∷ some.0) = ap (λ (l : List TokenKind). l ++ k ∷ some.0) starts.1 in
          let done = h.story (starts.0 ++ k ∷ some.0) [] (subst (λ (l : List TokenKind). Reads (coming w) l []) brace (subst (λ (l : List Part). Reads l (y ++ k ∷ some.0) []) (sym first.first) both)) in
          let none = no_before front a in
          subst (λ (l : List TokenKind). Reads (part.Rule rule.Root ∷ []) l []) (ap (λ (l : List TokenKind). read ++ l) (sym brace) ∙ ap (λ (l : List TokenKind). (l ++ read) ++ (y ++ k ∷ some.0)) (sym none))
          (subst (λ (g : Part). Reads (g ∷ []) (read ++ kind.LeftBrace ∷ (starts.0 ++ k ∷ some.0)) []) root done)
          );
    }
  where
    some_tokens : (ps : List Part) → EndsFile ps → (m : List TokenKind) × (quick_all ps ≡ first_or (quick_all ps) kind.End ∷ m)
    some_tokens ps (xs, e) =
        (let q = quick_front xs kind.End in
        let s = split_first (quick_all xs) kind.End [] in
        let same : quick_all ps ≡ quick_all xs ++ kind.End ∷ [] = ap quick_all e ∙ q in
        let one : first_or (quick_all ps) kind.End ≡ first_or (quick_all xs) kind.End = ap (λ (l : List TokenKind). first_or l kind.End) same ∙ first_last (quick_all xs) kind.End kind.End in
        (s.0, same ∙ s.1 ∙ ap (λ (j : TokenKind). j ∷ s.0) (sym one)))

-- in a brace around
pub brace_completes : (those : List Thread) (waiting : List (List Thread)) (front read : List TokenKind) (w : Thread) (goal : Part) (tail : List TokenKind) → Starts (those ∷ waiting) read → (h : Waits (those ∷ waiting) read w) → h.p ≡ goal → Completes front w.goal tail → Completes (front ++ read) goal (quick_all (parts_of_items (rest w.items)) ++ tail)
brace_completes those waiting front read w goal tail starts h same o =
    let first = waits_front w h.p h.waits in
    let qs = parts_of_items (rest w.items) in
    let whole = subst (λ (l : List Part). ends_before o.k l ≡ true) first.first (h.ended o.k o.follows) in
    let s = and_parts (may_follow (first_or (quick_all qs) o.k) h.p) (ends_before o.k qs) whole in
    let ending = can_end qs o.k o.m s.1 in
    let t = split_first (quick_all qs) o.k o.m in
    record {
      k = first_or (quick_all qs) o.k;
      m = t.0;
      tail_is = ap (λ (l : List TokenKind). quick_all qs ++ l) o.tail_is ∙ t.1;
      follows = subst (λ (g : Part). may_follow (first_or (quick_all qs) o.k) g ≡ true) same s.0;
      close = λ y begins r. (
          let now = first_or (quick_all qs) o.k ∷ t.0 in
          let both = joined_read (h.p ∷ []) qs (y ++ now) now (o.k ∷ o.m) (subst (λ (g : Part). Reads (g ∷ []) (y ++ now) now) (sym same) r) (subst (λ (l : List TokenKind). Reads qs l (o.k ∷ o.m)) t.1 ending) in
          let brace : y ++ now ≡ kind.LeftBrace ∷ (begins.0 ++ now) = ap (λ (l : List TokenKind). l ++ now) begins.1 in
          let done = h.story (begins.0 ++ now) (o.k ∷ o.m) (subst (λ (l : List TokenKind). Reads (coming w) l (o.k ∷ o.m)) brace (subst (λ (l : List Part). Reads l (y ++ now) (o.k ∷ o.m)) (sym first.first) both)) in
          let z = read ++ (y ++ quick_all qs) in
          let as_z : read ++ (y ++ now) ≡ z ++ o.k ∷ o.m =
          ap (λ (l : List TokenKind). read ++ (y ++ l)) (sym t.1) ∙ ap (λ (l : List TokenKind). read ++ l) (sym (append_assoc y (quick_all qs) (o.k ∷ o.m))) ∙ sym (append_assoc read (y ++ quick_all qs) (o.k ∷ o.m)) in
          let closed = o.close z (starts.0 ++ (y ++ quick_all qs), ap (λ (l : List TokenKind). l ++ (y ++ quick_all qs)) starts.1)
          (subst (λ (l : List TokenKind). Reads (w.goal ∷ []) l (o.k ∷ o.m)) (ap (λ (l : List TokenKind). read ++ l) (sym brace) ∙ as_z) done) in
          subst (λ (l : List TokenKind). Reads (part.Rule rule.Root ∷ []) l []) (ap (λ (l : List TokenKind). front ++ l) (sym as_z) ∙ sym (append_assoc front read (y ++ now))) closed
          );
    }

pub found_in : (P : Thread → Type 0) (ts : List Thread) (w : Thread) → In w ts → Each P ts → P w
found_in P [] w i h = absurd i
found_in P (t ∷ ts) w (inl e) h = subst P (sym e) h.0
found_in P (t ∷ ts) w (inr i) h = found_in P ts w i h.1

pub some_is : (p q : Part) → ◌≡◌ {A = Option Part} (Some p) (Some q) → p ≡ q
some_is p q e = cc

pub completes : (before : List TokenKind) (those : List Thread) (waiting : List (List Thread)) (goal : Part) → Around before (those ∷ waiting) → Wanted (those ∷ waiting) goal → (tail : List TokenKind) × Completes before goal tail
completes before those [] goal (around_brace front read _ _ a starts each) w =
    let h = found_in (Waits [] read) those w.0 w.1 each in
    (quick_all (parts_of_items (rest w.0.items)), file_completes front read w.0 goal a h (some_is h.p goal (sym h.waits ∙ w.2)))
completes before those (others ∷ waiting) goal (around_brace front read _ _ a starts each) w =
    let h = found_in (Waits (others ∷ waiting) read) those w.0 w.1 each in
    let o = completes front others waiting w.0.goal a h.wanted in
    (quick_all (parts_of_items (rest w.0.items)) ++ o.0, brace_completes others waiting front read w.0 goal o.0 starts h (some_is h.p goal (sym h.waits ∙ w.2)) o.1)

-- ---- the thread that is left

pub file_front : (read : List TokenKind) (n : TokenKind) (t : Thread) → Alive [] read n t → Reads (coming t) (quick_all (coming t)) []
file_front read n t l = by (coming t) refl
  where
    by : (ps : List Part) → coming t ≡ ps → Reads (coming t) (quick_all (coming t)) []
    by [] e = subst (λ (ps : List Part). Reads ps (quick_all ps) []) (sym e) (nothing, derives_none [])
    by (p ∷ ps) e =
        file_read (coming t) (subst EndsFile (sym e) (file_ends p ps (subst (λ (x : List Part). tidy true x ≡ true) e l.tidies))) (l.lively.ended kind.End (subst (λ (g : Part). may_follow kind.End g ≡ true) (sym l.wanted) root_follows))

pub file_lasts : (front read : List TokenKind) (n : TokenKind) (t : Thread) → Around front [] → Alive [] read n t → Reads (part.Rule rule.Root ∷ []) ((front ++ read) ++ quick_all (coming t)) []
file_lasts front read n t a l =
    let c = quick_all (coming t) in
    let ended = l.lively.ended kind.End (subst (λ (g : Part). may_follow kind.End g ≡ true) (sym l.wanted) root_follows) in
    let whole = ended_read read n t.goal (coming t) kind.End c [] l.lively ended (next_first c) (file_front read n t l) in
    subst (λ (x : List TokenKind). Reads (part.Rule rule.Root ∷ []) ((x ++ read) ++ c) []) (sym (no_before front a)) (subst (λ (g : Part). Reads (g ∷ []) (read ++ c) []) l.wanted whole)

pub brace_lasts : (before read : List TokenKind) (those : List Thread) (waiting : List (List Thread)) (n : TokenKind) (t : Thread) (tail : List TokenKind) → Starts (those ∷ waiting) read → Alive (those ∷ waiting) read n t → Completes before t.goal tail
    → Reads (part.Rule rule.Root ∷ []) ((before ++ read) ++ (quick_all (coming t) ++ tail)) []
brace_lasts before read those waiting n t tail starts l o =
    let ps = coming t in
    let ended = l.lively.ended o.k o.follows in
    let c = quick_all ps ++ o.k ∷ o.m in
    let whole = ended_read read n t.goal ps o.k c (o.k ∷ o.m) l.lively ended (next_of (quick_all ps) o.k o.m) (can_end ps o.k o.m ended) in
    let y = read ++ quick_all ps in
    let as_y : read ++ c ≡ y ++ o.k ∷ o.m = sym (append_assoc read (quick_all ps) (o.k ∷ o.m)) in
    let closed = o.close y (starts.0 ++ quick_all ps, ap (λ (x : List TokenKind). x ++ quick_all ps) starts.1) (subst (λ (x : List TokenKind). Reads (t.goal ∷ []) x (o.k ∷ o.m)) as_y whole) in
    subst (λ (x : List TokenKind). Reads (part.Rule rule.Root ∷ []) x [])
    (ap (λ (x : List TokenKind). before ++ x) (sym as_y) ∙ sym (append_assoc before read c) ∙ ap (λ (x : List TokenKind). (before ++ read) ++ (quick_all (coming t) ++ x)) (sym o.tail_is)) closed

-- the rules derive some tokens that begin with those that were read
pub some_ends : (live : List Thread) (waiting : List (List Thread)) (front : List TokenKind) (n : TokenKind) (t : Thread) (ts : List Thread) → live ≡ t ∷ ts → Lasts live waiting front n → (w : List TokenKind) × Reads (part.Rule rule.Root ∷ []) (front ++ w) []
some_ends live waiting front n t ts e l = by waiting l.around l.starts (subst (λ (x : List Thread). Each (Alive waiting l.read n) x) e l.alive).0
  where
    back : (w : List TokenKind) → Reads (part.Rule rule.Root ∷ []) ((l.before ++ l.read) ++ w) [] → Reads (part.Rule rule.Root ∷ []) (front ++ w) []
    back w r = subst (λ (x : List TokenKind). Reads (part.Rule rule.Root ∷ []) (x ++ w) []) (sym l.front_is) r

    by : (ws : List (List Thread)) → Around l.before ws → Starts ws l.read → Alive ws l.read n t → (w : List TokenKind) × Reads (part.Rule rule.Root ∷ []) (front ++ w) []
    by [] a s h = (quick_all (coming t), back (quick_all (coming t)) (file_lasts l.before l.read n t a h))
    by (those ∷ others) a s h =
        (let o = completes l.before those others t.goal a h.wanted in
        let w = quick_all (coming t) ++ o.0 in
        (w, back w (brace_lasts l.before l.read those others n t o.0 s h o.1)))
