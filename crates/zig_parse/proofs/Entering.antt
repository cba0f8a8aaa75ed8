-- At a brace the threads that read what stands in it take the place of those that wait for its end.
use Rattle.std.proofs.Common.{◌≡◌, ℕ, ◌+◌, ◌≤◌, Bool, true, false, ◌&&◌, ◌||◌, List, [], ◌∷◌, ◌++◌, length, Option, Some, None, refl, sym, ◌∙◌, ap, subst, arith, append_assoc}
use Rattle.std.specs.Prelude.{if◌then◌else◌, min, is_some, not, nat_lt}
use Rattle.std.proofs.lemmas.Bool.{eq-eqb}
use Rattle.zig_tree.specs.declared.token.TokenKind.{TokenKind}
use Rattle.zig_tree.specs.declared.token.TokenKind.TheVariants as kind
use Rattle.zig_tree.specs.declared.grammar.Rule.{Rule}
use Rattle.zig_tree.specs.declared.grammar.Rule.TheVariants as rule
use Rattle.zig_tree.specs.declared.grammar.Group.TheVariants as group
use Rattle.zig_tree.specs.declared.grammar.Part.{Part}
use Rattle.zig_tree.specs.declared.grammar.Part.TheVariants as part
use Rattle.zig_tree.specs.Kinds.{is_part, number_of_rule, number_of_group, number_of_class, number_of}
use Rattle.zig_tree.specs.GrammarSentences.{Derives}
use Rattle.zig_parse.specs.declared.choice.Look.{Look}
use Rattle.zig_parse.specs.declared.thread.Frame.{Frame}
use Rattle.zig_parse.specs.declared.thread.Item.{Item}
use Rattle.zig_parse.specs.declared.thread.Thread.{Thread}
use Rattle.zig_parse.specs.declared.thread.Move.{Move}
use Rattle.zig_parse.specs.declared.thread.Move.TheVariants as move
use Rattle.zig_parse.specs.Threads.{after_read, hardened, is_never_alone, met, met_from, met_part}
use Rattle.zig_parse.specs.Moves.{apart_from, move_from, next_move, waits_for}
use Rattle.zig_parse.specs.Passes.{any_waits, begun, begun_at, begun_for, depth_for, inside, least_from, least_with, own_height, those_waiting, waiting_by, wants}
use Rattle.zig_parse.proofs.Tables.{same_kind}
use Rattle.zig_parse.specs.Ways.{Fork}
use Rattle.zig_parse.proofs.Paths.{Seen, Told, Path, path_ends, path_closes, path_rule, path_group, path_reads, path_waits, look_of, parts_of_items}
use Rattle.zig_parse.proofs.Tidy.{tidy}
use Rattle.zig_parse.proofs.Moving.{Each, each_joined, met_part_keeps, waits_brace}
use Rattle.zig_parse.proofs.Opening.{Five, five_block, five_initializer, five_body, five_errors, five_switch}
use Rattle.zig_parse.proofs.Settling.{Dead}
use Rattle.zig_parse.proofs.Living.{Good}

-- ---- lists of threads

pub each_front : (P : Thread → Type 0) (a b : List Thread) → Each P (a ++ b) → Each P a
each_front P [] b h = tt
each_front P (t ∷ a) b h = (h.0, each_front P a b h.1)

pub each_both : (P Q : Thread → Type 0) (ts : List Thread) → Each P ts → Each Q ts → Each (λ (t : Thread). P t × Q t) ts
each_both P Q [] h k = tt
each_both P Q (t ∷ ts) h k = ((h.0, k.0), each_both P Q ts h.1 k.1)

-- ---- no thread waits

waits_no_by : (look : Look) (t : Thread) (o : Option Part) → waits_for t ≡ o → next_move look true t ≡ move.Read → (look.kind ≡ kind.LeftBrace → ⊥) → waits_for t ≡ None
waits_no_by look t None w h never = w
waits_no_by look t (Some p) w h never = absurd (never (same_kind look.kind kind.LeftBrace (waits_brace look t p h w)))

pub waits_no : (look : Look) (t : Thread) → next_move look true t ≡ move.Read → (look.kind ≡ kind.LeftBrace → ⊥) → waits_for t ≡ None
waits_no look t h never = waits_no_by look t (waits_for t) refl h never

pub none_wait : (ts : List Thread) → Each (λ (t : Thread). waits_for t ≡ None) ts → any_waits ts ≡ false
unfolding any_waits
none_wait [] h = refl
none_wait (t ∷ ts) h = ap (λ (o : Option Part). is_some o || any_waits ts) h.0 ∙ none_wait ts h.1

-- ---- one waits

or_here : (x : Bool) → (x || true) ≡ true
or_here true = refl
or_here false = refl

pub one_waits : (a b : List Thread) (x : Thread) (p : Part) → waits_for x ≡ Some p → any_waits (a ++ x ∷ b) ≡ true
unfolding any_waits
one_waits [] b x p w = ap (λ (o : Option Part). is_some o || any_waits b) w
one_waits (t ∷ a) b x p w = ap (λ (y : Bool). is_some (waits_for t) || y) (one_waits a b x p w) ∙ or_here (is_some (waits_for t))

those_joined : (a b : List Thread) → those_waiting (a ++ b) ≡ those_waiting a ++ those_waiting b
unfolding those_waiting
those_joined [] b = refl
those_joined (t ∷ a) b = ap (λ (l : List Thread). waiting_by (waits_for t) t ++ l) (those_joined a b) ∙ sym (append_assoc (waiting_by (waits_for t) t) (those_waiting a) (those_waiting b))

pub those_at : (a b : List Thread) (x : Thread) (p : Part) → waits_for x ≡ Some p → those_waiting (a ++ x ∷ b) ≡ those_waiting a ++ met_part p x ∷ those_waiting b
unfolding those_waiting
those_at a b x p w = those_joined a (x ∷ b) ∙ ap (λ (o : Option Part). those_waiting a ++ (waiting_by o x ++ those_waiting b)) w

waiting_each : (P : Thread → Type 0) (t : Thread) (o : Option Part) → ((p : Part) → P (met_part p t)) → Each P (waiting_by o t)
waiting_each P t None f = tt
waiting_each P t (Some p) f = (f p, tt)

pub those_each : (P Q : Thread → Type 0) (ts : List Thread) → ((t : Thread) (p : Part) → P t → Q (met_part p t)) → Each P ts → Each Q (those_waiting ts)
unfolding those_waiting
those_each P Q [] f h = tt
those_each P Q (t ∷ ts) f h = each_joined Q (waiting_by (waits_for t) t) (those_waiting ts) (waiting_each Q t (waits_for t) (λ p. f t p h.0)) (those_each P Q ts f h.1)

pub met_good : (root : Bool) (from tokens : List TokenKind) (t : Thread) (p : Part) → Good root from tokens t → Good root from tokens (met_part p t)
met_good root from tokens t p g =
    let keep = met_part_keeps p t in
    record {
      sound = λ end q d. (let s = g.sound end q (subst (λ l. Derives (parts_of_items l) tokens end q) keep.0 d) in (s.0, subst (λ (x : Part). Derives (x ∷ []) from end s.0) (sym keep.1) s.1));
      tidies = subst (λ l. tidy root (parts_of_items l) ≡ true) (sym keep.0) g.tidies;
      rooted = λ e. keep.1 ∙ g.rooted e;
    }

pub met_dead : (goal : Part) (tokens end : List TokenKind) (t : Thread) (p : Part) → Dead goal tokens end t → Dead goal tokens end (met_part p t)
met_dead goal tokens end t p dead e q d =
    let keep = met_part_keeps p t in
    dead (sym keep.1 ∙ e) q (subst (λ l. Derives (parts_of_items l) tokens end q) keep.0 d)

pub met_waits : (p q : Part) (t : Thread) → waits_for t ≡ Some q → waits_for (met_part p t) ≡ Some q
unfolding waits_for
met_waits p q t w = ap apart_from (met_part_keeps p t).0 ∙ w

met_choices_by : (r : Rule) (t : Thread) (fs : List Frame) → (met_from r t fs).choices ≡ t.choices
unfolding hardened
met_choices_by r t [] = refl
met_choices_by r t (f ∷ fs) = by (not f.solid && (nat_lt 0 f.parts || is_never_alone r))
  where
    by : (b : Bool) → (if b then hardened f t else t).choices ≡ t.choices
    by true = refl
    by false = refl

pub met_choices : (p : Part) (t : Thread) → (met_part p t).choices ≡ t.choices
unfolding met
met_choices (part.Rule r) t = met_choices_by r t t.frames
met_choices (part.Group _) t = refl
met_choices (part.Token _) t = refl
met_choices (part.OneOf _) t = refl

-- ---- the least depth

least_if : (x y : Option ℕ) (b : Bool) → b ≡ true → (if b then x else y) ≡ x
least_if x y true h = refl
least_if x y false h = absurd (cc)

least_some : (n : ℕ) (goal : Part) (ts : List Thread) → (d : ℕ) × (least_from (Some n) goal ts ≡ Some d) × (d ≤ n)
unfolding least_from
least_some n goal [] = (n, refl, omega arith)
least_some n goal (t ∷ ts) =
    let some = least_some (min (depth_for t) n) goal ts in
    let other = least_some n goal ts in
    by (wants t goal) some other
  where
    by : (b : Bool) → (d : ℕ) × (least_from (Some (min (depth_for t) n)) goal ts ≡ Some d) × (d ≤ min (depth_for t) n) → (d : ℕ) × (least_from (Some n) goal ts ≡ Some d) × (d ≤ n)
        → (d : ℕ) × (least_from (if b then Some (least_with (depth_for t) (Some n)) else Some n) goal ts ≡ Some d) × (d ≤ n)
    by true s o = (s.0, s.1, (let l = s.2 in omega arith))
    by false s o = o

least_low : (n : ℕ) (o : Option ℕ) → least_with n o ≤ n
least_low n None = omega arith
least_low n (Some m) = omega arith

pub least_in : (o : Option ℕ) (goal : Part) (a b : List Thread) (x : Thread) → wants x goal ≡ true → (d : ℕ) × (least_from o goal (a ++ x ∷ b) ≡ Some d) × (d ≤ depth_for x)
unfolding least_from
least_in o goal [] b x w =
    let s = least_some (least_with (depth_for x) o) goal b in
    (s.0, ap (λ (l : Option ℕ). least_from l goal b) (least_if (Some (least_with (depth_for x) o)) o (wants x goal) w) ∙ s.1, (let l = s.2 in let m = least_low (depth_for x) o in omega arith))
least_in o goal (t ∷ a) b x w = least_in (if wants t goal then Some (least_with (depth_for t) o) else o) goal a b x w

pub part_is : (p : Part) → is_part p p ≡ true
part_is (part.Token k) = eq-eqb (number_of k) (number_of k) refl
part_is (part.OneOf c) = eq-eqb (number_of_class c) (number_of_class c) refl
part_is (part.Rule r) = eq-eqb (number_of_rule r) (number_of_rule r) refl
part_is (part.Group g) = eq-eqb (number_of_group g) (number_of_group g) refl

wants_by : (p : Part) (o : Option Part) → o ≡ Some p → Rattle.zig_parse.specs.Passes.is_wanted o p ≡ true
wants_by p None h = absurd (cc)
wants_by p (Some q) h = let e : q ≡ p = cc in subst (λ (x : Part). is_part x p ≡ true) (sym e) (part_is p)

pub it_wants : (t : Thread) (p : Part) → waits_for t ≡ Some p → wants t p ≡ true
unfolding wants
it_wants t p w = wants_by p (waits_for t) w

-- ---- the threads inside

begun_each : (P : Thread → Type 0) (look : Look) (p : Part) (o : Option ℕ) → ((d : ℕ) → P (begun look p d)) → Each P (begun_at look p o)
begun_each P look p None f = tt
begun_each P look p (Some d) f = (f d, tt)

pub inside_each : (P : Thread → Type 0) (look : Look) (ts : List Thread) → ((p : Part) (d : ℕ) → Five p → P (begun look p d)) → Each P (inside look ts)
unfolding inside
inside_each P look ts f =
    let block = begun_for look ts (part.Rule rule.Block) in
    let initializer = begun_for look ts (part.Rule rule.Initializer) in
    let body = begun_for look ts (part.Rule rule.ContainerBody) in
    let errors = begun_for look ts (part.Group group.ErrorBraces) in
    let switch = begun_for look ts (part.Group group.SwitchBraces) in
    let one = λ (p : Part) (k : Five p). begun_each P look p (least_from None p ts) (λ d. f p d k) in
    each_joined P block (initializer ++ (body ++ (errors ++ switch))) (one (part.Rule rule.Block) five_block)
    (each_joined P initializer (body ++ (errors ++ switch)) (one (part.Rule rule.Initializer) five_initializer)
    (each_joined P body (errors ++ switch) (one (part.Rule rule.ContainerBody) five_body)
    (each_joined P errors switch (one (part.Group group.ErrorBraces) five_errors) (one (part.Group group.SwitchBraces) five_switch))))

pub record IsInside (P : Part → Thread → Type 0) (look : Look) (ts : List Thread) (p : Part) (x : Thread) : Type 0 where
  pub before : List Thread
  pub after : List Thread
  pub is : inside look ts ≡ before ++ x ∷ after
  pub others : Each (P p) before

pub inside_at : (P : Part → Thread → Type 0) (look : Look) (ts : List Thread) (p : Part) (x : Thread) → Five p → begun_for look ts p ≡ x ∷ [] → ((q g : Part) (d : ℕ) → Five g → (g ≡ q → ⊥) → P q (begun look g d)) → IsInside P look ts p x
unfolding inside
inside_at P look ts p x five_block e f =
    let rest = begun_for look ts (part.Rule rule.Initializer) ++ (begun_for look ts (part.Rule rule.ContainerBody) ++ (begun_for look ts (part.Group group.ErrorBraces) ++ begun_for look ts (part.Group group.SwitchBraces))) in
    record { before = []; after = rest; is = ap (λ (l : List Thread). l ++ rest) e; others = tt }
inside_at P look ts p x five_initializer e f =
    let block = begun_for look ts (part.Rule rule.Block) in
    let rest = begun_for look ts (part.Rule rule.ContainerBody) ++ (begun_for look ts (part.Group group.ErrorBraces) ++ begun_for look ts (part.Group group.SwitchBraces)) in
    record { before = block; after = rest; is = ap (λ (l : List Thread). block ++ (l ++ rest)) e; others = begun_each (P (part.Rule rule.Initializer)) look (part.Rule rule.Block) (least_from None (part.Rule rule.Block) ts) (λ d. f (part.Rule rule.Initializer) (part.Rule rule.Block) d five_block (λ h. cc)) }
inside_at P look ts p x five_body e f =
    let goal = part.Rule rule.ContainerBody in
    let block = begun_for look ts (part.Rule rule.Block) in
    let initializer = begun_for look ts (part.Rule rule.Initializer) in
    let rest = begun_for look ts (part.Group group.ErrorBraces) ++ begun_for look ts (part.Group group.SwitchBraces) in
    record {
      before = block ++ initializer;
      after = rest;
      is = ap (λ (l : List Thread). block ++ (initializer ++ (l ++ rest))) e ∙ sym (append_assoc block initializer (x ∷ rest));
      others = each_joined (P goal) block initializer
          (begun_each (P goal) look (part.Rule rule.Block) (least_from None (part.Rule rule.Block) ts) (λ d. f goal (part.Rule rule.Block) d five_block (λ h. cc)))
          (begun_each (P goal) look (part.Rule rule.Initializer) (least_from None (part.Rule rule.Initializer) ts) (λ d. f goal (part.Rule rule.Initializer) d five_initializer (λ h. cc)));
    }
inside_at P look ts p x five_errors e f =
    let goal = part.Group group.ErrorBraces in
    let block = begun_for look ts (part.Rule rule.Block) in
    let initializer = begun_for look ts (part.Rule rule.Initializer) in
    let body = begun_for look ts (part.Rule rule.ContainerBody) in
    let rest = begun_for look ts (part.Group group.SwitchBraces) in
    record {
      before = block ++ (initializer ++ body);
      after = rest;
      is = ap (λ (l : List Thread). block ++ (initializer ++ (body ++ (l ++ rest)))) e ∙ ap (λ (l : List Thread). block ++ l) (sym (append_assoc initializer body (x ∷ rest))) ∙ sym (append_assoc block (initializer ++ body) (x ∷ rest));
      others = each_joined (P goal) block (initializer ++ body)
          (begun_each (P goal) look (part.Rule rule.Block) (least_from None (part.Rule rule.Block) ts) (λ d. f goal (part.Rule rule.Block) d five_block (λ h. cc)))
          (each_joined (P goal) initializer body
          (begun_each (P goal) look (part.Rule rule.Initializer) (least_from None (part.Rule rule.Initializer) ts) (λ d. f goal (part.Rule rule.Initializer) d five_initializer (λ h. cc)))
          (begun_each (P goal) look (part.Rule rule.ContainerBody) (least_from None (part.Rule rule.ContainerBody) ts) (λ d. f goal (part.Rule rule.ContainerBody) d five_body (λ h. cc))));
    }
inside_at P look ts p x five_switch e f =
    let goal = part.Group group.SwitchBraces in
    let block = begun_for look ts (part.Rule rule.Block) in
    let initializer = begun_for look ts (part.Rule rule.Initializer) in
    let body = begun_for look ts (part.Rule rule.ContainerBody) in
    let errors = begun_for look ts (part.Group group.ErrorBraces) in
    record {
      before = block ++ (initializer ++ (body ++ errors));
      after = [];
      is = ap (λ (l : List Thread). block ++ (initializer ++ (body ++ (errors ++ l)))) e
          ∙ ap (λ (l : List Thread). block ++ (initializer ++ l)) (sym (append_assoc body errors (x ∷ []))) ∙ ap (λ (l : List Thread). block ++ l) (sym (append_assoc initializer (body ++ errors) (x ∷ []))) ∙ sym (append_assoc block (initializer ++ (body ++ errors)) (x ∷ []));
      others = each_joined (P goal) block (initializer ++ (body ++ errors))
          (begun_each (P goal) look (part.Rule rule.Block) (least_from None (part.Rule rule.Block) ts) (λ d. f goal (part.Rule rule.Block) d five_block (λ h. cc)))
          (each_joined (P goal) initializer (body ++ errors)
          (begun_each (P goal) look (part.Rule rule.Initializer) (least_from None (part.Rule rule.Initializer) ts) (λ d. f goal (part.Rule rule.Initializer) d five_initializer (λ h. cc)))
          (each_joined (P goal) body errors
          (begun_each (P goal) look (part.Rule rule.ContainerBody) (least_from None (part.Rule rule.ContainerBody) ts) (λ d. f goal (part.Rule rule.ContainerBody) d five_body (λ h. cc)))
          (begun_each (P goal) look (part.Group group.ErrorBraces) (least_from None (part.Group group.ErrorBraces) ts) (λ d. f goal (part.Group group.ErrorBraces) d five_errors (λ h. cc)))));
    }

-- ---- a path whose thread reads a token

no_items : (look : Look) (n : ℕ) (is : List Item) → is ≡ [] → move_from look true n is ≡ move.Read → ⊥
no_items look n [] e h = cc
no_items look n (i ∷ is) e h = cc

pub record ReadsOn (low : ℕ → Type 0) (told : Told) (t : Thread) (at : ℕ) (more end : List TokenKind) (height : ℕ) (forks : List Fork) : Type 0 where
  pub shallow : told.is ≡ true → low (at + 1) → (after_read t).deep ≡ false
  pub seen : Seen told.spot (at + 1) more end (after_read t).frames (after_read t).items
  pub path : Path true low told false (after_read t) (at + 1) more end height forks

differ : (a b c : Move) → a ≡ b → a ≡ c → b ≡ c
differ a b c e f = sym e ∙ f

pub reads_on : (low : ℕ → Type 0) (told : Told) (calm : Bool) (t : Thread) (at : ℕ) (k : TokenKind) (more end : List TokenKind) (height : ℕ) (forks : List Fork) → next_move (look_of (k ∷ more)) true t ≡ move.Read → waits_for t ≡ None
    → Path true low told calm t at (k ∷ more) end height forks → ReadsOn low told t at more end height forks
unfolding next_move
reads_on low told calm t at k more end height forks h w (path_ends _ _ _ _ _ e) = absurd (no_items (look_of (k ∷ more)) (length t.frames) t.items e h)
reads_on low told calm t at k more end height forks h w (path_closes _ _ _ _ _ _ _ _ g _) = absurd (let e = differ _ _ _ h g in cc)
reads_on low told calm t at k more end height forks h w (path_rule _ _ _ _ _ _ _ _ r _ _ g _ _ _) = absurd (let e = differ _ _ _ h g in cc)
reads_on low told calm t at k more end height forks h w (path_group _ _ _ _ _ _ _ _ r _ _ g _ _ _) = absurd (let e = differ _ _ _ h g in cc)
reads_on low told calm t at k more end height forks h w (path_reads _ _ _ _ _ _ _ _ _ g v f seen path) = record { shallow = f; seen = seen; path = path }
reads_on low told calm t at k more end height forks h w (path_waits _ _ _ _ _ _ _ _ _ _ _ p _ _ g v _ _ _ _ _ _) = absurd (let e : None ≡ Some p = sym w ∙ v in cc)
