-- Where the threads of the first pass are even, one way leads.
use Rattle.std.proofs.Common.{◌≡◌, ℕ, Bool, true, false, ◌&&◌, ◌||◌, inl, inr, List, [], ◌∷◌, ◌++◌, Option, Some, None, refl, sym, ◌∙◌, ap, subst}
use Rattle.std.proofs.lemmas.Bool.{and_parts, false_from_ne_true, or_from, or_parts, or_right}
use Rattle.zig_tree.specs.declared.token.TokenKind.{TokenKind}
use Rattle.zig_tree.specs.declared.token.TokenKind.TheVariants as kind
use Rattle.zig_tree.specs.declared.grammar.Rule.TheVariants as rule
use Rattle.zig_tree.specs.declared.grammar.Part.{Part}
use Rattle.zig_tree.specs.declared.grammar.Part.TheVariants as part
use Rattle.zig_tree.specs.Kinds.{is_kind, is_part, number_of}
use Rattle.zig_parse.specs.declared.thread.Thread.{Thread}
use Rattle.zig_parse.specs.declared.state.State.{State}
use Rattle.zig_parse.specs.Moves.{waits_for}
use Rattle.zig_parse.specs.Passes.{all_deep, least_from}
use Rattle.zig_parse.specs.Leads.{EvenLive, EvenWaiting, Leader, Leads, any_goes, any_reads, begins_colon, goes_for, leads_brace, leads_file}
use Rattle.zig_parse.proofs.SameParts.{same_part}
use Rattle.zig_parse.proofs.Moving.{Each, each_at}
use Rattle.zig_parse.proofs.Pending.{Pending}
use Rattle.zig_parse.proofs.Entering.{it_wants, least_in, part_is}
use Rattle.zig_parse.proofs.Lasting.{Alive, In, Lasts, Waits, Wanted, around_brace}
use Rattle.zig_parse.proofs.Lasting as lasting
use Rattle.zig_parse.proofs.LastingEnds.{found_in}

-- ---- the first of some threads

-- the first that reads a part
record FirstReads (goal : Part) (ts : List Thread) : Type 0 where
  before : List Thread
  t : Thread
  after : List Thread
  split : ts ≡ before ++ t ∷ after
  reads : t.goal ≡ goal
  none : any_reads goal before ≡ false

first_reads : (goal : Part) (ts : List Thread) → any_reads goal ts ≡ true → FirstReads goal ts
first_reads goal [] h = absurd (cc)
first_reads goal (u ∷ ts) h = by (is_part u.goal goal) refl h (first_reads goal ts)
  where
    by : (b : Bool) → is_part u.goal goal ≡ b → (b || any_reads goal ts) ≡ true → (any_reads goal ts ≡ true → FirstReads goal ts) → FirstReads goal (u ∷ ts)
    by true e k go = record { before = []; t = u; after = ts; split = refl; reads = same_part u.goal goal e; none = refl }
    by false e k go =
        (let f = go k in
        record { before = u ∷ f.before; t = f.t; after = f.after; split = ap (λ (l : List Thread). u ∷ l) f.split; reads = f.reads; none = or_from (is_part u.goal goal) (any_reads goal f.before) e f.none })

-- the first that waits for a part that is alive
record FirstGoes (alive : Part → Bool) (goal : Part) (ts : List Thread) : Type 0 where
  before : List Thread
  t : Thread
  after : List Thread
  p : Part
  split : ts ≡ before ++ t ∷ after
  reads : t.goal ≡ goal
  waits : waits_for t ≡ Some p
  lives : alive p ≡ true
  none : any_goes alive goal before ≡ false

waits_alive : (alive : Part → Bool) (o : Option Part) → goes_for alive o ≡ true → (p : Part) × (o ≡ Some p) × (alive p ≡ true)
waits_alive alive None h = absurd (cc)
waits_alive alive (Some p) h = (p, refl, h)

first_goes : (alive : Part → Bool) (goal : Part) (ts : List Thread) → any_goes alive goal ts ≡ true → FirstGoes alive goal ts
first_goes alive goal [] h = absurd (cc)
first_goes alive goal (u ∷ ts) h = by (is_part u.goal goal && goes_for alive (waits_for u)) refl h (first_goes alive goal ts)
  where
    by : (b : Bool) → (is_part u.goal goal && goes_for alive (waits_for u)) ≡ b → (b || any_goes alive goal ts) ≡ true → (any_goes alive goal ts ≡ true → FirstGoes alive goal ts) → FirstGoes alive goal (u ∷ ts)
    by true e k go =
        (let s = and_parts (is_part u.goal goal) (goes_for alive (waits_for u)) e in
        let w = waits_alive alive (waits_for u) s.1 in
        record { before = []; t = u; after = ts; p = w.0; split = refl; reads = same_part u.goal goal s.0; waits = w.1; lives = w.2; none = refl })
    by false e k go =
        (let f = go k in
        record {
          before = u ∷ f.before;
          t = f.t;
          after = f.after;
          p = f.p;
          split = ap (λ (l : List Thread). u ∷ l) f.split;
          reads = f.reads;
          waits = f.waits;
          lives = f.lives;
          none = or_from (is_part u.goal goal && goes_for alive (waits_for u)) (any_goes alive goal f.before) e f.none;
        })

-- none before it waits for the same
one_fewer : (alive : Part → Bool) (p : Part) (x : Bool) (o : Option Part) → alive p ≡ true → (x && goes_for alive o) ≡ false → (x && goes_for (λ q. is_part q p) o) ≡ false
one_fewer alive p false o l h = refl
one_fewer alive p true None l h = refl
one_fewer alive p true (Some q) l h = false_from_ne_true (is_part q p) (λ e. (let wrong : true ≡ false = sym l ∙ sym (ap alive (same_part q p e)) ∙ h in cc))

none_waits : (alive : Part → Bool) (goal p : Part) (ts : List Thread) → alive p ≡ true → any_goes alive goal ts ≡ false → any_goes (λ q. is_part q p) goal ts ≡ false
none_waits alive goal p [] l h = refl
none_waits alive goal p (u ∷ ts) l h =
    let s = or_parts (is_part u.goal goal && goes_for alive (waits_for u)) (any_goes alive goal ts) h in
    or_from (is_part u.goal goal && goes_for (λ q. is_part q p) (waits_for u)) (any_goes (λ q. is_part q p) goal ts) (one_fewer alive p (is_part u.goal goal) (waits_for u) l s.0) (none_waits alive goal p ts l s.1)

-- ---- a thread that is found

is_read : (t : Thread) (ts : List Thread) → In t ts → any_reads t.goal ts ≡ true
is_read t [] i = absurd i
is_read t (u ∷ ts) (inl e) = subst (λ (v : Thread). (is_part v.goal t.goal || any_reads t.goal ts) ≡ true) e (rw (part_is t.goal) refl)
is_read t (u ∷ ts) (inr i) = or_right (is_part u.goal t.goal) (any_reads t.goal ts) (is_read t ts i)

goes_on : (alive : Part → Bool) (t : Thread) (p : Part) (ts : List Thread) → In t ts → waits_for t ≡ Some p → alive p ≡ true → any_goes alive t.goal ts ≡ true
goes_on alive t p [] i w l = absurd i
goes_on alive t p (u ∷ ts) (inl e) w l = subst (λ (v : Thread). (is_part v.goal t.goal && goes_for alive (waits_for v) || any_goes alive t.goal ts) ≡ true) e (rw (part_is t.goal, ap (goes_for alive) w ∙ l) refl)
goes_on alive t p (u ∷ ts) (inr i) w l = or_right (is_part u.goal t.goal && goes_for alive (waits_for u)) (any_goes alive t.goal ts) (goes_on alive t p ts i w l)

-- ---- the way that leads

-- a part that is alive is what is read in the innermost brace
abbrev Reaches : List (List Thread) → (Part → Bool) → Type 0
Reaches waiting alive = (p : Part) × Wanted waiting p × (alive p ≡ true)

record Found (waiting : List (List Thread)) (alive : Part → Bool) (more : ℕ) : Type 0 where
  goal : Part
  depth : ℕ
  leads : Leads waiting alive goal depth more
  lives : alive goal ≡ true

even_leads : (before : List TokenKind) (waiting : List (List Thread)) (alive : Part → Bool) (more : ℕ) → lasting.Around before waiting → EvenWaiting waiting more → Reaches waiting alive → Found waiting alive more
even_leads before [] alive more a even (p, wanted, lives) = record { goal = part.Rule rule.Root; depth = 0; leads = leads_file alive more; lives = subst (λ (q : Part). alive q ≡ true) wanted lives }
even_leads before (those ∷ others) alive more (around_brace front read _ _ a starts each) even (p, (w, i, waits), lives) =
    let h : Waits others read w = found_in (Waits others read) those w i each in
    let o = even_leads front others (λ q. any_goes alive q those) even.0 a even.1 (w.goal, h.wanted, goes_on alive w p those i waits lives) in
    let f = first_goes alive o.goal those o.lives in
    let none : any_goes alive f.t.goal f.before ≡ false = subst (λ (g : Part). any_goes alive g f.before ≡ false) (sym f.reads) f.none in
    let low = least_in None f.p f.before f.after f.t (it_wants f.t f.p f.waits) in
    let least : least_from None f.p those ≡ Some low.0 = ap (least_from None f.p) f.split ∙ low.1 in
    let sits = even.2 f.before f.after f.t f.p low.0 f.split f.waits (none_waits alive f.t.goal f.p f.before f.lives none) least in
    record {
      goal = f.p;
      depth = low.0;
      leads = leads_brace those f.before f.after f.t others alive f.p o.depth even.0 low.0 more f.split (subst (λ (g : Part). Leads others (λ q. any_goes alive q those) g o.depth even.0) (sym f.reads) o.leads) none f.waits least sits;
      lives = f.lives;
    }

-- a kind of token that is a colon or isn't
colon_kind : (b : Bool) → (n : TokenKind) × (b ≡ is_kind n kind.Colon)
unfolding number_of
colon_kind true = (kind.Colon, refl)
colon_kind false = (kind.End, refl)

-- the next token: after an identifier it is given
next_for : (named : Bool) (next : TokenKind) (b : Bool) → (named ≡ true → b ≡ is_kind next kind.Colon) → (n : TokenKind) × (named ≡ true → n ≡ next) × (b ≡ is_kind n kind.Colon)
next_for true next b h = (next, λ e. refl, h refl)
next_for false next b h = let k = colon_kind b in (k.0, λ e. absurd (cc), k.1)

-- In a state with a thread that is live a way leads, before some next token.
pub record Led (named : Bool) (next : TokenKind) (s : State) : Type 0 where
  pub n : TokenKind
  pub same : named ≡ true → n ≡ next
  pub leader : Leader n s
  pub deep : leader.t.deep ≡ all_deep s.live

some_live : (ts : List Thread) → all_deep ts ≡ false → (u : Thread) × (us : List Thread) × (ts ≡ u ∷ us)
unfolding all_deep
some_live [] h = absurd (cc)
some_live (u ∷ us) h = (u, us, refl)

pub even_leader : (named : Bool) (next : TokenKind) (s : State) (front : List TokenKind) → all_deep s.live ≡ false → Lasts s.live s.waiting front next → (more : ℕ) → EvenLive named next more s.live → EvenWaiting s.waiting more → Each Pending s.live → Led named next s
even_leader named next s front shallow lasts more live waiting pending =
    let some = some_live s.live shallow in
    let u = some.0 in
    let first : Alive s.waiting lasts.read next u = (subst (λ (l : List Thread). Each (Alive s.waiting lasts.read next) l) some.2 lasts.alive).0 in
    let here : In u s.live = subst (In u) (sym some.2) (inl refl) in
    let o = even_leads lasts.before s.waiting (λ q. any_reads q s.live) more lasts.around waiting (u.goal, first.wanted, is_read u s.live here) in
    let f = first_reads o.goal s.live o.lives in
    let none : any_reads f.t.goal f.before ≡ false = subst (λ (g : Part). any_reads g f.before ≡ false) (sym f.reads) f.none in
    let good = live f.before f.after f.t f.split none in
    let next_one = next_for named next (begins_colon f.t.items) good.2 in
    record {
      n = next_one.0;
      same = next_one.1;
      leader = record {
        before = f.before;
        after = f.after;
        t = f.t;
        depth = o.depth;
        live_is = f.split;
        none = none;
        some = each_at Pending f.before f.after f.t (subst (Each Pending) f.split pending);
        more = more;
        room = good.1;
        leads = subst (λ (g : Part). Leads s.waiting (λ q. any_reads q s.live) g o.depth more) (sym f.reads) o.leads;
        colon = next_one.2;
      };
      deep = good.0;
    }
