-- The way that leads ends by its shortest tokens, and none before it does.
use Rattle.std.proofs.Common.{◌≡◌, ℕ, ◌<◌, Bool, true, false, ◌&&◌, inl, List, [], ◌∷◌, ◌++◌, length, refl, sym, ◌∙◌, ap, subst, arith, append-nil}
use Rattle.std.proofs.lemmas.Bool.{and_parts, or_parts}
use Rattle.zig_tree.specs.declared.token.TokenKind.{TokenKind}
use Rattle.zig_tree.specs.declared.grammar.Part.{Part}
use Rattle.zig_tree.specs.Kinds.{is_part}
use Rattle.zig_parse.specs.declared.thread.Thread.{Thread}
use Rattle.zig_parse.specs.declared.thread.Item.{Item}
use Rattle.zig_parse.specs.declared.state.State.{State}
use Rattle.zig_parse.specs.Stack.{rest}
use Rattle.zig_parse.specs.Moves.{waits_for}
use Rattle.zig_parse.specs.Leads.{Ending, Ends, EndsWith, Leader, Leads, NoneEnds, NoneGoesOn, any_goes, any_reads, ends_brace, ends_file, goes_for, leads_brace, leads_file}
use Rattle.zig_parse.proofs.Reading.{Reads}
use Rattle.zig_parse.proofs.Weights.{heavy_joined, weighs}
use Rattle.zig_parse.proofs.Paths.{parts_of_items}
use Rattle.zig_parse.proofs.Endings.{ends_before, first_or, may_follow, quick_all}
use Rattle.zig_parse.proofs.Completing.{can_end}
use Rattle.zig_parse.proofs.Moving.{Each, coming, each_at, waits_front}
use Rattle.zig_parse.proofs.Living.{tidy_shorter}
use Rattle.zig_parse.proofs.Entering.{part_is}
use Rattle.zig_parse.proofs.Lasting.{is_file, Alive, Lasts, Waits, around_brace, around_none}
use Rattle.zig_parse.proofs.Lasting as lasting
use Rattle.zig_parse.proofs.LastingEnds.{file_front, file_tail}
use Rattle.zig_parse.proofs.Leading.{ending, ends_of, led_alive, led_colon, led_completes}
use Rattle.zig_parse.proofs.Leading as leading

-- ---- what ends a brace is read

-- the parts of a thread up to the end of its brace
led_front : (before : List TokenKind) (waiting : List (List Thread)) (read : List TokenKind) (n : TokenKind) (t : Thread) (depth : ℕ) → lasting.Around before waiting → Alive waiting read n t → {alive : Part → Bool} {more : ℕ} (l : Leads waiting alive t.goal depth more)
    → Reads (coming t) (quick_all (coming t) ++ ends_of waiting t.goal depth l) (ends_of waiting t.goal depth l)
led_front before [] read n t depth a alive l =
    let none = leading.ends_file t.goal depth l in
    let all = file_front read n t alive in
    subst (λ (e : List TokenKind). Reads (coming t) (quick_all (coming t) ++ e) e) (sym none) (subst (λ (x : List TokenKind). Reads (coming t) x []) (sym (append-nil (quick_all (coming t)))) all)
led_front before (those ∷ others) read n t depth a alive l =
    let o = led_completes before those others t.goal depth a l in
    subst (λ (e : List TokenKind). Reads (coming t) (quick_all (coming t) ++ e) e) (sym o.tail_is) (can_end (coming t) o.k o.m (alive.lively.ended o.k o.follows))

-- and those of one that waits, after its brace
led_tail : (before : List TokenKind) (waiting : List (List Thread)) (read : List TokenKind) (t : Thread) (depth : ℕ) → lasting.Around before waiting → (h : Waits waiting read t) → {alive : Part → Bool} {more : ℕ} (l : Leads waiting alive t.goal depth more)
    → Reads (parts_of_items (rest t.items)) (quick_all (parts_of_items (rest t.items)) ++ ends_of waiting t.goal depth l) (ends_of waiting t.goal depth l)
led_tail before [] read t depth a h l =
    let qs = parts_of_items (rest t.items) in
    let none = leading.ends_file t.goal depth l in
    subst (λ (e : List TokenKind). Reads qs (quick_all qs ++ e) e) (sym none) (subst (λ (x : List TokenKind). Reads qs x []) (sym (append-nil (quick_all qs))) (file_tail read t h))
led_tail before (those ∷ others) read t depth a h l =
    let o = led_completes before those others t.goal depth a l in
    let qs = parts_of_items (rest t.items) in
    let first = waits_front t h.p h.waits in
    let whole = subst (λ (x : List Part). ends_before o.k x ≡ true) first.first (h.ended o.k o.follows) in
    subst (λ (e : List TokenKind). Reads qs (quick_all qs ++ e) e) (sym o.tail_is) (can_end qs o.k o.m (and_parts (may_follow (first_or (quick_all qs) o.k) h.p) (ends_before o.k qs) whole).1)

-- ---- none before it does

not_part : (goal : Part) (t : Thread) → is_part t.goal goal ≡ false → t.goal ≡ goal → ⊥
not_part goal t h e = let wrong : true ≡ false = sym (subst (λ (g : Part). is_part t.goal g ≡ true) e (part_is t.goal)) ∙ h in cc

none_ends : (goal : Part) (tokens end : List TokenKind) (ts : List Thread) → any_reads goal ts ≡ false → NoneEnds goal tokens end ts
none_ends goal tokens end [] h = tt
none_ends goal tokens end (t ∷ ts) h = let s = or_parts (is_part t.goal goal) (any_reads goal ts) h in (λ e p d. not_part goal t s.0 e, none_ends goal tokens end ts s.1)

none_goes_on : (alive : Part → Bool) (goal : Part) (tokens end : List TokenKind) (ts : List Thread) → any_goes alive goal ts ≡ false → NoneGoesOn goal alive tokens end ts
none_goes_on alive goal tokens end [] h = tt
none_goes_on alive goal tokens end (t ∷ ts) h =
    let s = or_parts (is_part t.goal goal && goes_for alive (waits_for t)) (any_goes alive goal ts) h in
    (λ e q w. inl (sym (ap (goes_for alive) w) ∙ by (is_part t.goal goal) (goes_for alive (waits_for t)) s.0 (λ f. not_part goal t f e)), none_goes_on alive goal tokens end ts s.1)
  where
    by : (x y : Bool) → x && y ≡ false → (x ≡ false → ⊥) → y ≡ false
    by true y h f = h
    by false y h f = absurd (f refl)

-- the shortest tokens are the fewest
quick_ends : (ps : List Part) (end : List TokenKind) → Reads ps (quick_all ps ++ end) end → EndsWith ps (quick_all ps ++ end) end
quick_ends ps end r = record {
  tree = r.0;
  derived = r.1;
  fewest = λ other later p d. (let l = weighs ps other later p d in omega (arith, l, heavy_joined (quick_all ps) end));
}

-- ---- brace by brace

led_ends : (before : List TokenKind) (waiting : List (List Thread)) (alive : Part → Bool) (p : Part) (depth extra : ℕ) → lasting.Around before waiting → (l : Leads waiting alive p depth extra) → Ends waiting alive p depth extra (ends_of waiting p depth l)
led_ends before waiting alive p depth extra a (leads_file _ _) = ends_file alive extra
led_ends before waiting alive p depth extra (around_brace front read _ others a starts each) (leads_brace those first after t _ _ _ around above _ _ e more none w least sits) =
    let h : Waits others read t = each_at (Waits others read) first after t (subst (Each (Waits others read)) e each) in
    let end = ends_of others t.goal around more in
    let qs = parts_of_items (rest t.items) in
    ends_brace those first after t others alive (λ q. any_goes alive q those) p around above depth extra (quick_all qs ++ end) end e (led_ends front others (λ q. any_goes alive q those) t.goal around above a more) w (quick_ends qs end (led_tail front others read t around a h more))
    (none_goes_on alive t.goal (quick_all qs ++ end) end first none) (λ q i. none_goes_on alive q (quick_all qs ++ end) end those i) least sits

-- a thread with more to come ends with some tokens
led_some : (next : TokenKind) (s : State) (front : List TokenKind) (led : Leader next s) → Lasts s.live s.waiting front next → 0 < length (ending next s led)
led_some next s front led lasts =
    let alive = led_alive next s front led lasts in
    let r = led_front lasts.before s.waiting lasts.read next led.t led.depth lasts.around alive led.leads in
    let less = tidy_shorter (is_file s.waiting) (coming led.t) (ending next s led) (ends_of s.waiting led.t.goal led.depth led.leads) r.0 alive.tidies (some_coming led.t.items led.some) r.1 in
    omega arith
  where
    some_coming : (items : List Item) → 0 < length items → parts_of_items items ≡ [] → ⊥
    some_coming [] some e = omega (arith, some)
    some_coming (i ∷ items) some e = cc

-- the same thread ends with them
pub led_ending : (next : TokenKind) (s : State) (front : List TokenKind) (led : Leader next s) → Lasts s.live s.waiting front next → (e : Ending next s (ending next s led)) × (e.t ≡ led.t)
led_ending next s front led lasts =
    let end = ends_of s.waiting led.t.goal led.depth led.leads in (
      record {
        before = led.before;
        after = led.after;
        t = led.t;
        depth = led.depth;
        alive = λ q. any_reads q s.live;
        end = end;
        live_is = led.live_is;
        own = quick_ends (coming led.t) end (led_front lasts.before s.waiting lasts.read next led.t led.depth lasts.around (led_alive next s front led lasts) led.leads);
        none = none_ends led.t.goal (ending next s led) end led.before led.none;
        none_lost = λ q i. none_ends q (ending next s led) end s.live i;
        more = led.more;
        room = led.room;
        ends = led_ends lasts.before s.waiting (λ q. any_reads q s.live) led.t.goal led.depth led.more lasts.around led.leads;
        some = led_some next s front led lasts;
        colon = led_colon next s front led lasts;
      },
      refl,
    )
