-- A path says nothing of the choices that its thread made.
use Rattle.std.proofs.Common.{◌≡◌, ℕ, ◌+◌, ◌-◌, ◌≤◌, Bool, true, false, ◌&&◌, ◌||◌, List, [], ◌∷◌, length, Some, None, refl, sym, ◌∙◌, ap, subst}
use Rattle.std.specs.Prelude.{if◌then◌else◌, not, nat_lt}
use Rattle.zig_tree.specs.declared.token.TokenKind.{TokenKind}
use Rattle.zig_tree.specs.declared.token.TokenKind.TheVariants as kind
use Rattle.zig_tree.specs.declared.grammar.Rule.{Rule}
use Rattle.zig_tree.specs.declared.grammar.Part.{Part}
use Rattle.zig_tree.specs.declared.grammar.Part.TheVariants as part
use Rattle.zig_parse.specs.declared.thread.Frame.{Frame}
use Rattle.zig_parse.specs.declared.thread.Thread.{Thread}
use Rattle.zig_parse.specs.Threads.{after_read, closed, closed_from, hardened, is_deep, is_never_alone, met, met_from, met_part, opened, passed, put, received, replaced, touched_from, with_gain}
use Rattle.zig_parse.specs.Moves.{next_move, waits_for}
use Rattle.zig_parse.specs.Passes.{own_height}
use Rattle.zig_parse.specs.Ways.{Fork}
use Rattle.zig_parse.proofs.Paths.{Awaits, Path, Seen, Told, path_ends, path_closes, path_rule, path_group, path_reads, path_waits, is_cons}

-- the thread with these choices
abbrev pub own : List ℕ → Thread → Thread
own cs t = record t { choices = cs }

closed_by : (cs : List ℕ) (t : Thread) (fs : List Frame) → closed_from (own cs t) fs ≡ own cs (closed_from t fs)
closed_by cs t [] = refl
closed_by cs t (f ∷ fs) = refl

pub closed_own : (cs : List ℕ) (t : Thread) → closed (own cs t) ≡ own cs (closed t)
unfolding closed
closed_own cs t = closed_by cs t t.frames

met_by : (cs : List ℕ) (r : Rule) (t : Thread) (fs : List Frame) → met_from r (own cs t) fs ≡ own cs (met_from r t fs)
unfolding hardened
met_by cs r t [] = refl
met_by cs r t (f ∷ fs) = by (not f.solid && (nat_lt 0 f.parts || is_never_alone r))
  where
    by : (b : Bool) → (if b then hardened f (own cs t) else own cs t) ≡ own cs (if b then hardened f t else t)
    by true = refl
    by false = refl

pub rule_own : (cs : List ℕ) (r : Rule) (ps : List Part) (t : Thread) → replaced (Some r) ps (own cs t) ≡ own cs (replaced (Some r) ps t)
unfolding replaced put opened met
rule_own cs r ps t = ap (λ (u : Thread). put ps (opened r u)) (met_by cs r (passed t) t.frames)

pub group_own : (cs : List ℕ) (ps : List Part) (t : Thread) → replaced None ps (own cs t) ≡ own cs (replaced None ps t)
unfolding replaced put
group_own cs ps t = refl

pub met_part_own : (cs : List ℕ) (p : Part) (t : Thread) → met_part p (own cs t) ≡ own cs (met_part p t)
unfolding met
met_part_own cs (part.Rule r) t = met_by cs r t t.frames
met_part_own cs (part.Group _) t = refl
met_part_own cs (part.Token _) t = refl
met_part_own cs (part.OneOf _) t = refl

read_by : (cs : List ℕ) (t : Thread) (fs : List Frame) → touched_from (own cs t) fs ≡ own cs (touched_from t fs)
unfolding hardened
read_by cs t [] = refl
read_by cs t (f ∷ fs) = by f.solid
  where
    by : (b : Bool) → (if b then record (own cs t) { deep = t.deep || is_deep t.depth 0 } else hardened f (own cs t)) ≡ own cs (if b then record t { deep = t.deep || is_deep t.depth 0 } else hardened f t)
    by true = refl
    by false = refl

pub read_own : (cs : List ℕ) (t : Thread) → after_read (own cs t) ≡ own cs (after_read t)
unfolding after_read
read_own cs t = ap (with_gain 0) (read_by cs (passed t) t.frames)

pub received_own : (cs : List ℕ) (height : ℕ) (t : Thread) → received height (own cs t) ≡ own cs (received height t)
unfolding received
received_own cs height t = refl

pub path_own : (apart : Bool) (low : ℕ → Type 0) (told : Told) (calm : Bool) (t : Thread) (at : ℕ) (tokens end : List TokenKind) (height : ℕ) (forks : List Fork) (cs : List ℕ) → Path apart low told calm t at tokens end height forks
    → Path apart low told calm (own cs t) at tokens end height forks
unfolding next_move waits_for
path_own apart low told calm t at tokens end height forks cs (path_ends _ _ _ _ _ e) = path_ends told calm (own cs t) at end e
path_own apart low told calm t at tokens end height forks cs (path_closes _ _ _ _ _ _ _ _ h more) =
    path_closes told calm (own cs t) at tokens end height forks h
    (subst (λ (x : Thread). Path apart low told calm x at tokens end height forks) (sym (closed_own cs t)) (path_own apart low told calm (closed t) at tokens end height forks cs more))
path_own apart low told calm t at tokens end height forks cs (path_rule _ _ _ _ _ _ _ later r a choices h c k more) =
    path_rule told calm (own cs t) at tokens end height later r a choices h c k
    (subst (λ (x : Thread). Path apart low told (calm || is_cons choices) x at tokens end height later) (sym (rule_own cs r a.parts t)) (path_own apart low told (calm || is_cons choices) (replaced (Some r) a.parts t) at tokens end height later cs more))
path_own apart low told calm t at tokens end height forks cs (path_group _ _ _ _ _ _ _ later g a choices h c k more) =
    path_group told calm (own cs t) at tokens end height later g a choices h c k
    (subst (λ (x : Thread). Path apart low told (calm || is_cons choices) x at tokens end height later) (sym (group_own cs a.parts t)) (path_own apart low told (calm || is_cons choices) (replaced None a.parts t) at tokens end height later cs more))
path_own apart low told calm t at tokens end height forks cs (path_reads _ _ _ _ k left _ _ _ h w f seen more) =
    path_reads told calm (own cs t) at k left end height forks h w (λ a b. ap (λ (x : Thread). x.deep) (read_own cs t) ∙ f a b)
    (subst (λ (x : Thread). Seen told.spot (at + 1) left end x.frames x.items) (sym (read_own cs t)) seen)
    (subst (λ (x : Thread). Path apart low told false x (at + 1) left end height forks) (sym (read_own cs t)) (path_own apart low told false (after_read t) (at + 1) left end height forks cs more))
path_own apart low told calm t at tokens end height forks cs (path_waits _ _ _ _ left mid _ _ inner_height inner outer p base ap_true h w f awaits go g seen more) =
    let whole = kind.LeftBrace ∷ left in
    let then_at = at + (length whole - length mid) in
    let h2 = own_height p inner_height in
    let e : received h2 (met_part p (own cs t)) ≡ own cs (received h2 (met_part p t)) = ap (received h2) (met_part_own cs p t) ∙ received_own cs h2 (met_part p t) in
    path_waits told calm (own cs t) at left mid end height inner_height inner outer p base ap_true h w
    (λ a b. ap (λ (x : Thread). x.deep) (met_part_own cs p t) ∙ f a b)
    (subst (λ (x : Thread). Awaits told.spot at mid end x.frames x.items p base) (sym (met_part_own cs p t)) awaits)
    (λ depth heard k. go depth heard (λ e. (let j = k e in (j.0, subst (λ (n : ℕ). depth ≤ n) (ap (λ (x : Thread). x.depth) (met_part_own cs p t)) j.1))))
    (λ a b. ap (λ (x : Thread). x.deep) e ∙ g a b)
    (subst (λ (x : Thread). Seen told.spot then_at mid end x.frames x.items) (sym e) seen)
    (subst (λ (x : Thread). Path apart low told false x then_at mid end height outer) (sym e) (path_own apart low told false (received h2 (met_part p t)) then_at mid end height outer cs more))
