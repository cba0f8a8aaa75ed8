-- The states of the first pass, token by token: what is kept holds after any tokens, and the thread of a path is live.
use Rattle.std.proofs.Common.{◌≡◌, ℕ, ◌+◌, ◌<◌, inl, inr, List, [], ◌∷◌, ◌++◌, length, refl, sym, ap, subst, arith, append_assoc, append-nil}
use Rattle.zig_tree.specs.declared.token.TokenKind.{TokenKind}
use Rattle.zig_tree.specs.declared.token.TokenKind.TheVariants as kind
use Rattle.zig_tree.specs.Kinds.{is_kind}
use Rattle.zig_tree.specs.GrammarSentences.{next_kind}
use Rattle.zig_parse.specs.declared.choice.Look.{Look}
use Rattle.zig_parse.specs.declared.thread.Thread.{Thread}
use Rattle.zig_parse.specs.declared.state.State.{State}
use Rattle.zig_parse.specs.Surveys.{next_live, next_state}
use Rattle.zig_parse.specs.Leads.{after_front, kind_before}
use Rattle.zig_parse.specs.Ways.{Fork}
use Rattle.zig_parse.proofs.Paths.{look_of}
use Rattle.zig_parse.proofs.Behind.{colon_state}
use Rattle.zig_parse.proofs.Settling.{chosen_with}
use Rattle.zig_parse.proofs.Tracking.{Tracked}
use Rattle.zig_parse.proofs.Following.{alone_path, state_live, step_path}
use Rattle.zig_parse.proofs.Lasting.{Lasts}
use Rattle.zig_parse.proofs.LastingSteps.{lasts_next}
use Rattle.zig_parse.proofs.Grounds.{Grounds, next_grounds}

-- ---- what is kept

pub front_grounds : (front : List TokenKind) (next : TokenKind) (at : ℕ) (s : State) → Grounds s.live s.waiting → Grounds (after_front front next at s).live (after_front front next at s).waiting
unfolding after_front
front_grounds [] next at s g = g
front_grounds (k ∷ ks) next at s g =
    let look : Look = record { kind = k; next = kind_before ks next } in
    front_grounds ks next (at + 1) (next_state look at s) (next_grounds look at s g)

pub front_lasts : (front : List TokenKind) (next : TokenKind) (at : ℕ) (s : State) (read : List TokenKind) → Lasts s.live s.waiting read (kind_before front next) → Lasts (after_front front next at s).live (after_front front next at s).waiting (read ++ front) next
unfolding after_front
front_lasts [] next at s read l = subst (λ (r : List TokenKind). Lasts s.live s.waiting r next) (sym (append-nil read)) l
front_lasts (k ∷ ks) next at s read l =
    let look : Look = record { kind = k; next = kind_before ks next } in
    let now = next_state look at s in
    let end = after_front ks next (at + 1) now in
    subst (λ (r : List TokenKind). Lasts end.live end.waiting r next) (append_assoc read (k ∷ []) ks) (front_lasts ks next (at + 1) now (read ++ k ∷ []) (lasts_next look at s read l))

-- ---- what stands behind

pub front_same : (front : List TokenKind) (x y : TokenKind) (at : ℕ) (s : State) → is_kind x kind.Colon ≡ is_kind y kind.Colon → after_front front x at s ≡ after_front front y at s
unfolding after_front
front_same [] x y at s e = refl
front_same (k ∷ []) x y at s e = colon_state k x y at s e
front_same (k ∷ j ∷ ks) x y at s e = front_same (j ∷ ks) x y (at + 1) (next_state (record { kind = k; next = j }) at s) e

-- ---- the thread of a path

kind_joined : (ks w : List TokenKind) → kind_before ks (next_kind w) ≡ next_kind (ks ++ w)
kind_joined [] w = refl
kind_joined (k ∷ ks) w = refl

look_joined : (k : TokenKind) (ks w : List TokenKind) → ◌≡◌ {A = Look} (record { kind = k; next = kind_before ks (next_kind w) }) (look_of (k ∷ (ks ++ w)))
look_joined k ks w = ap (λ (n : TokenKind). record { kind = k; next = n }) (kind_joined ks w)

-- the state where the thread is live
pub record After (low : ℕ → Type 0) (top total at : ℕ) (tokens : List TokenKind) (s : State) : Type 0 where
  pub ds : List ℕ
  pub forks : List Fork
  pub tracked : Tracked low top total at tokens s.live s.waiting ds forks

none_left : (ks w : List TokenKind) → 0 < length w → ks ++ w ≡ [] → ⊥
none_left [] w some e = let none = ap length e in omega (arith, none, some)
none_left (k ∷ ks) w some e = cc

pub front_tracked : (low : ℕ → Type 0) → ((n : ℕ) → low (n + 1) → low n) → (top total at : ℕ) (front w : List TokenKind) (s : State) (ds : List ℕ) (forks : List Fork) → 0 < length w → Tracked low top total at (front ++ w) s.live s.waiting ds forks
    → After low top total (at + length front) w (after_front front (next_kind w) at s)
unfolding after_front
front_tracked low falls top total at [] w s ds forks some t = record { ds = ds; forks = forks; tracked = subst (λ (n : ℕ). Tracked low top total n w s.live s.waiting ds forks) (let e : at ≡ at + 0 = omega arith in e) t }
front_tracked low falls top total at (k ∷ ks) w s ds forks some t =
    let look = look_of (k ∷ (ks ++ w)) in
    let st = step_path low falls top total at k (ks ++ w) s ds forks t in
    elim st.off.state [
      | inr ended ↦ absurd (none_left ks w some ended.no_tokens)
      | inl tracked ↦
          let one = alone_path low top total (at + 1) (ks ++ w) (next_live look at s) (next_state look at s).waiting (chosen_with at st.news ds) st.later [] tracked in
          let next : Tracked low top total (at + 1) (ks ++ w) (next_state look at s).live (next_state look at s).waiting one.es st.later =
          subst (λ (u : List Thread). Tracked low top total (at + 1) (ks ++ w) u (next_state look at s).waiting one.es st.later) (sym (state_live look at s)) one.state in
          let more = front_tracked low falls top total (at + 1) ks w (next_state look at s) one.es st.later some next in
          subst (λ (n : ℕ). After low top total n w (after_front ks (next_kind w) (at + 1) (next_state (record { kind = k; next = kind_before ks (next_kind w) }) at s))) (let e : at + 1 + length ks ≡ at + length (k ∷ ks) = omega arith in e)
          (subst (λ (l : Look). After low top total (at + 1 + length ks) w (after_front ks (next_kind w) (at + 1) (next_state l at s))) (sym (look_joined k ks w)) more)
    ]
