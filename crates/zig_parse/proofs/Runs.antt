-- Moves of the second pass one after another, and that the pass makes them.
use Rattle.std.proofs.Common.{◌≡◌, ℕ, suc, ◌+◌, ◌-◌, ◌<◌, ◌≤◌, Bool, true, false, ◌⊎◌, inl, inr, List, length, None, Result, Ok, Err, refl, sym, ◌∙◌, ap, arith}
use Rattle.std.specs.Prelude.{if◌then◌else◌}
use Rattle.zig_tree.specs.declared.token.Token.{Token}
use Rattle.zig_parse.specs.declared.choice.Look.{Look}
use Rattle.zig_parse.specs.declared.thread.Move.{Move}
use Rattle.zig_parse.specs.declared.thread.Move.TheVariants as move
use Rattle.zig_parse.specs.declared.fault.SyntaxFault.{SyntaxFault}
use Rattle.zig_parse.specs.declared.fault.SyntaxFault.TheVariants.{TooDeep}
use Rattle.zig_parse.specs.Threads.{after_read}
use Rattle.zig_parse.specs.Moves.{moves_for, next_move}
use Rattle.zig_parse.specs.Nodes.{with_token}
use Rattle.zig_parse.specs.Surveys.{look_at}
use Rattle.zig_parse.specs.Growth.{Grown, all_read, is_second, known, known_by, moved, moved_by, read_one, read_where, ready, ◌>>=◌}
use Rattle.zig_parse.proofs.Tokens.{ready_known, all_read_ok}
use Rattle.zig_parse.proofs.Costs.{ready_next}

-- the state after a token is read
abbrev pub read_at : ℕ → Grown → Grown
read_at at g = record { thread = after_read g.thread; parts = with_token at g.parts }

-- From a state at a token to another one at a later token. Where that is told, no token lies too deep.
pub data Run (told : Bool) (tokens : List Token) (marks : List Bool) : ℕ → Grown → ℕ → Grown → Type 0 where
  run_none : (at : ℕ) (g : Grown) → Run told tokens marks at g at g
  run_moves : (at end : ℕ) (g last : Grown) → at < length tokens → known (look_at tokens at) (is_second marks at) g ≡ None
      → Run told tokens marks at (moved tokens (look_at tokens at) (is_second marks at) g) end last → Run told tokens marks at g end last
  run_reads : (at end : ℕ) (g last : Grown) → at < length tokens → next_move (look_at tokens at) false g.thread ≡ move.Read → (told ≡ true → (after_read g.thread).deep ≡ false)
      → Run told tokens marks (at + 1) (read_at at g) end last → Run told tokens marks at g end last

pub run_joined : (told : Bool) (tokens : List Token) (marks : List Bool) (a b c : ℕ) (g h k : Grown) → Run told tokens marks a g b h → Run told tokens marks b h c k → Run told tokens marks a g c k
run_joined told tokens marks a b c g h k (run_none _ _) r = r
run_joined told tokens marks a b c g h k (run_moves _ _ _ _ l e q) r = run_moves a c g k l e (run_joined told tokens marks a b c (moved tokens (look_at tokens a) (is_second marks a) g) h k q r)
run_joined told tokens marks a b c g h k (run_reads _ _ _ _ l e d q) r = run_reads a c g k l e d (run_joined told tokens marks (a + 1) b c (read_at a g) h k q r)

pub run_within : (told : Bool) (tokens : List Token) (marks : List Bool) (at end : ℕ) (g last : Grown) → Run told tokens marks at g end last → at ≤ length tokens → end ≤ length tokens
run_within told tokens marks at end g last (run_none _ _) h = h
run_within told tokens marks at end g last (run_moves _ _ _ _ l e r) h = run_within told tokens marks at end (moved tokens (look_at tokens at) (is_second marks at) g) last r h
run_within told tokens marks at end g last (run_reads _ _ _ _ l e d r) h = run_within told tokens marks (at + 1) end (read_at at g) last r (omega arith)

-- ---- what a move tells

pub moved_is : (tokens : List Token) (look : Look) (second : Bool) (g : Grown) (m : Move) → next_move look false g.thread ≡ m → (moved tokens look second g ≡ moved_by tokens look second g m) × (known look second g ≡ known_by look second m)
unfolding moved known
moved_is tokens look second g m e = (ap (moved_by tokens look second g) e, ap (known_by look second) e)

-- after a move that tells nothing the token is read as before it
read_moved : (at : ℕ) (tokens : List Token) (look : Look) (second : Bool) (g : Grown) → known look second g ≡ None → read_one at tokens look second g ≡ read_one at tokens look second (moved tokens look second g)
unfolding read_one
read_moved at tokens look second g e =
    ap (read_where at look) (sym (ready_next tokens look second g (moved tokens look second g) (ready (moves_for g.thread) tokens look second g) refl (sym e) refl))

calm_read : (at : ℕ) (deep : Bool) (g : Grown) → deep ≡ false → ◌≡◌ {A = Result Grown SyntaxFault} (if deep then Err (TooDeep at) else Ok g) (Ok g)
calm_read at true g e = absurd (cc)
calm_read at false g e = refl

read_now : (at : ℕ) (tokens : List Token) (look : Look) (second : Bool) (g : Grown) → next_move look false g.thread ≡ move.Read → (after_read g.thread).deep ≡ false → read_one at tokens look second g ≡ Ok (read_at at g)
unfolding read_one
read_now at tokens look second g e d =
    let m = moved_is tokens look second g move.Read e in
    let r : ready (moves_for g.thread) tokens look second g ≡ record { fits = true; grown = g } =
    ready_known (moves_for g.thread) tokens look second true g (omega arith) m.1 ∙ ap (λ (x : Grown). record { fits = true; grown = x }) m.0 in
    ap (read_where at look) r ∙ calm_read at (after_read g.thread).deep (read_at at g) d

all_read_same : (n at : ℕ) (tokens : List Token) (marks : List Bool) (g h : Grown) → read_one at tokens (look_at tokens at) (is_second marks at) g ≡ read_one at tokens (look_at tokens at) (is_second marks at) h
    → all_read (suc n) at tokens marks g ≡ all_read (suc n) at tokens marks h
unfolding all_read
all_read_same n at tokens marks g h e = ap (λ (r : Result Grown SyntaxFault). r >>= all_read n (at + 1) tokens marks) e

moves_read : (tokens : List Token) (marks : List Bool) (at : ℕ) (g : Grown) → at < length tokens → known (look_at tokens at) (is_second marks at) g ≡ None
    → all_read (length tokens - at) at tokens marks g ≡ all_read (length tokens - at) at tokens marks (moved tokens (look_at tokens at) (is_second marks at) g)
moves_read tokens marks at g l e =
    let next = moved tokens (look_at tokens at) (is_second marks at) g in
    let one : length tokens - at ≡ suc (length tokens - at - 1) = omega arith in
    ap (λ (n : ℕ). all_read n at tokens marks g) one ∙ all_read_same (length tokens - at - 1) at tokens marks g next (read_moved at tokens (look_at tokens at) (is_second marks at) g e) ∙ ap (λ (n : ℕ). all_read n at tokens marks next) (sym one)

-- the pass makes these moves
pub run_read : (tokens : List Token) (marks : List Bool) (at end : ℕ) (g last : Grown) → Run true tokens marks at g end last → all_read (length tokens - at) at tokens marks g ≡ all_read (length tokens - end) end tokens marks last
run_read tokens marks at end g last (run_none _ _) = refl
run_read tokens marks at end g last (run_moves _ _ _ _ l e r) = moves_read tokens marks at g l e ∙ run_read tokens marks at end (moved tokens (look_at tokens at) (is_second marks at) g) last r
run_read tokens marks at end g last (run_reads _ _ _ _ l e d r) =
    all_read_ok (length tokens) at tokens marks g (read_at at g) l (read_now at tokens (look_at tokens at) (is_second marks at) g e (d refl)) ∙ run_read tokens marks (at + 1) end (read_at at g) last r

deep_or : (at : ℕ) (deep : Bool) (g h : Grown) → ◌≡◌ {A = Result Grown SyntaxFault} (if deep then Err (TooDeep at) else Ok g) (Ok h) → deep ≡ false
deep_or at true g h e = absurd (cc)
deep_or at false g h e = refl

first_ok : (r : Result Grown SyntaxFault) (f : Grown → Result Grown SyntaxFault) (h : Grown) → (r >>= f) ≡ Ok h → (g : Grown) × (r ≡ Ok g)
first_ok (Ok g) f h e = (g, refl)
first_ok (Err x) f h e = absurd (cc)

-- a token that is read does not lie too deep
read_low : (at : ℕ) (tokens : List Token) (look : Look) (second : Bool) (g h : Grown) → next_move look false g.thread ≡ move.Read → read_one at tokens look second g ≡ Ok h → (after_read g.thread).deep ≡ false
unfolding read_one
read_low at tokens look second g h e k =
    let m = moved_is tokens look second g move.Read e in
    let r : ready (moves_for g.thread) tokens look second g ≡ record { fits = true; grown = g } =
    ready_known (moves_for g.thread) tokens look second true g (omega arith) m.1 ∙ ap (λ (x : Grown). record { fits = true; grown = x }) m.0 in
    deep_or at (after_read g.thread).deep (read_at at g) h (sym (ap (read_where at look) r) ∙ k)

-- where the pass reads all tokens, it makes these moves, whatever is told
pub run_whole : (told : Bool) (tokens : List Token) (marks : List Bool) (at end : ℕ) (g last h : Grown) → Run told tokens marks at g end last → all_read (length tokens - at) at tokens marks g ≡ Ok h → all_read (length tokens - end) end tokens marks last ≡ Ok h
unfolding all_read
run_whole told tokens marks at end g last h (run_none _ _) k = k
run_whole told tokens marks at end g last h (run_moves _ _ _ _ l e r) k =
    run_whole told tokens marks at end (moved tokens (look_at tokens at) (is_second marks at) g) last h r (sym (moves_read tokens marks at g l e) ∙ k)
run_whole told tokens marks at end g last h (run_reads _ _ _ _ l e d r) k =
    let one : length tokens - at ≡ suc (length tokens - at - 1) = omega arith in
    let first = first_ok (read_one at tokens (look_at tokens at) (is_second marks at) g) (all_read (length tokens - at - 1) (at + 1) tokens marks) h (sym (ap (λ (n : ℕ). all_read n at tokens marks g) one) ∙ k) in
    let low = read_low at tokens (look_at tokens at) (is_second marks at) g first.0 e first.1 in
    run_whole told tokens marks (at + 1) end (read_at at g) last h r (sym (all_read_ok (length tokens) at tokens marks g (read_at at g) l (read_now at tokens (look_at tokens at) (is_second marks at) g e low)) ∙ k)

deep_read : (at : ℕ) (tokens : List Token) (look : Look) (second : Bool) (g : Grown) → next_move look false g.thread ≡ move.Read → (after_read g.thread).deep ≡ true → read_one at tokens look second g ≡ Err (TooDeep at)
unfolding read_one
deep_read at tokens look second g e d =
    let m = moved_is tokens look second g move.Read e in
    let r : ready (moves_for g.thread) tokens look second g ≡ record { fits = true; grown = g } =
    ready_known (moves_for g.thread) tokens look second true g (omega arith) m.1 ∙ ap (λ (x : Grown). record { fits = true; grown = x }) m.0 in
    ap (read_where at look) r ∙ ap (λ (b : Bool). if b then Err (TooDeep at) else Ok (read_at at g)) d

first_deep : (n at : ℕ) (tokens : List Token) (marks : List Bool) (g : Grown) → read_one at tokens (look_at tokens at) (is_second marks at) g ≡ Err (TooDeep at) → all_read (suc n) at tokens marks g ≡ Err (TooDeep at)
unfolding all_read
first_deep n at tokens marks g e = ap (λ (r : Result Grown SyntaxFault). r >>= all_read n (at + 1) tokens marks) e

-- the pass makes these moves, or a token lies too deep
pub run_or : (told : Bool) (tokens : List Token) (marks : List Bool) (at end : ℕ) (g last : Grown) → Run told tokens marks at g end last
    → (all_read (length tokens - at) at tokens marks g ≡ all_read (length tokens - end) end tokens marks last) ⊎ ((a : ℕ) × (all_read (length tokens - at) at tokens marks g ≡ Err (TooDeep a)))
run_or told tokens marks at end g last (run_none _ _) = inl refl
run_or told tokens marks at end g last (run_moves _ _ _ _ l e r) =
    let same = moves_read tokens marks at g l e in
    elim (run_or told tokens marks at end (moved tokens (look_at tokens at) (is_second marks at) g) last r) [
      | inl h ↦ inl (same ∙ h)
      | inr h ↦ inr (h.0, same ∙ h.1)
    ]
run_or told tokens marks at end g last (run_reads _ _ _ _ l e d r) = by (after_read g.thread).deep refl (run_or told tokens marks (at + 1) end (read_at at g) last r)
  where
    one : length tokens - at ≡ suc (length tokens - at - 1)
    one = omega (arith, l)

    by : (b : Bool) → (after_read g.thread).deep ≡ b
        → (all_read (length tokens - (at + 1)) (at + 1) tokens marks (read_at at g) ≡ all_read (length tokens - end) end tokens marks last) ⊎ ((a : ℕ) × (all_read (length tokens - (at + 1)) (at + 1) tokens marks (read_at at g) ≡ Err (TooDeep a)))
        → (all_read (length tokens - at) at tokens marks g ≡ all_read (length tokens - end) end tokens marks last) ⊎ ((a : ℕ) × (all_read (length tokens - at) at tokens marks g ≡ Err (TooDeep a)))
    by false b more =
        (let same = all_read_ok (length tokens) at tokens marks g (read_at at g) l (read_now at tokens (look_at tokens at) (is_second marks at) g e b) in
        elim more [
          | inl h ↦ inl (same ∙ h)
          | inr h ↦ inr (h.0, same ∙ h.1)
        ])
    by true b more = inr (at, ap (λ (n : ℕ). all_read n at tokens marks g) one ∙ first_deep (length tokens - at - 1) at tokens marks g (deep_read at tokens (look_at tokens at) (is_second marks at) g e b))
