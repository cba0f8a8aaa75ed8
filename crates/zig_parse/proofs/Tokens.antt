-- One token more of a pass.
use Rattle.std.proofs.Common.{◌≡◌, ℕ, suc, ◌+◌, ◌-◌, ◌<◌, ◌≤◌, Bool, List, Some, refl, sym, ◌∙◌, ap, arith, Ok, Err}
use Rattle.zig_tree.specs.declared.token.Token.{Token}
use Rattle.zig_parse.specs.declared.choice.Look.{Look}
use Rattle.zig_parse.specs.Growth.{Grown, all_read, all_shut, is_second, known, moved, read_one, ready, ready_by, shut, ◌>>=◌}
use Rattle.zig_parse.specs.declared.state.State.{State}
use Rattle.zig_parse.specs.declared.fault.SyntaxFault.{SyntaxFault}
use Rattle.zig_parse.specs.Surveys.{judged, look_at, next_marks, next_state, next_verdict, surveyed}

surveyed_suc : (n at : ℕ) (tokens : List Token) (s : State) (marks : List Bool)
    → surveyed (suc n) at tokens s marks ≡ judged (next_verdict (look_at tokens at) at s)
    (surveyed n (at + 1) tokens (next_state (look_at tokens at) at s) (next_marks (look_at tokens at) at s marks)) (look_at tokens at).kind at
unfolding surveyed
surveyed_suc n at tokens s marks = refl

pub surveyed_step : (n at : ℕ) (tokens : List Token) (s : State) (marks : List Bool) → at < n
    → surveyed (n - at) at tokens s marks ≡ judged (next_verdict (look_at tokens at) at s)
    (surveyed (n - (at + 1)) (at + 1) tokens (next_state (look_at tokens at) at s) (next_marks (look_at tokens at) at s marks)) (look_at tokens at).kind at
surveyed_step n at tokens s marks h = let e : n - at ≡ suc (n - (at + 1)) = omega arith in rw e (surveyed_suc (n - (at + 1)) at tokens s marks)

pub surveyed_end : (n at : ℕ) (tokens : List Token) (s : State) (marks : List Bool) → n ≤ at → surveyed (n - at) at tokens s marks ≡ Ok marks
unfolding surveyed
surveyed_end n at tokens s marks h = let e : n - at ≡ 0 = omega arith in rw e refl

pub ruleset survey_steps = (surveyed_step, surveyed_end)

-- whether a token can be read, one move earlier
ready_suc : (n : ℕ) (tokens : List Token) (look : Look) (second : Bool) (g : Grown)
    → ready (suc n) tokens look second g ≡ ready_by (known look second g) (moved tokens look second g) (ready n tokens look second (moved tokens look second g))
unfolding ready
ready_suc n tokens look second g = refl

pub ready_known : (n : ℕ) (tokens : List Token) (look : Look) (second b : Bool) (g : Grown) → 0 < n → known look second g ≡ Some b
    → ready n tokens look second g ≡ record { fits = b; grown = moved tokens look second g }
ready_known n tokens look second b g h e = let same : n ≡ suc (n - 1) = omega arith in rw (same, ready_suc (n - 1) tokens look second g, e) refl

-- all nodes are closed, one node earlier
all_shut_suc : (n : ℕ) (tokens : List Token) (g : Grown) → all_shut (suc n) tokens g ≡ all_shut n tokens (shut tokens g)
unfolding all_shut
all_shut_suc n tokens g = refl

pub all_shut_zero : (tokens : List Token) (g : Grown) → all_shut 0 tokens g ≡ g
unfolding all_shut
all_shut_zero tokens g = refl

pub all_shut_more : (n i : ℕ) (tokens : List Token) (g : Grown) → i < n → all_shut (n - i) tokens g ≡ all_shut (n - (i + 1)) tokens (shut tokens g)
all_shut_more n i tokens g h = let same : n - i ≡ suc (n - (i + 1)) = omega arith in ap (λ (k : ℕ). all_shut k tokens g) same ∙ all_shut_suc (n - (i + 1)) tokens g

pub ruleset shut_steps = (all_shut_zero, all_shut_more)

-- all tokens are read, one token later
all_read_suc : (n at : ℕ) (tokens : List Token) (marks : List Bool) (g : Grown)
    → all_read (suc n) at tokens marks g ≡ (read_one at tokens (look_at tokens at) (is_second marks at) g >>= all_read n (at + 1) tokens marks)
unfolding all_read
all_read_suc n at tokens marks g = refl

pub all_read_ok : (n at : ℕ) (tokens : List Token) (marks : List Bool) (g next : Grown) → at < n → read_one at tokens (look_at tokens at) (is_second marks at) g ≡ Ok next
    → all_read (n - at) at tokens marks g ≡ all_read (n - (at + 1)) (at + 1) tokens marks next
all_read_ok n at tokens marks g next h e = let same : n - at ≡ suc (n - (at + 1)) = omega arith in rw (same, all_read_suc (n - (at + 1)) at tokens marks g, e) refl

pub all_read_err : (n at : ℕ) (tokens : List Token) (marks : List Bool) (g : Grown) (f : SyntaxFault) → at < n → read_one at tokens (look_at tokens at) (is_second marks at) g ≡ Err f
    → all_read (n - at) at tokens marks g ≡ Err f
all_read_err n at tokens marks g f h e = let same : n - at ≡ suc (n - (at + 1)) = omega arith in rw (same, all_read_suc (n - (at + 1)) at tokens marks g, e) refl

pub all_read_end : (n at : ℕ) (tokens : List Token) (marks : List Bool) (g : Grown) → n ≤ at → all_read (n - at) at tokens marks g ≡ Ok g
unfolding all_read
all_read_end n at tokens marks g h = let e : n - at ≡ 0 = omega arith in rw e refl

pub ruleset read_steps = (all_read_ok, all_read_err, all_read_end)

pub all_shut_out : (n k : ℕ) (tokens : List Token) (g whole : Grown) → n ≤ k → all_shut (n - k) tokens g ≡ whole → g ≡ whole
all_shut_out n k tokens g whole h e = let none : n - k ≡ 0 = omega arith in sym (all_shut_zero tokens g) ∙ ap (λ (m : ℕ). all_shut m tokens g) (sym none) ∙ e
