-- Before a refused token the first pass had a way that isn't too deep, or the last token is an identifier.
use Rattle.std.proofs.Common.{◌≡◌, ℕ, zero, suc, ◌+◌, ◌<◌, ◌≤◌, Bool, true, false, ◌&&◌, inl, inr, List, [], ◌∷◌, ◌++◌, length, take, append-nil, Ok, Err, refl, sym, ◌∙◌, ap, subst, arith}
use Rattle.std.specs.Prelude.{if◌then◌else◌, replicate, ◌^◌}
use Rattle.std.proofs.lemmas.Bool.{and_parts}
use Rattle.zig_tree.specs.declared.token.Token.{Token}
use Rattle.zig_tree.specs.declared.token.TokenKind.{TokenKind}
use Rattle.zig_tree.specs.declared.token.TokenKind.TheVariants as kind
use Rattle.zig_tree.specs.Kinds.{is_kind}
use Rattle.zig_tree.specs.Grammar.{rule_rows}
use Rattle.zig_parse.specs.declared.choice.Look.{Look}
use Rattle.zig_parse.specs.declared.thread.Thread.{Thread}
use Rattle.zig_parse.specs.declared.state.State.{State}
use Rattle.zig_parse.specs.declared.survey.Verdict.TheVariants as verdict
use Rattle.zig_parse.specs.declared.fault.SyntaxFault.{SyntaxFault}
use Rattle.zig_parse.specs.declared.fault.SyntaxFault.TheVariants.{Unexpected, TooDeep, OutOfMemory}
use Rattle.zig_parse.specs.Choices.{choices, matching}
use Rattle.zig_parse.specs.Threads.{collapses, fresh, opened, put}
use Rattle.zig_parse.specs.Passes.{all_deep, alone, any_shallow, begun, verdict_of}
use Rattle.zig_parse.specs.Moves.{settled_all}
use Rattle.zig_parse.specs.Growth.{grown_from}
use Rattle.zig_parse.specs.Surveys.{entered, first_state, is_spared, look_at, next_live, next_state, next_verdict}
use Rattle.zig_parse.specs.Leads.{IsEven, after_front, ends_named, kind_before, read_front}
use Rattle.zig_parse.specs.Trees.{BeginsBefore, EarlierShallow, EvenBegins, kinds_of}
use Rattle.zig_parse.proofs.Spared.{last_verdict}
use Rattle.zig_parse.proofs.Answers.{Found, first_same, found_at, found_where, front_length, kinds_length, survey_of, taken_more}
use Rattle.zig_parse.proofs.WholeAnswers.{never_unexpected}
use Rattle.zig_parse.proofs.DeepRefusals.{grown_never}
use Rattle.zig_parse.proofs.EvenLaw.{even_front, evenly_begins}
use Rattle.zig_parse.proofs.EndingLaw.{ending_front}
use Rattle.zig_parse.proofs.LedLaw.{led_front}

-- ---- one more token

front_more : (front : List TokenKind) (k next : TokenKind) (at : ℕ) (s : State) → after_front (front ++ k ∷ []) next at s ≡ next_state (record { kind = k; next = next }) (at + length front) (after_front front k at s)
unfolding after_front
front_more [] k next at s = ap (λ (n : ℕ). next_state (record { kind = k; next = next }) n s) (let e : at ≡ at + 0 = omega arith in e)
front_more (j ∷ []) k next at s = ap (λ (n : ℕ). next_state (record { kind = k; next = next }) n (next_state (record { kind = j; next = k }) at s)) (let e : at + 1 ≡ at + 1 = refl in e)
front_more (j ∷ i ∷ ks) k next at s =
    front_more (i ∷ ks) k next (at + 1) (next_state (record { kind = j; next = i }) at s)
    ∙ ap (λ (n : ℕ). next_state (record { kind = k; next = next }) n (after_front (i ∷ ks) k (at + 1) (next_state (record { kind = j; next = i }) at s))) (let e : at + 1 + length (i ∷ ks) ≡ at + length (j ∷ i ∷ ks) = omega arith in e)

named_last : (front : List TokenKind) (k : TokenKind) → ends_named (front ++ k ∷ []) ≡ is_kind k kind.Identifier
named_last [] k = refl
named_last (j ∷ []) k = refl
named_last (j ∷ i ∷ ks) k = named_last (i ∷ ks) k

-- ---- the states that the first pass comes to

abbrev start : List Token → State
start tokens = first_state (look_at tokens 0)

abbrev reached : List Token → ℕ → State
reached tokens at = after_front (take at (kinds_of tokens)) (look_at tokens at).kind 0 (start tokens)

-- the state before a token, and that the token before it is not refused
record Reached (tokens : List Token) (at : ℕ) (s : State) : Type 0 where
  is : s ≡ reached tokens at
  fine : (n : ℕ) → at ≡ n + 1 → next_verdict (look_at tokens n) n (reached tokens n) ≡ verdict.Fine

state_after : (tokens : List Token) (at : ℕ) (next : TokenKind) → at < length tokens → after_front (take (at + 1) (kinds_of tokens)) next 0 (start tokens) ≡ next_state (record { kind = (look_at tokens at).kind; next = next }) at (reached tokens at)
state_after tokens at next h =
    let front = take at (kinds_of tokens) in
    let k = (look_at tokens at).kind in
    let long : length front ≡ at = front_length (kinds_of tokens) at (omega (arith, kinds_length tokens)) in
    ap (λ (l : List TokenKind). after_front l next 0 (start tokens)) (taken_more tokens at h) ∙ front_more front k next 0 (start tokens)
    ∙ ap (λ (n : ℕ). next_state (record { kind = k; next = next }) n (reached tokens at)) (let e : 0 + length front ≡ at = omega (arith, long) in e)

reached_next : (tokens : List Token) (at : ℕ) (s : State) → at < length tokens → Reached tokens at s → next_verdict (look_at tokens at) at s ≡ verdict.Fine → Reached tokens (at + 1) (next_state (look_at tokens at) at s)
reached_next tokens at s h r fine = record {
  is = ap (next_state (look_at tokens at) at) r.is ∙ sym (state_after tokens at (look_at tokens (at + 1)).kind h);
  fine = λ n e. (let same : at ≡ n = omega (arith, e) in
      subst (λ (m : ℕ). next_verdict (look_at tokens m) m (reached tokens m) ≡ verdict.Fine) same (subst (λ (x : State). next_verdict (look_at tokens at) at x ≡ verdict.Fine) r.is fine));
}

reached_first : (tokens : List Token) → Reached tokens 0 (start tokens)
unfolding after_front
reached_first tokens = record { is = refl; fine = λ n e. absurd (omega (arith, e)) }

all_reached : (tokens : List Token) → Found (Reached tokens) tokens (survey_of tokens)
all_reached tokens = found_at (Reached tokens) tokens (reached_next tokens) (length tokens) 0 (start tokens) (replicate (length tokens) false) (omega arith) (reached_first tokens)

-- ---- not all threads are too deep

alone_deep : (ts : List Thread) → all_deep (alone ts) ≡ all_deep ts
unfolding all_deep
alone_deep [] = refl
alone_deep (t ∷ []) = refl
alone_deep (t ∷ u ∷ ts) = refl

fine_deep : (spared : Bool) (ts : List Thread) → verdict_of spared ts ≡ verdict.Fine → all_deep ts ≡ true → spared ≡ true
fine_deep spared [] h e = absurd (cc)
fine_deep true (t ∷ ts) h e = refl
fine_deep false (t ∷ ts) h e = absurd (let wrong : verdict.TooDeep ≡ verdict.Fine = ap (λ (b : Bool). if b && true then verdict.TooDeep else verdict.Fine) (sym e) ∙ h in cc)

spared_named : (look : Look) (at : ℕ) (s : State) → is_spared look at s ≡ true → is_kind look.kind kind.Identifier ≡ true
unfolding is_spared
spared_named look at s h = (and_parts (is_kind look.kind kind.Identifier) (any_shallow (entered look (settled_all look at s.live))) h).0

-- the way that leads isn't
leader_shallow : (b d n : Bool) → b ≡ d → (d ≡ true → n ≡ true) → (n ≡ true → b ≡ false) → b ≡ false
leader_shallow b true n e f g = g (f refl)
leader_shallow b false n e f g = e

deep_named : (look : Look) (at : ℕ) (s : State) → next_verdict look at s ≡ verdict.Fine → all_deep (next_state look at s).live ≡ true → is_kind look.kind kind.Identifier ≡ true
unfolding next_verdict next_state
deep_named look at s h e = spared_named look at s (fine_deep (is_spared look at s) (next_live look at s) h (sym (alone_deep (next_live look at s)) ∙ e))

first_shallow : (next : TokenKind) → all_deep (read_front [] next).live ≡ true → ⊥
unfolding read_front after_front first_state all_deep begun choices matching rule_rows put opened fresh collapses
first_shallow next e = cc

-- the state after some tokens, none of which the first pass refused
reached_before : (tokens : List Token) (n : ℕ) (s : State) (next : TokenKind) → suc n ≤ length tokens → Reached tokens (suc n) s
    → (read_front (take (suc n) (kinds_of tokens)) next ≡ next_state (record { kind = (look_at tokens n).kind; next = next }) n (reached tokens n)) × (next_verdict (record { kind = (look_at tokens n).kind; next = next }) n (reached tokens n) ≡ verdict.Fine)
unfolding read_front
reached_before tokens n s next h r =
    let more : suc n ≡ n + 1 = omega arith in
    let front = take (suc n) (kinds_of tokens) in
    let first : Look = record { kind = kind_before front next; next = next } in
    let look : Look = record { kind = (look_at tokens n).kind; next = next } in (
      ap (after_front front next 0) (first_same first (look_at tokens 0)) ∙ ap (λ (m : ℕ). after_front (take m (kinds_of tokens)) next 0 (start tokens)) more ∙ state_after tokens n next (omega arith),
      last_verdict look (look_at tokens n) n (reached tokens n) refl ∙ r.fine n more,
    )

-- of a front of which the first pass refused no token
shallow_way : (tokens : List Token) (at : ℕ) (s : State) (next : TokenKind) (deep : Bool) → at ≤ length tokens → Reached tokens at s → deep ≡ all_deep (read_front (take at (kinds_of tokens)) next).live → (ends_named (take at (kinds_of tokens)) ≡ true → deep ≡ false) → deep ≡ false
unfolding read_front
shallow_way tokens zero s next deep h r same named = leader_shallow deep (all_deep (read_front [] next).live) false same (λ e. absurd (first_shallow next e)) (λ e. absurd (cc))
shallow_way tokens (suc n) s next deep h r same named =
    let more : suc n ≡ n + 1 = omega arith in
    let front = take (suc n) (kinds_of tokens) in
    let look : Look = record { kind = (look_at tokens n).kind; next = next } in
    let before = reached_before tokens n s next h r in
    let last : ends_named front ≡ is_kind look.kind kind.Identifier = ap (λ (m : ℕ). ends_named (take m (kinds_of tokens))) more ∙ ap ends_named (taken_more tokens n (omega arith)) ∙ named_last (take n (kinds_of tokens)) look.kind in
    leader_shallow deep (all_deep (read_front front next).live) (ends_named front) same (λ e. last ∙ deep_named look n (reached tokens n) before.1 (ap (λ (x : State). all_deep x.live) (sym before.0) ∙ e)) named

even_begins : (tokens : List Token) (at : ℕ) (s : State) → at ≤ length tokens → Reached tokens at s → EvenBegins (take at (kinds_of tokens))
even_begins tokens at s h r [] next even f =
    let front = take at (kinds_of tokens) in
    let same : front ++ [] ≡ front = append-nil front in
    let now = subst (λ (l : List TokenKind). IsEven l next × (ends_named front ≡ true → all_deep (read_front l next).live ≡ false)) same (even, λ e. f (inr e)) in
    even_front front next now.0 (shallow_way tokens at s next (all_deep (read_front front next).live) h r refl now.1)
even_begins tokens at s h r (k ∷ more) next even f = evenly_begins (take at (kinds_of tokens)) (k ∷ more) next even (f (inl (omega arith)))

front_begins : (tokens : List Token) (at : ℕ) (s : State) → at ≤ length tokens → Reached tokens at s → BeginsBefore (take at (kinds_of tokens))
front_begins tokens at s h r = (
  λ next l same named. led_front (take at (kinds_of tokens)) next l (shallow_way tokens at s next l.t.deep h r same named),
  λ next ending e same named. ending_front (take at (kinds_of tokens)) ending next e (shallow_way tokens at s next e.t.deep h r same named),
  even_begins tokens at s h r,
)

-- ---- the answers

pub survey_earlier : (tokens : List Token) (e : SyntaxFault) → survey_of tokens ≡ Err e → EarlierShallow tokens e
survey_earlier tokens (Unexpected k at) h = λ ended. (
    let f = found_where (Reached tokens) tokens (survey_of tokens) (Err (Unexpected k at)) h (all_reached tokens) in
    front_begins tokens at f.0 (let less = f.2 in omega (arith, less)) f.1)
survey_earlier tokens (TooDeep at) h = λ ended. (
    let f = found_where (Reached tokens) tokens (survey_of tokens) (Err (TooDeep at)) h (all_reached tokens) in
    front_begins tokens at f.0 (let less = f.2 in omega (arith, less)) f.1)
survey_earlier tokens OutOfMemory h = tt

pub grown_earlier : (tokens : List Token) (marks : List Bool) (e : SyntaxFault) → length tokens < 2 ^ 32 → survey_of tokens ≡ Ok marks → grown_from tokens marks ≡ Err e → EarlierShallow tokens e
grown_earlier tokens marks (Unexpected k at) fits found h = λ ended. absurd (never_unexpected tokens marks k at fits found h ended)
grown_earlier tokens marks (TooDeep at) fits found h = λ ended. absurd (grown_never tokens marks at fits found h ended)
grown_earlier tokens marks OutOfMemory fits found h = tt
