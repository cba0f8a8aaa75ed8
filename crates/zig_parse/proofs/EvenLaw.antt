-- Where the threads of the first pass are even, some sentence begins with the tokens that were read and has each of
-- them no deeper than the limit.
use Rattle.std.proofs.Common.{◌≡◌, ℕ, ◌+◌, Bool, true, false, List, [], ◌∷◌, ◌++◌, refl, sym, ◌∙◌, ap, subst, arith}
use Rattle.zig_tree.specs.declared.token.TokenKind.{TokenKind}
use Rattle.zig_tree.specs.declared.token.TokenKind.TheVariants as kind
use Rattle.zig_tree.specs.GrammarSentences.{BeginsShallow}
use Rattle.zig_parse.specs.declared.choice.Look.{Look}
use Rattle.zig_parse.specs.declared.state.State.{State}
use Rattle.zig_parse.specs.Passes.{all_deep}
use Rattle.zig_parse.specs.Surveys.{first_state, next_state}
use Rattle.zig_parse.specs.Trees.{NotWithout}
use Rattle.zig_parse.specs.Leads.{IsEven, Leader, after_front, ends_named, ends_with, kind_before, read_front}
use Rattle.zig_parse.specs.Laws.{EvenlyBegins}
use Rattle.zig_parse.proofs.Refusals.{front_begins}
use Rattle.zig_parse.proofs.Behind.{other_state}
use Rattle.zig_parse.proofs.Answers.{first_lasts, first_same}
use Rattle.zig_parse.specs.Choices.{choices, matching}
use Rattle.zig_parse.specs.Threads.{collapses, fresh, opened, put}
use Rattle.zig_parse.specs.Passes.{begun}
use Rattle.zig_tree.specs.Grammar.{rule_rows}
use Rattle.zig_parse.proofs.Moving.{Each}
use Rattle.zig_parse.proofs.Lasting.{Lasts}
use Rattle.zig_parse.proofs.LastingSteps.{lasts_next}
use Rattle.zig_parse.proofs.Pending.{Pending, next_pending}
use Rattle.zig_parse.proofs.FrontStates.{front_lasts}
use Rattle.zig_parse.proofs.EvenWays.{Led, even_leader}
use Rattle.zig_parse.proofs.LedLaw.{led_front}

-- where no identifier is last, what stands behind counts for nothing
plain_after : (front : List TokenKind) (x y : TokenKind) (at : ℕ) (s : State) → ends_named front ≡ false → after_front front x at s ≡ after_front front y at s
unfolding after_front
plain_after [] x y at s h = refl
plain_after (k ∷ []) x y at s h = other_state (record { kind = k; next = x }) (record { kind = k; next = y }) at s refl h
plain_after (k ∷ j ∷ ks) x y at s h = plain_after (j ∷ ks) x y (at + 1) (next_state (record { kind = k; next = j }) at s) h

plain_front : (front : List TokenKind) (x y : TokenKind) → ends_named front ≡ false → read_front front x ≡ read_front front y
unfolding read_front
plain_front front x y h =
    let a : Look = record { kind = kind_before front x; next = x } in
    let b : Look = record { kind = kind_before front y; next = y } in
    plain_after front x y 0 (first_state a) h ∙ ap (after_front front y 0) (first_same a b)

same_front : (front : List TokenKind) (x y : TokenKind) → (ends_named front ≡ true → y ≡ x) → read_front front x ≡ read_front front y
same_front front x y f = by (ends_named front) refl
  where
    by : (b : Bool) → ends_named front ≡ b → read_front front x ≡ read_front front y
    by true e = ap (read_front front) (sym (f e))
    by false e = plain_front front x y e

-- each live thread has more to come
front_pending : (k : TokenKind) (ks : List TokenKind) (next : TokenKind) (at : ℕ) (s : State) (read : List TokenKind) → Lasts s.live s.waiting read k → ends_with kind.End (k ∷ ks) ≡ false → Each Pending (after_front (k ∷ ks) next at s).live
unfolding after_front
front_pending k [] next at s read l h = next_pending (record { kind = k; next = next }) at s read l h
front_pending k (j ∷ ks) next at s read l h =
    let look : Look = record { kind = k; next = j } in
    front_pending j ks next (at + 1) (next_state look at s) (read ++ k ∷ []) (lasts_next look at s read l) h

first_pending : (look : Look) → Each Pending (first_state look).live
unfolding first_state begun choices matching rule_rows put opened fresh collapses
first_pending look = (omega arith, tt)

all_pending : (front : List TokenKind) (next : TokenKind) (look : Look) → look.kind ≡ kind_before front next → ends_with kind.End front ≡ false → Each Pending (after_front front next 0 (first_state look)).live
unfolding after_front
all_pending [] next look e h = first_pending look
all_pending (k ∷ ks) next look e h = front_pending k ks next 0 (first_state look) [] (subst (λ (j : TokenKind). Lasts (first_state look).live (first_state look).waiting [] j) e (first_lasts look)) h

even_led : (front : List TokenKind) (next : TokenKind) → IsEven front next → all_deep (read_front front next).live ≡ false → Led (ends_named front) next (read_front front next)
unfolding read_front
even_led front next even shallow =
    let look : Look = record { kind = kind_before front next; next = next } in
    even_leader (ends_named front) next (after_front front next 0 (first_state look)) front shallow (front_lasts front next 0 (first_state look) [] (first_lasts look)) even.more even.live even.waiting
    (all_pending front next look refl even.unended)

pub even_front : (front : List TokenKind) (next : TokenKind) → IsEven front next → all_deep (read_front front next).live ≡ false → NotWithout (BeginsShallow front)
even_front front next even shallow =
    let led = even_led front next even shallow in
    let now = subst (λ (s : State). (l : Leader led.n s) × (l.t.deep ≡ false)) (same_front front next led.n led.same) (led.leader, led.deep ∙ shallow) in
    led_front front led.n now.0 now.1

pub evenly_begins : EvenlyBegins
evenly_begins front more next even shallow none = even_front (front ++ more) next even shallow (λ b. none (front_begins front more b))
