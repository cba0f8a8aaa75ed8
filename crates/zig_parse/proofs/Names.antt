-- A refusal names a token of the list and its kind.
use Rattle.std.proofs.Common.{◌≡◌, ℕ, zero, suc, ◌+◌, ◌<◌, Bool, true, false, List, [], ◌∷◌, length, Result, Ok, Err, refl, sym, ap, subst, arith}
use Rattle.std.specs.Prelude.{if◌then◌else◌, nat_eq, replicate, ◌^◌}
use Rattle.std.proofs.lemmas.Option.{slice_get_past}
use Rattle.zig_tree.specs.declared.token.Token.{Token}
use Rattle.zig_tree.specs.declared.token.TokenKind.TheVariants.{End}
use Rattle.zig_tree.specs.declared.tree.Node.{Node}
use Rattle.zig_parse.specs.declared.fault.SyntaxFault.{SyntaxFault}
use Rattle.zig_parse.specs.declared.fault.SyntaxFault.TheVariants.{Unexpected, TooDeep, OutOfMemory}
use Rattle.zig_parse.specs.declared.survey.Verdict.{Verdict}
use Rattle.zig_parse.specs.declared.survey.Verdict.TheVariants as verdict
use Rattle.zig_parse.specs.declared.state.State.{State}
use Rattle.zig_parse.specs.declared.thread.Item.{Item}
use Rattle.zig_parse.specs.Threads.{after_read}
use Rattle.zig_parse.specs.Nodes.{with_token}
use Rattle.zig_parse.specs.Moves.{moves_for}
use Rattle.zig_parse.specs.Surveys.{Fails, first_state, judged, kind_of, look_at, next_marks, next_state, next_verdict, surveyed}
use Rattle.zig_parse.specs.Growth.{Grown, all_read, all_shut, grown_from, is_second, nodes_or, read_one, ready, sprout, whole, ◌>>=◌}
use Rattle.zig_parse.specs.Trees.{IsEnded, NamesToken}
use Rattle.zig_parse.proofs.LastToken.{all_ended, sprout_last}
use Rattle.zig_parse.proofs.Sound.{grown_some}

named : (tokens : List Token) (at : ℕ) → at < length tokens → NamesToken tokens (Unexpected (look_at tokens at).kind at)
named tokens at h = (omega arith, refl, λ e. h)

end_named : (tokens : List Token) → (IsEnded tokens → ⊥) → NamesToken tokens (Unexpected End (length tokens))
end_named tokens never = (omega arith, sym (ap kind_of (slice_get_past tokens (length tokens) (omega arith))), λ e. absurd (never e))

same_fault : {A : Type 0} (tokens : List Token) (e f : SyntaxFault) → ◌≡◌ {A = Result A SyntaxFault} (Err e) (Err f) → NamesToken tokens e → NamesToken tokens f
same_fault tokens e f h n = let same : e ≡ f = cc in subst (NamesToken tokens) same n

-- of two steps the first fails, or the second
bound_named : {A B : Type 0} (tokens : List Token) (r : Result A SyntaxFault) (f : A → Result B SyntaxFault) (e : SyntaxFault) → (r >>= f) ≡ Err e → ((d : SyntaxFault) → r ≡ Err d → NamesToken tokens d) → ((x : A) → r ≡ Ok x → f x ≡ Err e → NamesToken tokens e) → NamesToken tokens e
bound_named tokens (Ok x) f e h first second = second x refl h
bound_named tokens (Err d) f e h first second = same_fault tokens d e h (first d refl)

judged_named : (tokens : List Token) (at : ℕ) (v : Verdict) (more : Result (List Bool) SyntaxFault) (e : SyntaxFault) → at < length tokens → judged v more (look_at tokens at).kind at ≡ Err e → (more ≡ Err e → NamesToken tokens e) → NamesToken tokens e
judged_named tokens at verdict.Fine more e l h f = f h
judged_named tokens at verdict.Unexpected more e l h f = same_fault tokens (Unexpected (look_at tokens at).kind at) e h (named tokens at l)
judged_named tokens at verdict.TooDeep more e l h f = same_fault tokens (TooDeep at) e h l

survey_named : (n at : ℕ) (tokens : List Token) (s : State) (marks : List Bool) (e : SyntaxFault) → at + n ≡ length tokens → surveyed n at tokens s marks ≡ Err e → NamesToken tokens e
unfolding surveyed
survey_named zero at tokens s marks e l h = absurd (cc)
survey_named (suc n) at tokens s marks e l h =
    judged_named tokens at (next_verdict (look_at tokens at) at s) (surveyed n (at + 1) tokens (next_state (look_at tokens at) at s) (next_marks (look_at tokens at) at s marks)) e (omega arith) h
    (λ k. survey_named n (at + 1) tokens (next_state (look_at tokens at) at s) (next_marks (look_at tokens at) at s marks) e (omega arith) k)

read_named : (tokens : List Token) (at : ℕ) (g : Grown) (fits deep : Bool) (e : SyntaxFault) → at < length tokens → (if fits then (if deep then Err (TooDeep at) else Ok g) else Err (Unexpected (look_at tokens at).kind at)) ≡ Err e → NamesToken tokens e
read_named tokens at g false deep e l h = same_fault tokens (Unexpected (look_at tokens at).kind at) e h (named tokens at l)
read_named tokens at g true true e l h = same_fault tokens (TooDeep at) e h l
read_named tokens at g true false e l h = absurd (cc)

one_named : (tokens : List Token) (at : ℕ) (second : Bool) (g : Grown) (e : SyntaxFault) → at < length tokens → read_one at tokens (look_at tokens at) second g ≡ Err e → NamesToken tokens e
unfolding read_one
one_named tokens at second g e l h =
    let r = ready (moves_for g.thread) tokens (look_at tokens at) second g in
    read_named tokens at (record { thread = after_read r.grown.thread; parts = with_token at r.grown.parts }) r.fits (after_read r.grown.thread).deep e l h

all_named : (n at : ℕ) (tokens : List Token) (marks : List Bool) (g : Grown) (e : SyntaxFault) → at + n ≡ length tokens → all_read n at tokens marks g ≡ Err e → NamesToken tokens e
unfolding all_read
all_named zero at tokens marks g e l h = absurd (cc)
all_named (suc n) at tokens marks g e l h =
    bound_named tokens (read_one at tokens (look_at tokens at) (is_second marks at) g) (all_read n (at + 1) tokens marks) e h
    (λ d k. one_named tokens at (is_second marks at) g d (omega arith) k) (λ x r k. all_named n (at + 1) tokens marks x e (omega arith) k)

nodes_named : (tokens : List Token) (xs : List Node) (e : SyntaxFault) → (IsEnded tokens → 0 < length xs) → nodes_or (length tokens) xs ≡ Err e → NamesToken tokens e
nodes_named tokens [] e some h = same_fault tokens (Unexpected End (length tokens)) e h (end_named tokens (λ i. (let s = some i in omega arith)))
nodes_named tokens (x ∷ xs) e some h = absurd (cc)

items_ended : (is : List Item) → is ≡ [] → nat_eq (length is) 0 ≡ true
items_ended is e = ap (λ (l : List Item). nat_eq (length l) 0) e

whole_named : (tokens : List Token) (g : Grown) (empty : Bool) (e : SyntaxFault) → nat_eq (length g.thread.items) 0 ≡ empty → (IsEnded tokens → (g.thread.items ≡ []) × (0 < length (all_shut (length g.thread.frames) tokens g).parts.nodes))
    → (if empty then nodes_or (length tokens) (all_shut (length g.thread.frames) tokens g).parts.nodes else Err (Unexpected End (length tokens))) ≡ Err e → NamesToken tokens e
whole_named tokens g true e n some h = nodes_named tokens (all_shut (length g.thread.frames) tokens g).parts.nodes e (λ i. (some i).1) h
whole_named tokens g false e n some h = same_fault tokens (Unexpected End (length tokens)) e h (end_named tokens (λ i. (let t = items_ended g.thread.items (some i).0 in cc)))

grown_ended : (tokens : List Token) (marks : List Bool) (g : Grown) → length tokens < 2 ^ 32 → all_read (length tokens) 0 tokens marks (sprout (look_at tokens 0)) ≡ Ok g → IsEnded tokens → (g.thread.items ≡ []) × (0 < length (all_shut (length g.thread.frames) tokens g).parts.nodes)
grown_ended tokens marks g fits h i =
    let none = all_ended (length tokens) 0 tokens marks (sprout (look_at tokens 0)) g (omega arith) i.0 i.1 (sprout_last (look_at tokens 0)) h in
    (none, grown_some tokens marks g fits h none)

grown_named : (tokens : List Token) (marks : List Bool) (e : SyntaxFault) → length tokens < 2 ^ 32 → grown_from tokens marks ≡ Err e → NamesToken tokens e
unfolding grown_from whole
grown_named tokens marks e fits h =
    bound_named tokens (all_read (length tokens) 0 tokens marks (sprout (look_at tokens 0))) (λ g. whole (length tokens) tokens g) e h
    (λ d k. all_named (length tokens) 0 tokens marks (sprout (look_at tokens 0)) d (omega arith) k) (λ g r k. whole_named tokens g (nat_eq (length g.thread.items) 0) e refl (grown_ended tokens marks g fits r) k)

-- where the first pass fails
pub survey_fails : (tokens : List Token) (e : SyntaxFault) → Fails e (surveyed (length tokens) 0 tokens (first_state (look_at tokens 0)) (replicate (length tokens) false)) → NamesToken tokens e
survey_fails tokens (Unexpected kind at) h = survey_named (length tokens) 0 tokens (first_state (look_at tokens 0)) (replicate (length tokens) false) (Unexpected kind at) (omega arith) h
survey_fails tokens (TooDeep at) h = survey_named (length tokens) 0 tokens (first_state (look_at tokens 0)) (replicate (length tokens) false) (TooDeep at) (omega arith) h
survey_fails tokens OutOfMemory h = tt

-- where the second does
pub grow_fails : (tokens : List Token) (marks : List Bool) (e : SyntaxFault) → length tokens < 2 ^ 32 → Fails e (grown_from tokens marks) → NamesToken tokens e
grow_fails tokens marks (Unexpected kind at) fits h = grown_named tokens marks (Unexpected kind at) fits h
grow_fails tokens marks (TooDeep at) fits h = grown_named tokens marks (TooDeep at) fits h
grow_fails tokens marks OutOfMemory fits h = tt
