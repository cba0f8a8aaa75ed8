-- Where a token is refused as too deep by the first pass, no sentence begins with those up to it that has each
-- of them in a node that lies no deeper than 200.
use Rattle.std.proofs.Common.{◌≡◌, ℕ, zero, suc, ◌+◌, ◌<◌, ◌≤◌, Bool, false, ◌⊎◌, inl, inr, List, [], ◌∷◌, ◌++◌, length, take, drop, Result, Ok, Err, refl, sym, ◌∙◌, ap, subst, arith, length-append}
use Rattle.std.specs.Prelude.{replicate, ◌^◌}
use Rattle.zig_tree.specs.declared.token.Token.{Token}
use Rattle.zig_tree.specs.declared.token.TokenKind.{TokenKind}
use Rattle.zig_tree.specs.GrammarSentences.{Pieces, height, token_depths, AreShallow, Sentence, Accepted, Begins, BeginsShallow}
use Rattle.zig_parse.specs.declared.choice.Look.{Look}
use Rattle.zig_parse.specs.declared.thread.Thread.{Thread}
use Rattle.zig_parse.specs.declared.state.State.{State}
use Rattle.zig_parse.specs.declared.survey.Verdict.{Verdict}
use Rattle.zig_parse.specs.declared.survey.Verdict.TheVariants as verdict
use Rattle.zig_parse.specs.declared.fault.SyntaxFault.{SyntaxFault}
use Rattle.zig_parse.specs.declared.fault.SyntaxFault.TheVariants.{Unexpected, TooDeep, OutOfMemory}
use Rattle.zig_parse.specs.Growth.{grown_from}
use Rattle.zig_parse.specs.Surveys.{first_state, is_spared, judged, look_at, next_live, next_marks, next_state, next_verdict, surveyed}
use Rattle.zig_parse.specs.Trees.{IsEnded, NoneShallow, kinds_of}
use Rattle.zig_parse.specs.Ways.{Fork}
use Rattle.zig_parse.proofs.Spelled.{look_here}
use Rattle.zig_parse.proofs.Surely.{sentence_sure}
use Rattle.zig_parse.proofs.Paths.{look_of}
use Rattle.zig_parse.proofs.SurePaths.{low_in, sure_path}
use Rattle.zig_parse.proofs.Settling.{chosen_with}
use Rattle.zig_parse.proofs.Following.{Looks, alone_path, common_looks, looks_here, looks_next, refused_from, started, state_live, step_path, whole_looks}
use Rattle.zig_parse.proofs.BudgetSteps.{accepted_low}
use Rattle.zig_parse.proofs.Grounds.{first_grounds}
use Rattle.zig_parse.proofs.Tracking.{Tracked}
use Rattle.zig_parse.proofs.Spared.{last_fine}
use Rattle.zig_parse.proofs.Answers.{Left, common_front, common_next, first_found, first_look, first_same, found_where, front_length, kind_here, kinds_length, low_step, survey_of, survey_refused}
use Rattle.zig_parse.proofs.WholeAnswers.{grown_refused, survey_sentence}
use Rattle.zig_tree.specs.declared.tree.TheConstants.{DEPTH_LIMIT}

-- ---- a token that a path reads while it lies within the limit

same_deep : (at a : ℕ) → ◌≡◌ {A = Result (List Bool) SyntaxFault} (Err (TooDeep at)) (Err (TooDeep a)) → a ≡ at
same_deep at a e = cc

judged_deep : (v : Verdict) (r : Result (List Bool) SyntaxFault) (k : TokenKind) (at a : ℕ) → judged v r k at ≡ Err (TooDeep a) → ((v ≡ verdict.TooDeep) × (a ≡ at)) ⊎ ((v ≡ verdict.Fine) × (r ≡ Err (TooDeep a)))
judged_deep verdict.Fine r k at a h = inr (refl, h)
judged_deep verdict.Unexpected r k at a h = absurd (cc)
judged_deep verdict.TooDeep r k at a h = inl (refl, same_deep at a h)

-- whatever one look reads the other reads as well
abbrev pub Reads : Look → Look → Type 0
Reads a b = (at : ℕ) (s : State) → next_verdict b at s ≡ verdict.Fine → next_verdict a at s ≡ verdict.Fine

not_fine : (v : Verdict) → v ≡ verdict.TooDeep → v ≡ verdict.Fine → ⊥
not_fine v h k = let e : verdict.TooDeep ≡ verdict.Fine = sym h ∙ k in cc

-- where the tokens are those of a path up to this one, which lies within the limit, it is not too deep
deep_run : (low : ℕ → Type 0) → ((n : ℕ) → low (n + 1) → low n) → (top total n m at : ℕ) (tokens : List Token) (s : State) (marks : List Bool) (ds : List ℕ) (forks : List Fork) (kinds : List TokenKind)
    → Tracked low top total at kinds s.live s.waiting ds forks → n < length kinds → Looks tokens at n kinds → Reads (look_at tokens (at + n)) (look_of (drop n kinds)) → low (at + n + 1) → surveyed m at tokens s marks ≡ Err (TooDeep (at + n)) → ⊥
unfolding surveyed next_verdict
deep_run low falls top total n zero at tokens s marks ds forks kinds t l looks reads shallow h = absurd (cc)
deep_run low falls top total n (suc m) at tokens s marks ds forks [] t l looks reads shallow h = absurd (omega arith)
deep_run low falls top total zero (suc m) at tokens s marks ds forks (j ∷ more) t l looks reads shallow h =
    let st = step_path low falls top total at j more s ds forks t in
    let here : at + 0 ≡ at = omega arith in
    let fine : next_verdict (look_of (j ∷ more)) at s ≡ verdict.Fine = st.off.fine (is_spared (look_of (j ∷ more)) at s) (subst (λ (i : ℕ). low (i + 1)) here shallow) in
    let fine_too = subst (λ (i : ℕ). next_verdict (look_at tokens i) at s ≡ verdict.Fine) here (reads at s fine) in
    elim (judged_deep (next_verdict (look_at tokens at) at s) (surveyed m (at + 1) tokens (next_state (look_at tokens at) at s) (next_marks (look_at tokens at) at s marks)) (look_at tokens at).kind at (at + 0) h) [
      | inl v ↦ not_fine (next_verdict (look_at tokens at) at s) v.0 fine_too
      | inr r ↦ let e = refused_from m (at + 1) tokens (next_state (look_at tokens at) at s) (next_marks (look_at tokens at) at s marks) (at + 0) (inr r.1) in absurd (omega arith)
    ]
deep_run low falls top total (suc n) (suc m) at tokens s marks ds forks (j ∷ more) t l looks reads shallow h =
    let look = look_of (j ∷ more) in
    let here = looks_here tokens at n (j ∷ more) looks in
    let st = step_path low falls top total at j more s ds forks t in
    let number : at + suc n ≡ at + 1 + n = omega arith in
    elim (judged_deep (next_verdict (look_at tokens at) at s) (surveyed m (at + 1) tokens (next_state (look_at tokens at) at s) (next_marks (look_at tokens at) at s marks)) (look_at tokens at).kind at (at + suc n) h) [
      | inl v ↦ absurd (let e = v.1 in omega (arith, e))
      | inr r ↦ elim st.off.state [
        | inr ended ↦ absurd (let none = ap length ended.no_tokens in omega (arith, none, l))
        | inl tracked ↦
            let one = alone_path low top total (at + 1) more (next_live look at s) (next_state look at s).waiting (chosen_with at st.news ds) st.later marks tracked in
            let next : Tracked low top total (at + 1) more (next_state look at s).live (next_state look at s).waiting one.es st.later =
            subst (λ (u : List Thread). Tracked low top total (at + 1) more u (next_state look at s).waiting one.es st.later) (sym (state_live look at s)) one.state in
            let left : surveyed m (at + 1) tokens (next_state look at s) (next_marks look at s marks) ≡ Err (TooDeep (at + 1 + n)) =
            ap (λ (x : Look). surveyed m (at + 1) tokens (next_state x at s) (next_marks x at s marks)) (sym here) ∙ r.1 ∙ ap (λ (i : ℕ). Err (TooDeep i)) number in
            deep_run low falls top total n m (at + 1) tokens (next_state look at s) (next_marks look at s marks) one.es st.later more next (omega arith) (looks_next tokens at n j more looks)
            (subst (λ (i : ℕ). Reads (look_at tokens i) (look_of (drop n more))) number reads) (subst (λ (i : ℕ). low (i + 1)) number shallow) left
      ]
    ]

-- ---- no sentence begins with the tokens up to it

-- the two looks at the last of the tokens
pub record Last (tokens : List Token) (at : ℕ) (more : List TokenKind) : Type 0 where
  pub reads : Reads (look_at tokens at) (look_of (drop at (take (at + 1) (kinds_of tokens) ++ more)))

deep_no : (tokens : List Token) (at : ℕ) (w : List TokenKind) (tree : Pieces) → at < length tokens → survey_of tokens ≡ Err (TooDeep at) → Sentence (take (at + 1) (kinds_of tokens) ++ w) tree → AreShallow (take (length (take (at + 1) (kinds_of tokens))) (token_depths 0 tree)) → Last tokens at w → ⊥
deep_no tokens at w tree h refused s shallow last =
    let own = kinds_of tokens in
    let front = take (at + 1) own in
    let kinds = front ++ w in
    let taken : length front ≡ at + 1 = front_length own (at + 1) (omega (arith, kinds_length tokens)) in
    let long : length kinds ≡ at + 1 + length w = omega (arith, length-append front w, taken) in
    let common : take (at + 1) own ≡ take (at + 1) kinds = sym (common_front own w (at + 1) (omega (arith, kinds_length tokens))) in
    let sure = sentence_sure kinds tree s in
    let path = sure_path kinds tree sure.0 sure.1 in
    let looks = common_looks tokens kinds at common in
    let number : 0 + at ≡ at = omega arith in
    let reads : Reads (look_at tokens (0 + at)) (look_of (drop at kinds)) = subst (λ (i : ℕ). Reads (look_at tokens i) (look_of (drop at kinds))) (sym number) last.reads in
    let low : low_in tree (0 + at + 1) = subst (low_in tree) (let e : length front ≡ 0 + at + 1 = omega (arith, taken) in e) shallow in
    let at_number : ◌≡◌ {A = Result (List Bool) SyntaxFault} (Err (TooDeep at)) (Err (TooDeep (0 + at))) = ap (λ (i : ℕ). Err (TooDeep i)) (sym number) in
    elim (first_look tokens kinds at looks) [
      | inl e ↦ deep_run (low_in tree) (low_step tree) path.0 (length kinds) at (length tokens) 0 tokens (first_state (look_of kinds)) (replicate (length tokens) false) [] sure.0 kinds (started (low_in tree) (token_depths 0 tree) (λ n h. h) kinds path.0 sure.0 path.1) (omega arith) looks reads low
          (ap (λ (l : Look). surveyed (length tokens) 0 tokens (first_state l) (replicate (length tokens) false)) (sym e) ∙ refused ∙ at_number)
      | inr e ↦ deep_run (low_in tree) (low_step tree) path.0 (length kinds) at (length tokens) 0 tokens (first_state (look_of kinds)) (replicate (length tokens) false) [] sure.0 kinds (started (low_in tree) (token_depths 0 tree) (λ n h. h) kinds path.0 sure.0 path.1) (omega arith) looks reads low
          (ap (λ (l : State). surveyed (length tokens) 0 tokens l (replicate (length tokens) false)) (first_same (look_of kinds) (look_at tokens 0)) ∙ refused ∙ at_number)
    ]

-- ---- what stands behind the token

last_kind : (tokens : List Token) (at : ℕ) (more : List TokenKind) → at < length tokens → (look_at tokens at).kind ≡ (look_of (drop at (take (at + 1) (kinds_of tokens) ++ more))).kind
last_kind tokens at more h =
    let own = kinds_of tokens in
    let next : at + 1 ≡ suc at = omega arith in
    let common : take (at + 1) own ≡ take (at + 1) (take (at + 1) own ++ more) = sym (common_front own more (at + 1) (omega (arith, kinds_length tokens))) in
    kind_here tokens at ∙ common_next own (take (at + 1) own ++ more) at (subst (λ (n : ℕ). take n own ≡ take n (take (at + 1) own ++ more)) next common)

same_last : (tokens : List Token) (at : ℕ) (more : List TokenKind) → at < length tokens → Last tokens at more
same_last tokens at more h = record {
  reads = λ i s fine. last_fine (look_at tokens at) (look_of (drop at (take (at + 1) (kinds_of tokens) ++ more))) i s (last_kind tokens at more h) fine;
}

none_begins : (tokens : List Token) (at : ℕ) → at < length tokens → survey_of tokens ≡ Err (TooDeep at) → BeginsShallow (take (at + 1) (kinds_of tokens)) → ⊥
unfolding BeginsShallow
none_begins tokens at h refused (w, tree, s, shallow) = deep_no tokens at w tree h refused s shallow (same_last tokens at w h)

-- ---- the second pass

-- the tree of tokens that the first pass accepts has no more than 200 nodes one in the other
sentence_low : (tokens : List Token) (marks : List Bool) (tree : Pieces) → survey_of tokens ≡ Ok marks → Sentence (kinds_of tokens) tree → height tree ≤ DEPTH_LIMIT
sentence_low tokens marks tree found s =
    let kinds = kinds_of tokens in
    let n = length tokens in
    let sure = sentence_sure kinds tree s in
    let path = sure_path kinds tree sure.0 sure.1 in
    let first : look_at tokens 0 ≡ look_of kinds = look_here tokens 0 in
    let small = accepted_low (low_in tree) (low_step tree) path.0 (length kinds) n 0 tokens (first_state (look_of kinds)) (replicate n false) marks [] sure.0 kinds (started (low_in tree) (token_depths 0 tree) (λ n h. h) kinds path.0 sure.0 path.1) (kinds_length tokens) (whole_looks tokens n)
    (ap (λ (l : Look). surveyed n 0 tokens (first_state l) (replicate n false)) (sym first) ∙ found) (first_grounds (look_of kinds)) in
    omega (arith, small, path.2)

-- so it refuses none of them
pub grown_never : (tokens : List Token) (marks : List Bool) (at : ℕ) → length tokens < 2 ^ 32 → survey_of tokens ≡ Ok marks → grown_from tokens marks ≡ Err (TooDeep at) → IsEnded tokens → ⊥
unfolding Accepted
grown_never tokens marks at fits found h ended =
    survey_sentence tokens marks found ended (λ (tree, s). (grown_refused tokens marks (TooDeep at) fits found h).0 tree (s, sentence_low tokens marks tree found s))

-- ---- the answers

begins_any : (front : List TokenKind) → BeginsShallow front → Begins front
unfolding BeginsShallow Begins
begins_any front (w, tree, s, shallow) = (w, tree, s)

first_at : (tokens : List Token) (at : ℕ) → survey_of tokens ≡ Err (TooDeep at) → at < length tokens
first_at tokens at h = (found_where (Left tokens) tokens (survey_of tokens) (Err (TooDeep at)) h (first_found tokens)).2

pub survey_shallow : (tokens : List Token) (e : SyntaxFault) → length tokens < 2 ^ 32 → survey_of tokens ≡ Err e → NoneShallow tokens e
survey_shallow tokens (Unexpected k at) fits h = λ ended b. ((survey_refused tokens (Unexpected k at) fits h).1 ended).1 (begins_any (take (at + 1) (kinds_of tokens)) b)
survey_shallow tokens (TooDeep at) fits h = λ ended b. none_begins tokens at (first_at tokens at h) h b
survey_shallow tokens OutOfMemory fits h = tt

pub grown_shallow : (tokens : List Token) (marks : List Bool) (e : SyntaxFault) → length tokens < 2 ^ 32 → survey_of tokens ≡ Ok marks → grown_from tokens marks ≡ Err e → NoneShallow tokens e
grown_shallow tokens marks (Unexpected k at) fits found h = λ ended b. ((grown_refused tokens marks (Unexpected k at) fits found h).1 ended).1 (begins_any (take (at + 1) (kinds_of tokens)) b)
grown_shallow tokens marks (TooDeep at) fits found h = λ ended b. grown_never tokens marks at fits found h ended
grown_shallow tokens marks OutOfMemory fits found h = tt
