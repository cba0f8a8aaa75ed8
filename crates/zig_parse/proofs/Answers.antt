-- What the parser answers is what the definition of a sentence says.
use Rattle.std.proofs.Common.{◌≡◌, ℕ, zero, suc, ◌+◌, ◌-◌, ◌<◌, ◌≤◌, Bool, true, false, ◌⊎◌, inl, inr, List, [], ◌∷◌, ◌++◌, length, take, drop, Result, Ok, Err, refl, sym, ◌∙◌, ap, subst, arith, length-append}
use Rattle.std.specs.Prelude.{replicate, ◌^◌}
use Rattle.zig_tree.specs.declared.token.Token.{Token}
use Rattle.zig_tree.specs.declared.token.TokenKind.{TokenKind}
use Rattle.zig_tree.specs.declared.token.TokenKind.TheVariants as kind
use Rattle.zig_tree.specs.declared.grammar.Rule.TheVariants as rule
use Rattle.zig_tree.specs.declared.grammar.Group.TheVariants as group
use Rattle.zig_tree.specs.declared.grammar.When.TheVariants as when
use Rattle.zig_tree.specs.declared.grammar.Part.TheVariants as part
use Rattle.zig_tree.specs.declared.tree.Kid.TheVariants as kid
use Rattle.zig_tree.specs.declared.tree.Node.{Node}
use Rattle.zig_tree.specs.Kinds.{number_of}
use Rattle.zig_tree.specs.Grammar.{row, rule_rows}
use Rattle.zig_tree.specs.GrammarSentences.{Pieces, next_kind, Sentence, Accepted, Begins, token_depths}
use Rattle.zig_parse.specs.declared.choice.Look.{Look}
use Rattle.zig_parse.specs.declared.thread.Thread.{Thread}
use Rattle.zig_parse.specs.declared.state.State.{State}
use Rattle.zig_parse.specs.declared.survey.Verdict.{Verdict}
use Rattle.zig_parse.specs.declared.survey.Verdict.TheVariants as verdict
use Rattle.zig_parse.specs.declared.fault.SyntaxFault.{SyntaxFault}
use Rattle.zig_parse.specs.declared.fault.SyntaxFault.TheVariants.{Unexpected, TooDeep, OutOfMemory}
use Rattle.zig_parse.specs.Choices.{choices, matching}
use Rattle.zig_parse.specs.Threads.{collapses, fresh, opened, put}
use Rattle.zig_parse.specs.Passes.{alone, begun, verdict_of}
use Rattle.zig_parse.specs.Surveys.{first_state, is_spared, judged, left_waiting, look_at, next_live, next_marks, next_state, next_verdict, read_live, read_waiting, surveyed}
use Rattle.zig_parse.specs.Growth.{grown_from, parse_of, ◌>>=◌}
use Rattle.zig_parse.specs.Trees.{IsChosen, IsNotAccepted, IsRefusedFor, NotWithout, Spells, kinds_of}
use Rattle.zig_parse.specs.Ways.{Fork, Sure}
use Rattle.zig_parse.proofs.Preferred.{sentence_some}
use Rattle.zig_parse.proofs.Surely.{sentence_sure}
use Rattle.zig_parse.proofs.Paths.{look_of}
use Rattle.zig_parse.proofs.SurePaths.{low_falls, low_in, sure_path, tree_low}
use Rattle.zig_parse.proofs.Settling.{chosen_with}
use Rattle.zig_parse.proofs.Following.{Accepts, Follows, Looks, alone_path, common_looks, looks_here, looks_next, refused_from, started, state_live, step_path, survey_follows}
use Rattle.zig_parse.proofs.Marks.{Agree}
use Rattle.zig_parse.proofs.Tracking.{Tracked}
use Rattle.zig_parse.proofs.SureGoes.{Agrees}
use Rattle.zig_parse.proofs.SureGrown.{GrownAs, grown_sure, sure_parsed}
use Rattle.zig_parse.proofs.Behind.{last_unexpected}
use Rattle.zig_parse.proofs.Moving.{coming}
use Rattle.zig_parse.proofs.Reading.{Reads, rule_made}
use Rattle.zig_parse.proofs.Endings.{ends_before, may_follow}
use Rattle.zig_parse.proofs.Lively.{GoesOn}
use Rattle.zig_parse.proofs.Lasting.{Lasts, around_none}
use Rattle.zig_parse.proofs.LastingSteps.{lasts_live, lasts_next}
use Rattle.zig_parse.proofs.LastingEnds.{some_ends}

-- ---- the path of a sentence

abbrev pub low_step : (tree : Pieces) (n : ℕ) → low_in tree (n + 1) → low_in tree n
low_step tree n h = low_falls tree n (n + 1) (omega arith) h

pub agrees_as : (tokens : List Token) (marks : List Bool) (forks : List Fork) → Agree (length tokens) marks forks → Agrees tokens marks forks
agrees_as tokens marks [] h = tt
agrees_as tokens marks (f ∷ fs) h = (h.0, agrees_as tokens marks fs h.1)

-- the first pass on these tokens
abbrev pub survey_of : List Token → Result (List Bool) SyntaxFault
survey_of tokens = surveyed (length tokens) 0 tokens (first_state (look_at tokens 0)) (replicate (length tokens) false)

-- the choices of a sentence, and that the first pass marks them where it accepts
pub record Chosen (tokens : List Token) (tree : Pieces) : Type 0 where
  pub forks : List Fork
  pub sure : Sure (part.Rule rule.Root ∷ []) [] (kinds_of tokens) [] [] tree forks
  pub follows : Accepts (low_in tree) (length tokens) (length tokens) 0 tokens (first_state (look_at tokens 0)) (replicate (length tokens) false) → Follows tokens forks

pub choices_of : (tokens : List Token) (tree : Pieces) → Sentence (kinds_of tokens) tree → Chosen tokens tree
choices_of tokens tree s =
    let sure = sentence_sure (kinds_of tokens) tree s in
    let path = sure_path (kinds_of tokens) tree sure.0 sure.1 in
    record { forks = sure.0; sure = sure.1; follows = λ a. survey_follows (low_in tree) (low_step tree) (token_depths 0 tree) (λ n h. h) tokens path.0 sure.0 path.1 a }

-- ---- what is accepted

accepted_grown : (tokens : List Token) (tree : Pieces) → length tokens < 2 ^ 32 → Accepted (kinds_of tokens) tree → GrownAs tokens (parse_of tokens) tree
unfolding Accepted
accepted_grown tokens tree fits a =
    let c = choices_of tokens tree a.0 in
    let f = c.follows (inl (tree_low tree (length tokens) a.1)) in
    sure_parsed tokens tree c.forks f.found fits c.sure (agrees_as tokens f.found c.forks f.agree) a.1 f.accepts

chosen_grown : (tokens : List Token) (marks : List Bool) (nodes : List Node) (tree : Pieces) → length tokens < 2 ^ 32 → survey_of tokens ≡ Ok marks → grown_from tokens marks ≡ Ok nodes → Sentence (kinds_of tokens) tree → GrownAs tokens (grown_from tokens marks) tree
chosen_grown tokens marks nodes tree fits found grown s =
    let c = choices_of tokens tree s in
    let f = c.follows (inr (marks, found)) in
    let same : f.found ≡ marks = (let both : Ok f.found ≡ Ok marks = sym f.accepts ∙ found in cc) in
    grown_sure tokens tree c.forks marks nodes fits c.sure (subst (λ (m : List Bool). Agrees tokens m c.forks) same (agrees_as tokens f.found c.forks f.agree)) grown

-- the nodes of an answer spell the tree that is chosen
pub parsed_chosen : (tokens : List Token) (marks : List Bool) (nodes : List Node) (root : ℕ) → length tokens < 2 ^ 32 → survey_of tokens ≡ Ok marks → grown_from tokens marks ≡ Ok nodes → root + 1 ≡ length nodes → IsChosen tokens nodes root
parsed_chosen tokens marks nodes root fits found grown number tree s =
    let g = chosen_grown tokens marks nodes tree fits found grown s in
    let same : g.nodes ≡ nodes = (let both : Ok g.nodes ≡ Ok nodes = sym g.grows ∙ grown in cc) in
    let spelled = subst (λ (l : List Node). Spells tokens l (kid.Node (length l - 1) ∷ []) 0 (length tokens) tree) same g.spelled in
    subst (λ (n : ℕ). Spells tokens nodes (kid.Node n ∷ []) 0 (length tokens) tree) (omega (arith, number)) spelled

pub refused_not : (tokens : List Token) (e : SyntaxFault) → length tokens < 2 ^ 32 → parse_of tokens ≡ Err e → IsNotAccepted tokens
refused_not tokens e fits h tree a =
    let g = accepted_grown tokens tree fits a in
    let both : Ok g.nodes ≡ Err e = sym g.grows ∙ h in cc

-- ---- the first pass, state by state

-- where it ends: what is kept by each token holds there
abbrev pub Found : (ℕ → State → Type 0) → List Token → Result (List Bool) SyntaxFault → Type 0
Found P tokens (Ok marks) = (s : State) × P (length tokens) s
Found P tokens (Err (Unexpected kind at)) = (s : State) × P at s × (at < length tokens) × (next_verdict (look_at tokens at) at s ≡ verdict.Unexpected)
Found P tokens (Err (TooDeep at)) = (s : State) × P at s × (at < length tokens) × (next_verdict (look_at tokens at) at s ≡ verdict.TooDeep)
Found P tokens (Err OutOfMemory) = Unit {0}

pub found_at : (P : ℕ → State → Type 0) (tokens : List Token) → ((at : ℕ) (s : State) → at < length tokens → P at s → next_verdict (look_at tokens at) at s ≡ verdict.Fine → P (at + 1) (next_state (look_at tokens at) at s))
    → (n at : ℕ) (s : State) (marks : List Bool) → at + n ≡ length tokens → P at s → Found P tokens (surveyed n at tokens s marks)
unfolding surveyed
found_at P tokens step zero at s marks e p = (s, subst (λ (n : ℕ). P n s) (omega (arith, e)) p)
found_at P tokens step (suc n) at s marks e p =
    by (next_verdict (look_at tokens at) at s) refl
    (λ fine. found_at P tokens step n (at + 1) (next_state (look_at tokens at) at s) (next_marks (look_at tokens at) at s marks) (omega (arith, e)) (step at s (omega (arith, e)) p fine))
  where
    more : Result (List Bool) SyntaxFault
    more = surveyed n (at + 1) tokens (next_state (look_at tokens at) at s) (next_marks (look_at tokens at) at s marks)

    by : (v : Verdict) → next_verdict (look_at tokens at) at s ≡ v → (next_verdict (look_at tokens at) at s ≡ verdict.Fine → Found P tokens (surveyed n (at + 1) tokens (next_state (look_at tokens at) at s) (next_marks (look_at tokens at) at s marks)))
        → Found P tokens (judged v (surveyed n (at + 1) tokens (next_state (look_at tokens at) at s) (next_marks (look_at tokens at) at s marks)) (look_at tokens at).kind at)
    by verdict.Fine h f = f h
    by verdict.Unexpected h f = (s, p, omega (arith, e), h)
    by verdict.TooDeep h f = (s, p, omega (arith, e), h)

-- some thread is left, and what is known of all that are
pub record Left (tokens : List Token) (at : ℕ) (s : State) : Type 0 where
  pub first : Thread
  pub others : List Thread
  pub live : s.live ≡ first ∷ others
  pub lasts : Lasts s.live s.waiting (take at (kinds_of tokens)) (look_at tokens at).kind

pub taken_more : (tokens : List Token) (at : ℕ) → at < length tokens → take (at + 1) (kinds_of tokens) ≡ take at (kinds_of tokens) ++ (look_at tokens at).kind ∷ []
taken_more [] at h = absurd (omega arith)
taken_more (t ∷ ts) zero h = refl
taken_more (t ∷ ts) (suc at) h = let e : suc at + 1 ≡ suc (at + 1) = omega arith in ap (λ (n : ℕ). take n (kinds_of (t ∷ ts))) e ∙ ap (λ (l : List TokenKind). t.kind ∷ l) (taken_more ts at (omega arith))

some_verdict : (spared : Bool) (ts : List Thread) → (verdict_of spared ts ≡ verdict.Unexpected → ⊥) → (first : Thread) × (others : List Thread) × (ts ≡ first ∷ others)
some_verdict spared [] h = absurd (h refl)
some_verdict spared (t ∷ ts) h = (t, ts, refl)

some_alone : (ts : List Thread) (first : Thread) (others : List Thread) → ts ≡ first ∷ others → (t : Thread) × (more : List Thread) × (alone ts ≡ t ∷ more)
some_alone [] first others e = absurd (cc)
some_alone (t ∷ []) first others e = (record t { choices = [] }, [], refl)
some_alone (t ∷ u ∷ ts) first others e = (t, u ∷ ts, refl)

left_next : (tokens : List Token) (at : ℕ) (s : State) → at < length tokens → Left tokens at s → next_verdict (look_at tokens at) at s ≡ verdict.Fine → Left tokens (at + 1) (next_state (look_at tokens at) at s)
unfolding next_verdict next_state
left_next tokens at s h l fine =
    let look = look_at tokens at in
    let some = some_verdict (is_spared look at s) (next_live look at s) (λ e. (let wrong : verdict.Fine ≡ verdict.Unexpected = sym fine ∙ e in cc)) in
    let one = some_alone (next_live look at s) some.0 some.1 some.2 in
    let lasts = lasts_next look at s (take at (kinds_of tokens)) l.lasts in
    record { first = one.0; others = one.1; live = one.2; lasts = subst (λ (f : List TokenKind). Lasts (next_state look at s).live (next_state look at s).waiting f look.next) (sym (taken_more tokens at h)) lasts }

root_story : (look : Look) → GoesOn [] (part.Rule rule.Root) (coming (begun look (part.Rule rule.Root) 0))
unfolding begun choices matching rule_rows put opened fresh collapses
root_story look c end r = rule_made rule.Root (row (when.Always) (part.Group group.RootMembers ∷ part.Token kind.End ∷ [])) c end (inl refl) r

root_ended : (look : Look) (k : TokenKind) → may_follow k (part.Rule rule.Root) ≡ true → ends_before k (coming (begun look (part.Rule rule.Root) 0)) ≡ true
unfolding begun choices matching rule_rows put opened fresh collapses number_of
root_ended look k h = refl

pub first_lasts : (look : Look) → Lasts (first_state look).live (first_state look).waiting [] look.kind
unfolding first_state begun choices matching rule_rows put opened fresh collapses number_of
first_lasts look = record {
  before = [];
  read = [];
  front_is = refl;
  around = around_none;
  starts = tt;
  alive = (record { lively = record { story = inl (root_story look); ended = root_ended look }; tidies = refl; wanted = refl }, tt);
}

first_left : (tokens : List Token) → Left tokens 0 (first_state (look_at tokens 0))
unfolding first_state
first_left tokens = record { first = begun (look_at tokens 0) (part.Rule rule.Root) 0; others = []; live = refl; lasts = first_lasts (look_at tokens 0) }

pub first_found : (tokens : List Token) → Found (Left tokens) tokens (survey_of tokens)
first_found tokens = found_at (Left tokens) tokens (left_next tokens) (length tokens) 0 (first_state (look_at tokens 0)) (replicate (length tokens) false) (omega arith) (first_left tokens)

-- ---- some sentence begins with the tokens

pub derived_begins : (front w : List TokenKind) → Reads (part.Rule rule.Root ∷ []) (front ++ w) [] → NotWithout (Begins front)
unfolding Begins
derived_begins front w r none = sentence_some (front ++ w) r.0 r.1 (λ x s. none (w, x, s))

left_begins : (tokens : List Token) (at : ℕ) (s : State) → Left tokens at s → NotWithout (Begins (take at (kinds_of tokens)))
left_begins tokens at s l =
    let w = some_ends s.live s.waiting (take at (kinds_of tokens)) (look_at tokens at).kind l.first l.others l.live l.lasts in
    derived_begins (take at (kinds_of tokens)) w.0 w.1

deep_begins : (tokens : List Token) (at : ℕ) (s : State) → at < length tokens → Left tokens at s → next_verdict (look_at tokens at) at s ≡ verdict.TooDeep → NotWithout (Begins (take (at + 1) (kinds_of tokens)))
unfolding next_verdict
deep_begins tokens at s h l deep =
    let look = look_at tokens at in
    let some = some_verdict (is_spared look at s) (next_live look at s) (λ e. (let wrong : verdict.TooDeep ≡ verdict.Unexpected = sym deep ∙ e in cc)) in
    let lasts = lasts_live look at s (take at (kinds_of tokens)) l.lasts in
    let w = some_ends (next_live look at s) (left_waiting look (read_live look at s) (read_waiting look at s)) (take at (kinds_of tokens) ++ look.kind ∷ []) look.next some.0 some.1 some.2 lasts in
    subst (λ (f : List TokenKind). NotWithout (Begins f)) (sym (taken_more tokens at h)) (derived_begins (take at (kinds_of tokens) ++ look.kind ∷ []) w.0 w.1)

-- ---- none begins with an unexpected one

same_unexpected : (j k : TokenKind) (at a : ℕ) → ◌≡◌ {A = Result (List Bool) SyntaxFault} (Err (Unexpected j at)) (Err (Unexpected k a)) → a ≡ at
same_unexpected j k at a e = cc

judged_unexpected : (v : Verdict) (r : Result (List Bool) SyntaxFault) (j k : TokenKind) (at a : ℕ) → judged v r j at ≡ Err (Unexpected k a) → ((v ≡ verdict.Unexpected) × (a ≡ at)) ⊎ ((v ≡ verdict.Fine) × (r ≡ Err (Unexpected k a)))
judged_unexpected verdict.Fine r j k at a h = inr (refl, h)
judged_unexpected verdict.Unexpected r j k at a h = inl (refl, same_unexpected j k at a h)
judged_unexpected verdict.TooDeep r j k at a h = absurd (cc)

-- where the tokens are those of a path up to this one, whatever stands behind it, it is not unexpected
last_run : (low : ℕ → Type 0) → ((n : ℕ) → low (n + 1) → low n) → (top total n m at : ℕ) (tokens : List Token) (s : State) (marks : List Bool) (ds : List ℕ) (forks : List Fork) (kinds : List TokenKind) (k : TokenKind)
    → Tracked low top total at kinds s.live s.waiting ds forks → n < length kinds → Looks tokens at n kinds → (look_at tokens (at + n)).kind ≡ next_kind (drop n kinds) → surveyed m at tokens s marks ≡ Err (Unexpected k (at + n)) → ⊥
unfolding surveyed next_verdict
last_run low falls top total n zero at tokens s marks ds forks kinds k t l looks kind h = absurd (cc)
last_run low falls top total n (suc m) at tokens s marks ds forks [] k t l looks kind h = absurd (omega arith)
last_run low falls top total zero (suc m) at tokens s marks ds forks (j ∷ more) k t l looks kind h =
    let st = step_path low falls top total at j more s ds forks t in
    let here : look_at tokens (at + 0) ≡ look_at tokens at = ap (look_at tokens) (omega arith) in
    let same : (look_at tokens at).kind ≡ (look_of (j ∷ more)).kind = sym (ap (λ (x : Look). x.kind) here) ∙ kind in
    elim (judged_unexpected (next_verdict (look_at tokens at) at s) (surveyed m (at + 1) tokens (next_state (look_at tokens at) at s) (next_marks (look_at tokens at) at s marks)) (look_at tokens at).kind k at (at + 0) h) [
      | inl v ↦ st.off.some (is_spared (look_of (j ∷ more)) at s) (last_unexpected (look_at tokens at) (look_of (j ∷ more)) at s same v.0)
      | inr r ↦ let e = refused_from m (at + 1) tokens (next_state (look_at tokens at) at s) (next_marks (look_at tokens at) at s marks) (at + 0) (inl (k, r.1)) in absurd (omega arith)
    ]
last_run low falls top total (suc n) (suc m) at tokens s marks ds forks (j ∷ more) k t l looks kind h =
    let look = look_of (j ∷ more) in
    let here = looks_here tokens at n (j ∷ more) looks in
    let st = step_path low falls top total at j more s ds forks t in
    let number : at + suc n ≡ at + 1 + n = omega arith in
    elim (judged_unexpected (next_verdict (look_at tokens at) at s) (surveyed m (at + 1) tokens (next_state (look_at tokens at) at s) (next_marks (look_at tokens at) at s marks)) (look_at tokens at).kind k at (at + suc n) h) [
      | inl v ↦ absurd (let e = v.1 in omega (arith, e))
      | inr r ↦ elim st.off.state [
        | inr ended ↦ absurd (let none = ap length ended.no_tokens in omega (arith, none, l))
        | inl tracked ↦
            let one = alone_path low top total (at + 1) more (next_live look at s) (next_state look at s).waiting (chosen_with at st.news ds) st.later marks tracked in
            let next : Tracked low top total (at + 1) more (next_state look at s).live (next_state look at s).waiting one.es st.later =
            subst (λ (u : List Thread). Tracked low top total (at + 1) more u (next_state look at s).waiting one.es st.later) (sym (state_live look at s)) one.state in
            let left : surveyed m (at + 1) tokens (next_state look at s) (next_marks look at s marks) ≡ Err (Unexpected k (at + 1 + n)) =
            ap (λ (x : Look). surveyed m (at + 1) tokens (next_state x at s) (next_marks x at s marks)) (sym here) ∙ r.1 ∙ ap (λ (i : ℕ). Err (Unexpected k i)) number in
            last_run low falls top total n m (at + 1) tokens (next_state look at s) (next_marks look at s marks) one.es st.later more k next (omega arith) (looks_next tokens at n j more looks) (ap (λ (i : ℕ). (look_at tokens i).kind) (sym number) ∙ kind) left
      ]
    ]

-- ---- lists with some tokens in common

pub common_next : (a b : List TokenKind) (n : ℕ) → take (suc n) a ≡ take (suc n) b → next_kind (drop n a) ≡ next_kind (drop n b)
common_next [] [] n e = refl
common_next [] (k ∷ b) n e = absurd (cc)
common_next (j ∷ a) [] n e = absurd (cc)
common_next (j ∷ a) (k ∷ b) zero e = cc
common_next (j ∷ a) (k ∷ b) (suc n) e = common_next a b n (cc)

pub common_front : (l w : List TokenKind) (n : ℕ) → n ≤ length l → take n (take n l ++ w) ≡ take n l
common_front l w zero h = refl
common_front [] w (suc n) h = absurd (omega arith)
common_front (k ∷ l) w (suc n) h = ap (λ (x : List TokenKind). k ∷ x) (common_front l w n (omega arith))

pub front_length : (l : List TokenKind) (n : ℕ) → n ≤ length l → length (take n l) ≡ n
front_length l zero h = refl
front_length [] (suc n) h = absurd (omega arith)
front_length (k ∷ l) (suc n) h = ap suc (front_length l n (omega arith))

pub kinds_length : (tokens : List Token) → length (kinds_of tokens) ≡ length tokens
kinds_length [] = refl
kinds_length (t ∷ ts) = ap suc (kinds_length ts)

pub kind_here : (tokens : List Token) (at : ℕ) → (look_at tokens at).kind ≡ next_kind (drop at (kinds_of tokens))
kind_here [] zero = refl
kind_here [] (suc at) = refl
kind_here (t ∷ ts) zero = refl
kind_here (t ∷ ts) (suc at) = kind_here ts at

pub first_look : (tokens : List Token) (kinds : List TokenKind) (at : ℕ) → Looks tokens 0 at kinds → (look_at tokens 0 ≡ look_of kinds) ⊎ (at ≡ 0)
first_look tokens kinds zero looks = inr refl
first_look tokens kinds (suc at) looks = inl (looks_here tokens 0 at kinds looks)

-- the root begins in the same way before all tokens
pub first_same : (a b : Look) → first_state a ≡ first_state b
unfolding first_state begun choices matching rule_rows
first_same a b = refl

no_begin : (tokens : List Token) (k : TokenKind) (at : ℕ) → at < length tokens → survey_of tokens ≡ Err (Unexpected k at) → Begins (take (at + 1) (kinds_of tokens)) → ⊥
unfolding Begins
no_begin tokens k at h refused (w, tree, s) =
    let own = kinds_of tokens in
    let kinds = take (at + 1) own ++ w in
    let more : at + 1 ≡ suc at = omega arith in
    let long : length kinds ≡ at + 1 + length w = omega (arith, length-append (take (at + 1) own) w, front_length own (at + 1) (omega (arith, kinds_length tokens))) in
    let common : take (at + 1) own ≡ take (at + 1) kinds = sym (common_front own w (at + 1) (omega (arith, kinds_length tokens))) in
    let sure = sentence_sure kinds tree s in
    let path = sure_path kinds tree sure.0 sure.1 in
    let looks = common_looks tokens kinds at common in
    let kind : (look_at tokens (0 + at)).kind ≡ next_kind (drop at kinds) = ap (λ (i : ℕ). (look_at tokens i).kind) (omega arith) ∙ kind_here tokens at ∙ common_next own kinds at (subst (λ (n : ℕ). take n own ≡ take n kinds) more common) in
    let number : ◌≡◌ {A = Result (List Bool) SyntaxFault} (Err (Unexpected k at)) (Err (Unexpected k (0 + at))) = ap (λ (i : ℕ). Err (Unexpected k i)) (omega arith) in
    let first = first_look tokens kinds at looks in
    elim first [
      | inl e ↦ last_run (low_in tree) (low_step tree) path.0 (length kinds) at (length tokens) 0 tokens (first_state (look_of kinds)) (replicate (length tokens) false) [] sure.0 kinds k (started (low_in tree) (token_depths 0 tree) (λ n h. h) kinds path.0 sure.0 path.1) (omega arith) looks kind
          (ap (λ (l : Look). surveyed (length tokens) 0 tokens (first_state l) (replicate (length tokens) false)) (sym e) ∙ refused ∙ number)
      | inr e ↦ last_run (low_in tree) (low_step tree) path.0 (length kinds) at (length tokens) 0 tokens (first_state (look_of kinds)) (replicate (length tokens) false) [] sure.0 kinds k (started (low_in tree) (token_depths 0 tree) (λ n h. h) kinds path.0 sure.0 path.1) (omega arith) looks kind
          (ap (λ (l : State). surveyed (length tokens) 0 tokens l (replicate (length tokens) false)) (first_same (look_of kinds) (look_at tokens 0)) ∙ refused ∙ number)
    ]

-- ---- the answers of the first pass

pub found_where : (P : ℕ → State → Type 0) (tokens : List Token) (r s : Result (List Bool) SyntaxFault) → r ≡ s → Found P tokens r → Found P tokens s
found_where P tokens r s e f = subst (Found P tokens) e f

fails_parse : (tokens : List Token) (e : SyntaxFault) → survey_of tokens ≡ Err e → parse_of tokens ≡ Err e
unfolding parse_of
fails_parse tokens e h = ap (λ (r : Result (List Bool) SyntaxFault). r >>= grown_from tokens) h

pub survey_refused : (tokens : List Token) (e : SyntaxFault) → length tokens < 2 ^ 32 → survey_of tokens ≡ Err e → IsRefusedFor tokens e
survey_refused tokens (Unexpected k at) fits h =
    let f = found_where (Left tokens) tokens (survey_of tokens) (Err (Unexpected k at)) h (first_found tokens) in
    (refused_not tokens (Unexpected k at) fits (fails_parse tokens (Unexpected k at) h), λ ended. (left_begins tokens at f.0 f.1, no_begin tokens k at f.2 h))
survey_refused tokens (TooDeep at) fits h =
    let f = found_where (Left tokens) tokens (survey_of tokens) (Err (TooDeep at)) h (first_found tokens) in
    (refused_not tokens (TooDeep at) fits (fails_parse tokens (TooDeep at) h), λ ended. deep_begins tokens at f.0 f.2 f.1 f.3)
survey_refused tokens OutOfMemory fits h = tt
