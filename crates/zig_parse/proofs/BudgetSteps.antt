-- A thread that reads the whole file and isn't marked as deep has no more than 200 nodes one in the other; so the
-- tree of tokens that the first pass accepts has no more.
use Rattle.std.proofs.Common.{◌≡◌, ℕ, zero, suc, ◌+◌, ◌≤◌, Bool, true, false, ◌&&◌, inl, inr, List, [], ◌∷◌, length, Result, Ok, refl, sym, ◌∙◌, ap, subst, arith}
use Rattle.std.specs.Prelude.{if◌then◌else◌}
use Rattle.zig_tree.specs.declared.token.Token.{Token}
use Rattle.zig_tree.specs.declared.token.TokenKind.{TokenKind}
use Rattle.zig_tree.specs.declared.token.TokenKind.TheVariants as kind
use Rattle.zig_tree.specs.declared.grammar.Rule.TheVariants as rule
use Rattle.zig_tree.specs.declared.grammar.Part.{Part}
use Rattle.zig_tree.specs.declared.grammar.Part.TheVariants as part
use Rattle.zig_tree.specs.Kinds.{is_kind, number_of}
use Rattle.zig_parse.specs.declared.choice.Look.{Look}
use Rattle.zig_parse.specs.declared.thread.Thread.{Thread}
use Rattle.zig_parse.specs.declared.survey.Verdict.{Verdict}
use Rattle.zig_parse.specs.declared.survey.Verdict.TheVariants as verdict
use Rattle.zig_parse.specs.declared.fault.SyntaxFault.{SyntaxFault}
use Rattle.zig_parse.specs.declared.state.State.{State}
use Rattle.zig_parse.specs.Moves.{settled_all}
use Rattle.zig_parse.specs.Passes.{all_deep, any_shallow, alone, verdict_of}
use Rattle.zig_parse.specs.Surveys.{entered, is_spared, judged, look_at, next_live, next_marks, next_state, next_verdict, surveyed}
use Rattle.zig_parse.specs.Ways.{Fork}
use Rattle.zig_parse.proofs.Paths.{look_of}
use Rattle.zig_parse.proofs.Moving.{Each}
use Rattle.zig_parse.proofs.Settling.{chosen_with}
use Rattle.zig_parse.proofs.Tracking.{Tracked}
use Rattle.zig_parse.proofs.Following.{Looks, alone_path, looks_here, looks_next, state_live, step_path}
use Rattle.zig_parse.proofs.Grounds.{Grounded, Grounds, base_of, depth_in, has_room, next_grounds}
use Rattle.zig_parse.proofs.Budgets.{Rested, rested_low}
use Rattle.zig_tree.specs.declared.tree.TheConstants.{DEPTH_LIMIT}

-- ---- the tokens of a path

one_fine : (t : Thread) → verdict_of false (t ∷ []) ≡ verdict.Fine → t.deep ≡ false
unfolding all_deep
one_fine t h = by t.deep refl h
  where
    by : (b : Bool) → t.deep ≡ b → (if (b && true) && true then verdict.TooDeep else verdict.Fine) ≡ verdict.Fine → t.deep ≡ false
    by true e k = absurd (cc)
    by false e k = e

end_spared : (look : Look) (at : ℕ) (s : State) → look.kind ≡ kind.End → is_spared look at s ≡ false
unfolding is_spared number_of
end_spared look at s e = ap (λ (k : TokenKind). is_kind k kind.Identifier && any_shallow (entered look (settled_all look at s.live))) e

judged_fine : (v : Verdict) (r : Result (List Bool) SyntaxFault) (k : TokenKind) (at : ℕ) (f : List Bool) → judged v r k at ≡ Ok f → (v ≡ verdict.Fine) × (r ≡ Ok f)
judged_fine verdict.Fine r k at f h = (refl, h)
judged_fine verdict.Unexpected r k at f h = absurd (cc)
judged_fine verdict.TooDeep r k at f h = absurd (cc)

-- the thread that is left of the file itself
file_rested : (x : Thread) (live : List Thread) (waiting : List (List Thread)) → live ≡ alone (x ∷ []) → waiting ≡ [] → x.goal ≡ part.Rule rule.Root → Grounds live waiting → Rested 0 x
file_rested x live waiting e none goal g =
    let here : Grounded Rested waiting (record x { choices = [] }) = (subst (λ (ts : List Thread). Each (Grounded Rested waiting) ts) e g.rested).0 in
    subst (λ (p : Part). Rested (base_of p 0) x) goal (here 0 (ap (λ (w : List (List Thread)). depth_in w x.goal) none) (omega arith) (subst (λ (p : Part). has_room p 0) (sym goal) tt))

-- where the first pass accepts all of them the tree has no more nodes one in the other than the limit
pub accepted_low : (low : ℕ → Type 0) → ((n : ℕ) → low (n + 1) → low n) → (top total n at : ℕ) (tokens : List Token) (s : State) (marks found : List Bool) (ds : List ℕ) (forks : List Fork) (kinds : List TokenKind)
    → Tracked low top total at kinds s.live s.waiting ds forks → length kinds ≡ n → Looks tokens at n kinds → surveyed n at tokens s marks ≡ Ok found → Grounds s.live s.waiting → top ≤ DEPTH_LIMIT
unfolding surveyed next_verdict
accepted_low low falls top total n at tokens s marks found ds forks [] t l looks h c = absurd (let less = t.shorter in omega (arith, less))
accepted_low low falls top total zero at tokens s marks found ds forks (k ∷ more) t l looks h c = absurd (omega (arith, l))
accepted_low low falls top total (suc n) at tokens s marks found ds forks (k ∷ more) t l looks h c =
    let look = look_of (k ∷ more) in
    let here = looks_here tokens at n (k ∷ more) looks in
    let st = step_path low falls top total at k more s ds forks t in
    let j = judged_fine (next_verdict (look_at tokens at) at s) (surveyed n (at + 1) tokens (next_state (look_at tokens at) at s) (next_marks (look_at tokens at) at s marks)) (look_at tokens at).kind at found h in
    elim st.off.state [
      | inr ended ↦
          let fine : verdict_of false (ended.x ∷ []) ≡ verdict.Fine = ap (verdict_of false) (sym ended.live_is) ∙ ap (λ (b : Bool). verdict_of b (next_live look at s)) (sym (end_spared look at s ended.last)) ∙ ap (λ (x : Look). next_verdict x at s) (sym here) ∙ j.0 in
          let small = rested_low 0 ended.x (file_rested ended.x (next_state look at s).live (next_state look at s).waiting (state_live look at s ∙ ap alone ended.live_is) ended.no_waiting ended.goal_is (next_grounds look at s c)) (one_fine ended.x fine) in
          omega (arith, small, ended.tall)
      | inl tracked ↦
          let one = alone_path low top total (at + 1) more (next_live look at s) (next_state look at s).waiting (chosen_with at st.news ds) st.later marks tracked in
          let next : Tracked low top total (at + 1) more (next_state look at s).live (next_state look at s).waiting one.es st.later =
          subst (λ (u : List Thread). Tracked low top total (at + 1) more u (next_state look at s).waiting one.es st.later) (sym (state_live look at s)) one.state in
          let left = ap (λ (x : Look). surveyed n (at + 1) tokens (next_state x at s) (next_marks x at s marks)) (sym here) ∙ j.1 in
          accepted_low low falls top total n (at + 1) tokens (next_state look at s) (next_marks look at s marks) found one.es st.later more next (omega (arith, l)) (looks_next tokens at n k more looks) left (next_grounds look at s c)
    ]
