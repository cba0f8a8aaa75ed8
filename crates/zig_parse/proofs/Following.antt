-- The first pass follows a path: it accepts the tokens, marks the path's choices, and refuses no front of them.
use Rattle.std.proofs.Common.{◌≡◌, ℕ, zero, suc, ◌+◌, ◌<◌, ◌≤◌, Bool, true, false, ◌⊎◌, inl, inr, List, [], ◌∷◌, ◌++◌, length, drop, take, Result, Ok, Err, refl, sym, ◌∙◌, ap, subst, arith}
use Rattle.std.specs.Prelude.{replicate}
use Rattle.zig_tree.specs.declared.token.Token.{Token}
use Rattle.zig_tree.specs.declared.token.TokenKind.{TokenKind}
use Rattle.zig_tree.specs.declared.token.TokenKind.TheVariants as kind
use Rattle.zig_tree.specs.declared.grammar.Rule.TheVariants as rule
use Rattle.zig_tree.specs.declared.grammar.Group.TheVariants as group
use Rattle.zig_tree.specs.declared.grammar.When.TheVariants as when
use Rattle.zig_tree.specs.declared.grammar.Part.{Part}
use Rattle.zig_tree.specs.declared.grammar.Part.TheVariants as part
use Rattle.zig_tree.specs.Kinds.{number_of}
use Rattle.zig_tree.specs.Grammar.{row, rule_rows}
use Rattle.zig_tree.specs.GrammarSentences.{AreShallow, Derives, Pieces, nothing, followed, made, derives_none, derives_rule}
use Rattle.zig_parse.specs.declared.choice.Look.{Look}
use Rattle.zig_parse.specs.declared.thread.Thread.{Thread}
use Rattle.zig_parse.specs.declared.state.State.{State}
use Rattle.zig_parse.specs.declared.survey.Verdict.{Verdict}
use Rattle.zig_parse.specs.declared.survey.Verdict.TheVariants as verdict
use Rattle.zig_parse.specs.declared.fault.SyntaxFault.{SyntaxFault}
use Rattle.zig_parse.specs.declared.fault.SyntaxFault.TheVariants.{Unexpected, TooDeep}
use Rattle.zig_parse.specs.Threads.{collapses, fresh, opened, put}
use Rattle.zig_parse.specs.Moves.{settled_all}
use Rattle.zig_parse.specs.Choices.{choices, matching}
use Rattle.zig_parse.specs.Passes.{after_token, alone, begun, marked, marked_alone, verdict_of}
use Rattle.zig_parse.specs.Surveys.{entered, entered_waiting, first_state, is_spared, judged, look_at, next_live, next_marks, next_state, next_verdict, read_live, read_waiting, surveyed}
use Rattle.zig_parse.specs.Growth.{is_second}
use Rattle.zig_parse.specs.Trees.{kinds_of}
use Rattle.zig_parse.proofs.Spelled.{look_here}
use Rattle.zig_parse.specs.Ways.{Fork, noted}
use Rattle.zig_parse.proofs.Paths.{Path, Seen, in_file, look_of}
use Rattle.zig_parse.proofs.Weights.{weighs}
use Rattle.zig_parse.proofs.Layers.{layers_more, layers_none, root_spot}
use Rattle.zig_parse.proofs.Free.{own, path_own}
use Rattle.zig_parse.proofs.Moving.{coming}
use Rattle.zig_parse.proofs.Opening.{path_derives}
use Rattle.zig_parse.proofs.Settling.{chosen_with}
use Rattle.zig_parse.proofs.Living.{at_root, Good, tidy_shorter}
use Rattle.zig_parse.proofs.Tracking.{Tracked}
use Rattle.zig_parse.proofs.EnteringSteps.{enter_path, falls_to}
use Rattle.zig_parse.proofs.Leaving.{after_path, leave_path, LeftOff}
use Rattle.zig_parse.proofs.Marks.{Open, Noted, Agree, marked_joined, chosen_noted, noted_open, agree_noted, open_first}

-- ---- a token

pub record Stepped (low : ℕ → Type 0) (top total at : ℕ) (k : TokenKind) (more : List TokenKind) (s : State) (ds : List ℕ) (forks : List Fork) : Type 0 where
  pub news : List Bool
  pub later : List Fork
  pub few : (news ≡ []) ⊎ ((b : Bool) × (news ≡ b ∷ []))
  pub forks_were : forks ≡ noted (k ∷ more) news ++ later
  pub off : LeftOff low top total at k more (next_live (look_of (k ∷ more)) at s) (next_state (look_of (k ∷ more)) at s).waiting (chosen_with at news ds) later

pub step_path : (low : ℕ → Type 0) → ((n : ℕ) → low (n + 1) → low n) → (top total at : ℕ) (k : TokenKind) (more : List TokenKind) (s : State) (ds : List ℕ) (forks : List Fork)
    → Tracked low top total at (k ∷ more) s.live s.waiting ds forks → Stepped low top total at k more s ds forks
unfolding next_live next_state read_live read_waiting
step_path low falls top total at k more s ds forks t =
    let look = look_of (k ∷ more) in
    let e = enter_path low falls top total at k more s.live s.waiting ds forks t in
    let ready = entered look (settled_all look at s.live) in
    let waiting = entered_waiting (settled_all look at s.live) s.waiting in
    let a = after_path low top total at k more ready waiting (chosen_with at e.news ds) e.later e.now in
    record {
      news = e.news;
      later = e.later;
      few = e.few;
      forks_were = e.forks_were;
      off = leave_path low top total at k more (after_token [] ready) waiting (chosen_with at e.news ds) e.later a;
    }

-- ---- one thread alone

pub record Alone (low : ℕ → Type 0) (top total at : ℕ) (tokens : List TokenKind) (live : List Thread) (waiting : List (List Thread)) (ds : List ℕ) (forks : List Fork) (marks : List Bool) : Type 0 where
  pub es : List ℕ
  pub state : Tracked low top total at tokens (alone live) waiting es forks
  pub same : marked es (marked_alone live marks) ≡ marked ds marks

only : (t x : Thread) (before after : List Thread) → t ∷ [] ≡ before ++ x ∷ after → (before ≡ []) × (x ≡ t)
only t x [] [] e = (refl, cc)
only t x [] (u ∷ after) e = absurd (cc)
only t x (u ∷ []) after e = absurd (cc)
only t x (u ∷ v ∷ before) after e = absurd (cc)

own_good : (root : Bool) (from tokens : List TokenKind) (t : Thread) (cs : List ℕ) → Good root from tokens t → Good root from tokens (own cs t)
own_good root from tokens t cs g = record { sound = g.sound; tidies = g.tidies; rooted = g.rooted }

pub alone_path : (low : ℕ → Type 0) (top total at : ℕ) (tokens : List TokenKind) (live : List Thread) (waiting : List (List Thread)) (ds : List ℕ) (forks : List Fork) (marks : List Bool)
    → Tracked low top total at tokens live waiting ds forks → Alone low top total at tokens live waiting ds forks marks
alone_path low top total at tokens [] waiting ds forks marks t = absurd (none t.before t.x t.after t.live_is)
  where
    none : (b : List Thread) (x : Thread) (a : List Thread) → [] ≡ b ++ x ∷ a → ⊥
    none [] x a e = cc
    none (u ∷ b) x a e = cc
alone_path low top total at tokens (u ∷ v ∷ more) waiting ds forks marks t = record { es = ds; state = t; same = refl }
alone_path low top total at tokens (u ∷ []) waiting ds forks marks t =
    let o = only u t.x t.before t.after t.live_is in
    record {
      es = t.cs;
      state = record {
        root = t.root;
        goal = t.goal;
        from = t.from;
        end = t.end;
        height = t.height;
        told = t.told;
        x = own [] u;
        before = [];
        after = [];
        cs = t.cs;
        inner = t.inner;
        outer = t.outer;
        live_is = refl;
        goal_is = ap (λ (y : Thread). y.goal) (sym o.1) ∙ t.goal_is;
        seen = subst (λ (y : Thread). Seen t.told.spot at tokens t.end y.frames y.items) o.1 t.seen;
        path = path_own true low t.told false u at tokens t.end t.height t.inner [] (subst (λ (y : Thread). Path true low t.told false y at tokens t.end t.height t.inner) o.1 t.path);
        shorter = t.shorter;
        good = (own_good t.root t.from tokens u [] t.good.0, tt);
        dead = tt;
        hears = t.hears;
        around = t.around;
        choices_are = refl;
        forks_are = t.forks_are;
        place = t.place;
      };
      same = sym (marked_joined u.choices t.cs marks) ∙ ap (λ (l : List ℕ). marked l marks) (ap (λ (y : Thread). y.choices ++ t.cs) (sym o.1) ∙ sym t.choices_are);
    }

-- ---- all tokens

-- at so many tokens from a number on the list shows these kinds
abbrev pub Looks : List Token → ℕ → ℕ → List TokenKind → Type 0
Looks tokens at n kinds = (i : ℕ) → i < n → look_at tokens (at + i) ≡ look_of (drop i kinds)

pub looks_next : (tokens : List Token) (at n : ℕ) (k : TokenKind) (kinds : List TokenKind) → Looks tokens at (suc n) (k ∷ kinds) → Looks tokens (at + 1) n kinds
looks_next tokens at n k kinds h i l = ap (look_at tokens) (omega arith) ∙ h (suc i) (omega arith)

pub looks_here : (tokens : List Token) (at n : ℕ) (kinds : List TokenKind) → Looks tokens at (suc n) kinds → look_at tokens at ≡ look_of kinds
looks_here tokens at n kinds h = ap (look_at tokens) (omega arith) ∙ h 0 (omega arith)

pub record Surveyed (total n at : ℕ) (tokens : List Token) (s : State) (marks ds_marks : List Bool) (forks : List Fork) : Type 0 where
  pub found : List Bool
  pub accepts : surveyed n at tokens s marks ≡ Ok found
  pub earlier : (i : ℕ) → i < at → is_second found i ≡ is_second ds_marks i
  pub agree : Agree total found forks

judged_fine : (v : Verdict) (r : Result (List Bool) SyntaxFault) (k : TokenKind) (at : ℕ) → v ≡ verdict.Fine → judged v r k at ≡ r
judged_fine verdict.Fine r k at h = refl
judged_fine verdict.Unexpected r k at h = absurd (cc)
judged_fine verdict.TooDeep r k at h = absurd (cc)

surveyed_step : (n at : ℕ) (tokens : List Token) (s : State) (marks : List Bool) (look : Look) → look_at tokens at ≡ look → next_verdict look at s ≡ verdict.Fine
    → surveyed (suc n) at tokens s marks ≡ surveyed n (at + 1) tokens (next_state look at s) (next_marks look at s marks)
unfolding surveyed
surveyed_step n at tokens s marks look e v =
    judged_fine (next_verdict (look_at tokens at) at s) (surveyed n (at + 1) tokens (next_state (look_at tokens at) at s) (next_marks (look_at tokens at) at s marks)) (look_at tokens at).kind at (ap (λ (l : Look). next_verdict l at s) e ∙ v)
    ∙ ap (λ (l : Look). surveyed n (at + 1) tokens (next_state l at s) (next_marks l at s marks)) e

surveyed_none : (at : ℕ) (tokens : List Token) (s : State) (marks : List Bool) → surveyed 0 at tokens s marks ≡ Ok marks
unfolding surveyed
surveyed_none at tokens s marks = refl

verdict_is : (look : Look) (at : ℕ) (s : State) → next_verdict look at s ≡ verdict_of (is_spared look at s) (next_live look at s)
unfolding next_verdict
verdict_is look at s = refl

pub state_live : (look : Look) (at : ℕ) (s : State) → (next_state look at s).live ≡ alone (next_live look at s)
unfolding next_state
state_live look at s = refl

marks_are : (look : Look) (at : ℕ) (s : State) (marks : List Bool) → next_marks look at s marks ≡ marked_alone (next_live look at s) marks
unfolding next_marks
marks_are look at s marks = refl

-- with the marks of a later state at the tokens before it, and its own choice there
earlier_back : (at : ℕ) (news : List Bool) (found new old : List Bool) → Noted at news old new → ((i : ℕ) → i < at + 1 → is_second found i ≡ is_second new i) → (i : ℕ) → i < at → is_second found i ≡ is_second old i
earlier_back at news found new old k h i l = h i (omega arith) ∙ k.others i (λ e. omega (arith, e))

back_to : (total n at : ℕ) (tokens : List Token) (s : State) (marks : List Bool) (ds : List ℕ) (forks : List Fork) (kinds : List TokenKind) (news : List Bool) (later : List Fork) (found new : List Bool)
    → at + length kinds ≡ total → (news ≡ []) ⊎ ((b : Bool) × (news ≡ b ∷ [])) → forks ≡ noted kinds news ++ later → Noted at news (marked ds marks) new
    → surveyed n at tokens s marks ≡ Ok found → ((i : ℕ) → i < at + 1 → is_second found i ≡ is_second new i) → Agree total found later → Surveyed total n at tokens s marks (marked ds marks) forks
back_to total n at tokens s marks ds forks kinds news later found new place few were k ok early agree = record {
  found = found;
  accepts = ok;
  earlier = earlier_back at news found new (marked ds marks) k early;
  agree = subst (Agree total found) (sym were) (agree_noted total at kinds news later found few place (early at (omega arith) ∙ k.here) agree);
}

judged_ok : (v : Verdict) (r : Result (List Bool) SyntaxFault) (k : TokenKind) (at : ℕ) (f : List Bool) → judged v r k at ≡ Ok f → v ≡ verdict.Fine
judged_ok verdict.Fine r k at f h = refl
judged_ok verdict.Unexpected r k at f h = absurd (cc)
judged_ok verdict.TooDeep r k at f h = absurd (cc)

-- the path lies within the limit of depth, or the first pass accepts all the same
abbrev pub Accepts : (ℕ → Type 0) → ℕ → ℕ → ℕ → List Token → State → List Bool → Type 0
Accepts low total n at tokens s marks = low total ⊎ ((f : List Bool) × (surveyed n at tokens s marks ≡ Ok f))

fine_here : (low : ℕ → Type 0) → ((n : ℕ) → low (n + 1) → low n) → (total n at : ℕ) (tokens : List Token) (s : State) (marks : List Bool) (look : Look) → at < total → look_at tokens at ≡ look → (low (at + 1) → next_verdict look at s ≡ verdict.Fine)
    → Accepts low total (suc n) at tokens s marks → next_verdict look at s ≡ verdict.Fine
unfolding surveyed
fine_here low falls total n at tokens s marks look l e fine (inl lows) = fine (falls_to low falls (at + 1) total (omega arith) lows)
fine_here low falls total n at tokens s marks look l e fine (inr h) =
    ap (λ (x : Look). next_verdict x at s) (sym e)
    ∙ judged_ok (next_verdict (look_at tokens at) at s) (surveyed n (at + 1) tokens (next_state (look_at tokens at) at s) (next_marks (look_at tokens at) at s marks)) (look_at tokens at).kind at h.0 h.1

accepts_next : (low : ℕ → Type 0) (total n at : ℕ) (tokens : List Token) (s : State) (marks : List Bool) (s2 : State) (marks2 : List Bool) → surveyed (suc n) at tokens s marks ≡ surveyed n (at + 1) tokens s2 marks2 → Accepts low total (suc n) at tokens s marks → Accepts low total n (at + 1) tokens s2 marks2
accepts_next low total n at tokens s marks s2 marks2 e (inl lows) = inl lows
accepts_next low total n at tokens s marks s2 marks2 e (inr h) = inr (h.0, sym e ∙ h.1)

pub run : (low : ℕ → Type 0) → ((n : ℕ) → low (n + 1) → low n) → (top total n at : ℕ) (tokens : List Token) (s : State) (marks : List Bool) (ds : List ℕ) (forks : List Fork) (kinds : List TokenKind)
    → Tracked low top total at kinds s.live s.waiting ds forks → length kinds ≡ n → Looks tokens at n kinds → Accepts low total n at tokens s marks → Open total at (marked ds marks) → Surveyed total n at tokens s marks (marked ds marks) forks
run low falls top total n at tokens s marks ds forks [] t l looks lows o = absurd (let h = t.shorter in omega (arith, h))
run low falls top total zero at tokens s marks ds forks (k ∷ more) t l looks lows o = absurd (omega (arith, l))
run low falls top total (suc n) at tokens s marks ds forks (k ∷ more) t l looks lows o =
    let look = look_of (k ∷ more) in
    let place : at + suc (length more) ≡ total = t.place in
    let st = step_path low falls top total at k more s ds forks t in
    let here = looks_here tokens at n (k ∷ more) looks in
    let fine = fine_here low falls total n at tokens s marks look (omega (arith, place)) here (λ e. verdict_is look at s ∙ st.off.fine (is_spared look at s) e) lows in
    let one = surveyed_step n at tokens s marks look here fine in
    let new = marked (chosen_with at st.news ds) marks in
    let k2 : Noted at st.news (marked ds marks) new = chosen_noted total at st.news ds marks (omega (arith, place)) o in
    let open2 = noted_open total at st.news ds marks o k2 in
    elim st.off.state [
      | inl tracked ↦
          let a = alone_path low top total (at + 1) more (next_live look at s) (next_state look at s).waiting (chosen_with at st.news ds) st.later marks tracked in
          let marks2 = next_marks look at s marks in
          let same : marked a.es marks2 ≡ new = ap (marked a.es) (marks_are look at s marks) ∙ a.same in
          let state2 : Tracked low top total (at + 1) more (next_state look at s).live (next_state look at s).waiting a.es st.later = subst (λ (u : List Thread). Tracked low top total (at + 1) more u (next_state look at s).waiting a.es st.later) (sym (state_live look at s)) a.state in
          let rest = run low falls top total n (at + 1) tokens (next_state look at s) marks2 a.es st.later more state2 (omega (arith, l)) (looks_next tokens at n k more looks) (accepts_next low total n at tokens s marks (next_state look at s) marks2 one lows) (subst (Open total (at + 1)) (sym same) open2) in
          back_to total (suc n) at tokens s marks ds forks (k ∷ more) st.news st.later rest.found new place st.few st.forks_were k2 (one ∙ rest.accepts) (λ i j. rest.earlier i j ∙ ap (λ (m : List Bool). is_second m i) same) rest.agree
      | inr ended ↦
          let none : n ≡ 0 = (let e = ap length ended.no_tokens in omega (arith, l, e)) in
          let marks2 = next_marks look at s marks in
          let same : marks2 ≡ new = marks_are look at s marks ∙ ap (λ (u : List Thread). marked_alone u marks) ended.live_is ∙ ap (λ (u : List ℕ). marked u marks) (sym ended.choices_are) in
          let last : surveyed n (at + 1) tokens (next_state look at s) marks2 ≡ Ok marks2 = ap (λ (m : ℕ). surveyed m (at + 1) tokens (next_state look at s) marks2) none ∙ surveyed_none (at + 1) tokens (next_state look at s) marks2 in
          back_to total (suc n) at tokens s marks ds forks (k ∷ more) st.news st.later marks2 new place st.few st.forks_were k2 (one ∙ last) (λ i j. ap (λ (m : List Bool). is_second m i) same) (subst (Agree total marks2) (sym ended.no_forks) tt)
    ]

-- ---- a front of the tokens

-- what is refused, at which token
abbrev pub RefusedAt : Result (List Bool) SyntaxFault → ℕ → Type 0
RefusedAt r at = ((k : TokenKind) × (r ≡ Err (Unexpected k at))) ⊎ (r ≡ Err (TooDeep at))

same_at : (j k : TokenKind) (at a : ℕ) → ◌≡◌ {A = Result (List Bool) SyntaxFault} (Err (Unexpected j at)) (Err (Unexpected k a)) → a ≡ at
same_at j k at a e = cc

judged_later : (v : Verdict) (r : Result (List Bool) SyntaxFault) (k : TokenKind) (at a : ℕ) → RefusedAt (judged v r k at) a → (a ≡ at) ⊎ RefusedAt r a
judged_later verdict.Fine r k at a h = inr h
judged_later verdict.Unexpected r k at a (inl h) = inl (same_at k h.0 at a h.1)
judged_later verdict.Unexpected r k at a (inr h) = absurd (cc)
judged_later verdict.TooDeep r k at a (inl h) = absurd (let e = h.1 in cc)
judged_later verdict.TooDeep r k at a (inr h) = inl (cc)

pub refused_from : (m at : ℕ) (tokens : List Token) (s : State) (marks : List Bool) (a : ℕ) → RefusedAt (surveyed m at tokens s marks) a → at ≤ a
unfolding surveyed
refused_from zero at tokens s marks a (inl h) = absurd (let e = h.1 in cc)
refused_from zero at tokens s marks a (inr h) = absurd (cc)
refused_from (suc m) at tokens s marks a h =
    let look = look_at tokens at in
    elim (judged_later (next_verdict look at s) (surveyed m (at + 1) tokens (next_state look at s) (next_marks look at s marks)) look.kind at a h) [
      | inl e ↦ omega (arith, e)
      | inr more ↦ let l = refused_from m (at + 1) tokens (next_state look at s) (next_marks look at s marks) a more in omega arith
    ]

-- a refusal at a token where there is no reason for it
abbrev pub Wrong : (ℕ → Type 0) → Result (List Bool) SyntaxFault → ℕ → Type 0
Wrong low r at = ((k : TokenKind) × (r ≡ Err (Unexpected k at))) ⊎ ((r ≡ Err (TooDeep at)) × low (at + 1))

wrong_refused : (low : ℕ → Type 0) (r : Result (List Bool) SyntaxFault) (at : ℕ) → Wrong low r at → RefusedAt r at
wrong_refused low r at (inl h) = inl h
wrong_refused low r at (inr h) = inr h.0

deep_at : (at a : ℕ) → ◌≡◌ {A = Result (List Bool) SyntaxFault} (Err (TooDeep at)) (Err (TooDeep a)) → a ≡ at
deep_at at a e = cc

wrong_later : (low : ℕ → Type 0) (v : Verdict) (r : Result (List Bool) SyntaxFault) (k : TokenKind) (at a : ℕ) → (v ≡ verdict.Unexpected → ⊥) → (low (at + 1) → v ≡ verdict.Fine) → Wrong low (judged v r k at) a → Wrong low r a
wrong_later low verdict.Fine r k at a some fine h = h
wrong_later low verdict.Unexpected r k at a some fine h = absurd (some refl)
wrong_later low verdict.TooDeep r k at a some fine (inl h) = absurd (let e = h.1 in cc)
wrong_later low verdict.TooDeep r k at a some fine (inr h) = absurd (let e = fine (subst (λ (n : ℕ). low (n + 1)) (deep_at at a h.0) h.1) in cc)

step_wrong : (low : ℕ → Type 0) (m at : ℕ) (tokens : List Token) (s : State) (marks : List Bool) (look : Look) (a : ℕ) → look_at tokens at ≡ look → (next_verdict look at s ≡ verdict.Unexpected → ⊥) → (low (at + 1) → next_verdict look at s ≡ verdict.Fine)
    → Wrong low (surveyed (suc m) at tokens s marks) a → Wrong low (surveyed m (at + 1) tokens (next_state look at s) (next_marks look at s marks)) a
unfolding surveyed
step_wrong low m at tokens s marks look a e some fine h =
    let all = λ (l : Look). judged (next_verdict l at s) (surveyed m (at + 1) tokens (next_state l at s) (next_marks l at s marks)) l.kind at in
    wrong_later low (next_verdict look at s) (surveyed m (at + 1) tokens (next_state look at s) (next_marks look at s marks)) look.kind at a some fine
    (subst (λ (l : Look). Wrong low (judged (next_verdict l at s) (surveyed m (at + 1) tokens (next_state l at s) (next_marks l at s marks)) l.kind at) a) e h)

-- where the next tokens are those of a path none of them is refused without a reason
pub front_run : (low : ℕ → Type 0) → ((n : ℕ) → low (n + 1) → low n) → (top total n m at : ℕ) (tokens : List Token) (s : State) (marks : List Bool) (ds : List ℕ) (forks : List Fork) (kinds : List TokenKind) (a : ℕ)
    → Tracked low top total at kinds s.live s.waiting ds forks → n ≤ length kinds → Looks tokens at n kinds → Wrong low (surveyed m at tokens s marks) a → at + n ≤ a
front_run low falls top total zero m at tokens s marks ds forks kinds a t l looks h = let e = refused_from m at tokens s marks a (wrong_refused low (surveyed m at tokens s marks) a h) in omega arith
front_run low falls top total (suc n) m at tokens s marks ds forks [] a t l looks h = absurd (omega arith)
front_run low falls top total (suc n) zero at tokens s marks ds forks (k ∷ more) a t l looks h = absurd (none (wrong_refused low (surveyed 0 at tokens s marks) a h))
  where
    none_by : (r : Result (List Bool) SyntaxFault) → r ≡ Ok marks → RefusedAt r a → ⊥
    none_by r e (inl w) = (let x = w.1 in cc)
    none_by r e (inr w) = cc

    none : RefusedAt (surveyed 0 at tokens s marks) a → ⊥
    none w = none_by (surveyed 0 at tokens s marks) (surveyed_none at tokens s marks) w
front_run low falls top total (suc n) (suc m) at tokens s marks ds forks (k ∷ more) a t l looks h =
    let look = look_of (k ∷ more) in
    let st = step_path low falls top total at k more s ds forks t in
    let here = looks_here tokens at n (k ∷ more) looks in
    let v = verdict_is look at s in
    let marks2 = next_marks look at s marks in
    let next = step_wrong low m at tokens s marks look a here (λ e. st.off.some (is_spared look at s) (sym v ∙ e)) (λ e. v ∙ st.off.fine (is_spared look at s) e) h in
    elim st.off.state [
      | inl tracked ↦
          let one = alone_path low top total (at + 1) more (next_live look at s) (next_state look at s).waiting (chosen_with at st.news ds) st.later marks tracked in
          let state2 : Tracked low top total (at + 1) more (next_state look at s).live (next_state look at s).waiting one.es st.later = subst (λ (u : List Thread). Tracked low top total (at + 1) more u (next_state look at s).waiting one.es st.later) (sym (state_live look at s)) one.state in
          let rest = front_run low falls top total n m (at + 1) tokens (next_state look at s) marks2 one.es st.later more a state2 (omega arith) (looks_next tokens at n k more looks) next in
          omega arith
      | inr ended ↦
          let e = refused_from m (at + 1) tokens (next_state look at s) marks2 a (wrong_refused low (surveyed m (at + 1) tokens (next_state look at s) marks2) a next) in
          let none = ap length ended.no_tokens in
          omega (arith, none)
    ]

-- ---- the start

root_good : (kinds : List TokenKind) → Good true kinds kinds (begun (look_of kinds) (part.Rule rule.Root) 0)
unfolding begun choices matching rule_rows put opened fresh collapses number_of
root_good kinds = record {
  sound = λ end p d. (followed (made rule.Root p) nothing, derives_rule rule.Root (row (when.Always) (part.Group group.RootMembers ∷ part.Token kind.End ∷ [])) [] kinds end end p nothing (inl refl) d (derives_none end));
  tidies = refl;
  rooted = λ e. refl;
}

root_parts : (kinds : List TokenKind) → coming (begun (look_of kinds) (part.Rule rule.Root) 0) ≡ part.Group group.RootMembers ∷ part.Token kind.End ∷ []
unfolding begun choices matching rule_rows put opened fresh collapses
root_parts kinds = refl

root_goal : (kinds : List TokenKind) → ((begun (look_of kinds) (part.Rule rule.Root) 0).goal ≡ part.Rule rule.Root) × ((begun (look_of kinds) (part.Rule rule.Root) 0).choices ≡ [])
unfolding begun choices matching rule_rows put opened fresh collapses
root_goal kinds = (refl, refl)

nil_behind : (fs : List Fork) → fs ≡ fs ++ []
nil_behind [] = refl
nil_behind (f ∷ fs) = ap (λ (l : List Fork). f ∷ l) (nil_behind fs)

no_part : (p : Part) (ps qs : List Part) → qs ≡ p ∷ ps → qs ≡ [] → ⊥
no_part p ps qs e h = cc

first_seen : (depths : List ℕ) (kinds : List TokenKind) (p : Pieces) → Derives (coming (begun (look_of kinds) (part.Rule rule.Root) 0)) kinds [] p
    → Seen (root_spot depths) 0 kinds [] (begun (look_of kinds) (part.Rule rule.Root) 0).frames (begun (look_of kinds) (part.Rule rule.Root) 0).items
unfolding begun choices matching rule_rows put opened fresh collapses
first_seen depths kinds p d = record {
  depth = 1;
  loose = 0;
  layers = layers_more [] 0 0 0 (record { rule = rule.Root; parts = 0; height = 0; solid = true }) nothing true layers_none (λ e. refl) (omega arith) ([], depths, refl, refl);
  light = omega (arith, weighs (coming (begun (look_of kinds) (part.Rule rule.Root) 0)) kinds [] p d);
}

pub started : (low : ℕ → Type 0) (depths : List ℕ) → ((n : ℕ) → AreShallow (take n depths) → low n) → (kinds : List TokenKind) (height : ℕ) (forks : List Fork) → Path true low (in_file depths) false (begun (look_of kinds) (part.Rule rule.Root) 0) 0 kinds [] height forks
    → Tracked low height (length kinds) 0 kinds (first_state (look_of kinds)).live (first_state (look_of kinds)).waiting [] forks
unfolding first_state
started low depths lows kinds height forks path =
    let x = begun (look_of kinds) (part.Rule rule.Root) 0 in
    let good = root_good kinds in
    let d = path_derives low (in_file depths) false x 0 kinds [] height forks path in
    record {
      root = true;
      goal = part.Rule rule.Root;
      from = kinds;
      end = [];
      height = height;
      told = in_file depths;
      x = x;
      before = [];
      after = [];
      cs = [];
      inner = forks;
      outer = [];
      live_is = refl;
      goal_is = (root_goal kinds).0;
      seen = first_seen depths kinds d.0 d.1;
      path = path;
      shorter = tidy_shorter true (coming x) kinds [] d.0 good.tidies (no_part _ _ (coming x) (root_parts kinds)) d.1;
      good = (good, tt);
      dead = tt;
      hears = inl refl;
      around = at_root depths kinds lows;
      choices_are = ap (λ (l : List ℕ). l ++ []) (sym (root_goal kinds).1);
      forks_are = nil_behind forks;
      place = omega arith;
    }

-- ---- the whole first pass

kinds_length : (tokens : List Token) → length (kinds_of tokens) ≡ length tokens
kinds_length [] = refl
kinds_length (t ∷ ts) = ap suc (kinds_length ts)

pub whole_looks : (tokens : List Token) (n : ℕ) → Looks tokens 0 n (kinds_of tokens)
whole_looks tokens n i l = ap (look_at tokens) (omega arith) ∙ look_here tokens i

-- all tokens are accepted, and the marks agree with the choices
pub record Follows (tokens : List Token) (forks : List Fork) : Type 0 where
  pub found : List Bool
  pub accepts : surveyed (length tokens) 0 tokens (first_state (look_at tokens 0)) (replicate (length tokens) false) ≡ Ok found
  pub agree : Agree (length tokens) found forks

marked_none : (m : List Bool) → marked [] m ≡ m
unfolding marked
marked_none m = refl

-- the first pass accepts the tokens of a path whose depth is within the limit
pub survey_follows : (low : ℕ → Type 0) → ((n : ℕ) → low (n + 1) → low n) → (depths : List ℕ) → ((n : ℕ) → AreShallow (take n depths) → low n) → (tokens : List Token) (height : ℕ) (forks : List Fork) → Path true low (in_file depths) false (begun (look_of (kinds_of tokens)) (part.Rule rule.Root) 0) 0 (kinds_of tokens) [] height forks
    → Accepts low (length tokens) (length tokens) 0 tokens (first_state (look_at tokens 0)) (replicate (length tokens) false) → Follows tokens forks
survey_follows low falls depths said tokens height forks path lows =
    let kinds = kinds_of tokens in
    let n = length tokens in
    let same : length kinds ≡ n = kinds_length tokens in
    let marks = replicate n false in
    let first : look_at tokens 0 ≡ look_of kinds = look_here tokens 0 in
    let state = first_state (look_of kinds) in
    let t : Tracked low height n 0 kinds state.live state.waiting [] forks = subst (λ (k : ℕ). Tracked low height k 0 kinds state.live state.waiting [] forks) same (started low depths said kinds height forks path) in
    let r = run low falls height n n 0 tokens state marks [] forks kinds t same (whole_looks tokens n) (subst (λ (l : Look). Accepts low n n 0 tokens (first_state l) marks) first lows) (subst (Open n 0) (sym (marked_none marks)) (open_first n)) in
    record {
      found = r.found;
      accepts = ap (λ (l : Look). surveyed n 0 tokens (first_state l) marks) first ∙ r.accepts;
      agree = r.agree;
    }

-- and refuses none of the tokens that another list has in common with them, up to one before the last
pub front_follows : (low : ℕ → Type 0) → ((n : ℕ) → low (n + 1) → low n) → (depths : List ℕ) → ((n : ℕ) → AreShallow (take n depths) → low n) → (kinds : List TokenKind) (height : ℕ) (forks : List Fork) → Path true low (in_file depths) false (begun (look_of kinds) (part.Rule rule.Root) 0) 0 kinds [] height forks
    → (tokens : List Token) (n m a : ℕ) (marks : List Bool) → n ≤ length kinds → Looks tokens 0 n kinds → Wrong low (surveyed m 0 tokens (first_state (look_at tokens 0)) marks) a → n ≤ a
front_follows low falls depths said kinds height forks path tokens zero m a marks l looks h = omega arith
front_follows low falls depths said kinds height forks path tokens (suc n) m a marks l looks h =
    let first : look_at tokens 0 ≡ look_of kinds = looks_here tokens 0 n kinds looks in
    let state = first_state (look_of kinds) in
    let e = front_run low falls height (length kinds) (suc n) m 0 tokens state marks [] forks kinds a (started low depths said kinds height forks path) l looks
    (subst (λ (u : Look). Wrong low (surveyed m 0 tokens (first_state u) marks) a) first h) in
    omega arith

-- lists that have one more token in common
look_take : (a b : List TokenKind) (n i : ℕ) → i < n → take (suc n) a ≡ take (suc n) b → look_of (drop i a) ≡ look_of (drop i b)
look_take a b zero i l e = absurd (omega arith)
look_take [] [] (suc n) i l e = refl
look_take [] (k ∷ b) (suc n) i l e = absurd (cc)
look_take (j ∷ a) [] (suc n) i l e = absurd (cc)
look_take (j ∷ a) (k ∷ b) (suc n) (suc i) l e = look_take a b n i (omega arith) (cc)
look_take (j ∷ []) (k ∷ []) (suc n) zero l e = let h : j ≡ k = cc in ap (λ (x : TokenKind). look_of (x ∷ [])) h
look_take (j ∷ []) (k ∷ q ∷ b) (suc n) zero l e = absurd (cc)
look_take (j ∷ p ∷ a) (k ∷ []) (suc n) zero l e = absurd (cc)
look_take (j ∷ p ∷ a) (k ∷ q ∷ b) (suc n) zero l e = let h : j ≡ k = cc in let g : p ≡ q = cc in ap (λ (x : TokenKind). look_of (x ∷ p ∷ a)) h ∙ ap (λ (x : TokenKind). record { kind = k; next = x }) g

pub common_looks : (tokens : List Token) (kinds : List TokenKind) (n : ℕ) → take (n + 1) (kinds_of tokens) ≡ take (n + 1) kinds → Looks tokens 0 n kinds
common_looks tokens kinds n e i l =
    let more : n + 1 ≡ suc n = omega arith in
    whole_looks tokens n i l ∙ look_take (kinds_of tokens) kinds n i l (subst (λ (m : ℕ). take m (kinds_of tokens) ≡ take m kinds) more e)
