-- Results by rounds grow, and so do the runs of the rounds.
use Rattle.std.proofs.Common.{◌≡◌, ℕ, zero, suc, ◌≤◌, [], Option, Some, None, refl, sym, ap, ◌∙◌, subst, inl, inr, arith}
use Rattle.std.proofs.Math.Nat.{eq-or-lt_of_le}
use Rattle.std.specs.Option.{option_map}
use Rattle.question_runs.specs.Runs.{asked, referred, Run, ends, fails, stops, goes}
use Rattle.question_runs.specs.RunLaws.{Lower, AsksFirst, Continues}
use Rattle.question_runs.specs.Rounds.{Language, answer_by, now, run_by, result_of, Meets, round, run_at}
use Rattle.question_runs.proofs.GrowingRuns.{continues-run}

-- more results are more answers
pub option_map-lower : {A R : Type 0} (f : R → A) (x y : Option R) (a : A) → ((r : R) → x ≡ Some r → y ≡ Some r) → option_map f x ≡ Some a → option_map f y ≡ Some a
option_map-lower f None y a up e = absurd (cc)
option_map-lower f (Some r) y a up e = ap (option_map f) (up r refl) ∙ e

-- an answer with other files and results: of the files where it is the same there, and by a result that is there too
pub answer-again : {A U R : Type 0} (old_file new_file a : A) (f : R → A) (few more : U → Option R) (o : Option U) → (o ≡ None → old_file ≡ a → new_file ≡ a) → ((u : U) (r : R) → o ≡ Some u → few u ≡ Some r → more u ≡ Some r) → answer_by old_file f few o ≡ Some a → answer_by new_file f more o ≡ Some a
answer-again old_file new_file a f few more None same up e = let is : old_file ≡ a = cc in ap (λ x. Some x) (same refl is)
answer-again old_file new_file a f few more (Some u) same up e = option_map-lower f (few u) (more u) a (λ r is. up u r refl is) e

pub now-lower : {Q A U R : Type 0} (l : Language Q A U R) (files : Q → A) (few more : U → Option R) → Lower few more → Lower (now l files few) (now l files more)
now-lower l files few more up q a e = answer-again (files q) (files q) a l.answer_of few more (l.unit_asked q) (λ none same. same) (λ u r is at. up u r at) e

pub run_by-continues : {Q A U R : Type 0} (l : Language Q A U R) (files : Q → A) (few more : U → Option R) → Lower few more → (u : U) → Continues (run_by l files few u) (run_by l files more u)
run_by-continues l files few more up u = continues-run l.setting (now l files few) (now l files more) (l.elab u) [] (λ q a asks e. now-lower l files few more up q a e)

-- what a run has, one that goes on in its moves has
pub continues-result : {Q A U R : Type 0} (l : Language Q A U R) (r later : Run Q A U R) (x : R) → Continues r later → result_of l r ≡ Some x → result_of l later ≡ Some x
continues-result l (ends y) later x c e = ap (result_of l) c ∙ e
continues-result l fails later x c e = ap (result_of l) c ∙ e
continues-result l (stops q) later x c e = absurd (cc)
continues-result l (goes m r) later x (rest, (is, c)) e = ap (result_of l) is ∙ continues-result l r rest x c e

AsksFirst-meets : {Q A U R : Type 0} (l : Language Q A U R) (r : Run Q A U R) (q : Q) (u : U) → AsksFirst r q → l.unit_asked q ≡ Some u → Meets l r u
AsksFirst-meets l (ends y) q u asks e = absurd asks
AsksFirst-meets l fails q u asks e = absurd asks
AsksFirst-meets l (stops p) q u asks e = ap l.unit_asked asks ∙ e
AsksFirst-meets l (goes (asked p a) r) q u asks e = inl (ap l.unit_asked asks ∙ e)
AsksFirst-meets l (goes (referred v) r) q u asks e = absurd asks

pub continues-meets : {Q A U R : Type 0} (l : Language Q A U R) (r later : Run Q A U R) (u : U) → Continues r later → Meets l r u → Meets l later u
continues-meets l (ends y) later u c e = absurd e
continues-meets l fails later u c e = absurd e
continues-meets l (stops q) later u c e = AsksFirst-meets l later q u c e
continues-meets l (goes (asked q a) r) later u (rest, (is, c)) e = subst (λ x. Meets l x u) (sym is) (elim e [ inl here ↦ inl here | inr there ↦ inr (continues-meets l r rest u c there) ])
continues-meets l (goes (referred v) r) later u (rest, (is, c)) e = subst (λ x. Meets l x u) (sym is) (elim e [ inl here ↦ inl here | inr there ↦ inr (continues-meets l r rest u c there) ])

-- rounds
round-suc : {Q A U R : Type 0} (l : Language Q A U R) (files : Q → A) (n : ℕ) → Lower (round l files n) (round l files (suc n))
round-suc l files zero u r e = absurd (cc)
round-suc l files (suc n) u r e = continues-result l (run_at l files n u) (run_at l files (suc n) u) r (run_by-continues l files (round l files n) (round l files (suc n)) (round-suc l files n) u) e

pub round-grows : {Q A U R : Type 0} (l : Language Q A U R) (files : Q → A) (n m : ℕ) → n ≤ m → Lower (round l files n) (round l files m)
round-grows l files n zero below u r e = let is : n ≡ zero = omega arith in subst (λ k. round l files k u ≡ Some r) is e
round-grows l files n (suc m) below u r e = elim (eq-or-lt_of_le below) [ inl is ↦ subst (λ k. round l files k u ≡ Some r) is e | inr less ↦ round-suc l files m u r (round-grows l files n m (omega arith) u r e) ]

pub run_at-continues : {Q A U R : Type 0} (l : Language Q A U R) (files : Q → A) (n m : ℕ) (u : U) → n ≤ m → Continues (run_at l files n u) (run_at l files m u)
run_at-continues l files n m u below = run_by-continues l files (round l files n) (round l files m) (round-grows l files n m below) u
