-- Runs of workers against the unit's run now.
use Rattle.std.proofs.Common.{◌≡◌, ◌≢◌, ℕ, Bool, Option, Some, None, refl, sym, ap, ◌∙◌, subst, inl, inr}
use Rattle.question_runs.specs.Runs.{Run, ends, fails, stops, goes, asked, referred, trace_of, Answers, Gives, IsRunOf}
use Rattle.question_runs.specs.RunLaws.{AsksFirst, Continues}
use Rattle.question_runs.specs.Rounds.{Language, now, run_by, needs, Meets}
use Rattle.question_runs.proofs.RunSteps.{IsRunOf-run}
use Rattle.question_runs.proofs.GrowingRuns.{goes-on}
use Rattle.question_runs.proofs.GrowingRounds.{continues-meets}
use Rattle.sched_core.specs.declared.event.Event.{Event}
use Rattle.sched_core.specs.declared.event.Event.TheVariants as event
use Rattle.sched_core.specs.Machine.{Schedule, IsSameness, stand, IsKnown, done_in, Enabled, after}
use Rattle.sched_laws.specs.Honest.{AllKnown, KnownUpTo, run_in}
use Rattle.sched_laws.proofs.EventFacts.{done-stays, done-new}

pub whole-run : {Q A U R : Type 0} (l : Language Q A U R) (files : Q → A) (s : Schedule U R) (u : U) (r : Run Q A U R) → IsRunOf l.setting (l.elab u) r → Answers (now l files (done_in l.same_unit s)) r → run_in l files s u ≡ r
whole-run l files s u r is w = IsRunOf-run l.setting (now l files (done_in l.same_unit s)) (l.elab u) r is w

part-continues : {Q A U R : Type 0} (l : Language Q A U R) (files : Q → A) (s : Schedule U R) (u : U) (r : Run Q A U R) → IsRunOf l.setting (l.elab u) r → Gives (now l files (done_in l.same_unit s)) (trace_of r) → Continues r (run_in l files s u)
part-continues l files s u r is w = goes-on l.setting (l.elab u) r (now l files (done_in l.same_unit s)) is w

pub part-meets : {Q A U R : Type 0} (l : Language Q A U R) (files : Q → A) (s : Schedule U R) (u v : U) (r : Run Q A U R) → IsRunOf l.setting (l.elab u) r → Gives (now l files (done_in l.same_unit s)) (trace_of r) → Meets l r v → Meets l (run_in l files s u) v
part-meets l files s u v r is w meets = continues-meets l r (run_in l files s u) v (part-continues l files s u r is w) meets

AsksFirst-known : {Q A U R : Type 0} (l : Language Q A U R) (s : Schedule U R) (r : Run Q A U R) (q : Q) (v : U) → AsksFirst r q → l.unit_asked q ≡ Some v → IsKnown l.same_unit s v → KnownUpTo l s r v
AsksFirst-known l s (ends x) q v asks at known = absurd asks
AsksFirst-known l s fails q v asks at known = absurd asks
AsksFirst-known l s (stops p) q v asks at known = ap l.unit_asked asks ∙ at
AsksFirst-known l s (goes (asked p a) r) q v asks at known = (λ u at'. let here : l.unit_asked p ≡ Some v = ap l.unit_asked asks ∙ at in let one : v ≡ u = cc in subst (IsKnown l.same_unit s) one known, inl (ap l.unit_asked asks ∙ at))
AsksFirst-known l s (goes (referred u) r) q v asks at known = absurd asks

continues-known : {Q A U R : Type 0} (l : Language Q A U R) (s : Schedule U R) (r later : Run Q A U R) (v : U) → Continues r later → needs l r ≡ Some v → AllKnown l s r → KnownUpTo l s later v
continues-known l s (ends x) later v c need all = absurd (cc)
continues-known l s fails later v c need all = absurd (cc)
continues-known l s (stops q) later v c need all = AsksFirst-known l s later q v c need (all v need)
continues-known l s (goes (asked q a) r) later v (rest, (is, c)) need all = subst (λ x. KnownUpTo l s x v) (sym is) (λ u at. all u (inl at), inr (continues-known l s r rest v c need (λ u meets. all u (inr meets))))
continues-known l s (goes (referred u) r) later v (rest, (is, c)) need all = subst (λ x. KnownUpTo l s x v) (sym is) (all u (inl refl), continues-known l s r rest v c need (λ u' meets. all u' (inr meets)))

pub part-needs : {Q A U R : Type 0} (l : Language Q A U R) (files : Q → A) (s : Schedule U R) (u v : U) (r : Run Q A U R) → IsRunOf l.setting (l.elab u) r → Gives (now l files (done_in l.same_unit s)) (trace_of r) → needs l r ≡ Some v → AllKnown l s r → KnownUpTo l s (run_in l files s u) v
part-needs l files s u v r is w need all = continues-known l s r (run_in l files s u) v (part-continues l files s u r is w) need all

-- an event that is no finish leaves all results
done-same : {U R : Type 0} (same : U → U → Bool) (laws : IsSameness same) (s : Schedule U R) (e : Event U R) → Enabled same s e → ((w : ℕ) (u : U) (r : R) → e ≢ event.Finish w u r) → (v : U) (x y : Option R) → done_in same s v ≡ x → done_in same (after same s e) v ≡ y → y ≡ x
done-same same laws s e enabled not_so v (Some r) y is is' = sym is' ∙ done-stays same laws s e enabled v r is
done-same same laws s e enabled not_so v None None is is' = refl
done-same same laws s e enabled not_so v None (Some r) is is' = elim (done-new same laws s e v r (stand same s v) refl is') [ inl old ↦ absurd (cc) | inr (w, finish) ↦ absurd (not_so w v r finish) ]

pub runs-last : {Q A U R : Type 0} (l : Language Q A U R) (files : Q → A) (s : Schedule U R) (e : Event U R) → IsSameness l.same_unit → Enabled l.same_unit s e → ((w : ℕ) (u : U) (r : R) → e ≢ event.Finish w u r) → (u : U) → run_in l files (after l.same_unit s e) u ≡ run_in l files s u
runs-last {U = U} {R = R} l files s e laws enabled not_so u = let same : done_in l.same_unit (after l.same_unit s e) ≡ done_in l.same_unit s = (λ i v. done-same l.same_unit laws s e enabled not_so v (done_in l.same_unit s v) (done_in l.same_unit (after l.same_unit s e) v) refl refl i) in ap (λ results. run_by l files results u) same
