-- What a run asks of units, and what it needs.
use Rattle.std.proofs.Common.{◌≡◌, Option, Some, None, refl, ap, ◌∙◌, inl, inr}
use Rattle.std.specs.Option.{option_map, option_and_then}
use Rattle.question_runs.specs.Runs.{asked, referred, Run, ends, fails, stops, goes, Asks, stop_of}
use Rattle.question_runs.specs.Rounds.{Language, answer_by, Meets}

-- the question that a run stops for
pub needs-stop : {Q A U R : Type 0} (l : Language Q A U R) (r : Run Q A U R) (v : U) (x : Option Q) → stop_of r ≡ x → option_and_then l.unit_asked x ≡ Some v → (q : Q) × (stop_of r ≡ Some q) × (l.unit_asked q ≡ Some v)
needs-stop l r v None is e = absurd (cc)
needs-stop l r v (Some q) is e = (q, is, e)

pub map-none : {A R : Type 0} (f : R → A) (x : Option R) → option_map f x ≡ None → x ≡ None
map-none f None e = refl
map-none f (Some r) e = absurd (cc)

-- a run meets each unit that it asks for
pub Asks-meets : {Q A U R : Type 0} (l : Language Q A U R) (r : Run Q A U R) (q : Q) (v : U) → Asks r q → l.unit_asked q ≡ Some v → Meets l r v
Asks-meets l (ends y) q v asks e = absurd asks
Asks-meets l fails q v asks e = absurd asks
Asks-meets l (stops p) q v asks e = ap l.unit_asked asks ∙ e
Asks-meets l (goes (asked p a) r) q v asks e = elim asks [
  | inl here ↦ inl (ap l.unit_asked here ∙ e)
  | inr there ↦ inr (Asks-meets l r q v there e)
]
Asks-meets l (goes (referred u) r) q v asks e = inr (Asks-meets l r q v asks e)

pub stop-meets : {Q A U R : Type 0} (l : Language Q A U R) (r : Run Q A U R) (q : Q) (v : U) → stop_of r ≡ Some q → l.unit_asked q ≡ Some v → Meets l r v
stop-meets l (ends y) q v stop e = absurd (cc)
stop-meets l fails q v stop e = absurd (cc)
stop-meets l (stops p) q v stop e = let is : p ≡ q = cc in ap l.unit_asked is ∙ e
stop-meets l (goes (asked p a) r) q v stop e = inr (stop-meets l r q v stop e)
stop-meets l (goes (referred u) r) q v stop e = inr (stop-meets l r q v stop e)

-- what has an answer with some results has it with others that have the unit's result too
option_map-known : {A R : Type 0} (f : R → A) (x y : Option R) (a : A) → ((r : R) → x ≡ Some r → y ≡ Some r) → option_map f x ≡ Some a → option_map f y ≡ Some a
option_map-known f None y a up e = absurd (cc)
option_map-known f (Some r) y a up e = ap (option_map f) (up r refl) ∙ e

pub answer_by-known : {A U R : Type 0} (of_files a : A) (f : R → A) (few more : U → Option R) (o : Option U) → ((v : U) → o ≡ Some v → (r : R) → few v ≡ Some r → more v ≡ Some r) → answer_by of_files f few o ≡ Some a → answer_by of_files f more o ≡ Some a
answer_by-known of_files a f few more None up e = e
answer_by-known of_files a f few more (Some v) up e = option_map-known f (few v) (more v) a (up v refl) e
