-- Results by levels settle, and are then the demanded units with all their results.
use Rattle.std.proofs.Common.{◌≡◌, ℕ, ◌≤◌, ◌<◌, List, length, ap, ◌∙◌, sym, subst, inl, inr, arith}
use Rattle.std.proofs.lemmas.Bool.{cases_lt}
use Rattle.std.specs.List.{Contains}
use Rattle.question_runs.specs.Rounds.{Language}
use Rattle.question_runs.specs.RestLaws.{IsAtRest, IsWhole}
use Rattle.unit_levels.specs.Levels.{TellsUnits, units_at, result_at, IsSettled, last_level}
use Rattle.unit_levels.specs.LevelLaws.{SameLevel}
use Rattle.unit_levels.proofs.Growth.{sound-at, known-roots, known-met, known-length, known-result}
use Rattle.unit_levels.proofs.Settled.{same-later, last-settled}
use Rattle.unit_levels.proofs.Rest.{whole}

-- after a settled level nothing changes any more
pub settled-stays : {Q A U R : Type 0} (l : Language Q A U R) (files : Q → A) (roots : List U) (n m : ℕ) → TellsUnits l → IsSettled l files roots n → n ≤ m → SameLevel l files roots m n
settled-stays l files roots n m tells settled below =
    let both = same-later l tells files roots n m below settled in
    record { known = both.0; results = λ u. ap (λ f. f u) both.1 }

-- each settled level with at most so many units is the last one
pub levels-meet : {Q A U R : Type 0} (l : Language Q A U R) (files : Q → A) (roots : List U) (most n : ℕ) → TellsUnits l → IsSettled l files roots n → length (units_at l files roots n) ≤ most → SameLevel l files roots (last_level most) n
levels-meet l files roots most n tells settled few = elim (cases_lt (last_level most) n) [
  | inr below ↦ settled-stays l files roots n (last_level most) tells settled below
  | inl less ↦
      let shorter = known-length l files roots (last_level most) n (omega arith) in
      let last = last-settled l tells files roots most (omega arith) in
      let back = settled-stays l files roots (last_level most) n tells last (omega arith) in
      record { known = sym back.known; results = λ u. sym (back.results u) }
]

-- where more than so many units are known at some level, more are known at the last one
pub many-show : {Q A U R : Type 0} (l : Language Q A U R) (files : Q → A) (roots : List U) (most n : ℕ) → TellsUnits l → most < length (units_at l files roots n) → most < length (units_at l files roots (last_level most))
many-show l files roots most n tells many = elim (cases_lt most (length (units_at l files roots (last_level most)))) [
  | inl more ↦ more
  | inr few ↦ elim (cases_lt (last_level most) n) [
    | inr below ↦ let shorter = known-length l files roots n (last_level most) below in absurd (omega arith)
    | inl less ↦
        let stays = settled-stays l files roots (last_level most) n tells (last-settled l tells files roots most few) (omega arith) in
        let long : length (units_at l files roots n) ≡ length (units_at l files roots (last_level most)) = ap (λ us. length us) stays.known in
        absurd (omega arith)
  ]
]

-- a settled level is at rest
pub settled-rests : {Q A U R : Type 0} (l : Language Q A U R) (files : Q → A) (roots : List U) (n : ℕ) → TellsUnits l → IsSettled l files roots n → IsAtRest l files roots (units_at l files roots n) (result_at l files roots n)
settled-rests l files roots n tells settled = record {
  begun = λ u among. known-roots l tells files roots n u among;
  met = λ u v among meets. subst (λ us. Contains us v) settled.known (known-met l tells files roots n u v among meets);
  finished = λ u among. sym (settled.finished u among) ∙ known-result l tells files roots n u among;
}

-- where at most so many units are known at the last level, they are the demanded ones, with all their results
pub levels-are-whole : {Q A U R : Type 0} (l : Language Q A U R) (files : Q → A) (roots : List U) (most : ℕ) → TellsUnits l → length (units_at l files roots (last_level most)) ≤ most → IsWhole l files roots (units_at l files roots (last_level most)) (result_at l files roots (last_level most))
levels-are-whole l files roots most tells few = whole l files roots (units_at l files roots (last_level most)) (result_at l files roots (last_level most)) (sound-at l files roots (last_level most)) (settled-rests l files roots (last_level most) tells (last-settled l tells files roots most few))
