-- Parts, units and questions are one exactly where their indices are, and then they stand for the same.
use Rattle.std.proofs.Common.{◌≡◌, ◌==◌, Bool, true, false, ◌&&◌, Some, Option, List, [], ◌∷◌, refl, sym, ap, ap₂, ◌∙◌, if◌then◌else◌}
use Rattle.std.specs.Option.{option_map}
use Rattle.std.proofs.lemmas.Bool.{eqb-true, eq-eqb}
use Rattle.type_form.specs.declared.index.Index.{Index}
use Rattle.type_form.specs.Known.{Known, IsInjective}
use Rattle.type_form.specs.Means.{ty_at, decl_at, instance_at, bytes_at}
use Rattle.type_form.proofs.LayerLemmas.{ty_at-injective, decl_at-injective, instance_at-injective, bytes_at-injective}
use Rattle.question_runs.specs.Runs as runs
use Rattle.elab_form.specs.Questions as plain
use Rattle.elab_form.proofs.Sameness.{same_question-self as plain-self, same_question-true as plain-true, true-together}
use Rattle.trace_log.specs.declared.question.TextPart.{TextPart}
use Rattle.trace_log.specs.declared.question.TextPart.TheVariants as part
use Rattle.trace_log.specs.declared.question.UnitIndex.{UnitIndex}
use Rattle.trace_log.specs.declared.question.UnitIndex.TheVariants as unit
use Rattle.trace_log.specs.declared.question.Question.{Question}
use Rattle.trace_log.specs.declared.question.Question.TheVariants as question
use Rattle.trace_log.specs.declared.trace.Move.{Move}
use Rattle.trace_log.specs.declared.trace.Move.TheVariants as move
use Rattle.trace_log.specs.Readings.{IsPart, part_at, IsUnit, unit_at, IsQuestion, question_at, AreMoves, LinesOf, answer_at, moves_at}
use Rattle.trace_log.specs.TableStates.{same_part, same_unit, same_question}
use Rattle.trace_log.specs.Traces.{recall}

both-true : (a b : Bool) → (a && b) ≡ true → (a ≡ true) × (b ≡ true)
both-true true true e = (refl, refl)
both-true true false e = absurd (cc)
both-true false b e = absurd (cc)

index-true : (i j : Index) → (i.0 == j.0) ≡ true → i ≡ j
index-true i j e = ap (λ n. record { 0 = n }) (eqb-true i.0 j.0 e)

index-self : (i : Index) → (i.0 == i.0) ≡ true
index-self i = eq-eqb i.0 i.0 refl

-- ---- by their indices

same_part-self : (p : TextPart) → same_part p p ≡ true
same_part-self (part.Head i) = index-self i
same_part-self (part.Whole i) = index-self i
same_part-self (part.Fields i) = index-self i
same_part-self (part.Block file n) = ap₂ (λ x y. x && y) (index-self file) (eq-eqb n n refl)

same_part-true : (p q : TextPart) → same_part p q ≡ true → p ≡ q
same_part-true (part.Head i) (part.Head j) e = ap part.Head (index-true i j e)
same_part-true (part.Whole i) (part.Whole j) e = ap part.Whole (index-true i j e)
same_part-true (part.Fields i) (part.Fields j) e = ap part.Fields (index-true i j e)
same_part-true (part.Block f m) (part.Block g n) e =
    let parts = both-true (f.0 == g.0) (m == n) e in
    ap₂ part.Block (index-true f g parts.0) (eqb-true m n parts.1)
same_part-true _ _ e = absurd (cc)

pub same_unit-self : (u : UnitIndex) → same_unit u u ≡ true
same_unit-self (unit.Decl i) = index-self i
same_unit-self (unit.Body i) = index-self i
same_unit-self (unit.ErrorSet i) = index-self i
same_unit-self (unit.Fields i) = index-self i
same_unit-self (unit.Code i) = index-self i
same_unit-self (unit.Comptime file n) = ap₂ (λ x y. x && y) (index-self file) (eq-eqb n n refl)

pub same_unit-true : (u v : UnitIndex) → same_unit u v ≡ true → u ≡ v
same_unit-true (unit.Decl i) (unit.Decl j) e = ap unit.Decl (index-true i j e)
same_unit-true (unit.Body i) (unit.Body j) e = ap unit.Body (index-true i j e)
same_unit-true (unit.ErrorSet i) (unit.ErrorSet j) e = ap unit.ErrorSet (index-true i j e)
same_unit-true (unit.Fields i) (unit.Fields j) e = ap unit.Fields (index-true i j e)
same_unit-true (unit.Code i) (unit.Code j) e = ap unit.Code (index-true i j e)
same_unit-true (unit.Comptime f m) (unit.Comptime g n) e =
    let parts = both-true (f.0 == g.0) (m == n) e in
    ap₂ unit.Comptime (index-true f g parts.0) (eqb-true m n parts.1)
same_unit-true _ _ e = absurd (cc)

pub same_question-self : (q : Question) → same_question q q ≡ true
same_question-self (question.Text p) = same_part-self p
same_question-self (question.Name c n) = ap₂ (λ x y. x && y) (index-self c) (index-self n)
same_question-self (question.Import path) = index-self path
same_question-self (question.Result u) = same_unit-self u

pub same_question-true : (p q : Question) → same_question p q ≡ true → p ≡ q
same_question-true (question.Text p) (question.Text q) e = ap question.Text (same_part-true p q e)
same_question-true (question.Name c m) (question.Name d n) e =
    let parts = both-true (c.0 == d.0) (m.0 == n.0) e in
    ap₂ question.Name (index-true c d parts.0) (index-true m n parts.1)
same_question-true (question.Import i) (question.Import j) e = ap question.Import (index-true i j e)
same_question-true (question.Result u) (question.Result v) e = ap question.Result (same_unit-true u v e)
same_question-true _ _ e = absurd (cc)

-- ---- by what they stand for

part_at-injective : (k : Known) (p q : TextPart) → IsInjective k → IsPart k p → IsPart k q → part_at k p ≡ part_at k q → p ≡ q
part_at-injective k (part.Head i) (part.Head j) g a b e = let d : decl_at k i ≡ decl_at k j = cc in ap part.Head (decl_at-injective k i j g a b d)
part_at-injective k (part.Whole i) (part.Whole j) g a b e = let d : decl_at k i ≡ decl_at k j = cc in ap part.Whole (decl_at-injective k i j g a b d)
part_at-injective k (part.Fields i) (part.Fields j) g a b e = let d : ty_at k i ≡ ty_at k j = cc in ap part.Fields (ty_at-injective k i j g a b d)
part_at-injective k (part.Block f m) (part.Block h n) g a b e =
    let d : bytes_at k f ≡ bytes_at k h = cc in
    let c : m ≡ n = cc in
    ap₂ part.Block (bytes_at-injective k f h g a b d) c
part_at-injective k _ _ g a b e = absurd (cc)

pub unit_at-injective : (k : Known) (u v : UnitIndex) → IsInjective k → IsUnit k u → IsUnit k v → unit_at k u ≡ unit_at k v → u ≡ v
unit_at-injective k (unit.Decl i) (unit.Decl j) g a b e = let d : decl_at k i ≡ decl_at k j = cc in ap unit.Decl (decl_at-injective k i j g a b d)
unit_at-injective k (unit.Body i) (unit.Body j) g a b e = let d : instance_at k i ≡ instance_at k j = cc in ap unit.Body (instance_at-injective k i j g a b d)
unit_at-injective k (unit.ErrorSet i) (unit.ErrorSet j) g a b e = let d : instance_at k i ≡ instance_at k j = cc in ap unit.ErrorSet (instance_at-injective k i j g a b d)
unit_at-injective k (unit.Fields i) (unit.Fields j) g a b e = let d : ty_at k i ≡ ty_at k j = cc in ap unit.Fields (ty_at-injective k i j g a b d)
unit_at-injective k (unit.Code i) (unit.Code j) g a b e = let d : instance_at k i ≡ instance_at k j = cc in ap unit.Code (instance_at-injective k i j g a b d)
unit_at-injective k (unit.Comptime f m) (unit.Comptime h n) g a b e =
    let d : bytes_at k f ≡ bytes_at k h = cc in
    let c : m ≡ n = cc in
    ap₂ unit.Comptime (bytes_at-injective k f h g a b d) c
unit_at-injective k _ _ g a b e = absurd (cc)

pub question_at-injective : (k : Known) (p q : Question) → IsInjective k → IsQuestion k p → IsQuestion k q → question_at k p ≡ question_at k q → p ≡ q
question_at-injective k (question.Text p) (question.Text q) g a b e = let d : part_at k p ≡ part_at k q = cc in ap question.Text (part_at-injective k p q g a b d)
question_at-injective k (question.Name c m) (question.Name d n) g a b e =
    let s : ty_at k c ≡ ty_at k d = cc in
    let t : bytes_at k m ≡ bytes_at k n = cc in
    ap₂ question.Name (ty_at-injective k c d g a.0 b.0 s) (bytes_at-injective k m n g a.1 b.1 t)
question_at-injective k (question.Import i) (question.Import j) g a b e = let d : bytes_at k i ≡ bytes_at k j = cc in ap question.Import (bytes_at-injective k i j g a b d)
question_at-injective k (question.Result u) (question.Result v) g a b e = let d : unit_at k u ≡ unit_at k v = cc in ap question.Result (unit_at-injective k u v g a b d)
question_at-injective k _ _ g a b e = absurd (cc)

-- the test on what they stand for is the test on their indices
pub same_question-at : (k : Known) (p q : Question) → IsInjective k → IsQuestion k p → IsQuestion k q
    → plain.same_question (question_at k p) (question_at k q) ≡ same_question p q
same_question-at k p q g a b =
    true-together _ _
    (λ e. ap (same_question p) (sym (question_at-injective k p q g a b (plain-true (question_at k p) (question_at k q) e))) ∙ same_question-self p)
    (λ e. ap (λ r. plain.same_question (question_at k p) (question_at k r)) (sym (same_question-true p q e)) ∙ plain-self (question_at k p))

-- what was answered among moves, in what they stand for
pub recall-at : (k : Known) (lines : LinesOf) (ms : List Move) (q : Question) → IsInjective k → AreMoves k ms → IsQuestion k q
    → runs.recall plain.same_question (moves_at k lines ms) (question_at k q) ≡ option_map (answer_at k lines) (recall ms q)
recall-at k lines [] q g h b = refl
recall-at k lines (move.Referred u ∷ ms) q g h b = recall-at k lines ms q g h.1 b
recall-at k lines (move.Asked p a ∷ ms) q g h b =
    let before : Option plain.Answer = runs.recall plain.same_question (moves_at k lines ms) (question_at k q) in
    let later : before ≡ option_map (answer_at k lines) (recall ms q) = recall-at k lines ms q g h.1 b in
    ap (λ c. if c then Some (answer_at k lines a) else before) (same_question-at k p q g h.0.0 b)
    ∙ elim (same_question p q) as (λ c. (if c then Some (answer_at k lines a) else before) ≡ option_map (answer_at k lines) (if c then Some a else recall ms q)) [
      | true ↦ refl
      | false ↦ later
    ]

pub ruleset traces_recalling = (same_question-at, recall-at)
