-- What questions, results and answers stand for stays as more is known.
use Rattle.std.proofs.Common.{◌≡◌, Some, None, List, [], ◌∷◌, refl, ap, ap₂}
use Rattle.type_form.specs.Known.{Known}
use Rattle.type_form.specs.Means.{Grows, ty_at, decl_at, instance_at, bytes_at}
use Rattle.air_form.proofs.Trees.{IsBody-grows, body-grows}
use Rattle.elab_form.specs.Questions as plain
use Rattle.question_runs.specs.Runs as runs
use Rattle.trace_log.specs.declared.answer.Answer.{Answer}
use Rattle.trace_log.specs.declared.answer.Answer.TheVariants as answer
use Rattle.trace_log.specs.declared.question.TextPart.{TextPart}
use Rattle.trace_log.specs.declared.question.TextPart.TheVariants as part
use Rattle.trace_log.specs.declared.question.UnitIndex.{UnitIndex}
use Rattle.trace_log.specs.declared.question.UnitIndex.TheVariants as unit
use Rattle.trace_log.specs.declared.question.Question.{Question}
use Rattle.trace_log.specs.declared.question.Question.TheVariants as question
use Rattle.trace_log.specs.declared.result.Spot.{Spot}
use Rattle.trace_log.specs.declared.result.Spot.TheVariants as spot
use Rattle.trace_log.specs.declared.result.UnitValue.{UnitValue}
use Rattle.trace_log.specs.declared.result.UnitValue.TheVariants as value
use Rattle.trace_log.specs.declared.result.UnitResult.{UnitResult}
use Rattle.trace_log.specs.declared.result.UnitResult.TheVariants as result
use Rattle.trace_log.specs.declared.trace.Move.{Move}
use Rattle.trace_log.specs.declared.trace.Move.TheVariants as move
use Rattle.trace_log.specs.Readings.{IsPart, part_at, IsUnit, unit_at, IsQuestion, question_at, IsSpot, spot_at, IsUnitValue, unit_value_at, IsUnitResult, unit_result_at, LinesOf, IsAnswer, answer_at, AreMoves, moves_at}

pub IsPart-grows : (k l : Known) (p : TextPart) → Grows k l → IsPart k p → IsPart l p
IsPart-grows k l (part.Head i) g h = g.stays.is_decl i h
IsPart-grows k l (part.Whole i) g h = g.stays.is_decl i h
IsPart-grows k l (part.Fields i) g h = g.stays.is_ty i h
IsPart-grows k l (part.Block file n) g h = g.stays.is_bytes file h

pub part-grows : (k l : Known) (p : TextPart) → Grows k l → IsPart k p → part_at l p ≡ part_at k p
part-grows k l (part.Head i) g h = ap plain.head (g.stays.decl i h)
part-grows k l (part.Whole i) g h = ap plain.whole (g.stays.decl i h)
part-grows k l (part.Fields i) g h = ap plain.TextPart.fields (g.stays.ty i h)
part-grows k l (part.Block file n) g h = ap (λ f. plain.block f n) (g.stays.bytes file h)

pub IsUnit-grows : (k l : Known) (u : UnitIndex) → Grows k l → IsUnit k u → IsUnit l u
IsUnit-grows k l (unit.Decl i) g h = g.stays.is_decl i h
IsUnit-grows k l (unit.Body i) g h = g.stays.is_instance i h
IsUnit-grows k l (unit.ErrorSet i) g h = g.stays.is_instance i h
IsUnit-grows k l (unit.Fields i) g h = g.stays.is_ty i h
IsUnit-grows k l (unit.Code i) g h = g.stays.is_instance i h
IsUnit-grows k l (unit.Comptime file n) g h = g.stays.is_bytes file h

pub unit-grows : (k l : Known) (u : UnitIndex) → Grows k l → IsUnit k u → unit_at l u ≡ unit_at k u
unit-grows k l (unit.Decl i) g h = let e : decl_at l i ≡ decl_at k i = g.stays.decl i h in cc
unit-grows k l (unit.Body i) g h = let e : instance_at l i ≡ instance_at k i = g.stays.instance i h in cc
unit-grows k l (unit.ErrorSet i) g h = let e : instance_at l i ≡ instance_at k i = g.stays.instance i h in cc
unit-grows k l (unit.Fields i) g h = let e : ty_at l i ≡ ty_at k i = g.stays.ty i h in cc
unit-grows k l (unit.Code i) g h = let e : instance_at l i ≡ instance_at k i = g.stays.instance i h in cc
unit-grows k l (unit.Comptime file n) g h = let e : bytes_at l file ≡ bytes_at k file = g.stays.bytes file h in cc

pub IsQuestion-grows : (k l : Known) (q : Question) → Grows k l → IsQuestion k q → IsQuestion l q
IsQuestion-grows k l (question.Text p) g h = IsPart-grows k l p g h
IsQuestion-grows k l (question.Name c n) g h = (g.stays.is_ty c h.0, g.stays.is_bytes n h.1)
IsQuestion-grows k l (question.Import path) g h = g.stays.is_bytes path h
IsQuestion-grows k l (question.Result u) g h = IsUnit-grows k l u g h

pub question-grows : (k l : Known) (q : Question) → Grows k l → IsQuestion k q → question_at l q ≡ question_at k q
question-grows k l (question.Text p) g h = ap plain.text (part-grows k l p g h)
question-grows k l (question.Name c n) g h = ap₂ plain.name (g.stays.ty c h.0) (g.stays.bytes n h.1)
question-grows k l (question.Import path) g h = ap plain.import (g.stays.bytes path h)
question-grows k l (question.Result u) g h = ap plain.result (unit-grows k l u g h)

IsSpot-grows : (k l : Known) (s : Spot) → Grows k l → IsSpot k s → IsSpot l s
IsSpot-grows k l (spot.Within p place) g h = IsPart-grows k l p g h
IsSpot-grows k l (spot.Named i) g h = g.stays.is_decl i h

spot-grows : (k l : Known) (s : Spot) → Grows k l → IsSpot k s → spot_at l s ≡ spot_at k s
spot-grows k l (spot.Within p place) g h = ap (λ x. plain.within x place) (part-grows k l p g h)
spot-grows k l (spot.Named i) g h = ap plain.named (g.stays.decl i h)

pub IsUnitValue-grows : (k l : Known) (v : UnitValue) → Grows k l → IsUnitValue k v → IsUnitValue l v
IsUnitValue-grows k l (value.Constant i) g h = g.stays.is_value i h
IsUnitValue-grows k l (value.Variable i) g h = g.stays.is_value i h
IsUnitValue-grows k l (value.Body b) g h = IsBody-grows k l b g h
IsUnitValue-grows k l (value.ErrorSet i) g h = g.stays.is_names i h
IsUnitValue-grows k l (value.Fields f) g h = tt
IsUnitValue-grows k l (value.Code c) g h = tt
IsUnitValue-grows k l value.Nothing g h = tt

pub unit_value-grows : (k l : Known) (v : UnitValue) → Grows k l → IsUnitValue k v → unit_value_at l v ≡ unit_value_at k v
unit_value-grows k l (value.Constant i) g h = ap plain.constant (g.stays.value i h)
unit_value-grows k l (value.Variable i) g h = ap plain.variable (g.stays.value i h)
unit_value-grows k l (value.Body b) g h = ap plain.body (body-grows k l b g h)
unit_value-grows k l (value.ErrorSet i) g h = ap plain.error_set (g.stays.names i h)
unit_value-grows k l (value.Fields f) g h = refl
unit_value-grows k l (value.Code c) g h = refl
unit_value-grows k l value.Nothing g h = refl

pub IsUnitResult-grows : (k l : Known) (r : UnitResult) → Grows k l → IsUnitResult k r → IsUnitResult l r
IsUnitResult-grows k l (result.Good v) g h = IsUnitValue-grows k l v g h
IsUnitResult-grows k l (result.Failed None) g h = tt
IsUnitResult-grows k l (result.Failed (Some d)) g h = IsSpot-grows k l d.spot g h

pub unit_result-grows : (k l : Known) (r : UnitResult) → Grows k l → IsUnitResult k r → unit_result_at l r ≡ unit_result_at k r
unit_result-grows k l (result.Good v) g h = ap plain.good (unit_value-grows k l v g h)
unit_result-grows k l (result.Failed None) g h = refl
unit_result-grows k l (result.Failed (Some d)) g h = let e : spot_at l d.spot ≡ spot_at k d.spot = spot-grows k l d.spot g h in cc

pub IsAnswer-grows : (k l : Known) (a : Answer) → Grows k l → IsAnswer k a → IsAnswer l a
IsAnswer-grows k l (answer.Tree r) g h = tt
IsAnswer-grows k l (answer.Declaration r) g h = tt
IsAnswer-grows k l (answer.Exports e) g h = tt
IsAnswer-grows k l (answer.Given v) g h = IsUnitValue-grows k l v g h
IsAnswer-grows k l answer.Failure g h = tt

pub answer-grows : (k l : Known) (lines : LinesOf) (a : Answer) → Grows k l → IsAnswer k a → answer_at l lines a ≡ answer_at k lines a
answer-grows k l lines (answer.Tree r) g h = refl
answer-grows k l lines (answer.Declaration r) g h = refl
answer-grows k l lines (answer.Exports e) g h = refl
answer-grows k l lines (answer.Given v) g h = ap plain.given (unit_value-grows k l v g h)
answer-grows k l lines answer.Failure g h = refl

pub AreMoves-grows : (k l : Known) (ms : List Move) → Grows k l → AreMoves k ms → AreMoves l ms
AreMoves-grows k l [] g h = tt
AreMoves-grows k l (move.Asked q a ∷ ms) g h = ((IsQuestion-grows k l q g h.0.0, IsAnswer-grows k l a g h.0.1), AreMoves-grows k l ms g h.1)
AreMoves-grows k l (move.Referred u ∷ ms) g h = (IsUnit-grows k l u g h.0, AreMoves-grows k l ms g h.1)

pub moves-grow : (k l : Known) (lines : LinesOf) (ms : List Move) → Grows k l → AreMoves k ms → moves_at l lines ms ≡ moves_at k lines ms
moves-grow k l lines [] g h = refl
moves-grow k l lines (move.Asked q a ∷ ms) g h =
    ap₂ (λ m rest. m ∷ rest) (ap₂ runs.asked (question-grows k l q g h.0.0) (answer-grows k l lines a g h.0.1)) (moves-grow k l lines ms g h.1)
moves-grow k l lines (move.Referred u ∷ ms) g h =
    ap₂ (λ m rest. m ∷ rest) (ap runs.referred (unit-grows k l u g h.0)) (moves-grow k l lines ms g h.1)

pub ruleset questions_growing = (IsQuestion-grows, question-grows)

pub ruleset results_growing = (IsUnitResult-grows, unit_result-grows)

pub ruleset traces_growing = (AreMoves-grows, moves-grow)
