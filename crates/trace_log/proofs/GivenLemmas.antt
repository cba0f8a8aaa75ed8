-- Answers by indices are those that a snapshot gives to what the questions stand for.
use Rattle.std.proofs.Common.{◌≡◌, ℕ, Some, None, Option, List, refl, sym, ap, ◌∙◌, subst}
use Rattle.std.specs.Option.{option_map, option_and_then}
use Rattle.zir_form.specs.Core.{Core}
use Rattle.zir_form.specs.declared.zir.NameRef.{NameRef}
use Rattle.zir_form.specs.declared.exports.FileExports.{FileExports}
use Rattle.zir_form.specs.Front.{front_in, import_answer, name_answer}
use Rattle.type_form.specs.declared.index.Index.{Index}
use Rattle.type_form.specs.Known.{Known, IsInjective}
use Rattle.type_form.specs.Means.{Grows, ty_at, IsBytes, bytes_at}
use Rattle.elab_form.specs.Questions as plain
use Rattle.trace_log.specs.declared.answer.Answer.{Answer}
use Rattle.trace_log.specs.declared.answer.Answer.TheVariants as answer
use Rattle.trace_log.specs.declared.answers.Answers.{Answers}
use Rattle.trace_log.specs.declared.question.UnitIndex.{UnitIndex}
use Rattle.trace_log.specs.declared.result.UnitResult.{UnitResult}
use Rattle.trace_log.specs.declared.result.UnitResult.TheVariants as result
use Rattle.trace_log.specs.Files.{Stand, file_answer, name_in, stand_of, text_in}
use Rattle.trace_log.specs.Readings.{IsAnswer, answer_at, IsUnit, unit_at, IsUnitResult, LinesOf, unit_result_at}
use Rattle.trace_log.specs.Snapshots.{AreAnswers, answer_of, files_at, front_at, given_at, result_get}
use Rattle.trace_log.proofs.IndexLemmas.{unit_index-at}
use Rattle.trace_log.proofs.StandLemmas.{file_then}

-- ---- what files answer

pub given-text : (k : Known) (a : Answers) (p : plain.TextPart) (o : Option Core) → o ≡ text_in (files_at k a) p → Some (plain.tree o) ≡ given_at k a (plain.text p)
unfolding given_at file_answer
given-text k a p o e = ap (λ x. Some (plain.tree x)) e

pub given-name : (k : Known) (a : Answers) (container name : Index) (o : Option NameRef) → o ≡ name_in (files_at k a) (ty_at k container) (bytes_at k name)
    → Some (plain.declaration o) ≡ given_at k a (plain.name (ty_at k container) (bytes_at k name))
unfolding given_at file_answer
given-name k a container name o e = ap (λ x. Some (plain.declaration x)) e

pub given-exports : (k : Known) (a : Answers) (path : Index) (o : Option FileExports) → IsInjective k → IsBytes k path
    → o ≡ option_and_then (λ f. import_answer (front_in f)) (front_at a path)
    → Some (plain.exports o) ≡ given_at k a (plain.import (bytes_at k path))
unfolding given_at file_answer
given-exports k a path o g b e = ap (λ x. Some (plain.exports x)) (e ∙ sym (file_then k a path import_answer g b))

-- the declaration of a name, by where its container stands
pub name-in : (k l : Known) (a : Answers) (container name : Index) (bytes : List ℕ) (s : Option Stand) → Grows k l → IsInjective k → IsInjective l → AreAnswers k a → IsBytes k name
    → s ≡ stand_of (files_at k a) (ty_at k container) → bytes ≡ bytes_at l name
    → option_and_then (λ t. name_answer t.file t.container bytes) s ≡ name_in (files_at k a) (ty_at k container) (bytes_at k name)
name-in k l a container name bytes s g m n h b is read =
    ap (λ x. option_and_then (λ t. name_answer t.file t.container x) s) (read ∙ g.stays.bytes name b)
    ∙ ap (option_and_then (λ t. name_answer t.file t.container (bytes_at k name))) is

-- ---- results

result-answer : (k : Known) (lines : LinesOf) (o : Option UnitResult)
    → option_map (answer_at k lines) (option_map answer_of o) ≡ option_map plain.answer_of (option_map (unit_result_at k) o)
result-answer k lines None = refl
result-answer k lines (Some (result.Good v)) = refl
result-answer k lines (Some (result.Failed d)) = refl

pub given-result : (k : Known) (lines : LinesOf) (a : Answers) (u : UnitIndex) → IsInjective k → IsUnit k u
    → option_map (answer_at k lines) (option_map answer_of (result_get a u)) ≡ given_at k a (plain.result (unit_at k u))
unfolding given_at
given-result k lines a u g h =
    result-answer k lines (result_get a u)
    ∙ ap (λ i. option_map plain.answer_of (option_map (unit_result_at k) (option_and_then (result_get a) i))) (sym (unit_index-at k g u h))

known-of : (k : Known) (o : Option UnitResult) → ((r : UnitResult) → o ≡ Some r → IsUnitResult k r) → (x : Answer) → option_map answer_of o ≡ Some x → IsAnswer k x
known-of k None h x e = absurd (cc)
known-of k (Some (result.Good v)) h x e = let same : answer.Given v ≡ x = cc in subst (IsAnswer k) same (h (result.Good v) refl)
known-of k (Some (result.Failed d)) h x e = let same : answer.Failure ≡ x = cc in subst (IsAnswer k) same tt

pub given-known : (k : Known) (a : Answers) (u : UnitIndex) (x : Answer) → AreAnswers k a → option_map answer_of (result_get a u) ≡ Some x → IsAnswer k x
given-known k a u x h e = known-of k (result_get a u) (λ r f. h.results u r f) x e
