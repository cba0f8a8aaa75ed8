-- The cases of a compilation, one after another.
use Rattle.std.proofs.Common.{◌≡◌, ℕ, ◌==◌, true, false, List, [], ◌∷◌, ◌++◌, length, map, Option, None, Some, Result, IfOk, refl, ap, sym, ◌∙◌, subst, append-nil, arith}
use Rattle.std.specs.Prelude.{IsSome}
use Rattle.std.specs.Global.{Vec}
use Rattle.zw_base.specs.declared.diag.Found.{Found}
use Rattle.zw_base.specs.Outside.{file_at}
use Rattle.zw_base.specs.declared.diag.DiagCode.TheVariants.{RootMissing, TooManyUnits}
use Rattle.diag_order.specs.declared.line.Diag.{Diag}
use Rattle.diag_order.specs.Sorted.{text_in}
use Rattle.wasm_link.specs.declared.named.Function.{Function}
use Rattle.wasm_link.specs.Link.{linked}
use Rattle.unit_reports.specs.LinkAnswers.{link_answer}
use Rattle.zir_form.specs.declared.front.Front.{Front}
use Rattle.zir_form.specs.Front.{front_in}
use Rattle.root_analysis.specs.Analysis.{analysis}
use Rattle.root_analysis.specs.declared.analysis.RootAnalysis.TheVariants as analysed
use Rattle.watch_core.specs.declared.session.Update.{Update}
use Rattle.watch_core.specs.declared.session.Update.TheVariants as update
use Rattle.watch_core.specs.Answers.{analysis_answer}
use Rattle.watch_core.specs.Compile.{Files, analysis_of, compile, compiled, diag_at_start, diag_of, file_diags, first_of, placed, root_diags}
use Rattle.watch_core.specs.Counts.{Nothing, counts, update_of}
use Rattle.watch_core.specs.Front.{front_of}
use Rattle.watch_core.specs.Sources.{IsRead}

-- the root is absent
pub absent : (root : List ℕ) (files : Files) → file_at files root ≡ None → update_of (compile root files) (counts root files Nothing) ≡ update.Errors (placed files (diag_at_start root RootMissing ∷ [])) 0 0
unfolding compile counts root_diags
absent root files e = rw e refl

-- something is wrong with the root's text
pub faulty : (root : List ℕ) (files : Files) (text : List ℕ) (f : Found) (fs : List Found) → file_at files root ≡ Some text → (front_of (text_in files root)).found ≡ f ∷ fs
    → update_of (compile root files) (counts root files Nothing) ≡ update.Errors (placed files (map (diag_of root) (f ∷ fs))) 0 0
unfolding compile counts root_diags file_diags
faulty root files text f fs e g = rw (e, g) (ap (λ (xs : List Diag). update.Errors (placed files (diag_of root f ∷ xs)) 0 0) (append-nil (map (diag_of root) fs)))

-- nothing is
pub clean : (root : List ℕ) (files : Files) (text : List ℕ) → file_at files root ≡ Some text → (front_of (text_in files root)).found ≡ []
    → update_of (compile root files) (counts root files Nothing) ≡ analysis_answer root files (analysis_of root files)
unfolding compile counts root_diags file_diags analysis_answer
clean root files text e g = rw (e, g) refl

-- ---- the answer where the root is there, by the front that was read

some_of : (o : Option (List ℕ)) → IsSome o → (text : List ℕ) × (o ≡ Some text)
some_of None h = absurd (cc)
some_of (Some text) h = (text, refl)

no_faults : (found : List Found) → true ≡ (length found == 0) → found ≡ []
no_faults [] e = refl
no_faults (f ∷ fs) e = let some : (length (f ∷ fs) == 0) ≡ false = grind arith in absurd (cc)

told_front : (text : List ℕ) (front : Front) → IsRead text front → (front_of text).found ≡ front.found
unfolding front_in
told_front text front read = ap (λ f. f.found) (sym read)

-- something is wrong with it
judged_by : (root : List ℕ) (files : Files) (found : List Found) → IsSome (file_at files root) → (front_of (text_in files root)).found ≡ found → false ≡ (length found == 0)
    → update.Errors (placed files (map (diag_of root) found)) 0 0 ≡ update_of (compile root files) (counts root files Nothing)
judged_by root files [] there is some = absurd (cc)
judged_by root files (f ∷ fs) there is some = let text = some_of (file_at files root) there in sym (faulty root files text.0 f fs text.1 is)

pub judged_faulty : (root : List ℕ) (files : Files) (front : Front) (diags : List Diag) → IsSome (file_at files root) → IsRead (text_in files root) front → diags ≡ map (diag_of root) front.found → false ≡ (length front.found == 0)
    → update.Errors (placed files diags) 0 0 ≡ update_of (compile root files) (counts root files Nothing)
judged_faulty root files front diags there read are some =
    ap (λ (ds : List Diag). update.Errors (placed files ds) 0 0) are ∙ judged_by root files front.found there (told_front (text_in files root) front read) some

-- nothing is
pub judged_clean : (root : List ℕ) (files : Files) (front : Front) → IsSome (file_at files root) → IsRead (text_in files root) front → true ≡ (length front.found == 0)
    → analysis_answer root files (analysis root (front_in front)) ≡ update_of (compile root files) (counts root files Nothing)
unfolding analysis_of
judged_clean root files front there read none =
    let text = some_of (file_at files root) there in
    ap (λ f. analysis_answer root files (analysis root f)) read
    ∙ sym (clean root files text.0 text.1 (told_front (text_in files root) front read ∙ no_faults front.found none))

-- ---- the answer by the analysis

-- too many units
pub answer_of_many : (root : List ℕ) (files : Files) → update.Errors (placed files (diag_at_start root TooManyUnits ∷ [])) 0 0 ≡ analysis_answer root files analysed.TooMany
unfolding analysis_answer
answer_of_many root files = refl

-- units that failed
pub answer_of_failed : (root : List ℕ) (files : Files) (units : ℕ) (founds : List Found) (functions : List Function) (diags : List Diag) → diags ≡ map (diag_of root) founds → false ≡ (length founds == 0)
    → update.Errors (placed files diags) units 0 ≡ analysis_answer root files (analysed.Told units founds functions)
unfolding analysis_answer
answer_of_failed root files units [] functions diags are some = absurd (cc)
answer_of_failed root files units (f ∷ fs) functions diags are some = ap (λ (ds : List Diag). update.Errors (placed files ds) units 0) are

-- functions that are linked
pub answer_of_linked : (root : List ℕ) (files : Files) (units : ℕ) (founds : List Found) (functions : List Function) → true ≡ (length founds == 0)
    → update_of (compiled files [] (link_answer root (linked functions [] []))) (record { analysed = units; reused = 0 }) ≡ analysis_answer root files (analysed.Told units founds functions)
unfolding analysis_answer
answer_of_linked root files units [] functions none = refl
answer_of_linked root files units (f ∷ fs) functions none = let some : (length (f ∷ fs) == 0) ≡ false = grind arith in absurd (cc)

-- an answer, by what it is
pub same_answer : {E : Type 0} (r : Result Update E) (x y : Update) → x ≡ y → IfOk r (λ u. u ≡ x) → IfOk r (λ u. u ≡ y)
same_answer r x y e h = subst (λ z. IfOk r (λ u. u ≡ z)) e h
