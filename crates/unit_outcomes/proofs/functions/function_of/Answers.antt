use Rattle.std.proofs.Common.{◌≡◌, ◌∙◌, ℕ, List, Option, ap}
use Rattle.type_form.specs.Spelling.{instance_text}
use Rattle.type_form.proofs.MeansLemmas.{Grows-trans}
use Rattle.wasm_form.specs.declared.linked.FnCode.{FnCode}
use Rattle.wasm_link.specs.declared.named.Function.{Function}
use Rattle.trace_log.proofs.SnapshotLemmas.{AreAnswers-grows}
use Rattle.type_trees.proofs.CallLemmas.{Reads-trans}
use Rattle.unit_outcomes.proofs.StayLemmas.{export-stays, spot-stays}
use Rattle.unit_outcomes.proofs.functions.function_of.Goals as goal

abbrev function : List ℕ → Option (List ℕ) → List ℕ → ℕ → FnCode → Function
function spelling export path offset code = record { spelling = spelling; export = export; place = record { path = path; offset = offset }; code = code }

made : (spelling text : List ℕ) (export name : Option (List ℕ)) (path root : List ℕ) (offset at : ℕ) (code of : FnCode)
    → spelling ≡ text → export ≡ name → path ≡ root → offset ≡ at → code ≡ of
    → function spelling export path offset code ≡ function text name root at of
made spelling text export name path root offset at code of a b c d e = cc

pub export_of-requires-clause-answers : goal.export_of-requires-clause-answers
export_of-requires-clause-answers g c =
    AreAnswers-grows _ _ _ (Grows-trans _ _ _ c.instance_decl-decl.ensures.reads.grows c.instance_bytes.ensures.reads.grows) c.requires.answers

pub spot_at-requires-clause-answers : goal.spot_at-requires-clause-answers
spot_at-requires-clause-answers g c =
    let before = Grows-trans _ _ _ c.instance_decl-decl.ensures.reads.grows c.instance_bytes.ensures.reads.grows in
    AreAnswers-grows _ _ _ (Grows-trans _ _ _ before c.export_of.ensures.reads.grows) c.requires.answers

pub returns-clause-reads : goal.returns-clause-reads
returns-clause-reads g c =
    Reads-trans c.instance_decl-decl.ensures.reads
    (Reads-trans c.instance_bytes.ensures.reads (Reads-trans c.export_of.ensures.reads c.spot_at.ensures.reads))

pub returns-clause-function : goal.returns-clause-function
returns-clause-function g c =
    let k = g.P.Keys.known c.args.p.now in
    let decl = c.instance_decl-decl.ensures in
    let first = decl.reads.grows in
    let second = Grows-trans _ _ _ first c.instance_bytes.ensures.reads.grows in
    let third = Grows-trans _ _ _ second c.export_of.ensures.reads.grows in
    let spelling = c.in_ok-spelling.ensures.text ∙ ap instance_text (first.stays.instance _ c.requires.instance) in
    let export = c.in_ok-export.ensures.export
    ∙ export-stays k _ c.args.answers.now second c.requires.one c.instance_bytes.ensures.agrees c.requires.answers c.instance_decl-decl.result _
    (record { known = second.stays.is_decl _ decl.known; is = second.stays.decl _ decl.known ∙ decl.decl }) in
    let offset = c.in_ok-offset.ensures.offset
    ∙ spot-stays k _ c.args.answers.now third c.requires.one c.export_of.ensures.agrees c.requires.answers c.instance_decl-decl.result _
    (record { known = third.stays.is_decl _ decl.known; is = third.stays.decl _ decl.known ∙ decl.decl }) in
    made _ _ _ _ _ _ _ _ _ _ spelling export c.in_ok-path.ensures offset c.in_ok-code.ensures
