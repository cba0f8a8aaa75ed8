use Rattle.std.proofs.Common.{◌≡◌, IfOk, ap, ap₂, map, ◌∙◌, subst}
use Rattle.zir_form.specs.Front.{front_in}
use Rattle.type_form.specs.Means.{bytes_at}
use Rattle.type_form.proofs.PoolLemmas.{Interns-then}
use Rattle.trace_log.specs.Attempts.{file_answers}
use Rattle.trace_log.specs.Files.{file_answer}
use Rattle.trace_log.specs.Readings.{unit_at}
use Rattle.trace_log.specs.Snapshots.{files_at}
use Rattle.unit_rounds.proofs.ResultLemmas.{files-same}
use Rattle.root_analysis.specs.Analysis.{files_of}
use Rattle.root_analysis.specs.Roots.{root_files, root_units}
use Rattle.root_analysis.proofs.RootFiles.{root-files}
use Rattle.root_analysis.proofs.Telling.{many-by, many-told, rest-by, rest-spelled, told-at-rest}
use Rattle.root_analysis.proofs.analysis.analysed.Goals as goal

pub told-requires-clause-spelled : goal.told-requires-clause-spelled
told-requires-clause-spelled g c =
    let root = c.args.root.now in
    let front = front_in c.args.front.now in
    let known = g.I.Keys.known in
    let k = known c.root_units.new.p in
    let bytes = c.in_ok-path.ensures.bytes in
    let path : bytes_at (known c.intern_bytes.new.p) c.in_ok-path.path ≡ root = bytes.is ∙ c.as_bytes.ensures.value ∙ c.as_str.ensures.text in
    let grows = c.in_ok-roots.ensures.interns.grows in
    let files : files_at k c.in_ok-answers.answers ≡ root_files root front =
    root-files c.in_ok-path.path c.args.front.now c.in_ok-answers.answers c.in_ok-answers.ensures k root c.in_ok-roots.ensures.agrees
    (grows.stays.is_bytes c.in_ok-path.path bytes.known) (grows.stays.bytes c.in_ok-path.path bytes.known ∙ path) in
    let asked : file_answers k c.in_ok-answers.answers ≡ files_of root front = ap file_answer files in
    let roots : map (unit_at k) c.as_slice.result.now ≡ root_units root front =
    ap (map (unit_at k)) c.as_slice.ensures.value ∙ c.in_ok-roots.ensures.units.are ∙ ap₂ (λ r f. root_units r (front_in f)) path c.get.ensures in
    rest-spelled root front (known c.analyse_all.new.p) c.in_ok-answers.answers c.in-Rest.rest
    (rest-by (known c.analyse_all.new.p) _ _ _ _ c.in_ok-answers.answers c.in-Rest.rest asked roots (rw c.in-Rest.is at c.in-Ok.ensures.comes))

pub returns-in-Rest : goal.returns-in-Rest
returns-in-Rest g c =
    let root = c.args.root.now in
    let front = front_in c.args.front.now in
    let known = g.I.Keys.known in
    let k = known c.root_units.new.p in
    let last = known c.analyse_all.new.p in
    let bytes = c.in_ok-path.ensures.bytes in
    let path : bytes_at (known c.intern_bytes.new.p) c.in_ok-path.path ≡ root = bytes.is ∙ c.as_bytes.ensures.value ∙ c.as_str.ensures.text in
    let grows = c.in_ok-roots.ensures.interns.grows in
    let later = (Interns-then c.in_ok-roots.ensures.interns c.in-Ok.ensures.interns).grows in
    let files : files_at k c.in_ok-answers.answers ≡ root_files root front =
    root-files c.in_ok-path.path c.args.front.now c.in_ok-answers.answers c.in_ok-answers.ensures k root c.in_ok-roots.ensures.agrees
    (grows.stays.is_bytes c.in_ok-path.path bytes.known) (grows.stays.bytes c.in_ok-path.path bytes.known ∙ path) in
    let asked : file_answers k c.in_ok-answers.answers ≡ files_of root front = ap file_answer files in
    let roots : map (unit_at k) c.as_slice.result.now ≡ root_units root front =
    ap (map (unit_at k)) c.as_slice.ensures.value ∙ c.in_ok-roots.ensures.units.are ∙ ap₂ (λ r f. root_units r (front_in f)) path c.get.ensures in
    let rest = rest-by last _ _ _ _ c.in_ok-answers.answers c.in-Rest.rest asked roots (rw c.in-Rest.is at c.in-Ok.ensures.comes) in
    let still : files_at last c.in-Rest.rest.answers ≡ root_files root front =
    files-same last c.in_ok-answers.answers c.in-Rest.rest.answers rest.same_files
    ∙ root-files c.in_ok-path.path c.args.front.now c.in_ok-answers.answers c.in_ok-answers.ensures last root c.analyse_all.ensures.agrees
    (later.stays.is_bytes c.in_ok-path.path bytes.known) (later.stays.bytes c.in_ok-path.path bytes.known ∙ path) in
    subst (λ x. IfOk c.told.result (λ a. a ≡ x)) (told-at-rest root front last c.in_ok-answers.answers c.in-Rest.rest still rest) c.told.ensures

pub returns : goal.returns
returns g c =
    let root = c.args.root.now in
    let front = front_in c.args.front.now in
    let known = g.I.Keys.known in
    let k = known c.root_units.new.p in
    let bytes = c.in_ok-path.ensures.bytes in
    let path : bytes_at (known c.intern_bytes.new.p) c.in_ok-path.path ≡ root = bytes.is ∙ c.as_bytes.ensures.value ∙ c.as_str.ensures.text in
    let grows = c.in_ok-roots.ensures.interns.grows in
    let files : files_at k c.in_ok-answers.answers ≡ root_files root front =
    root-files c.in_ok-path.path c.args.front.now c.in_ok-answers.answers c.in_ok-answers.ensures k root c.in_ok-roots.ensures.agrees
    (grows.stays.is_bytes c.in_ok-path.path bytes.known) (grows.stays.bytes c.in_ok-path.path bytes.known ∙ path) in
    let asked : file_answers k c.in_ok-answers.answers ≡ files_of root front = ap file_answer files in
    let roots : map (unit_at k) c.as_slice.result.now ≡ root_units root front =
    ap (map (unit_at k)) c.as_slice.ensures.value ∙ c.in_ok-roots.ensures.units.are ∙ ap₂ (λ r f. root_units r (front_in f)) path c.get.ensures in
    many-told root front (many-by _ _ _ _ asked roots (rw c.in-TooMany.is at c.in-Ok.ensures.comes))
