use Rattle.std.proofs.Common.{subst}
use Rattle.std.proofs.lemmas.Result.{IfOk-weaker}
use Rattle.type_form.specs.Means.{DenotesList}
use Rattle.type_form.proofs.MeansLemmas.{DenotesBytes-list}
use Rattle.type_keys.proofs.lists.short_bytes.Goals as goal

pub returns-clause-bytes : goal.returns-clause-bytes
returns-clause-bytes g c =
    let known = g.I.Keys.known c.short_list.new.p in
    IfOk-weaker c.short_list.result (λ i. DenotesList known i c.of_bytes.result) _
    (λ i d. DenotesBytes-list known i c.args.bytes.now (subst (DenotesList known i) c.of_bytes.ensures.value d) c.of_bytes.ensures.bytes)
    c.short_list.ensures.list
