-- What the marked units tell goes behind the rest.
use Rattle.std.proofs.Common.{◌∙◌, rules, tests}
use Rattle.std.proofs.lemmas.Iterator.{YieldsList-from_zip}
use Rattle.std.proofs.lemmas.Iterator.Consumers.{YieldsList-from_filter_map, YieldsList-at}
use Rattle.std.proofs.lemmas.Iterator.Adapters.{YieldsList-from_vec, items_from_extend}
use Rattle.unit_reports.specs.Parts.{by_mark}
use Rattle.unit_reports.proofs.telling.with_marked.Goals as goal

pub returns : goal.returns
returns c =
    let h = items_from_extend c.extend.result c.extend.ensures.ran
    (YieldsList-from_filter_map _ by_mark
    (YieldsList-at c.filter_map.ensures.source
    (YieldsList-from_zip
    (YieldsList-at c.zip.ensures.first (YieldsList-from_vec c.args.loops.items c.into_iter.ensures.rest (c.into_iter.ensures.len ∙ c.args.loops.ok.0)))
    (YieldsList-from_vec c.args.marks.items c.zip.ensures.second.0 (c.zip.ensures.second.1 ∙ c.args.marks.ok.0))))
    c.filter_map.ensures.closure (λ x r q k. search (rules, tests))) in
    search rules
