use Rattle.std.proofs.Common.{◌++◌, ◌<◌, length, ap₂, subst, sym}
use Rattle.std.proofs.lemmas.Result.{IfOk-weaker}
use Rattle.type_form.specs.Means.{DenotesList, bytes_at, list_at}
use Rattle.type_form.proofs.MeansLemmas.{IsBytes-list, IsBytes-bytes, AreBytes-append, DenotesBytes-list}
use Rattle.type_keys.proofs.lists.longer_bytes.Goals as goal

pub longer_list-requires-clause-rest_known : goal.longer_list-requires-clause-rest_known
longer_list-requires-clause-rest_known g c = (IsBytes-list (g.I.Keys.known c.args.p.now) c.args.rest c.requires.rest_known).known

pub longer_list-requires-clause-some : goal.longer_list-requires-clause-some
longer_list-requires-clause-some g c =
    subst (λ xs. 0 < length xs) (sym (IsBytes-list (g.I.Keys.known c.args.p.now) c.args.rest c.requires.rest_known).is) c.requires.some

pub returns-clause-bytes : goal.returns-clause-bytes
returns-clause-bytes g c =
    let old = g.I.Keys.known c.args.p.now in
    let new = g.I.Keys.known c.longer_list.new.p in
    let rest = IsBytes-list old c.args.rest c.requires.rest_known in
    IfOk-weaker c.longer_list.result (λ i. DenotesList new i (c.of_bytes.result ++ list_at old c.args.rest)) _
    (λ i d. DenotesBytes-list new i (c.args.bytes.now ++ bytes_at old c.args.rest)
    (subst (DenotesList new i) (ap₂ (λ xs ys. xs ++ ys) c.of_bytes.ensures.value rest.is) d)
    (AreBytes-append c.args.bytes.now (bytes_at old c.args.rest) c.of_bytes.ensures.bytes (IsBytes-bytes old c.args.rest c.requires.rest_known)))
    c.longer_list.ensures.list
