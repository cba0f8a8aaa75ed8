use Rattle.std.proofs.Common.{arith}
use Rattle.watch_core.proofs.FilesLemmas.{length_new, total_new, length_same, total_same, some_file}
use Rattle.watch_core.proofs.session.beside.Goals as goal

pub returns-in-None-clause-files : goal.returns-in-None-clause-files
returns-in-None-clause-files c bytes =
    let n = length_new c.args.files.now.entries c.args.path.now bytes c.len-count.ensures.ordered c.in-None.ensures.value in
    omega (arith, c.len-count.ensures.len)

pub returns-in-None-clause-bytes : goal.returns-in-None-clause-bytes
returns-in-None-clause-bytes c bytes =
    let n = total_new c.args.files.now.entries c.args.path.now bytes c.len-count.ensures.ordered c.in-None.ensures.value in
    omega (arith, c.requires)

pub returns-in-Some-clause-files : goal.returns-in-Some-clause-files
returns-in-Some-clause-files c bytes =
    let n = length_same c.args.files.now.entries c.args.path.now bytes c.in-Some.old.now c.len-count.ensures.ordered c.in-Some.ensures.value in
    let some = some_file c.args.files.now.entries c.args.path.now c.in-Some.old.now c.in-Some.ensures.value in
    omega (arith, c.len-count.ensures.len)

pub returns-in-Some-clause-bytes : goal.returns-in-Some-clause-bytes
returns-in-Some-clause-bytes c bytes =
    let n = total_same c.args.files.now.entries c.args.path.now bytes c.in-Some.old.now c.len-count.ensures.ordered c.in-Some.ensures.value in
    rw (c.requires, c.len.ensures) n
