use Rattle.std.proofs.Common.{arith, ◌∙◌, sym}
use Rattle.watch_core.proofs.LimitLemmas.{passed_is, total_within}
use Rattle.watch_core.proofs.session.allowed.Goals as goal

pub passed_beside-requires : goal.passed_beside-requires
passed_beside-requires c =
    let all = total_within c.args.files.now.entries c.requires.within in
    omega (arith, c.beside-others.ensures.within, c.requires.total)

pub returns-in-None-clause-limit : goal.returns-in-None-clause-limit
returns-in-None-clause-limit c =
    sym (passed_is c.args.files.now.entries c.args.path.now c.args.bytes.now c.beside-others.result c.requires.within (c.beside-others.ensures.files c.args.bytes.now) (c.beside-others.ensures.bytes c.args.bytes.now))
    ∙ sym c.in-None.ensures

pub returns-in-Some-clause-limit : goal.returns-in-Some-clause-limit
returns-in-Some-clause-limit c = (
  sym (passed_is c.args.files.now.entries c.args.path.now c.args.bytes.now c.beside-others.result c.requires.within (c.beside-others.ensures.files c.args.bytes.now) (c.beside-others.ensures.bytes c.args.bytes.now))
      ∙ sym c.in-Some.ensures,
  c.from.ensures ∙ c.number.ensures,
)
