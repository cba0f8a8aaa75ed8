use Rattle.std.proofs.Common.{rules}
use Rattle.type_form.proofs.PoolLemmas.{Interns-then}
use Rattle.root_analysis.proofs.RootUnits.{exported-denote}
use Rattle.root_analysis.proofs.roots.exported_units.Goals as goal

pub returns-clause-units : goal.returns-clause-units
returns-clause-units g c =
    let known = g.I.Keys.known in
    exported-denote (known c.args.p.now) (known c.file_type.new.p) (known c.declared_units.new.p) c.args.path c.in_ok-file.file c.args.exports c.as_slice.result.now
    c.in_ok-units.units.items c.push_blocks.new.units.items c.min.result c.requires.path
    (Interns-then c.in_ok-file.ensures.interns c.in_ok-units.ensures.interns).grows c.in_ok-file.ensures.ty
    (search rules) (search rules) c.in_ok-units.ensures.units (search rules)
