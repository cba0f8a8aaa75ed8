use Rattle.std.proofs.Common.{◌≡◌, [], IfOk, sym, ◌∙◌, subst}
use Rattle.zir_form.specs.Front.{front_in}
use Rattle.type_form.specs.Means.{bytes_at}
use Rattle.root_analysis.specs.Denoting.{DenoteUnits}
use Rattle.root_analysis.specs.Roots.{exported_units, root_units}
use Rattle.root_analysis.proofs.RootUnits.{DenoteUnits-none, root-some, root-none}
use Rattle.root_analysis.proofs.roots.root_units.Goals as goal

pub returns-in-Some-clause-units : goal.returns-in-Some-clause-units
returns-in-Some-clause-units g c =
    let is : root_units (bytes_at (g.I.Keys.known c.args.p.now) c.args.path) (front_in c.args.front.now) ≡ exported_units (bytes_at (g.I.Keys.known c.args.p.now) c.args.path) c.in-Some.exports =
    root-some _ _ _ (sym c.in_ok-exports.ensures ∙ c.in-Some.is) in
    subst (λ xs. IfOk c.exported_units.result (λ v. DenoteUnits (g.I.Keys.known c.exported_units.new.p) v.items xs)) (sym is) c.exported_units.ensures.units

pub returns-in-None-clause-units : goal.returns-in-None-clause-units
returns-in-None-clause-units g c =
    let is : root_units (bytes_at (g.I.Keys.known c.args.p.now) c.args.path) (front_in c.args.front.now) ≡ [] =
    root-none _ _ (sym c.in_ok-exports.ensures ∙ c.in-None.is) in
    rw c.new.ensures.items (subst (λ xs. DenoteUnits (g.I.Keys.known c.args.p.now) [] xs) (sym is) (DenoteUnits-none (g.I.Keys.known c.args.p.now)))
