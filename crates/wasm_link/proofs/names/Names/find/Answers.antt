use Rattle.std.proofs.Common.{◌≡◌, length, ◌∙◌, ap, sym, arith}
use Rattle.wasm_link.specs.Names.{number_of}
use Rattle.wasm_link.proofs.NameLemmas.{find_none, find_some}
use Rattle.wasm_link.proofs.names.Names.find.Goals as goal

pub returns-in-None : goal.returns-in-None
returns-in-None c =
    let e = find_none c.self.inside.places c.self.inside.names.items c.args.name.now c.self.invariant (sym c.place_of.ensures ∙ c.in-None.is) in
    let l : c.len.result ≡ length c.self.inside.names.items = omega (arith, c.len.ensures, c.self.inside.names.ok.0) in
    l ∙ sym e ∙ ap (λ names. number_of names c.args.name.now) c.self.view_is

pub returns-in-Some : goal.returns-in-Some
returns-in-Some c =
    find_some c.self.inside.places c.self.inside.names.items c.args.name.now c.in-Some.number c.self.invariant (sym c.place_of.ensures ∙ c.in-Some.is)
    ∙ ap (λ names. number_of names c.args.name.now) c.self.view_is
