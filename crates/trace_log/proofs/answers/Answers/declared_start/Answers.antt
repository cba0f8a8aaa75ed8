use Rattle.std.proofs.Common.{◌∙◌, ap, refl, sym}
use Rattle.type_form.specs.Means.{bytes_at}
use Rattle.trace_log.specs.Snapshots.{stand_at}
use Rattle.trace_log.proofs.PlaceLemmas.{named-start}
use Rattle.trace_log.proofs.answers.Answers.declared_start.Goals as goal

pub returns-in-None-clause-start : goal.returns-in-None-clause-start
returns-in-None-clause-start g c =
    let a = c.args.self.now in
    let k = g.P.Keys.known c.args.p.now in
    let is = ap (stand_at a) (sym c.in-None.is) ∙ c.in_ok-place-in-NamedDecl.ensures.place in
    named-start k (g.P.Keys.known c.decl_key.new.p) a c.args.decl c.in-NamedDecl.container c.in-NamedDecl.name (bytes_at k c.in-NamedDecl.name) _
    c.decl_key.ensures.reads.grows c.requires.one c.decl_key.ensures.agrees c.requires.answers c.in-NamedDecl.ensures.layer c.in-NamedDecl.ensures.decl.0 is refl

pub returns-in_ok-name-in-Some-clause-start : goal.returns-in_ok-name-in-Some-clause-start
returns-in_ok-name-in-Some-clause-start g c =
    let list = c.in-NamedDecl.ensures.decl.1 in
    let here = c.decl_key.ensures.reads.grows.stays.is_bytes _ list in
    c.name_start_at.ensures
    ∙ named-start (g.P.Keys.known c.args.p.now) (g.P.Keys.known c.decl_key.new.p) c.args.self.now c.args.decl c.in-NamedDecl.container c.in-NamedDecl.name _ _
    c.decl_key.ensures.reads.grows c.requires.one c.decl_key.ensures.agrees c.requires.answers c.in-NamedDecl.ensures.layer c.in-NamedDecl.ensures.decl.0
    (ap (stand_at c.args.self.now) (sym c.in-Some.is) ∙ c.in_ok-place-in-NamedDecl.ensures.place)
    (c.as_slice.ensures.value
    ∙ (c.in_ok-name-in-Some.ensures.bytes
    ∙ (c.in_ok-place-in-NamedDecl.ensures.reads.grows.stays.bytes _ here
    ∙ c.decl_key.ensures.reads.grows.stays.bytes _ list)))
