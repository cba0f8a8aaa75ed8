use Rattle.std.proofs.Common.{◌∙◌, ap, sym}
use Rattle.trace_log.specs.Snapshots.{stand_at}
use Rattle.trace_log.proofs.PlaceLemmas.{named-part, read-part}
use Rattle.trace_log.proofs.answers.Answers.declared_part.Goals as goal

pub returns-in-None-clause-part : goal.returns-in-None-clause-part
returns-in-None-clause-part g c =
    let a = c.args.self.now in
    let is = ap (stand_at a) (sym c.in-None.is) ∙ c.in_ok-place-in-NamedDecl.ensures.place in
    named-part (g.P.Keys.known c.args.p.now) (g.P.Keys.known c.decl_key.new.p) a c.args.decl c.in-NamedDecl.container c.in-NamedDecl.name c.args.extent _
    c.decl_key.ensures.reads.grows c.requires.one c.decl_key.ensures.agrees c.requires.answers c.in-NamedDecl.ensures.layer c.in-NamedDecl.ensures.decl.0 is

pub returns-in_ok-name-in-Some-clause-part : goal.returns-in_ok-name-in-Some-clause-part
returns-in_ok-name-in-Some-clause-part g c =
    let list = c.in-NamedDecl.ensures.decl.1 in
    let here = c.decl_key.ensures.reads.grows.stays.is_bytes _ list in
    read-part (g.P.Keys.known c.args.p.now) (g.P.Keys.known c.decl_key.new.p) c.args.self.now c.args.decl c.in-NamedDecl.container c.in-NamedDecl.name c.args.extent
    c.in-Some.place _ _
    c.decl_key.ensures.reads.grows c.requires.one c.decl_key.ensures.agrees c.requires.answers c.in-NamedDecl.ensures.layer c.in-NamedDecl.ensures.decl.0
    (ap (stand_at c.args.self.now) (sym c.in-Some.is) ∙ c.in_ok-place-in-NamedDecl.ensures.place)
    c.part_of-part.ensures
    (c.in_ok-name-in-Some.ensures.bytes
    ∙ (c.in_ok-place-in-NamedDecl.ensures.reads.grows.stays.bytes _ here
    ∙ c.decl_key.ensures.reads.grows.stays.bytes _ list))
