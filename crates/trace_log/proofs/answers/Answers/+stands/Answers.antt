use Rattle.std.proofs.Common.{Some, ◌∙◌, ap, sym}
use Rattle.std.specs.Option.{option_and_then}
use Rattle.type_form.specs.Means.{args_at}
use Rattle.trace_log.specs.Files.{stand_named}
use Rattle.trace_log.specs.Snapshots.{stand_at}
use Rattle.trace_log.proofs.StandLemmas.{container-stand, named-stand}
use Rattle.trace_log.proofs.answers.Answers.+stands.Goals as goal

pub place-returns-in_ok-place-in-ContainerType-clause-place : goal.place-returns-in_ok-place-in-ContainerType-clause-place
place-returns-in_ok-place-in-ContainerType-clause-place g t c =
    let k = g.P.Keys.known c.args.p.now in
    c.in_ok-place-in-ContainerType.ensures.place
    ∙ container-stand k (g.P.Keys.known c.ty_key.new.p) c.args.self.now c.args.ty c.in-ContainerType.decl c.in-ContainerType.ordinal (args_at k c.in-ContainerType.captures)
    c.ty_key.ensures.reads.grows c.requires.one c.ty_key.ensures.agrees c.requires.answers c.in-ContainerType.ensures.layer c.in-ContainerType.ensures.ty.0

pub declared_place-returns-in-None-clause-place : goal.declared_place-returns-in-None-clause-place
declared_place-returns-in-None-clause-place g t c =
    let a = c.args.self.now in
    let is = ap (stand_at a) (sym c.in-None.is) ∙ c.in_ok-place-in-NamedDecl.ensures.place in
    named-stand (g.P.Keys.known c.args.p.now) (g.P.Keys.known c.decl_key.new.p) a c.args.decl c.in-NamedDecl.container c.in-NamedDecl.name c.args.ordinal _
    c.decl_key.ensures.reads.grows c.requires.one c.decl_key.ensures.agrees c.requires.answers c.in-NamedDecl.ensures.layer c.in-NamedDecl.ensures.decl.0 is

pub declared_place-returns-in_ok-name-in-Some-clause-place : goal.declared_place-returns-in_ok-name-in-Some-clause-place
declared_place-returns-in_ok-name-in-Some-clause-place g t c =
    let a = c.args.self.now in
    let k = g.P.Keys.known c.args.p.now in
    let l = g.P.Keys.known c.decl_key.new.p in
    let is = ap (stand_at a) (sym c.in-Some.is) ∙ c.in_ok-place-in-NamedDecl.ensures.place in
    let list = c.in-NamedDecl.ensures.decl.1 in
    let here = c.decl_key.ensures.reads.grows.stays.is_bytes _ list in
    let name =
    c.as_slice.ensures.value
    ∙ (c.in_ok-name-in-Some.ensures.bytes
    ∙ (c.in_ok-place-in-NamedDecl.ensures.reads.grows.stays.bytes _ here
    ∙ c.decl_key.ensures.reads.grows.stays.bytes _ list)) in
    c.named_place.ensures
    ∙ (ap (λ n. option_and_then (stand_named n c.args.ordinal) (stand_at a (Some c.in-Some.place))) name
    ∙ named-stand k l a c.args.decl c.in-NamedDecl.container c.in-NamedDecl.name c.args.ordinal _
    c.decl_key.ensures.reads.grows c.requires.one c.decl_key.ensures.agrees c.requires.answers c.in-NamedDecl.ensures.layer c.in-NamedDecl.ensures.decl.0 is)
