use Rattle.std.proofs.Common.{◌∙◌, ap, sym}
use Rattle.trace_log.specs.Snapshots.{stand_at}
use Rattle.trace_log.proofs.ReplyLemmas.{named-text, read-text}
use Rattle.trace_log.proofs.SnapshotLemmas.{AreAnswers-grows}
use Rattle.trace_log.proofs.answers.Answers.declared_text.Goals as goal

pub place-requires-clause-answers : goal.place-requires-clause-answers
place-requires-clause-answers g c = AreAnswers-grows _ _ _ c.decl_key.ensures.reads.grows c.requires.answers

pub returns-in-None-clause-text : goal.returns-in-None-clause-text
returns-in-None-clause-text g c =
    let a = c.args.self.now in
    let is = ap (stand_at a) (sym c.in-None.is) ∙ c.in_ok-place-in-NamedDecl.ensures.place in
    named-text (g.P.Keys.known c.args.p.now) (g.P.Keys.known c.decl_key.new.p) a c.args.decl c.in-NamedDecl.container c.in-NamedDecl.name c.args.extent _
    c.decl_key.ensures.reads.grows c.requires.one c.decl_key.ensures.agrees c.requires.answers c.in-NamedDecl.ensures.layer c.in-NamedDecl.ensures.decl.0 is

pub returns-in_ok-name-in-Some-clause-text : goal.returns-in_ok-name-in-Some-clause-text
returns-in_ok-name-in-Some-clause-text g c =
    let list = c.in-NamedDecl.ensures.decl.1 in
    let here = c.decl_key.ensures.reads.grows.stays.is_bytes _ list in
    read-text (g.P.Keys.known c.args.p.now) (g.P.Keys.known c.decl_key.new.p) c.args.self.now c.args.decl c.in-NamedDecl.container c.in-NamedDecl.name c.args.extent
    c.in-Some.place _ _ _
    c.decl_key.ensures.reads.grows c.requires.one c.decl_key.ensures.agrees c.requires.answers c.in-NamedDecl.ensures.layer c.in-NamedDecl.ensures.decl.0
    (ap (stand_at c.args.self.now) (sym c.in-Some.is) ∙ c.in_ok-place-in-NamedDecl.ensures.place)
    c.front_text.ensures c.part_of-part.ensures
    (c.in_ok-name-in-Some.ensures.bytes
    ∙ (c.in_ok-place-in-NamedDecl.ensures.reads.grows.stays.bytes _ here
    ∙ c.decl_key.ensures.reads.grows.stays.bytes _ list))
