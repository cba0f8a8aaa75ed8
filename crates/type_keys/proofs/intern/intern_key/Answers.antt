use Rattle.std.proofs.Common.{◌≡◌, Some, ap, ◌∙◌}
use Rattle.std.proofs.lemmas.Result.{IfOk-weaker}
use Rattle.type_form.specs.Known.{words_at}
use Rattle.type_form.specs.Words.{words_of}
use Rattle.type_form.specs.Means.{HasKey}
use Rattle.type_form.proofs.MeansLemmas.{HasKey-words, DenotesTy-of, IsTyOf-grows, DenotesValue-of, IsValueOf-grows, DenotesDecl-of, IsDeclOf-grows, DenotesArg-of, IsArgOf-grows, DenotesInstance-of, IsInstanceOf-grows, DenotesList-of, IsListOf-grows}
use Rattle.type_keys.proofs.intern.intern_key.Goals as goal

pub returns-clause-key : goal.returns-clause-key
returns-clause-key g c =
    IfOk-weaker c.intern.result (λ i. words_at (g.I.Keys.known c.intern.new.self) i ≡ Some c.as_slice.result.now) _
    (λ i e. HasKey-words (g.I.Keys.known c.intern.new.self) i c.args.key.now c.words_of.ensures.fits
    (e ∙ ap Some (c.as_slice.ensures.value ∙ c.words_of.ensures.words)))
    c.intern.ensures.place

pub returns-clause-ty : goal.returns-clause-ty
returns-clause-ty g c =
    IfOk-weaker c.intern.result (λ i. HasKey (g.I.Keys.known c.intern.new.self) i c.args.key.now) _
    (λ i h x o. DenotesTy-of (g.I.Keys.known c.intern.new.self) i c.args.key.now x h
    (IsTyOf-grows (g.I.Keys.known c.args.p.now) (g.I.Keys.known c.intern.new.self) c.intern.ensures.interns.grows c.args.key.now x o))
    (returns-clause-key g c)

pub returns-clause-value : goal.returns-clause-value
returns-clause-value g c =
    IfOk-weaker c.intern.result (λ i. HasKey (g.I.Keys.known c.intern.new.self) i c.args.key.now) _
    (λ i h x o. DenotesValue-of (g.I.Keys.known c.intern.new.self) i c.args.key.now x h
    (IsValueOf-grows (g.I.Keys.known c.args.p.now) (g.I.Keys.known c.intern.new.self) c.intern.ensures.interns.grows c.args.key.now x o))
    (returns-clause-key g c)

pub returns-clause-decl : goal.returns-clause-decl
returns-clause-decl g c =
    IfOk-weaker c.intern.result (λ i. HasKey (g.I.Keys.known c.intern.new.self) i c.args.key.now) _
    (λ i h x o. DenotesDecl-of (g.I.Keys.known c.intern.new.self) i c.args.key.now x h
    (IsDeclOf-grows (g.I.Keys.known c.args.p.now) (g.I.Keys.known c.intern.new.self) c.intern.ensures.interns.grows c.args.key.now x o))
    (returns-clause-key g c)

pub returns-clause-arg : goal.returns-clause-arg
returns-clause-arg g c =
    IfOk-weaker c.intern.result (λ i. HasKey (g.I.Keys.known c.intern.new.self) i c.args.key.now) _
    (λ i h x o. DenotesArg-of (g.I.Keys.known c.intern.new.self) i c.args.key.now x h
    (IsArgOf-grows (g.I.Keys.known c.args.p.now) (g.I.Keys.known c.intern.new.self) c.intern.ensures.interns.grows c.args.key.now x o))
    (returns-clause-key g c)

pub returns-clause-instance : goal.returns-clause-instance
returns-clause-instance g c =
    IfOk-weaker c.intern.result (λ i. HasKey (g.I.Keys.known c.intern.new.self) i c.args.key.now) _
    (λ i h x o. DenotesInstance-of (g.I.Keys.known c.intern.new.self) i c.args.key.now x h
    (IsInstanceOf-grows (g.I.Keys.known c.args.p.now) (g.I.Keys.known c.intern.new.self) c.intern.ensures.interns.grows c.args.key.now x o))
    (returns-clause-key g c)

pub returns-clause-list : goal.returns-clause-list
returns-clause-list g c =
    IfOk-weaker c.intern.result (λ i. HasKey (g.I.Keys.known c.intern.new.self) i c.args.key.now) _
    (λ i h x o. DenotesList-of (g.I.Keys.known c.intern.new.self) i c.args.key.now x h
    (IsListOf-grows (g.I.Keys.known c.args.p.now) (g.I.Keys.known c.intern.new.self) c.intern.ensures.interns.grows c.args.key.now x o))
    (returns-clause-key g c)
