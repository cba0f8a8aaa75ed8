use Rattle.std.proofs.Common.{◌≡◌, Some, None, IsSome, is_some, sym, ◌∙◌, ap, subst, true≢false}
use Rattle.type_form.specs.declared.key.Key.{Key}
use Rattle.type_form.specs.Words.{key_of}
use Rattle.type_form.proofs.MeansLemmas.{keyed-words, keyed-read, HasKey-read}
use Rattle.type_keys.proofs.reads.key_behind.Goals as goal

pub key_into-requires : goal.key_into-requires
key_into-requires g c = keyed-words (g.P.Keys.known c.args.p.now) c.args.i c.requires

pub unreachable-requires : goal.unreachable-requires
unreachable-requires g c =
    let read : IsSome (key_of c.key_into.new.into) = keyed-read (g.P.Keys.known c.args.p.now) c.args.i c.key_into.new.into c.requires c.key_into.ensures.words in
    let none : key_of c.key_into.new.into ≡ None = ap key_of (sym c.as_slice.ensures.value) ∙ sym c.in-Err.ensures.key in
    true≢false (sym read ∙ ap is_some none)

pub returns-clause-key : goal.returns-clause-key
returns-clause-key g c =
    let read : key_of c.key_into.new.into ≡ Some c.in-Ok.key = ap key_of (sym c.as_slice.ensures.value) ∙ sym c.in-Ok.ensures.key in
    HasKey-read (g.P.Keys.known c.args.p.now) c.args.i c.key_into.new.into c.in-Ok.key c.key_into.ensures.words read
