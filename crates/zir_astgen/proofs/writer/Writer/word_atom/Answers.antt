use Rattle.std.proofs.Common.{◌≡◌, false, sym, ◌∙◌}
use Rattle.zig_tree.specs.declared.token.TokenKind.TheVariants as kind
use Rattle.zig_tree.specs.Kinds.{is_kind}
use Rattle.zir_astgen.specs.Names.{word_atom}
use Rattle.zir_astgen.proofs.ChainLemmas.{missing_adds}
use Rattle.zir_astgen.proofs.writer.Writer.word_atom.Goals as goal

pub returns-else-same_kind-10-clause-tree : goal.returns-else-same_kind-10-clause-tree
unfolding word_atom
returns-else-same_kind-10-clause-tree c =
    let e1 : is_kind c.args.kind kind.Identifier ≡ false = sym c.same_kind.ensures ∙ c.if-same_kind.false in
    let e2 : is_kind c.args.kind kind.Integer ≡ false = sym c.same_kind-else-same_kind.ensures ∙ c.if-same_kind-2.false in
    let e3 : is_kind c.args.kind kind.Char ≡ false = sym c.same_kind-else-same_kind-2.ensures ∙ c.if-same_kind-3.false in
    let e4 : is_kind c.args.kind kind.Str ≡ false = sym c.same_kind-else-same_kind-3.ensures ∙ c.if-same_kind-4.false in
    let e5 : is_kind c.args.kind kind.MultilineStr ≡ false = sym c.same_kind-else-same_kind-4.ensures ∙ c.if-same_kind-5.false in
    let e6 : is_kind c.args.kind kind.KeywordUnreachable ≡ false = sym c.same_kind-else-same_kind-5.ensures ∙ c.if-same_kind-6.false in
    let e7 : is_kind c.args.kind kind.Period ≡ false = sym c.same_kind-else-same_kind-6.ensures ∙ c.if-same_kind-7.false in
    let e8 : is_kind c.args.kind kind.KeywordError ≡ false = sym c.same_kind-else-same_kind-7.ensures ∙ c.if-same_kind-8.false in
    let e9 : is_kind c.args.kind kind.Builtin ≡ false = sym c.same_kind-else-same_kind-8.ensures ∙ c.if-same_kind-9.false in
    let e10 : is_kind c.args.kind kind.LeftParen ≡ false = sym c.same_kind-else-same_kind-9.ensures ∙ c.if-same_kind-10.false in
    rw (e1, e2, e3, e4, e5, e6, e7, e8, e9, e10) (missing_adds _ c.args.self.now.has_firsts)
