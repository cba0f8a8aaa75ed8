use Rattle.std.proofs.Common.{◌≡◌, ◌∙◌, ◌≤◌, ap, subst, sym, Some, IsSome, List, ℕ, length, arith}
use Rattle.type_form.specs.Known.{words_at, IsInjective}
use Rattle.pool_plain.specs.Rows.{numbered}
use Rattle.pool_plain.proofs.RowLemmas.{Matches-injective, row_known, get_within, get_is, known_at}
use Rattle.pool_plain.proofs.pool.PlainPoolKeys.key_into.Goals as goal

pub index-requires : goal.index-requires
index-requires c =
    let row = row_known c.self.inside.rows.items c.args.i (subst (λ r. IsSome (words_at (numbered 0 r) c.args.i)) (sym c.self.view_is) c.requires) in
    let within = get_within c.self.inside.rows.items c.args.i.0 row.0 row.1 in
    omega (arith, within, c.self.inside.rows.ok.0)

pub set-requires : goal.set-requires
set-requires c =
    let row = row_known c.self.inside.rows.items c.args.i (subst (λ r. IsSome (words_at (numbered 0 r) c.args.i)) (sym c.self.view_is) c.requires) in
    let is = c.as_slice.ensures ∙ c.index.ensures ∙ get_is c.self.inside.rows.items c.args.i.0 row.0 c.index.result.now row.1 in
    subst (λ ws. length ws ≤ 64) (sym is) (c.self.invariant.few row.0 c.args.i.0 row.1)

pub returns-clause-agrees : goal.returns-clause-agrees
returns-clause-agrees c = subst (λ r. IsInjective (numbered 0 r)) c.self.view_is (Matches-injective c.self.inside.places c.self.inside.rows.items c.self.invariant)

pub returns-clause-words : goal.returns-clause-words
returns-clause-words c =
    let row = row_known c.self.inside.rows.items c.args.i (subst (λ r. IsSome (words_at (numbered 0 r) c.args.i)) (sym c.self.view_is) c.requires) in
    let is = c.set.ensures ∙ c.as_slice.ensures ∙ c.index.ensures ∙ get_is c.self.inside.rows.items c.args.i.0 row.0 c.index.result.now row.1 in
    subst (λ r. words_at (numbered 0 r) c.args.i ≡ Some c.set.new.self) c.self.view_is (known_at c.self.inside.rows.items c.args.i ∙ row.1 ∙ ap Some (sym is))
