use Rattle.std.proofs.Common.{◌≡◌, ⊎_elim, arith, sym, ap, subst, ◌∙◌, true≢false}
use Rattle.std.proofs.lemmas.Bool.{cases_lt}
use Rattle.std.proofs.lemmas.List.Elements.{at_read}
use Rattle.type_trees.specs.Entries.{IsEntry}
use Rattle.type_trees.proofs.entries.first_entry.Goals as goal

pub returns-then-same_ty-clause-found : goal.returns-then-same_ty-clause-found
returns-then-same_ty-clause-found c = record {
  here = record {
    within = omega arith;
    is = at_read c.args.entries.now (λ e. e.container ≡ c.args.container.now) c.loop-at.at c.index-entries-at.result (omega arith) c.index-entries-at.is (c.same_ty.ensures.0 c.if-same_ty.true);
  };
  none = c.loop-at.invariant;
}

pub loop-at-preserved : goal.loop-at-preserved
loop-at-preserved c before low h = ⊎_elim
    (λ l. c.loop-at.invariant before l h)
    (λ l.
    let same : before ≡ c.loop-at.at = omega (arith, l, low) in
    let here : IsEntry c.args.entries.now c.args.container.now c.loop-at.at = subst (IsEntry c.args.entries.now c.args.container.now) same h in
    let is = ap (λ (e : _). e.container) c.index-entries-at.is ∙ here.is c.index-entries-at.result in
    true≢false (sym (c.same_ty.ensures.1 is) ∙ c.if-same_ty.false))
    (cases_lt before c.loop-at.at)

pub returns-clause-absent : goal.returns-clause-absent
returns-clause-absent c at h = c.loop-at.invariant at (let near = h.within in omega arith) h
