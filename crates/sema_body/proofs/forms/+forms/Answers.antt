use Rattle.std.proofs.Common.{ap, sym, ◌∙◌}
use Rattle.zw_base.specs.declared.diag.DiagCode.TheVariants as code
use Rattle.elab_form.specs.Elab.{form_at, most_calls}
use Rattle.sema_body.specs.Trees.{tree_at}
use Rattle.sema_body.proofs.ApartLemmas.{halts-apart, meets-apart}
use Rattle.sema_body.proofs.FormLemmas.{absent-form, block-form, block-is, dropped-grows, end-grows, fitted-grows, fitting-is, grouped-form, ignored-form, ignored-is, integer-form, later-form, leaving-none, leaving-some, missing-form, name-form, next-ends, next-halts, next-on, return-form, return-grows, return-is, word-form}
use Rattle.sema_body.proofs.Reaching.{reach-first, reach-goes, reach-halts, reach-same, reach-ends, reach-wrong}
use Rattle.sema_body.proofs.ControlLemmas.{longer-twice}
use Rattle.sema_body.proofs.TableCalls.{Interns-then, Reads-alone}
use Rattle.sema_body.proofs.TreeLemmas.{earlier, no_earlier}
use Rattle.sema_body.proofs.forms.+forms.Goals as goal

pub form-returns-else-has_rule-clause-meets : goal.form-returns-else-has_rule-clause-meets
form-returns-else-has_rule-clause-meets g t c =
    let is = ap (form_at most_calls _ _) c.in-Some.ensures ∙ later-form _ _ _ _ _ (sym c.has_rule.ensures ∙ c.if-has_rule.false) (c.place_of.ensures _) in
    reach-wrong c.args.f.now c.place_of.result code.NotBuilt c.wrong.result (reach-first is c.requires.stands) c.requires.frame c.wrong.ensures

pub form-returns-in-None-clause-meets : goal.form-returns-in-None-clause-meets
form-returns-in-None-clause-meets g t c =
    reach-wrong c.args.f.now 0 code.NotBuilt c.wrong-in-None.result (reach-first (missing-form _ _ _ c.in-None.ensures) c.requires.stands) c.requires.frame c.wrong-in-None.ensures

pub by_rule-returns-in-Integer-clause-meets : goal.by_rule-returns-in-Integer-clause-meets
by_rule-returns-in-Integer-clause-meets g t c = reach-ends (reach-first (integer-form _ _ _ _ _ _ c.in-Integer.is) c.requires.stands) c.integer_form.ensures.meets

pub by_rule-returns-in-Primitive-clause-meets : goal.by_rule-returns-in-Primitive-clause-meets
by_rule-returns-in-Primitive-clause-meets g t c = reach-ends (reach-first (word-form _ _ _ _ _ _ c.in-Primitive.is) c.requires.stands) c.primitive_form.ensures.meets

pub by_rule-returns-in-Declared-clause-meets : goal.by_rule-returns-in-Declared-clause-meets
by_rule-returns-in-Declared-clause-meets g t c = reach-ends (reach-first (name-form _ _ _ _ _ _ _ _ c.in-Declared.is c.as_slice.ensures) c.requires.stands) c.declared_form.ensures.meets

pub by_rule-returns-in-Grouped-clause-meets : goal.by_rule-returns-in-Grouped-clause-meets
by_rule-returns-in-Grouped-clause-meets g t c = reach-ends (reach-first (grouped-form _ _ _ _ _ _ c.in-Grouped.is) c.requires.stands) c.child_form.ensures.meets

pub by_rule-returns-in-Absent-clause-meets : goal.by_rule-returns-in-Absent-clause-meets
by_rule-returns-in-Absent-clause-meets g t c = reach-ends (reach-first (absent-form _ _ _ _ c.in-Absent.is) c.requires.stands) c.void_form.ensures.meets

pub by_rule-returns-in-Return-clause-meets : goal.by_rule-returns-in-Return-clause-meets
by_rule-returns-in-Return-clause-meets g t c = reach-ends (reach-first (return-form _ _ _ _ _ _ _ _ c.in-Return.is c.as_slice-in-Return.ensures) c.requires.stands) c.return_form.ensures.meets

pub by_rule-returns-in-Block-clause-meets : goal.by_rule-returns-in-Block-clause-meets
by_rule-returns-in-Block-clause-meets g t c = reach-ends (reach-first (block-form _ _ _ _ _ _ _ _ c.in-Block.is c.as_slice-in-Block.ensures) c.requires.stands) c.block_form.ensures.meets

pub by_rule-returns-in-Ignored-clause-meets : goal.by_rule-returns-in-Ignored-clause-meets
by_rule-returns-in-Ignored-clause-meets g t c = reach-ends (reach-first (ignored-form _ _ _ _ _ _ c.in-Ignored.is) c.requires.stands) c.ignored_form.ensures.meets

pub child_form-returns-then-line-parent-clause-meets : goal.child_form-returns-then-line-parent-clause-meets
child_form-returns-then-line-parent-clause-meets g t c =
    let is = earlier c.args.cx.now c.args.parent c.args.line c.if-line-parent.true ∙ ap (tree_at c.args.cx.now) (sym c.line_at.ensures) in
    reach-ends (reach-first (ap (form_at most_calls _ _) is) c.requires.stands) c.form.ensures.meets

pub child_form-returns-else-line-parent-clause-meets : goal.child_form-returns-else-line-parent-clause-meets
child_form-returns-else-line-parent-clause-meets g t c =
    reach-wrong c.args.f.now 0 code.NotBuilt c.wrong.result (reach-first (missing-form _ _ _ (no_earlier c.args.cx.now c.args.parent c.args.line c.if-line-parent.false)) c.requires.stands) c.requires.frame c.wrong.ensures

pub fitting_child-returns-in-Err-clause-meets : goal.fitting_child-returns-in-Err-clause-meets
fitting_child-returns-in-Err-clause-meets g t c = reach-halts _ _ _ (reach-first (fitting-is _ _ _ _) c.requires.stands) c.in-Err.ensures.meets

pub fitting_child-returns-in-Ok-clause-meets : goal.fitting_child-returns-in-Ok-clause-meets
fitting_child-returns-in-Ok-clause-meets g t c =
    let given = reach-goes _ _ _ (reach-first (fitting-is _ _ _ _) c.requires.stands) c.child_form.ensures.interns.grows c.in-Ok.ensures.meets in
    reach-ends (reach-same (fitted-grows _ _ c.args.f.now _ c.args.want _ c.child_form.ensures.interns.grows c.requires.frame c.requires.want) given) c.fitted.ensures.meets

pub child_apart-returns-in-Err-clause-meets : goal.child_apart-returns-in-Err-clause-meets
child_apart-returns-in-Err-clause-meets g t c = halts-apart _ _ _ _ _ _ c.in-Err.ensures.meets

pub child_apart-returns-in_ok-statements-in-Ok-clause-meets : goal.child_apart-returns-in_ok-statements-in-Ok-clause-meets
child_apart-returns-in_ok-statements-in-Ok-clause-meets g t c =
    meets-apart _ _ _ _ _ _ c.in-Ok.ensures.meets c.open_list-start.ensures (ap (λ b. record c.fitting_child.new.s { body = b }) c.in_ok-statements-in-Ok.ensures.statements) c.in_ok-statements-in-Ok.ensures.list c.in_ok-statements-in-Ok.ensures.below

pub return_form-returns-in-Err-clause-meets : goal.return_form-returns-in-Err-clause-meets
return_form-returns-in-Err-clause-meets g t c = reach-halts _ _ _ (reach-first (return-is _ _ _ _ _ c.place_behind-at.ensures) c.requires.stands) c.in-Err.ensures.meets

pub return_form-returns-then-is_empty-clause-meets : goal.return_form-returns-then-is_empty-clause-meets
return_form-returns-then-is_empty-clause-meets g t c =
    let given = reach-goes _ _ _ (reach-first (return-is _ _ _ _ _ c.place_behind-at.ensures) c.requires.stands) c.child_apart.ensures.interns.grows c.in-Ok.ensures.meets in
    reach-ends (reach-same (leaving-none _ _ _ _ _ c.if-is_empty.ensures ∙ return-grows _ _ c.args.f.now _ _ c.child_apart.ensures.interns.grows c.requires.frame) given) c.return_with.ensures.meets

pub return_form-returns-else-is_empty-clause-meets : goal.return_form-returns-else-is_empty-clause-meets
return_form-returns-else-is_empty-clause-meets g t c =
    let given = reach-goes _ _ _ (reach-first (return-is _ _ _ _ _ c.place_behind-at.ensures) c.requires.stands) c.child_apart.ensures.interns.grows c.in-Ok.ensures.meets in
    reach-wrong c.args.f.now c.args.place code.NotBuilt c.wrong.result (reach-same (leaving-some _ _ _ _ _ c.if-is_empty.ensures) given) c.requires.frame c.wrong.ensures

pub block_form-returns-in-Err-clause-meets : goal.block_form-returns-in-Err-clause-meets
block_form-returns-in-Err-clause-meets g t c = reach-halts _ _ _ (reach-first (block-is _ _ _ _) c.requires.stands) c.in-Err.ensures.meets

pub block_form-returns-in-Ok-clause-meets : goal.block_form-returns-in-Ok-clause-meets
block_form-returns-in-Ok-clause-meets g t c =
    let given = reach-goes _ _ _ (reach-first (block-is _ _ _ _) c.requires.stands) c.all_forms.ensures.interns.grows c.in-Ok.ensures.meets in
    reach-ends (reach-same (end-grows _ _ c.args.f.now _ _ _ c.all_forms.ensures.interns.grows c.requires.frame) given) c.block_end.ensures.meets

pub ignored_form-returns-in-Err-clause-meets : goal.ignored_form-returns-in-Err-clause-meets
ignored_form-returns-in-Err-clause-meets g t c = reach-halts _ _ _ (reach-first (ignored-is _ _ _) c.requires.stands) c.in-Err.ensures.meets

pub ignored_form-returns-in-Ok-clause-meets : goal.ignored_form-returns-in-Ok-clause-meets
ignored_form-returns-in-Ok-clause-meets g t c =
    let given = reach-goes _ _ _ (reach-first (ignored-is _ _ _) c.requires.stands) c.child_form.ensures.interns.grows c.in-Ok.ensures.meets in
    reach-ends (reach-same (dropped-grows _ _ c.args.f.now _ _ c.child_form.ensures.interns.grows c.requires.frame) given) c.dropped.ensures.meets

pub all_forms-returns-in-Err-clause-meets : goal.all_forms-returns-in-Err-clause-meets
all_forms-returns-in-Err-clause-meets g t c =
    next-halts _ _ _ _ _ _ c.args.f.now _ _ _ _ c.loop-line.invariant.reached c.requires.frame c.loop-line-test.true _ _ _ c.in-Err.ensures.meets

pub all_forms-returns-then-is_never-clause-meets : goal.all_forms-returns-then-is_never-clause-meets
all_forms-returns-then-is_never-clause-meets g t c =
    next-ends _ _ _ _ _ _ c.args.f.now _ _ _ _ c.loop-line.invariant.reached c.requires.frame c.loop-line-test.true _ _ _ _ c.child_form.ensures.interns.grows c.in-Ok.ensures.meets
    c.is_never.ensures.reads.grows c.is_never.ensures.agrees (sym c.is_never.ensures.never ∙ c.if-is_never.true)

pub all_forms-loop-line-preserved : goal.all_forms-loop-line-preserved
all_forms-loop-line-preserved g t c = record {
  interns = Interns-then (Interns-then c.loop-line.invariant.interns c.in-Ok.ensures.interns) (Reads-alone c.is_never.ensures.reads);
  longer = longer-twice _ _ _ c.loop-line.invariant.longer c.in-Ok.ensures.lists;
  reached = next-on _ _ _ _ _ _ c.args.f.now _ _ _ _ c.loop-line.invariant.reached c.requires.frame c.loop-line-test.true _ _ _ _ c.child_form.ensures.interns.grows c.in-Ok.ensures.meets
      c.is_never.ensures.reads.grows c.is_never.ensures.agrees (sym c.is_never.ensures.never ∙ c.if-is_never.false);
}
