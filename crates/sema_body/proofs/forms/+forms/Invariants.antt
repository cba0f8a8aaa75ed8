use Rattle.std.proofs.Common.{◌+◌, ◌*◌, ◌≤◌, drop, false, length, map}
use Rattle.zir_form.specs.Core.{cores_of}
use Rattle.type_form.specs.Pool.{Interns}
use Rattle.elab_form.specs.Elab.{forms, inner_at, most_calls}
use Rattle.sema_body.specs.Meets.{frame_at}
use Rattle.sema_body.specs.Trees.{child_at}
use Rattle.sema_body.proofs.Reaching.{Reached}
use Rattle.sema_body.proofs.forms.+forms.Given as goal

abbrev pub decreases-form : goal.decreases-form
decreases-form g l = 8 * l.tree.line + 7

abbrev pub decreases-by_rule : goal.decreases-by_rule
decreases-by_rule g l = 8 * l.tree.line + 6

abbrev pub decreases-child_form : goal.decreases-child_form
decreases-child_form g l = 8 * l.parent.line

abbrev pub decreases-fitting_child : goal.decreases-fitting_child
decreases-fitting_child g l = 8 * l.parent.line + 1

abbrev pub decreases-child_apart : goal.decreases-child_apart
decreases-child_apart g l = 8 * l.parent.line + 2

abbrev pub decreases-return_form : goal.decreases-return_form
decreases-return_form g l = 8 * l.tree.line + 3

abbrev pub decreases-all_forms : goal.decreases-all_forms
decreases-all_forms g l = 8 * l.tree.line + 1

abbrev pub decreases-block_form : goal.decreases-block_form
decreases-block_form g l = 8 * l.tree.line + 2

abbrev pub decreases-ignored_form : goal.decreases-ignored_form
decreases-ignored_form g l = 8 * l.tree.line + 1

-- the statements so far were met: what is left are the others
abbrev pub invariant-all_forms-loop-line : goal.invariant-all_forms-loop-line
invariant-all_forms-loop-line g l =
    let first = g.I.Keys.known l.initial.p in
    let frame = frame_at first l.f in
    let tree = child_at l.cx l.tree in
    record {
      interns : Interns g.I.Keys.known g.I.Keys.home g.I.Keys.fulls l.initial.p l.p false;
      longer : length l.initial.s.body.statements ≤ length l.s.body.statements;
      reached : Reached first l.cx l.initial.s (forms (inner_at most_calls) frame (cores_of (map tree l.statements)))
          (g.I.Keys.known l.p) l.s (forms (inner_at most_calls) frame (cores_of (map tree (drop l.line-index l.statements))));
    }
