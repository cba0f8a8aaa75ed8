-- What is asked of an operand, by the operand's form.
use Rattle.std.proofs.Common.{◌≡◌, ℕ, true, false, ap, ◌∙◌, Option, None}
use Rattle.std.specs.Option.{option_map}
use Rattle.zw_base.specs.declared.diag.DiagCode.TheVariants as code
use Rattle.type_form.specs.declared.index.Index.{Index}
use Rattle.type_form.specs.declared.tree.Ty.{Ty}
use Rattle.type_form.specs.Known.{Known}
use Rattle.type_form.specs.Means.{ty_at}
use Rattle.air_form.specs.declared.node.AirRef.{AirRef}
use Rattle.elab_form.specs.State.{Frame as AnyFrame, Operand as AnyOperand}
use Rattle.elab_form.specs.Asking.{pure, wrong}
use Rattle.elab_form.specs.Coercion.{is_noreturn, fitted_to, fitted}
use Rattle.sema_body.specs.declared.halt.Operand.{Operand}
use Rattle.sema_body.specs.declared.halt.Operand.TheVariants as operand
use Rattle.sema_body.specs.declared.work.Work.{Work}
use Rattle.sema_body.specs.Meets.{operand_at}
use Rattle.sema_body.proofs.Reaching.{chosen, passed}

pub fitted-never : (k : Known) (s : Work) (f : AnyFrame) (place : ℕ) (t : Ty) (o : Operand) (own : Index) (at : AirRef) → o ≡ operand.Run own at → is_noreturn (ty_at k own) ≡ true
    → fitted_to f place t (operand_at k s o) ≡ pure (operand_at k s (operand.Run own at))
fitted-never k s f place t o own at e h = ap (λ x. fitted_to f place t (operand_at k s x)) e ∙ chosen _ _ _ h

pub fitted-later : (k : Known) (s : Work) (f : AnyFrame) (place : ℕ) (t : Ty) (o : Operand) (own : Index) (at : AirRef) → o ≡ operand.Run own at → is_noreturn (ty_at k own) ≡ false
    → fitted_to f place t (operand_at k s o) ≡ wrong f place code.NotBuilt
fitted-later k s f place t o own at e h = ap (λ x. fitted_to f place t (operand_at k s x)) e ∙ passed _ _ _ h

pub fitted-free : (k : Known) (f : AnyFrame) (place : ℕ) (w : Option Index) (o : AnyOperand) → w ≡ None → fitted f place (option_map (ty_at k) w) o ≡ pure o
fitted-free k f place w o e = ap (λ x. fitted f place (option_map (ty_at k) x) o) e
