-- What indices stand for: the plain trees of elaboration under the pairs that an interner knows.
use Rattle.std.specs.Prelude.{◌≡◌, Option, Some, None}
use Rattle.type_form.specs.declared.index.Index.{Index}
use Rattle.type_form.specs.declared.tree.Ty.{Ty}
use Rattle.type_form.specs.Known.{Known}
use Rattle.type_form.specs.Means.{IsTy, ty_at, IsValue, value_at}
use Rattle.elab_form.specs.Coercion as plain
use Rattle.elab_form.specs.Control as control
use Rattle.sema_body.specs.declared.control.Holding.{Holding}
use Rattle.sema_body.specs.declared.control.Holding.TheVariants as holding
use Rattle.sema_body.specs.declared.coercion.Fit.{Fit}
use Rattle.sema_body.specs.declared.coercion.Fit.TheVariants as fit
use Rattle.sema_body.specs.declared.coercion.Range.{Range}

-- a type, where there is one
abbrev pub IsTypeOf : Known → Option Index → Option Ty → Type 0
IsTypeOf k None t = t ≡ None
IsTypeOf k (Some i) t = IsTy k i × (t ≡ Some (ty_at k i))

-- what comes of a value where a type is asked for
abbrev pub IsFit : Known → Fit → plain.Fit → Type 0
IsFit k (fit.Fits i) f = IsValue k i × (f ≡ plain.fits (value_at k i))
IsFit k fit.NoCoercion f = f ≡ plain.no_coercion
IsFit k fit.NoFit f = f ≡ plain.no_fit

abbrev pub range_of : Range → plain.Range
range_of r = record { least = r.least; greatest = r.greatest }

-- how a body holds the values of a type
abbrev pub holding_of : Holding → control.Holding
holding_of holding.Scalar = control.scalar
holding_of holding.Nothing = control.nothing
holding_of holding.Later = control.later
