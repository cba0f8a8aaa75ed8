-- An expression where a type is asked for (Zig Language Reference 0.14, "Type Coercion"). The rows so far, tried
-- in this order:
--
--     a value of the type itself
--     undefined                         any type
--     a known integer, of any type      an integer type that holds it
use Rattle.std.specs.Prelude.{ℕ, ℤ, pos, neg_ℤ, ◌^◌, ◌-◌, Bool, true, false, ◌&&◌, nat_le, int_le, if◌then◌else◌, Option, Some, None}
use Rattle.zw_base.specs.declared.diag.DiagCode.TheVariants as code
use Rattle.type_form.specs.declared.tree.Ty.{Ty, out-Ty}
use Rattle.type_form.specs.declared.tree.Ty.TheVariants as ty
use Rattle.type_form.specs.declared.tree.Value.{Value, out-Value}
use Rattle.type_form.specs.declared.tree.Value.TheVariants as value
use Rattle.type_form.specs.declared.tree.Arg.TheOpen as layer
use Rattle.type_form.specs.declared.tree.SimpleTy.TheVariants as simple
use Rattle.type_form.specs.declared.tree.SimpleValue.TheVariants as word
use Rattle.type_form.specs.Tree.{TyLayer, ValueLayer}
use Rattle.elab_form.specs.Questions.{same_ty}
use Rattle.elab_form.specs.State.{Frame, Operand, known, run}
use Rattle.elab_form.specs.Asking.{Elab, pure, seq, wrong, not_built}

-- ---- types

-- the type of a value; a function as a value does not have its type with it
abbrev pub type_in : ValueLayer → Option Ty
type_in (layer.Value::Simple t s) = Some t
type_in (layer.Value::Int t z) = Some t
type_in (layer.Tag t name) = Some t
type_in (layer.Error t name) = Some t
type_in (layer.Some t v) = Some t
type_in (layer.Good t v) = Some t
type_in (layer.List t vs) = Some t
type_in (layer.Text t bytes) = Some t
type_in (layer.Tagged t name v) = Some t
type_in (layer.OfType t) = Some (ty.Simple simple.Metatype)
type_in (layer.Address t d) = Some t
type_in (layer.Constant t v) = Some t
type_in (layer.Place t n) = Some t
type_in (layer.Part t whole part count) = Some t
type_in (layer.Value::Slice t p low high) = Some t
type_in _ = None

unfoldable pub type_of : Value → Option Ty
type_of v = type_in (out-Value v)

-- the least and the greatest value of an integer type
pub record Range : Type 0 where
  pub least : ℤ
  pub greatest : ℤ

abbrev pub signed_range : ℕ → Range
signed_range bits = record { least = neg_ℤ (pos (2 ^ (bits - 1))); greatest = pos (2 ^ (bits - 1) - 1) }

abbrev pub unsigned_range : ℕ → Range
unsigned_range bits = record { least = pos 0; greatest = pos (2 ^ bits - 1) }

-- the widths of integer types
abbrev pub is_width : ℕ → Bool
is_width bits = nat_le 1 bits && nat_le bits 64

abbrev pub sized_range : Bool → ℕ → Option Range
sized_range is_signed bits =
    if is_width bits then Some (if is_signed then signed_range bits else unsigned_range bits) else None

abbrev pub range_in : TyLayer → Option Range
range_in (layer.Ty::Int is_signed bits) = sized_range is_signed bits
range_in (layer.Ty::Simple simple.Usize) = Some (unsigned_range 32)
range_in (layer.Ty::Simple simple.Isize) = Some (signed_range 32)
range_in (layer.Ty::Simple simple.ComptimeInt) = Some (signed_range 128)
range_in _ = None

-- the range of an integer type; other types have none
unfoldable pub range_of : Ty → Option Range
range_of t = range_in (out-Ty t)

-- ---- known values

-- what comes of a value where a type is asked for
pub data Fit : Type 0 where
  fits : Value → Fit
  -- no row of the table takes the two types: E305
  no_coercion : Fit
  -- the type does not hold the integer: E308
  no_fit : Fit

abbrev pub within : Range → ℤ → Bool
within r z = int_le r.least z && int_le z r.greatest

abbrev pub integer_fit : Ty → ℤ → Option Range → Fit
integer_fit t z None = no_coercion
integer_fit t z (Some r) = if within r z then fits (value.Int t z) else no_fit

-- a value of another type
abbrev pub other_fit : Ty → ValueLayer → Fit
other_fit t (layer.Value::Simple s word.Undefined) = fits (value.Simple t word.Undefined)
other_fit t (layer.Value::Int s z) = integer_fit t z (range_of t)
other_fit t _ = no_coercion

abbrev pub is_type : Ty → Option Ty → Bool
is_type t None = false
is_type t (Some s) = same_ty s t

unfoldable pub fit : Ty → Value → Fit
fit t v = if is_type t (type_of v) then fits v else other_fit t (out-Value v)

-- ---- expressions

abbrev pub is_noreturn_in : TyLayer → Bool
is_noreturn_in (layer.Ty::Simple simple.Noreturn) = true
is_noreturn_in _ = false

-- the type of what never ends
unfoldable pub is_noreturn : Ty → Bool
is_noreturn t = is_noreturn_in (out-Ty t)

-- the type that has one value, which says nothing
abbrev pub is_void : TyLayer → Bool
is_void (layer.Ty::Simple simple.Void) = true
is_void _ = false

abbrev pub fit_at : Frame → (place : ℕ) → Fit → Elab Operand
fit_at f place (fits v) = pure (known v)
fit_at f place no_coercion = wrong f place code.TypesDoNotFit
fit_at f place no_fit = wrong f place code.IntegerDoesNotFit

-- what an expression at a place gave, where a type is asked for; what never ends is of any type
abbrev pub fitted_to : Frame → (place : ℕ) → Ty → Operand → Elab Operand
fitted_to f place t (known v) = fit_at f place (fit t v)
fitted_to f place t (run s e) = if is_noreturn s then pure (run s e) else not_built f place

abbrev pub fitted : Frame → (place : ℕ) → Option Ty → Operand → Elab Operand
fitted f place None o = pure o
fitted f place (Some t) o = fitted_to f place t o

-- an expression at a place with its result type, where it has one
unfoldable pub fitting : Frame → (place : ℕ) → Option Ty → Elab Operand → Elab Operand
fitting f place want m = seq m (fitted f place want)
