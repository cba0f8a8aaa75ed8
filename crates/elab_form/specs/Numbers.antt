-- Numbers (Zig Language Reference 0.14, "Integer Literals").
use Rattle.std.specs.Prelude.{ℕ, pos, ◌^◌, nat_lt, if◌then◌else◌}
use Rattle.zw_base.specs.declared.diag.DiagCode.TheVariants as code
use Rattle.type_form.specs.declared.tree.Ty.TheVariants as ty
use Rattle.type_form.specs.declared.tree.Value.TheVariants as value
use Rattle.type_form.specs.declared.tree.SimpleTy.TheVariants as simple
use Rattle.elab_form.specs.State.{Frame, Operand, known}
use Rattle.elab_form.specs.Asking.{Elab, pure, wrong}

-- a whole number is a known `comptime_int`; no token is above 2^127 - 1
abbrev pub integer_form : Frame → (place : ℕ) → (value : ℕ) → Elab Operand
integer_form f place n = if nat_lt n (2 ^ 127) then pure (known (value.Int (ty.Simple simple.ComptimeInt) (pos n))) else wrong f place code.BadNumber
