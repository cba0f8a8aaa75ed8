-- What each form of the core tree asks, judges and gives.
use Rattle.std.specs.Prelude.{ℕ, zero, suc, Option, Some, None}
use Rattle.zir_form.specs.Core.{Core, Cores}
use Rattle.zir_form.specs.Core as core
use Rattle.type_form.specs.declared.tree.Ty.{Ty}
use Rattle.elab_form.specs.State.{Frame, Operand, known}
use Rattle.elab_form.specs.Asking.{Elab, pure, seq, apart, not_built}
use Rattle.elab_form.specs.Places.{place_of, value_place}
use Rattle.elab_form.specs.Coercion.{fitting}
use Rattle.elab_form.specs.Names.{primitive_form, declared_form}
use Rattle.elab_form.specs.Numbers.{integer_form}
use Rattle.elab_form.specs.Control.{void_value, behind_statement, block_end, dropped, leaving_all, return_with}

-- A form in its frame, with its result type where it has one.
abbrev pub FormOf : Type 0
FormOf = Frame → Option Ty → Core → Elab Operand

-- What a form gives, before it is brought to its result type. `inner` is what a function's text gives that is
-- called at comptime, where so deep a call may stand.
abbrev mutual
  pub form : Option FormOf → FormOf
  form inner f want (core.integer place n) = integer_form f place n
  form inner f want (core.primitive place p) = primitive_form f place p
  form inner f want (core.declared place depth name) = declared_form f place depth name
  -- parentheses: the same expression, begun earlier
  form inner f want (core.grouped place c) = form inner f want c
  -- a value that is left out is that of `void`
  form inner f want core.absent = pure (known void_value)
  -- the value is met first, with the type of the function's result
  form inner f want (core.return place c leaves) =
      seq (apart (fitting f (value_place place c) f.result (form inner f f.result c)))
      (λ o. leaving_all f place leaves (return_with f place o))
  form inner f want (core.block place statements leaves) = seq (forms inner f statements) (block_end f place leaves)
  -- an expression as a statement has no result type
  form inner f want (core.ignored place c) = seq (form inner f None c) (dropped f place)
  form inner f want c = not_built f (place_of c)

  -- statements in a row, up to one that never ends
  pub forms : Option FormOf → Frame → Cores → Elab Operand
  forms inner f core.none = pure (known void_value)
  forms inner f (core.more c rest) = seq (form inner f None c) (behind_statement (forms inner f rest))

-- how deep calls at comptime may lie inside each other
unfoldable pub most_calls : ℕ
most_calls = 200

-- what a function's text gives that is called at comptime, where calls may lie so deep inside it
abbrev pub inner_at : ℕ → Option FormOf
inner_at zero = None
inner_at (suc depth) = Some (form (inner_at depth))

-- a form in which calls may lie so deep inside each other
unfoldable pub form_at : ℕ → FormOf
form_at depth = form (inner_at depth)

-- an expression in its frame, brought to its result type where it has one
abbrev pub expression : Frame → Option Ty → Core → Elab Operand
expression f want c = fitting f (place_of c) want (form_at most_calls f want c)
