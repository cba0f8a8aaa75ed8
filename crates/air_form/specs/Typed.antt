-- Typed bodies as plain trees. Each constructor is the form of that name, which says what it stands for
-- (`src/node.rt`), with trees for parts, types and values.
use Rattle.std.specs.Prelude.{ℕ, List, [], ◌∷◌}
use Rattle.type_form.specs.declared.tree.Ty.{Ty}
use Rattle.type_form.specs.declared.tree.Value.{Value}
use Rattle.type_form.specs.declared.tree.DeclPath.{DeclPath}
use Rattle.type_form.specs.declared.unit.Instance.{Instance}
use Rattle.air_form.specs.declared.operator.BinOp.{BinOp}
use Rattle.air_form.specs.declared.operator.UnOp.{UnOp}
use Rattle.air_form.specs.declared.operator.CmpOp.{CmpOp}
use Rattle.air_form.specs.declared.operator.Conversion.{Conversion}

-- the function that a call calls: an instance with a body, or a declaration that is imported from a module
-- of this name, with parameters of these types
pub data Function : Type 0 where
  instance : Instance → Function
  extern : (decl : DeclPath) → (library : List ℕ) → (params : List Ty) → Function

mutual
  -- where a value stands
  pub data Place : Type 0 where
    slot : (number : ℕ) → Place
    result_place : Place
    data_item : (item : Value) → Place
    dereference : (ty : Ty) → (pointer : Scalar) → Place
    field : (ty : Ty) → (object : Place) → (number : ℕ) → Place
    element : (ty : Ty) → (array : Place) → (index : Scalar) → (bound : ℕ) → Place
    slice_element : (ty : Ty) → (slice : Place) → (index : Scalar) → Place
    payload : (ty : Ty) → (object : Place) → Place

  -- an expression whose value an instruction can hold, or that has none
  pub data Scalar : Type 0 where
    constant : (value : Value) → Scalar
    load : (place : Place) → Scalar
    address : (place : Place) → Scalar
    binary : (op : BinOp) → (ty : Ty) → (left : Scalar) → (right : Scalar) → Scalar
    unary : (op : UnOp) → (ty : Ty) → (operand : Scalar) → Scalar
    compare : (op : CmpOp) → (ty : Ty) → (left : Scalar) → (right : Scalar) → Scalar
    not : (operand : Scalar) → Scalar
    convert : (conversion : Conversion) → (from : Ty) → (to : Ty) → (operand : Scalar) → Scalar
    and : (left : Scalar) → (right : Scalar) → Scalar
    or : (left : Scalar) → (right : Scalar) → Scalar
    slice_length : (slice : Place) → Scalar
    has : (object : Place) → Scalar
    error_of : (object : Place) → Scalar
    tag_of : (object : Place) → Scalar
    call : (callee : Function) → (result : Ty) → (arguments : Scalars) → Scalar
    sequence : (statements : Statements) → (value : Scalar) → Scalar
    never : (statements : Statements) → Scalar

  -- a value that is written into memory part by part
  pub data Wide : Type 0 where
    copy : (place : Place) → Wide
    make : (parts : Parts) → Wide
    some : (payload : Expression) → Wide
    good : (payload : Expression) → Wide
    bad : (error : Scalar) → Wide
    arm : (number : ℕ) → (payload : Expression) → Wide
    slice : (pointer : Scalar) → (length : Scalar) → Wide
    subslice : (pointer : Scalar) → (length : Scalar) → (low : Scalar) → (high : Scalar) → Wide
    wide_call : (callee : Function) → (result : Ty) → (arguments : Scalars) → Wide

  -- an expression, scalar or wide
  pub data Expression : Type 0 where
    scalar : Scalar → Expression
    wide : Wide → Expression

  pub data Statement : Type 0 where
    init : (place : Place) → (value : Expression) → Statement
    evaluate : (value : Scalar) → Statement
    if : (condition : Scalar) → (then : Statements) → (otherwise : Statements) → Statement
    block : (label : ℕ) → (statements : Statements) → Statement
    loop : (label : ℕ) → (statements : Statements) → Statement
    break : (label : ℕ) → Statement
    return : Statement
    return_value : (value : Scalar) → Statement
    trap : Statement
    check : (condition : Scalar) → Statement

  -- expressions in a row
  pub data Scalars : Type 0 where
    no_scalar : Scalars
    more_scalars : Scalar → Scalars → Scalars

  -- fields or elements by their numbers, with what they are set to, in a row
  pub data Parts : Type 0 where
    no_part : Parts
    more_parts : (number : ℕ) → (value : Expression) → Parts → Parts

  -- statements in a row
  pub data Statements : Type 0 where
    no_statement : Statements
    more_statements : Statement → Statements → Statements

-- the scalars of a list, in a row
abbrev pub scalars_of : List Scalar → Scalars
scalars_of [] = no_scalar
scalars_of (s ∷ ss) = more_scalars s (scalars_of ss)

-- the parts of a list, in a row
abbrev pub parts_of : List (ℕ × Expression) → Parts
parts_of [] = no_part
parts_of (p ∷ ps) = more_parts p.0 p.1 (parts_of ps)

-- the statements of a list, in a row
abbrev pub statements_of : List Statement → Statements
statements_of [] = no_statement
statements_of (s ∷ ss) = more_statements s (statements_of ss)

-- The typed body of an instance: how many of its slots are parameters, the result type of its function, where
-- an inferred error set has the names that it can return, the types of its slots, parameters first, its
-- statements, those error names in byte order where the set is inferred, and the instances with a body that
-- it calls, in the order of their first calls.
pub record TypedBody : Type 0 where
  pub params : ℕ
  pub result : Ty
  pub slots : List Ty
  pub statements : Statements
  pub errors : List (List ℕ)
  pub refers : List Instance
