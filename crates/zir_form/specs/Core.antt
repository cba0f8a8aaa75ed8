-- The core tree: the plain tree over the forms. Each constructor is the form of that name, which says what it
-- stands for (`src/form.rt`), with trees for children.
use Rattle.std.specs.Prelude.{ℕ, Bool, List, [], ◌∷◌, Option}
use Rattle.zir_form.specs.declared.primitive.Primitive.{Primitive}
use Rattle.zir_form.specs.declared.operator.BinaryOperator.{BinaryOperator}
use Rattle.zir_form.specs.declared.operator.UnaryOperator.{UnaryOperator}
use Rattle.zir_form.specs.declared.builtin.Builtin.{Builtin}

mutual
  pub data Core : Type 0 where
    missing : Core
    absent : Core
    -- ---- names
    local : (place : ℕ) → (number : ℕ) → Core
    captured : (place : ℕ) → (number : ℕ) → Core
    declared : (place : ℕ) → (depth : ℕ) → (name : List ℕ) → Core
    primitive : (place : ℕ) → (primitive : Primitive) → Core
    -- ---- literals
    integer : (place : ℕ) → (value : ℕ) → Core
    text : (place : ℕ) → (bytes : List ℕ) → Core
    lines : (place : ℕ) → (bytes : List ℕ) → Core
    unreachable : (place : ℕ) → Core
    enum_literal : (place : ℕ) → (name : List ℕ) → Core
    error_value : (place : ℕ) → (name : List ℕ) → Core
    error_set : (place : ℕ) → (names : List (List ℕ)) → Core
    container : (place : ℕ) → (ordinal : ℕ) → (captures : Cores) → Core
    -- ---- calls and what is asked of a value
    builtin : (place : ℕ) → (builtin : Builtin) → (arguments : Cores) → Core
    import : (place : ℕ) → (path : List ℕ) → Core
    grouped : (place : ℕ) → (inner : Core) → Core
    member : (place : ℕ) → (name_place : ℕ) → (object : Core) → (name : List ℕ) → Core
    dereference : (place : ℕ) → (object : Core) → Core
    unwrap : (place : ℕ) → (object : Core) → Core
    index : (place : ℕ) → (object : Core) → (index : Core) → Core
    slice : (place : ℕ) → (object : Core) → (start : Core) → (end : Core) → Core
    call : (place : ℕ) → (callee : Core) → (arguments : Cores) → Core
    -- ---- operators ("Operators")
    unary : (place : ℕ) → (operator : UnaryOperator) → (operand : Core) → Core
    address : (place : ℕ) → (operand : Core) → Core
    try : (place : ℕ) → (operand : Core) → (leaves : Cores) → Core
    binary : (place : ℕ) → (operator_place : ℕ) → (operator : BinaryOperator) → (left : Core) → (right : Core) → Core
    and : (place : ℕ) → (operator_place : ℕ) → (left : Core) → (right : Core) → Core
    or : (place : ℕ) → (operator_place : ℕ) → (left : Core) → (right : Core) → Core
    orelse : (place : ℕ) → (operator_place : ℕ) → (left : Core) → (right : Core) → Core
    catch : (place : ℕ) → (operator_place : ℕ) → (left : Core) → (capture : Core) → (right : Core) → Core
    comptime : (place : ℕ) → (inner : Core) → Core
    -- ---- types
    optional : (place : ℕ) → (child : Core) → Core
    pointer : (place : ℕ) → (is_const : Bool) → (child : Core) → Core
    slice_type : (place : ℕ) → (is_const : Bool) → (child : Core) → Core
    array_type : (place : ℕ) → (length : Core) → (child : Core) → Core
    error_union : (place : ℕ) → (errors : Core) → (payload : Core) → Core
    -- ---- values of containers
    initializer : (place : ℕ) → (ty : Core) → (values : Core) → Core
    no_values : Core
    named_values : (values : Cores) → Core
    named_value : (name : List ℕ) → (value : Core) → Core
    listed_values : (values : Cores) → Core
    -- ---- control
    block : (place : ℕ) → (statements : Cores) → (leaves : Core) → Core
    labelled : (place : ℕ) → (block : Core) → Core
    if : (place : ℕ) → (condition : Core) → (capture : Core) → (branches : Core) → Core
    branches : (body : Core) → (capture : Core) → (otherwise : Core) → Core
    loop : (place : ℕ) → (head : Core) → (turn : Core) → (branches : Core) → Core
    while_head : (condition : Core) → (capture : Core) → Core
    for_head : (operands : Cores) → (captures : Core) → Core
    range : (place : ℕ) → (start : Core) → (end : Core) → Core
    captures : (captures : Cores) → Core
    capture : (place : ℕ) → (local : Option ℕ) → Core
    pointer_capture : (capture : Core) → Core
    switch : (place : ℕ) → (operand : Core) → (prongs : Cores) → Core
    prong : (items : Cores) → (capture : Core) → (body : Core) → Core
    else_prong : (place : ℕ) → (capture : Core) → (body : Core) → Core
    interval : (place : ℕ) → (first : Core) → (last : Core) → Core
    break : (place : ℕ) → (target : ℕ) → (value : Core) → (leaves : Cores) → Core
    continue : (place : ℕ) → (target : ℕ) → (leaves : Cores) → Core
    return : (place : ℕ) → (value : Core) → (leaves : Cores) → Core
    runs : (first : Core) → (then : Core) → Core
    on_error : (capture : Core) → (body : Core) → Core
    -- ---- statements
    assign : (place : ℕ) → (operator_place : ℕ) → (target : Core) → (value : Core) → Core
    assign_with : (place : ℕ) → (operator_place : ℕ) → (operator : BinaryOperator) → (target : Core) → (value : Core) → Core
    discard : (place : ℕ) → (value : Core) → Core
    ignored : (place : ℕ) → (value : Core) → Core
    constant : (name_place : ℕ) → (local : Option ℕ) → (ty : Core) → (value : Core) → Core
    variable : (name_place : ℕ) → (local : Option ℕ) → (ty : Core) → (value : Core) → Core
    -- ---- functions ("Functions")
    function : (head : Core) → (body : Core) → Core
    head : (name_place : ℕ) → (linkage : Core) → (parameters : Cores) → (inferred : Core) → (result : Core) → Core
    exported : Core
    external : (library : List ℕ) → Core
    inferred : (place : ℕ) → Core
    parameter : (local : Option ℕ) → (is_comptime : Bool) → (ty : Core) → Core
    anytype : (place : ℕ) → Core
    -- ---- what containers hold
    struct : (place : ℕ) → (fields : Core) → Core
    enum : (place : ℕ) → (tag : Core) → (fields : Core) → Core
    union : (place : ℕ) → (tag : Core) → (fields : Core) → Core
    own_tag : Core
    fields : (fields : Cores) → Core
    field : (name_place : ℕ) → (name : List ℕ) → (ty : Core) → (value : Core) → Core

  -- trees in a row
  pub data Cores : Type 0 where
    none : Cores
    more : Core → Cores → Cores

-- trees of a list, in a row
abbrev pub cores_of : List Core → Cores
cores_of [] = none
cores_of (c ∷ cs) = more c (cores_of cs)
