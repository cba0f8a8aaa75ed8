-- Which plain trees nodes stand for.
use Rattle.std.specs.Prelude.{ℕ, List, [], ◌∷◌, ◌++◌, map, All, Option, Some, None, slice_index_or}
use Rattle.type_form.specs.declared.index.Index.{Index}
use Rattle.type_form.specs.Known.{Known}
use Rattle.type_form.specs.Means.{IsTy, ty_at, value_at, decl_at, IsInstance, instance_at, bytes_at, AreNames, names_at, tys_at}
use Rattle.air_form.specs.declared.node.AirRef.{AirRef}
use Rattle.air_form.specs.declared.node.Part.{Part}
use Rattle.air_form.specs.declared.node.Callee.{Callee}
use Rattle.air_form.specs.declared.node.Callee.TheVariants as callee
use Rattle.air_form.specs.declared.node.AirNode.{AirNode}
use Rattle.air_form.specs.declared.node.AirNode.TheVariants as node
use Rattle.air_form.specs.Nodes.{BodyState, IsNode}
use Rattle.air_form.specs.Typed as typed
use Rattle.air_form.specs.Typed.{Function, Place, Scalar, Wide, Expression, Statement, Scalars, Parts, Statements, scalars_of, parts_of, statements_of, TypedBody}

-- What a node stands for: a tree of one of three sorts.
pub data Air : Type 0 where
  of_place : Place → Air
  of_expression : Expression → Air
  of_statement : Statement → Air

-- A reference to a node of another sort stands for a tree of the sort that is wanted all the same.
abbrev pub as_place : Air → Place
as_place (of_place p) = p
as_place _ = typed.result_place

abbrev pub scalar_in : Expression → Scalar
scalar_in (typed.scalar s) = s
scalar_in (typed.wide w) = typed.never typed.no_statement

abbrev pub as_scalar : Air → Scalar
as_scalar (of_expression e) = scalar_in e
as_scalar _ = typed.never typed.no_statement

abbrev pub as_expression : Air → Expression
as_expression (of_expression e) = e
as_expression _ = typed.scalar (typed.never typed.no_statement)

abbrev pub as_statement : Air → Statement
as_statement (of_statement s) = s
as_statement _ = typed.trap

-- What each node is read as.
abbrev pub Nodes : Type 0
Nodes = AirRef → Air

abbrev pub place_of : Nodes → AirRef → Place
place_of at r = as_place (at r)

abbrev pub scalar_of : Nodes → AirRef → Scalar
scalar_of at r = as_scalar (at r)

abbrev pub expression_of : Nodes → AirRef → Expression
expression_of at r = as_expression (at r)

abbrev pub statement_of : Nodes → AirRef → Statement
statement_of at r = as_statement (at r)

abbrev pub part_of : Nodes → Part → ℕ × Expression
part_of at p = (p.number, expression_of at p.value)

abbrev pub arguments_of : Nodes → List AirRef → Scalars
arguments_of at rs = scalars_of (map (scalar_of at) rs)

abbrev pub list_of : Nodes → List AirRef → Statements
list_of at rs = statements_of (map (statement_of at) rs)

abbrev pub returned : Nodes → Option AirRef → Statement
returned at None = typed.return
returned at (Some r) = typed.return_value (scalar_of at r)

-- the function that a call calls
abbrev pub function_at : Known → Callee → Function
function_at k (callee.Instance i) = typed.instance (instance_at k i)
function_at k (callee.Extern decl library params) = typed.extern (decl_at k decl) (bytes_at k library) (tys_at k params)

abbrev pub scalar_air : Scalar → Air
scalar_air s = of_expression (typed.scalar s)

abbrev pub wide_air : Wide → Air
wide_air w = of_expression (typed.wide w)

-- a node with a tree for each node that it refers to
unfoldable pub over_nodes : Known → Nodes → AirNode → Air
over_nodes k at (node.Slot number) = of_place (typed.slot number)
over_nodes k at node.Result = of_place typed.result_place
over_nodes k at (node.Data item) = of_place (typed.data_item (value_at k item))
over_nodes k at (node.Dereference ty pointer) = of_place (typed.dereference (ty_at k ty) (scalar_of at pointer))
over_nodes k at (node.Field ty object number) = of_place (typed.field (ty_at k ty) (place_of at object) number)
over_nodes k at (node.Element ty array index bound) = of_place (typed.element (ty_at k ty) (place_of at array) (scalar_of at index) bound)
over_nodes k at (node.SliceElement ty slice index) = of_place (typed.slice_element (ty_at k ty) (place_of at slice) (scalar_of at index))
over_nodes k at (node.Payload ty object) = of_place (typed.payload (ty_at k ty) (place_of at object))
over_nodes k at (node.Constant value) = scalar_air (typed.constant (value_at k value))
over_nodes k at (node.Load place) = scalar_air (typed.load (place_of at place))
over_nodes k at (node.Address place) = scalar_air (typed.address (place_of at place))
over_nodes k at (node.Binary op ty left right) = scalar_air (typed.binary op (ty_at k ty) (scalar_of at left) (scalar_of at right))
over_nodes k at (node.Unary op ty operand) = scalar_air (typed.unary op (ty_at k ty) (scalar_of at operand))
over_nodes k at (node.Compare op ty left right) = scalar_air (typed.compare op (ty_at k ty) (scalar_of at left) (scalar_of at right))
over_nodes k at (node.Not operand) = scalar_air (typed.not (scalar_of at operand))
over_nodes k at (node.Convert conversion from to operand) = scalar_air (typed.convert conversion (ty_at k from) (ty_at k to) (scalar_of at operand))
over_nodes k at (node.And left right) = scalar_air (typed.and (scalar_of at left) (scalar_of at right))
over_nodes k at (node.Or left right) = scalar_air (typed.or (scalar_of at left) (scalar_of at right))
over_nodes k at (node.Length slice) = scalar_air (typed.slice_length (place_of at slice))
over_nodes k at (node.Has object) = scalar_air (typed.has (place_of at object))
over_nodes k at (node.ErrorOf object) = scalar_air (typed.error_of (place_of at object))
over_nodes k at (node.TagOf object) = scalar_air (typed.tag_of (place_of at object))
over_nodes k at (node.Call callee result arguments) = scalar_air (typed.call (function_at k callee) (ty_at k result) (arguments_of at arguments))
over_nodes k at (node.Sequence statements value) = scalar_air (typed.sequence (list_of at statements) (scalar_of at value))
over_nodes k at (node.Never statements) = scalar_air (typed.never (list_of at statements))
over_nodes k at (node.Copy place) = wide_air (typed.copy (place_of at place))
over_nodes k at (node.Make parts) = wide_air (typed.make (parts_of (map (part_of at) parts)))
over_nodes k at (node.Some payload) = wide_air (typed.some (expression_of at payload))
over_nodes k at (node.Good payload) = wide_air (typed.good (expression_of at payload))
over_nodes k at (node.Bad error) = wide_air (typed.bad (scalar_of at error))
over_nodes k at (node.Arm number payload) = wide_air (typed.arm number (expression_of at payload))
over_nodes k at (node.Slice pointer length) = wide_air (typed.slice (scalar_of at pointer) (scalar_of at length))
over_nodes k at (node.Subslice pointer length low high) = wide_air (typed.subslice (scalar_of at pointer) (scalar_of at length) (scalar_of at low) (scalar_of at high))
over_nodes k at (node.WideCall callee result arguments) = wide_air (typed.wide_call (function_at k callee) (ty_at k result) (arguments_of at arguments))
over_nodes k at (node.Init place value) = of_statement (typed.init (place_of at place) (expression_of at value))
over_nodes k at (node.Evaluate value) = of_statement (typed.evaluate (scalar_of at value))
over_nodes k at (node.If condition then otherwise) = of_statement (typed.if (scalar_of at condition) (list_of at then) (list_of at otherwise))
over_nodes k at (node.Block label statements) = of_statement (typed.block label (list_of at statements))
over_nodes k at (node.Loop label statements) = of_statement (typed.loop label (list_of at statements))
over_nodes k at (node.Break label) = of_statement (typed.break label)
over_nodes k at (node.Return value) = of_statement (returned at value)
over_nodes k at node.Trap = of_statement typed.trap
over_nodes k at (node.Check condition) = of_statement (typed.check (scalar_of at condition))

-- the tree with this number among some
abbrev pub tree_at : List Air → AirRef → Air
tree_at trees r = slice_index_or trees r.0 (of_statement typed.trap)

-- the trees of nodes, in order, each over the trees of the nodes before it
abbrev pub trees_after : Known → List Air → List AirNode → List Air
trees_after k trees [] = trees
trees_after k trees (n ∷ more) = trees_after k (trees ++ over_nodes k (tree_at trees) n ∷ []) more

unfoldable pub trees_of : Known → List AirNode → List Air
trees_of k nodes = trees_after k [] nodes

-- what the node with this number stands for
unfoldable pub air_at : Known → List AirNode → AirRef → Air
air_at k nodes r = tree_at (trees_of k nodes) r

-- the typed body that it stands for
unfoldable pub body_at : Known → BodyState → TypedBody
body_at k b = record {
  params = b.params;
  result = ty_at k b.result;
  slots = map (ty_at k) b.slots;
  statements = list_of (air_at k b.nodes) b.stmts;
  errors = names_at k b.errors;
  refers = map (instance_at k) b.refers;
}

-- each index of a body denotes what is wanted there
pub record IsBody (k : Known) (b : BodyState) : Type 0 where
  pub result : IsTy k b.result
  pub slots : All (IsTy k) b.slots
  pub errors : AreNames k b.errors
  pub refers : All (IsInstance k) b.refers
  pub nodes : All (IsNode k) b.nodes
