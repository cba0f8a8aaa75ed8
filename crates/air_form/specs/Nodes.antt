-- What a node is made of: the nodes that it refers to, and the indices that it has.
use Rattle.std.specs.Prelude.{◌≡◌, ℕ, ◌<◌, List, [], ◌∷◌, ◌++◌, map, All, Some, None, slice_get, length, ◌≤◌}
use Rattle.type_form.specs.declared.index.Index.{Index}
use Rattle.type_form.specs.Known.{Known}
use Rattle.type_form.specs.Means.{IsTy, IsValue, IsDecl, IsInstance, IsBytes, AreTys}
use Rattle.air_form.specs.declared.node.AirRef.{AirRef}
use Rattle.air_form.specs.declared.node.Part.{Part}
use Rattle.air_form.specs.declared.node.Callee.{Callee}
use Rattle.air_form.specs.declared.node.Callee.TheVariants as callee
use Rattle.air_form.specs.declared.node.AirNode.{AirNode}
use Rattle.air_form.specs.declared.node.AirNode.TheVariants as node

abbrev pub value_of : Part → AirRef
value_of p = p.value

-- the nodes that a node refers to
abbrev pub refs_of : AirNode → List AirRef
refs_of (node.Slot number) = []
refs_of node.Result = []
refs_of (node.Data item) = []
refs_of (node.Dereference ty pointer) = pointer ∷ []
refs_of (node.Field ty object number) = object ∷ []
refs_of (node.Element ty array index bound) = array ∷ index ∷ []
refs_of (node.SliceElement ty slice index) = slice ∷ index ∷ []
refs_of (node.Payload ty object) = object ∷ []
refs_of (node.Constant value) = []
refs_of (node.Load place) = place ∷ []
refs_of (node.Address place) = place ∷ []
refs_of (node.Binary op ty left right) = left ∷ right ∷ []
refs_of (node.Unary op ty operand) = operand ∷ []
refs_of (node.Compare op ty left right) = left ∷ right ∷ []
refs_of (node.Not operand) = operand ∷ []
refs_of (node.Convert conversion from to operand) = operand ∷ []
refs_of (node.And left right) = left ∷ right ∷ []
refs_of (node.Or left right) = left ∷ right ∷ []
refs_of (node.Length slice) = slice ∷ []
refs_of (node.Has object) = object ∷ []
refs_of (node.ErrorOf object) = object ∷ []
refs_of (node.TagOf object) = object ∷ []
refs_of (node.Call callee result arguments) = arguments
refs_of (node.Sequence statements value) = value ∷ statements
refs_of (node.Never statements) = statements
refs_of (node.Copy place) = place ∷ []
refs_of (node.Make parts) = map value_of parts
refs_of (node.Some payload) = payload ∷ []
refs_of (node.Good payload) = payload ∷ []
refs_of (node.Bad error) = error ∷ []
refs_of (node.Arm number payload) = payload ∷ []
refs_of (node.Slice pointer length) = pointer ∷ length ∷ []
refs_of (node.Subslice pointer length low high) = pointer ∷ length ∷ low ∷ high ∷ []
refs_of (node.WideCall callee result arguments) = arguments
refs_of (node.Init place value) = place ∷ value ∷ []
refs_of (node.Evaluate value) = value ∷ []
refs_of (node.If condition then otherwise) = condition ∷ then ++ otherwise
refs_of (node.Block label statements) = statements
refs_of (node.Loop label statements) = statements
refs_of (node.Break label) = []
refs_of (node.Return None) = []
refs_of (node.Return (Some value)) = value ∷ []
refs_of node.Trap = []
refs_of (node.Check condition) = condition ∷ []

-- each is a node below this number
abbrev pub AreBelow : ℕ → List AirRef → Type 0
AreBelow n [] = Unit {0}
AreBelow n (r ∷ rs) = (r.0 < n) × AreBelow n rs

-- each node refers to earlier ones
pub record AreEarlier (nodes : List AirNode) : Type 0 where
  pub earlier : (i : ℕ) (n : AirNode) → slice_get nodes i ≡ Some n → AreBelow i (refs_of n)

-- A builder, as contracts see it: the nodes so far, the types of the slots, the statements of the lists that are
-- open, the outer lists first, and how many labels there are.
pub record AirState : Type 0 where
  pub nodes : List AirNode
  pub slots : List Index
  pub statements : List AirRef
  pub labels : ℕ

-- each node refers to earlier ones, and each statement is a node
pub record IsBuilt (b : AirState) : Type 0 where
  pub earlier : AreEarlier b.nodes
  pub statements : AreBelow (length b.nodes) b.statements

-- A body, as contracts see it: nodes, and the numbers and indices that name them.
pub record BodyState : Type 0 where
  pub params : ℕ
  pub result : Index
  pub slots : List Index
  pub stmts : List AirRef
  pub errors : Index
  pub refers : List Index
  pub nodes : List AirNode

-- each node refers to earlier ones, each statement is a node, and the parameters have slots
pub record IsWhole (b : BodyState) : Type 0 where
  pub earlier : AreEarlier b.nodes
  pub stmts : AreBelow (length b.nodes) b.stmts
  pub params : b.params ≤ length b.slots

-- the indices of a function that is called denote what is wanted there
abbrev pub IsCallee : Known → Callee → Type 0
IsCallee k (callee.Instance i) = IsInstance k i
IsCallee k (callee.Extern decl library params) = IsDecl k decl × IsBytes k library × AreTys k params

-- the indices of a node denote what is wanted there
abbrev pub IsNode : Known → AirNode → Type 0
IsNode k (node.Slot number) = Unit {0}
IsNode k node.Result = Unit {0}
IsNode k (node.Data item) = IsValue k item
IsNode k (node.Dereference ty pointer) = IsTy k ty
IsNode k (node.Field ty object number) = IsTy k ty
IsNode k (node.Element ty array index bound) = IsTy k ty
IsNode k (node.SliceElement ty slice index) = IsTy k ty
IsNode k (node.Payload ty object) = IsTy k ty
IsNode k (node.Constant value) = IsValue k value
IsNode k (node.Load place) = Unit {0}
IsNode k (node.Address place) = Unit {0}
IsNode k (node.Binary op ty left right) = IsTy k ty
IsNode k (node.Unary op ty operand) = IsTy k ty
IsNode k (node.Compare op ty left right) = IsTy k ty
IsNode k (node.Not operand) = Unit {0}
IsNode k (node.Convert conversion from to operand) = IsTy k from × IsTy k to
IsNode k (node.And left right) = Unit {0}
IsNode k (node.Or left right) = Unit {0}
IsNode k (node.Length slice) = Unit {0}
IsNode k (node.Has object) = Unit {0}
IsNode k (node.ErrorOf object) = Unit {0}
IsNode k (node.TagOf object) = Unit {0}
IsNode k (node.Call callee result arguments) = IsCallee k callee × IsTy k result
IsNode k (node.Sequence statements value) = Unit {0}
IsNode k (node.Never statements) = Unit {0}
IsNode k (node.Copy place) = Unit {0}
IsNode k (node.Make parts) = Unit {0}
IsNode k (node.Some payload) = Unit {0}
IsNode k (node.Good payload) = Unit {0}
IsNode k (node.Bad error) = Unit {0}
IsNode k (node.Arm number payload) = Unit {0}
IsNode k (node.Slice pointer length) = Unit {0}
IsNode k (node.Subslice pointer length low high) = Unit {0}
IsNode k (node.WideCall callee result arguments) = IsCallee k callee × IsTy k result
IsNode k (node.Init place value) = Unit {0}
IsNode k (node.Evaluate value) = Unit {0}
IsNode k (node.If condition then otherwise) = Unit {0}
IsNode k (node.Block label statements) = Unit {0}
IsNode k (node.Loop label statements) = Unit {0}
IsNode k (node.Break label) = Unit {0}
IsNode k (node.Return value) = Unit {0}
IsNode k node.Trap = Unit {0}
IsNode k (node.Check condition) = Unit {0}
