-- A node's tree depends on those of the nodes that it refers to, and on what its indices denote.
use Rattle.std.proofs.Common.{◌≡◌, ℕ, zero, suc, ◌+◌, ◌<◌, ◌≤◌, List, [], ◌∷◌, ◌++◌, length, refl, sym, ◌∙◌, ap, arith, Some, None, Option}
use Rattle.std.specs.Prelude.{map}
use Rattle.type_form.specs.Known.{Known}
use Rattle.type_form.specs.Means.{Grows, ty_at, value_at, decl_at, instance_at, bytes_at, tys_at}
use Rattle.air_form.specs.declared.node.AirRef.{AirRef}
use Rattle.air_form.specs.declared.node.Part.{Part}
use Rattle.air_form.specs.declared.node.Callee.{Callee}
use Rattle.air_form.specs.declared.node.Callee.TheVariants as callee
use Rattle.air_form.specs.declared.node.AirNode.{AirNode}
use Rattle.air_form.specs.declared.node.AirNode.TheVariants as node
use Rattle.air_form.specs.Nodes.{IsCallee, IsNode, refs_of, value_of}
use Rattle.air_form.specs.Typed.{parts_of, scalars_of, statements_of}
use Rattle.air_form.specs.Denote.{Air, Nodes, arguments_of, function_at, list_of, over_nodes, part_of, scalar_of, statement_of}

-- two readings are one at some nodes
abbrev pub SameOn : Nodes → Nodes → List AirRef → Type 0
SameOn a b [] = Unit {0}
SameOn a b (r ∷ rs) = (a r ≡ b r) × SameOn a b rs

SameOn-left : (a b : Nodes) (rs ss : List AirRef) → SameOn a b (rs ++ ss) → SameOn a b rs
SameOn-left a b [] ss h = tt
SameOn-left a b (r ∷ rs) ss h = (h.0, SameOn-left a b rs ss h.1)

SameOn-right : (a b : Nodes) (rs ss : List AirRef) → SameOn a b (rs ++ ss) → SameOn a b ss
SameOn-right a b [] ss h = h
SameOn-right a b (r ∷ rs) ss h = SameOn-right a b rs ss h.1

map-scalars : (a b : Nodes) (rs : List AirRef) → SameOn a b rs → map (scalar_of a) rs ≡ map (scalar_of b) rs
map-scalars a b [] h = refl
map-scalars a b (r ∷ rs) h = let e : map (scalar_of a) rs ≡ map (scalar_of b) rs = map-scalars a b rs h.1 in cc

pub map-statements : (a b : Nodes) (rs : List AirRef) → SameOn a b rs → map (statement_of a) rs ≡ map (statement_of b) rs
map-statements a b [] h = refl
map-statements a b (r ∷ rs) h = let e : map (statement_of a) rs ≡ map (statement_of b) rs = map-statements a b rs h.1 in cc

map-parts : (a b : Nodes) (ps : List Part) → SameOn a b (map value_of ps) → map (part_of a) ps ≡ map (part_of b) ps
map-parts a b [] h = refl
map-parts a b (p ∷ ps) h = let e : map (part_of a) ps ≡ map (part_of b) ps = map-parts a b ps h.1 in cc

pub over-same : (k : Known) (a b : Nodes) (n : AirNode) → SameOn a b (refs_of n) → over_nodes k a n ≡ over_nodes k b n
unfolding over_nodes
over-same k a b (node.Slot number) h = refl
over-same k a b node.Result h = refl
over-same k a b (node.Data item) h = refl
over-same k a b (node.Dereference ty pointer) h = cc
over-same k a b (node.Field ty object number) h = cc
over-same k a b (node.Element ty array index bound) h = cc
over-same k a b (node.SliceElement ty slice index) h = cc
over-same k a b (node.Payload ty object) h = cc
over-same k a b (node.Constant value) h = refl
over-same k a b (node.Load place) h = cc
over-same k a b (node.Address place) h = cc
over-same k a b (node.Binary op ty left right) h = cc
over-same k a b (node.Unary op ty operand) h = cc
over-same k a b (node.Compare op ty left right) h = cc
over-same k a b (node.Not operand) h = cc
over-same k a b (node.Convert conversion from to operand) h = cc
over-same k a b (node.And left right) h = cc
over-same k a b (node.Or left right) h = cc
over-same k a b (node.Length slice) h = cc
over-same k a b (node.Has object) h = cc
over-same k a b (node.ErrorOf object) h = cc
over-same k a b (node.TagOf object) h = cc
over-same k a b (node.Call callee result arguments) h = let e : arguments_of a arguments ≡ arguments_of b arguments = ap scalars_of (map-scalars a b arguments h) in cc
over-same k a b (node.Sequence statements value) h = let e : list_of a statements ≡ list_of b statements = ap statements_of (map-statements a b statements h.1) in cc
over-same k a b (node.Never statements) h = let e : list_of a statements ≡ list_of b statements = ap statements_of (map-statements a b statements h) in cc
over-same k a b (node.Copy place) h = cc
over-same k a b (node.Make parts) h = let e : parts_of (map (part_of a) parts) ≡ parts_of (map (part_of b) parts) = ap parts_of (map-parts a b parts h) in cc
over-same k a b (node.Some payload) h = cc
over-same k a b (node.Good payload) h = cc
over-same k a b (node.Bad error) h = cc
over-same k a b (node.Arm number payload) h = cc
over-same k a b (node.Slice pointer length) h = cc
over-same k a b (node.Subslice pointer length low high) h = cc
over-same k a b (node.WideCall callee result arguments) h = let e : arguments_of a arguments ≡ arguments_of b arguments = ap scalars_of (map-scalars a b arguments h) in cc
over-same k a b (node.Init place value) h = cc
over-same k a b (node.Evaluate value) h = cc
over-same k a b (node.If condition then otherwise) h =
    let e : list_of a then ≡ list_of b then = ap statements_of (map-statements a b then (SameOn-left a b then otherwise h.1)) in
    let f : list_of a otherwise ≡ list_of b otherwise = ap statements_of (map-statements a b otherwise (SameOn-right a b then otherwise h.1)) in
    cc
over-same k a b (node.Block label statements) h = let e : list_of a statements ≡ list_of b statements = ap statements_of (map-statements a b statements h) in cc
over-same k a b (node.Loop label statements) h = let e : list_of a statements ≡ list_of b statements = ap statements_of (map-statements a b statements h) in cc
over-same k a b (node.Break label) h = refl
over-same k a b (node.Return None) h = refl
over-same k a b (node.Return (Some value)) h = cc
over-same k a b node.Trap h = refl
over-same k a b (node.Check condition) h = cc

-- ---- more that is known

callee-grows : (k l : Known) → Grows k l → (c : Callee) → IsCallee k c → IsCallee l c
callee-grows k l g (callee.Instance i) h = g.stays.is_instance i h
callee-grows k l g (callee.Extern decl library params) h = (g.stays.is_decl decl h.0, g.stays.is_bytes library h.1, g.stays.is_tys params h.2)

function-grows : (k l : Known) → Grows k l → (c : Callee) → IsCallee k c → function_at l c ≡ function_at k c
function-grows k l g (callee.Instance i) h = let e : instance_at l i ≡ instance_at k i = g.stays.instance i h in cc
function-grows k l g (callee.Extern decl library params) h =
    let d : decl_at l decl ≡ decl_at k decl = g.stays.decl decl h.0 in
    let e : bytes_at l library ≡ bytes_at k library = g.stays.bytes library h.1 in
    let f : tys_at l params ≡ tys_at k params = g.stays.tys params h.2 in
    cc

pub IsNode-grows : (k l : Known) → Grows k l → (n : AirNode) → IsNode k n → IsNode l n
IsNode-grows k l g (node.Slot number) h = tt
IsNode-grows k l g node.Result h = tt
IsNode-grows k l g (node.Data item) h = g.stays.is_value item h
IsNode-grows k l g (node.Dereference ty pointer) h = g.stays.is_ty ty h
IsNode-grows k l g (node.Field ty object number) h = g.stays.is_ty ty h
IsNode-grows k l g (node.Element ty array index bound) h = g.stays.is_ty ty h
IsNode-grows k l g (node.SliceElement ty slice index) h = g.stays.is_ty ty h
IsNode-grows k l g (node.Payload ty object) h = g.stays.is_ty ty h
IsNode-grows k l g (node.Constant value) h = g.stays.is_value value h
IsNode-grows k l g (node.Load place) h = tt
IsNode-grows k l g (node.Address place) h = tt
IsNode-grows k l g (node.Binary op ty left right) h = g.stays.is_ty ty h
IsNode-grows k l g (node.Unary op ty operand) h = g.stays.is_ty ty h
IsNode-grows k l g (node.Compare op ty left right) h = g.stays.is_ty ty h
IsNode-grows k l g (node.Not operand) h = tt
IsNode-grows k l g (node.Convert conversion from to operand) h = (g.stays.is_ty from h.0, g.stays.is_ty to h.1)
IsNode-grows k l g (node.And left right) h = tt
IsNode-grows k l g (node.Or left right) h = tt
IsNode-grows k l g (node.Length slice) h = tt
IsNode-grows k l g (node.Has object) h = tt
IsNode-grows k l g (node.ErrorOf object) h = tt
IsNode-grows k l g (node.TagOf object) h = tt
IsNode-grows k l g (node.Call callee result arguments) h = (callee-grows k l g callee h.0, g.stays.is_ty result h.1)
IsNode-grows k l g (node.Sequence statements value) h = tt
IsNode-grows k l g (node.Never statements) h = tt
IsNode-grows k l g (node.Copy place) h = tt
IsNode-grows k l g (node.Make parts) h = tt
IsNode-grows k l g (node.Some payload) h = tt
IsNode-grows k l g (node.Good payload) h = tt
IsNode-grows k l g (node.Bad error) h = tt
IsNode-grows k l g (node.Arm number payload) h = tt
IsNode-grows k l g (node.Slice pointer length) h = tt
IsNode-grows k l g (node.Subslice pointer length low high) h = tt
IsNode-grows k l g (node.WideCall callee result arguments) h = (callee-grows k l g callee h.0, g.stays.is_ty result h.1)
IsNode-grows k l g (node.Init place value) h = tt
IsNode-grows k l g (node.Evaluate value) h = tt
IsNode-grows k l g (node.If condition then otherwise) h = tt
IsNode-grows k l g (node.Block label statements) h = tt
IsNode-grows k l g (node.Loop label statements) h = tt
IsNode-grows k l g (node.Break label) h = tt
IsNode-grows k l g (node.Return value) h = tt
IsNode-grows k l g node.Trap h = tt
IsNode-grows k l g (node.Check condition) h = tt

pub over-grows : (k l : Known) → Grows k l → (at : Nodes) (n : AirNode) → IsNode k n → over_nodes l at n ≡ over_nodes k at n
unfolding over_nodes
over-grows k l g at (node.Slot number) h = refl
over-grows k l g at node.Result h = refl
over-grows k l g at (node.Data item) h = let e0 : value_at l item ≡ value_at k item = g.stays.value item h in cc
over-grows k l g at (node.Dereference ty pointer) h = let e0 : ty_at l ty ≡ ty_at k ty = g.stays.ty ty h in cc
over-grows k l g at (node.Field ty object number) h = let e0 : ty_at l ty ≡ ty_at k ty = g.stays.ty ty h in cc
over-grows k l g at (node.Element ty array index bound) h = let e0 : ty_at l ty ≡ ty_at k ty = g.stays.ty ty h in cc
over-grows k l g at (node.SliceElement ty slice index) h = let e0 : ty_at l ty ≡ ty_at k ty = g.stays.ty ty h in cc
over-grows k l g at (node.Payload ty object) h = let e0 : ty_at l ty ≡ ty_at k ty = g.stays.ty ty h in cc
over-grows k l g at (node.Constant value) h = let e0 : value_at l value ≡ value_at k value = g.stays.value value h in cc
over-grows k l g at (node.Load place) h = refl
over-grows k l g at (node.Address place) h = refl
over-grows k l g at (node.Binary op ty left right) h = let e0 : ty_at l ty ≡ ty_at k ty = g.stays.ty ty h in cc
over-grows k l g at (node.Unary op ty operand) h = let e0 : ty_at l ty ≡ ty_at k ty = g.stays.ty ty h in cc
over-grows k l g at (node.Compare op ty left right) h = let e0 : ty_at l ty ≡ ty_at k ty = g.stays.ty ty h in cc
over-grows k l g at (node.Not operand) h = refl
over-grows k l g at (node.Convert conversion from to operand) h = let e0 : ty_at l from ≡ ty_at k from = g.stays.ty from h.0 in let e1 : ty_at l to ≡ ty_at k to = g.stays.ty to h.1 in cc
over-grows k l g at (node.And left right) h = refl
over-grows k l g at (node.Or left right) h = refl
over-grows k l g at (node.Length slice) h = refl
over-grows k l g at (node.Has object) h = refl
over-grows k l g at (node.ErrorOf object) h = refl
over-grows k l g at (node.TagOf object) h = refl
over-grows k l g at (node.Call callee result arguments) h =
    let e : function_at l callee ≡ function_at k callee = function-grows k l g callee h.0 in
    let f : ty_at l result ≡ ty_at k result = g.stays.ty result h.1 in
    cc
over-grows k l g at (node.Sequence statements value) h = refl
over-grows k l g at (node.Never statements) h = refl
over-grows k l g at (node.Copy place) h = refl
over-grows k l g at (node.Make parts) h = refl
over-grows k l g at (node.Some payload) h = refl
over-grows k l g at (node.Good payload) h = refl
over-grows k l g at (node.Bad error) h = refl
over-grows k l g at (node.Arm number payload) h = refl
over-grows k l g at (node.Slice pointer length) h = refl
over-grows k l g at (node.Subslice pointer length low high) h = refl
over-grows k l g at (node.WideCall callee result arguments) h =
    let e : function_at l callee ≡ function_at k callee = function-grows k l g callee h.0 in
    let f : ty_at l result ≡ ty_at k result = g.stays.ty result h.1 in
    cc
over-grows k l g at (node.Init place value) h = refl
over-grows k l g at (node.Evaluate value) h = refl
over-grows k l g at (node.If condition then otherwise) h = refl
over-grows k l g at (node.Block label statements) h = refl
over-grows k l g at (node.Loop label statements) h = refl
over-grows k l g at (node.Break label) h = refl
over-grows k l g at (node.Return value) h = refl
over-grows k l g at node.Trap h = refl
over-grows k l g at (node.Check condition) h = refl
