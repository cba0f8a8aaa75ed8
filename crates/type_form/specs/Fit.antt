-- Which trees are fit: each type and each value has one such tree, and each tree a spelling of its own. All that analysis hands on is to be fit.
--
-- Why a spelling can be read back: the run of path bytes that a type begins with, and the byte behind it, tell its
-- kind: `?`, `*`, `[`, `@:`, `@` and a word, `error{`, `fn(`, a path before `:`, or a word alone; a set before `!` is
-- one of two kinds. A declaration is a file's path and then steps, each told by its first byte, `:`, `.`, `#` or `(`.
-- A value is read where its type is known, which stands before `=` or follows from the whole that it is a part of.
-- A name, a number or a path is a run, and what stands behind it is none of its bytes. No item of a list begins with
-- the byte that closes the list.
use Rattle.std.specs.Prelude.{◌≡◌, ℕ, ◌<◌, ◌≤◌, ◌^◌, Bool, true, false, List, [], ◌∷◌, length, map, if◌then◌else◌, Option, Some, None}
use Rattle.std.specs.List.{list_all, AllByRecursion}
use Rattle.std.specs.Str.{bytes_eq}
use Rattle.std.specs.Ordering.{nat_cmp}
use Rattle.std.specs.Cmp.Lexicographic.{slice_cmp}
use Rattle.std.specs.declared.cmp.Ordering.TheVariants.{Less}
use Rattle.zw_base.specs.Path.{is_path_byte}
use Rattle.type_form.specs.declared.tree.Ty.{Ty, out-Ty}
use Rattle.type_form.specs.declared.tree.Value.{Value, out-Value}
use Rattle.type_form.specs.declared.tree.DeclPath.{DeclPath}
use Rattle.type_form.specs.declared.tree.Arg.{Arg}
use Rattle.type_form.specs.declared.tree.Arg.TheFolds.{every-Ty, every-Value, every-DeclPath, every-Arg}
use Rattle.type_form.specs.declared.tree.Arg.TheOpen as layer
use Rattle.type_form.specs.declared.tree.Ty.TheVariants as ty
use Rattle.type_form.specs.declared.tree.SimpleTy.TheVariants as simple
use Rattle.type_form.specs.declared.tree.SimpleValue.{SimpleValue}
use Rattle.type_form.specs.declared.tree.SimpleValue.TheVariants as known
use Rattle.type_form.specs.declared.table.ContainerKind.TheVariants as kind
use Rattle.type_form.specs.declared.table.Field.{Field}
use Rattle.type_form.specs.declared.table.Fields.{Fields}
use Rattle.type_form.specs.declared.unit.Instance.{Instance}
use Rattle.type_form.specs.declared.unit.Unit.{Unit as AnyUnit}
use Rattle.type_form.specs.declared.unit.Unit.TheVariants as unit
use Rattle.type_form.specs.Words.{FitsInt}
use Rattle.type_form.specs.Tree.{TyLayer, ValueLayer, DeclLayer, ArgLayer}

-- what a spelling leaves out, since one program gives it one answer everywhere
pub record Program : Type 0 where
  -- the fields of each container
  pub fields : Ty → Fields
  -- the type of the constant, the variable or the function that is declared
  pub declared : DeclPath → Ty

-- a number that a field of a tree can hold
abbrev pub IsNumber : ℕ → Type 0
IsNumber n = n < 2 ^ 128

-- a file's path has letters, digits and `_ . / -`
abbrev pub IsPath : List ℕ → Type 0
IsPath path = list_all is_path_byte path ≡ true

-- names that rise in the order of their bytes, so each stands once
abbrev pub AreRising : List (List ℕ) → Type 0
AreRising [] = Unit {0}
AreRising (a ∷ []) = Unit {0}
AreRising (a ∷ b ∷ names) = (slice_cmp nat_cmp a b ≡ Less) × AreRising (b ∷ names)

-- a set of errors
abbrev pub IsErrorSet : TyLayer → Type 0
IsErrorSet (layer.ErrorSet names) = Unit {0}
IsErrorSet (layer.Ty::Simple simple.AnyError) = Unit {0}
IsErrorSet _ = ⊥

-- what declarations stand in
abbrev pub IsPlace : TyLayer → Type 0
IsPlace (layer.File path) = Unit {0}
IsPlace (layer.Container d n captures) = Unit {0}
IsPlace _ = ⊥

-- the types of integers
abbrev pub IsIntegral : TyLayer → Type 0
IsIntegral (layer.Ty::Int s bits) = Unit {0}
IsIntegral (layer.Ty::Simple simple.Usize) = Unit {0}
IsIntegral (layer.Ty::Simple simple.Isize) = Unit {0}
IsIntegral (layer.Ty::Simple simple.ComptimeInt) = Unit {0}
IsIntegral _ = ⊥

-- the types that `null` may have
abbrev pub IsNullable : TyLayer → Type 0
IsNullable (layer.Optional t) = Unit {0}
IsNullable (layer.Ty::Simple simple.NullLiteral) = Unit {0}
IsNullable _ = ⊥

-- the types that a member's name may have: an enum, the own enum of a union, and that of `.name`
abbrev pub IsEnum : Fields → TyLayer → Type 0
IsEnum fields (layer.Container d n captures) = fields.kind ≡ kind.Enum
IsEnum fields (layer.UnionTag t) = Unit {0}
IsEnum fields (layer.Ty::Simple simple.EnumLiteral) = Unit {0}
IsEnum fields _ = ⊥

-- the types that a member's name and a payload may have
abbrev pub IsUnion : Fields → TyLayer → Type 0
IsUnion fields (layer.Container d n captures) = fields.kind ≡ kind.Union
IsUnion fields _ = ⊥

-- the types that an error may have
abbrev pub IsFallible : TyLayer → Type 0
IsFallible (layer.ErrorSet names) = Unit {0}
IsFallible (layer.Ty::Simple simple.AnyError) = Unit {0}
IsFallible (layer.ErrorUnion e t) = Unit {0}
IsFallible _ = ⊥

-- the types of texts of this many bytes
abbrev pub IsText : ℕ → TyLayer → Type 0
IsText size (layer.Array n t) = (size ≡ n) × (t ≡ ty.Int false 8)
IsText size (layer.Terminated n) = size ≡ n
IsText size _ = ⊥

-- the types of functions
abbrev pub IsFunctional : TyLayer → Type 0
IsFunctional (layer.Ty::Function ps r) = Unit {0}
IsFunctional (layer.Ty::Simple simple.GenericFunction) = Unit {0}
IsFunctional _ = ⊥

-- the types of addresses
abbrev pub IsPointer : TyLayer → Type 0
IsPointer (layer.Pointer c t) = Unit {0}
IsPointer _ = ⊥

-- the types of slices
abbrev pub IsSlice : TyLayer → Type 0
IsSlice (layer.Ty::Slice c t) = Unit {0}
IsSlice _ = ⊥

-- the type of one layer of a value. That of a function is what its declaration has
abbrev pub layer_ty : Program → ValueLayer → Ty
layer_ty p (layer.Value::Simple t s) = t
layer_ty p (layer.Value::Int t z) = t
layer_ty p (layer.Tag t name) = t
layer_ty p (layer.Error t name) = t
layer_ty p (layer.Some t v) = t
layer_ty p (layer.Good t v) = t
layer_ty p (layer.List t vs) = t
layer_ty p (layer.Text t bs) = t
layer_ty p (layer.Tagged t name v) = t
layer_ty p (layer.OfType t) = ty.Simple simple.Metatype
layer_ty p (layer.Value::Function d) = p.declared d
layer_ty p (layer.Address t d) = t
layer_ty p (layer.Constant t v) = t
layer_ty p (layer.Place t n) = t
layer_ty p (layer.Part t v n c) = t
layer_ty p (layer.Value::Slice t v lo hi) = t

-- the type of a value
unfoldable pub value_ty : Program → Value → Ty
value_ty p v = layer_ty p (out-Value v)

-- a value whose type stands in it: all but functions
abbrev pub HasType : ValueLayer → Type 0
HasType (layer.Value::Function d) = ⊥
HasType _ = Unit {0}

-- a known integer
abbrev pub is_int : ValueLayer → Bool
is_int (layer.Value::Int t z) = true
is_int _ = false

-- the elements of an array of `u8` are all known, so that they stand as a text
unfoldable pub are_text : List Value → Bool
are_text parts = list_all (λ v. is_int (out-Value v)) parts

-- the parts of a value of this type: the elements of an array have its type, and the fields of a struct theirs. A file is a struct without fields
abbrev pub fits_parts : Program → Fields → List Value → TyLayer → Type 0
fits_parts p fields parts (layer.Array n t) = (length parts ≡ n) × AllByRecursion (λ v. value_ty p v ≡ t) parts × (t ≡ ty.Int false 8 → are_text parts ≡ false)
fits_parts p fields parts (layer.Terminated n) = (length parts ≡ n) × AllByRecursion (λ v. value_ty p v ≡ ty.Int false 8) parts × (are_text parts ≡ false)
fits_parts p fields parts (layer.Container d n captures) = (fields.kind ≡ kind.Struct) × (map (value_ty p) parts ≡ map (λ f. f.ty) fields.fields)
fits_parts p fields parts (layer.File path) = parts ≡ []
fits_parts p fields parts _ = ⊥

-- the type of the payload of a union's member: that of the first field of this name
abbrev pub payload_of : List ℕ → List Field → Option Ty
payload_of name [] = None
payload_of name (f ∷ fs) = if bytes_eq f.name name then Some f.ty else payload_of name fs

-- the type of the pointer in a slice, `const` or not: to the type of what it points to, whatever it was coerced to on the way. It is the address of a declaration or of a constant
abbrev pub pointer_of : Program → Bool → ValueLayer → Option Ty
pointer_of p c (layer.Address u d) = Some (ty.Pointer c (p.declared d))
pointer_of p c (layer.Constant u v) = Some (ty.Pointer c (value_ty p v))
pointer_of p c _ = None

-- a slice of this type has such a pointer in it
abbrev pub fits_slice : Program → Value → TyLayer → Type 0
fits_slice p v (layer.Ty::Slice c t) = pointer_of p c (out-Value v) ≡ Some (value_ty p v)
fits_slice p v _ = ⊥

-- the type of a value that is one word
abbrev pub fits_simple : SimpleValue → Ty → Type 0
fits_simple known.True t = t ≡ ty.Simple simple.Bool
fits_simple known.False t = t ≡ ty.Simple simple.Bool
fits_simple known.Void t = t ≡ ty.Simple simple.Void
fits_simple known.Null t = IsNullable (out-Ty t)
fits_simple known.Undefined t = Unit {0}

-- one layer of a type is well formed
abbrev pub ty_fits : Program → TyLayer → Type 0
ty_fits p (layer.Ty::Int s bits) = (1 ≤ bits) × (bits ≤ 64)
ty_fits p (layer.ErrorSet names) = AreRising names
ty_fits p (layer.Array n t) = IsNumber n
ty_fits p (layer.Terminated n) = IsNumber n
ty_fits p (layer.ErrorUnion e t) = IsErrorSet (out-Ty e)
ty_fits p (layer.File path) = IsPath path
ty_fits p (layer.Container d n captures) = IsNumber n
ty_fits p (layer.UnionTag t) = (p.fields t).tag ≡ Some (ty.UnionTag t)
ty_fits p _ = Unit {0}

-- one layer of a declaration's path is well formed
abbrev pub decl_fits : DeclLayer → Type 0
decl_fits (layer.Named c name) = IsPlace (out-Ty c)
decl_fits (layer.Comptime path n) = IsPath path × IsNumber n

-- one layer of a value fits its type, as the program has it. An address in comptime memory is a value while its unit runs, and is handed on nowhere
abbrev pub value_fits : Program → ValueLayer → Type 0
value_fits p (layer.Value::Simple t s) = fits_simple s t
value_fits p (layer.Value::Int t z) = IsIntegral (out-Ty t) × FitsInt z
value_fits p (layer.Tag t name) = IsEnum (p.fields t) (out-Ty t)
value_fits p (layer.Error t name) = IsFallible (out-Ty t)
value_fits p (layer.Some t v) = t ≡ ty.Optional (value_ty p v)
value_fits p (layer.Good t v) = (e : Ty) × (t ≡ ty.ErrorUnion e (value_ty p v))
value_fits p (layer.List t vs) = fits_parts p (p.fields t) vs (out-Ty t)
value_fits p (layer.Text t bs) = IsText (length bs) (out-Ty t)
value_fits p (layer.Tagged t name v) = IsUnion (p.fields t) (out-Ty t) × (payload_of name (p.fields t).fields ≡ Some (value_ty p v))
value_fits p (layer.OfType t) = Unit {0}
value_fits p (layer.Value::Function d) = IsFunctional (out-Ty (p.declared d))
value_fits p (layer.Address t d) = IsPointer (out-Ty t)
value_fits p (layer.Constant t v) = IsPointer (out-Ty t) × HasType (out-Value v)
value_fits p (layer.Place t n) = ⊥
value_fits p (layer.Part t v n c) = ⊥
value_fits p (layer.Value::Slice t v lo hi) = fits_slice p v (out-Ty t) × IsNumber lo × IsNumber hi

-- an argument that is a function has its type beside it
abbrev pub arg_fits : Program → ArgLayer → Type 0
arg_fits p (layer.Known v) = HasType (out-Value v)
arg_fits p (layer.Arg::Function t d) = (t ≡ p.declared d) × IsFunctional (out-Ty t)
arg_fits p (layer.Typed t) = Unit {0}

-- a type in which each layer is well formed
unfoldable pub IsFit : Program → Ty → Type 0
IsFit p = every-Ty (arg_fits p) decl_fits (ty_fits p) (value_fits p)

-- a value in which each layer is
unfoldable pub IsFitValue : Program → Value → Type 0
IsFitValue p = every-Value (arg_fits p) decl_fits (ty_fits p) (value_fits p)

-- a declaration's path in which each layer is
unfoldable pub IsFitDecl : Program → DeclPath → Type 0
IsFitDecl p = every-DeclPath (arg_fits p) decl_fits (ty_fits p) (value_fits p)

-- an argument in which each layer is
unfoldable pub IsFitArg : Program → Arg → Type 0
IsFitArg p = every-Arg (arg_fits p) decl_fits (ty_fits p) (value_fits p)

-- the parts of a layer of a type are fit
abbrev pub ty_parts : Program → TyLayer → Type 0
ty_parts p (layer.Pointer c t) = IsFit p t
ty_parts p (layer.Ty::Slice c t) = IsFit p t
ty_parts p (layer.Array n t) = IsFit p t
ty_parts p (layer.Optional t) = IsFit p t
ty_parts p (layer.ErrorUnion e t) = IsFit p e × IsFit p t
ty_parts p (layer.Container d n captures) = IsFitDecl p d × AllByRecursion (IsFitArg p) captures
ty_parts p (layer.Ty::Function ps r) = AllByRecursion (IsFit p) ps × IsFit p r
ty_parts p (layer.UnionTag t) = IsFit p t
ty_parts p _ = Unit {0}

-- of a layer of a path
abbrev pub decl_parts : Program → DeclLayer → Type 0
decl_parts p (layer.Named c name) = IsFit p c
decl_parts p (layer.Comptime path n) = Unit {0}

-- of a layer of a value, its type among them
abbrev pub value_parts : Program → ValueLayer → Type 0
value_parts p (layer.Value::Simple t s) = IsFit p t
value_parts p (layer.Value::Int t z) = IsFit p t
value_parts p (layer.Tag t name) = IsFit p t
value_parts p (layer.Error t name) = IsFit p t
value_parts p (layer.Some t v) = IsFit p t × IsFitValue p v
value_parts p (layer.Good t v) = IsFit p t × IsFitValue p v
value_parts p (layer.List t vs) = IsFit p t × AllByRecursion (IsFitValue p) vs
value_parts p (layer.Text t bs) = IsFit p t
value_parts p (layer.Tagged t name v) = IsFit p t × IsFitValue p v
value_parts p (layer.OfType t) = IsFit p t
value_parts p (layer.Value::Function d) = IsFitDecl p d
value_parts p (layer.Address t d) = IsFit p t × IsFitDecl p d
value_parts p (layer.Constant t v) = IsFit p t × IsFitValue p v
value_parts p (layer.Place t n) = IsFit p t
value_parts p (layer.Part t v n c) = IsFit p t × IsFitValue p v
value_parts p (layer.Value::Slice t v lo hi) = IsFit p t × IsFitValue p v

-- of an argument
abbrev pub arg_parts : Program → ArgLayer → Type 0
arg_parts p (layer.Known v) = IsFitValue p v
arg_parts p (layer.Arg::Function t d) = IsFit p t × IsFitDecl p d
arg_parts p (layer.Typed t) = IsFit p t

-- an instance
pub record IsFitInstance (p : Program) (n : Instance) : Type 0 where
  pub decl : IsFitDecl p n.decl
  pub args : AllByRecursion (IsFitArg p) n.args

-- a unit; its fields are those of a file or a container
abbrev pub IsFitUnit : Program → AnyUnit → Type 0
IsFitUnit p (unit.Decl d) = IsFitDecl p d
IsFitUnit p (unit.Body n) = IsFitInstance p n
IsFitUnit p (unit.ErrorSet n) = IsFitInstance p n
IsFitUnit p (unit.Fields c) = IsFit p c × IsPlace (out-Ty c)
IsFitUnit p (unit.Code n) = IsFitInstance p n
IsFitUnit p (unit.Comptime path n) = IsPath path × IsNumber n
