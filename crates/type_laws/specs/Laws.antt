-- Equal spellings are equal trees, and which trees are fit.
use Rattle.std.specs.Prelude.{◌≡◌, ◌↔◌}
use Rattle.type_form.specs.declared.tree.Ty.{Ty, out-Ty}
use Rattle.type_form.specs.declared.tree.Value.{Value, out-Value}
use Rattle.type_form.specs.declared.tree.DeclPath.{DeclPath, out-DeclPath}
use Rattle.type_form.specs.declared.tree.Arg.{Arg, out-Arg}
use Rattle.type_form.specs.declared.unit.Instance.{Instance}
use Rattle.type_form.specs.declared.unit.Unit.{Unit as AnyUnit}
use Rattle.type_form.specs.Spelling.{ty_text, value_text, decl_text, arg_text, instance_text, unit_text}
use Rattle.type_form.specs.Fit.{Program, IsFit, IsFitValue, IsFitDecl, IsFitArg, IsFitInstance, IsFitUnit, value_ty, ty_fits, decl_fits, value_fits, arg_fits, ty_parts, decl_parts, value_parts, arg_parts}

-- of types
abbrev pub EqualTypes : Type 0
EqualTypes = (p : Program) (t u : Ty) → IsFit p t → IsFit p u → ty_text t ≡ ty_text u → t ≡ u

-- of arguments
abbrev pub EqualArguments : Type 0
EqualArguments = (p : Program) (a b : Arg) → IsFitArg p a → IsFitArg p b → arg_text a ≡ arg_text b → a ≡ b

-- of units
abbrev pub EqualUnits : Type 0
EqualUnits = (p : Program) (u v : AnyUnit) → IsFitUnit p u → IsFitUnit p v → unit_text u ≡ unit_text v → u ≡ v

-- of values that have one type, which their spelling leaves out
abbrev pub EqualValues : Type 0
EqualValues = (p : Program) (v w : Value) → IsFitValue p v → IsFitValue p w → value_ty p v ≡ value_ty p w → value_text v ≡ value_text w → v ≡ w

-- of declarations
abbrev pub EqualDeclarations : Type 0
EqualDeclarations = (p : Program) (c d : DeclPath) → IsFitDecl p c → IsFitDecl p d → decl_text c ≡ decl_text d → c ≡ d

-- of instances
abbrev pub EqualInstances : Type 0
EqualInstances = (p : Program) (i j : Instance) → IsFitInstance p i → IsFitInstance p j → instance_text i ≡ instance_text j → i ≡ j

-- a tree is fit exactly where its outer layer is well formed and the parts of this layer are fit
abbrev pub TypesByLayers : Type 0
TypesByLayers = (p : Program) (t : Ty) → IsFit p t ↔ (ty_fits p (out-Ty t) × ty_parts p (out-Ty t))

abbrev pub ValuesByLayers : Type 0
ValuesByLayers = (p : Program) (v : Value) → IsFitValue p v ↔ (value_fits p (out-Value v) × value_parts p (out-Value v))

abbrev pub PathsByLayers : Type 0
PathsByLayers = (p : Program) (d : DeclPath) → IsFitDecl p d ↔ (decl_fits (out-DeclPath d) × decl_parts p (out-DeclPath d))

abbrev pub ArgumentsByLayers : Type 0
ArgumentsByLayers = (p : Program) (a : Arg) → IsFitArg p a ↔ (arg_fits p (out-Arg a) × arg_parts p (out-Arg a))
