-- One layer of each tree.
use Rattle.type_form.specs.declared.tree.Ty.{Ty, out-Ty}
use Rattle.type_form.specs.declared.tree.Arg.TheOpen.{Ty-F, Value-F, DeclPath-F, Arg-F}
use Rattle.type_form.specs.declared.tree.Value.{Value}
use Rattle.type_form.specs.declared.tree.DeclPath.{DeclPath}
use Rattle.type_form.specs.declared.tree.Arg.{Arg}

abbrev pub TyLayer : Type 0
TyLayer = Ty-F Arg DeclPath Ty Value

abbrev pub ValueLayer : Type 0
ValueLayer = Value-F Arg DeclPath Ty Value

abbrev pub DeclLayer : Type 0
DeclLayer = DeclPath-F Arg DeclPath Ty Value

abbrev pub ArgLayer : Type 0
ArgLayer = Arg-F Arg DeclPath Ty Value
