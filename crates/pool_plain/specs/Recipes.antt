-- Which types have values that are known at comptime only: a question that goes down a type.
use Rattle.std.specs.Prelude.{Bool, true, false}
use Rattle.type_form.specs.declared.tree.Ty.{Ty}
use Rattle.type_form.specs.declared.tree.Arg.TheOpen.{Ty-F, Value-F, DeclPath-F, Arg-F}
use Rattle.type_form.specs.declared.tree.Arg.TheOpen as layer
use Rattle.type_form.specs.declared.tree.Arg.TheFolds.{fold-Ty}
use Rattle.type_form.specs.declared.tree.SimpleTy.TheVariants as simple

-- one layer of a type, with the answers of its parts in their place
abbrev pub comptime_layer : Ty-F Bool Bool Bool Bool → Bool
comptime_layer (layer.Ty::Simple simple.Metatype) = true
comptime_layer (layer.Ty::Simple simple.ComptimeInt) = true
comptime_layer (layer.Ty::Function ps r) = true
comptime_layer (layer.Pointer c b) = b
comptime_layer (layer.Array n b) = b
comptime_layer (layer.Optional b) = b
comptime_layer _ = false

abbrev pub is_comptime_only : Ty → Bool
is_comptime_only = fold-Ty Bool Bool Bool Bool (λ _. false) (λ _. false) comptime_layer (λ _. false)
