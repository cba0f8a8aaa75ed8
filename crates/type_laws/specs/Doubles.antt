-- Trees that are not fit share spellings with others. Each statement has two trees that differ, with one spelling.
use Rattle.std.specs.Prelude.{◌≡◌, ℕ, ℤ, List, [], ◌∷◌, codes, false}
use Rattle.type_form.specs.declared.tree.Ty.{Ty}
use Rattle.type_form.specs.declared.tree.DeclPath.{DeclPath}
use Rattle.type_form.specs.declared.tree.Ty.TheVariants as ty
use Rattle.type_form.specs.declared.tree.Value.TheVariants as value
use Rattle.type_form.specs.declared.tree.Arg.TheVariants as arg
use Rattle.type_form.specs.declared.tree.SimpleTy.TheVariants as simple
use Rattle.type_form.specs.declared.tree.SimpleValue.TheVariants as known
use Rattle.type_form.specs.declared.unit.Unit.TheVariants as unit
use Rattle.type_form.specs.Spelling.{ty_text, arg_text, unit_text}

-- `?E!T` where the set of an error union may be any type
abbrev pub AnySet : Type 0
AnySet = (e t : Ty) → ty_text (ty.Optional (ty.ErrorUnion e t)) ≡ ty_text (ty.ErrorUnion (ty.Optional e) t)

-- `fn(@:a,@:b)void` where a path may have any bytes
abbrev pub AnyPath : Type 0
AnyPath = ty_text (ty.Function (ty.File (codes "a") ∷ ty.File (codes "b") ∷ []) (ty.Simple simple.Void)) ≡ ty_text (ty.Function (ty.File (codes "a,@:b") ∷ []) (ty.Simple simple.Void))

-- `fields u8` where the fields of any type may be asked for
abbrev pub AnyPlace : Type 0
AnyPlace = unit_text (unit.Fields (ty.Int false 8)) ≡ unit_text (unit.Fields (ty.File (codes "u8")))

-- `type=?T` where an optional value may have any type
abbrev pub AnyOptional : Type 0
AnyOptional = (t : Ty) → arg_text (arg.Known (value.OfType (ty.Optional t))) ≡ arg_text (arg.Known (value.Some (ty.Simple simple.Metatype) (value.OfType t)))

-- `T={}` where the value of void and an empty list may have any type
abbrev pub AnyEmpty : Type 0
AnyEmpty = (t : Ty) → arg_text (arg.Known (value.Simple t known.Void)) ≡ arg_text (arg.Known (value.List t []))

-- `T={1}` where a part may have any type
abbrev pub AnyPart : Type 0
AnyPart = (t u w : Ty) (z : ℤ) → arg_text (arg.Known (value.List t (value.Int u z ∷ []))) ≡ arg_text (arg.Known (value.List t (value.Int w z ∷ [])))

-- `T=.a{1}` where the payload may have any type
abbrev pub AnyPayload : Type 0
AnyPayload = (t u w : Ty) (name : List ℕ) (z : ℤ) → arg_text (arg.Known (value.Tagged t name (value.Int u z))) ≡ arg_text (arg.Known (value.Tagged t name (value.Int w z)))

-- `T=&D[0..1]` where the pointer may have any type
abbrev pub AnyPointer : Type 0
AnyPointer = (t u w : Ty) (d : DeclPath) (low high : ℕ) → arg_text (arg.Known (value.Slice t (value.Address u d) low high)) ≡ arg_text (arg.Known (value.Slice t (value.Address w d) low high))
