-- The spellings of trees that are not fit.
use Rattle.std.proofs.Common.{false, ◌++◌, codes, sym, ap, ◌∙◌, arith}
use Rattle.type_form.specs.declared.tree.Ty.TheVariants as ty
use Rattle.type_form.specs.Spelling.{commas}
use Rattle.type_form.proofs.SpellLemmas.{ty_text-OptionalType, ty_text-ErrorUnionType, ty_text-FunctionType, ty_text-FileType, ty_text-SimpleType, place_text-IntType, place_text-FileType, arg_text-Known, value_text-TypeValue, value_text-SomeValue, value_text-SimpleValue, value_text-ListValue, value_text-IntValue, value_text-TaggedValue, value_text-SliceValue, value_text-AddressValue, value_ty_text-TypeValue, value_ty_text-SomeValue, value_ty_text-SimpleValue, value_ty_text-ListValue, value_ty_text-TaggedValue, value_ty_text-SliceValue}
use Rattle.type_form.proofs.TextLemmas.{number_text-digit}
use Rattle.type_form.proofs.LengthLemmas.{unit_text-Fields}
use Rattle.type_laws.specs.Doubles.{AnySet, AnyPath, AnyPlace, AnyOptional, AnyEmpty, AnyPart, AnyPayload, AnyPointer}

pub any_set : AnySet
any_set e t = simp (ty_text-OptionalType, ty_text-ErrorUnionType)

pub any_optional : AnyOptional
any_optional t = simp (arg_text-Known, value_ty_text-TypeValue, value_ty_text-SomeValue, value_text-TypeValue, value_text-SomeValue, ty_text-OptionalType, ty_text-SimpleType)

pub any_empty : AnyEmpty
unfolding commas
any_empty t = simp (arg_text-Known, value_ty_text-SimpleValue, value_ty_text-ListValue, value_text-SimpleValue, value_text-ListValue)

pub any_part : AnyPart
any_part t u w z = simp (arg_text-Known, value_ty_text-ListValue, value_text-ListValue, value_text-IntValue)

pub any_payload : AnyPayload
any_payload t u w name z = simp (arg_text-Known, value_ty_text-TaggedValue, value_text-TaggedValue, value_text-IntValue)

pub any_pointer : AnyPointer
any_pointer t u w d low high = simp (arg_text-Known, value_ty_text-SliceValue, value_text-SliceValue, value_text-AddressValue)

pub any_path : AnyPath
unfolding commas
any_path = simp (ty_text-FunctionType, ty_text-FileType, ty_text-SimpleType)

pub any_place : AnyPlace
any_place =
    unit_text-Fields (ty.Int false 8)
    ∙ ap (λ z. codes "fields " ++ z) (place_text-IntType false 8 ∙ ap (λ z. codes "u" ++ z) (number_text-digit 8 (omega arith)) ∙ sym (place_text-FileType (codes "u8")))
    ∙ sym (unit_text-Fields (ty.File (codes "u8")))
