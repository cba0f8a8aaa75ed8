-- Types, values, declarations, instances and units as text.
use Rattle.std.specs.Prelude.{ℕ, ◌+◌, ◌*◌, ◌/◌, ◌%◌, ◌==◌, Bool, true, false, not, ◌&&◌, ◌||◌, if◌then◌else◌, List, [], ◌∷◌, ◌++◌, map, nat_lt, nat_le, codes, ℤ}
use Rattle.std.specs.List.{flat_map, list_all, list_any}
use Rattle.std.specs.Str.{bytes_eq}
use Rattle.type_form.specs.declared.text.TheConstants.{KEYWORDS}
use Rattle.std.specs.Fmt.{decimal, signed_decimal}
use Rattle.type_form.specs.declared.tree.SimpleTy.{SimpleTy}
use Rattle.type_form.specs.declared.tree.SimpleTy.TheVariants as simple
use Rattle.type_form.specs.declared.tree.SimpleValue.{SimpleValue}
use Rattle.type_form.specs.declared.tree.SimpleValue.TheVariants as known
use Rattle.type_form.specs.declared.tree.Ty.{Ty}
use Rattle.type_form.specs.declared.tree.Value.{Value}
use Rattle.type_form.specs.declared.tree.DeclPath.{DeclPath}
use Rattle.type_form.specs.declared.tree.Arg.{Arg}
use Rattle.type_form.specs.declared.tree.Arg.TheFolds.{fold-Ty, fold-Value, fold-DeclPath, fold-Arg}
use Rattle.type_form.specs.declared.tree.Arg.TheOpen.{Ty-F, Value-F, DeclPath-F, Arg-F}
use Rattle.type_form.specs.declared.tree.Arg.TheOpen as layer
use Rattle.type_form.specs.declared.unit.Instance.{Instance}
use Rattle.type_form.specs.declared.unit.Unit.{Unit as AnyUnit}
use Rattle.type_form.specs.declared.unit.Unit.TheVariants as unit

-- a number in decimal digits
unfoldable pub number_text : ℕ → List ℕ
number_text n = decimal n

-- an integer in decimal digits, behind a minus sign where it is negative
unfoldable pub int_text : ℤ → List ℕ
int_text z = signed_decimal z

-- a letter or `_`
abbrev pub is_letter : ℕ → Bool
is_letter b = (nat_le 65 b && nat_le b 90) || (nat_le 97 b && nat_le b 122) || (b == 95)

-- a letter, a digit or `_`
abbrev pub is_word_byte : ℕ → Bool
is_word_byte b = is_letter b || (nat_le 48 b && nat_le b 57)

-- a hexadecimal digit, in lower case
abbrev pub hex_digit : ℕ → ℕ
hex_digit n = if nat_lt n 10 then 48 + n else 87 + n

-- a byte in quotes: itself, or `\xNN`
unfoldable pub quoted_byte : ℕ → List ℕ
quoted_byte b = if is_word_byte b then b ∷ [] else 92 ∷ 120 ∷ hex_digit (b / 16) ∷ hex_digit (b % 16) ∷ []

-- bytes in quotes
unfoldable pub quoted : List ℕ → List ℕ
quoted bs = flat_map quoted_byte bs

-- whether a name is spelled like a keyword
unfoldable pub is_keyword : List ℕ → Bool
is_keyword name = list_any (λ k. bytes_eq k.now name) KEYWORDS

-- whether a name can be written as it is: a letter or `_`, then letters, digits and `_`, and no keyword
unfoldable pub is_plain : List ℕ → Bool
is_plain [] = false
is_plain (b ∷ bs) = is_letter b && (list_all is_word_byte bs && not (is_keyword (b ∷ bs)))

-- a name
unfoldable pub name_text : List ℕ → List ℕ
name_text name = if is_plain name then name else 64 ∷ 34 ∷ (quoted name ++ 34 ∷ [])

-- texts, each but the first behind a comma
abbrev pub behind_commas : List (List ℕ) → List ℕ
behind_commas [] = []
behind_commas (x ∷ xs) = 44 ∷ (x ++ behind_commas xs)

-- texts with commas between them
unfoldable pub commas : List (List ℕ) → List ℕ
commas [] = []
commas (x ∷ xs) = x ++ behind_commas xs

abbrev pub simple_text : SimpleTy → List ℕ
simple_text simple.Usize = codes "usize"
simple_text simple.Isize = codes "isize"
simple_text simple.Bool = codes "bool"
simple_text simple.Void = codes "void"
simple_text simple.Noreturn = codes "noreturn"
simple_text simple.Metatype = codes "type"
simple_text simple.ComptimeInt = codes "comptime_int"
simple_text simple.AnyError = codes "anyerror"
simple_text simple.NullLiteral = codes "@null"
simple_text simple.UndefinedLiteral = codes "@undefined"
simple_text simple.EnumLiteral = codes "@literal"
simple_text simple.GenericFunction = codes "fn(generic)"

abbrev pub known_text : SimpleValue → List ℕ
known_text known.True = codes "true"
known_text known.False = codes "false"
known_text known.Void = codes "{}"
known_text known.Null = codes "null"
known_text known.Undefined = codes "undefined"

-- a type as it is spelled, and as the container that a declaration's path begins with, with the mark that stands between
pub record TyText : Type 0 where
  pub text : List ℕ
  pub place : List ℕ
  pub mark : List ℕ

-- a type that is no file is the same text in both places
abbrev pub spelled : List ℕ → TyText
spelled t = record { text = t; place = t; mark = codes "." }

-- a value as it is spelled, and its type
pub record ValueText : Type 0 where
  pub ty : List ℕ
  pub text : List ℕ

abbrev pub in_parens : List (List ℕ) → List ℕ
in_parens [] = []
in_parens (x ∷ xs) = codes "(" ++ (commas (x ∷ xs) ++ codes ")")

-- one layer of a type, where its parts are spelled
abbrev pub ty_layer : Ty-F (List ℕ) (List ℕ) TyText ValueText → TyText
ty_layer (layer.Ty::Simple s) = spelled (simple_text s)
ty_layer (layer.Ty::Int s bits) = spelled ((if s then codes "i" else codes "u") ++ number_text bits)
ty_layer (layer.ErrorSet names) = spelled (codes "error{" ++ (commas (map name_text names) ++ codes "}"))
ty_layer (layer.Pointer c t) = spelled ((if c then codes "*const " else codes "*") ++ t.text)
ty_layer (layer.Ty::Slice c t) = spelled ((if c then codes "[]const " else codes "[]") ++ t.text)
ty_layer (layer.Array n t) = spelled (codes "[" ++ (number_text n ++ (codes "]" ++ t.text)))
ty_layer (layer.Terminated n) = spelled (codes "[" ++ (number_text n ++ codes ":0]u8"))
ty_layer (layer.Optional t) = spelled (codes "?" ++ t.text)
ty_layer (layer.ErrorUnion e t) = spelled (e.text ++ (codes "!" ++ t.text))
ty_layer (layer.File path) = record { text = codes "@:" ++ path; place = path; mark = codes ":" }
ty_layer (layer.Container d n captures) = spelled (d ++ (codes "#" ++ (number_text n ++ in_parens captures)))
ty_layer (layer.Ty::Function ps r) = spelled (codes "fn(" ++ (commas (map (λ p. p.text) ps) ++ (codes ")" ++ r.text)))
ty_layer (layer.UnionTag t) = spelled (codes "@tag(" ++ (t.text ++ codes ")"))

-- one layer of a value. A function has no type of its own, and an address in comptime memory is never spelled in a unit: the type of the one and the text of the other are only there to tell them
abbrev pub value_layer : Value-F (List ℕ) (List ℕ) TyText ValueText → ValueText
value_layer (layer.Value::Simple t s) = record { ty = t.text; text = known_text s }
value_layer (layer.Value::Int t z) = record { ty = t.text; text = int_text z }
value_layer (layer.Tag t name) = record { ty = t.text; text = codes "." ++ name_text name }
value_layer (layer.Error t name) = record { ty = t.text; text = codes "error." ++ name_text name }
value_layer (layer.Some t v) = record { ty = t.text; text = codes "?" ++ v.text }
value_layer (layer.Good t v) = record { ty = t.text; text = codes "!" ++ v.text }
value_layer (layer.List t vs) = record { ty = t.text; text = codes "{" ++ (commas (map (λ v. v.text) vs) ++ codes "}") }
value_layer (layer.Text t bs) = record { ty = t.text; text = 34 ∷ (quoted bs ++ 34 ∷ []) }
value_layer (layer.Tagged t name v) = record { ty = t.text; text = codes "." ++ (name_text name ++ (codes "{" ++ (v.text ++ codes "}"))) }
value_layer (layer.OfType t) = record { ty = codes "type"; text = t.text }
value_layer (layer.Value::Function d) = record { ty = codes "@function"; text = d }
value_layer (layer.Address t d) = record { ty = t.text; text = codes "&" ++ d }
value_layer (layer.Constant t v) = record { ty = t.text; text = codes "&(" ++ (v.ty ++ (codes "=" ++ (v.text ++ codes ")"))) }
value_layer (layer.Place t n) = record { ty = t.text; text = codes "&@comptime" ++ number_text n }
value_layer (layer.Part t v n c) = record { ty = t.text; text = v.text ++ (codes "." ++ number_text n) }
value_layer (layer.Value::Slice t p lo hi) = record { ty = t.text; text = p.text ++ (codes "[" ++ (number_text lo ++ (codes ".." ++ (number_text hi ++ codes "]")))) }

-- one layer of a declaration's path
abbrev pub decl_layer : DeclPath-F (List ℕ) (List ℕ) TyText ValueText → List ℕ
decl_layer (layer.Named c name) = c.place ++ (c.mark ++ name_text name)
decl_layer (layer.Comptime path n) = path ++ (codes ":comptime " ++ number_text n)

-- one layer of an argument: its type, and its value where that is part of it. A function has its type beside it
abbrev pub arg_layer : Arg-F (List ℕ) (List ℕ) TyText ValueText → List ℕ
arg_layer (layer.Known v) = v.ty ++ (codes "=" ++ v.text)
arg_layer (layer.Arg::Function t d) = t.text ++ (codes "=" ++ d)
arg_layer (layer.Typed t) = t.text

abbrev pub ty_spelled : Ty → TyText
ty_spelled = fold-Ty (List ℕ) (List ℕ) TyText ValueText arg_layer decl_layer ty_layer value_layer

abbrev pub value_spelled : Value → ValueText
value_spelled = fold-Value (List ℕ) (List ℕ) TyText ValueText arg_layer decl_layer ty_layer value_layer

-- a type as it is spelled
unfoldable pub ty_text : Ty → List ℕ
ty_text t = (ty_spelled t).text

-- a file or a container as a unit names it
unfoldable pub place_text : Ty → List ℕ
place_text t = (ty_spelled t).place

-- the mark behind it, in the path of a declaration
unfoldable pub mark_text : Ty → List ℕ
mark_text t = (ty_spelled t).mark

-- the type of a value, as it is spelled
unfoldable pub value_ty_text : Value → List ℕ
value_ty_text v = (value_spelled v).ty

-- a value as it is spelled
unfoldable pub value_text : Value → List ℕ
value_text v = (value_spelled v).text

-- a declaration as it is spelled
unfoldable pub decl_text : DeclPath → List ℕ
decl_text = fold-DeclPath (List ℕ) (List ℕ) TyText ValueText arg_layer decl_layer ty_layer value_layer

-- an argument as it is spelled
unfoldable pub arg_text : Arg → List ℕ
arg_text = fold-Arg (List ℕ) (List ℕ) TyText ValueText arg_layer decl_layer ty_layer value_layer

-- an instance as it is spelled
unfoldable pub instance_text : Instance → List ℕ
instance_text n = decl_text n.decl ++ (codes "(" ++ (commas (map arg_text n.args) ++ codes ")"))

-- a unit as it is spelled
unfoldable pub unit_text : AnyUnit → List ℕ
unit_text (unit.Decl d) = codes "decl " ++ decl_text d
unit_text (unit.Body n) = codes "body " ++ instance_text n
unit_text (unit.ErrorSet n) = codes "errset " ++ instance_text n
unit_text (unit.Fields c) = codes "fields " ++ place_text c
unit_text (unit.Code n) = codes "code " ++ instance_text n
unit_text (unit.Comptime path n) = codes "comptime " ++ (path ++ (codes "#" ++ number_text n))
