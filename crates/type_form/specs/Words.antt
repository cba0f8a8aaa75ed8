-- Keys as words. Every key but a list has a fixed number of words; a list stands last.
use Rattle.std.specs.Prelude.{◌≡◌, ℕ, ◌+◌, ◌*◌, ◌/◌, ◌%◌, ◌^◌, ◌<◌, ◌≤◌, ◌==◌, Bool, true, false, if◌then◌else◌, List, [], ◌∷◌, ◌++◌, length, take, drop, slice_index, nat_lt, Option, Some, None, ℤ, pos, negsuc}
use Rattle.std.specs.Str.{bytes_eq}
use Rattle.type_form.specs.declared.index.Index.{Index}
use Rattle.type_form.specs.declared.key.Key.{Key}
use Rattle.type_form.specs.declared.key.Key.TheVariants as key
use Rattle.type_form.specs.declared.tree.SimpleTy.{SimpleTy}
use Rattle.type_form.specs.declared.tree.SimpleTy.TheVariants as simple
use Rattle.type_form.specs.declared.tree.SimpleValue.{SimpleValue}
use Rattle.type_form.specs.declared.tree.SimpleValue.TheVariants as known

-- a bool as a word
abbrev pub word_of_bool : Bool → ℕ
word_of_bool true = 1
word_of_bool false = 0

-- a simple type as a word
abbrev pub word_of_simple : SimpleTy → ℕ
word_of_simple simple.Usize = 0
word_of_simple simple.Isize = 1
word_of_simple simple.Bool = 2
word_of_simple simple.Void = 3
word_of_simple simple.Noreturn = 4
word_of_simple simple.Metatype = 5
word_of_simple simple.ComptimeInt = 6
word_of_simple simple.AnyError = 7
word_of_simple simple.NullLiteral = 8
word_of_simple simple.UndefinedLiteral = 9
word_of_simple simple.EnumLiteral = 10
word_of_simple simple.GenericFunction = 11

-- the simple type with this word, and the last for all greater ones
abbrev pub simple_of_word : ℕ → SimpleTy
simple_of_word n = if n == 0 then simple.Usize else if n == 1 then simple.Isize else if n == 2 then simple.Bool else if n == 3 then simple.Void else if n == 4 then simple.Noreturn else if n == 5 then simple.Metatype else if n == 6 then simple.ComptimeInt else if n == 7 then simple.AnyError else if n == 8 then simple.NullLiteral else if n == 9 then simple.UndefinedLiteral else if n == 10 then simple.EnumLiteral else simple.GenericFunction

-- a simple value as a word
abbrev pub word_of_known : SimpleValue → ℕ
word_of_known known.True = 0
word_of_known known.False = 1
word_of_known known.Void = 2
word_of_known known.Null = 3
word_of_known known.Undefined = 4

-- the simple value with this word, and the last for all greater ones
abbrev pub known_of_word : ℕ → SimpleValue
known_of_word n = if n == 0 then known.True else if n == 1 then known.False else if n == 2 then known.Void else if n == 3 then known.Null else known.Undefined

-- an integer as its sign and the two halves of its size, which for a negative one is counted from -1
abbrev pub words_of_int : ℤ → List ℕ
words_of_int (pos n) = 0 ∷ (n % 2 ^ 64) ∷ (n / 2 ^ 64) ∷ []
words_of_int (negsuc n) = 1 ∷ (n % 2 ^ 64) ∷ (n / 2 ^ 64) ∷ []

-- the integer of a sign and a size
abbrev pub int_of_words : ℕ → ℕ → ℕ → ℤ
int_of_words sign low high = if sign == 1 then negsuc (low + 2 ^ 64 * (high % 2 ^ 63)) else pos (low + 2 ^ 64 * (high % 2 ^ 63))

-- an integer of 128 bits
abbrev pub FitsInt : ℤ → Type 0
FitsInt (pos n) = n < 2 ^ 127
FitsInt (negsuc n) = n < 2 ^ 127

-- a number as an index
abbrev pub index_of : ℕ → Index
index_of n = record { 0 = n }

-- the words of a key: the number of its kind, and then what it holds
abbrev pub words_of : Key → List ℕ
words_of (key.SimpleType s) = 1 ∷ word_of_simple s ∷ []
words_of (key.IntType b n) = 2 ∷ word_of_bool b ∷ n ∷ []
words_of (key.ErrorSetType l) = 3 ∷ l.0 ∷ []
words_of (key.PointerType b i) = 4 ∷ word_of_bool b ∷ i.0 ∷ []
words_of (key.SliceType b i) = 5 ∷ word_of_bool b ∷ i.0 ∷ []
words_of (key.ArrayType n i) = 6 ∷ n ∷ i.0 ∷ []
words_of (key.TerminatedType n) = 7 ∷ n ∷ []
words_of (key.OptionalType i) = 8 ∷ i.0 ∷ []
words_of (key.ErrorUnionType i j) = 9 ∷ i.0 ∷ j.0 ∷ []
words_of (key.FileType l) = 10 ∷ l.0 ∷ []
words_of (key.ContainerType d n l) = 11 ∷ d.0 ∷ n ∷ l.0 ∷ []
words_of (key.FunctionType l i) = 12 ∷ l.0 ∷ i.0 ∷ []
words_of (key.UnionTagType i) = 13 ∷ i.0 ∷ []
words_of (key.SimpleValue i s) = 14 ∷ i.0 ∷ word_of_known s ∷ []
words_of (key.IntValue i z) = 15 ∷ i.0 ∷ words_of_int z
words_of (key.TagValue i l) = 16 ∷ i.0 ∷ l.0 ∷ []
words_of (key.ErrorValue i l) = 17 ∷ i.0 ∷ l.0 ∷ []
words_of (key.SomeValue i j) = 18 ∷ i.0 ∷ j.0 ∷ []
words_of (key.GoodValue i j) = 19 ∷ i.0 ∷ j.0 ∷ []
words_of (key.ListValue i l) = 20 ∷ i.0 ∷ l.0 ∷ []
words_of (key.TextValue i l) = 21 ∷ i.0 ∷ l.0 ∷ []
words_of (key.TaggedValue i l j) = 22 ∷ i.0 ∷ l.0 ∷ j.0 ∷ []
words_of (key.TypeValue i) = 23 ∷ i.0 ∷ []
words_of (key.FunctionValue d) = 24 ∷ d.0 ∷ []
words_of (key.AddressValue i d) = 25 ∷ i.0 ∷ d.0 ∷ []
words_of (key.ConstantValue i j) = 26 ∷ i.0 ∷ j.0 ∷ []
words_of (key.PlaceValue i n) = 27 ∷ i.0 ∷ n ∷ []
words_of (key.PartValue i j n c) = 28 ∷ i.0 ∷ j.0 ∷ n ∷ c ∷ []
words_of (key.SliceValue i j lo hi) = 29 ∷ i.0 ∷ j.0 ∷ lo ∷ hi ∷ []
words_of (key.NamedDecl i l) = 30 ∷ i.0 ∷ l.0 ∷ []
words_of (key.ComptimeDecl l n) = 31 ∷ l.0 ∷ n ∷ []
words_of (key.KnownArg j) = 32 ∷ j.0 ∷ []
words_of (key.FunctionArg i d) = 33 ∷ i.0 ∷ d.0 ∷ []
words_of (key.TypedArg i) = 34 ∷ i.0 ∷ []
words_of (key.Instance d l) = 35 ∷ d.0 ∷ l.0 ∷ []
words_of (key.End ns) = 36 ∷ ns
words_of (key.More ns i) = 37 ∷ i.0 ∷ ns

-- what a key holds fits its words
abbrev pub Fits : Key → Type 0
Fits (key.SimpleType s) = Unit {0}
Fits (key.IntType b n) = n < 2 ^ 32
Fits (key.ErrorSetType l) = Unit {0}
Fits (key.PointerType b i) = Unit {0}
Fits (key.SliceType b i) = Unit {0}
Fits (key.ArrayType n i) = Unit {0}
Fits (key.TerminatedType n) = Unit {0}
Fits (key.OptionalType i) = Unit {0}
Fits (key.ErrorUnionType i j) = Unit {0}
Fits (key.FileType l) = Unit {0}
Fits (key.ContainerType d n l) = n < 2 ^ 32
Fits (key.FunctionType l i) = Unit {0}
Fits (key.UnionTagType i) = Unit {0}
Fits (key.SimpleValue i s) = Unit {0}
Fits (key.IntValue i z) = FitsInt z
Fits (key.TagValue i l) = Unit {0}
Fits (key.ErrorValue i l) = Unit {0}
Fits (key.SomeValue i j) = Unit {0}
Fits (key.GoodValue i j) = Unit {0}
Fits (key.ListValue i l) = Unit {0}
Fits (key.TextValue i l) = Unit {0}
Fits (key.TaggedValue i l j) = Unit {0}
Fits (key.TypeValue i) = Unit {0}
Fits (key.FunctionValue d) = Unit {0}
Fits (key.AddressValue i d) = Unit {0}
Fits (key.ConstantValue i j) = Unit {0}
Fits (key.PlaceValue i n) = Unit {0}
Fits (key.PartValue i j n c) = Unit {0}
Fits (key.SliceValue i j lo hi) = Unit {0}
Fits (key.NamedDecl i l) = Unit {0}
Fits (key.ComptimeDecl l n) = n < 2 ^ 32
Fits (key.KnownArg j) = Unit {0}
Fits (key.FunctionArg i d) = Unit {0}
Fits (key.TypedArg i) = Unit {0}
Fits (key.Instance d l) = Unit {0}
Fits (key.End ns) = length ns ≤ 60
Fits (key.More ns i) = length ns ≤ 60

-- the only key of the kinds of types that may have these words behind the number of its kind
abbrev pub guess_type : ℕ → List ℕ → Key
guess_type t ws =
    if t == 1 then key.SimpleType (simple_of_word (slice_index ws 0))
    else if t == 2 then key.IntType (slice_index ws 0 == 1) (slice_index ws 1 % 2 ^ 32)
    else if t == 3 then key.ErrorSetType (index_of (slice_index ws 0))
    else if t == 4 then key.PointerType (slice_index ws 0 == 1) (index_of (slice_index ws 1))
    else if t == 5 then key.SliceType (slice_index ws 0 == 1) (index_of (slice_index ws 1))
    else if t == 6 then key.ArrayType (slice_index ws 0) (index_of (slice_index ws 1))
    else if t == 7 then key.TerminatedType (slice_index ws 0)
    else if t == 8 then key.OptionalType (index_of (slice_index ws 0))
    else if t == 9 then key.ErrorUnionType (index_of (slice_index ws 0)) (index_of (slice_index ws 1))
    else if t == 10 then key.FileType (index_of (slice_index ws 0))
    else if t == 11 then key.ContainerType (index_of (slice_index ws 0)) (slice_index ws 1 % 2 ^ 32) (index_of (slice_index ws 2))
    else if t == 12 then key.FunctionType (index_of (slice_index ws 0)) (index_of (slice_index ws 1))
    else key.UnionTagType (index_of (slice_index ws 0))

-- the same of the kinds of values
abbrev pub guess_value : ℕ → List ℕ → Key
guess_value t ws =
    if t == 14 then key.SimpleValue (index_of (slice_index ws 0)) (known_of_word (slice_index ws 1))
    else if t == 15 then key.IntValue (index_of (slice_index ws 0)) (int_of_words (slice_index ws 1) (slice_index ws 2) (slice_index ws 3))
    else if t == 16 then key.TagValue (index_of (slice_index ws 0)) (index_of (slice_index ws 1))
    else if t == 17 then key.ErrorValue (index_of (slice_index ws 0)) (index_of (slice_index ws 1))
    else if t == 18 then key.SomeValue (index_of (slice_index ws 0)) (index_of (slice_index ws 1))
    else if t == 19 then key.GoodValue (index_of (slice_index ws 0)) (index_of (slice_index ws 1))
    else if t == 20 then key.ListValue (index_of (slice_index ws 0)) (index_of (slice_index ws 1))
    else if t == 21 then key.TextValue (index_of (slice_index ws 0)) (index_of (slice_index ws 1))
    else if t == 22 then key.TaggedValue (index_of (slice_index ws 0)) (index_of (slice_index ws 1)) (index_of (slice_index ws 2))
    else if t == 23 then key.TypeValue (index_of (slice_index ws 0))
    else if t == 24 then key.FunctionValue (index_of (slice_index ws 0))
    else if t == 25 then key.AddressValue (index_of (slice_index ws 0)) (index_of (slice_index ws 1))
    else if t == 26 then key.ConstantValue (index_of (slice_index ws 0)) (index_of (slice_index ws 1))
    else if t == 27 then key.PlaceValue (index_of (slice_index ws 0)) (slice_index ws 1)
    else if t == 28 then key.PartValue (index_of (slice_index ws 0)) (index_of (slice_index ws 1)) (slice_index ws 2) (slice_index ws 3)
    else key.SliceValue (index_of (slice_index ws 0)) (index_of (slice_index ws 1)) (slice_index ws 2) (slice_index ws 3)

-- the same of the other kinds
abbrev pub guess_other : ℕ → List ℕ → Key
guess_other t ws =
    if t == 30 then key.NamedDecl (index_of (slice_index ws 0)) (index_of (slice_index ws 1))
    else if t == 31 then key.ComptimeDecl (index_of (slice_index ws 0)) (slice_index ws 1 % 2 ^ 32)
    else if t == 32 then key.KnownArg (index_of (slice_index ws 0))
    else if t == 33 then key.FunctionArg (index_of (slice_index ws 0)) (index_of (slice_index ws 1))
    else if t == 34 then key.TypedArg (index_of (slice_index ws 0))
    else if t == 35 then key.Instance (index_of (slice_index ws 0)) (index_of (slice_index ws 1))
    else if t == 36 then key.End (take 60 ws)
    else key.More (take 60 (drop 1 ws)) (index_of (slice_index ws 0))

-- the same of all kinds
abbrev pub guess_by : ℕ → List ℕ → Key
guess_by t ws = if nat_lt t 14 then guess_type t ws else if nat_lt t 30 then guess_value t ws else guess_other t ws

-- the only key that may have these words
abbrev pub guess : List ℕ → Key
guess ws = guess_by (slice_index ws 0) (drop 1 ws)

-- the key with these words, where there is one
unfoldable pub key_of : List ℕ → Option Key
key_of ws = if bytes_eq (words_of (guess ws)) ws then Some (guess ws) else None
