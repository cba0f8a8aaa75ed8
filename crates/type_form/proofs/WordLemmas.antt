-- The key that words may have is the key that has them.
use Rattle.std.proofs.Common.{◌≡◌, ℕ, ◌+◌, ◌*◌, ◌/◌, ◌%◌, ◌^◌, ◌<◌, ◌≤◌, ◌==◌, Bool, true, false, if◌then◌else◌, List, [], ◌∷◌, length, take, Option, Some, None, ℤ, pos, negsuc, refl, sym, ap, ap₂, ◌∙◌, subst, arith, eqb-true}
use Rattle.std.proofs.lemmas.List.{take_all}
use Rattle.std.specs.Str.{bytes_eq}
use Rattle.std.proofs.lemmas.Slice.Eq.{bytes_eq-Decides}
use Rattle.type_form.specs.declared.index.Index.{Index}
use Rattle.type_form.specs.declared.key.Key.{Key}
use Rattle.type_form.specs.declared.key.Key.TheVariants as key
use Rattle.type_form.specs.declared.tree.SimpleTy.{SimpleTy}
use Rattle.type_form.specs.declared.tree.SimpleTy.TheVariants as simple
use Rattle.type_form.specs.declared.tree.SimpleValue.{SimpleValue}
use Rattle.type_form.specs.declared.tree.SimpleValue.TheVariants as known
use Rattle.type_form.specs.Words.{words_of, word_of_bool, word_of_simple, simple_of_word, word_of_known, known_of_word, words_of_int, int_of_words, FitsInt, Fits, guess, key_of, index_of}

bool-word : (b : Bool) → (word_of_bool b == 1) ≡ b
bool-word true = refl
bool-word false = refl

simple-word : (s : SimpleTy) → simple_of_word (word_of_simple s) ≡ s
simple-word simple.Usize = refl
simple-word simple.Isize = refl
simple-word simple.Bool = refl
simple-word simple.Void = refl
simple-word simple.Noreturn = refl
simple-word simple.Metatype = refl
simple-word simple.ComptimeInt = refl
simple-word simple.AnyError = refl
simple-word simple.NullLiteral = refl
simple-word simple.UndefinedLiteral = refl
simple-word simple.EnumLiteral = refl
simple-word simple.GenericFunction = refl

known-word : (s : SimpleValue) → known_of_word (word_of_known s) ≡ s
known-word known.True = refl
known-word known.False = refl
known-word known.Void = refl
known-word known.Null = refl
known-word known.Undefined = refl

cut : (n : ℕ) → n < 2 ^ 32 → n % 2 ^ 32 ≡ n
cut n h = omega arith

joined : (n : ℕ) → n < 2 ^ 127 → n % 2 ^ 64 + 2 ^ 64 * (n / 2 ^ 64 % 2 ^ 63) ≡ n
joined n h = omega arith

pub guess-words : (k : Key) → Fits k → guess (words_of k) ≡ k
guess-words (key.SimpleType s) h = ap (λ s. key.SimpleType s) (simple-word s)
guess-words (key.IntType b n) h = ap₂ (λ b n. key.IntType b n) (bool-word b) (cut n h)
guess-words (key.ErrorSetType l) h = refl
guess-words (key.PointerType b i) h = ap (λ b. key.PointerType b i) (bool-word b)
guess-words (key.SliceType b i) h = ap (λ b. key.SliceType b i) (bool-word b)
guess-words (key.ArrayType n i) h = refl
guess-words (key.TerminatedType n) h = refl
guess-words (key.OptionalType i) h = refl
guess-words (key.ErrorUnionType i j) h = refl
guess-words (key.FileType l) h = refl
guess-words (key.ContainerType d n l) h = ap (λ n. key.ContainerType d n l) (cut n h)
guess-words (key.FunctionType l i) h = refl
guess-words (key.UnionTagType i) h = refl
guess-words (key.SimpleValue i s) h = ap (λ s. key.SimpleValue i s) (known-word s)
guess-words (key.IntValue i (pos n)) h = ap (λ m. key.IntValue i (pos m)) (joined n h)
guess-words (key.IntValue i (negsuc n)) h = ap (λ m. key.IntValue i (negsuc m)) (joined n h)
guess-words (key.TagValue i l) h = refl
guess-words (key.ErrorValue i l) h = refl
guess-words (key.SomeValue i j) h = refl
guess-words (key.GoodValue i j) h = refl
guess-words (key.ListValue i l) h = refl
guess-words (key.TextValue i l) h = refl
guess-words (key.TaggedValue i l j) h = refl
guess-words (key.TypeValue i) h = refl
guess-words (key.FunctionValue d) h = refl
guess-words (key.AddressValue i d) h = refl
guess-words (key.ConstantValue i j) h = refl
guess-words (key.PlaceValue i n) h = refl
guess-words (key.PartValue i j n c) h = refl
guess-words (key.SliceValue i j lo hi) h = refl
guess-words (key.NamedDecl i l) h = refl
guess-words (key.ComptimeDecl l n) h = ap (λ n. key.ComptimeDecl l n) (cut n h)
guess-words (key.KnownArg j) h = refl
guess-words (key.FunctionArg i d) h = refl
guess-words (key.TypedArg i) h = refl
guess-words (key.Instance d l) h = refl
guess-words (key.End ns) h = ap key.End (take_all 60 ns h)
guess-words (key.More ns i) h = ap (λ ms. key.More ms i) (take_all 60 ns h)

bytes_eq-self : (ws : List ℕ) → bytes_eq ws ws ≡ true
bytes_eq-self ws = (bytes_eq-Decides ws ws).1 refl

-- a key that fits its words is read back from them
pub key_of-words_of : (k : Key) → Fits k → key_of (words_of k) ≡ Some k
unfolding key_of
key_of-words_of k h =
    ap (λ g. if bytes_eq (words_of g) (words_of k) then Some g else None) (guess-words k h) ∙ ap (λ b. if b then Some k else None) (bytes_eq-self (words_of k))

-- and only a key that has these words is read from words
pub words_of-key_of : (ws : List ℕ) (k : Key) → key_of ws ≡ Some k → words_of k ≡ ws
unfolding key_of
words_of-key_of ws k e = by_test (bytes_eq (words_of (guess ws)) ws) refl
  where
    by_test : (b : Bool) → bytes_eq (words_of (guess ws)) ws ≡ b → words_of k ≡ ws
    by_test true t =
        let f = sym (ap (λ b. if b then Some (guess ws) else None) t) ∙ e in
        let g : guess ws ≡ k = cc in
        sym (ap words_of g) ∙ (bytes_eq-Decides (words_of (guess ws)) ws).0 t
    by_test false t = let f = sym (ap (λ b. if b then Some (guess ws) else None) t) ∙ e in cc

-- where no key is read, no key that fits has the words
pub key_of-none : (ws : List ℕ) (k : Key) → key_of ws ≡ None → Fits k → words_of k ≡ ws → ⊥
key_of-none ws k e f w = let g : Some k ≡ None = sym (key_of-words_of k f) ∙ ap key_of w ∙ e in cc

-- where the words that a key may have are these, it is the key that is read
pub key_of-same : (ws : List ℕ) (k : Key) → k ≡ guess ws → bytes_eq (words_of k) ws ≡ true → key_of ws ≡ Some k
unfolding key_of
key_of-same ws k e t = let f : bytes_eq (words_of (guess ws)) ws ≡ true = subst (λ g. bytes_eq (words_of g) ws ≡ true) e t in ap (λ b. if b then Some (guess ws) else None) f ∙ ap Some (sym e)

pub key_of-other : (ws : List ℕ) (k : Key) → k ≡ guess ws → bytes_eq (words_of k) ws ≡ false → key_of ws ≡ None
unfolding key_of
key_of-other ws k e t = let f : bytes_eq (words_of (guess ws)) ws ≡ false = subst (λ g. bytes_eq (words_of g) ws ≡ false) e t in ap (λ b. if b then Some (guess ws) else None) f
