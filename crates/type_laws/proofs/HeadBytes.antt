-- What the first bytes of a type tell of it.
use Rattle.std.proofs.Common.{◌≡◌, ℕ, ◌≤◌, ◌==◌, ◌&&◌, ◌||◌, Bool, true, false, if◌then◌else◌, List, [], ◌∷◌, ◌++◌, codes, refl, ap, ◌∙◌, append_assoc, arith}
use Rattle.std.specs.List.{list_all, list_any}
use Rattle.std.specs.Str.{bytes_eq}
use Rattle.zw_base.specs.Path.{is_path_byte}
use Rattle.type_form.specs.declared.tree.Arg.TheOpen as layer
use Rattle.type_form.specs.declared.tree.Ty.{out-Ty}
use Rattle.type_form.specs.declared.tree.SimpleTy.{SimpleTy}
use Rattle.type_form.specs.declared.tree.SimpleTy.TheVariants as simple
use Rattle.type_form.specs.Tree.{TyLayer}
use Rattle.type_form.specs.Spelling.{number_text, simple_text, decl_text, ty_text}
use Rattle.type_form.specs.Fit.{Program, IsNumber, IsPath, IsErrorSet, ty_fits}
use Rattle.type_laws.proofs.Runs.{stops, is_digit, and_left, and_right, number_digits}
use Rattle.type_laws.proofs.Ends.{Ends, Run, run, run_of, ends_path}
use Rattle.type_laws.proofs.Ends.Ends.{nothing, comma, round, equals, brace, square}
use Rattle.type_laws.proofs.Shapes.{ty_shape, ty_out}

-- `i` or `u` before digits
abbrev is_int_word : List ℕ → Bool
is_int_word [] = false
is_int_word (c ∷ cs) = ((c == 105) || (c == 117)) && list_all is_digit cs

simple_words : List (List ℕ)
simple_words = codes "usize" ∷ codes "isize" ∷ codes "bool" ∷ codes "void" ∷ codes "noreturn" ∷ codes "type" ∷ codes "comptime_int" ∷ codes "anyerror" ∷ []

-- a number for each kind of type, and 0 where the text begins with none
word_kind : List ℕ → ℕ
word_kind w = if is_int_word w then 10 else if list_any (bytes_eq w) simple_words then 6 else 0

abbrev at_kind : List ℕ → ℕ
at_kind [] = 6
at_kind (c ∷ x) = if c == 58 then 5 else if c == 116 then 11 else 6

abbrev byte_kind : List ℕ → ℕ → List ℕ → ℕ
byte_kind [] c x = if c == 63 then 1 else if c == 42 then 2 else if c == 91 then 4 else if c == 64 then at_kind x else 0
byte_kind (b ∷ w) c x = if c == 123 then 8 else if c == 40 then 6 else if c == 33 then 8 else if c == 32 then 0 else word_kind (b ∷ w)

abbrev kind_after : List ℕ → List ℕ → ℕ
kind_after w [] = word_kind w
kind_after w (c ∷ x) = if c == 58 then 7 else byte_kind w c x

pub kind : List ℕ → ℕ
kind text = let r = run is_path_byte text in kind_after r.front r.rest

kind_at : (w x : List ℕ) → list_all is_path_byte w ≡ true → stops is_path_byte x ≡ true → kind (w ++ x) ≡ kind_after w x
unfolding kind
kind_at w x a s = ap (λ (r : Run). kind_after r.front r.rest) (run_of is_path_byte w x a s)

word_ends : (b : ℕ) (w x : List ℕ) → Ends x → kind_after (b ∷ w) x ≡ word_kind (b ∷ w)
word_ends b w _ nothing = refl
word_ends b w _ (comma r) = refl
word_ends b w _ (round r) = refl
word_ends b w _ (equals r) = refl
word_ends b w _ (brace r) = refl
word_ends b w _ (square r) = refl

kind_word : (b : ℕ) (w x : List ℕ) → list_all is_path_byte (b ∷ w) ≡ true → Ends x → kind ((b ∷ w) ++ x) ≡ word_kind (b ∷ w)
kind_word b w x a e = kind_at (b ∷ w) x a (ends_path x e) ∙ word_ends b w x e

simple_kind : (s : SimpleTy) (x : List ℕ) → Ends x → kind (simple_text s ++ x) ≡ 6
unfolding kind word_kind simple_words
simple_kind simple.Usize x e = kind_word 117 (codes "size") x refl e
simple_kind simple.Isize x e = kind_word 105 (codes "size") x refl e
simple_kind simple.Bool x e = kind_word 98 (codes "ool") x refl e
simple_kind simple.Void x e = kind_word 118 (codes "oid") x refl e
simple_kind simple.Noreturn x e = kind_word 110 (codes "oreturn") x refl e
simple_kind simple.Metatype x e = kind_word 116 (codes "ype") x refl e
simple_kind simple.ComptimeInt x e = kind_word 99 (codes "omptime_int") x refl e
simple_kind simple.AnyError x e = kind_word 97 (codes "nyerror") x refl e
simple_kind simple.NullLiteral x e = refl
simple_kind simple.UndefinedLiteral x e = refl
simple_kind simple.EnumLiteral x e = refl
simple_kind simple.GenericFunction x e = refl

digit_path : (c : ℕ) → is_digit c ≡ true → is_path_byte c ≡ true
digit_path c d = grind (arith, d)

digits_path : (ds : List ℕ) → list_all is_digit ds ≡ true → list_all is_path_byte ds ≡ true
digits_path [] a = refl
digits_path (c ∷ cs) a =
    ap (λ t. t && list_all is_path_byte cs) (digit_path c (and_left (is_digit c) (list_all is_digit cs) a))
    ∙ digits_path cs (and_right (is_digit c) (list_all is_digit cs) a)

int_kind : (s : Bool) (n : ℕ) (x : List ℕ) → IsNumber n → Ends x → kind (((if s then codes "i" else codes "u") ++ number_text n) ++ x) ≡ 10
unfolding word_kind
int_kind true n x h e =
    kind_word 105 (number_text n) x (digits_path (number_text n) (number_digits n h)) e
    ∙ ap (λ t. if t then 10 else if list_any (bytes_eq (105 ∷ number_text n)) simple_words then 6 else 0) (number_digits n h)
int_kind false n x h e =
    kind_word 117 (number_text n) x (digits_path (number_text n) (number_digits n h)) e
    ∙ ap (λ t. if t then 10 else if list_any (bytes_eq (117 ∷ number_text n)) simple_words then 6 else 0) (number_digits n h)

pub place_kind : (path r : List ℕ) → IsPath path → kind (path ++ 58 ∷ r) ≡ 7
place_kind path r a = kind_at path (58 ∷ r) a refl ∙ colon path
  where
    colon : (w : List ℕ) → kind_after w (58 ∷ r) ≡ 7
    colon w = refl

-- the kind of a type
abbrev pub kind_of : TyLayer → ℕ
kind_of (layer.Ty::Simple s) = 6
kind_of (layer.Ty::Int s n) = 10
kind_of (layer.ErrorSet ns) = 8
kind_of (layer.Pointer c t) = 2
kind_of (layer.Ty::Slice c t) = 4
kind_of (layer.Array n t) = 4
kind_of (layer.Terminated n) = 4
kind_of (layer.Optional t) = 1
kind_of (layer.ErrorUnion e t) = 8
kind_of (layer.File path) = 5
kind_of (layer.Container d n l) = 7
kind_of (layer.Ty::Function ps r) = 6
kind_of (layer.UnionTag t) = 11

pointer_kind : (c : Bool) (z x : List ℕ) → kind (((if c then codes "*const " else codes "*") ++ z) ++ x) ≡ 2
unfolding kind
pointer_kind true z x = refl
pointer_kind false z x = refl

slice_kind : (c : Bool) (z x : List ℕ) → kind (((if c then codes "[]const " else codes "[]") ++ z) ++ x) ≡ 4
unfolding kind
slice_kind true z x = refl
slice_kind false z x = refl

fixed_kinds : (z x : List ℕ) → (kind ((codes "error{" ++ z) ++ x) ≡ 8) × (kind ((codes "[" ++ z) ++ x) ≡ 4) × (kind ((codes "?" ++ z) ++ x) ≡ 1) × (kind ((codes "@:" ++ z) ++ x) ≡ 5) × (kind ((codes "fn(" ++ z) ++ x) ≡ 6) × (kind ((codes "@tag(" ++ z) ++ x) ≡ 11)
unfolding kind
fixed_kinds z x = (refl, refl, refl, refl, refl, refl)

union_kind : (l : TyLayer) (z x : List ℕ) → IsErrorSet l → kind ((ty_shape l ++ (33 ∷ z)) ++ x) ≡ 8
unfolding kind
union_kind (layer.ErrorSet ns) z x h = refl
union_kind (layer.Ty::Simple simple.AnyError) z x h = refl
union_kind _ z x h = absurd h

-- what is known of a declaration's first bytes
pub record IsHeaded (text : List ℕ) : Type 0 where
  pub path : List ℕ
  pub rest : List ℕ
  pub is_path : IsPath path
  pub is : text ≡ path ++ 58 ∷ rest

-- the declaration of a container is so
abbrev pub IsHeadedIn : TyLayer → Type 0
IsHeadedIn (layer.Container d n l) = IsHeaded (decl_text d)
IsHeadedIn _ = Unit {0}

headed_kind : (text z x : List ℕ) → IsHeaded text → kind ((text ++ z) ++ x) ≡ 7
headed_kind text z x h =
    ap kind (append_assoc text z x ∙ ap (λ t. t ++ (z ++ x)) h.is ∙ append_assoc h.path (58 ∷ h.rest) (z ++ x))
    ∙ place_kind h.path (h.rest ++ (z ++ x)) h.is_path

pub width_number : (n : ℕ) → n ≤ 64 → IsNumber n
width_number n h = omega (arith, h)

-- a type's text tells its kind
pub kind_is : (p : Program) (l : TyLayer) (x : List ℕ) → IsHeadedIn l → ty_fits p l → Ends x → kind (ty_shape l ++ x) ≡ kind_of l
kind_is p (layer.Ty::Simple s) x h f e = simple_kind s x e
kind_is p (layer.Ty::Int s n) x h f e = int_kind s n x (width_number n f.1) e
kind_is p (layer.ErrorSet ns) x h f e = (fixed_kinds _ x).0
kind_is p (layer.Pointer c t) x h f e = pointer_kind c _ x
kind_is p (layer.Ty::Slice c t) x h f e = slice_kind c _ x
kind_is p (layer.Array n t) x h f e = (fixed_kinds _ x).1
kind_is p (layer.Terminated n) x h f e = (fixed_kinds _ x).1
kind_is p (layer.Optional t) x h f e = (fixed_kinds _ x).2
kind_is p (layer.ErrorUnion s t) x h f e = ap (λ z. kind ((z ++ 33 ∷ ty_text t) ++ x)) (ty_out s) ∙ union_kind (out-Ty s) (ty_text t) x f
kind_is p (layer.File path) x h f e = (fixed_kinds _ x).3
kind_is p (layer.Container d n l) x h f e = headed_kind (decl_text d) _ x h
kind_is p (layer.Ty::Function ps r) x h f e = (fixed_kinds _ x).4
kind_is p (layer.UnionTag t) x h f e = (fixed_kinds _ x).5

-- no type begins with a byte that closes a list, nor with these words
pub kind_none : (y : List ℕ) → (kind (41 ∷ y) ≡ 0) × (kind (125 ∷ y) ≡ 0) × (kind (codes "const " ++ y) ≡ 0) × (kind (codes "generic)" ++ y) ≡ 0)
unfolding kind word_kind simple_words
kind_none y = (refl, refl, refl, refl)

-- nor does `undefined`, or a parenthesis
pub kind_undefined : (x : List ℕ) → Ends x → kind (codes "undefined" ++ x) ≡ 0
unfolding word_kind simple_words
kind_undefined x e = kind_word 117 (codes "ndefined") x refl e

pub kind_open : (y : List ℕ) → kind (40 ∷ y) ≡ 0
unfolding kind
kind_open y = refl

pub kind_of_not : (l : TyLayer) → (kind_of l == 0) ≡ false
kind_of_not (layer.Ty::Simple s) = refl
kind_of_not _ = refl

pub kind_some : (l : TyLayer) → kind_of l ≡ 0 → ⊥
kind_some (layer.Ty::Simple s) k = omega (arith, k)
kind_some _ k = omega (arith, k)
