-- Steps of the loops that write the leaves of spellings.
use Rattle.std.proofs.Common.{◌≡◌, ℕ, ℤ, pos, negsuc, suc, ◌+◌, ◌/◌, ◌%◌, ◌^◌, ◌<◌, ◌≤◌, ◌++◌, List, [], ◌∷◌, length, get_or, take, refl, sym, ap, ◌∙◌, arith, append_assoc, append-nil, map, codes}
use Rattle.std.specs.List.{flat_map}
use Rattle.std.proofs.lemmas.Fmt.{decimal_digit, decimal_step_wide}
use Rattle.std.proofs.lemmas.List.{take_more, map_more, length-take-le, length-map}
use Rattle.type_form.specs.declared.tree.Ty.{Ty}
use Rattle.type_form.specs.declared.tree.Value.{Value}
use Rattle.type_form.specs.declared.tree.Arg.{Arg}
use Rattle.type_form.specs.Spelling.{in_parens, name_text, ty_text, value_text, arg_text, quoted, quoted_byte, number_text, int_text, commas, behind_commas}

flat_map_push : (f : ℕ → List ℕ) (xs : List ℕ) (x : ℕ) → flat_map f (xs ++ x ∷ []) ≡ flat_map f xs ++ f x
flat_map_push f [] x = append-nil (f x)
flat_map_push f (y ∷ xs) x = ap (λ zs. f y ++ zs) (flat_map_push f xs x) ∙ sym (append_assoc (f y) (flat_map f xs) (f x))

pub quoted-none : quoted [] ≡ []
unfolding quoted
quoted-none = refl

pub quoted-push : (xs : List ℕ) (x : ℕ) → quoted (xs ++ x ∷ []) ≡ quoted xs ++ quoted_byte x
unfolding quoted
quoted-push xs x = flat_map_push quoted_byte xs x

pub quoted-more : (xs : List ℕ) (i : ℕ) → i < length xs → quoted (take (i + 1) xs) ≡ quoted (take i xs) ++ quoted_byte (get_or xs i 0)
quoted-more xs i h = ap quoted (take_more xs i 0 h) ∙ quoted-push (take i xs) (get_or xs i 0)

pub number_text-digit : (n : ℕ) → n < 10 → number_text n ≡ (48 + n) ∷ []
unfolding number_text
number_text-digit n h = decimal_digit n h

pub number_text-step : (n : ℕ) → 10 ≤ n → n < 2 ^ 128 → number_text n ≡ number_text (n / 10) ++ (48 + n % 10) ∷ []
unfolding number_text
number_text-step n h g = decimal_step_wide n h (omega (arith, g))

pub ruleset quoted_steps = (quoted-none, quoted-more, append_assoc)

pub ruleset number_steps = (number_text-digit, number_text-step, append_assoc)

pub int_text-pos : (n : ℕ) → int_text (pos n) ≡ number_text n
unfolding int_text number_text
int_text-pos n = refl

pub int_text-negsuc : (n : ℕ) → int_text (negsuc n) ≡ 45 ∷ number_text (suc n)
unfolding int_text number_text
int_text-negsuc n = refl

pub ruleset int_texts = (int_text-pos, int_text-negsuc)

behind_push : (xs : List (List ℕ)) (x : List ℕ) → behind_commas (xs ++ x ∷ []) ≡ behind_commas xs ++ 44 ∷ x
behind_push [] x = ap (λ ys. 44 ∷ ys) (append-nil x)
behind_push (y ∷ xs) x = ap (λ ys. 44 ∷ ys) (ap (λ zs. y ++ zs) (behind_push xs x) ∙ sym (append_assoc y (behind_commas xs) (44 ∷ x)))

-- the first text, and one more
pub commas-first : (x : List ℕ) → commas (x ∷ []) ≡ x
unfolding commas
commas-first x = append-nil x

pub commas-push : (xs : List (List ℕ)) (x : List ℕ) → 0 < length xs → commas (xs ++ x ∷ []) ≡ commas xs ++ 44 ∷ x
unfolding commas
commas-push [] x h = absurd (omega (arith, h))
commas-push (y ∷ xs) x h = ap (λ zs. y ++ zs) (behind_push xs x) ∙ sym (append_assoc y (behind_commas xs) (44 ∷ x))

module _ {X : Type 0} (f : X → List ℕ) where
  pub commas-none : commas (map f []) ≡ []
  unfolding commas
  commas-none = refl

  -- the steps of a loop that writes them
  pub commas-start : (xs : List X) (d : X) → 0 < length xs → commas (map f (take 1 xs)) ≡ f (get_or xs 0 d)
  commas-start [] d h = absurd (omega (arith, h))
  commas-start (x ∷ xs) d h = commas-first (f x)

  pub commas-more : (xs : List X) (i : ℕ) (d : X) → 0 < i → i < length xs → commas (map f (take (i + 1) xs)) ≡ commas (map f (take i xs)) ++ 44 ∷ f (get_or xs i d)
  commas-more xs i d p h =
      ap commas (map_more f xs i d h)
      ∙ commas-push (map f (take i xs)) (f (get_or xs i d)) (omega (arith, p, length-map (take i xs) f, length-take-le i xs (omega (arith, h))))

pub names-none : commas (map name_text []) ≡ []
names-none = commas-none name_text

pub names-start : (xs : List (List ℕ)) (d : List ℕ) → 0 < length xs → commas (map name_text (take 1 xs)) ≡ name_text (get_or xs 0 d)
names-start xs d h = commas-start name_text xs d h

pub names-more : (xs : List (List ℕ)) (i : ℕ) (d : List ℕ) → 0 < i → i < length xs → commas (map name_text (take (i + 1) xs)) ≡ commas (map name_text (take i xs)) ++ 44 ∷ name_text (get_or xs i d)
names-more xs i d p h = commas-more name_text xs i d p h

pub ruleset name_steps = (names-none, names-start, names-more, append_assoc, append-nil)

pub tys-none : commas (map ty_text []) ≡ []
tys-none = commas-none ty_text

pub tys-start : (xs : List (Ty)) (d : Ty) → 0 < length xs → commas (map ty_text (take 1 xs)) ≡ ty_text (get_or xs 0 d)
tys-start xs d h = commas-start ty_text xs d h

pub tys-more : (xs : List (Ty)) (i : ℕ) (d : Ty) → 0 < i → i < length xs → commas (map ty_text (take (i + 1) xs)) ≡ commas (map ty_text (take i xs)) ++ 44 ∷ ty_text (get_or xs i d)
tys-more xs i d p h = commas-more ty_text xs i d p h

pub ruleset ty_steps = (tys-none, tys-start, tys-more, append_assoc, append-nil)

pub values-none : commas (map value_text []) ≡ []
values-none = commas-none value_text

pub values-start : (xs : List (Value)) (d : Value) → 0 < length xs → commas (map value_text (take 1 xs)) ≡ value_text (get_or xs 0 d)
values-start xs d h = commas-start value_text xs d h

pub values-more : (xs : List (Value)) (i : ℕ) (d : Value) → 0 < i → i < length xs → commas (map value_text (take (i + 1) xs)) ≡ commas (map value_text (take i xs)) ++ 44 ∷ value_text (get_or xs i d)
values-more xs i d p h = commas-more value_text xs i d p h

pub ruleset value_steps = (values-none, values-start, values-more, append_assoc, append-nil)

pub args-none : commas (map arg_text []) ≡ []
args-none = commas-none arg_text

pub args-start : (xs : List (Arg)) (d : Arg) → 0 < length xs → commas (map arg_text (take 1 xs)) ≡ arg_text (get_or xs 0 d)
args-start xs d h = commas-start arg_text xs d h

pub args-more : (xs : List (Arg)) (i : ℕ) (d : Arg) → 0 < i → i < length xs → commas (map arg_text (take (i + 1) xs)) ≡ commas (map arg_text (take i xs)) ++ 44 ∷ arg_text (get_or xs i d)
args-more xs i d p h = commas-more arg_text xs i d p h

pub ruleset arg_steps = (args-none, args-start, args-more, append_assoc, append-nil)

parens_of : (x : List ℕ) (xs : List (List ℕ)) → in_parens (x ∷ xs) ≡ codes "(" ++ (commas (x ∷ xs) ++ codes ")")
parens_of x xs = refl

pub parens-none : (xs : List Arg) → xs ≡ [] → in_parens (map arg_text xs) ≡ []
parens-none xs e = ap (λ ys. in_parens (map arg_text ys)) e

pub parens-some : (xs : List Arg) → 0 < length xs → in_parens (map arg_text xs) ≡ codes "(" ++ (commas (map arg_text xs) ++ codes ")")
parens-some [] h = absurd (omega (arith, h))
parens-some (x ∷ xs) h = refl

pub ruleset paren_steps = (parens-none, parens-some, append_assoc, append-nil)
