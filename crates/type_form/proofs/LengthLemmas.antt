-- What the lengths of spellings are made of.
use Rattle.std.proofs.Common.{◌≡◌, ℕ, zero, suc, min, nat_lt, ◌+◌, ◌/◌, ◌%◌, ◌^◌, ◌<◌, ◌≤◌, ◌++◌, List, [], ◌∷◌, length, get_or, take, map, codes, Bool, true, false, if◌then◌else◌, refl, sym, ap, ◌∙◌, arith, length-append}
use Rattle.type_form.specs.declared.tree.Ty.{Ty}
use Rattle.type_form.specs.declared.tree.Value.{Value}
use Rattle.type_form.specs.declared.tree.Arg.{Arg}
use Rattle.type_form.specs.Spelling.{quoted, quoted_byte, is_plain, name_text, number_text, commas, in_parens, ty_text, value_text, arg_text, decl_text, place_text, instance_text, unit_text}
use Rattle.type_form.specs.declared.tree.DeclPath.{DeclPath}
use Rattle.type_form.specs.declared.unit.Instance.{Instance}
use Rattle.type_form.specs.declared.unit.Unit.TheVariants as unit
use Rattle.type_form.proofs.TextLemmas.{quoted-none, quoted-more, number_text-digit, number_text-step, parens-none, parens-some, commas-start, commas-more, names-none, names-start, names-more, tys-none, tys-start, tys-more, values-none, values-start, values-more, args-none, args-start, args-more}
use Rattle.type_form.proofs.SpellLemmas.{ty_texts, value_texts, decl_texts, arg_texts}

pub name_text-plain : (name : List ℕ) → is_plain name ≡ true → name_text name ≡ name
unfolding name_text
name_text-plain name e = ap (λ b. if b then name else 64 ∷ 34 ∷ (quoted name ++ 34 ∷ [])) e

pub name_text-quoted : (name : List ℕ) → is_plain name ≡ false → name_text name ≡ 64 ∷ 34 ∷ (quoted name ++ 34 ∷ [])
unfolding name_text
name_text-quoted name e = ap (λ b. if b then name else 64 ∷ 34 ∷ (quoted name ++ 34 ∷ [])) e

later : (i : ℕ) → nat_lt 0 (suc i) ≡ true
later i = grind arith

module _ {X : Type 0} (f : X → List ℕ) where
  -- one more item of a list with commas is counted
  pub step_len : (xs : List X) (i : ℕ) (x : X) → i < length xs → get_or xs i x ≡ x → (sum item new : ℕ)
      → sum ≡ min (length (commas (map f (take i xs)))) 4097 → item ≡ min (length (f x)) 4097 → new ≡ (if nat_lt 0 i then min (sum + 1 + item) 4097 else item)
      → new ≡ min (length (commas (map f (take (i + 1) xs)))) 4097
  step_len xs zero x h g sum item new a b c =
      c ∙ b ∙ ap (λ ys. min (length ys) 4097) (ap f (sym g) ∙ sym (commas-start f xs x h))
  step_len xs (suc i) x h g sum item new a b c =
      let more = commas-more f xs (suc i) x (omega arith) h in
      let size : length (commas (map f (take (suc i + 1) xs))) ≡ length (commas (map f (take (suc i) xs))) + (1 + length (f x)) =
      ap length more ∙ length-append (commas (map f (take (suc i) xs))) (44 ∷ f (get_or xs (suc i) x)) ∙ ap (λ y. length (commas (map f (take (suc i) xs))) + suc (length (f y))) g ∙ omega arith in
      let added : new ≡ min (sum + 1 + item) 4097 = c ∙ ap (λ t. if t then min (sum + 1 + item) 4097 else item) (later i) in
      omega (arith, a, b, added, size)

pub ruleset quoted_lengths = (quoted-none, quoted-more, length-append)

pub ruleset name_lengths = (name_text-plain, name_text-quoted, length-append)

pub ruleset number_lengths = (number_text-digit, number_text-step, length-append)

pub ruleset paren_lengths = (parens-none, parens-some, commas-start, commas-more, length-append)

pub ruleset ty_lengths = (ty_texts, length-append)

pub ruleset value_lengths = (value_texts, length-append)

pub ruleset decl_lengths = (decl_texts, length-append)

pub ruleset arg_lengths = (arg_texts, length-append)

pub ruleset names_lengths = (names-none, names-start, names-more, length-append)

pub ruleset tys_lengths = (tys-none, tys-start, tys-more, length-append)

pub ruleset values_lengths = (values-none, values-start, values-more, length-append)

pub ruleset args_lengths = (args-none, args-start, args-more, length-append)

pub instance_text-is : (n : Instance) → instance_text n ≡ decl_text n.decl ++ (codes "(" ++ (commas (map arg_text n.args) ++ codes ")"))
unfolding instance_text
instance_text-is n = refl

pub unit_text-Decl : (d : DeclPath) → unit_text (unit.Decl d) ≡ codes "decl " ++ decl_text d
unfolding unit_text
unit_text-Decl d = refl

pub unit_text-Body : (n : Instance) → unit_text (unit.Body n) ≡ codes "body " ++ instance_text n
unfolding unit_text
unit_text-Body n = refl

pub unit_text-ErrorSet : (n : Instance) → unit_text (unit.ErrorSet n) ≡ codes "errset " ++ instance_text n
unfolding unit_text
unit_text-ErrorSet n = refl

pub unit_text-Fields : (c : Ty) → unit_text (unit.Fields c) ≡ codes "fields " ++ place_text c
unfolding unit_text
unit_text-Fields c = refl

pub unit_text-Code : (n : Instance) → unit_text (unit.Code n) ≡ codes "code " ++ instance_text n
unfolding unit_text
unit_text-Code n = refl

pub unit_text-Comptime : (path : List ℕ) (n : ℕ) → unit_text (unit.Comptime path n) ≡ codes "comptime " ++ (path ++ (codes "#" ++ number_text n))
unfolding unit_text
unit_text-Comptime path n = refl

pub ruleset instance_lengths = (instance_text-is, length-append)

pub ruleset unit_lengths = (unit_text-Decl, unit_text-Body, unit_text-ErrorSet, unit_text-Fields, unit_text-Code, unit_text-Comptime, length-append)
