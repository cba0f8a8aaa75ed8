-- A step of a loop over a list.
use Rattle.std.specs.Prelude.{◌++◌, ◌≤◌}
use Rattle.std.specs.List.{flat_map, fold}
use Rattle.std.proofs.Common.{refl}
use Rattle.wasm_link.specs.declared.named.Item.{Item}
use Rattle.wasm_link.specs.declared.named.Function.{Function}
use Rattle.wasm_link.specs.Layout.{item_len, item_start, items_end}
use Rattle.wasm_link.specs.Exports.{has_name, places_of}
use Rattle.wasm_link.specs.declared.named.Place.{Place}
use Rattle.std.proofs.Common.{Bool, true, false, if◌then◌else◌}
use Rattle.std.proofs.Common.{◌≡◌, ℕ, suc, ◌+◌, ◌<◌, List, [], ◌∷◌, length, drop, get_or, sym, ap, ◌∙◌, arith, drop-cons}
use Rattle.std.proofs.lemmas.Grind.{common_steps}

-- what is left begins with the next element
pub next_of : {T : Type 0} (xs : List T) (i : ℕ) (x : T) → i < length xs → x ≡ get_or xs i x → drop i xs ≡ x ∷ drop (i + 1) xs
next_of xs i x lt e = drop-cons xs i x lt ∙ ap (λ y. y ∷ drop (suc i) xs) (sym e) ∙ ap (λ j. x ∷ drop j xs) (let s : suc i ≡ i + 1 = omega arith in s)

-- nothing is left at the end
pub none_left : {T : Type 0} (xs : List T) (i : ℕ) → length xs ≤ i → drop i xs ≡ []
none_left xs i e = grind (arith, common_steps)

-- items don't end before they begin
pub ends_grow : (address : ℕ) (items : List Item) → address ≤ items_end address items
ends_grow address [] = omega arith
ends_grow address (i ∷ items) = omega (arith, ends_grow (item_start address i.item + item_len i.item) items)

pub fold_joined : {A B : Type 0} (f : B → A → B) (b : B) (xs ys : List A) → fold f b (xs ++ ys) ≡ fold f (fold f b xs) ys
fold_joined f b [] ys = refl
fold_joined f b (x ∷ xs) ys = fold_joined f (f b x) xs ys

-- a fold over what elements give, one element further
pub fold_next : {A B R : Type 0} (f : B → A → B) (g : R → List A) (b : B) (rs : List R) (i : ℕ) (r : R) → i < length rs → r ≡ get_or rs i r
    → fold f (fold f b (g r)) (flat_map g (drop (i + 1) rs)) ≡ fold f b (flat_map g (drop i rs))
fold_next f g b rs i r lt e =
    sym (ap (λ xs. fold f b (flat_map g xs)) (next_of rs i r lt e) ∙ fold_joined f b (g r) (flat_map g (drop (i + 1) rs)))

places_pushed : (name : List ℕ) (functions : List Function) (f : Function) → places_of name (functions ++ f ∷ []) ≡ places_of name functions ++ places_of name (f ∷ [])
places_pushed name [] f = refl
places_pushed name (g ∷ functions) f = by_test (has_name name g.export) (places_pushed name functions f)
  where
    by_test : (b : Bool) → places_of name (functions ++ f ∷ []) ≡ places_of name functions ++ places_of name (f ∷ [])
        → (if b then g.place ∷ places_of name (functions ++ f ∷ []) else places_of name (functions ++ f ∷ [])) ≡ (if b then g.place ∷ places_of name functions else places_of name functions) ++ places_of name (f ∷ [])
    by_test true h = ap (λ ps. g.place ∷ ps) h
    by_test false h = h

-- the places of functions with one more behind them, which has the name
pub places_kept : (name : List ℕ) (functions : List Function) (f : Function) → has_name name f.export ≡ true → places_of name (functions ++ f ∷ []) ≡ places_of name functions ++ f.place ∷ []
places_kept name functions f e = places_pushed name functions f ∙ ap (λ b. places_of name functions ++ (if b then f.place ∷ [] else [])) e

-- and which hasn't
pub places_passed : (name : List ℕ) (functions : List Function) (f : Function) → has_name name f.export ≡ false → places_of name (functions ++ f ∷ []) ≡ places_of name functions
places_passed name functions f e = places_pushed name functions f ∙ ap (λ b. places_of name functions ++ (if b then f.place ∷ [] else [])) e ∙ append_none (places_of name functions)
  where
    append_none : (ps : List Place) → ps ++ [] ≡ ps
    append_none [] = refl
    append_none (p ∷ ps) = ap (λ qs. p ∷ qs) (append_none ps)
