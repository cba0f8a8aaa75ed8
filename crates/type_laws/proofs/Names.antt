-- Names are read back from a text that begins with one and goes on with no letter, digit or `_`.
use Rattle.std.proofs.Common.{◌≡◌, ℕ, ◌==◌, not, ◌&&◌, ◌||◌, Bool, true, false, List, [], ◌∷◌, ◌++◌, codes, refl, sym, ap, ◌∙◌, append_assoc, true≢false}
use Rattle.std.specs.List.{list_all}
use Rattle.type_form.specs.Spelling.{is_letter, is_word_byte, quoted, is_keyword, is_plain, name_text}
use Rattle.type_form.proofs.LengthLemmas.{name_text-plain, name_text-quoted}
use Rattle.type_laws.proofs.Runs.{and_left, and_right, stops, run_unique, quoted_unique, heads}

-- a plain name has a first letter
plain_head : (name : List ℕ) → is_plain name ≡ true → (c : ℕ) × (rest : List ℕ) × (name ≡ c ∷ rest) × (is_letter c ≡ true)
unfolding is_plain
plain_head [] e = absurd (true≢false (sym e))
plain_head (c ∷ cs) e = (c, cs, refl, and_left (is_letter c) _ e)

or_left : (a b : Bool) → a ≡ true → (a || b) ≡ true
or_left true b e = refl
or_left false b e = absurd (true≢false (sym e))

plain_word : (name : List ℕ) → is_plain name ≡ true → list_all is_word_byte name ≡ true
unfolding is_plain
plain_word [] e = refl
plain_word (c ∷ cs) e =
    let first : is_word_byte c ≡ true = or_left (is_letter c) _ (and_left (is_letter c) _ e) in
    ap (λ t. t && list_all is_word_byte cs) first ∙ and_left (list_all is_word_byte cs) _ (and_right (is_letter c) _ e)

plain_free : (name : List ℕ) → is_plain name ≡ true → is_keyword name ≡ true → ⊥
unfolding is_plain
plain_free [] e k = true≢false (sym e)
plain_free (c ∷ cs) e k = true≢false (sym (and_right (list_all is_word_byte cs) _ (and_right (is_letter c) _ e)) ∙ ap not k)

-- a plain name begins with no `@`
plain_not : (name x y : List ℕ) → is_plain name ≡ true → name ++ x ≡ 64 ∷ y → ⊥
plain_not name x y p e =
    let r = plain_head name p in
    let g : r.0 ∷ (r.1 ++ x) ≡ 64 ∷ y = ap (λ t. t ++ x) (sym r.2) ∙ e in
    let same : r.0 ≡ 64 = cc in
    true≢false (sym r.3 ∙ ap is_letter same)

quoted_end : (name x : List ℕ) → (64 ∷ 34 ∷ (quoted name ++ 34 ∷ [])) ++ x ≡ 64 ∷ 34 ∷ (quoted name ++ 34 ∷ x)
quoted_end name x = ap (λ z. 64 ∷ 34 ∷ z) (append_assoc (quoted name) (34 ∷ []) x)

-- both forms of a name
abbrev formed : Bool → List ℕ → List ℕ → List ℕ
formed true name x = name ++ x
formed false name x = 64 ∷ 34 ∷ (quoted name ++ 34 ∷ x)

name_formed : (name x : List ℕ) (t : Bool) → is_plain name ≡ t → name_text name ++ x ≡ formed t name x
name_formed name x true e = ap (λ z. z ++ x) (name_text-plain name e)
name_formed name x false e = ap (λ z. z ++ x) (name_text-quoted name e) ∙ quoted_end name x

pub name_unique : (a b x y : List ℕ) → stops is_word_byte x ≡ true → stops is_word_byte y ≡ true → name_text a ++ x ≡ name_text b ++ y → (a ≡ b) × (x ≡ y)
name_unique a b x y s t e = by (is_plain a) (is_plain b) refl refl
  where
    by : (p q : Bool) → is_plain a ≡ p → is_plain b ≡ q → (a ≡ b) × (x ≡ y)
    by true true f g = run_unique is_word_byte a b x y (plain_word a f) (plain_word b g) s t (sym (name_formed a x true f) ∙ e ∙ name_formed b y true g)
    by true false f g = absurd (plain_not a x _ f (sym (name_formed a x true f) ∙ e ∙ name_formed b y false g))
    by false true f g = absurd (plain_not b y _ g (sym (name_formed b y true g) ∙ sym e ∙ name_formed a x false f))
    by false false f g =
        let h : 64 ∷ 34 ∷ (quoted a ++ 34 ∷ x) ≡ 64 ∷ 34 ∷ (quoted b ++ 34 ∷ y) = sym (name_formed a x false f) ∙ e ∙ name_formed b y false g in
        let k : quoted a ++ 34 ∷ x ≡ quoted b ++ 34 ∷ y = cc in
        quoted_unique a b x y k

-- what a name may begin with
abbrev pub is_start : ℕ → Bool
is_start c = is_letter c || (c == 64)

pub name_head : (name : List ℕ) → (c : ℕ) × (rest : List ℕ) × (name_text name ≡ c ∷ rest) × (is_start c ≡ true)
name_head name = by (is_plain name) refl
  where
    by : (p : Bool) → is_plain name ≡ p → (c : ℕ) × (rest : List ℕ) × (name_text name ≡ c ∷ rest) × (is_start c ≡ true)
    by true f = let r = plain_head name f in (r.0, r.1, name_text-plain name f ∙ r.2, or_left (is_letter r.0) _ r.3)
    by false f = (64, 34 ∷ (quoted name ++ 34 ∷ []), name_text-quoted name f, refl)

-- no name begins with another byte
pub name_not : (name x y : List ℕ) (c : ℕ) → is_start c ≡ false → name_text name ++ x ≡ c ∷ y → ⊥
name_not name x y c f e =
    let r = name_head name in
    let g : r.0 ∷ (r.1 ++ x) ≡ c ∷ y = ap (λ t. t ++ x) (sym r.2) ∙ e in
    let same : r.0 ≡ c = cc in
    true≢false (sym r.3 ∙ ap is_start same ∙ f)

comptime_keyword : is_keyword (codes "comptime") ≡ true
unfolding is_keyword
comptime_keyword = refl

no_word : ◌≡◌ {A = ℕ} 64 99 → ⊥
no_word e = cc

-- no name is the word `comptime`
pub name_comptime : (name x y : List ℕ) → stops is_word_byte x ≡ true → name_text name ++ x ≡ codes "comptime " ++ y → ⊥
name_comptime name x y s e = by (is_plain name) refl
  where
    by : (p : Bool) → is_plain name ≡ p → ⊥
    by true f =
        let r = run_unique is_word_byte name (codes "comptime") x (32 ∷ y) (plain_word name f) refl s refl (sym (name_formed name x true f) ∙ e) in
        plain_free name f (ap is_keyword r.0 ∙ comptime_keyword)
    by false f = no_word (heads 64 99 _ _ (sym (name_formed name x false f) ∙ e))
