-- The first token with a name, as tokens come one after the other.
use Rattle.std.proofs.Common.{◌≡◌, ◌↔◌, ℕ, zero, suc, ◌+◌, ◌<◌, ◌≤◌, Bool, true, false, if◌then◌else◌, List, [], ◌∷◌, ◌++◌, length, get_or, take, drop, map, Option, Some, None, slice_get, unwrap_or, refl, sym, ap, ◌∙◌, arith, cond, inl, inr, add-one}
use Rattle.std.specs.List.{position_from, range_with_len}
use Rattle.std.specs.Option.{option_or}
use Rattle.std.specs.Str.{bytes_eq}
use Rattle.std.proofs.lemmas.Slice.Eq.{bytes_eq-Decides}
use Rattle.std.proofs.lemmas.Bool.{true≢false, and_from, and_parts, cases_lt}
use Rattle.std.proofs.lemmas.Option.{slice_get-get_or}
use Rattle.std.proofs.lemmas.List.{map-append, take_more, take-append-drop, drop_more, length-take-le}
use Rattle.std.proofs.lemmas.List.FromFn.{get_or-map-range_with_len, length-map-range_with_len}
use Rattle.zig_tree.specs.declared.token.Token.{Token}
use Rattle.zig_tree.specs.declared.token.TokenKind.{TokenKind}
use Rattle.zig_tree.specs.declared.token.TokenKind.TheVariants.{Identifier}
use Rattle.zig_tree.specs.Kinds.{is_kind, number_of}
use Rattle.zir_form.specs.Names.{name_of, has_name, first_with, first_like, first_name, first_names}

-- ---- positions
module _ {X : Type 0} (p : X → Bool) where
  position-push : (n : ℕ) (xs : List X) (x : X) → position_from p n (xs ++ x ∷ []) ≡ option_or (position_from p n xs) (if p x then Some (n + length xs) else None)
  position-push n [] x = let e : n ≡ n + 0 = omega arith in ap (λ k. if p x then Some k else None) e
  position-push n (y ∷ xs) x = by (p y) (position-push (n + 1) xs x)
    where
      by : (t : Bool) → position_from p (n + 1) (xs ++ x ∷ []) ≡ option_or (position_from p (n + 1) xs) (if p x then Some ((n + 1) + length xs) else None)
          → cond t (Some n) (position_from p (n + 1) (xs ++ x ∷ [])) ≡ option_or (cond t (Some n) (position_from p (n + 1) xs)) (if p x then Some (n + length (y ∷ xs)) else None)
      by true rest = refl
      by false rest =
          let e : (n + 1) + length xs ≡ n + length (y ∷ xs) = omega arith in
          rest ∙ ap (λ k. option_or (position_from p (n + 1) xs) (if p x then Some k else None)) e

  position-append : (n k : ℕ) (xs ys : List X) → position_from p n xs ≡ Some k → position_from p n (xs ++ ys) ≡ Some k
  position-append n k [] ys e = cc
  position-append n k (x ∷ xs) ys e = by (p x) (position-append (n + 1) k xs ys) e
    where
      by : (t : Bool) → (position_from p (n + 1) xs ≡ Some k → position_from p (n + 1) (xs ++ ys) ≡ Some k)
          → cond t (Some n) (position_from p (n + 1) xs) ≡ Some k → cond t (Some n) (position_from p (n + 1) (xs ++ ys)) ≡ Some k
      by true rest h = h
      by false rest h = rest h

  position-further : (n : ℕ) (xs ys : List X) → position_from p n xs ≡ None → position_from p n (xs ++ ys) ≡ position_from p (n + length xs) ys
  position-further n [] ys e = let s : n ≡ n + 0 = omega arith in ap (λ k. position_from p k ys) s
  position-further n (x ∷ xs) ys e = by (p x) (position-further (n + 1) xs ys) e
    where
      by : (t : Bool) → (position_from p (n + 1) xs ≡ None → position_from p (n + 1) (xs ++ ys) ≡ position_from p ((n + 1) + length xs) ys)
          → cond t (Some n) (position_from p (n + 1) xs) ≡ None → cond t (Some n) (position_from p (n + 1) (xs ++ ys)) ≡ position_from p (n + length (x ∷ xs)) ys
      by true rest h = cc
      by false rest h = let s : (n + 1) + length xs ≡ n + length (x ∷ xs) = omega arith in rest h ∙ ap (λ k. position_from p k ys) s

  position-here : (n : ℕ) (x : X) (xs : List X) → p x ≡ true → position_from p n (x ∷ xs) ≡ Some n
  position-here n x xs h = ap (λ t. cond t (Some n) (position_from p (n + 1) xs)) h

  -- where a test passes first: the place in the list, and what stands there
  record Found (n k : ℕ) (xs : List X) : Type 0 where
    pub at : ℕ
    pub item : X
    pub place : n + at ≡ k
    pub stands : slice_get xs at ≡ Some item
    pub passes : p item ≡ true

  position-is : (n k : ℕ) (xs : List X) → position_from p n xs ≡ Some k → Found n k xs
  position-is n k [] e = cc
  position-is n k (x ∷ xs) e = by (p x) refl (position-is (n + 1) k xs) e
    where
      by : (t : Bool) → p x ≡ t → (position_from p (n + 1) xs ≡ Some k → Found (n + 1) k xs) → cond t (Some n) (position_from p (n + 1) xs) ≡ Some k → Found n k (x ∷ xs)
      by true h rest f = let g : n ≡ k = cc in record { at = 0; item = x; place = omega arith; stands = refl; passes = h }
      by false h rest f = let r = rest f in record { at = suc r.at; item = r.item; place = omega (arith, r.place); stands = r.stands; passes = r.passes }

  -- where a test passes somewhere it passes first somewhere
  position-some : (n i : ℕ) (xs : List X) (x : X) → slice_get xs i ≡ Some x → p x ≡ true → (k : ℕ) × (position_from p n xs ≡ Some k)
  position-some n i [] x e h = cc
  position-some n zero (y ∷ xs) x e h = let same : y ≡ x = cc in (n, position-here n y xs (ap p same ∙ h))
  position-some n (suc i) (y ∷ xs) x e h = by (p y) (position-some (n + 1) i xs x e h)
    where
      by : (t : Bool) → ((k : ℕ) × (position_from p (n + 1) xs ≡ Some k)) → (k : ℕ) × (cond t (Some n) (position_from p (n + 1) xs) ≡ Some k)
      by true rest = (n, refl)
      by false rest = rest

-- ---- tokens with a name
identifier_is : (kind : TokenKind) → kind ≡ Identifier → is_kind kind Identifier ≡ true
unfolding number_of
identifier_is kind e = ap (λ k. is_kind k Identifier) e

has_name-is : (text name : List ℕ) (token : Token) → is_kind token.kind Identifier ≡ true → name_of text token ≡ name → has_name text name token ≡ true
unfolding has_name
has_name-is text name token h e = and_from (is_kind token.kind Identifier) (bytes_eq (name_of text token) name) h ((bytes_eq-Decides (name_of text token) name).1 e)

has_name-of : (text name : List ℕ) (token : Token) → has_name text name token ≡ true → (is_kind token.kind Identifier ≡ true) × (name_of text token ≡ name)
unfolding has_name
has_name-of text name token e =
    let parts = and_parts (is_kind token.kind Identifier) (bytes_eq (name_of text token) name) e in
    (parts.0, (bytes_eq-Decides (name_of text token) name).0 parts.1)

or_none : (o : Option ℕ) → option_or o None ≡ o
or_none None = refl
or_none (Some k) = refl

-- places of names stay where the token's name has one, and where it has no name
kept : (text cs : List ℕ) (token : Token) (at : ℕ) (o : Option ℕ) (t : Bool) → has_name text cs token ≡ t → (t ≡ true → (k : ℕ) × (o ≡ Some k)) → o ≡ option_or o (if has_name text cs token then Some at else None)
kept text cs token at o true e h = let k = h refl in k.1 ∙ sym (ap (λ (o : Option ℕ). option_or o (if has_name text cs token then Some at else None)) k.1)
kept text cs token at o false e h = sym (ap (λ t. option_or o (if t then Some at else None)) e ∙ or_none o)

pub kept-nameless : (text cs : List ℕ) (token : Token) (at : ℕ) (o : Option ℕ) → is_kind token.kind Identifier ≡ false → o ≡ option_or o (if has_name text cs token then Some at else None)
kept-nameless text cs token at o e = kept text cs token at o (has_name text cs token) refl (λ h. let parts = has_name-of text cs token h in absurd (true≢false (sym parts.0 ∙ e)))

pub kept-known : (text cs name : List ℕ) (token : Token) (at first : ℕ) (old : List ℕ → Option ℕ) → name ≡ name_of text token → old name ≡ Some first → old cs ≡ option_or (old cs) (if has_name text cs token then Some at else None)
kept-known text cs name token at first old e known = kept text cs token at (old cs) (has_name text cs token) refl (λ h. let parts = has_name-of text cs token h in (first, sym (ap old (e ∙ parts.1)) ∙ known))

pub added : (text cs name : List ℕ) (token : Token) (at : ℕ) (old : List ℕ → Option ℕ) → is_kind token.kind Identifier ≡ true → name ≡ name_of text token → old name ≡ None
    → (if bytes_eq name cs then Some at else old cs) ≡ option_or (old cs) (if has_name text cs token then Some at else None)
added text cs name token at old h e absent = by (bytes_eq name cs) refl (has_name text cs token) refl
  where
    by : (t : Bool) → bytes_eq name cs ≡ t → (u : Bool) → has_name text cs token ≡ u → (if t then Some at else old cs) ≡ option_or (old cs) (if u then Some at else None)
    by true f true g = let k : old cs ≡ None = sym (ap old ((bytes_eq-Decides name cs).0 f)) ∙ absent in sym (ap (λ (o : Option ℕ). option_or o (Some at)) k)
    by true f false g = absurd (true≢false (sym (has_name-is text cs token h (sym e ∙ (bytes_eq-Decides name cs).0 f)) ∙ g))
    by false f true g = absurd (true≢false (sym ((bytes_eq-Decides name cs).1 (e ∙ (has_name-of text cs token g).1)) ∙ f))
    by false f false g = sym (or_none (old cs))

-- ---- a step of the loop
pub places_more : (text : List ℕ) (tokens : List Token) (i : ℕ) (d : Token) (old new : List ℕ → Option ℕ) → i < length tokens
    → ((cs : List ℕ) → old cs ≡ first_with text (take i tokens) cs)
    → ((cs : List ℕ) → new cs ≡ option_or (old cs) (if has_name text cs (get_or tokens i d) then Some i else None))
    → (cs : List ℕ) → new cs ≡ first_with text (take (i + 1) tokens) cs
places_more text tokens i d old new lt before step cs =
    let len : 0 + length (take i tokens) ≡ i = omega (arith, length-take-le i tokens) in
    step cs ∙ ap (λ (o : Option ℕ). option_or o (if has_name text cs (get_or tokens i d) then Some i else None)) (before cs)
    ∙ ap (λ k. option_or (first_with text (take i tokens) cs) (if has_name text cs (get_or tokens i d) then Some k else None)) (sym len)
    ∙ sym (position-push (has_name text cs) 0 (take i tokens) (get_or tokens i d))
    ∙ ap (position_from (has_name text cs) 0) (sym (take_more tokens i d lt))

-- the first place so far, where the token itself stands next, is the first place of all
first_so_far : (text : List ℕ) (tokens : List Token) (i : ℕ) (d : Token) → i < length tokens → is_kind (get_or tokens i d).kind Identifier ≡ true
    → (o : Option ℕ) → first_with text (take i tokens) (name_of text (get_or tokens i d)) ≡ o → unwrap_or o i ≡ unwrap_or (first_with text tokens (name_of text (get_or tokens i d))) i
first_so_far text tokens i d lt h (Some k) e =
    let p = has_name text (name_of text (get_or tokens i d)) in
    let whole : position_from p 0 tokens ≡ Some k = ap (position_from p 0) (sym (take-append-drop i tokens)) ∙ position-append p 0 k (take i tokens) (drop i tokens) e in
    sym (ap (λ (o : Option ℕ). unwrap_or o i) whole)
first_so_far text tokens i d lt h None e =
    let token = get_or tokens i d in
    let p = has_name text (name_of text token) in
    let len : 0 + length (take i tokens) ≡ i = omega (arith, length-take-le i tokens) in
    let passes = has_name-is text (name_of text token) token h refl in
    let whole : position_from p 0 tokens ≡ Some i =
    ap (position_from p 0) (sym (take-append-drop i tokens)) ∙ position-further p 0 (take i tokens) (drop i tokens) e
    ∙ ap (λ k. position_from p k (drop i tokens)) len ∙ ap (position_from p i) (drop_more tokens i d lt) ∙ position-here p i token (drop (i + 1) tokens) passes in
    sym (ap (λ (o : Option ℕ). unwrap_or o i) whole)

pub first_is : (text : List ℕ) (tokens : List Token) (i : ℕ) (d : Token) (old : List ℕ → Option ℕ) → i < length tokens → ((cs : List ℕ) → old cs ≡ first_with text (take i tokens) cs)
    → (if is_kind (get_or tokens i d).kind Identifier then unwrap_or (old (name_of text (get_or tokens i d))) i else i) ≡ first_name text tokens i
unfolding first_name
first_is text tokens i d old lt before =
    by (is_kind (get_or tokens i d).kind Identifier) refl ∙ ap (first_like text tokens i) (sym (slice_get-get_or tokens i d lt))
  where
    by : (t : Bool) → is_kind (get_or tokens i d).kind Identifier ≡ t → (if t then unwrap_or (old (name_of text (get_or tokens i d))) i else i) ≡ (if t then unwrap_or (first_with text tokens (name_of text (get_or tokens i d))) i else i)
    by true h = ap (λ (o : Option ℕ). unwrap_or o i) (before (name_of text (get_or tokens i d))) ∙ first_so_far text tokens i d lt h _ refl
    by false h = refl

range-push : (a n : ℕ) → range_with_len a (n + 1) ≡ range_with_len a n ++ (a + n) ∷ []
range-push a n = rw (add-one n) (range-suc a n)
  where
    range-suc : (a n : ℕ) → range_with_len a (suc n) ≡ range_with_len a n ++ (a + n) ∷ []
    range-suc a zero = let e : a ≡ a + 0 = omega arith in ap (λ x. x ∷ []) e
    range-suc a (suc n) = let e : (a + 1) + n ≡ a + suc n = omega arith in ap (λ l. a ∷ l) (range-suc (a + 1) n ∙ ap (λ x. range_with_len (a + 1) n ++ x ∷ []) e)

pub firsts_more : (f : ℕ → ℕ) (before after : List ℕ) (i first : ℕ) → before ≡ map f (range_with_len 0 i) → after ≡ before ++ first ∷ [] → first ≡ f i → after ≡ map f (range_with_len 0 (i + 1))
firsts_more f before after i first h step is =
    let e : 0 + i ≡ i = omega arith in
    step ∙ ap (λ xs. xs ++ first ∷ []) h ∙ ap (λ x. map f (range_with_len 0 i) ++ x ∷ []) (is ∙ ap f (sym e))
    ∙ sym (map-append f (range_with_len 0 i) ((0 + i) ∷ [])) ∙ ap (map f) (sym (range-push 0 i))

pub firsts_whole : (text : List ℕ) (tokens : List Token) (firsts : List ℕ) (i : ℕ) → i ≡ length tokens → firsts ≡ map (first_name text tokens) (range_with_len 0 i) → firsts ≡ first_names text tokens
unfolding first_names
firsts_whole text tokens firsts i e h = h ∙ ap (λ n. map (first_name text tokens) (range_with_len 0 n)) e

-- ---- the law
get_or-beyond : (xs : List ℕ) (i d : ℕ) → length xs ≤ i → get_or xs i d ≡ d
get_or-beyond [] i d h = refl
get_or-beyond (x ∷ xs) zero d h = absurd (omega arith)
get_or-beyond (x ∷ xs) (suc i) d h = get_or-beyond xs i d (omega arith)

slice_get-beyond : (tokens : List Token) (i : ℕ) → length tokens ≤ i → slice_get tokens i ≡ None
slice_get-beyond [] i h = refl
slice_get-beyond (t ∷ tokens) zero h = absurd (omega arith)
slice_get-beyond (t ∷ tokens) (suc i) h = slice_get-beyond tokens i (omega arith)

first_name-beyond : (text : List ℕ) (tokens : List Token) (i : ℕ) → length tokens ≤ i → first_name text tokens i ≡ i
unfolding first_name
first_name-beyond text tokens i h = ap (first_like text tokens i) (slice_get-beyond tokens i h)

pub first_names-at : (text : List ℕ) (tokens : List Token) (i : ℕ) → get_or (first_names text tokens) i i ≡ first_name text tokens i
unfolding first_names
first_names-at text tokens i = elim (cases_lt i (length tokens)) [
  | inl lt ↦ get_or-map-range_with_len (first_name text tokens) 0 (length tokens) i i i lt (omega arith)
  | inr le ↦
      get_or-beyond (map (first_name text tokens) (range_with_len 0 (length tokens))) i i (omega (arith, length-map-range_with_len (first_name text tokens) 0 (length tokens)))
      ∙ sym (first_name-beyond text tokens i le)
]

-- the first token with an identifier's name, and that it is the identifier's first token
record FirstOf (text : List ℕ) (tokens : List Token) (i : ℕ) (token : Token) : Type 0 where
  pub place : ℕ
  pub found : first_with text tokens (name_of text token) ≡ Some place
  pub is : first_name text tokens i ≡ place

first_of : (text : List ℕ) (tokens : List Token) (i : ℕ) (token : Token) → slice_get tokens i ≡ Some token → token.kind ≡ Identifier → FirstOf text tokens i token
unfolding first_name
first_of text tokens i token stands kind =
    let h = identifier_is token.kind kind in
    let some = position-some (has_name text (name_of text token)) 0 i tokens token stands (has_name-is text (name_of text token) token h refl) in
    record {
      place = some.0;
      found = some.1;
      is = ap (first_like text tokens i) stands
          ∙ ap (λ t. if t then unwrap_or (first_with text tokens (name_of text token)) i else i) h
          ∙ ap (λ (o : Option ℕ). unwrap_or o i) some.1;
    }

pub first_names_tell : (text : List ℕ) (tokens : List Token) (i j : ℕ) (a b : Token) → slice_get tokens i ≡ Some a → slice_get tokens j ≡ Some b → a.kind ≡ Identifier → b.kind ≡ Identifier
    → (first_name text tokens i ≡ first_name text tokens j) ↔ (name_of text a ≡ name_of text b)
first_names_tell text tokens i j a b at_i at_j kind_a kind_b =
    let fa = first_of text tokens i a at_i kind_a in
    let fb = first_of text tokens j b at_j kind_b in (
      λ e.
          let ga = position-is (has_name text (name_of text a)) 0 fa.place tokens fa.found in
          let gb = position-is (has_name text (name_of text b)) 0 fb.place tokens fb.found in
          let place : ga.at ≡ gb.at = omega (arith, ga.place, gb.place, fa.is, fb.is, e) in
          let same : Some ga.item ≡ Some gb.item = sym ga.stands ∙ ap (slice_get tokens) place ∙ gb.stands in
          let item : ga.item ≡ gb.item = cc in
          sym (has_name-of text (name_of text a) ga.item ga.passes).1 ∙ ap (name_of text) item ∙ (has_name-of text (name_of text b) gb.item gb.passes).1,
      λ e.
          let same : Some fa.place ≡ Some fb.place = sym fa.found ∙ ap (first_with text tokens) e ∙ fb.found in
          let place : fa.place ≡ fb.place = cc in
          fa.is ∙ place ∙ sym fb.is,
    )

slice_get-within : (tokens : List Token) (i : ℕ) (token : Token) → slice_get tokens i ≡ Some token → i < length tokens
slice_get-within [] i token e = cc
slice_get-within (t ∷ tokens) zero token e = omega arith
slice_get-within (t ∷ tokens) (suc i) token e = omega (arith, slice_get-within tokens i token e)

pub first_name-within : (text : List ℕ) (tokens : List Token) (i : ℕ) → i < length tokens → first_name text tokens i < length tokens
unfolding first_name
first_name-within text tokens i lt = by (slice_get tokens i)
  where
    first : (o : Option ℕ) (name : List ℕ) → first_with text tokens name ≡ o → unwrap_or o i < length tokens
    first None name e = lt
    first (Some k) name e =
        let found = position-is (has_name text name) 0 k tokens e in
        omega (arith, found.place, slice_get-within tokens found.at found.item found.stands)

    named : (t : Bool) (name : List ℕ) → (if t then unwrap_or (first_with text tokens name) i else i) < length tokens
    named true name = first (first_with text tokens name) name refl
    named false name = lt

    by : (o : Option Token) → first_like text tokens i o < length tokens
    by None = lt
    by (Some token) = named (is_kind token.kind Identifier) (name_of text token)
