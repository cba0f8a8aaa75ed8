-- A declaration's path, read from its file on: each step is a name, a block, a container or arguments.
use Rattle.std.proofs.Common.{◌≡◌, ℕ, ◌<◌, ◌≤◌, ◌==◌, ◌||◌, Bool, true, false, List, [], ◌∷◌, ◌++◌, length, map, codes, refl, sym, ap, ◌∙◌, arith, append_assoc, length-append, true≢false}
use Rattle.std.specs.List.{AllByRecursion}
use Rattle.type_form.specs.declared.tree.DeclPath.{DeclPath}
use Rattle.type_form.specs.declared.tree.Arg.{Arg}
use Rattle.type_form.specs.declared.tree.Ty.TheVariants as ty
use Rattle.type_form.specs.declared.tree.DeclPath.TheVariants as decl
use Rattle.type_form.specs.Spelling.{number_text, name_text, commas, arg_text, is_word_byte}
use Rattle.type_form.specs.Fit.{Program, IsNumber, IsFitArg}
use Rattle.type_laws.proofs.Runs.{stops, is_digit, number_unique, heads, tails, cut}
use Rattle.type_laws.proofs.Names.{name_unique, name_comptime}
use Rattle.type_laws.proofs.Commas.{Items, AreLike, commas_unique}
use Rattle.type_laws.proofs.Ends.{Ends, ends_word, ends_digit}
use Rattle.type_laws.proofs.Ends.Ends.{nothing, comma, round, equals, brace, square}

pub data Step : Type 0 where
  OfMember : List ℕ → Step
  OfBlock : ℕ → Step
  OfInner : List ℕ → Step
  OfExpr : ℕ → Step
  OfArgs : List Arg → Step

-- where steps lead to
pub data Place : Type 0 where
  AtPath : List ℕ → Place
  AtDecl : DeclPath → Place
  AtExpr : DeclPath → ℕ → Place
  AtContainer : DeclPath → ℕ → List Arg → Place
  AtInstance : DeclPath → List Arg → Place
  Nowhere : Place

abbrev pub step_text : Step → List ℕ
step_text (OfMember name) = 58 ∷ name_text name
step_text (OfBlock n) = codes ":comptime " ++ number_text n
step_text (OfInner name) = 46 ∷ name_text name
step_text (OfExpr n) = 35 ∷ number_text n
step_text (OfArgs args) = 40 ∷ (commas (map arg_text args) ++ 41 ∷ [])

abbrev pub steps_text : List Step → List ℕ
steps_text [] = []
steps_text (s ∷ ss) = step_text s ++ steps_text ss

abbrev pub take_step : Place → Step → Place
take_step (AtPath path) (OfMember name) = AtDecl (decl.Named (ty.File path) name)
take_step (AtPath path) (OfBlock n) = AtDecl (decl.Comptime path n)
take_step (AtDecl d) (OfExpr n) = AtExpr d n
take_step (AtDecl d) (OfArgs args) = AtInstance d args
take_step (AtExpr d n) (OfInner name) = AtDecl (decl.Named (ty.Container d n []) name)
take_step (AtExpr d n) (OfArgs captures) = AtContainer d n captures
take_step (AtContainer d n captures) (OfInner name) = AtDecl (decl.Named (ty.Container d n captures) name)
take_step _ _ = Nowhere

abbrev pub take_all : Place → List Step → Place
take_all place [] = place
take_all place (s ∷ ss) = take_all (take_step place s) ss

abbrev pub step_fits : Program → Step → Type 0
step_fits p (OfBlock n) = IsNumber n
step_fits p (OfExpr n) = IsNumber n
step_fits p (OfArgs args) = AllByRecursion (IsFitArg p) args
step_fits p _ = Unit {0}

abbrev byte_of : Step → ℕ
byte_of (OfMember name) = 58
byte_of (OfBlock n) = 58
byte_of (OfInner name) = 46
byte_of (OfExpr n) = 35
byte_of (OfArgs args) = 40

abbrev rest_of : Step → List ℕ
rest_of (OfMember name) = name_text name
rest_of (OfBlock n) = codes "comptime " ++ number_text n
rest_of (OfInner name) = name_text name
rest_of (OfExpr n) = number_text n
rest_of (OfArgs args) = commas (map arg_text args) ++ 41 ∷ []

step_head : (s : Step) (x : List ℕ) → step_text s ++ x ≡ byte_of s ∷ (rest_of s ++ x)
step_head (OfMember name) x = refl
step_head (OfBlock n) x = refl
step_head (OfInner name) x = refl
step_head (OfExpr n) x = refl
step_head (OfArgs args) x = refl

-- the bytes that begin a step, which none stands for that ends a type
abbrev is_mark : List ℕ → Bool
is_mark [] = false
is_mark (c ∷ x) = (c == 58) || (c == 46) || (c == 35) || (c == 40)

ends_mark : (x : List ℕ) → Ends x → is_mark x ≡ false
ends_mark _ nothing = refl
ends_mark _ (comma r) = refl
ends_mark _ (round r) = refl
ends_mark _ (equals r) = refl
ends_mark _ (brace r) = refl
ends_mark _ (square r) = refl

step_mark : (s : Step) (x : List ℕ) → is_mark (step_text s ++ x) ≡ true
step_mark (OfMember name) x = refl
step_mark (OfBlock n) x = refl
step_mark (OfInner name) x = refl
step_mark (OfExpr n) x = refl
step_mark (OfArgs args) x = refl

word_stops : (ss : List Step) (x : List ℕ) → Ends x → stops is_word_byte (steps_text ss ++ x) ≡ true
word_stops [] x e = ends_word x e
word_stops (OfMember name ∷ ss) x e = refl
word_stops (OfBlock n ∷ ss) x e = refl
word_stops (OfInner name ∷ ss) x e = refl
word_stops (OfExpr n ∷ ss) x e = refl
word_stops (OfArgs args ∷ ss) x e = refl

digit_stops : (ss : List Step) (x : List ℕ) → Ends x → stops is_digit (steps_text ss ++ x) ≡ true
digit_stops [] x e = ends_digit x e
digit_stops (OfMember name ∷ ss) x e = refl
digit_stops (OfBlock n ∷ ss) x e = refl
digit_stops (OfInner name ∷ ss) x e = refl
digit_stops (OfExpr n ∷ ss) x e = refl
digit_stops (OfArgs args ∷ ss) x e = refl

-- no two arguments need to be alike
abbrev pub AnyTwo : Arg → Arg → Type 0
AnyTwo a b = Unit {0}

pub all_alike : (xs ys : List Arg) → AreLike AnyTwo xs ys
all_alike [] ys = tt
all_alike (a ∷ rest) [] = tt
all_alike (a ∷ rest) (b ∷ ys) = (tt, all_alike rest ys)

no_comma : ◌≡◌ {A = ℕ} 44 41 → ⊥
no_comma e = omega (arith, e)

module _ (p : Program) (n : ℕ) (items : Items arg_text (IsFitArg p) AnyTwo n 41) where
  args_unique : (xs ys : List Arg) (x y : List ℕ) → AllByRecursion (IsFitArg p) xs → AllByRecursion (IsFitArg p) ys → length (commas (map arg_text xs)) < n
      → (commas (map arg_text xs) ++ 41 ∷ []) ++ x ≡ (commas (map arg_text ys) ++ 41 ∷ []) ++ y → (xs ≡ ys) × (x ≡ y)
  args_unique xs ys x y f g h e =
      commas_unique arg_text (IsFitArg p) AnyTwo n 41 items no_comma xs ys x y f g (all_alike xs ys) h
      (sym (append_assoc (commas (map arg_text xs)) (41 ∷ []) x) ∙ e ∙ append_assoc (commas (map arg_text ys)) (41 ∷ []) y)

  step_unique : (s t : Step) (x y : List ℕ) → byte_of s ≡ byte_of t → step_fits p s → step_fits p t → length (step_text s) ≤ n
      → stops is_word_byte x ≡ true → stops is_word_byte y ≡ true → stops is_digit x ≡ true → stops is_digit y ≡ true
      → rest_of s ++ x ≡ rest_of t ++ y → (s ≡ t) × (x ≡ y)
  step_unique (OfMember a) (OfMember b) x y k f g h w v d c e = let r = name_unique a b x y w v e in (ap OfMember r.0, r.1)
  step_unique (OfMember a) (OfBlock m) x y k f g h w v d c e = absurd (name_comptime a x (number_text m ++ y) w e)
  step_unique (OfBlock m) (OfMember a) x y k f g h w v d c e = absurd (name_comptime a y (number_text m ++ x) v (sym e))
  step_unique (OfBlock m) (OfBlock l) x y k f g h w v d c e = let r = number_unique m l x y f g d c (cut (codes "comptime ") (number_text m ++ x) (number_text l ++ y) e) in (ap OfBlock r.0, r.1)
  step_unique (OfInner a) (OfInner b) x y k f g h w v d c e = let r = name_unique a b x y w v e in (ap OfInner r.0, r.1)
  step_unique (OfExpr m) (OfExpr l) x y k f g h w v d c e = let r = number_unique m l x y f g d c e in (ap OfExpr r.0, r.1)
  step_unique (OfArgs xs) (OfArgs ys) x y k f g h w v d c e = let r = args_unique xs ys x y f g (omega (arith, h, length-append (commas (map arg_text xs)) (41 ∷ []))) e in (ap OfArgs r.0, r.1)
  step_unique _ _ x y k f g h w v d c e = absurd (omega (arith, k))

  pub steps_unique : (ss ts : List Step) (x y : List ℕ) → AllByRecursion (step_fits p) ss → AllByRecursion (step_fits p) ts → length (steps_text ss) ≤ n → Ends x → Ends y
      → steps_text ss ++ x ≡ steps_text ts ++ y → (ss ≡ ts) × (x ≡ y)
  steps_unique [] [] x y f g h a b e = (refl, e)
  steps_unique [] (t ∷ ts) x y f g h a b e = absurd (true≢false (sym (step_mark t _) ∙ sym (ap is_mark (e ∙ append_assoc (step_text t) (steps_text ts) y)) ∙ ends_mark x a))
  steps_unique (s ∷ ss) [] x y f g h a b e = absurd (true≢false (sym (step_mark s _) ∙ ap is_mark (sym (append_assoc (step_text s) (steps_text ss) x) ∙ e) ∙ ends_mark y b))
  steps_unique (s ∷ ss) (t ∷ ts) x y f g h a b e =
      let size = length-append (step_text s) (steps_text ss) in
      let k = sym (step_head s (steps_text ss ++ x)) ∙ sym (append_assoc (step_text s) (steps_text ss) x) ∙ e ∙ append_assoc (step_text t) (steps_text ts) y ∙ step_head t (steps_text ts ++ y) in
      let r = step_unique s t (steps_text ss ++ x) (steps_text ts ++ y) (heads _ _ _ _ k) f.0 g.0 (omega (arith, h, size)) (word_stops ss x a) (word_stops ts y b) (digit_stops ss x a) (digit_stops ts y b) (tails _ _ _ _ k) in
      let q = steps_unique ss ts x y f.1 g.1 (omega (arith, h, size)) a b r.1 in
      let first = r.0 in
      let rest = q.0 in
      (cc, q.1)
