-- What may stand behind a type or a value, and what behind a run of bytes.
use Rattle.std.proofs.Common.{◌≡◌, ℕ, not, Bool, true, false, if◌then◌else◌, List, [], ◌∷◌, ◌++◌, refl, ap, ◌∙◌}
use Rattle.std.specs.List.{list_all}
use Rattle.zw_base.specs.Path.{is_path_byte}
use Rattle.type_form.specs.Spelling.{is_word_byte}
use Rattle.type_laws.proofs.Runs.{stops, is_digit, and_left, and_right}
use Rattle.type_laws.proofs.Commas.{Goes}
use Rattle.type_laws.proofs.Commas.Goes.{more, done}

-- the end, a comma, or a byte that closes or opens something else
pub data Ends : List ℕ → Type 0 where
  nothing : Ends []
  comma : (r : List ℕ) → Ends (44 ∷ r)
  round : (r : List ℕ) → Ends (41 ∷ r)
  equals : (r : List ℕ) → Ends (61 ∷ r)
  brace : (r : List ℕ) → Ends (125 ∷ r)
  square : (r : List ℕ) → Ends (91 ∷ r)

pub ends_path : (x : List ℕ) → Ends x → stops is_path_byte x ≡ true
ends_path _ nothing = refl
ends_path _ (comma r) = refl
ends_path _ (round r) = refl
ends_path _ (equals r) = refl
ends_path _ (brace r) = refl
ends_path _ (square r) = refl

pub ends_digit : (x : List ℕ) → Ends x → stops is_digit x ≡ true
ends_digit _ nothing = refl
ends_digit _ (comma r) = refl
ends_digit _ (round r) = refl
ends_digit _ (equals r) = refl
ends_digit _ (brace r) = refl
ends_digit _ (square r) = refl

pub ends_word : (x : List ℕ) → Ends x → stops is_word_byte x ≡ true
ends_word _ nothing = refl
ends_word _ (comma r) = refl
ends_word _ (round r) = refl
ends_word _ (equals r) = refl
ends_word _ (brace r) = refl
ends_word _ (square r) = refl

-- a list that goes on, or is closed by `)` or `}`
pub goes_round : (x : List ℕ) → Goes 41 x → Ends x
goes_round _ (more r) = comma r
goes_round _ (done r) = round r

pub goes_brace : (x : List ℕ) → Goes 125 x → Ends x
goes_brace _ (more r) = comma r
goes_brace _ (done r) = brace r

-- the run of bytes that a text begins with, and what stands behind
pub record Run : Type 0 where
  pub front : List ℕ
  pub rest : List ℕ

abbrev pub before : ℕ → Run → Run
before c r = record { front = c ∷ r.front; rest = r.rest }

abbrev pub run : (ℕ → Bool) → List ℕ → Run
run p [] = record { front = []; rest = [] }
run p (c ∷ cs) = if p c then before c (run p cs) else record { front = []; rest = c ∷ cs }

run_stops : (p : ℕ → Bool) (x : List ℕ) → stops p x ≡ true → run p x ≡ record { front = []; rest = x }
run_stops p [] s = refl
run_stops p (c ∷ cs) s = by (p c) refl s
  where
    by : (t : Bool) → p c ≡ t → not t ≡ true → (if t then before c (run p cs) else record { front = []; rest = c ∷ cs }) ≡ record { front = []; rest = c ∷ cs }
    by true e f = cc
    by false e f = refl

pub run_of : (p : ℕ → Bool) (w x : List ℕ) → list_all p w ≡ true → stops p x ≡ true → run p (w ++ x) ≡ record { front = w; rest = x }
run_of p [] x a s = run_stops p x s
run_of p (c ∷ w) x a s =
    ap (λ t. if t then before c (run p (w ++ x)) else record { front = []; rest = c ∷ (w ++ x) }) (and_left (p c) (list_all p w) a)
    ∙ ap (before c) (run_of p w x (and_right (p c) (list_all p w) a) s)
