-- What a whole line asks for, or the first cause in its words.
use Rattle.std.proofs.Common.{◌≡◌, ◌≢◌, ℕ, ◌^◌, ◌<◌, ◌==◌, Bool, true, false, ◌||◌, List, [], ◌∷◌, length, Option, None, Some, is_none, Result, Ok, Err, refl, sym, ◌∙◌, ap, inl, inr, arith, if◌then◌else◌}
use Rattle.std.proofs.lemmas.Bool.{eqb-true}
use Rattle.std.proofs.lemmas.Bool.Decides.{nat_tests}
use Rattle.std.specs.List.{AllByRecursion}
use Rattle.std.specs.Fmt.{decimal}
use Rattle.zw_base.specs.Path.{path_fault}
use Rattle.zw_base.specs.declared.reason.Reason.TheVariants.{BadWords, BadPath, BadLength}
use Rattle.script_read.specs.declared.command.Refusal.{Refusal}
use Rattle.script_read.specs.declared.command.Refusal.TheVariants.{Bad}
use Rattle.script_read.specs.declared.command.Request.{Request}
use Rattle.script_read.specs.declared.command.Request.TheVariants as request
use Rattle.script_read.specs.declared.line.Verb.{Verb}
use Rattle.script_read.specs.declared.line.Verb.TheVariants as verb
use Rattle.script_read.specs.Answers.{◌>>=◌}
use Rattle.script_read.specs.Words.{words, verb_of, path_in, number_of, is_length, length_in, request_with, request_in, request_of}
use Rattle.script_read.specs.Grammar.{Field, APath, ALength, Says, name_of, fields_of, Calls, HasNoSpace, IsWord, spaced, HasWords, Fails, line_for, IsProper, Asks}
use Rattle.script_read.specs.Causes.{Cause, NoCommand, WrongWords, WrongPath, WrongLength, IsUnknown, HasWrongWords, HasWrong}
use Rattle.script_read.proofs.Splits.{split_spaced, spaced_words, no_space_in, first_word, name_has_no_space, verb_by_name, one_verb, verb_named, calls_words, words_call, has_words}
use Rattle.script_read.proofs.Fields.{path_is_word, no_fault, numeral_is_length, numeral_value, numeral_is_word, length_says, no_length}
use Rattle.script_read.proofs.Firsts.{Stage}

-- the causes in a line's words, as properties of the line
abbrev pub LineStands : List ℕ → Cause → Type 0
LineStands line NoCommand = IsUnknown line
LineStands line WrongWords = HasWrongWords line
LineStands line WrongPath = HasWrong APath line
LineStands line WrongLength = HasWrong ALength line
LineStands line _ = ⊥

abbrev pub word_causes : List Cause
word_causes = NoCommand ∷ WrongWords ∷ WrongPath ∷ WrongLength ∷ []

abbrev LineStage : List ℕ → Result Request Refusal → Type 0
LineStage line r = Stage (LineStands line) word_causes (Asks line) r

-- ---- a line that begins with a command's name

called : (v : Verb) (line : List ℕ) (args : List (List ℕ)) → words line ≡ name_of v ∷ args → IsUnknown line → ⊥
called v line args e unknown = unknown v (words_call v args line e)

has_count : (v w : Verb) (line : List ℕ) (args args' : List (List ℕ)) → words line ≡ name_of v ∷ args → HasWords w args' line → (v ≡ w) × (args ≡ args')
has_count v w line args args' e h =
    let f : words line ≡ name_of w ∷ args' = has_words w args' line h in
    let names : name_of v ≡ name_of w = cc in
    (one_verb v w names, cc)

calls_once : (v w : Verb) (line : List ℕ) (args : List (List ℕ)) → words line ≡ name_of v ∷ args → Calls w line → v ≡ w
calls_once v w line args e h =
    let more = calls_words w line h in
    let f : words line ≡ name_of w ∷ more.0 = more.1 in
    let names : name_of v ≡ name_of w = cc in
    one_verb v w names

-- its words are not those that the command takes
wrong_words : (v : Verb) (line : List ℕ) (args : List (List ℕ)) → words line ≡ name_of v ∷ args → (length args ≡ length (fields_of v) → AllByRecursion IsWord args → ⊥) → LineStage line (Err (Bad BadWords))
wrong_words v line args e none = (
  WrongWords,
  refl,
  record {
    before = NoCommand ∷ [];
    after = WrongPath ∷ WrongLength ∷ [];
    in_order = refl;
    here = (v, words_call v args line e, λ args' h. let same = has_count v v line args args' e h in none (rw same.1 h.count) (rw same.1 h.each));
    none_before = (called v line args e, tt);
  },
)

right_words : (v : Verb) (line : List ℕ) (args : List (List ℕ)) → HasWords v args line → HasWrongWords line → ⊥
right_words v line args h (w, call, none) =
    let same : v ≡ w = calls_once v w line args (has_words v args line h) call in
    none args (rw (← same) h)

fails_there : (field : Field) (v : Verb) (line : List ℕ) (args : List (List ℕ)) → HasWords v args line → HasWrong field line → Fails field (fields_of v) args
fails_there field v line args h (w, args', h', fails) =
    let same = has_count v w line args args' (has_words v args line h) h' in
    rw (same.0, same.1) fails

wrong_path : (v : Verb) (line : List ℕ) (args : List (List ℕ)) → HasWords v args line → Fails APath (fields_of v) args → LineStage line (Err (Bad BadPath))
wrong_path v line args h fails = (
  WrongPath,
  refl,
  record {
    before = NoCommand ∷ WrongWords ∷ [];
    after = WrongLength ∷ [];
    in_order = refl;
    here = (v, args, h, fails);
    none_before = (called v line args (has_words v args line h), (right_words v line args h, tt));
  },
)

wrong_length : (v : Verb) (line : List ℕ) (args : List (List ℕ)) → HasWords v args line → (Fails APath (fields_of v) args → ⊥) → Fails ALength (fields_of v) args → LineStage line (Err (Bad BadLength))
wrong_length v line args h paths fails = (
  WrongLength,
  refl,
  record {
    before = NoCommand ∷ WrongWords ∷ WrongPath ∷ [];
    after = [];
    in_order = refl;
    here = (v, args, h, fails);
    none_before = (called v line args (has_words v args line h), (right_words v line args h, (λ wrong. paths (fails_there APath v line args h wrong), tt)));
  },
)

asked_well : (v : Verb) (line : List ℕ) (args : List (List ℕ)) (asked : Request) → HasWords v args line → (Fails APath (fields_of v) args → ⊥) → (Fails ALength (fields_of v) args → ⊥) → Asks line asked → LineStage line (Ok asked)
asked_well v line args asked h paths lengths asks = (
  asks,
  (
    called v line args (has_words v args line h),
    (
      right_words v line args h,
      (λ wrong. paths (fails_there APath v line args h wrong), (λ wrong. lengths (fails_there ALength v line args h wrong), tt)),
    ),
  ),
)

-- ---- command by command

line_of_words : (line : List ℕ) (ws : List (List ℕ)) → words line ≡ ws → line ≡ spaced ws
line_of_words line ws e = sym (spaced_words line) ∙ ap spaced e

is_word : (word : List ℕ) → (length word == 0) ≡ false → HasNoSpace word → IsWord word
is_word [] e h = cc
is_word (b ∷ word) e h = (λ is. cc, h)

empty_word : (word : List ℕ) → (length word == 0) ≡ true → IsWord word → ⊥
empty_word [] e h = h.0 refl
empty_word (b ∷ word) e h = let none : length (b ∷ word) ≡ 0 = eqb-true _ _ e in omega (arith, none)

path_not : (word : List ℕ) → is_none (path_fault word) ≡ false → Says APath word → ⊥
path_not word e says = let yes : is_none (path_fault word) ≡ true = rw says refl in cc

path_says : (word : List ℕ) → is_none (path_fault word) ≡ true → Says APath word
path_says word e = no_fault _ e

file_length : (line a b : List ℕ) → words line ≡ name_of verb.File ∷ a ∷ b ∷ [] → HasWords verb.File (a ∷ b ∷ []) line → Says APath a → (q : Bool) → is_length b ≡ q →
    LineStage line ((if q then Ok (number_of b) else Err (Bad BadLength)) >>= λ len. Ok (request.File a len))
file_length line a b e h path true q =
    let says = length_says b q in
    asked_well verb.File line (a ∷ b ∷ []) (request.File a (number_of b)) h
    (λ fails. elim fails [ inl f ↦ f.1 path | inr f ↦ elim f [ inl g ↦ cc | inr g ↦ g ] ])
    (λ fails. elim fails [ inl f ↦ cc | inr f ↦ elim f [ inl g ↦ g.1 (number_of b, says.0, says.1) | inr g ↦ g ] ])
    (record { line_is = line_of_words line _ e ∙ ap (λ w. spaced (name_of verb.File ∷ a ∷ w ∷ [])) says.1; proper = (path, says.0) })
file_length line a b e h path false q =
    wrong_length verb.File line (a ∷ b ∷ []) h
    (λ fails. elim fails [ inl f ↦ f.1 path | inr f ↦ elim f [ inl g ↦ cc | inr g ↦ g ] ])
    (inr (inl (refl, no_length b q)))

file_path : (line a b : List ℕ) → words line ≡ name_of verb.File ∷ a ∷ b ∷ [] → HasWords verb.File (a ∷ b ∷ []) line → (p : Bool) → is_none (path_fault a) ≡ p →
    LineStage line ((if p then Ok a else Err (Bad BadPath)) >>= λ path. length_in b >>= λ len. Ok (request.File path len))
file_path line a b e h true p = file_length line a b e h (path_says a p) (is_length b) refl
file_path line a b e h false p = wrong_path verb.File line (a ∷ b ∷ []) h (inl (refl, path_not a p))

abbrev two_by : Bool → List ℕ → List ℕ → Result (List ℕ × List ℕ) Refusal
two_by bad a b = if bad then Err (Bad BadWords) else Ok (a, b)

file_words : (line a b : List ℕ) → words line ≡ name_of verb.File ∷ a ∷ b ∷ [] → (x y : Bool) → (length a == 0) ≡ x → (length b == 0) ≡ y →
    LineStage line (two_by (x || y) a b >>= λ both. path_in both.0 >>= λ path. length_in both.1 >>= λ len. Ok (request.File path len))
file_words line a b e true y f g = wrong_words verb.File line (a ∷ b ∷ []) e (λ count each. empty_word a f each.0)
file_words line a b e false true f g = wrong_words verb.File line (a ∷ b ∷ []) e (λ count each. empty_word b g each.1.0)
file_words line a b e false false f g =
    let plain = rw e at (no_space_in line) in
    file_path line a b e (record { line_is = line_of_words line _ e; count = refl; each = (is_word a f plain.1.0, (is_word b g plain.1.1.0, tt)) }) (is_none (path_fault a)) refl

drop_path : (line a : List ℕ) → words line ≡ name_of verb.Drop ∷ a ∷ [] → HasWords verb.Drop (a ∷ []) line → (p : Bool) → is_none (path_fault a) ≡ p →
    LineStage line ((if p then Ok a else Err (Bad BadPath)) >>= λ path. Ok (request.Drop path))
drop_path line a e h true p =
    asked_well verb.Drop line (a ∷ []) (request.Drop a) h
    (λ fails. elim fails [ inl f ↦ f.1 (path_says a p) | inr f ↦ f ])
    (λ fails. elim fails [ inl f ↦ cc | inr f ↦ f ])
    (record { line_is = line_of_words line _ e; proper = path_says a p })
drop_path line a e h false p = wrong_path verb.Drop line (a ∷ []) h (inl (refl, path_not a p))

drop_word : (line a : List ℕ) → words line ≡ name_of verb.Drop ∷ a ∷ [] → (x : Bool) → (length a == 0) ≡ x →
    LineStage line ((if x then Err (Bad BadWords) else Ok a) >>= λ word. path_in word >>= λ path. Ok (request.Drop path))
drop_word line a e true f = wrong_words verb.Drop line (a ∷ []) e (λ count each. empty_word a f each.0)
drop_word line a e false f =
    let plain = rw e at (no_space_in line) in
    drop_path line a e (record { line_is = line_of_words line _ e; count = refl; each = (is_word a f plain.1.0, tt) }) (is_none (path_fault a)) refl

verb_line : (line : List ℕ) (v : Verb) (args : List (List ℕ)) → words line ≡ name_of v ∷ args → LineStage line (request_with (Some v) args)
verb_line line verb.File [] e = wrong_words verb.File line [] e (λ count each. omega (arith, count))
verb_line line verb.File (a ∷ []) e = wrong_words verb.File line (a ∷ []) e (λ count each. omega (arith, count))
verb_line line verb.File (a ∷ b ∷ []) e = file_words line a b e (length a == 0) (length b == 0) refl refl
verb_line line verb.File (a ∷ b ∷ c ∷ more) e = wrong_words verb.File line (a ∷ b ∷ c ∷ more) e (λ count each. omega (arith, count))
verb_line line verb.Drop [] e = wrong_words verb.Drop line [] e (λ count each. omega (arith, count))
verb_line line verb.Drop (a ∷ []) e = drop_word line a e (length a == 0) refl
verb_line line verb.Drop (a ∷ b ∷ more) e = wrong_words verb.Drop line (a ∷ b ∷ more) e (λ count each. omega (arith, count))
verb_line line verb.Update [] e =
    asked_well verb.Update line [] request.Update (record { line_is = line_of_words line _ e; count = refl; each = tt }) (λ fails. fails) (λ fails. fails)
    (record { line_is = line_of_words line _ e; proper = tt })
verb_line line verb.Update (a ∷ more) e = wrong_words verb.Update line (a ∷ more) e (λ count each. omega (arith, count))

no_verb : (line name : List ℕ) (args : List (List ℕ)) → words line ≡ name ∷ args → verb_of name ≡ None → IsUnknown line
no_verb line name args e none v call =
    let more = calls_words v line call in
    let f : words line ≡ name_of v ∷ more.0 = more.1 in
    let names : name ≡ name_of v = cc in
    let some : verb_of name ≡ Some v = ap verb_of names ∙ verb_by_name v in
    cc

named_line : (line name : List ℕ) (args : List (List ℕ)) (found : Option Verb) → words line ≡ name ∷ args → verb_of name ≡ found → LineStage line (request_with found args)
named_line line name args None e f = (
  NoCommand,
  refl,
  record {
    before = [];
    after = WrongWords ∷ WrongPath ∷ WrongLength ∷ [];
    in_order = refl;
    here = no_verb line name args e f;
    none_before = tt;
  },
)
named_line line name args (Some v) e f = verb_line line v args (e ∙ ap (λ n. n ∷ args) (verb_named name v f))

words_line : (line : List ℕ) (ws : List (List ℕ)) → words line ≡ ws → LineStage line (request_in ws)
words_line line [] e = let first = first_word line in let f : words line ≡ first.0 ∷ first.1 = first.2 in cc
words_line line (name ∷ args) e = named_line line name args (verb_of name) e refl

pub line_stage : (line : List ℕ) → LineStage line (request_of line)
line_stage line = words_line line (words line) refl

-- ---- what a line asks for is one thing

not_empty : (word : List ℕ) → word ≢ [] → (length word == 0) ≡ false
not_empty [] h = absurd (h refl)
not_empty (b ∷ word) h = grind (arith, nat_tests)

file_again : (path : List ℕ) (len : ℕ) → path_fault path ≡ None → len < 10 ^ 10 → request_of (line_for (request.File path len)) ≡ Ok (request.File path len)
file_again path len fits small =
    let p = path_is_word path fits in
    let n = numeral_is_word len small in
    let parted : words (line_for (request.File path len)) ≡ name_of verb.File ∷ path ∷ decimal len ∷ [] =
    split_spaced (name_of verb.File) (path ∷ decimal len ∷ []) (name_has_no_space verb.File, (p.1, (n.1, tt))) in
    ap request_in parted ∙ rw (not_empty path p.0, not_empty (decimal len) n.0, fits, numeral_is_length len small, numeral_value len small) refl

drop_again : (path : List ℕ) → path_fault path ≡ None → request_of (line_for (request.Drop path)) ≡ Ok (request.Drop path)
drop_again path fits =
    let p = path_is_word path fits in
    let parted : words (line_for (request.Drop path)) ≡ name_of verb.Drop ∷ path ∷ [] = split_spaced (name_of verb.Drop) (path ∷ []) (name_has_no_space verb.Drop, (p.1, tt)) in
    ap request_in parted ∙ rw (not_empty path p.0, fits) refl

asked_again : (asked : Request) → IsProper asked → request_of (line_for asked) ≡ Ok asked
asked_again (request.File path len) h = file_again path len h.0 h.1
asked_again (request.Drop path) h = drop_again path h
asked_again request.Update h = refl

pub asks_gives : (line : List ℕ) (asked : Request) → Asks line asked → request_of line ≡ Ok asked
asks_gives line asked h = rw h.line_is (asked_again asked h.proper)

pub asks_once : (line : List ℕ) (a b : Request) → Asks line a → Asks line b → a ≡ b
asks_once line a b h g =
    let e : request_of line ≡ Ok a = asks_gives line a h in
    let f : request_of line ≡ Ok b = asks_gives line b g in
    cc
