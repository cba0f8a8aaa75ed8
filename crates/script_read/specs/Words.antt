-- What a command's line asks for.
use Rattle.std.specs.Prelude.{ℕ, ◌*◌, ◌+◌, ◌-◌, ◌==◌, nat_lt, nat_le, Bool, ◌||◌, ◌&&◌, if◌then◌else◌, List, [], ◌∷◌, length, slice_index, Option, None, Some, is_none, Result, Ok, Err, codes, fold}
use Rattle.std.specs.Char.{is_ascii_digit}
use Rattle.std.specs.List.{slice_split, list_all}
use lib.Pointwise.{pointwise}
use Rattle.zw_base.specs.Path.{path_fault}
use Rattle.zw_base.specs.declared.reason.Reason.TheVariants.{UnknownCommand, BadWords, BadPath, BadLength}
use Rattle.script_read.specs.declared.command.Refusal.{Refusal}
use Rattle.script_read.specs.declared.command.Refusal.TheVariants.{Bad}
use Rattle.script_read.specs.declared.command.Request.{Request}
use Rattle.script_read.specs.declared.command.Request.TheVariants as request
use Rattle.script_read.specs.declared.line.Verb.{Verb}
use Rattle.script_read.specs.declared.line.Verb.TheVariants as verb
use Rattle.script_read.specs.Answers.{◌>>=◌}

-- the words of a line, parted by each space; two spaces in a row have an empty word between them
abbrev pub words : List ℕ → List (List ℕ)
words line = slice_split (λ b. b == 32) line

-- the commands' names
abbrev pub verb_of : List ℕ → Option Verb
verb_of name =
    if pointwise ◌==◌ name (codes "file") then Some verb.File
    else if pointwise ◌==◌ name (codes "drop") then Some verb.Drop
    else if pointwise ◌==◌ name (codes "update") then Some verb.Update
    else None

-- no word after the name
abbrev pub no_word : List (List ℕ) → Result (Unit {0}) Refusal
no_word [] = Ok tt
no_word (a ∷ more) = Err (Bad BadWords)

-- one word, which isn't empty
abbrev pub one_word : List (List ℕ) → Result (List ℕ) Refusal
one_word [] = Err (Bad BadWords)
one_word (a ∷ []) = if length a == 0 then Err (Bad BadWords) else Ok a
one_word (a ∷ b ∷ more) = Err (Bad BadWords)

-- two words, neither of them empty
abbrev pub two_words : List (List ℕ) → Result (List ℕ × List ℕ) Refusal
two_words [] = Err (Bad BadWords)
two_words (a ∷ []) = Err (Bad BadWords)
two_words (a ∷ b ∷ []) = if (length a == 0) || (length b == 0) then Err (Bad BadWords) else Ok (a, b)
two_words (a ∷ b ∷ c ∷ more) = Err (Bad BadWords)

abbrev pub path_in : List ℕ → Result (List ℕ) Refusal
path_in word = if is_none (path_fault word) then Ok word else Err (Bad BadPath)

-- the number that digits write
abbrev pub number_of : List ℕ → ℕ
number_of digits = fold (λ n digit. 10 * n + (digit - 48)) 0 digits

-- 1 to 10 digits without a leading zero, or `0`
abbrev pub is_length : List ℕ → Bool
is_length word =
    nat_lt 0 (length word) && nat_le (length word) 10 && list_all is_ascii_digit word
    && (nat_lt 48 (slice_index word 0) || (length word == 1))

abbrev pub length_in : List ℕ → Result ℕ Refusal
length_in word = if is_length word then Ok (number_of word) else Err (Bad BadLength)

-- the words after a command's name: how many there are is judged first, then the path, then the length
abbrev pub request_with : Option Verb → List (List ℕ) → Result Request Refusal
request_with None args = Err (Bad UnknownCommand)
request_with (Some verb.File) args =
    two_words args >>= λ both. path_in both.0 >>= λ path. length_in both.1 >>= λ len. Ok (request.File path len)
request_with (Some verb.Drop) args = one_word args >>= λ word. path_in word >>= λ path. Ok (request.Drop path)
request_with (Some verb.Update) args = no_word args >>= λ _. Ok request.Update

abbrev pub request_in : List (List ℕ) → Result Request Refusal
request_in [] = Err (Bad UnknownCommand)
request_in (name ∷ args) = request_with (verb_of name) args

-- what a line asks for
abbrev pub request_of : List ℕ → Result Request Refusal
request_of line = request_in (words line)
