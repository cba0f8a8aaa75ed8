-- Which updates answered that there was no memory, by what was written.
use Rattle.std.specs.Prelude.{ℕ, ◌+◌, ◌-◌, ◌*◌, ◌==◌, ◌||◌, zero, suc, Bool, if◌then◌else◌, List, [], ◌∷◌, ◌++◌, length, fold, codes, nat_eq}
use Rattle.std.specs.Fmt.{decimal}
use Rattle.std.specs.List.{concat, list_any, slice_split, before_first, after_first, starts_with}
use Rattle.std.specs.Str.{bytes_eq}

abbrev pub is_line_end : ℕ → Bool
is_line_end b = b == 10

-- the words of the first line
abbrev pub first_words : List ℕ → List (List ℕ)
first_words text = slice_split (λ b. b == 32) (before_first is_line_end text)

-- the number that digits say
abbrev pub number_of : List ℕ → ℕ
number_of digits = fold (λ n d. 10 * n + (d - 48)) 0 digits

-- how many bytes so many lines are
abbrev pub lines_len : ℕ → List ℕ → ℕ
lines_len zero text = 0
lines_len (suc lines) [] = 0
lines_len (suc lines) (b ∷ text) = 1 + lines_len (if is_line_end b then lines else suc lines) text

-- how many bytes stand behind an answer's first line: those of a module and an LF, or the lines of diagnostics
abbrev pub body_len : List (List ℕ) → List ℕ → ℕ
body_len (update ∷ number ∷ what ∷ count ∷ counts) body =
    if bytes_eq what (codes "module") then number_of count + 1 else lines_len (number_of count) body
body_len _ body = 0

-- how many bytes the answer at the front is
abbrev pub answer_len : List ℕ → ℕ
answer_len text = length (before_first is_line_end text) + 1 + body_len (first_words text) (after_first is_line_end text)

-- the front of `update N memory` that no other answer has
abbrev pub memory_mark : ℕ → List ℕ
memory_mark number = concat (codes "update " ∷ decimal number ∷ codes " me" ∷ [])

-- the number of the update whose answer is at the front, if that is `memory`
abbrev pub marked : ℕ → List ℕ → List ℕ
marked number text = if starts_with nat_eq text (memory_mark number) then number ∷ [] else []

-- The numbers of the updates that answered memory, answer by answer from this number on; the first `skip` bytes
-- belong to an answer before. The last answer may be cut.
unfoldable pub memory_from : ℕ → ℕ → List ℕ → List ℕ
memory_from number skip [] = []
memory_from number (suc skip) (b ∷ text) = memory_from number skip text
memory_from number zero (b ∷ text) = marked number (b ∷ text) ++ memory_from (number + 1) (answer_len (b ∷ text) - 1) text

-- whether an update answered memory, by all that was written
abbrev pub memory_in : List ℕ → ℕ → Bool
memory_in written number = list_any (λ n. n == number) (memory_from 1 0 written)

-- one update more
abbrev pub with_memory : ℕ → (ℕ → Bool) → ℕ → Bool
with_memory one memory number = (number == one) || memory number
