-- The line at the front of a script.
use Rattle.std.specs.Prelude.{◌≡◌, ℕ, ◌+◌, ◌==◌, nat_lt, Bool, false, if◌then◌else◌, List, ◌∷◌, ◌++◌, length, take, Result, Ok, Err, count_by}
use Rattle.std.specs.List.{list_any, before_first, after_first}
use Rattle.zw_base.specs.declared.reason.Reason.TheVariants.{LineTooLong, CutShort}
use Rattle.script_read.specs.declared.command.Refusal.{Refusal}
use Rattle.script_read.specs.declared.command.Refusal.TheVariants.{End, Bad}

-- LF
abbrev pub is_line_end : ℕ → Bool
is_line_end b = b == 10

-- none of the bytes is LF
abbrev pub HasNoEnd : List ℕ → Type 0
HasNoEnd bytes = list_any is_line_end bytes ≡ false

-- bytes that begin with a whole line: the line has no LF, and an LF stands after it
pub record IsParted (bytes line rest : List ℕ) : Type 0 where
  pub whole : bytes ≡ line ++ 10 ∷ rest
  pub none : HasNoEnd line

-- how many LF bytes there are
abbrev pub line_ends : List ℕ → ℕ
line_ends bytes = count_by is_line_end bytes

-- The bytes before the first LF, at most `most`, and the bytes after it. Where no LF comes in time, either the byte
-- after the longest line is there, or the input ends; it ends well where there is no byte at all.
abbrev pub line_at : ℕ → List ℕ → Result (List ℕ × List ℕ) Refusal
line_at most bytes =
    if list_any is_line_end (take (most + 1) bytes) then Ok (before_first is_line_end bytes, after_first is_line_end bytes)
    else if nat_lt most (length bytes) then Err (Bad LineTooLong)
    else if length bytes == 0 then Err End
    else Err (Bad CutShort)
