-- Where a byte of a text stands: its line and column, counted from 1.
use Rattle.std.specs.Prelude.{ℕ, ◌+◌, Bool, not, ◌==◌, List, take, count_by}
use Rattle.std.specs.List.{suffix_len}

abbrev pub is_line_end : ℕ → Bool
is_line_end b = b == 10

-- one more than the line ends before the byte
abbrev pub line_at : List ℕ → ℕ → ℕ
line_at text offset = 1 + count_by is_line_end (take offset text)

-- one more than the bytes between the last line end before the byte and the byte
abbrev pub col_at : List ℕ → ℕ → ℕ
col_at text offset = 1 + suffix_len (λ b. not (is_line_end b)) (take offset text)
