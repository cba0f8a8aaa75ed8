-- The order of lines: by path, line, column, code and text. Paths, codes as they are written, and texts
-- are ordered by their bytes.
use Rattle.std.specs.Prelude.{ℕ, Bool, List}
use Rattle.std.specs.declared.cmp.Ordering.{Ordering}
use Rattle.std.specs.Ordering.{nat_cmp, then_cmp, on, eq_by_cmp}
use Rattle.std.specs.Cmp.Lexicographic.{slice_cmp}
use Rattle.zw_base.specs.DiagCode.{code_name}
use Rattle.diag_order.specs.declared.line.Line.{Line}

abbrev pub bytes_cmp : List ℕ → List ℕ → Ordering
bytes_cmp = slice_cmp nat_cmp

abbrev pub line_cmp : Line → Line → Ordering
line_cmp =
    then_cmp (on (λ (l : Line). l.path) bytes_cmp)
    (then_cmp (on (λ (l : Line). l.line) nat_cmp)
    (then_cmp (on (λ (l : Line). l.col) nat_cmp)
    (then_cmp (on (λ (l : Line). code_name l.code) bytes_cmp)
    (on (λ (l : Line). l.text) bytes_cmp))))

abbrev pub same_line : Line → Line → Bool
same_line = eq_by_cmp line_cmp
