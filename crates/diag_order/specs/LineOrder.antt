-- The order of lines is total.
use Rattle.std.specs.Cmp.{IsTotalOrder, nat_cmp_total, on_total, then_total}
use Rattle.std.specs.Cmp.Lexicographic.{nat_list_cmp_total}
use Rattle.zw_base.specs.DiagCode.{code_name}
use Rattle.diag_order.specs.declared.line.Line.{Line}
use Rattle.diag_order.specs.Order.{line_cmp}

pub line_cmp_total : IsTotalOrder line_cmp
line_cmp_total =
    then_total (on_total (λ (l : Line). l.path) nat_list_cmp_total)
    (then_total (on_total (λ (l : Line). l.line) nat_cmp_total)
    (then_total (on_total (λ (l : Line). l.col) nat_cmp_total)
    (then_total (on_total (λ (l : Line). code_name l.code) nat_list_cmp_total)
    (on_total (λ (l : Line). l.text) nat_list_cmp_total))))
