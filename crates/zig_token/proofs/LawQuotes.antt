-- Strings and character literals: what the functions on lists answer is what the relation says.
use Rattle.std.proofs.Common.{◌≡◌, ◌≢◌, ℕ, ◌+◌, ◌<◌, ◌≤◌, true, false, not, List, length, get_or, drop, Ok, Err, refl, sym, ap, ◌∙◌, ◌⊎◌, inl, inr, arith, eqb, ◌&&◌}
use Rattle.std.proofs.lemmas.Bool.{cases_Bool, cases_lt, cases_eq, and_parts, ne_eqb, eqb-false, not-true}
use Rattle.zig_tree.specs.TokenBytes.{is_within, char_len, ends_line}
use Rattle.zig_token.specs.Answer.{lex_fault}
use Rattle.zig_tree.specs.Tokens as rel
use Rattle.zig_tree.specs.Tokens.{Fault, bad_byte, bad_escape, open_string, bad_number, Run, IsChar, IsWrong, IsEscape, Breaks, IsItem, IsString, string, Misfit, StringFault, IsCharItem, IsLiteral, CharMisfit, LiteralFault}
use Rattle.zig_token.specs.declared.fault.LexFault.{LexFault}
use Rattle.zig_token.specs.declared.fault.LexFault.TheVariants.{BadByte, BadEscape, OpenString, BadNumber}
use Rattle.zig_token.specs.Scan.{misfit, item_end, quoted_from, quoted_end, char_misfit, char_escape_misfit, char_item_end, char_end}
use Rattle.zig_token.proofs.Skips.{within_text}
use Rattle.zig_token.proofs.Quotes.{quoted_ends, quoted_wrong, quoted_further, quoted_done}
use Rattle.zig_token.proofs.Runs.{run_passes, run_rises, run_stops}
use Rattle.zig_token.proofs.LawChars.{char_unended, char_rises, within_unended, end_no_char, quote_char, slash_char, LineStop, ends, wrong, char_or_stop}
use Rattle.zig_token.proofs.LawEscapes.{escape_read, break_read, escape_outcome, escape_rises}

misfit_is : (text : List ℕ) (q s w : ℕ) (fault : Fault) → Misfit text q s w fault → misfit text q s w ≡ lex_fault fault
unfolding misfit
misfit_is text q s w fault (rel.open_quote e) = rw e refl
misfit_is text q s w fault (rel.wrong_byte wrong_here) = rw (wrong_here.0, wrong_here.1) refl
misfit_is text q s w fault (rel.wrong_escape e some) = let z : eqb (char_len text w) 0 ≡ false = ne_eqb _ 0 (λ z. omega arith) in rw (e, z) refl

misfit_some : (text : List ℕ) (q s w : ℕ) → (fault : Fault) × Misfit text q s w fault
misfit_some text q s w =
    elim (cases_Bool (ends_line text w)) [
      | inl e ↦ (open_string q, rel.open_quote e)
      | inr e ↦ elim (cases_lt 0 (char_len text w)) [ inl some ↦ (bad_escape s, rel.wrong_escape e some) | inr none ↦ (bad_byte w, rel.wrong_byte (e, omega arith)) ]
    ]

-- ---- strings
item_rises : (text : List ℕ) (a b : ℕ) → IsItem text a b → (a < b) × (b ≤ length text)
item_rises text a b (rel.char q s c) = char_rises text a b c
item_rises text a b (rel.escape e) = escape_rises text a b e

slash_of : (text : List ℕ) (a b : ℕ) → IsEscape text a b → get_or text a 0 ≡ 92
slash_of text a b (rel.letter slash h e) = slash
slash_of text a b (rel.pair slash x h k e) = slash
slash_of text a b (rel.code slash u brace d le closes e) = slash

slash_of_break : (text : List ℕ) (a w : ℕ) → Breaks text a w → get_or text a 0 ≡ 92
slash_of_break text a w (rel.no_letter slash h x u e) = slash
slash_of_break text a w (rel.no_pair slash x h e) = slash
slash_of_break text a w (rel.half_pair slash x h k e) = slash
slash_of_break text a w (rel.no_brace slash u b e) = slash
slash_of_break text a w (rel.too_large slash u brace d le h big) = slash
slash_of_break text a w (rel.no_close slash u brace d le h open_here) = slash

item_read : (text : List ℕ) (q a b : ℕ) → IsItem text a b → item_end text q a ≡ Ok b
unfolding item_end
item_read text q a b (rel.char quote slash (rel.char some e)) =
    let z : eqb (char_len text a) 0 ≡ false = ne_eqb _ 0 (λ z. omega arith) in
    rw (ne_eqb _ 92 slash, char_unended text a some, z, e) refl
item_read text q a b (rel.escape e) = rw (slash_of text a b e, escape_read text a b e) refl

item_no_quote : (text : List ℕ) (a b : ℕ) → IsItem text a b → get_or text a 0 ≢ 34
item_no_quote text a b (rel.char quote slash c) = quote
item_no_quote text a b (rel.escape e) = λ h. omega (arith, slash_of text a b e)

quoted_passes : (text : List ℕ) (q a b : ℕ) → IsItem text a b → quoted_from text q a 0 (drop a text) ≡ quoted_from text q b 0 (drop b text)
quoted_passes text q a b item =
    let r = item_rises text a b item in
    quoted_further text q a (omega (arith, r.0, r.1)) b (item_no_quote text a b item) (item_read text q a b item) r.0 r.1

quoted_to : (text : List ℕ) (q m : ℕ) → Run (IsItem text) (q + 1) m → quoted_end text q ≡ quoted_from text q m 0 (drop m text)
unfolding quoted_end
quoted_to text q m run = run_passes (λ n. quoted_from text q n 0 (drop n text)) (quoted_passes text q) run

pub string_read : (text : List ℕ) (q b : ℕ) → IsString text q b → quoted_end text q ≡ Ok b
string_read text q b (string {m = m} opened run closed e) =
    quoted_to text q m run ∙ quoted_ends text q m (within_text text m (omega arith)) closed ∙ ap (λ n. Ok n) (sym e)

-- where no character stands, the byte is no quote and no backslash
no_quote : (text : List ℕ) (m : ℕ) → char_len text m ≡ 0 → get_or text m 0 ≢ 34
no_quote text m z = λ e. omega (arith, quote_char text m e)

no_slash : (text : List ℕ) (m : ℕ) → char_len text m ≡ 0 → get_or text m 0 ≢ 92
no_slash text m z = λ e. omega (arith, slash_char text m e)

item_ended : (text : List ℕ) (q m : ℕ) → ends_line text m ≡ true → item_end text q m ≡ Err (OpenString q)
unfolding item_end
item_ended text q m e = rw (ne_eqb _ 92 (no_slash text m (end_no_char text m e)), e) refl

item_wrong : (text : List ℕ) (q m : ℕ) → IsWrong text m → item_end text q m ≡ Err (BadByte m)
unfolding item_end
item_wrong text q m wrong_here = rw (ne_eqb _ 92 (no_slash text m wrong_here.1), wrong_here.0, wrong_here.1) refl

item_broken : (text : List ℕ) (q m w : ℕ) → Breaks text m w → item_end text q m ≡ Err (misfit text q m w)
unfolding item_end
item_broken text q m w breaks = rw (slash_of_break text m w breaks, break_read text m w breaks) refl

pub string_fault_read : (text : List ℕ) (q : ℕ) (fault : Fault) → StringFault text q fault → quoted_end text q ≡ Err (lex_fault fault)
string_fault_read text q fault (rel.unclosed {m = m} run e) =
    quoted_to text q m run ∙
    elim (cases_lt m (length text)) as (λ _. quoted_from text q m 0 (drop m text) ≡ Err (OpenString q)) [
      | inl lt ↦ quoted_wrong text q m lt (OpenString q) (no_quote text m (end_no_char text m e)) (item_ended text q m e)
      | inr past ↦ quoted_done text q m past
    ]
string_fault_read text q fault (rel.wrong_byte {m = m} run wrong_here) =
    quoted_to text q m run ∙ quoted_wrong text q m (within_unended text m wrong_here.0) (BadByte m) (no_quote text m wrong_here.1) (item_wrong text q m wrong_here)
string_fault_read text q fault (rel.wrong_escape {m = m} {w = w} run breaks mis) =
    let slash = slash_of_break text m w breaks in
    quoted_to text q m run ∙ quoted_wrong text q m (within_text text m (omega arith)) (misfit text q m w) (λ e. omega arith) (item_broken text q m w breaks) ∙ ap (λ f. Err f) (misfit_is text q m w fault mis)

-- what stops a string
data StringStop (text : List ℕ) (m : ℕ) : Type 0 where
  closed : get_or text m 0 ≡ 34 → StringStop text m
  stopped : LineStop text m → StringStop text m
  broken : (w : ℕ) → Breaks text m w → StringStop text m

item_or_stop : (text : List ℕ) (a : ℕ) → ((b : ℕ) × IsItem text a b × (a < b) × (b ≤ length text)) ⊎ StringStop text a
item_or_stop text a =
    elim (cases_eq (get_or text a 0) 34) [
      | inl quote ↦ inr (closed quote)
      | inr inside ↦ elim (cases_eq (get_or text a 0) 92) [
        | inl slash ↦ elim (escape_outcome text a slash) [
          | inl found ↦ let r = escape_rises text a found.0 found.1 in inl (found.0, rel.escape found.1, r.0, r.1)
          | inr found ↦ inr (broken found.0 found.1)
        ]
        | inr plain ↦ elim (char_or_stop text a) [
          | inl found ↦ inl (found.0, rel.char inside plain found.1, found.2, found.3)
          | inr stop ↦ inr (stopped stop)
        ]
      ]
    ]

pub string_outcome : (text : List ℕ) (q : ℕ) → get_or text q 0 ≡ 34 → ((b : ℕ) × IsString text q b) ⊎ ((fault : Fault) × StringFault text q fault)
string_outcome text q opened =
    let lt = within_text text q (omega arith) in
    let found = run_stops (length text) (λ a _. item_or_stop text a) (q + 1) (omega arith) in
    by_stop found.0 found.1 found.3
  where
    by_stop : (m : ℕ) → Run (IsItem text) (q + 1) m → StringStop text m → ((b : ℕ) × IsString text q b) ⊎ ((fault : Fault) × StringFault text q fault)
    by_stop m run (closed quote) = inl (m + 1, string opened run quote refl)
    by_stop m run (stopped (ends e)) = inr (open_string q, rel.unclosed run e)
    by_stop m run (stopped (wrong wrong_here)) = inr (bad_byte m, rel.wrong_byte run wrong_here)
    by_stop m run (broken w breaks) = let f = misfit_some text q m w in inr (f.0, rel.wrong_escape run breaks f.1)

pub string_rises : (text : List ℕ) (q b : ℕ) → IsString text q b → (q < b) × (b ≤ length text)
string_rises text q b (string {m = m} opened run quote e) =
    (omega (arith, run_rises (λ x y i. (item_rises text x y i).0) run), omega (arith, within_text text m (omega arith)))

-- ---- character literals
item_after : (text : List ℕ) (q m : ℕ) → IsCharItem text (q + 1) m → q < m
item_after text q m (rel.byte printable quote slash e) = omega arith
item_after text q m (rel.escape e) = omega (arith, escape_rises text (q + 1) m e)

char_misfit_is : (text : List ℕ) (q w : ℕ) (fault : Fault) → CharMisfit text q w fault → char_misfit text q w ≡ lex_fault fault
unfolding char_misfit
char_misfit_is text q w fault (rel.open_quote e) = rw e refl
char_misfit_is text q w fault (rel.wrong_byte e) = rw e refl

char_misfit_some : (text : List ℕ) (q w : ℕ) → (fault : Fault) × CharMisfit text q w fault
char_misfit_some text q w =
    elim (cases_Bool (ends_line text w)) [ inl e ↦ (open_string q, rel.open_quote e) | inr e ↦ (bad_byte w, rel.wrong_byte e) ]

char_item_read : (text : List ℕ) (q m : ℕ) → IsCharItem text (q + 1) m → char_item_end text q ≡ Ok m
unfolding char_item_end
char_item_read text q m (rel.byte printable quote slash e) =
    let e' : q + 2 ≡ m = omega arith in
    rw (ne_eqb _ 92 slash, printable, ne_eqb _ 39 quote, e') refl
char_item_read text q m (rel.escape e) = rw (slash_of text (q + 1) m e, escape_read text (q + 1) m e) refl

pub literal_read : (text : List ℕ) (q b : ℕ) → IsLiteral text q b → char_end text q ≡ Ok b
unfolding char_end
literal_read text q b (rel.literal {m = m} opened item quote e) = rw (char_item_read text q m item, quote, e) refl

char_broken : (text : List ℕ) (q w : ℕ) → Breaks text (q + 1) w → char_item_end text q ≡ Err (char_escape_misfit text q (q + 1) w)
unfolding char_item_end
char_broken text q w breaks = rw (slash_of_break text (q + 1) w breaks, break_read text (q + 1) w breaks) refl

pub literal_fault_read : (text : List ℕ) (q : ℕ) (fault : Fault) → LiteralFault text q fault → char_end text q ≡ Err (lex_fault fault)
unfolding char_end char_item_end char_escape_misfit
literal_fault_read text q fault (rel.no_item slash printable mis) = rw (ne_eqb _ 92 slash, printable, char_misfit_is text q (q + 1) fault mis) refl
literal_fault_read text q fault (rel.unclosed {m = m} item quote mis) = rw (char_item_read text q m item, ne_eqb _ 39 quote, char_misfit_is text q m fault mis) refl
literal_fault_read text q fault (rel.open_escape {w = w} breaks e) = rw (char_broken text q w breaks, e) refl
literal_fault_read text q fault (rel.wrong_byte {w = w} breaks e p) = rw (char_broken text q w breaks, e, p) refl
literal_fault_read text q fault (rel.wrong_escape {w = w} breaks e p) = rw (char_broken text q w breaks, e, p) refl

LiteralOutcome : List ℕ → ℕ → Type 0
LiteralOutcome text q = ((b : ℕ) × IsLiteral text q b) ⊎ ((fault : Fault) × LiteralFault text q fault)

after_item : (text : List ℕ) (q m : ℕ) → get_or text q 0 ≡ 39 → IsCharItem text (q + 1) m → LiteralOutcome text q
unfolding LiteralOutcome
after_item text q m opened item =
    elim (cases_eq (get_or text m 0) 39) [
      | inl quote ↦ inl (m + 1, rel.literal opened item quote refl)
      | inr other ↦ let f = char_misfit_some text q m in inr (f.0, rel.unclosed item other f.1)
    ]

after_break : (text : List ℕ) (q w : ℕ) → Breaks text (q + 1) w → LiteralOutcome text q
unfolding LiteralOutcome
after_break text q w breaks =
    elim (cases_Bool (ends_line text w)) [
      | inl e ↦ inr (open_string q, rel.open_escape breaks e)
      | inr e ↦ elim (cases_Bool (is_within 32 126 (get_or text w 0))) [
        | inl p ↦ inr (bad_escape (q + 1), rel.wrong_escape breaks e p)
        | inr p ↦ inr (bad_byte w, rel.wrong_byte breaks e p)
      ]
    ]

pub literal_outcome : (text : List ℕ) (q : ℕ) → get_or text q 0 ≡ 39 → ((b : ℕ) × IsLiteral text q b) ⊎ ((fault : Fault) × LiteralFault text q fault)
unfolding LiteralOutcome
literal_outcome text q opened =
    elim (cases_eq (get_or text (q + 1) 0) 92) [
      | inl slash ↦ elim (escape_outcome text (q + 1) slash) [
        | inl found ↦ after_item text q found.0 opened (rel.escape found.1)
        | inr found ↦ after_break text q found.0 found.1
      ]
      | inr plain ↦ elim (cases_Bool (is_within 32 126 (get_or text (q + 1) 0) && not (eqb (get_or text (q + 1) 0) 39))) [
        | inl fits ↦ let p = and_parts _ _ fits in after_item text q (q + 2) opened (rel.byte p.0 (eqb-false _ 39 (not-true _ p.1)) plain (omega arith))
        | inr other ↦ let f = char_misfit_some text q (q + 1) in inr (f.0, rel.no_item plain other f.1)
      ]
    ]

pub literal_rises : (text : List ℕ) (q b : ℕ) → IsLiteral text q b → (q < b) × (b ≤ length text)
literal_rises text q b (rel.literal {m = m} opened item quote e) = (omega (arith, item_after text q m item), omega (arith, within_text text m (omega arith)))
