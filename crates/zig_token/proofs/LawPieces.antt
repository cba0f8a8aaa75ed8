-- What stands at a place: what the function on lists answers is what the relation says.
use Rattle.std.proofs.Common.{◌≡◌, ◌≢◌, ℕ, ◌+◌, ◌-◌, ◌<◌, ◌≤◌, true, false, cond, List, length, get_or, drop, Option, Some, None, Ok, Err, refl, ap, subst, ◌∙◌, inl, inr, arith, eqb}
use Rattle.std.specs.Prelude.{slice_range}
use Rattle.std.proofs.lemmas.Bool.{and_parts, and_left, and_right, or_cases, ne_eqb, eqb-true, leb-true, lt-leb}
use Rattle.zig_tree.specs.declared.token.TokenKind.{TokenKind}
use Rattle.zig_tree.specs.declared.token.TokenKind.TheVariants.{Identifier, Builtin, Integer, Char, Str, MultilineStr}
use Rattle.zig_tree.specs.TokenBytes.{is_digit, is_name_start, is_blank, begins}
use Rattle.zig_tree.specs.TokenTables.{symbols, word_kind, row_at_front}
use Rattle.zig_tree.specs.Tokens as rel
use Rattle.zig_tree.specs.Tokens.{Fault, bad_byte, bad_escape, open_string, bad_number, Run, IsChar, IsWrong, IsSeparator, IsString, string, IsName, name, IsNumber, IsLiteral, IsLines, IsSymbol, symbol, IsToken, BeginsNothing, Shows}
use Rattle.zig_token.specs.declared.fault.LexFault.TheVariants.{BadByte}
use Rattle.zig_token.specs.declared.piece.Piece.TheVariants as pieces
use Rattle.zig_token.specs.Scan.{◌>>=◌, as_token, line_end, lines_end, quoted_end, char_end, name_end, number_end, at_sign, symbol_at, word_or_symbol, token_at, piece_at}
use Rattle.zig_token.proofs.LawChars.{line_ended, line_is_wrong}
use Rattle.zig_token.proofs.LawQuotes.{string_read, string_fault_read, literal_read, literal_fault_read}
use Rattle.zig_token.specs.Answer.{lex_fault}
use Rattle.zig_token.proofs.LawWords.{name_longest, number_read, no_number_read}
use Rattle.zig_token.proofs.LawLines.{lines_read, lines_fault_read}
use Rattle.zig_token.proofs.LawSymbols.{Longest, HeadOnly, symbol_long, symbol_longest, symbol_length, symbol_head, symbol_found}

-- ---- which byte begins what
pub begins_first : (text : List ℕ) (a x y : ℕ) → begins text a x y ≡ true → get_or text a 0 ≡ x
unfolding begins
begins_first text a x y h = eqb-true _ x (and_parts _ _ h).0

begins_not : (text : List ℕ) (a x y : ℕ) → eqb (get_or text a 0) x ≡ false → begins text a x y ≡ false
unfolding begins
begins_not text a x y h = and_left _ _ h

begins_not_second : (text : List ℕ) (a x y : ℕ) → get_or text (a + 1) 0 ≢ y → begins text a x y ≡ false
unfolding begins
begins_not_second text a x y h = and_right _ _ (ne_eqb _ y h)

-- a byte that is none of those before `@`, digits, names and symbols in the order of the tests
pub record Plain (text : List ℕ) (a : ℕ) : Type 0 where
  pub blank : is_blank (get_or text a 0) ≡ false
  pub line_end : begins text a 13 10 ≡ false
  pub comment : begins text a 47 47 ≡ false
  pub string : eqb (get_or text a 0) 34 ≡ false
  pub literal : eqb (get_or text a 0) 39 ≡ false
  pub lines : begins text a 92 92 ≡ false

plain_token : (text : List ℕ) (a : ℕ) → Plain text a → piece_at text a ≡ (cond (eqb (get_or text a 0) 64) (at_sign text a) (cond (is_digit (get_or text a 0)) (as_token Integer (number_end text a)) (word_or_symbol text a)))
unfolding piece_at token_at
plain_token text a p = rw (p.blank, p.line_end, p.comment, p.string, p.literal, p.lines) refl

at_plain : (text : List ℕ) (a : ℕ) → get_or text a 0 ≡ 64 → Plain text a
unfolding is_blank begins
at_plain text a e = record { blank = rw e refl; line_end = rw e refl; comment = rw e refl; string = rw e refl; literal = rw e refl; lines = rw e refl }

blank_not : (b : ℕ) → b ≢ 32 → b ≢ 9 → b ≢ 10 → is_blank b ≡ false
unfolding is_blank
blank_not b s t l = rw (ne_eqb b 32 s, ne_eqb b 9 t, ne_eqb b 10 l) refl

plain_from : (text : List ℕ) (a b : ℕ) → get_or text a 0 ≡ b → b ≢ 32 → b ≢ 9 → b ≢ 10 → b ≢ 13 → b ≢ 47 → b ≢ 34 → b ≢ 39 → b ≢ 92 → Plain text a
plain_from text a b e s t l c k q r w =
    record {
      blank = ap is_blank e ∙ blank_not b s t l;
      line_end = begins_not text a 13 10 (ap (λ n. eqb n 13) e ∙ ne_eqb b 13 c);
      comment = begins_not text a 47 47 (ap (λ n. eqb n 47) e ∙ ne_eqb b 47 k);
      string = ap (λ n. eqb n 34) e ∙ ne_eqb b 34 q;
      literal = ap (λ n. eqb n 39) e ∙ ne_eqb b 39 r;
      lines = begins_not text a 92 92 (ap (λ n. eqb n 92) e ∙ ne_eqb b 92 w);
    }

pub digit_range : (b : ℕ) → is_digit b ≡ true → (48 ≤ b) × (b ≤ 57)
unfolding is_digit
digit_range b h = let p = and_parts _ _ h in (leb-true 48 b p.0, leb-true b 57 p.1)

pub name_range : (b : ℕ) → is_name_start b ≡ true → (65 ≤ b) × (b ≤ 122) × (b ≢ 92)
unfolding is_name_start
name_range b h =
    elim (or_cases _ _ h) [
      | inl upper ↦ let p = and_parts _ _ upper in let lo = leb-true 65 b p.0 in let hi = leb-true b 90 p.1 in (lo, omega arith, λ e. omega arith)
      | inr other ↦ elim (or_cases _ _ other) [
        | inl lower ↦ let p = and_parts _ _ lower in let lo = leb-true 97 b p.0 in let hi = leb-true b 122 p.1 in (omega arith, hi, λ e. omega arith)
        | inr bar ↦ let at_bar = eqb-true b 95 bar in (omega arith, omega arith, λ slash. omega arith)
      ]
    ]

digit_plain : (text : List ℕ) (a : ℕ) → is_digit (get_or text a 0) ≡ true → Plain text a
digit_plain text a d =
    let r = digit_range (get_or text a 0) d in
    plain_from text a (get_or text a 0) refl (λ e. omega arith) (λ e. omega arith) (λ e. omega arith) (λ e. omega arith) (λ e. omega arith) (λ e. omega arith) (λ e. omega arith) (λ e. omega arith)

name_plain : (text : List ℕ) (a : ℕ) → is_name_start (get_or text a 0) ≡ true → Plain text a
name_plain text a n =
    let r = name_range (get_or text a 0) n in
    plain_from text a (get_or text a 0) refl (λ e. omega arith) (λ e. omega arith) (λ e. omega arith) (λ e. omega arith) (λ e. omega arith) (λ e. omega arith) (λ e. omega arith) r.2

not_digit : (b : ℕ) → 57 < b → is_digit b ≡ false
unfolding is_digit
not_digit b lt = and_right _ _ (lt-leb b 57 lt)

pub digit_piece : (text : List ℕ) (a : ℕ) → is_digit (get_or text a 0) ≡ true → piece_at text a ≡ as_token Integer (number_end text a)
digit_piece text a d =
    let r = digit_range (get_or text a 0) d in
    let no_at : eqb (get_or text a 0) 64 ≡ false = ne_eqb _ 64 (λ e. omega arith) in
    plain_token text a (digit_plain text a d) ∙ rw (no_at, d) refl

pub name_piece : (text : List ℕ) (a : ℕ) → is_name_start (get_or text a 0) ≡ true → piece_at text a ≡ Ok (pieces.Token (word_kind (slice_range text a (name_end text a))) (name_end text a))
unfolding word_or_symbol
name_piece text a n =
    let r = name_range (get_or text a 0) n in
    let no_at : eqb (get_or text a 0) 64 ≡ false = ne_eqb _ 64 (λ e. omega arith) in
    plain_token text a (name_plain text a n) ∙ rw (no_at, not_digit (get_or text a 0) (omega arith), n) refl

at_piece : (text : List ℕ) (a : ℕ) → get_or text a 0 ≡ 64 → piece_at text a ≡ at_sign text a
at_piece text a e = plain_token text a (at_plain text a e) ∙ rw e refl

pub string_piece : (text : List ℕ) (a : ℕ) → get_or text a 0 ≡ 34 → piece_at text a ≡ as_token Str (quoted_end text a)
unfolding piece_at token_at is_blank begins
string_piece text a e = rw e refl

pub literal_piece : (text : List ℕ) (a : ℕ) → get_or text a 0 ≡ 39 → piece_at text a ≡ as_token Char (char_end text a)
unfolding piece_at token_at is_blank begins
literal_piece text a e = rw e refl

blank_at : (text : List ℕ) (a b : ℕ) → get_or text a 0 ≡ b → is_blank b ≡ false → is_blank (get_or text a 0) ≡ false
blank_at text a b e h = ap is_blank e ∙ h

pub lines_piece : (text : List ℕ) (a : ℕ) → begins text a 92 92 ≡ true → piece_at text a ≡ as_token MultilineStr (lines_end text (a + 2))
unfolding piece_at token_at
lines_piece text a h =
    let e = begins_first text a 92 92 h in
    let other : (k : ℕ) → 92 ≢ k → eqb (get_or text a 0) k ≡ false = λ k ne. ap (λ n. eqb n k) e ∙ ne_eqb 92 k ne in
    rw (blank_at text a 92 e (blank_not 92 (λ e. omega arith) (λ e. omega arith) (λ e. omega arith)), begins_not text a 13 10 (other 13 (λ e. omega arith)), begins_not text a 47 47 (other 47 (λ e. omega arith)), other 34 (λ e. omega arith), other 39 (λ e. omega arith), h) refl

comment_piece : (text : List ℕ) (a : ℕ) → begins text a 47 47 ≡ true → piece_at text a ≡ (line_end text (a + 2) >>= λ end. Ok (pieces.Gap end))
unfolding piece_at
comment_piece text a h =
    let e = begins_first text a 47 47 h in
    let no_cr : eqb (get_or text a 0) 13 ≡ false = ap (λ n. eqb n 13) e in
    rw (blank_at text a 47 e (blank_not 47 (λ e. omega arith) (λ e. omega arith) (λ e. omega arith)), begins_not text a 13 10 no_cr, h) refl

-- ---- separators
pub separator_read : (text : List ℕ) (a b : ℕ) → IsSeparator text a b → piece_at text a ≡ Ok (pieces.Gap b)
unfolding piece_at
separator_read text a b (rel.blank h e) = rw (h, e) refl
separator_read text a b (rel.line_end h e) =
    let c = begins_first text a 13 10 h in
    rw (blank_at text a 13 c (blank_not 13 (λ e. omega arith) (λ e. omega arith) (λ e. omega arith)), h, e) refl
separator_read text a b (rel.comment h run e) = comment_piece text a h ∙ rw (line_ended text (a + 2) b run e) refl

-- ---- tokens

-- what is read reaches at least as far, and as far only as the same token
pub record Reaches (text : List ℕ) (kind : TokenKind) (a b : ℕ) : Type 0 where
  pub top_kind : TokenKind
  pub top : ℕ
  pub read : piece_at text a ≡ Ok (pieces.Token top_kind top)
  pub reach : b ≤ top
  pub same : b ≡ top → kind ≡ top_kind

reaches : (text : List ℕ) (kind : TokenKind) (a b : ℕ) → piece_at text a ≡ Ok (pieces.Token kind b) → Reaches text kind a b
reaches text kind a b e = record { top_kind = kind; top = b; read = e; reach = omega arith; same = λ _. refl }

quoted_second : (text : List ℕ) (a : ℕ) → get_or text (a + 2) 0 ≢ 34 → begins text (a + 1) 34 34 ≡ false
quoted_second text a other =
    begins_not_second text (a + 1) 34 34 (λ e. other (ap (λ n. get_or text n 0) (omega arith) ∙ e))

pub quoted_piece : (text : List ℕ) (a : ℕ) → get_or text a 0 ≡ 64 → get_or text (a + 1) 0 ≡ 34 → get_or text (a + 2) 0 ≢ 34 → piece_at text a ≡ as_token Identifier (quoted_end text (a + 1))
unfolding at_sign
quoted_piece text a at quote other = at_piece text a at ∙ rw (quoted_second text a other, quote) refl

pub builtin_piece : (text : List ℕ) (a : ℕ) → get_or text a 0 ≡ 64 → is_name_start (get_or text (a + 1) 0) ≡ true → piece_at text a ≡ Ok (pieces.Token Builtin (name_end text (a + 1)))
unfolding at_sign
builtin_piece text a at n =
    let r = name_range (get_or text (a + 1) 0) n in
    let no_quote : eqb (get_or text (a + 1) 0) 34 ≡ false = ne_eqb _ 34 (λ e. omega arith) in
    at_piece text a at ∙ rw (begins_not text (a + 1) 34 34 no_quote, no_quote, n) refl

symbol_plain : (text : List ℕ) (a : ℕ) → begins text a 47 47 ≡ false → HeadOnly (get_or text a 0) → Plain text a
symbol_plain text a no_comment h =
    record { blank = h.blank; line_end = begins_not text a 13 10 h.cr; comment = no_comment; string = h.string; literal = h.literal; lines = begins_not text a 92 92 h.slash }

pub symbol_piece : (text : List ℕ) (a : ℕ) → Plain text a → eqb (get_or text a 0) 64 ≡ false → is_digit (get_or text a 0) ≡ false → is_name_start (get_or text a 0) ≡ false → piece_at text a ≡ symbol_at text a
unfolding word_or_symbol
symbol_piece text a p at d n = plain_token text a p ∙ rw (at, d, n) refl

pub symbol_some : (text : List ℕ) (a : ℕ) (found : ℕ × TokenKind) → row_at_front symbols (drop a text) ≡ Some found → symbol_at text a ≡ Ok (pieces.Token found.1 (a + found.0))
unfolding symbol_at
symbol_some text a found e = rw e refl

symbol_none : (text : List ℕ) (a : ℕ) → row_at_front symbols (drop a text) ≡ None → symbol_at text a ≡ Err (BadByte a)
unfolding symbol_at
symbol_none text a e = rw e refl

module _ (text : List ℕ) (kind : TokenKind) (a b : ℕ) where
  symbol_reaches_by : (o : Option (ℕ × TokenKind)) → row_at_front symbols (drop a text) ≡ o → b ≤ length text → piece_at text a ≡ symbol_at text a → a < b → length (slice_range text a b) ≡ b - a → Longest (drop a text) o (slice_range text a b, kind) → Reaches text kind a b
  symbol_reaches_by None e fits p lt len longest = absurd longest
  symbol_reaches_by (Some found) e fits p lt len longest =
      record { top_kind = found.1; top = a + found.0; read = p ∙ symbol_some text a found e; reach = omega (arith, longest.0); same = λ s. longest.1 (omega arith) }

  symbol_reaches : IsSymbol text kind a b → Reaches text kind a b
  symbol_reaches (symbol no_comment fits row) =
      let h = symbol_head text kind a b fits row in
      symbol_reaches_by (row_at_front symbols (drop a text)) refl fits (symbol_piece text a (symbol_plain text a no_comment h) h.at_sign h.digit h.name) (symbol_long text kind a b fits row) (symbol_length text kind a b fits row) (symbol_longest text kind a b fits row)

-- where no row is at the front, no symbol stands
pub symbol_absent : (text : List ℕ) (kind : TokenKind) (a b : ℕ) → IsSymbol text kind a b → row_at_front symbols (drop a text) ≡ None → ⊥
symbol_absent text kind a b (symbol no_comment fits row) e = subst (λ o. Longest (drop a text) o (slice_range text a b, kind)) e (symbol_longest text kind a b fits row)

number_digit : (text : List ℕ) (a b : ℕ) → IsNumber text a b → is_digit (get_or text a 0) ≡ true
number_digit text a b (rel.number d lt run whole last) = d

string_quote : (text : List ℕ) (a b : ℕ) → IsString text a b → get_or text a 0 ≡ 34
string_quote text a b (string opened run quote e) = opened

literal_quote : (text : List ℕ) (a b : ℕ) → IsLiteral text a b → get_or text a 0 ≡ 39
literal_quote text a b (rel.literal opened item quote e) = opened

lines_mark : (text : List ℕ) (a b : ℕ) → IsLines text a b → begins text a 92 92 ≡ true
lines_mark text a b (rel.lines mark run e no_join) = mark

pub token_read : (text : List ℕ) (kind : TokenKind) (a b : ℕ) → IsToken text kind a b → Reaches text kind a b
token_read text kind a b (rel.word (name h lt run) e) =
    record { top_kind = word_kind (slice_range text a (name_end text a)); top = name_end text a; read = name_piece text a h; reach = name_longest text a b run; same = λ s. e ∙ ap (λ n. word_kind (slice_range text a n)) s }
token_read text kind a b (rel.quoted_name at other s) =
    reaches text Identifier a b (quoted_piece text a at (string_quote text (a + 1) b s) other ∙ ap (as_token Identifier) (string_read text (a + 1) b s))
token_read text kind a b (rel.builtin at (name h lt run)) =
    record { top_kind = Builtin; top = name_end text (a + 1); read = builtin_piece text a at h; reach = name_longest text (a + 1) b run; same = λ _. refl }
token_read text kind a b (rel.integer n) = reaches text Integer a b (digit_piece text a (number_digit text a b n) ∙ ap (as_token Integer) (number_read text a b n))
token_read text kind a b (rel.char l) = reaches text Char a b (literal_piece text a (literal_quote text a b l) ∙ ap (as_token Char) (literal_read text a b l))
token_read text kind a b (rel.string s) = reaches text Str a b (string_piece text a (string_quote text a b s) ∙ ap (as_token Str) (string_read text a b s))
token_read text kind a b (rel.lines l) = reaches text MultilineStr a b (lines_piece text a (lines_mark text a b l) ∙ ap (as_token MultilineStr) (lines_read text a b l))
token_read text kind a b (rel.symbol s) = symbol_reaches text kind a b s

-- ---- faults
no_symbol_none : (text : List ℕ) (a : ℕ) (o : Option (ℕ × TokenKind)) → row_at_front symbols (drop a text) ≡ o → a ≤ length text → begins text a 47 47 ≡ false → ((b : ℕ) (kind : TokenKind) → IsSymbol text kind a b → ⊥) → row_at_front symbols (drop a text) ≡ None
no_symbol_none text a None e le no_comment none_here = e
no_symbol_none text a (Some found) e le no_comment none_here = absurd (none_here (a + found.0) found.1 (symbol_found text a found le no_comment e))

pub shows_read : (text : List ℕ) (a : ℕ) (fault : Fault) → Shows text a fault → piece_at text a ≡ Err (lex_fault fault)
unfolding at_sign begins
shows_read text a fault (rel.in_comment {m = m} mark run wrong_here) = comment_piece text a mark ∙ rw (line_is_wrong text (a + 2) m run wrong_here) refl
shows_read text a fault (rel.in_lines {m = m} mark run wrong_here) = lines_piece text a mark ∙ ap (as_token MultilineStr) (lines_fault_read text a m run wrong_here)
shows_read text a fault (rel.in_string quote s) = string_piece text a quote ∙ ap (as_token Str) (string_fault_read text a fault s)
shows_read text a fault (rel.in_name at quote other s) = quoted_piece text a at quote other ∙ ap (as_token Identifier) (string_fault_read text (a + 1) fault s)
shows_read text a fault (rel.in_literal quote l) = literal_piece text a quote ∙ ap (as_token Char) (literal_fault_read text a fault l)
shows_read text a fault (rel.no_number d none_here) = digit_piece text a d ∙ ap (as_token Integer) (no_number_read text a d none_here)
shows_read text a fault (rel.empty_name at quote second) =
    let second' : get_or text (a + 1 + 1) 0 ≡ 34 = ap (λ n. get_or text n 0) (omega arith) ∙ second in
    at_piece text a at ∙ rw (quote, second') refl
shows_read text a fault (rel.lone_at at other n) =
    let no_quote : eqb (get_or text (a + 1) 0) 34 ≡ false = ne_eqb _ 34 other in
    at_piece text a at ∙ rw (no_quote, n) refl
shows_read text a fault (rel.no_piece lt b) =
    let p : Plain text a = record { blank = b.blank; line_end = b.line_end; comment = b.comment; string = ne_eqb _ 34 b.quotes.0; literal = ne_eqb _ 39 b.quotes.1; lines = b.lines } in
    symbol_piece text a p (ne_eqb _ 64 b.at_sign) b.digit b.name ∙ symbol_none text a (no_symbol_none text a (row_at_front symbols (drop a text)) refl (omega arith) b.comment b.symbol)
