-- A whole text: it has one outcome by the relation, and the function on lists answers it.
use Rattle.std.proofs.Common.{◌≡◌, ◌≢◌, ℕ, zero, suc, ◌+◌, ◌-◌, ◌<◌, ◌≤◌, true, false, List, [], ◌∷◌, length, get_or, drop, Option, Some, None, Result, Ok, Err, refl, sym, ap, subst, ◌∙◌, inl, inr, arith, eqb, ◌&&◌}
use Rattle.std.specs.Prelude.{slice_range, IfOk, IfErr}
use Rattle.std.specs.Global.{Vec}
use Rattle.std.proofs.lemmas.Bool.{cases_Bool, cases_lt, cases_eq, ne_eqb, eqb-true, and_parts, cond_both}
use Rattle.std.proofs.lemmas.List.{drop_all}
use Rattle.zig_tree.specs.declared.token.TokenKind.{TokenKind}
use Rattle.zig_tree.specs.declared.token.TokenKind.TheVariants.{Identifier, Builtin, Integer, Char, Str, MultilineStr, End}
use Rattle.zig_tree.specs.declared.token.Token.{Token}
use Rattle.zig_tree.specs.TokenBytes.{is_digit, is_name_start, is_blank, begins, text_start}
use Rattle.zig_tree.specs.TokenTables.{symbols, word_kind, row_at_front}
use Rattle.zig_tree.specs.Tokens as rel
use Rattle.zig_tree.specs.Tokens.{Fault, bad_byte, bad_number, Run, none, more, IsChar, IsSeparator, IsName, name, IsSymbol, IsToken, BeginsNothing, Shows, IsLongest, then_read, ReadsFrom, ended, shown, token, Reads}
use Rattle.zig_token.specs.declared.fault.LexFault.{LexFault}
use Rattle.zig_token.specs.declared.fault.LexFault.TheVariants.{BadByte, BadEscape, OpenString, BadNumber, OutOfMemory}
use Rattle.zig_token.specs.declared.piece.Piece.{Piece}
use Rattle.zig_token.specs.declared.piece.Piece.TheVariants as pieces
use Rattle.zig_token.specs.Scan.{◌>>=◌, as_token, name_end, piece_at, tokens_from, tokens_of, token_from, Gives}
use Rattle.zig_token.specs.Answer.{ShowsFirst, Answers, told}
use Rattle.zig_token.proofs.Skips.{within_text, passed, here}
use Rattle.zig_token.proofs.Lines.{begins_fits}
use Rattle.zig_token.proofs.LawChars.{char_rises, line_means, LineStop, ends, wrong}
use Rattle.zig_token.proofs.LawQuotes.{string_read, string_outcome, string_rises, literal_read, literal_outcome, literal_rises}
use Rattle.zig_token.specs.Answer.{lex_fault}
use Rattle.zig_token.proofs.LawWords.{name_longest, name_means, number_read, number_outcome, number_rises}
use Rattle.zig_token.proofs.LawLines.{lines_read, lines_outcome, lines_rises}
use Rattle.zig_token.proofs.LawSymbols.{symbol_long, symbol_found}
use Rattle.zig_token.proofs.Runs.{run_passes}
use Rattle.zig_token.proofs.LawPieces.{Plain, string_piece, literal_piece, lines_piece, digit_piece, quoted_piece, builtin_piece, symbol_absent, digit_range, name_range, name_piece, separator_read, token_read, symbol_piece, symbol_some, shows_read}
use Rattle.zig_token.proofs.Pieces.{name_begun}

-- ---- pieces rise
char_run_rises : (text : List ℕ) {a b : ℕ} → Run (IsChar text) a b → a ≤ length text → (a ≤ b) × (b ≤ length text)
char_run_rises text none le = (omega arith, le)
char_run_rises text (more i r) le = let s = char_rises text _ _ i in let t = char_run_rises text r s.1 in (omega (arith, s.0, t.0), t.1)

blank_some : (b : ℕ) → is_blank b ≡ true → 0 < b
unfolding is_blank
blank_some zero h = absurd cc
blank_some (suc b) h = omega arith

pub separator_rises : (text : List ℕ) (a b : ℕ) → IsSeparator text a b → (a < b) × (b ≤ length text)
separator_rises text a b (rel.blank h e) = (omega arith, omega (arith, within_text text a (blank_some (get_or text a 0) h)))
separator_rises text a b (rel.line_end h e) = (omega arith, omega (arith, (begins_fits text a 13 10 h (omega arith)).1))
separator_rises text a b (rel.comment h run e) = let r = char_run_rises text run (begins_fits text a 47 47 h (omega arith)).1 in (omega (arith, r.0), r.1)

name_rises : (text : List ℕ) (a b : ℕ) → IsName text a b → (a < b) × (b ≤ length text)
name_rises text a b (name h lt run) =
    let r = name_range (get_or text a 0) h in
    let here_at = within_text text a (omega arith) in
    (lt, omega (arith, name_longest text a b run, (name_means text a (omega arith)).within))

pub token_rises : (text : List ℕ) (kind : TokenKind) (a b : ℕ) → IsToken text kind a b → (a < b) × (b ≤ length text)
token_rises text kind a b (rel.word n e) = name_rises text a b n
token_rises text kind a b (rel.quoted_name at other s) = let r = string_rises text (a + 1) b s in (omega (arith, r.0), r.1)
token_rises text kind a b (rel.builtin at n) = let r = name_rises text (a + 1) b n in (omega (arith, r.0), r.1)
token_rises text kind a b (rel.integer n) = number_rises text a b n
token_rises text kind a b (rel.char l) = literal_rises text a b l
token_rises text kind a b (rel.string s) = string_rises text a b s
token_rises text kind a b (rel.lines l) = lines_rises text a b l
token_rises text kind a b (rel.symbol (rel.symbol no_comment fits row)) = (symbol_long text kind a b fits row, fits)

shows_within : (text : List ℕ) (a : ℕ) (fault : Fault) → Shows text a fault → a < length text
shows_within text a fault (rel.in_comment mark run w) = omega (arith, (begins_fits text a 47 47 mark (omega arith)).1)
shows_within text a fault (rel.in_lines mark run w) = omega (arith, (begins_fits text a 92 92 mark (omega arith)).1)
shows_within text a fault (rel.in_string quote s) = within_text text a (omega arith)
shows_within text a fault (rel.in_name at quote other s) = within_text text a (omega arith)
shows_within text a fault (rel.in_literal quote l) = within_text text a (omega arith)
shows_within text a fault (rel.no_number d n) = within_text text a (omega (arith, (digit_range (get_or text a 0) d).0))
shows_within text a fault (rel.empty_name at quote second) = within_text text a (omega arith)
shows_within text a fault (rel.lone_at at other n) = within_text text a (omega arith)
shows_within text a fault (rel.no_piece lt b) = lt

-- ---- at each place something stands

-- a separator, a token that is read as it is, or a fault
data Stands (text : List ℕ) (a : ℕ) : Type 0 where
  gap : (b : ℕ) → IsSeparator text a b → Stands text a
  whole : (kind : TokenKind) (b : ℕ) → IsToken text kind a b → piece_at text a ≡ Ok (pieces.Token kind b) → Stands text a
  wrong_here : (fault : Fault) → Shows text a fault → Stands text a

same_end : (k j : TokenKind) (m n : ℕ) → ◌≡◌ {A = Result Piece LexFault} (Ok (pieces.Token k m)) (Ok (pieces.Token j n)) → m ≡ n
same_end k j m n h = cc

-- the token that is read is the longest
longest_read : (text : List ℕ) (kind : TokenKind) (a b : ℕ) → piece_at text a ≡ Ok (pieces.Token kind b) → IsLongest text a b
longest_read text kind a b e = λ other further t.
    let r = token_read text other a further t in
    let same : r.top ≡ b = same_end r.top_kind kind r.top b (sym r.read ∙ e) in
    omega (arith, r.reach)

module _ (text : List ℕ) (a : ℕ) where
  comment_stands : begins text a 47 47 ≡ true → Stands text a
  comment_stands mark =
      let found = line_means text (a + 2) (begins_fits text a 47 47 mark (omega arith)).1 in
      by_stop found.0 found.1 found.3
    where
      by_stop : (m : ℕ) → Run (IsChar text) (a + 2) m → LineStop text m → Stands text a
      by_stop m run (ends e) = gap m (rel.comment mark run e)
      by_stop m run (wrong w) = wrong_here (bad_byte m) (rel.in_comment mark run w)

  string_stands : get_or text a 0 ≡ 34 → Stands text a
  string_stands quote =
      elim (string_outcome text a quote) [
        | inl found ↦ whole Str found.0 (rel.string found.1) (string_piece text a quote ∙ ap (as_token Str) (string_read text a found.0 found.1))
        | inr found ↦ wrong_here found.0 (rel.in_string quote found.1)
      ]

  literal_stands : get_or text a 0 ≡ 39 → Stands text a
  literal_stands quote =
      elim (literal_outcome text a quote) [
        | inl found ↦ whole Char found.0 (rel.char found.1) (literal_piece text a quote ∙ ap (as_token Char) (literal_read text a found.0 found.1))
        | inr found ↦ wrong_here found.0 (rel.in_literal quote found.1)
      ]

  lines_stand : begins text a 92 92 ≡ true → Stands text a
  lines_stand mark =
      elim (lines_outcome text a mark) [
        | inl found ↦ whole MultilineStr found.0 (rel.lines found.1) (lines_piece text a mark ∙ ap (as_token MultilineStr) (lines_read text a found.0 found.1))
        | inr found ↦ wrong_here (bad_byte found.0) (rel.in_lines mark found.1 found.2)
      ]

  number_stands : is_digit (get_or text a 0) ≡ true → Stands text a
  number_stands d =
      elim (number_outcome text a d) [
        | inl found ↦ whole Integer found.0 (rel.integer found.1) (digit_piece text a d ∙ ap (as_token Integer) (number_read text a found.0 found.1))
        | inr none_here ↦ wrong_here (bad_number a) (rel.no_number d none_here)
      ]

  quoted_stands : get_or text a 0 ≡ 64 → get_or text (a + 1) 0 ≡ 34 → Stands text a
  quoted_stands at quote =
      elim (cases_eq (get_or text (a + 2) 0) 34) [
        | inl second ↦ wrong_here (bad_byte a) (rel.empty_name at quote second)
        | inr other ↦ elim (string_outcome text (a + 1) quote) [
          | inl found ↦ whole Identifier found.0 (rel.quoted_name at other found.1) (quoted_piece text a at quote other ∙ ap (as_token Identifier) (string_read text (a + 1) found.0 found.1))
          | inr found ↦ wrong_here found.0 (rel.in_name at quote other found.1)
        ]
      ]

  at_stands : get_or text a 0 ≡ 64 → Stands text a
  at_stands at =
      elim (cases_eq (get_or text (a + 1) 0) 34) [
        | inl quote ↦ quoted_stands at quote
        | inr other ↦ elim (cases_Bool (is_name_start (get_or text (a + 1) 0))) [
          | inl n ↦
              let r = name_range (get_or text (a + 1) 0) n in
              let lt = within_text text (a + 1) (omega arith) in
              whole Builtin (name_end text (a + 1)) (rel.builtin at (name n (name_begun text (a + 1) lt n) (name_means text (a + 1) (omega arith)).run)) (builtin_piece text a at n)
          | inr n ↦ wrong_here (bad_byte a) (rel.lone_at at other n)
        ]
      ]

  name_stands : is_name_start (get_or text a 0) ≡ true → Stands text a
  name_stands n =
      let r = name_range (get_or text a 0) n in
      let lt = within_text text a (omega arith) in
      whole (word_kind (slice_range text a (name_end text a))) (name_end text a) (rel.word (name n (name_begun text a lt n) (name_means text a (omega arith)).run) refl) (name_piece text a n)

  symbol_stands : a < length text → Plain text a → get_or text a 0 ≢ 34 → get_or text a 0 ≢ 39 → get_or text a 0 ≢ 64 → is_digit (get_or text a 0) ≡ false → is_name_start (get_or text a 0) ≡ false → (o : Option (ℕ × TokenKind)) → row_at_front symbols (drop a text) ≡ o → Stands text a
  symbol_stands lt p string_no literal_no at_no d n None e =
      wrong_here (bad_byte a) (rel.no_piece lt (record {
        blank = p.blank;
        line_end = p.line_end;
        comment = p.comment;
        lines = p.lines;
        quotes = (string_no, literal_no);
        at_sign = at_no;
        digit = d;
        name = n;
        symbol = λ b kind s. no_row kind b s;
      }))
    where
      no_row : (kind : TokenKind) (b : ℕ) → IsSymbol text kind a b → ⊥
      no_row kind b s = symbol_absent text kind a b s e
  symbol_stands lt p string_no literal_no at_no d n (Some found) e =
      whole found.1 (a + found.0) (rel.symbol (symbol_found text a found (omega arith) p.comment e)) (symbol_piece text a p (ne_eqb _ 64 at_no) d n ∙ symbol_some text a found e)

  word_stands : a < length text → Plain text a → get_or text a 0 ≢ 34 → get_or text a 0 ≢ 39 → get_or text a 0 ≢ 64 → Stands text a
  word_stands lt p string_no literal_no at_no =
      elim (cases_Bool (is_digit (get_or text a 0))) [
        | inl d ↦ number_stands d
        | inr d ↦ elim (cases_Bool (is_name_start (get_or text a 0))) [
          | inl n ↦ name_stands n
          | inr n ↦ symbol_stands lt p string_no literal_no at_no d n (row_at_front symbols (drop a text)) refl
        ]
      ]

  token_stands : a < length text → is_blank (get_or text a 0) ≡ false → begins text a 13 10 ≡ false → begins text a 47 47 ≡ false → Stands text a
  token_stands lt blank cr no_comment =
      elim (cases_eq (get_or text a 0) 34) [
        | inl quote ↦ string_stands quote
        | inr string_no ↦ elim (cases_eq (get_or text a 0) 39) [
          | inl quote ↦ literal_stands quote
          | inr literal_no ↦ elim (cases_Bool (begins text a 92 92)) [
            | inl mark ↦ lines_stand mark
            | inr no_lines ↦ elim (cases_eq (get_or text a 0) 64) [
              | inl at ↦ at_stands at
              | inr at_no ↦ word_stands lt (record { blank = blank; line_end = cr; comment = no_comment; string = ne_eqb _ 34 string_no; literal = ne_eqb _ 39 literal_no; lines = no_lines }) string_no literal_no at_no
            ]
          ]
        ]
      ]

  stands_some : a < length text → Stands text a
  stands_some lt =
      elim (cases_Bool (is_blank (get_or text a 0))) [
        | inl blank ↦ gap (a + 1) (rel.blank blank refl)
        | inr blank ↦ elim (cases_Bool (begins text a 13 10)) [
          | inl cr ↦ gap (a + 2) (rel.line_end cr refl)
          | inr cr ↦ elim (cases_Bool (begins text a 47 47)) [ inl mark ↦ comment_stands mark | inr no_comment ↦ token_stands lt blank cr no_comment ]
        ]
      ]

-- ---- whole texts
before_gap : (text : List ℕ) (a b : ℕ) (outcome : Result (List Token) Fault) → IsSeparator text a b → ReadsFrom text b outcome → ReadsFrom text a outcome
before_gap text a b outcome s (ended run) = ended (more s run)
before_gap text a b outcome s (shown run f) = shown (more s run) f
before_gap text a b outcome s (token run t longest rest e) = token (more s run) t longest rest e

-- each text has an outcome
reads_some : (text : List ℕ) (n a : ℕ) → length text ≤ a + n → a ≤ length text → (outcome : Result (List Token) Fault) × ReadsFrom text a outcome
reads_some text zero a far le =
    let last : a ≡ length text = omega arith in
    (Ok (token_from End (length text) (length text) ∷ []), subst (λ m. ReadsFrom text m (Ok (token_from End (length text) (length text) ∷ []))) (sym last) (ended none))
reads_some text (suc n) a far le =
    elim (cases_lt a (length text)) [
      | inl lt ↦ by_piece (stands_some text a lt) (λ b rises fits. reads_some text n b (omega arith) fits)
      | inr past ↦
          let last : a ≡ length text = omega arith in
          (Ok (token_from End (length text) (length text) ∷ []), subst (λ m. ReadsFrom text m (Ok (token_from End (length text) (length text) ∷ []))) (sym last) (ended none))
    ]
  where
    by_piece : Stands text a → ((b : ℕ) → a < b → b ≤ length text → (outcome : Result (List Token) Fault) × ReadsFrom text b outcome) → (outcome : Result (List Token) Fault) × ReadsFrom text a outcome
    by_piece (gap b s) rest =
        let r = separator_rises text a b s in
        let others = rest b r.0 r.1 in
        (others.0, before_gap text a b others.0 s others.1)
    by_piece (whole kind b t e) rest =
        let r = token_rises text kind a b t in
        let others = rest b r.0 r.1 in
        (then_read (token_from kind a b) others.0, token none t (longest_read text kind a b e) others.1 refl)
    by_piece (wrong_here fault s) rest = (Err fault, shown none s)

-- ---- what the function on lists answers

gap_step : (text : List ℕ) (a b : ℕ) → IsSeparator text a b → tokens_from text a 0 (drop a text) ≡ tokens_from text b 0 (drop b text)
unfolding tokens_from
gap_step text a b s =
    let r = separator_rises text a b s in
    let lt : a < length text = omega (arith, r.0, r.1) in
    let one : tokens_from text a 0 (drop a text) ≡ tokens_from text (a + 1) (b - (a + 1)) (drop (a + 1) text) = rw (here text a lt, separator_read text a b s) refl in
    one ∙ passed (tokens_from text) (λ _ _ _ _. refl) text a b r.0 r.1

token_step : (text : List ℕ) (kind : TokenKind) (a b : ℕ) → piece_at text a ≡ Ok (pieces.Token kind b) → a < b → b ≤ length text → tokens_from text a 0 (drop a text) ≡ (tokens_from text b 0 (drop b text) >>= λ tokens. Ok (token_from kind a b ∷ tokens))
unfolding tokens_from
token_step text kind a b e rises fits =
    let lt : a < length text = omega arith in
    let one : tokens_from text a 0 (drop a text) ≡ (tokens_from text (a + 1) (b - (a + 1)) (drop (a + 1) text) >>= λ tokens. Ok (token_from kind a b ∷ tokens)) = rw (here text a lt, e) refl in
    one ∙ ap (λ read. read >>= λ tokens. Ok (token_from kind a b ∷ tokens)) (passed (tokens_from text) (λ _ _ _ _. refl) text a b rises fits)

fault_step : (text : List ℕ) (a : ℕ) (fault : Fault) → Shows text a fault → tokens_from text a 0 (drop a text) ≡ Err (lex_fault fault)
unfolding tokens_from
fault_step text a fault s = rw (here text a (shows_within text a fault s), shows_read text a fault s) refl

end_step : (text : List ℕ) → tokens_from text (length text) 0 (drop (length text) text) ≡ Ok (token_from End (length text) (length text) ∷ [])
unfolding tokens_from
end_step text = rw (drop_all (length text) text (omega arith)) refl

told_then : (first : Token) (outcome : Result (List Token) Fault) → (told outcome >>= λ tokens. Ok (first ∷ tokens)) ≡ told (then_read first outcome)
told_then first (Ok tokens) = refl
told_then first (Err fault) = refl

-- the longest token is read
token_is_read : (text : List ℕ) (kind : TokenKind) (a b : ℕ) → IsToken text kind a b → IsLongest text a b → piece_at text a ≡ Ok (pieces.Token kind b)
token_is_read text kind a b t longest =
    let r = token_read text kind a b t in
    let lt : a < length text = omega (arith, token_rises text kind a b t) in
    let top : r.top ≤ b = top_below (stands_some text a lt) r.top_kind r.top r.read in
    let same : b ≡ r.top = omega (arith, r.reach) in
    r.read ∙ (λ i. Ok (pieces.Token (sym (r.same same) i) (sym same i)))
  where
    top_below : Stands text a → (top_kind : TokenKind) (top : ℕ) → piece_at text a ≡ Ok (pieces.Token top_kind top) → top ≤ b
    top_below (gap m s) top_kind top e = let other = separator_read text a m s in absurd cc
    top_below (wrong_here fault s) top_kind top e = let other = shows_read text a fault s in absurd cc
    top_below (whole k m u read) top_kind top e = let same = same_end k top_kind m top (sym read ∙ e) in omega (arith, longest k m u)

reads_is : (text : List ℕ) {a : ℕ} {outcome : Result (List Token) Fault} → ReadsFrom text a outcome → tokens_from text a 0 (drop a text) ≡ told outcome
reads_is text (ended run) = run_passes (λ n. tokens_from text n 0 (drop n text)) (gap_step text) run ∙ end_step text
reads_is text (shown {m = m} {fault = fault} run s) = run_passes (λ n. tokens_from text n 0 (drop n text)) (gap_step text) run ∙ fault_step text m fault s
reads_is text (token {m = m} {b = b} {kind = kind} {rest = rest} run t longest others e) =
    let r = token_rises text kind m b t in
    run_passes (λ n. tokens_from text n 0 (drop n text)) (gap_step text) run
    ∙ token_step text kind m b (token_is_read text kind m b t longest) r.0 r.1
    ∙ ap (λ read. read >>= λ tokens. Ok (token_from kind m b ∷ tokens)) (reads_is text others)
    ∙ told_then (token_from kind m b) rest
    ∙ ap told (sym e)

start_within : (text : List ℕ) → text_start text ≤ length text
unfolding text_start
start_within text =
    cond_both (begins text 0 0xEF 0xBB && eqb (get_or text 2 0) 0xBF) 3 0 (λ n. n ≤ length text)
    (λ h. omega (arith, within_text text 2, eqb-true (get_or text 2 0) 0xBF (and_parts _ _ h).1)) (λ _. omega arith)

-- what is read of a text is what the function on lists answers
pub outcome_told : (text : List ℕ) (outcome : Result (List Token) Fault) → Reads text outcome → tokens_of text ≡ told outcome
unfolding tokens_of
outcome_told text outcome r = reads_is text r

-- each text has an outcome, which the function on lists answers
pub outcome_some : (text : List ℕ) → (outcome : Result (List Token) Fault) × Reads text outcome
outcome_some text = reads_some text (length text) (text_start text) (omega arith) (start_within text)

fault_back : (f g : Fault) → lex_fault f ≡ lex_fault g → f ≡ g
fault_back (bad_byte m) (bad_byte n) e = ap bad_byte cc
fault_back (bad_byte m) (rel.bad_escape n) e = absurd cc
fault_back (bad_byte m) (rel.open_string n) e = absurd cc
fault_back (bad_byte m) (bad_number n) e = absurd cc
fault_back (rel.bad_escape m) (bad_byte n) e = absurd cc
fault_back (rel.bad_escape m) (rel.bad_escape n) e = ap rel.bad_escape cc
fault_back (rel.bad_escape m) (rel.open_string n) e = absurd cc
fault_back (rel.bad_escape m) (bad_number n) e = absurd cc
fault_back (rel.open_string m) (bad_byte n) e = absurd cc
fault_back (rel.open_string m) (rel.bad_escape n) e = absurd cc
fault_back (rel.open_string m) (rel.open_string n) e = ap rel.open_string cc
fault_back (rel.open_string m) (bad_number n) e = absurd cc
fault_back (bad_number m) (bad_byte n) e = absurd cc
fault_back (bad_number m) (rel.bad_escape n) e = absurd cc
fault_back (bad_number m) (rel.open_string n) e = absurd cc
fault_back (bad_number m) (bad_number n) e = ap bad_number cc

told_back : (x y : Result (List Token) Fault) → told x ≡ told y → x ≡ y
told_back (Ok ts) (Ok us) e = ap (λ (vs : List Token). Ok vs) cc
told_back (Ok ts) (Err f) e = absurd cc
told_back (Err f) (Ok ts) e = absurd cc
told_back (Err f) (Err g) e = ap (λ h. Err h) (fault_back f g cc)

-- a text has one outcome at most
pub one_outcome : (text : List ℕ) (x y : Result (List Token) Fault) → Reads text x → Reads text y → x ≡ y
one_outcome text x y r s = told_back x y (sym (outcome_told text x r) ∙ outcome_told text y s)

-- what the function on lists answers is read
pub told_reads : (text : List ℕ) (outcome : Result (List Token) Fault) → tokens_of text ≡ told outcome → Reads text outcome
told_reads text outcome e =
    let found = outcome_some text in
    subst (λ o. Reads text o) (told_back found.0 outcome (sym (outcome_told text found.0 found.1) ∙ e)) found.1

-- ---- what a call answers
pub call_found : (text : List ℕ) (answer : Result (Vec Token) LexFault) → Gives answer (tokens_of text) → IfOk answer (λ list. Reads text (Ok list.items))
call_found text (Ok list) e = told_reads text (Ok list.items) e
call_found text (Err fault) e = tt

pub call_fault : (text : List ℕ) (answer : Result (Vec Token) LexFault) → Gives answer (tokens_of text) → IfErr answer (ShowsFirst text)
call_fault text (Ok list) e = tt
call_fault text (Err (BadByte at)) e = told_reads text (Err (bad_byte at)) e
call_fault text (Err (BadEscape at)) e = told_reads text (Err (rel.bad_escape at)) e
call_fault text (Err (OpenString at)) e = told_reads text (Err (rel.open_string at)) e
call_fault text (Err (BadNumber at)) e = told_reads text (Err (bad_number at)) e
call_fault text (Err OutOfMemory) e = tt

pub call_only : (text : List ℕ) (answer : Result (Vec Token) LexFault) → Gives answer (tokens_of text) → (outcome : Result (List Token) Fault) → Reads text outcome → Answers answer outcome
call_only text (Ok list) e outcome r = told_back outcome (Ok list.items) (sym (outcome_told text outcome r) ∙ e)
call_only text (Err (BadByte at)) e outcome r = told_back outcome (Err (bad_byte at)) (sym (outcome_told text outcome r) ∙ e)
call_only text (Err (BadEscape at)) e outcome r = told_back outcome (Err (rel.bad_escape at)) (sym (outcome_told text outcome r) ∙ e)
call_only text (Err (OpenString at)) e outcome r = told_back outcome (Err (rel.open_string at)) (sym (outcome_told text outcome r) ∙ e)
call_only text (Err (BadNumber at)) e outcome r = told_back outcome (Err (bad_number at)) (sym (outcome_told text outcome r) ∙ e)
call_only text (Err OutOfMemory) e outcome r = tt
