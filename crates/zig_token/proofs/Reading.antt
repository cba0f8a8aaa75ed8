-- Reading a text piece by piece.
use Rattle.std.proofs.Common.{◌≡◌, ℕ, ◌+◌, ◌-◌, ◌<◌, ◌≤◌, List, [], ◌∷◌, ◌++◌, length, drop, Result, Ok, Err, refl, sym, ap, ◌∙◌, append_assoc}
use Rattle.std.proofs.lemmas.List.{drop_all}
use Rattle.zig_tree.specs.declared.token.TokenKind.{TokenKind}
use Rattle.zig_tree.specs.declared.token.TokenKind.TheVariants.{End}
use Rattle.zig_tree.specs.declared.token.Token.{Token}
use Rattle.zig_token.specs.declared.fault.LexFault.{LexFault}
use Rattle.zig_token.specs.declared.piece.Piece.TheVariants as pieces
use Rattle.zig_token.specs.Scan.{◌>>=◌, piece_at, tokens_from, token_from}
use Rattle.zig_token.proofs.Skips.{passed, here}

-- the tokens read before, and those that are still read
abbrev pub with_front : List Token → Result (List Token) LexFault → Result (List Token) LexFault
with_front front read = read >>= λ tokens. Ok (front ++ tokens)

front_one : (front : List Token) (token : Token) (read : Result (List Token) LexFault) → with_front front (read >>= λ tokens. Ok (token ∷ tokens)) ≡ with_front (front ++ token ∷ []) read
front_one front token (Ok tokens) = ap (λ (ts : List Token). Ok ts) (sym (append_assoc front (token ∷ []) tokens))
front_one front token (Err fault) = refl

module _ (front : List Token) (text : List ℕ) (at : ℕ) (lt : at < length text) where
  pub gap_passed : (end : ℕ) → piece_at text at ≡ Ok (pieces.Gap end) → at < end → end ≤ length text
      → with_front front (tokens_from text at 0 (drop at text)) ≡ with_front front (tokens_from text end 0 (drop end text))
  unfolding tokens_from
  gap_passed end e further fits =
      let one : tokens_from text at 0 (drop at text) ≡ tokens_from text (at + 1) (end - (at + 1)) (drop (at + 1) text) = rw (here text at lt, e) refl in
      ap (with_front front) (one ∙ passed (tokens_from text) (λ _ _ _ _. refl) text at end further fits)

  pub token_passed : (kind : TokenKind) (end : ℕ) → piece_at text at ≡ Ok (pieces.Token kind end) → at < end → end ≤ length text
      → with_front front (tokens_from text at 0 (drop at text)) ≡ with_front (front ++ token_from kind at end ∷ []) (tokens_from text end 0 (drop end text))
  unfolding tokens_from
  token_passed kind end e further fits =
      let one : tokens_from text at 0 (drop at text) ≡ (tokens_from text (at + 1) (end - (at + 1)) (drop (at + 1) text) >>= λ tokens. Ok (token_from kind at end ∷ tokens)) = rw (here text at lt, e) refl in
      ap (with_front front) (one ∙ ap (λ read. read >>= λ tokens. Ok (token_from kind at end ∷ tokens)) (passed (tokens_from text) (λ _ _ _ _. refl) text at end further fits))
      ∙ front_one front (token_from kind at end) (tokens_from text end 0 (drop end text))

  pub fault_shown : (fault : LexFault) → piece_at text at ≡ Err fault → with_front front (tokens_from text at 0 (drop at text)) ≡ Err fault
  unfolding tokens_from
  fault_shown fault e = rw (here text at lt, e) refl

pub text_done : (front : List Token) (text : List ℕ) (at : ℕ) → length text ≤ at → with_front front (tokens_from text at 0 (drop at text)) ≡ Ok (front ++ token_from End at at ∷ [])
unfolding tokens_from
text_done front text at le = rw (drop_all at text le) refl
