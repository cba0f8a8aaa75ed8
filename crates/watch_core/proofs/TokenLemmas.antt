-- A text has few tokens.
use Rattle.std.proofs.Common.{◌≡◌, ℕ, zero, suc, ◌+◌, ◌-◌, ◌≤◌, List, [], ◌∷◌, length, drop, refl, ap, arith, Result, Ok, Err, length-drop}
use Rattle.zig_tree.specs.declared.token.Token.{Token}
use Rattle.zig_token.specs.declared.fault.LexFault.{LexFault}
use Rattle.zig_token.specs.declared.piece.Piece.{Piece}
use Rattle.zig_token.specs.declared.piece.Piece.TheVariants as pieces
use Rattle.zig_token.specs.Scan.{tokens_from, tokens_of, piece_at, piece_end, put, token_from, ◌>>=◌}
use Rattle.zig_tree.specs.TokenBytes.{text_start}

same_ok : (xs ys : List Token) → let r : Result (List Token) LexFault = Ok xs in let s : Result (List Token) LexFault = Ok ys in r ≡ s → ys ≡ xs
same_ok xs ys e = cc

no_ok : {A : Type 0} (x : LexFault) (ys : List Token) → let r : Result (List Token) LexFault = Err x in let s : Result (List Token) LexFault = Ok ys in r ≡ s → A
no_ok x ys e = absurd (cc)

few_put : (at limit : ℕ) (piece : Piece) (others : Result (List Token) LexFault) (ts : List Token)
    → ((us : List Token) → others ≡ Ok us → length us ≤ limit) → put at piece others ≡ Ok ts → length ts ≤ limit + 1
few_put at limit (pieces.Gap end) others ts h e = let k : length ts ≤ limit = h ts e in omega (arith, k)
few_put at limit (pieces.Token kind end) (Ok us) ts h e =
    let k : length us ≤ limit = h us refl in
    let l : length ts ≡ suc (length us) = ap length (same_ok (token_from kind at end ∷ us) ts e) in
    omega (arith, k, l)
few_put at limit (pieces.Token kind end) (Err x) ts h e = no_ok x ts e

few_piece : (at limit : ℕ) (found : Result Piece LexFault) (others : Piece → Result (List Token) LexFault) (ts : List Token)
    → ((piece : Piece) (us : List Token) → others piece ≡ Ok us → length us ≤ limit) → (found >>= λ piece. put at piece (others piece)) ≡ Ok ts → length ts ≤ limit + 1
few_piece at limit (Ok piece) others ts h e = few_put at limit piece (others piece) ts (h piece) e
few_piece at limit (Err x) others ts h e = no_ok x ts e

few_from : (text : List ℕ) (at skip : ℕ) (rest : List ℕ) (ts : List Token) → tokens_from text at skip rest ≡ Ok ts → length ts ≤ length rest + 1
unfolding tokens_from
few_from text at skip [] ts e = let l : length ts ≡ 1 = ap length (same_ok _ ts e) in omega (arith, l)
few_from text at (suc skip) (b ∷ rest) ts e = let k : length ts ≤ length rest + 1 = few_from text (at + 1) skip rest ts e in omega (arith, k)
few_from text at zero (b ∷ rest) ts e =
    let k : length ts ≤ length rest + 1 + 1 =
    few_piece at (length rest + 1) (piece_at text at) (λ piece. tokens_from text (at + 1) (piece_end piece - (at + 1)) rest) ts
    (λ piece us f. few_from text (at + 1) (piece_end piece - (at + 1)) rest us f) e in
    omega (arith, k)

-- a text has no more tokens than bytes, but for the last
pub few_tokens : (text : List ℕ) (ts : List Token) (limit : ℕ) → tokens_of text ≡ Ok ts → length text ≤ limit → length ts ≤ limit + 1
unfolding tokens_of
few_tokens text ts limit e h =
    let k : length ts ≤ length (drop (text_start text) text) + 1 = few_from text (text_start text) 0 (drop (text_start text) text) ts e in
    let d : length (drop (text_start text) text) ≡ length text - text_start text = length-drop (text_start text) text in
    omega (arith, k, d, h)
