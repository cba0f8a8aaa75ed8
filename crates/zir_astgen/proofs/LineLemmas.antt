-- Lines that are joined, one byte after the other.
use Rattle.std.proofs.Common.{◌≡◌, ℕ, zero, suc, ◌+◌, ◌<◌, ◌≤◌, true, false, List, [], ◌∷◌, length, get_or, drop, refl, sym, ap, ◌∙◌, arith, eqb, ◌&&◌}
use Rattle.std.proofs.lemmas.Bool.{ne_eqb, eqb-true, and_parts}
use Rattle.std.proofs.lemmas.List.{drop_more, drop_all, drop-drop, get_or-drop}
use Rattle.zig_tree.specs.TokenBytes.{begins}
use Rattle.zir_astgen.specs.Values.{margin, lines_from}

pub lines_skip : (n : ℕ) (bytes : List ℕ) → lines_from n bytes ≡ lines_from 0 (drop n bytes)
unfolding lines_from
lines_skip zero bytes = refl
lines_skip (suc n) [] = refl
lines_skip (suc n) (b ∷ bytes) = lines_skip n bytes

pub lines_begun : (bytes : List ℕ) → lines_from 0 (drop 2 bytes) ≡ lines_from 2 bytes
lines_begun bytes = sym (lines_skip 2 bytes)

next_byte : (bytes : List ℕ) (at : ℕ) → get_or (drop (at + 1) bytes) 0 0 ≡ get_or bytes (at + 1) 0
next_byte bytes at = get_or-drop (at + 1) bytes 0 0 ∙ ap (λ n. get_or bytes n 0) (let e : (at + 1) + 0 ≡ at + 1 = omega arith in e)

module _ (bytes : List ℕ) (at : ℕ) (lt : at < length bytes) where
  -- a LF, and the margin behind it
  pub line_ends : get_or bytes at 0 ≡ 10 → lines_from 0 (drop at bytes) ≡ 10 ∷ lines_from 0 (drop (at + (1 + margin (drop (at + 1) bytes))) bytes)
  unfolding lines_from
  line_ends e =
      let rest = drop (at + 1) bytes in
      let n = margin rest in
      let further : lines_from n rest ≡ lines_from 0 (drop (at + (1 + n)) bytes) = lines_skip n rest ∙ ap (lines_from 0) (drop-drop n (at + 1) bytes) ∙ ap (λ k. lines_from 0 (drop k bytes)) (let s : (at + 1) + n ≡ at + (1 + n) = omega arith in s) in
      rw (drop_more bytes at 0 lt, e) (ap (λ v. 10 ∷ v) further)

  -- a CR before LF
  pub line_cr : begins bytes at 13 10 ≡ true → lines_from 0 (drop at bytes) ≡ lines_from 0 (drop (at + 1) bytes)
  unfolding lines_from begins
  line_cr h =
      let p = and_parts _ _ h in
      let next : eqb (get_or (drop (at + 1) bytes) 0 0) 10 ≡ true = ap (λ n. eqb n 10) (next_byte bytes at) ∙ p.1 in
      rw (drop_more bytes at 0 lt, eqb-true _ 13 p.0, next) refl

  -- any other byte
  pub line_byte : (get_or bytes at 0 ≡ 10 → ⊥) → begins bytes at 13 10 ≡ false → lines_from 0 (drop at bytes) ≡ get_or bytes at 0 ∷ lines_from 0 (drop (at + 1) bytes)
  unfolding lines_from begins
  line_byte no_end h =
      let plain : (eqb (get_or bytes at 0) 13 && eqb (get_or (drop (at + 1) bytes) 0 0) 10) ≡ false = ap (λ n. eqb (get_or bytes at 0) 13 && eqb n 10) (next_byte bytes at) ∙ h in
      rw (drop_more bytes at 0 lt, ne_eqb _ 10 no_end, plain) refl

pub lines_done : (bytes : List ℕ) (at : ℕ) → length bytes ≤ at → lines_from 0 (drop at bytes) ≡ []
unfolding lines_from
lines_done bytes at le = rw (drop_all at bytes le) refl
