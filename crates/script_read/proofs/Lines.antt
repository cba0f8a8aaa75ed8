-- The line at the front of a script, by the bytes before its LF.
use Rattle.std.proofs.Common.{◌≡◌, ℕ, ◌+◌, ◌<◌, ◌≤◌, ◌==◌, nat_lt, Bool, true, false, ◌||◌, List, [], ◌∷◌, ◌++◌, length, take, Ok, Err, refl, suc, zero, arith, if◌then◌else◌}
use Rattle.std.proofs.lemmas.Bool.Decides.{nat_tests}
use Rattle.std.specs.List.{list_any, position_or_len}
use Rattle.std.proofs.Math.Seq.{take-append_seam, drop-append-add}
use Rattle.std.proofs.lemmas.List.{take_all}
use Rattle.zw_base.specs.declared.reason.Reason.TheVariants.{CutShort}
use Rattle.script_read.specs.declared.command.Refusal.TheVariants.{End, Bad}
use Rattle.script_read.specs.Line.{is_line_end, HasNoEnd, line_at}

pub neither : (a b : Bool) → (a || b) ≡ false → (a ≡ false) × (b ≡ false)
neither true b h = cc
neither false b h = (refl, h)

pub or_true : (a b : Bool) → b ≡ true → (a || b) ≡ true
or_true true b h = refl
or_true false b h = h

-- the first LF stands after the line
pub first_end : (line rest : List ℕ) → HasNoEnd line → position_or_len is_line_end (line ++ 10 ∷ rest) ≡ length line
first_end [] rest h = refl
first_end (b ∷ line) rest h =
    let both : (is_line_end b ≡ false) × (list_any is_line_end line ≡ false) = neither _ _ h in
    rw (both.0, first_end line rest both.1) (omega arith)

-- it is among the first bytes, where there are more of these than the line has
pub end_in_front : (line rest : List ℕ) (n : ℕ) → length line < n → list_any is_line_end (take n (line ++ 10 ∷ rest)) ≡ true
end_in_front [] rest zero h = absurd (omega arith)
end_in_front [] rest (suc n) h = refl
end_in_front (b ∷ line) rest zero h = absurd (omega arith)
end_in_front (b ∷ line) rest (suc n) h = or_true _ _ (end_in_front line rest n (omega arith))

pub line_found : (most : ℕ) (line rest : List ℕ) → HasNoEnd line → length line ≤ most → line_at most (line ++ 10 ∷ rest) ≡ Ok (line, rest)
line_found most line rest h fits =
    rw (end_in_front line rest (most + 1) (omega arith), first_end line rest h, take-append_seam line (10 ∷ rest), drop-append-add line (10 ∷ rest) 1) refl

-- the input ends in a line
pub line_unended : (most : ℕ) (line : List ℕ) → HasNoEnd line → length line ≤ most → line_at most line ≡ (if length line == 0 then Err End else Err (Bad CutShort))
line_unended most line h fits =
    let front : take (most + 1) line ≡ line = take_all _ _ (omega arith) in
    let within : nat_lt most (length line) ≡ false = grind (arith, nat_tests) in
    rw (front, h, within) refl
