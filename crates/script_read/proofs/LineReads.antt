-- Where a line is read byte by byte: how each way out agrees with the bytes that were left.
use Rattle.std.proofs.Common.{◌≡◌, ℕ, ◌≤◌, ◌==◌, false, List, [], ◌∷◌, ◌++◌, length, Option, None, Some, Ok, Err, refl, ◌∙◌, append_assoc, arith, inl, inr}
use Rattle.std.proofs.lemmas.Bool.Decides.{nat_tests}
use Rattle.std.specs.Option.{option_map}
use Rattle.script_read.specs.declared.command.Refusal.TheVariants.{ReadFault}
use Rattle.script_read.specs.Line.{HasNoEnd, line_at}
use Rattle.script_read.specs.Reads.{Reads, IsUnfinished}
use Rattle.script_read.proofs.Lines.{line_found, line_unended}

-- what was read so far, and then one more piece
pub more_read : (old mid new : Option (List ℕ)) (front piece : List ℕ) → old ≡ option_map (λ rest. front ++ rest) mid → mid ≡ option_map (λ rest. piece ++ rest) new → old ≡ option_map (λ rest. (front ++ piece) ++ rest) new
more_read old mid None front piece e f = rw (e, f) refl
more_read old mid (Some rest) front piece e f = rw (e, f, append_assoc front piece rest) refl

-- a line that is not ended is unfinished
pub unended : (most : ℕ) (line : List ℕ) → HasNoEnd line → length line ≤ most → IsUnfinished (line_at most line)
unended most [] h fits = inl (line_unended most [] h fits)
unended most (b ∷ line) h fits =
    let some : (length (b ∷ line) == 0) ≡ false = grind (arith, nat_tests) in
    inr (line_unended most (b ∷ line) h fits ∙ rw some refl)

line_fault_at : {X : Type 0} (view : X → List ℕ) (most : ℕ) (new : Option (List ℕ)) (line : List ℕ) → HasNoEnd line → length line ≤ most → Reads view (line_at most) (option_map (λ rest. line ++ rest) new) new (Err ReadFault)
line_fault_at view most None line h fits = tt
line_fault_at view most (Some rest) line h fits = (line, rest, refl, refl, unended most line h fits)

pub line_fault : {X : Type 0} (view : X → List ℕ) (most : ℕ) (old new : Option (List ℕ)) (line : List ℕ) → old ≡ option_map (λ rest. line ++ rest) new → HasNoEnd line → length line ≤ most → Reads view (line_at most) old new (Err ReadFault)
line_fault view most old new line e h fits = rw e (line_fault_at view most new line h fits)

line_whole_at : {X : Type 0} (view : X → List ℕ) (most : ℕ) (new : Option (List ℕ)) (x : X) → HasNoEnd (view x) → length (view x) ≤ most → Reads view (line_at most) (option_map (λ rest. (view x ++ 10 ∷ []) ++ rest) new) new (Ok x)
line_whole_at view most None x h fits = tt
line_whole_at view most (Some rest) x h fits = (rest, refl, rw (append_assoc (view x) (10 ∷ []) rest) (line_found most (view x) rest h fits))

pub line_whole : {X : Type 0} (view : X → List ℕ) (most : ℕ) (old mid new : Option (List ℕ)) (x : X) → old ≡ option_map (λ rest. view x ++ rest) mid → mid ≡ option_map (λ rest. (10 ∷ []) ++ rest) new → HasNoEnd (view x) → length (view x) ≤ most → Reads view (line_at most) old new (Ok x)
line_whole view most old mid new x e f h fits = rw (more_read old mid new (view x) (10 ∷ []) e f) (line_whole_at view most new x h fits)
