-- Where the bytes behind a line are read: how each way out agrees with the bytes that were left.
use Rattle.std.proofs.Common.{◌≡◌, ℕ, ◌+◌, nat_le, false, List, [], ◌∷◌, ◌++◌, length, take, drop, get_or, Option, None, Some, Ok, refl, append_assoc, arith, length-append}
use Rattle.std.proofs.lemmas.Bool.Decides.{nat_tests}
use Rattle.std.proofs.Math.Seq.{take-add, take-append_seam, drop-append-add}
use Rattle.std.specs.Option.{option_map}
use Rattle.script_read.specs.Script.{content_at}
use Rattle.script_read.specs.Reads.{Reads}
use Rattle.script_read.proofs.LineReads.{more_read}

pub get_seam : (content : List ℕ) (b : ℕ) (rest : List ℕ) → get_or (content ++ b ∷ rest) (length content) 0 ≡ b
get_seam [] b rest = refl
get_seam (x ∷ content) b rest = get_seam content b rest

more_than : (content : List ℕ) (b : ℕ) (rest : List ℕ) → nat_le (length (content ++ b ∷ rest)) (length content) ≡ false
more_than content b rest = let e : length (content ++ b ∷ rest) ≡ length content + length (b ∷ rest) = length-append content (b ∷ rest) in grind (arith, nat_tests)

content_found_at : (content rest : List ℕ) → content_at (length content) (content ++ 10 ∷ rest) ≡ Ok (content, rest)
content_found_at content rest =
    rw (more_than content 10 rest, get_seam content 10 rest, take-append_seam content (10 ∷ rest), drop-append-add content (10 ∷ rest) 1) refl

pub content_found : (len : ℕ) (content rest : List ℕ) → length content ≡ len → content_at len (content ++ 10 ∷ rest) ≡ Ok (content, rest)
content_found len content rest e = rw (← e) (content_found_at content rest)

whole_at : {X : Type 0} (view : X → List ℕ) (len : ℕ) (new : Option (List ℕ)) (x : X) → length (view x) ≡ len → Reads view (content_at len) (option_map (λ rest. (view x ++ 10 ∷ []) ++ rest) new) new (Ok x)
whole_at view len None x e = tt
whole_at view len (Some rest) x e = (rest, refl, rw (append_assoc (view x) (10 ∷ []) rest) (content_found len (view x) rest e))

pub content_whole : {X : Type 0} (view : X → List ℕ) (len : ℕ) (old mid new : Option (List ℕ)) (x : X) → old ≡ option_map (λ rest. view x ++ rest) mid → mid ≡ option_map (λ rest. (10 ∷ []) ++ rest) new → length (view x) ≡ len → Reads view (content_at len) old new (Ok x)
content_whole view len old mid new x e f is = rw (more_read old mid new (view x) (10 ∷ []) e f) (whole_at view len new x is)

-- one more part behind what came before
pub more_came : (old mid new : Option (List ℕ)) (at n : ℕ) (before after : List ℕ) → old ≡ option_map (λ rest. take at before ++ rest) mid →
    mid ≡ option_map (λ rest. take n (drop at after) ++ rest) new → take at after ≡ take at before → old ≡ option_map (λ rest. take (at + n) after ++ rest) new
more_came old mid new at n before after e f same = rw (take-add at n after, same) (more_read old mid new (take at before) (take n (drop at after)) e f)
