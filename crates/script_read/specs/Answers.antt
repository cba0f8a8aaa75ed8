-- Answers of functions on lists of bytes, and of the code that computes them.
use Rattle.std.specs.Prelude.{◌≡◌, Result, Ok, Err}
use Rattle.script_read.specs.declared.command.Refusal.{Refusal}
use Rattle.script_read.specs.declared.command.Refusal.TheVariants.{End, Bad, Over, ReadFault, OutOfMemory}

-- a first step, and then the next on what it gives; the first refusal is the answer
infixl 10 ◌>>=◌
abbrev pub ◌>>=◌ : {A B : Type 0} → Result A Refusal → (A → Result B Refusal) → Result B Refusal
(Ok x) >>= next = next x
(Err e) >>= next = Err e

-- an answer, by a view of its value
abbrev pub shown : {X A : Type 0} → (X → A) → Result X Refusal → Result A Refusal
shown view (Ok x) = Ok (view x)
shown view (Err e) = Err e

-- What a call answers is what the definition gives, unless it has no memory.
abbrev pub Refuses : {A : Type 0} → Refusal → Result A Refusal → Type 0
Refuses OutOfMemory given = Unit {0}
Refuses ReadFault given = given ≡ Err ReadFault
Refuses End given = given ≡ Err End
Refuses (Bad reason) given = given ≡ Err (Bad reason)
Refuses (Over which) given = given ≡ Err (Over which)

abbrev pub Gives : {A : Type 0} → Result A Refusal → Result A Refusal → Type 0
Gives (Ok x) given = given ≡ Ok x
Gives (Err e) given = Refuses e given
