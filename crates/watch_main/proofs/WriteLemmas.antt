-- What a sink has taken, piece after piece.
use Rattle.std.proofs.Common.{◌≡◌, ℕ, ◌+◌, ◌-◌, ◌≤◌, List, [], ◌∷◌, ◌++◌, length, take, drop, Option, None, Some, refl, ap, sym, ◌∙◌, append_assoc, arith}
use Rattle.std.specs.Option.{option_map}
use Rattle.std.proofs.lemmas.List.{take-append-drop}
use Rattle.std.proofs.Common.{Bool, true, inr, codes, Result, Ok, Err, OnErr}
use Rattle.std.proofs.lemmas.Fmt.{decimal_digit}
use Rattle.std.specs.List.{concat}
use Rattle.watch_core.specs.declared.session.Update.TheVariants as update
use Rattle.zw_base.specs.declared.status.Status.TheVariants as status
use Rattle.watch_core.specs.declared.session.Update.{Update}
use Rattle.zw_base.specs.Outside.{Rose}
use Rattle.watch_main.specs.AnswerText.{update_text}
use Rattle.watch_main.specs.Steps.{taken_with, TookFront, Ends, first_answer}
use Rattle.watch_main.proofs.MemoryLemmas.{memory_text}

-- two pieces, one behind the other
pub taken_with-append : (taken : Option (List ℕ)) (first second : List ℕ) → taken_with (taken_with taken first) second ≡ taken_with taken (first ++ second)
taken_with-append None first second = refl
taken_with-append (Some before) first second = ap Some (append_assoc before first second)

-- a piece that was taken, and the rest of what is to be written
pub moved : (bytes written rest next : List ℕ) (n : ℕ) (first now later : Option (List ℕ)) → bytes ≡ written ++ rest → now ≡ taken_with first written → next ≡ drop n rest → later ≡ option_map (λ taken. taken ++ take n rest) now → (bytes ≡ (written ++ take n rest) ++ next) × (later ≡ taken_with first (written ++ take n rest))
moved bytes written rest next n first now later whole so_far back step = (
  whole ∙ ap (λ r. written ++ r) (sym (take-append-drop n rest)) ∙ sym (append_assoc written (take n rest) (drop n rest)) ∙ ap (λ r. (written ++ take n rest) ++ r) (sym back),
  step ∙ ap (λ t. taken_with t (take n rest)) so_far ∙ taken_with-append first written (take n rest),
)

-- the sink failed in the first of two pieces
pub front_of_first : (old new : Option (List ℕ)) (first second : List ℕ) → TookFront old new first → TookFront old new (first ++ second)
front_of_first old new first second t = record {
  written = t.written;
  rest = t.rest ++ second;
  whole = ap (λ bytes. bytes ++ second) t.whole ∙ append_assoc t.written t.rest second;
  taken = t.taken;
}

-- the sink took the first of two pieces, and failed in the second
pub front_of_second : (old mid new : Option (List ℕ)) (first second : List ℕ) → mid ≡ taken_with old first → TookFront mid new second → TookFront old new (first ++ second)
front_of_second old mid new first second e t = record {
  written = first ++ t.written;
  rest = t.rest;
  whole = ap (λ bytes. first ++ bytes) t.whole ∙ sym (append_assoc first t.written t.rest);
  taken = t.taken ∙ ap (λ taken. taken_with taken t.written) e ∙ taken_with-append old first t.written;
}

-- the sink failed in an answer's text
pub fault_ends : (memory : Bool) (old new : Option (List ℕ)) (text : List ℕ) (answer : Update) → text ≡ update_text 1 (first_answer memory answer) → TookFront old new text → Ends status.WriteFault old new answer
fault_ends memory old new text answer is t = record { memory = memory; written = t.written; taken = t.taken; fits = (t.rest, sym is ∙ t.whole) }

-- it was written that the first update found no memory
pub memory_ends : (old new : Option (List ℕ)) (answer : Update) → new ≡ taken_with old (codes "update 1 memory\n") → Ends status.Memory old new answer
memory_ends old new answer e = record { memory = true; written = codes "update 1 memory\n"; taken = e; fits = (sym memory_text, refl) }

-- the sink failed on the way
pub memory_fault_ends : (old new : Option (List ℕ)) (answer : Update) → TookFront old new (codes "update 1 memory\n") → Ends status.WriteFault old new answer
memory_fault_ends old new answer t = fault_ends true old new _ answer (sym memory_text) t

-- a clause on an error, from what follows from it
pub OnErr-weaken : {T E P Q : Type 0} (r : Result T E) → (Q → P) → OnErr r Q → OnErr r P
OnErr-weaken (Ok x) f q = tt
OnErr-weaken (Err e) f q = f q

-- a count of faults that rose stays risen as it grows
pub Rose-later : (first now later : ℕ) → first ≤ now → Rose now later → Rose first later
Rose-later first now later h rose = omega arith
