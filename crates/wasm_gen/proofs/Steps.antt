-- Code that is put behind other code, piece by piece.
use Rattle.std.proofs.Common.{◌≡◌, ℕ, ◌+◌, ◌<◌, ◌≤◌, true, false, List, [], ◌++◌, length, drop, get_or, Option, Some, None, refl, sym, ap, ◌∙◌, append_assoc, append-nil}
use Rattle.std.proofs.lemmas.List.{drop_more, drop_all}
use Rattle.std.specs.Prelude.{All}
use Rattle.std.specs.Option.{option_and_then}
use Rattle.type_form.specs.Known.{Known}
use Rattle.type_form.specs.Means.{Grows}
use Rattle.air_form.specs.declared.node.AirRef.{AirRef}
use Rattle.air_form.specs.declared.node.AirNode.{AirNode}
use Rattle.air_form.specs.Nodes.{IsNode}
use Rattle.air_form.specs.Denote.{air_at, as_statement, list_of, statement_of}
use Rattle.air_form.proofs.Trees.{air-grows}
use Rattle.wasm_form.specs.declared.instr.Instr.{Instr}
use Rattle.elab_form.specs.Code.{statement_code, statements_code, then_code}
use Rattle.wasm_gen.specs.Pieces.{onto, so_far}

some-same : (a b : List Instr) → Some a ≡ Some b → a ≡ b
some-same a b h = cc

-- a statement, and those behind it
pub step-goes : (old new : List Instr) (one rest : Option (List Instr)) → so_far true new ≡ onto old one
    → onto new rest ≡ onto old (option_and_then (then_code rest) one)
step-goes old new None rest e = absurd (cc)
step-goes old new (Some c) None e = refl
step-goes old new (Some c) (Some m) e =
    let is : new ≡ old ++ c = some-same new (old ++ c) e in
    ap (λ x. Some (x ++ m)) is ∙ ap Some (append_assoc old c m)

pub step-ends : (old new : List Instr) (one rest : Option (List Instr)) → so_far false new ≡ onto old one
    → None ≡ onto old (option_and_then (then_code rest) one)
step-ends old new None rest e = refl
step-ends old new (Some c) rest e = absurd (cc)

-- behind nothing
pub onto-nothing : (more : Option (List Instr)) → onto [] more ≡ more
onto-nothing None = refl
onto-nothing (Some c) = refl

-- with nothing behind it
pub onto-end : (code : List Instr) (old : List Instr) (all : Option (List Instr)) → onto code (Some []) ≡ onto old all → so_far true code ≡ onto old all
onto-end code old all e = ap Some (sym (append-nil code)) ∙ e

-- ---- statements of a list, by the readings of what is known and of what was known before

module _ (k l : Known) (g : Grows k l) (nodes : List AirNode) (h : All (IsNode k) nodes) (rs : List AirRef) (i : ℕ) (d : AirRef) (below : i < length rs) where
  -- the code of the statement here
  here : statement_code (statement_of (air_at l nodes) (get_or rs i d)) ≡ statement_code (statement_of (air_at k nodes) (get_or rs i d))
  here = ap (λ a. statement_code (as_statement a)) (air-grows k l nodes (get_or rs i d) g h)

  -- the statements from here on
  from_here : statements_code (list_of (air_at k nodes) (drop i rs))
      ≡ option_and_then (then_code (statements_code (list_of (air_at k nodes) (drop (i + 1) rs)))) (statement_code (statement_of (air_at k nodes) (get_or rs i d)))
  from_here = ap (λ xs. statements_code (list_of (air_at k nodes) xs)) (drop_more rs i d below)

  pub list-goes : (old code new : List Instr) (all : Option (List Instr)) → so_far true new ≡ onto code (statement_code (statement_of (air_at l nodes) (get_or rs i d)))
      → onto code (statements_code (list_of (air_at k nodes) (drop i rs))) ≡ onto old all
      → onto new (statements_code (list_of (air_at k nodes) (drop (i + 1) rs))) ≡ onto old all
  list-goes old code new all one rest =
      step-goes code new _ (statements_code (list_of (air_at k nodes) (drop (i + 1) rs))) (one ∙ ap (onto code) here) ∙ (ap (onto code) (sym from_here) ∙ rest)

  pub list-ends : (old code new : List Instr) (all : Option (List Instr)) → so_far false new ≡ onto code (statement_code (statement_of (air_at l nodes) (get_or rs i d)))
      → onto code (statements_code (list_of (air_at k nodes) (drop i rs))) ≡ onto old all
      → None ≡ onto old all
  list-ends old code new all one rest =
      step-ends code new _ (statements_code (list_of (air_at k nodes) (drop (i + 1) rs))) (one ∙ ap (onto code) here) ∙ (ap (onto code) (sym from_here) ∙ rest)

pub list-done : (k : Known) (nodes : List AirNode) (rs : List AirRef) (i : ℕ) (old code : List Instr) (all : Option (List Instr)) → length rs ≤ i
    → onto code (statements_code (list_of (air_at k nodes) (drop i rs))) ≡ onto old all
    → so_far true code ≡ onto old all
list-done k nodes rs i old code all h e =
    onto-end code old all (sym (ap (λ xs. onto code (statements_code (list_of (air_at k nodes) xs))) (drop_all i rs h)) ∙ e)
