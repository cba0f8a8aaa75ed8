-- The alternatives that the parser takes are those that may be taken by the grammar.
use Rattle.std.proofs.Common.{◌≡◌, Bool, true, false, List, [], ◌∷◌, map, Some, refl, sym, ◌∙◌, ap, inl, inr}
use Rattle.std.specs.Prelude.{if◌then◌else◌}
use Rattle.zig_tree.specs.declared.token.TokenKind.{TokenKind}
use Rattle.zig_tree.specs.declared.grammar.Part.{Part}
use Rattle.zig_tree.specs.declared.grammar.When.{When}
use Rattle.zig_tree.specs.declared.grammar.When.TheVariants as when
use Rattle.zig_tree.specs.Grammar.{Alternative, holds}
use Rattle.zig_tree.specs.GrammarSentences.{next_kind, second_kind, first_that_holds, with_shared, open_at, Among}
use Rattle.zig_parse.specs.Choices.{choices, matching, is_shared, first_parts, taken}
use Rattle.zig_parse.specs.Growth.{picked}
use Rattle.zig_parse.proofs.Spelled.{here}

-- the parts of alternatives
abbrev pub parts_in : List Alternative → List (List Part)
parts_in rows = map (λ (a : Alternative). a.parts) rows

first_if : (tokens : List TokenKind) (a : Alternative) (more : List Alternative) (t : Bool) → first_parts (matching (here tokens) more) ≡ parts_in (first_that_holds tokens more)
    → first_parts (if t then a ∷ more else matching (here tokens) more) ≡ parts_in (if t then a ∷ [] else first_that_holds tokens more)
first_if tokens a more true h = refl
first_if tokens a more false h = h

first_as : (tokens : List TokenKind) (rows : List Alternative) → first_parts (matching (here tokens) rows) ≡ parts_in (first_that_holds tokens rows)
unfolding matching
first_as tokens [] = refl
first_as tokens (a ∷ more) = first_if tokens a more (holds (next_kind tokens) (second_kind tokens) a.at) (first_as tokens more)

shared_as : (tokens : List TokenKind) (a : Alternative) (w : When) (more : List Alternative) → a.parts ∷ (if is_shared w then first_parts (matching (here tokens) more) else []) ≡ parts_in (with_shared tokens a w more)
shared_as tokens a (when.Both _) more = ap (λ (l : List (List Part)). a.parts ∷ l) (first_as tokens more)
shared_as tokens a when.Always more = refl
shared_as tokens a (when.Is _) more = refl
shared_as tokens a (when.In _) more = refl
shared_as tokens a when.Label more = refl

open_if : (tokens : List TokenKind) (a : Alternative) (more : List Alternative) (t : Bool) → taken (here tokens) (matching (here tokens) more) ≡ parts_in (open_at tokens more)
    → taken (here tokens) (if t then a ∷ more else matching (here tokens) more) ≡ parts_in (if t then with_shared tokens a a.at more else open_at tokens more)
open_if tokens a more true h = shared_as tokens a a.at more
open_if tokens a more false h = h

taken_as : (tokens : List TokenKind) (rows : List Alternative) → taken (here tokens) (matching (here tokens) rows) ≡ parts_in (open_at tokens rows)
unfolding matching
taken_as tokens [] = refl
taken_as tokens (a ∷ more) = open_if tokens a more (holds (next_kind tokens) (second_kind tokens) a.at) (taken_as tokens more)

-- the parser's choices at some tokens are the alternatives open there
pub choices_as : (tokens : List TokenKind) (rows : List Alternative) → choices (here tokens) rows ≡ parts_in (open_at tokens rows)
unfolding choices
choices_as tokens rows = taken_as tokens rows

some_parts : (second : Bool) (rows : List Alternative) (ps : List Part) → picked second (parts_in rows) ≡ Some ps → (a : Alternative) × Among a rows × (a.parts ≡ ps)
unfolding picked
some_parts second [] ps h = absurd (cc)
some_parts second (a ∷ []) ps h = (a, inl refl, cc)
some_parts true (a ∷ b ∷ more) ps h = (b, inr (inl refl), cc)
some_parts false (a ∷ b ∷ more) ps h = (a, inl refl, cc)

-- what is picked is one of them
pub picked_open : (tokens : List TokenKind) (second : Bool) (rows : List Alternative) (ps : List Part) → picked second (choices (here tokens) rows) ≡ Some ps → (a : Alternative) × Among a (open_at tokens rows) × (a.parts ≡ ps)
picked_open tokens second rows ps h = some_parts second (open_at tokens rows) ps (ap (picked second) (sym (choices_as tokens rows)) ∙ h)
