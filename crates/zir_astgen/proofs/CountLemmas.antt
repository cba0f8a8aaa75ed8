-- Lists that are counted up row by row, node by node.
use Rattle.std.proofs.Common.{◌≡◌, ℕ, List, [], ◌∷◌, ◌++◌, length, get_or, ◌<◌, ◌≤◌, sym, ◌∙◌, ap, arith, append_assoc}
use Rattle.std.proofs.lemmas.List.{append-nil}
use Rattle.zig_tree.specs.declared.grammar.Rule.{Rule}
use Rattle.zig_tree.specs.declared.token.TokenKind.{TokenKind}
use Rattle.zig_tree.specs.declared.tree.Kid.{Kid}
use Rattle.zig_tree.specs.declared.tree.Kid.TheVariants as kid
use Rattle.zir_scope.specs.declared.outline.Outline.{Outline}
use Rattle.zir_scope.specs.Syntax.{Syntax, nothing, word, node, kind_at, rule_at, row_in, inside_of}
use Rattle.zir_astgen.proofs.IndexLemmas.{behind, behind_first}

-- a list that a row adds up from its nodes
pub record Counts {X : Type 0} (all : Syntax → List X) (one : Rule → Syntax → List X) : Type 0 where
  pub ended : all nothing ≡ []
  pub words : (t : ℕ) (k : TokenKind) (more : Syntax) → all (word t k more) ≡ all more
  pub nodes : (r : Rule) (inside more : Syntax) → all (node r inside more) ≡ one r inside ++ all more

pub count_done : {X : Type 0} (all : Syntax → List X) (one : Rule → Syntax → List X) (o : Outline) (rest : List Kid) (found whole : List X) → Counts all one → length rest < 1
    → found ++ all (row_in o rest) ≡ whole → found ≡ whole
unfolding row_in
count_done {X} all one o [] found whole c lt h = sym (append-nil found) ∙ ap (λ (l : List X). found ++ l) (sym c.ended) ∙ h
count_done all one o (k ∷ more) found whole c lt h = absurd (omega (arith, lt))

pub count_token : {X : Type 0} (all : Syntax → List X) (one : Rule → Syntax → List X) (o : Outline) (rest : List Kid) (none : Kid) (t : ℕ) (found whole : List X) → Counts all one → 1 ≤ length rest
    → get_or rest 0 none ≡ kid.Token t → found ++ all (row_in o rest) ≡ whole → found ++ all (row_in o (behind rest)) ≡ whole
unfolding row_in
count_token all one o [] none t found whole c le is h = absurd (omega (arith, le))
count_token {X} all one o (kid.Token u ∷ more) none t found whole c le is h =
    ap (λ (l : List Kid). found ++ all (row_in o l)) (behind_first (kid.Token u) more)
    ∙ ap (λ (l : List X). found ++ l) (sym (c.words u (kind_at o.tokens.now u) (row_in o more))) ∙ h
count_token all one o (kid.Node n ∷ more) none t found whole c le is h = absurd (cc)

pub count_node : {X : Type 0} (all : Syntax → List X) (one : Rule → Syntax → List X) (o : Outline) (rest : List Kid) (none : Kid) (n : ℕ) (found now whole : List X) → Counts all one → 1 ≤ length rest
    → get_or rest 0 none ≡ kid.Node n → now ≡ found ++ one (rule_at o.nodes.now n) (inside_of o n)
    → found ++ all (row_in o rest) ≡ whole → now ++ all (row_in o (behind rest)) ≡ whole
unfolding row_in inside_of
count_node all one o [] none n found now whole c le is e h = absurd (omega (arith, le))
count_node all one o (kid.Token u ∷ more) none n found now whole c le is e h = absurd (cc)
count_node {X} all one o (kid.Node m ∷ more) none n found now whole c le is e h =
    let same : m ≡ n = cc in
    let here : now ≡ found ++ one (rule_at o.nodes.now m) (inside_of o m) = e ∙ ap (λ (i : ℕ). found ++ one (rule_at o.nodes.now i) (inside_of o i)) (sym same) in
    ap (λ (l : List Kid). now ++ all (row_in o l)) (behind_first (kid.Node m) more)
    ∙ ap (λ (l : List X). l ++ all (row_in o more)) here
    ∙ append_assoc found (one (rule_at o.nodes.now m) (inside_of o m)) (all (row_in o more))
    ∙ ap (λ (l : List X). found ++ l) (sym (c.nodes (rule_at o.nodes.now m) (inside_of o m) (row_in o more))) ∙ h
