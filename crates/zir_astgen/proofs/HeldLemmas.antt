-- What a row holds for a part, node by node.
use Rattle.std.proofs.Common.{◌≡◌, ℕ, Bool, true, false, if◌then◌else◌, List, [], ◌∷◌, ◌++◌, refl}
use Rattle.zig_tree.specs.declared.grammar.Rule.{Rule}
use Rattle.zig_tree.specs.declared.grammar.Rule.TheVariants as rule
use Rattle.zig_tree.specs.declared.token.TokenKind.{TokenKind}
use Rattle.zig_tree.specs.Kinds.{is_rule}
use Rattle.zir_scope.specs.Roles.{role_of}
use Rattle.zir_scope.specs.Syntax.{Syntax, nothing, word, node}
use Rattle.zir_astgen.proofs.CountLemmas.{Counts}
use Rattle.zir_astgen.specs.Held.{containers_of, locals_of}
use Rattle.zir_astgen.specs.Outline.{declares, own_containers, own_locals}
use Rattle.zir_astgen.specs.Parts.{lead_of}
use Rattle.zir_astgen.specs.Trees.{is_apart}

pub locals_end : own_locals nothing ≡ []
unfolding own_locals
locals_end = refl

pub locals_word : (t : ℕ) (k : TokenKind) (more : Syntax) → own_locals (word t k more) ≡ own_locals more
unfolding own_locals
locals_word t k more = refl

choice : (b : Bool) (x y : List ℕ) → (if b then y else x ++ y) ≡ (if b then [] else x) ++ y
choice true x y = refl
choice false x y = refl

pub locals_node : (r : Rule) (inside more : Syntax) → own_locals (node r inside more) ≡ locals_of r inside ++ own_locals more
unfolding own_locals locals_of
locals_node r inside more = choice (is_apart r) (declares (role_of r) inside ++ own_locals inside) (own_locals more)

pub locals_count : Counts own_locals locals_of
locals_count = record { ended = locals_end; words = locals_word; nodes = locals_node }

pub containers_end : own_containers nothing ≡ []
unfolding own_containers
containers_end = refl

pub containers_word : (t : ℕ) (k : TokenKind) (more : Syntax) → own_containers (word t k more) ≡ own_containers more
unfolding own_containers
containers_word t k more = refl

either : (a b : Bool) (x : ℕ) (y z : List ℕ) → (if a then z else (if b then x ∷ y ++ z else y ++ z)) ≡ (if a then [] else (if b then x ∷ y else y)) ++ z
either true b x y z = refl
either false true x y z = refl
either false false x y z = refl

pub containers_node : (r : Rule) (inside more : Syntax) → own_containers (node r inside more) ≡ containers_of r inside ++ own_containers more
unfolding own_containers containers_of
containers_node r inside more = either (is_rule r rule.Declaration) (is_rule r rule.Container) (lead_of inside) (own_containers inside) (own_containers more)

pub containers_count : Counts own_containers containers_of
containers_count = record { ended = containers_end; words = containers_word; nodes = containers_node }
