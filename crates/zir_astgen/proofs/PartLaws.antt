-- Places, and what is apart.
use Rattle.std.proofs.Common.{◌≡◌, ℕ, ◌+◌, ◌-◌, refl, arith}
use Rattle.zig_tree.specs.declared.grammar.Rule.TheVariants as rule
use Rattle.zig_tree.specs.Kinds.{number_of_rule}
use Rattle.zir_scope.specs.Syntax.{Syntax, node}
use Rattle.zir_astgen.specs.Files.{start_of}
use Rattle.zir_astgen.specs.Outline.{own_containers, own_locals}
use Rattle.zir_astgen.specs.Parts.{lead_of}
use Rattle.zir_astgen.specs.Site.{File, Site, offset}
use Rattle.zir_astgen.specs.Statements.{container_at}
use Rattle.zir_astgen.specs.Trees.{apart, is_apart}

shifted : (a b o n : ℕ) → b ≡ a + n → b - (o + n) ≡ a - o
shifted a b o n e = omega arith

pub places : (f g : File) (s : Site) (n t : ℕ) → start_of g t ≡ start_of f t + n → offset g (record s { origin = s.origin + n }) t ≡ offset f s t
unfolding start_of offset
places f g s n t e = shifted _ _ s.origin n e

pub container_tree : (f : File) (s : Site) (inside : Syntax) → apart f s rule.Container inside ≡ container_at f s (lead_of inside)
unfolding apart number_of_rule
container_tree f s inside = refl

pub container_locals : (inside more : Syntax) → own_locals (node rule.Container inside more) ≡ own_locals more
unfolding own_locals is_apart number_of_rule
container_locals inside more = refl

pub declaration_containers : (inside more : Syntax) → own_containers (node rule.Declaration inside more) ≡ own_containers more
unfolding own_containers number_of_rule
declaration_containers inside more = refl

pub ruleset part_laws = (places, container_tree, container_locals, declaration_containers)
