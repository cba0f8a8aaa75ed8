-- Nodes of no role of their own.
use Rattle.std.proofs.Common.{◌≡◌, refl, ap, ◌∙◌, List}
use Rattle.zir_scope.specs.declared.roles.Role.{Role}
use Rattle.zir_scope.specs.declared.roles.Role.TheVariants as role
use Rattle.zir_scope.specs.declared.facts.Fact.{Fact}
use Rattle.zir_scope.specs.Syntax.{Syntax}
use Rattle.zir_scope.specs.Scoping.{Place, begun, begun_by, past_node, after_part}

begun_case : (facts : List Fact) (r : Role) (inside : Syntax) (p : Place) → (r ≡ role.Members → ⊥) → (r ≡ role.Container → ⊥) → begun_by r p ≡ begun facts r inside p
unfolding begun
begun_case facts role.Members inside p h k = absurd (h refl)
begun_case facts role.Container inside p h k = absurd (k refl)
begun_case facts _ inside p h k = refl

pub begun_other : (facts : List Fact) (r now : Role) (inside : Syntax) (p : Place) → (now ≡ role.Members → ⊥) → (now ≡ role.Container → ⊥) → now ≡ r → begun_by now p ≡ begun facts r inside p
begun_other facts r now inside p h k e = begun_case facts now inside p h k ∙ ap (λ (x : Role). begun facts x inside p) e

past_case : (facts : List Fact) (r : Role) (inside : Syntax) (p : Place) → (r ≡ role.Statement → ⊥) → (r ≡ role.Parameter → ⊥) → (r ≡ role.Captures → ⊥) → (r ≡ role.Prototype → ⊥)
    → after_part p.reading p ≡ past_node facts p r inside
unfolding past_node
past_case facts role.Statement inside p a b c d = absurd (a refl)
past_case facts role.Parameter inside p a b c d = absurd (b refl)
past_case facts role.Captures inside p a b c d = absurd (c refl)
past_case facts role.Prototype inside p a b c d = absurd (d refl)
past_case facts _ inside p a b c d = refl

pub past_other : (facts : List Fact) (r now : Role) (inside : Syntax) (p : Place) → (now ≡ role.Statement → ⊥) → (now ≡ role.Parameter → ⊥) → (now ≡ role.Captures → ⊥) → (now ≡ role.Prototype → ⊥)
    → now ≡ r → after_part p.reading p ≡ past_node facts p r inside
past_other facts r now inside p a b c d e = past_case facts now inside p a b c d ∙ ap (λ (x : Role). past_node facts p x inside) e
