-- Maps from containers and names, and from keywords, after an insertion.
use Rattle.std.proofs.Common.{◌≡◌, ℕ, Bool, true, false, ◌&&◌, if◌then◌else◌, cond, List, Option, Some, None, refl, ap, ◌∙◌, arith, nat_eq, nat_lt, Vec}
use Rattle.std.proofs.lemmas.Bool.Decides.{nat_tests}
use Rattle.std.proofs.lemmas.Grind.{common_steps}
use Rattle.std.specs.Option.{option_or}
use Rattle.std.specs.Str.{bytes_eq}
use Rattle.std.specs.BTreeMap.{BTreeMap, IsEmpty, UpdatesBy, get, is_at}
use Rattle.std.specs.Map.{lookup}
use Rattle.std.specs.Ordering.{nat_cmp, is_eq}
use Rattle.std.specs.declared.alloc.Global.{Global}
use Rattle.zir_form.specs.Places.{place_in}
use Rattle.zir_form.specs.declared.table.ContainerRow.{ContainerRow}
use Rattle.zir_form.specs.declared.table.DeclarationRow.{DeclarationRow}
use Rattle.zir_form.specs.Tables.{in_members, is_container_row, is_row, member_in, number_in}

-- the order tells numbers apart as their test does
pub cmp_test : (a b : ℕ) → is_eq (nat_cmp a b) ≡ nat_eq a b
cmp_test a b = by_order (nat_lt a b) refl
  where
    by_order : (x : Bool) → nat_lt a b ≡ x → is_eq (nat_cmp a b) ≡ nat_eq a b
    by_order x e = grind (arith, common_steps, nat_tests)

choice : {X : Type 0} (b : Bool) (v : X) (o : Option X) → cond b (Some v) o ≡ option_or (if b then Some v else None) o
choice true v o = refl
choice false v o = refl

pub number_updated : (k v : ℕ) (old new : BTreeMap ℕ ℕ) → UpdatesBy nat_cmp (nat_cmp k) old new (Some v)
    → (q : ℕ) → number_in new q ≡ option_or (if nat_eq k q then Some v else None) (number_in old q)
unfolding number_in
number_updated k v old new h q =
    h.0 q ∙ ap (λ b. cond b (Some v) (get nat_cmp old q)) (cmp_test k q) ∙ choice (nat_eq k q) v (get nat_cmp old q)

pub row_placed : (r : ContainerRow) (v : ℕ) (old new : BTreeMap ℕ ℕ) → UpdatesBy nat_cmp (nat_cmp r.token) old new (Some v)
    → (q : ℕ) → number_in new q ≡ option_or (if is_container_row q r then Some v else None) (number_in old q)
unfolding is_container_row
row_placed r v old new h = number_updated r.token v old new h

pub number_in-empty : (m : BTreeMap ℕ ℕ) (q : ℕ) → IsEmpty m → number_in m q ≡ None
unfolding number_in
number_in-empty m q e = ap (λ (es : List (ℕ × ℕ)). lookup (is_at (nat_cmp q)) es) e

same_number : (a b : ℕ) → nat_eq a b ≡ true → a ≡ b
same_number a b e = grind (arith, nat_tests)

abbrev pub Names : Type 0
Names = BTreeMap (Vec ℕ Global) ℕ

-- names are taken out, given one more, and put back
pub entered : (k at : ℕ) (name : List ℕ) (old mid new : BTreeMap ℕ Names) (before after : Names)
    → ((cs : List ℕ) → place_in before cs ≡ in_members (get nat_cmp old k) cs)
    → ((q : ℕ) → nat_eq k q ≡ false → get nat_cmp mid q ≡ get nat_cmp old q)
    → ((cs : List ℕ) → place_in after cs ≡ (if bytes_eq name cs then Some at else place_in before cs))
    → UpdatesBy nat_cmp (nat_cmp k) mid new (Some after)
    → (c : ℕ) (cs : List ℕ) → member_in new c cs ≡ option_or (if nat_eq k c && bytes_eq name cs then Some at else None) (member_in old c cs)
unfolding member_in
entered k at name old mid new before after taken others given h c cs =
    ap (λ o. in_members o cs) (h.0 c ∙ ap (λ b. cond b (Some after) (get nat_cmp mid c)) (cmp_test k c)) ∙ by_test (nat_eq k c) refl
  where
    at_key : in_members (get nat_cmp old k) cs ≡ in_members (get nat_cmp old c) cs → place_in after cs ≡ option_or (if bytes_eq name cs then Some at else None) (in_members (get nat_cmp old c) cs)
    at_key e = given cs ∙ ap (λ o. if bytes_eq name cs then Some at else o) (taken cs ∙ e) ∙ choice (bytes_eq name cs) at (in_members (get nat_cmp old c) cs)

    by_test : (b : Bool) → nat_eq k c ≡ b
        → in_members (cond b (Some after) (get nat_cmp mid c)) cs ≡ option_or (if b && bytes_eq name cs then Some at else None) (in_members (get nat_cmp old c) cs)
    by_test true e = at_key (ap (λ (x : ℕ). in_members (get nat_cmp old x) cs) (same_number k c e))
    by_test false e = ap (λ o. in_members o cs) (others c e)

pub row_entered : (r : DeclarationRow) (at : ℕ) (name : List ℕ) (old mid new : BTreeMap ℕ Names) (before after : Names) → name ≡ r.name
    → ((cs : List ℕ) → place_in before cs ≡ in_members (get nat_cmp old r.container) cs)
    → ((q : ℕ) → nat_eq r.container q ≡ false → get nat_cmp mid q ≡ get nat_cmp old q)
    → ((cs : List ℕ) → place_in after cs ≡ (if bytes_eq name cs then Some at else place_in before cs))
    → UpdatesBy nat_cmp (nat_cmp r.container) mid new (Some after)
    → (c : ℕ) (cs : List ℕ) → member_in new c cs ≡ option_or (if is_row c cs r then Some at else None) (member_in old c cs)
unfolding is_row
row_entered r at name old mid new before after e taken others given h c cs =
    entered r.container at name old mid new before after taken others given h c cs
    ∙ ap (λ n. option_or (if nat_eq r.container c && bytes_eq n cs then Some at else None) (member_in old c cs)) e

pub member_in-empty : (m : BTreeMap ℕ Names) (c : ℕ) (cs : List ℕ) → IsEmpty m → member_in m c cs ≡ None
unfolding member_in
member_in-empty m c cs e = ap (λ o. in_members o cs) (ap (λ (es : List (ℕ × Names)). lookup (is_at (nat_cmp c)) es) e)
