-- The index that stands for a tree is found among the pairs that are known.
use Rattle.std.proofs.Common.{◌≡◌, ℕ, ◌==◌, Bool, true, false, Some, None, Option, List, [], ◌∷◌, refl, sym, ap, ◌∙◌, subst, if◌then◌else◌}
use Rattle.std.specs.Option.{option_map, option_and_then}
use Rattle.std.specs.Str.{bytes_eq}
use Rattle.std.proofs.lemmas.Bool.{eqb-true}
use Rattle.std.proofs.lemmas.Slice.Eq.{bytes_eq-Decides}
use Rattle.type_form.specs.declared.index.Index.{Index}
use Rattle.type_form.specs.declared.unit.Instance.{Instance}
use Rattle.type_form.specs.declared.unit.Unit.{Unit as AnyUnit}
use Rattle.type_form.specs.declared.unit.Unit.TheVariants as unit
use Rattle.type_form.specs.Known.{Known, words_at, key_at, IsInjective}
use Rattle.type_form.specs.Words.{key_of}
use Rattle.type_form.specs.Denote.{bytes_of, denoted, node_of, as_ty, as_decl, as_instance, as_list, ty_in, decl_in, instance_in, list_in, bytes_in}
use Rattle.type_form.specs.Means.{IsTy, ty_at, IsDecl, decl_at, IsInstance, instance_at, IsBytes, bytes_at}
use Rattle.type_form.proofs.Depth.{denoted-is}
use Rattle.type_form.proofs.LayerLemmas.{ty_at-injective, decl_at-injective, instance_at-injective, bytes_at-injective}
use Rattle.type_form.proofs.MeansLemmas.{ty_whole, decl_whole, instance_whole, bytes_whole, ty_part, decl_part, instance_part, bytes_part}
use Rattle.elab_form.specs.Questions.{same_unit}
use Rattle.elab_form.proofs.Sameness.{same_unit-self, same_unit-true}
use Rattle.trace_log.specs.declared.question.UnitIndex.{UnitIndex}
use Rattle.trace_log.specs.declared.question.UnitIndex.TheVariants as index
use Rattle.trace_log.specs.Indices.{index_where, is_some_that, has_bytes, has_unit, bytes_index, unit_index}
use Rattle.trace_log.specs.Readings.{IsUnit, unit_at}

-- ---- the first index that a test takes

pub where-found : (k : Known) (test : Index → Bool) (i : Index) → (words_at k i ≡ None → ⊥) → test i ≡ true → ((j : Index) → test j ≡ true → j ≡ i)
    → index_where k test ≡ Some i
where-found [] test i there takes only = absurd (there refl)
where-found (p ∷ ps) test i there takes only =
    by_test (test p.0) refl (p.0.0 == i.0) refl
    (λ f. where-found ps test i (λ g. there (ap (λ (c : Bool). if c then Some p.1 else words_at ps i) f ∙ g)) takes only)
  where
    by_test : (b : Bool) → test p.0 ≡ b → (c : Bool) → (p.0.0 == i.0) ≡ c → ((p.0.0 == i.0) ≡ false → index_where ps test ≡ Some i)
        → (if b then Some p.0 else index_where ps test) ≡ Some i
    by_test true e c f later = ap Some (only p.0 e)
    by_test false e true f later =
        let one : p.0 ≡ i = ap (λ n. record { 0 = n }) (eqb-true p.0.0 i.0 f) in
        let taken : test p.0 ≡ true = ap test one ∙ takes in
        absurd (cc)
    by_test false e false f later = later f

pub where-taken : (k : Known) (test : Index → Bool) (i : Index) → index_where k test ≡ Some i → test i ≡ true
where-taken [] test i e = absurd (cc)
where-taken (p ∷ ps) test i e = by_test (test p.0) refl e (where-taken ps test i)
  where
    by_test : (b : Bool) → test p.0 ≡ b → (if b then Some p.0 else index_where ps test) ≡ Some i → (index_where ps test ≡ Some i → test i ≡ true) → test i ≡ true
    by_test true f g later = let one : p.0 ≡ i = cc in ap test (sym one) ∙ f
    by_test false f g later = later g

that-tells : {A : Type 0} (test : A → Bool) (o : Option A) → is_some_that test o ≡ true → (x : A) × (o ≡ Some x) × (test x ≡ true)
that-tells test None e = absurd (cc)
that-tells test (Some x) e = (x, refl, e)

-- ---- what stands for a tree is among the pairs

-- an index without words denotes nothing
no-words : (k : Known) (i : Index) → words_at k i ≡ None → denoted k i ≡ None
unfolding key_at
no-words k i e = denoted-is k i ∙ ap (λ w. option_and_then (node_of (denoted k)) (option_and_then key_of w)) e

ty-there : (k : Known) (i : Index) → IsTy k i → words_at k i ≡ None → ⊥
unfolding ty_in
ty-there k i h e = let none : ty_in (denoted k) i ≡ None = ap (option_and_then as_ty) (no-words k i e) in let some : ty_in (denoted k) i ≡ Some (ty_at k i) = ty_whole k i h in cc

decl-there : (k : Known) (i : Index) → IsDecl k i → words_at k i ≡ None → ⊥
unfolding decl_in
decl-there k i h e = let none : decl_in (denoted k) i ≡ None = ap (option_and_then as_decl) (no-words k i e) in let some : decl_in (denoted k) i ≡ Some (decl_at k i) = decl_whole k i h in cc

instance-there : (k : Known) (i : Index) → IsInstance k i → words_at k i ≡ None → ⊥
unfolding instance_in
instance-there k i h e = let none : instance_in (denoted k) i ≡ None = ap (option_and_then as_instance) (no-words k i e) in let some : instance_in (denoted k) i ≡ Some (instance_at k i) = instance_whole k i h in cc

bytes-there : (k : Known) (i : Index) → IsBytes k i → words_at k i ≡ None → ⊥
unfolding bytes_in list_in
bytes-there k i h e =
    let none : bytes_in (denoted k) i ≡ None = ap (λ n. option_and_then bytes_of (option_and_then as_list n)) (no-words k i e) in
    let some : bytes_in (denoted k) i ≡ Some (bytes_at k i) = bytes_whole k i h in
    cc

-- ---- units and bytes

module _ {A : Type 0} (k : Known) (of : A → AnyUnit) (one : (x y : A) → of x ≡ of y → x ≡ y) (found : Index → Option A) (at : Index → A) (Is : Index → Type 0)
    (part : (i : Index) (x : A) → found i ≡ Some x → Is i × (x ≡ at i)) where
  unit-taken : (i : Index) (u : A) → has_unit of (of u) (found i) ≡ true → Is i × (at i ≡ u)
  unfolding has_unit
  unit-taken i u e =
      let t = that-tells (λ x. same_unit (of x) (of u)) (found i) e in
      let p = part i t.0 t.1 in
      (p.0, sym p.1 ∙ one t.0 u (same_unit-true (of t.0) (of u) t.2))

  unit-found : (u : A) (i : Index) → index_where k (λ j. has_unit of (of u) (found j)) ≡ Some i → Is i × (at i ≡ u)
  unit-found u i e = unit-taken i u (where-taken k (λ j. has_unit of (of u) (found j)) i e)

  unit-where : ((i : Index) → Is i → found i ≡ Some (at i)) → ((i : Index) → Is i → words_at k i ≡ None → ⊥) → ((i j : Index) → Is i → Is j → at i ≡ at j → i ≡ j)
      → (i : Index) → Is i → index_where k (λ j. has_unit of (of (at i)) (found j)) ≡ Some i
  unfolding has_unit
  unit-where whole there injective i h =
      where-found k (λ j. has_unit of (of (at i)) (found j)) i (there i h)
      (ap (is_some_that (λ x. same_unit (of x) (of (at i)))) (whole i h) ∙ same_unit-self (of (at i)))
      (λ j e. let t = unit-taken j (at i) e in injective j i t.0 h t.1)

-- one of each kind of unit
module _ (k : Known) (g : IsInjective k) where
  decl-where : (i : Index) → IsDecl k i → index_where k (λ j. has_unit unit.Decl (unit.Decl (decl_at k i)) (decl_in (denoted k) j)) ≡ Some i
  decl-where i h = unit-where k unit.Decl (λ x y e. cc) (decl_in (denoted k)) (decl_at k) (IsDecl k) (decl_part k) (decl_whole k) (decl-there k) (λ i j a b e. decl_at-injective k i j g a b e) i h

  fields-where : (i : Index) → IsTy k i → index_where k (λ j. has_unit unit.Fields (unit.Fields (ty_at k i)) (ty_in (denoted k) j)) ≡ Some i
  fields-where i h = unit-where k unit.Fields (λ x y e. cc) (ty_in (denoted k)) (ty_at k) (IsTy k) (ty_part k) (ty_whole k) (ty-there k) (λ i j a b e. ty_at-injective k i j g a b e) i h

  instance-where : (of : Instance → AnyUnit) → ((x y : Instance) → of x ≡ of y → x ≡ y) → (i : Index) → IsInstance k i
      → index_where k (λ j. has_unit of (of (instance_at k i)) (instance_in (denoted k) j)) ≡ Some i
  instance-where of one i h = unit-where k of one (instance_in (denoted k)) (instance_at k) (IsInstance k) (instance_part k) (instance_whole k) (instance-there k) (λ i j a b e. instance_at-injective k i j g a b e) i h

  pub bytes_index-at : (i : Index) → IsBytes k i → bytes_index k (bytes_at k i) ≡ Some i
  unfolding bytes_index has_bytes
  bytes_index-at i h =
      where-found k (has_bytes k (bytes_at k i)) i (bytes-there k i h)
      (ap (is_some_that (λ b. bytes_eq b (bytes_at k i))) (bytes_whole k i h) ∙ (bytes_eq-Decides (bytes_at k i) (bytes_at k i)).1 refl)
      (λ j e.
      let t = that-tells (λ b. bytes_eq b (bytes_at k i)) (bytes_in (denoted k) j) e in
      let p = bytes_part k j t.0 t.1 in
      bytes_at-injective k j i g p.0 h (sym p.1 ∙ (bytes_eq-Decides t.0 (bytes_at k i)).0 t.2))

  -- the unit by indices that a unit is, is the one that stands for it
  pub unit_index-at : (u : UnitIndex) → IsUnit k u → unit_index k (unit_at k u) ≡ Some u
  unfolding unit_index
  unit_index-at (index.Decl i) h = ap (option_map index.Decl) (decl-where i h)
  unit_index-at (index.Body i) h = ap (option_map index.Body) (instance-where unit.Body (λ x y e. cc) i h)
  unit_index-at (index.ErrorSet i) h = ap (option_map index.ErrorSet) (instance-where unit.ErrorSet (λ x y e. cc) i h)
  unit_index-at (index.Fields i) h = ap (option_map index.Fields) (fields-where i h)
  unit_index-at (index.Code i) h = ap (option_map index.Code) (instance-where unit.Code (λ x y e. cc) i h)
  unit_index-at (index.Comptime file n) h = ap (option_map (λ i. index.Comptime i n)) (bytes_index-at file h)

pub bytes_index-is : (k : Known) (b : List ℕ) (i : Index) → bytes_index k b ≡ Some i → IsBytes k i × (bytes_at k i ≡ b)
unfolding bytes_index has_bytes
bytes_index-is k b i e =
    let t = that-tells (λ c. bytes_eq c b) (bytes_in (denoted k) i) (where-taken k (has_bytes k b) i e) in
    let p = bytes_part k i t.0 t.1 in
    (p.0, sym p.1 ∙ (bytes_eq-Decides t.0 b).0 t.2)

-- what an answer of a look-up comes from
map-tells : {A B : Type 0} (f : A → B) (o : Option A) (y : B) → option_map f o ≡ Some y → (x : A) × (o ≡ Some x) × (f x ≡ y)
map-tells f None y e = absurd (cc)
map-tells f (Some x) y e = (x, refl, cc)

-- a unit by indices that a unit is stands for it
pub record IsThat (k : Known) (u : UnitIndex) (x : AnyUnit) : Type 0 where
  pub known : IsUnit k u
  pub is : unit_at k u ≡ x

instance-is : (k : Known) (of : Instance → AnyUnit) → ((x y : Instance) → of x ≡ of y → x ≡ y) → (n : Instance) (i : Index)
    → index_where k (λ j. has_unit of (of n) (instance_in (denoted k) j)) ≡ Some i → IsInstance k i × (instance_at k i ≡ n)
instance-is k of one n i e = unit-found k of one (instance_in (denoted k)) (instance_at k) (IsInstance k) (instance_part k) n i e

pub unit_index-is : (k : Known) (x : AnyUnit) (u : UnitIndex) → unit_index k x ≡ Some u → IsThat k u x
unfolding unit_index
unit_index-is k (unit.Decl d) u e =
    let t = map-tells index.Decl (index_where k (λ j. has_unit unit.Decl (unit.Decl d) (decl_in (denoted k) j))) u e in
    let f = unit-found k unit.Decl (λ x y e. cc) (decl_in (denoted k)) (decl_at k) (IsDecl k) (decl_part k) d t.0 t.1 in
    subst (λ v. IsThat k v (unit.Decl d)) t.2 (record { known = f.0; is = ap unit.Decl f.1 })
unit_index-is k (unit.Body n) u e =
    let t = map-tells index.Body (index_where k (λ j. has_unit unit.Body (unit.Body n) (instance_in (denoted k) j))) u e in
    let f = instance-is k unit.Body (λ x y e. cc) n t.0 t.1 in
    subst (λ v. IsThat k v (unit.Body n)) t.2 (record { known = f.0; is = ap unit.Body f.1 })
unit_index-is k (unit.ErrorSet n) u e =
    let t = map-tells index.ErrorSet (index_where k (λ j. has_unit unit.ErrorSet (unit.ErrorSet n) (instance_in (denoted k) j))) u e in
    let f = instance-is k unit.ErrorSet (λ x y e. cc) n t.0 t.1 in
    subst (λ v. IsThat k v (unit.ErrorSet n)) t.2 (record { known = f.0; is = ap unit.ErrorSet f.1 })
unit_index-is k (unit.Fields s) u e =
    let t = map-tells index.Fields (index_where k (λ j. has_unit unit.Fields (unit.Fields s) (ty_in (denoted k) j))) u e in
    let f = unit-found k unit.Fields (λ x y e. cc) (ty_in (denoted k)) (ty_at k) (IsTy k) (ty_part k) s t.0 t.1 in
    subst (λ v. IsThat k v (unit.Fields s)) t.2 (record { known = f.0; is = ap unit.Fields f.1 })
unit_index-is k (unit.Code n) u e =
    let t = map-tells index.Code (index_where k (λ j. has_unit unit.Code (unit.Code n) (instance_in (denoted k) j))) u e in
    let f = instance-is k unit.Code (λ x y e. cc) n t.0 t.1 in
    subst (λ v. IsThat k v (unit.Code n)) t.2 (record { known = f.0; is = ap unit.Code f.1 })
unit_index-is k (unit.Comptime file n) u e =
    let t = map-tells (λ i. index.Comptime i n) (bytes_index k file) u e in
    let f = bytes_index-is k file t.0 t.1 in
    subst (λ v. IsThat k v (unit.Comptime file n)) t.2 (record { known = f.0; is = ap (λ x. unit.Comptime x n) f.1 })
