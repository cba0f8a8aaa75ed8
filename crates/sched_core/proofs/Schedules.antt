-- Lemmas on schedules: what becomes of one unit's stand where all are changed, or one unit is added.
use Rattle.std.proofs.Common.{◌≡◌, suc, Bool, true, false, [], ◌∷◌, ◌++◌, length, Option, Some, None, refl, sym, ap, ◌∙◌}
use Rattle.std.specs.Prelude.{if◌then◌else◌}
use Rattle.std.specs.Option.{option_map}
use Rattle.sched_core.specs.declared.event.Stand.{Stand}
use Rattle.sched_core.specs.Machine.{Schedule, change, IsSameness, stand}

option_map-if : {A B : Type 0} (f : A → B) (b : Bool) (x : A) (y : Option A) → option_map f (if b then Some x else y) ≡ (if b then Some (f x) else option_map f y)
option_map-if f true x y = refl
option_map-if f false x y = refl

if-same : {A : Type 0} (b : Bool) (x x' : A) (y y' : Option A) → (b ≡ true → x ≡ x') → y ≡ y' → (if b then Some x else y) ≡ (if b then Some x' else y')
if-same true x x' y y' here there = ap (λ z. Some z) (here refl)
if-same false x x' y y' here there = there

pub stand-change : {U R : Type 0} (same : U → U → Bool) → IsSameness same → (f : U → Stand U R → Stand U R) (s : Schedule U R) (u : U) → stand same (change f s) u ≡ option_map (f u) (stand same s u)
stand-change same laws f [] u = refl
stand-change same laws f (p ∷ s) u = if-same (same p.0 u) (f p.0 p.1) (f u p.1) (stand same (change f s) u) (option_map (f u) (stand same s u)) (λ is. ap (λ v. f v p.1) (laws.sound p.0 u is)) (stand-change same laws f s u) ∙ sym (option_map-if (f u) (same p.0 u) p.1 (stand same s u))

-- where a unit that is added stands, and any other
pub or_else : {A : Type 0} → Option A → Option A → Option A
or_else None y = y
or_else (Some x) y = Some x

if-or_else : {A : Type 0} (b : Bool) (x : A) (y z : Option A) → (if b then Some x else or_else y z) ≡ or_else (if b then Some x else y) z
unfolding or_else
if-or_else true x y z = refl
if-or_else false x y z = refl

stand-or_else : {U R : Type 0} (same : U → U → Bool) (s : Schedule U R) (u v : U) (x : Stand U R) → stand same (s ++ (u, x) ∷ []) v ≡ or_else (stand same s v) (if same u v then Some x else None)
unfolding or_else
stand-or_else same [] u v x = refl
stand-or_else same (p ∷ s) u v x = ap (λ z. if same p.0 v then Some p.1 else z) (stand-or_else same s u v x) ∙ if-or_else (same p.0 v) p.1 (stand same s v) (if same u v then Some x else None)

-- a known unit stands where it stood
pub stand-append-known : {U R : Type 0} (same : U → U → Bool) (s : Schedule U R) (u v : U) (x y : Stand U R) → stand same s v ≡ Some y → stand same (s ++ (u, x) ∷ []) v ≡ Some y
unfolding or_else
stand-append-known same s u v x y e = stand-or_else same s u v x ∙ ap (λ z. or_else z (if same u v then Some x else None)) e

-- and another is the one that was added, or not known
pub stand-append-new : {U R : Type 0} (same : U → U → Bool) (s : Schedule U R) (u v : U) (x : Stand U R) → stand same s v ≡ None → stand same (s ++ (u, x) ∷ []) v ≡ (if same u v then Some x else None)
unfolding or_else
stand-append-new same s u v x e = stand-or_else same s u v x ∙ ap (λ z. or_else z (if same u v then Some x else None)) e

pub length-change : {U R : Type 0} (f : U → Stand U R → Stand U R) (s : Schedule U R) → length (change f s) ≡ length s
length-change f [] = refl
length-change f (p ∷ s) = ap suc (length-change f s)
