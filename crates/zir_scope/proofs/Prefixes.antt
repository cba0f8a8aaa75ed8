-- Lists that begin with another, as they grow at the end and are cut there.
use Rattle.std.proofs.Common.{◌≡◌, ℕ, Bool, true, false, List, [], ◌∷◌, ◌++◌, length, take, sym, ◌∙◌, ap, append_assoc, if◌then◌else◌}
use Rattle.std.proofs.lemmas.List.{append-nil}
use Rattle.std.proofs.Math.Seq.{take-append_seam}
use Rattle.zir_scope.specs.declared.bindings.Binding.{Binding}
use Rattle.zir_scope.specs.declared.facts.Fact.{Fact}
use Rattle.zir_scope.specs.declared.event.Event.{Event}
use Rattle.zir_scope.specs.declared.event.Sort.{Sort}
use Rattle.zir_scope.specs.Scoping.{is_free, binding, bound_with, bind, with_members, declaration, declare}
use Rattle.zir_scope.specs.State.{Extends}

pub extends_refl : {T : Type 0} (xs : List T) → Extends xs xs
extends_refl xs = record { more = []; is = sym (append-nil xs) }

pub extends_more : {T : Type 0} (xs ys zs : List T) → Extends xs ys → Extends xs (ys ++ zs)
extends_more xs ys zs h = record { more = h.more ++ zs; is = ap (λ l. l ++ zs) h.is ∙ append_assoc xs h.more zs }

pub extends_all : {T : Type 0} (xs ys zs : List T) → Extends xs ys → Extends ys zs → Extends xs zs
extends_all xs ys zs h k = record { more = h.more ++ k.more; is = k.is ∙ ap (λ l. l ++ k.more) h.is ∙ append_assoc xs h.more k.more }

-- cut to what it begins with
pub extends_cut : {T : Type 0} (xs ys : List T) → Extends xs ys → take (length xs) ys ≡ xs
extends_cut xs ys h = ap (take (length xs)) h.is ∙ take-append_seam xs h.more

extends_if : (b : Bool) (xs ys zs : List Binding) → Extends xs ys → Extends xs (if b then ys ++ zs else ys)
extends_if true xs ys zs h = extends_more xs ys zs h
extends_if false xs ys zs h = h

pub extends_bound : (facts : List Fact) (members xs ys : List Binding) (t : ℕ) → Extends xs ys → Extends xs (bound_with facts members ys t)
unfolding bound_with
extends_bound facts members xs ys t h = extends_if (is_free facts ys members t) xs ys (binding facts t t ∷ []) h

pub extends_bind : (facts : List Fact) (members xs ys : List Binding) (names : List ℕ) → Extends xs ys → Extends xs (bind facts members ys names)
unfolding bind
extends_bind facts members xs ys [] h = h
extends_bind facts members xs ys (t ∷ more) h = extends_bind facts members xs (bound_with facts members ys t) more (extends_bound facts members xs ys t h)

pub extends_members : (facts : List Fact) (begin : ℕ) (xs ys : List Binding) (names : List ℕ) → Extends xs ys → Extends xs (with_members facts begin ys names)
unfolding with_members
extends_members facts begin xs ys [] h = h
extends_members facts begin xs ys (t ∷ more) h = extends_members facts begin xs (ys ++ binding facts t begin ∷ []) more (extends_more xs ys (binding facts t begin ∷ []) h)

pub ruleset prefix_steps = (extends_refl, extends_more, extends_cut, extends_bound, extends_bind, extends_members)

-- one more name is declared
pub declare_step : (facts : List Fact) (s : Sort) (members locals after : List Binding) (found now : List Event) (t : ℕ) (more : List ℕ)
    → now ≡ found ++ declaration facts s members locals t ∷ [] → after ≡ bound_with facts members locals t
    → now ++ declare facts s members after more ≡ found ++ declare facts s members locals (t ∷ more)
unfolding declare
declare_step facts s members locals after found now t more e b =
    ap (λ l. l ++ declare facts s members after more) e ∙ append_assoc found (declaration facts s members locals t ∷ []) (declare facts s members after more)
    ∙ ap (λ l. found ++ (declaration facts s members locals t ∷ declare facts s members l more)) b
