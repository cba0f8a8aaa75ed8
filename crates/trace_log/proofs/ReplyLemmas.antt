-- Texts in the words of the fronts.
use Rattle.std.proofs.Common.{◌≡◌, ℕ, Some, None, Option, List, refl, sym, ap, ◌∙◌}
use Rattle.std.specs.Option.{option_map, option_and_then}
use Rattle.zir_form.specs.Core.{Core}
use Rattle.zir_form.specs.declared.front.Front.{Front}
use Rattle.zir_form.specs.declared.zir.Part.{Part}
use Rattle.zir_form.specs.Front.{front_in, text_answer}
use Rattle.type_form.specs.declared.index.Index.{Index}
use Rattle.type_form.specs.declared.tree.Arg.TheOpen as layer
use Rattle.type_form.specs.declared.tree.Arg.TheViews.{out-DeclPath}
use Rattle.type_form.specs.Known.{Known, IsInjective}
use Rattle.type_form.specs.Means.{Grows, IsTy, ty_at, decl_at, bytes_at}
use Rattle.trace_log.specs.declared.answers.Answers.{Answers}
use Rattle.trace_log.specs.declared.replies.Extent.{Extent}
use Rattle.trace_log.specs.declared.replies.Extent.TheVariants as extent
use Rattle.trace_log.specs.declared.stands.Place.{Place}
use Rattle.trace_log.specs.Files.{Stand, decl_text, stand_by, stand_of}
use Rattle.trace_log.specs.Snapshots.{AreAnswers, declared_part, extent_at, files_at, front_get, stand_at}
use Rattle.trace_log.proofs.StandLemmas.{files-same}

-- the text of a part of a declaration, at the place of its container
front-text : (e : Extent) (name : List ℕ) (place : Place) (f : Option Front)
    → option_and_then (λ g. text_answer (front_in g) (declared_part e place.container name)) f
    ≡ option_and_then (extent_at e name) (option_map (λ g. stand_by (front_in g) place.container) f)
front-text extent.Head name place None = refl
front-text extent.Head name place (Some f) = refl
front-text extent.Whole name place None = refl
front-text extent.Whole name place (Some f) = refl

pub place-text : (a : Answers) (e : Extent) (name : List ℕ) (place : Place)
    → option_and_then (λ f. text_answer (front_in f) (declared_part e place.container name)) (front_get a place.front)
    ≡ option_and_then (extent_at e name) (stand_at a (Some place))
place-text a e name place = front-text e name place (front_get a place.front)

-- the text of a declaration, by where its container stands
pub named-text : (k l : Known) (a : Answers) (decl container name : Index) (e : Extent) (s : Option Stand) → Grows k l → IsInjective k → IsInjective l → AreAnswers k a
    → out-DeclPath (decl_at k decl) ≡ layer.Named (ty_at k container) (bytes_at k name) → IsTy k container
    → s ≡ stand_of (files_at l a) (ty_at l container)
    → option_and_then (extent_at e (bytes_at k name)) s ≡ decl_text (files_at k a) (extent_at e) (out-DeclPath (decl_at k decl))
named-text k l a decl container name e s g m n h same t is =
    let here : s ≡ stand_of (files_at k a) (ty_at k container) =
    is ∙ (ap (λ f. stand_of f (ty_at l container)) (files-same k l a g m n h) ∙ ap (stand_of (files_at k a)) (g.stays.ty container t)) in
    ap (option_and_then (extent_at e (bytes_at k name))) here ∙ sym (ap (decl_text (files_at k a) (extent_at e)) same)

-- what is read at the place of the container is that text
pub read-text : (k l : Known) (a : Answers) (decl container name : Index) (e : Extent) (place : Place) (q : Part) (bytes : List ℕ) (text : Option Core)
    → Grows k l → IsInjective k → IsInjective l → AreAnswers k a
    → out-DeclPath (decl_at k decl) ≡ layer.Named (ty_at k container) (bytes_at k name) → IsTy k container
    → stand_at a (Some place) ≡ stand_of (files_at l a) (ty_at l container)
    → text ≡ option_and_then (λ f. text_answer (front_in f) q) (front_get a place.front) → q ≡ declared_part e place.container bytes → bytes ≡ bytes_at k name
    → text ≡ decl_text (files_at k a) (extent_at e) (out-DeclPath (decl_at k decl))
read-text k l a decl container name e place q bytes text g m n h same t is read part_is name_is =
    read
    ∙ (ap (λ r. option_and_then (λ f. text_answer (front_in f) r) (front_get a place.front)) (part_is ∙ ap (declared_part e place.container) name_is)
    ∙ (place-text a e (bytes_at k name) place
    ∙ named-text k l a decl container name e (stand_at a (Some place)) g m n h same t is))
