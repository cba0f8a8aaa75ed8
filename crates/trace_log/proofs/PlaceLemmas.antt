-- Where parts and names begin, by the places of their containers.
use Rattle.std.proofs.Common.{◌≡◌, ℕ, zero, suc, Some, None, Option, List, [], ◌∷◌, map, refl, sym, ap, ◌∙◌}
use Rattle.std.specs.Prelude.{slice_get}
use Rattle.std.specs.Option.{option_map, option_and_then}
use Rattle.zir_form.specs.declared.front.Front.{Front}
use Rattle.zir_form.specs.declared.table.BlockRow.{BlockRow}
use Rattle.zir_form.specs.declared.zir.ContainerRef.{ContainerRef}
use Rattle.zir_form.specs.declared.zir.Part.{Part}
use Rattle.zir_form.specs.declared.zir.Part.TheVariants as part
use Rattle.zir_form.specs.Core.{Core}
use Rattle.zir_form.specs.Front.{front_in}
use Rattle.zir_form.specs.Lines.{trees_of}
use Rattle.zir_form.specs.Tables.{ZirState, block_of, file_in}
use Rattle.type_form.specs.declared.index.Index.{Index}
use Rattle.type_form.specs.declared.tree.Arg.TheOpen as layer
use Rattle.type_form.specs.declared.tree.Arg.TheViews.{out-DeclPath}
use Rattle.type_form.specs.Known.{Known, IsInjective}
use Rattle.type_form.specs.Means.{Grows, IsTy, ty_at, decl_at, bytes_at}
use Rattle.trace_log.specs.declared.answers.Answers.{Answers}
use Rattle.trace_log.specs.declared.replies.Extent.{Extent}
use Rattle.trace_log.specs.declared.replies.Extent.TheVariants as extent
use Rattle.trace_log.specs.declared.stands.Place.{Place}
use Rattle.trace_log.specs.Files.{Stand, stand_by, stand_of}
use Rattle.trace_log.specs.Places.{decl_part, decl_start, extent_part, fields_part, part_by, stand_name_start, word_start_of}
use Rattle.trace_log.specs.Snapshots.{AreAnswers, declared_part, files_at, front_get, stand_at}
use Rattle.trace_log.proofs.StandLemmas.{files-same}

-- ---- the word of a block

word-mapped : (trees : List Core) (rows : List BlockRow) (i : ℕ) → option_map (λ b. b.word_start) (slice_get (map (block_of trees) rows) i) ≡ option_map (λ (r : BlockRow). r.word_start) (slice_get rows i)
word-mapped trees [] i = refl
word-mapped trees (r ∷ rows) zero = refl
word-mapped trees (r ∷ rows) (suc i) = word-mapped trees rows i

pub word_row : (z : ZirState) (number : ℕ) → word_start_of (file_in z) number ≡ option_map (λ (r : BlockRow). r.word_start) (slice_get z.blocks number)
unfolding file_in word_start_of
word_row z number = word-mapped (trees_of z.lines) z.blocks number

-- ---- at the place of a container

-- where a container stands with more known, it stands with what was known
pub stand-here : (k l : Known) (a : Answers) (container : Index) (s : Option Stand) → Grows k l → IsInjective k → IsInjective l → AreAnswers k a → IsTy k container
    → s ≡ stand_of (files_at l a) (ty_at l container) → s ≡ stand_of (files_at k a) (ty_at k container)
stand-here k l a container s g m n h t is =
    is ∙ (ap (λ f. stand_of f (ty_at l container)) (files-same k l a g m n h) ∙ ap (stand_of (files_at k a)) (g.stays.ty container t))

front-part : (e : Extent) (name : List ℕ) (container : ContainerRef) (f : Option Front)
    → option_map (λ g. part_by (front_in g) (declared_part e container name)) f ≡ option_map (extent_part e name) (option_map (λ g. stand_by (front_in g) container) f)
front-part e name container None = refl
front-part e name container (Some f) = refl

front-fields : (container : ContainerRef) (f : Option Front)
    → option_map (λ g. part_by (front_in g) (part.Fields container)) f ≡ option_map fields_part (option_map (λ g. stand_by (front_in g) container) f)
front-fields container None = refl
front-fields container (Some f) = refl

pub fields-at : (a : Answers) (place : Place)
    → option_map (λ f. part_by (front_in f) (part.Fields place.container)) (front_get a place.front) ≡ option_map fields_part (stand_at a (Some place))
fields-at a place = front-fields place.container (front_get a place.front)

-- a part of a declaration, by where its container stands
pub named-part : (k l : Known) (a : Answers) (decl container name : Index) (e : Extent) (s : Option Stand) → Grows k l → IsInjective k → IsInjective l → AreAnswers k a
    → out-DeclPath (decl_at k decl) ≡ layer.Named (ty_at k container) (bytes_at k name) → IsTy k container
    → s ≡ stand_of (files_at l a) (ty_at l container)
    → option_map (extent_part e (bytes_at k name)) s ≡ decl_part (files_at k a) (extent_part e) (out-DeclPath (decl_at k decl))
named-part k l a decl container name e s g m n h same t is =
    ap (option_map (extent_part e (bytes_at k name))) (stand-here k l a container s g m n h t is)
    ∙ sym (ap (decl_part (files_at k a) (extent_part e)) same)

-- what is found at the place of the container is that part
pub read-part : (k l : Known) (a : Answers) (decl container name : Index) (e : Extent) (place : Place) (q : Part) (bytes : List ℕ)
    → Grows k l → IsInjective k → IsInjective l → AreAnswers k a
    → out-DeclPath (decl_at k decl) ≡ layer.Named (ty_at k container) (bytes_at k name) → IsTy k container
    → stand_at a (Some place) ≡ stand_of (files_at l a) (ty_at l container)
    → q ≡ declared_part e place.container bytes → bytes ≡ bytes_at k name
    → option_map (λ f. part_by (front_in f) q) (front_get a place.front) ≡ decl_part (files_at k a) (extent_part e) (out-DeclPath (decl_at k decl))
read-part k l a decl container name e place q bytes g m n h same t is part_is name_is =
    ap (λ r. option_map (λ f. part_by (front_in f) r) (front_get a place.front)) (part_is ∙ ap (declared_part e place.container) name_is)
    ∙ (front-part e (bytes_at k name) place.container (front_get a place.front)
    ∙ named-part k l a decl container name e (stand_at a (Some place)) g m n h same t is)

-- where a declaration's name begins, by where its container stands
pub named-start : (k l : Known) (a : Answers) (decl container name : Index) (bytes : List ℕ) (s : Option Stand) → Grows k l → IsInjective k → IsInjective l → AreAnswers k a
    → out-DeclPath (decl_at k decl) ≡ layer.Named (ty_at k container) (bytes_at k name) → IsTy k container
    → s ≡ stand_of (files_at l a) (ty_at l container) → bytes ≡ bytes_at k name
    → option_and_then (stand_name_start bytes) s ≡ decl_start (files_at k a) (out-DeclPath (decl_at k decl))
named-start k l a decl container name bytes s g m n h same t is name_is =
    ap (λ b. option_and_then (stand_name_start b) s) name_is
    ∙ (ap (option_and_then (stand_name_start (bytes_at k name))) (stand-here k l a container s g m n h t is)
    ∙ sym (ap (decl_start (files_at k a)) same))

pub ruleset places_of_fields = (fields-at)
