-- Root units, one after another.
use Rattle.std.proofs.Common.{◌≡◌, ℕ, zero, suc, ◌+◌, List, [], ◌∷◌, ◌++◌, map, take, length, get_or, refl, sym, ap, ap₂, ◌∙◌, subst}
use Rattle.std.specs.List.{All}
use Rattle.std.proofs.lemmas.List.{map-append, take_more}
use Rattle.std.proofs.lemmas.List.Elements.{All-nil, All-head, All-tail, All-push, All-append, All-weaker}
use Rattle.type_form.specs.declared.index.Index.{Index}
use Rattle.type_form.specs.declared.unit.Unit.{Unit as AnyUnit}
use Rattle.type_form.specs.declared.unit.Unit.TheVariants as unit
use Rattle.type_form.specs.Known.{Known}
use Rattle.type_form.specs.declared.tree.Ty.TheVariants as ty
use Rattle.type_form.specs.Means.{Grows, IsTy, ty_at, DenotesTy, IsBytes, bytes_at}
use Rattle.trace_log.specs.declared.question.UnitIndex.{UnitIndex}
use Rattle.trace_log.specs.declared.question.UnitIndex.TheVariants as index
use Rattle.trace_log.specs.Readings.{IsUnit, unit_at}
use Rattle.trace_log.proofs.Growing.{IsUnit-grows, unit-grows}
use Rattle.zir_form.specs.Front.{FileFront, import_answer}
use Rattle.zir_form.specs.declared.exports.FileExports.{FileExports}
use Rattle.std.specs.Prelude.{min, ◌<◌, Some, None}
use Rattle.root_analysis.specs.Roots.{block_units, declared_in, exported_units, root_units, units_of_some}
use Rattle.root_analysis.specs.Denoting.{DenotesUnit, DenoteUnits, block_indices}

-- what units denote stays
units-stay : (k l : Known) (us : List UnitIndex) → Grows k l → All (IsUnit k) us → map (unit_at l) us ≡ map (unit_at k) us
units-stay k l [] grows known = refl
units-stay k l (u ∷ us) grows known =
    ap₂ (λ x xs. x ∷ xs) (unit-grows k l u grows (All-head (IsUnit k) u us known)) (units-stay k l us grows (All-tail (IsUnit k) u us known))

pub DenoteUnits-grows : (k l : Known) (us : List UnitIndex) (xs : List AnyUnit) → Grows k l → DenoteUnits k us xs → DenoteUnits l us xs
DenoteUnits-grows k l us xs grows d = record {
  known = All-weaker (IsUnit k) (IsUnit l) (λ u i. IsUnit-grows k l u grows i) us d.known;
  are = units-stay k l us grows d.known ∙ d.are;
}

pub DenoteUnits-none : (k : Known) → DenoteUnits k [] []
DenoteUnits-none k = record { known = All-nil (IsUnit k); are = refl }

-- one more
pub DenoteUnits-push : (k : Known) (us : List UnitIndex) (xs : List AnyUnit) (u : UnitIndex) (x : AnyUnit) → DenoteUnits k us xs → DenotesUnit k u x → DenoteUnits k (us ++ u ∷ []) (xs ++ x ∷ [])
DenoteUnits-push k us xs u x d one = record {
  known = All-push (IsUnit k) us u d.known one.known;
  are = map-append (unit_at k) us (u ∷ []) ∙ ap₂ (λ ys y. ys ++ y ∷ []) d.are one.is;
}

-- blocks of a file
pub blocks-denote : (k : Known) (path : Index) (n : ℕ) → IsBytes k path → DenoteUnits k (block_indices path n) (block_units (bytes_at k path) n)
blocks-denote k path zero p = DenoteUnits-none k
blocks-denote k path (suc n) p =
    DenoteUnits-push k (block_indices path n) (block_units (bytes_at k path) n) (index.Comptime path n) (unit.Comptime (bytes_at k path) n)
    (blocks-denote k path n p) (record { known = p; is = refl })

-- two rows of units
pub DenoteUnits-append : (k : Known) (us vs : List UnitIndex) (xs ys : List AnyUnit) → DenoteUnits k us xs → DenoteUnits k vs ys → DenoteUnits k (us ++ vs) (xs ++ ys)
DenoteUnits-append k us vs xs ys d e = record {
  known = All-append (IsUnit k) us vs d.known e.known;
  are = map-append (unit_at k) us vs ∙ ap₂ (λ a b. a ++ b) d.are e.are;
}

-- the unit of the next name
pub next-units : (k0 k l : Known) (us vs : List UnitIndex) (u : UnitIndex) (file : Index) (names : List (List ℕ)) (i : ℕ) (name given : List ℕ) → IsTy k0 file → Grows k0 k → Grows k l
    → i < length names → given ≡ name → name ≡ get_or names i name
    → DenoteUnits k us (map (declared_in (ty_at k0 file)) (take i names)) → DenotesUnit l u (declared_in (ty_at k file) given) → vs ≡ us ++ u ∷ []
    → DenoteUnits l vs (map (declared_in (ty_at k0 file)) (take (i + 1) names))
next-units k0 k l us vs u file names i name given known early late low same is d one e =
    let ty : ty_at k file ≡ ty_at k0 file = early.stays.ty file known in
    let unit : DenotesUnit l u (declared_in (ty_at k0 file) name) = record { known = one.known; is = one.is ∙ ap₂ declared_in ty same } in
    let all = DenoteUnits-push l us (map (declared_in (ty_at k0 file)) (take i names)) u (declared_in (ty_at k0 file) name) (DenoteUnits-grows k l us (map (declared_in (ty_at k0 file)) (take i names)) late d) unit in
    let next : map (declared_in (ty_at k0 file)) (take (i + 1) names) ≡ map (declared_in (ty_at k0 file)) (take i names) ++ declared_in (ty_at k0 file) name ∷ [] =
    ap (map (declared_in (ty_at k0 file))) (take_more names i name low ∙ ap (λ n. take i names ++ n ∷ []) (sym is)) ∙ map-append (declared_in (ty_at k0 file)) (take i names) (name ∷ []) in
    subst (λ ws. DenoteUnits l ws (map (declared_in (ty_at k0 file)) (take (i + 1) names))) (sym e)
    (subst (λ xs. DenoteUnits l (us ++ u ∷ []) xs) (sym next) all)

-- the units of what a file exports
pub exported-denote : (k0 k l : Known) (path file : Index) (exports : FileExports) (names : List (List ℕ)) (us vs : List UnitIndex) (count : ℕ) → IsBytes k0 path → Grows k0 l → DenotesTy k file (ty.File (bytes_at k0 path))
    → names ≡ exports.functions → count ≡ min exports.blocks 65537
    → DenoteUnits l us (map (declared_in (ty_at k file)) names) → vs ≡ us ++ block_indices path count → DenoteUnits l vs (exported_units (bytes_at k0 path) exports)
exported-denote k0 k l path file exports names us vs count known grows d same few units e =
    let bytes : bytes_at l path ≡ bytes_at k0 path = grows.stays.bytes path known in
    let first : DenoteUnits l us (map (declared_in (ty.File (bytes_at k0 path))) exports.functions) = subst (λ xs. DenoteUnits l us xs) (ap₂ (λ t ns. map (declared_in t) ns) d.is same) units in
    let blocks : DenoteUnits l (block_indices path count) (block_units (bytes_at k0 path) (min exports.blocks 65537)) =
    subst (λ xs. DenoteUnits l (block_indices path count) xs) (ap₂ block_units bytes few) (blocks-denote l path count (grows.stays.is_bytes path known)) in
    subst (λ ws. DenoteUnits l ws (exported_units (bytes_at k0 path) exports)) (sym e) (DenoteUnits-append l us (block_indices path count) (map (declared_in (ty.File (bytes_at k0 path))) exports.functions) (block_units (bytes_at k0 path) (min exports.blocks 65537)) first blocks)

pub root-some : (root : List ℕ) (front : FileFront) (e : FileExports) → import_answer front ≡ Some e → root_units root front ≡ exported_units root e
unfolding root_units
root-some root front e is = ap (units_of_some root) is

pub root-none : (root : List ℕ) (front : FileFront) → import_answer front ≡ None → root_units root front ≡ []
unfolding root_units
root-none root front is = ap (units_of_some root) is
