-- Keys that denote something.
use Rattle.std.proofs.Common.{◌≡◌, ℕ, ◌<◌, ◌≤◌, List, [], ◌∷◌, length, IsSome, Some, refl, sym, subst, arith}
use Rattle.std.proofs.lemmas.List.Elements.{All-nil, All-cons}
use Rattle.type_form.specs.declared.index.Index.{Index}
use Rattle.type_form.specs.declared.key.Key.TheVariants as key
use Rattle.type_form.specs.declared.tree.Ty.TheVariants as ty
use Rattle.type_form.specs.Known.{Known, words_at, Keeps}
use Rattle.type_form.specs.Denote.{denoted}
use Rattle.type_form.specs.Means.{ty_at, names_at, ListNames}
use Rattle.type_form.proofs.Depth.{denoted-grows}
use Rattle.type_form.proofs.Options.{some_lower}
use Rattle.type_form.proofs.MeansLemmas.{ty_whole, HasKey-words, DenotesTy-of, DenotesList-of, DenotesBytes-list}
use Rattle.type_form.proofs.ListsLemmas.{ListNames-nil, ListNames-push, list-AreNames}
use Rattle.type_form.proofs.PartLemmas.{ty_in_some, list_in_some}
use Rattle.pool_seat.proofs.RowResults.{end_list, more_list}

pub still_denotes : (k l : Known) (i : Index) → Keeps k l → IsSome (denoted k i) → IsSome (denoted l i)
still_denotes k l i h s = some_lower _ _ (denoted-grows k l h i) s

pub end_denotes : (k : Known) (i : Index) (ns : List ℕ) → length ns ≤ 60 → words_at k i ≡ Some (36 ∷ ns) → IsSome (denoted k i)
end_denotes k i ns few w = list_in_some (denoted k) i ns (end_list k i.0 ns few w)

pub more_denotes : (k : Known) (i rest : Index) (ns ms : List ℕ) → length ns ≡ 60 → 0 < length ms → length ms ≤ 60 → words_at k rest ≡ Some (36 ∷ ms) → words_at k i ≡ Some (37 ∷ rest.0 ∷ ns) → IsSome (denoted k i)
more_denotes k i rest ns ms full some few r w = list_in_some (denoted k) i _ (more_list k i.0 rest.0 ns ms full some (end_list k rest.0 ms few r) w)

pub set_denotes : (k : Known) (name names set optional : Index) → words_at k name ≡ Some (36 ∷ 97 ∷ []) → words_at k names ≡ Some (36 ∷ name.0 ∷ []) → words_at k set ≡ Some (3 ∷ names.0 ∷ []) → words_at k optional ≡ Some (8 ∷ set.0 ∷ []) → IsSome (denoted k optional)
set_denotes k name names set optional a b c d =
    let n = DenotesBytes-list k name (97 ∷ []) (DenotesList-of k name (key.End (97 ∷ [])) (97 ∷ []) (HasKey-words k name (key.End (97 ∷ [])) (omega arith) a) (omega arith, refl)) (record { are = All-cons (λ n. n < 256) 97 [] (omega arith) (All-nil (λ n. n < 256)) }) in
    let l = DenotesList-of k names (key.End (name.0 ∷ [])) (name.0 ∷ []) (HasKey-words k names (key.End (name.0 ∷ [])) (omega arith) b) (omega arith, refl) in
    let s = list-AreNames k names ((97 ∷ []) ∷ []) l.known (subst (λ (ns : List ℕ). ListNames k ns ((97 ∷ []) ∷ [])) (sym l.is) (ListNames-push k [] [] name (97 ∷ []) (ListNames-nil k) n)) in
    let t = DenotesTy-of k set (key.ErrorSetType names) (ty.ErrorSet (names_at k names)) (HasKey-words k set (key.ErrorSetType names) tt c) (s.known, refl) in
    let o = DenotesTy-of k optional (key.OptionalType set) (ty.Optional (ty_at k set)) (HasKey-words k optional (key.OptionalType set) tt d) (t.known, refl) in
    ty_in_some (denoted k) optional (ty_at k optional) (ty_whole k optional o.known)
