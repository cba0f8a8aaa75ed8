-- The published rows as pairs of index and key.
use Rattle.std.proofs.Common.{◌≡◌, inl, inr, ⊎_elim, ℕ, ◌==◌, Bool, true, false, if◌then◌else◌, nat_eq, MatchBool, List, [], ◌∷◌, ◌++◌, Option, Some, None, IsSome, refl, sym, ap, ◌∙◌, subst}
use Rattle.std.proofs.lemmas.Bool.{eqb-true, eq-eqb}
use Rattle.type_form.specs.declared.index.Index.{Index}
use Rattle.type_form.specs.Known.{Known, words_at, Keeps, IsInjective}
use Rattle.type_form.specs.Words.{index_of}
use Rattle.type_form.specs.Means.{Grows}
use Rattle.type_form.proofs.MeansLemmas.{Grows-keeps}
use Rattle.pool_words.specs.declared.view.Layout.{Layout}
use Rattle.pool_words.specs.Layout.{Row}
use Rattle.pool_words.specs.Rule.{In, Extends, IsPool}
use Rattle.pool_shard.specs.Pairs.{known_of}
use Rattle.pool_shard.proofs.Readings.{one_key}

same_index : (i j : Index) → i.0 ≡ j.0 → i ≡ j
same_index i j e = ap index_of e

some_one : {X : Type 0} (a b : X) → Some a ≡ Some b → a ≡ b
some_one a b e = cc

-- what is known at an index is a row there
known_in_by : (b : Bool) (r : Row) (log : List Row) (i : Index) (ws : List ℕ) → (r.0 == i.0) ≡ b → words_at (known_of (r ∷ log)) i ≡ Some ws → (words_at (known_of log) i ≡ Some ws → In (i.0, ws) log) → In (i.0, ws) (r ∷ log)
known_in_by true r log i ws t e rest =
    let f : Some r.1 ≡ Some ws = sym (ap (λ b. if b then Some r.1 else words_at (known_of log) i) t) ∙ e in
    let g = some_one r.1 ws f in
    let h = eqb-true r.0 i.0 t in
    inl (λ k. (sym h k, sym g k))
known_in_by false r log i ws t e rest = inr (rest (sym (ap (λ b. if b then Some r.1 else words_at (known_of log) i) t) ∙ e))

pub known_in : (log : List Row) (i : Index) (ws : List ℕ) → words_at (known_of log) i ≡ Some ws → In (i.0, ws) log
known_in [] i ws e = cc
known_in (r ∷ log) i ws e = known_in_by (r.0 == i.0) r log i ws refl e (known_in log i ws)

not_both : (b : Bool) → b ≡ false → b ≡ true → ⊥
not_both b e f = cc

in_known_by : (b : Bool) (r : Row) (log : List Row) (i : Index) (ws : List ℕ) → (r.0 == i.0) ≡ b → ((a : List ℕ) → In (i.0, a) (r ∷ log) → a ≡ ws) → In (i.0, ws) (r ∷ log) → (In (i.0, ws) log → words_at (known_of log) i ≡ Some ws) → words_at (known_of (r ∷ log)) i ≡ Some ws
in_known_by true r log i ws t one h rest =
    let e = eqb-true r.0 i.0 t in
    ap (λ b. if b then Some r.1 else words_at (known_of log) i) t ∙ ap Some (one r.1 (inl (λ k. (sym e k, r.1))))
in_known_by false r log i ws t one h rest =
    ap (λ b. if b then Some r.1 else words_at (known_of log) i) t ∙ rest (⊎_elim (λ e. absurd (not_both (r.0 == i.0) t (eq-eqb r.0 i.0 (sym (ap (λ (q : Row). q.0) e))))) (λ j. j) h)

-- a row is known at its place, where a place has one key
pub in_known : (log : List Row) (i : Index) (ws : List ℕ) → ((a : List ℕ) → In (i.0, a) log → a ≡ ws) → In (i.0, ws) log → words_at (known_of log) i ≡ Some ws
in_known [] i ws one h = absurd h
in_known (r ∷ log) i ws one h = in_known_by (r.0 == i.0) r log i ws refl one h (in_known log i ws (λ a j. one a (inr j)))

pub pool_known : (z : Layout) (ws : List ℕ) (log : List Row) (i : Index) (key : List ℕ) → IsPool z ws log → In (i.0, key) log → words_at (known_of log) i ≡ Some key
pool_known z ws log i key p h = in_known log i key (λ a j. one_key z ws log i.0 a key p j h) h

keeps_by : (b : Bool) (r : Row) (log more : List Row) (i : Index) (ws : List ℕ) → (r.0 == i.0) ≡ b → words_at (known_of (r ∷ log)) i ≡ Some ws → (words_at (known_of log) i ≡ Some ws → words_at (known_of (log ++ more)) i ≡ Some ws) → words_at (known_of ((r ∷ log) ++ more)) i ≡ Some ws
keeps_by true r log more i ws t e rest = ap (λ b. if b then Some r.1 else words_at (known_of (log ++ more)) i) t ∙ (sym (ap (λ b. if b then Some r.1 else words_at (known_of log) i) t) ∙ e)
keeps_by false r log more i ws t e rest = ap (λ b. if b then Some r.1 else words_at (known_of (log ++ more)) i) t ∙ rest (sym (ap (λ b. if b then Some r.1 else words_at (known_of log) i) t) ∙ e)

keeps_more : (log more : List Row) (i : Index) (ws : List ℕ) → words_at (known_of log) i ≡ Some ws → words_at (known_of (log ++ more)) i ≡ Some ws
keeps_more [] more i ws e = cc
keeps_more (r ∷ log) more i ws e = keeps_by (r.0 == i.0) r log more i ws refl e (keeps_more log more i ws)

pub known_keeps : (log log' : List Row) → Extends log log' → Keeps (known_of log) (known_of log')
known_keeps log log' x = record { words = λ i ws e. subst (λ (l : List Row). words_at (known_of l) i ≡ Some ws) (sym x.1) (keeps_more log x.0 i ws e) }

pub pool_injective : (z : Layout) (ws : List ℕ) (log : List Row) → IsPool z ws log → IsInjective (known_of log)
pool_injective z ws log p = record { once = λ i j key a b. same_index i j (p.once i.0 j.0 key (known_in log i key a) (known_in log j key b)) }

pub known_grows : (z : Layout) (ws : List ℕ) (log log' : List Row) → IsPool z ws log' → Extends log log' → Grows (known_of log) (known_of log')
known_grows z ws log log' p x = Grows-keeps (known_of log) (known_of log') (known_keeps log log' x) (λ _. pool_injective z ws log' p)

some_of : (o : Option (List ℕ)) → IsSome o → (ws : List ℕ) × (o ≡ Some ws)
some_of None h = cc
some_of (Some ws) h = (ws, refl)

some_words : (k : Known) (i : Index) → IsSome (words_at k i) → (ws : List ℕ) × (words_at k i ≡ Some ws)
some_words k i h = some_of (words_at k i) h

pub known_some : (log : List Row) (i : Index) → IsSome (words_at (known_of log) i) → (ws : List ℕ) × (words_at (known_of log) i ≡ Some ws)
known_some log i h = some_words (known_of log) i h

key_cases : (b : Bool) (k : Known) (i j : Index) → IsInjective k → IsSome (words_at k i) → nat_eq i.0 j.0 ≡ b → MatchBool b (words_at k i ≡ words_at k j) (words_at k i ≡ words_at k j → ⊥)
key_cases true k i j once some e = ap (words_at k) (same_index i j (eqb-true i.0 j.0 e))
key_cases false k i j once some e = λ same. let w = some_words k i some in let f = once.once i j w.0 w.1 (sym same ∙ w.1) in not_both (nat_eq i.0 j.0) e (eq-eqb i.0 j.0 (ap (λ (n : Index). n.0) f))

-- known indices are one exactly where their keys are
pub one_key_at : (k : Known) (i j : Index) → IsInjective k → IsSome (words_at k i) → MatchBool (nat_eq i.0 j.0) (words_at k i ≡ words_at k j) (words_at k i ≡ words_at k j → ⊥)
one_key_at k i j once some = key_cases (nat_eq i.0 j.0) k i j once some refl
