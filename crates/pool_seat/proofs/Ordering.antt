-- In which order sources are moved: what each step adds to the rows and the pairs.
use Rattle.std.proofs.Common.{◌≡◌, inl, inr, ⊎_elim, ◌⊎◌, ℕ, ◌==◌, ◌||◌, Bool, true, false, if◌then◌else◌, List, [], ◌∷◌, ◌++◌, map, Option, Some, refl, sym, ap, ◌∙◌, subst}
use Rattle.std.proofs.lemmas.Bool.{eqb-true, eq-eqb}
use Rattle.std.proofs.lemmas.List.{map-append}
use Rattle.type_form.specs.declared.index.Index.{Index}
use Rattle.type_form.specs.Known.{Known, words_at, Keeps}
use Rattle.type_form.specs.Words.{index_of}
use Rattle.pool_words.specs.Layout.{Row}
use Rattle.pool_words.specs.Rule.{In}
use Rattle.pool_words.proofs.Members.{In-left, In-last}
use Rattle.pool_shard.specs.Pairs.{Rows, known, known_of, AddsAtMost}
use Rattle.pool_seat.specs.Moves.{Pairs, IsMoved}
use Rattle.pool_seat.specs.Order.{Source, is_among, added, adding, olds, places, with_pairs, IsNewRow, AreNewRows, Adds}
use Rattle.pool_seat.specs.Movers.{HasAll, HasTree, HasParts}
use Rattle.pool_seat.proofs.Moving.{Goes, goes_push, moved_cases, new_key_later}

-- ---- numbers added to a list, each once

either : (b : Bool) → (b ≡ true) ⊎ (b ≡ false)
either true = inl refl
either false = inr refl

or_cases : (a b : Bool) → a || b ≡ true → (a ≡ true) ⊎ (b ≡ true)
or_cases true b e = inl refl
or_cases false b e = inr e

or_left : (a b : Bool) → a ≡ true → a || b ≡ true
or_left true b e = refl
or_left false b e = cc

or_right : (a b : Bool) → b ≡ true → a || b ≡ true
or_right true b e = refl
or_right false b e = e

among-In : (there : List ℕ) (n : ℕ) → is_among there n ≡ true → In n there
among-In [] n e = cc
among-In (m ∷ ms) n e = ⊎_elim (λ a. inl (sym (eqb-true m n a))) (λ b. inr (among-In ms n b)) (or_cases (m == n) (is_among ms n) e)

In-among : (there : List ℕ) (n : ℕ) → In n there → is_among there n ≡ true
In-among [] n h = absurd h
In-among (m ∷ ms) n h = ⊎_elim (λ e. or_left (m == n) (is_among ms n) (eq-eqb m n (sym e))) (λ t. or_right (m == n) (is_among ms n) (In-among ms n t)) h

pub added_there : (there : List ℕ) (n : ℕ) → In n there → added there n ≡ there
added_there there n h = ap (λ b. if b then there else there ++ n ∷ []) (In-among there n h)

pub added_new : (there : List ℕ) (n : ℕ) → (In n there → ⊥) → added there n ≡ there ++ n ∷ []
added_new there n f = ap (λ b. if b then there else there ++ n ∷ []) (⊎_elim (λ t. absurd (f (among-In there n t))) (λ e. e) (either (is_among there n)))

in_if : (b : Bool) (xs ys : List ℕ) (n : ℕ) → In n xs → In n ys → In n (if b then xs else ys)
in_if true xs ys n h g = h
in_if false xs ys n h g = g

added_keeps : (there : List ℕ) (m n : ℕ) → In n there → In n (added there m)
added_keeps there m n h = in_if (is_among there m) there (there ++ m ∷ []) n h (In-left n there (m ∷ []) h)

added_has : (there : List ℕ) (n : ℕ) → In n (added there n)
added_has there n = ⊎_elim
    (λ t. let h = among-In there n t in subst (In n) (sym (added_there there n h)) h)
    (λ f. subst (λ b. In n (if b then there else there ++ n ∷ [])) (sym f) (In-last n there))
    (either (is_among there n))

adding_keeps : (there ns : List ℕ) (n : ℕ) → In n there → In n (adding there ns)
adding_keeps there [] n h = h
adding_keeps there (m ∷ ns) n h = adding_keeps (added there m) ns n (added_keeps there m n h)

adding_has : (there ns : List ℕ) (n : ℕ) → In n ns → In n (adding there ns)
adding_has there [] n h = absurd h
adding_has there (m ∷ ns) n h = ⊎_elim (λ e. adding_keeps (added there m) ns n (subst (λ x. In x (added there m)) (sym e) (added_has there m))) (λ t. adding_has (added there m) ns n t) h

adding_append : (there a b : List ℕ) → adding there (a ++ b) ≡ adding (adding there a) b
adding_append there [] b = refl
adding_append there (n ∷ a) b = adding_append (added there n) a b

-- those that are all there are not added
adding_same : (there ns : List ℕ) → ((n : ℕ) → In n ns → In n there) → adding there ns ≡ there
adding_same there [] f = refl
adding_same there (n ∷ ns) f = ap (λ (xs : List ℕ). adding xs ns) (added_there there n (f n (inl refl))) ∙ adding_same there ns (λ m h. f m (inr h))

-- ---- the old indices

pub moved_old : (moved : Pairs) (i j : ℕ) → IsMoved moved i j → In i (olds moved)
moved_old [] i j h = absurd h
moved_old (q ∷ moved) i j h = ⊎_elim (λ e. inl (ap (λ (x : Index × Index). (x.0).0) e)) (λ t. inr (moved_old moved i j t)) h

as_pair : (q : Index × Index) (i : ℕ) → i ≡ (q.0).0 → (index_of i, q.1) ≡ q
as_pair q i e = ap (λ (x : ℕ). (index_of x, q.1)) e

pub old_moved : (moved : Pairs) (i : ℕ) → In i (olds moved) → (j : ℕ) × IsMoved moved i j
old_moved [] i h = absurd h
old_moved (q ∷ moved) i h = ⊎_elim (λ e. ((q.1).0, inl (as_pair q i e))) (λ t. let g = old_moved moved i t in (g.0, inr g.1)) h

pub olds_push : (moved : Pairs) (i j : ℕ) → olds (moved ++ (index_of i, index_of j) ∷ []) ≡ olds moved ++ i ∷ []
olds_push moved i j = map-append (λ (pair : Index × Index). (pair.0).0) moved ((index_of i, index_of j) ∷ [])

olds_later : (t u : Pairs) → Goes t u → (n : ℕ) → In n (olds t) → In n (olds u)
olds_later t u f n h = let g = old_moved t n h in moved_old u n g.0 (f n g.0 g.1)

-- ---- the places of rows

at_place : (b : Bool) (x ws : List ℕ) (o : Option (List ℕ)) → (if b then Some x else o) ≡ Some ws → (b ≡ true) ⊎ (o ≡ Some ws)
at_place true x ws o e = inl refl
at_place false x ws o e = inr e

known_place : (log : List Row) (j : ℕ) (ws : List ℕ) → words_at (known_of log) (index_of j) ≡ Some ws → In j (map (λ (r : Row). r.0) log)
known_place [] j ws e = cc
known_place (r ∷ log) j ws e = ⊎_elim (λ t. inl (sym (eqb-true r.0 j t))) (λ o. inr (known_place log j ws o)) (at_place (r.0 == j) r.1 ws (words_at (known_of log) (index_of j)) e)

-- where a key is known, its row is there
pub place_there : (p : Rows) (j : ℕ) (ws : List ℕ) → words_at (known p) (index_of j) ≡ Some ws → In j (places p)
place_there p j ws e = known_place p.view.log j ws e

place_words : (log : List Row) (j : ℕ) → In j (map (λ (r : Row). r.0) log) → (ws : List ℕ) × (words_at (known_of log) (index_of j) ≡ Some ws)
place_words [] j h = absurd h
place_words (r ∷ log) j h = ⊎_elim
    (λ t. (r.1, ap (λ b. if b then Some r.1 else words_at (known_of log) (index_of j)) t))
    (λ f. let g = place_words log j (⊎_elim (λ e. absurd (not_both (r.0 == j) (eq-eqb r.0 j (sym e)) f)) (λ t. t) h) in (g.0, ap (λ b. if b then Some r.1 else words_at (known_of log) (index_of j)) f ∙ g.1))
    (either (r.0 == j))
  where
    not_both : (b : Bool) → b ≡ true → b ≡ false → ⊥
    not_both b e f = cc

as_row : (r : Row) (j : ℕ) (ws : List ℕ) → j ≡ r.0 → r.1 ≡ ws → (j, ws) ≡ r
as_row r j ws e f = ap (λ (x : ℕ). (x, ws)) e ∙ ap (λ (xs : List ℕ). (r.0, xs)) (sym f)

known_row : (log : List Row) (j : ℕ) (ws : List ℕ) → words_at (known_of log) (index_of j) ≡ Some ws → In (j, ws) log
known_row [] j ws e = cc
known_row (r ∷ log) j ws e = ⊎_elim
    (λ t. inl (as_row r j ws (sym (eqb-true r.0 j t)) (one r.1 ws (sym (ap (λ b. if b then Some r.1 else words_at (known_of log) (index_of j)) t) ∙ e))))
    (λ f. inr (known_row log j ws (sym (ap (λ b. if b then Some r.1 else words_at (known_of log) (index_of j)) f) ∙ e)))
    (either (r.0 == j))
  where
    one : (a b : List ℕ) → Some a ≡ Some b → a ≡ b
    one a b e = cc

-- the place of a key that was interned
pub places_added : (p q : Rows) (j : ℕ) (key : List ℕ) → AddsAtMost p.view.log (j, key) q.view.log → Keeps (known p) (known q) → words_at (known q) (index_of j) ≡ Some key → places q ≡ added (places p) j
places_added p q j key a h w = ⊎_elim
    (λ e. let same : places q ≡ places p = ap (map (λ (r : Row). r.0)) e in same ∙ sym (added_there (places p) j (subst (In j) same (place_there q j key w))))
    (λ e. ap (map (λ (r : Row). r.0)) e.0 ∙ (map-append (λ (r : Row). r.0) p.view.log ((j, key) ∷ []) ∙ sym (added_new (places p) j (λ i. let g = place_words p.view.log j i in e.1 j (known_row p.view.log j key (g.1 ∙ (sym (h.words (index_of j) g.0 g.1) ∙ w)))))))
    a

-- ---- new rows

pub new_row_later : (k l m : Known) (t u : Pairs) (s : Source) (j : ℕ) → Keeps l m → Goes t u → IsNewRow k l t s j → IsNewRow k m u s j
new_row_later k l m t u s j h f r = record { key = r.key; there = h.words (index_of j) r.key r.there; new = new_key_later k l m t u s.0 s.1 r.key h f r.new }

pub new_rows_later : (k l m : Known) (t u : Pairs) (ss : List Source) (js : List ℕ) → Keeps l m → Goes t u → AreNewRows k l t ss js → AreNewRows k m u ss js
new_rows_later k l m t u [] [] h f a = tt
new_rows_later k l m t u [] (j ∷ js) h f a = absurd a
new_rows_later k l m t u (s ∷ ss) [] h f a = absurd a
new_rows_later k l m t u (s ∷ ss) (j ∷ js) h f a = (new_row_later k l m t u s j h f a.0, new_rows_later k l m t u ss js h f a.1)

new_rows_append : (k l : Known) (t : Pairs) (xs ys : List Source) (is js : List ℕ) → AreNewRows k l t xs is → AreNewRows k l t ys js → AreNewRows k l t (xs ++ ys) (is ++ js)
new_rows_append k l t [] ys [] js a b = b
new_rows_append k l t [] ys (i ∷ is) js a b = absurd a
new_rows_append k l t (s ∷ xs) ys [] js a b = absurd a
new_rows_append k l t (s ∷ xs) ys (i ∷ is) js a b = (a.0, new_rows_append k l t xs ys is js a.1 b)

new_rows_there : (k : Known) (p : Rows) (t : Pairs) (ss : List Source) (js : List ℕ) → AreNewRows k (known p) t ss js → (j : ℕ) → In j js → In j (places p)
new_rows_there k p t [] [] a j h = absurd h
new_rows_there k p t [] (i ∷ js) a j h = absurd a
new_rows_there k p t (s ∷ ss) [] a j h = absurd h
new_rows_there k p t (s ∷ ss) (i ∷ js) a j h = ⊎_elim (λ e. subst (λ x. In x (places p)) (sym e) (place_there p i a.0.key a.0.there)) (λ o. new_rows_there k p t ss js a.1 j o) h

-- ---- the indices that have a pair

first_pairs : (b : Bool) (i : ℕ) (xs ys : List ℕ) → (if b then xs ++ ys else i ∷ (xs ++ ys)) ≡ (if b then xs else i ∷ xs) ++ ys
first_pairs true i xs ys = refl
first_pairs false i xs ys = refl

with_pairs-append : (xs ys : List Source) → with_pairs (xs ++ ys) ≡ with_pairs xs ++ with_pairs ys
with_pairs-append [] ys = refl
with_pairs-append (s ∷ xs) ys = ap (λ (xs : List ℕ). if s.0 then xs else s.1 ∷ xs) (with_pairs-append xs ys) ∙ first_pairs s.0 s.1 (with_pairs xs) (with_pairs ys)

In-either : (n : ℕ) (xs ys : List ℕ) → In n (xs ++ ys) → In n xs ⊎ In n ys
In-either n [] ys h = inr h
In-either n (x ∷ xs) ys h = ⊎_elim (λ e. inl (inl e)) (λ t. ⊎_elim (λ a. inl (inr a)) (λ b. inr b) (In-either n xs ys t)) h

-- ---- what was moved

pub has_none : (k : Known) (p : Rows) (t : Pairs) → HasAll k p t []
has_none k p t = record { new_places = []; are = tt; pairs = λ n h. absurd h }

pub has_later : (k : Known) (p q : Rows) (t u : Pairs) (ss : List Source) → Keeps (known p) (known q) → Goes t u → HasAll k p t ss → HasAll k q u ss
has_later k p q t u ss h f s = record { new_places = s.new_places; are = new_rows_later k (known p) (known q) t u ss s.new_places h f s.are; pairs = λ n i. olds_later t u f n (s.pairs n i) }

pub has_append : (k : Known) (p : Rows) (t : Pairs) (xs ys : List Source) → HasAll k p t xs → HasAll k p t ys → HasAll k p t (xs ++ ys)
has_append k p t xs ys a b = record {
  new_places = a.new_places ++ b.new_places;
  are = new_rows_append k (known p) t xs ys a.new_places b.new_places a.are b.are;
  pairs = λ n h. ⊎_elim (a.pairs n) (b.pairs n) (In-either n (with_pairs xs) (with_pairs ys) (subst (In n) (with_pairs-append xs ys) h));
}

pub tree_later : (k : Known) (p q : Rows) (t u : Pairs) (b : Bool) (i : ℕ) → Keeps (known p) (known q) → Goes t u → HasTree k p t b i → HasTree k q u b i
tree_later k p q t u b i h f s = record { listing = s.listing; listed = s.listed; has = has_later k p q t u s.listing h f s.has }

-- ---- what is added

pub adds_none : (k : Known) (p : Rows) (t : Pairs) → Adds k (places p) (olds t) p t []
adds_none k p t = record { new_places = []; are = tt; rows = refl; pairs = refl }

-- one step after the other
pub adds_then : (k : Known) (rows pairs : List ℕ) (p q : Rows) (t u : Pairs) (xs ys : List Source) → Keeps (known p) (known q) → Goes t u → Adds k rows pairs p t xs → Adds k (places p) (olds t) q u ys → Adds k rows pairs q u (xs ++ ys)
adds_then k rows pairs p q t u xs ys h f a b = record {
  new_places = a.new_places ++ b.new_places;
  are = new_rows_append k (known q) u xs ys a.new_places b.new_places (new_rows_later k (known p) (known q) t u xs a.new_places h f a.are) b.are;
  rows = b.rows ∙ (ap (λ (xs : List ℕ). adding xs b.new_places) a.rows ∙ sym (adding_append rows a.new_places b.new_places));
  pairs = b.pairs ∙ (ap (λ (xs : List ℕ). adding xs (with_pairs ys)) a.pairs ∙ (sym (adding_append pairs (with_pairs xs) (with_pairs ys)) ∙ ap (adding pairs) (sym (with_pairs-append xs ys))));
}

-- and one that adds nothing
pub adds_later : (k : Known) (rows pairs : List ℕ) (p q : Rows) (t u : Pairs) (ss : List Source) → Keeps (known p) (known q) → Goes t u → places q ≡ places p → u ≡ t → Adds k rows pairs p t ss → Adds k rows pairs q u ss
adds_later k rows pairs p q t u ss h f r e a = record {
  new_places = a.new_places;
  are = new_rows_later k (known p) (known q) t u ss a.new_places h f a.are;
  rows = r ∙ a.rows;
  pairs = ap olds e ∙ a.pairs;
}

-- what was added was moved
pub row_has : (k : Known) (pairs : List ℕ) (p : Rows) (t : Pairs) (ss : List Source) (js : List ℕ) → AreNewRows k (known p) t ss js → olds t ≡ adding pairs (with_pairs ss) → HasAll k p t ss
row_has k pairs p t ss js are e = record { new_places = js; are = are; pairs = λ n h. subst (In n) (sym e) (adding_has pairs (with_pairs ss) n h) }

-- what was moved adds nothing
pub has_adds : (k : Known) (p : Rows) (t : Pairs) (ss : List Source) → HasAll k p t ss → Adds k (places p) (olds t) p t ss
has_adds k p t ss s = record {
  new_places = s.new_places;
  are = s.are;
  rows = sym (adding_same (places p) s.new_places (new_rows_there k p t ss s.new_places s.are));
  pairs = sym (adding_same (olds t) (with_pairs ss) s.pairs);
}

-- the row of one source more, and its pair
pub adds_row : (k : Known) (rows pairs : List ℕ) (p : Rows) (t : Pairs) (ss : List Source) (b : Bool) (i j : ℕ) (new_places : List ℕ) → AreNewRows k (known p) t ss new_places → IsNewRow k (known p) t (b, i) j → places p ≡ added (adding rows new_places) j → olds t ≡ adding pairs (with_pairs (ss ++ (b, i) ∷ [])) → Adds k rows pairs p t (ss ++ (b, i) ∷ [])
adds_row k rows pairs p t ss b i j js are row e f = record {
  new_places = js ++ j ∷ [];
  are = new_rows_append k (known p) t ss ((b, i) ∷ []) js (j ∷ []) are (row, tt);
  rows = e ∙ sym (adding_append rows js (j ∷ []));
  pairs = f;
}

-- a list of parts has no pair of its own
pub parts_pairs : (pairs : List ℕ) (t : Pairs) (ss : List Source) (i : ℕ) → olds t ≡ adding pairs (with_pairs ss) → olds t ≡ adding pairs (with_pairs (ss ++ (true, i) ∷ []))
parts_pairs pairs t ss i e = e ∙ (sym (adding_append pairs (with_pairs ss) []) ∙ ap (adding pairs) (sym (with_pairs-append ss ((true, i) ∷ []))))

-- else its pair is noted
pub index_pairs : (pairs : List ℕ) (t u : Pairs) (ss : List Source) (i : ℕ) → olds t ≡ adding pairs (with_pairs ss) → olds u ≡ added (olds t) i → olds u ≡ adding pairs (with_pairs (ss ++ (false, i) ∷ []))
index_pairs pairs t u ss i e f = f ∙ (ap (λ (xs : List ℕ). added xs i) e ∙ (sym (adding_append pairs (with_pairs ss) (i ∷ [])) ∙ ap (adding pairs) (sym (with_pairs-append ss ((false, i) ∷ [])))))

-- with the pair that is noted each that was moved has a tree that was
pub trees_note : (k : Known) (p : Rows) (moved : Pairs) (i j : ℕ) → ((a b : ℕ) → IsMoved moved a b → HasTree k p moved false a) → HasParts k p moved false i → IsNewRow k (known p) moved (false, i) j → (a b : ℕ) → IsMoved (moved ++ (index_of i, index_of j) ∷ []) a b → HasTree k p (moved ++ (index_of i, index_of j) ∷ []) false a
trees_note k p moved i j h s row a b m =
    let more : Pairs = moved ++ (index_of i, index_of j) ∷ [] in
    let keeps : Keeps (known p) (known p) = record { words = λ x ws e. e } in
    ⊎_elim
    (λ o. tree_later k p p moved more false a keeps (goes_push moved i j) (h a b o))
    (λ e. subst (HasTree k p more false) (sym e.0) (record {
      listing = s.listing ++ (false, i) ∷ [];
      listed = s.listed;
      has = has_append k p more s.listing ((false, i) ∷ []) (has_later k p p moved more s.listing keeps (goes_push moved i j) s.has) (record {
        new_places = j ∷ [];
        are = (new_row_later k (known p) (known p) moved more (false, i) j keeps (goes_push moved i j) row, tt);
        pairs = λ n x. ⊎_elim (λ y. subst (λ z. In z (olds more)) (sym y) (subst (In i) (sym (olds_push moved i j)) (In-last i (olds moved)))) (λ y. absurd y) x;
      });
    }))
    (moved_cases moved i j a b m)
