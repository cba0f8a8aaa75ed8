-- Numbers of lines tell their trees.
use Rattle.std.proofs.Common.{◌≡◌, ℕ, zero, suc, ◌+◌, ◌<◌, ◌≤◌, Bool, true, false, List, [], ◌∷◌, ◌++◌, length, map, take, drop, refl, sym, ◌∙◌, ap, subst, Option, Some, None, ◌⊎◌, inl, inr, arith, append_assoc, length-append, add-zero}
use Rattle.std.specs.Prelude.{nat_eq, slice_get, slice_index, slice_index_or, if◌then◌else◌, unwrap_or, ◌↔◌}
use Rattle.std.specs.Option.{option_or}
use Rattle.std.specs.Str.{bytes_eq}
use Rattle.std.proofs.Math.ListN.{get_or-append, get_or-eq_default}
use Rattle.std.proofs.Math.Seq.{take-append_seam, drop-append_seam, get_or-append_seam}
use Rattle.std.proofs.lemmas.List.{append-nil}
use Rattle.std.proofs.lemmas.Slice.Eq.{bytes_eq-Decides}
use Rattle.std.proofs.lemmas.Bool.{cases_lt, true≢false}
use Rattle.zir_form.specs.declared.form.Form.{Form}
use Rattle.zir_form.specs.declared.form.Form.TheVariants as form
use Rattle.zir_same.specs.declared.same.KnownTrees.{KnownTrees}
use Rattle.zir_form.specs.Core.{Core}
use Rattle.zir_form.specs.Core as core
use Rattle.zir_same.specs.Labels.{below, children, key, label, label_of, packed}
use Rattle.zir_form.specs.declared.zir.PartRef.{PartRef}
use Rattle.zir_form.specs.Lines.{core_at, over_cores, tree_at, trees_of}
use Rattle.zir_form.specs.Tables.{tree_by}
use Rattle.zir_form.specs.Places.{place_in}
use Rattle.zir_same.specs.Same.{NumberedLines, TellsTrees, same_lines, same_parts, NumbersBelow, StandsFor, Keyed, Kept, IsKnown, Stand, NumberedForm, Numbered, is_missing, next_number, number_at}
use Rattle.zir_same.proofs.Labels.{below_is, label_same, told}
use Rattle.zir_form.proofs.LineLemmas.{put_line}

-- ---- some trees more

stays : (seen more : List Core) (n : ℕ) → n < length seen → tree_at (seen ++ more) n ≡ tree_at seen n
stays seen more n h = get_or-append seen more core.missing n h

longer : (seen more : List Core) (n : ℕ) → n < length seen → n < length (seen ++ more)
longer seen more n h = omega (arith, length-append seen more)

stands_stays : (seen more : List Core) (n : ℕ) (t : Core) → StandsFor seen n t → StandsFor (seen ++ more) n t
stands_stays seen more n t s = record { inside = longer seen more n s.inside; is = stays seen more n s.inside ∙ s.is }

pub stand_stays : (seen more trees : List Core) (numbers : List ℕ) → Stand seen trees numbers → Stand (seen ++ more) trees numbers
stand_stays seen more trees numbers s = record { count = s.count; is = λ line. stands_stays seen more _ _ (s.is line) }

below_stays : (seen more : List Core) (ns : List ℕ) → NumbersBelow (length seen) ns → NumbersBelow (length (seen ++ more)) ns
below_stays seen more [] h = tt
below_stays seen more (n ∷ ns) h = (longer seen more n h.0, below_stays seen more ns h.1)

map_stays : (seen more : List Core) (ns : List ℕ) → NumbersBelow (length seen) ns → map (tree_at (seen ++ more)) ns ≡ map (tree_at seen) ns
map_stays seen more [] h = refl
map_stays seen more (n ∷ ns) h =
    ap (λ (c : Core). c ∷ map (tree_at (seen ++ more)) ns) (stays seen more n h.0) ∙ ap (λ (l : List Core). tree_at seen n ∷ l) (map_stays seen more ns h.1)

keyed_stays : (seen more : List Core) (words : List ℕ) (n : ℕ) → Keyed seen words n → Keyed (seen ++ more) words n
keyed_stays seen more words n k =
    let here : tree_at (seen ++ more) n ≡ tree_at seen n = stays seen more n k.inside in
    record {
      numbers = k.numbers;
      inside = longer seen more n k.inside;
      numbered = below_stays seen more k.numbers k.numbered;
      stand = map_stays seen more k.numbers k.numbered ∙ k.stand ∙ ap below (sym here);
      is = k.is ∙ ap (λ (c : Core). packed (label c) k.numbers) (sym here);
    }

-- ---- keys

pub packed_label : (a b xs ys : List ℕ) → packed a xs ≡ packed b ys → a ≡ b
packed_label a b xs ys e =
    let count : length a ≡ length b = ap (λ (l : List ℕ). slice_index l 0) e in
    let rest : a ++ xs ≡ b ++ ys = ap (drop 1) e in
    sym (take-append_seam a xs) ∙ ap (take (length a)) rest ∙ ap (λ (n : ℕ). take n (b ++ ys)) count ∙ take-append_seam b ys

pub packed_numbers : (a b xs ys : List ℕ) → packed a xs ≡ packed b ys → xs ≡ ys
packed_numbers a b xs ys e =
    let count : length a ≡ length b = ap (λ (l : List ℕ). slice_index l 0) e in
    let rest : a ++ xs ≡ b ++ ys = ap (drop 1) e in
    sym (drop-append_seam a xs) ∙ ap (drop (length a)) rest ∙ ap (λ (n : ℕ). drop n (b ++ ys)) count ∙ drop-append_seam b ys

-- the lines below a form have the numbers of their trees
numbers_below : (seen trees : List Core) (numbers lines : List ℕ) → Stand seen trees numbers → NumbersBelow (length seen) (map (number_at numbers) lines)
numbers_below seen trees numbers [] s = tt
numbers_below seen trees numbers (l ∷ ls) s = ((s.is l).inside, numbers_below seen trees numbers ls s)

numbers_stand : (seen trees : List Core) (numbers lines : List ℕ) → Stand seen trees numbers → map (tree_at seen) (map (number_at numbers) lines) ≡ map (tree_at trees) lines
numbers_stand seen trees numbers [] s = refl
numbers_stand seen trees numbers (l ∷ ls) s =
    ap (λ (c : Core). c ∷ map (tree_at seen) (map (number_at numbers) ls)) (s.is l).is ∙ ap (λ (r : List Core). tree_at trees l ∷ r) (numbers_stand seen trees numbers ls s)

-- equal trees of numbers that stand apart are equal numbers
same_numbers : (seen : List Core) (ns ms : List ℕ) → ((m n : ℕ) → m < length seen → n < length seen → tree_at seen m ≡ tree_at seen n → m ≡ n)
    → NumbersBelow (length seen) ns → NumbersBelow (length seen) ms → map (tree_at seen) ns ≡ map (tree_at seen) ms → ns ≡ ms
same_numbers seen [] [] apart a b e = refl
same_numbers seen [] (m ∷ ms) apart a b e = absurd (cc)
same_numbers seen (n ∷ ns) [] apart a b e = absurd (cc)
same_numbers seen (n ∷ ns) (m ∷ ms) apart a b e =
    let first : n ≡ m = apart n m a.0 b.0 (cc) in
    let rest : ns ≡ ms = same_numbers seen ns ms apart a.1 b.1 (cc) in
    ap (λ (x : ℕ). x ∷ ns) first ∙ ap (λ (l : List ℕ). m ∷ l) rest

-- ---- one form

-- a number that the key of a form has is that of its tree
found_stands : (seen trees : List Core) (numbers : List ℕ) (f : Form) (n : ℕ) → Stand seen trees numbers → Keyed seen (key (number_at numbers) f) n → StandsFor seen n (over_cores (tree_at trees) f)
unfolding key
found_stands seen trees numbers f n s k =
    let t : Core = tree_at seen n in
    let tree : Core = over_cores (tree_at trees) f in
    let labels : label_of f ≡ label t = packed_label _ _ _ _ k.is in
    let lines : map (number_at numbers) (children f) ≡ k.numbers = packed_numbers _ _ _ _ k.is in
    let trees_below : below t ≡ below tree =
    sym k.stand ∙ ap (map (tree_at seen)) (sym lines) ∙ numbers_stand seen trees numbers (children f) s ∙ sym (below_is (tree_at trees) f) in
    record { inside = k.inside; is = told t tree (sym labels ∙ sym (label_same (tree_at trees) f)) trees_below }

-- a tree that has a number has the key of its form
tree_keyed : (seen trees : List Core) (known : KnownTrees) (numbers : List ℕ) (f : Form) (n : ℕ) (words : List ℕ) → IsKnown seen known → Stand seen trees numbers → Keyed seen words n
    → tree_at seen n ≡ over_cores (tree_at trees) f → words ≡ key (number_at numbers) f
unfolding key
tree_keyed seen trees known numbers f n words i s k e =
    let labels : label (tree_at seen n) ≡ label_of f = ap label e ∙ label_same (tree_at trees) f in
    let same : map (tree_at seen) k.numbers ≡ map (tree_at seen) (map (number_at numbers) (children f)) =
    k.stand ∙ ap below e ∙ below_is (tree_at trees) f ∙ sym (numbers_stand seen trees numbers (children f) s) in
    let lines : k.numbers ≡ map (number_at numbers) (children f) =
    same_numbers seen _ _ i.apart k.numbered (numbers_below seen trees numbers (children f) s) same in
    k.is ∙ ap (λ (l : List ℕ). packed l k.numbers) labels ∙ ap (packed (label_of f)) lines

-- a form that is there has another tree than none
a_form : (at : ℕ → Core) (f : Form) → is_missing f ≡ false → over_cores at f ≡ core.missing → ⊥
unfolding over_cores
a_form at form.Missing h e = absurd (cc)
a_form at _ h e = absurd (cc)

no_form : (at : ℕ → Core) (f : Form) → is_missing f ≡ true → over_cores at f ≡ core.missing
unfolding over_cores
no_form at form.Missing h = refl
no_form at _ h = absurd (cc)

-- ---- the table

-- a key that has no number gets one, and no other key
pub entered : (words w : List ℕ) (n : ℕ) (place : List ℕ → Option ℕ) → place words ≡ None
    → (if bytes_eq words w then Some n else place w) ≡ option_or (place w) (if bytes_eq words w then Some n else None)
entered words w n place e = by (bytes_eq words w) refl
  where
    by : (b : Bool) → bytes_eq words w ≡ b → (if b then Some n else place w) ≡ option_or (place w) (if b then Some n else None)
    by true t =
        let here : place w ≡ None = ap place (sym ((bytes_eq-Decides words w).0 t)) ∙ e in
        sym (ap (λ (o : Option ℕ). option_or o (Some n)) here)
    by false t = or_none (place w)
      where
        or_none : (o : Option ℕ) → o ≡ option_or o None
        or_none None = refl
        or_none (Some x) = refl

-- the table after a key was asked for
pub record Asked (old new : KnownTrees) (words : List ℕ) (n : ℕ) : Type 0 where
  pub number : n ≡ unwrap_or (place_in old.numbers words) old.next
  pub numbers : (w : List ℕ) → place_in new.numbers w ≡ option_or (place_in old.numbers w) (if bytes_eq words w then Some old.next else None)
  pub next : new.next ≡ next_number (place_in old.numbers words) old.next

or_some : (o p : Option ℕ) (n : ℕ) → o ≡ Some n → option_or o p ≡ Some n
or_some o p n e = ap (λ (x : Option ℕ). option_or x p) e

-- where a key has a number nothing changes
unchanged : (old new : KnownTrees) (words w : List ℕ) (n m : ℕ) → Asked old new words n → place_in old.numbers words ≡ Some m → place_in new.numbers w ≡ place_in old.numbers w
unchanged old new words w n m a e = a.numbers w ∙ by (bytes_eq words w) refl
  where
    by : (b : Bool) → bytes_eq words w ≡ b → option_or (place_in old.numbers w) (if b then Some old.next else None) ≡ place_in old.numbers w
    by true t =
        let here : place_in old.numbers w ≡ Some m = ap (place_in old.numbers) (sym ((bytes_eq-Decides words w).0 t)) ∙ e in
        or_some _ (Some old.next) m here ∙ sym here
    by false t = or_none (place_in old.numbers w)
      where
        or_none : (o : Option ℕ) → option_or o None ≡ o
        or_none None = refl
        or_none (Some x) = refl

known_before : (seen : List Core) (old new : KnownTrees) (words : List ℕ) (n m : ℕ) → Asked old new words n → place_in old.numbers words ≡ Some m → IsKnown seen old → IsKnown seen new
known_before seen old new words n m a e i = record {
  first = i.first;
  next = a.next ∙ ap (λ (o : Option ℕ). next_number o old.next) e ∙ i.next;
  apart = i.apart;
  found = λ w k h. i.found w k (sym (unchanged old new words w n m a e) ∙ h);
  kept = λ k p h. let q = i.kept k p h in record { words = q.words; place = unchanged old new words q.words n m a e ∙ q.place };
}

count_more : (seen : List Core) (t : Core) → length (seen ++ t ∷ []) ≡ length seen + 1
count_more seen t = length-append seen (t ∷ [])

at_end : (seen : List Core) (t : Core) → tree_at (seen ++ t ∷ []) (length seen) ≡ t
at_end seen t = get_or-append_seam seen t [] core.missing

-- a form whose key has no number has a tree that wasn't met
fresh : (seen trees : List Core) (old : KnownTrees) (numbers : List ℕ) (f : Form) (m : ℕ) → IsKnown seen old → Stand seen trees numbers → is_missing f ≡ false
    → place_in old.numbers (key (number_at numbers) f) ≡ None → m < length seen → tree_at seen m ≡ over_cores (tree_at trees) f → ⊥
fresh seen trees old numbers f zero i s x e h same = a_form (tree_at trees) f x (sym same ∙ i.first.is)
fresh seen trees old numbers f (suc m) i s x e h same =
    let q = i.kept (suc m) (omega arith) h in
    let words : q.words ≡ key (number_at numbers) f = tree_keyed seen trees old numbers f (suc m) q.words i s (i.found q.words (suc m) q.place) same in
    let place : place_in old.numbers (key (number_at numbers) f) ≡ Some (suc m) = ap (place_in old.numbers) (sym words) ∙ q.place in
    absurd (cc)

apart_more : (seen : List Core) (t : Core) → ((m n : ℕ) → m < length seen → n < length seen → tree_at seen m ≡ tree_at seen n → m ≡ n)
    → ((m : ℕ) → m < length seen → tree_at seen m ≡ t → ⊥)
    → (m n : ℕ) → m < length (seen ++ t ∷ []) → n < length (seen ++ t ∷ []) → tree_at (seen ++ t ∷ []) m ≡ tree_at (seen ++ t ∷ []) n → m ≡ n
apart_more seen t apart none m n a b e = by (cases_lt m (length seen)) (cases_lt n (length seen))
  where
    all : List Core
    all = seen ++ t ∷ []

    last : (k : ℕ) → k < length (seen ++ t ∷ []) → length seen ≤ k → k ≡ length seen
    last k h l = omega (arith, count_more seen t)

    by : (m < length seen) ⊎ (length seen ≤ m) → (n < length seen) ⊎ (length seen ≤ n) → m ≡ n
    by (inl p) (inl q) = apart m n p q (sym (stays seen (t ∷ []) m p) ∙ e ∙ stays seen (t ∷ []) n q)
    by (inl p) (inr q) = absurd (none m p (sym (stays seen (t ∷ []) m p) ∙ e ∙ ap (tree_at (seen ++ t ∷ [])) (last n b q) ∙ at_end seen t))
    by (inr p) (inl q) = absurd (none n q (sym (stays seen (t ∷ []) n q) ∙ sym e ∙ ap (tree_at (seen ++ t ∷ [])) (last m a p) ∙ at_end seen t))
    by (inr p) (inr q) = last m a p ∙ sym (last n b q)

-- the key of the new tree
key_of_new : (seen trees : List Core) (numbers : List ℕ) (f : Form) → Stand seen trees numbers
    → Keyed (seen ++ over_cores (tree_at trees) f ∷ []) (key (number_at numbers) f) (length seen)
unfolding key
key_of_new seen trees numbers f s =
    let t : Core = over_cores (tree_at trees) f in
    let here : tree_at (seen ++ t ∷ []) (length seen) ≡ t = at_end seen t in
    let lines : List ℕ = map (number_at numbers) (children f) in
    let before : NumbersBelow (length seen) lines = numbers_below seen trees numbers (children f) s in
    record {
      numbers = lines;
      inside = omega (arith, count_more seen t);
      numbered = below_stays seen (t ∷ []) lines before;
      stand = map_stays seen (t ∷ []) lines before ∙ numbers_stand seen trees numbers (children f) s ∙ sym (below_is (tree_at trees) f) ∙ ap below (sym here);
      is = ap (λ (l : List ℕ). packed l lines) (sym (label_same (tree_at trees) f) ∙ ap label (sym here));
    }

known_more : (seen trees : List Core) (old new : KnownTrees) (numbers : List ℕ) (f : Form) (n : ℕ) → IsKnown seen old → Stand seen trees numbers → is_missing f ≡ false
    → Asked old new (key (number_at numbers) f) n → place_in old.numbers (key (number_at numbers) f) ≡ None → IsKnown (seen ++ over_cores (tree_at trees) f ∷ []) new
known_more seen trees old new numbers f n i s x a e =
    record {
      first = stands_stays seen (t ∷ []) 0 core.missing i.first;
      next = a.next ∙ ap (λ (o : Option ℕ). next_number o old.next) e ∙ ap (λ (k : ℕ). k + 1) i.next ∙ sym (count_more seen t);
      apart = apart_more seen t i.apart (λ m. fresh seen trees old numbers f m i s x e);
      found = λ w k h. found_by w k (place_in old.numbers w) (bytes_eq words w) refl refl (sym (a.numbers w) ∙ h);
      kept = λ k p h. kept_by k p h (cases_lt k (length seen));
    }
  where
    t : Core
    t = over_cores (tree_at trees) f

    words : List ℕ
    words = key (number_at numbers) f

    found_by : (w : List ℕ) (k : ℕ) (o : Option ℕ) (b : Bool) → place_in old.numbers w ≡ o → bytes_eq (key (number_at numbers) f) w ≡ b
        → option_or (place_in old.numbers w) (if bytes_eq (key (number_at numbers) f) w then Some old.next else None) ≡ Some k
        → Keyed (seen ++ over_cores (tree_at trees) f ∷ []) w k
    found_by w k (Some m) b p q h =
        let is : m ≡ k = cc in
        subst (λ (x : ℕ). Keyed (seen ++ over_cores (tree_at trees) f ∷ []) w x) is (keyed_stays seen (over_cores (tree_at trees) f ∷ []) w m (i.found w m p))
    found_by w k None true p q h =
        let same : key (number_at numbers) f ≡ w = (bytes_eq-Decides (key (number_at numbers) f) w).0 q in
        let is : old.next ≡ k = cc in
        subst (λ (x : ℕ). Keyed (seen ++ over_cores (tree_at trees) f ∷ []) w x) (sym i.next ∙ is)
        (subst (λ (l : List ℕ). Keyed (seen ++ over_cores (tree_at trees) f ∷ []) l (length seen)) same (key_of_new seen trees numbers f s))
    found_by w k None false p q h = absurd (cc)

    kept_by : (k : ℕ) → 0 < k → k < length (seen ++ over_cores (tree_at trees) f ∷ []) → (k < length seen) ⊎ (length seen ≤ k)
        → Kept (seen ++ over_cores (tree_at trees) f ∷ []) new k
    kept_by k p h (inl q) =
        let r = i.kept k p q in
        record { words = r.words; place = a.numbers r.words ∙ or_some _ _ k r.place }
    kept_by k p h (inr q) =
        let is : k ≡ length seen = omega (arith, count_more seen (over_cores (tree_at trees) f)) in
        let own : bytes_eq (key (number_at numbers) f) (key (number_at numbers) f) ≡ true = (bytes_eq-Decides (key (number_at numbers) f) (key (number_at numbers) f)).1 refl in
        record {
          words = key (number_at numbers) f;
          place =
              a.numbers (key (number_at numbers) f)
              ∙ ap (λ (o : Option ℕ). option_or o (if bytes_eq (key (number_at numbers) f) (key (number_at numbers) f) then Some old.next else None)) e
              ∙ ap (λ (b : Bool). option_or None (if b then Some old.next else None)) own ∙ ap Some (i.next ∙ sym is);
        }

same_known : (seen : List Core) (known : KnownTrees) → IsKnown seen known → IsKnown (seen ++ []) known
same_known seen known i = subst (λ (l : List Core). IsKnown l known) (sym (append-nil seen)) i

-- the number of a form without a tree
pub numbered_none : (seen trees : List Core) (known : KnownTrees) (f : Form) → IsKnown seen known → is_missing f ≡ true → NumberedForm seen known trees f 0
numbered_none seen trees known f i x = record {
  more = [];
  holds = same_known seen known i;
  stands = subst (λ (c : Core). StandsFor (seen ++ []) 0 c) (sym (no_form (tree_at trees) f x)) (stands_stays seen [] 0 core.missing i.first);
}

-- the number of a form by its key
pub numbered_form : (seen trees : List Core) (old new : KnownTrees) (numbers : List ℕ) (f : Form) (words : List ℕ) (n : ℕ) → IsKnown seen old → Stand seen trees numbers
    → is_missing f ≡ false → words ≡ key (number_at numbers) f → Asked old new words n → NumberedForm seen new trees f n
numbered_form seen trees old new numbers f words n i s x w asked = by (place_in old.numbers (key (number_at numbers) f)) refl
  where
    a : Asked old new (key (number_at numbers) f) n
    a = subst (λ (l : List ℕ). Asked old new l n) w asked

    by : (o : Option ℕ) → place_in old.numbers (key (number_at numbers) f) ≡ o → NumberedForm seen new trees f n
    by (Some m) e =
        let is : n ≡ m = a.number ∙ ap (λ (o : Option ℕ). unwrap_or o old.next) e in
        let here : StandsFor seen m (over_cores (tree_at trees) f) = found_stands seen trees numbers f m s (i.found (key (number_at numbers) f) m e) in
        record {
          more = [];
          holds = same_known seen new (known_before seen old new (key (number_at numbers) f) n m a e i);
          stands = stands_stays seen [] n _ (subst (λ (k : ℕ). StandsFor seen k (over_cores (tree_at trees) f)) (sym is) here);
        }
    by None e =
        let t : Core = over_cores (tree_at trees) f in
        let is : n ≡ length seen = a.number ∙ ap (λ (o : Option ℕ). unwrap_or o old.next) e ∙ i.next in
        record {
          more = t ∷ [];
          holds = known_more seen trees old new numbers f n i s x a e;
          stands = subst (λ (k : ℕ). StandsFor (seen ++ t ∷ []) k t) (sym is) (record { inside = omega (arith, count_more seen t); is = at_end seen t });
        }

-- ---- the lines of a file

no_lines : (seen : List Core) (line : ℕ) → StandsFor seen 0 core.missing → StandsFor seen (number_at [] line) (tree_at [] line)
unfolding number_at
no_lines seen line s = s

pub numbered_begun : (seen : List Core) (known : KnownTrees) (numbers : List ℕ) → numbers ≡ [] → IsKnown seen known → Numbered seen known (trees_of []) numbers
unfolding trees_of
numbered_begun seen known numbers e i =
    subst (λ (l : List ℕ). Numbered seen known [] l) (sym e)
    (record {
      more = [];
      holds = same_known seen known i;
      stand = record { count = refl; is = λ line. no_lines (seen ++ []) line (same_known seen known i).first };
    })

-- a number behind the others, with its tree
line_behind : (seen trees : List Core) (numbers : List ℕ) (n : ℕ) (t : Core) (line : ℕ) → Stand seen trees numbers → StandsFor seen n t → StandsFor seen 0 core.missing
    → StandsFor seen (number_at (numbers ++ n ∷ []) line) (tree_at (trees ++ t ∷ []) line)
unfolding number_at
line_behind seen trees numbers n t line s h none = by (cases_lt line (length numbers)) (cases_lt (length numbers) line)
  where
    by : (line < length numbers) ⊎ (length numbers ≤ line) → (length numbers < line) ⊎ (line ≤ length numbers)
        → StandsFor seen (slice_index_or (numbers ++ n ∷ []) line 0) (tree_at (trees ++ t ∷ []) line)
    by (inl p) q =
        let low : line < length trees = omega (arith, p, s.count) in
        record {
          inside = subst (λ (k : ℕ). k < length seen) (sym (get_or-append numbers (n ∷ []) 0 line p)) (s.is line).inside;
          is = ap (tree_at seen) (get_or-append numbers (n ∷ []) 0 line p) ∙ (s.is line).is ∙ sym (get_or-append trees (t ∷ []) core.missing line low);
        }
    by (inr p) (inl q) =
        let one : slice_index_or (numbers ++ n ∷ []) line 0 ≡ 0 = get_or-eq_default (numbers ++ n ∷ []) 0 {n = line} (omega (arith, length-append numbers (n ∷ []))) in
        let tree : tree_at (trees ++ t ∷ []) line ≡ core.missing = get_or-eq_default (trees ++ t ∷ []) core.missing {n = line} (omega (arith, length-append trees (t ∷ []), s.count)) in
        record {
          inside = subst (λ (k : ℕ). k < length seen) (sym one) none.inside;
          is = ap (tree_at seen) one ∙ none.is ∙ sym tree;
        }
    by (inr p) (inr q) =
        let at : line ≡ length numbers = omega arith in
        let one : slice_index_or (numbers ++ n ∷ []) line 0 ≡ n = ap (λ (k : ℕ). slice_index_or (numbers ++ n ∷ []) k 0) at ∙ get_or-append_seam numbers n [] 0 in
        let tree : tree_at (trees ++ t ∷ []) line ≡ t = ap (tree_at (trees ++ t ∷ [])) (at ∙ s.count) ∙ get_or-append_seam trees t [] core.missing in
        record {
          inside = subst (λ (k : ℕ). k < length seen) (sym one) h.inside;
          is = ap (tree_at seen) one ∙ h.is ∙ sym tree;
        }

stand_behind : (seen trees : List Core) (numbers : List ℕ) (n : ℕ) (t : Core) → Stand seen trees numbers → StandsFor seen n t → StandsFor seen 0 core.missing
    → Stand seen (trees ++ t ∷ []) (numbers ++ n ∷ [])
stand_behind seen trees numbers n t s h none = record {
  count = length-append numbers (n ∷ []) ∙ ap (λ (k : ℕ). k + 1) s.count ∙ sym (length-append trees (t ∷ []));
  is = λ line. line_behind seen trees numbers n t line s h none;
}

-- one line more
pub numbered_line : (seen : List Core) (old new : KnownTrees) (lines all : List Form) (f : Form) (numbers now : List ℕ) (n : ℕ) → Numbered seen old (trees_of lines) numbers
    → ((s t : List Core) → IsKnown s old → Stand s t numbers → NumberedForm s new t f n) → now ≡ numbers ++ n ∷ [] → all ≡ lines ++ f ∷ []
    → Numbered seen new (trees_of all) now
numbered_line seen old new lines all f numbers now n h step e l =
    let trees : List Core = trees_of lines in
    let more = h.more in
    let one = step (seen ++ more) trees h.holds h.stand in
    let t : Core = over_cores (tree_at trees) f in
    let seen_now : (seen ++ more) ++ one.more ≡ seen ++ (more ++ one.more) = append_assoc seen more one.more in
    let trees_now : trees_of all ≡ trees ++ t ∷ [] = ap trees_of l ∙ put_line lines f in
    let stand : Stand ((seen ++ more) ++ one.more) (trees ++ t ∷ []) (numbers ++ n ∷ []) =
    stand_behind _ trees numbers n t (stand_stays (seen ++ more) one.more trees numbers h.stand) one.stands one.holds.first in
    record {
      more = more ++ one.more;
      holds = subst (λ (s : List Core). IsKnown s new) seen_now one.holds;
      stand =
          subst (λ (s : List Core). Stand s (trees_of all) now) seen_now
          (subst (λ (ts : List Core). Stand ((seen ++ more) ++ one.more) ts now) (sym trees_now)
          (subst (λ (ns : List ℕ). Stand ((seen ++ more) ++ one.more) (trees ++ t ∷ []) ns) (sym e) stand));
    }

-- ---- two files

-- at first no form alone was met
pub known_begun : (known : KnownTrees) → known.next ≡ 1 → ((w : List ℕ) → place_in known.numbers w ≡ None) → IsKnown (core.missing ∷ []) known
known_begun known e h = record {
  first = record { inside = omega arith; is = refl };
  next = e;
  apart = λ m n a b same. let p : m ≡ 0 = omega (arith, a) in let q : n ≡ 0 = omega (arith, b) in p ∙ sym q;
  found = λ w n p. absurd (let none : place_in known.numbers w ≡ None = h w in (cc));
  kept = λ n p q. absurd (omega (arith, p, q));
}

test_same : (m n : ℕ) → nat_eq m n ≡ true → m ≡ n
test_same m n h = grind (arith, h)

same_test : (m n : ℕ) → m ≡ n → nat_eq m n ≡ true
same_test m n h = grind (arith, h)

-- numbers that stand for the trees of lines tell them
lines_told : (seen left right : List Core) (known : KnownTrees) (ls rs : List ℕ) (i j : ℕ) → IsKnown seen known → Stand seen left ls → Stand seen right rs
    → (nat_eq (number_at ls i) (number_at rs j) ≡ true) ↔ (tree_at left i ≡ tree_at right j)
lines_told seen left right known ls rs i j k l r = (
  (λ h. sym (l.is i).is ∙ ap (tree_at seen) (test_same _ _ h) ∙ (r.is j).is),
  (λ h. same_test _ _ (k.apart _ _ (l.is i).inside (r.is j).inside ((l.is i).is ∙ h ∙ sym (r.is j).is))),
)

parts_told : (left right : List Form) (s : NumberedLines) → ((i j : ℕ) → (same_lines s i j ≡ true) ↔ (core_at left i ≡ core_at right j))
    → (p q : Option PartRef) → (same_parts s p q ≡ true) ↔ (tree_by left p ≡ tree_by right q)
parts_told left right s h (Some p) (Some q) = ((λ e. ap Some ((h p.line q.line).0 e)), (λ e. (h p.line q.line).1 (some_core _ _ e)))
  where
    some_core : (c d : Core) → Some c ≡ Some d → c ≡ d
    some_core c d e = cc
parts_told left right s h None None = ((λ e. refl), (λ e. refl))
parts_told left right s h (Some p) None = ((λ e. absurd (cc)), (λ e. absurd (cc)))
parts_told left right s h None (Some q) = ((λ e. absurd (cc)), (λ e. absurd (cc)))

pub tells : (left right : List Form) (first second third : KnownTrees) (ls rs : List ℕ) → IsKnown (core.missing ∷ []) first
    → ((seen : List Core) → IsKnown seen first → Numbered seen second (trees_of left) ls) → ((seen : List Core) → IsKnown seen second → Numbered seen third (trees_of right) rs)
    → TellsTrees left right (record { left = ls; right = rs })
unfolding core_at
tells left right first second third ls rs k l r =
    let a = l (core.missing ∷ []) k in
    let b = r ((core.missing ∷ []) ++ a.more) a.holds in
    let lines : (i j : ℕ) → (same_lines (record { left = ls; right = rs }) i j ≡ true) ↔ (core_at left i ≡ core_at right j) =
    λ i j. lines_told _ (trees_of left) (trees_of right) third ls rs i j b.holds (stand_stays _ b.more (trees_of left) ls a.stand) b.stand in
    record { lines = lines; parts = parts_told left right (record { left = ls; right = rs }) lines }

-- ---- lines one after another

line_there : (lines : List Form) (i : ℕ) (f : Form) → slice_get lines i ≡ Some f → (i < length lines) × (take (i + 1) lines ≡ take i lines ++ f ∷ [])
line_there [] i f e = absurd (cc)
line_there (g ∷ gs) zero f e = (omega arith, ap (λ (x : Form). x ∷ []) (cc))
line_there (g ∷ gs) (suc i) f e =
    let h = line_there gs i f e in
    let low : i < length gs = h.0 in
    let count : suc i + 1 ≡ suc (i + 1) = omega arith in
    (omega (arith, low), ap (λ (k : ℕ). take k (g ∷ gs)) count ∙ ap (λ (l : List Form). g ∷ l) h.1)

pub line_low : (lines : List Form) (i : ℕ) (f : Form) → slice_get lines i ≡ Some f → i < length lines
line_low lines i f e = (line_there lines i f e).0

pub line_more : (lines : List Form) (i : ℕ) (f : Form) → slice_get lines i ≡ Some f → take (i + 1) lines ≡ take i lines ++ f ∷ []
line_more lines i f e = (line_there lines i f e).1

pub lines_over : (lines : List Form) (i : ℕ) → slice_get lines i ≡ None → take i lines ≡ lines
lines_over [] zero e = refl
lines_over [] (suc i) e = refl
lines_over (g ∷ gs) zero e = absurd (cc)
lines_over (g ∷ gs) (suc i) e = ap (λ (l : List Form). g ∷ l) (lines_over gs i e)
