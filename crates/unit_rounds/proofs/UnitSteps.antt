-- Units with more behind them, and a round's next unit.
use Rattle.std.proofs.Common.{◌≡◌, ℕ, zero, suc, ◌<◌, Bool, true, false, List, [], ◌∷◌, ◌++◌, ◌⊎◌, Option, Some, None, IsSome, length, take, refl, sym, ap, ◌∙◌, subst, inl, inr, arith, flat_map, append_assoc, append-nil, if◌then◌else◌}
use Rattle.std.specs.Prelude.{slice_get, ◌||◌}
use Rattle.std.specs.List.{Contains}
use Rattle.std.proofs.lemmas.Bool.{cases_lt}
use Rattle.std.proofs.lemmas.List.Folds.{list_any-append}
use Rattle.std.proofs.lemmas.List.Elements.{Contains-push_cases, Contains-append_left}
use Rattle.question_runs.specs.Runs.{Run, ends, fails, stops, goes, IsOver}
use Rattle.question_runs.specs.Rounds.{Language, run_by, result_of, needs}
use Rattle.unit_levels.specs.Levels.{TellsUnits, has_unit, with_unit, with_units, met_in}
use Rattle.unit_levels.proofs.UnitLists.{Contains-first, Contains-later, with_units-front, with_units-same}
use Rattle.unit_rounds.specs.RoundSteps.{WaitsSo, Knows, StandSo, IsRound}

-- ---- lists of any elements

pub slice_get-front : {X : Type 0} (xs ys : List X) (i : ℕ) (x : X) → slice_get xs i ≡ Some x → slice_get (xs ++ ys) i ≡ Some x
slice_get-front [] ys i x e = absurd (cc)
slice_get-front (y ∷ xs) ys zero x e = e
slice_get-front (y ∷ xs) ys (suc i) x e = slice_get-front xs ys i x e

pub slice_get-Contains : {X : Type 0} (xs : List X) (i : ℕ) (x : X) → slice_get xs i ≡ Some x → Contains xs x
slice_get-Contains [] i x e = absurd (cc)
slice_get-Contains (y ∷ xs) zero x e = let one : y ≡ x = cc in subst (Contains (y ∷ xs)) one (Contains-first y xs)
slice_get-Contains (y ∷ xs) (suc i) x e = Contains-later y xs x (slice_get-Contains xs i x e)

pub take-next : {X : Type 0} (xs : List X) (i : ℕ) (x : X) → slice_get xs i ≡ Some x → take (suc i) xs ≡ take i xs ++ x ∷ []
take-next [] i x e = absurd (cc)
take-next (y ∷ xs) zero x e = let one : y ≡ x = cc in ap (λ z. z ∷ []) one
take-next (y ∷ xs) (suc i) x e = ap (λ zs. y ∷ zs) (take-next xs i x e)

pub flat_map-push : {X Y : Type 0} (f : X → List Y) (xs : List X) (x : X) → flat_map f (xs ++ x ∷ []) ≡ flat_map f xs ++ f x
flat_map-push f [] x = append-nil (f x)
flat_map-push f (y ∷ xs) x = ap (λ zs. f y ++ zs) (flat_map-push f xs x) ∙ sym (append_assoc (f y) (flat_map f xs) (f x))

pub or-false : (a b : Bool) → (a || b) ≡ false → (a ≡ false) × (b ≡ false)
or-false true b e = absurd (cc)
or-false false b e = (refl, e)

pub some-one : {X : Type 0} (x y : X) → Some x ≡ Some y → x ≡ y
some-one x y e = cc

-- ---- runs

-- a run that needs a unit gives no result
pub needs-result : {Q A U R : Type 0} (l : Language Q A U R) (r : Run Q A U R) (v : U) → needs l r ≡ Some v → result_of l r ≡ None
needs-result l (ends x) v e = absurd (cc)
needs-result l fails v e = absurd (cc)
needs-result l (stops q) v e = refl
needs-result l (goes m r) v e = needs-result l r v e

-- one that gives a result is over
pub result-over : {Q A U R : Type 0} (l : Language Q A U R) (r : Run Q A U R) (x : R) → result_of l r ≡ Some x → IsOver r
result-over l (ends y) x e = tt
result-over l fails x e = tt
result-over l (stops q) x e = absurd (cc)
result-over l (goes m r) x e = result-over l r x e

-- ---- units with more behind them

module _ {Q A U R : Type 0} (l : Language Q A U R) where
  pub with_units-append : (known xs ys : List U) → with_units l known (xs ++ ys) ≡ with_units l (with_units l known xs) ys
  with_units-append known [] ys = refl
  with_units-append known (x ∷ xs) ys = with_units-append (with_unit l known x) xs ys

  pub WaitsSo-more : (known more : List U) (r : Run Q A U R) (w : Option ℕ) → WaitsSo l known r w → WaitsSo l (known ++ more) r w
  WaitsSo-more known more r None h = h
  WaitsSo-more known more r (Some j) (v, at, e) = (v, slice_get-front known more j v at, e)

module _ {Q A U R : Type 0} (l : Language Q A U R) (tells : TellsUnits l) (files : Q → A) (results : U → Option R) (known : List U) where
  abbrev ran : U → Run Q A U R
  ran u = run_by l files results u

  -- what there is behind one more unit
  pub record IsStep (u : U) (known_then : List U) (given_then : U → Option R) (moved_then : Bool) (known_now : List U) (given_now : U → Option R) (moved_now : Bool) (w : Option ℕ) : Type 0 where
    pub units : known_now ≡ with_units l known_then (met_in l (ran u))
    pub given : (v : U) → given_now v ≡ (if l.same_unit v u then result_of l (ran u) else given_then v)
    pub waits : WaitsSo l known_now (ran u) w
    pub still : moved_now ≡ false → (moved_then ≡ false) × (result_of l (ran u) ≡ results u)
    pub some : moved_now ≡ true → (moved_then ≡ true) ⊎ ((r : R) × (results u ≡ None) × (result_of l (ran u) ≡ Some r))

  given-by : (a b : Bool) (x y g g' : Option R) → g ≡ (if a then x else y) → g' ≡ (if b then x else g) → g' ≡ (if (a || (b || false)) then x else y)
  given-by true true x y g g' e f = f
  given-by true false x y g g' e f = f ∙ e
  given-by false true x y g g' e f = f
  given-by false false x y g g' e f = f ∙ e

  same-run : (u v : U) (g : Option R) (b : Bool) → l.same_unit v u ≡ b → (if b then result_of l (ran u) else g) ≡ (if b then result_of l (ran v) else g)
  same-run u v g true e = ap (λ x. result_of l (ran x)) (sym ((tells v u).0 e))
  same-run u v g false e = refl

  at-or-before : (i count : ℕ) → i < suc count → (i < count) ⊎ (i ≡ count)
  at-or-before i count below = elim (cases_lt i count) [
    | inl less ↦ inl less
    | inr more ↦ inr (omega arith)
  ]

  pub round-step : (count : ℕ) (u : U) (moved moved' : Bool) (units units' : List U) (waits waits' : List (Option ℕ)) (given given' : U → Option R) (w : Option ℕ)
      → IsRound l files results known count moved units waits given → slice_get known count ≡ Some u → IsStep u units given moved units' given' moved' w
      → slice_get waits' count ≡ Some w → ((i : ℕ) → i < count → slice_get waits' i ≡ slice_get waits i)
      → IsRound l files results known (suc count) moved' units' waits' given'
  round-step count u moved moved' units units' waits waits' given given' w h at s here before =
      let next : take (suc count) known ≡ take count known ++ u ∷ [] = take-next known count u at in
      let front : (more : List U) × (units' ≡ units ++ more) = let f = with_units-front l units (met_in l (ran u)) in (f.0, s.units ∙ f.1) in
      record {
        units = s.units ∙ ap (λ us. with_units l us (met_in l (ran u))) h.units
            ∙ sym (with_units-append l known (flat_map (λ v. met_in l (ran v)) (take count known)) (met_in l (ran u)))
            ∙ ap (with_units l known) (sym (flat_map-push (λ v. met_in l (ran v)) (take count known) u) ∙ ap (flat_map (λ v. met_in l (ran v))) (sym next));
        given = λ v.
            given-by (has_unit l (take count known) v) (l.same_unit v u) (result_of l (ran v)) (results v) (given v) (given' v) (h.given v) (s.given v ∙ same-run u v (given v) (l.same_unit v u) refl)
            ∙ ap (λ (b : Bool). if b then result_of l (ran v) else results v) (sym (ap (λ us. has_unit l us v) next ∙ list_any-append (l.same_unit v) (take count known) (u ∷ [])));
        waits = λ i v below among. elim (at-or-before i count below) [
          | inl less ↦
              let old = h.waits i v less among in
              (old.0, before i less ∙ old.1, subst (λ us. WaitsSo l us (ran v) old.0) (sym front.1) (WaitsSo-more l units front.0 (ran v) old.0 old.2))
          | inr is ↦
              let one : u ≡ v = some-one u v (sym at ∙ sym (ap (slice_get known) is) ∙ among) in
              (w, ap (slice_get waits') is ∙ here, subst (λ x. WaitsSo l units' (ran x) w) one s.waits)
        ];
        still = λ e v among. elim (Contains-push_cases (take count known) u v (subst (λ us. Contains us v) next among)) [
          | inl old ↦ h.still (s.still e).0 v old
          | inr is ↦ subst (λ x. result_of l (ran x) ≡ results x) is (s.still e).1
        ];
        some = λ e. elim (s.some e) [
          | inl old ↦ h.some old
          | inr new ↦ (u, new.0, slice_get-Contains known count u at, new.1, new.2)
        ];
      }

  -- ---- a unit that needs no attempt

  -- what it has or waits for
  pub data Rests (waits : List (Option ℕ)) (i : ℕ) (u : U) : Type 0 where
    has_result : (r : R) → results u ≡ Some r → Rests waits i u
    waits_on : (j : ℕ) (v : U) → slice_get waits i ≡ Some (Some j) → slice_get known j ≡ Some v → results u ≡ None → results v ≡ None → Rests waits i u

  pub rests-gives : (waits : List (Option ℕ)) (i : ℕ) (u : U) → StandSo l files results known waits → slice_get known i ≡ Some u → Rests waits i u
      → (result_of l (ran u) ≡ results u) × Knows l known (ran u)
  rests-gives waits i u h at (has_result r e) = let o = h.over u r (slice_get-Contains known i u at) e in (o.0 ∙ sym e, o.1)
  rests-gives waits i u h at (waits_on j v w there none nothing) =
      let o = h.waiting i j u at w in
      let one : o.0 ≡ v = some-one o.0 v (sym o.1 ∙ there) in
      let n = o.2 (ap results one ∙ nothing) in
      (needs-result l (ran u) o.0 n.0 ∙ sym none, n.1)

  pub rests-waits : (waits : List (Option ℕ)) (i : ℕ) (u : U) (w : Option ℕ) → StandSo l files results known waits → slice_get known i ≡ Some u → slice_get waits i ≡ Some w → Rests waits i u
      → WaitsSo l known (ran u) w
  rests-waits waits i u w h at here (has_result r e) =
      let o = h.over u r (slice_get-Contains known i u at) e in
      subst (WaitsSo l known (ran u)) (sym (h.clear i u w r at here e)) (subst IsSome (sym o.0) refl)
  rests-waits waits i u w h at here (waits_on j v e there none nothing) =
      let o = h.waiting i j u at e in
      let one : o.0 ≡ v = some-one o.0 v (sym o.1 ∙ there) in
      let n = o.2 (ap results one ∙ nothing) in
      subst (WaitsSo l known (ran u)) (some-one (Some j) w (sym e ∙ here)) (o.0, o.1, n.0)

  -- a unit that needs no attempt changes nothing
  same-given : (count : ℕ) (moved : Bool) (now : List U) (waiting : List (Option ℕ)) (done : U → Option R) (u v : U) (b : Bool) → IsRound l files results known count moved now waiting done
      → result_of l (ran u) ≡ results u → l.same_unit v u ≡ b → done v ≡ (if b then result_of l (ran u) else done v)
  same-given count moved now waiting done u v false h e same = refl
  same-given count moved now waiting done u v true h e same =
      let one : v ≡ u = (tells v u).0 same in
      ap done one ∙ h.given u ∙ either (has_unit l (take count known) u) (result_of l (ran u)) (results u) (sym e)
    where
      either : (b : Bool) (x y : Option R) → y ≡ x → (if b then x else y) ≡ x
      either true x y e = refl
      either false x y e = e

  pub round-front : (count : ℕ) (moved : Bool) (now : List U) (waiting : List (Option ℕ)) (done : U → Option R) → IsRound l files results known count moved now waiting done → (more : List U) × (now ≡ known ++ more)
  round-front count moved now waiting done h = let f = with_units-front l known (flat_map (λ u. met_in l (ran u)) (take count known)) in (f.0, h.units ∙ f.1)

  pub rests-step : (count : ℕ) (moved : Bool) (now : List U) (waiting : List (Option ℕ)) (done : U → Option R) (waits : List (Option ℕ)) (u : U) (w : Option ℕ) → IsRound l files results known count moved now waiting done
      → StandSo l files results known waits → slice_get known count ≡ Some u → slice_get waits count ≡ Some w → Rests waits count u → IsStep u now done moved now done moved w
  rests-step count moved now waiting done waits u w h stood at here r =
      let gives : (result_of l (ran u) ≡ results u) × Knows l known (ran u) = rests-gives waits count u stood at r in
      let front = round-front count moved now waiting done h in
      record {
        units = sym (with_units-same l tells now (met_in l (ran u)) (λ v among. subst (λ us. Contains us v) (sym front.1) (Contains-append_left known front.0 v (gives.1 v among))));
        given = λ v. same-given count moved now waiting done u v (l.same_unit v u) h gives.0 refl;
        waits = subst (λ us. WaitsSo l us (ran u) w) (sym front.1) (WaitsSo-more l known front.0 (ran u) w (rests-waits waits count u w stood at here r));
        still = λ e. (e, gives.0);
        some = λ e. inl e;
      }

  -- one whose run ends with a result
  pub done-step : (moved : Bool) (now now' : List U) (done done' : U → Option R) (u : U) (r : R) → now' ≡ with_units l now (met_in l (ran u)) → result_of l (ran u) ≡ Some r → results u ≡ None
      → ((v : U) → done' v ≡ (if l.same_unit v u then Some r else done v)) → IsStep u now done moved now' done' true None
  done-step moved now now' done done' u r units ended none given = record {
    units = units;
    given = λ v. given v ∙ ap (λ x. if l.same_unit v u then x else done v) (sym ended);
    waits = subst IsSome (sym ended) refl;
    still = λ e. absurd (cc);
    some = λ e. inr (r, none, ended);
  }

  -- one whose run stops for a unit
  pub waits-step : (count : ℕ) (moved : Bool) (now now' : List U) (waiting : List (Option ℕ)) (done done' : U → Option R) (u v : U) (j : ℕ) → IsRound l files results known count moved now waiting done
      → now' ≡ with_units l now (met_in l (ran u)) → needs l (ran u) ≡ Some v → slice_get now' j ≡ Some v → results u ≡ None → ((x : U) → done' x ≡ done x)
      → IsStep u now done moved now' done' moved (Some j)
  waits-step count moved now now' waiting done done' u v j h units need there none given =
      let nothing : result_of l (ran u) ≡ results u = needs-result l (ran u) v need ∙ sym none in
      record {
        units = units;
        given = λ x. given x ∙ same-given count moved now waiting done u x (l.same_unit x u) h nothing refl;
        waits = (v, there, need);
        still = λ e. (e, nothing);
        some = λ e. inl e;
      }

-- ---- at a round's end

-- an element of the first of two lists
pub slice_get-before : {X : Type 0} (xs ys : List X) (i : ℕ) → i < length xs → slice_get (xs ++ ys) i ≡ slice_get xs i
slice_get-before [] ys i h = absurd (omega arith)
slice_get-before (x ∷ xs) ys zero h = refl
slice_get-before (x ∷ xs) ys (suc i) h = slice_get-before xs ys i (omega arith)

-- what a list became by more units, at a place in it
pub at-front : {X : Type 0} (xs now more : List X) (i : ℕ) (x : X) → now ≡ xs ++ more → i < length xs → slice_get now i ≡ Some x → slice_get xs i ≡ Some x
at-front xs now more i x is below e = sym (slice_get-before xs more i below) ∙ ap (λ zs. slice_get zs i) (sym is) ∙ e

pub none-some : {X : Type 0} (o : Option X) (x : X) → o ≡ None → o ≡ Some x → ⊥
none-some o x e f = absurd (cc)
