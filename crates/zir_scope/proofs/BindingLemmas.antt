-- The last binding with a name, as bindings come and go at the end.
use Rattle.std.proofs.Common.{◌≡◌, ℕ, zero, suc, ◌-◌, ◌<◌, ◌≤◌, ◌==◌, Bool, true, false, if◌then◌else◌, List, [], ◌∷◌, ◌++◌, length, take, set, get_or, Option, Some, None, refl, sym, ap, ◌∙◌, subst, arith, append_assoc, length-append, eqb-true, eq-eqb, get_or-set_same, get_or-set_other}
use Rattle.std.proofs.Math.ListN.{replicate}
use Rattle.std.proofs.Math.Seq.{take-append_seam}
use Rattle.std.proofs.lemmas.Bool.{true≢false}
use Rattle.std.proofs.lemmas.List.{append-nil, length-set, take-take}
use Rattle.std.specs.Option.{option_or}
use Rattle.zir_scope.specs.declared.bindings.Binding.{Binding}
use Rattle.zir_scope.specs.declared.bindings.Row.{Row}
use Rattle.zir_scope.specs.Bindings.{latest, BindingsState}
use Rattle.zir_scope.specs.Rows.{bindings_of, Hide, Agrees}

or_if : (t : Bool) (v : ℕ) (o p : Option ℕ) → option_or (if t then Some v else o) p ≡ (if t then Some v else option_or o p)
or_if true v o p = refl
or_if false v o p = refl

pub latest-push : (bs : List Binding) (b : Binding) (name : ℕ) → latest (bs ++ b ∷ []) name ≡ (if b.name == name then Some b.value else latest bs name)
unfolding latest
latest-push [] b name = refl
latest-push (a ∷ bs) b name =
    let p = if a.name == name then Some a.value else None in
    ap (λ o. option_or o p) (latest-push bs b name) ∙ or_if (b.name == name) b.value (latest bs name) p

pub latest-none : (name : ℕ) → latest [] name ≡ None
unfolding latest
latest-none name = refl

pub bindings_of-push : (rows : List Row) (row : Row) → bindings_of (rows ++ row ∷ []) ≡ bindings_of rows ++ row.binding ∷ []
bindings_of-push [] row = refl
bindings_of-push (r ∷ rows) row = ap (λ bs. r.binding ∷ bs) (bindings_of-push rows row)

pub length-bindings_of : (rows : List Row) → length (bindings_of rows) ≡ length rows
length-bindings_of [] = refl
length-bindings_of (r ∷ rows) = ap suc (length-bindings_of rows)

Hide-push : (names : ℕ) (before : List Binding) (rows : List Row) (row : Row) → Hide names before rows → row.binding.name < names → row.hidden ≡ latest (before ++ bindings_of rows) row.binding.name → Hide names before (rows ++ row ∷ [])
Hide-push names before [] row h below e = (below, e ∙ ap (λ bs. latest bs row.binding.name) (append-nil before), tt)
Hide-push names before (r ∷ rows) row h below e = (
  h.0,
  h.1,
  Hide-push names (before ++ r.binding ∷ []) rows row h.2 below
      (e ∙ ap (λ bs. latest bs row.binding.name) (sym (append_assoc before (r.binding ∷ []) (bindings_of rows)))),
)

pub record Hidden (names : ℕ) (before : List Binding) (rows : List Row) (row : Row) : Type 0 where
  pub rest : Hide names before rows
  pub below : row.binding.name < names
  pub is : row.hidden ≡ latest (before ++ bindings_of rows) row.binding.name

Hide-pop : (names : ℕ) (before : List Binding) (rows : List Row) (row : Row) → Hide names before (rows ++ row ∷ []) → Hidden names before rows row
Hide-pop names before [] row h = record {
  rest = tt;
  below = h.0;
  is = h.1 ∙ ap (λ bs. latest bs row.binding.name) (sym (append-nil before));
}
Hide-pop names before (r ∷ rows) row h =
    let more = Hide-pop names (before ++ r.binding ∷ []) rows row h.2 in
    record {
      rest = (h.0, h.1, more.rest);
      below = more.below;
      is = more.is ∙ ap (λ bs. latest bs row.binding.name) (append_assoc before (r.binding ∷ []) (bindings_of rows));
    }

-- a table with another value at one name
table_set : (newest : List (Option ℕ)) (at : ℕ) (o : Option ℕ) (name : ℕ) (t : Bool) → (at == name) ≡ t → at < length newest → get_or (set newest at o) name None ≡ (if t then o else get_or newest name None)
table_set newest at o name true e h = subst (λ n. get_or (set newest at o) n None ≡ o) (eqb-true at name e) (get_or-set_same newest at o None h)
table_set newest at o name false e h = get_or-set_other newest at name o None (λ d. absurd (true≢false (sym (eq-eqb at name (sym d)) ∙ e)))

pub Agrees-push : (newest : List (Option ℕ)) (rows : List Row) (row : Row) → Agrees newest rows → row.binding.name < length newest → row.hidden ≡ get_or newest row.binding.name None → Agrees (set newest row.binding.name (Some row.binding.value)) (rows ++ row ∷ [])
Agrees-push newest rows row h below e = record {
  last = λ name.
      table_set newest row.binding.name (Some row.binding.value) name _ refl below
      ∙ ap (λ o. if row.binding.name == name then Some row.binding.value else o) (h.last name)
      ∙ sym (latest-push (bindings_of rows) row.binding name)
      ∙ ap (λ bs. latest bs name) (sym (bindings_of-push rows row));
  hide = subst (λ n. Hide n [] (rows ++ row ∷ [])) (sym (length-set newest row.binding.name (Some row.binding.value)))
      (Hide-push (length newest) [] rows row h.hide below (e ∙ h.last row.binding.name));
}

pub Agrees-below : (newest : List (Option ℕ)) (rows : List Row) (row : Row) → Agrees newest (rows ++ row ∷ []) → row.binding.name < length newest
Agrees-below newest rows row h = (Hide-pop (length newest) [] rows row h.hide).below

pub Agrees-pop : (newest : List (Option ℕ)) (rows : List Row) (row : Row) → Agrees newest (rows ++ row ∷ []) → Agrees (set newest row.binding.name row.hidden) rows
Agrees-pop newest rows row h =
    let hidden = Hide-pop (length newest) [] rows row h.hide in
    record {
      last = λ name. popped name (row.binding.name == name) refl hidden;
      hide = subst (λ n. Hide n [] rows) (sym (length-set newest row.binding.name row.hidden)) hidden.rest;
    }
  where
    popped : (name : ℕ) (t : Bool) → (row.binding.name == name) ≡ t → Hidden (length newest) [] rows row → get_or (set newest row.binding.name row.hidden) name None ≡ latest (bindings_of rows) name
    popped name true e hidden =
        table_set newest row.binding.name row.hidden name true e hidden.below ∙ hidden.is
        ∙ ap (latest (bindings_of rows)) (eqb-true row.binding.name name e)
    popped name false e hidden =
        table_set newest row.binding.name row.hidden name false e hidden.below ∙ h.last name
        ∙ ap (λ bs. latest bs name) (bindings_of-push rows row) ∙ latest-push (bindings_of rows) row.binding name
        ∙ ap (λ t. if t then Some row.binding.value else latest (bindings_of rows) name) e

get_or-beyond : (newest : List (Option ℕ)) (n : ℕ) → length newest ≤ n → get_or newest n None ≡ None
get_or-beyond [] n h = refl
get_or-beyond (o ∷ os) zero h = absurd (omega arith)
get_or-beyond (o ∷ os) (suc n) h = get_or-beyond os n (omega arith)

-- a name beyond the table is not bound
pub Agrees-beyond : (newest : List (Option ℕ)) (rows : List Row) (name : ℕ) → Agrees newest rows → length newest ≤ name → latest (bindings_of rows) name ≡ None
Agrees-beyond newest rows name h beyond = sym (h.last name) ∙ get_or-beyond newest name beyond

replicate_none : (n name : ℕ) → get_or (replicate n (let o : Option ℕ = None in o)) name None ≡ None
replicate_none zero name = refl
replicate_none (suc n) zero = refl
replicate_none (suc n) (suc name) = replicate_none n name

pub Agrees-empty : (n : ℕ) → Agrees (replicate n None) []
Agrees-empty n = record { last = λ name. replicate_none n name ∙ sym (latest-none name); hide = tt }

abbrev pub state : ℕ → List Binding → BindingsState
state names entries = record { names = names; entries = entries }

take_front : (bs : List Binding) (b : Binding) → take (length (bs ++ b ∷ []) - 1) (bs ++ b ∷ []) ≡ bs
take_front bs b =
    let e : length (bs ++ b ∷ []) - 1 ≡ length bs = omega (arith, length-append bs (b ∷ [])) in
    ap (λ n. take n (bs ++ b ∷ [])) e ∙ take-append_seam bs (b ∷ [])

-- the bindings of the rows before the last
pub bindings_of-pop : (rows front : List Row) (row : Row) → rows ≡ front ++ row ∷ [] → bindings_of front ≡ take (length (bindings_of rows) - 1) (bindings_of rows)
bindings_of-pop rows front row e =
    let same : bindings_of rows ≡ bindings_of front ++ row.binding ∷ [] = ap bindings_of e ∙ bindings_of-push front row in
    sym (take_front (bindings_of front) row.binding) ∙ ap (λ bs. take (length bs - 1) bs) (sym same)

-- without the last of more bindings than stay, the same stay
pub take_without_last : (n : ℕ) (bs : List Binding) → n < length bs → take n (take (length bs - 1) bs) ≡ take n bs
take_without_last n bs h = take-take n (length bs - 1) bs (omega arith)

-- what tells none from any value is met by none alone
pub none_alone : (P : Option ℕ → Type 0) → ((v : ℕ) → P (Some v) → ⊥) → (o : Option ℕ) → P o → o ≡ None
none_alone P h None p = refl
none_alone P h (Some v) p = absurd (h v p)

none_end : (newest : List (Option ℕ)) (name : ℕ) → get_or (newest ++ None ∷ []) name None ≡ get_or newest name None
none_end [] zero = refl
none_end [] (suc n) = refl
none_end (o ∷ os) zero = refl
none_end (o ∷ os) (suc n) = none_end os n

hide_wider : (names wider : ℕ) (before : List Binding) (rows : List Row) → names ≤ wider → Hide names before rows → Hide wider before rows
hide_wider names wider before [] h k = tt
hide_wider names wider before (r ∷ rows) h k = (omega (arith, h, k.0), k.1, hide_wider names wider (before ++ r.binding ∷ []) rows h k.2)

-- room for one more name changes nothing
pub Agrees-wider : (newest : List (Option ℕ)) (rows : List Row) → Agrees newest rows → Agrees (newest ++ None ∷ []) rows
Agrees-wider newest rows h = record {
  last = λ name. none_end newest name ∙ h.last name;
  hide = let l = length-append newest (None ∷ []) in hide_wider (length newest) (length (newest ++ None ∷ [])) [] rows (omega (arith, l)) h.hide;
}
