-- Lists at indices, read number by number.
use Rattle.std.proofs.Common.{◌≡◌, ◌∙◌, ℕ, ◌+◌, ◌<◌, ◌++◌, List, [], ◌∷◌, length, get_or, take, sym, subst}
use Rattle.std.proofs.lemmas.List.{take_more}
use Rattle.type_form.specs.declared.index.Index.{Index}
use Rattle.type_form.specs.declared.tree.Ty.{Ty}
use Rattle.type_form.specs.declared.tree.Value.{Value}
use Rattle.type_form.specs.declared.tree.Arg.{Arg}
use Rattle.type_form.specs.Known.{Known}
use Rattle.type_form.specs.Words.{index_of}
use Rattle.type_form.specs.Means.{AreBytes, IsBytes, IsList, bytes_at, list_at, AreNames, names_at, IsTy, ty_at, AreTys, tys_at, IsValue, value_at, AreValues, values_at, IsDecl, decl_at, AreArgs, args_at, DenotesBytes, DenotesTy, DenotesValue, DenotesArg, Grows}
use Rattle.type_form.proofs.MeansLemmas.{IsBytes-list, IsBytes-bytes}
use Rattle.type_form.proofs.ListsLemmas.{AreNames-ListNames, ListNames-at, ListNames-length, AreTys-ListTys, ListTys-at, ListTys-length, AreValues-ListValues, ListValues-at, ListValues-length, AreArgs-ListArgs, ListArgs-at, ListArgs-length}

pub is_list : (k : Known) (i : Index) → IsBytes k i → IsList k i
is_list k i h = (IsBytes-list k i h).known

pub list_is : (k : Known) (i : Index) → IsBytes k i → list_at k i ≡ bytes_at k i
list_is k i h = (IsBytes-list k i h).is

pub are_bytes : (k : Known) (i : Index) → IsBytes k i → AreBytes (list_at k i)
are_bytes k i h = subst AreBytes (sym (list_is k i h)) (IsBytes-bytes k i h)

pub ruleset byte_lists = (is_list, list_is, are_bytes)

-- a number of a list of names is the index of the name there, also once more is known
pub name_item : (k l : Known) (list : Index) (j : ℕ) (d : List ℕ) → Grows k l → AreNames k list → j < length (list_at k list)
    → DenotesBytes l (index_of (get_or (list_at k list) j 0)) (get_or (names_at k list) j d)
name_item k l list j d g h lt =
    let at = ListNames-at k (list_at k list) (names_at k list) (AreNames-ListNames k list h) j lt d in
    record { known = g.stays.is_bytes _ at.known; is = g.stays.bytes _ at.known ∙ at.is }

pub names_length : (k : Known) (list : Index) → AreNames k list → length (list_at k list) ≡ length (names_at k list)
names_length k list h = ListNames-length k (list_at k list) (names_at k list) (AreNames-ListNames k list h)

-- the same of types
pub ty_item : (k l : Known) (list : Index) (j : ℕ) (d : Ty) → Grows k l → AreTys k list → j < length (list_at k list)
    → DenotesTy l (index_of (get_or (list_at k list) j 0)) (get_or (tys_at k list) j d)
ty_item k l list j d g h lt =
    let at = ListTys-at k (list_at k list) (tys_at k list) (AreTys-ListTys k list h) j lt d in
    record { known = g.stays.is_ty _ at.known; is = g.stays.ty _ at.known ∙ at.is }

pub tys_length : (k : Known) (list : Index) → AreTys k list → length (list_at k list) ≡ length (tys_at k list)
tys_length k list h = ListTys-length k (list_at k list) (tys_at k list) (AreTys-ListTys k list h)

-- of values
pub value_item : (k l : Known) (list : Index) (j : ℕ) (d : Value) → Grows k l → AreValues k list → j < length (list_at k list)
    → DenotesValue l (index_of (get_or (list_at k list) j 0)) (get_or (values_at k list) j d)
value_item k l list j d g h lt =
    let at = ListValues-at k (list_at k list) (values_at k list) (AreValues-ListValues k list h) j lt d in
    record { known = g.stays.is_value _ at.known; is = g.stays.value _ at.known ∙ at.is }

pub values_length : (k : Known) (list : Index) → AreValues k list → length (list_at k list) ≡ length (values_at k list)
values_length k list h = ListValues-length k (list_at k list) (values_at k list) (AreValues-ListValues k list h)

-- and of arguments
pub arg_item : (k l : Known) (list : Index) (j : ℕ) (d : Arg) → Grows k l → AreArgs k list → j < length (list_at k list)
    → DenotesArg l (index_of (get_or (list_at k list) j 0)) (get_or (args_at k list) j d)
arg_item k l list j d g h lt =
    let at = ListArgs-at k (list_at k list) (args_at k list) (AreArgs-ListArgs k list h) j lt d in
    record { known = g.stays.is_arg _ at.known; is = g.stays.arg _ at.known ∙ at.is }

pub args_length : (k : Known) (list : Index) → AreArgs k list → length (list_at k list) ≡ length (args_at k list)
args_length k list h = ListArgs-length k (list_at k list) (args_at k list) (AreArgs-ListArgs k list h)

-- what parts denote stays
pub names_stay : (k l : Known) (i : Index) → Grows k l → AreNames k i → names_at l i ≡ names_at k i
names_stay k l i g h = g.stays.names i h

pub bytes_stay : (k l : Known) (i : Index) → Grows k l → IsBytes k i → bytes_at l i ≡ bytes_at k i
bytes_stay k l i g h = g.stays.bytes i h

pub ty_stays : (k l : Known) (i : Index) → Grows k l → IsTy k i → ty_at l i ≡ ty_at k i
ty_stays k l i g h = g.stays.ty i h

pub value_stays : (k l : Known) (i : Index) → Grows k l → IsValue k i → value_at l i ≡ value_at k i
value_stays k l i g h = g.stays.value i h

pub decl_stays : (k l : Known) (i : Index) → Grows k l → IsDecl k i → decl_at l i ≡ decl_at k i
decl_stays k l i g h = g.stays.decl i h

pub tys_stay : (k l : Known) (i : Index) → Grows k l → AreTys k i → tys_at l i ≡ tys_at k i
tys_stay k l i g h = g.stays.tys i h

pub values_stay : (k l : Known) (i : Index) → Grows k l → AreValues k i → values_at l i ≡ values_at k i
values_stay k l i g h = g.stays.values i h

pub args_stay : (k l : Known) (i : Index) → Grows k l → AreArgs k i → args_at l i ≡ args_at k i
args_stay k l i g h = g.stays.args i h

pub ruleset parts_stay = (names_stay, bytes_stay, ty_stays, value_stays, decl_stays, tys_stay, values_stay, args_stay)

-- the same where the numbers were read into a list
pub name_at : (k l : Known) (list : Index) (ns : List ℕ) (j : ℕ) (d : List ℕ) → Grows k l → AreNames k list → ns ≡ list_at k list → j < length ns
    → DenotesBytes l (index_of (get_or ns j 0)) (get_or (names_at k list) j d)
name_at k l list ns j d g h e lt =
    subst (λ (ms : List ℕ). DenotesBytes l (index_of (get_or ms j 0)) (get_or (names_at k list) j d)) (sym e) (name_item k l list j d g h (subst (λ (ms : List ℕ). j < length ms) e lt))

pub ty_read : (k l : Known) (list : Index) (ns : List ℕ) (j : ℕ) (d : Ty) → Grows k l → AreTys k list → ns ≡ list_at k list → j < length ns
    → DenotesTy l (index_of (get_or ns j 0)) (get_or (tys_at k list) j d)
ty_read k l list ns j d g h e lt =
    subst (λ (ms : List ℕ). DenotesTy l (index_of (get_or ms j 0)) (get_or (tys_at k list) j d)) (sym e) (ty_item k l list j d g h (subst (λ (ms : List ℕ). j < length ms) e lt))

pub value_read : (k l : Known) (list : Index) (ns : List ℕ) (j : ℕ) (d : Value) → Grows k l → AreValues k list → ns ≡ list_at k list → j < length ns
    → DenotesValue l (index_of (get_or ns j 0)) (get_or (values_at k list) j d)
value_read k l list ns j d g h e lt =
    subst (λ (ms : List ℕ). DenotesValue l (index_of (get_or ms j 0)) (get_or (values_at k list) j d)) (sym e) (value_item k l list j d g h (subst (λ (ms : List ℕ). j < length ms) e lt))

pub arg_read : (k l : Known) (list : Index) (ns : List ℕ) (j : ℕ) (d : Arg) → Grows k l → AreArgs k list → ns ≡ list_at k list → j < length ns
    → DenotesArg l (index_of (get_or ns j 0)) (get_or (args_at k list) j d)
arg_read k l list ns j d g h e lt =
    subst (λ (ms : List ℕ). DenotesArg l (index_of (get_or ms j 0)) (get_or (args_at k list) j d)) (sym e) (arg_item k l list j d g h (subst (λ (ms : List ℕ). j < length ms) e lt))

-- one more item was read, and at the end all were
pub one_more : {A : Type 0} (xs ys zs : List A) (j : ℕ) (d x : A) → j < length xs → ys ≡ take j xs → zs ≡ ys ++ x ∷ [] → x ≡ get_or xs j d → zs ≡ take (j + 1) xs
one_more xs ys zs j d x lt e f h = let t = take_more xs j d lt in cc
