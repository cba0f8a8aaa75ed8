-- Trees of nodes, as nodes are put behind others, and as more is known.
use Rattle.std.proofs.Common.{◌≡◌, ℕ, zero, suc, ◌+◌, ◌<◌, ◌≤◌, List, [], ◌∷◌, ◌++◌, length, take, refl, sym, ◌∙◌, ap, subst, arith, add-zero, zero-add, Some, None, Option, length-append, append_assoc}
use Rattle.std.specs.Prelude.{All, map, slice_get, slice_index_or}
use Rattle.std.proofs.lemmas.List.{append-nil, get_or-take, get_or_append_left}
use Rattle.std.proofs.Math.Seq.{get_or-append_seam, take-append_seam}
use Rattle.type_form.specs.declared.index.Index.{Index}
use Rattle.type_form.specs.Known.{Known}
use Rattle.type_form.specs.Means.{Grows, IsTy, IsInstance, ty_at, instance_at, names_at}
use Rattle.air_form.specs.declared.node.AirRef.{AirRef}
use Rattle.air_form.specs.declared.node.AirNode.{AirNode}
use Rattle.air_form.specs.Nodes.{AreBelow, AreEarlier, BodyState, IsNode, refs_of}
use Rattle.air_form.specs.Typed.{statements_of}
use Rattle.air_form.specs.Typed as typed
use Rattle.air_form.specs.Denote.{Air, IsBody, Nodes, air_at, body_at, list_of, of_statement, over_nodes, tree_at, trees_after, trees_of}
use Rattle.air_form.proofs.Over.{IsNode-grows, SameOn, map-statements, over-grows, over-same}

-- ---- one node more

after_put : (k : Known) (trees : List Air) (nodes : List AirNode) (n : AirNode)
    → trees_after k trees (nodes ++ n ∷ []) ≡ trees_after k trees nodes ++ over_nodes k (tree_at (trees_after k trees nodes)) n ∷ []
after_put k trees [] n = refl
after_put k trees (m ∷ more) n = after_put k (trees ++ over_nodes k (tree_at trees) m ∷ []) more n

put_node : (k : Known) (nodes : List AirNode) (n : AirNode) → trees_of k (nodes ++ n ∷ []) ≡ trees_of k nodes ++ over_nodes k (air_at k nodes) n ∷ []
unfolding trees_of air_at
put_node k nodes n = after_put k [] nodes n

after_length : (k : Known) (trees : List Air) (nodes : List AirNode) → length (trees_after k trees nodes) ≡ length trees + length nodes
after_length k trees [] = sym (add-zero (length trees))
after_length k trees (n ∷ more) =
    let t : Air = over_nodes k (tree_at trees) n in
    let one : length (trees ++ t ∷ []) ≡ length trees + 1 = length-append trees (t ∷ []) in
    let later : length (trees_after k (trees ++ t ∷ []) more) ≡ length (trees ++ t ∷ []) + length more = after_length k (trees ++ t ∷ []) more in
    later ∙ omega (arith, one)

trees_length : (k : Known) (nodes : List AirNode) → length (trees_of k nodes) ≡ length nodes
unfolding trees_of
trees_length k nodes = after_length k [] nodes ∙ zero-add (length nodes)

pub kept : (k : Known) (nodes : List AirNode) (n : AirNode) (r : AirRef) → r.0 < length nodes → air_at k (nodes ++ n ∷ []) r ≡ air_at k nodes r
unfolding air_at
kept k nodes n r h =
    let e : trees_of k (nodes ++ n ∷ []) ≡ trees_of k nodes ++ over_nodes k (air_at k nodes) n ∷ [] = put_node k nodes n in
    let within : r.0 < length (trees_of k nodes) = rw (trees_length k nodes) h in
    ap (λ (l : List Air). tree_at l r) e ∙ get_or_append_left (trees_of k nodes) (over_nodes k (air_at k nodes) n ∷ []) (of_statement typed.trap) r.0 within

pub put : (k : Known) (nodes : List AirNode) (n : AirNode) (r : AirRef) → r.0 ≡ length nodes → air_at k (nodes ++ n ∷ []) r ≡ over_nodes k (air_at k nodes) n
unfolding air_at
put k nodes n r h =
    let e : trees_of k (nodes ++ n ∷ []) ≡ trees_of k nodes ++ over_nodes k (air_at k nodes) n ∷ [] = put_node k nodes n in
    let same : r.0 ≡ length (trees_of k nodes) = h ∙ sym (trees_length k nodes) in
    ap (λ (l : List Air). tree_at l r) e
    ∙ ap (λ (i : ℕ). slice_index_or (trees_of k nodes ++ over_nodes k (air_at k nodes) n ∷ []) i (of_statement typed.trap)) same
    ∙ get_or-append_seam (trees_of k nodes) (over_nodes k (air_at k nodes) n) [] (of_statement typed.trap)

kept_on : (k : Known) (nodes : List AirNode) (n : AirNode) (rs : List AirRef) → AreBelow (length nodes) rs → SameOn (air_at k (nodes ++ n ∷ [])) (air_at k nodes) rs
kept_on k nodes n [] h = tt
kept_on k nodes n (r ∷ rs) h = (kept k nodes n r h.0, kept_on k nodes n rs h.1)

pub kept_list : (k : Known) (nodes : List AirNode) (n : AirNode) (rs : List AirRef) → AreBelow (length nodes) rs → list_of (air_at k (nodes ++ n ∷ [])) rs ≡ list_of (air_at k nodes) rs
kept_list k nodes n rs h = ap statements_of (map-statements (air_at k (nodes ++ n ∷ [])) (air_at k nodes) rs (kept_on k nodes n rs h))

-- ---- the tree of a node

-- the trees before stay
record Begins (front all : List Air) : Type 0 where
  later : List Air
  is : all ≡ front ++ later

after_front : (k : Known) (trees : List Air) (nodes : List AirNode) → Begins trees (trees_after k trees nodes)
after_front k trees [] = record { later = []; is = sym (append-nil trees) }
after_front k trees (n ∷ more) =
    let t : Air = over_nodes k (tree_at trees) n in
    let b = after_front k (trees ++ t ∷ []) more in
    record { later = t ∷ b.later; is = b.is ∙ append_assoc trees (t ∷ []) b.later }

some_same : (a b : AirNode) → Some a ≡ Some b → a ≡ b
some_same a b h = cc

-- the number among trees
number : List Air → ℕ → Air
number trees i = slice_index_or trees i (of_statement typed.trap)

at_node : (k : Known) (trees : List Air) (nodes : List AirNode) (i : ℕ) (n : AirNode) → slice_get nodes i ≡ Some n
    → number (trees_after k trees nodes) (length trees + i) ≡ over_nodes k (tree_at (take (length trees + i) (trees_after k trees nodes))) n
unfolding number
at_node k trees [] i n e = absurd (cc)
at_node k trees (m ∷ more) zero n e =
    let t : Air = over_nodes k (tree_at trees) m in
    let all : List Air = trees_after k (trees ++ t ∷ []) more in
    let b = after_front k (trees ++ t ∷ []) more in
    let split : all ≡ trees ++ (t ∷ b.later) = b.is ∙ append_assoc trees (t ∷ []) b.later in
    let here : number all (length trees) ≡ t = ap (λ (l : List Air). number l (length trees)) split ∙ get_or-append_seam trees t b.later (of_statement typed.trap) in
    let front : take (length trees) all ≡ trees = ap (take (length trees)) split ∙ take-append_seam trees (t ∷ b.later) in
    let same : m ≡ n = some_same m n e in
    rw add-zero (here ∙ ap (λ (x : AirNode). over_nodes k (tree_at trees) x) same ∙ ap (λ (l : List Air). over_nodes k (tree_at l) n) (sym front))
at_node k trees (m ∷ more) (suc i) n e =
    let t : Air = over_nodes k (tree_at trees) m in
    let all : List Air = trees_after k (trees ++ t ∷ []) more in
    let one : length (trees ++ t ∷ []) ≡ length trees + 1 = length-append trees (t ∷ []) in
    let index : length (trees ++ t ∷ []) + i ≡ length trees + suc i = omega (arith, one) in
    subst (λ (j : ℕ). number all j ≡ over_nodes k (tree_at (take j all)) n) index (at_node k (trees ++ t ∷ []) more i n e)

front_on : (trees : List Air) (i : ℕ) (rs : List AirRef) → AreBelow i rs → SameOn (tree_at (take i trees)) (tree_at trees) rs
front_on trees i [] h = tt
front_on trees i (r ∷ rs) h = (get_or-take i trees r.0 (of_statement typed.trap) h.0, front_on trees i rs h.1)

pub node_tree : (k : Known) (nodes : List AirNode) (r : AirRef) (n : AirNode) → AreEarlier nodes → slice_get nodes r.0 ≡ Some n → air_at k nodes r ≡ over_nodes k (air_at k nodes) n
unfolding air_at trees_of number
node_tree k nodes r n h e =
    let all : List Air = trees_after k [] nodes in
    let same : 0 + r.0 ≡ r.0 = zero-add r.0 in
    let front : number all r.0 ≡ over_nodes k (tree_at (take r.0 all)) n =
    subst (λ (j : ℕ). number all j ≡ over_nodes k (tree_at (take j all)) n) same (at_node k [] nodes r.0 n e) in
    front ∙ over-same k (tree_at (take r.0 all)) (tree_at all) n (front_on all r.0 (refs_of n) (h.earlier r.0 n e))

-- ---- more that is known

pub All-tail : {A : Type 0} (P : A → Type 0) (x : A) (xs : List A) → All P (x ∷ xs) → All P xs
All-tail P x xs h = λ i d below. h (suc i) d (omega arith)

pub All-head : {A : Type 0} (P : A → Type 0) (x : A) (xs : List A) → All P (x ∷ xs) → P x
All-head P x xs h = h 0 x (omega arith)

after_grows : (k l : Known) → Grows k l → (trees : List Air) (nodes : List AirNode) → All (IsNode k) nodes → trees_after l trees nodes ≡ trees_after k trees nodes
after_grows k l g trees [] h = refl
after_grows k l g trees (n ∷ more) h =
    let e : over_nodes l (tree_at trees) n ≡ over_nodes k (tree_at trees) n = over-grows k l g (tree_at trees) n (All-head (IsNode k) n more h) in
    ap (λ (t : Air). trees_after l (trees ++ t ∷ []) more) e ∙ after_grows k l g (trees ++ over_nodes k (tree_at trees) n ∷ []) more (All-tail (IsNode k) n more h)

pub air-grows : (k l : Known) (nodes : List AirNode) (r : AirRef) → Grows k l → All (IsNode k) nodes → air_at l nodes r ≡ air_at k nodes r
unfolding air_at trees_of
air-grows k l nodes r g h = ap (λ (t : List Air). tree_at t r) (after_grows k l g [] nodes h)

pub nodes-grow : (k l : Known) (nodes : List AirNode) → Grows k l → All (IsNode k) nodes → All (IsNode l) nodes
nodes-grow k l nodes g h = λ i d below. IsNode-grows k l g (slice_index_or nodes i d) (h i d below)

air_on : (k l : Known) (nodes : List AirNode) (rs : List AirRef) → Grows k l → All (IsNode k) nodes → SameOn (air_at l nodes) (air_at k nodes) rs
air_on k l nodes [] g h = tt
air_on k l nodes (r ∷ rs) g h = (air-grows k l nodes r g h, air_on k l nodes rs g h)

tys-grow : (k l : Known) → Grows k l → (is : List Index) → All (IsTy k) is → map (ty_at l) is ≡ map (ty_at k) is
tys-grow k l g [] h = refl
tys-grow k l g (i ∷ is) h =
    let e : ty_at l i ≡ ty_at k i = g.stays.ty i (All-head (IsTy k) i is h) in
    let f : map (ty_at l) is ≡ map (ty_at k) is = tys-grow k l g is (All-tail (IsTy k) i is h) in
    cc

instances-grow : (k l : Known) → Grows k l → (is : List Index) → All (IsInstance k) is → map (instance_at l) is ≡ map (instance_at k) is
instances-grow k l g [] h = refl
instances-grow k l g (i ∷ is) h =
    let e : instance_at l i ≡ instance_at k i = g.stays.instance i (All-head (IsInstance k) i is h) in
    let f : map (instance_at l) is ≡ map (instance_at k) is = instances-grow k l g is (All-tail (IsInstance k) i is h) in
    cc

pub IsBody-grows : (k l : Known) (b : BodyState) → Grows k l → IsBody k b → IsBody l b
IsBody-grows k l b g h = record {
  result = g.stays.is_ty b.result h.result;
  slots = λ i d below. g.stays.is_ty (slice_index_or b.slots i d) (h.slots i d below);
  errors = g.stays.is_names b.errors h.errors;
  refers = λ i d below. g.stays.is_instance (slice_index_or b.refers i d) (h.refers i d below);
  nodes = nodes-grow k l b.nodes g h.nodes;
}

pub body-grows : (k l : Known) (b : BodyState) → Grows k l → IsBody k b → body_at l b ≡ body_at k b
unfolding body_at
body-grows k l b g h =
    let result : typed.TypedBody = body_at k b in
    let t : ty_at l b.result ≡ ty_at k b.result = g.stays.ty b.result h.result in
    let s : map (ty_at l) b.slots ≡ map (ty_at k) b.slots = tys-grow k l g b.slots h.slots in
    let u : list_of (air_at l b.nodes) b.stmts ≡ list_of (air_at k b.nodes) b.stmts = ap statements_of (map-statements (air_at l b.nodes) (air_at k b.nodes) b.stmts (air_on k l b.nodes b.stmts g h.nodes)) in
    let e : names_at l b.errors ≡ names_at k b.errors = g.stays.names b.errors h.errors in
    let r : map (instance_at l) b.refers ≡ map (instance_at k) b.refers = instances-grow k l g b.refers h.refers in
    cc

pub ruleset nodes_growing = (nodes-grow, air-grows, IsBody-grows, body-grows)
