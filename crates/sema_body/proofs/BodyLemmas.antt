-- What a typed body stands for, as nodes and statements are put behind others.
use Rattle.std.proofs.Common.{◌≡◌, ℕ, zero, suc, ◌<◌, List, [], ◌∷◌, ◌++◌, length, map, refl, sym, ap, ap₂, arith, append_assoc, append-nil, get_or}
use Rattle.std.specs.Prelude.{All}
use Rattle.std.proofs.lemmas.List.{map-append}
use Rattle.std.proofs.lemmas.List.Elements.{All-append}
use Rattle.type_form.specs.Known.{Known}
use Rattle.type_form.specs.Means.{ty_at}
use Rattle.air_form.specs.declared.node.AirRef.{AirRef}
use Rattle.air_form.specs.declared.node.AirNode.{AirNode}
use Rattle.air_form.specs.Nodes.{AreBelow, IsNode, refs_of}
use Rattle.air_form.specs.Denote.{air_at, statement_of, as_statement}
use Rattle.air_form.proofs.Below.{IsBuilt-push}
use Rattle.air_form.proofs.Trees.{kept}
use Rattle.elab_form.specs.State as plain_state
use Rattle.elab_form.specs.State.{State}
use Rattle.trace_log.specs.declared.answers.Answers.{Answers}
use Rattle.sema_body.specs.declared.work.Work.{Work}
use Rattle.sema_body.specs.Meets.{state_at, IsState, Stands}
use Rattle.sema_body.specs.Bodies.{with_node, with_statements, statements_at}

-- statements that are nodes stand for what they stood for
pub statements-kept : (k : Known) (s : Work) (n : AirNode) (rs : List AirRef) → AreBelow (length s.body.nodes) rs → statements_at k (with_node s n) rs ≡ statements_at k s rs
statements-kept k s n [] h = refl
statements-kept k s n (r ∷ rs) h = ap₂ (λ x xs. x ∷ xs) (ap as_statement (kept k s.body.nodes n r h.0)) (statements-kept k s n rs h.1)

-- a node behind the others
pub node-state : (k : Known) (s : Work) (n : AirNode) → IsState k s.body → state_at k (with_node s n).body ≡ state_at k s.body
unfolding state_at
node-state k s n h = ap (λ x. record { locals = []; memory = []; count = 0; quota = plain_state.first_quota; slots = map (ty_at k) s.body.slots; statements = x; labels = s.body.labels; calls = []; errors = [] }) (statements-kept k s n s.body.statements h.built.statements)

one-node : (k : Known) (n : AirNode) → IsNode k n → All (IsNode k) (n ∷ [])
one-node k n h zero d below = h
one-node k n h (suc i) d below = absurd (omega arith)

pub node-stands : (k : Known) (cx : Answers) (s : Work) (n : AirNode) → Stands k cx s → IsNode k n → AreBelow (length s.body.nodes) (refs_of n) → Stands k cx (with_node s n)
node-stands k cx s n w is below = record {
  agrees = w.agrees;
  answers = w.answers;
  moves = w.moves;
  body = record {
    built = IsBuilt-push s.body n w.body.built below;
    nodes = All-append (IsNode k) s.body.nodes (n ∷ []) w.body.nodes (one-node k n is);
    slots = w.body.slots;
  };
}

-- statements at the end of the innermost list
pub AreBelow-append : (n : ℕ) (rs qs : List AirRef) → AreBelow n rs → AreBelow n qs → AreBelow n (rs ++ qs)
AreBelow-append n [] qs h i = i
AreBelow-append n (r ∷ rs) qs h i = (h.0, AreBelow-append n rs qs h.1 i)

pub statements-state : (k : Known) (s : Work) (rs : List AirRef) → state_at k (with_statements s rs).body ≡ record (state_at k s.body) { statements = (state_at k s.body).statements ++ statements_at k s rs }
unfolding state_at
statements-state k s rs = ap (λ x. record { locals = []; memory = []; count = 0; quota = plain_state.first_quota; slots = map (ty_at k) s.body.slots; statements = x; labels = s.body.labels; calls = []; errors = [] }) (map-append (statement_of (air_at k s.body.nodes)) s.body.statements rs)

pub statements-stand : (k : Known) (cx : Answers) (s : Work) (rs : List AirRef) → Stands k cx s → AreBelow (length s.body.nodes) rs → Stands k cx (with_statements s rs)
statements-stand k cx s rs w below = record {
  agrees = w.agrees;
  answers = w.answers;
  moves = w.moves;
  body = record {
    built = record { earlier = w.body.built.earlier; statements = AreBelow-append (length s.body.nodes) s.body.statements rs w.body.built.statements below };
    nodes = w.body.nodes;
    slots = w.body.slots;
  };
}

-- statements in turn
pub statements-none : (s : Work) → s ≡ with_statements s []
statements-none s = ap (λ x. record s { body = record s.body { statements = x } }) (sym (append-nil s.body.statements))

pub statements-more : (s : Work) (xs ys : List AirRef) → with_statements (with_statements s xs) ys ≡ with_statements s (xs ++ ys)
statements-more s xs ys = ap (λ x. record s { body = record s.body { statements = x } }) (append_assoc s.body.statements xs ys)

pub below-at : (n : ℕ) (rs : List AirRef) (i : ℕ) (d : AirRef) → i < length rs → AreBelow n rs → AreBelow n (get_or rs i d ∷ [])
below-at n [] i d h b = absurd (omega arith)
below-at n (r ∷ rs) zero d h b = (b.0, tt)
below-at n (r ∷ rs) (suc i) d h b = below-at n rs i d (omega arith) b.1
