-- How statements and what leaves a function are written to the typed body.
use Rattle.std.proofs.Common.{◌≡◌, true, false, ℕ, ◌<◌, ◌≤◌, List, [], ◌∷◌, ◌++◌, length, refl, sym, ap, ap₂, ◌∙◌, subst, arith, length-append, Option, Some, None, Result, Ok, Err}
use Rattle.std.specs.Prelude.{OnOk}
use Rattle.std.specs.Option.{option_map}
use Rattle.zw_base.specs.declared.diag.DiagCode.TheVariants as code
use Rattle.std.proofs.lemmas.List.{map-append}
use Rattle.type_form.specs.declared.index.Index.{Index}
use Rattle.type_form.specs.declared.tree.Ty.TheVariants as ty
use Rattle.type_form.specs.declared.tree.SimpleTy.TheVariants as simple
use Rattle.type_form.specs.Known.{Known}
use Rattle.type_form.specs.Means.{Grows, DenotesTy, ty_at, IsValue, value_at}
use Rattle.air_form.specs.declared.node.AirRef.{AirRef}
use Rattle.air_form.specs.declared.node.AirNode.{AirNode}
use Rattle.air_form.specs.declared.node.AirNode.TheVariants as node
use Rattle.air_form.specs.Nodes.{AreBelow, IsNode, refs_of}
use Rattle.air_form.specs.Typed.{Scalar, Statement, statements_of}
use Rattle.air_form.specs.Typed as typed
use Rattle.air_form.specs.Denote.{air_at, as_scalar, as_statement, of_statement, statement_of, over_nodes, scalar_air}
use Rattle.air_form.proofs.Below.{AreBelow-more}
use Rattle.air_form.proofs.Trees.{put, air-grows}
use Rattle.question_runs.specs.Runs.{ends, behind as before}
use Rattle.elab_form.specs.State.{State, run, Operand as AnyOperand, Frame as AnyFrame}
use Rattle.elab_form.specs.Asking.{Elab, gives, pure, seq, acts, wrong}
use Rattle.elab_form.specs.Coercion.{is_noreturn}
use Rattle.elab_form.specs.Control.{Holding, scalar, nothing, later, holding, holding_of, never, behind, acts_for_good, return_held, return_run, return_with, leaves_with}
use Rattle.elab_form.specs.Standing.{stand}
use Rattle.elab_form.proofs.Courses.{stand-acts}
use Rattle.trace_log.specs.Readings as readings
use Rattle.trace_log.specs.Snapshots.{lines_of}
use Rattle.sema_body.specs.declared.halt.Operand.{Operand}
use Rattle.sema_body.specs.declared.halt.Operand.TheVariants as operand
use Rattle.sema_body.specs.declared.halt.Halt.TheVariants as halt
use Rattle.trace_log.specs.declared.answers.Answers.{Answers}
use Rattle.sema_body.specs.declared.work.Work.{Work}
use Rattle.sema_body.specs.Meets.{state_at, IsState, operand_at, IsOperand, hand, trace, Stands, from, Meets}
use Rattle.sema_body.specs.Bodies.{with_node, with_statements, statements_at, Writes}
use Rattle.sema_body.proofs.BodyLemmas.{node-state, node-stands, statements-kept, statements-state, statements-stand, statements-more, AreBelow-append}
use Rattle.sema_body.proofs.Reaching.{meets-pure, meets-same, chosen, passed}

-- a node more changes nothing of where a unit stands
pub from-node : {A : Type 0} (k : Known) (cx : Answers) (s : Work) (n : AirNode) (m : Elab A) → Stands k cx s → from k cx (with_node s n) m ≡ from k cx s m
unfolding from trace
from-node k cx s n m w = ap (λ x. stand (hand k cx) (trace k cx s) m x) (node-state k s n w.body)

longer : (s : Work) (n : AirNode) (r : AirRef) → r.0 ≡ length s.body.nodes → r.0 < length (with_node s n).body.nodes
longer s n r e = omega (arith, e, length-append s.body.nodes (n ∷ []))

never-air : (k : Known) (s : Work) (r : AirRef) → r.0 ≡ length s.body.nodes → air_at k (with_node s (node.Never [])).body.nodes r ≡ scalar_air (typed.never typed.no_statement)
unfolding over_nodes
never-air k s r e = put k s.body.nodes (node.Never []) r e

-- what never ends, as a node
pub never-meets : (k : Known) (cx : Answers) (s s' : Work) (sts : List AirRef) (i : Index) (r : AirRef) → Stands k cx s → sts ≡ [] → s' ≡ with_node s (node.Never sts)
    → r.0 ≡ length s.body.nodes → DenotesTy k i (ty.Simple simple.Noreturn) → Meets k cx s' (IsOperand k s') (operand_at k s') (Ok (operand.Run i r)) (from k cx s (pure never))
never-meets k cx s s' sts i r w none is at d =
    let e : s' ≡ with_node s (node.Never []) = is ∙ ap (λ x. with_node s (node.Never x)) none in
    subst (λ x. Meets k cx x (IsOperand k x) (operand_at k x) (Ok (operand.Run i r)) (from k cx s (pure never))) (sym e)
    (meets-same (sym (from-node k cx s (node.Never []) (pure never) w))
    (meets-pure (operand.Run i r) never (node-stands k cx s (node.Never []) w tt tt) (d.known, longer s (node.Never []) r at) (ap₂ run d.is (never-air k s r at))))

-- ---- what a node stands for that is put

pub node-writes : (k : Known) (cx : Answers) (s s' : Work) (n : AirNode) (r : AirRef) (e : Scalar) → Stands k cx s → IsNode k n → AreBelow (length s.body.nodes) (refs_of n)
    → s' ≡ with_node s n → r.0 ≡ length s.body.nodes → as_scalar (over_nodes k (air_at k s.body.nodes) n) ≡ e → Writes k cx s s' r e
node-writes k cx s s' n r e w is below put_is at means =
    subst (λ x. Writes k cx s x r e) (sym put_is) (record {
      stands = node-stands k cx s n w is below;
      trace = refl;
      state = node-state k s n w.body;
      below = longer s n r at;
      is = ap as_scalar (put k s.body.nodes n r at) ∙ means;
    })

-- a known value
pub constant-writes : (k : Known) (cx : Answers) (s s' : Work) (i : Index) (r : AirRef) → Stands k cx s → IsValue k i
    → s' ≡ with_node s (node.Constant i) → r.0 ≡ length s.body.nodes → Writes k cx s s' r (typed.constant (value_at k i))
unfolding over_nodes
constant-writes k cx s s' i r w is put_is at = node-writes k cx s s' (node.Constant i) r (typed.constant (value_at k i)) w is tt put_is at refl

-- statements before it
behind-some : (sts : List Statement) (e : Scalar) → (sts ≡ [] → ⊥) → typed.sequence (statements_of sts) e ≡ behind sts e
unfolding behind
behind-some [] e h = absurd (h refl)
behind-some (s ∷ sts) e h = refl

behind-none : (sts : List Statement) (e : Scalar) → sts ≡ [] → e ≡ behind sts e
unfolding behind
behind-none [] e h = refl
behind-none (s ∷ sts) e h = absurd (cc)

no_statements : (k : Known) (s : Work) (rs : List AirRef) → rs ≡ [] → statements_at k s rs ≡ []
no_statements k s rs h = ap (statements_at k s) h

some_statements : (k : Known) (s : Work) (rs : List AirRef) → (rs ≡ [] → ⊥) → statements_at k s rs ≡ [] → ⊥
some_statements k s [] h e = h refl
some_statements k s (r ∷ rs) h e = cc

pub writes-alone : (k : Known) (cx : Answers) (s s' : Work) (r : AirRef) (e : Scalar) (rs : List AirRef) → rs ≡ [] → Writes k cx s s' r e → Writes k cx s s' r (behind (statements_at k s rs) e)
writes-alone k cx s s' r e rs none w = subst (λ x. Writes k cx s s' r x) (behind-none (statements_at k s rs) e (no_statements k s rs none)) w

pub writes-behind : (k : Known) (cx : Answers) (s s1 s2 : Work) (n : AirNode) (r q : AirRef) (e : Scalar) (rs : List AirRef) → (rs ≡ [] → ⊥) → AreBelow (length s.body.nodes) rs → s1 ≡ with_node s n
    → Writes k cx s s1 r e → s2 ≡ with_node s1 (node.Sequence rs r) → q.0 ≡ length s1.body.nodes → Writes k cx s s2 q (behind (statements_at k s rs) e)
unfolding over_nodes
writes-behind k cx s s1 s2 n r q e rs some below one w two at =
    let lengthened : length s.body.nodes ≤ length s1.body.nodes = subst (λ x. length s.body.nodes ≤ length x.body.nodes) (sym one) (omega (arith, length-append s.body.nodes (n ∷ []))) in
    let kept_statements : statements_at k s1 rs ≡ statements_at k s rs = ap (λ x. statements_at k x rs) one ∙ statements-kept k s n rs below in
    let whole = node-writes k cx s1 s2 (node.Sequence rs r) q (typed.sequence (statements_of (statements_at k s1 rs)) (as_scalar (air_at k s1.body.nodes r))) w.stands tt
    (w.below, AreBelow-more (length s.body.nodes) (length s1.body.nodes) rs lengthened below) two at refl in
    record {
      stands = whole.stands;
      trace = whole.trace ∙ w.trace;
      state = whole.state ∙ w.state;
      below = whole.below;
      is =
          whole.is
          ∙ ap₂ (λ x y. typed.sequence (statements_of x) y) kept_statements w.is
          ∙ behind-some (statements_at k s rs) e (some_statements k s rs some);
    }

pub and-below : (s s1 : Work) (n : AirNode) (r : AirRef) (rs : List AirRef) → s1 ≡ with_node s n → r.0 ≡ length s.body.nodes → AreBelow (length s.body.nodes) rs → AreBelow (length s1.body.nodes) (r ∷ rs)
and-below s s1 n r rs e at below =
    subst (λ x. AreBelow (length x.body.nodes) (r ∷ rs)) (sym e)
    (longer s n r at, AreBelow-more (length s.body.nodes) (length (with_node s n).body.nodes) rs (omega (arith, length-append s.body.nodes (n ∷ []))) below)

-- ---- statements that are put

-- statements at the end of the innermost list
acts-state : (k : Known) (s s2 : Work) (rs : List AirRef) (sts : List Statement) → state_at k s2.body ≡ state_at k s.body → statements_at k s2 rs ≡ sts
    → state_at k (with_statements s2 rs).body ≡ record (state_at k s.body) { statements = (state_at k s.body).statements ++ sts }
acts-state k s s2 rs sts same are = statements-state k s2 rs ∙ ap₂ {A = State} {B = List Statement} (λ x y. record x { statements = x.statements ++ y }) same are

pub acts-meets : (k : Known) (cx : Answers) (s s2 s3 : Work) (rs : List AirRef) (sts : List Statement) → Stands k cx s2 → AreBelow (length s2.body.nodes) rs
    → s2.trace ≡ s.trace → state_at k s2.body ≡ state_at k s.body → statements_at k s2 rs ≡ sts → s3 ≡ with_statements s2 rs
    → Meets {C = Unit {0}} {A = Unit {0}} k cx s3 (λ _. Unit {0}) (λ _. tt) (Ok tt) (from k cx s (acts sts))
unfolding from trace
acts-meets k cx s s2 s3 rs sts w below same_trace same_state are put_is =
    subst (λ x. Meets {C = Unit {0}} {A = Unit {0}} k cx x (λ _. Unit {0}) (λ _. tt) (Ok tt) (from k cx s (acts sts))) (sym put_is)
    (record {
      stands = statements-stand k cx s2 rs w below;
      is = (
        tt,
        stand-acts (hand k cx) (trace k cx s) sts (state_at k s.body)
            ∙ ap (λ x. before (readings.moves_at k (lines_of cx) x) (ends (gives (record (state_at k s.body) { statements = (state_at k s.body).statements ++ sts }) tt))) (sym same_trace)
            ∙ ap (λ x. before (trace k cx s2) (ends (gives x tt))) (sym (acts-state k s s2 rs sts same_state are)),
      );
    })

return-air : (k : Known) (s : Work) (r q : AirRef) → q.0 ≡ length s.body.nodes → air_at k (with_node s (node.Return (Some r))).body.nodes q ≡ of_statement (typed.return_value (as_scalar (air_at k s.body.nodes r)))
unfolding over_nodes
return-air k s r q e = put k s.body.nodes (node.Return (Some r)) q e

-- `return` with a value that stands at a node
pub return-acts : (k : Known) (cx : Answers) (s s1 s2 s3 : Work) (r q : AirRef) (e : Scalar) → Writes k cx s s1 r e → s2 ≡ with_node s1 (node.Return (Some r)) → q.0 ≡ length s1.body.nodes → s3 ≡ with_statements s2 (q ∷ [])
    → Meets {C = Unit {0}} {A = Unit {0}} k cx s3 (λ _. Unit {0}) (λ _. tt) (Ok tt) (from k cx s (acts (typed.return_value e ∷ [])))
return-acts k cx s s1 s2 s3 r q e w two at three =
    let n : AirNode = node.Return (Some r) in
    acts-meets k cx s (with_node s1 n) s3 (q ∷ []) (typed.return_value e ∷ []) (node-stands k cx s1 n w.stands tt (w.below, tt)) (longer s1 n q at, tt)
    w.trace (node-state k s1 n w.stands.body ∙ w.state)
    (ap (λ x. as_statement x ∷ []) (return-air k s1 r q at) ∙ ap (λ x. typed.return_value x ∷ []) w.is)
    (three ∙ ap (λ x. with_statements x (q ∷ [])) two)

-- what holds where a call succeeds
pub on-ok : {C E : Type 0} (r : Result C E) (P Q : Type 0) → (P → Q) → OnOk r P → OnOk r Q
on-ok (Ok o) P Q f h = f h
on-ok (Err e) P Q f h = h

pub longer-then : {C E : Type 0} (r : Result C E) (a b c : ℕ) → a ≤ b → OnOk r (b ≤ c) → OnOk r (a ≤ c)
longer-then r a b c h more = on-ok r (b ≤ c) (a ≤ c) (λ i. omega (arith, h, i)) more

pub put-longer : (s s1 s2 : Work) (rs : List AirRef) → s1.body.statements ≡ s.body.statements → s2 ≡ with_statements s1 rs → length s.body.statements ≤ length s2.body.statements
put-longer s s1 s2 rs same put_is =
    subst (λ x. length s.body.statements ≤ length x.body.statements) (sym put_is)
    (omega (arith, ap length same, length-append s1.body.statements rs))

nothing-air : (k : Known) (s : Work) (q : AirRef) → q.0 ≡ length s.body.nodes → air_at k (with_node s (node.Return None)).body.nodes q ≡ of_statement typed.return
unfolding over_nodes
nothing-air k s q e = put k s.body.nodes (node.Return None) q e

-- statements alone
pub all-acts : (k : Known) (cx : Answers) (s s1 : Work) (rs : List AirRef) → Stands k cx s → AreBelow (length s.body.nodes) rs → s1 ≡ with_statements s rs
    → Meets {C = Unit {0}} {A = Unit {0}} k cx s1 (λ _. Unit {0}) (λ _. tt) (Ok tt) (from k cx s (acts (statements_at k s rs)))
all-acts k cx s s1 rs w below one = acts-meets k cx s s s1 rs (statements_at k s rs) w below refl refl refl one

-- statements, and then `return` without a value
pub nothing-acts : (k : Known) (cx : Answers) (s s1 s2 s3 : Work) (rs : List AirRef) (q : AirRef) → Stands k cx s → AreBelow (length s.body.nodes) rs → s1 ≡ with_statements s rs
    → s2 ≡ with_node s1 (node.Return None) → q.0 ≡ length s1.body.nodes → s3 ≡ with_statements s2 (q ∷ [])
    → Meets {C = Unit {0}} {A = Unit {0}} k cx s3 (λ _. Unit {0}) (λ _. tt) (Ok tt) (from k cx s (acts (statements_at k s rs ++ typed.return ∷ [])))
nothing-acts k cx s s1 s2 s3 rs q w below one two at three =
    let n : AirNode = node.Return None in
    let t : Work = with_statements s rs in
    let at_end : q.0 ≡ length s.body.nodes = at ∙ ap (λ x. length x.body.nodes) one in
    let put_back : Work = with_node s n in
    let kept : statements_at k put_back rs ≡ statements_at k s rs = statements-kept k s n rs below in
    let last : as_statement (air_at k put_back.body.nodes q) ≡ typed.return = ap as_statement (nothing-air k s q at_end) in
    let longer_nodes : length s.body.nodes ≤ length put_back.body.nodes = omega (arith, length-append s.body.nodes (n ∷ [])) in
    acts-meets k cx s put_back s3 (rs ++ q ∷ []) (statements_at k s rs ++ typed.return ∷ []) (node-stands k cx s n w tt tt)
    (AreBelow-append (length put_back.body.nodes) rs (q ∷ []) (AreBelow-more (length s.body.nodes) (length put_back.body.nodes) rs longer_nodes below) (longer s n q at_end, tt))
    refl (node-state k s n w.body)
    (map-append (statement_of (air_at k put_back.body.nodes)) rs (q ∷ []) ∙ ap₂ {A = List Statement} {B = Statement} (λ x y. x ++ y ∷ []) kept last)
    (three ∙ ap (λ x. with_statements x (q ∷ [])) (two ∙ ap (λ x. with_node x n) one) ∙ statements-more put_back rs (q ∷ []))

pub longer-twice : (a b c : ℕ) → a ≤ b → b ≤ c → a ≤ c
longer-twice a b c h i = omega arith

-- ---- how a body holds the value of a result

pub statements-grow : (k l : Known) (s : Work) (rs : List AirRef) → Grows k l → IsState k s.body → statements_at l s rs ≡ statements_at k s rs
statements-grow k l s [] g w = refl
statements-grow k l s (r ∷ rs) g w = ap₂ (λ x xs. x ∷ xs) (ap as_statement (air-grows k l s.body.nodes r g w.nodes)) (statements-grow k l s rs g w)

pub held-is : (k : Known) (f : AnyFrame) (place : ℕ) (sts : List Statement) (e : Scalar) (w : Option Index) (i : Index) (h : Holding) → w ≡ Some i → h ≡ holding (ty_at k i)
    → return_held f place sts e (holding_of (option_map (ty_at k) w)) ≡ return_held f place sts e h
unfolding holding_of
held-is k f place sts e w i h at is = ap (λ x. return_held f place sts e (holding_of (option_map (ty_at k) x))) at ∙ ap (return_held f place sts e) (sym is)

pub held-none : (k : Known) (f : AnyFrame) (place : ℕ) (sts : List Statement) (e : Scalar) (w : Option Index) → w ≡ None
    → return_held f place sts e (holding_of (option_map (ty_at k) w)) ≡ wrong f place code.NotBuilt
unfolding return_held holding_of
held-none k f place sts e w none = ap (λ x. return_held f place sts e (holding_of (option_map (ty_at k) x))) none

-- the same as more is known
pub value-held-grows : (k l : Known) (s : Work) (rs : List AirRef) (v : Index) → Grows k l → IsState k s.body → IsValue k v
    → acts_for_good (typed.return_value (behind (statements_at k s rs) (typed.constant (value_at k v))) ∷ []) ≡ acts_for_good (typed.return_value (behind (statements_at l s rs) (typed.constant (value_at l v))) ∷ [])
value-held-grows k l s rs v g w is = ap₂ (λ x y. acts_for_good (typed.return_value (behind x (typed.constant y)) ∷ [])) (sym (statements-grow k l s rs g w)) (sym (g.stays.value v is))

pub nothing-held-grows : (k l : Known) (s : Work) (rs : List AirRef) → Grows k l → IsState k s.body
    → acts_for_good (statements_at k s rs ++ typed.return ∷ []) ≡ acts_for_good (statements_at l s rs ++ typed.return ∷ [])
nothing-held-grows k l s rs g w = ap (λ x. acts_for_good (x ++ typed.return ∷ [])) (sym (statements-grow k l s rs g w))

pub for-good-grows : (k l : Known) (s : Work) (rs : List AirRef) → Grows k l → IsState k s.body → acts_for_good (statements_at k s rs) ≡ acts_for_good (statements_at l s rs)
for-good-grows k l s rs g w = ap acts_for_good (sym (statements-grow k l s rs g w))

-- a value by how a body holds it
pub held-scalar : (k l : Known) (f : AnyFrame) (place : ℕ) (s : Work) (rs : List AirRef) (v : Index) → Grows k l → IsState k s.body → IsValue k v
    → return_held f place (statements_at k s rs) (typed.constant (value_at k v)) scalar ≡ acts_for_good (typed.return_value (behind (statements_at l s rs) (typed.constant (value_at l v))) ∷ [])
unfolding return_held
held-scalar k l f place s rs v g w is = value-held-grows k l s rs v g w is

pub held-nothing : (k l : Known) (f : AnyFrame) (place : ℕ) (s : Work) (rs qs : List AirRef) (e : Scalar) → Grows k l → IsState k s.body → qs ≡ rs
    → return_held f place (statements_at k s rs) e nothing ≡ acts_for_good (statements_at l s qs ++ typed.return ∷ [])
unfolding return_held
held-nothing k l f place s rs qs e g w same = nothing-held-grows k l s rs g w ∙ ap (λ x. acts_for_good (statements_at l s x ++ typed.return ∷ [])) (sym same)

pub held-later : (f : AnyFrame) (place : ℕ) (sts : List Statement) (e : Scalar) → return_held f place sts e later ≡ wrong f place code.NotBuilt
unfolding return_held
held-later f place sts e = refl

-- statements, the last of which never ends
pub for-good-is : (sts : List Statement) → acts_for_good sts ≡ seq (acts sts) (λ _. pure never)
unfolding acts_for_good
for-good-is sts = refl

-- ---- `return`, by what it is given

pub with-comptime : (f : AnyFrame) (place : ℕ) (sts : List Statement) (o : AnyOperand) → f.is_comptime ≡ true → return_with f place (sts, o) ≡ leaves_with o
unfolding return_with
with-comptime f place sts o e = chosen _ _ _ e

pub with-run : (f : AnyFrame) (place : ℕ) (sts : List Statement) (o : AnyOperand) → f.is_comptime ≡ false → return_with f place (sts, o) ≡ return_run f place (sts, o)
unfolding return_with
with-run f place sts o e = passed _ _ _ e

pub run-known : (k : Known) (s : Work) (f : AnyFrame) (place : ℕ) (sts : List Statement) (o : Operand) (v : Index) → o ≡ operand.Known v
    → return_run f place (sts, operand_at k s o) ≡ return_held f place sts (typed.constant (value_at k v)) (holding_of f.result)
unfolding return_run
run-known k s f place sts o v e = ap (λ x. return_run f place (sts, operand_at k s x)) e

pub run-never : (k : Known) (s : Work) (f : AnyFrame) (place : ℕ) (sts : List Statement) (o : Operand) (t : Index) (r : AirRef) → o ≡ operand.Run t r → is_noreturn (ty_at k t) ≡ true
    → return_run f place (sts, operand_at k s o) ≡ acts_for_good sts
unfolding return_run
run-never k s f place sts o t r e h = ap (λ x. return_run f place (sts, operand_at k s x)) e ∙ chosen _ _ _ h

pub run-later : (k : Known) (s : Work) (f : AnyFrame) (place : ℕ) (sts : List Statement) (o : Operand) (t : Index) (r : AirRef) → o ≡ operand.Run t r → is_noreturn (ty_at k t) ≡ false
    → return_run f place (sts, operand_at k s o) ≡ wrong f place code.NotBuilt
unfolding return_run
run-later k s f place sts o t r e h = ap (λ x. return_run f place (sts, operand_at k s x)) e ∙ passed _ _ _ h

-- at comptime `return` leaves what is around it
pub leaves-meets : {D : Type 0} {k : Known} {cx : Answers} {s : Work} {Is : D → Type 0} {at : D → AnyOperand} (o : Operand) → Stands k cx s → IsOperand k s o
    → Meets k cx s Is at (Err (halt.Returns o)) (from k cx s (leaves_with (operand_at k s o)))
unfolding from stand leaves_with
leaves-meets o w is = record { stands = w; is = (is, refl) }

pub for-good-as : (k l : Known) (s : Work) (rs qs : List AirRef) → Grows k l → IsState k s.body → qs ≡ rs → acts_for_good (statements_at k s rs) ≡ acts_for_good (statements_at l s qs)
for-good-as k l s rs qs g w same = for-good-grows k l s rs g w ∙ ap (λ x. acts_for_good (statements_at l s x)) (sym same)
