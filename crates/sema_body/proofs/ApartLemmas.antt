-- Statements that belong to an expression, in a list of their own.
use Rattle.std.proofs.Common.{◌≡◌, ℕ, zero, suc, ◌≤◌, List, [], ◌∷◌, length, map, take, drop, sym, ap, ap₂, ◌∙◌, subst, Ok, Err, arith}
use Rattle.std.proofs.lemmas.List.{length-map, take-map, drop-map, length-take-le}
use Rattle.type_form.specs.Known.{Known}
use Rattle.air_form.specs.declared.node.AirRef.{AirRef}
use Rattle.air_form.specs.Nodes.{AreBelow}
use Rattle.air_form.specs.Denote.{air_at, statement_of}
use Rattle.air_form.specs.Typed.{Statement}
use Rattle.question_runs.specs.Runs.{ends, behind}
use Rattle.elab_form.specs.State as plain_state
use Rattle.elab_form.specs.State.{State, Operand as AnyOperand}
use Rattle.elab_form.specs.Asking.{Elab, gives, apart}
use Rattle.elab_form.specs.Standing.{stand}
use Rattle.elab_form.proofs.Courses.{apart-gives, apart-returns, apart-wrong, apart-stops, apart-fails}
use Rattle.trace_log.specs.declared.answers.Answers.{Answers}
use Rattle.trace_log.specs.Readings.{question_at, diagnostic_at}
use Rattle.type_form.specs.Means.{ty_at}
use Rattle.sema_body.specs.declared.halt.Operand.{Operand}
use Rattle.sema_body.specs.declared.halt.Halt.{Halt}
use Rattle.sema_body.specs.declared.halt.Halt.TheVariants as halt
use Rattle.sema_body.specs.declared.work.Work.{Work}
use Rattle.sema_body.specs.Meets.{state_at, operand_at, IsOperand, hand, trace, Stands, from, Meets, IsApart, apart_at}

-- with the first so many statements alone
abbrev pub with_first : ℕ → Work → Work
with_first n s = record s { body = record s.body { statements = take n s.body.statements } }

below-first : (n m : ℕ) (rs : List AirRef) → AreBelow n rs → AreBelow n (take m rs)
below-first n zero rs h = tt
below-first n (suc m) [] h = tt
below-first n (suc m) (r ∷ rs) h = (h.0, below-first n m rs h.1)

first-stands : (k : Known) (cx : Answers) (s : Work) (n : ℕ) → Stands k cx s → Stands k cx (with_first n s)
first-stands k cx s n w = record {
  agrees = w.agrees;
  answers = w.answers;
  moves = w.moves;
  body = record {
    built = record { earlier = w.body.built.earlier; statements = below-first (length s.body.nodes) n s.body.statements w.body.built.statements };
    nodes = w.body.nodes;
    slots = w.body.slots;
  };
}

abbrev of_body : Known → Work → List Statement → State
of_body k s statements = record {
  locals = [];
  memory = [];
  count = 0;
  quota = plain_state.first_quota;
  slots = map (ty_at k) s.body.slots;
  statements = statements;
  labels = s.body.labels;
  calls = [];
  errors = [];
}

statements-count : (k : Known) (s : Work) → length (state_at k s.body).statements ≡ length s.body.statements
unfolding state_at
statements-count k s = length-map s.body.statements (statement_of (air_at k s.body.nodes))

first-state : (k : Known) (s : Work) (n : ℕ) → state_at k (with_first n s).body ≡ record (state_at k s.body) { statements = take n (state_at k s.body).statements }
unfolding state_at
first-state k s n = ap (of_body k s) (sym (take-map (statement_of (air_at k s.body.nodes)) n s.body.statements))

last-statements : (k : Known) (s : Work) (n : ℕ) → drop n (state_at k s.body).statements ≡ map (statement_of (air_at k s.body.nodes)) (drop n s.body.statements)
unfolding state_at
last-statements k s n = drop-map (statement_of (air_at k s.body.nodes)) n s.body.statements

-- an expression that gave something, whose statements are taken out
pub meets-apart : (k : Known) {l : Known} {cx : Answers} (s : Work) {s' s2 : Work} (m : Elab AnyOperand) (n : ℕ) (sts : List AirRef) (o : Operand)
    → Meets l cx s' (IsOperand l s') (operand_at l s') (Ok o) (from k cx s m) → n ≡ length s.body.statements
    → s2 ≡ record s' { body = record s'.body { statements = take n s'.body.statements } } → sts ≡ drop n s'.body.statements → AreBelow (length s'.body.nodes) sts
    → Meets l cx s2 (IsApart l s2) (apart_at l s2) (Ok (sts, o)) (from k cx s (apart m))
unfolding from trace
meets-apart k {l = l} {cx = cx} s {s' = s'} m n sts o e at first last below =
    let count : n ≡ length (state_at k s.body).statements = at ∙ sym (statements-count k s) in
    let given = apart-gives (hand k cx) (trace k cx s) (trace l cx s') m (state_at k s.body) (state_at l s'.body) (operand_at l s' o) e.is.1 in
    let state : record (state_at l s'.body) { statements = take (length (state_at k s.body).statements) (state_at l s'.body).statements } ≡ state_at l (with_first n s').body =
    ap (λ x. record (state_at l s'.body) { statements = take x (state_at l s'.body).statements }) (sym count) ∙ sym (first-state l s' n) in
    let taken : drop (length (state_at k s.body).statements) (state_at l s'.body).statements ≡ map (statement_of (air_at l s'.body.nodes)) sts =
    ap (λ x. drop x (state_at l s'.body).statements) (sym count) ∙ last-statements l s' n ∙ ap (map (statement_of (air_at l s'.body.nodes))) (sym last) in
    subst (λ x. Meets l cx x (IsApart l x) (apart_at l x) (Ok (sts, o)) (stand (hand k cx) (trace k cx s) (apart m) (state_at k s.body))) (sym first) (record {
      stands = first-stands l cx s' n e.stands;
      is = ((below, e.is.0), given ∙ ap₂ (λ x y. behind (trace l cx s') (ends (gives x (y, operand_at l s' o)))) state taken);
    })

-- one that halted
pub halts-apart : {A C D : Type 0} (k : Known) {l : Known} {cx : Answers} (s : Work) {s' : Work} (m : Elab A) {Is : C → Type 0} {at : C → A}
    (Is' : D → Type 0) (at' : D → List Statement × A) (h : Halt) → Meets l cx s' Is at (Err h) (from k cx s m) → Meets l cx s' Is' at' (Err h) (from k cx s (apart m))
unfolding from
halts-apart k {l = l} {cx = cx} s {s' = s'} m Is' at' (halt.Returns o) e = record { stands = e.stands; is = (e.is.0, apart-returns (hand k cx) (trace k cx s) (trace l cx s') m (state_at k s.body) (state_at l s'.body) (operand_at l s' o) e.is.1) }
halts-apart k {l = l} {cx = cx} s {s' = s'} m Is' at' (halt.Wrong d) e = record { stands = e.stands; is = (e.is.0, apart-wrong (hand k cx) (trace k cx s) (trace l cx s') m (state_at k s.body) (state_at l s'.body) (diagnostic_at l d) e.is.1) }
halts-apart k {l = l} {cx = cx} s {s' = s'} m Is' at' (halt.Needs q) e = record { stands = e.stands; is = (e.is.0, apart-stops (hand k cx) (trace k cx s) (trace l cx s') m (state_at k s.body) (state_at l s'.body) (question_at l q) e.is.1) }
halts-apart k {l = l} {cx = cx} s {s' = s'} m Is' at' halt.Failed e = record { stands = e.stands; is = apart-fails (hand k cx) (trace k cx s) (trace l cx s') m (state_at k s.body) (state_at l s'.body) e.is }
halts-apart k s m Is' at' (halt.Full shard) e = record { stands = tt; is = tt }
halts-apart k s m Is' at' halt.OutOfMemory e = record { stands = tt; is = tt }

-- the statements that stay
pub first-longer : (s s' s2 : Work) (n : ℕ) → n ≡ length s.body.statements → length s.body.statements ≤ length s'.body.statements
    → s2 ≡ record s' { body = record s'.body { statements = take n s'.body.statements } } → length s.body.statements ≤ length s2.body.statements
first-longer s s' s2 n at longer first =
    let count : length s2.body.statements ≡ n = ap (λ x. length x.body.statements) first ∙ length-take-le n s'.body.statements (omega (arith, at, longer)) in
    omega (arith, at, count)
