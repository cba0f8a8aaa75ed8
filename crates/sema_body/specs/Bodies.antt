-- A unit's typed body as it is made.
use Rattle.std.specs.Prelude.{◌≡◌, ◌<◌, List, [], ◌∷◌, ◌++◌, length, map}
use Rattle.type_form.specs.Known.{Known}
use Rattle.air_form.specs.declared.node.AirRef.{AirRef}
use Rattle.air_form.specs.declared.node.AirNode.{AirNode}
use Rattle.air_form.specs.Typed.{Scalar, Statement}
use Rattle.air_form.specs.Denote.{air_at, as_scalar, statement_of}
use Rattle.trace_log.specs.declared.answers.Answers.{Answers}
use Rattle.sema_body.specs.declared.work.Work.{Work}
use Rattle.sema_body.specs.Meets.{Stands, state_at}

-- with a node behind the others
abbrev pub with_node : Work → AirNode → Work
with_node s n = record s { body = record s.body { nodes = s.body.nodes ++ n ∷ [] } }

-- with statements at the end of the innermost list
abbrev pub with_statements : Work → List AirRef → Work
with_statements s rs = record s { body = record s.body { statements = s.body.statements ++ rs } }

-- what statements stand for
abbrev pub statements_at : Known → Work → List AirRef → List Statement
statements_at k s rs = map (statement_of (air_at k s.body.nodes)) rs

-- A node was put that stands for a scalar expression, and nothing else changed but nodes behind the others.
pub record Writes (k : Known) (cx : Answers) (old new : Work) (r : AirRef) (e : Scalar) : Type 0 where
  pub stands : Stands k cx new
  pub trace : new.trace ≡ old.trace
  pub state : state_at k new.body ≡ state_at k old.body
  pub below : r.0 < length new.body.nodes
  pub is : as_scalar (air_at k new.body.nodes r) ≡ e
