-- What indices stand for stays as an interner comes to know more.
use Rattle.std.proofs.Common.{◌≡◌, List, [], ◌∷◌, map, refl, ap, ap₂, ◌∙◌, Option, Some, None}
use Rattle.std.specs.Prelude.{All}
use Rattle.std.specs.Option.{option_map}
use Rattle.type_form.specs.declared.index.Index.{Index}
use Rattle.type_form.specs.declared.tree.Ty.{Ty}
use Rattle.type_form.specs.Known.{Known, IsInjective}
use Rattle.type_form.specs.Means.{Grows, IsTy, ty_at}
use Rattle.air_form.specs.declared.node.AirRef.{AirRef}
use Rattle.air_form.specs.Nodes.{AirState, IsNode}
use Rattle.air_form.specs.Denote.{air_at, statement_of, as_statement}
use Rattle.air_form.proofs.Trees.{air-grows, nodes-grow, All-head, All-tail}
use Rattle.elab_form.specs.Questions as plain
use Rattle.elab_form.specs.State as plain_state
use Rattle.trace_log.specs.declared.answers.Answers.{Answers}
use Rattle.trace_log.specs.Readings.{part_at, AreMoves}
use Rattle.trace_log.specs.Snapshots.{lines_of, AreAnswers}
use Rattle.trace_log.proofs.Growing.{part-grows, IsPart-grows, moves-grow}
use Rattle.trace_log.proofs.SnapshotLemmas.{given-grows}
use Rattle.sema_body.specs.declared.halt.Operand.{Operand}
use Rattle.sema_body.specs.declared.halt.Operand.TheVariants as operand
use Rattle.sema_body.specs.declared.frame.Frame.{Frame}
use Rattle.sema_body.specs.declared.work.Work.{Work}
use Rattle.sema_body.specs.Meets.{state_at, IsState, operand_at, IsOperand, frame_at, IsFrame, IsWanted, hand, trace}

module _ (k l : Known) (g : Grows k l) where
  pub trace-grows : (cx : Answers) (s : Work) → AreMoves k s.trace → trace l cx s ≡ trace k cx s
  unfolding trace
  trace-grows cx s h = moves-grow k l (lines_of cx) s.trace g h

  pub hand-grows : (cx : Answers) → IsInjective k → IsInjective l → AreAnswers k cx → hand l cx ≡ hand k cx
  unfolding hand
  hand-grows cx before now h = λ i q. given-grows k l cx q g before now h i

  -- ---- states

  map-tys : (is : List Index) → All (IsTy k) is → map (ty_at l) is ≡ map (ty_at k) is
  map-tys [] h = refl
  map-tys (i ∷ is) h = ap₂ (λ x xs. x ∷ xs) (g.stays.ty i (All-head (IsTy k) i is h)) (map-tys is (All-tail (IsTy k) i is h))

  map-statements : (b : AirState) (rs : List AirRef) → All (IsNode k) b.nodes → map (statement_of (air_at l b.nodes)) rs ≡ map (statement_of (air_at k b.nodes)) rs
  map-statements b [] h = refl
  map-statements b (r ∷ rs) h = ap₂ (λ x xs. x ∷ xs) (ap as_statement (air-grows k l b.nodes r g h)) (map-statements b rs h)

  pub state-grows : (b : AirState) → IsState k b → state_at l b ≡ state_at k b
  unfolding state_at
  state-grows b h =
      ap₂ (λ x y. record { locals = []; memory = []; count = 0; quota = plain_state.first_quota; slots = x; statements = y; labels = b.labels; calls = []; errors = [] })
      (map-tys b.slots h.slots) (map-statements b b.statements h.nodes)

  all-tys : (is : List Index) → All (IsTy k) is → All (IsTy l) is
  all-tys is h = λ i d below. g.stays.is_ty _ (h i d below)

  pub IsState-grows : (b : AirState) → IsState k b → IsState l b
  IsState-grows b h = record { built = h.built; nodes = nodes-grow k l b.nodes g h.nodes; slots = all-tys b.slots h.slots }

  pub operand-grows : (s : Work) (o : Operand) → IsState k s.body → IsOperand k s o → operand_at l s o ≡ operand_at k s o
  operand-grows s (operand.Known i) w h = ap plain_state.known (g.stays.value i h)
  operand-grows s (operand.Run t at) w h = ap₂ plain_state.run (g.stays.ty t h.0) (air-grows k l s.body.nodes at g w.nodes)

  pub IsOperand-grows : (s : Work) (o : Operand) → IsOperand k s o → IsOperand l s o
  IsOperand-grows s (operand.Known i) h = g.stays.is_value i h
  IsOperand-grows s (operand.Run t at) h = (g.stays.is_ty t h.0, h.1)

  pub wanted-grows : (w : Option Index) → IsWanted k w → option_map (ty_at l) w ≡ option_map (ty_at k) w
  wanted-grows None h = refl
  wanted-grows (Some i) h = ap Some (g.stays.ty i h)

  pub IsWanted-grows : (w : Option Index) → IsWanted k w → IsWanted l w
  IsWanted-grows None h = tt
  IsWanted-grows (Some i) h = g.stays.is_ty i h

  frame-of : (f : Frame) → plain.TextPart → Ty → Option Ty → plain_state.Frame
  frame-of f p c w = record { part = p; container = c; is_comptime = f.is_comptime; result = w }

  pub frame-grows : (f : Frame) → IsFrame k f → frame_at l f ≡ frame_at k f
  unfolding frame-of
  frame-grows f h =
      ap (λ x. frame-of f x (ty_at l f.container) (option_map (ty_at l) f.result)) (part-grows k l f.part g h.part)
      ∙ ap (λ x. frame-of f (part_at k f.part) x (option_map (ty_at l) f.result)) (g.stays.ty f.container h.container)
      ∙ ap (λ x. frame-of f (part_at k f.part) (ty_at k f.container) x) (wanted-grows f.result h.result)

  pub IsFrame-grows : (f : Frame) → IsFrame k f → IsFrame l f
  IsFrame-grows f h = record { part = IsPart-grows k l f.part g h.part; container = g.stays.is_ty f.container h.container; result = IsWanted-grows f.result h.result }
