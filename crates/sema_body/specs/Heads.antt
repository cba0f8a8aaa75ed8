-- The parts of functions and constants, as core trees and as lines.
use Rattle.std.specs.Prelude.{◌≡◌, ℕ, Bool, Option, Some, None, if◌then◌else◌}
use Rattle.zw_base.specs.declared.diag.DiagCode.TheVariants as code
use Rattle.zir_form.specs.Core.{Core}
use Rattle.zir_form.specs.Core as core
use Rattle.type_form.specs.declared.tree.DeclPath.{DeclPath}
use Rattle.type_form.specs.Known.{Known}
use Rattle.elab_form.specs.Asking.{Elab, pure, wrong, not_built}
use Rattle.elab_form.specs.Control.{is_none}
use Rattle.elab_form.specs.Questions.{UnitValue, constant}
use Rattle.elab_form.specs.State.{Frame as AnyFrame}
use Rattle.elab_form.specs.Units.{exported_type, function_value, is_export_name, name_of}
use Rattle.trace_log.specs.declared.answer.Answer.{Answer}
use Rattle.trace_log.specs.declared.answer.Answer.TheVariants as answer
use Rattle.trace_log.specs.declared.answer.TreeRef.{TreeRef}
use Rattle.sema_body.specs.declared.frame.Frame.{Frame}
use Rattle.sema_body.specs.declared.heads.Head.{Head}
use Rattle.sema_body.specs.declared.heads.Mark.{Mark}
use Rattle.sema_body.specs.declared.heads.Mark.TheVariants as marks
use Rattle.sema_body.specs.Meets.{IsFrame, frame_at}

-- a frame that is this one
pub record DenotesFrame (k : Known) (f : Frame) (x : AnyFrame) : Type 0 where
  pub known : IsFrame k f
  pub is : frame_at k f ≡ x

-- what a tree says by standing at a place of a head
abbrev pub mark_in : Core → Mark
mark_in core.absent = marks.Absent
mark_in core.exported = marks.Exported
mark_in (core.inferred place) = marks.Inferred
mark_in _ = marks.Other

-- the type and the value of a constant
abbrev pub constant_in : Core → Option (Core × Core)
constant_in (core.constant place local t c) = Some (t, c)
constant_in _ = None

-- the head and the body of a function
abbrev pub function_in : Core → Option (Core × Core)
function_in (core.function h c) = Some (h, c)
function_in _ = None

-- two lines, as trees
abbrev pub two_over : (ℕ → Core) → ℕ × ℕ → Core × Core
two_over at (m, n) = (at m, at n)

-- the parts of a head, and whether it has no parameters
pub record HeadParts : Type 0 where
  pub place : ℕ
  pub linkage : Core
  pub is_plain : Bool
  pub mark : Core
  pub result : Core

abbrev pub head_in : Core → Option HeadParts
head_in (core.head place linkage parameters mark t) = Some (record { place = place; linkage = linkage; is_plain = is_none parameters; mark = mark; result = t })
head_in _ = None

-- lines, as trees
abbrev pub head_over : (ℕ → Core) → Head → HeadParts
head_over at h = record { place = h.name_place; linkage = at h.linkage; is_plain = h.is_plain; mark = at h.mark; result = at h.result }

-- the head of a function that is exported
abbrev pub exported_by : AnyFrame → DeclPath → HeadParts → Elab UnitValue
exported_by f d h =
    if is_export_name (name_of d) then (if h.is_plain then exported_type f d h.mark h.result else not_built f h.place)
    else wrong f h.place code.TypeNotAllowed

-- a function by its head, and by what stands for its linkage there
abbrev pub function_marked : AnyFrame → DeclPath → HeadParts → Mark → Elab UnitValue
function_marked f d h marks.Absent = pure (constant (function_value d))
function_marked f d h marks.Exported = exported_by f d h
function_marked f d h marks.Inferred = not_built f h.place
function_marked f d h marks.Other = not_built f h.place

abbrev pub function_parts : AnyFrame → DeclPath → HeadParts → Elab UnitValue
function_parts f d h = function_marked f d h (mark_in h.linkage)

-- the tree that an answer gives
abbrev pub tree_in : Answer → Option TreeRef
tree_in (answer.Tree r) = r
tree_in _ = None
