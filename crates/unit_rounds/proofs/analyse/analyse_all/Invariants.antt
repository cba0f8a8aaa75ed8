use Rattle.std.proofs.Common.{false, map}
use Rattle.type_form.specs.Pool.{Interns}
use Rattle.trace_log.specs.Attempts.{file_answers}
use Rattle.trace_log.specs.Readings.{unit_at}
use Rattle.unit_rounds.proofs.LevelSteps.{AtLevel}
use Rattle.unit_rounds.proofs.analyse.analyse_all.Given as goal

-- the units, what they wait for and the snapshot are those of the level
abbrev pub invariant-loop-level : goal.invariant-loop-level
invariant-loop-level g l =
    let known = g.I.Keys.known in
    record {
      interns : Interns known g.I.Keys.home g.I.Keys.fulls l.fn.p l.p false;
      at : AtLevel (known l.p) (file_answers (known l.fn.p) l.fn.answers) (map (unit_at (known l.fn.p)) l.roots) l.fn.answers l.now l.level l.known l.waits.items;
    }
