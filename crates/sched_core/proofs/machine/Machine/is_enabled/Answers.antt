use Rattle.std.proofs.Common.{◌≡◌, nat_eq, reverse, sym, ap, ◌∙◌, subst}
use Rattle.sched_core.specs.LogWithRoom.{LogWithRoom}
use Rattle.sched_core.specs.Machine.{Enabled, replay}
use Rattle.sched_core.proofs.Possible.{possible-enabled, enabled-possible}
use Rattle.sched_core.proofs.machine.Machine.is_enabled.Goals as goal

pub returns : goal.returns
returns c =
    let log_is : reverse c.self.inside.log.items ≡ c.args.self.now.log = ap (λ (v : LogWithRoom). v.log) c.self.view_is in (
      λ yes_. subst (λ log. Enabled nat_eq (replay nat_eq log) c.args.event) log_is (possible-enabled _ _ _ _ c.self.invariant.0 c.args.event (sym c.is_possible_in.ensures ∙ yes_)),
      λ enabled. c.is_possible_in.ensures ∙ enabled-possible _ _ _ _ c.self.invariant.0 c.args.event (subst (λ log. Enabled nat_eq (replay nat_eq log) c.args.event) (sym log_is) enabled),
    )
