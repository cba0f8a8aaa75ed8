use Rattle.std.proofs.Common.{◌≡◌, nat_eq, [], ◌∷◌, reverse, sym, ap, ◌∙◌, subst, arith}
use Rattle.std.proofs.lemmas.List.{reverse-append}
use Rattle.std.specs.HashMap.{get, hash_map_len}
use Rattle.sched_core.specs.LogWithRoom.{LogWithRoom}
use Rattle.sched_core.specs.Machine.{Enabled, replay}
use Rattle.sched_core.specs.Tables.{Shows}
use Rattle.sched_core.proofs.TableSteps.{shows-after}
use Rattle.sched_core.proofs.machine.Machine.take.Goals as goal

pub invariant_of-self : goal.invariant_of-self
invariant_of-self c =
    let log_is : reverse c.self.inside.log.items ≡ c.args.self.now.log = ap (λ (v : LogWithRoom). v.log) c.self.view_is in
    let longer : reverse c.push_reserved.new.self.items ≡ c.args.event ∷ reverse c.self.inside.log.items = ap reverse c.push_reserved.ensures.items ∙ reverse-append c.self.inside.log.items (c.args.event ∷ []) in (
      subst (λ log. Shows (get nat_eq c.move_unit.new.stands) (get nat_eq c.move_claim.new.claims) (hash_map_len c.move_unit.new.stands) log) (sym longer)
          (shows-after _ _ _ _ _ _ _ _ c.self.invariant.0 (subst (λ log. Enabled nat_eq (replay nat_eq log) c.args.event) (sym log_is) c.requires.enabled) c.move_unit.ensures.entries c.move_claim.ensures.entries c.move_unit.ensures.len),
      record { for_units = omega arith; for_claims = omega arith; for_log = omega arith },
    )
