use Rattle.std.proofs.Common.{refl, ◌∙◌}
use Rattle.zir_scope.specs.State.{seen}
use Rattle.zir_scope.proofs.Cases.{past_other}
use Rattle.zir_scope.proofs.Prefixes.{extends_refl}
use Rattle.zir_scope.proofs.scope.Scope.past_node.Goals as goal

pub returns-in_default : goal.returns-in_default
returns-in_default c = record {
  place = c.after_part.ensures c.args.outline.now (seen c.args.self.now) ∙ past_other _ _ _ _ _ c.in_default.not-Statement c.in_default.not-Parameter c.in_default.not-Captures c.in_default.not-Prototype c.role.ensures;
  events = refl;
  members = refl;
  exits = refl;
  locals = extends_refl _;
}
