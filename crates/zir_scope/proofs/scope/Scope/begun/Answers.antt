use Rattle.std.proofs.Common.{refl, ◌∙◌}
use Rattle.zir_scope.specs.State.{seen}
use Rattle.zir_scope.proofs.Cases.{begun_other}
use Rattle.zir_scope.proofs.Prefixes.{extends_refl}
use Rattle.zir_scope.proofs.scope.Scope.begun.Goals as goal

pub returns-in_default : goal.returns-in_default
returns-in_default c = record {
  place = c.begun.ensures c.args.outline.now (seen c.args.self.now) ∙ begun_other _ _ _ _ _ c.in_default.not-Members c.in_default.not-Container c.role.ensures;
  events = refl;
  locals = refl;
  members = extends_refl _;
  exits = extends_refl _;
}
