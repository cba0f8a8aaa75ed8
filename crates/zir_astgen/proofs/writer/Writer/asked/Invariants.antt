use Rattle.std.proofs.Common.{◌≡◌, ◌<◌, length}
use Rattle.zir_form.specs.Lines.{tree_at}
use Rattle.zir_astgen.specs.Asking.{asked_of}
use Rattle.zir_astgen.specs.Firsts.{AreBelow, Grows}
use Rattle.zir_astgen.specs.Names.{asked, now}
use Rattle.zir_astgen.specs.Pieces.{Below}
use Rattle.zir_astgen.specs.Writing.{file, parts, site, trees}
use Rattle.zir_astgen.proofs.writer.Writer.asked.Given as goal

abbrev pub invariant-loop-rest : goal.invariant-loop-rest
invariant-loop-rest l = record {
  grows : Grows (trees l.initial.self) (trees l.self);
  source : l.self.source ≡ l.initial.self.source;
  below : Below (length (trees l.initial.self)) l.rest;
  object : l.asking.object < length (trees l.self);
  items : AreBelow (length (trees l.self)) l.asking.items.items;
  same : asked (file l.initial.self) (site l.initial.self) l.place (asked_of (trees l.self) l.asking) (parts l.initial.self l.rest)
      ≡ asked (file l.initial.self) (site l.initial.self) l.place (now (tree_at (trees l.initial.self) l.line)) (parts l.initial.self l.row);
}

abbrev pub decreases-loop-rest : goal.decreases-loop-rest
decreases-loop-rest l = length l.rest
