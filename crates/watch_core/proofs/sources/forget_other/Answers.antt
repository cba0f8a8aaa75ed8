use Rattle.std.proofs.Common.{◌∙◌, sym}
use Rattle.watch_core.proofs.FilesLemmas.{read_changed, read_same}
use Rattle.watch_core.proofs.sources.forget_other.Goals as goal

pub returns-then-has_text-clause-change : goal.returns-then-has_text-clause-change
returns-then-has_text-clause-change c =
    read_same c.args.sources.now.entries c.args.files.now.entries c.args.path.now c.args.text.now (sym c.has_text.ensures ∙ c.if-has_text.true) c.requires

pub returns-clause-change : goal.returns-clause-change
returns-clause-change c =
    read_changed c.args.sources.now.entries c.remove.new.self.entries c.args.files.now.entries c.args.path.now c.args.text.now c.remove.ensures.updates.0 c.requires
