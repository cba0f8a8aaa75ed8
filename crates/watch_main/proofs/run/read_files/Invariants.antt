use Rattle.std.proofs.Common.{◌≡◌, ◌≤◌, drop, IfSome}
use Rattle.watch_main.specs.Session.{read_words}
use Rattle.watch_main.proofs.run.read_files.Given as goal

-- the files so far, and what the paths that are left make of them
abbrev pub invariant-loop-path : goal.invariant-loop-path
invariant-loop-path g l = record {
  told : IfSome (g.F.Files.holds l.initial.files) (λ held. read_words held (drop l.path-index l.paths) l.session.files ≡ read_words held l.paths l.initial.session.files);
  root : l.session.root ≡ l.initial.session.root;
  same : g.F.Files.holds l.files ≡ g.F.Files.holds l.initial.files;
  faults : g.F.Files.faults l.initial.files ≤ g.F.Files.faults l.files;
}
