use Rattle.std.proofs.Common.{◌≡◌, Ok, drop, sym, ◌∙◌, arith}
use Rattle.zw_base.specs.Outside.{file_at}
use Rattle.watch_main.specs.Session.{read_words, with_word}
use Rattle.watch_main.proofs.ReadLemmas.{next_read, IfSome-next}
use Rattle.watch_main.proofs.run.read_files.Goals as goal

pub loop-path-preserved : goal.loop-path-preserved
loop-path-preserved g c = record {
  told = IfSome-next (g.F.Files.holds c.args.files.now) (g.F.Files.holds c.loop-path.files)
      (λ held. read_words held (drop c.loop-path.path-index c.args.paths.now) c.loop-path.session.files ≡ read_words held c.args.paths.now c.args.session.now.files)
      (λ held. with_word c.loop-path.session.files c.path-item.result (file_at held c.path-item.result) ≡ Ok c.read_file.new.session.files)
      _ c.loop-path.invariant.same
      (λ held so_far step. sym (next_read held c.loop-path.session.files c.read_file.new.session.files c.args.paths.now c.loop-path.path-index c.path-item.result c.loop-path-test.true c.path-item.is step) ∙ so_far)
      c.loop-path.invariant.told c.in_ok-read_file.ensures.told;
  root = c.in_ok-read_file.ensures.root ∙ c.loop-path.invariant.root;
  same = c.in_ok-read_file.ensures.same ∙ c.loop-path.invariant.same;
  faults = omega (arith, c.in_ok-read_file.ensures.faults, c.loop-path.invariant.faults);
}
