use Rattle.std.proofs.Common.{◌≡◌, rules}
use Rattle.watch_main.proofs.ReadLemmas.{long_refused}
use Rattle.watch_main.proofs.run.read_file.Goals as goal

pub returns-in-TooLong-clause-told : goal.returns-in-TooLong-clause-told
returns-in-TooLong-clause-told g c =
    let key : c.in-Ok.path ≡ c.args.path.now = search rules in
    long_refused (g.F.Files.holds c.args.files.now) c.args.session.now.files c.args.path.now c.in-Ok.path c.read.new.into.items c.limit-in-TooLong.result c.limit-in-TooLong.ensures key
    (λ full. let all = c.is_full.ensures.1 full in absurd (cc)) c.in-TooLong.ensures.told
