use Rattle.std.proofs.Common.{◌≡◌, List, ℕ, [], Ok, Err, IfErr, map, refl}
use Rattle.std.specs.String.{string_bytes}
use Rattle.zw_base.specs.Outside.{Rose}
use Rattle.watch_main.specs.RunOnce.{Follows, Refuses, files_asked}
use Rattle.watch_main.specs.Session.{read_words}
use Rattle.watch_main.specs.Steps.{Opens, Writes}
use Rattle.watch_main.proofs.RunLemmas.{IfSome-all, IfSome-weaken, words_refused, words_answer, files_refused, files_answer, files_read, answered, no_file_fault, complete}
use Rattle.watch_main.proofs.run.run_once.Goals as goal

pub returns-in-Err-clause-session : goal.returns-in-Err-clause-session
returns-in-Err-clause-session g c =
    let words : List (List ℕ) = map string_bytes c.args.words.now in
    IfSome-all (g.F.Files.holds c.args.files.now) (λ held. Writes (g.K.Sink.taken c.args.out.now) (g.K.Sink.taken c.args.out.now) (λ written. Follows c.in-Err.status written words held))
    (λ held. words_refused c.in-Err.status words held _ c.in-Err.ensures.served)

pub returns-in-Err-clause-refused : goal.returns-in-Err-clause-refused
returns-in-Err-clause-refused g c =
    let words : List (List ℕ) = map string_bytes c.args.words.now in
    IfSome-all (g.F.Files.holds c.args.files.now) (λ held. IfErr (files_asked words held) (λ why. Refuses c.in-Err.status why × (g.K.Sink.taken c.args.out.now ≡ g.K.Sink.taken c.args.out.now)))
    (λ held. words_answer c.in-Err.status words held c.in-Err.ensures.served refl)

pub returns-in-Err-opened-clause-session : goal.returns-in-Err-opened-clause-session
returns-in-Err-opened-clause-session g c =
    let words : List (List ℕ) = map string_bytes c.args.words.now in
    IfSome-weaken (g.F.Files.holds c.args.files.now) (λ held. Opens (Err c.in-Err-opened.status) c.in-Ok.words.root (read_words held c.in-Ok.words.paths []))
    (λ held. Writes (g.K.Sink.taken c.args.out.now) (g.K.Sink.taken c.args.out.now) (λ written. Follows c.in-Err-opened.status written words held))
    (λ held opens. files_refused c.in-Err-opened.status words held c.in-Ok.words _ c.in-Ok.ensures.served c.in-Err-opened.ensures.refusal opens) c.in-Err-opened.ensures.told

pub returns-in-Err-opened-clause-refused : goal.returns-in-Err-opened-clause-refused
returns-in-Err-opened-clause-refused g c =
    let words : List (List ℕ) = map string_bytes c.args.words.now in
    IfSome-weaken (g.F.Files.holds c.args.files.now) (λ held. Opens (Err c.in-Err-opened.status) c.in-Ok.words.root (read_words held c.in-Ok.words.paths []))
    (λ held. IfErr (files_asked words held) (λ why. Refuses c.in-Err-opened.status why × (g.K.Sink.taken c.args.out.now ≡ g.K.Sink.taken c.args.out.now)))
    (λ held opens. files_answer c.in-Err-opened.status words held c.in-Ok.words c.in-Ok.ensures.served c.in-Err-opened.ensures.refusal opens refl) c.in-Err-opened.ensures.told

pub returns-clause-session : goal.returns-clause-session
returns-clause-session g c =
    let words : List (List ℕ) = map string_bytes c.args.words.now in
    IfSome-weaken (g.F.Files.holds c.args.files.now) (λ held. Opens (Ok c.in-Ok-opened.session) c.in-Ok.words.root (read_words held c.in-Ok.words.paths []))
    (λ held. Writes (g.K.Sink.taken c.args.out.now) (g.K.Sink.taken c.write_update.new.out) (λ written. Follows c.write_update.result written words held))
    (λ held opens. answered c.write_update.result words held c.in-Ok.words c.in-Ok-opened.session _ _ c.update_sole-update.result c.in-Ok.ensures.served opens
    c.update_sole-update.ensures.within c.update_sole-update.ensures.answer c.write_update.ensures.kind c.write_update.ensures.ends)
    c.in-Ok-opened.ensures.told

pub returns-clause-refused : goal.returns-clause-refused
returns-clause-refused g c =
    let words : List (List ℕ) = map string_bytes c.args.words.now in
    IfSome-weaken (g.F.Files.holds c.args.files.now) (λ held. Opens (Ok c.in-Ok-opened.session) c.in-Ok.words.root (read_words held c.in-Ok.words.paths []))
    (λ held. IfErr (files_asked words held) (λ why. Refuses c.write_update.result why × (g.K.Sink.taken c.write_update.new.out ≡ g.K.Sink.taken c.args.out.now)))
    (λ held opens. files_read words held c.in-Ok.words c.in-Ok-opened.session c.write_update.result (g.K.Sink.taken c.write_update.new.out ≡ g.K.Sink.taken c.args.out.now) c.in-Ok.ensures.served opens)
    c.in-Ok-opened.ensures.told

pub returns-clause-file_fault : goal.returns-clause-file_fault
returns-clause-file_fault g c e = no_file_fault _ c.write_update.ensures.kind e

pub returns-clause-complete : goal.returns-clause-complete
returns-clause-complete g c =
    complete (Rose (g.F.Files.faults c.args.files.now) (g.F.Files.faults c.opened.new.files)) (g.F.Files.holds c.args.files.now) (map string_bytes c.args.words.now) c.write_update.result c.write_update.ensures.kind c.write_update.ensures.rose
