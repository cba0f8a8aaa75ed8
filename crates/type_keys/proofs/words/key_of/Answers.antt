use Rattle.std.proofs.Common.{◌≡◌, true, false, None, sym, ◌∙◌}
use Rattle.std.specs.Str.{bytes_eq}
use Rattle.std.proofs.lemmas.Slice.Eq.{bytes_eq-Decides}
use Rattle.type_form.specs.Words.{words_of, key_of}
use Rattle.type_form.proofs.WordLemmas.{key_of-none, key_of-same, key_of-other}
use Rattle.type_keys.proofs.words.key_of.Goals as goal

pub returns-then-is_same-clause-key : goal.returns-then-is_same-clause-key
returns-then-is_same-clause-key c =
    let same : bytes_eq (words_of c.guess-found.result) c.args.words.now ≡ true = cc in
    sym (key_of-same c.args.words.now c.guess-found.result c.guess-found.ensures same)

pub returns-then-is_same-clause-ok : goal.returns-then-is_same-clause-ok
returns-then-is_same-clause-ok c =
    let same : bytes_eq (words_of c.guess-found.result) c.args.words.now ≡ true = cc in
    (bytes_eq-Decides (words_of c.guess-found.result) c.args.words.now).0 same

pub returns-else-is_same-clause-key : goal.returns-else-is_same-clause-key
returns-else-is_same-clause-key c =
    let other : bytes_eq (words_of c.guess-found.result) c.args.words.now ≡ false = cc in
    sym (key_of-other c.args.words.now c.guess-found.result c.guess-found.ensures other)

pub returns-else-is_same-clause-bad : goal.returns-else-is_same-clause-bad
returns-else-is_same-clause-bad c k =
    let other : bytes_eq (words_of c.guess-found.result) c.args.words.now ≡ false = cc in
    key_of-none c.args.words.now k (key_of-other c.args.words.now c.guess-found.result c.guess-found.ensures other)
