use Rattle.std.proofs.Common.{sym, ◌∙◌, arith}
use Rattle.std.proofs.lemmas.List.{take_all}
use Rattle.type_keys.proofs.words.first_words.Goals as goal

pub returns-then-words-lt60 : goal.returns-then-words-lt60
returns-then-words-lt60 c = c.of.ensures ∙ sym (take_all 60 c.args.words.now (omega arith))
