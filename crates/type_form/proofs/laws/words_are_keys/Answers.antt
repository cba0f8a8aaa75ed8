use Rattle.std.proofs.Common.{◌≡◌, Some, sym, ap, ◌∙◌}
use Rattle.type_form.specs.declared.key.Key.{Key}
use Rattle.type_form.specs.Words.{key_of, words_of, Fits}
use Rattle.type_form.proofs.WordLemmas.{key_of-words_of, words_of-key_of}
use Rattle.type_form.proofs.laws.words_are_keys.Goals as goal

some_one : (k l : Key) → Some k ≡ Some l → k ≡ l
some_one k l e = cc

pub returns-clause-read : goal.returns-clause-read
returns-clause-read c = key_of-words_of

pub returns-clause-written : goal.returns-clause-written
returns-clause-written c = words_of-key_of

pub returns-clause-one : goal.returns-clause-one
returns-clause-one c = λ k l f g e. some_one k l (sym (key_of-words_of k f) ∙ ap key_of e ∙ key_of-words_of l g)
