use Rattle.type_form.specs.Spelling.{is_keyword}
use Rattle.type_form.proofs.text.is_keyword.Goals as goal

pub returns : goal.returns
unfolding is_keyword
returns c = c.is_among.ensures
