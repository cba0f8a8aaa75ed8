use Rattle.zir_form.specs.declared.form.Form.TheVariants as form
use Rattle.zir_form.specs.Lines.{over_cores}
use Rattle.zir_astgen.proofs.AddLemmas.{put_adds}
use Rattle.zir_astgen.proofs.part_tree.function_in.Goals as goal

pub returns : goal.returns
unfolding over_cores
returns c = put_adds c.args.sheet.lines c.put.new.self (form.Function c.args.head c.args.body) c.in_ok-line.line c.in_ok-line.ensures.line c.in_ok-line.ensures.lines
