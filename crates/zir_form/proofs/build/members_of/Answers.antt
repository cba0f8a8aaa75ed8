use Rattle.std.proofs.Common.{◌∙◌, sym, arith}
use Rattle.std.proofs.lemmas.Grind.{common_steps}
use Rattle.zir_form.specs.Tables.{is_row, member_in}
use Rattle.zir_form.proofs.MapLemmas.{member_in-empty}
use Rattle.zir_form.proofs.TableLemmas.{last_begun, last_done, last_step}
use Rattle.zir_form.proofs.build.members_of.Goals as goal

pub loop-rest-init : goal.loop-rest-init
loop-rest-init c k name = last_begun (is_row k name) c.args.rows.now (member_in c.new-members.result k name) (member_in-empty c.new-members.result k name c.new-members.ensures.empty)

pub loop-rest-preserved : goal.loop-rest-preserved
loop-rest-preserved c k name =
    last_step c.loop-rest.at c.in_ok-at.at (is_row k name) c.row-item.result _ (member_in c.loop-rest.members k name) (member_in c.enter.new.members k name) c.in_ok-at.ensures (c.in_ok-enter.ensures k name)
    ∙ (let h = c.loop-rest.invariant k name in grind (arith, common_steps, h))

pub returns : goal.returns
returns c k name =
    sym (last_done c.loop-rest.at (is_row k name) c.loop-rest.rest.now (member_in c.loop-rest.members k name) c.in_default.len_below) ∙ c.loop-rest.invariant k name
