use Rattle.std.proofs.Common.{◌∙◌, sym, arith}
use Rattle.std.proofs.lemmas.Grind.{common_steps}
use Rattle.zir_form.specs.Tables.{is_container_row, number_in}
use Rattle.zir_form.proofs.MapLemmas.{number_in-empty}
use Rattle.zir_form.proofs.TableLemmas.{last_begun, last_done, last_step}
use Rattle.zir_form.proofs.build.places_of.Goals as goal

pub loop-rest-init : goal.loop-rest-init
loop-rest-init c q = last_begun (is_container_row q) c.args.rows.now (number_in c.new-places.result q) (number_in-empty c.new-places.result q c.new-places.ensures.empty)

pub loop-rest-preserved : goal.loop-rest-preserved
loop-rest-preserved c q =
    last_step c.loop-rest.at c.in_ok-at.at (is_container_row q) _ _ (number_in c.loop-rest.places q) (number_in c.place.new.places q) c.in_ok-at.ensures (c.in_ok-place.ensures q)
    ∙ (let h = c.loop-rest.invariant q in grind (arith, common_steps, h))

pub returns : goal.returns
returns c q =
    sym (last_done c.loop-rest.at (is_container_row q) c.loop-rest.rest.now (number_in c.loop-rest.places q) c.in_default.len_below) ∙ c.loop-rest.invariant q
