use Rattle.std.proofs.Common.{◌≡◌, ◌++◌, ◌∷◌, [], map, reverse, sym, ap, ◌∙◌}
use Rattle.diag_order.specs.Places.{line_at, col_at}
use Rattle.diag_order.specs.Sorted.{line_of, IsInFile}
use Rattle.diag_order.proofs.Files.{placed_so, pop_placed, last_pushed, left_over}
use Rattle.diag_order.proofs.sorting.placed.Goals as goal

pub loop-diag-preserved : goal.loop-diag-preserved
loop-diag-preserved c =
    let texts = c.args.texts.now in
    let d = c.in-Some.diag in
    let lines = c.loop-diag.lines.items in
    let rest = c.pop.new.self.items in
    let text = c.place_in-last.result.0.now in
    let at = c.place_in-last.result.1 in
    let popped : c.loop-diag.list.items ≡ rest ++ d ∷ [] = c.in-Some.ensures.items in
    let is_place = c.place_in-last.ensures.place in
    let made : c.line_at.result ≡ line_of texts d =
    c.line_at.ensures ∙ placed_so texts d text at.line at.col c.place_in-last.ensures.file (is_place.line ∙ ap (line_at text) c.place_in-last.ensures.offset) (is_place.col ∙ ap (col_at text) c.place_in-last.ensures.offset) in
    let pushed : c.push.new.self.items ≡ lines ++ line_of texts d ∷ [] = c.in_ok-push.ensures.items ∙ ap (λ l. lines ++ l ∷ []) made in
    record {
      done = rw pushed (pop_placed texts lines (map (line_of texts) (reverse c.args.list.items)) c.loop-diag.list.items rest d popped c.loop-diag.invariant.done);
      left = left_over (IsInFile texts) c.loop-diag.list.items rest d popped c.loop-diag.invariant.left;
      file = rw pushed (c.place_in-last.ensures.file ∙ sym (last_pushed texts lines (line_of texts d)));
      place = is_place;
    }
