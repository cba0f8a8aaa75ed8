-- A walk that stops at a place of its own has found a cycle, whose places of least text are marked; every other walk finds none.
use Rattle.std.proofs.Common.{length}
use Rattle.pointer_cycles.specs.Cycles.{text_of}
use Rattle.pointer_cycles.specs.Walks.{after}
use Rattle.pointer_cycles.proofs.Walking.{start-visited, settled-same, older, at-end, cycle-within, best-within, settled-more}
use Rattle.pointer_cycles.proofs.Pointers.{after-low, after-end}
use Rattle.pointer_cycles.proofs.cycles.mark_from.Goals as goal
use Rattle.pointer_cycles.proofs.cycles.mark_from.Goals.{else-stop-next-via-then-stop-next+else-count-visits, else-stop-next-via-else-stop-next}

pub least_behind-least-requires-clause-within : goal.least_behind-least-requires-clause-within
least_behind-least-requires-clause-within c =
    let next = c.args.next.now in
    λ k. cycle-within (after next) (length next) (after-end next) (after-low next) (text_of c.args.texts.now) c.args.visits.now c.args.marks.now c.args.count c.requires.settled
    c.args.start c.walk-reached.new.visits c.walk-reached.result.0 c.walk-reached.result.1 c.walk-reached.ensures.walked c.requires.within c.walk-reached.ensures.stopped
    c.if-stop-next.true c.if-count-visits.true k

pub mark_behind-requires-clause-within : goal.mark_behind-requires-clause-within
mark_behind-requires-clause-within c =
    let next = c.args.next.now in
    λ k. cycle-within (after next) (length next) (after-end next) (after-low next) (text_of c.args.texts.now) c.args.visits.now c.args.marks.now c.args.count c.requires.settled
    c.args.start c.walk-reached.new.visits c.walk-reached.result.0 c.walk-reached.result.1 c.walk-reached.ensures.walked c.requires.within c.walk-reached.ensures.stopped
    c.if-stop-next.true c.if-count-visits.true k

pub mark_behind-requires-clause-least : goal.mark_behind-requires-clause-least
mark_behind-requires-clause-least c =
    let next = c.args.next.now in
    let a = c.least_behind-least.ensures.among in
    best-within (after next) (length next) (after-end next) (after-low next) (text_of c.args.texts.now) c.args.visits.now c.args.marks.now c.args.count c.requires.settled
    c.args.start c.walk-reached.new.visits c.walk-reached.result.0 c.walk-reached.result.1 c.walk-reached.ensures.walked c.requires.within c.walk-reached.ensures.stopped
    c.if-stop-next.true c.if-count-visits.true c.least_behind-least.result a.0 a.1 c.least_behind-least.ensures.least

pub returns-then-count-visits-clause-settled : goal.returns-then-count-visits-clause-settled
returns-then-count-visits-clause-settled c =
    let next = c.args.next.now in
    let a = c.least_behind-least.ensures.among in
    settled-more (after next) (length next) (after-end next) (after-low next) (text_of c.args.texts.now) c.args.visits.now c.args.marks.now c.args.count c.requires.settled
    c.args.start c.walk-reached.new.visits c.walk-reached.result.0 c.walk-reached.result.1 c.walk-reached.ensures.walked c.requires.within c.walk-reached.ensures.stopped
    c.if-stop-next.true c.if-count-visits.true c.least_behind-least.result a.0 a.1 c.least_behind-least.ensures.least
    c.mark_behind.new.marks c.mark_behind.ensures

pub returns-then-count-visits-clause-visited : goal.returns-then-count-visits-clause-visited
returns-then-count-visits-clause-visited c =
    let next = c.args.next.now in
    start-visited (after next) (length next) (after-end next) (after-low next) (text_of c.args.texts.now) c.args.visits.now c.args.marks.now c.args.count c.requires.settled
    c.args.start c.walk-reached.new.visits c.walk-reached.result.0 c.walk-reached.result.1 c.walk-reached.ensures.walked c.requires.within c.walk-reached.ensures.stopped

pub returns-else-stop-next-clause-visited : goal.returns-else-stop-next-clause-visited
returns-else-stop-next-clause-visited c =
    let next = c.args.next.now in
    start-visited (after next) (length next) (after-end next) (after-low next) (text_of c.args.texts.now) c.args.visits.now c.args.marks.now c.args.count c.requires.settled
    c.args.start c.walk-reached.new.visits c.walk-reached.result.0 c.walk-reached.result.1 c.walk-reached.ensures.walked c.requires.within c.walk-reached.ensures.stopped

pub returns-else-stop-next-clause-settled : goal.returns-else-stop-next-clause-settled
returns-else-stop-next-clause-settled c =
    let next = c.args.next.now in
    let same = settled-same (after next) (length next) (after-end next) (after-low next) (text_of c.args.texts.now) c.args.visits.now c.args.marks.now c.args.count c.requires.settled
    c.args.start c.walk-reached.new.visits c.walk-reached.result.0 c.walk-reached.result.1 c.walk-reached.ensures.walked c.requires.within c.walk-reached.ensures.stopped in
    elim c.else-stop-next.branch [
      | else-stop-next-via-then-stop-next+else-count-visits w ↦ same
          (older (after next) (length next) (after-end next) (after-low next) (text_of c.args.texts.now) c.args.visits.now c.args.marks.now c.args.count c.requires.settled
          c.args.start c.walk-reached.new.visits c.walk-reached.result.0 c.walk-reached.result.1 c.walk-reached.ensures.walked c.requires.within c.walk-reached.ensures.stopped
          w.if-stop-next.true w.if-count-visits.false)
      | else-stop-next-via-else-stop-next w ↦ same
          (at-end (after next) (length next) (after-end next) (after-low next) (text_of c.args.texts.now) c.args.visits.now c.args.marks.now c.args.count c.requires.settled
          c.args.start c.walk-reached.new.visits c.walk-reached.result.0 c.walk-reached.result.1 c.walk-reached.ensures.walked c.requires.within c.walk-reached.ensures.stopped
          w.if-stop-next.false)
    ]
