use Rattle.std.proofs.Common.{◌≡◌, [], ℕ, zero, suc, ◌<◌, List, length, replicate, slice_index, refl, sym, ap, ◌∙◌, subst, arith, Bor}
use Rattle.std.proofs.lemmas.List.{length-replicate}
use Rattle.type_form.specs.declared.index.Index.{Index}
use Rattle.pool_shard.specs.Pairs.{Rows, known, known_of, ArePlaced}
use Rattle.type_form.specs.Known.{Known}
use Rattle.pool_words.specs.declared.view.Layout.{Layout}
use Rattle.pool_words.specs.Layout.{IsLayout}
use Rattle.pool_seat.specs.Moves.{Pairs, IsMoved, HasMoved, IsOpened, IsRehomed}
use Rattle.pool_seat.specs.Order.{Source, olds, places, Adds, IsInOrder}
use Rattle.pool_seat.specs.declared.mover.Mover.{Mover}
use Rattle.pool_seat.specs.declared.mover.Stop.{Stop}
use Rattle.pool_seat.specs.declared.mover.Stop.TheVariants.{Full, OutOfMemory}
use Rattle.pool_seat.specs.Movers.{IsStopInAll}
use Rattle.pool_seat.specs.Rehoming.{fault_of, IsFullAnswer}
use Rattle.pool_seat.proofs.Closing.{rehomed, nothing_moved, no_places, empty_placed}
use Rattle.pool_seat.proofs.home.rehome.Goals as goal

zero_there : (n i : ℕ) → slice_index (replicate n 0) i ≡ 0
zero_there zero i = refl
zero_there (suc n) zero = refl
zero_there (suc n) (suc i) = zero_there n i

not_zero : (a b : ℕ) → a ≡ 0 → a ≡ suc b → ⊥
not_zero a b e f = absurd (omega (arith, e, f))

pub all-answer-requires-clause-mover : goal.all-answer-requires-clause-mover
all-answer-requires-clause-mover c =
    let t = c.in-Ok-zeros.table.items in
    let z : t ≡ replicate c.words.result 0 = c.in-Ok-zeros.ensures in
    let n : length t ≡ c.words.result = ap length z ∙ length-replicate c.words.result 0 in
    let e = c.new.ensures.items in
    record {
      has = subst (HasMoved (known c.args.old) c.args.live.now c.in-Ok.to) (sym e) (nothing_moved (known c.args.old) c.args.live.now c.in-Ok.to c.in-Ok.ensures.empty);
      placed = empty_placed c.in-Ok.to c.in-Ok.ensures.layout.0 c.in-Ok.ensures.empty;
      inside = λ i s. let w = c.words.ensures.inside i s in subst (λ x. i.0 < x) (sym n) w;
      listed = λ i j s. absurd (not_zero (slice_index t i) j (ap (λ (ns : List ℕ). slice_index ns i) z ∙ zero_there c.words.result i) s);
      entered = λ i j s. absurd (subst (λ l. IsMoved l i.0 j.0) e s);
      trees = λ i j s. absurd (subst (λ l. IsMoved l i j) e s);
    }

pub returns-in-Ok-answer-clause-moved : goal.returns-in-Ok-answer-clause-moved
returns-in-Ok-answer-clause-moved c =
    let n = c.all-answer.new.self in
    let later = c.all-answer.ensures.later in
    let k = known c.args.old in
    let from : known n.from ≡ k = ap known_of later.from.log in
    let live : n.live.now ≡ c.args.live.now = ap (λ (b : Bor (List Index)). b.now) later.live in
    subst (IsRehomed k c.args.live.now n.to) (sym c.of.ensures) (rehomed k c.args.live.now n c.all-answer.ensures.mover from live c.in-Ok-answer.ensures.live)

-- the pool that was opened, as it is now
opened_now : (shards words : ℕ) (p q : Rows) → IsLayout p.view.layout × (p.view.layout.shards ≡ shards) × (p.view.layout.words ≡ words) → q.view.layout ≡ p.view.layout → ArePlaced q.view.layout q.view.log → IsOpened shards words q
opened_now shards words p q l e h = record {
  laid = subst IsLayout (sym e) l.0;
  placed = h;
  shards_are = ap (λ (z : Layout). z.shards) e ∙ l.1;
  words_are = ap (λ (z : Layout). z.words) e ∙ l.2;
}

-- what was added to nothing
from_nothing : (k : Known) (p q : Rows) (t u : Pairs) (sources : List Source) → known p ≡ [] → t ≡ [] → Adds k (places p) (olds t) q u sources → Adds k [] [] q u sources
from_nothing k p q t u sources e f a = subst (λ (xs : List ℕ). Adds k xs [] q u sources) (no_places p e) (subst (λ (t : Pairs). Adds k (places p) (olds t) q u sources) f a)

pub returns-in-Ok-answer-clause-ordered : goal.returns-in-Ok-answer-clause-ordered
returns-in-Ok-answer-clause-ordered c =
    let n = c.all-answer.new.self in
    let k = known c.args.old in
    let a = c.in-Ok-answer.ensures.moves in
    subst (IsInOrder k c.args.live.now n.to) (sym c.of.ensures) (record { listing = a.listing; listed = a.listed; adds = from_nothing k c.in-Ok.to n.to c.new.result.items n.moved.items a.listing c.in-Ok.ensures.empty c.new.ensures.items a.moves })

pub returns-in-Ok-answer-clause-opened : goal.returns-in-Ok-answer-clause-opened
returns-in-Ok-answer-clause-opened c =
    let a = c.all-answer.ensures in
    subst (λ s. IsOpened s c.args.words c.all-answer.new.self.to) c.shards.ensures.value (opened_now c.shards.result c.args.words c.in-Ok.to c.all-answer.new.self.to c.in-Ok.ensures.layout a.later.layout a.mover.placed)

-- why no more was moved
full_answer : (p old : Rows) (live : List Index) (words : ℕ) (m n : Mover) (e : Stop) → known m.to ≡ [] → m.moved.items ≡ [] → IsOpened p.view.layout.shards words n.to → HasMoved (known p) live n.to n.moved.items → IsStopInAll (known p) live m n e → IsFullAnswer p live words (fault_of e old)
full_answer p old live words m n OutOfMemory e t opened needed h = tt
full_answer p old live words m n (Full shard) e t opened needed h = record {
  rows = n.to;
  moved = n.moved.items;
  opened = opened;
  needed = needed;
  done = h.done;
  next = h.next;
  before = h.before;
  adds = from_nothing (known p) m.to n.to m.moved.items n.moved.items h.done e t h.at.moves;
  key = h.at.key;
  new = h.at.new;
  refused = h.at.refused;
}

pub returns-clause-full : goal.returns-clause-full
returns-clause-full c =
    let n = c.all-answer.new.self in
    let a = c.all-answer.ensures in
    let k = known c.args.old in
    let live = c.args.live.now in
    let opened = subst (λ s. IsOpened s c.args.words n.to) c.shards.ensures.value (opened_now c.shards.result c.args.words c.in-Ok.to n.to c.in-Ok.ensures.layout a.later.layout a.mover.placed) in
    let needed : HasMoved k live n.to n.moved.items = subst (λ x. HasMoved x live n.to n.moved.items) (ap known_of a.later.from.log) (subst (λ (y : Bor (List Index)). HasMoved (known n.from) y.now n.to n.moved.items) a.later.live a.mover.has) in
    subst (IsFullAnswer c.args.old live c.args.words) (sym c.fault_of.ensures) (full_answer c.args.old _ live c.args.words _ n _ c.in-Ok.ensures.empty c.new.ensures.items opened needed c.in-Err.ensures.stop)
