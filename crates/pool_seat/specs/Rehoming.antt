-- What the answers of rehoming say.
use Rattle.std.specs.Prelude.{ℕ, List, []}
use Rattle.type_form.specs.declared.index.Index.{Index}
use Rattle.type_form.specs.Known.{Known}
use Rattle.pool_shard.specs.Pairs.{Rows, known}
use Rattle.pool_seat.specs.Moves.{Pairs, IsNewKey, HasMoved, IsRefused, IsOpened, SameRows}
use Rattle.pool_seat.specs.Order.{Source, AllListedUpTo, Adds}
use Rattle.pool_seat.specs.declared.mover.Stop.{Stop}
use Rattle.pool_seat.specs.declared.mover.Stop.TheVariants as stop
use Rattle.pool_seat.specs.declared.home.RehomeFault.{RehomeFault}
use Rattle.pool_seat.specs.declared.home.RehomeFault.TheVariants.{Full, OutOfMemory}

-- the fault of a stop, with the rows that come back
abbrev pub fault_of : Stop → Rows → RehomeFault
fault_of (stop.Full s) p = Full s p
fault_of stop.OutOfMemory p = OutOfMemory p

-- the rows that come back are as they were
abbrev pub GivesBack : Rows → RehomeFault → Type 0
GivesBack p (Full s q) = SameRows p q
GivesBack p (OutOfMemory q) = SameRows p q

-- The rows that are reached don't fit: a pool of so many words that goes on from its opening with the
-- new rows of the first sources, in the order of the live indices, has a shard that doesn't take the
-- new key of the next source
pub record DontFit (k : Known) (live : List Index) (shards words shard : ℕ) : Type 0 where
  pub rows : Rows
  pub moved : Pairs
  pub opened : IsOpened shards words rows
  pub needed : HasMoved k live rows moved
  pub done : List Source
  pub next : Source
  pub before : AllListedUpTo k next live done
  pub adds : Adds k [] [] rows moved done
  pub key : List ℕ
  pub new : IsNewKey k (known rows) moved next.0 next.1 key
  pub refused : IsRefused rows key shard

-- the answer Full
abbrev pub IsFullAnswer : Rows → List Index → ℕ → RehomeFault → Type 0
IsFullAnswer p live words (Full s q) = DontFit (known p) live p.view.layout.shards words s
IsFullAnswer p live words (OutOfMemory q) = Unit {0}
