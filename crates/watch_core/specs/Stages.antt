-- Where the stages of a file stop.
use Rattle.std.specs.Prelude.{◌≡◌, Some}
use Rattle.watch_core.specs.declared.front.Stop.{Stop}
use Rattle.watch_core.specs.declared.front.Stop.TheVariants.{Refused, OutOfMemory}
use Rattle.zir_form.specs.Front.{FileFront}
use Rattle.watch_core.specs.Front.{found_at, treeless}

-- the file has no tree, and this is its one diagnostic; want of memory says nothing
abbrev pub StopsAt : FileFront → Stop → Type 0
StopsAt front (Refused code at) = front ≡ treeless (Some (found_at code at))
StopsAt front OutOfMemory = Unit {0}
