use Rattle.std.proofs.Common.{◌*◌, ◌<◌, false, drop, length}
use Rattle.type_form.specs.Known.{IsInjective}
use Rattle.type_form.specs.Means.{DenotesBytes}
use Rattle.type_form.specs.Pool.{Interns}
use Rattle.type_keys.proofs.lists.intern_bytes.Given as goal

-- what is left of the list behind the chunks to come is interned
abbrev pub invariant-loop-chunks : goal.invariant-loop-chunks
invariant-loop-chunks g l =
    let known = g.I.Keys.known in
    record {
      interns : Interns known g.I.Keys.home g.I.Keys.fulls l.fn.p l.p false;
      agrees : IsInjective (known l.p);
      bytes : DenotesBytes (known l.p) l.list (drop (l.chunks * 60) l.bytes);
      room : 0 < l.chunks → l.chunks * 60 < length l.bytes;
    }

abbrev pub decreases-loop-chunks : goal.decreases-loop-chunks
decreases-loop-chunks g l = l.chunks
