use Rattle.std.proofs.Common.{◌≡◌, map, take}
use Rattle.watch_core.specs.Compile.{diag_of}
use Rattle.watch_core.proofs.placing.diags_of.Given as goal

-- the diagnostics so far
abbrev pub invariant-loop-f : goal.invariant-loop-f
invariant-loop-f l = l.diags.items ≡ map (diag_of l.path) (take l.f-index l.found)
