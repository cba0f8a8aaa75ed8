use Rattle.std.proofs.Common.{◌≡◌, ◌++◌, length}
use Rattle.std.specs.List.{filter_map}
use Rattle.zir_astgen.specs.Files.{import_at}
use Rattle.zir_astgen.specs.Filing.{file_known, imported}
use Rattle.zir_astgen.proofs.file.FileSource.imports.Given as goal

abbrev pub invariant-loop-rest : goal.invariant-loop-rest
invariant-loop-rest l = imported l.imports.items ++ filter_map (import_at (file_known l.self)) l.rest ≡ filter_map (import_at (file_known l.self)) l.calls

abbrev pub decreases-loop-rest : goal.decreases-loop-rest
decreases-loop-rest l = length l.rest
