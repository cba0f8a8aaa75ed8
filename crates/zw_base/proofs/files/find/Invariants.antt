use Rattle.std.proofs.Common.{◌≡◌, drop}
use Rattle.zw_base.specs.Outside.{file_at}
use Rattle.zw_base.proofs.files.find.Given as goal

-- no file so far has the path
abbrev pub invariant-loop-held : goal.invariant-loop-held
invariant-loop-held l = file_at l.files l.path ≡ file_at (drop l.held-index l.files) l.path
