use Rattle.std.proofs.Common.{◌≡◌, ◌+◌, length, drop}
use Rattle.zw_base.specs.Limits.{others, total}
use Rattle.script_read.proofs.allow.tally_others.Given as goal

-- the tally so far, and what is left of the files
abbrev pub invariant-loop-held : goal.invariant-loop-held
invariant-loop-held l = record {
  files : l.tally.files + length (others l.path (drop l.held-index l.have)) ≡ length (others l.path l.have);
  bytes : l.tally.bytes + total (others l.path (drop l.held-index l.have)) ≡ total (others l.path l.have);
}
