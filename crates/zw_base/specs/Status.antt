-- The codes with which the program ends.
use Rattle.std.specs.Prelude.{ℕ}
use Rattle.zw_base.specs.declared.status.Status.{Status}
use Rattle.zw_base.specs.declared.status.Status.TheVariants.{Module, Diagnostics, Usage, BadScript, ReadFault, FileFault, NoFile, WriteFault, Memory, Limit}

abbrev pub status_code : Status → ℕ
status_code Module = 0
status_code Diagnostics = 1
status_code Usage = 2
status_code (BadScript line reason) = 3
status_code ReadFault = 4
status_code FileFault = 5
status_code (NoFile path) = 6
status_code WriteFault = 7
status_code Memory = 8
status_code (Limit which number) = 9
