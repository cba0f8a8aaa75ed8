use Rattle.std.proofs.Common.{refl, sym}
use Rattle.script_read.proofs.SizeLemmas.{allowed_file, allowed_drop, allowed_update}
use Rattle.script_read.proofs.allow.allow.Goals as goal

pub returns-in_ok-allow_command-in-File : goal.returns-in_ok-allow_command-in-File
returns-in_ok-allow_command-in-File c = rw c.in-File.is (allowed_file _ _ _ _ _ _ _ c.requires.within c.in_ok-allow_command-in-File.ensures refl (rw c.as_slice.ensures at c.allow_file.ensures))

pub returns-else-not-is_held : goal.returns-else-not-is_held
returns-else-not-is_held c = rw c.in-Drop.is (allowed_drop _ _ _ _ _ c.requires.within (sym (rw c.as_slice-in-Drop.ensures at c.if-not-is_held.ensures)) c.allow_command-in-Drop.ensures)

pub returns-in-Update : goal.returns-in-Update
returns-in-Update c = rw c.in-Update.is (allowed_update _ _ _ _ c.requires.within c.allow_command-in-Update.ensures)
