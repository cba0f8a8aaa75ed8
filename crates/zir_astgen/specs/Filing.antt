-- What a file's tables and the places of its parts are to the definitions.
use Rattle.std.specs.Prelude.{List, map}
use Rattle.zir_form.specs.File.{Import}
use Rattle.zir_form.specs.Tables.{import_of}
use Rattle.zir_form.specs.declared.table.ImportRow.{ImportRow}
use Rattle.zir_astgen.specs.declared.file.FileSource.{FileSource}
use Rattle.zir_astgen.specs.declared.file.Location.{Location}
use Rattle.zir_astgen.specs.Outline.{Where}
use Rattle.zir_astgen.specs.Site.{File}

-- a file
abbrev pub file_known : FileSource → File
file_known s = record { text = s.text.now; tokens = s.outline.now.tokens.now; facts = s.outline.now.facts.now; events = s.events.now; captures = s.captures.now }

-- where a part stands
abbrev pub where_of : Location → Where
where_of l = record { container = l.container; around = l.around.now; owner = l.owner; containers = l.containers.now }

-- the `@import`s of rows
abbrev pub imported : List ImportRow → List Import
imported rows = map import_of rows
