-- What a writer's file, part, lines and pieces are to the definitions.
use Rattle.std.specs.Prelude.{List}
use Rattle.zir_form.specs.Core.{Core}
use Rattle.zir_form.specs.Core as core
use Rattle.zir_form.specs.Lines.{trees_of}
use Rattle.zir_astgen.specs.declared.source.Linkage.{Linkage}
use Rattle.zir_astgen.specs.declared.source.Linkage.TheVariants as linkage
use Rattle.zir_astgen.specs.declared.writer.Writer.{Writer}
use Rattle.zir_astgen.specs.declared.piece.Piece.{Piece}
use Rattle.zir_astgen.specs.Parts.{Parts}
use Rattle.zir_astgen.specs.Pieces.{parts_of}
use Rattle.zir_astgen.specs.Site.{File, Site}

abbrev pub linkage_of : Linkage → Core
linkage_of linkage.Within = core.absent
linkage_of linkage.Exported = core.exported
linkage_of (linkage.External library) = core.external library.now

-- the file
abbrev pub file : Writer → File
file w = record { text = w.source.text.now; tokens = w.source.outline.now.tokens.now; facts = w.source.outline.now.facts.now; events = w.source.events.now; captures = w.source.captures.now }

-- the part
abbrev pub site : Writer → Site
site w = record { origin = w.source.part.now.origin; locals = w.source.part.now.locals.now; containers = w.source.part.now.containers.now; captured = w.source.part.now.captured.now; around = w.source.part.now.around.now; linkage = linkage_of w.source.part.now.linkage }

-- the trees of the lines so far
abbrev pub trees : Writer → List Core
trees w = trees_of w.lines

-- the parts that pieces stand for
abbrev pub parts : Writer → List Piece → Parts
parts w row = parts_of w.source.outline.now (trees w) row
