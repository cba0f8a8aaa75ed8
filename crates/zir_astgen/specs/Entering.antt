-- What the tables of a file are to the definitions while it is read.
use Rattle.std.specs.Prelude.{List, ◌++◌, length}
use Rattle.zig_tree.specs.declared.grammar.Rule.{Rule}
use Rattle.zir_form.specs.Core.{Core}
use Rattle.zir_form.specs.Core as core
use Rattle.zir_form.specs.Lines.{trees_of}
use Rattle.zir_scope.specs.Syntax.{Syntax}
use Rattle.zir_astgen.specs.declared.linked.Linked.{Linked}
use Rattle.zir_astgen.specs.declared.linked.Linked.TheVariants as linked
use Rattle.zir_astgen.specs.declared.sheet.Tables.{Tables}
use Rattle.zir_astgen.specs.declared.source.Part.{Part}
use Rattle.zir_astgen.specs.declared.start.Start.{Start}
use Rattle.zir_astgen.specs.declared.start.Start.TheVariants as start
use Rattle.zir_astgen.specs.Outline.{Entry, Where, entries, entry_of, where_within}
use Rattle.zir_astgen.specs.Rows.{Filed, RowsBelow, filed_by}
use Rattle.zir_astgen.specs.Site.{Site}
use Rattle.zir_astgen.specs.Stages.{Around}
use Rattle.zir_astgen.specs.Trees.{at_body, at_start}
use Rattle.zir_astgen.specs.Writing.{linkage_of}

-- the parts so far
abbrev pub filed : Tables → Filed
filed t = filed_by (trees_of t.sheet.lines) t.rows.declarations.items t.rows.containers.items t.rows.blocks.items

-- their lines are there
abbrev pub Within : Tables → Type 0
Within t = RowsBelow (length (trees_of t.sheet.lines)) t.rows.declarations.items t.rows.containers.items t.rows.blocks.items

-- a part
abbrev pub part_site : Part → Site
part_site p = record { origin = p.origin; locals = p.locals.now; containers = p.containers.now; captured = p.captured.now; around = p.around.now; linkage = linkage_of p.linkage }

-- what lies around its start
abbrev pub around_of : Start → Around
around_of start.Plain = at_start
around_of start.Function = at_body

-- how a function is linked
abbrev pub linked_core : Linked → Core
linked_core linked.Within = core.absent
linked_core linked.Exported = core.exported
linked_core (linked.External library) = core.external library

-- the declarations and containers of a node
unfoldable pub node_entries : Where → Rule → Syntax → List Entry
node_entries w r inside = entry_of w r inside ++ entries (where_within w r inside) inside
