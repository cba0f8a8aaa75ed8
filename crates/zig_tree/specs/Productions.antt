-- The table of the code, read as the grammar's.
use Rattle.zig_tree.specs.declared.grammar.Production.{Production}
use Rattle.zig_tree.specs.Grammar.{Alternative}

-- an alternative, without where its parts lie in memory
abbrev pub alternative : Production → Alternative
alternative p = record { at = p.when; parts = p.parts.now }
