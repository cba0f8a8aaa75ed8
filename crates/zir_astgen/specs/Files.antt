-- The core tree of a file: its declarations, containers and blocks, each with its trees, and its imports.
use Rattle.std.specs.Prelude.{ℕ, ◌&&◌, nat_eq, List, [], ◌∷◌, ◌++◌, codes, slice_get, Option, Some, None, if◌then◌else◌}
use Rattle.std.specs.List.{filter_map}
use Rattle.zig_tree.specs.declared.token.Token.{Token}
use Rattle.zig_tree.specs.declared.token.TokenKind.{TokenKind}
use Rattle.zig_tree.specs.declared.token.TokenKind.TheVariants as kind
use Rattle.zig_tree.specs.declared.grammar.Rule.{Rule}
use Rattle.zig_tree.specs.declared.grammar.Rule.TheVariants as rule
use Rattle.zig_tree.specs.declared.tree.Node.{Node}
use Rattle.zig_tree.specs.Kinds.{is_kind, is_rule}
use Rattle.zir_form.specs.Core.{Core}
use Rattle.zir_form.specs.Core as core
use Rattle.zir_form.specs.File.{CoreFile, Declaration, Container, Block, Import}
use Rattle.zir_scope.specs.Captures.{captures_of}
use Rattle.zir_scope.specs.Facts.{facts_of}
use Rattle.zir_scope.specs.Findings.{scoped, span_of}
use Rattle.zir_scope.specs.Syntax.{Syntax, nothing, word, node, row_at, rows_of}
use Rattle.zir_astgen.specs.Values.{string_value}
use Rattle.zir_astgen.specs.Calls.{calls_in}
use Rattle.zir_astgen.specs.declared.calls.BuiltinCall.{BuiltinCall}
use Rattle.zir_astgen.specs.declared.calls.BuiltinCall.TheVariants as call
use Rattle.zir_astgen.specs.declared.calls.Called.{Called}
use Rattle.zir_astgen.specs.Outline.{Entry, Where, contains_there, declares_there, entries, in_file, own_locals}
use Rattle.zir_astgen.specs.Parts.{begins_with, has_word, lead_of}
use Rattle.zir_astgen.specs.Site.{File, Site, bytes_of_name, captures_from, written_at}
use Rattle.zir_astgen.specs.Trees.{at_body, at_start, tree_at}

-- where a token begins in the text
unfoldable pub start_of : File → ℕ → ℕ
start_of f t = (span_of (slice_get f.tokens t)).start

-- what is known of a part that this row begins
abbrev pub site_of : File → Where → Core → ℕ → List ℕ → Site
site_of f w linkage lead locals = record {
  origin = start_of f lead;
  locals = locals;
  containers = w.containers;
  captured = captures_from w.container f.captures;
  around = w.around;
  linkage = linkage;
}

-- ---- linkage

-- the string that a row has, if it has one
abbrev pub library_by : File → Option ℕ → List ℕ
library_by f None = codes "env"
library_by f (Some t) = string_value (written_at f t)

unfoldable pub word_in : TokenKind → Syntax → Option ℕ
word_in wanted nothing = None
word_in wanted (word t k more) = if is_kind k wanted then Some t else word_in wanted more
word_in wanted (node r inside more) = word_in wanted more

-- `export`, or `extern` with the module that it names
unfoldable pub linkage_of : File → Syntax → Core
linkage_of f inside =
    if has_word kind.KeywordExport inside then core.exported
    else (if has_word kind.KeywordExtern inside then core.external (library_by f (word_in kind.Str inside)) else core.absent)

-- ---- declarations

-- what is declared, by the rule of the first node of a declaration
unfoldable pub content_rule : Syntax → Rule
content_rule nothing = rule.Root
content_rule (word t k more) = content_rule more
content_rule (node r inside more) = r

unfoldable pub content_of : Syntax → Syntax
content_of nothing = nothing
content_of (word t k more) = content_of more
content_of (node r inside more) = inside

-- the node of a rule in a row
unfoldable pub inside_of_rule : Rule → Syntax → Syntax
inside_of_rule wanted nothing = nothing
inside_of_rule wanted (word t k more) = inside_of_rule wanted more
inside_of_rule wanted (node r inside more) = if is_rule r wanted then inside else inside_of_rule wanted more

-- a declaration of a container: whether other files may use it, where its part begins, where its name stands,
-- and the trees of its head, where it has one, and of its whole text
abbrev pub declaration : File → Where → Syntax → Syntax → Option Core → Core → Declaration
declaration f w inside content head whole = record {
  container = w.container;
  token = w.owner;
  name = bytes_of_name f w.owner;
  is_pub = begins_with kind.KeywordPub inside;
  is_export = has_word kind.KeywordExport inside;
  start = start_of f (lead_of content);
  name_start = start_of f w.owner;
  containers = w.containers;
  head = head;
  whole = whole;
}

abbrev pub variable_declaration : File → Where → Syntax → Syntax → Declaration
variable_declaration f w inside content =
    declaration f w inside content None (tree_at f (site_of f w core.absent (lead_of content) (own_locals content)) at_start rule.Variable content)

abbrev pub function_by : File → Where → Syntax → Syntax → Core → Core → Declaration
function_by f w inside content fore body = declaration f w inside content (Some fore) (core.function fore body)

-- a function: a head, which numbers the parameters, and a body
abbrev pub function_declaration : File → Where → Site → Syntax → Syntax → Declaration
function_declaration f w s inside content =
    function_by f w inside content
    (tree_at f s at_start rule.Prototype (inside_of_rule rule.Prototype content))
    (tree_at f s at_body rule.Block (inside_of_rule rule.Block content))

-- a function without a body
abbrev pub imported_declaration : File → Where → Site → Syntax → Syntax → Declaration
imported_declaration f w s inside content = function_by f w inside content (tree_at f s at_start rule.Prototype content) core.absent

unfoldable pub declared_by : File → Where → Syntax → Syntax → Rule → List Declaration
declared_by f w inside content r =
    if is_rule r rule.Variable then variable_declaration f w inside content ∷ []
    else (if is_rule r rule.Function then function_declaration f w (site_of f w (linkage_of f inside) (lead_of content) (own_locals content)) inside content ∷ []
    else (if is_rule r rule.Prototype then imported_declaration f w (site_of f w (linkage_of f inside) (lead_of content) (own_locals content)) inside content ∷ []
    else []))

unfoldable pub declarations_of : File → List Entry → List Declaration
declarations_of f [] = []
declarations_of f (declares_there w inside ∷ more) = declared_by f w inside (content_of inside) (content_rule inside) ++ declarations_of f more
declarations_of f (contains_there w inside ∷ more) = declarations_of f more

-- ---- containers and blocks

-- a container, with the tree of its fields
abbrev pub container : File → Where → Syntax → Container
container f w inside = record {
  token = lead_of inside;
  start = start_of f (lead_of inside);
  fields = tree_at f (site_of f w core.absent (lead_of inside) (own_locals inside)) at_start rule.Container inside;
}

unfoldable pub containers_of : File → List Entry → List Container
containers_of f [] = []
containers_of f (declares_there w inside ∷ more) = containers_of f more
containers_of f (contains_there w inside ∷ more) = container f w inside ∷ containers_of f more

-- a block that is evaluated at comptime; those inside containers are never analysed
abbrev pub block : File → Where → Syntax → Syntax → Block
block f w inside content = record {
  token = w.owner;
  start = start_of f (lead_of content);
  word_start = start_of f w.owner;
  containers = w.containers;
  tree = tree_at f (site_of f w core.absent (lead_of content) (own_locals content)) at_start rule.Block content;
}

unfoldable pub block_by : File → Where → Syntax → List Block
block_by f w inside =
    if begins_with kind.KeywordComptime inside && nat_eq w.container 0 then block f w inside (content_of inside) ∷ [] else []

unfoldable pub blocks_of : File → List Entry → List Block
blocks_of f [] = []
blocks_of f (declares_there w inside ∷ more) = block_by f w inside ++ blocks_of f more
blocks_of f (contains_there w inside ∷ more) = blocks_of f more

-- ---- imports

-- the `@import` that a call is, with where it stands and the path that it names
abbrev pub import_by : File → ℕ → BuiltinCall → Option Import
import_by f t (call.Import string) = Some (record { start = start_of f t; path = string_value (written_at f string) })
import_by f t (call.Wrong code) = None
import_by f t call.Other = None

unfoldable pub import_at : File → Called → Option Import
import_at f c = import_by f c.token c.call

-- the `@import`s of a row
unfoldable pub imports_of : File → Syntax → List Import
imports_of f row = filter_map (import_at f) (calls_in f.text f.tokens row)

-- ---- the file

-- what is known of a file
abbrev pub file_of : List ℕ → List Token → List Node → ℕ → File
file_of text tokens nodes root = record {
  text = text;
  tokens = tokens;
  facts = facts_of text tokens;
  events = scoped text tokens nodes root;
  captures = captures_of (scoped text tokens nodes root);
}

abbrev pub core_by : File → Syntax → List Entry → CoreFile
core_by f inside parts = record {
  declarations = declarations_of f parts;
  containers = containers_of f parts;
  blocks = blocks_of f parts;
  imports = imports_of f inside;
}

-- the core tree of a file, by its root and what that holds
unfoldable pub core_of : File → Syntax → CoreFile
core_of f inside = core_by f inside (entries in_file inside)

unfoldable pub core_file : List ℕ → List Token → List Node → ℕ → CoreFile
core_file text tokens nodes root = core_of (file_of text tokens nodes root) (row_at (rows_of tokens nodes) root)
