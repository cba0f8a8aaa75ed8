-- What is made of a file's text before any unit is analysed.
use Rattle.std.specs.Prelude.{ℕ, ◌-◌, List, [], ◌∷◌, ◌++◌, length, slice_get, Option, None, Some, option_to_list, Result, Ok, Err}
use Rattle.zw_base.specs.declared.diag.DiagCode.{DiagCode}
use Rattle.zw_base.specs.declared.diag.DiagCode.TheVariants as code
use Rattle.zw_base.specs.declared.diag.Found.{Found}
use Rattle.zig_tree.specs.declared.token.Token.{Token}
use Rattle.zig_tree.specs.declared.tree.Node.{Node}
use Rattle.zig_token.specs.declared.fault.LexFault.{LexFault}
use Rattle.zig_token.specs.declared.fault.LexFault.TheVariants.{BadByte, BadEscape, OpenString, BadNumber, OutOfMemory}
use Rattle.zig_token.specs.Scan.{tokens_of}
use Rattle.zig_parse.specs.declared.fault.SyntaxFault.{SyntaxFault}
use Rattle.zig_parse.specs.declared.fault.SyntaxFault.TheVariants as syntax
use Rattle.zig_parse.specs.Growth.{parse_of}
use Rattle.zir_scope.specs.Findings.{scope_faults}
use Rattle.zir_astgen.specs.Calls.{builtin_faults}
use Rattle.zir_astgen.specs.Files.{core_file}
use Rattle.zir_form.specs.Front.{FileFront}
use Rattle.built_forms.specs.Unbuilt.{unbuilt}

-- a diagnostic at a byte
abbrev pub found_at : DiagCode → ℕ → Found
found_at code at = record { code = code; span = record { start = at; end = at }; text = [] }

-- what a text without tokens shows first; want of memory is no fault of a text
abbrev pub lexical : LexFault → Option Found
lexical (BadByte at) = Some (found_at code.BadByte at)
lexical (BadEscape at) = Some (found_at code.BadEscape at)
lexical (OpenString at) = Some (found_at code.OpenString at)
lexical (BadNumber at) = Some (found_at code.BadNumber at)
lexical OutOfMemory = None

abbrev pub start_of_some : Option Token → ℕ
start_of_some None = 0
start_of_some (Some token) = token.span.start

-- where the token with this number begins
abbrev pub start_of : List Token → ℕ → ℕ
start_of tokens n = start_of_some (slice_get tokens n)

-- the token that is refused, where tokens are no sentence
abbrev pub syntactic : List Token → SyntaxFault → Option Found
syntactic tokens (syntax.Unexpected kind n) = Some (found_at code.UnexpectedToken (start_of tokens n))
syntactic tokens (syntax.TooDeep n) = Some (found_at code.TooDeep (start_of tokens n))
syntactic tokens syntax.OutOfMemory = None

-- a text without a tree has one diagnostic
abbrev pub treeless : Option Found → FileFront
treeless found = record { found = option_to_list found; core = None }

-- the first form that is not built is shown at its first token
abbrev pub form_faults : List Token → Option ℕ → List Found
form_faults tokens None = []
form_faults tokens (Some n) = found_at code.NotBuilt (start_of tokens n) ∷ []

abbrev pub faults_or : List Found → List Found → List Found
faults_or [] others = others
faults_or (f ∷ fs) others = f ∷ fs

-- A text with a tree has the diagnostics of its names and then those of its builtins, or else that of its first form
-- that is not built; the root of a tree is its last node.
abbrev pub with_tree : List ℕ → List Token → List Node → ℕ → FileFront
with_tree text tokens nodes root = record {
  found =
      faults_or (scope_faults text tokens nodes root ++ builtin_faults text tokens nodes root)
      (form_faults tokens (unbuilt text tokens nodes root));
  core = Some (core_file text tokens nodes root);
}

abbrev pub front_of_nodes : List ℕ → List Token → Result (List Node) SyntaxFault → FileFront
front_of_nodes text tokens (Ok nodes) = with_tree text tokens nodes (length nodes - 1)
front_of_nodes text tokens (Err fault) = treeless (syntactic tokens fault)

abbrev pub front_of_tokens : List ℕ → Result (List Token) LexFault → FileFront
front_of_tokens text (Ok tokens) = front_of_nodes text tokens (parse_of tokens)
front_of_tokens text (Err fault) = treeless (lexical fault)

-- The front of a file of the given text.
unfoldable pub front_of : List ℕ → FileFront
front_of text = front_of_tokens text (tokens_of text)
