-- The calls of builtins in a file: which of them are wrong, and which name a file.
use Rattle.std.specs.Prelude.{ℕ, ◌+◌, Bool, true, false, nat_eq, List, [], ◌∷◌, ◌++◌, slice_get, slice_range, Option, Some, None, if◌then◌else◌}
use Rattle.std.specs.List.{filter_map}
use Rattle.zw_base.specs.declared.diag.DiagCode.TheVariants.{ImportNeedsString, WrongBuiltin}
use Rattle.zw_base.specs.declared.diag.Found.{Found}
use Rattle.zig_tree.specs.declared.token.Token.{Token}
use Rattle.zig_tree.specs.declared.token.TokenKind.{TokenKind}
use Rattle.zig_tree.specs.declared.token.TokenKind.TheVariants.{Str, Builtin as BuiltinName}
use Rattle.zig_tree.specs.declared.grammar.Rule.{Rule}
use Rattle.zig_tree.specs.declared.grammar.Rule.TheVariants.{Atom}
use Rattle.zig_tree.specs.declared.tree.Node.{Node}
use Rattle.zig_tree.specs.Kinds.{is_kind, is_rule}
use Rattle.zir_form.specs.declared.builtin.Builtin.{Builtin}
use Rattle.zir_form.specs.declared.builtin.Builtin.TheVariants as builtin
use Rattle.zir_form.specs.declared.builtin.BuiltinFn.{BuiltinFn}
use Rattle.zir_form.specs.Builtins.{builtin_fn}
use Rattle.zir_scope.specs.Findings.{found_at}
use Rattle.zir_scope.specs.Syntax.{Syntax, nothing, word, node, row_at, rows_of}
use Rattle.zir_astgen.specs.declared.calls.BuiltinCall.{BuiltinCall}
use Rattle.zir_astgen.specs.declared.calls.BuiltinCall.TheVariants as call
use Rattle.zir_astgen.specs.declared.calls.Called.{Called}

-- the bytes of the token with this number
abbrev pub bytes_of : List ℕ → Option Token → List ℕ
bytes_of text None = []
bytes_of text (Some t) = slice_range text t.span.start t.span.end

abbrev pub bytes_at : List ℕ → List Token → ℕ → List ℕ
bytes_at text tokens t = bytes_of text (slice_get tokens t)

-- ---- arguments

-- how many nodes stand in a row: the arguments of a call
unfoldable pub node_count : Syntax → ℕ
node_count nothing = 0
node_count (word t k more) = node_count more
node_count (node r inside more) = node_count more + 1

-- the token of a string on one line that is all that a row holds
abbrev pub string_alone : ℕ → TokenKind → Syntax → Option ℕ
string_alone t k nothing = if is_kind k Str then Some t else None
string_alone t k (word u m more) = None
string_alone t k (node r inside more) = None

unfoldable pub string_in : Syntax → Option ℕ
string_in nothing = None
string_in (word t k more) = string_alone t k more
string_in (node r inside more) = None

-- the string literal that the first node of a row is
unfoldable pub first_string : Syntax → Option ℕ
first_string nothing = None
first_string (word t k more) = first_string more
first_string (node r inside more) = if is_rule r Atom then string_in inside else None

-- ---- one call

-- `@import` takes one string literal on one line
abbrev pub import_call : Option ℕ → BuiltinCall
import_call None = call.Wrong ImportNeedsString
import_call (Some t) = call.Import t

abbrev pub is_import : Builtin → Bool
is_import builtin.Import = true
is_import _ = false

-- what a call is by its builtin and its arguments; their number is judged first
abbrev pub call_of : Option BuiltinFn → Syntax → BuiltinCall
call_of None arguments = call.Wrong WrongBuiltin
call_of (Some b) arguments =
    if nat_eq b.parameters (node_count arguments) then (if is_import b.builtin then import_call (first_string arguments) else call.Other)
    else call.Wrong WrongBuiltin

-- ---- the calls of a file

-- the call that an atom is
unfoldable pub atom_calls : List ℕ → List Token → Syntax → List Called
atom_calls text tokens nothing = []
atom_calls text tokens (word t k arguments) =
    if is_kind k BuiltinName then record { token = t; call = call_of (builtin_fn (bytes_at text tokens t)) arguments } ∷ [] else []
atom_calls text tokens (node r inside more) = []

abbrev pub calls_at : List ℕ → List Token → Rule → Syntax → List Called
calls_at text tokens r inside = if is_rule r Atom then atom_calls text tokens inside else []

-- the calls in a row, in the order of the text
unfoldable pub calls_in : List ℕ → List Token → Syntax → List Called
calls_in text tokens nothing = []
calls_in text tokens (word t k more) = calls_in text tokens more
calls_in text tokens (node r inside more) = calls_at text tokens r inside ++ calls_in text tokens inside ++ calls_in text tokens more

-- of a node
unfoldable pub node_calls : List ℕ → List Token → Rule → Syntax → List Called
node_calls text tokens r inside = calls_at text tokens r inside ++ calls_in text tokens inside

-- what is wrong with a call
abbrev pub fault_by : List Token → ℕ → BuiltinCall → Option Found
fault_by tokens t (call.Wrong code) = Some (found_at tokens code t)
fault_by tokens t (call.Import string) = None
fault_by tokens t call.Other = None

unfoldable pub call_fault : List Token → Called → Option Found
call_fault tokens c = fault_by tokens c.token c.call

-- what is wrong with the builtins of a file
unfoldable pub builtin_faults : List ℕ → List Token → List Node → ℕ → List Found
builtin_faults text tokens nodes root = filter_map (call_fault tokens) (calls_in text tokens (row_at (rows_of tokens nodes) root))
