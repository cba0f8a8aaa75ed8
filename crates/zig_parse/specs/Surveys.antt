-- The first pass, token by token.
use Rattle.std.specs.Prelude.{◌≡◌, ℕ, zero, suc, ◌+◌, Bool, ◌&&◌, List, [], ◌∷◌, map, slice_get, Option, Some, None, Result, Ok, Err, if◌then◌else◌}
use Rattle.zig_tree.specs.declared.token.Token.{Token}
use Rattle.zig_tree.specs.declared.token.TokenKind.{TokenKind}
use Rattle.zig_tree.specs.declared.token.TokenKind.TheVariants.{End, Identifier}
use Rattle.zig_tree.specs.Kinds.{is_kind}
use Rattle.zig_tree.specs.declared.grammar.Rule.TheVariants.{Root}
use Rattle.zig_tree.specs.declared.grammar.Part.TheVariants as part
use Rattle.zig_parse.specs.declared.choice.Look.{Look}
use Rattle.zig_parse.specs.declared.thread.Thread.{Thread}
use Rattle.zig_parse.specs.declared.fault.SyntaxFault.{SyntaxFault}
use Rattle.zig_parse.specs.declared.fault.SyntaxFault.TheVariants.{Unexpected, TooDeep, OutOfMemory}
use Rattle.zig_parse.specs.declared.survey.Verdict.{Verdict}
use Rattle.zig_parse.specs.declared.survey.Verdict.TheVariants as verdict
use Rattle.zig_parse.specs.declared.state.State.{State}
use Rattle.zig_parse.specs.Stack.{rest}
use Rattle.zig_parse.specs.Moves.{settled_all}
use Rattle.zig_parse.specs.Passes.{after_token, alone, any_shallow, any_waits, begun, finished, inside, is_closed, marked_alone, resumed_top, those_waiting, verdict_of}

-- the kind of a token, or that of the file's end
abbrev pub kind_of : Option Token → TokenKind
kind_of None = End
kind_of (Some t) = t.kind

-- the kinds of the token at a number and of the one after it
abbrev pub look_at : List Token → ℕ → Look
look_at tokens at = record { kind = kind_of (slice_get tokens at); next = kind_of (slice_get tokens (at + 1)) }

-- at a brace that begins a part, the threads that read the part, and those that wait for them
unfoldable pub entered : Look → List Thread → List Thread
entered look ready = if any_waits ready then inside look (those_waiting ready) else ready

unfoldable pub entered_waiting : List Thread → List (List Thread) → List (List Thread)
entered_waiting ready waiting = if any_waits ready then those_waiting ready ∷ waiting else waiting

-- after a brace that ends a part, the threads that waited for it, and those that still wait
unfoldable pub left : Look → List Thread → List (List Thread) → List Thread
left look live waiting = if is_closed look live then resumed_top (map finished live) waiting else live

unfoldable pub left_waiting : Look → List Thread → List (List Thread) → List (List Thread)
left_waiting look live waiting = if is_closed look live then rest waiting else waiting

-- the threads after a token, before a brace is left, and those that wait
unfoldable pub read_live : Look → ℕ → State → List Thread
read_live look at s = after_token [] (entered look (settled_all look at s.live))

unfoldable pub read_waiting : Look → ℕ → State → List (List Thread)
read_waiting look at s = entered_waiting (settled_all look at s.live) s.waiting

-- the threads after a token
unfoldable pub next_live : Look → ℕ → State → List Thread
next_live look at s = left look (read_live look at s) (read_waiting look at s)

unfoldable pub next_state : Look → ℕ → State → State
next_state look at s = record { waiting = left_waiting look (read_live look at s) (read_waiting look at s); live = alone (next_live look at s) }

-- An identifier is no deeper than the limit where one of the threads that read it reads it so, also one that goes
-- on as another does: what stands behind the identifier tells which do.
unfoldable pub is_spared : Look → ℕ → State → Bool
is_spared look at s = is_kind look.kind Identifier && any_shallow (entered look (settled_all look at s.live))

unfoldable pub next_verdict : Look → ℕ → State → Verdict
next_verdict look at s = verdict_of (is_spared look at s) (next_live look at s)

unfoldable pub next_marks : Look → ℕ → State → List Bool → List Bool
next_marks look at s marks = marked_alone (next_live look at s) marks

-- before the first token
unfoldable pub first_state : Look → State
first_state look = record { waiting = []; live = begun look (part.Rule Root) 0 ∷ [] }

-- so many tokens from this number on: the marks, or the refused token
abbrev pub judged : Verdict → Result (List Bool) SyntaxFault → TokenKind → ℕ → Result (List Bool) SyntaxFault
judged verdict.Fine more kind at = more
judged verdict.Unexpected more kind at = Err (Unexpected kind at)
judged verdict.TooDeep more kind at = Err (TooDeep at)

unfoldable pub surveyed : ℕ → ℕ → List Token → State → List Bool → Result (List Bool) SyntaxFault
surveyed zero at tokens s marks = Ok marks
surveyed (suc n) at tokens s marks =
    judged (next_verdict (look_at tokens at) at s)
    (surveyed n (at + 1) tokens (next_state (look_at tokens at) at s) (next_marks (look_at tokens at) at s marks))
    (look_at tokens at).kind at

-- an answer is that of a function on lists, unless memory ran out
abbrev pub Fails : {Y : Type 0} → SyntaxFault → Result Y SyntaxFault → Type 0
Fails OutOfMemory given = Unit {0}
Fails (Unexpected kind at) given = given ≡ Err (Unexpected kind at)
Fails (TooDeep at) given = given ≡ Err (TooDeep at)

abbrev pub Gives : {X Y : Type 0} → (X → Y) → Result X SyntaxFault → Result Y SyntaxFault → Type 0
Gives view (Ok x) given = given ≡ Ok (view x)
Gives view (Err e) given = Fails e given
