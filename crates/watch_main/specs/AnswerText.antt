-- Answers as they are written.
use Rattle.std.specs.Prelude.{◌≡◌, ℕ, ◌+◌, List, [], ◌∷◌, ◌++◌, length, codes, Option, None, Some}
use Rattle.std.specs.List.{concat, flat_map}
use Rattle.std.specs.Fmt.{decimal}
use Rattle.std.specs.String.{string_bytes}
use Rattle.zw_base.specs.DiagCode.{code_name, code_text}
use Rattle.zw_base.specs.declared.diag.DiagCode.{DiagCode}
use Rattle.zw_base.specs.declared.diag.DiagCode.TheVariants.{CompileError}
use Rattle.zw_base.specs.declared.status.Status.{Status}
use Rattle.zw_base.specs.declared.status.Status.TheVariants as status
use Rattle.diag_order.specs.declared.line.Line.{Line}
use Rattle.watch_core.specs.declared.session.Update.{Update}
use Rattle.watch_core.specs.declared.session.Update.TheVariants as update
use Rattle.watch_main.specs.declared.answer.Answer.{Answer}

-- what a diagnostic says beside its code
abbrev pub message : DiagCode → List ℕ → List ℕ
message CompileError text = text
message code text = code_text code

-- `PATH:LINE:COL: error: CODE `, which stands before the message
abbrev pub place_text : Line → List ℕ
place_text l =
    concat (l.path ∷ codes ":" ∷ decimal l.line ∷ codes ":" ∷ decimal l.col ∷ codes ": error: " ∷ code_name l.code ∷ codes " " ∷ [])

-- a diagnostic as it is printed
abbrev pub line_text : Line → List ℕ
line_text l = place_text l ++ message l.code l.text ++ codes "\n"

-- the first line of an answer
abbrev pub head_text : ℕ → List ℕ → ℕ → ℕ → ℕ → List ℕ
head_text number what count analysed reused =
    concat (codes "update " ∷ decimal number ∷ codes " " ∷ what ∷ codes " " ∷ decimal count ∷ codes " analysed " ∷ decimal analysed
    ∷ codes " reused " ∷ decimal reused ∷ codes "\n" ∷ [])

-- the answer of the update with this number
abbrev pub update_text : ℕ → Update → List ℕ
update_text number (update.Module bytes analysed reused) =
    head_text number (codes "module") (length bytes) analysed reused ++ bytes ++ codes "\n"
update_text number (update.Errors lines analysed reused) =
    head_text number (codes "errors") (length lines) analysed reused ++ flat_map line_text lines
update_text number update.Memory = concat (codes "update " ∷ decimal number ∷ codes " memory\n" ∷ [])

-- the answers of updates from this number on
abbrev pub texts_from : ℕ → List Update → List ℕ
texts_from number [] = []
texts_from number (answer ∷ answers) = update_text number answer ++ texts_from (number + 1) answers

-- how a run ends whose last update answered this
abbrev pub status_after : Update → Status
status_after (update.Module bytes analysed reused) = status.Module
status_after (update.Errors lines analysed reused) = status.Diagnostics
status_after update.Memory = status.Memory

abbrev pub text_of : Answer → List ℕ
text_of answer = string_bytes answer.head ++ answer.body.items

-- the text is that of the first update's answer, and there is none where the update found no memory
abbrev pub Says : Option Answer → Update → Type 0
Says None answer = answer ≡ update.Memory
Says (Some text) answer = (text_of text ≡ update_text 1 answer) × (text.status ≡ status_after answer)
