-- A command's text means the command whatever follows it, so what a reader takes in parts it may take whole.
use Rattle.std.proofs.Common.{◌≡◌, ℕ, List, [], ◌∷◌, ◌++◌, Result, Ok, refl, sym, ap, ◌∙◌, append_assoc}
use Rattle.std.proofs.lemmas.List.{append_cancel_right}
use Rattle.zw_base.specs.declared.limits.Limits.{Limits}
use Rattle.zw_base.specs.Limits.{Sizes}
use Rattle.script_read.specs.declared.command.Command.{Command}
use Rattle.script_read.specs.declared.command.Command.TheVariants as command
use Rattle.script_read.specs.declared.command.Refusal.{Refusal}
use Rattle.script_read.specs.declared.command.Request.{Request}
use Rattle.script_read.specs.declared.command.Request.TheVariants as request
use Rattle.script_read.specs.Answers.{◌>>=◌}
use Rattle.script_read.specs.Line.{line_at}
use Rattle.script_read.specs.Script.{content_at, completed, judged, next_of}
use Rattle.script_read.proofs.Lines.{line_found}
use Rattle.script_read.proofs.Contents.{content_found}
use Rattle.script_read.proofs.Shapes.{bind_ok, ok_parts, line_shape, content_shape}
use Rattle.script_read.proofs.Joined.{next_behind}

-- a text stands in front of what is left, and means the command whatever follows it
abbrev StandsFor : (List ℕ → Result (Command × List ℕ) Refusal) → List ℕ → Command → List ℕ → Type 0
StandsFor meaning bytes given rest = (text : List ℕ) × (bytes ≡ text ++ rest) × ((tail : List ℕ) → meaning (text ++ tail) ≡ Ok (given, tail))

file_stands : (path : List ℕ) (len : ℕ) (bytes content rest : List ℕ) (given : Command) (left : List ℕ) → content_at len bytes ≡ Ok (content, rest) →
    (command.File path content ≡ given) × (rest ≡ left) → StandsFor (completed (request.File path len)) bytes given left
file_stands path len bytes content rest given left found same =
    let shape = content_shape len bytes content rest found in (
      content ++ 10 ∷ [],
      rw (shape.0, same.1, append_assoc content (10 ∷ []) left) refl,
      λ tail. rw (append_assoc content (10 ∷ []) tail, content_found len content tail shape.1, same.0) refl,
    )

moved_stands : (asked : Request) (text : Command) (bytes : List ℕ) (given : Command) (left : List ℕ) → ((tail : List ℕ) → completed asked tail ≡ Ok (text, tail)) →
    (text ≡ given) × (bytes ≡ left) → StandsFor (completed asked) bytes given left
moved_stands asked text bytes given left means same = ([], same.1, λ tail. means tail ∙ ap (λ t. Ok (t, tail)) same.0)

completed_stands : (asked : Request) (bytes : List ℕ) (given : Command) (rest : List ℕ) → completed asked bytes ≡ Ok (given, rest) → StandsFor (completed asked) bytes given rest
completed_stands (request.File path len) bytes given rest h =
    let found = bind_ok (content_at len bytes) (λ found. Ok (command.File path found.0, found.1)) (given, rest) h in
    file_stands path len bytes found.0.0 found.0.1 given rest found.1 (ok_parts (command.File path found.0.0, found.0.1) (given, rest) _ _ refl refl found.2)
completed_stands (request.Drop path) bytes given rest h =
    moved_stands (request.Drop path) (command.Drop path) bytes given rest (λ tail. refl) (ok_parts (command.Drop path, bytes) (given, rest) _ _ refl refl h)
completed_stands request.Update bytes given rest h =
    moved_stands request.Update command.Update bytes given rest (λ tail. refl) (ok_parts (command.Update, bytes) (given, rest) _ _ refl refl h)

pub next_stands : (limits : Limits) (commands : ℕ) (files : Sizes) (bytes : List ℕ) (given : Command) (rest : List ℕ) → next_of limits commands files bytes ≡ Ok (given, rest) →
    StandsFor (next_of limits commands files) bytes given rest
next_stands limits commands files bytes given rest h =
    let line = bind_ok (line_at limits.line bytes) (λ found. judged limits commands files found.0 >>= λ asked. completed asked found.1) (given, rest) h in
    let asked = bind_ok (judged limits commands files line.0.0) (λ asked. completed asked line.0.1) (given, rest) line.2 in
    let shape = line_shape limits.line bytes line.0.0 line.0.1 line.1 in
    let behind = completed_stands asked.0 line.0.1 given rest asked.2 in (
      line.0.0 ++ 10 ∷ behind.0,
      shape.parted.whole ∙ ap (λ x. line.0.0 ++ 10 ∷ x) behind.1 ∙ sym (append_assoc line.0.0 (10 ∷ behind.0) rest),
      λ tail.
          let found : line_at limits.line (line.0.0 ++ 10 ∷ (behind.0 ++ tail)) ≡ Ok (line.0.0, behind.0 ++ tail) = line_found limits.line line.0.0 (behind.0 ++ tail) shape.parted.none shape.short in
          rw (append_assoc line.0.0 (10 ∷ behind.0) tail) (next_behind limits commands files _ line.0.0 (behind.0 ++ tail) asked.0 found asked.1 ∙ behind.2 tail),
    )

-- a command that stands whole in the front of a script is the script's
pub next_more : (limits : Limits) (commands : ℕ) (files : Sizes) (front more : List ℕ) (given : Command) (rest : List ℕ) → next_of limits commands files front ≡ Ok (given, rest) →
    next_of limits commands files (front ++ more) ≡ Ok (given, rest ++ more)
next_more limits commands files front more given rest h =
    let stands = next_stands limits commands files front given rest h in
    rw (stands.1, append_assoc stands.0 rest more) (stands.2 (rest ++ more))

-- a command of a script, behind which all of a rest is left, stands whole in the front before that rest
pub next_front : (limits : Limits) (commands : ℕ) (files : Sizes) (front more : List ℕ) (given : Command) (rest : List ℕ) → next_of limits commands files (front ++ more) ≡ Ok (given, rest ++ more) →
    next_of limits commands files front ≡ Ok (given, rest)
next_front limits commands files front more given rest h =
    let stands = next_stands limits commands files (front ++ more) given (rest ++ more) h in
    let is : front ≡ stands.0 ++ rest = append_cancel_right front (stands.0 ++ rest) more (stands.1 ∙ sym (append_assoc stands.0 rest more)) in
    rw is (stands.2 rest)
