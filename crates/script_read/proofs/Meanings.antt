-- The function on bytes and their meaning are one, and so a reader's answer is what the bytes mean.
use Rattle.std.proofs.Common.{◌≡◌, ℕ, ◌+◌, Bool, true, false, ◌⊎◌, inl, inr, List, [], ◌∷◌, ◌++◌, length, Option, None, Some, IfSome, IfNone, Result, Ok, Err, refl, sym, ◌∙◌, ap, arith, append_assoc}
use Rattle.std.proofs.lemmas.List.Folds.{list_any-append}
use Rattle.std.specs.Fmt.{decimal}
use Rattle.zw_base.specs.declared.reason.Reason.TheVariants.{CutShort}
use Rattle.script_read.specs.declared.command.Command.{Command}
use Rattle.script_read.specs.declared.command.Command.TheVariants as command
use Rattle.zw_base.specs.declared.limits.Limits.{Limits}
use Rattle.script_read.specs.declared.command.Next.{Next}
use Rattle.script_read.specs.declared.command.Next.TheVariants as next
use Rattle.script_read.specs.declared.command.Refusal.{Refusal}
use Rattle.script_read.specs.declared.command.Refusal.TheVariants as refusal
use Rattle.script_read.specs.declared.command.Request.{Request}
use Rattle.script_read.specs.declared.command.Request.TheVariants as request
use Rattle.script_read.specs.Answers.{◌>>=◌}
use Rattle.script_read.specs.Line.{is_line_end, HasNoEnd, IsParted, line_at, line_ends}
use Rattle.script_read.specs.ReaderState.{ReaderState}
use Rattle.script_read.specs.Reads.{Answers, lines_of}
use Rattle.script_read.specs.Script.{completed, judged, next_of}
use Rattle.zw_base.specs.Limits.{Sizes}
use Rattle.script_read.specs.Sizes.{allowed}
use Rattle.script_read.specs.Words.{request_of}
use Rattle.script_read.specs.Grammar.{line_for, IsProper, Asks, request_for, behind_line, IsSentence}
use Rattle.script_read.specs.Causes.{Cause, LongLine, CutLine, NoCommand, WrongWords, WrongPath, WrongLength, FileAbsent, Over, CutContent, UnendedContent, order, refused_with, Stands, NoneStands, IsFirst}
use Rattle.script_read.specs.ScriptLaw.{Meaning, Means, HasCause, IsTold, IsExact}
use Rattle.script_read.proofs.Contents.{content_found}
use Rattle.script_read.proofs.Fields.{path_has_no_end, numeral_has_no_end}
use Rattle.script_read.proofs.Firsts.{Stage, stage_then, none_first, one_first}
use Rattle.script_read.proofs.Requests.{word_causes, asks_once}
use Rattle.script_read.proofs.Shapes.{no_line_ends, line_ends_behind}
use Rattle.script_read.proofs.Stages.{LineStage, line_causes, size_causes, content_causes, parted_once, line_first, words_stage, sizes_stage, contents_stage, Completes}

-- the bytes are a sentence of a command, and then the rest
abbrev Spells : List ℕ → Command × List ℕ → Type 0
Spells bytes found = (text : List ℕ) × IsSentence found.0 text × (bytes ≡ text ++ found.1)

-- ---- from the function to the meaning

refit : {A : Type 0} (stands : Cause → Type 0) (causes : List Cause) (fits other : A → Type 0) (r : Result A Refusal) → ((x : A) → fits x → other x) → Stage stands causes fits r → Stage stands causes other r
refit stands causes fits other (Ok x) more h = (more x h.0, h.1)
refit stands causes fits other (Err e) more h = h

spelled : (bytes line rest : List ℕ) (asked : Request) (found : Command × List ℕ) → IsParted bytes line rest → Asks line asked → Completes asked rest found.0 found.1 → Spells bytes found
spelled bytes line rest asked found parted asks done = (
  line_for (request_for found.0) ++ 10 ∷ behind_line found.0,
  record { text_is = refl; proper = rw done.asked_is at asks.proper },
  parted.whole ∙ rw (asks.line_is, done.bytes_are, done.asked_is, append_assoc (line_for (request_for found.0)) (10 ∷ behind_line found.0) found.1) refl,
)

judged_stage : (limits : Limits) (commands : ℕ) (files : Sizes) (bytes line rest : List ℕ) → IsParted bytes line rest →
    Stage (Stands limits commands files bytes) (word_causes ++ size_causes) (Asks line) (judged limits commands files line)
judged_stage limits commands files bytes line rest parted =
    stage_then (Stands limits commands files bytes) word_causes size_causes (Asks line) (Asks line) (request_of line) (λ asked. allowed limits commands files asked >>= λ _. Ok asked)
    (words_stage limits commands files bytes line rest parted)
    (λ asked asks. stage_then (Stands limits commands files bytes) size_causes [] (λ x. Unit {0}) (Asks line) (allowed limits commands files asked) (λ _. Ok asked)
    (sizes_stage limits commands files bytes line rest asked parted asks) (λ x done. (asks, tt)))

behind_stage : (limits : Limits) (commands : ℕ) (files : Sizes) (bytes line rest : List ℕ) → IsParted bytes line rest →
    Stage (Stands limits commands files bytes) ((word_causes ++ size_causes) ++ content_causes) (Spells bytes) (judged limits commands files line >>= λ asked. completed asked rest)
behind_stage limits commands files bytes line rest parted =
    stage_then (Stands limits commands files bytes) (word_causes ++ size_causes) content_causes (Asks line) (Spells bytes) (judged limits commands files line) (λ asked. completed asked rest)
    (judged_stage limits commands files bytes line rest parted)
    (λ asked asks. refit (Stands limits commands files bytes) content_causes (λ found. Completes asked rest found.0 found.1) (Spells bytes) (completed asked rest)
    (λ found done. spelled bytes line rest asked found parted asks done) (contents_stage limits commands files bytes line rest asked parted asks))

abbrev AtEnd : Limits → ℕ → Sizes → List ℕ → Meaning → Type 0
AtEnd limits commands files bytes r = ((r ≡ Err refusal.End) × (bytes ≡ [])) ⊎ Stage (Stands limits commands files bytes) order (Spells bytes) r

next_by : (limits : Limits) (commands : ℕ) (files : Sizes) (bytes : List ℕ) (r : Result (List ℕ × List ℕ) Refusal) → LineStage limits commands files bytes r →
    AtEnd limits commands files bytes (r >>= λ found. judged limits commands files found.0 >>= λ asked. completed asked found.1)
next_by limits commands files bytes r (inl (e, none)) = inl (rw e refl, none)
next_by limits commands files bytes r (inr stage) =
    inr (stage_then (Stands limits commands files bytes) line_causes ((word_causes ++ size_causes) ++ content_causes) (λ found. IsParted bytes found.0 found.1) (Spells bytes) r (λ found. judged limits commands files found.0 >>= λ asked. completed asked found.1)
    stage (λ found parted. behind_stage limits commands files bytes found.0 found.1 parted))

-- a refusal that has a cause in the bytes
abbrev has_cause : Refusal → Bool
has_cause refusal.End = false
has_cause (refusal.Bad reason) = true
has_cause (refusal.Over which) = true
has_cause refusal.ReadFault = false
has_cause refusal.OutOfMemory = false

causes_refuse : (cause : Cause) → has_cause (refused_with cause) ≡ true
causes_refuse LongLine = refl
causes_refuse CutLine = refl
causes_refuse NoCommand = refl
causes_refuse WrongWords = refl
causes_refuse WrongPath = refl
causes_refuse WrongLength = refl
causes_refuse FileAbsent = refl
causes_refuse (Over which) = refl
causes_refuse CutContent = refl
causes_refuse UnendedContent = refl

never : (cause : Cause) (e : Refusal) → refused_with cause ≡ e → has_cause e ≡ false → ⊥
never cause e is none = let some : has_cause e ≡ true = rw is at (causes_refuse cause) in cc

meaning_from : (limits : Limits) (commands : ℕ) (files : Sizes) (bytes : List ℕ) (r : Meaning) → AtEnd limits commands files bytes r → Means limits commands files bytes r
meaning_from limits commands files bytes (Ok found) (inl (e, none)) = cc
meaning_from limits commands files bytes (Ok found) (inr ((text, sentence, is), none)) = (text, sentence, is, none)
meaning_from limits commands files bytes (Err refusal.End) (inl (e, none)) = none
meaning_from limits commands files bytes (Err refusal.End) (inr (cause, is, first)) = absurd (never cause refusal.End is refl)
meaning_from limits commands files bytes (Err (refusal.Bad reason)) (inl (e, none)) = cc
meaning_from limits commands files bytes (Err (refusal.Bad reason)) (inr h) = h
meaning_from limits commands files bytes (Err (refusal.Over which)) (inl (e, none)) = cc
meaning_from limits commands files bytes (Err (refusal.Over which)) (inr h) = h
meaning_from limits commands files bytes (Err refusal.ReadFault) (inl (e, none)) = cc
meaning_from limits commands files bytes (Err refusal.ReadFault) (inr (cause, is, first)) = never cause refusal.ReadFault is refl
meaning_from limits commands files bytes (Err refusal.OutOfMemory) (inl (e, none)) = cc
meaning_from limits commands files bytes (Err refusal.OutOfMemory) (inr (cause, is, first)) = never cause refusal.OutOfMemory is refl

-- what the function gives is what the bytes mean
pub computed_means : (limits : Limits) (commands : ℕ) (files : Sizes) (bytes : List ℕ) → Means limits commands files bytes (next_of limits commands files bytes)
computed_means limits commands files bytes =
    meaning_from limits commands files bytes (next_of limits commands files bytes)
    (next_by limits commands files bytes (line_at limits.line bytes) (line_first limits commands files bytes))

-- ---- bytes mean one thing

neither_end : (xs ys : List ℕ) → HasNoEnd xs → HasNoEnd ys → HasNoEnd (xs ++ ys)
neither_end xs ys e f = list_any-append is_line_end xs ys ∙ rw (e, f) refl

line_has_no_end : (asked : Request) → IsProper asked → HasNoEnd (line_for asked)
line_has_no_end (request.File path len) h =
    neither_end path (32 ∷ decimal len) (path_has_no_end path h.0) (numeral_has_no_end len h.1)
line_has_no_end (request.Drop path) h = path_has_no_end path h
line_has_no_end request.Update h = refl

sentence_parts : (bytes text : List ℕ) (given : Command) (rest : List ℕ) → IsSentence given text → bytes ≡ text ++ rest → IsParted bytes (line_for (request_for given)) (behind_line given ++ rest)
sentence_parts bytes text given rest h is = record {
  whole = is ∙ rw (h.text_is, append_assoc (line_for (request_for given)) (10 ∷ behind_line given) rest) refl;
  none = line_has_no_end (request_for given) h.proper;
}

completed_again : (given : Command) (rest : List ℕ) → completed (request_for given) (behind_line given ++ rest) ≡ Ok (given, rest)
completed_again (command.File path bytes) rest = rw (append_assoc bytes (10 ∷ []) rest, content_found (length bytes) bytes rest refl) refl
completed_again (command.Drop path) rest = refl
completed_again command.Update rest = refl

-- a list of bytes is a sentence and a rest in one way
one_sentence : (bytes : List ℕ) (x y : Command × List ℕ) → Spells bytes x → Spells bytes y → x ≡ y
one_sentence bytes x y (s, h, e) (t, g, f) =
    let p = sentence_parts bytes s x.0 x.1 h e in
    let q = sentence_parts bytes t y.0 y.1 g f in
    let same = parted_once bytes _ _ _ _ p q in
    let asked : request_for x.0 ≡ request_for y.0 =
    asks_once (line_for (request_for x.0)) (request_for x.0) (request_for y.0) (record { line_is = refl; proper = h.proper }) (record { line_is = same.0; proper = g.proper }) in
    let d : completed (request_for x.0) (behind_line x.0 ++ x.1) ≡ Ok y = rw (asked, same.1) (completed_again y.0 y.1) in
    let c : completed (request_for x.0) (behind_line x.0 ++ x.1) ≡ Ok x = completed_again x.0 x.1 in
    cc

no_line : (line rest : List ℕ) → IsParted [] line rest → ⊥
no_line [] rest h = let e : [] ≡ 10 ∷ rest = h.whole in cc
no_line (b ∷ line) rest h = let e : [] ≡ b ∷ (line ++ 10 ∷ rest) = h.whole in cc

no_front : (most : ℕ) (front rest : List ℕ) → [] ≡ front ++ rest → length front ≡ most + 1 → ⊥
no_front most [] rest e len = omega (arith, len)
no_front most (b ∷ front) rest e len = cc

none_at_end : (limits : Limits) (commands : ℕ) (files : Sizes) (cause : Cause) → Stands limits commands files [] cause → ⊥
none_at_end limits commands files LongLine h = no_front limits.line h.0 h.1 h.2 h.3
none_at_end limits commands files CutLine h = h.0 refl
none_at_end limits commands files NoCommand h = no_line h.0 h.1 h.2
none_at_end limits commands files WrongWords h = no_line h.0 h.1 h.2
none_at_end limits commands files WrongPath h = no_line h.0 h.1 h.2
none_at_end limits commands files WrongLength h = no_line h.0 h.1 h.2
none_at_end limits commands files FileAbsent h = no_line h.0 h.1 h.2
none_at_end limits commands files (Over which) h = no_line h.0 h.1 h.2
none_at_end limits commands files CutContent h = no_line h.0 h.1 h.2
none_at_end limits commands files UnendedContent h = no_line h.0 h.1 h.2

-- the three kinds of meaning
data Kind (limits : Limits) (commands : ℕ) (files : Sizes) (bytes : List ℕ) (r : Meaning) : Type 0 where
  command_there : (found : Command × List ℕ) → r ≡ Ok found → Spells bytes found → NoneStands (Stands limits commands files bytes) order → Kind limits commands files bytes r
  end_there : r ≡ Err refusal.End → bytes ≡ [] → Kind limits commands files bytes r
  cause_there : (cause : Cause) → r ≡ Err (refused_with cause) → IsFirst (Stands limits commands files bytes) order cause → Kind limits commands files bytes r

kind_of : (limits : Limits) (commands : ℕ) (files : Sizes) (bytes : List ℕ) (r : Meaning) → Means limits commands files bytes r → Kind limits commands files bytes r
kind_of limits commands files bytes (Ok found) (text, sentence, is, none) = command_there found refl (text, sentence, is) none
kind_of limits commands files bytes (Err refusal.End) none = end_there refl none
kind_of limits commands files bytes (Err (refusal.Bad reason)) (cause, is, first) = cause_there cause (ap (λ e. Err e) (sym is)) first
kind_of limits commands files bytes (Err (refusal.Over which)) (cause, is, first) = cause_there cause (ap (λ e. Err e) (sym is)) first
kind_of limits commands files bytes (Err refusal.ReadFault) h = absurd h
kind_of limits commands files bytes (Err refusal.OutOfMemory) h = absurd h

no_command_at_end : (bytes : List ℕ) (found : Command × List ℕ) → Spells bytes found → bytes ≡ [] → ⊥
no_command_at_end bytes found (text, h, is) none = no_line _ _ (rw none at (sentence_parts bytes text found.0 found.1 h is))

no_cause_at_end : (limits : Limits) (commands : ℕ) (files : Sizes) (bytes : List ℕ) (cause : Cause) → IsFirst (Stands limits commands files bytes) order cause → bytes ≡ [] → ⊥
no_cause_at_end limits commands files bytes cause first none = none_at_end limits commands files cause (rw none at first.here)

one_kind : (limits : Limits) (commands : ℕ) (files : Sizes) (bytes : List ℕ) (r s : Meaning) → Kind limits commands files bytes r → Kind limits commands files bytes s → r ≡ s
one_kind limits commands files bytes r s (command_there x e spells none) (command_there y f spells' none') = e ∙ (ap (λ z. Ok z) (one_sentence bytes x y spells spells') ∙ sym f)
one_kind limits commands files bytes r s (command_there x e spells none) (end_there f at_end) = absurd (no_command_at_end bytes x spells at_end)
one_kind limits commands files bytes r s (command_there x e spells none) (cause_there c f first) = absurd (none_first _ order c none first)
one_kind limits commands files bytes r s (end_there e at_end) (command_there y f spells' none') = absurd (no_command_at_end bytes y spells' at_end)
one_kind limits commands files bytes r s (end_there e at_end) (end_there f at_end') = e ∙ sym f
one_kind limits commands files bytes r s (end_there e at_end) (cause_there c f first) = absurd (no_cause_at_end limits commands files bytes c first at_end)
one_kind limits commands files bytes r s (cause_there c e first) (command_there y f spells' none') = absurd (none_first _ order c none' first)
one_kind limits commands files bytes r s (cause_there c e first) (end_there f at_end') = absurd (no_cause_at_end limits commands files bytes c first at_end')
one_kind limits commands files bytes r s (cause_there c e first) (cause_there d f first') = e ∙ (ap (λ z. Err (refused_with z)) (one_first _ order c d first first') ∙ sym f)

pub one_meaning : (limits : Limits) (commands : ℕ) (files : Sizes) (bytes : List ℕ) (r s : Meaning) → Means limits commands files bytes r → Means limits commands files bytes s → r ≡ s
one_meaning limits commands files bytes r s h g = one_kind limits commands files bytes r s (kind_of limits commands files bytes r h) (kind_of limits commands files bytes s g)

-- what the bytes mean is what the function gives
pub means_computed : (limits : Limits) (commands : ℕ) (files : Sizes) (bytes : List ℕ) (r : Meaning) → Means limits commands files bytes r → next_of limits commands files bytes ≡ r
means_computed limits commands files bytes r h = one_meaning limits commands files bytes _ r (computed_means limits commands files bytes) h

pub computed_is_meant : (limits : Limits) (commands : ℕ) (files : Sizes) (bytes : List ℕ) (r : Meaning) → next_of limits commands files bytes ≡ r → Means limits commands files bytes r
computed_is_meant limits commands files bytes r e = rw e at (computed_means limits commands files bytes)

-- ---- the lines of a sentence

behind_ends : (given : Command) → line_ends (behind_line given) + 1 ≡ lines_of given
behind_ends (command.File path bytes) = omega (arith, line_ends_behind bytes [])
behind_ends (command.Drop path) = refl
behind_ends command.Update = refl

-- a command's text has as many LF bytes as the reader's line number grows by
pub sentence_ends : (given : Command) (text : List ℕ) → IsSentence given text → line_ends text ≡ lines_of given
sentence_ends given text h =
    let plain : line_ends (line_for (request_for given)) ≡ 0 = no_line_ends (line_for (request_for given)) (line_has_no_end (request_for given) h.proper) in
    rw h.text_is (omega (arith, plain, behind_ends given, line_ends_behind (line_for (request_for given)) (behind_line given)))

-- ---- a reader's answer

cause_at : (reader : ReaderState) (files : Sizes) (bytes : List ℕ) (left : Option (List ℕ)) (answer : Next) → Answers reader files bytes left answer → HasCause reader files bytes left answer
cause_at reader files bytes left (next.Command given) (rest, is, e, ends) = (rest, is, computed_is_meant reader.limits reader.commands files bytes _ e)
cause_at reader files bytes left next.End e = computed_is_meant reader.limits reader.commands files bytes (Err refusal.End) e
cause_at reader files bytes left (next.BadScript line reason) (at, e) = (at, computed_is_meant reader.limits reader.commands files bytes (Err (refusal.Bad reason)) e)
cause_at reader files bytes left (next.Limit which number) (is, e) = (is, computed_is_meant reader.limits reader.commands files bytes (Err (refusal.Over which)) e)
cause_at reader files bytes left next.ReadFault (taken, rest, is, whole, inl e) = (taken, rest, is, whole, inl (computed_is_meant reader.limits reader.commands files taken (Err refusal.End) e))
cause_at reader files bytes left next.ReadFault (taken, rest, is, whole, inr e) = (taken, rest, is, whole, inr (computed_is_meant reader.limits reader.commands files taken (Err (refusal.Bad CutShort)) e))
cause_at reader files bytes left next.OutOfMemory h = tt

pub answer_has_cause : (reader : ReaderState) (stopped : Option Refusal) (files : Sizes) (old new : Option (List ℕ)) (answer : Next) →
    IfNone stopped (IfSome old (λ bytes. Answers reader files bytes new answer)) → IfNone stopped (IfSome old (λ bytes. HasCause reader files bytes new answer))
answer_has_cause reader None files None new answer h = tt
answer_has_cause reader None files (Some bytes) new answer h = cause_at reader files bytes new answer h
answer_has_cause reader (Some refusal) files old new answer h = tt

exact_as : (reader : ReaderState) (files : Sizes) (bytes : List ℕ) (left : Option (List ℕ)) (answer : Next) (r : Meaning) → next_of reader.limits reader.commands files bytes ≡ r → IsTold reader left answer r → IsExact reader files bytes left answer
exact_as reader files bytes left answer r e told meaning h =
    let same : meaning ≡ r = sym (means_computed reader.limits reader.commands files bytes meaning h) ∙ e in
    inl (rw same told)

exact_at : (reader : ReaderState) (files : Sizes) (bytes : List ℕ) (left : Option (List ℕ)) (answer : Next) → Answers reader files bytes left answer → IsExact reader files bytes left answer
exact_at reader files bytes left (next.Command given) (rest, is, e, ends) = exact_as reader files bytes left (next.Command given) (Ok (given, rest)) e (refl, is)
exact_at reader files bytes left next.End e = exact_as reader files bytes left next.End (Err refusal.End) e refl
exact_at reader files bytes left (next.BadScript line reason) (at, e) = exact_as reader files bytes left (next.BadScript line reason) (Err (refusal.Bad reason)) e (rw at refl)
exact_at reader files bytes left (next.Limit which number) (is, e) = exact_as reader files bytes left (next.Limit which number) (Err (refusal.Over which)) e (rw is refl)
exact_at reader files bytes left next.ReadFault h = λ meaning means. inr (inl refl)
exact_at reader files bytes left next.OutOfMemory h = λ meaning means. inr (inr refl)

pub answer_is_exact : (reader : ReaderState) (stopped : Option Refusal) (files : Sizes) (old new : Option (List ℕ)) (answer : Next) →
    IfNone stopped (IfSome old (λ bytes. Answers reader files bytes new answer)) → IfNone stopped (IfSome old (λ bytes. IsExact reader files bytes new answer))
answer_is_exact reader None files None new answer h = tt
answer_is_exact reader None files (Some bytes) new answer h = exact_at reader files bytes new answer h
answer_is_exact reader (Some refusal) files old new answer h = tt
