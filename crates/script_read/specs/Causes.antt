-- Why a script's next command is refused: each cause as a property of the bytes that are left, and their order.
use Rattle.std.specs.Prelude.{◌≡◌, ◌≢◌, ℕ, ◌+◌, ◌≤◌, true, List, [], ◌∷◌, ◌++◌, length, Option, Some}
use Rattle.std.specs.List.{AllByRecursion}
use Rattle.zw_base.specs.declared.reason.Reason.TheVariants.{LineTooLong, CutShort, UnknownCommand, BadWords, BadPath, BadLength, AbsentPath, MissingEnd}
use Rattle.zw_base.specs.declared.status.Which.{Which}
use Rattle.zw_base.specs.declared.status.Which.TheVariants.{Commands, FileBytes, Files, TotalBytes}
use Rattle.zw_base.specs.declared.limits.Limits.{Limits}
use Rattle.script_read.specs.declared.command.Refusal.{Refusal}
use Rattle.script_read.specs.declared.command.Refusal.TheVariants as refusal
use Rattle.script_read.specs.declared.command.Request.{Request}
use Rattle.script_read.specs.declared.line.Verb.{Verb}
use Rattle.script_read.specs.Line.{HasNoEnd, IsParted}
use Rattle.zw_base.specs.Limits.{Sizes, is_over}
use Rattle.script_read.specs.Sizes.{files_after, is_absent}
use Rattle.script_read.specs.Grammar.{Field, APath, ALength, fields_of, Calls, HasWords, Fails, Asks, content_len}

-- ---- the line

-- none of the bytes that a line may have is LF, nor is the one after them
abbrev pub IsLong : ℕ → List ℕ → Type 0
IsLong most bytes = (front rest : List ℕ) × (bytes ≡ front ++ rest) × (length front ≡ most + 1) × HasNoEnd front

-- the input ends inside the line
abbrev pub IsCut : List ℕ → Type 0
IsCut bytes = (bytes ≢ []) × HasNoEnd bytes

-- this holds of the whole line at the front and of the bytes behind it
abbrev pub InLine : List ℕ → (List ℕ → List ℕ → Type 0) → Type 0
InLine bytes holds = (line rest : List ℕ) × IsParted bytes line rest × holds line rest

-- ---- the words

-- the line begins with no command's name
abbrev pub IsUnknown : List ℕ → Type 0
IsUnknown line = (verb : Verb) → Calls verb line → ⊥

-- it's not exactly the command's words with single spaces
abbrev pub HasWrongWords : List ℕ → Type 0
HasWrongWords line = (verb : Verb) × Calls verb line × ((args : List (List ℕ)) → HasWords verb args line → ⊥)

-- it's the command's words, and one that should say this doesn't
abbrev pub HasWrong : Field → List ℕ → Type 0
HasWrong field line = (verb : Verb) × (args : List (List ℕ)) × HasWords verb args line × Fails field (fields_of verb) args

-- ---- what the line asks for

-- this holds of what the line asks for and of the bytes behind it
abbrev pub Asking : List ℕ → (Request → List ℕ → Type 0) → Type 0
Asking bytes holds = InLine bytes (λ line rest. (asked : Request) × Asks line asked × holds asked rest)

-- ---- the bytes behind it

-- the input ends before the byte after the content
abbrev pub IsCutContent : Option ℕ → List ℕ → Type 0
IsCutContent wanted bytes = (len : ℕ) × (wanted ≡ Some len) × (length bytes ≤ len)

-- the byte after the content is no LF
abbrev pub IsUnended : Option ℕ → List ℕ → Type 0
IsUnended wanted bytes =
    (len : ℕ) × (content rest : List ℕ) × (b : ℕ) × (wanted ≡ Some len) × (bytes ≡ content ++ b ∷ rest) × (length content ≡ len) × (b ≢ 10)

-- ---- the causes

pub data Cause : Type 0 where
  LongLine : Cause
  CutLine : Cause
  NoCommand : Cause
  WrongWords : Cause
  WrongPath : Cause
  WrongLength : Cause
  FileAbsent : Cause
  Over : Which → Cause
  CutContent : Cause
  UnendedContent : Cause

-- the order in which they are tried
abbrev pub order : List Cause
order =
    LongLine ∷ CutLine
    ∷ NoCommand ∷ WrongWords ∷ WrongPath ∷ WrongLength
    ∷ FileAbsent ∷ Over Commands ∷ Over FileBytes ∷ Over Files ∷ Over TotalBytes
    ∷ CutContent ∷ UnendedContent ∷ []

-- what each is answered with
abbrev pub refused_with : Cause → Refusal
refused_with LongLine = refusal.Bad LineTooLong
refused_with CutLine = refusal.Bad CutShort
refused_with NoCommand = refusal.Bad UnknownCommand
refused_with WrongWords = refusal.Bad BadWords
refused_with WrongPath = refusal.Bad BadPath
refused_with WrongLength = refusal.Bad BadLength
refused_with FileAbsent = refusal.Bad AbsentPath
refused_with (Over which) = refusal.Over which
refused_with CutContent = refusal.Bad CutShort
refused_with UnendedContent = refusal.Bad MissingEnd

-- A cause stands: after so many commands, for the files as they are, and these bytes left.
abbrev pub Stands : Limits → ℕ → Sizes → List ℕ → Cause → Type 0
Stands limits commands files bytes LongLine = IsLong limits.line bytes
Stands limits commands files bytes CutLine = IsCut bytes
Stands limits commands files bytes NoCommand = InLine bytes (λ line rest. IsUnknown line)
Stands limits commands files bytes WrongWords = InLine bytes (λ line rest. HasWrongWords line)
Stands limits commands files bytes WrongPath = InLine bytes (λ line rest. HasWrong APath line)
Stands limits commands files bytes WrongLength = InLine bytes (λ line rest. HasWrong ALength line)
Stands limits commands files bytes FileAbsent = Asking bytes (λ asked rest. is_absent asked files ≡ true)
Stands limits commands files bytes (Over which) = Asking bytes (λ asked rest. is_over limits (commands + 1) (files_after asked files) which ≡ true)
Stands limits commands files bytes CutContent = Asking bytes (λ asked rest. IsCutContent (content_len asked) rest)
Stands limits commands files bytes UnendedContent = Asking bytes (λ asked rest. IsUnended (content_len asked) rest)

-- none of these causes stands
abbrev pub NoneStands : (Cause → Type 0) → List Cause → Type 0
NoneStands stands causes = AllByRecursion (λ cause. stands cause → ⊥) causes

-- a cause stands, and none that is tried before it does
pub record IsFirst (stands : Cause → Type 0) (causes : List Cause) (cause : Cause) : Type 0 where
  pub before : List Cause
  pub after : List Cause
  pub in_order : causes ≡ before ++ cause ∷ after
  pub here : stands cause
  pub none_before : NoneStands stands before
