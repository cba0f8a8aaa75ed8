-- The grammar of a script: the words of a command's line, and the text of a command.
use Rattle.std.specs.Prelude.{◌≡◌, ◌≢◌, ℕ, ◌^◌, ◌<◌, ◌==◌, false, List, [], ◌∷◌, ◌++◌, length, ◌⊎◌, Option, None, Some, codes}
use Rattle.std.specs.Fmt.{decimal}
use Rattle.std.specs.List.{join_with_byte, list_any, AllByRecursion}
use Rattle.zw_base.specs.Path.{path_fault}
use Rattle.script_read.specs.declared.command.Command.{Command}
use Rattle.script_read.specs.declared.command.Command.TheVariants as command
use Rattle.script_read.specs.declared.command.Request.{Request}
use Rattle.script_read.specs.declared.command.Request.TheVariants as request
use Rattle.script_read.specs.declared.line.Verb.{Verb}
use Rattle.script_read.specs.declared.line.Verb.TheVariants as verb

-- what a word behind a command's name says
pub data Field : Type 0 where
  APath : Field
  ALength : Field

-- an allowed path; a decimal numeral without a leading zero, of at most 10 digits
abbrev pub Says : Field → List ℕ → Type 0
Says APath word = path_fault word ≡ None
Says ALength word = (n : ℕ) × (n < 10 ^ 10) × (word ≡ decimal n)

-- the commands: the name of each
abbrev pub name_of : Verb → List ℕ
name_of verb.File = codes "file"
name_of verb.Drop = codes "drop"
name_of verb.Update = codes "update"

-- and what the words behind its name say
abbrev pub fields_of : Verb → List Field
fields_of verb.File = APath ∷ ALength ∷ []
fields_of verb.Drop = APath ∷ []
fields_of verb.Update = []

-- A line begins with a command's name: it has nothing more, or a space stands after the name.
abbrev pub Calls : Verb → List ℕ → Type 0
Calls verb line = (line ≡ name_of verb) ⊎ ((more : List ℕ) × (line ≡ name_of verb ++ 32 ∷ more))

abbrev pub HasNoSpace : List ℕ → Type 0
HasNoSpace word = list_any (λ b. b == 32) word ≡ false

-- at least one byte, and no space
abbrev pub IsWord : List ℕ → Type 0
IsWord word = (word ≢ []) × HasNoSpace word

-- words, with one space between each two
abbrev pub spaced : List (List ℕ) → List ℕ
spaced words = join_with_byte 32 words

-- A line is exactly a command's name and as many words as the command takes, with single spaces.
pub record HasWords (verb : Verb) (args : List (List ℕ)) (line : List ℕ) : Type 0 where
  pub line_is : line ≡ spaced (name_of verb ∷ args)
  pub count : length args ≡ length (fields_of verb)
  pub each : AllByRecursion IsWord args

-- a word that should say this doesn't
abbrev pub Fails : Field → List Field → List (List ℕ) → Type 0
Fails wanted [] words = ⊥
Fails wanted (field ∷ fields) [] = ⊥
Fails wanted (field ∷ fields) (word ∷ words) = ((field ≡ wanted) × (Says field word → ⊥)) ⊎ Fails wanted fields words

-- the line that asks for this
abbrev pub line_for : Request → List ℕ
line_for (request.File path len) = spaced (name_of verb.File ∷ path ∷ decimal len ∷ [])
line_for (request.Drop path) = spaced (name_of verb.Drop ∷ path ∷ [])
line_for request.Update = name_of verb.Update

-- its path is an allowed one, and its length has at most 10 digits
abbrev pub IsProper : Request → Type 0
IsProper (request.File path len) = (path_fault path ≡ None) × (len < 10 ^ 10)
IsProper (request.Drop path) = path_fault path ≡ None
IsProper request.Update = Unit {0}

pub record Asks (line : List ℕ) (asked : Request) : Type 0 where
  pub line_is : line ≡ line_for asked
  pub proper : IsProper asked

-- how many bytes, and an LF after them, stand behind the line
abbrev pub content_len : Request → Option ℕ
content_len (request.File path len) = Some len
content_len (request.Drop path) = None
content_len request.Update = None

-- what a command's line asks for
abbrev pub request_for : Command → Request
request_for (command.File path bytes) = request.File path (length bytes)
request_for (command.Drop path) = request.Drop path
request_for command.Update = request.Update

-- what stands behind a command's line and its LF
abbrev pub behind_line : Command → List ℕ
behind_line (command.File path bytes) = bytes ++ 10 ∷ []
behind_line (command.Drop path) = []
behind_line command.Update = []

-- The bytes are the text of a command: its line, an LF, and what stands behind.
pub record IsSentence (given : Command) (text : List ℕ) : Type 0 where
  pub text_is : text ≡ line_for (request_for given) ++ 10 ∷ behind_line given
  pub proper : IsProper (request_for given)
