-- What a call answers, against what the relation says of a text. Want of memory is free.
use Rattle.std.specs.Prelude.{◌≡◌, ℕ, List, Result, Ok, Err}
use Rattle.std.specs.Global.{Vec}
use Rattle.zig_tree.specs.declared.token.Token.{Token}
use Rattle.zig_tree.specs.Tokens.{Fault, bad_byte, bad_escape, open_string, bad_number, Reads}
use Rattle.zig_token.specs.declared.fault.LexFault.{LexFault}
use Rattle.zig_token.specs.declared.fault.LexFault.TheVariants.{BadByte, BadEscape, OpenString, BadNumber, OutOfMemory}

-- the text shows this fault first
abbrev pub ShowsFirst : List ℕ → LexFault → Type 0
ShowsFirst text (BadByte at) = Reads text (Err (bad_byte at))
ShowsFirst text (BadEscape at) = Reads text (Err (bad_escape at))
ShowsFirst text (OpenString at) = Reads text (Err (open_string at))
ShowsFirst text (BadNumber at) = Reads text (Err (bad_number at))
ShowsFirst text OutOfMemory = Unit {0}

-- the answer is that outcome
abbrev pub Answers : Result (Vec Token) LexFault → Result (List Token) Fault → Type 0
Answers (Ok list) outcome = outcome ≡ Ok list.items
Answers (Err (BadByte at)) outcome = outcome ≡ Err (bad_byte at)
Answers (Err (BadEscape at)) outcome = outcome ≡ Err (bad_escape at)
Answers (Err (OpenString at)) outcome = outcome ≡ Err (open_string at)
Answers (Err (BadNumber at)) outcome = outcome ≡ Err (bad_number at)
Answers (Err OutOfMemory) outcome = Unit {0}

-- a fault of the relation, as the call answers it
abbrev pub lex_fault : Fault → LexFault
lex_fault (bad_byte at) = BadByte at
lex_fault (bad_escape at) = BadEscape at
lex_fault (open_string at) = OpenString at
lex_fault (bad_number at) = BadNumber at

-- the outcome as the call answers it
abbrev pub told : Result (List Token) Fault → Result (List Token) LexFault
told (Ok tokens) = Ok tokens
told (Err fault) = Err (lex_fault fault)
