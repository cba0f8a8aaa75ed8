-- The words and symbols of Zig's text, one a row.
use Rattle.std.specs.Prelude.{ℕ, List, [], ◌∷◌, codes, length, Option, Some, None, Bool, if◌then◌else◌, unwrap_or}
use Rattle.std.specs.Option.{is_some}
use Rattle.std.specs.Str.{bytes_eq}
use Rattle.std.specs.List.{starts_with}
use Rattle.std.specs.Prelude.{nat_eq}
use Rattle.zig_tree.specs.declared.token.TokenKind.{TokenKind}
use Rattle.zig_tree.specs.declared.token.TokenKind.TheVariants.{Identifier, Underscore, LeftParen, RightParen, LeftBracket, RightBracket, LeftBrace, RightBrace, Comma, Semicolon, Colon, Period, Ellipsis2, Ellipsis3, PeriodAsterisk, PeriodQuestionMark, Equal, EqualAngleRight, EqualEqual, Bang, BangEqual, AngleLeft, AngleLeftEqual, AngleRight, AngleRightEqual, Plus, PlusPlus, PlusEqual, PlusPercent, PlusPercentEqual, PlusPipe, PlusPipeEqual, Minus, MinusEqual, MinusPercent, MinusPercentEqual, MinusPipe, MinusPipeEqual, Asterisk, AsteriskAsterisk, AsteriskEqual, AsteriskPercent, AsteriskPercentEqual, AsteriskPipe, AsteriskPipeEqual, Slash, SlashEqual, Percent, PercentEqual, Ampersand, AmpersandEqual, Caret, CaretEqual, Pipe, PipePipe, PipeEqual, AngleLeftAngleLeft, AngleLeftAngleLeftEqual, AngleLeftAngleLeftPipe, AngleLeftAngleLeftPipeEqual, AngleRightAngleRight, AngleRightAngleRightEqual, Tilde, QuestionMark, KeywordAddrspace, KeywordAlign, KeywordAllowzero, KeywordAnd, KeywordAnyframe, KeywordAnytype, KeywordAsm, KeywordAsync, KeywordAwait, KeywordBreak, KeywordCallconv, KeywordCatch, KeywordComptime, KeywordConst, KeywordContinue, KeywordDefer, KeywordElse, KeywordEnum, KeywordErrdefer, KeywordError, KeywordExport, KeywordExtern, KeywordFn, KeywordFor, KeywordIf, KeywordInline, KeywordLinksection, KeywordNoalias, KeywordNoinline, KeywordNosuspend, KeywordOpaque, KeywordOr, KeywordOrelse, KeywordPacked, KeywordPub, KeywordResume, KeywordReturn, KeywordStruct, KeywordSuspend, KeywordSwitch, KeywordTest, KeywordThreadlocal, KeywordTry, KeywordUnion, KeywordUnreachable, KeywordUsingnamespace, KeywordVar, KeywordVolatile, KeywordWhile}

-- a row: what is written, and the kind of token that it is
abbrev pub Row : Type 0
Row = List ℕ × TokenKind

-- the keywords
abbrev pub keywords : List Row
keywords =
    (codes "addrspace", KeywordAddrspace)
    ∷ (codes "align", KeywordAlign)
    ∷ (codes "allowzero", KeywordAllowzero)
    ∷ (codes "and", KeywordAnd)
    ∷ (codes "anyframe", KeywordAnyframe)
    ∷ (codes "anytype", KeywordAnytype)
    ∷ (codes "asm", KeywordAsm)
    ∷ (codes "async", KeywordAsync)
    ∷ (codes "await", KeywordAwait)
    ∷ (codes "break", KeywordBreak)
    ∷ (codes "callconv", KeywordCallconv)
    ∷ (codes "catch", KeywordCatch)
    ∷ (codes "comptime", KeywordComptime)
    ∷ (codes "const", KeywordConst)
    ∷ (codes "continue", KeywordContinue)
    ∷ (codes "defer", KeywordDefer)
    ∷ (codes "else", KeywordElse)
    ∷ (codes "enum", KeywordEnum)
    ∷ (codes "errdefer", KeywordErrdefer)
    ∷ (codes "error", KeywordError)
    ∷ (codes "export", KeywordExport)
    ∷ (codes "extern", KeywordExtern)
    ∷ (codes "fn", KeywordFn)
    ∷ (codes "for", KeywordFor)
    ∷ (codes "if", KeywordIf)
    ∷ (codes "inline", KeywordInline)
    ∷ (codes "linksection", KeywordLinksection)
    ∷ (codes "noalias", KeywordNoalias)
    ∷ (codes "noinline", KeywordNoinline)
    ∷ (codes "nosuspend", KeywordNosuspend)
    ∷ (codes "opaque", KeywordOpaque)
    ∷ (codes "or", KeywordOr)
    ∷ (codes "orelse", KeywordOrelse)
    ∷ (codes "packed", KeywordPacked)
    ∷ (codes "pub", KeywordPub)
    ∷ (codes "resume", KeywordResume)
    ∷ (codes "return", KeywordReturn)
    ∷ (codes "struct", KeywordStruct)
    ∷ (codes "suspend", KeywordSuspend)
    ∷ (codes "switch", KeywordSwitch)
    ∷ (codes "test", KeywordTest)
    ∷ (codes "threadlocal", KeywordThreadlocal)
    ∷ (codes "try", KeywordTry)
    ∷ (codes "union", KeywordUnion)
    ∷ (codes "unreachable", KeywordUnreachable)
    ∷ (codes "usingnamespace", KeywordUsingnamespace)
    ∷ (codes "var", KeywordVar)
    ∷ (codes "volatile", KeywordVolatile)
    ∷ (codes "while", KeywordWhile)
    ∷ []

-- `_`, which discards, and the keywords
abbrev pub words : List Row
words = (codes "_", Underscore) ∷ keywords

-- the symbols; a longer one stands before what begins it
abbrev pub symbols : List Row
symbols =
    (codes "(", LeftParen)
    ∷ (codes ")", RightParen)
    ∷ (codes "[", LeftBracket)
    ∷ (codes "]", RightBracket)
    ∷ (codes "{", LeftBrace)
    ∷ (codes "}", RightBrace)
    ∷ (codes ",", Comma)
    ∷ (codes ";", Semicolon)
    ∷ (codes ":", Colon)
    ∷ (codes "...", Ellipsis3)
    ∷ (codes "..", Ellipsis2)
    ∷ (codes ".*", PeriodAsterisk)
    ∷ (codes ".?", PeriodQuestionMark)
    ∷ (codes ".", Period)
    ∷ (codes "=>", EqualAngleRight)
    ∷ (codes "==", EqualEqual)
    ∷ (codes "=", Equal)
    ∷ (codes "!=", BangEqual)
    ∷ (codes "!", Bang)
    ∷ (codes "<<|=", AngleLeftAngleLeftPipeEqual)
    ∷ (codes "<<=", AngleLeftAngleLeftEqual)
    ∷ (codes "<<|", AngleLeftAngleLeftPipe)
    ∷ (codes "<=", AngleLeftEqual)
    ∷ (codes "<<", AngleLeftAngleLeft)
    ∷ (codes "<", AngleLeft)
    ∷ (codes ">>=", AngleRightAngleRightEqual)
    ∷ (codes ">=", AngleRightEqual)
    ∷ (codes ">>", AngleRightAngleRight)
    ∷ (codes ">", AngleRight)
    ∷ (codes "+%=", PlusPercentEqual)
    ∷ (codes "+|=", PlusPipeEqual)
    ∷ (codes "++", PlusPlus)
    ∷ (codes "+=", PlusEqual)
    ∷ (codes "+%", PlusPercent)
    ∷ (codes "+|", PlusPipe)
    ∷ (codes "+", Plus)
    ∷ (codes "-%=", MinusPercentEqual)
    ∷ (codes "-|=", MinusPipeEqual)
    ∷ (codes "-=", MinusEqual)
    ∷ (codes "-%", MinusPercent)
    ∷ (codes "-|", MinusPipe)
    ∷ (codes "-", Minus)
    ∷ (codes "*%=", AsteriskPercentEqual)
    ∷ (codes "*|=", AsteriskPipeEqual)
    ∷ (codes "**", AsteriskAsterisk)
    ∷ (codes "*=", AsteriskEqual)
    ∷ (codes "*%", AsteriskPercent)
    ∷ (codes "*|", AsteriskPipe)
    ∷ (codes "*", Asterisk)
    ∷ (codes "/=", SlashEqual)
    ∷ (codes "/", Slash)
    ∷ (codes "%=", PercentEqual)
    ∷ (codes "%", Percent)
    ∷ (codes "&=", AmpersandEqual)
    ∷ (codes "&", Ampersand)
    ∷ (codes "^=", CaretEqual)
    ∷ (codes "^", Caret)
    ∷ (codes "||", PipePipe)
    ∷ (codes "|=", PipeEqual)
    ∷ (codes "|", Pipe)
    ∷ (codes "~", Tilde)
    ∷ (codes "?", QuestionMark)
    ∷ []

-- the kind of the first row that is written so
unfoldable pub kind_of_row : List Row → List ℕ → Option TokenKind
kind_of_row [] word = None
kind_of_row (row ∷ rows) word = if bytes_eq row.0 word then Some row.1 else kind_of_row rows word

-- whether a name is spelled like a keyword
unfoldable pub is_keyword : List ℕ → Bool
is_keyword name = is_some (kind_of_row keywords name)

-- the kind of a name that is no quoted one
unfoldable pub word_kind : List ℕ → TokenKind
word_kind word = unwrap_or (kind_of_row words word) Identifier

-- the first row with which the bytes begin: how many bytes it has, and its kind
unfoldable pub row_at_front : List Row → List ℕ → Option (ℕ × TokenKind)
row_at_front [] bytes = None
row_at_front (row ∷ rows) bytes = if starts_with nat_eq bytes row.0 then Some (length row.0, row.1) else row_at_front rows bytes
