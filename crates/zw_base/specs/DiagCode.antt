-- What each diagnostic code is called, and what it says.
use Rattle.std.specs.Prelude.{ℕ, List, codes}
use Rattle.zw_base.specs.declared.diag.DiagCode.{DiagCode}
use Rattle.zw_base.specs.declared.diag.DiagCode.TheVariants.{NotBuilt, BadByte, BadEscape, OpenString, BadNumber, UnexpectedToken, TooDeep, RootMissing, ImportMissing, StandardLibrary, Undeclared, NameUsed, NeverUsed, NeverChanged, NothingToLeave, ImportNeedsString, WrongBuiltin, DeclarationLoop, TooManyUnits, NoMember, PrivateDeclaration, TypesDoNotFit, OperatorTypes, NotComptimeKnown, IntegerDoesNotFit, ComptimeOverflow, DivisionByZero, IndexOutOfRange, AboveQuota, CallsTooDeep, NotExhaustive, ValueTwice, ElseUnreached, ArgumentCount, NotAFunction, FieldsDoNotFit, SignedDivision, ErrorIgnored, ValueIgnored, EndsWithoutValue, AssignToConstant, TypeNotAllowed, CompileError, NameTooLong, TooManyElements, UndefinedUsed, CheckFails, ResultTypeUnknown, TypeTooLarge, ExportTwice, DataTooLarge, ModuleTooLarge, FunctionTooLarge}

-- the table of codes: each as it is written, and the words beside it; those of E326 are given by its diagnostic
abbrev pub code_row : DiagCode → List ℕ × List ℕ
code_row NotBuilt = (codes "E000", codes "this form is not built yet")
code_row BadByte = (codes "E101", codes "bad byte")
code_row BadEscape = (codes "E102", codes "bad escape")
code_row OpenString = (codes "E103", codes "string is not closed")
code_row BadNumber = (codes "E104", codes "bad number")
code_row UnexpectedToken = (codes "E111", codes "unexpected token")
code_row TooDeep = (codes "E112", codes "nested too deep")
code_row RootMissing = (codes "E121", codes "root file is missing")
code_row ImportMissing = (codes "E122", codes "imported file is missing")
code_row StandardLibrary = (codes "E123", codes "the standard library is left out")
code_row Undeclared = (codes "E201", codes "undeclared name")
code_row NameUsed = (codes "E202", codes "name is already used")
code_row NeverUsed = (codes "E203", codes "name is never used")
code_row NeverChanged = (codes "E204", codes "variable is never changed")
code_row NothingToLeave = (codes "E205", codes "nothing to leave here")
code_row ImportNeedsString = (codes "E206", codes "import needs a string literal")
code_row WrongBuiltin = (codes "E207", codes "unknown builtin or wrong arguments")
code_row DeclarationLoop = (codes "E301", codes "declarations depend on each other")
code_row TooManyUnits = (codes "E302", codes "too many units")
code_row NoMember = (codes "E303", codes "no such member")
code_row PrivateDeclaration = (codes "E304", codes "declaration is private")
code_row TypesDoNotFit = (codes "E305", codes "types do not fit")
code_row OperatorTypes = (codes "E306", codes "operator does not take these types")
code_row NotComptimeKnown = (codes "E307", codes "value must be known at comptime")
code_row IntegerDoesNotFit = (codes "E308", codes "integer does not fit its type")
code_row ComptimeOverflow = (codes "E309", codes "comptime arithmetic overflows")
code_row DivisionByZero = (codes "E310", codes "division by zero")
code_row IndexOutOfRange = (codes "E311", codes "index is out of range")
code_row AboveQuota = (codes "E312", codes "comptime work is above the quota")
code_row CallsTooDeep = (codes "E313", codes "comptime calls are too deep")
code_row NotExhaustive = (codes "E314", codes "switch is not exhaustive")
code_row ValueTwice = (codes "E315", codes "value stands twice")
code_row ElseUnreached = (codes "E316", codes "else is never reached")
code_row ArgumentCount = (codes "E317", codes "wrong number of arguments")
code_row NotAFunction = (codes "E318", codes "not a function")
code_row FieldsDoNotFit = (codes "E319", codes "fields do not fit")
code_row SignedDivision = (codes "E320", codes "signed division needs a builtin")
code_row ErrorIgnored = (codes "E321", codes "error is ignored")
code_row ValueIgnored = (codes "E322", codes "value is ignored")
code_row EndsWithoutValue = (codes "E323", codes "function may end without a value")
code_row AssignToConstant = (codes "E324", codes "assignment to a constant")
code_row TypeNotAllowed = (codes "E325", codes "type is not allowed here")
code_row CompileError = (codes "E326", codes "")
code_row NameTooLong = (codes "E327", codes "name of a type is too long")
code_row TooManyElements = (codes "E328", codes "too many elements")
code_row UndefinedUsed = (codes "E329", codes "undefined value is used")
code_row CheckFails = (codes "E331", codes "a check fails at comptime")
code_row ResultTypeUnknown = (codes "E332", codes "result type is not known")
code_row TypeTooLarge = (codes "E333", codes "type is too large")
code_row ExportTwice = (codes "E401", codes "export name stands twice")
code_row DataTooLarge = (codes "E402", codes "data is too large")
code_row ModuleTooLarge = (codes "E403", codes "module is too large")
code_row FunctionTooLarge = (codes "E404", codes "function is too large")

abbrev pub code_name : DiagCode → List ℕ
code_name code = (code_row code).0

abbrev pub code_text : DiagCode → List ℕ
code_text code = (code_row code).1
