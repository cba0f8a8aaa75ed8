-- A code is known by how it is written.
use Rattle.std.proofs.Common.{◌≡◌, ℕ, List, cond, refl, sym, ap, ◌∙◌}
use Rattle.std.specs.Str.{bytes_eq}
use Rattle.zw_base.specs.DiagCode.{code_name}
use Rattle.zw_base.specs.declared.diag.DiagCode.{DiagCode}
use Rattle.zw_base.specs.declared.diag.DiagCode.TheVariants.{NotBuilt, BadByte, BadEscape, OpenString, BadNumber, UnexpectedToken, TooDeep, RootMissing, ImportMissing, StandardLibrary, Undeclared, NameUsed, NeverUsed, NeverChanged, NothingToLeave, ImportNeedsString, WrongBuiltin, DeclarationLoop, TooManyUnits, NoMember, PrivateDeclaration, TypesDoNotFit, OperatorTypes, NotComptimeKnown, IntegerDoesNotFit, ComptimeOverflow, DivisionByZero, IndexOutOfRange, AboveQuota, CallsTooDeep, NotExhaustive, ValueTwice, ElseUnreached, ArgumentCount, NotAFunction, FieldsDoNotFit, SignedDivision, ErrorIgnored, ValueIgnored, EndsWithoutValue, AssignToConstant, TypeNotAllowed, CompileError, NameTooLong, TooManyElements, UndefinedUsed, CheckFails, ResultTypeUnknown, TypeTooLarge, ExportTwice, DataTooLarge, ModuleTooLarge, FunctionTooLarge}

code_of : List ℕ → DiagCode
code_of name =
    cond (bytes_eq (code_name NotBuilt) name) NotBuilt (
    cond (bytes_eq (code_name BadByte) name) BadByte (
    cond (bytes_eq (code_name BadEscape) name) BadEscape (
    cond (bytes_eq (code_name OpenString) name) OpenString (
    cond (bytes_eq (code_name BadNumber) name) BadNumber (
    cond (bytes_eq (code_name UnexpectedToken) name) UnexpectedToken (
    cond (bytes_eq (code_name TooDeep) name) TooDeep (
    cond (bytes_eq (code_name RootMissing) name) RootMissing (
    cond (bytes_eq (code_name ImportMissing) name) ImportMissing (
    cond (bytes_eq (code_name StandardLibrary) name) StandardLibrary (
    cond (bytes_eq (code_name Undeclared) name) Undeclared (
    cond (bytes_eq (code_name NameUsed) name) NameUsed (
    cond (bytes_eq (code_name NeverUsed) name) NeverUsed (
    cond (bytes_eq (code_name NeverChanged) name) NeverChanged (
    cond (bytes_eq (code_name NothingToLeave) name) NothingToLeave (
    cond (bytes_eq (code_name ImportNeedsString) name) ImportNeedsString (
    cond (bytes_eq (code_name WrongBuiltin) name) WrongBuiltin (
    cond (bytes_eq (code_name DeclarationLoop) name) DeclarationLoop (
    cond (bytes_eq (code_name TooManyUnits) name) TooManyUnits (
    cond (bytes_eq (code_name NoMember) name) NoMember (
    cond (bytes_eq (code_name PrivateDeclaration) name) PrivateDeclaration (
    cond (bytes_eq (code_name TypesDoNotFit) name) TypesDoNotFit (
    cond (bytes_eq (code_name OperatorTypes) name) OperatorTypes (
    cond (bytes_eq (code_name NotComptimeKnown) name) NotComptimeKnown (
    cond (bytes_eq (code_name IntegerDoesNotFit) name) IntegerDoesNotFit (
    cond (bytes_eq (code_name ComptimeOverflow) name) ComptimeOverflow (
    cond (bytes_eq (code_name DivisionByZero) name) DivisionByZero (
    cond (bytes_eq (code_name IndexOutOfRange) name) IndexOutOfRange (
    cond (bytes_eq (code_name AboveQuota) name) AboveQuota (
    cond (bytes_eq (code_name CallsTooDeep) name) CallsTooDeep (
    cond (bytes_eq (code_name NotExhaustive) name) NotExhaustive (
    cond (bytes_eq (code_name ValueTwice) name) ValueTwice (
    cond (bytes_eq (code_name ElseUnreached) name) ElseUnreached (
    cond (bytes_eq (code_name ArgumentCount) name) ArgumentCount (
    cond (bytes_eq (code_name NotAFunction) name) NotAFunction (
    cond (bytes_eq (code_name FieldsDoNotFit) name) FieldsDoNotFit (
    cond (bytes_eq (code_name SignedDivision) name) SignedDivision (
    cond (bytes_eq (code_name ErrorIgnored) name) ErrorIgnored (
    cond (bytes_eq (code_name ValueIgnored) name) ValueIgnored (
    cond (bytes_eq (code_name EndsWithoutValue) name) EndsWithoutValue (
    cond (bytes_eq (code_name AssignToConstant) name) AssignToConstant (
    cond (bytes_eq (code_name TypeNotAllowed) name) TypeNotAllowed (
    cond (bytes_eq (code_name CompileError) name) CompileError (
    cond (bytes_eq (code_name NameTooLong) name) NameTooLong (
    cond (bytes_eq (code_name TooManyElements) name) TooManyElements (
    cond (bytes_eq (code_name UndefinedUsed) name) UndefinedUsed (
    cond (bytes_eq (code_name CheckFails) name) CheckFails (
    cond (bytes_eq (code_name ResultTypeUnknown) name) ResultTypeUnknown (
    cond (bytes_eq (code_name TypeTooLarge) name) TypeTooLarge (
    cond (bytes_eq (code_name ExportTwice) name) ExportTwice (
    cond (bytes_eq (code_name DataTooLarge) name) DataTooLarge (
    cond (bytes_eq (code_name ModuleTooLarge) name) ModuleTooLarge (
    FunctionTooLarge))))))))))))))))))))))))))))))))))))))))))))))))))))

code_of-code_name : (code : DiagCode) → code_of (code_name code) ≡ code
unfolding code_of
code_of-code_name NotBuilt = refl
code_of-code_name BadByte = refl
code_of-code_name BadEscape = refl
code_of-code_name OpenString = refl
code_of-code_name BadNumber = refl
code_of-code_name UnexpectedToken = refl
code_of-code_name TooDeep = refl
code_of-code_name RootMissing = refl
code_of-code_name ImportMissing = refl
code_of-code_name StandardLibrary = refl
code_of-code_name Undeclared = refl
code_of-code_name NameUsed = refl
code_of-code_name NeverUsed = refl
code_of-code_name NeverChanged = refl
code_of-code_name NothingToLeave = refl
code_of-code_name ImportNeedsString = refl
code_of-code_name WrongBuiltin = refl
code_of-code_name DeclarationLoop = refl
code_of-code_name TooManyUnits = refl
code_of-code_name NoMember = refl
code_of-code_name PrivateDeclaration = refl
code_of-code_name TypesDoNotFit = refl
code_of-code_name OperatorTypes = refl
code_of-code_name NotComptimeKnown = refl
code_of-code_name IntegerDoesNotFit = refl
code_of-code_name ComptimeOverflow = refl
code_of-code_name DivisionByZero = refl
code_of-code_name IndexOutOfRange = refl
code_of-code_name AboveQuota = refl
code_of-code_name CallsTooDeep = refl
code_of-code_name NotExhaustive = refl
code_of-code_name ValueTwice = refl
code_of-code_name ElseUnreached = refl
code_of-code_name ArgumentCount = refl
code_of-code_name NotAFunction = refl
code_of-code_name FieldsDoNotFit = refl
code_of-code_name SignedDivision = refl
code_of-code_name ErrorIgnored = refl
code_of-code_name ValueIgnored = refl
code_of-code_name EndsWithoutValue = refl
code_of-code_name AssignToConstant = refl
code_of-code_name TypeNotAllowed = refl
code_of-code_name CompileError = refl
code_of-code_name NameTooLong = refl
code_of-code_name TooManyElements = refl
code_of-code_name UndefinedUsed = refl
code_of-code_name CheckFails = refl
code_of-code_name ResultTypeUnknown = refl
code_of-code_name TypeTooLarge = refl
code_of-code_name ExportTwice = refl
code_of-code_name DataTooLarge = refl
code_of-code_name ModuleTooLarge = refl
code_of-code_name FunctionTooLarge = refl

pub same_code : (a b : DiagCode) → code_name a ≡ code_name b → a ≡ b
same_code a b e = sym (code_of-code_name a) ∙ ap code_of e ∙ code_of-code_name b
