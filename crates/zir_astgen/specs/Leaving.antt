-- What leaves a row, as lines.
use Rattle.std.specs.Prelude.{◌≡◌, ℕ, List, map, Option, Some, None, true, false, if◌then◌else◌}
use Rattle.std.specs.Borrow.{Bor}
use Rattle.zig_tree.specs.declared.token.TokenKind.{TokenKind}
use Rattle.zig_tree.specs.declared.token.TokenKind.TheVariants as kind
use Rattle.zig_tree.specs.Kinds.{is_kind}
use Rattle.zir_form.specs.Core.{Core}
use Rattle.zir_form.specs.Lines.{tree_at}
use Rattle.zir_astgen.specs.declared.exit.ExitLines.{ExitLines}
use Rattle.zir_astgen.specs.Chains.{made_prefix, operand}
use Rattle.zir_astgen.specs.Firsts.{AreBelow}
use Rattle.zir_astgen.specs.Control.{has_part, label_in}
use Rattle.zir_astgen.specs.Levels.{Exit, Level, exit_from, return_from}
use Rattle.zir_astgen.specs.Parts.{Parts, ended, token, part}
use Rattle.zir_astgen.specs.Site.{File, Site}

-- where a `break` or a `continue` goes, by the lines of what then runs
abbrev pub exit_by : List Core → Option ExitLines → Option Exit
exit_by trees None = None
exit_by trees (Some e) = Some (record { target = e.target; leaves = map (tree_at trees) e.leaves })

-- what runs as a function returns, by its lines
abbrev pub leaves_by : List Core → Option (List ℕ) → Option (List Core)
leaves_by trees None = None
leaves_by trees (Some lines) = Some (map (tree_at trees) lines)

-- where the `break` or `continue` of this kind before a row goes, if one is there
abbrev pub exit_at : File → List Level → TokenKind → Parts → Option Exit
exit_at f levels k more =
    if is_kind k kind.KeywordBreak then exit_from false (label_in f more) levels
    else (if is_kind k kind.KeywordContinue then exit_from true (label_in f more) levels
    else None)

-- what runs as the `return` of this kind before a row returns, if one is there
abbrev pub return_at : List Level → TokenKind → Parts → Option (List Core)
return_at levels k more = if is_kind k kind.KeywordReturn then return_from (has_part more) levels else None

-- the same of a row whose first token it is
unfoldable pub exit_of : File → List Level → Parts → Option Exit
exit_of f levels ended = None
exit_of f levels (token t k more) = exit_at f levels k more
exit_of f levels (part r inside first tree more) = None

unfoldable pub return_of : List Level → Parts → Option (List Core)
return_of levels ended = None
return_of levels (token t k more) = return_at levels k more
return_of levels (part r inside first tree more) = None

-- the trees of lines that are lent
abbrev pub leaves_of : List Core → Option (Bor (List ℕ)) → Option (List Core)
leaves_of trees None = None
leaves_of trees (Some lines) = Some (map (tree_at trees) lines.now)

-- each is one of so many lines
abbrev pub AreLeft : ℕ → Option (Bor (List ℕ)) → Type 0
AreLeft count None = Unit {0}
AreLeft count (Some lines) = AreBelow count lines.now

-- what a `try` in a row lets run, where one is there
abbrev pub OperandBy : File → Site → List Level → Parts → Option (List Core) → Type 0
OperandBy f s levels parts leaves = operand f s leaves parts ≡ made_prefix f s levels parts
