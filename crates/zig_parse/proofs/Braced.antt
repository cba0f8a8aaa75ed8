-- What two parts in braces read from one token ends at one place.
use Rattle.std.proofs.Common.{◌≡◌, true, inl, inr, List, [], ◌∷◌, Some, refl, sym, ◌∙◌, ap, subst}
use Rattle.zig_tree.specs.declared.token.TokenKind.{TokenKind}
use Rattle.zig_tree.specs.declared.token.TokenKind.TheVariants as kind
use Rattle.zig_tree.specs.declared.grammar.Rule.TheVariants as rule
use Rattle.zig_tree.specs.declared.grammar.Group.TheVariants as group
use Rattle.zig_tree.specs.declared.grammar.Part.{Part}
use Rattle.zig_tree.specs.declared.grammar.Part.TheVariants as part
use Rattle.zig_tree.specs.Grammar.{Alternative, group_rows, rule_rows}
use Rattle.zig_tree.specs.GrammarSentences.{Among}
use Rattle.zig_parse.proofs.Derived.{open_is_row}
use Rattle.zig_parse.proofs.Reading.{Reads, group_alone, rule_alone, token_read}
use Rattle.zig_parse.proofs.Shapes.{skip}
use Rattle.zig_parse.proofs.Ends.{brace_read, initializer_read}
use Rattle.zig_parse.proofs.Opening.{Five, five_block, five_initializer, five_body, five_errors, five_switch, body}

-- what is read begins with a brace and ends with that which closes it
abbrev Braced : List TokenKind → List TokenKind → Type 0
Braced tokens end = (more : List TokenKind) × (tokens ≡ kind.LeftBrace ∷ more) × (skip true 0 more ≡ Some end)

sole_parts : (p : Part) (a b : Alternative) (tokens end : List TokenKind) → Among a (b ∷ []) → b.parts ≡ part.Token kind.LeftBrace ∷ body p → Reads a.parts tokens end → Reads (part.Token kind.LeftBrace ∷ body p) tokens end
sole_parts p a b tokens end (inl e) same r = subst (λ (l : List Part). Reads l tokens end) (ap (λ (x : Alternative). x.parts) e ∙ same) r
sole_parts p a b tokens end (inr n) same r = elim n [ ]

five_parts : (p : Part) → Five p → (tokens end : List TokenKind) → Reads (p ∷ []) tokens end → Reads (part.Token kind.LeftBrace ∷ body p) tokens end
unfolding rule_rows group_rows
five_parts p five_block tokens end r = let o = rule_alone rule.Block tokens end r in sole_parts p o.0 _ tokens end (open_is_row tokens o.0 (rule_rows rule.Block) o.1) refl o.2
five_parts p five_initializer tokens end r = let o = rule_alone rule.Initializer tokens end r in sole_parts p o.0 _ tokens end (open_is_row tokens o.0 (rule_rows rule.Initializer) o.1) refl o.2
five_parts p five_body tokens end r = let o = rule_alone rule.ContainerBody tokens end r in sole_parts p o.0 _ tokens end (open_is_row tokens o.0 (rule_rows rule.ContainerBody) o.1) refl o.2
five_parts p five_errors tokens end r = let o = group_alone group.ErrorBraces tokens end r in sole_parts p o.0 _ tokens end (open_is_row tokens o.0 (group_rows group.ErrorBraces) o.1) refl o.2
five_parts p five_switch tokens end r = let o = group_alone group.SwitchBraces tokens end r in sole_parts p o.0 _ tokens end (open_is_row tokens o.0 (group_rows group.SwitchBraces) o.1) refl o.2

body_skipped : (p : Part) → Five p → (tokens end : List TokenKind) → Reads (body p) tokens end → skip true 0 tokens ≡ Some end
body_skipped p five_block tokens end r = brace_read (part.Group group.Statements ∷ []) tokens end r.0 refl r.1
body_skipped p five_initializer tokens end r =
    let o = group_alone group.InitializerBody tokens end r in
    initializer_read tokens end o.0 o.2.0 (open_is_row tokens o.0 (group_rows group.InitializerBody) o.1) o.2.1
body_skipped p five_body tokens end r = brace_read (part.Group group.Members ∷ []) tokens end r.0 refl r.1
body_skipped p five_errors tokens end r = brace_read (part.Group group.ErrorNames ∷ []) tokens end r.0 refl r.1
body_skipped p five_switch tokens end r = brace_read (part.Group group.Prongs ∷ []) tokens end r.0 refl r.1

braced : (p : Part) → Five p → (tokens end : List TokenKind) → Reads (p ∷ []) tokens end → Braced tokens end
braced p f tokens end r =
    let t = token_read kind.LeftBrace (body p) tokens end (five_parts p f tokens end r) in
    (t.0, t.1, body_skipped p f t.0 end t.2)

pub one_end : (p q : Part) → Five p → Five q → (tokens n m : List TokenKind) → Reads (p ∷ []) tokens n → Reads (q ∷ []) tokens m → n ≡ m
one_end p q f g tokens n m d e =
    let x = braced p f tokens n d in
    let y = braced q g tokens m e in
    let one : kind.LeftBrace ∷ x.0 ≡ kind.LeftBrace ∷ y.0 = sym x.1 ∙ y.1 in
    let more : x.0 ≡ y.0 = cc in
    let ends : Some n ≡ Some m = sym x.2 ∙ ap (skip true 0) more ∙ y.2 in
    cc
