-- What a `try` lets run is asked for only where one stands before an operand.
use Rattle.std.proofs.Common.{◌≡◌, ℕ, Bool, true, false, if◌then◌else◌, List, Option, Some, None, refl, sym, ◌∙◌, ap}
use Rattle.zig_tree.specs.declared.token.TokenKind.{TokenKind}
use Rattle.zig_tree.specs.declared.token.TokenKind.TheVariants as kind
use Rattle.zig_tree.specs.Kinds.{is_kind}
use Rattle.zir_form.specs.Core.{Core}
use Rattle.zir_form.specs.Core as core
use Rattle.zir_astgen.specs.Chains.{made_prefix, operand, prefix_by, tried, unary_by}
use Rattle.zir_astgen.specs.Leaving.{OperandBy}
use Rattle.zir_astgen.specs.Levels.{Level, return_from}
use Rattle.zir_astgen.specs.Operators.{unary_of}
use Rattle.zir_astgen.specs.Parts.{Parts, ended, token, part, has_token, is_there, token_in}
use Rattle.zir_astgen.specs.Site.{File, Site, offset}

prefix_same : (a b : Option (List Core)) (p : ℕ) (k : TokenKind) (x y : Core) → is_kind k kind.KeywordTry ≡ false → x ≡ y → prefix_by a p k x ≡ prefix_by b p k y
unfolding prefix_by
prefix_same a b p k x y e h =
    let by : Option (List Core) → Bool → Core = λ l t. if is_kind k kind.Ampersand then core.address p y else (if t then tried p y l else unary_by p (unary_of k) y) in
    ap (λ (c : Core). prefix_by a p k c) h ∙ ap (by a) e ∙ sym (ap (by b) e)

-- of a row without one neither its first token nor the rest is one
record Without (k : TokenKind) (more : Parts) : Type 0 where
  here : is_kind k kind.KeywordTry ≡ false
  later : has_token kind.KeywordTry more ≡ false

without : (t : ℕ) (k : TokenKind) (more : Parts) → has_token kind.KeywordTry (token t k more) ≡ false → Without k more
unfolding has_token token_in
without t k more h = by (is_kind k kind.KeywordTry) refl h
  where
    by : (b : Bool) → is_kind k kind.KeywordTry ≡ b → is_there (if b then Some t else token_in kind.KeywordTry more) ≡ false → Without k more
    by true e g = absurd (cc)
    by false e g = record { here = e; later = g }

operand_without : (f : File) (s : Site) (a b : Option (List Core)) (parts : Parts) → has_token kind.KeywordTry parts ≡ false → operand f s a parts ≡ operand f s b parts
unfolding operand
operand_without f s a b ended h = refl
operand_without f s a b (part r inside first tree more) h = refl
operand_without f s a b (token t k more) h =
    let w = without t k more h in
    prefix_same a b (offset f s t) k (operand f s a more) (operand f s b more) w.here (operand_without f s a b more w.later)

pub operand_with : (f : File) (s : Site) (levels : List Level) (parts : Parts) (leaves : Option (List Core)) → leaves ≡ return_from true levels → OperandBy f s levels parts leaves
unfolding made_prefix
operand_with f s levels parts leaves e = ap (λ (l : Option (List Core)). operand f s l parts) e

pub operand_none : (f : File) (s : Site) (levels : List Level) (parts : Parts) → has_token kind.KeywordTry parts ≡ false → OperandBy f s levels parts None
unfolding made_prefix
operand_none f s levels parts h = operand_without f s None (return_from true levels) parts h

pub ruleset leaving_steps = (operand_with, operand_none)
