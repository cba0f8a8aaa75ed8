-- Spellings of units that are not too long, and of instances in those of their code.
use Rattle.std.proofs.Common.{◌≡◌, ℕ, ◌≤◌, List, length, drop, false, sym, ap, subst, arith, codes, length-append}
use Rattle.std.proofs.lemmas.Bool.Decides.{nat_tests}
use Rattle.type_form.specs.declared.unit.Instance.{Instance}
use Rattle.type_form.specs.declared.unit.Unit.{Unit as AnyUnit}
use Rattle.type_form.specs.declared.unit.Unit.TheVariants as unit
use Rattle.type_form.specs.Spelling.{instance_text, unit_text}
use Rattle.elab_form.specs.Units.{is_too_long, longest_spelling}

pub not-long : (u : AnyUnit) → is_too_long u ≡ false → length (unit_text u) ≤ 4096
unfolding longest_spelling
not-long u e = grind (arith, nat_tests, e)

-- the word before an instance
pub code-long : (n : Instance) (text : List ℕ) → text ≡ unit_text (unit.Code n) → 5 ≤ length text
unfolding unit_text
code-long n text e = subst (λ (t : List ℕ). 5 ≤ length t) (sym e) (omega (arith, length-append (codes "code ") (instance_text n)))

pub code-rest : (n : Instance) (text : List ℕ) → text ≡ unit_text (unit.Code n) → drop 5 text ≡ instance_text n
unfolding unit_text
code-rest n text e = ap (drop 5) e
