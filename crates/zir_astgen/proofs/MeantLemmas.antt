-- The lines of captured locals, one after the other.
use Rattle.std.proofs.Common.{◌≡◌, ℕ, ◌≤◌, List, [], ◌∷◌, ◌++◌, length, map, get_or, ◌∙◌, ap, subst, arith}
use Rattle.zir_form.specs.Core.{Core}
use Rattle.zir_form.specs.Lines.{tree_at}
use Rattle.zir_astgen.specs.Firsts.{Adds, AreBelow, Grows}
use Rattle.zir_astgen.specs.Site.{Site, captures_at, local_at}
use Rattle.zir_astgen.proofs.AddLemmas.{all_push}
use Rattle.zir_astgen.proofs.IndexLemmas.{behind, behind_first}

pub captures_step : (s t : Site) (p : ℕ) (old between now : List Core) (lines after rest : List ℕ) (line : ℕ) (all : List Core)
    → t ≡ s → 1 ≤ length rest → Grows old between → AreBelow (length between) lines → Adds between now (local_at t p (get_or rest 0 0)) line
    → after ≡ lines ++ line ∷ [] → map (tree_at between) lines ++ captures_at s p rest ≡ all
    → AreBelow (length now) after × (map (tree_at now) after ++ captures_at s p (behind rest) ≡ all)
unfolding captures_at
captures_step s t p old between now lines after [] line all e le g inside adds is h = absurd (omega (arith, le))
captures_step s t p old between now lines after (x ∷ more) line all e le g inside adds is h =
    let r : AreBelow (length now) after × (map (tree_at now) after ++ captures_at s p more ≡ all) =
    all_push old between now lines after line (local_at s p x) (captures_at s p more) all g inside (subst (λ (y : Site). Adds between now (local_at y p x) line) e adds) is h in
    (r.0, ap (λ (l : List ℕ). map (tree_at now) after ++ captures_at s p l) (behind_first x more) ∙ r.1)
