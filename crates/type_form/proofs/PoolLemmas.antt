-- Calls on tables of keys, one after the other.
use Rattle.std.proofs.Common.{ℕ, ◌∙◌, Bool, false, ap}
use Rattle.type_form.specs.Known.{Known}
use Rattle.type_form.specs.Pool.{count_after, Interns}
use Rattle.type_form.proofs.MeansLemmas.{Grows-trans}

-- calls none of which answered Full, and then others
pub Interns-then : {S H : Type 0} {known : S → Known} {home : S → H} {fulls : S → ℕ} {a b c : S} {full : Bool}
    → Interns known home fulls a b false → Interns known home fulls b c full → Interns known home fulls a c full
Interns-then {full = full} i j = record {
  grows = Grows-trans _ _ _ i.grows j.grows;
  same_home = j.same_home ∙ i.same_home;
  counts = j.counts ∙ ap (count_after full) i.counts;
}
