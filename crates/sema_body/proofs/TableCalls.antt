-- Calls on a table of keys, one after the other.
use Rattle.std.proofs.Common.{ℕ, ◌∙◌, ap, Bool, false}
use Rattle.type_form.specs.Known.{Known}
use Rattle.type_form.specs.Pool.{count_after, Reads, Interns}
use Rattle.type_form.proofs.MeansLemmas.{Grows-trans}

-- calls that read, and then others that intern
pub Reads-then : {S H : Type 0} {known : S → Known} {home : S → H} {fulls : S → ℕ} {a b c : S} {full : Bool}
    → Reads known home fulls a b → Interns known home fulls b c full → Interns known home fulls a c full
Reads-then {full = full} r i = record {
  grows = Grows-trans _ _ _ r.grows i.grows;
  same_home = i.same_home ∙ r.same_home;
  counts = i.counts ∙ ap (count_after full) r.same_fulls;
}

-- calls that read
pub Reads-alone : {S H : Type 0} {known : S → Known} {home : S → H} {fulls : S → ℕ} {a b : S} → Reads known home fulls a b → Interns known home fulls a b false
Reads-alone r = record { grows = r.grows; same_home = r.same_home; counts = r.same_fulls }

-- calls that intern, and then others
pub Interns-then : {S H : Type 0} {known : S → Known} {home : S → H} {fulls : S → ℕ} {a b c : S} {full : Bool}
    → Interns known home fulls a b false → Interns known home fulls b c full → Interns known home fulls a c full
Interns-then {full = full} i j = record {
  grows = Grows-trans _ _ _ i.grows j.grows;
  same_home = j.same_home ∙ i.same_home;
  counts = j.counts ∙ ap (count_after full) i.counts;
}
