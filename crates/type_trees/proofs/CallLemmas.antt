-- Calls that read a table of keys, one after the other.
use Rattle.std.proofs.Common.{ℕ, ◌∙◌}
use Rattle.type_form.specs.Known.{Known}
use Rattle.type_form.specs.Pool.{Reads}
use Rattle.type_form.proofs.MeansLemmas.{Grows-trans}

pub Reads-trans : {S H : Type 0} {known : S → Known} {home : S → H} {fulls : S → ℕ} {a b c : S}
    → Reads known home fulls a b → Reads known home fulls b c → Reads known home fulls a c
Reads-trans r s = record {
  grows = Grows-trans _ _ _ r.grows s.grows;
  same_home = s.same_home ∙ r.same_home;
  same_fulls = s.same_fulls ∙ r.same_fulls;
}
