use Rattle.std.proofs.Common.{◌≡◌, List, ℕ, ap, sym, ◌∙◌, subst}
use Rattle.zw_base.specs.Limits.{AreWithin, sizes_of}
use Rattle.zw_base.specs.declared.limits.TheConstants.{LIMITS}
use Rattle.watch_core.specs.Compile.{Files}
use Rattle.watch_core.specs.SessionState.{total_bytes, with_file}
use Rattle.watch_core.specs.Sources.{AreRead}
use Rattle.watch_core.proofs.LimitLemmas.{within_more}
use Rattle.watch_core.proofs.session.Session.set_file.Goals as goal

pub invariant_of-self : goal.invariant_of-self
invariant_of-self c =
    let entries : c.insert.new.self.entries ≡ with_file c.self.inside.files.entries c.args.path c.args.bytes.items =
    c.in-Ok.ensures.entries ∙ ap (λ (b : List ℕ). with_file c.self.inside.files.entries c.args.path b) c.of.ensures in
    record {
      within = subst (λ (f : Files). AreWithin LIMITS (sizes_of f)) (sym entries) (within_more c.self.inside.files.entries c.args.path c.args.bytes.items (rw c.as_slice.ensures.value at c.in_ok-total.ensures.limit));
      total_is = c.in_ok-total.ensures.total ∙ ap (λ (b : List ℕ). total_bytes (with_file c.self.inside.files.entries c.args.path b)) c.as_slice.ensures.value ∙ ap total_bytes (sym entries);
      read = subst (AreRead c.forget_other.new.sources.entries) (sym entries) (rw c.as_slice-2.ensures.value at c.forget_other.ensures.change);
    }
