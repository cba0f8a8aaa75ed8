use Rattle.std.proofs.Common.{◌≡◌, List, ℕ, ap, sym, ◌∙◌, subst, rules}
use Rattle.zw_base.specs.declared.limits.TheConstants.{TOTAL_BYTES}
use Rattle.std.specs.BTreeMap.{insert_entry}
use Rattle.std.specs.Ordering.{nat_cmp}
use Rattle.std.specs.Cmp.Lexicographic.{slice_cmp}
use Rattle.zir_form.specs.declared.front.Front.{Front}
use Rattle.zir_form.specs.Front.{front_in}
use Rattle.watch_core.specs.Front.{front_of}
use Rattle.watch_core.specs.Sources.{AreRead}
use Rattle.watch_core.proofs.FilesLemmas.{read_more, text_within}
use Rattle.watch_core.proofs.sources.read_source.Goals as goal

pub front_of-requires : goal.front_of-requires
front_of-requires c = rw c.text_in.ensures (text_within c.args.files.now.entries c.args.path.now TOTAL_BYTES c.requires.total)

pub returns-clause-read : goal.returns-clause-read
returns-clause-read c =
    let key : c.in_ok-clone.field-0 ≡ c.args.path.now = search rules in
    let entries : c.insert.new.self.entries ≡ insert_entry (slice_cmp nat_cmp) c.args.sources.now.entries c.args.path.now c.in_ok-front.front =
    c.in_ok-insert.ensures.entries ∙ ap (λ (k : List ℕ). insert_entry (slice_cmp nat_cmp) c.args.sources.now.entries k c.in_ok-front.front) key in
    subst (λ (s : List (List ℕ × Front)). AreRead s c.args.files.now.entries) (sym entries)
    (read_more c.args.sources.now.entries c.args.files.now.entries c.args.path.now c.in_ok-front.front c.requires.read (ap front_in c.in_ok-front.ensures ∙ c.in_ok-read.ensures ∙ ap front_of c.text_in.ensures))
