use Rattle.std.proofs.Common.{◌≡◌, List, ℕ, ap, sym, ◌∙◌, subst, rules}
use Rattle.std.specs.Prelude.{IsSome}
use Rattle.std.specs.BTreeMap.{insert_entry}
use Rattle.std.specs.Ordering.{nat_cmp}
use Rattle.std.specs.Cmp.Lexicographic.{slice_cmp}
use Rattle.diag_order.specs.Sorted.{text_in}
use Rattle.watch_core.specs.Compile.{Files}
use Rattle.watch_core.specs.Placing.{AreTexts}
use Rattle.watch_core.specs.Sources.{at_path}
use Rattle.watch_core.proofs.PlaceLemmas.{texts_more, there_new, there_stay}
use Rattle.watch_core.proofs.placing.put_text.Goals as goal

put : (old new : Files) (files : Files) (path key text : List ℕ) → new ≡ insert_entry (slice_cmp nat_cmp) old key text → key ≡ path → text ≡ text_in files path → new ≡ insert_entry (slice_cmp nat_cmp) old path (text_in files path)
put old new files path key text e k t = e ∙ ap (λ (x : List ℕ). insert_entry (slice_cmp nat_cmp) old x text) k ∙ ap (λ (x : List ℕ). insert_entry (slice_cmp nat_cmp) old path x) t

pub returns-clause-texts : goal.returns-clause-texts
returns-clause-texts c =
    let key : c.in_ok-clone.field-0 ≡ c.args.path.now = search rules in
    let entries = put c.args.texts.now.entries c.insert.new.self.entries c.args.files.now.entries c.args.path.now c.in_ok-clone.field-0 c.of.result c.in_ok-insert.ensures.entries key (c.of.ensures ∙ c.in_ok-text.ensures.items ∙ c.text_in.ensures) in
    subst (AreTexts c.args.files.now.entries) (sym entries) (texts_more c.args.files.now.entries c.args.texts.now.entries c.args.path.now c.requires)

pub returns-clause-there : goal.returns-clause-there
returns-clause-there c =
    let key : c.in_ok-clone.field-0 ≡ c.args.path.now = search rules in
    let entries = put c.args.texts.now.entries c.insert.new.self.entries c.args.files.now.entries c.args.path.now c.in_ok-clone.field-0 c.of.result c.in_ok-insert.ensures.entries key (c.of.ensures ∙ c.in_ok-text.ensures.items ∙ c.text_in.ensures) in
    subst (λ (t : Files). IsSome (at_path t c.args.path.now)) (sym entries) (there_new c.args.texts.now.entries c.args.path.now (text_in c.args.files.now.entries c.args.path.now))

pub returns-clause-stay : goal.returns-clause-stay
returns-clause-stay c q there =
    let key : c.in_ok-clone.field-0 ≡ c.args.path.now = search rules in
    let entries = put c.args.texts.now.entries c.insert.new.self.entries c.args.files.now.entries c.args.path.now c.in_ok-clone.field-0 c.of.result c.in_ok-insert.ensures.entries key (c.of.ensures ∙ c.in_ok-text.ensures.items ∙ c.text_in.ensures) in
    subst (λ (t : Files). IsSome (at_path t q)) (sym entries) (there_stay c.args.texts.now.entries c.args.path.now (text_in c.args.files.now.entries c.args.path.now) q there)
