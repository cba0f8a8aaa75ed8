use Rattle.std.proofs.Common.{ℕ, List, ◌∷◌, [], length, map, sym, ◌∙◌, ap, subst}
use Rattle.std.proofs.lemmas.List.{map-append}
use Rattle.zir_form.specs.Core.{Core}
use Rattle.zir_form.specs.Lines.{tree_at}
use Rattle.zir_astgen.specs.Asking.{asked_of}
use Rattle.zir_astgen.specs.Firsts.{AreBelow}
use Rattle.zir_astgen.specs.Names.{Asked}
use Rattle.zir_astgen.specs.Writing.{trees}
use Rattle.zir_astgen.proofs.AddLemmas.{are_below_push, grows_none}
use Rattle.zir_astgen.proofs.writer.Writer.one_more.Goals as goal

pub returns : goal.returns
returns c =
    let now = trees c.args.self.now in
    let a : Asked = asked_of now c.args.asking in
    let pushed = c.in_ok-push.ensures.items in
    record {
      grows = grows_none _;
      object = c.requires.object;
      items = subst (λ (l : List ℕ). AreBelow (length now) l) (sym pushed) (are_below_push _ _ _ c.requires.items c.requires.inside);
      is = ap (λ (cs : List Core). record a { items = cs }) (ap (map (tree_at now)) pushed ∙ map-append (tree_at now) c.args.asking.items.items (c.args.line ∷ []));
    }
