-- What is asked of an atom, part by part, and values with their names, as lines.
use Rattle.std.proofs.Common.{◌≡◌, ℕ, zero, suc, List, [], ◌∷◌, ◌++◌, length, map, slice_index_or, refl, ◌∙◌, ap}
use Rattle.zig_tree.specs.declared.token.TokenKind.{TokenKind}
use Rattle.zig_tree.specs.declared.grammar.Rule.{Rule}
use Rattle.zir_form.specs.Core.{Core}
use Rattle.zir_form.specs.Core as core
use Rattle.zir_form.specs.Lines.{tree_at}
use Rattle.zir_scope.specs.Syntax.{Syntax}
use Rattle.zir_astgen.specs.Asking.{with_item}
use Rattle.zir_astgen.specs.Firsts.{Adds, AreBelow}
use Rattle.zir_astgen.specs.Names.{Asked, asked, asked_by, values_named}
use Rattle.zir_astgen.specs.Parts.{Parts, token, part}
use Rattle.zir_astgen.specs.Site.{File, Site, bytes_of_name}
use Rattle.zir_astgen.proofs.AddLemmas.{all_push, grows_none}

module _ (f : File) (s : Site) (p : ℕ) (whole : Core) where
  pub asked_word : (t : ℕ) (k : TokenKind) (more : Parts) (a next : Asked) → next ≡ asked_by f s p t k a → asked f s p a (token t k more) ≡ whole → asked f s p next more ≡ whole
  unfolding asked
  asked_word t k more a next e h = ap (λ (x : Asked). asked f s p x more) e ∙ h

  pub asked_node : (r : Rule) (inside : Syntax) (first : ℕ) (more : Parts) (a next : Asked) (tree there : Core) → next ≡ with_item a there → there ≡ tree
      → asked f s p a (part r inside first tree more) ≡ whole → asked f s p next more ≡ whole
  unfolding asked
  asked_node r inside first more a next tree there e same h = ap (λ (x : Asked). asked f s p x more) (e ∙ ap (with_item a) same) ∙ h

-- the tree of an item, or of what is left out
pub item_tree : (trees : List Core) (items : List ℕ) (i : ℕ) → tree_at trees 1 ≡ core.absent → tree_at trees (slice_index_or items i 1) ≡ slice_index_or (map (tree_at trees) items) i core.absent
item_tree trees [] i e = e
item_tree trees (n ∷ more) zero e = refl
item_tree trees (n ∷ more) (suc i) e = item_tree trees more i e

-- one value more
pub named_step : (f : File) (name : ℕ) (r : Rule) (inside : Syntax) (first : ℕ) (tree : Core) (more : Parts) (between now : List Core) (lines after : List ℕ) (line : ℕ) (all : List Core)
    → AreBelow (length between) lines → Adds between now (core.named_value (bytes_of_name f name) tree) line → after ≡ lines ++ line ∷ []
    → map (tree_at between) lines ++ values_named f name (part r inside first tree more) ≡ all → map (tree_at now) after ++ values_named f name more ≡ all
unfolding values_named
named_step f name r inside first tree more between now lines after line all below adds is h =
    (all_push between between now lines after line (core.named_value (bytes_of_name f name) tree) (values_named f name more) all (grows_none between) below adds is h).1
