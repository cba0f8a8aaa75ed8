-- A join of a seat that has no writer's part keeps the rule.
use Rattle.std.proofs.Common.{◌≡◌, ⊎_elim, ℕ, ◌<◌, [], set, refl, sym, ◌∙◌, subst, arith}
use mathlib.Core.Option.{some}
use lib.ListN.{get_elem?}
use Rattle.atomic_table.specs.Table.{Joins}
use Rattle.atomic_table.proofs.Lists.{at_set, set_else}
use Rattle.pool_words.specs.declared.view.Layout.{Layout}
use Rattle.pool_words.specs.declared.view.View.{View}
use Rattle.pool_words.specs.Views.{IsLive, Knows, Holds, informed, spent_view}
use Rattle.pool_words.proofs.Turns.{IsShared-set}

pub dead : (u : View) → spent_view ≡ u → IsLive u → ⊥
dead u e l = let z : 0 < 0 = subst IsLive (sym e) l in absurd (omega arith)

pub joins : {S : Type 0} (z : Layout) (id : ℕ) (v : View) (other : ℕ) (w : View) → IsLive v → IsLive w → w.writes ≡ [] → Joins {S = S} (Holds z) id v other w (informed v w) spent_view
joins z id v other w lv lw none st h at ne there =
    let k = h.known id v at lv in
    let before : get_elem? st.views other ≡ some w = sym (set_else st.views id other (informed v w) ne) ∙ there in
    let kw = h.known other w before lw in
    let knows : Knows z st.words h.log (informed v w) = record { layout = k.layout; pool = k.pool; earlier = k.earlier; owns = k.owns; told = kw.earlier.grows } in
    record {
      log = h.log;
      laid = h.laid;
      pool = h.pool;
      known = λ j u g live. ⊎_elim (λ a. absurd (dead u a.1 live))
          (λ a. ⊎_elim (λ b. subst (Knows z st.words h.log) b.1 knows) (λ b. h.known j u b.1 live) (at_set st.views id j (informed v w) u a.1))
          (at_set (set st.views id (informed v w)) other j spent_view u g);
      shared = IsShared-set z (set st.views id (informed v w)) other w spent_view (IsShared-set z st.views id v (informed v w) h.shared at refl) there (sym none);
    }
