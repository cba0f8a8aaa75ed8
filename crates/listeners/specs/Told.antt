-- What telling a list of listeners does to it.
use Rattle.std.specs.Prelude.{◌≡◌, ℕ, ◌≤◌, ◌⊎◌, List, [], ◌∷◌, ◌++◌}
use Rattle.zw_base.specs.Outside.{Rose, one_call_more}
use Rattle.zw_base.specs.declared.listener.Report.{Report}

-- A listener that was told has heard the report after what it had heard.
pub record HasHeard {L : Type 0} (heard : L → List Report) (faults calls : L → ℕ) (report : Report) (before now : L) : Type 0 where
  pub heard_is : heard now ≡ heard before ++ report ∷ []
  pub faults_are : faults before ≤ faults now
  pub calls_are : calls now ≡ one_call_more (calls before)

-- A listener that failed has heard no more than before, and its count of faults rose.
pub record HasFailed {L : Type 0} (heard : L → List Report) (faults calls : L → ℕ) (before now : L) : Type 0 where
  pub heard_is : heard now ≡ heard before
  pub rose : Rose (faults before) (faults now)
  pub calls_are : calls now ≡ one_call_more (calls before)

-- Each of the listeners was told once: `stay` are those that heard, and `moved` those that failed, both in the
-- order of the list.
abbrev pub AllTold : {L : Type 0} → (L → List Report) → (L → ℕ) → (L → ℕ) → Report → List L → List L → List L → Type 0
AllTold heard faults calls report [] stay moved = (stay ≡ []) × (moved ≡ [])
AllTold {L} heard faults calls report (x ∷ xs) stay moved =
    ((now : L) × (more : List L) × (stay ≡ now ∷ more) × HasHeard heard faults calls report x now × AllTold heard faults calls report xs more moved)
    ⊎ ((now : L) × (more : List L) × (moved ≡ now ∷ more) × HasFailed heard faults calls x now × AllTold heard faults calls report xs stay more)

-- The list keeps those that heard, and those that failed stand at the end of `gone`.
abbrev pub PartsTold : {L : Type 0} → (L → List Report) → (L → ℕ) → (L → ℕ) → Report → List L → List L → List L → List L → Type 0
PartsTold {L} heard faults calls report list stay gone now = (moved : List L) × (now ≡ gone ++ moved) × AllTold heard faults calls report list stay moved

-- One turn of a queue: its first listener was told, and stands at its end, or at the end of `gone` where it failed.
abbrev pub IsTurn : {L : Type 0} → (L → List Report) → (L → ℕ) → (L → ℕ) → Report → List L → List L → List L → List L → Type 0
IsTurn {L} heard faults calls report queue after gone now =
    (first told : L) × (more : List L) × (queue ≡ first ∷ more)
    × (((after ≡ more ++ told ∷ []) × (now ≡ gone) × HasHeard heard faults calls report first told)
    ⊎ ((after ≡ more) × (now ≡ gone ++ told ∷ []) × HasFailed heard faults calls first told))
