-- What rows that name lines stand for, and that their lines are there.
use Rattle.std.specs.Prelude.{ℕ, ◌<◌, List, [], ◌∷◌, ◌++◌, map, Option, Some, None}
use Rattle.zir_form.specs.Core.{Core}
use Rattle.zir_form.specs.File.{Declaration, Container, Block}
use Rattle.zir_form.specs.Tables.{block_of, container_of, declaration_of}
use Rattle.zir_form.specs.declared.table.DeclarationRow.{DeclarationRow}
use Rattle.zir_form.specs.declared.table.ContainerRow.{ContainerRow}
use Rattle.zir_form.specs.declared.table.BlockRow.{BlockRow}

-- ---- each line is one of so many

abbrev pub IsBelow : ℕ → Option ℕ → Type 0
IsBelow count None = Unit {0}
IsBelow count (Some line) = line < count

abbrev pub DeclarationsBelow : ℕ → List DeclarationRow → Type 0
DeclarationsBelow count [] = Unit {0}
DeclarationsBelow count (r ∷ more) = IsBelow count r.head × (r.whole < count) × DeclarationsBelow count more

abbrev pub ContainersBelow : ℕ → List ContainerRow → Type 0
ContainersBelow count [] = Unit {0}
ContainersBelow count (r ∷ more) = (r.fields < count) × ContainersBelow count more

abbrev pub BlocksBelow : ℕ → List BlockRow → Type 0
BlocksBelow count [] = Unit {0}
BlocksBelow count (r ∷ more) = (r.line < count) × BlocksBelow count more

pub record RowsBelow (count : ℕ) (ds : List DeclarationRow) (cs : List ContainerRow) (bs : List BlockRow) : Type 0 where
  pub declarations : DeclarationsBelow count ds
  pub containers : ContainersBelow count cs
  pub blocks : BlocksBelow count bs

-- ---- what they stand for

pub record Filed : Type 0 where
  pub declarations : List Declaration
  pub containers : List Container
  pub blocks : List Block

abbrev pub filed_by : List Core → List DeclarationRow → List ContainerRow → List BlockRow → Filed
filed_by trees ds cs bs = record { declarations = map (declaration_of trees) ds; containers = map (container_of trees) cs; blocks = map (block_of trees) bs }

-- some more of each
abbrev pub filed_more : Filed → List Declaration → List Container → List Block → Filed
filed_more f ds cs bs = record { declarations = f.declarations ++ ds; containers = f.containers ++ cs; blocks = f.blocks ++ bs }
