-- Which index stands for a tree: among the pairs that an interner knows, the first whose index does.
use Rattle.std.specs.Prelude.{ℕ, Bool, false, List, [], ◌∷◌, Option, Some, None, if◌then◌else◌}
use Rattle.std.specs.Option.{option_map}
use Rattle.std.specs.Str.{bytes_eq}
use Rattle.type_form.specs.declared.index.Index.{Index}
use Rattle.type_form.specs.declared.unit.Unit.{Unit as AnyUnit}
use Rattle.type_form.specs.declared.unit.Unit.TheVariants as unit
use Rattle.type_form.specs.Known.{Known}
use Rattle.type_form.specs.Denote.{denoted, ty_in, decl_in, instance_in, bytes_in}
use Rattle.elab_form.specs.Questions.{same_unit}
use Rattle.trace_log.specs.declared.question.UnitIndex.{UnitIndex}
use Rattle.trace_log.specs.declared.question.UnitIndex.TheVariants as index

-- the first index that a test takes
abbrev pub index_where : Known → (Index → Bool) → Option Index
index_where [] test = None
index_where (p ∷ ps) test = if test p.0 then Some p.0 else index_where ps test

-- whether there is one that a test takes
abbrev pub is_some_that : {A : Type 0} → (A → Bool) → Option A → Bool
is_some_that test None = false
is_some_that test (Some x) = test x

unfoldable pub has_bytes : Known → List ℕ → Index → Bool
has_bytes k bytes i = is_some_that (λ b. bytes_eq b bytes) (bytes_in (denoted k) i)

unfoldable pub has_unit : {A : Type 0} → (A → AnyUnit) → AnyUnit → Option A → Bool
has_unit of u found = is_some_that (λ x. same_unit (of x) u) found

-- the index of a list of bytes
unfoldable pub bytes_index : Known → List ℕ → Option Index
bytes_index k bytes = index_where k (has_bytes k bytes)

-- the unit by indices that a unit is
unfoldable pub unit_index : Known → AnyUnit → Option UnitIndex
unit_index k (unit.Decl d) = option_map index.Decl (index_where k (λ i. has_unit unit.Decl (unit.Decl d) (decl_in (denoted k) i)))
unit_index k (unit.Body n) = option_map index.Body (index_where k (λ i. has_unit unit.Body (unit.Body n) (instance_in (denoted k) i)))
unit_index k (unit.ErrorSet n) = option_map index.ErrorSet (index_where k (λ i. has_unit unit.ErrorSet (unit.ErrorSet n) (instance_in (denoted k) i)))
unit_index k (unit.Fields t) = option_map index.Fields (index_where k (λ i. has_unit unit.Fields (unit.Fields t) (ty_in (denoted k) i)))
unit_index k (unit.Code n) = option_map index.Code (index_where k (λ i. has_unit unit.Code (unit.Code n) (instance_in (denoted k) i)))
unit_index k (unit.Comptime file number) = option_map (λ i. index.Comptime i number) (bytes_index k file)
