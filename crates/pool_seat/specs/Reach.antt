-- What the indices of a list reach.
use Rattle.std.specs.Prelude.{ℕ, Bool, List}
use Rattle.type_form.specs.declared.index.Index.{Index}
use Rattle.type_form.specs.Known.{Known}
use Rattle.type_form.specs.Reach.{Reaches}
use Rattle.pool_words.specs.Rule.{In}

abbrev pub Reached : Known → List Index → Bool → ℕ → Type 0
Reached k live = Reaches k (λ i. In i live)
