-- What the code keeps of an exact result, which may lie beyond 128 bits.
use Rattle.std.specs.Prelude.{ℤ, pos, neg_ℤ, ◌^◌, ◌≡◌, ◌<ℤ◌, ◌≤ℤ◌}
use Rattle.std.specs.Int.{w128, int_wrap}
use Rattle.int_ops.specs.declared.exact.Exact.{Exact}
use Rattle.int_ops.specs.declared.exact.Exact.TheVariants.{Inside, Above, Below}

-- `exact` stands for z
abbrev pub StandsFor : Exact → ℤ → Type 0
StandsFor (Inside value) z = value ≡ z
StandsFor (Above left) z = (pos (2 ^ 127) ≤ℤ z) × (left ≡ int_wrap w128 z)
StandsFor (Below left) z = (z <ℤ neg_ℤ (pos (2 ^ 127))) × (left ≡ int_wrap w128 z)
