-- What a source answers, and what its calls do to the bytes that are left.
use Rattle.std.specs.Prelude.{ℕ, min, if◌then◌else◌, List, ◌++◌, length, take, drop, Option, Result, Ok, Err}
use Rattle.std.specs.Option.{option_map}
use Rattle.zw_base.specs.Plan.{Plan, fails_next, after_call}
use Rattle.zw_base.specs.declared.sink.Failed.{Failed}

-- What was left before a call, by what is left after it: the bytes that came into the buffer stood in front. A
-- call that fails has taken nothing.
abbrev pub left_before : {E : Type 0} → Option (List ℕ) → List ℕ → Result ℕ E → Option (List ℕ)
left_before left into (Ok n) = option_map (λ rest. take n into ++ rest) left
left_before left into (Err _) = left

-- the bytes that are left, how many come in one call at most, and the calls that are to fail
pub record SourceState : Type 0 where
  pub left : List ℕ
  pub most : ℕ
  pub plan : Plan

-- how many bytes a call for this many gives that doesn't fail
abbrev pub given : SourceState → ℕ → ℕ
given source wanted = min wanted (min source.most (length source.left))

-- what the next call for this many bytes answers
abbrev pub read_of : SourceState → ℕ → Result ℕ Failed
read_of source wanted = if fails_next source.plan then Err (record {}) else Ok (given source wanted)

-- the state after a call for this many bytes
abbrev pub after_read : SourceState → ℕ → SourceState
after_read source wanted =
    if fails_next source.plan then record source { plan = after_call source.plan }
    else record {
      left = drop (given source wanted) source.left;
      most = source.most;
      plan = after_call source.plan;
    }
