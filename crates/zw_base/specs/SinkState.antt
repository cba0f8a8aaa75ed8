-- What contracts see of a sink in memory, and what its calls do.
use Rattle.std.specs.Prelude.{ℕ, ◌-◌, ◌==◌, min, Bool, if◌then◌else◌, ◌&&◌, ◌||◌, nat_lt, List, ◌++◌, length, take, Result, Ok, Err}
use Rattle.zw_base.specs.Plan.{Plan, fails_next, after_call, after_fault}
use Rattle.zw_base.specs.declared.sink.Failed.{Failed}

-- what it has taken, how many bytes more it takes, how many in one call at most, and the calls that are to fail
pub record SinkState : Type 0 where
  pub taken : List ℕ
  pub room : ℕ
  pub most : ℕ
  pub plan : Plan

-- how much of a piece a call takes that doesn't fail
abbrev pub portion : SinkState → List ℕ → ℕ
portion sink piece = min (length piece) (min sink.most sink.room)

-- a piece that isn't empty finds no room left
abbrev pub is_full : SinkState → List ℕ → Bool
is_full sink piece = nat_lt 0 (length piece) && (sink.room == 0)

-- whether the next call with this piece fails
abbrev pub fails_at : SinkState → List ℕ → Bool
fails_at sink piece = fails_next sink.plan || is_full sink piece

-- the state after a call with this piece
abbrev pub after_write : SinkState → List ℕ → SinkState
after_write sink piece =
    if fails_next sink.plan then record sink { plan = after_call sink.plan }
    else if is_full sink piece then record sink { plan = after_fault (after_call sink.plan) }
    else record {
      taken = sink.taken ++ take (portion sink piece) piece;
      room = sink.room - portion sink piece;
      most = sink.most;
      plan = after_call sink.plan;
    }

-- what the next call with this piece answers
abbrev pub written_of : SinkState → List ℕ → Result ℕ Failed
written_of sink piece = if fails_at sink piece then Err (record {}) else Ok (portion sink piece)
