-- What contracts see of a listener in memory, and what its calls do.
use Rattle.std.specs.Prelude.{ℕ, ◌-◌, ◌==◌, Bool, if◌then◌else◌, ◌||◌, List, [], ◌∷◌, ◌++◌, Result, Ok, Err}
use Rattle.zw_base.specs.Plan.{Plan, fails_next, after_call, after_fault}
use Rattle.zw_base.specs.declared.sink.Failed.{Failed}
use Rattle.zw_base.specs.declared.listener.Report.{Report}

-- the reports that it has heard, how many more it takes, and the calls that are to fail
pub record ListenerState : Type 0 where
  pub heard : List Report
  pub room : ℕ
  pub plan : Plan

-- whether the next call fails
abbrev pub fails_to_hear : ListenerState → Bool
fails_to_hear listener = fails_next listener.plan || (listener.room == 0)

-- what the next call answers
abbrev pub told_of : ListenerState → Result (Unit {0}) Failed
told_of listener = if fails_to_hear listener then Err (record {}) else Ok tt

-- the state after a call with this report
abbrev pub after_told : ListenerState → Report → ListenerState
after_told listener report =
    if fails_next listener.plan then record listener { plan = after_call listener.plan }
    else if listener.room == 0 then record listener { plan = after_fault (after_call listener.plan) }
    else record {
      heard = listener.heard ++ report ∷ [];
      room = listener.room - 1;
      plan = after_call listener.plan;
    }
