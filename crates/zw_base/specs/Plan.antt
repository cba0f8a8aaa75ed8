-- Which calls of an object in memory are to fail.
use Rattle.std.specs.Prelude.{ℕ, ◌+◌, ◌-◌, ◌^◌, ◌==◌, min, Bool, if◌then◌else◌, List}
use Rattle.std.specs.List.{list_any}

-- the numbers of the calls that are to fail, counted from 1; how many calls and how many faults there were
pub record Plan : Type 0 where
  pub failing : List ℕ
  pub calls : ℕ
  pub faults : ℕ

-- a kept count after one more
abbrev pub counted : ℕ → ℕ
counted n = min (n + 1) (2 ^ 64 - 1)

-- whether the next call is to fail
abbrev pub fails_next : Plan → Bool
fails_next plan = list_any (λ n. n == counted plan.calls) plan.failing

-- the plan after a call
abbrev pub after_call : Plan → Plan
after_call plan = record {
  failing = plan.failing;
  calls = counted plan.calls;
  faults = if fails_next plan then counted plan.faults else plan.faults;
}

-- the plan after a fault of another cause
abbrev pub after_fault : Plan → Plan
after_fault plan = record plan { faults = counted plan.faults }
