-- What the calls on tables of keys keep, and when they count a Full answer.
use Rattle.std.specs.Prelude.{◌≡◌, ℕ, Bool, true, false, Result, Err}
use Rattle.zw_base.specs.Outside.{one_call_more}
use Rattle.type_form.specs.declared.pool.InternFault.{InternFault}
use Rattle.type_form.specs.declared.pool.InternFault.TheVariants.{Full}
use Rattle.type_form.specs.Known.{Known}
use Rattle.type_form.specs.Means.{Grows}

-- the answer is Full
abbrev pub is_full : {A : Type 0} → Result A InternFault → Bool
is_full (Err (Full shard)) = true
is_full _ = false

-- a count of Full answers after one more answer
abbrev pub count_after : Bool → ℕ → ℕ
count_after true n = one_call_more n
count_after false n = n

-- calls that read: all that was known stays, and so do the table and its count of Full answers
pub record Reads {S H : Type 0} (known : S → Known) (home : S → H) (fulls : S → ℕ) (old new : S)
    : Type 0 where
  pub grows : Grows (known old) (known new)
  pub same_home : home new ≡ home old
  pub same_fulls : fulls new ≡ fulls old

-- Calls that read and intern, and end at the first answer that is Full: all that was known stays, and
-- so does the table. The last answer is counted if it is Full
pub record Interns {S H : Type 0} (known : S → Known) (home : S → H) (fulls : S → ℕ) (old new : S)
    (full : Bool) : Type 0 where
  pub grows : Grows (known old) (known new)
  pub same_home : home new ≡ home old
  pub counts : fulls new ≡ count_after full (fulls old)
