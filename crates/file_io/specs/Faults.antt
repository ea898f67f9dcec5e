-- Faults of reading and writing, and the counts that tell of them.
use Rattle.std.specs.Prelude.{◌≡◌, ◌≢◌, ◌==◌, ℕ, Bool, List, ◌+◌, ◌-◌, ◌^◌, ◌<◌, ◌≤◌, min, Result, Ok, Err, OnOk, OnErr}
use Rattle.std.specs.List.{list_any}

-- the count rose, unless it stood at its last value
abbrev pub Rose : ℕ → ℕ → Type 0
Rose before now = before ≢ 2 ^ 64 - 1 → before < now

-- the count never falls, and an error comes only where it rose
pub record HasCause {T E : Type 0} (before now : ℕ) (result : Result T E) : Type 0 where
  pub later : before ≤ now
  pub failed : OnErr result (Rose before now)

-- the count changed only where the call failed
abbrev pub ChangedOnlyIfFailed : {T E : Type 0} → ℕ → ℕ → Result T E → Type 0
ChangedOnlyIfFailed before now result = OnOk result (now ≡ before)

-- the count after one more fault
abbrev pub one_more : ℕ → ℕ
one_more count = min (count + 1) (2 ^ 64 - 1)

-- the count after a call: one more where it failed, else as before
abbrev pub count_after : {T E : Type 0} → ℕ → Result T E → ℕ
count_after before (Ok _) = before
count_after before (Err _) = one_more before

-- whether the call with this number is one of those that are to fail
abbrev pub is_to_fail : List ℕ → ℕ → Bool
is_to_fail failing call = list_any (λ number. number == call) failing
