-- How faults are counted, and when one may be told. This profile's choice.
use Rattle.std.specs.Prelude.{◌≡◌, ◌≢◌, ℕ, ◌+◌, ◌-◌, ◌^◌, min, max, Result, Ok, Err, OnOk, OnErr, IfErr}

-- there was one fault more: the count is one higher, up to the last value of a u64, at which it stands
abbrev pub Rose : ℕ → ℕ → Type 0
Rose before now = now ≡ max before (min (before + 1) (2 ^ 64 - 1))

-- an error is answered exactly where one fault more was counted
pub record CountsFault {T E : Type 0} (before now : ℕ) (result : Result T E) : Type 0 where
  pub steady : OnOk result (now ≡ before)
  pub failed : OnErr result (Rose before now)

-- the count is as it was, unless this error is answered
abbrev pub SteadyBut : {T E : Type 0} → E → ℕ → ℕ → Result T E → Type 0
SteadyBut fault before now (Ok value) = now ≡ before
SteadyBut fault before now (Err error) = error ≢ fault → now ≡ before

-- this error is answered exactly where one fault more was counted
pub record CountsFaultAs {T E : Type 0} (told : E) (before now : ℕ) (result : Result T E) : Type 0 where
  pub steady : SteadyBut told before now result
  pub fault : IfErr result (λ e. e ≡ told → Rose before now)
