-- When events take place (ISO 9506-2, TimeOfDay and EventTime).
use Rattle.std.specs.Prelude.{◌≡◌, ◌==◌, ℕ, ◌+◌, ◌*◌, ◌/◌, ◌%◌, Bool, List, [], ◌∷◌, ◌++◌, length, refl}
use Rattle.std.proofs.Common.{arith}
use Rattle.ber_forms.specs.Value.{Value, chosen}
use Rattle.mms_types.specs.declared.condition.TimeOfDay.{TimeOfDay}
use Rattle.mms_types.specs.declared.condition.EventTime.{EventTime}
use Rattle.mms_types.specs.declared.condition.EventTime.TheVariants as time
use Rattle.pdu_names.specs.Kinds.{Kind, Choice, Arms, null, unsigned32, octets, of_one, alternatives, made_of, or, no_other}

-- a number below 2 ^ 32 in four octets, and one below 2 ^ 16 in two, the most significant octet first
abbrev pub four_octets : ℕ → List ℕ
four_octets n = n / 256 / 256 / 256 ∷ n / 256 / 256 % 256 ∷ n / 256 % 256 ∷ n % 256 ∷ []

abbrev pub two_octets : ℕ → List ℕ
two_octets n = n / 256 ∷ n % 256 ∷ []

-- milliseconds after midnight, and days after 1 January 1984
abbrev pub time_octets : TimeOfDay → List ℕ
time_octets t = four_octets t.ms ++ two_octets t.day

abbrev time_in : List ℕ → TimeOfDay
time_in (a ∷ b ∷ c ∷ d ∷ e ∷ f ∷ []) = record { ms = ((a * 256 + b) * 256 + c) * 256 + d; day = e * 256 + f }
time_in _ = record { ms = 0; day = 0 }

four_again : (n : ℕ) → ((n / 256 / 256 / 256 * 256 + n / 256 / 256 % 256) * 256 + n / 256 % 256) * 256 + n % 256 ≡ n
four_again n = omega arith

two_again : (n : ℕ) → n / 256 * 256 + n % 256 ≡ n
two_again n = omega arith

pub time_again : (t : TimeOfDay) → time_in (time_octets t) ≡ t
time_again t = λ i. record { ms = four_again t.ms i; day = two_again t.day i }

abbrev are_six : List ℕ → Bool
are_six octets = length octets == 6

-- TimeOfDay, with days: six octets
abbrev pub time_of_day : Kind TimeOfDay
time_of_day = of_one (octets are_six) time_octets time_in time_again

-- timeOfDayT 0, timeSequenceIdentifier 1, undefined 2
abbrev time_arms : Arms EventTime
time_arms = or 0 time_of_day time.TimeOfDay (or 1 unsigned32 time.Sequence (or 2 null (λ _. time.Undefined) (no_other time.Undefined)))

abbrev time_value : EventTime → Value
time_value (time.TimeOfDay t) = chosen 0 (time_of_day.value t)
time_value (time.Sequence n) = chosen 1 (unsigned32.value n)
time_value time.Undefined = chosen 2 (null.value tt)

pub event_time_again : (t : EventTime) → made_of time_arms (time_value t) ≡ t
event_time_again (time.TimeOfDay t) = λ i. time.TimeOfDay (time_again t i)
event_time_again (time.Sequence n) = refl
event_time_again time.Undefined = refl

-- EventTime
abbrev pub event_times : Choice EventTime
event_times = alternatives time_arms time_value event_time_again
