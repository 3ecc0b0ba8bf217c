use Rattle.std.proofs.Common.{◌≡◌, ℕ, ◌<◌, get_or, length}
use Rattle.mms_types.specs.declared.key.Key.{Key}
use Rattle.event_cond.specs.Kept.{IsCondition}
use Rattle.event_cond.specs.declared.condition.Condition.{Condition}
use Rattle.event_cond.proofs.laws.each_condition_is_sound.Given as goal

-- the conditions up to the place are sound
abbrev pub invariant-loop-place : goal.invariant-loop-place
invariant-loop-place l = ((k : ℕ) (d : Key × Condition) → k < l.place → IsCondition (get_or l.conditions k d).1) × (l.place-end ≡ length l.conditions)
