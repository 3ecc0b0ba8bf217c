use Rattle.std.proofs.Common.{◌≡◌, ℕ, ◌*◌, ◌<◌, false}
use Rattle.parted_state.specs.Sets.{is_bit}
use Rattle.parted_state.proofs.parts.least.Given as goal

abbrev pub invariant-words : goal.invariant-words
invariant-words l = (other : ℕ) → other < 64 * l.word → is_bit l.words other ≡ false
