use Rattle.std.proofs.Common.{take}
use Rattle.parted_state.specs.Sets.{IsSetOf}
use Rattle.parted_state.proofs.parts.Parts.of.Given as goal

abbrev pub invariant-loop-number : goal.invariant-loop-number
invariant-loop-number l = IsSetOf l.parts (take l.number-index l.numbers)
