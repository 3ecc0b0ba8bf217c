use Rattle.std.proofs.Common.{◌≡◌, ◌++◌}
use Rattle.parted_state.specs.Cut.{missing}
use Rattle.parted_state.specs.Sets.{IsSetOf}
use Rattle.parted_state.proofs.parts.Parts.missing.Given as goal

abbrev pub invariant-loop-number : goal.invariant-loop-number
invariant-loop-number g l = record {
  set : IsSetOf l.missing (missing l.held l.yielded);
  all : l.self ≡ l.yielded ++ l.number-iterator;
}
