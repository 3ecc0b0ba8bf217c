use Rattle.std.proofs.Common.{length, ◌-◌, ◌≡◌, ◌≤◌, ◌++◌, drop}
use Rattle.std.specs.Option.{option_map}
use Rattle.cell_record.specs.Words.{pairs_of}
use Rattle.cell_record.proofs.digits.decode_spaced.Given as goal

abbrev pub invariant-loop-at : goal.invariant-loop-at
invariant-loop-at l = record {
  within : l.at ≤ length l.text;
  rest : option_map (λ os. l.octets.items ++ os) (pairs_of (drop l.at l.text)) ≡ pairs_of l.text;
}

abbrev pub decreases-loop-at : goal.decreases-loop-at
decreases-loop-at l = length l.text - l.at
