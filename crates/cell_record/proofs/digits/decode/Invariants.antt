use Rattle.std.proofs.Common.{length, ◌*◌, ◌<◌, ◌≡◌, ◌++◌, drop, take}
use Rattle.std.specs.Option.{option_map}
use Rattle.cell_record.specs.Words.{pairs_of}
use Rattle.cell_record.proofs.digits.decode.Given as goal

abbrev pub invariant-loop-i : goal.invariant-loop-i
invariant-loop-i l = record {
  size : length l.to ≡ length l.initial.to;
  rest : l.seen < 16 → option_map (λ os. take l.i l.to ++ os) (pairs_of (drop (2 * l.i) l.text)) ≡ pairs_of l.text;
}
