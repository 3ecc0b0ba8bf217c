use Rattle.std.proofs.Common.{length, ◌≡◌, ◌≤◌, take}
use Rattle.cell_record.specs.Words.{trim_back}
use Rattle.cell_record.proofs.words.trim_back.Given as goal

abbrev pub invariant-loop-end : goal.invariant-loop-end
invariant-loop-end l = record { within : l.end ≤ length l.line; rest : trim_back (take l.end l.line) ≡ trim_back l.line }

abbrev pub decreases-loop-end : goal.decreases-loop-end
decreases-loop-end l = l.end
