use Rattle.std.proofs.Common.{length, ◌-◌, ◌+◌, ◌≡◌, ◌≤◌, drop}
use Rattle.std.specs.List.{prefix_len}
use Rattle.cell_record.specs.Words.{in_word}
use Rattle.cell_record.proofs.words.word_len.Given as goal

abbrev pub invariant-loop-count : goal.invariant-loop-count
invariant-loop-count l = record { within : l.count ≤ length l.line; rest : prefix_len in_word l.line ≡ l.count + prefix_len in_word (drop l.count l.line) }

abbrev pub decreases-loop-count : goal.decreases-loop-count
decreases-loop-count l = length l.line - l.count
