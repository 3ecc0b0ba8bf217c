use Rattle.std.proofs.Common.{◌≡◌, ◌≤◌, filter, length, map, take}
use Rattle.mms_journal.specs.Range.{in_range}
use Rattle.mms_journal.specs.Selection.{told}
use Rattle.mms_journal.proofs.reading.first_told.Given as goal

-- the entries up to the index that are in range are told, and there are no more of them than are told at once
abbrev pub invariant-loop-written : goal.invariant-loop-written
invariant-loop-written l = (l.list ≡ map (told l.range.tags) (filter (in_range l.range) (take l.written-index l.entries))) × (length l.list ≤ l.most)
