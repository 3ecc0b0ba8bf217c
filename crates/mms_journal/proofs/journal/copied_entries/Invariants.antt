use Rattle.std.proofs.Common.{◌≡◌, take}
use Rattle.mms_journal.proofs.journal.copied_entries.Given as goal

-- the entries up to the index are copied
abbrev pub invariant-loop-written : goal.invariant-loop-written
invariant-loop-written l = l.copies.items ≡ take l.written-index l.entries
