use Rattle.std.proofs.Common.{◌≡◌, take, sum_by}
use Rattle.mms_journal.specs.Entries.{entry_length}
use Rattle.mms_journal.proofs.writing.each_kept.Given as goal

-- the entries up to the index are kept, and their octets counted
abbrev pub invariant-loop-entry : goal.invariant-loop-entry
invariant-loop-entry l = record {
  kept : l.kept.items ≡ take l.entry-index l.entries;
  octets : l.octets ≡ sum_by entry_length (take l.entry-index l.entries);
}
