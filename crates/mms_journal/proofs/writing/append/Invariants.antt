use Rattle.std.proofs.Common.{◌≡◌, ◌≤◌, ◌+◌, ◌++◌, length, vec_capacity, vec_len}
use Rattle.std.specs.Vec.Iter.{into_iter_items, into_iter_len}
use Rattle.mms_journal.specs.Services.{numbered}
use Rattle.mms_journal.proofs.writing.append.Given as goal

-- the entries that were taken are appended with their numbers, and there is room for those that are left
abbrev pub invariant-loop-entry : goal.invariant-loop-entry
invariant-loop-entry l = record {
  entries : l.fn.entries.items ≡ l.yielded ++ into_iter_items l.entry-iterator;
  rows : l.rows.items ≡ l.initial.rows.items ++ numbered l.client l.number l.yielded;
  last : l.last ≡ l.number + length l.yielded;
  left : length l.fn.entries.items ≡ length l.yielded + into_iter_len l.entry-iterator;
  room : vec_len l.rows + into_iter_len l.entry-iterator ≤ vec_capacity l.rows;
}
