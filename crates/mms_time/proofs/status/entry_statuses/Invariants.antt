use Rattle.std.proofs.Common.{◌≡◌, ◌≤◌, filter, length, map, take}
use Rattle.mms_time.specs.Statuses.{entry_status, is_listed}
use Rattle.mms_time.proofs.status.entry_statuses.Given as goal

-- the entries up to the index that are listed are told, and there are no more of them than are told at once
abbrev pub invariant-loop-entry : goal.invariant-loop-entry
invariant-loop-entry l = (l.list ≡ map (entry_status l.names l.now) (filter (is_listed l.state l.after) (take l.entry-index l.entries))) × (length l.list ≤ 6)
