use Rattle.std.proofs.Common.{◌≡◌, take}
use Rattle.attach_sem.proofs.copies.copied_entries.Given as goal

-- the entries up to the index are copied
abbrev pub invariant-loop-entry : goal.invariant-loop-entry
invariant-loop-entry l = l.entries ≡ take l.entry-index l.from
