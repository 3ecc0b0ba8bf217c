use Rattle.std.proofs.Common.{take}
use Rattle.mms_types.specs.Datum.{row}
use Rattle.mms_journal.specs.Formed.{AreFormed}
use Rattle.mms_journal.proofs.formed.+formed.Given as goal

-- the parts up to the index are of their form
abbrev pub invariant-are_formed_data-loop-item : goal.invariant-are_formed_data-loop-item
invariant-are_formed_data-loop-item l = AreFormed (row (take l.item-index l.items))
