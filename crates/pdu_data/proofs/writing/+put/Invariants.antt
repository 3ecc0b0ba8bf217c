use Rattle.std.proofs.Common.{◌≡◌, ◌++◌, take}
use Rattle.mms_types.specs.Datum.{row}
use Rattle.pdu_data.specs.Data.{row_octets}
use Rattle.pdu_data.proofs.writing.+put.Given as goal

abbrev pub invariant-put_all-loop-item : goal.invariant-put_all-loop-item
invariant-put_all-loop-item l = l.out ≡ l.fn.out ++ row_octets (row (take l.item-index l.items))
