use Rattle.std.proofs.Common.{length, ◌+◌, ◌*◌, ◌≤◌}
use Rattle.ber_forms.specs.Form.{one_of}
use Rattle.ber_forms.proofs.Loop.{ReadSoFar}
use Rattle.mms_types.specs.Datum.{row, deepest}
use Rattle.pdu_data.specs.Data.{data_alternatives, row_values}
use Rattle.pdu_data.proofs.data.+data.Given as goal

abbrev pub decreases-members : goal.decreases-members
decreases-members l = 2 * l.most + 1

abbrev pub decreases-one : goal.decreases-one
decreases-one l = 2 * l.most

abbrev pub invariant-members-loop-parts : goal.invariant-members-loop-parts
invariant-members-loop-parts l =
    ReadSoFar l.lengths (one_of (data_alternatives l.most)) (row_values (row l.found.items)) l.parts l.contents × (deepest (row l.found.items) ≤ l.most)

abbrev pub decreases-members-loop-parts : goal.decreases-members-loop-parts
decreases-members-loop-parts l = length l.parts.octets
