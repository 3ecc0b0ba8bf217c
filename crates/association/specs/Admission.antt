-- Whether a confirmed request is taken in an open association (ISO 9506-1, environment and general management, the rejection of requests).
use Rattle.std.specs.Prelude.{ℕ, Result, Ok, Err, nat_le, length, if◌then◌else◌}
use Rattle.association.specs.declared.client_part.NotAdmitted.{NotAdmitted}
use Rattle.association.specs.declared.client_part.NotAdmitted.TheVariants.{Waiting, Outstanding}
use Rattle.association.specs.declared.negotiation.Association.{Association}
use Rattle.association.specs.declared.negotiation.Association.TheVariants.{Idle, Open}
use Rattle.association.specs.declared.waiting.Waiting.{Waiting as Row}
use Rattle.association.specs.Client.{ClientRow, row_with_waiting}
use Rattle.association.specs.Waiting.{is_waiting}

-- how many requests of the client may wait at the server
abbrev pub called_of : Association → ℕ
called_of Idle = 0
called_of (Open values) = values.called

-- a request of that invokeID is refused where that one waits, and otherwise where as many requests wait as called allows
abbrev pub admission : ℕ → ClientRow → Result Unit NotAdmitted
admission invoke row =
    if is_waiting invoke row.waiting then Err Waiting
    else if nat_le (called_of row.association) (length row.waiting) then Err Outstanding
    else Ok tt

-- a request waits that is admitted
abbrev pub waiting_if : Result Unit NotAdmitted → Row → ClientRow → ClientRow
waiting_if (Ok admitted) request row = row_with_waiting row request
waiting_if (Err refusal) request row = row

abbrev pub row_with_admitted : ClientRow → Row → ClientRow
row_with_admitted row request = waiting_if (admission request.invoke row) request row
