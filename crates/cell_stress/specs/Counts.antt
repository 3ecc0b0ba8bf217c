-- How much there is of a history, and of what is said along it (this profile's choice).
use Rattle.std.specs.Prelude.{ℕ, ◌+◌, ◌==◌, Bool, true, false, List, [], ◌∷◌, ◌++◌}
use Rattle.std.specs.List.{count_by, sum_by}
use Rattle.mms_types.specs.Actors.{clients_to}
use Rattle.mms_types.specs.declared.event.What.{What}
use Rattle.mms_types.specs.declared.event.What.TheVariants.{Octets, Abort}
use Rattle.mms_types.specs.declared.event.CellEvent.{CellEvent}
use Rattle.mms_types.specs.declared.event.CellEvent.TheVariants.{Heard}
use Rattle.cell_record.specs.History.{drains}
use Rattle.cell_record.specs.Report.{is_printed, taken}

-- octets that begin with the tag of a confirmed-Request
abbrev pub asks : List ℕ → Bool
asks [] = false
asks (octet ∷ octets) = octet == 160

-- a client asks something that is to be confirmed
abbrev pub is_request : CellEvent → Bool
is_request (Heard client octets) = asks octets
is_request event = false

-- all but the drains, which aren't printed
abbrev pub events_in : List CellEvent → ℕ
events_in history = count_by is_printed history

-- the confirmed requests that are heard
abbrev pub requests_in : List CellEvent → ℕ
requests_in history = count_by is_request history

-- it is a PDU: an abort is none
abbrev pub is_pdu : What → Bool
is_pdu (Octets octets) = true
is_pdu Abort = false

-- the PDUs that are sent to some clients
abbrev pub pdus_in : List (List What) → ℕ
pdus_in outputs = sum_by (λ sent. count_by is_pdu sent) outputs

-- the PDUs that the drains take behind these bodies, after a history, where `said before c` is what
-- client c takes after that history
abbrev pub replies_from : (List CellEvent → ℕ → List What) → ℕ → List CellEvent
    → List (List CellEvent) → ℕ
replies_from said n before [] = 0
replies_from said n before (body ∷ rest) =
    pdus_in (taken said (before ++ body) (clients_to n))
    + replies_from said n (before ++ (body ++ drains (clients_to n))) rest

-- the PDUs that are sent along the history of those bodies
abbrev pub replies_in : (List CellEvent → ℕ → List What) → ℕ → List (List CellEvent) → ℕ
replies_in said n bodies = replies_from said n [] bodies
