-- What a client is told of a request that it makes, whatever the service is (ISO 9506-1, VMD support).
use Rattle.std.specs.Prelude.{◌≡◌, ℕ, Bool, true, false, List, [], ◌∷◌, Option, None, Some, Result, Ok, Err, nat_le, length, if◌then◌else◌}
use Rattle.mms_types.specs.declared.pdu.Answer.{Answer}
use Rattle.mms_types.specs.declared.pdu.Answer.TheVariants as answer
use Rattle.mms_types.specs.declared.pdu.Pdu.TheVariants as pdu
use Rattle.mms_types.specs.declared.pdu.Request.{Request}
use Rattle.mms_types.specs.declared.pdu.Request.TheVariants as request
use Rattle.mms_types.specs.declared.refuse.Refuse.{Refuse}
use Rattle.mms_types.specs.declared.refuse.Refuse.TheVariants as refuse
use Rattle.mms_types.specs.declared.service_error.ServiceError.{ServiceError}
use Rattle.mms_pdu.specs.Pdus.{pdu_octets}
use Rattle.association.specs.declared.negotiation.Association.{Association}
use Rattle.association.specs.declared.negotiation.Association.TheVariants.{Idle, Open}
use Rattle.association.specs.Client.{ClientRow}
use Rattle.cell_client.specs.Association.{sends, confirmed_error, other_error}
use Rattle.cell_client.specs.Effects.{Effect}

-- the negotiated size of a PDU
abbrev pub size_of : Association → ℕ
size_of Idle = 0
size_of (Open values) = values.size

-- state changes are allowed, and the device is operational (ISO 9506-2, Status)
abbrev pub operational : Answer
operational = answer.Status (record { logical = 0; physical = 0 })

-- the device's texts (ISO 9506-2, Identify)
abbrev pub identity : ClientRow → Answer
identity row = answer.Identify (record { vendor = row.constants.vendor; model = row.constants.model; revision = row.constants.revision })

-- The answer to a request that is never refused and that the row of its client alone answers. Another has none here.
abbrev pub plain_answer : ClientRow → Request → Option Answer
plain_answer row (request.Status asked) = Some operational
plain_answer row request.Identify = Some (identity row)
plain_answer row other = None

-- ---- settled once for all services

-- a positive answer that is not longer than the negotiated size of a PDU
abbrev pub fits : ℕ → ℕ → Option Answer → Bool
fits size invoke None = true
fits size invoke (Some told) = nat_le (length (pdu_octets (pdu.ConfirmedResponse invoke told))) size

-- a request is done where it is not refused and its answer fits
abbrev pub is_done : ℕ → ℕ → Option ServiceError → Option Answer → Bool
is_done size invoke (Some refusal) told = false
is_done size invoke None told = fits size invoke told

abbrev pub refuses : ℕ → ServiceError → Effect
refuses invoke refusal = sends (confirmed_error invoke refusal)

-- an answer that there is
abbrev pub answer_told : ℕ → Option Answer → List Effect
answer_told invoke None = []
answer_told invoke (Some told) = sends (pdu.ConfirmedResponse invoke told) ∷ []

-- What the client is told that asks: the cause for which its request is refused; that it is refused as service, other where its answer is longer than the
-- negotiated size; or the answer.
abbrev pub request_told : ℕ → ℕ → Option ServiceError → Option Answer → List Effect
request_told size invoke (Some refusal) told = refuses invoke refusal ∷ []
request_told size invoke None told = if fits size invoke told then answer_told invoke told else refuses invoke other_error ∷ []

-- ---- as code settles it

-- A request is refused for its cause, or it has none, and this holds of what it comes to, or memory is wanting.
abbrev pub Settles : {X : Type 0} → Result X Refuse → Option ServiceError → (X → Type 0) → Type 0
Settles (Ok x) cause Is = (cause ≡ None) × Is x
Settles (Err (refuse.Service error)) cause Is = cause ≡ Some error
Settles (Err refuse.Memory) cause Is = cause ≡ None
