-- The PDU that a client's octets are (ISO 9506-2, MMSpdu), or the first refusal that applies.
use Rattle.std.specs.Prelude.{ℕ, List, Option, Some, None, Result, Ok, Err}
use Rattle.ber_forms.specs.Value.{Value, chosen, parts}
use Rattle.mms_types.specs.declared.identifier.Edition.{Edition}
use Rattle.mms_types.specs.declared.semaphore.Modifier.{Modifier}
use Rattle.mms_types.specs.declared.pdu.Request.{Request}
use Rattle.mms_types.specs.declared.pdu.Pdu.{Pdu}
use Rattle.mms_types.specs.declared.pdu.Pdu.TheVariants as pdu
use Rattle.pdu_names.specs.Editions.{lengths_of}
use Rattle.pdu_names.specs.Kinds.{Arms, or}
use Rattle.mms_pdu.specs.declared.refusal.Refusal.{Refusal}
use Rattle.mms_pdu.specs.declared.reading.Read.{Read}
use Rattle.mms_pdu.specs.Pdus.{heard_reject, modified, whole_arms}
use Rattle.mms_pdu.specs.Hearing.{heard}

abbrev heard_arms : Arms Pdu
heard_arms = or 4 heard_reject pdu.HeardReject whole_arms

abbrev pub modified_of : ℕ × Modifier × Request → Pdu
modified_of x = pdu.ModifiedRequest x.0 x.1 x.2

-- the PDU that is kept, of those that a client may send
abbrev pub pdu_of : Value → Pdu
pdu_of (chosen n v) = heard_arms.made n v
pdu_of (parts vs) = modified_of (modified.said (parts vs))
pdu_of v = pdu.HeardOther

abbrev pub as_pdu : Result Value Refusal → Result Pdu Refusal
as_pdu (Ok v) = Ok (pdu_of v)
as_pdu (Err refusal) = Err refusal

-- the PDU that the octets are, or the first refusal that applies
abbrev pub pdu_heard : Edition → List ℕ → Result Pdu Refusal
pdu_heard edition octets = as_pdu (heard (lengths_of edition) edition octets)

-- a PDU that a client may send
abbrev pub IsHeard : Pdu → Type 0
IsHeard (pdu.ConfirmedRequest invoke request) = Unit {0}
IsHeard (pdu.ModifiedRequest invoke modifier request) = Unit {0}
IsHeard (pdu.HeardResponse invoke answer) = Unit {0}
IsHeard (pdu.HeardError invoke) = Unit {0}
IsHeard (pdu.HeardReject invoke) = Unit {0}
IsHeard (pdu.CancelRequest invoke) = Unit {0}
IsHeard pdu.HeardOther = Unit {0}
IsHeard (pdu.InitiateRequest proposal) = Unit {0}
IsHeard pdu.ConcludeRequest = Unit {0}
IsHeard p = ⊥

-- ---- a request that was told, and its modifier

-- its invokeID, what it asks and its depth
abbrev asked_by : ℕ → Pdu → Option (ℕ × Request × ℕ)
asked_by depth (pdu.ConfirmedRequest invoke request) = Some (invoke, request, depth)
asked_by depth p = None

abbrev pub request_in : Result Read Refusal → Option (ℕ × Request × ℕ)
request_in (Ok read) = asked_by read.depth read.pdu
request_in (Err refusal) = None

abbrev pub modified_by : Modifier → Pdu → Pdu
modified_by modifier (pdu.ConfirmedRequest invoke request) = pdu.ModifiedRequest invoke modifier request
modified_by modifier p = p

-- the same with this modifier
abbrev pub told_modified : Modifier → Result Read Refusal → Result Read Refusal
told_modified modifier (Ok read) = Ok (record { pdu = modified_by modifier read.pdu; depth = read.depth })
told_modified modifier (Err refusal) = Err refusal
