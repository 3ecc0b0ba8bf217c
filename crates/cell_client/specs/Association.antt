-- What an association makes of what its client sends (ISO 9506-1, environment and general management, VMD support; ISO 9506-2, RejectPDU).
use Rattle.std.specs.Prelude.{ℕ, Bool, true, false, List, [], ◌∷◌, Option, None, Some, Result, Ok, Err, nat_lt, if◌then◌else◌}
use Rattle.mms_types.specs.declared.memory.Memory.{Memory}
use Rattle.mms_types.specs.declared.event.What.TheVariants.{Octets, Abort}
use Rattle.mms_types.specs.declared.asked.Asked.{Asked}
use Rattle.mms_types.specs.declared.asked.Asked.TheVariants as asked
use Rattle.mms_types.specs.declared.domain.Segment.{Segment}
use Rattle.mms_types.specs.declared.initiate.InitiateAnswer.{InitiateAnswer}
use Rattle.mms_types.specs.declared.service_error.ServiceError.{ServiceError}
use Rattle.mms_types.specs.Errors as errors
use Rattle.mms_types.specs.declared.pdu.ClientAnswer.{ClientAnswer}
use Rattle.mms_types.specs.declared.pdu.ClientAnswer.TheVariants.{DownloadSegment, TerminateDownloadSequence}
use Rattle.mms_types.specs.declared.pdu.Request.{Request}
use Rattle.mms_types.specs.declared.pdu.Reject.{Reject}
use Rattle.mms_types.specs.declared.pdu.RejectReason.{RejectReason}
use Rattle.mms_types.specs.declared.pdu.RejectReason.TheVariants.{InvalidPdu, InvalidInvokeId, MaxServOutstandingExceeded, MaxRecursionExceeded, UnrecognizedModifier}
use Rattle.mms_types.specs.declared.pdu.Pdu.{Pdu}
use Rattle.mms_types.specs.declared.pdu.Pdu.TheVariants as pdu
use Rattle.mms_pdu.specs.declared.refusal.Refusal.{Refusal}
use Rattle.mms_pdu.specs.Pdus.{pdu_octets}
use Rattle.mms_pdu.specs.Rejects.{reject_of}
use Rattle.mms_pdu.specs.Heard.{pdu_heard}
use Rattle.mms_pdu.specs.Hearing.{depth_of}
use Rattle.association.specs.declared.client_part.NotAdmitted.{NotAdmitted}
use Rattle.association.specs.declared.client_part.NotAdmitted.TheVariants.{Waiting, Outstanding}
use Rattle.association.specs.declared.negotiation.Association.{Association}
use Rattle.association.specs.declared.negotiation.Association.TheVariants.{Idle, Open}
use Rattle.association.specs.declared.negotiation.Negotiated.{Negotiated}
use Rattle.association.specs.declared.unanswered.Unanswered.{Unanswered}
use Rattle.association.specs.declared.waiting.Waiting.{Waiting as Row}
use Rattle.association.specs.Admission.{admission}
use Rattle.association.specs.Asked.{asked_of}
use Rattle.association.specs.Client.{ClientRow}
use Rattle.association.specs.Negotiation.{negotiation, values_of}
use Rattle.association.specs.Waiting.{is_waiting}
use Rattle.cell_client.specs.Effects.{Effect, Sends, Opens, Closes, Answers, Settles}

-- ---- what is sent

-- one more PDU is to be sent
abbrev pub sends : Pdu → Effect
sends p = Sends (Octets (pdu_octets p))

-- class service, other
abbrev pub other_error : ServiceError
other_error = errors.other

-- class service-preempt, cancel
abbrev pub cancel_error : ServiceError
cancel_error = errors.cancel

-- class service-preempt, timeout
abbrev pub timeout_error : ServiceError
timeout_error = errors.timeout

-- class access, object-non-existent
abbrev pub missing_error : ServiceError
missing_error = errors.object_non_existent

-- class conclude, further-communication-required
abbrev pub further_error : ServiceError
further_error = errors.further_communication_required

-- class cancel, invoke-id-unknown
abbrev pub unknown_error : ServiceError
unknown_error = errors.invoke_id_unknown

-- a request is refused, without a modifier
abbrev pub confirmed_error : ℕ → ServiceError → Pdu
confirmed_error invoke error = pdu.ConfirmedError (record { invoke = invoke; modifier = None; error = error })

-- a request of that invokeID is rejected, and what is no request
abbrev pub rejects : ℕ → RejectReason → Effect
rejects invoke reason = sends (pdu.Reject (record { invoke = Some invoke; reason = reason }))

abbrev pub rejects_invalid : Effect
rejects_invalid = sends (pdu.Reject (record { invoke = None; reason = InvalidPdu }))

-- ---- what octets come to

-- what a client answers to a request of the server that is of a load: a segment, that the load has ended, or that it won't
pub data Came : Type 0 where
  Arrives : Segment → Came
  Ends : Came
  Fails : Came

-- What a client sends is answered at once, by what the client is told; or it is a request that is taken, an answer to the server's request of a number, a
-- conclusion that neither a waiting nor an unanswered request refuses, the cancelling of a request that waits, or a proposal in an association, which aborts it.
pub data Verdict : Type 0 where
  Tells : List Effect → Verdict
  Takes : ℕ → Request → Verdict
  Replies : ℕ → Came → Verdict
  -- a load that is asked for is answered, and its client is aborted, since no number is left for what would be asked of it
  Exhausts : ℕ → Verdict
  Concludes : Verdict
  Cancels : ℕ → Verdict
  Aborts : Verdict

-- a refusal is told by a reject
abbrev pub refused : Result Reject Memory → List Effect
refused (Ok reject) = sends (pdu.Reject reject) ∷ []
refused (Err memory) = []

-- a proposal is refused, or the association is open
abbrev pub negotiated : Result InitiateAnswer ServiceError → List Effect
negotiated (Ok told) = Opens (values_of told) ∷ sends (pdu.InitiateResponse told) ∷ []
negotiated (Err refusal) = sends (pdu.InitiateError refusal) ∷ []

-- without an association all but a proposal is aborted
abbrev pub idle_verdict : Result Pdu Refusal → Verdict
idle_verdict (Ok (pdu.InitiateRequest proposal)) = Tells (negotiated (negotiation proposal))
idle_verdict heard = Tells (Sends Abort ∷ [])

-- a request that is read is rejected where its data nests deeper than was negotiated, otherwise where its invokeID waits, and otherwise where as many requests
-- wait as were negotiated
abbrev pub admitted : Result Unit NotAdmitted → ℕ → Request → Verdict
admitted (Err Waiting) invoke asked = Tells (rejects invoke InvalidInvokeId ∷ [])
admitted (Err Outstanding) invoke asked = Tells (rejects invoke MaxServOutstandingExceeded ∷ [])
admitted (Ok taken) invoke asked = Takes invoke asked

abbrev pub requested : Bool → ClientRow → ℕ → Request → Verdict
requested too_deep row invoke asked = if too_deep then Tells (rejects invoke MaxRecursionExceeded ∷ []) else admitted (admission invoke row) invoke asked

-- A request with a modifier that is read is rejected where its data nests deeper than was negotiated, and otherwise for its modifier: it isn't
-- carried out yet.
abbrev pub modified : Bool → ℕ → Verdict
modified too_deep invoke = Tells (rejects invoke (if too_deep then MaxRecursionExceeded else UnrecognizedModifier) ∷ [])

-- a conclusion is refused
abbrev pub keeps_open : List Effect
keeps_open = sends (pdu.ConcludeError further_error) ∷ []

-- it is where a request of the client waits, or one of the server is unanswered
abbrev pub concluded : List Row → List Unanswered → Verdict
concluded [] [] = Concludes
concluded [] (first ∷ rest) = Tells keeps_open
concluded (first ∷ rest) asked = Tells keeps_open

-- a request that doesn't wait is unknown
abbrev pub cancelled : Bool → ℕ → Verdict
cancelled true invoke = Cancels invoke
cancelled false invoke = Tells (sends (pdu.CancelError (record { invoke = invoke; error = unknown_error })) ∷ [])

-- ---- what a client answers to the server

-- the end of a load that failed is answered, which changes nothing else
abbrev pub settled_alone : ℕ → Verdict
settled_alone number = Tells (Settles number ∷ [])

-- A response has to be of the service and the form that the request of that number asks for; else it is invalid, and the request stays unanswered.
abbrev pub answered_by : ℕ → Asked → ClientAnswer → Verdict
answered_by number asked.Segment (DownloadSegment segment) = Replies number (Arrives segment)
answered_by number asked.Terminate TerminateDownloadSequence = Replies number Ends
answered_by number asked.Discard TerminateDownloadSequence = settled_alone number
answered_by number kind told = Tells (rejects_invalid ∷ [])

-- an error or a reject is one and the same, whatever it says
abbrev pub failed_by : ℕ → Asked → Verdict
failed_by number asked.Discard = settled_alone number
failed_by number kind = Replies number Fails

-- where no request of that number is unanswered, a response or an error is invalid, and a reject gives nothing
abbrev pub heard_response : ℕ → ClientAnswer → Option (Asked × List ℕ) → Verdict
heard_response number told None = Tells (rejects_invalid ∷ [])
heard_response number told (Some row) = answered_by number row.0 told

abbrev pub heard_error : ℕ → Option (Asked × List ℕ) → Verdict
heard_error number None = Tells (rejects_invalid ∷ [])
heard_error number (Some row) = failed_by number row.0

abbrev pub heard_reject : ℕ → Option (Asked × List ℕ) → Verdict
heard_reject number None = Tells []
heard_reject number (Some row) = failed_by number row.0

abbrev pub rejected : Option ℕ → List Unanswered → Verdict
rejected None rows = Tells []
rejected (Some number) rows = heard_reject number (asked_of number rows)

-- In an association a proposal aborts it. Unconfirmed PDUs and answers to a cancel give nothing.
abbrev pub open_verdict : Negotiated → ClientRow → Result Pdu Refusal → Verdict
open_verdict values row (Err refusal) = Tells (refused (reject_of refusal))
open_verdict values row (Ok (pdu.InitiateRequest proposal)) = Aborts
open_verdict values row (Ok pdu.ConcludeRequest) = concluded row.waiting row.asked
open_verdict values row (Ok (pdu.CancelRequest invoke)) = cancelled (is_waiting invoke row.waiting) invoke
open_verdict values row (Ok (pdu.ConfirmedRequest invoke asked)) = requested (nat_lt values.nesting (depth_of (pdu.ConfirmedRequest invoke asked))) row invoke asked
open_verdict values row (Ok (pdu.ModifiedRequest invoke modifier asked)) = modified (nat_lt values.nesting (depth_of (pdu.ModifiedRequest invoke modifier asked))) invoke
open_verdict values row (Ok (pdu.HeardResponse number told)) = heard_response number told (asked_of number row.asked)
open_verdict values row (Ok (pdu.HeardError number)) = heard_error number (asked_of number row.asked)
open_verdict values row (Ok (pdu.HeardReject number)) = rejected number row.asked
open_verdict values row (Ok (pdu.ServerRequest number asking)) = Tells []
open_verdict values row (Ok (pdu.ConfirmedResponse invoke told)) = Tells []
open_verdict values row (Ok (pdu.ConfirmedError error)) = Tells []
open_verdict values row (Ok (pdu.Reject reject)) = Tells []
open_verdict values row (Ok (pdu.CancelResponse invoke)) = Tells []
open_verdict values row (Ok (pdu.CancelError error)) = Tells []
open_verdict values row (Ok (pdu.EventNotification told)) = Tells []
open_verdict values row (Ok pdu.HeardOther) = Tells []
open_verdict values row (Ok (pdu.InitiateResponse answer)) = Tells []
open_verdict values row (Ok (pdu.InitiateError error)) = Tells []
open_verdict values row (Ok pdu.ConcludeResponse) = Tells []
open_verdict values row (Ok (pdu.ConcludeError error)) = Tells []

abbrev pub verdict_by : Association → ClientRow → Result Pdu Refusal → Verdict
verdict_by Idle row heard = idle_verdict heard
verdict_by (Open values) row heard = open_verdict values row heard

-- what the octets of a client come to
abbrev pub verdict : ClientRow → List ℕ → Verdict
verdict row octets = verdict_by row.association row (pdu_heard row.constants.edition octets)

-- ---- what a verdict tells the client itself

-- a conclusion is granted, and the client is lost
abbrev pub conclusion_told : List Effect
conclusion_told = sends pdu.ConcludeResponse ∷ Closes ∷ []

-- a request that waits is cancelled
abbrev pub cancel_told : ℕ → List Effect
cancel_told invoke = Answers invoke ∷ sends (pdu.CancelResponse invoke) ∷ sends (confirmed_error invoke cancel_error) ∷ []

abbrev pub abort_told : List Effect
abort_told = Sends Abort ∷ Closes ∷ []

-- the client is lost, where there is an association
abbrev pub loss_told : Association → List Effect
loss_told Idle = []
loss_told (Open values) = Closes ∷ []
