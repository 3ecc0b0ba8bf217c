-- What a client sends, as to what is asked of it: which request of a load it answers, and that nothing else makes more
-- requests unanswered.
use Rattle.std.proofs.Common.{◌≡◌, ℕ, ◌⊎◌, inl, inr, Bool, true, false, List, [], ◌∷◌, Option, None, Some, refl, nat_lt}
use Rattle.std.specs.Prelude.{Result, Ok, Err}
use Rattle.mms_types.specs.declared.asked.Asked.{Asked}
use Rattle.mms_types.specs.declared.asked.Asked.TheVariants as asks
use Rattle.mms_types.specs.declared.initiate.InitiateAnswer.{InitiateAnswer}
use Rattle.mms_types.specs.declared.memory.Memory.{Memory}
use Rattle.mms_types.specs.declared.pdu.ClientAnswer.{ClientAnswer}
use Rattle.mms_types.specs.declared.pdu.ClientAnswer.TheVariants.{DownloadSegment, TerminateDownloadSequence}
use Rattle.mms_types.specs.declared.pdu.Pdu.{Pdu}
use Rattle.mms_types.specs.declared.pdu.Pdu.TheVariants as pdu
use Rattle.mms_types.specs.declared.pdu.Reject.{Reject}
use Rattle.mms_types.specs.declared.pdu.Request.{Request}
use Rattle.mms_types.specs.declared.service_error.ServiceError.{ServiceError}
use Rattle.mms_pdu.specs.declared.refusal.Refusal.{Refusal}
use Rattle.mms_pdu.specs.Heard.{pdu_heard}
use Rattle.mms_pdu.specs.Hearing.{depth_of}
use Rattle.mms_pdu.specs.Rejects.{reject_of}
use Rattle.association.specs.Admission.{admission}
use Rattle.association.specs.Asked.{asked_of, unsettled}
use Rattle.association.specs.Client.{ClientRow}
use Rattle.association.specs.Negotiation.{negotiation}
use Rattle.association.specs.Waiting.{is_waiting}
use Rattle.association.specs.declared.client_part.NotAdmitted.{NotAdmitted}
use Rattle.association.specs.declared.client_part.NotAdmitted.TheVariants as not_admitted
use Rattle.association.specs.declared.negotiation.Association.{Association}
use Rattle.association.specs.declared.negotiation.Association.TheVariants.{Idle, Open}
use Rattle.association.specs.declared.negotiation.Negotiated.{Negotiated}
use Rattle.association.specs.declared.unanswered.Unanswered.{Unanswered}
use Rattle.domain_load.specs.Loading.{is_of_load}
use Rattle.cell_client.specs.Association.{Arrives, Came, Ends, Fails, Verdict, Tells, Takes, Replies, Exhausts, Concludes, Cancels, Aborts, admitted, answered_by, cancelled, failed_by, heard_error, heard_reject, heard_response, idle_verdict, negotiated, open_verdict, refused, rejected, requested, verdict, verdict_by}
use Rattle.cell_client.specs.Effects.{Effect, Settles, felt_all}
use Rattle.serve_domains.proofs.Answered.{IsOfLoad, IsSaid, verdict_said}
use Rattle.serve_domains.specs.Domains.{reply_of}
use Rattle.serve_domains.specs.Loads.{is_of_load_kind}
use Rattle.cell_services.specs.Serving.{resolved}
use Rattle.cell_services.specs.Tables.{Tables}
use Rattle.cell_laws.proofs.Verdicts.{by-conclusion, by-tables}

-- what a client is told: its unanswered requests stay, or one is unanswered no more; and an association opens only
-- where there is none
pub record IsSpared (row : ClientRow) (effects : List Effect) : Type 0 where
  pub asked : ((felt_all effects row).asked ≡ row.asked) ⊎ ((number : ℕ) × ((felt_all effects row).asked ≡ unsettled number row.asked))
  pub opened : ((felt_all effects row).association ≡ row.association) ⊎ (row.association ≡ Idle)

-- what comes suits what was asked
abbrev pub Suits : Came → Asked → Type 0
Suits (Arrives segment) asks.Segment = Unit {0}
Suits (Arrives segment) asks.Terminate = ⊥
Suits (Arrives segment) asks.Discard = ⊥
Suits Ends asks.Segment = ⊥
Suits Ends asks.Terminate = Unit {0}
Suits Ends asks.Discard = ⊥
Suits Fails asks.Segment = Unit {0}
Suits Fails asks.Terminate = Unit {0}
Suits Fails asks.Discard = ⊥

-- the server's request of that number is unanswered, and of a load
pub record IsReply (rows : List Unanswered) (number : ℕ) (came : Came) : Type 0 where
  pub kind : Asked
  pub name : List ℕ
  pub asked : asked_of number rows ≡ Some (kind, name)
  pub suits : Suits came kind

abbrev pub IsMeant : ClientRow → Verdict → Type 0
IsMeant row (Tells effects) = IsSpared row effects
IsMeant row (Replies number came) = IsReply row.asked number came
IsMeant row (Takes invoke asked) = Unit {0}
IsMeant row (Exhausts invoke) = Unit {0}
IsMeant row Concludes = Unit {0}
IsMeant row (Cancels invoke) = Unit {0}
IsMeant row Aborts = Unit {0}

-- ---- a reply is of a load

pub its_kind : (came : Came) (kind : Asked) → Suits came kind → is_of_load_kind kind ≡ true
its_kind (Arrives segment) asks.Segment suits = refl
its_kind (Arrives segment) asks.Terminate suits = absurd suits
its_kind (Arrives segment) asks.Discard suits = absurd suits
its_kind Ends asks.Segment suits = absurd suits
its_kind Ends asks.Terminate suits = refl
its_kind Ends asks.Discard suits = absurd suits
its_kind Fails asks.Segment suits = refl
its_kind Fails asks.Terminate suits = refl
its_kind Fails asks.Discard suits = absurd suits

pub its_load : (came : Came) (kind : Asked) (name : List ℕ) → Suits came kind → is_of_load (reply_of came (kind, name)) ≡ true
its_load (Arrives segment) kind name suits = refl
its_load Ends kind name suits = refl
its_load Fails asks.Segment name suits = refl
its_load Fails asks.Terminate name suits = refl
its_load Fails asks.Discard name suits = absurd suits

abbrev pub of_load : (rows : List Unanswered) (number : ℕ) (came : Came) → IsReply rows number came → IsOfLoad rows number came
of_load rows number came is = record { of = (is.kind, is.name); asked = is.asked; kind = its_kind came is.kind is.suits; of_load = its_load came is.kind is.name is.suits }

-- ---- each verdict

module _ (row : ClientRow) where
  settles : (number : ℕ) → IsSpared row (Settles number ∷ [])
  settles number = record { asked = inr (number, refl); opened = inl refl }

  refused_meant : (told : Result Reject Memory) → IsSpared row (refused told)
  refused_meant (Ok reject) = record { asked = inl refl; opened = inl refl }
  refused_meant (Err memory) = record { asked = inl refl; opened = inl refl }

  negotiated_meant : (told : Result InitiateAnswer ServiceError) → row.association ≡ Idle → IsSpared row (negotiated told)
  negotiated_meant (Ok answer) idle = record { asked = inl refl; opened = inr idle }
  negotiated_meant (Err refusal) idle = record { asked = inl refl; opened = inl refl }

  admitted_meant : (may : Result Unit NotAdmitted) (invoke : ℕ) (asked : Request) → IsMeant row (admitted may invoke asked)
  admitted_meant (Err not_admitted.Waiting) invoke asked = record { asked = inl refl; opened = inl refl }
  admitted_meant (Err not_admitted.Outstanding) invoke asked = record { asked = inl refl; opened = inl refl }
  admitted_meant (Ok taken) invoke asked = tt

  requested_meant : (too_deep : Bool) (invoke : ℕ) (asked : Request) → IsMeant row (requested too_deep row invoke asked)
  requested_meant true invoke asked = record { asked = inl refl; opened = inl refl }
  requested_meant false invoke asked = admitted_meant (admission invoke row) invoke asked

  cancelled_meant : (waits : Bool) (invoke : ℕ) → IsMeant row (cancelled waits invoke)
  cancelled_meant true invoke = tt
  cancelled_meant false invoke = record { asked = inl refl; opened = inl refl }

  module _ (number : ℕ) where
    answered_meant : (kind : Asked) (name : List ℕ) (told : ClientAnswer) → asked_of number row.asked ≡ Some (kind, name) → IsMeant row (answered_by number kind told)
    answered_meant asks.Segment name (DownloadSegment segment) is = record { kind = asks.Segment; name = name; asked = is; suits = tt }
    answered_meant asks.Segment name TerminateDownloadSequence is = record { asked = inl refl; opened = inl refl }
    answered_meant asks.Terminate name TerminateDownloadSequence is = record { kind = asks.Terminate; name = name; asked = is; suits = tt }
    answered_meant asks.Terminate name (DownloadSegment segment) is = record { asked = inl refl; opened = inl refl }
    answered_meant asks.Discard name TerminateDownloadSequence is = settles number
    answered_meant asks.Discard name (DownloadSegment segment) is = record { asked = inl refl; opened = inl refl }

    failed_meant : (kind : Asked) (name : List ℕ) → asked_of number row.asked ≡ Some (kind, name) → IsMeant row (failed_by number kind)
    failed_meant asks.Segment name is = record { kind = asks.Segment; name = name; asked = is; suits = tt }
    failed_meant asks.Terminate name is = record { kind = asks.Terminate; name = name; asked = is; suits = tt }
    failed_meant asks.Discard name is = settles number

    response_meant : (told : ClientAnswer) (o : Option (Asked × List ℕ)) → asked_of number row.asked ≡ o → IsMeant row (heard_response number told o)
    response_meant told None is = record { asked = inl refl; opened = inl refl }
    response_meant told (Some of) is = answered_meant of.0 of.1 told is

    error_meant : (o : Option (Asked × List ℕ)) → asked_of number row.asked ≡ o → IsMeant row (heard_error number o)
    error_meant None is = record { asked = inl refl; opened = inl refl }
    error_meant (Some of) is = failed_meant of.0 of.1 is

    reject_meant : (o : Option (Asked × List ℕ)) → asked_of number row.asked ≡ o → IsMeant row (heard_reject number o)
    reject_meant None is = record { asked = inl refl; opened = inl refl }
    reject_meant (Some of) is = failed_meant of.0 of.1 is

  rejected_meant : (number : Option ℕ) → IsMeant row (rejected number row.asked)
  rejected_meant None = record { asked = inl refl; opened = inl refl }
  rejected_meant (Some number) = reject_meant number (asked_of number row.asked) refl

  idle_meant : (heard : Result Pdu Refusal) → row.association ≡ Idle → IsMeant row (idle_verdict heard)
  idle_meant (Ok (pdu.InitiateRequest proposal)) idle = negotiated_meant (negotiation proposal) idle
  idle_meant heard idle = record { asked = inl refl; opened = inl refl }

  open_meant : (values : Negotiated) (heard : Result Pdu Refusal) → IsMeant row (open_verdict values row heard)
  open_meant values (Err refusal) = refused_meant (reject_of refusal)
  open_meant values (Ok (pdu.InitiateRequest proposal)) = tt
  open_meant values (Ok pdu.ConcludeRequest) = by-conclusion (IsMeant row) tt (record { asked = inl refl; opened = inl refl }) row.waiting row.asked
  open_meant values (Ok (pdu.CancelRequest invoke)) = cancelled_meant (is_waiting invoke row.waiting) invoke
  open_meant values (Ok (pdu.ConfirmedRequest invoke asked)) = requested_meant (nat_lt values.nesting (depth_of (pdu.ConfirmedRequest invoke asked))) invoke asked
  open_meant values (Ok (pdu.HeardResponse number told)) = response_meant number told (asked_of number row.asked) refl
  open_meant values (Ok (pdu.HeardError number)) = error_meant number (asked_of number row.asked) refl
  open_meant values (Ok (pdu.HeardReject number)) = rejected_meant number
  open_meant values (Ok heard) = record { asked = inl refl; opened = inl refl }

  meant_by : (a : Association) (heard : Result Pdu Refusal) → row.association ≡ a → IsMeant row (verdict_by a row heard)
  meant_by Idle heard is = idle_meant heard is
  meant_by (Open values) heard is = open_meant values heard

  -- what is said of loads, and what is meant
  abbrev pub IsBoth : Verdict → Type 0
  IsBoth v = IsSaid row v × IsMeant row v

  pub resolved_both : (t : Tables) (octets : List ℕ) → IsBoth (resolved t row (verdict row octets))
  resolved_both t octets =
      by-tables IsBoth t row (λ invoke asked both. (tt, tt)) (λ number came both. (tt, tt)) (λ both. (λ apart client domains agree. agree, record { asked = inl refl; opened = inl refl }))
      (verdict row octets)
      (verdict_said row row.association (pdu_heard row.constants.edition octets), meant_by row.association (pdu_heard row.constants.edition octets) refl)
