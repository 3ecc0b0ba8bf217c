-- What a client sends in an association, as to the loads of domains: what it answers to a request of a load, and what else changes none of them.
use Rattle.std.proofs.Common.{◌≡◌, ◌∙◌, ℕ, Bool, true, false, List, [], ◌∷◌, Option, None, Some, refl, ap, sym, subst, arith}
use Rattle.std.specs.Prelude.{◌&&◌, count_by, nat_lt, Result, Ok, Err, if◌then◌else◌}
use Rattle.mms_types.specs.declared.asked.Asked.{Asked}
use Rattle.mms_types.specs.declared.asked.Asked.TheVariants as asks
use Rattle.mms_types.specs.declared.initiate.InitiateAnswer.{InitiateAnswer}
use Rattle.mms_types.specs.declared.memory.Memory.{Memory}
use Rattle.mms_types.specs.declared.pdu.ClientAnswer.{ClientAnswer}
use Rattle.mms_types.specs.declared.pdu.ClientAnswer.TheVariants.{DownloadSegment, TerminateDownloadSequence}
use Rattle.mms_types.specs.declared.pdu.Pdu.{Pdu}
use Rattle.mms_types.specs.declared.pdu.Pdu.TheVariants as pdu
use Rattle.mms_types.specs.declared.pdu.Reject.{Reject}
use Rattle.mms_types.specs.declared.pdu.Request.{Request}
use Rattle.mms_types.specs.declared.service_error.ServiceError.{ServiceError}
use Rattle.mms_pdu.specs.declared.refusal.Refusal.{Refusal}
use Rattle.mms_pdu.specs.Heard.{pdu_heard}
use Rattle.mms_pdu.specs.Hearing.{depth_of}
use Rattle.mms_pdu.specs.Rejects.{reject_of}
use Rattle.association.specs.Admission.{admission}
use Rattle.association.specs.Asked.{AreApart, asked_of, is_open, row_asked, unsettled}
use Rattle.association.specs.Client.{ClientRow}
use Rattle.association.specs.Negotiation.{negotiation}
use Rattle.association.specs.Waiting.{is_waiting}
use Rattle.association.specs.declared.client_part.NotAdmitted.{NotAdmitted}
use Rattle.association.specs.declared.client_part.NotAdmitted.TheVariants as not_admitted
use Rattle.association.specs.declared.negotiation.Association.{Association}
use Rattle.association.specs.declared.negotiation.Association.TheVariants.{Idle, Open}
use Rattle.association.specs.declared.negotiation.Negotiated.{Negotiated}
use Rattle.association.specs.declared.unanswered.Unanswered.{Unanswered}
use Rattle.association.specs.declared.waiting.Waiting.{Waiting}
use Rattle.domain_load.specs.Domains.{Rows, is_there, name_eq}
use Rattle.domain_load.specs.Loading.{answers_load, domain_of, is_of_load}
use Rattle.domain_load.specs.Standing.{is_loaded_by}
use Rattle.cell_client.specs.Association.{Arrives, Came, Ends, Fails, Verdict, Tells, Takes, Replies, admitted, answered_by, cancelled, concluded, failed_by, heard_error, heard_reject, heard_response, idle_verdict, negotiated, open_verdict, refused, rejected, requested, verdict, verdict_by}
use Rattle.cell_client.specs.Effects.{Effect, Settles, felt_all}
use Rattle.serve_domains.specs.Domains.{AnswersLoad, reply_of}
use Rattle.serve_domains.specs.Loads.{AreLoads, asks_load, is_of_load_kind}
use Rattle.serve_domains.specs.Tables.{DomainTables}
use Rattle.serve_domains.proofs.LoadLaws.{asked_row, count_settled, row_is_loaded}

-- the server's request of that number is unanswered, and is of a load that goes on
pub record IsOfLoad (rows : List Unanswered) (number : ℕ) (came : Came) : Type 0 where
  pub of : Asked × List ℕ
  pub asked : asked_of number rows ≡ Some of
  pub kind : is_of_load_kind of.0 ≡ true
  pub of_load : is_of_load (reply_of came of) ≡ true

-- what a client is told changes none of the loads that it is asked for
abbrev pub KeepsLoads : ClientRow → List Effect → Type 0
KeepsLoads row effects = (client : ℕ) (domains : Rows) → AreLoads client row.asked domains → AreLoads client (felt_all effects row).asked domains

-- what a verdict says of loads
abbrev pub IsSaid : ClientRow → Verdict → Type 0
IsSaid row (Tells effects) = AreApart row.asked → KeepsLoads row effects
IsSaid row (Replies number came) = IsOfLoad row.asked number came
IsSaid row other = Unit {0}

-- ---- what is asked stays as it is

abbrev once : Bool → ℕ
once b = if b then 1 else 0

-- a discard is of no load
settled_keeps : (row : ClientRow) (number : ℕ) (domain : List ℕ) → asked_of number row.asked ≡ Some (asks.Discard, domain) → AreApart row.asked
    → KeepsLoads row (Settles number ∷ [])
settled_keeps row number domain is apart client domains agree = record { each = λ name. same name ∙ agree.each name }
  where
    it : (u : Unanswered) × (row_asked number row.asked ≡ Some u) × (u.kind ≡ asks.Discard) × (u.domain ≡ domain)
    it = asked_row number row.asked (asks.Discard, domain) is

    no_load : (name : List ℕ) → asks_load name it.0 ≡ false
    no_load name = ap (λ (k : Asked). is_of_load_kind k && name_eq it.0.domain name) it.2

    same : (name : List ℕ) → count_by (asks_load name) (unsettled number row.asked) ≡ count_by (asks_load name) row.asked
    same name =
        let all = count_settled (asks_load name) number row.asked it.0 apart it.1 in
        let none : once (asks_load name it.0) ≡ 0 = ap once (no_load name) in
        omega (arith, all, none)

refused_keeps : (row : ClientRow) (told : Result Reject Memory) → KeepsLoads row (refused told)
refused_keeps row (Ok reject) client domains agree = agree
refused_keeps row (Err memory) client domains agree = agree

negotiated_keeps : (row : ClientRow) (told : Result InitiateAnswer ServiceError) → KeepsLoads row (negotiated told)
negotiated_keeps row (Ok answer) client domains agree = agree
negotiated_keeps row (Err refusal) client domains agree = agree

-- ---- each verdict

admitted_said : (row : ClientRow) (may : Result Unit NotAdmitted) (invoke : ℕ) (asked : Request) → IsSaid row (admitted may invoke asked)
admitted_said row (Err not_admitted.Waiting) invoke asked = λ apart client domains agree. agree
admitted_said row (Err not_admitted.Outstanding) invoke asked = λ apart client domains agree. agree
admitted_said row (Ok taken) invoke asked = tt

requested_said : (row : ClientRow) (too_deep : Bool) (invoke : ℕ) (asked : Request) → IsSaid row (requested too_deep row invoke asked)
requested_said row true invoke asked = λ apart client domains agree. agree
requested_said row false invoke asked = admitted_said row (admission invoke row) invoke asked

concluded_said : (row : ClientRow) (waiting : List Waiting) (rows : List Unanswered) → IsSaid row (concluded waiting rows)
concluded_said row [] [] = tt
concluded_said row [] (first ∷ rest) = λ apart client domains agree. agree
concluded_said row (first ∷ rest) rows = λ apart client domains agree. agree

cancelled_said : (row : ClientRow) (waits : Bool) (invoke : ℕ) → IsSaid row (cancelled waits invoke)
cancelled_said row true invoke = tt
cancelled_said row false invoke = λ apart client domains agree. agree

module _ (row : ClientRow) (number : ℕ) where
  answered_said : (kind : Asked) (domain : List ℕ) (told : ClientAnswer) → asked_of number row.asked ≡ Some (kind, domain) → IsSaid row (answered_by number kind told)
  answered_said asks.Segment domain (DownloadSegment segment) is = record { of = (asks.Segment, domain); asked = is; kind = refl; of_load = refl }
  answered_said asks.Segment domain TerminateDownloadSequence is = λ apart client domains agree. agree
  answered_said asks.Terminate domain TerminateDownloadSequence is = record { of = (asks.Terminate, domain); asked = is; kind = refl; of_load = refl }
  answered_said asks.Terminate domain (DownloadSegment segment) is = λ apart client domains agree. agree
  answered_said asks.Discard domain TerminateDownloadSequence is = settled_keeps row number domain is
  answered_said asks.Discard domain (DownloadSegment segment) is = λ apart client domains agree. agree

  failed_said : (kind : Asked) (domain : List ℕ) → asked_of number row.asked ≡ Some (kind, domain) → IsSaid row (failed_by number kind)
  failed_said asks.Segment domain is = record { of = (asks.Segment, domain); asked = is; kind = refl; of_load = refl }
  failed_said asks.Terminate domain is = record { of = (asks.Terminate, domain); asked = is; kind = refl; of_load = refl }
  failed_said asks.Discard domain is = settled_keeps row number domain is

  response_said : (told : ClientAnswer) (o : Option (Asked × List ℕ)) → asked_of number row.asked ≡ o → IsSaid row (heard_response number told o)
  response_said told None is = λ apart client domains agree. agree
  response_said told (Some of) is = answered_said of.0 of.1 told is

  error_said : (o : Option (Asked × List ℕ)) → asked_of number row.asked ≡ o → IsSaid row (heard_error number o)
  error_said None is = λ apart client domains agree. agree
  error_said (Some of) is = failed_said of.0 of.1 is

  reject_said : (o : Option (Asked × List ℕ)) → asked_of number row.asked ≡ o → IsSaid row (heard_reject number o)
  reject_said None is = λ apart client domains agree. agree
  reject_said (Some of) is = failed_said of.0 of.1 is

rejected_said : (row : ClientRow) (number : Option ℕ) → IsSaid row (rejected number row.asked)
rejected_said row None = λ apart client domains agree. agree
rejected_said row (Some number) = reject_said row number (asked_of number row.asked) refl

idle_said : (row : ClientRow) (heard : Result Pdu Refusal) → IsSaid row (idle_verdict heard)
idle_said row (Ok (pdu.InitiateRequest proposal)) = λ apart. negotiated_keeps row (negotiation proposal)
idle_said row heard = λ apart client domains agree. agree

open_said : (values : Negotiated) (row : ClientRow) (heard : Result Pdu Refusal) → IsSaid row (open_verdict values row heard)
open_said values row (Err refusal) = λ apart. refused_keeps row (reject_of refusal)
open_said values row (Ok (pdu.InitiateRequest proposal)) = tt
open_said values row (Ok pdu.ConcludeRequest) = concluded_said row row.waiting row.asked
open_said values row (Ok (pdu.CancelRequest invoke)) = cancelled_said row (is_waiting invoke row.waiting) invoke
open_said values row (Ok (pdu.ConfirmedRequest invoke asked)) = requested_said row (nat_lt values.nesting (depth_of (pdu.ConfirmedRequest invoke asked))) invoke asked
open_said values row (Ok (pdu.HeardResponse number told)) = response_said row number told (asked_of number row.asked) refl
open_said values row (Ok (pdu.HeardError number)) = error_said row number (asked_of number row.asked) refl
open_said values row (Ok (pdu.HeardReject number)) = rejected_said row number
open_said values row (Ok heard) = λ apart client domains agree. agree

pub verdict_said : (row : ClientRow) (a : Association) (heard : Result Pdu Refusal) → IsSaid row (verdict_by a row heard)
verdict_said row Idle heard = idle_said row heard
verdict_said row (Open values) heard = open_said values row heard

-- ---- an answer to a request of a load

pub of_load : (row : ClientRow) (a : Association) (heard : Result Pdu Refusal) (number : ℕ) (came : Came) → verdict_by a row heard ≡ Replies number came → IsOfLoad row.asked number came
of_load row a heard number came is = subst (λ (v : Verdict). IsSaid row v) is (verdict_said row a heard)

pub domain_answered : (came : Came) (of : Asked × List ℕ) → domain_of (reply_of came of) ≡ of.1
domain_answered (Arrives segment) of = refl
domain_answered Ends of = refl
domain_answered Fails of = refl

-- it is of a domain that the client loads
pub loads_it : (t : DomainTables) (client number : ℕ) (rows : List Unanswered) (came : Came) (is : IsOfLoad rows number came) → AreLoads client rows t.domains
    → answers_load client (reply_of came is.of) t.domains ≡ true
loads_it t client number rows came is agree =
    subst (λ (name : List ℕ). is_there (is_loaded_by client) name t.domains ≡ true) (sym (domain_answered came is.of)) (row_is_loaded client number rows t.domains is.of agree is.asked is.kind)

pub answers_load_by : (t : DomainTables) (row : ClientRow) (heard : Result Pdu Refusal) (number : ℕ) (came : Came) → verdict_by row.association row heard ≡ Replies number came
    → AreLoads row.client row.asked t.domains → AnswersLoad row number came t
answers_load_by t row heard number came is agree =
    let of = of_load row row.association heard number came is in
    record { of = of.of; asked = of.asked; loads = loads_it t row.client number row.asked came of agree; of_load = of.of_load }

pub answers_load_of : (t : DomainTables) (row : ClientRow) (octets : List ℕ) (number : ℕ) (came : Came) → verdict row octets ≡ Replies number came
    → AreLoads row.client row.asked t.domains → AnswersLoad row number came t
answers_load_of t row octets number came = answers_load_by t row (pdu_heard row.constants.edition octets) number came

-- ---- without an association nothing is taken

-- it is told at once
pub told_idle : (heard : Result Pdu Refusal) → (effects : List Effect) × (idle_verdict heard ≡ Tells effects)
told_idle (Ok (pdu.InitiateRequest proposal)) = (_, refl)
told_idle heard = (_, refl)

pub is_open_reply : (row : ClientRow) (a : Association) (heard : Result Pdu Refusal) (number : ℕ) (came : Came) → verdict_by a row heard ≡ Replies number came → is_open a ≡ true
is_open_reply row Idle heard number came is = let told = told_idle heard in absurd (cc (told.1, is))
is_open_reply row (Open values) heard number came is = refl

pub is_open_request : (row : ClientRow) (a : Association) (heard : Result Pdu Refusal) (invoke : ℕ) (asked : Request) → verdict_by a row heard ≡ Takes invoke asked → is_open a ≡ true
is_open_request row Idle heard invoke asked is = let told = told_idle heard in absurd (cc (told.1, is))
is_open_request row (Open values) heard invoke asked is = refl
