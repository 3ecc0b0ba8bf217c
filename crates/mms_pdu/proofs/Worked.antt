-- Worked examples of PDUs that no service sends yet, with octets typed from ITU-T X.690 and ISO 9506-2, and of how deep requests nest.
use Rattle.std.specs.Prelude.{◌≡◌, ℕ, pos, true, false, List, [], ◌∷◌, map, Option, Some, None, Ok}
use Rattle.std.proofs.Common.{refl, inl, inr, arith}
use Rattle.mms_types.specs.Datum.{Datum, row}
use Rattle.mms_types.specs.Datum as datum
use Rattle.mms_types.specs.Shape.{Shape, no_field, field}
use Rattle.mms_types.specs.Shape as shape
use Rattle.mms_types.specs.declared.identifier.Edition.TheVariants.{One}
use Rattle.mms_types.specs.declared.condition.ConditionState.{ConditionState}
use Rattle.mms_types.specs.declared.condition.ConditionState.TheVariants.{Idle, Active}
use Rattle.mms_types.specs.declared.condition.ConditionStatus.{ConditionStatus}
use Rattle.mms_types.specs.declared.condition.EventTime.TheVariants as time
use Rattle.mms_types.specs.declared.journal.EntryContent.TheVariants.{Data, Text}
use Rattle.mms_types.specs.declared.journal.JournalEntry.{JournalEntry}
use Rattle.mms_types.specs.declared.object_name.ObjectName.TheVariants.{Vmd, Association}
use Rattle.mms_types.specs.declared.pdu.Answer.TheVariants as answer
use Rattle.mms_types.specs.declared.variable.Access.TheVariants as access
use Rattle.mms_types.specs.declared.pdu.Request.TheVariants as request
use Rattle.mms_types.specs.declared.pdu.ServerRequest.{ServerRequest}
use Rattle.mms_types.specs.declared.pdu.ServerRequest.TheVariants as server_request
use Rattle.mms_types.specs.declared.pdu.Pdu.{Pdu}
use Rattle.mms_types.specs.declared.pdu.Pdu.TheVariants as pdu
use Rattle.mms_types.specs.declared.pdu.RejectReason.TheVariants.{InvalidInvokeId}
use Rattle.mms_types.specs.declared.service_error.ServiceError.{ServiceError}
use Rattle.mms_types.specs.Errors.{cancel, further_communication_required, domain_transfer_problem}
use Rattle.ber_core.specs.Spelling.{digits, identifier_octets, length_octets, element_octets}
use Rattle.ber_core.specs.Reading.{definite_at, identifier_at, second_at, third_at, length_at, long_length_at}
use Rattle.ber_forms.specs.ByNumber.{has_number}
use Rattle.ber_forms.specs.Value.{nothing}
use Rattle.ber_forms.specs.Reading.{at_end, part_at, next_at}
use Rattle.pdu_names.specs.Editions.{lengths_of}
use Rattle.pdu_names.specs.Names.{names}
use Rattle.pdu_assoc.specs.ServiceErrors.{numbered}
use Rattle.pdu_programs.specs.Services.{server_requests, client_answers}
use Rattle.pdu_events.specs.Entries.{entry_contents}
use Rattle.mms_pdu.specs.Services.{requests, answers, service_numbers}
use Rattle.mms_pdu.specs.Pdus.{pdu_octets}
use Rattle.mms_pdu.specs.Hearing.{depth_of, sole_part, part_told, heard}
use Rattle.mms_pdu.specs.Answering.{IsAnswer}

-- a function answers each row of a table with its second column
abbrev Answers : {A B : Type 0} → (A → B) → List (A × B) → Type 0
Answers f table = map (λ row. f row.0) table ≡ map (λ row. row.1) table

-- a service is refused where the state of an invocation hinders it: the class service, object-state-conflict, and what is told besides, that a stop met a stopped one
abbrev stopped : ServiceError
stopped = record { class = 4; code = 2; info = Some (record { kind = 2; state = 2 }) }

-- the load of D1 has ended: as all segments came, or as it failed
abbrev ends : Option ServiceError → ServerRequest
ends why = server_request.TerminateDownloadSequence (record { domain = 68 ∷ 49 ∷ []; discard = why })

-- a client is told of M by its own N, at so many ms
abbrev told_of_m : Option ConditionState → ℕ → Pdu
told_of_m state ms = pdu.EventNotification (record {
  enrolment = Association (78 ∷ []);
  condition = Vmd (77 ∷ []);
  severity = 64;
  state = state;
  time = time.TimeOfDay (record { ms = ms; day = 0 });
})

-- M is active since 20 ms and was idle at 10 ms
abbrev active_since_20 : ConditionStatus
active_since_20 = record {
  state = Active;
  enrolments = 0;
  enabled = true;
  to_active = time.TimeOfDay (record { ms = 20; day = 0 });
  to_idle = time.TimeOfDay (record { ms = 10; day = 0 });
}

-- an entry of a journal at 5 ms, a text
abbrev ok : JournalEntry
ok = record { time = record { ms = 5; day = 0 }; content = Text (111 ∷ 107 ∷ []) }

sent : Answers pdu_octets (
    (pdu.ConfirmedError (record { invoke = 2; modifier = None; error = cancel }), 162 ∷ 10 ∷ 128 ∷ 1 ∷ 2 ∷ 162 ∷ 5 ∷ 160 ∷ 3 ∷ 133 ∷ 1 ∷ 3 ∷ []) ∷ (
      pdu.ConfirmedError (record { invoke = 5; modifier = None; error = stopped }),
      162 ∷ 15 ∷ 128 ∷ 1 ∷ 5 ∷ 162 ∷ 10 ∷ 160 ∷ 3 ∷ 132 ∷ 1 ∷ 2 ∷ 163 ∷ 3 ∷ 130 ∷ 1 ∷ 2 ∷ [],
    ) ∷
    (pdu.Reject (record { invoke = Some 2; reason = InvalidInvokeId }), 164 ∷ 6 ∷ 128 ∷ 1 ∷ 2 ∷ 129 ∷ 1 ∷ 3 ∷ []) ∷
    (pdu.CancelResponse 2, 134 ∷ 1 ∷ 2 ∷ []) ∷
    (pdu.ConcludeError further_communication_required, 173 ∷ 5 ∷ 160 ∷ 3 ∷ 137 ∷ 1 ∷ 1 ∷ []) ∷
    (pdu.ServerRequest 1 (server_request.DownloadSegment (68 ∷ 49 ∷ [])), 160 ∷ 7 ∷ 2 ∷ 1 ∷ 1 ∷ 155 ∷ 2 ∷ 68 ∷ 49 ∷ []) ∷
    (pdu.ServerRequest 2 (ends None), 160 ∷ 9 ∷ 2 ∷ 1 ∷ 2 ∷ 188 ∷ 4 ∷ 128 ∷ 2 ∷ 68 ∷ 49 ∷ []) ∷ (
      pdu.ServerRequest 2 (ends (Some domain_transfer_problem)),
      160 ∷ 16 ∷ 2 ∷ 1 ∷ 2 ∷ 188 ∷ 11 ∷ 128 ∷ 2 ∷ 68 ∷ 49 ∷ 161 ∷ 5 ∷ 160 ∷ 3 ∷ 128 ∷ 1 ∷ 3 ∷ [],
    ) ∷ (
      pdu.ConfirmedResponse 5 (answer.ReportEventConditionStatus active_since_20),
      161 ∷ 35 ∷ 2 ∷ 1 ∷ 5 ∷ 191 ∷ 50 ∷ 29 ∷ 128 ∷ 1 ∷ 2 ∷ 129 ∷ 1 ∷ 0 ∷ 130 ∷ 1 ∷ 255
          ∷ 163 ∷ 8 ∷ 128 ∷ 6 ∷ 0 ∷ 0 ∷ 0 ∷ 20 ∷ 0 ∷ 0 ∷ 164 ∷ 8 ∷ 128 ∷ 6 ∷ 0 ∷ 0 ∷ 0 ∷ 10 ∷ 0 ∷ 0 ∷ [],
    ) ∷ (
      told_of_m (Some Idle) 0,
      163 ∷ 28 ∷ 162 ∷ 26 ∷ 160 ∷ 3 ∷ 130 ∷ 1 ∷ 78 ∷ 161 ∷ 3 ∷ 128 ∷ 1 ∷ 77 ∷ 130 ∷ 1 ∷ 64 ∷ 131 ∷ 1 ∷ 1 ∷ 164 ∷ 8 ∷ 128 ∷ 6 ∷ 0 ∷ 0 ∷ 0 ∷ 0 ∷ 0 ∷ 0 ∷ [],
    ) ∷ (
      told_of_m None 35,
      163 ∷ 25 ∷ 162 ∷ 23 ∷ 160 ∷ 3 ∷ 130 ∷ 1 ∷ 78 ∷ 161 ∷ 3 ∷ 128 ∷ 1 ∷ 77 ∷ 130 ∷ 1 ∷ 64 ∷ 164 ∷ 8 ∷ 128 ∷ 6 ∷ 0 ∷ 0 ∷ 0 ∷ 35 ∷ 0 ∷ 0 ∷ [],
    ) ∷ (
      pdu.ConfirmedResponse 3 (answer.ReadJournal (record { entries = record { number = 0 ∷ 0 ∷ 0 ∷ 0 ∷ 0 ∷ 0 ∷ 0 ∷ 1 ∷ []; client = 1; entry = ok } ∷ []; more = false })),
      161 ∷ 44 ∷ 2 ∷ 1 ∷ 3 ∷ 191 ∷ 65 ∷ 38 ∷ 160 ∷ 33 ∷ 48 ∷ 31 ∷ 128 ∷ 8 ∷ 0 ∷ 0 ∷ 0 ∷ 0 ∷ 0 ∷ 0 ∷ 0 ∷ 1 ∷ 161 ∷ 5 ∷ 161 ∷ 3 ∷ 2 ∷ 1 ∷ 1
          ∷ 162 ∷ 12 ∷ 128 ∷ 6 ∷ 0 ∷ 0 ∷ 0 ∷ 5 ∷ 0 ∷ 0 ∷ 131 ∷ 2 ∷ 111 ∷ 107 ∷ 129 ∷ 1 ∷ 0 ∷ [],
    ) ∷
    [])
unfolding requests answers names entry_contents numbered element_octets identifier_octets length_octets digits
sent = refl

-- ---- who asks which services

-- 27 and 28 are the server's: an initiate-Response names them, no client may ask them, and a client may answer them alone
numbers_are : service_numbers ≡ 0 ∷ 1 ∷ 2 ∷ 4 ∷ 5 ∷ 6 ∷ 7 ∷ 10 ∷ 11 ∷ 12 ∷ 13 ∷ 19 ∷ 20 ∷ 21 ∷ 22 ∷ 23 ∷ 24 ∷ 25 ∷ 26 ∷ 27 ∷ 28 ∷ 29 ∷ 30 ∷ 31 ∷ 36 ∷ 37 ∷ 38 ∷ 39 ∷ 40 ∷ 41 ∷ 42 ∷ 43 ∷ 44 ∷ 45 ∷ 47 ∷ 48 ∷ 50 ∷ 51 ∷ 52 ∷ 57 ∷ 58 ∷ 65 ∷ 66 ∷ 67 ∷ 68 ∷ 69 ∷ 70 ∷ []
numbers_are = refl

clients_may_ask : Answers (has_number (requests.alternatives One)) (
    (0, true) ∷ (25, true) ∷ (26, true) ∷ (27, false) ∷ (28, false) ∷ (29, true) ∷ (31, true) ∷ (32, false) ∷ (36, true) ∷ (37, true) ∷ (38, true) ∷ (45, true) ∷ (46, false) ∷ (47, true) ∷ (48, true) ∷ (49, false) ∷ (50, true) ∷ (52, true) ∷
    (53, false) ∷ (56, false) ∷ (57, true) ∷ (58, true) ∷ (59, false) ∷ (64, false) ∷ (65, true) ∷ (70, true) ∷ (71, false) ∷ [])
unfolding requests
clients_may_ask = refl

clients_may_answer : Answers (has_number (client_answers.alternatives One)) ((0, false) ∷ (26, false) ∷ (27, true) ∷ (28, true) ∷ (29, false) ∷ [])
clients_may_answer = refl

-- ---- what is no PDU of the client's

-- an unconfirmed PDU that a client sends is of no effect, a notification as one of no service
is_nothing : Answers (heard (lengths_of One) One) (
    (163 ∷ 4 ∷ 162 ∷ 2 ∷ 160 ∷ 0 ∷ [], Ok nothing) ∷
    (163 ∷ 0 ∷ [], Ok nothing) ∷
    [])
unfolding heard sole_part part_told part_at next_at at_end definite_at identifier_at second_at third_at length_at long_length_at
is_nothing = refl

-- ---- which octets answer a request

-- that a semaphore is defined, and that a request is cancelled
answers_five : IsAnswer 5 (161 ∷ 5 ∷ 2 ∷ 1 ∷ 5 ∷ 149 ∷ 0 ∷ [])
unfolding digits element_octets identifier_octets length_octets
answers_five = (omega arith, inl (149 ∷ 0 ∷ [], refl))

answers_two : IsAnswer 2 (162 ∷ 10 ∷ 128 ∷ 1 ∷ 2 ∷ 162 ∷ 5 ∷ 160 ∷ 3 ∷ 133 ∷ 1 ∷ 3 ∷ [])
unfolding digits element_octets identifier_octets length_octets
answers_two = (omega arith, inr (162 ∷ 5 ∷ 160 ∷ 3 ∷ 133 ∷ 1 ∷ 3 ∷ [], refl))

-- ---- how deep requests nest

abbrev write : List Datum → Pdu
write values = pdu.ConfirmedRequest 1 (request.Write (record { access = access.List (Vmd (76 ∷ [])); values = values }))

abbrev define : Option Shape → Pdu
define of = pdu.ConfirmedRequest 1 (request.DefineNamedVariable (record { name = Vmd (65 ∷ []); address = 0; of = of }))

abbrev seven : Datum
seven = datum.integer (pos 7)

-- one with these data of X
abbrev entry : List Datum → JournalEntry
entry values = record {
  time = record { ms = 5; day = 0 };
  content = Data None (Some (map (λ value. record { tag = 88 ∷ []; value = value }) values));
}

abbrev write_entries : List JournalEntry → Pdu
write_entries entries = pdu.ConfirmedRequest 1 (request.WriteJournal (record { name = Vmd (74 ∷ []); entries = entries }))

-- an array or a structure is one more than its deepest part, and 1 where it has none; what is deepest counts, wherever it stands
nests : Answers depth_of (
    (write [], 0) ∷
    (write (seven ∷ seven ∷ []), 0) ∷
    (write (datum.array (row []) ∷ seven ∷ []), 1) ∷
    (write (seven ∷ datum.structure (row (seven ∷ datum.array (row (seven ∷ [])) ∷ [])) ∷ datum.array (row []) ∷ []), 2) ∷
    (define None, 0) ∷
    (define (Some shape.boolean), 0) ∷
    (define (Some (shape.structure false no_field)), 1) ∷
    (define (Some (shape.array false 2 (shape.structure true (field None shape.boolean (field (Some (65 ∷ [])) (shape.array false 0 shape.boolean) no_field))))), 3) ∷
    (write_entries (ok ∷ entry [] ∷ []), 0) ∷
    (write_entries (entry (seven ∷ datum.array (row []) ∷ seven ∷ []) ∷ ok ∷ []), 1) ∷
    (write_entries (entry (datum.array (row []) ∷ []) ∷ entry (seven ∷ datum.structure (row (datum.array (row []) ∷ [])) ∷ []) ∷ entry (seven ∷ []) ∷ []), 2) ∷
    (pdu.ConfirmedRequest 1 (request.GetNamedVariableListAttributes (Vmd (76 ∷ []))), 0) ∷
    (pdu.ConfirmedRequest 1 (request.ReportEventConditionStatus (Vmd (77 ∷ []))), 0) ∷
    (pdu.CancelRequest 1, 0) ∷
    (told_of_m None 35, 0) ∷
    [])
nests = refl
