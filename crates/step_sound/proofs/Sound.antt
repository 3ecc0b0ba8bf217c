-- Every state is sound that the device reaches from its start.
use Rattle.std.specs.Prelude.{◌≡◌, ◌≢◌, ℕ, zero, suc, ◌+◌, ◌-◌, ◌<◌, ◌≤◌, nat_le, nat_lt, Bool, true, false, not, ◌==◌, Option, None, Some, List, [], ◌∷◌, ◌++◌, option_to_list, fold, map, length, slice_get, Result, Ok, Err, if◌then◌else◌, refl}
use Rattle.std.specs.Option.{option_map}
use Rattle.std.proofs.Common.{ap, sym, ◌∙◌, subst, arith, length-append}
use Rattle.std.proofs.lemmas.Bool.Decides.{nat_tests}
use Rattle.std.proofs.lemmas.List.Elements.{All-filter, All-nil, All-push, All-weaker}
use Rattle.std.proofs.lemmas.List.Kept.{AllPairs-filter}
use Rattle.std.proofs.lemmas.List.Quantifiers.{all_pairs_push}
use native.Mathlib.Decide.{ℕ_discrete}
use Rattle.mms_types.specs.Actors.{clients_to}
use Rattle.mms_types.specs.declared.event.CellEvent.{CellEvent}
use Rattle.mms_types.specs.declared.event.CellEvent.TheVariants.{Heard, Lost, Tick, Ends, Drain}
use Rattle.mms_types.specs.declared.initiate.InitiateAnswer.{InitiateAnswer}
use Rattle.mms_types.specs.declared.memory.Memory.{Memory}
use Rattle.mms_types.specs.declared.pdu.Answer.{Answer}
use Rattle.mms_types.specs.declared.pdu.Pdu.{Pdu}
use Rattle.mms_types.specs.declared.pdu.Pdu.TheVariants as pdu
use Rattle.mms_types.specs.declared.pdu.Reject.{Reject}
use Rattle.mms_types.specs.declared.pdu.Request.{Request}
use Rattle.mms_types.specs.declared.service_error.ServiceError.{ServiceError}
use Rattle.mms_pdu.specs.declared.refusal.Refusal.{Refusal}
use Rattle.mms_pdu.specs.Heard.{pdu_heard}
use Rattle.mms_pdu.specs.Hearing.{depth_of}
use Rattle.mms_pdu.specs.Rejects.{reject_of}
use Rattle.mms_types.specs.declared.asked.Asked.{Asked}
use Rattle.mms_types.specs.declared.asked.Asked.TheVariants as asks
use Rattle.mms_types.specs.declared.pdu.ClientAnswer.{ClientAnswer}
use Rattle.mms_types.specs.declared.pdu.ClientAnswer.TheVariants.{DownloadSegment, TerminateDownloadSequence}
use Rattle.association.specs.Asked.{AreApart, AreBelow, asked_of}
use Rattle.association.specs.declared.unanswered.Unanswered.{Unanswered}
use Rattle.domain_load.specs.Loading.{asked_next}
use Rattle.serve_domains.specs.Domains.{asks_next, replied_to, reply_of}
use Rattle.step_sound.proofs.Loading.{first_loads, first_names, first_uploads, first_used, loads_after, names_after, uploads_after, used_after}
pub use Rattle.step_parts.proofs.Rows.{delivered_both}
use Rattle.step_parts.proofs.Rows.{nobody_told, row_of_it}
use Rattle.association.specs.declared.client_part.NotAdmitted.{NotAdmitted}
use Rattle.association.specs.declared.client_part.NotAdmitted.TheVariants as not_admitted
use Rattle.association.specs.declared.negotiation.Association.{Association}
use Rattle.association.specs.declared.negotiation.Association.TheVariants.{Idle, Open}
use Rattle.association.specs.declared.negotiation.Negotiated.{Negotiated}
use Rattle.association.specs.declared.waiting.Waiting.{Waiting}
use Rattle.association.specs.Admission.{admission, called_of, waiting_if}
use Rattle.association.specs.Client.{ClientRow, new_row}
use Rattle.association.specs.Negotiation.{negotiation}
use Rattle.association.specs.Waiting.{is_waiting, without}
use Rattle.cell_config.specs.declared.config.Config.{Config}
use Rattle.cell_config.specs.Said.{IsConfig}
use Rattle.parted_state.specs.ListsLaws.{get_front, get_behind, get_changed, get_change}
use Rattle.parted_state.specs.Served.{change, row_at, reached, delivered}
use Rattle.sem_ticks.specs.declared.granted.Granted.{Granted}
use Rattle.sem_ticks.specs.Granted.{lost_granted}
use Rattle.mms_time.specs.Services.{take_told}
use Rattle.sem_ticks.specs.Granted.{relinquish_granted}
use Rattle.mms_time.specs.declared.taking.TakeDone.{TakeDone}
use Rattle.mms_time.specs.declared.taking.TakeDone.TheVariants.{Answered}
use Rattle.mms_time.specs.declared.taking.TakeDone.TheVariants as taken
use Rattle.std.specs.Map.{lookup}
use Rattle.mms_types.specs.Order.{key_eq}
use Rattle.mms_types.specs.declared.key.Key.{Key}
use Rattle.token_sem.specs.Semaphore.{IsSem, Sem}
use Rattle.mms_time.specs.Semaphores.{IsSound as IsOneSound}
use Rattle.mms_time.specs.declared.row.Semaphore.{Semaphore}
use Rattle.mms_time.specs.declared.row.Semaphore.TheVariants.{Token, Pool}
use Rattle.pool_sem.specs.Pools.{Pool as NamedTokens, IsPool}
use Rattle.mms_time.specs.declared.row.SemaphoreRow.{SemaphoreRow}
use Rattle.sem_ticks.proofs.Kept.{row_found}
use Rattle.sem_ticks.proofs.Later.{none_ahead}
use Rattle.mms_types.specs.declared.cells.PoolRow.{PoolRow}
use Rattle.mms_time.specs.Opening.{configured as configured_pools}
use Rattle.mms_time.proofs.TokenNames.{each_sound, pools_apart}
use Rattle.step_parts.proofs.Configured.{pools_apart as pools_apart_in}
use Rattle.mms_types.specs.declared.moment.Moment.{Moment}
use Rattle.std.specs.List.{All}
use Rattle.mms_time.specs.Deadlines.{NamedDeadline, all_deadlines}
use Rattle.sem_ticks.specs.Sound.{LieAhead}
use Rattle.sem_ticks.specs.declared.ticks.Happening.TheVariants as happens
use Rattle.mms_types.specs.declared.pdu.Request.TheVariants as request
use Rattle.step_parts.specs.State.{State, start, device_of, HaveMadeAtMost, IsSound, IsSoundRow, AreNumbered}
use Rattle.cell_client.specs.Effects.{Effect, Sends, Opens, Closes, Waits, Answers, Drains, felt, felt_all, tell, Asks, Settles}
use Rattle.cell_client.specs.Association.{Verdict, other_error, Tells, Takes, Concludes, Cancels, Aborts, verdict, verdict_by, idle_verdict, open_verdict, admitted, requested, concluded, cancelled, negotiated, refused, loss_told, Came, Replies, Exhausts, answered_by, failed_by, heard_response, heard_error, heard_reject, rejected}
use Rattle.cell_services.specs.Tables.{Tables, moment_after, moment_of, own_events}
use Rattle.step_parts.specs.Partition.{cell}
use Rattle.cell_services.specs.Services.{cause, effect, grant_told, grants_told, relinquish_outcome, take_outcome, reply_in, cause_of, effect_of}
use Rattle.cell_client.specs.Requests.{fits, refuses, request_told, answer_told, size_of}
use Rattle.cell_services.specs.Serving.{all_told, also_lost, also_told, happened_told, meanwhile, own_told, resolved, saying}
use Rattle.step_parts.specs.Step.{step, replay}
use Rattle.mms_types.specs.declared.condition.Notice.{Notice}
use Rattle.mms_types.specs.declared.condition.Turned.{Turned}
use Rattle.event_enrol.specs.Enrolments.{Rows as Enrolments, notices}
use Rattle.serve_events.specs.Told.{notices_told, turns_told}
use Rattle.serve_events.specs.Events.{alter_condition, alter_turns, delete_turns, trigger_turns}
use Rattle.cell_services.specs.Requests.{told_in}
use Rattle.cell_ticks.specs.declared.happening.DatedHappening.{DatedHappening}
use Rattle.cell_ticks.specs.declared.happening.Happening.{Happening as DeviceHappening}
use Rattle.cell_ticks.specs.declared.happening.Happening.TheVariants as device
use Rattle.event_ticks.specs.Sound as events_sound
use Rattle.step_sound.proofs.EventsKept.{well_after, well_before}
use Rattle.step_sound.proofs.ConditionsKept.{AreWell, awaited_of, none_well, sound_of}
use Rattle.step_parts.proofs.PartsAfter.{length-start, length-clients_to, now_lost, step_sized, step_still, told_one}
use Rattle.step_sound.proofs.TokensKept.{AreKept, kept_heard, kept_later, kept_lost, kept_ticked, waits_numbered}
use Rattle.step_sound.proofs.Walked.{by_also, by_tables}

-- ---- requests that wait

numbered_later : (count : ℕ) (waiting : List Waiting) → AreNumbered count waiting → AreNumbered (suc count) waiting
numbered_later count [] numbered = tt
numbered_later count (request ∷ waiting) numbered = (omega (arith, numbered.0), numbered_later count waiting numbered.1)

numbered_without : (count invoke : ℕ) (waiting : List Waiting) → AreNumbered count waiting → AreNumbered count (without invoke waiting)
numbered_without count invoke [] numbered = tt
numbered_without count invoke (request ∷ waiting) numbered = by_test (not (request.invoke == invoke)) (numbered_without count invoke waiting numbered.1)
  where
    by_test : (b : Bool) → AreNumbered count (without invoke waiting) → AreNumbered count (if b then request ∷ without invoke waiting else without invoke waiting)
    by_test true rest = (numbered.0, rest)
    by_test false rest = rest

numbered_with : (count : ℕ) (waiting : List Waiting) (request : Waiting) → AreNumbered count waiting → request.entry ≤ count → AreNumbered count (waiting ++ request ∷ [])
numbered_with count [] request numbered is = (is, tt)
numbered_with count (first ∷ waiting) request numbered is = (numbered.0, numbered_with count waiting request numbered.1 is)

fewer_without : (invoke : ℕ) (waiting : List Waiting) → length (without invoke waiting) ≤ length waiting
fewer_without invoke [] = omega arith
fewer_without invoke (request ∷ waiting) = by_test (not (request.invoke == invoke)) (fewer_without invoke waiting)
  where
    by_test : (b : Bool) → length (without invoke waiting) ≤ length waiting → length (if b then request ∷ without invoke waiting else without invoke waiting) ≤ length (request ∷ waiting)
    by_test true rest = omega (arith, rest)
    by_test false rest = omega (arith, rest)

-- ---- the server's requests, by their numbers

none_together : AreApart []
none_together = λ i j d before below. absurd (omega (arith, below))

none_above : (next : ℕ) → AreBelow next []
none_above next = All-nil (λ (u : Unanswered). u.invoke < next)

-- one more has the next number
apart_asked : (new : Unanswered) (rows : List Unanswered) → AreApart rows → AreBelow new.invoke rows → AreApart (rows ++ new ∷ [])
apart_asked new rows apart below =
    all_pairs_push (λ (one : Unanswered) (other : Unanswered). one.invoke ≢ other.invoke) rows new apart
    (λ k d low same. let less = below k d low in absurd (omega (arith, less, same)))

below_asked : (new : Unanswered) (rows : List Unanswered) → AreBelow new.invoke rows → AreBelow (new.invoke + 1) (rows ++ new ∷ [])
below_asked new rows below =
    All-push (λ (u : Unanswered). u.invoke < new.invoke + 1) rows new
    (All-weaker (λ (u : Unanswered). u.invoke < new.invoke) (λ (u : Unanswered). u.invoke < new.invoke + 1) (λ u less. omega (arith, less)) rows below) (omega arith)

-- ---- a row, after what its client is told

row_later : (count client : ℕ) (row : ClientRow) → IsSoundRow count client row → IsSoundRow (suc count) client row
row_later count client row sound = record {
  number = sound.number;
  allowed = sound.allowed;
  entries = numbered_later count row.waiting sound.entries;
  apart = sound.apart;
  below = sound.below;
}

module _ (count client : ℕ) where
  sent : (output : _) (row : ClientRow) → IsSoundRow count client row → IsSoundRow count client (felt (Sends output) row)
  sent output row sound = record { number = sound.number; allowed = sound.allowed; entries = sound.entries; apart = sound.apart; below = sound.below }

  opened : (values : Negotiated) (row : ClientRow) → row.association ≡ Idle → IsSoundRow count client row → IsSoundRow count client (felt (Opens values) row)
  opened values row idle sound =
      let none : length row.waiting ≤ 0 = subst (λ (a : Association). length row.waiting ≤ called_of a) idle sound.allowed in
      record { number = sound.number; allowed = omega (arith, none); entries = sound.entries; apart = sound.apart; below = sound.below }

  closed : (row : ClientRow) → IsSoundRow count client row → IsSoundRow count client (felt Closes row)
  closed row sound = record { number = sound.number; allowed = omega arith; entries = tt; apart = none_together; below = none_above 1 }

  answered : (invoke : ℕ) (row : ClientRow) → IsSoundRow count client row → IsSoundRow count client (felt (Answers invoke) row)
  answered invoke row sound = record {
    number = sound.number;
    allowed = let few = fewer_without invoke row.waiting in omega (arith, few, sound.allowed);
    entries = numbered_without count invoke row.waiting sound.entries;
    apart = sound.apart;
    below = sound.below;
  }

  -- a request waits where it is admitted
  waited : (request : Waiting) (row : ClientRow) → request.entry ≤ count → IsSoundRow count client row → IsSoundRow count client (felt (Waits request) row)
  waited request row numbered sound = by_waiting (is_waiting request.invoke row.waiting) (nat_le (called_of row.association) (length row.waiting)) refl
    where
      by_waiting : (b c : Bool) → nat_le (called_of row.association) (length row.waiting) ≡ c
          → IsSoundRow count client (waiting_if (if b then Err not_admitted.Waiting else if c then Err not_admitted.Outstanding else Ok tt) request row)
      by_waiting true c e = sound
      by_waiting false true e = sound
      by_waiting false false e = record {
        number = sound.number;
        allowed =
            let room : length row.waiting < called_of row.association = grind (arith, nat_tests) in
            let many = length-append row.waiting (request ∷ []) in
            omega (arith, room, many);
        entries = numbered_with count row.waiting request sound.entries numbered;
        apart = sound.apart;
        below = sound.below;
      }

  asked : (kind : Asked) (domain : List ℕ) (row : ClientRow) → IsSoundRow count client row → IsSoundRow count client (felt (Asks kind domain) row)
  asked kind domain row sound = record {
    number = sound.number;
    allowed = sound.allowed;
    entries = sound.entries;
    apart = apart_asked (record { invoke = row.next_invoke; kind = kind; domain = domain }) row.asked sound.apart sound.below;
    below = below_asked (record { invoke = row.next_invoke; kind = kind; domain = domain }) row.asked sound.below;
  }

  settles : (number : ℕ) (row : ClientRow) → IsSoundRow count client row → IsSoundRow count client (felt (Settles number) row)
  settles number row sound = record {
    number = sound.number;
    allowed = sound.allowed;
    entries = sound.entries;
    apart = AllPairs-filter (λ (one : Unanswered) (other : Unanswered). one.invoke ≢ other.invoke) (λ row. not (row.invoke == number)) row.asked sound.apart;
    below = All-filter (λ row. not (row.invoke == number)) (λ (u : Unanswered). u.invoke < row.next_invoke) row.asked sound.below;
  }

  drained : (row : ClientRow) → IsSoundRow count client row → IsSoundRow count client (felt Drains row)
  drained row sound = record { number = sound.number; allowed = sound.allowed; entries = sound.entries; apart = sound.apart; below = sound.below }

  -- ---- what a client is told by what it sends

  refused_sound : (row : ClientRow) (told : Result Reject Memory) → IsSoundRow count client row → IsSoundRow count client (felt_all (refused told) row)
  refused_sound row (Ok reject) sound = sent _ row sound
  refused_sound row (Err memory) sound = sound

  negotiated_sound : (row : ClientRow) (told : Result InitiateAnswer ServiceError) → row.association ≡ Idle → IsSoundRow count client row
      → IsSoundRow count client (felt_all (negotiated told) row)
  negotiated_sound row (Ok answer) idle sound = sent _ (felt (Opens _) row) (opened _ row idle sound)
  negotiated_sound row (Err refusal) idle sound = sent _ row sound

  request_sound : (row : ClientRow) (size invoke : ℕ) (why : Option ServiceError) (told : Option Answer) → IsSoundRow count client row
      → IsSoundRow count client (felt_all (request_told size invoke why told) row)
  request_sound row size invoke (Some refusal) told sound = sent _ row sound
  request_sound row size invoke None None sound = sound
  request_sound row size invoke None (Some answer) sound = by_test (fits size invoke (Some answer))
    where
      by_test : (b : Bool) → IsSoundRow count client (felt_all (if b then answer_told invoke (Some answer) else refuses invoke other_error ∷ []) row)
      by_test true = sent _ row sound
      by_test false = sent _ row sound

  -- ---- what a client is told by a verdict

  abbrev Fine : ClientRow → Verdict → Type 0
  Fine row (Tells effects) = IsSoundRow count client (felt_all effects row)
  Fine row other = Unit {0}

  own_sound : (t : Tables) (row told : ClientRow) (v : Verdict) → IsSoundRow count client row → Fine row v → IsSoundRow count client (felt_all (own_told t told v) row)
  own_sound t row told (Tells effects) sound fine = fine
  own_sound t row told (Takes invoke asked) sound fine = request_sound row (size_of told.association) invoke (cause t told asked) (effect t told invoke asked).answer sound
  own_sound t row told (Replies number came) sound fine =
      request_sound row (size_of told.association) number (cause_of t told (reply_in number came)) (effect_of t told number (reply_in number came)).answer sound
  own_sound t row told (Exhausts invoke) sound fine = closed _ (sent _ _ (sent _ row sound))
  own_sound t row told Concludes sound fine = closed (felt (Sends _) row) (sent _ row sound)
  own_sound t row told (Cancels invoke) sound fine = sent _ _ (sent _ _ (answered invoke row sound))
  own_sound t row told Aborts sound fine = closed (felt (Sends _) row) (sent _ row sound)

  admitted_fine : (row : ClientRow) (may : Result Unit NotAdmitted) (invoke : ℕ) (asked : Request) → IsSoundRow count client row → Fine row (admitted may invoke asked)
  admitted_fine row (Err not_admitted.Waiting) invoke asked sound = sent _ row sound
  admitted_fine row (Err not_admitted.Outstanding) invoke asked sound = sent _ row sound
  admitted_fine row (Ok taken) invoke asked sound = tt

  requested_fine : (row : ClientRow) (too_deep : Bool) (invoke : ℕ) (asked : Request) → IsSoundRow count client row → Fine row (requested too_deep row invoke asked)
  requested_fine row true invoke asked sound = sent _ row sound
  requested_fine row false invoke asked sound = admitted_fine row (admission invoke row) invoke asked sound

  concluded_fine : (row : ClientRow) (waiting : List Waiting) (rows : List Unanswered) → IsSoundRow count client row → Fine row (concluded waiting rows)
  concluded_fine row [] [] sound = tt
  concluded_fine row [] (first ∷ rest) sound = sent _ row sound
  concluded_fine row (first ∷ rest) rows sound = sent _ row sound

  answered_fine : (row : ClientRow) (number : ℕ) (kind : Asked) (told : ClientAnswer) → IsSoundRow count client row → Fine row (answered_by number kind told)
  answered_fine row number asks.Segment (DownloadSegment segment) sound = tt
  answered_fine row number asks.Segment TerminateDownloadSequence sound = sent _ row sound
  answered_fine row number asks.Terminate TerminateDownloadSequence sound = tt
  answered_fine row number asks.Terminate (DownloadSegment segment) sound = sent _ row sound
  answered_fine row number asks.Discard TerminateDownloadSequence sound = settles number row sound
  answered_fine row number asks.Discard (DownloadSegment segment) sound = sent _ row sound

  failed_fine : (row : ClientRow) (number : ℕ) (kind : Asked) → IsSoundRow count client row → Fine row (failed_by number kind)
  failed_fine row number asks.Segment sound = tt
  failed_fine row number asks.Terminate sound = tt
  failed_fine row number asks.Discard sound = settles number row sound

  response_fine : (row : ClientRow) (number : ℕ) (told : ClientAnswer) (o : Option (Asked × List ℕ)) → IsSoundRow count client row → Fine row (heard_response number told o)
  response_fine row number told None sound = sent _ row sound
  response_fine row number told (Some of) sound = answered_fine row number of.0 told sound

  error_fine : (row : ClientRow) (number : ℕ) (o : Option (Asked × List ℕ)) → IsSoundRow count client row → Fine row (heard_error number o)
  error_fine row number None sound = sent _ row sound
  error_fine row number (Some of) sound = failed_fine row number of.0 sound

  reject_fine : (row : ClientRow) (number : ℕ) (o : Option (Asked × List ℕ)) → IsSoundRow count client row → Fine row (heard_reject number o)
  reject_fine row number None sound = sound
  reject_fine row number (Some of) sound = failed_fine row number of.0 sound

  rejected_fine : (row : ClientRow) (number : Option ℕ) → IsSoundRow count client row → Fine row (rejected number row.asked)
  rejected_fine row None sound = sound
  rejected_fine row (Some number) sound = reject_fine row number (asked_of number row.asked) sound

  cancelled_fine : (row : ClientRow) (waits : Bool) (invoke : ℕ) → IsSoundRow count client row → Fine row (cancelled waits invoke)
  cancelled_fine row true invoke sound = tt
  cancelled_fine row false invoke sound = sent _ row sound

  idle_fine : (row : ClientRow) (heard : Result Pdu Refusal) → row.association ≡ Idle → IsSoundRow count client row → Fine row (idle_verdict heard)
  idle_fine row (Ok (pdu.InitiateRequest proposal)) idle sound = negotiated_sound row (negotiation proposal) idle sound
  idle_fine row heard idle sound = sent _ row sound

  open_fine : (values : Negotiated) (row : ClientRow) (heard : Result Pdu Refusal) → IsSoundRow count client row → Fine row (open_verdict values row heard)
  open_fine values row (Err refusal) sound = refused_sound row (reject_of refusal) sound
  open_fine values row (Ok (pdu.InitiateRequest proposal)) sound = tt
  open_fine values row (Ok pdu.ConcludeRequest) sound = concluded_fine row row.waiting row.asked sound
  open_fine values row (Ok (pdu.CancelRequest invoke)) sound = cancelled_fine row (is_waiting invoke row.waiting) invoke sound
  open_fine values row (Ok (pdu.ConfirmedRequest invoke asked)) sound = requested_fine row (nat_lt values.nesting (depth_of (pdu.ConfirmedRequest invoke asked))) invoke asked sound
  open_fine values row (Ok (pdu.ModifiedRequest invoke modifier asked)) sound = sent _ row sound
  open_fine values row (Ok (pdu.HeardResponse number told)) sound = response_fine row number told (asked_of number row.asked) sound
  open_fine values row (Ok (pdu.HeardError number)) sound = error_fine row number (asked_of number row.asked) sound
  open_fine values row (Ok (pdu.HeardReject number)) sound = rejected_fine row number sound
  open_fine values row (Ok heard) sound = sound

  verdict_fine : (row : ClientRow) (a : Association) (heard : Result Pdu Refusal) → row.association ≡ a → IsSoundRow count client row → Fine row (verdict_by a row heard)
  verdict_fine row Idle heard is sound = idle_fine row heard is sound
  verdict_fine row (Open values) heard is sound = open_fine values row heard sound

  resolved_fine : (t : Tables) (row : ClientRow) (v : Verdict) → IsSoundRow count client row → Fine row v → Fine row (resolved t row v)
  resolved_fine t row v sound fine = by_tables t row (Fine row) (λ invoke. tt) tt (sent _ row sound) v fine

  heard_sound : (t : Tables) (row : ClientRow) (octets : List ℕ) → IsSoundRow count client row
      → IsSoundRow count client (felt_all (own_told t row (resolved t row (verdict row octets))) row)
  heard_sound t row octets sound =
      own_sound t row row (resolved t row (verdict row octets)) sound
      (resolved_fine t row (verdict row octets) sound (verdict_fine row row.association (pdu_heard row.constants.edition octets) refl sound))

  lost_sound : (row : ClientRow) (a : Association) → IsSoundRow count client row → IsSoundRow count client (felt_all (loss_told a) row)
  lost_sound row Idle sound = sound
  lost_sound row (Open values) sound = closed row sound

-- ---- all rows

abbrev RowsAreSound : ℕ → List ClientRow → Type 0
RowsAreSound count rows = (i : ℕ) (row : ClientRow) → slice_get rows i ≡ Some row → IsSoundRow count (i + 1) row

changed_sound : (count : ℕ) (f : ClientRow → ClientRow) (rows : List ClientRow) (k : ℕ) → RowsAreSound count rows
    → ((row : ClientRow) → slice_get rows k ≡ Some row → IsSoundRow count (k + 1) (f row)) → RowsAreSound count (change f rows k)
changed_sound count f rows k sound here i row there = by_place (ℕ_discrete i k)
  where
    by_value : (o : Option ClientRow) → slice_get rows k ≡ o → option_map f o ≡ Some row → IsSoundRow count (k + 1) row
    by_value None e is = absurd (cc is)
    by_value (Some r) e is =
        let same : f r ≡ row = cc is in
        subst (λ (x : ClientRow). IsSoundRow count (k + 1) x) same (here r e)

    by_place : Dec (i ≡ k) → IsSoundRow count (i + 1) row
    by_place (yes same) =
        subst (λ (m : ℕ). IsSoundRow count (m + 1) row) (sym same)
        (by_value (slice_get rows k) refl (sym (get_changed f rows k) ∙ ap (λ (m : ℕ). slice_get (change f rows k) m) (sym same) ∙ there))
    by_place (no other) = sound i row (sym (get_change f rows k i other) ∙ there)

-- the rows after one client was told what is told to its row
told_sound : (count client : ℕ) (told : ClientRow → List Effect) (rows : List ClientRow) → RowsAreSound count rows
    → ((k : ℕ) (row : ClientRow) → IsSoundRow count k row → IsSoundRow count k (felt_all (told row) row))
    → RowsAreSound count (delivered cell (tell client (told (row_at cell client rows))) rows)
told_sound count zero told rows sound each = subst (λ (l : List ClientRow). RowsAreSound count l) (sym (nobody_told (told (row_at cell 0 rows)) rows)) sound
told_sound count (suc k) told rows sound each =
    subst (λ (l : List ClientRow). RowsAreSound count l) (sym (told_one (told (row_at cell (suc k) rows)) k rows))
    (changed_sound count (felt_all (told (row_at cell (suc k) rows))) rows k sound
    (λ row there. subst (λ (r : ClientRow). IsSoundRow count (k + 1) (felt_all (told r) row)) (sym (row_of_it rows k row there)) (each (k + 1) row (sound k row there))))

-- ---- what is told to whom besides

-- what any client may be told at any time: no association opens, and a request that waits has the number of an event
abbrev Steady : ℕ → Effect → Type 0
Steady count (Sends output) = Unit {0}
Steady count (Opens values) = ⊥
Steady count Closes = Unit {0}
Steady count (Waits request) = request.entry ≤ count
Steady count (Answers invoke) = Unit {0}
Steady count (Asks kind domain) = Unit {0}
Steady count (Settles number) = Unit {0}
Steady count Drains = Unit {0}

abbrev AreSteady : ℕ → List (ℕ × Effect) → Type 0
AreSteady count [] = Unit {0}
AreSteady count (t ∷ told) = Steady count t.1 × AreSteady count told

steady_sound : (count client : ℕ) (effect : Effect) (row : ClientRow) → Steady count effect → IsSoundRow count client row → IsSoundRow count client (felt effect row)
steady_sound count client (Sends output) row steady sound = sent count client output row sound
steady_sound count client (Opens values) row steady sound = absurd steady
steady_sound count client Closes row steady sound = closed count client row sound
steady_sound count client (Waits request) row steady sound = waited count client request row steady sound
steady_sound count client (Answers invoke) row steady sound = answered count client invoke row sound
steady_sound count client (Asks kind domain) row steady sound = asked count client kind domain row sound
steady_sound count client (Settles number) row steady sound = settles count client number row sound
steady_sound count client Drains row steady sound = drained count client row sound

both_steady : (count : ℕ) (xs ys : List (ℕ × Effect)) → AreSteady count xs → AreSteady count ys → AreSteady count (xs ++ ys)
both_steady count [] ys a b = b
both_steady count (x ∷ xs) ys a b = (a.0, both_steady count xs ys a.1 b)

reached_sound : (count client : ℕ) (effect : Effect) (rows : List ClientRow) → Steady count effect → RowsAreSound count rows → RowsAreSound count (reached cell client effect rows)
reached_sound count zero effect rows steady sound = sound
reached_sound count (suc k) effect rows steady sound =
    changed_sound count (felt effect) rows k sound (λ row there. steady_sound count (k + 1) effect row steady (sound k row there))

all_sound : (count : ℕ) (told : List (ℕ × Effect)) (rows : List ClientRow) → AreSteady count told → RowsAreSound count rows → RowsAreSound count (delivered cell told rows)
all_sound count [] rows steady sound = sound
all_sound count (t ∷ told) rows steady sound = all_sound count told (reached cell t.0 t.1 rows) steady.1 (reached_sound count t.0 t.1 rows steady.0 sound)

-- what one client is told, and what is told besides
both_sound : (count client : ℕ) (told : ClientRow → List Effect) (also : List (ℕ × Effect)) (rows : List ClientRow) → RowsAreSound count rows
    → ((k : ℕ) (row : ClientRow) → IsSoundRow count k row → IsSoundRow count k (felt_all (told row) row)) → AreSteady count also
    → RowsAreSound count (delivered cell (tell client (told (row_at cell client rows)) ++ also) rows)
both_sound count client told also rows sound each steady =
    subst (λ (l : List ClientRow). RowsAreSound count l) (sym (delivered_both (tell client (told (row_at cell client rows))) also rows))
    (all_sound count also (delivered cell (tell client (told (row_at cell client rows))) rows) steady (told_sound count client told rows sound each))

grants_steady : (count : ℕ) (grants : List Granted) → AreSteady count (grants_told grants)
grants_steady count [] = tt
grants_steady count (g ∷ grants) = both_steady count (grant_told g) (grants_told grants) (tt, (tt, tt)) (grants_steady count grants)

-- and what is told of transitions of event conditions
notices_steady : (count : ℕ) (turned : Turned) (list : List Notice) (rest : List (ℕ × Effect)) → AreSteady count rest → AreSteady count (notices_told turned list ++ rest)
notices_steady count turned [] rest is = is
notices_steady count turned (n ∷ ns) rest is = (tt, notices_steady count turned ns rest is)

turns_steady : (count : ℕ) (rows : Enrolments) (turns : List Turned) → AreSteady count (turns_told rows turns)
turns_steady count rows [] = tt
turns_steady count rows (turned ∷ turns) = notices_steady count turned (notices turned rows) (turns_told rows turns) (turns_steady count rows turns)

happened_steady : (count : ℕ) (happened : List DatedHappening) → AreSteady count (all_told happened)
happened_steady count [] = tt
happened_steady count (x ∷ rest) = by_one x.happening (happened_steady count rest)
  where
    by_one : (h : DeviceHappening) → AreSteady count (all_told rest) → AreSteady count (happened_told h ++ all_told rest)
    by_one (device.Semaphores (happens.WaitEnds client invoke)) later = (tt, (tt, later))
    by_one (device.Semaphores (happens.Grants grant)) later = both_steady count (grant_told grant) (all_told rest) (tt, (tt, tt)) later
    by_one (device.Semaphores (happens.Aborts client)) later = (tt, (tt, later))
    by_one (device.Turns told) later = notices_steady count told.turned told.notices (all_told rest) later

module _ (count : ℕ) (t : Tables) (made : HaveMadeAtMost count t.semaphores) where
  effect_steady : (row : ClientRow) (invoke : ℕ) (asked : Request) → AreSteady (suc count) (effect t row invoke asked).also
  effect_steady row invoke (request.TakeControl x) = by_done (take_told row.client x t.semaphores) refl
    where
      by_done : (o : Option TakeDone) → take_told row.client x t.semaphores ≡ o → AreSteady (suc count) (take_outcome t row.client invoke x o).also
      by_done None e = tt
      by_done (Some (Answered told)) e = tt
      by_done (Some (taken.Waits entry)) e = (waits_numbered count row.client x t.semaphores entry made e, tt)
  effect_steady row invoke (request.RelinquishControl x) = by_grant (relinquish_granted row.client x t.semaphores)
    where
      by_grant : (o : Option (Option Granted)) → AreSteady (suc count) (relinquish_outcome t row.client x o).also
      by_grant None = tt
      by_grant (Some grant) = grants_steady (suc count) (option_to_list grant)
  effect_steady row invoke (request.InitiateDownloadSequence x) = (tt, tt)
  effect_steady row invoke (request.DeleteEventCondition x) = turns_steady (suc count) t.events.enrolments (delete_turns row.client (moment_of t) x t.events)
  effect_steady row invoke (request.AlterEventConditionMonitoring x) =
      turns_steady (suc count) t.events.enrolments (alter_turns row.client (moment_of t) (told_in own_events t row (alter_condition x)).truth x t.events)
  effect_steady row invoke (request.TriggerEvent x) = turns_steady (suc count) t.events.enrolments (trigger_turns row.client (moment_of t) x.name t.events)
  effect_steady row invoke asked = tt

  reply_steady : (client number : ℕ) (came : Came) (o : Option (Asked × List ℕ)) → AreSteady (suc count) (replied_to client number came o t.domains).also
  reply_steady client number came None = tt
  reply_steady client number came (Some of) = (tt, next (asked_next (reply_of came of) t.domains.domains))
    where
      next : (o : Option Asked) → AreSteady (suc count) (asks_next client o of.1)
      next None = tt
      next (Some kind) = (tt, tt)

  also_steady : (row : ClientRow) (v : Verdict) → AreSteady (suc count) (also_told t row v)
  also_steady row v =
      by_also t row (AreSteady (suc count)) tt (grants_steady (suc count) (lost_granted row.client (moment_of t) t.semaphores)) (effect_steady row)
      (λ number came. reply_steady row.client number came (asked_of number row.asked)) v

  lost_steady : (a : Association) (client : ℕ) → AreSteady (suc count) (also_lost a client t)
  lost_steady Idle client = tt
  lost_steady (Open values) client = grants_steady (suc count) (lost_granted client (moment_of t) t.semaphores)

rows_after : (count : ℕ) (s : State) (event : CellEvent) → HaveMadeAtMost count s.semaphores → RowsAreSound (suc count) s.clients → RowsAreSound (suc count) (step s event).clients
rows_after count s (Heard client octets) made sound =
    both_sound (suc count) client (λ row. own_told (cell.tables_of s) row (resolved (cell.tables_of s) row (verdict row octets)))
    (also_told (cell.tables_of s) (row_at cell client s.clients)
    (resolved (cell.tables_of s) (row_at cell client s.clients) (verdict (row_at cell client s.clients) octets))) s.clients sound
    (λ k row. heard_sound (suc count) k (cell.tables_of s) row octets)
    (also_steady count (cell.tables_of s) made (row_at cell client s.clients)
    (resolved (cell.tables_of s) (row_at cell client s.clients) (verdict (row_at cell client s.clients) octets)))
rows_after count s (Lost client) made sound =
    both_sound (suc count) client (λ row. loss_told row.association)
    (also_lost (row_at cell client s.clients).association (row_at cell client s.clients).client (cell.tables_of s)) s.clients sound
    (λ k row. lost_sound (suc count) k row row.association)
    (lost_steady count (cell.tables_of s) made (row_at cell client s.clients).association (row_at cell client s.clients).client)
rows_after count s (Tick ms) made sound =
    all_sound (suc count) (all_told (meanwhile ms (cell.tables_of s)).happened) s.clients (happened_steady (suc count) (meanwhile ms (cell.tables_of s)).happened) sound
rows_after count s (Ends name) made sound = sound
rows_after count s (Drain client) made sound = told_sound (suc count) client (λ row. Drains ∷ []) s.clients sound (λ k row. drained (suc count) k row)

-- ---- semaphores

semaphores_after : (count : ℕ) (s : State) (event : CellEvent) → events_sound.AreSound s.events.conditions → AreKept count (record { 0 = s.now }) s.semaphores
    → AreKept (suc count) (record { 0 = (step s event).now }) (step s event).semaphores
semaphores_after count s (Heard client octets) sound are =
    subst (λ (now : ℕ). AreKept (suc count) (record { 0 = now }) (step s (Heard client octets)).semaphores) (sym (step_still s client octets))
    (kept_heard count (cell.tables_of s) (row_at cell client s.clients)
    (resolved (cell.tables_of s) (row_at cell client s.clients) (verdict (row_at cell client s.clients) octets)) are)
semaphores_after count s (Lost client) sound are =
    subst (λ (now : ℕ). AreKept (suc count) (record { 0 = now }) (step s (Lost client)).semaphores)
    (sym (now_lost (row_at cell client s.clients).association (row_at cell client s.clients).client (cell.tables_of s)))
    (kept_lost count (cell.tables_of s) (row_at cell client s.clients).association (row_at cell client s.clients).client are)
semaphores_after count s (Tick ms) sound are =
    kept_ticked count (record { 0 = s.now }) (moment_after ms (cell.tables_of s)) (saying s.variables) s.semaphores s.events.conditions s.events.enrolments sound are
semaphores_after count s (Ends name) sound are = kept_later count (record { 0 = s.now }) s.semaphores are
semaphores_after count s (Drain client) sound are = kept_later count (record { 0 = s.now }) s.semaphores are

-- ---- states

pub step_sound : (count : ℕ) (s : State) (event : CellEvent) → IsSound count s → IsSound (count + 1) (step s event)
step_sound count s event sound =
    let same = step_sized s event in
    let next : suc count ≡ count + 1 = omega arith in
    let kept : AreKept (suc count) (record { 0 = (step s event).now }) (step s event).semaphores =
    semaphores_after count s event sound.conditions (record { sound = sound.semaphores; made = sound.made; ahead = sound.ahead }) in
    let well : AreWell (record { 0 = (step s event).now }) (step s event).events.conditions =
    well_after s event sound.semaphores (well_before count s sound) in
    record {
      some = omega (arith, same, sound.some);
      few = omega (arith, same, sound.few);
      rows = subst (λ (m : ℕ). RowsAreSound m (step s event).clients) next
          (rows_after count s event sound.made (λ i row there. row_later count (i + 1) row (sound.rows i row there)));
      semaphores = kept.sound;
      made = subst (λ (m : ℕ). HaveMadeAtMost m (step s event).semaphores) next kept.made;
      ahead = kept.ahead;
      conditions = sound_of (record { 0 = (step s event).now }) (step s event).events.conditions well;
      awaited = awaited_of (record { 0 = (step s event).now }) (step s event).events.conditions well;
      names = names_after count s event sound;
      loads = loads_after count s event sound;
      uploads = uploads_after count s event sound;
      used = used_after count s event sound;
    }

sound_along : (count : ℕ) (s : State) (history : List CellEvent) → IsSound count s → IsSound (count + length history) (fold step s history)
sound_along count s [] sound = subst (λ (m : ℕ). IsSound m s) (omega arith) sound
sound_along count s (event ∷ rest) sound =
    let all : count + 1 + length rest ≡ count + length (event ∷ rest) = omega arith in
    subst (λ (m : ℕ). IsSound m (fold step (step s event) rest)) all (sound_along (count + 1) (step s event) rest (step_sound count s event sound))

client_at : (n i c : ℕ) → slice_get (clients_to n) i ≡ Some c → c ≡ i + 1
client_at zero i c there = absurd (cc there)
client_at (suc n) i c there = by_test (λ e. client_at n i c e) (nat_lt i n) refl
  where
    many : length (clients_to n) ≡ n
    many = length-clients_to n

    last : (j : ℕ) → i ≡ n + j → slice_get (suc n ∷ []) j ≡ Some c → c ≡ i + 1
    last zero at is = let same : suc n ≡ c = cc is in omega (arith, same, at)
    last (suc j) at is = absurd (cc is)

    by_test : (slice_get (clients_to n) i ≡ Some c → c ≡ i + 1) → (b : Bool) → nat_lt i n ≡ b → c ≡ i + 1
    by_test before true e =
        let below : i < n = grind (arith, nat_tests) in
        before (sym (get_front (clients_to n) (suc n ∷ []) i (omega (arith, below, many))) ∙ there)
    by_test before false e =
        let past : n ≤ i = grind (arith, nat_tests) in
        last (i - n) (omega (arith, past)) (sym (get_behind (clients_to n) (suc n ∷ []) i (i - n) (omega (arith, past, many))) ∙ there)

get_mapped : {A B : Type 0} (f : A → B) (xs : List A) (i : ℕ) → slice_get (map f xs) i ≡ option_map f (slice_get xs i)
get_mapped f [] i = refl
get_mapped f (x ∷ xs) zero = refl
get_mapped f (x ∷ xs) (suc i) = get_mapped f xs i

first_rows_sound : (config : Config) (n : ℕ) → RowsAreSound 0 (map (λ c. new_row c (device_of config)) (clients_to n))
first_rows_sound config n i row there = by_value (slice_get (clients_to n) i) refl (sym (get_mapped (λ c. new_row c (device_of config)) (clients_to n) i) ∙ there)
  where
    by_value : (o : Option ℕ) → slice_get (clients_to n) i ≡ o → option_map (λ c. new_row c (device_of config)) o ≡ Some row → IsSoundRow 0 (i + 1) row
    by_value None e is = absurd (cc is)
    by_value (Some c) e is =
        let same : new_row c (device_of config) ≡ row = cc is in
        subst (λ (r : ClientRow). IsSoundRow 0 (i + 1) r) same (record { number = client_at n i c e; allowed = omega arith; entries = tt; apart = none_together; below = none_above 1 })

-- the pools of a configuration have no entries
none_made : (pools : List PoolRow) → HaveMadeAtMost 0 (configured_pools pools)
none_made [] k d low = absurd (omega (arith, low))
none_made (pool ∷ pools) zero d low = omega arith
none_made (pool ∷ pools) (suc k) d low = none_made pools k d (omega (arith, low))

no_deadlines : (pools : List PoolRow) → all_deadlines (configured_pools pools) ≡ []
no_deadlines [] = refl
no_deadlines (pool ∷ pools) = no_deadlines pools

pools_ahead : (now : Moment) (pools : List PoolRow) → LieAhead now (configured_pools pools)
pools_ahead now pools = subst (λ (ds : List NamedDeadline). All (λ d. now.0 < d.at.0) ds) (sym (no_deadlines pools)) (none_ahead now)

pub start_sound : (config : Config) → IsConfig config → IsSound 0 (start config)
start_sound config is =
    let counted = length-start config in
    record {
      some = omega (arith, counted, is.some_client);
      few = omega (arith, counted, is.few_clients);
      rows = first_rows_sound config config.clients;
      semaphores = record { names = pools_apart config.pools (pools_apart_in config is).names; each = each_sound config.pools (pools_apart_in config is).each };
      made = none_made config.pools;
      ahead = pools_ahead (record { 0 = config.start.0 }) config.pools;
      conditions = sound_of config.start [] (none_well config.start);
      awaited = awaited_of config.start [] (none_well config.start);
      names = first_names;
      loads = first_loads config;
      uploads = first_uploads;
      used = first_used;
    }

pub replay_sound : (config : Config) (history : List CellEvent) → IsConfig config → IsSound (length history) (replay config history)
replay_sound config history is =
    let all : 0 + length history ≡ length history = omega arith in
    subst (λ (m : ℕ). IsSound m (replay config history)) all (sound_along 0 (start config) history (start_sound config is))

-- what holds of a pool
pub pool_sound : (config : Config) (history : List CellEvent) (key : Key) (row : SemaphoreRow) (pool : NamedTokens) → IsConfig config
    → lookup (key_eq key) (replay config history).semaphores ≡ Some row → row.semaphore ≡ Pool pool → IsPool pool
pool_sound config history key row pool is found of =
    subst (λ (s : Semaphore). IsOneSound s) of (row_found (replay config history).semaphores key row (replay_sound config history is).semaphores.each found)

-- what holds of the tokens of a semaphore
pub tokens_sound : (config : Config) (history : List CellEvent) (key : Key) (row : SemaphoreRow) (tokens : Sem) → IsConfig config
    → lookup (key_eq key) (replay config history).semaphores ≡ Some row → row.semaphore ≡ Token tokens → IsSem tokens
tokens_sound config history key row tokens is found of =
    subst (λ (s : Semaphore). IsOneSound s) of (row_found (replay config history).semaphores key row (replay_sound config history is).semaphores.each found)
