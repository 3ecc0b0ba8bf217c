-- What clients are asked of the domains that they load, the uploads that are open, and the program invocations, are
-- right in every state that the device reaches.
use Rattle.std.specs.Prelude.{◌≡◌, ℕ, zero, suc, ◌+◌, Bool, true, false, Option, None, Some, List, [], ◌∷◌, ◌++◌, map, option_to_list, is_some, slice_get, unwrap_or, Result, if◌then◌else◌, refl}
use Rattle.std.specs.List.{IsDistinct, cons_option}
use Rattle.std.specs.Option.{option_map_or}
use Rattle.std.proofs.Common.{◌∙◌, ap, not, sym, subst, arith}
use Rattle.mms_types.proofs.Conditions.{none_holds}
use Rattle.mms_types.specs.Actors.{clients_to}
use Rattle.mms_types.specs.Errors.{object_non_existent, object_state_conflict}
use Rattle.mms_types.specs.declared.asked.Asked.{Asked}
use Rattle.mms_types.specs.declared.asked.Asked.TheVariants as asks
use Rattle.mms_types.specs.declared.event.CellEvent.{CellEvent}
use Rattle.mms_types.specs.declared.event.CellEvent.TheVariants.{Heard, Lost, Tick, Ends, Drain}
use Rattle.mms_types.specs.declared.pdu.Answer.{Answer}
use Rattle.mms_types.specs.declared.pdu.Pdu.{Pdu}
use Rattle.mms_types.specs.declared.pdu.Request.{Request}
use Rattle.mms_types.specs.declared.pdu.Request.TheVariants as request
use Rattle.mms_types.specs.declared.service_error.ServiceError.{ServiceError}
use Rattle.mms_pdu.specs.Heard.{pdu_heard}
use Rattle.mms_pdu.specs.declared.refusal.Refusal.{Refusal}
use Rattle.mms_time.specs.Services.{take_told}
use Rattle.mms_time.specs.declared.taking.TakeDone.{TakeDone}
use Rattle.mms_time.specs.declared.taking.TakeDone.TheVariants as taken
use Rattle.sem_ticks.specs.Granted.{lost_granted, relinquish_granted}
use Rattle.sem_ticks.specs.declared.granted.Granted.{Granted}
use Rattle.sem_ticks.specs.declared.ticks.Happening.TheVariants as happens
use Rattle.association.specs.Asked.{AreApart}
use Rattle.association.specs.Client.{ClientRow, new_row}
use Rattle.association.specs.declared.negotiation.Association.{Association}
use Rattle.association.specs.declared.negotiation.Association.TheVariants.{Idle, Open}
use Rattle.association.specs.declared.unanswered.Unanswered.{Unanswered}
use Rattle.association.specs.declared.waiting.Waiting.{Waiting}
use Rattle.cell_config.specs.declared.config.Config.{Config}
use Rattle.domain_load.specs.Loading.{initiate_after}
use Rattle.domain_load.specs.Used.{after_unused}
use Rattle.program_inv.specs.Programs as program
use Rattle.program_inv.specs.Programs.{Rows as ProgramRows}
use Rattle.program_inv.specs.declared.command.Command.TheVariants as bid
use Rattle.program_inv.specs.declared.invocation.Invocation.{Invocation}
use Rattle.domain_upload.proofs.Kept.{initiate_keeps, none_kept, segment_keeps, terminate_keeps}
use Rattle.domain_upload.specs.Uploads.{AreOf}
use Rattle.parted_state.specs.Served.{delivered, row_at}
use Rattle.cell_client.specs.Areas.{OutcomeIn}
use Rattle.cell_client.specs.Association.{Came, Verdict, Tells, Takes, Replies, Exhausts, Concludes, Cancels, Aborts, abort_told, cancel_told, conclusion_told, idle_verdict, loss_told, other_error, verdict}
use Rattle.cell_client.specs.Effects.{Asks, Effect, Drains, felt_all, tell}
use Rattle.cell_client.specs.Requests.{answer_told, fits, is_done, refuses, request_told, size_of}
use Rattle.serve_domains.proofs.Answered.{IsOfLoad, IsSaid, told_idle, verdict_said}
use Rattle.serve_domains.proofs.LoadLaws.{none_loaded}
use Rattle.serve_domains.specs.Domains.{calling_left, delete, replied_to}
use Rattle.serve_domains.specs.Loads.{AreLoads}
use Rattle.serve_domains.specs.Tables.{DomainTables, no_domains}
use Rattle.serve_domains.specs.Tables as domains
use Rattle.serve_programs.proofs.UsedLaws.{commands_keep, ends_keep, none_used, resume_keeps, start_keeps}
use Rattle.serve_programs.specs.Programs.{with_domains}
use Rattle.serve_programs.specs.Users.{AreUsed}
use Rattle.mms_types.specs.declared.condition.Notice.{Notice}
use Rattle.mms_types.specs.declared.condition.Turned.{Turned}
use Rattle.event_enrol.specs.Enrolments.{Rows as Enrolments, notices}
use Rattle.serve_events.specs.Events.{alter_condition, alter_turns, delete_turns, trigger_turns}
use Rattle.serve_events.specs.Told.{notices_told, turns_told}
use Rattle.cell_ticks.specs.declared.happening.DatedHappening.{DatedHappening}
use Rattle.cell_ticks.specs.declared.happening.Happening.{Happening as DeviceHappening}
use Rattle.cell_ticks.specs.declared.happening.Happening.TheVariants as device
use Rattle.cell_services.specs.Requests.{among, told_in}
use Rattle.cell_services.specs.Services.{area_of, cause, effect, grant_told, grants_told, relinquish_outcome, reply_in, take_outcome}
use Rattle.cell_services.specs.Serving.{aborted_then, all_told, also_lost, also_served, also_told, domains_without, happened_told, happening_told, is_served_in, lost_in, loss_also, meanwhile, own_told, resolved, served_told, tables_cancelled, tables_heard, tables_lost, tables_served, waiting_of, without_client}
use Rattle.cell_services.specs.Tables.{Tables, moment_of, own_domains, own_events}
use Rattle.step_sound.proofs.DomainNames.{HaveNames}
use Rattle.step_sound.proofs.LoadsKept.{AreQuiet, AreRight, begun_right, both_quiet, closed_right, deleted_right, nobody_lost, quiet_right, replied_right, run_right, told_loads, unused_right, used_right}
use Rattle.step_parts.proofs.Rows.{delivered_both, nobody_told}
use Rattle.step_parts.specs.Partition.{cell, no_client}
use Rattle.step_parts.specs.State.{IsSound, IsSoundRow, State, device_of, start}
use Rattle.step_parts.specs.Step.{step}
use Rattle.step_sound.proofs.Walked.{by_tables}

-- ---- grants, and what is told of a request

grants_quiet : (grants : List Granted) → AreQuiet (grants_told grants)
grants_quiet [] = tt
grants_quiet (g ∷ grants) = both_quiet (grant_told g) (grants_told grants) (tt, (tt, tt)) (grants_quiet grants)

-- what is told of transitions of event conditions
notices_quiet : (turned : Turned) (list : List Notice) (rest : List (ℕ × Effect)) → AreQuiet rest → AreQuiet (notices_told turned list ++ rest)
notices_quiet turned [] rest is = is
notices_quiet turned (n ∷ ns) rest is = (tt, notices_quiet turned ns rest is)

turns_quiet : (rows : Enrolments) (turns : List Turned) → AreQuiet (turns_told rows turns)
turns_quiet rows [] = tt
turns_quiet rows (turned ∷ turns) = notices_quiet turned (notices turned rows) (turns_told rows turns) (turns_quiet rows turns)

notices_alone : (turned : Turned) (list : List Notice) → AreQuiet (notices_told turned list)
notices_alone turned [] = tt
notices_alone turned (n ∷ ns) = (tt, notices_alone turned ns)

request_quiet : (client size invoke : ℕ) (why : Option ServiceError) (told : Option Answer) → AreQuiet (tell client (request_told size invoke why told))
request_quiet client size invoke (Some refusal) told = (tt, tt)
request_quiet client size invoke None None = tt
request_quiet client size invoke None (Some answer) = by_test (fits size invoke (Some answer))
  where
    by_test : (b : Bool) → AreQuiet (tell client (if b then answer_told invoke (Some answer) else refuses invoke other_error ∷ []))
    by_test true = (tt, tt)
    by_test false = (tt, tt)

-- what is done isn't refused
none_refused : (size invoke : ℕ) (why : Option ServiceError) (told : Option Answer) → is_done size invoke why told ≡ true → why ≡ None
none_refused size invoke None told done = refl
none_refused size invoke (Some refusal) told done = absurd (cc done)

-- an invocation that may be deleted is there
deletable : (name : List ℕ) (programs : ProgramRows) → program.delete_cause name programs ≡ None → true ≡ is_some (program.named name programs)
deletable name programs none = by_there (is_some (program.named name programs)) (none_holds (not (is_some (program.named name programs))) object_non_existent ((option_map_or program.is_running (program.named name programs) false, object_state_conflict) ∷ []) none).0
  where
    by_there : (b : Bool) → not b ≡ false → true ≡ b
    by_there true e = refl
    by_there false e = absurd (cc e)

-- first one is told something, and then others
right_both : {programs : ProgramRows} → (t : DomainTables) (own also : List (ℕ × Effect)) (rows : List ClientRow) → AreRight t programs (delivered cell also (delivered cell own rows)) → AreRight t programs (delivered cell (own ++ also) rows)
right_both {programs} t own also rows right = subst (λ (l : List ClientRow). AreRight t programs l) (sym (delivered_both own also rows)) right

-- ---- what is heard

module _ (t : Tables) (row : ClientRow) (k : ℕ) (own : row.client ≡ suc k) where
  turns_right : (rows : List ClientRow) → AreRight t.domains t.programs rows → (turns : List Turned) → AreRight t.domains t.programs (delivered cell (turns_told t.events.enrolments turns) rows)
  turns_right rows right turns = quiet_right t.domains (turns_told t.events.enrolments turns) rows (turns_quiet t.events.enrolments turns) right

  request_right : (rows : List ClientRow) (invoke : ℕ) (asked : Request) → cause t row asked ≡ None → AreRight t.domains t.programs rows
      → AreRight (effect t row invoke asked).tables.domains (effect t row invoke asked).tables.programs (delivered cell (effect t row invoke asked).also rows)
  request_right rows invoke (request.InitiateDownloadSequence x) none right =
      subst (λ (c : ℕ). AreRight (record t.domains { domains = initiate_after c x t.domains.domains }) t.programs (delivered cell ((c, Asks asks.Segment x.domain) ∷ []) rows)) (sym own)
      (begun_right t.domains rows right k (calling_left row) x none)
  request_right rows invoke (request.InitiateUploadSequence name) none right = record {
    names = right.names;
    loads = right.loads;
    uploads = initiate_keeps row.client name t.domains.domains t.domains.uploads none right.uploads;
    used = right.used;
  }
  request_right rows invoke (request.UploadSegment number) none right = record {
    names = right.names;
    loads = right.loads;
    uploads = segment_keeps row.client number (size_of row.association) t.domains.domains t.domains.uploads right.uploads;
    used = right.used;
  }
  request_right rows invoke (request.TerminateUploadSequence number) none right = record {
    names = right.names;
    loads = right.loads;
    uploads = terminate_keeps row.client number t.domains.domains t.domains.uploads right.uploads;
    used = right.used;
  }
  request_right rows invoke (request.DeleteDomain name) none right =
      deleted_right t.domains rows right name (told_in own_domains t row (delete name)).scoped none
  request_right rows invoke (request.CreateProgramInvocation x) none right = used_right t.domains rows right x none
  request_right rows invoke (request.DeleteProgramInvocation name) none right = by_found (program.named name t.programs) refl
    where
      by_found : (o : Option Invocation) → program.named name t.programs ≡ o
          → AreRight (option_map_or (λ p. with_domains (after_unused p.domains name t.domains.domains) t.domains) o t.domains) (program.after_delete name t.programs) rows
      by_found None e = absurd (let missing = (deletable name t.programs none) ∙ ap is_some e in cc missing)
      by_found (Some p) e = unused_right t.domains rows right name p e
  request_right rows invoke (request.Start x) none right = run_right t.domains rows right (program.after_start x t.programs) (start_keeps t.domains.domains t.programs right.used x)
  request_right rows invoke (request.Stop name) none right = run_right t.domains rows right (program.after_command bid.Stop name t.programs) (commands_keep t.domains.domains t.programs right.used bid.Stop name)
  request_right rows invoke (request.Resume x) none right = run_right t.domains rows right (program.after_resume x t.programs) (resume_keeps t.domains.domains t.programs right.used x)
  request_right rows invoke (request.Reset name) none right = run_right t.domains rows right (program.after_command bid.Reset name t.programs) (commands_keep t.domains.domains t.programs right.used bid.Reset name)
  request_right rows invoke (request.Kill name) none right = run_right t.domains rows right (program.after_command bid.Kill name t.programs) (commands_keep t.domains.domains t.programs right.used bid.Kill name)
  request_right rows invoke (request.TakeControl x) none right = by_done (take_told row.client x t.semaphores)
    where
      by_done : (o : Option TakeDone) → AreRight (take_outcome t row.client invoke x o).tables.domains (take_outcome t row.client invoke x o).tables.programs (delivered cell (take_outcome t row.client invoke x o).also rows)
      by_done None = right
      by_done (Some (taken.Answered told)) = right
      by_done (Some (taken.Waits entry)) = quiet_right t.domains (take_outcome t row.client invoke x (Some (taken.Waits entry))).also rows (tt, tt) right
  request_right rows invoke (request.RelinquishControl x) none right = by_grant (relinquish_granted row.client x t.semaphores)
    where
      by_grant : (o : Option (Option Granted)) → AreRight (relinquish_outcome t row.client x o).tables.domains (relinquish_outcome t row.client x o).tables.programs (delivered cell (relinquish_outcome t row.client x o).also rows)
      by_grant None = right
      by_grant (Some grant) = quiet_right t.domains (grants_told (option_to_list grant)) rows (grants_quiet (option_to_list grant)) right
  request_right rows invoke (request.DeleteEventCondition x) none right = turns_right rows right (delete_turns row.client (moment_of t) x t.events)
  request_right rows invoke (request.AlterEventConditionMonitoring x) none right =
      turns_right rows right (alter_turns row.client (moment_of t) (told_in own_events t row (alter_condition x)).truth x t.events)
  request_right rows invoke (request.TriggerEvent x) none right = turns_right rows right (trigger_turns row.client (moment_of t) x.name t.events)
  request_right rows invoke asked none right = right

  served_right : (rows : List ClientRow) (invoke : ℕ) (asked : Request) → AreRight t.domains t.programs rows
      → AreRight (tables_served t row invoke (area_of asked)).domains (tables_served t row invoke (area_of asked)).programs
      (delivered cell (tell (suc k) (served_told t row invoke (area_of asked)) ++ also_served t row invoke (area_of asked)) rows)
  served_right rows invoke asked right =
      right_both (tables_served t row invoke (area_of asked)).domains (tell (suc k) (served_told t row invoke (area_of asked))) (also_served t row invoke (area_of asked)) rows
      (by_test (is_served_in t row invoke (area_of asked)) refl)
    where
      told_rows : List ClientRow
      told_rows = delivered cell (tell (suc k) (served_told t row invoke (area_of asked))) rows

      right_told : AreRight t.domains t.programs told_rows
      right_told =
          quiet_right t.domains (tell (suc k) (served_told t row invoke (area_of asked))) rows
          (request_quiet (suc k) (size_of row.association) invoke (cause t row asked) (effect t row invoke asked).answer) right

      by_test : (b : Bool) → is_served_in t row invoke (area_of asked) ≡ b
          → AreRight (if b then (effect t row invoke asked).tables else t).domains (if b then (effect t row invoke asked).tables else t).programs (delivered cell (if b then (effect t row invoke asked).also else []) told_rows)
      by_test true done =
          request_right told_rows invoke asked (none_refused (size_of row.association) invoke (cause t row asked) (effect t row invoke asked).answer done) right_told
      by_test false done = right_told

  module _ (rows : List ClientRow) (there : slice_get rows k ≡ Some row) (apart : AreApart row.asked) (right : AreRight t.domains t.programs rows) where
    reply_right : (number : ℕ) (came : Came) → IsOfLoad row.asked number came
        → AreRight (tables_served t row number (reply_in number came)).domains (tables_served t row number (reply_in number came)).programs
        (delivered cell (tell (suc k) (served_told t row number (reply_in number came)) ++ also_served t row number (reply_in number came)) rows)
    reply_right number came is = subst By (sym is.asked) (subst AsOf (sym own) (replied_right t.domains rows right k row there apart number came is))
      where
        outcome : Option (Asked × List ℕ) → OutcomeIn Tables
        outcome o = among own_domains t (replied_to row.client number came o t.domains)

        done : Option (Asked × List ℕ) → Bool
        done o = is_done (size_of row.association) number None (outcome o).answer

        By : Option (Asked × List ℕ) → Type 0
        By o = AreRight (if done o then (outcome o).tables else t).domains (if done o then (outcome o).tables else t).programs
            (delivered cell (tell (suc k) (request_told (size_of row.association) number None (outcome o).answer) ++ (if done o then (outcome o).also else [])) rows)

        AsOf : ℕ → Type 0
        AsOf c = AreRight (replied_to c number came (Some is.of) t.domains).tables t.programs (delivered cell (replied_to c number came (Some is.of) t.domains).also rows)

    -- the client is lost
    gone_right : (effects : List Effect) → ((r : ClientRow) → (felt_all effects r).asked ≡ [])
        → AreRight (without_client row.client t).domains (without_client row.client t).programs (delivered cell (tell (suc k) effects ++ loss_also row.client t) rows)
    gone_right effects none =
        right_both (without_client row.client t).domains (tell (suc k) effects) (loss_also row.client t) rows
        (quiet_right (without_client row.client t).domains (loss_also row.client t) (delivered cell (tell (suc k) effects) rows)
        (grants_quiet (lost_granted row.client (moment_of t) t.semaphores))
        (subst (λ (c : ℕ). AreRight (domains.lost c t.domains) t.programs (delivered cell (tell (suc k) effects) rows)) (sym own) (closed_right t.domains rows right effects k none)))

    -- and the client alone is told something, at which the domains stay
    alone_right : (effects : List Effect) → AreRight t.domains t.programs (delivered cell (tell (suc k) effects) rows) → AreRight t.domains t.programs (delivered cell (tell (suc k) effects ++ []) rows)
    alone_right effects alone = right_both t.domains (tell (suc k) effects) [] rows alone

    cancelled_right : (invoke : ℕ) (o : Option Waiting) → AreRight (tables_cancelled o t).domains (tables_cancelled o t).programs (delivered cell (tell (suc k) (cancel_told invoke) ++ []) rows)
    cancelled_right invoke None = alone_right (cancel_told invoke) (quiet_right t.domains (tell (suc k) (cancel_told invoke)) rows (tt, (tt, (tt, tt))) right)
    cancelled_right invoke (Some request) = alone_right (cancel_told invoke) (quiet_right t.domains (tell (suc k) (cancel_told invoke)) rows (tt, (tt, (tt, tt))) right)

    verdict_right : (v : Verdict) → IsSaid row v → AreRight (tables_heard t row v).domains (tables_heard t row v).programs (delivered cell (tell (suc k) (own_told t row v) ++ also_told t row v) rows)
    verdict_right (Tells effects) said =
        alone_right effects (record {
          names = right.names;
          loads = told_loads t.domains.domains t.domains.domains effects rows k right.loads (λ other asked ne is. is)
              (λ r at. let same : row ≡ r = cc (there, at) in
              subst (λ (x : ClientRow). AreLoads (suc k) (felt_all effects x).asked t.domains.domains) same (said apart (suc k) t.domains.domains (right.loads k row there)));
          uploads = right.uploads;
          used = right.used;
        })
    verdict_right (Takes invoke asked) said = served_right rows invoke asked right
    verdict_right (Replies number came) said = reply_right number came said
    verdict_right (Exhausts invoke) said = gone_right (own_told t row (Exhausts invoke)) (λ r. refl)
    verdict_right Concludes said = gone_right conclusion_told (λ r. refl)
    verdict_right (Cancels invoke) said = cancelled_right invoke (waiting_of invoke row.waiting)
    verdict_right Aborts said = gone_right abort_told (λ r. refl)

    lost_right : (a : Association) → AreRight (tables_lost a row.client t).domains (tables_lost a row.client t).programs (delivered cell (tell (suc k) (loss_told a) ++ also_lost a row.client t) rows)
    lost_right Idle = right
    lost_right (Open values) = gone_right (loss_told (Open values)) (λ r. refl)

resolved_said : (t : Tables) (row : ClientRow) (v : Verdict) → IsSaid row v → IsSaid row (resolved t row v)
resolved_said t row v said = by_tables t row (IsSaid row) (λ invoke. tt) tt (λ apart client domains agree. agree) v said

-- ---- by whether the client is there

-- where there is no client, nobody is told anything
absent_right : {programs : ProgramRows} → (t : DomainTables) (rows : List ClientRow) (client : ℕ) (effects : List Effect) → ((k : ℕ) → client ≡ suc k → slice_get rows k ≡ None) → AreRight t programs rows
    → AreRight t programs (delivered cell (tell client effects) rows)
absent_right {programs} t rows zero effects none right = subst (λ (l : List ClientRow). AreRight t programs l) (sym (nobody_told effects rows)) right
absent_right t rows (suc k) effects none right = record {
  names = right.names;
  loads = told_loads t.domains t.domains effects rows k right.loads (λ other asked ne is. is) (λ r at. absurd (cc (none k refl, at)));
  uploads = right.uploads;
  used = right.used;
}

module _ (t : Tables) (rows : List ClientRow) (client : ℕ) where
  abbrev heard_verdict : List ℕ → ClientRow → Verdict
  heard_verdict octets row = resolved t row (verdict row octets)

  -- what follows from the row of the client
  abbrev HeardRight : Verdict → ClientRow → Type 0
  HeardRight v row = AreRight (tables_heard t row v).domains (tables_heard t row v).programs (delivered cell (tell client (own_told t row v) ++ also_told t row v) rows)

  absent_heard : (heard : Result Pdu Refusal) → ((k : ℕ) → client ≡ suc k → slice_get rows k ≡ None) → AreRight t.domains t.programs rows
      → HeardRight (resolved t no_client (idle_verdict heard)) no_client
  absent_heard heard none right =
      let told = told_idle heard in
      subst (λ (v : Verdict). HeardRight (resolved t no_client v) no_client) (sym told.1)
      (right_both t.domains (tell client told.0) [] rows (absent_right t.domains rows client told.0 none right))

  abbrev LostRight : ClientRow → Type 0
  LostRight row = AreRight (tables_lost row.association row.client t).domains (tables_lost row.association row.client t).programs (delivered cell (tell client (loss_told row.association) ++ also_lost row.association row.client t) rows)

module _ (count : ℕ) (t : Tables) (rows : List ClientRow) (sound : (i : ℕ) (row : ClientRow) → slice_get rows i ≡ Some row → IsSoundRow count (i + 1) row)
    (right : AreRight t.domains t.programs rows) where
  its_number : (k : ℕ) (row : ClientRow) → slice_get rows k ≡ Some row → row.client ≡ suc k
  its_number k row there = let number = (sound k row there).number in omega (arith, number)

  heard_right : (client : ℕ) (octets : List ℕ) → HeardRight t rows client (heard_verdict t rows client octets (row_at cell client rows)) (row_at cell client rows)
  heard_right zero octets = absent_heard t rows 0 (pdu_heard no_client.constants.edition octets) (λ k e. absurd (omega (arith, e))) right
  heard_right (suc k) octets = by_row (slice_get rows k) refl
    where
      by_row : (o : Option ClientRow) → slice_get rows k ≡ o
          → HeardRight t rows (suc k) (heard_verdict t rows (suc k) octets (unwrap_or o no_client)) (unwrap_or o no_client)
      by_row None none =
          absent_heard t rows (suc k) (pdu_heard no_client.constants.edition octets)
          (λ j e. let same : k ≡ j = omega (arith, e) in subst (λ (i : ℕ). slice_get rows i ≡ None) same none) right
      by_row (Some row) there =
          verdict_right t row k (its_number k row there) rows there (sound k row there).apart right (resolved t row (verdict row octets))
          (resolved_said t row (verdict row octets) (verdict_said row row.association (pdu_heard row.constants.edition octets)))

  gone_so : (client : ℕ) → LostRight t rows client (row_at cell client rows)
  gone_so zero = right
  gone_so (suc k) = by_row (slice_get rows k) refl
    where
      by_row : (o : Option ClientRow) → slice_get rows k ≡ o → LostRight t rows (suc k) (unwrap_or o no_client)
      by_row None none = right
      by_row (Some row) there = lost_right t row k (its_number k row there) rows there (sound k row there).apart right row.association

-- ---- time goes by

aborts_right : {programs : ProgramRows} → (t : DomainTables) (rows : List ClientRow) (client : ℕ) → AreRight t programs rows → AreRight (domains.lost client t) programs (delivered cell (happening_told (happens.Aborts client)) rows)
aborts_right t rows zero right = nobody_lost t rows right
aborts_right t rows (suc k) right = closed_right t rows right abort_told k (λ r. refl)

happened_right : {programs : ProgramRows} → (happened : List DatedHappening) (t : DomainTables) (rows : List ClientRow) → AreRight t programs rows
    → AreRight (domains_without (lost_in happened) t) programs (delivered cell (all_told happened) rows)
happened_right [] t rows right = right
happened_right {programs} (x ∷ rest) t rows right = by_one x.happening (λ d told is. happened_right rest d told is)
  where
    by_one : (h : DeviceHappening) → ((d : DomainTables) (told : List ClientRow) → AreRight d programs told → AreRight (domains_without (lost_in rest) d) programs (delivered cell (all_told rest) told))
        → AreRight (domains_without (cons_option (aborted_then h) (lost_in rest)) t) programs (delivered cell (happened_told h ++ all_told rest) rows)
    by_one (device.Semaphores (happens.WaitEnds client invoke)) later =
        right_both (domains_without (lost_in rest) t) (happening_told (happens.WaitEnds client invoke)) (all_told rest) rows
        (later t (delivered cell (happening_told (happens.WaitEnds client invoke)) rows)
        (quiet_right t (happening_told (happens.WaitEnds client invoke)) rows (tt, (tt, tt)) right))
    by_one (device.Semaphores (happens.Grants grant)) later =
        right_both (domains_without (lost_in rest) t) (grant_told grant) (all_told rest) rows
        (later t (delivered cell (grant_told grant) rows) (quiet_right t (grant_told grant) rows (tt, (tt, tt)) right))
    by_one (device.Semaphores (happens.Aborts client)) later =
        right_both (domains_without (lost_in rest) (domains.lost client t)) (happening_told (happens.Aborts client)) (all_told rest) rows
        (later (domains.lost client t) (delivered cell (happening_told (happens.Aborts client)) rows) (aborts_right t rows client right))
    by_one (device.Turns told) later =
        right_both (domains_without (lost_in rest) t) (notices_told told.turned told.notices) (all_told rest) rows
        (later t (delivered cell (notices_told told.turned told.notices) rows)
        (quiet_right t (notices_told told.turned told.notices) rows (notices_alone told.turned told.notices) right))

-- ---- each event

right_before : (count : ℕ) (s : State) → IsSound count s → AreRight s.domains s.programs s.clients
right_before count s sound = record {
  names = sound.names;
  loads = λ i row there. let next : i + 1 ≡ suc i = omega arith in
      subst (λ (n : ℕ). AreLoads n row.asked s.domains.domains) next (sound.loads i row there);
  uploads = sound.uploads;
  used = sound.used;
}

right_after : (count : ℕ) (s : State) (event : CellEvent) → IsSound count s → AreRight (step s event).domains (step s event).programs (step s event).clients
right_after count s (Heard client octets) sound = heard_right count (cell.tables_of s) s.clients sound.rows (right_before count s sound) client octets
right_after count s (Lost client) sound = gone_so count (cell.tables_of s) s.clients sound.rows (right_before count s sound) client
right_after count s (Tick ms) sound = happened_right (meanwhile ms (cell.tables_of s)).happened s.domains s.clients (right_before count s sound)
right_after count s (Ends name) sound =
    run_right s.domains s.clients (right_before count s sound) (program.after_ends name s.programs) (ends_keep s.domains.domains s.programs sound.used name)
right_after count s (Drain client) sound = quiet_right s.domains (tell client (Drains ∷ [])) s.clients (tt, tt) (right_before count s sound)

pub names_after : (count : ℕ) (s : State) (event : CellEvent) → IsSound count s → HaveNames (step s event).domains.domains
names_after count s event sound = (right_after count s event sound).names

pub loads_after : (count : ℕ) (s : State) (event : CellEvent) → IsSound count s → (i : ℕ) (row : ClientRow) → slice_get (step s event).clients i ≡ Some row
    → AreLoads (i + 1) row.asked (step s event).domains.domains
loads_after count s event sound i row there =
    let next : suc i ≡ i + 1 = omega arith in
    subst (λ (n : ℕ). AreLoads n row.asked (step s event).domains.domains) next ((right_after count s event sound).loads i row there)

pub uploads_after : (count : ℕ) (s : State) (event : CellEvent) → IsSound count s → AreOf (step s event).domains.uploads (step s event).domains.domains
uploads_after count s event sound = (right_after count s event sound).uploads

pub used_after : (count : ℕ) (s : State) (event : CellEvent) → IsSound count s → AreUsed (step s event).domains.domains (step s event).programs
used_after count s event sound = (right_after count s event sound).used

-- ---- the start

none_asked : (clients : List ℕ) (config : Config) (i : ℕ) (row : ClientRow) → slice_get (map (λ c. new_row c (device_of config)) clients) i ≡ Some row → row.asked ≡ []
none_asked [] config i row there = absurd (cc there)
none_asked (c ∷ clients) config zero row there = let same : new_row c (device_of config) ≡ row = cc there in sym (ap (λ (r : ClientRow). r.asked) same)
none_asked (c ∷ clients) config (suc i) row there = none_asked clients config i row there

pub first_names : HaveNames no_domains.domains
unfolding IsDistinct
first_names = tt

pub first_loads : (config : Config) (i : ℕ) (row : ClientRow) → slice_get (start config).clients i ≡ Some row → AreLoads (i + 1) row.asked (start config).domains.domains
first_loads config i row there =
    subst (λ (asked : List Unanswered). AreLoads (i + 1) asked []) (sym (none_asked (clients_to config.clients) config i row there)) (none_loaded (i + 1))

pub first_uploads : AreOf no_domains.uploads no_domains.domains
first_uploads = none_kept []

pub first_used : AreUsed no_domains.domains []
first_used = none_used
