-- What holds of loads, of domains and of the rows of clients holds along a history, where each thing that may be done
-- to them keeps it.
use Rattle.std.specs.Prelude.{◌≡◌, ℕ, zero, suc, ◌+◌, Bool, true, false, not, fold, length, Option, None, Some, List, [], ◌∷◌, ◌++◌, option_to_list, option_map, slice_get, unwrap_or, Result, if◌then◌else◌, nat_le, nat_lt, is_some, refl}
use Rattle.std.specs.List.{cons_option}
use Rattle.std.specs.Option.{option_map_or}
use Rattle.std.proofs.Common.{ap, sym, ◌∙◌, subst, arith, append-nil, append_assoc}
use Rattle.mms_types.proofs.Conditions.{none_holds}
use Rattle.mms_types.specs.Errors.{capability_unavailable, object_exists}
use Rattle.mms_types.specs.declared.asked.Asked.{Asked}
use Rattle.mms_types.specs.declared.asked.Asked.TheVariants as asks
use Rattle.mms_types.specs.declared.domain.InitiateDownloadSequence.{InitiateDownloadSequence}
use Rattle.mms_types.specs.declared.event.CellEvent.{CellEvent}
use Rattle.mms_types.specs.declared.event.CellEvent.TheVariants.{Heard, Lost, Tick, Ends, Drain}
use Rattle.mms_types.specs.declared.moment.Moment.{Moment}
use Rattle.mms_types.specs.declared.pdu.Answer.{Answer}
use Rattle.mms_types.specs.declared.pdu.Pdu.{Pdu}
use Rattle.mms_types.specs.declared.pdu.Request.{Request}
use Rattle.mms_types.specs.declared.pdu.Request.TheVariants as request
use Rattle.mms_types.specs.declared.service_error.ServiceError.{ServiceError}
use Rattle.mms_pdu.specs.Heard.{pdu_heard}
use Rattle.mms_pdu.specs.declared.refusal.Refusal.{Refusal}
use Rattle.mms_time.specs.Services.{take_told}
use Rattle.mms_time.specs.declared.taking.TakeDone.{TakeDone}
use Rattle.mms_time.specs.declared.taking.TakeDone.TheVariants as taken
use Rattle.sem_ticks.specs.Granted.{lost_granted, relinquish_granted}
use Rattle.sem_ticks.specs.declared.granted.Granted.{Granted}
use Rattle.cell_ticks.specs.Ticks.{dated}
use Rattle.cell_ticks.specs.declared.happening.DatedHappening.{DatedHappening}
use Rattle.cell_ticks.specs.declared.happening.Happening.{Happening as DeviceHappening}
use Rattle.cell_ticks.specs.declared.happening.Happening.TheVariants as device
use Rattle.serve_events.specs.Told.{notices_told}
use Rattle.sem_ticks.specs.declared.ticks.Happening.TheVariants as happens
use Rattle.association.specs.Asked.{AreApart, asked_of}
use Rattle.association.specs.Client.{ClientRow}
use Rattle.association.specs.declared.negotiation.Association.{Association}
use Rattle.association.specs.declared.negotiation.Association.TheVariants.{Idle, Open}
use Rattle.association.specs.declared.unanswered.Unanswered.{Unanswered}
use Rattle.association.specs.declared.waiting.Waiting.{Waiting}
use Rattle.domain_load.specs.Domains.{Rows, is_there, named, without, without_loads}
use Rattle.domain_load.specs.Loading.{asked_next, changed, initiate_after, initiate_cause, most_domains, reply_after}
use Rattle.domain_load.specs.Standing.{is_loading}
use Rattle.domain_load.specs.Used.{after_unused, after_used, had_by, left_by}
use Rattle.domain_load.specs.declared.domain.Domain.{Domain}
use Rattle.domain_load.proofs.Outcomes.{there}
use Rattle.program_inv.specs.Programs as program
use Rattle.program_inv.specs.declared.invocation.Invocation.{Invocation}
use Rattle.parted_state.specs.Served.{delivered, row_at}
use Rattle.cell_client.specs.Areas.{OutcomeIn}
use Rattle.cell_client.specs.Association.{Came, Verdict, Tells, Takes, Replies, Exhausts, Concludes, Cancels, Aborts, abort_told, cancel_told, conclusion_told, idle_verdict, loss_told, other_error, verdict}
use Rattle.cell_client.specs.Effects.{Asks, Drains, Effect, Settles, felt_all, tell}
use Rattle.cell_client.specs.Facts.{Facts}
use Rattle.cell_client.specs.Requests.{answer_told, fits, is_done, refuses, request_told, size_of}
use Rattle.serve_domains.proofs.Answered.{told_idle}
use Rattle.serve_domains.specs.Domains.{asks_next, calling_left, calling_of, delete, replied_to, reply_of}
use Rattle.serve_domains.specs.Tables.{DomainTables}
use Rattle.serve_domains.specs.Tables as domains
use Rattle.serve_programs.specs.Programs.{with_domains}
use Rattle.cell_services.specs.Requests.{among, told_in}
use Rattle.cell_services.specs.Services.{area_of, cause, effect, grants_told, relinquish_outcome, reply_in, take_outcome}
use Rattle.cell_services.specs.Serving.{aborted_at, all_told, also_lost, also_served, also_told, dated_told, domains_without, happened_told, happening_told, is_served_in, loss_also, lost_in, meanwhile, own_told, resolved, served_told, tables_cancelled, tables_heard, tables_lost, tables_served, waiting_of, without_client}
use Rattle.cell_services.specs.Tables.{Tables, moment_of, own_domains}
use Rattle.step_parts.proofs.Rows.{delivered_both, nobody_told}
use Rattle.step_sound.proofs.Sound.{step_sound}
use Rattle.step_parts.specs.Partition.{cell, no_client}
use Rattle.step_parts.specs.State.{IsSound, IsSoundRow, State}
use Rattle.step_parts.specs.Step.{step}
use Rattle.cell_laws.specs.Loads.{Answers, Begins, LoadStep, load_begun, load_heard, load_step, load_steps}
use Rattle.cell_laws.proofs.LoadMeant.{IsBoth, IsReply, resolved_both}
use Rattle.cell_laws.proofs.LoadUsers.{IsOfUsers}
use Rattle.cell_laws.proofs.LoadRows.{ArePlain, IsLike, grants_plain, none_told, notices_plain, plain_told}
use Rattle.cell_laws.proofs.Notices.{alteration-notices, deletion-notices, told-notices, trigger-notices}

-- one step more, where there is one
abbrev pub logged : List LoadStep → Option LoadStep → List LoadStep
logged log None = log
logged log (Some one) = log ++ one ∷ []

logged_all : (log : List LoadStep) (o : Option LoadStep) (rest : List LoadStep) → logged log o ++ rest ≡ log ++ (option_to_list o ++ rest)
logged_all log None rest = refl
logged_all log (Some one) rest = append_assoc log (one ∷ []) rest

-- Of the steps of loads, domains and clients something holds whatever is done to them: clients are told something that
-- changes neither what is asked of them nor their associations; one is told what its octets come to at once; its
-- association ends; a load begins; a domain is deleted; a request of a load is answered; program invocations come to a
-- domain or leave it.
pub record IsKept (P : List LoadStep → Rows → List ClientRow → Type 0) : Type 0 where
  pub plain : (log : List LoadStep) (d : Rows) (told : List (ℕ × Effect)) (rows : List ClientRow) → ArePlain told → P log d rows → P log d (delivered cell told rows)
  pub spared : (log : List LoadStep) (d : Rows) (rows : List ClientRow) (k : ℕ) (row : ClientRow) (effects : List Effect) → slice_get rows k ≡ Some row → AreApart row.asked
      → IsBoth row (Tells effects) → P log d rows → P log d (delivered cell (tell (suc k) effects) rows)
  pub closed : (log : List LoadStep) (d : Rows) (rows : List ClientRow) (k : ℕ) (effects : List Effect) → ((row : ClientRow) → (felt_all effects row).asked ≡ [])
      → P log d rows → P log (without_loads (suc k) d) (delivered cell (tell (suc k) effects) rows)
  pub nobody : (log : List LoadStep) (d : Rows) (rows : List ClientRow) → P log d rows → P log (without_loads 0 d) rows
  pub begun : (log : List LoadStep) (d : Rows) (rows : List ClientRow) (k : ℕ) (left : Bool) (x : InitiateDownloadSequence)
      → ((row : ClientRow) → slice_get rows k ≡ Some row → calling_left row ≡ true) → initiate_cause left x d ≡ None → P log d rows
      → P (log ++ Begins (suc k) x ∷ []) (initiate_after (suc k) x d) (delivered cell ((suc k, Asks asks.Segment x.domain) ∷ []) rows)
  pub deleted : (log : List LoadStep) (d : Rows) (rows : List ClientRow) (name : List ℕ) → is_there is_loading name d ≡ false → P log d rows → P log (without name d) rows
  pub used : (log : List LoadStep) (d : Rows) (rows : List ClientRow) (name : List ℕ) (f : Domain → Domain) → IsOfUsers f → P log d rows → P log (changed name f d) rows
  pub replied : (log : List LoadStep) (d : Rows) (rows : List ClientRow) (k : ℕ) (row : ClientRow) (number : ℕ) (came : Came) → slice_get rows k ≡ Some row
      → AreApart row.asked → (is : IsReply row.asked number came) → P log d rows
      → P (log ++ Answers (suc k) (reply_of came (is.kind, is.name)) ∷ []) (reply_after (reply_of came (is.kind, is.name)) d)
      (delivered cell ((suc k, Settles number) ∷ asks_next (suc k) (asked_next (reply_of came (is.kind, is.name)) d) is.name) rows)

-- ---- what is told of a request

request_plain : (client size invoke : ℕ) (why : Option ServiceError) (told : Option Answer) → ArePlain (tell client (request_told size invoke why told))
request_plain client size invoke (Some refusal) told = (tt, tt)
request_plain client size invoke None None = tt
request_plain client size invoke None (Some answer) = by_test (fits size invoke (Some answer))
  where
    by_test : (b : Bool) → ArePlain (tell client (if b then answer_told invoke (Some answer) else refuses invoke other_error ∷ []))
    by_test true = (tt, tt)
    by_test false = (tt, tt)

-- what is done isn't refused
pub none_refused : (size invoke : ℕ) (why : Option ServiceError) (told : Option Answer) → is_done size invoke why told ≡ true → why ≡ None
none_refused size invoke None told done = refl
none_refused size invoke (Some refusal) told done = absurd (cc done)

-- a load begins only where its client may be asked one thing more
has_left : (left : Bool) (x : InitiateDownloadSequence) (d : Rows) → initiate_cause left x d ≡ None → left ≡ true
has_left left x d none =
    let full = nat_le most_domains (length d) in
    let last : List (Bool × ServiceError) = (not left, capability_unavailable) ∷ [] in
    let a = none_holds (is_some (named x.domain d)) object_exists ((full, capability_unavailable) ∷ last) none in
    let b = none_holds full capability_unavailable last a.1 in
    let c = none_holds (not left) capability_unavailable [] b.1 in
    by_test left c.0
  where
    by_test : (b : Bool) → not b ≡ false → b ≡ true
    by_test true e = refl
    by_test false e = absurd (cc e)

-- a domain is deleted that isn't LOADING
pub not_loading : (name : List ℕ) (facts : Facts) (t : DomainTables) (row : ClientRow) → (delete name).cause facts t row ≡ None → is_there is_loading name t.domains ≡ false
not_loading name facts t row none = by_test (is_there is_loading name t.domains) refl
  where
    by_test : (b : Bool) → is_there is_loading name t.domains ≡ b → b ≡ false
    by_test true e = let it = there is_loading (named name t.domains) e in absurd (cc (none, it.1))
    by_test false e = refl

module _ (P : List LoadStep → Rows → List ClientRow → Type 0) (kept : IsKept P) (log : List LoadStep) where
  -- first one is told something, and then others
  both : (after : List LoadStep) (d : Rows) (own also : List (ℕ × Effect)) (rows : List ClientRow) → P after d (delivered cell also (delivered cell own rows))
      → P after d (delivered cell (own ++ also) rows)
  both after d own also rows is = subst (λ (l : List ClientRow). P after d l) (sym (delivered_both own also rows)) is

  -- a program invocation comes to domains, or leaves them
  used_kept : (names : List (List ℕ)) (by : List ℕ) (d : Rows) (rows : List ClientRow) → P log d rows → P log (after_used names by d) rows
  used_kept [] by d rows is = is
  used_kept (name ∷ names) by d rows is = used_kept names by (changed name (had_by by) d) rows (kept.used log d rows name (had_by by) (λ domain. refl) is)

  unused_kept : (names : List (List ℕ)) (by : List ℕ) (d : Rows) (rows : List ClientRow) → P log d rows → P log (after_unused names by d) rows
  unused_kept [] by d rows is = is
  unused_kept (name ∷ names) by d rows is = unused_kept names by (changed name (left_by by) d) rows (kept.used log d rows name (left_by by) (λ domain. refl) is)

  -- ---- what is heard

  module _ (t : Tables) (row : ClientRow) (k : ℕ) (own : row.client ≡ suc k) where
    abbrev d : Rows
    d = t.domains.domains

    request_kept : (rows : List ClientRow) (invoke : ℕ) (asked : Request) → ((r : ClientRow) → slice_get rows k ≡ Some r → IsLike row r) → cause t row asked ≡ None → P log d rows
        → P (logged log (load_begun row.client asked)) (effect t row invoke asked).tables.domains.domains (delivered cell (effect t row invoke asked).also rows)
    request_kept rows invoke (request.InitiateDownloadSequence x) like none is =
        subst (λ (c : ℕ). P (log ++ Begins c x ∷ []) (initiate_after c x d) (delivered cell ((c, Asks asks.Segment x.domain) ∷ []) rows)) (sym own)
        (kept.begun log d rows k (calling_left row) x left none is)
      where
        left : (r : ClientRow) → slice_get rows k ≡ Some r → calling_left r ≡ true
        left r at =
            ap (λ (l : List Unanswered). nat_lt (length l) (calling_of r.association)) (like r at).asked
            ∙ ap (λ (a : Association). nat_lt (length row.asked) (calling_of a)) (like r at).association ∙ has_left (calling_left row) x d none
    request_kept rows invoke (request.DeleteDomain name) like none is =
        kept.deleted log d rows name (not_loading name (told_in own_domains t row (delete name)) t.domains row none) is
    request_kept rows invoke (request.TakeControl x) like none is = by_done (take_told row.client x t.semaphores)
      where
        by_done : (o : Option TakeDone) → P log (take_outcome t row.client invoke x o).tables.domains.domains (delivered cell (take_outcome t row.client invoke x o).also rows)
        by_done None = is
        by_done (Some (taken.Answered told)) = is
        by_done (Some (taken.Waits entry)) = kept.plain log d (take_outcome t row.client invoke x (Some (taken.Waits entry))).also rows (tt, tt) is
    request_kept rows invoke (request.RelinquishControl x) like none is = by_grant (relinquish_granted row.client x t.semaphores)
      where
        by_grant : (o : Option (Option Granted)) → P log (relinquish_outcome t row.client x o).tables.domains.domains (delivered cell (relinquish_outcome t row.client x o).also rows)
        by_grant None = is
        by_grant (Some grant) = kept.plain log d (grants_told (option_to_list grant)) rows (grants_plain (option_to_list grant)) is
    request_kept rows invoke (request.CreateProgramInvocation x) like none is = used_kept x.domains x.name d rows is
    request_kept rows invoke (request.DeleteProgramInvocation name) like none is = by_found (program.named name t.programs)
      where
        by_found : (o : Option Invocation) → P log (option_map_or (λ p. with_domains (after_unused p.domains name t.domains.domains) t.domains) o t.domains).domains rows
        by_found None = is
        by_found (Some p) = unused_kept p.domains name d rows is
    request_kept rows invoke (request.DeleteEventCondition x) like none is =
        let also : List (ℕ × Effect) = (effect t row invoke (request.DeleteEventCondition x)).also in
        kept.plain log d also rows (notices_plain also (deletion-notices t row invoke x)) is
    request_kept rows invoke (request.AlterEventConditionMonitoring x) like none is =
        let also : List (ℕ × Effect) = (effect t row invoke (request.AlterEventConditionMonitoring x)).also in
        kept.plain log d also rows (notices_plain also (alteration-notices t row invoke x)) is
    request_kept rows invoke (request.TriggerEvent x) like none is =
        let also : List (ℕ × Effect) = (effect t row invoke (request.TriggerEvent x)).also in
        kept.plain log d also rows (notices_plain also (trigger-notices t row invoke x)) is
    request_kept rows invoke asked like none is = is

    module _ (rows : List ClientRow) (there : slice_get rows k ≡ Some row) (is : P log d rows) where
      served_kept : (invoke : ℕ) (asked : Request)
          → P (logged log (if is_served_in t row invoke (area_of asked) then load_begun row.client asked else None)) (tables_served t row invoke (area_of asked)).domains.domains
          (delivered cell (tell (suc k) (served_told t row invoke (area_of asked)) ++ also_served t row invoke (area_of asked)) rows)
      served_kept invoke asked =
          both (logged log (if is_served_in t row invoke (area_of asked) then load_begun row.client asked else None)) (tables_served t row invoke (area_of asked)).domains.domains
          own_effects (also_served t row invoke (area_of asked)) rows (by_test (is_served_in t row invoke (area_of asked)) refl)
        where
          own_effects : List (ℕ × Effect)
          own_effects = tell (suc k) (served_told t row invoke (area_of asked))

          are_plain : ArePlain own_effects
          are_plain = request_plain (suc k) (size_of row.association) invoke (cause t row asked) (effect t row invoke asked).answer

          told_rows : List ClientRow
          told_rows = delivered cell own_effects rows

          told_kept : P log d told_rows
          told_kept = kept.plain log d own_effects rows are_plain is

          by_test : (b : Bool) → is_served_in t row invoke (area_of asked) ≡ b
              → P (logged log (if b then load_begun row.client asked else None)) (if b then (effect t row invoke asked).tables else t).domains.domains
              (delivered cell (if b then (effect t row invoke asked).also else []) told_rows)
          by_test true done =
              request_kept told_rows invoke asked (λ r at. plain_told own_effects rows k row r are_plain there at)
              (none_refused (size_of row.association) invoke (cause t row asked) (effect t row invoke asked).answer done) told_kept
          by_test false done = told_kept

      reply_kept : AreApart row.asked → (number : ℕ) (came : Came) → IsReply row.asked number came
          → P (logged log (option_map (λ of. Answers row.client (reply_of came of)) (asked_of number row.asked))) (tables_served t row number (reply_in number came)).domains.domains
          (delivered cell (tell (suc k) (served_told t row number (reply_in number came)) ++ also_served t row number (reply_in number came)) rows)
      reply_kept apart number came reply = subst By (sym reply.asked) (subst AsOf (sym own) (kept.replied log d rows k row number came there apart reply is))
        where
          outcome : Option (Asked × List ℕ) → OutcomeIn Tables
          outcome o = among own_domains t (replied_to row.client number came o t.domains)

          done : Option (Asked × List ℕ) → Bool
          done o = is_done (size_of row.association) number None (outcome o).answer

          By : Option (Asked × List ℕ) → Type 0
          By o = P (logged log (option_map (λ of. Answers row.client (reply_of came of)) o)) (if done o then (outcome o).tables else t).domains.domains
              (delivered cell (tell (suc k) (request_told (size_of row.association) number None (outcome o).answer) ++ (if done o then (outcome o).also else [])) rows)

          AsOf : ℕ → Type 0
          AsOf c = P (log ++ Answers c (reply_of came (reply.kind, reply.name)) ∷ []) (replied_to c number came (Some (reply.kind, reply.name)) t.domains).tables.domains
              (delivered cell (replied_to c number came (Some (reply.kind, reply.name)) t.domains).also rows)

      -- the client is lost
      gone_kept : (effects : List Effect) → ((r : ClientRow) → (felt_all effects r).asked ≡ [])
          → P log (without_client row.client t).domains.domains (delivered cell (tell (suc k) effects ++ loss_also row.client t) rows)
      gone_kept effects none =
          both log (without_client row.client t).domains.domains (tell (suc k) effects) (loss_also row.client t) rows
          (kept.plain log (without_client row.client t).domains.domains (loss_also row.client t) (delivered cell (tell (suc k) effects) rows)
          (grants_plain (lost_granted row.client (moment_of t) t.semaphores))
          (subst (λ (c : ℕ). P log (without_loads c d) (delivered cell (tell (suc k) effects) rows)) (sym own) (kept.closed log d rows k effects none is)))

      -- the client alone is told something, at which the domains stay
      alone_kept : (effects : List Effect) → P log d (delivered cell (tell (suc k) effects) rows) → P log d (delivered cell (tell (suc k) effects ++ []) rows)
      alone_kept effects alone = both log d (tell (suc k) effects) [] rows alone

      cancelled_kept : (invoke : ℕ) (o : Option Waiting) → P log (tables_cancelled o t).domains.domains (delivered cell (tell (suc k) (cancel_told invoke) ++ []) rows)
      cancelled_kept invoke None = alone_kept (cancel_told invoke) (kept.plain log d (tell (suc k) (cancel_told invoke)) rows (tt, (tt, (tt, tt))) is)
      cancelled_kept invoke (Some waits) = alone_kept (cancel_told invoke) (kept.plain log d (tell (suc k) (cancel_told invoke)) rows (tt, (tt, (tt, tt))) is)

      verdict_kept : AreApart row.asked → (v : Verdict) → IsBoth row v
          → P (logged log (load_heard t row v)) (tables_heard t row v).domains.domains (delivered cell (tell (suc k) (own_told t row v) ++ also_told t row v) rows)
      verdict_kept apart (Tells effects) meant = alone_kept effects (kept.spared log d rows k row effects there apart meant is)
      verdict_kept apart (Takes invoke asked) meant = served_kept invoke asked
      verdict_kept apart (Replies number came) meant = reply_kept apart number came meant.1
      verdict_kept apart (Exhausts invoke) meant = gone_kept (own_told t row (Exhausts invoke)) (λ r. refl)
      verdict_kept apart Concludes meant = gone_kept conclusion_told (λ r. refl)
      verdict_kept apart (Cancels invoke) meant = cancelled_kept invoke (waiting_of invoke row.waiting)
      verdict_kept apart Aborts meant = gone_kept abort_told (λ r. refl)

      lost_kept : (a : Association) → P log (tables_lost a row.client t).domains.domains (delivered cell (tell (suc k) (loss_told a) ++ also_lost a row.client t) rows)
      lost_kept Idle = is
      lost_kept (Open values) = gone_kept (loss_told (Open values)) (λ r. refl)

  -- ---- by whether the client is there

  absent_kept : (d : Rows) (rows : List ClientRow) (client : ℕ) (effects : List Effect) → ((k : ℕ) → client ≡ suc k → slice_get rows k ≡ None) → P log d rows
      → P log d (delivered cell (tell client effects) rows)
  absent_kept d rows zero effects none is = subst (λ (l : List ClientRow). P log d l) (sym (nobody_told effects rows)) is
  absent_kept d rows (suc k) effects none is = subst (λ (l : List ClientRow). P log d l) (sym (none_told effects rows k (none k refl))) is

  module _ (t : Tables) (rows : List ClientRow) (client : ℕ) where
    abbrev heard_verdict : List ℕ → ClientRow → Verdict
    heard_verdict octets row = resolved t row (verdict row octets)

    -- what follows from the row of the client
    abbrev HeardKept : Verdict → ClientRow → Type 0
    HeardKept v row = P (logged log (load_heard t row v)) (tables_heard t row v).domains.domains (delivered cell (tell client (own_told t row v) ++ also_told t row v) rows)

    absent_heard : (heard : Result Pdu Refusal) → ((k : ℕ) → client ≡ suc k → slice_get rows k ≡ None) → P log t.domains.domains rows
        → HeardKept (resolved t no_client (idle_verdict heard)) no_client
    absent_heard heard none is =
        let told = told_idle heard in
        subst (λ (v : Verdict). HeardKept (resolved t no_client v) no_client) (sym told.1)
        (both log t.domains.domains (tell client told.0) [] rows (absent_kept t.domains.domains rows client told.0 none is))

    abbrev LostKept : ClientRow → Type 0
    LostKept row = P log (tables_lost row.association row.client t).domains.domains (delivered cell (tell client (loss_told row.association) ++ also_lost row.association row.client t) rows)

  module _ (count : ℕ) (t : Tables) (rows : List ClientRow) (sound : (i : ℕ) (row : ClientRow) → slice_get rows i ≡ Some row → IsSoundRow count (i + 1) row)
      (is : P log t.domains.domains rows) where
    its_number : (k : ℕ) (row : ClientRow) → slice_get rows k ≡ Some row → row.client ≡ suc k
    its_number k row there = let number = (sound k row there).number in omega (arith, number)

    heard_kept : (client : ℕ) (octets : List ℕ) → HeardKept t rows client (heard_verdict t rows client octets (row_at cell client rows)) (row_at cell client rows)
    heard_kept zero octets = absent_heard t rows 0 (pdu_heard no_client.constants.edition octets) (λ k e. absurd (omega (arith, e))) is
    heard_kept (suc k) octets = by_row (slice_get rows k) refl
      where
        by_row : (o : Option ClientRow) → slice_get rows k ≡ o
            → HeardKept t rows (suc k) (heard_verdict t rows (suc k) octets (unwrap_or o no_client)) (unwrap_or o no_client)
        by_row None none =
            absent_heard t rows (suc k) (pdu_heard no_client.constants.edition octets)
            (λ j e. let same : k ≡ j = omega (arith, e) in subst (λ (i : ℕ). slice_get rows i ≡ None) same none) is
        by_row (Some row) there =
            verdict_kept t row k (its_number k row there) rows there is (sound k row there).apart (resolved t row (verdict row octets)) (resolved_both row t octets)

    gone_so : (client : ℕ) → LostKept t rows client (row_at cell client rows)
    gone_so zero = is
    gone_so (suc k) = by_row (slice_get rows k) refl
      where
        by_row : (o : Option ClientRow) → slice_get rows k ≡ o → LostKept t rows (suc k) (unwrap_or o no_client)
        by_row None none = is
        by_row (Some row) there = lost_kept t row k (its_number k row there) rows there is row.association

  -- ---- time goes by

  aborts_kept : (t : DomainTables) (rows : List ClientRow) (client : ℕ) → P log t.domains rows
      → P log (domains.lost client t).domains (delivered cell (happening_told (happens.Aborts client)) rows)
  aborts_kept t rows zero is = kept.nobody log t.domains rows is
  aborts_kept t rows (suc k) is = kept.closed log t.domains rows k abort_told (λ r. refl) is

  one_kept : (happening : DeviceHappening) (at : Moment) (t : DomainTables) (rows : List ClientRow) → P log t.domains rows
      → P log (domains_without (lost_in (dated at happening ∷ [])) t).domains (delivered cell (happened_told happening) rows)
  one_kept (device.Semaphores (happens.WaitEnds client invoke)) at t rows is = kept.plain log t.domains (happening_told (happens.WaitEnds client invoke)) rows (tt, (tt, tt)) is
  one_kept (device.Semaphores (happens.Grants grant)) at t rows is = kept.plain log t.domains (happening_told (happens.Grants grant)) rows (tt, (tt, tt)) is
  one_kept (device.Semaphores (happens.Aborts client)) at t rows is = aborts_kept t rows client is
  one_kept (device.Turns told) at t rows is =
      kept.plain log t.domains (notices_told told.turned told.notices) rows
      (notices_plain (notices_told told.turned told.notices) (told-notices told.turned told.notices)) is

  happened_kept : (happened : List DatedHappening) (t : DomainTables) (rows : List ClientRow) → P log t.domains rows
      → P log (domains_without (lost_in happened) t).domains (delivered cell (all_told happened) rows)
  happened_kept [] t rows is = is
  happened_kept (x ∷ rest) t rows is =
      subst (λ (d : DomainTables). P log d.domains (delivered cell (all_told (x ∷ rest)) rows)) (sym (lost_first x rest t))
      (both log (domains_without (lost_in rest) (domains_without (lost_in (x ∷ [])) t)).domains (dated_told x) (all_told rest) rows
      (happened_kept rest (domains_without (lost_in (x ∷ [])) t) (delivered cell (dated_told x) rows) (one_kept x.happening x.at t rows is)))
    where
      by_one : (o : Option ℕ) (clients : List ℕ) (d : DomainTables) → domains_without (cons_option o clients) d ≡ domains_without clients (domains_without (cons_option o []) d)
      by_one None clients d = refl
      by_one (Some client) clients d = refl

      lost_first : (y : DatedHappening) (ys : List DatedHappening) (d : DomainTables)
          → domains_without (lost_in (y ∷ ys)) d ≡ domains_without (lost_in ys) (domains_without (lost_in (y ∷ [])) d)
      lost_first y ys d = by_one (aborted_at y) (lost_in ys) d

  -- ---- each event

  step_kept : (count : ℕ) (s : State) (event : CellEvent) → IsSound count s → P log s.domains.domains s.clients
      → P (logged log (load_step s event)) (step s event).domains.domains (step s event).clients
  step_kept count s (Heard client octets) sound is = heard_kept count (cell.tables_of s) s.clients sound.rows is client octets
  step_kept count s (Lost client) sound is = gone_so count (cell.tables_of s) s.clients sound.rows is client
  step_kept count s (Tick ms) sound is = happened_kept (meanwhile ms (cell.tables_of s)).happened s.domains s.clients is
  step_kept count s (Ends name) sound is = is
  step_kept count s (Drain client) sound is = kept.plain log s.domains.domains (tell client (Drains ∷ [])) s.clients (tt, tt) is

-- and along a history
pub kept_along : (P : List LoadStep → Rows → List ClientRow → Type 0) → IsKept P → (count : ℕ) (s : State) (log : List LoadStep) (history : List CellEvent) → IsSound count s
    → P log s.domains.domains s.clients → P (log ++ load_steps s history) (fold step s history).domains.domains (fold step s history).clients
kept_along P kept count s log [] sound is = subst (λ (l : List LoadStep). P l s.domains.domains s.clients) (sym (append-nil log)) is
kept_along P kept count s log (event ∷ rest) sound is =
    subst (λ (l : List LoadStep). P l (fold step (step s event) rest).domains.domains (fold step (step s event) rest).clients)
    (logged_all log (load_step s event) (load_steps (step s event) rest))
    (kept_along P kept (count + 1) (step s event) (logged log (load_step s event)) rest (step_sound count s event sound) (step_kept P kept log count s event sound is))
