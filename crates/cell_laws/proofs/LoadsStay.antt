-- A domain that is LOADING is there after an event, where its load doesn't end for a cause.
use Rattle.std.specs.Prelude.{◌≡◌, ◌≢◌, ◌⊎◌, ℕ, zero, suc, ◌+◌, ◌==◌, Bool, true, false, Contains, length, is_some, option_map, unwrap_or, slice_get, Option, None, Some, List, [], ◌∷◌, Result, if◌then◌else◌, refl}
use Rattle.std.specs.Option.{option_map_or}
use Rattle.std.proofs.Common.{inl, inr, ap, sym, ◌∙◌, subst, arith}
use Rattle.mms_types.specs.declared.asked.Asked.{Asked}
use Rattle.mms_types.specs.declared.asked.Reply.{Reply}
use Rattle.mms_types.specs.declared.asked.Reply.TheVariants as reply
use Rattle.mms_types.specs.declared.event.CellEvent.{CellEvent}
use Rattle.mms_types.specs.declared.event.CellEvent.TheVariants.{Heard, Lost, Tick, Ends, Drain}
use Rattle.mms_types.specs.declared.pdu.Pdu.{Pdu}
use Rattle.mms_types.specs.declared.pdu.Request.{Request}
use Rattle.mms_types.specs.declared.pdu.Request.TheVariants as request
use Rattle.mms_pdu.specs.Heard.{pdu_heard}
use Rattle.mms_pdu.specs.declared.refusal.Refusal.{Refusal}
use Rattle.mms_time.specs.Services.{take_told}
use Rattle.mms_time.specs.declared.taking.TakeDone.{TakeDone}
use Rattle.mms_time.specs.declared.taking.TakeDone.TheVariants as taken
use Rattle.sem_ticks.specs.Granted.{relinquish_granted}
use Rattle.sem_ticks.specs.declared.granted.Granted.{Granted}
use Rattle.association.specs.Client.{ClientRow}
use Rattle.association.specs.declared.negotiation.Association.{Association}
use Rattle.association.specs.declared.negotiation.Association.TheVariants.{Idle, Open}
use Rattle.association.specs.declared.negotiation.Negotiated.{Negotiated}
use Rattle.association.specs.declared.waiting.Waiting.{Waiting}
use Rattle.cell_config.specs.declared.config.Config.{Config}
use Rattle.cell_config.specs.Said.{IsConfig}
use Rattle.domain_load.specs.Domains.{Rows, is_there, name_eq, named, without, without_loads}
use Rattle.domain_load.specs.Loading.{answers_load, changed, domain_of, loaded, reply_after, with_segment}
use Rattle.domain_load.specs.Standing.{is_loaded_by, is_loading}
use Rattle.domain_load.specs.Used.{after_unused, after_used, had_by, left_by}
use Rattle.domain_load.specs.declared.domain.Domain.{Domain}
use Rattle.domain_load.proofs.Outcomes.{begin_others, gone_others, is_changed, lost_others, reply_others, there}
use Rattle.program_inv.specs.Programs as program
use Rattle.program_inv.specs.declared.invocation.Invocation.{Invocation}
use Rattle.parted_state.specs.Served.{row_at}
use Rattle.cell_client.specs.Areas.{OutcomeIn}
use Rattle.cell_client.specs.Association.{Came, Verdict, Tells, Takes, Replies, Exhausts, Concludes, Cancels, Aborts, idle_verdict, verdict}
use Rattle.cell_client.specs.Requests.{is_done, size_of}
use Rattle.serve_domains.proofs.Answered.{domain_answered, loads_it, told_idle}
use Rattle.serve_domains.specs.Domains.{calling_left, delete, replied_to, reply_of}
use Rattle.serve_domains.specs.Loads.{AreLoads}
use Rattle.serve_domains.specs.Tables.{DomainTables}
use Rattle.serve_domains.specs.Tables as domains
use Rattle.serve_programs.specs.Programs.{with_domains}
use Rattle.cell_services.specs.Requests.{among, told_in}
use Rattle.cell_services.specs.Services.{cause, effect, relinquish_outcome, take_outcome}
use Rattle.cell_services.specs.Serving.{domains_without, is_served, lost_in, meanwhile, resolved, tables_cancelled, tables_heard, tables_lost, waiting_of}
use Rattle.cell_services.specs.Tables.{Tables, own_domains}
use Rattle.step_sound.proofs.DomainNames.{HaveNames, lost_names}
use Rattle.step_sound.proofs.Sound.{replay_sound}
use Rattle.step_sound.specs.Answered.{EndsIt}
use Rattle.step_parts.specs.Partition.{cell, no_client}
use Rattle.step_parts.specs.State.{IsSound, State}
use Rattle.step_parts.specs.Step.{replay, step}
use Rattle.cell_laws.specs.Loads.{Answers, EndsLoad, breaks_off, load_heard}
use Rattle.cell_laws.proofs.Bound.{nat-same, nat-test}
use Rattle.cell_laws.proofs.LoadMeant.{IsBoth, IsReply, of_load, resolved_both}
use Rattle.cell_laws.proofs.LoadTold.{names_same, no_loader}
use Rattle.cell_laws.proofs.LoadUsers.{found_users}
use Rattle.cell_laws.proofs.LoadWalk.{none_refused, not_loading}
use Rattle.cell_laws.proofs.LoadsTold.{other_name}

-- a domain of that name is there
abbrev IsNamed : List ℕ → Rows → Type 0
IsNamed name d = (after : Domain) × (named name d ≡ Some after)

-- after an answer that doesn't break the load off
goes_on : (name : List ℕ) (d : Rows) (domain : Domain) (answer : Reply) → named name d ≡ Some domain → domain_of answer ≡ name → breaks_off answer d ≡ false
    → IsNamed name (reply_after answer d)
goes_on name d domain (reply.Segment own octets more) at its off = (
  with_segment octets domain,
  ap (λ (b : Bool). named name (if b then without own d else changed own (with_segment octets) d)) off
      ∙ ap (λ (n : List ℕ). named n (changed own (with_segment octets) d)) (sym its)
      ∙ is_changed own (with_segment octets) d domain (ap (λ (n : List ℕ). named n d) its ∙ at),
)
goes_on name d domain (reply.Ended own) at its off = (
  loaded domain,
  ap (λ (n : List ℕ). named n (changed own loaded d)) (sym its) ∙ is_changed own loaded d domain (ap (λ (n : List ℕ). named n d) its ∙ at),
)
goes_on name d domain (reply.Failed own kind) at its off = absurd (cc off)

-- the client that loads it is told by it
loader_is : (client other : ℕ) (domain : Domain) → domain.loader ≡ Some client → is_loaded_by other domain ≡ true → client ≡ other
loader_is client other domain loader loads =
    nat-same client other (sym (ap (λ (o : Option ℕ). option_map_or (λ l. l == other) o false) loader) ∙ loads)

module _ (name : List ℕ) (domain : Domain) (client : ℕ) (loader : domain.loader ≡ Some client) where
  -- another client is lost, or this one
  lost_or : (other : ℕ) (d : Rows) → HaveNames d → named name d ≡ Some domain → (named name (without_loads other d) ≡ Some domain) ⊎ (other ≡ client)
  lost_or other d names at = by_test (other == client) refl
    where
      by_test : (b : Bool) → (other == client) ≡ b → (named name (without_loads other d) ≡ Some domain) ⊎ (other ≡ client)
      by_test true e = inr (nat-same other client e)
      by_test false e =
          let apart : other ≢ client = λ same. cc (sym e ∙ ap (λ (c : ℕ). other == c) (sym same) ∙ nat-test other other refl) in
          inl (lost_others other name d domain names at (no_loader other client domain apart loader))

  -- a program invocation comes to domains, or leaves them
  used_stays : (names : List (List ℕ)) (by : List ℕ) (rows : Rows) (was : Domain) → named name rows ≡ Some was → IsNamed name (after_used names by rows)
  used_stays [] by rows was here = (was, here)
  used_stays (own ∷ names) by rows was here =
      let s = found_users own (had_by by) (λ x. refl) rows name was here in
      used_stays names by (changed own (had_by by) rows) (record was { invocations = s.0 }) s.1

  unused_stays : (names : List (List ℕ)) (by : List ℕ) (rows : Rows) (was : Domain) → named name rows ≡ Some was → IsNamed name (after_unused names by rows)
  unused_stays [] by rows was here = (was, here)
  unused_stays (own ∷ names) by rows was here =
      let s = found_users own (left_by by) (λ x. refl) rows name was here in
      unused_stays names by (changed own (left_by by) rows) (record was { invocations = s.0 }) s.1

  -- ---- what is heard

  module _ (t : Tables) (row : ClientRow) (names : HaveNames t.domains.domains) (at : named name t.domains.domains ≡ Some domain) where
    abbrev d : Rows
    d = t.domains.domains

    is_loading_there : is_there is_loading name d ≡ true
    is_loading_there = ap (λ (o : Option Domain). option_map_or is_loading o false) at ∙ ap (λ (o : Option ℕ). is_some o) loader

    -- a domain that is deleted is another
    deleted_other : (own : List ℕ) → is_there is_loading own d ≡ false → named name (without own d) ≡ Some domain
    deleted_other own stands = gone_others own name d names (by_test (name_eq own name) refl) ∙ at
      where
        by_test : (b : Bool) → name_eq own name ≡ b → b ≡ false
        by_test true e = absurd (cc (sym stands ∙ ap (λ (n : List ℕ). is_there is_loading n d) (names_same own name e) ∙ is_loading_there))
        by_test false e = refl

    request_stays : (invoke : ℕ) (asked : Request) → cause t row asked ≡ None → IsNamed name (effect t row invoke asked).tables.domains.domains
    request_stays invoke (request.InitiateDownloadSequence x) none =
        (domain, begin_others row.client x d name (other_name [] d 0 (calling_left row) x none name domain at) ∙ at)
    request_stays invoke (request.DeleteDomain own) none =
        (domain, deleted_other own (not_loading own (told_in own_domains t row (delete own)) t.domains row none))
    request_stays invoke (request.TakeControl x) none = by_done (take_told row.client x t.semaphores)
      where
        by_done : (o : Option TakeDone) → IsNamed name (take_outcome t row.client invoke x o).tables.domains.domains
        by_done None = (domain, at)
        by_done (Some (taken.Answered told)) = (domain, at)
        by_done (Some (taken.Waits entry)) = (domain, at)
    request_stays invoke (request.RelinquishControl x) none = by_grant (relinquish_granted row.client x t.semaphores)
      where
        by_grant : (o : Option (Option Granted)) → IsNamed name (relinquish_outcome t row.client x o).tables.domains.domains
        by_grant None = (domain, at)
        by_grant (Some grant) = (domain, at)
    request_stays invoke (request.CreateProgramInvocation x) none = used_stays x.domains x.name d domain at
    request_stays invoke (request.DeleteProgramInvocation own) none = by_found (program.named own t.programs)
      where
        by_found : (o : Option Invocation) → IsNamed name (option_map_or (λ p. with_domains (after_unused p.domains own t.domains.domains) t.domains) o t.domains).domains
        by_found None = (domain, at)
        by_found (Some p) = unused_stays p.domains own d domain at
    request_stays invoke asked none = (domain, at)

    -- it stays, or its load ends by a verdict
    abbrev Stays : Verdict → Type 0
    Stays v =
        IsNamed name (tables_heard t row v).domains.domains
        ⊎ (((answer : Reply) × (load_heard t row v ≡ Some (Answers client answer)) × (domain_of answer ≡ name) × (breaks_off answer d ≡ true))
        ⊎ ((row.client ≡ client) × EndsIt v))

    reply_stays : AreLoads row.client row.asked d → (number : ℕ) (from : Came) → IsReply row.asked number from → Stays (Replies number from)
    reply_stays agree number from reply = by_name (name_eq reply.name name) refl
      where
        answer : Reply
        answer = reply_of from (reply.kind, reply.name)

        its_name : domain_of answer ≡ reply.name
        its_name = domain_answered from (reply.kind, reply.name)

        loads_own : answers_load row.client answer d ≡ true
        loads_own = loads_it t.domains row.client number row.asked from (of_load row.asked number from reply) agree

        outcome : Option (Asked × List ℕ) → OutcomeIn Tables
        outcome o = among own_domains t (replied_to row.client number from o t.domains)

        By : Option (Asked × List ℕ) → Type 0
        By o = IsNamed name (if is_done (size_of row.association) number None (outcome o).answer then (outcome o).tables else t).domains.domains

        so : IsNamed name (reply_after answer d) → Stays (Replies number from)
        so is = inl (subst By (sym reply.asked) is)

        by_off : reply.name ≡ name → (b : Bool) → breaks_off answer d ≡ b → Stays (Replies number from)
        by_off same true e =
            let mine : is_there (is_loaded_by row.client) name d ≡ true =
            subst (λ (n : List ℕ). is_there (is_loaded_by row.client) n d ≡ true) (its_name ∙ same) loads_own in
            let its : is_loaded_by row.client domain ≡ true = sym (ap (λ (o : Option Domain). option_map_or (is_loaded_by row.client) o false) at) ∙ mine in
            let is = loader_is client row.client domain loader its in
            let heard : load_heard t row (Replies number from) ≡ Some (Answers client answer) =
            ap (option_map (λ (of : Asked × List ℕ). Answers row.client (reply_of from of))) reply.asked ∙ ap (λ (c : ℕ). Some (Answers c answer)) (sym is) in
            inr (inl (answer, heard, its_name ∙ same, e))
        by_off same false e = so (goes_on name d domain answer at (its_name ∙ same) e)

        by_name : (b : Bool) → name_eq reply.name name ≡ b → Stays (Replies number from)
        by_name true e = by_off (names_same reply.name name e) (breaks_off answer d) refl
        by_name false e =
            so (domain, reply_others row.client answer d name names loads_own (ap (λ (n : List ℕ). name_eq n name) its_name ∙ e) ∙ at)

    gone_stays : (v : Verdict) → EndsIt v → (tables_heard t row v).domains.domains ≡ without_loads row.client d → Stays v
    gone_stays v so is = by_lost (lost_or row.client d names at)
      where
        by_lost : (named name (without_loads row.client d) ≡ Some domain) ⊎ (row.client ≡ client) → Stays v
        by_lost (inl stays) = inl (domain, ap (λ (rows : Rows). named name rows) is ∙ stays)
        by_lost (inr same) = inr (inr (same, so))

    verdict_stays : AreLoads row.client row.asked d → (v : Verdict) → IsBoth row v → Stays v
    verdict_stays agree (Tells effects) both = inl (domain, at)
    verdict_stays agree (Takes invoke asked) both = inl (by_test (is_served t row invoke asked) refl)
      where
        by_test : (b : Bool) → is_served t row invoke asked ≡ b → IsNamed name (if b then (effect t row invoke asked).tables else t).domains.domains
        by_test true done = request_stays invoke asked (none_refused (size_of row.association) invoke (cause t row asked) (effect t row invoke asked).answer done)
        by_test false done = (domain, at)
    verdict_stays agree (Replies number from) both = reply_stays agree number from both.1
    verdict_stays agree (Exhausts invoke) both = gone_stays (Exhausts invoke) tt refl
    verdict_stays agree Concludes both = gone_stays Concludes tt refl
    verdict_stays agree (Cancels invoke) both = inl (by_waiting (waiting_of invoke row.waiting))
      where
        by_waiting : (o : Option Waiting) → IsNamed name (tables_cancelled o t).domains.domains
        by_waiting None = (domain, at)
        by_waiting (Some waits) = (domain, at)
    verdict_stays agree Aborts both = gone_stays Aborts tt refl

  -- ---- each event

  module _ (count : ℕ) (s : State) (sound : IsSound count s) (at : named name s.domains.domains ≡ Some domain) where
    abbrev t : Tables
    t = cell.tables_of s

    -- as it follows from the row of the client
    abbrev HeardStays : ℕ → List ℕ → ClientRow → Type 0
    HeardStays from octets row =
        IsNamed name (tables_heard t row (resolved t row (verdict row octets))).domains.domains
        ⊎ (((answer : Reply) × (load_heard t row (resolved t row (verdict row octets)) ≡ Some (Answers client answer)) × (domain_of answer ≡ name)
        × (breaks_off answer s.domains.domains ≡ true))
        ⊎ ((from ≡ client) × EndsIt (resolved t row (verdict row octets))))

    absent_stays : (heard : Result Pdu Refusal) → IsNamed name (tables_heard t no_client (resolved t no_client (idle_verdict heard))).domains.domains
    absent_stays heard =
        let told = told_idle heard in
        subst (λ (v : Verdict). IsNamed name (tables_heard t no_client (resolved t no_client v)).domains.domains) (sym told.1) (domain, at)

    heard_stays : (from : ℕ) (octets : List ℕ) → HeardStays from octets (row_at cell from s.clients)
    heard_stays zero octets = inl (absent_stays (pdu_heard no_client.constants.edition octets))
    heard_stays (suc k) octets = by_row (slice_get s.clients k) refl
      where
        by_row : (o : Option ClientRow) → slice_get s.clients k ≡ o → HeardStays (suc k) octets (unwrap_or o no_client)
        by_row None none = inl (absent_stays (pdu_heard no_client.constants.edition octets))
        by_row (Some row) here = by_stays (verdict_stays t row sound.names at agree (resolved t row (verdict row octets)) (resolved_both row t octets))
          where
            number : row.client ≡ suc k
            number = let number = (sound.rows k row here).number in omega (arith, number)

            agree : AreLoads row.client row.asked s.domains.domains
            agree =
                let same : k + 1 ≡ row.client = omega (arith, number) in
                subst (λ (c : ℕ). AreLoads c row.asked s.domains.domains) same (sound.loads k row here)

            by_stays : Stays t row sound.names at (resolved t row (verdict row octets)) → HeardStays (suc k) octets row
            by_stays (inl stays) = inl stays
            by_stays (inr (inl breaks)) = inr (inl breaks)
            by_stays (inr (inr ends)) = inr (inr (sym number ∙ ends.0, ends.1))

    -- the client is lost that is heard no more
    abbrev LostStays : ℕ → ClientRow → Type 0
    LostStays from row =
        IsNamed name (tables_lost row.association row.client t).domains.domains ⊎ ((from ≡ client) × (values : Negotiated) × (row.association ≡ Open values))

    gone_so : (from : ℕ) → LostStays from (row_at cell from s.clients)
    gone_so zero = inl (domain, at)
    gone_so (suc k) = by_row (slice_get s.clients k) refl
      where
        by_row : (o : Option ClientRow) → slice_get s.clients k ≡ o → LostStays (suc k) (unwrap_or o no_client)
        by_row None none = inl (domain, at)
        by_row (Some row) here = by_association row.association refl
          where
            number : suc k ≡ row.client
            number = let number = (sound.rows k row here).number in omega (arith, number)

            by_lost : (values : Negotiated) → row.association ≡ Open values → (named name (without_loads row.client s.domains.domains) ≡ Some domain) ⊎ (row.client ≡ client)
                → LostStays (suc k) row
            by_lost values is (inl stays) =
                inl (domain, ap (λ (a : Association). named name (tables_lost a row.client t).domains.domains) is ∙ stays)
            by_lost values is (inr same) = inr (number ∙ same, values, is)

            by_association : (a : Association) → row.association ≡ a → LostStays (suc k) row
            by_association Idle is = inl (domain, ap (λ (a : Association). named name (tables_lost a row.client t).domains.domains) is ∙ at)
            by_association (Open values) is = by_lost values is (lost_or row.client s.domains.domains sound.names at)

    -- time goes by
    aborted_or : (clients : List ℕ) (tables : DomainTables) → HaveNames tables.domains → named name tables.domains ≡ Some domain
        → IsNamed name (domains_without clients tables).domains ⊎ Contains clients client
    aborted_or [] tables names here = inl (domain, here)
    aborted_or (c ∷ clients) tables names here =
        by_lost (λ still. aborted_or clients (domains.lost c tables) (lost_names c tables.domains names) still) (lost_or c tables.domains names here)
      where
        later : IsNamed name (domains_without clients (domains.lost c tables)).domains ⊎ Contains clients client
            → IsNamed name (domains_without clients (domains.lost c tables)).domains ⊎ Contains (c ∷ clients) client
        later (inl stays) = inl stays
        later (inr (k, low, same)) = inr (suc k, omega (arith, low), same)

        by_lost : (named name (without_loads c tables.domains) ≡ Some domain
            → IsNamed name (domains_without clients (domains.lost c tables)).domains ⊎ Contains clients client)
            → (named name (without_loads c tables.domains) ≡ Some domain) ⊎ (c ≡ client)
            → IsNamed name (domains_without clients (domains.lost c tables)).domains ⊎ Contains (c ∷ clients) client
        by_lost rest (inl still) = later (rest still)
        by_lost rest (inr same) = inr (zero, omega arith, same)

    stays_or : (event : CellEvent) → IsNamed name (step s event).domains.domains ⊎ EndsLoad name client s event
    stays_or (Heard from octets) = by_heard (heard_stays from octets)
      where
        by_heard : HeardStays from octets (row_at cell from s.clients) → IsNamed name (step s (Heard from octets)).domains.domains ⊎ EndsLoad name client s (Heard from octets)
        by_heard (inl stays) = inl stays
        by_heard (inr (inl breaks)) = inr (inl (record { answer = breaks.0; answers = breaks.1; its = breaks.2; breaks = breaks.3 }))
        by_heard (inr (inr ends)) = inr (inr (inl ends))
    stays_or (Lost from) = by_gone (gone_so from)
      where
        by_gone : LostStays from (row_at cell from s.clients) → IsNamed name (step s (Lost from)).domains.domains ⊎ EndsLoad name client s (Lost from)
        by_gone (inl stays) = inl stays
        by_gone (inr ends) = inr (inr (inl ends))
    stays_or (Tick ms) = by_aborted (aborted_or (lost_in (meanwhile ms t).happened) s.domains sound.names at)
      where
        by_aborted : IsNamed name (domains_without (lost_in (meanwhile ms t).happened) s.domains).domains ⊎ Contains (lost_in (meanwhile ms t).happened) client
            → IsNamed name (step s (Tick ms)).domains.domains ⊎ EndsLoad name client s (Tick ms)
        by_aborted (inl stays) = inl stays
        by_aborted (inr among) = inr (inr (inr (record { ms = ms; passes = refl; among = among })))
    stays_or (Ends program) = inl (domain, at)
    stays_or (Drain from) = inl (domain, at)

-- the client that loads a domain
loader_of : (client : ℕ) (domain : Domain) → is_loaded_by client domain ≡ true → domain.loader ≡ Some client
loader_of client domain loads = by_loader domain.loader loads
  where
    by_loader : (o : Option ℕ) → option_map_or (λ l. l == client) o false ≡ true → o ≡ Some client
    by_loader None e = absurd (cc e)
    by_loader (Some l) e = ap (λ (c : ℕ). Some c) (nat-same l client e)

pub replay_stays : (config : Config) (history : List CellEvent) (event : CellEvent) (client : ℕ) (name : List ℕ) → IsConfig config
    → is_there (is_loaded_by client) name (replay config history).domains.domains ≡ true
    → ((after : Domain) × (named name (step (replay config history) event).domains.domains ≡ Some after)) ⊎ EndsLoad name client (replay config history) event
replay_stays config history event client name is loads =
    let it = there (is_loaded_by client) (named name (replay config history).domains.domains) loads in
    stays_or name it.0 client (loader_of client it.0 it.2) (length history) (replay config history) (replay_sound config history is) it.1 event
