-- A domain that isn't LOADING has the segments that it had, as long as it is there.
use Rattle.std.specs.Prelude.{Result, unwrap_or, slice_get}
use Rattle.std.proofs.Common.{◌≡◌, ℕ, zero, suc, ◌+◌, ◌==◌, arith, Bool, true, false, List, [], ◌∷◌, ◌++◌, Option, None, Some, is_some, cond, if◌then◌else◌, refl, sym, ◌∙◌, ap, subst}
use Rattle.std.specs.Map.{lookup}
use Rattle.std.specs.Option.{option_map_or}
use Rattle.mms_types.specs.declared.asked.Asked.{Asked}
use Rattle.mms_types.specs.declared.asked.Reply.{Reply}
use Rattle.mms_types.specs.declared.event.CellEvent.{CellEvent}
use Rattle.mms_types.specs.declared.event.CellEvent.TheVariants.{Heard, Lost, Tick, Ends, Drain}
use Rattle.mms_types.specs.declared.pdu.Pdu.{Pdu}
use Rattle.mms_types.specs.declared.pdu.Request.{Request}
use Rattle.mms_types.specs.declared.pdu.Request.TheVariants as request
use Rattle.association.specs.Asked.{asked_of}
use Rattle.association.specs.Client.{ClientRow}
use Rattle.association.specs.declared.negotiation.Association.{Association}
use Rattle.association.specs.declared.negotiation.Association.TheVariants.{Idle, Open}
use Rattle.association.specs.declared.waiting.Waiting.{Waiting}
use Rattle.mms_pdu.specs.Heard.{pdu_heard}
use Rattle.mms_pdu.specs.declared.refusal.Refusal.{Refusal}
use Rattle.mms_time.specs.Services.{take_told}
use Rattle.mms_time.specs.declared.taking.TakeDone.{TakeDone}
use Rattle.mms_time.specs.declared.taking.TakeDone.TheVariants as taken
use Rattle.sem_ticks.specs.Granted.{relinquish_granted}
use Rattle.sem_ticks.specs.declared.granted.Granted.{Granted}
use Rattle.domain_load.specs.Domains.{Rows, name_eq, named, without, without_loads}
use Rattle.domain_load.specs.Loading.{answers_load, changed, domain_of, reply_after}
use Rattle.domain_load.specs.Standing.{is_loaded_by, is_loading}
use Rattle.domain_load.specs.Used.{after_unused, after_used, had_by, left_by}
use Rattle.domain_load.specs.declared.domain.Domain.{Domain}
use Rattle.domain_load.proofs.Outcomes.{gone, gone_others, lost_others, reply_others, there}
use Rattle.program_inv.specs.Programs as program
use Rattle.program_inv.specs.declared.invocation.Invocation.{Invocation}
use Rattle.parted_state.specs.Served.{row_at}
use Rattle.cell_client.specs.Areas.{OutcomeIn}
use Rattle.cell_client.specs.Association.{Came, Verdict, Tells, Takes, Replies, Exhausts, Concludes, Cancels, Aborts, idle_verdict, verdict}
use Rattle.cell_client.specs.Requests.{is_done, size_of}
use Rattle.serve_domains.proofs.Answered.{loads_it, told_idle}
use Rattle.serve_domains.specs.Domains.{replied_to, reply_of}
use Rattle.serve_domains.specs.Loads.{AreLoads}
use Rattle.serve_domains.specs.Tables.{DomainTables}
use Rattle.serve_domains.specs.Tables as domains
use Rattle.serve_programs.specs.Programs.{with_domains}
use Rattle.cell_services.specs.Requests.{among}
use Rattle.cell_services.specs.Services.{cause, effect, effect_of, reply_in, relinquish_outcome, take_outcome}
use Rattle.cell_services.specs.Serving.{domains_without, is_served, is_served_in, lost_in, meanwhile, resolved, tables_cancelled, tables_heard, tables_lost, tables_served, waiting_of}
use Rattle.cell_services.specs.Tables.{Tables, own_domains}
use Rattle.step_sound.proofs.DomainNames.{HaveNames, lost_names}
use Rattle.step_parts.specs.Partition.{cell, no_client}
use Rattle.step_parts.specs.State.{IsSound, State}
use Rattle.step_parts.specs.Step.{step}
use Rattle.cell_laws.proofs.LoadMeant.{IsBoth, IsReply, of_load, resolved_both}
use Rattle.cell_laws.proofs.LoadTold.{names_same}
use Rattle.cell_laws.proofs.LoadUsers.{found_users}

module _ (name : List ℕ) (domain : Domain) (stands : is_loading domain ≡ false) where
  -- where it is there, it has the same segments
  abbrev Same : Rows → Type 0
  Same rows = (after : Domain) → named name rows ≡ Some after → after.segments ≡ domain.segments

  as_was : (rows : Rows) → named name rows ≡ Some domain → Same rows
  as_was rows at after is = let one : domain ≡ after = cc (sym at ∙ is) in ap (λ (d : Domain). d.segments) (sym one)

  found_behind : (rows more : Rows) → named name rows ≡ Some domain → named name (rows ++ more) ≡ Some domain
  found_behind [] more at = absurd (cc at)
  found_behind (row ∷ rows) more at = by_test (name_eq name row.0) (found_behind rows more) at
    where
      by_test : (b : Bool) → (named name rows ≡ Some domain → named name (rows ++ more) ≡ Some domain) → cond b (Some row.1) (named name rows) ≡ Some domain
          → cond b (Some row.1) (named name (rows ++ more)) ≡ Some domain
      by_test true rest h = h
      by_test false rest h = rest h

  not_its : (client : ℕ) → is_loaded_by client domain ≡ false
  not_its client = by_loader domain.loader stands
    where
      by_loader : (o : Option ℕ) → is_some o ≡ false → option_map_or (λ l. l == client) o false ≡ false
      by_loader None e = refl
      by_loader (Some l) e = absurd (cc e)

  lost_at : (client : ℕ) (rows : Rows) → HaveNames rows → named name rows ≡ Some domain → named name (without_loads client rows) ≡ Some domain
  lost_at client rows names at = lost_others client name rows domain names at (not_its client)

  all_at : (clients : List ℕ) (d : DomainTables) → HaveNames d.domains → named name d.domains ≡ Some domain → named name (domains_without clients d).domains ≡ Some domain
  all_at [] d names at = at
  all_at (c ∷ clients) d names at = all_at clients (domains.lost c d) (lost_names c d.domains names) (lost_at c d.domains names at)

  used_same : (names : List (List ℕ)) (by : List ℕ) (rows : Rows) (was : Domain) → named name rows ≡ Some was → was.segments ≡ domain.segments → Same (after_used names by rows)
  used_same [] by rows was at same = λ after is. let one : was ≡ after = cc (sym at ∙ is) in ap (λ (d : Domain). d.segments) (sym one) ∙ same
  used_same (own ∷ names) by rows was at same =
      let s = found_users own (had_by by) (λ x. refl) rows name was at in used_same names by (changed own (had_by by) rows) (record was { invocations = s.0 }) s.1 same

  unused_same : (names : List (List ℕ)) (by : List ℕ) (rows : Rows) (was : Domain) → named name rows ≡ Some was → was.segments ≡ domain.segments → Same (after_unused names by rows)
  unused_same [] by rows was at same = λ after is. let one : was ≡ after = cc (sym at ∙ is) in ap (λ (d : Domain). d.segments) (sym one) ∙ same
  unused_same (own ∷ names) by rows was at same =
      let s = found_users own (left_by by) (λ x. refl) rows name was at in unused_same names by (changed own (left_by by) rows) (record was { invocations = s.0 }) s.1 same

  module _ (t : Tables) (row : ClientRow) (names : HaveNames t.domains.domains) (at : named name t.domains.domains ≡ Some domain) where
    abbrev d : Rows
    d = t.domains.domains

    deleted_same : (own : List ℕ) → Same (without own d)
    deleted_same own after is = by_test (name_eq own name) refl
      where
        by_test : (b : Bool) → name_eq own name ≡ b → after.segments ≡ domain.segments
        by_test true e = absurd (cc (sym (gone own d names) ∙ ap (λ (n : List ℕ). named n (without own d)) (names_same own name e) ∙ is))
        by_test false e = as_was (without own d) (gone_others own name d names e ∙ at) after is

    asked_same : (invoke : ℕ) (asked : Request) → Same (effect t row invoke asked).tables.domains.domains
    asked_same invoke (request.InitiateDownloadSequence x) = as_was _ (found_behind d (_ ∷ []) at)
    asked_same invoke (request.DeleteDomain own) = deleted_same own
    asked_same invoke (request.TakeControl x) = by_done (take_told row.client x t.semaphores)
      where
        by_done : (o : Option TakeDone) → Same (take_outcome t row.client invoke x o).tables.domains.domains
        by_done None = as_was d at
        by_done (Some (taken.Answered told)) = as_was d at
        by_done (Some (taken.Waits waits)) = as_was d at
    asked_same invoke (request.RelinquishControl x) = by_grant (relinquish_granted row.client x t.semaphores)
      where
        by_grant : (o : Option (Option Granted)) → Same (relinquish_outcome t row.client x o).tables.domains.domains
        by_grant None = as_was d at
        by_grant (Some grant) = as_was d at
    asked_same invoke (request.CreateProgramInvocation x) = used_same x.domains x.name d domain at refl
    asked_same invoke (request.DeleteProgramInvocation own) = by_found (program.named own t.programs)
      where
        by_found : (o : Option Invocation) → Same (option_map_or (λ p. with_domains (after_unused p.domains own t.domains.domains) t.domains) o t.domains).domains
        by_found None = as_was d at
        by_found (Some p) = unused_same p.domains own d domain at refl
    asked_same invoke asked = as_was d at

    replied_same : AreLoads row.client row.asked d → (number : ℕ) (from : Came) → IsReply row.asked number from
        → Same (tables_served t row number (reply_in number from)).domains.domains
    replied_same agree number from reply = subst By (sym reply.asked) (as_was (reply_after answer d) (reply_others row.client answer d name names loads_own apart ∙ at))
      where
        answer : Reply
        answer = reply_of from (reply.kind, reply.name)

        loads_own : answers_load row.client answer d ≡ true
        loads_own = loads_it t.domains row.client number row.asked from (of_load row.asked number from reply) agree

        outcome : Option (Asked × List ℕ) → OutcomeIn Tables
        outcome o = among own_domains t (replied_to row.client number from o t.domains)

        By : Option (Asked × List ℕ) → Type 0
        By o = Same (if is_done (size_of row.association) number None (outcome o).answer then (outcome o).tables else t).domains.domains

        apart : name_eq (domain_of answer) name ≡ false
        apart = by_test (name_eq (domain_of answer) name) refl
          where
            by_test : (b : Bool) → name_eq (domain_of answer) name ≡ b → b ≡ false
            by_test false e = refl
            by_test true e =
                let it = there (is_loaded_by row.client) (named (domain_of answer) d) loads_own in
                let one : it.0 ≡ domain = cc (sym it.1 ∙ ap (λ (n : List ℕ). named n d) (names_same (domain_of answer) name e) ∙ at) in
                absurd (cc (sym (ap (is_loaded_by row.client) one ∙ not_its row.client) ∙ it.2))

    verdict_same : AreLoads row.client row.asked d → (v : Verdict) → IsBoth row v → Same (tables_heard t row v).domains.domains
    verdict_same agree (Tells effects) both_said = as_was d at
    verdict_same agree (Takes invoke asked) both_said = by_test (is_served t row invoke asked)
      where
        by_test : (b : Bool) → Same (if b then (effect t row invoke asked).tables else t).domains.domains
        by_test true = asked_same invoke asked
        by_test false = as_was d at
    verdict_same agree (Replies number from) both_said = replied_same agree number from both_said.1
    verdict_same agree (Exhausts invoke) both_said = as_was _ (lost_at row.client d names at)
    verdict_same agree Concludes both_said = as_was _ (lost_at row.client d names at)
    verdict_same agree (Cancels invoke) both_said = by_waiting (waiting_of invoke row.waiting)
      where
        by_waiting : (o : Option Waiting) → Same (tables_cancelled o t).domains.domains
        by_waiting None = as_was d at
        by_waiting (Some waits) = as_was d at
    verdict_same agree Aborts both_said = as_was _ (lost_at row.client d names at)

    left_same : (a : Association) → Same (tables_lost a row.client t).domains.domains
    left_same Idle = as_was d at
    left_same (Open values) = as_was _ (lost_at row.client d names at)

  -- ---- each event

  module _ (count : ℕ) (s : State) (sound : IsSound count s) (at : named name s.domains.domains ≡ Some domain) where
    abbrev t : Tables
    t = cell.tables_of s

    -- as it follows from the row of the client
    abbrev HeardSame : ℕ → List ℕ → ClientRow → Type 0
    HeardSame from octets row = Same (tables_heard t row (resolved t row (verdict row octets))).domains.domains

    absent_same : (heard : Result Pdu Refusal) → Same (tables_heard t no_client (resolved t no_client (idle_verdict heard))).domains.domains
    absent_same heard =
        let told = told_idle heard in
        subst (λ (v : Verdict). Same (tables_heard t no_client (resolved t no_client v)).domains.domains) (sym told.1) (as_was s.domains.domains at)

    heard_same : (from : ℕ) (octets : List ℕ) → HeardSame from octets (row_at cell from s.clients)
    heard_same zero octets = absent_same (pdu_heard no_client.constants.edition octets)
    heard_same (suc k) octets = by_row (slice_get s.clients k) refl
      where
        by_row : (o : Option ClientRow) → slice_get s.clients k ≡ o → HeardSame (suc k) octets (unwrap_or o no_client)
        by_row None none = absent_same (pdu_heard no_client.constants.edition octets)
        by_row (Some row) here = verdict_same t row sound.names at agree (resolved t row (verdict row octets)) (resolved_both row t octets)
          where
            agree : AreLoads row.client row.asked s.domains.domains
            agree =
                let number = (sound.rows k row here).number in
                let same : k + 1 ≡ row.client = omega (arith, number) in
                subst (λ (c : ℕ). AreLoads c row.asked s.domains.domains) same (sound.loads k row here)

    event_same : (event : CellEvent) → Same (step s event).domains.domains
    event_same (Heard from octets) = heard_same from octets
    event_same (Lost from) = left_same t (row_at cell from s.clients) sound.names at (row_at cell from s.clients).association
    event_same (Tick ms) = as_was _ (all_at (lost_in (meanwhile ms t).happened) s.domains sound.names at)
    event_same (Ends program) = as_was s.domains.domains at
    event_same (Drain from) = as_was s.domains.domains at

pub segments_stay : (count : ℕ) (s : State) (event : CellEvent) → IsSound count s → (name : List ℕ) (domain after : Domain) → named name s.domains.domains ≡ Some domain
    → is_loading domain ≡ false → named name (step s event).domains.domains ≡ Some after → after.segments ≡ domain.segments
segments_stay count s event sound name domain after at stands is = event_same name domain stands count s sound at event after is
