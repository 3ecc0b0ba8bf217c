-- A request that is served on the table of its area and the row of its client is what it does among all tables.
use Rattle.std.specs.Prelude.{◌≡◌, ℕ, Bool, true, false, ◌||◌, Option, None, Some, is_some, List, ◌++◌, ◌∷◌, [], Err, if◌then◌else◌, refl}
use Rattle.std.proofs.Common.{ap, ap₂, sym, ◌∙◌, subst}
use Rattle.std.specs.List.{list_any}
use Rattle.mms_types.specs.Areas.{domain_request, event_request, invocation_request, journal_request, program_request, semaphore_request, variable_request}
use Rattle.mms_types.specs.declared.area.DomainRequest.{DomainRequest}
use Rattle.mms_types.specs.declared.area.EventRequest.{EventRequest}
use Rattle.mms_types.specs.declared.area.EventRequest.TheVariants as events
use Rattle.mms_types.specs.declared.area.InvocationRequest.{InvocationRequest}
use Rattle.mms_types.specs.declared.area.JournalRequest.{JournalRequest}
use Rattle.mms_types.specs.declared.area.JournalRequest.TheVariants as journals
use Rattle.mms_types.specs.declared.area.ProgramRequest.{ProgramRequest}
use Rattle.mms_types.specs.declared.area.SemaphoreRequest.{SemaphoreRequest}
use Rattle.mms_types.specs.declared.area.SemaphoreRequest.TheVariants as semaphores
use Rattle.mms_types.specs.declared.area.VariableRequest.{VariableRequest}
use Rattle.mms_types.specs.declared.area.VariableRequest.TheVariants as variables
use Rattle.mms_types.specs.declared.condition.CellFact.{CellFact}
use Rattle.mms_types.specs.declared.moment.Moment.{Moment}
use Rattle.mms_types.specs.declared.name_list.GetNameList.{GetNameList}
use Rattle.mms_types.specs.declared.name_list.ObjectScope.{ObjectScope}
use Rattle.mms_types.specs.declared.name_list.ObjectScope.TheVariants as scope
use Rattle.mms_types.specs.declared.object_name.ObjectName.{ObjectName}
use Rattle.mms_types.specs.declared.object_name.ObjectName.TheVariants as name
use Rattle.mms_types.specs.declared.pdu.Answer.{Answer}
use Rattle.mms_types.specs.declared.pdu.Answer.TheVariants as answer
use Rattle.mms_types.specs.declared.pdu.Request.{Request}
use Rattle.mms_types.specs.declared.pdu.Request.TheVariants as request
use Rattle.association.specs.Client.{ClientRow, Client as RoomyRow}
use Rattle.parted_state.specs.Area.{Own, facts_told, no_table}
use Rattle.parted_state.specs.Served.{Done}
use Rattle.variable_services.specs.declared.tables.VariableTables.{VariableTables}
use Rattle.mms_time.specs.Guards.{owns_guard}
use Rattle.mms_time.specs.Semaphores.{Rows}
use Rattle.variables.specs.Access.{flags_of}
use Rattle.cell_client.specs.Areas.{RequestIn, IsServedIn, IsToldIn, also_in, domain_in, is_done_in, is_of_domain, lacks_number_in, own_told_in}
use Rattle.association.specs.declared.waiting.Waiting.{Waiting}
use Rattle.cell_client.specs.Association.{Aborts, Came, Cancels, Exhausts, Replies, Takes, cancel_told}
use Rattle.cell_client.specs.Effects.{Effect, felt_all, settled, tell}
use Rattle.cell_client.specs.Facts.{Facts, Question, Truth, no_facts}
use Rattle.cell_client.specs.Telling.{effects_told}
use Rattle.cell_client.specs.declared.told.ClientTold.{ClientTold}
use Rattle.mms_types.specs.declared.service_error.ServiceError.{ServiceError}
use Rattle.serve_domains.specs.Domains as domain
use Rattle.serve_domains.specs.Tables.{DomainTables}
use Rattle.program_inv.specs.Programs.{Rows as Programs}
use Rattle.serve_programs.specs.Programs as program
use Rattle.serve_events.specs.Events as event
use Rattle.serve_events.specs.declared.tables.EventTables.{EventTables}
use Rattle.mms_journal.specs.Journals.{Rows as Journals}
use Rattle.serve_journals.specs.Journals as journal
use Rattle.serve_semaphores.specs.Tokens.{rows_cancelled, waiting_of}
use Rattle.serve_variables.specs.Variables as variable
use Rattle.serve_variables.specs.Variables.{accesses_domain, guards_asked, lists_domain, specifies_domain}
use Rattle.serve_semaphores.specs.Semaphores as semaphore
use Rattle.cell_services.specs.Acts.{all_done, IsDoneIn}
use Rattle.cell_services.specs.Device.{domain_of, get_name_list, is_domain, listed, scope_cause, scope_of}
use Rattle.cell_services.specs.Facts.{is_domain_live, is_true, names_in, tells}
use Rattle.cell_services.proofs.AreaTableLaws.{in_domains, in_events, in_invocations, in_journals, in_programs, in_semaphores, in_variables}
use Rattle.cell_services.proofs.PlanLaws.{append_none}
use Rattle.cell_services.proofs.TimeLaws.{moment_given}
use Rattle.cell_services.specs.Requests.{told_in}
use Rattle.cell_services.specs.Services.{InArea, OfDomains, OfEvents, OfInvocations, OfJournals, OfPrograms, OfSemaphores, OfVariables, area_of, lacks_number}
use Rattle.cell_services.specs.Serving.{also_served, comes_of, hears, served_told, tables_cancelled, tables_served}
use Rattle.cell_services.specs.Tables.{Tables, moment_of, own_domains, own_events, own_invocations, own_journals, own_programs, own_semaphores, own_variables}
use Rattle.cell_client.specs.Requests.{is_done, request_told, size_of}

-- what a request of an area does among all tables
abbrev heard_in : Tables → ClientRow → ℕ → InArea → Done Tables Effect
heard_in t row invoke a = record {
  tables = tables_served t row invoke a;
  told = tell row.client (served_told t row invoke a) ++ also_served t row invoke a;
}

module _ {A : Type 0} (own : Own Tables A) (stays : (t : Tables) → own.put (own.of t) t ≡ t) (r : RequestIn A) (t : Tables) (row : ClientRow) (invoke : ℕ) where
  abbrev facts : Facts
  facts = told_in own t row r

  abbrev at : Tables → List (ℕ × Effect) → Done Tables Effect
  at u told = record { tables = u; told = told }

  -- its table is put among the others, and so much is told to whom
  placed : (now : A) (told : List (ℕ × Effect)) → IsToldIn r facts invoke row (own.of t) now told
      → at (if is_done_in r facts row invoke (own.of t) then own.put (r.effect facts (own.of t) row invoke).tables t else t)
      (tell row.client (own_told_in r facts row invoke (own.of t)) ++ also_in r facts row invoke (own.of t))
      ≡ at (own.put now t) told
  placed now told is = ap₂ at (by_test (is_done_in r facts row invoke (own.of t)) ∙ ap (λ (a : A). own.put a t) (sym is.table)) (sym is.is)
    where
      by_test : (b : Bool) → (if b then own.put (r.effect facts (own.of t) row invoke).tables t else t)
          ≡ own.put (if b then (r.effect facts (own.of t) row invoke).tables else own.of t) t
      by_test true = refl
      by_test false = sym (stays t)

  -- where its client alone is told something
  in_place : (now : A) (new : RoomyRow) (is : IsServedIn r facts invoke row (own.of t) now new)
      → at (if is_done_in r facts row invoke (own.of t) then own.put (r.effect facts (own.of t) row invoke).tables t else t)
      (tell row.client (own_told_in r facts row invoke (own.of t)) ++ also_in r facts row invoke (own.of t))
      ≡ at (own.put now t) (tell row.client is.effects)
  in_place now new is = placed now (tell row.client is.effects) (record { is = sym is.told; table = is.table })

-- ---- each area

-- what a request is heard as, by its area
heard_as : (t : Tables) (row : ClientRow) (invoke : ℕ) (asked : Request) (a : InArea) → area_of asked ≡ a → lacks_number t row invoke a ≡ false
    → hears t row row.client (Takes invoke asked) ≡ heard_in t row invoke a
heard_as t row invoke asked a is numbered =
    ap (λ (b : Bool). comes_of t row row.client (if b then Exhausts invoke else Takes invoke asked)) (ap (lacks_number t row invoke) is ∙ numbered)
    ∙ ap (heard_in t row invoke) is

-- whether a domain is live is told by the domains, and where none has to be, none is; who owns guards is told by the semaphores
none_live : (b : Bool) → (if b then false else false) ≡ false
none_live true = refl
none_live false = refl

named_live : (n : ObjectName) (b : Bool) (d : DomainTables) → (if is_of_domain n || b then is_domain_live (domain_in n) d else false) ≡ is_domain_live (domain_in n) d
named_live (name.Domain domain item) b d = refl
named_live (name.Vmd item) b d = none_live b
named_live (name.Association item) b d = none_live b

one_live : (n : ObjectName) (d : DomainTables) → (if is_of_domain n then is_domain_live (domain_in n) d else false) ≡ is_domain_live (domain_in n) d
one_live (name.Domain domain item) d = refl
one_live (name.Vmd item) d = refl
one_live (name.Association item) d = refl

deleted_live : (o : Option (List ℕ)) (b : Bool) (d : DomainTables) → (if is_some o || b then is_domain_live o d else false) ≡ is_domain_live o d
deleted_live None b d = none_live b
deleted_live (Some domain) b d = refl

variables_live : (x : VariableRequest) (t : Tables) (row : ClientRow)
    → (told_in own_variables t row (variable.request_in x)).live ≡ is_domain_live (variable.domain_asked x) t.domains
variables_live (variables.Read x) t row = none_live (accesses_domain x.now.access)
variables_live (variables.Write x) t row = none_live (accesses_domain x.now.access)
variables_live (variables.GetVariableAccessAttributes x) t row = none_live (specifies_domain x.now)
variables_live (variables.DefineNamedVariable x) t row = one_live x.now.name t.domains
variables_live (variables.DeleteVariableAccess x) t row = deleted_live x.now.domain (lists_domain x.now.names) t.domains
variables_live (variables.DefineNamedVariableList x) t row = named_live x.now.name (list_any specifies_domain x.now.variables) t.domains
variables_live (variables.GetNamedVariableListAttributes x) t row = none_live (is_of_domain x.now)
variables_live (variables.DeleteNamedVariableList x) t row = deleted_live x.now.domain (lists_domain x.now.names) t.domains

variables_owned : (x : VariableRequest) (t : Tables) (row : ClientRow)
    → (told_in own_variables t row (variable.request_in x)).owned ≡ flags_of (λ guard. owns_guard row.client guard t.semaphores) (guards_asked x row.client t.variables)
variables_owned (variables.Write x) t row = refl
variables_owned other t row = refl

module _ (x : VariableRequest) (t : Tables) (row : ClientRow) (invoke : ℕ) where
  variables_done : (now : VariableTables) (new : RoomyRow) → IsServedIn (variable.request_in x) (told_in own_variables t row (variable.request_in x)) invoke row t.variables now new
      → IsDoneIn own_variables t row now new (Takes invoke (variable_request x))
  variables_done now new is = record {
    effects = is.effects;
    is = is.is;
    done = heard_as t row invoke (variable_request x) (OfVariables (variable.request_in x)) (in_variables x) refl
        ∙ in_place own_variables (λ u. refl) (variable.request_in x) t row invoke now new is;
  }

  pub variables_served : (was now : VariableTables) (rows : Rows) (live : Bool) (new : RoomyRow)
      → ((facts : Facts) → facts.live ≡ live → facts.owned ≡ flags_of (λ guard. owns_guard row.client guard rows) (guards_asked x row.client was)
      → IsServedIn (variable.request_in x) facts invoke row was now new)
      → t.variables ≡ was → t.semaphores ≡ rows → live ≡ is_domain_live (variable.domain_asked x) t.domains
      → IsDoneIn own_variables t row now new (Takes invoke (variable_request x))
  variables_served was now rows live new served stood beside domains =
      variables_done now new
      (subst (λ (v : VariableTables). (facts : Facts) → facts.live ≡ live → facts.owned ≡ flags_of (λ guard. owns_guard row.client guard rows) (guards_asked x row.client v)
      → IsServedIn (variable.request_in x) facts invoke row v now new)
      (sym stood) served (told_in own_variables t row (variable.request_in x)) (variables_live x t row ∙ sym domains)
      (variables_owned x t row
      ∙ ap (λ (r : Rows). flags_of (λ guard. owns_guard row.client guard r) (guards_asked x row.client t.variables)) beside))

-- at the moment of the device
semaphores_now : (x : SemaphoreRequest) (t : Tables) (row : ClientRow) → (told_in own_semaphores t row (semaphore.request_in x)).now ≡ moment_of t
semaphores_now (semaphores.TakeControl x) t row = refl
semaphores_now other t row = refl

semaphores_live : (x : SemaphoreRequest) (t : Tables) (row : ClientRow)
    → (told_in own_semaphores t row (semaphore.request_in x)).live ≡ is_domain_live (semaphore.domain_asked x) t.domains
semaphores_live (semaphores.TakeControl x) t row = none_live (is_of_domain x.now.name)
semaphores_live (semaphores.RelinquishControl x) t row = none_live (is_of_domain x.now.name)
semaphores_live (semaphores.DefineSemaphore x) t row = one_live x.now.name t.domains
semaphores_live (semaphores.DeleteSemaphore x) t row = none_live (is_of_domain x.now)
semaphores_live (semaphores.ReportSemaphoreStatus x) t row = none_live (is_of_domain x.now)
semaphores_live (semaphores.ReportPoolSemaphoreStatus x) t row = none_live (is_of_domain x.now.name)
semaphores_live (semaphores.ReportSemaphoreEntryStatus x) t row = none_live (is_of_domain x.now.name)

module _ (x : SemaphoreRequest) (row : ClientRow) (invoke : ℕ) (moment : Moment) (live : Bool) (was : Rows) where
  -- whether the domain is live that has to be
  abbrev Lives : Tables → Type 0
  Lives t = live ≡ is_domain_live (semaphore.domain_asked x) t.domains

  abbrev its : Tables → Facts
  its t = told_in own_semaphores t row (semaphore.request_in x)

  its_now : (t : Tables) → t.now ≡ moment.0 → (its t).now ≡ moment
  its_now t at = semaphores_now x t row ∙ sym (moment_given t moment (sym at))

  pub semaphores_served : (t : Tables) (now : Rows) (new : RoomyRow)
      → ((facts : Facts) → facts.now ≡ moment → facts.live ≡ live → IsServedIn (semaphore.request_in x) facts invoke row was now new)
      → t.semaphores ≡ was → t.now ≡ moment.0 → Lives t → IsDoneIn own_semaphores t row now new (Takes invoke (semaphore_request x))
  semaphores_served t now new served stood at lives =
      let is : IsServedIn (semaphore.request_in x) (its t) invoke row t.semaphores now new =
      subst (λ (rows : Rows). IsServedIn (semaphore.request_in x) (its t) invoke row rows now new) (sym stood) (served (its t) (its_now t at) (semaphores_live x t row ∙ sym lives)) in
      record {
        effects = is.effects;
        is = is.is;
        done = heard_as t row invoke (semaphore_request x) (OfSemaphores (semaphore.request_in x)) (in_semaphores x) refl
            ∙ in_place own_semaphores (λ u. refl) (semaphore.request_in x) t row invoke now new is;
      }

  pub semaphores_told : (t : Tables) (now : Rows) (told : List (ℕ × ClientTold))
      → ((facts : Facts) → facts.now ≡ moment → IsToldIn (semaphore.request_in x) facts invoke row was now (effects_told told))
      → t.semaphores ≡ was → t.now ≡ moment.0 → hears t row row.client (Takes invoke (semaphore_request x)) ≡ all_done (own_semaphores.put now t) told
  semaphores_told t now told left stood at =
      heard_as t row invoke (semaphore_request x) (OfSemaphores (semaphore.request_in x)) (in_semaphores x) refl
      ∙ placed own_semaphores (λ u. refl) (semaphore.request_in x) t row invoke now (effects_told told)
      (subst (λ (rows : Rows). IsToldIn (semaphore.request_in x) (its t) invoke row rows now (effects_told told)) (sym stood) (left (its t) (its_now t at)))

pub cancel_done : (t : Tables) (row : ClientRow) (invoke : ℕ) (was now : Rows) (new : RoomyRow) → new ≡ settled (felt_all (cancel_told invoke) row)
    → now ≡ rows_cancelled (waiting_of invoke row.waiting) was → t.semaphores ≡ was → IsDoneIn own_semaphores t row now new (Cancels invoke)
cancel_done t row invoke was now new told done stood = record {
  effects = cancel_told invoke;
  is = told;
  done = ap₂ at tables (append_none (tell row.client (cancel_told invoke)));
}
  where
    at : Tables → List (ℕ × Effect) → Done Tables Effect
    at u l = record { tables = u; told = l }

    by_request : (o : Option Waiting) → tables_cancelled o t ≡ own_semaphores.put (rows_cancelled o t.semaphores) t
    by_request None = refl
    by_request (Some request) = refl

    tables : tables_cancelled (waiting_of invoke row.waiting) t ≡ own_semaphores.put now t
    tables =
        by_request (waiting_of invoke row.waiting)
        ∙ ap (λ (rows : Rows). own_semaphores.put (rows_cancelled (waiting_of invoke row.waiting) rows) t) stood
        ∙ ap (λ (rows : Rows). own_semaphores.put rows t) (sym done)

-- ---- domains, and what clients answer to the server

module _ (t : Tables) (row : ClientRow) where
  abbrev told : RequestIn DomainTables → Facts
  told r = told_in own_domains t row r

  pub domains_served : (x : DomainRequest) (invoke : ℕ) (was now : DomainTables) (scoped : Bool) (new : RoomyRow)
      → ((facts : Facts) → facts.scoped ≡ scoped → IsServedIn (domain.request_in x) facts invoke row was now new)
      → ((facts : Facts) → lacks_number_in (domain.request_in x) facts row invoke was ≡ false)
      → t.domains ≡ was → (told (domain.request_in x)).scoped ≡ scoped → IsDoneIn own_domains t row now new (Takes invoke (domain_request x))
  domains_served x invoke was now scoped new served numbered stood is_scoped =
      let is : IsServedIn (domain.request_in x) (told (domain.request_in x)) invoke row t.domains now new =
      subst (λ (d : DomainTables). IsServedIn (domain.request_in x) (told (domain.request_in x)) invoke row d now new) (sym stood) (served (told (domain.request_in x)) is_scoped) in
      record {
        effects = is.effects;
        is = is.is;
        done = heard_as t row invoke (domain_request x) (OfDomains (domain.request_in x)) (in_domains x)
            (ap (λ (d : DomainTables). lacks_number_in (domain.request_in x) no_facts row invoke d) stood ∙ numbered no_facts)
            ∙ in_place own_domains (λ u. refl) (domain.request_in x) t row invoke now new is;
      }

  pub reply_served : (number : ℕ) (came : Came) (was now : DomainTables) (new : RoomyRow)
      → ((facts : Facts) (invoke : ℕ) → IsServedIn (domain.replied number came) facts invoke row was now new)
      → ((facts : Facts) (invoke : ℕ) → lacks_number_in (domain.replied number came) facts row invoke was ≡ false)
      → t.domains ≡ was → IsDoneIn own_domains t row now new (Replies number came)
  reply_served number came was now new served numbered stood =
      let is : IsServedIn (domain.replied number came) (told (domain.replied number came)) number row t.domains now new =
      subst (λ (d : DomainTables). IsServedIn (domain.replied number came) (told (domain.replied number came)) number row d now new) (sym stood)
      (served (told (domain.replied number came)) number) in
      record {
        effects = is.effects;
        is = is.is;
        done = ap (λ (b : Bool). comes_of t row row.client (if b then Aborts else Replies number came))
            (ap (λ (d : DomainTables). lacks_number_in (domain.replied number came) no_facts row number d) stood ∙ numbered no_facts number)
            ∙ in_place own_domains (λ u. refl) (domain.replied number came) t row number now new is;
      }

-- ---- program invocations

module _ (t : Tables) (row : ClientRow) (invoke : ℕ) (new : RoomyRow) where
  pub programs_made : (x : InvocationRequest) (was now : DomainTables) (before after : Programs)
      → ((facts : Facts) → IsServedIn (program.invocation_in x) facts invoke row (was, before) (now, after) new)
      → t.domains ≡ was → t.programs ≡ before → IsDoneIn own_invocations t row (now, after) new (Takes invoke (invocation_request x))
  programs_made x was now before after served stood beside =
      let is : IsServedIn (program.invocation_in x) (told_in own_invocations t row (program.invocation_in x)) invoke row (t.domains, t.programs) (now, after) new =
      subst (λ (u : DomainTables × Programs). IsServedIn (program.invocation_in x) (told_in own_invocations t row (program.invocation_in x)) invoke row u (now, after) new)
      (ap₂ (λ (d : DomainTables) (p : Programs). (d, p)) (sym stood) (sym beside)) (served (told_in own_invocations t row (program.invocation_in x))) in
      record {
        effects = is.effects;
        is = is.is;
        done = heard_as t row invoke (invocation_request x) (OfInvocations (program.invocation_in x)) (in_invocations x) refl
            ∙ in_place own_invocations (λ u. refl) (program.invocation_in x) t row invoke (now, after) new is;
      }

  pub programs_served : (x : ProgramRequest) (was now : Programs) → ((facts : Facts) → IsServedIn (program.program_in x) facts invoke row was now new)
      → t.programs ≡ was → IsDoneIn own_programs t row now new (Takes invoke (program_request x))
  programs_served x was now served stood =
      let is : IsServedIn (program.program_in x) (told_in own_programs t row (program.program_in x)) invoke row t.programs now new =
      subst (λ (u : Programs). IsServedIn (program.program_in x) (told_in own_programs t row (program.program_in x)) invoke row u now new) (sym stood)
      (served (told_in own_programs t row (program.program_in x))) in
      record {
        effects = is.effects;
        is = is.is;
        done = heard_as t row invoke (program_request x) (OfPrograms (program.program_in x)) (in_programs x) refl
            ∙ in_place own_programs (λ u. refl) (program.program_in x) t row invoke now new is;
      }

-- ---- journals

journals_live : (x : JournalRequest) (t : Tables) (row : ClientRow)
    → (told_in own_journals t row (journal.request_in x)).live ≡ is_domain_live (journal.domain_asked x) t.domains
journals_live (journals.ReadJournal x) t row = none_live (is_of_domain x.now.name)
journals_live (journals.WriteJournal x) t row = none_live (is_of_domain x.now.name)
journals_live (journals.InitializeJournal x) t row = none_live (is_of_domain x.now.name)
journals_live (journals.ReportJournalStatus x) t row = none_live (is_of_domain x.now)
journals_live (journals.CreateJournal x) t row = one_live x.now t.domains
journals_live (journals.DeleteJournal x) t row = none_live (is_of_domain x.now)

pub journals_served : (t : Tables) (row : ClientRow) (invoke : ℕ) (new : RoomyRow) (x : JournalRequest) (live : Bool) (was now : Journals)
    → ((facts : Facts) → facts.live ≡ live → IsServedIn (journal.request_in x) facts invoke row was now new)
    → t.journals ≡ was → live ≡ is_domain_live (journal.domain_asked x) t.domains → IsDoneIn own_journals t row now new (Takes invoke (journal_request x))
journals_served t row invoke new x live was now served stood lives =
    let is : IsServedIn (journal.request_in x) (told_in own_journals t row (journal.request_in x)) invoke row t.journals now new =
    subst (λ (u : Journals). IsServedIn (journal.request_in x) (told_in own_journals t row (journal.request_in x)) invoke row u now new) (sym stood)
    (served (told_in own_journals t row (journal.request_in x)) (journals_live x t row ∙ sym lives)) in
    record {
      effects = is.effects;
      is = is.is;
      done = heard_as t row invoke (journal_request x) (OfJournals (journal.request_in x)) (in_journals x) refl
          ∙ in_place own_journals (λ u. refl) (journal.request_in x) t row invoke now new is;
    }

-- ---- event conditions and enrollments, at the moment of the device

pub events_now : (x : EventRequest) (t : Tables) (row : ClientRow) → (told_in own_events t row (event.request_in x)).now ≡ moment_of t
events_now (events.DefineEventCondition x) t row = refl
events_now other t row = refl

-- what the variables say of the cell that is watched
pub events_truth : (x : EventRequest) (t : Tables) (row : ClientRow) (cell : Option ℕ) → (event.request_in x).more t.events row ≡ Truth cell ∷ []
    → (told_in own_events t row (event.request_in x)).truth ≡ is_true cell t.variables.vars
events_truth (events.DefineEventCondition x) t row cell asks = ap (λ (l : List Question). (facts_told tells l t).truth) asks
events_truth other t row cell asks = ap (λ (l : List Question). (facts_told tells l t).truth) asks

module _ (x : EventRequest) (row : ClientRow) (invoke : ℕ) (moment : Moment) (says : Bool) (was : EventTables) where
  -- what the other tables tell it
  abbrev facts_for : Tables → Facts
  facts_for t = told_in own_events t row (event.request_in x)

  at_moment : (t : Tables) → t.now ≡ moment.0 → (facts_for t).now ≡ moment
  at_moment t at = events_now x t row ∙ sym (moment_given t moment (sym at))

  module _ (live : Bool) (cell : CellFact) where
    pub events_served : (t : Tables) (now : EventTables) (new : RoomyRow)
        → ((facts : Facts) → facts.now ≡ moment → facts.live ≡ live → facts.cell row.client ≡ cell → facts.truth ≡ says
        → IsServedIn (event.request_in x) facts invoke row was now new)
        → t.events ≡ was → t.now ≡ moment.0 → (facts_for t).live ≡ live → (facts_for t).cell row.client ≡ cell → (facts_for t).truth ≡ says
        → IsDoneIn own_events t row now new (Takes invoke (event_request x))
    events_served t now new served stood at lives found is_so =
        let is : IsServedIn (event.request_in x) (facts_for t) invoke row t.events now new =
        subst (λ (u : EventTables). IsServedIn (event.request_in x) (facts_for t) invoke row u now new) (sym stood) (served (facts_for t) (at_moment t at) lives found is_so) in
        record {
          effects = is.effects;
          is = is.is;
          done = heard_as t row invoke (event_request x) (OfEvents (event.request_in x)) (in_events x) refl
              ∙ in_place own_events (λ u. refl) (event.request_in x) t row invoke now new is;
        }

  pub events_told : (t : Tables) (now : EventTables) (told : List (ℕ × ClientTold))
      → ((facts : Facts) → facts.now ≡ moment → facts.truth ≡ says → IsToldIn (event.request_in x) facts invoke row was now (effects_told told))
      → t.events ≡ was → t.now ≡ moment.0 → (facts_for t).truth ≡ says
      → hears t row row.client (Takes invoke (event_request x)) ≡ all_done (own_events.put now t) told
  events_told t now told left stood at is_so =
      heard_as t row invoke (event_request x) (OfEvents (event.request_in x)) (in_events x) refl
      ∙ placed own_events (λ u. refl) (event.request_in x) t row invoke now (effects_told told)
      (subst (λ (u : EventTables). IsToldIn (event.request_in x) (facts_for t) invoke row u now (effects_told told)) (sym stood) (left (facts_for t) (at_moment t at) is_so))

-- ---- names are listed

module _ (x : GetNameList) (t : Tables) (row : ClientRow) (invoke : ℕ) where
  abbrev names : Answer
  names = answer.GetNameList (listed (names_in t (scope_of row.client x.scope) x.class x.after))

  -- why they aren't, as the request is told it
  abbrev why : Option ServiceError
  why = scope_cause (told_in no_table t row (get_name_list x)).live x.scope

  live_alone : (s : ObjectScope) (d : DomainTables)
      → scope_cause (is_domain_live (domain_of s) d) s ≡ scope_cause (if is_domain s then is_domain_live (domain_of s) d else false) s
  live_alone (scope.Domain domain) d = refl
  live_alone scope.Vmd d = refl
  live_alone scope.Association d = refl

  pub names_served : (new : RoomyRow)
      → new ≡ settled (felt_all (request_told (size_of row.association) invoke (scope_cause (is_domain_live (domain_of x.scope) t.domains) x.scope) (Some names)) row)
      → IsDoneIn no_table t row tt new (Takes invoke (request.GetNameList x))
  names_served new is = record {
    effects = request_told (size_of row.association) invoke why (Some names);
    is = is ∙ ap (λ (o : Option ServiceError). settled (felt_all (request_told (size_of row.association) invoke o (Some names)) row)) (live_alone x.scope t.domains);
    done = by_test (is_done (size_of row.association) invoke why (Some names)) ∙ ap (at t) (append_none _);
  }
    where
      at : Tables → List (ℕ × Effect) → Done Tables Effect
      at u told = record { tables = u; told = told }

      told : List (ℕ × Effect)
      told = tell row.client (request_told (size_of row.association) invoke why (Some names))

      by_test : (b : Bool) → at (if b then t else t) (told ++ (if b then [] else [])) ≡ at t (told ++ [])
      by_test true = refl
      by_test false = refl
