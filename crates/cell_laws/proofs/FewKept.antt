-- Each table keeps its limit and its names distinct, whatever is done.
use Rattle.std.proofs.Common.{◌≡◌, ℕ, ◌≤◌, ◌==◌, Bool, true, false, not, nat_le, List, [], ◌∷◌, filter, length, Option, None, Some, is_none, is_some, option_map, if◌then◌else◌, refl, sym, subst, arith}
use Rattle.std.specs.Prelude.{◌||◌, ◌&&◌, ◌++◌}
use Rattle.std.specs.List.{list_any}
use Rattle.std.specs.Map.{lookup, set_value}
use Rattle.std.specs.Option.{option_map_or}
use Rattle.std.proofs.lemmas.Cmp.{nat_list_eq_equiv}
use Rattle.mms_types.proofs.Conditions.{none_holds}
use Rattle.mms_types.specs.Errors.{capability_unavailable, invalid_address, object_constraint_conflict, object_exists, object_non_existent, object_state_conflict, object_undefined, type_inconsistent}
use Rattle.mms_types.specs.KeyLaws.{keys_equal}
use Rattle.mms_types.specs.Order.{key_eq, key_of, scope_eq}
use Rattle.mms_types.specs.declared.asked.Asked.{Asked}
use Rattle.mms_types.specs.declared.asked.Reply.{Reply}
use Rattle.mms_types.specs.declared.asked.Reply.TheVariants as reply
use Rattle.mms_types.specs.declared.condition.CellFact.{CellFact}
use Rattle.mms_types.specs.declared.condition.DefineEventCondition.{DefineEventCondition}
use Rattle.mms_types.specs.declared.condition.DefineEventEnrollment.{DefineEventEnrollment}
use Rattle.mms_types.specs.declared.domain.InitiateDownloadSequence.{InitiateDownloadSequence}
use Rattle.mms_types.specs.declared.invocation.CreateProgramInvocation.{CreateProgramInvocation}
use Rattle.mms_types.specs.declared.key.Key.{Key}
use Rattle.mms_types.specs.declared.key.Scope.TheVariants.{Association as OfClient}
use Rattle.mms_types.specs.declared.moment.Moment.{Moment}
use Rattle.mms_types.specs.declared.object_name.ObjectName.{ObjectName}
use Rattle.mms_types.specs.declared.pdu.Request.{Request}
use Rattle.mms_types.specs.declared.pdu.Request.TheVariants as request
use Rattle.mms_types.specs.declared.semaphore.DefineSemaphore.{DefineSemaphore}
use Rattle.mms_types.specs.declared.semaphore.TakeControl.{TakeControl}
use Rattle.mms_types.specs.declared.service_error.ServiceError.{ServiceError}
use Rattle.mms_types.specs.declared.variable.DefineNamedVariable.{DefineNamedVariable}
use Rattle.mms_types.specs.declared.variable.DefineNamedVariableList.{DefineNamedVariableList}
use Rattle.association.specs.Client.{ClientRow}
use Rattle.association.specs.declared.negotiation.Association.{Association}
use Rattle.association.specs.declared.negotiation.Association.TheVariants.{Idle, Open}
use Rattle.association.specs.declared.waiting.Waiting.{Waiting}
use Rattle.object_names.specs.Deletion.{goes, selects}
use Rattle.object_names.specs.NewName as new
use Rattle.variables.specs.Access.{flagged}
use Rattle.variables.specs.Definitions as variables
use Rattle.variables.specs.Rows.{are_there, cell_at, variable_named}
use Rattle.variables.specs.Rows as cells
use Rattle.variables.specs.declared.rows.Variable.{Variable}
use Rattle.variable_lists.specs.Lists as lists
use Rattle.variable_lists.specs.declared.row.VariableList.{VariableList}
use Rattle.variable_services.specs.declared.tables.VariableTables.{VariableTables}
use Rattle.variable_services.specs.Services.{pairs}
use Rattle.mms_time.proofs.Defined.{new_row, put_distinct, put_permutes}
use Rattle.mms_time.specs.Parts.{with_semaphore}
use Rattle.mms_time.specs.Loss.{all_changed, lost, without_owners, without_waiters}
use Rattle.std.proofs.lemmas.List.Sorted.{length_permutation}
use Rattle.mms_time.specs.Semaphores.{Rows, changed, changed_row, changed_to, entry_in, entry_waits, semaphore}
use Rattle.mms_time.specs.Services.{cancel_after, cancelled, define_cause, most_semaphores, new_semaphore, take_after, take_told, with_take, with_token_back, without_entry}
use Rattle.mms_time.specs.declared.row.Semaphore.{Semaphore}
use Rattle.mms_time.specs.declared.row.SemaphoreRow.{SemaphoreRow}
use Rattle.mms_time.specs.declared.taking.TakeDone.{TakeDone}
use Rattle.mms_time.specs.declared.taking.TakeDone.TheVariants.{Answered, Waits}
use Rattle.sem_ticks.specs.Granted.{relinquish_granted}
use Rattle.sem_ticks.specs.declared.granted.Granted.{Granted}
use Rattle.event_cond.specs.Conditions.{Rows as Conditions, condition, named as named_condition}
use Rattle.event_cond.specs.Services as services
use Rattle.event_cond.specs.Services.{after_define, defined, most_conditions}
use Rattle.event_enrol.specs.Enrolments as enrol
use Rattle.event_enrol.specs.Enrolments.{most_enrolments}
use Rattle.event_enrol.specs.declared.enrolment.Enrolment.{Enrolment}
use Rattle.cell_client.specs.Facts.{Facts}
use Rattle.cell_client.specs.Areas.{domain_in, is_of_domain}
use Rattle.cell_client.specs.Association.{Came, Verdict, Tells, Takes, Replies, Exhausts, Concludes, Cancels, Aborts}
use Rattle.cell_client.specs.Requests.{size_of}
use Rattle.serve_events.specs.Events.{after_alter, after_delete, after_trigger, alter_condition, define_condition, delete_conditions, is_in_domain, trigger, variable_of}
use Rattle.serve_events.specs.Events.{is_there as is_there_named}
use Rattle.serve_events.specs.declared.tables.EventTables.{EventTables}
use Rattle.domain_load.specs.Domains as domain
use Rattle.domain_load.specs.Domains.{is_there, name_eq}
use Rattle.domain_load.specs.Loading.{changed as changed_domain, initiate_cause, loaded, most_domains, reply_after, with_segment, would_pass}
use Rattle.domain_load.specs.Standing.{is_loaded_by, is_loading}
use Rattle.domain_load.specs.Used.{after_unused, after_used, had_by, left_by}
use Rattle.domain_load.specs.declared.domain.Domain.{Domain}
use Rattle.domain_upload.specs.Uploads.{OpenUploads, is_upload, last_number, most_uploads, upload_after}
use Rattle.domain_upload.specs.Uploads as upload
use Rattle.domain_upload.specs.declared.upload.Upload.{Upload}
use Rattle.mms_journal.specs.Journals.{Log, Rows as Books, journal, most_journals, named as named_journal}
use Rattle.mms_journal.specs.Services.{after_initialize, after_write, create_cause, created, initialized, written_by}
use Rattle.program_inv.specs.Programs as program
use Rattle.program_inv.specs.Programs.{most_programs}
use Rattle.program_inv.specs.declared.invocation.Invocation.{Invocation}
use Rattle.serve_domains.specs.Domains.{calling_left, replied_to, reply_of}
use Rattle.serve_programs.specs.Programs as programs
use Rattle.serve_variables.specs.Variables.{specifies_domain, write}
use Rattle.cell_services.specs.Facts.{is_domain_live}
use Rattle.cell_services.specs.Requests.{among, told_in}
use Rattle.cell_services.specs.Services.{area_of, cause, effect, effect_of, relinquish_outcome, reply_in, take_outcome}
use Rattle.cell_services.specs.Serving.{is_served_in, tables_cancelled, tables_heard, tables_lost, tables_served, waiting_of, without_client}
use Rattle.cell_services.specs.Tables.{Tables, moment_of, own_domains, own_events, own_variables}
use Rattle.association.specs.Asked.{asked_of}
use Rattle.cell_laws.specs.Limits.{AreFew}
use Rattle.cell_laws.proofs.Few.{few-added, few-changed, few-kept, few-mapped, few-removed, few-set, length-filter, length-map, length-more, room}
use Rattle.cell_laws.proofs.ScopesKept.{none_refused, writes_stay}

-- one that stands behind those of its part
few-put : (row : Key × SemaphoreRow) (rows : Rows) → AreFew key_eq most_semaphores (rows ++ row ∷ []) → AreFew key_eq most_semaphores (with_semaphore row rows)
few-put row rows are = record {
  distinct = put_distinct row rows are.distinct;
  few = let same = length_permutation (rows ++ row ∷ []) (with_semaphore row rows) (put_permutes row rows) in let less = are.few in omega (arith, same, less);
}

pub record Few (t : Tables) : Type 0 where
  pub variables : AreFew key_eq variables.most_variables t.variables.vars.variables
  pub lists : AreFew key_eq lists.most_lists t.variables.lists
  pub domains : AreFew name_eq most_domains t.domains.domains
  pub uploads : length t.domains.uploads.rows ≤ most_uploads
  pub programs : AreFew name_eq most_programs t.programs
  pub conditions : AreFew key_eq most_conditions t.events.conditions
  pub enrolments : AreFew key_eq most_enrolments t.events.enrolments
  pub journals : AreFew key_eq most_journals t.journals
  pub semaphores : AreFew key_eq most_semaphores t.semaphores

-- ---- a new name is free, and there is room for it

none_some : {A B : Type 0} (f : A → B) (o : Option A) → is_some (option_map f o) ≡ false → is_some o ≡ false
none_some f None h = refl
none_some f (Some x) h = absurd (cc h)

variable_free : (live : Bool) (client : ℕ) (x : DefineNamedVariable) (rows : cells.Rows) → variables.define_cause live client x rows ≡ None
    → (is_some (variable_named client x.name rows) ≡ false) × (nat_le variables.most_variables (length rows.variables) ≡ false)
variable_free live client x rows none =
    let last : List (Bool × ServiceError) = (nat_le variables.most_variables (length rows.variables), capability_unavailable) ∷ [] in
    let typed : List (Bool × ServiceError) = (variables.has_other_type x.of (cell_at x.address rows), type_inconsistent) ∷ last in
    let there : List (Bool × ServiceError) = (is_none (cell_at x.address rows), invalid_address) ∷ typed in
    let first = none_holds (new.is_of_domain x.name && not live) object_undefined ((is_some (variable_named client x.name rows), object_exists) ∷ there) none in
    let second = none_holds (is_some (variable_named client x.name rows)) object_exists there first.1 in
    let third = none_holds (is_none (cell_at x.address rows)) invalid_address typed second.1 in
    let fourth = none_holds (variables.has_other_type x.of (cell_at x.address rows)) type_inconsistent last third.1 in
    (second.0, (none_holds (nat_le variables.most_variables (length rows.variables)) capability_unavailable [] fourth.1).0)

list_free : (live there : Bool) (client : ℕ) (x : DefineNamedVariableList) (rows : lists.Rows) → lists.define_cause live there client x rows ≡ None
    → (is_some (lookup (key_eq (key_of client x.name)) rows) ≡ false) × (nat_le lists.most_lists (length rows) ≡ false)
list_free live there client x rows none =
    let last : List (Bool × ServiceError) = (nat_le lists.most_lists (length rows), capability_unavailable) ∷ [] in
    let first = none_holds (new.is_of_domain x.name && not live) object_undefined ((is_some (lists.members client x.name rows), object_exists) ∷ (not there, object_non_existent) ∷ last) none in
    let second = none_holds (is_some (lists.members client x.name rows)) object_exists ((not there, object_non_existent) ∷ last) first.1 in
    let third = none_holds (not there) object_non_existent last second.1 in
    (none_some _ (lookup (key_eq (key_of client x.name)) rows) second.0, (none_holds (nat_le lists.most_lists (length rows)) capability_unavailable [] third.1).0)

semaphore_free : (live : Bool) (client : ℕ) (x : DefineSemaphore) (rows : Rows) → define_cause live client x rows ≡ None
    → (is_some (semaphore client x.name rows) ≡ false) × (nat_le most_semaphores (length rows) ≡ false)
semaphore_free live client x rows none =
    let last : List (Bool × ServiceError) = (nat_le most_semaphores (length rows), capability_unavailable) ∷ [] in
    let first = none_holds (new.is_of_domain x.name && not live) object_undefined ((is_some (semaphore client x.name rows), object_exists) ∷ last) none in
    let second = none_holds (is_some (semaphore client x.name rows)) object_exists last first.1 in
    (second.0, (none_holds (nat_le most_semaphores (length rows)) capability_unavailable [] second.1).0)

condition_free : (live : Bool) (client : ℕ) (x : DefineEventCondition) (cell : CellFact) (rows : Conditions) → services.define_cause live client x cell rows ≡ None
    → (is_some (condition client x.name rows) ≡ false) × (nat_le most_conditions (length rows) ≡ false)
condition_free live client x cell rows none =
    let last : List (Bool × ServiceError) = (nat_le most_conditions (length rows), capability_unavailable) ∷ [] in
    let typed : List (Bool × ServiceError) = (is_some x.monitored && services.is_other cell, type_inconsistent) ∷ last in
    let there : List (Bool × ServiceError) = (is_some x.monitored && services.is_missing cell, object_undefined) ∷ typed in
    let first = none_holds (new.is_of_domain x.name && not live) object_undefined ((is_some (condition client x.name rows), object_exists) ∷ there) none in
    let second = none_holds (is_some (condition client x.name rows)) object_exists there first.1 in
    let third = none_holds (is_some x.monitored && services.is_missing cell) object_undefined typed second.1 in
    let fourth = none_holds (is_some x.monitored && services.is_other cell) type_inconsistent last third.1 in
    (second.0, (none_holds (nat_le most_conditions (length rows)) capability_unavailable [] fourth.1).0)

enrolment_free : (live there : Bool) (client : ℕ) (x : DefineEventEnrollment) (rows : enrol.Rows) → enrol.define_cause live there client x rows ≡ None
    → (enrol.is_defined client x.name rows ≡ false) × (nat_le most_enrolments (length rows) ≡ false)
enrolment_free live there client x rows none =
    let last : List (Bool × ServiceError) = (nat_le most_enrolments (length rows), capability_unavailable) ∷ [] in
    let first = none_holds (new.is_of_domain x.name && not live) object_undefined ((enrol.is_defined client x.name rows, object_exists) ∷ (not there, object_non_existent) ∷ last) none in
    let second = none_holds (enrol.is_defined client x.name rows) object_exists ((not there, object_non_existent) ∷ last) first.1 in
    let third = none_holds (not there) object_non_existent last second.1 in
    (second.0, (none_holds (nat_le most_enrolments (length rows)) capability_unavailable [] third.1).0)

journal_free : (live : Bool) (client : ℕ) (given : ObjectName) (rows : Books) → create_cause live client given rows ≡ None
    → (is_some (journal client given rows) ≡ false) × (nat_le most_journals (length rows) ≡ false)
journal_free live client given rows none =
    let last : List (Bool × ServiceError) = (nat_le most_journals (length rows), capability_unavailable) ∷ [] in
    let first = none_holds (new.is_of_domain given && not live) object_undefined ((is_some (journal client given rows), object_exists) ∷ last) none in
    let second = none_holds (is_some (journal client given rows)) object_exists last first.1 in
    (second.0, (none_holds (nat_le most_journals (length rows)) capability_unavailable [] second.1).0)

domain_free : (left : Bool) (x : InitiateDownloadSequence) (rows : domain.Rows) → initiate_cause left x rows ≡ None
    → (is_some (domain.named x.domain rows) ≡ false) × (nat_le most_domains (length rows) ≡ false)
domain_free left x rows none =
    let last : List (Bool × ServiceError) = (not left, capability_unavailable) ∷ [] in
    let first = none_holds (is_some (domain.named x.domain rows)) object_exists ((nat_le most_domains (length rows), capability_unavailable) ∷ last) none in
    (first.0, (none_holds (nat_le most_domains (length rows)) capability_unavailable last first.1).0)

upload_free : (name : List ℕ) (rows : domain.Rows) (s : OpenUploads) → upload.initiate_cause name rows s ≡ None → nat_le most_uploads (length s.rows) ≡ false
upload_free name rows s none =
    let last : List (Bool × ServiceError) = (nat_le last_number s.given, capability_unavailable) ∷ [] in
    let room : List (Bool × ServiceError) = (nat_le most_uploads (length s.rows), capability_unavailable) ∷ last in
    let first = none_holds (is_none (domain.named name rows)) object_non_existent ((is_there is_loading name rows, object_state_conflict) ∷ room) none in
    let second = none_holds (is_there is_loading name rows) object_state_conflict room first.1 in
    (none_holds (nat_le most_uploads (length s.rows)) capability_unavailable last second.1).0

program_free : (x : CreateProgramInvocation) (ds : domain.Rows) (rows : program.Rows) → program.create_cause x ds rows ≡ None
    → (is_some (program.named x.name rows) ≡ false) × (nat_le most_programs (length rows) ≡ false)
program_free x ds rows none =
    let last : List (Bool × ServiceError) = (nat_le most_programs (length rows), capability_unavailable) ∷ [] in
    let third : List (Bool × ServiceError) = (program.has_clash x.domains ds, object_constraint_conflict) ∷ last in
    let second : List (Bool × ServiceError) = (list_any (λ name. is_there is_loading name ds) x.domains, object_state_conflict) ∷ third in
    let a = none_holds (is_some (program.named x.name rows)) object_exists ((list_any (λ name. not (is_some (domain.named name ds))) x.domains, object_non_existent) ∷ second) none in
    let b = none_holds (list_any (λ name. not (is_some (domain.named name ds))) x.domains) object_non_existent second a.1 in
    let c = none_holds (list_any (λ name. is_there is_loading name ds) x.domains) object_state_conflict third b.1 in
    let d = none_holds (program.has_clash x.domains ds) object_constraint_conflict last c.1 in
    (a.0, (none_holds (nat_le most_programs (length rows)) capability_unavailable [] d.1).0)

-- ---- semaphores and domains

pub few-semaphore : (f : Semaphore → Semaphore) (key : Key) (rows : Rows) → AreFew key_eq most_semaphores rows → AreFew key_eq most_semaphores (changed f key rows)
few-semaphore f key rows are = by_row (lookup (key_eq key) rows)
  where
    by_row : (o : Option SemaphoreRow) → AreFew key_eq most_semaphores (changed_to o f key rows)
    by_row None = are
    by_row (Some row) = few-set key_eq most_semaphores (key_eq key) (changed_row f row) rows are

pub few-lost : (client : ℕ) (now : Moment) (rows : Rows) → AreFew key_eq most_semaphores rows → AreFew key_eq most_semaphores (lost client now rows)
few-lost client now rows are =
    few-kept key_eq most_semaphores (λ (row : Key × SemaphoreRow). not (scope_eq row.0.scope (OfClient client))) (all_changed (without_owners client now) (all_changed (without_waiters client) rows))
    (few-mapped key_eq most_semaphores (changed_row (without_owners client now)) (all_changed (without_waiters client) rows)
    (few-mapped key_eq most_semaphores (changed_row (without_waiters client)) rows are))

few-used : (names : List (List ℕ)) (by : List ℕ) (rows : domain.Rows) → AreFew name_eq most_domains rows → AreFew name_eq most_domains (after_used names by rows)
few-used [] by rows are = are
few-used (name ∷ names) by rows are = few-used names by (changed_domain name (had_by by) rows) (few-changed name_eq most_domains (name_eq name) (had_by by) (domain.named name rows) rows are)

few-unused : (names : List (List ℕ)) (by : List ℕ) (rows : domain.Rows) → AreFew name_eq most_domains rows → AreFew name_eq most_domains (after_unused names by rows)
few-unused [] by rows are = are
few-unused (name ∷ names) by rows are = few-unused names by (changed_domain name (left_by by) rows) (few-changed name_eq most_domains (name_eq name) (left_by by) (domain.named name rows) rows are)

few-replied : (answer : Reply) (rows : domain.Rows) → AreFew name_eq most_domains rows → AreFew name_eq most_domains (reply_after answer rows)
few-replied (reply.Segment name octets more) rows are = by_test (is_there (would_pass (length octets)) name rows)
  where
    by_test : (b : Bool) → AreFew name_eq most_domains (if b then domain.without name rows else changed_domain name (with_segment octets) rows)
    by_test true = few-removed name_eq most_domains (name_eq name) rows are
    by_test false = few-changed name_eq most_domains (name_eq name) (with_segment octets) (domain.named name rows) rows are
few-replied (reply.Ended name) rows are = few-changed name_eq most_domains (name_eq name) loaded (domain.named name rows) rows are
few-replied (reply.Failed name kind) rows are = few-removed name_eq most_domains (name_eq name) rows are

-- ---- a client is lost

module _ (t : Tables) (all : Few t) where
  fewer : (n m : ℕ) → n ≤ m → m ≤ most_uploads → n ≤ most_uploads
  fewer n m le few = omega (arith, le, few)

  pub few-gone : (client : ℕ) → Few (without_client client t)
  few-gone client = record {
    variables = few-kept key_eq variables.most_variables (λ (row : Key × Variable). not (scope_eq row.0.scope (OfClient client))) t.variables.vars.variables all.variables;
    lists = few-kept key_eq lists.most_lists (λ (row : Key × VariableList). not (scope_eq row.0.scope (OfClient client))) t.variables.lists all.lists;
    domains = few-kept name_eq most_domains (λ (row : List ℕ × Domain). not (is_loaded_by client row.1)) t.domains.domains all.domains;
    uploads = fewer _ (length t.domains.uploads.rows) (length-filter (λ u. not (u.client == client)) t.domains.uploads.rows) all.uploads;
    programs = all.programs;
    conditions = few-kept key_eq most_conditions (λ row. not (scope_eq row.0.scope (OfClient client))) t.events.conditions all.conditions;
    enrolments = few-kept key_eq most_enrolments (λ (row : Key × Enrolment). not (scope_eq row.0.scope (OfClient client)))
        (filter (λ (row : Key × Enrolment). not (enrol.is_of client row)) t.events.enrolments)
        (few-kept key_eq most_enrolments (λ (row : Key × Enrolment). not (enrol.is_of client row)) t.events.enrolments all.enrolments);
    journals = few-kept key_eq most_journals (λ (row : Key × Log). not (scope_eq row.0.scope (OfClient client))) t.journals all.journals;
    semaphores = few-lost client (moment_of t) t.semaphores all.semaphores;
  }

  pub few-left : (a : Association) (client : ℕ) → Few (tables_lost a client t)
  few-left Idle client = all
  few-left (Open values) client = few-gone client

  pub few-semaphores : (rows : Rows) → AreFew key_eq most_semaphores rows → Few (record t { semaphores = rows })
  few-semaphores rows are = record {
    variables = all.variables;
    lists = all.lists;
    domains = all.domains;
    uploads = all.uploads;
    programs = all.programs;
    conditions = all.conditions;
    enrolments = all.enrolments;
    journals = all.journals;
    semaphores = are;
  }

  few-events : (e : EventTables) → AreFew key_eq most_conditions e.conditions → AreFew key_eq most_enrolments e.enrolments → Few (record t { events = e })
  few-events e conditions enrolments = record {
    variables = all.variables;
    lists = all.lists;
    domains = all.domains;
    uploads = all.uploads;
    programs = all.programs;
    conditions = conditions;
    enrolments = enrolments;
    journals = all.journals;
    semaphores = all.semaphores;
  }

  few-journals : (rows : Books) → AreFew key_eq most_journals rows → Few (record t { journals = rows })
  few-journals rows are = record {
    variables = all.variables;
    lists = all.lists;
    domains = all.domains;
    uploads = all.uploads;
    programs = all.programs;
    conditions = all.conditions;
    enrolments = all.enrolments;
    journals = are;
    semaphores = all.semaphores;
  }

  few-domains : (rows : domain.Rows) → AreFew name_eq most_domains rows → Few (record t { domains = record t.domains { domains = rows } })
  few-domains rows are = record {
    variables = all.variables;
    lists = all.lists;
    domains = are;
    uploads = all.uploads;
    programs = all.programs;
    conditions = all.conditions;
    enrolments = all.enrolments;
    journals = all.journals;
    semaphores = all.semaphores;
  }

  few-uploads : (rows : List Upload) (given : ℕ) → length rows ≤ most_uploads → Few (record t { domains = record t.domains { uploads = record { rows = rows; given = given } } })
  few-uploads rows given few = record {
    variables = all.variables;
    lists = all.lists;
    domains = all.domains;
    uploads = few;
    programs = all.programs;
    conditions = all.conditions;
    enrolments = all.enrolments;
    journals = all.journals;
    semaphores = all.semaphores;
  }

  few-programs : (rows : program.Rows) → AreFew name_eq most_programs rows → Few (record t { programs = rows })
  few-programs rows are = record {
    variables = all.variables;
    lists = all.lists;
    domains = all.domains;
    uploads = all.uploads;
    programs = are;
    conditions = all.conditions;
    enrolments = all.enrolments;
    journals = all.journals;
    semaphores = all.semaphores;
  }

  pub few-variables : (v : VariableTables) → AreFew key_eq variables.most_variables v.vars.variables → AreFew key_eq lists.most_lists v.lists → Few (record t { variables = v })
  few-variables v variables lists = record {
    variables = variables;
    lists = lists;
    domains = all.domains;
    uploads = all.uploads;
    programs = all.programs;
    conditions = all.conditions;
    enrolments = all.enrolments;
    journals = all.journals;
    semaphores = all.semaphores;
  }

  few-command : (name : List ℕ) (f : Invocation → Invocation) → Few (record t { programs = option_map_or (λ p. set_value (name_eq name) t.programs (f p)) (program.named name t.programs) t.programs })
  few-command name f = few-programs _ (few-changed name_eq most_programs (name_eq name) f (program.named name t.programs) t.programs all.programs)

  pub few-ends : (name : List ℕ) → Few (record t { programs = program.after_ends name t.programs })
  few-ends name = few-command name _

  -- ---- what is heard

  module _ (row : ClientRow) (invoke : ℕ) where
    few-take : (x : TakeControl) → Few (record t { semaphores = take_after row.client invoke (moment_of t) x t.semaphores })
    few-take x = few-semaphores _ (few-semaphore (with_take row.client invoke x (moment_of t)) (key_of row.client x.name) t.semaphores all.semaphores)

    few-taken : (x : TakeControl) (o : Option TakeDone) → Few (take_outcome t row.client invoke x o).tables
    few-taken x None = all
    few-taken x (Some (Answered told)) = few-take x
    few-taken x (Some (Waits entry)) = few-take x

    few-effect : (asked : Request) → cause t row asked ≡ None → Few (effect t row invoke asked).tables
    few-effect (request.Write x) none = few-variables _
        (subst (λ (rows : List (Key × Variable)). AreFew key_eq variables.most_variables rows)
        (sym (writes_stay row.client (flagged (told_in own_variables t row (write x)).owned (pairs row.client x t.variables)) t.variables.vars)) all.variables) all.lists
    few-effect (request.DefineNamedVariable x) none =
        let asks : Bool = is_of_domain x.name in
        let live : Bool = if asks then is_domain_live (domain_in x.name) t.domains else false in
        let free = variable_free live row.client x t.variables.vars none in
        few-variables _ (few-added key_eq variables.most_variables keys_equal t.variables.vars.variables (key_of row.client x.name, record { cell = x.address; configured = false }) free.0 free.1 all.variables) all.lists
    few-effect (request.DeleteVariableAccess x) none =
        few-variables _ (few-kept key_eq variables.most_variables (λ (r : Key × Variable). not (goes variables.is_fixed (selects row.client x) r)) t.variables.vars.variables all.variables) all.lists
    few-effect (request.DefineNamedVariableList x) none =
        let asks : Bool = is_of_domain x.name || list_any specifies_domain x.variables in
        let live : Bool = if asks then is_domain_live (domain_in x.name) t.domains else false in
        let free = list_free live (are_there row.client x.variables t.variables.vars) row.client x t.variables.lists none in
        few-variables _ all.variables (few-added key_eq lists.most_lists keys_equal t.variables.lists (key_of row.client x.name, record { variables = x.variables }) free.0 free.1 all.lists)
    few-effect (request.DeleteNamedVariableList x) none =
        few-variables _ all.variables (few-kept key_eq lists.most_lists (λ (r : Key × VariableList). not (goes lists.is_fixed (selects row.client x) r)) t.variables.lists all.lists)
    few-effect (request.TakeControl x) none = few-taken x (take_told row.client x t.semaphores)
    few-effect (request.RelinquishControl x) none = by_grant (relinquish_granted row.client x t.semaphores)
      where
        by_grant : (o : Option (Option Granted)) → Few (relinquish_outcome t row.client x o).tables
        by_grant None = all
        by_grant (Some grant) = few-semaphores _ (few-semaphore (with_token_back row.client x.token (moment_of t)) (key_of row.client x.name) t.semaphores all.semaphores)
    few-effect (request.DefineSemaphore x) none =
        let asks : Bool = is_of_domain x.name in
        let live : Bool = if asks then is_domain_live (domain_in x.name) t.domains else false in
        let free = semaphore_free live row.client x t.semaphores none in
        few-semaphores _ (few-put (new_row row.client x) t.semaphores
        (few-added key_eq most_semaphores keys_equal t.semaphores (new_row row.client x) free.0 free.1 all.semaphores))
    few-effect (request.DeleteSemaphore x) none = few-semaphores _ (few-removed key_eq most_semaphores (key_eq (key_of row.client x)) t.semaphores all.semaphores)
    few-effect (request.InitiateDownloadSequence x) none =
        let free = domain_free (calling_left row) x t.domains.domains none in
        few-domains _ (few-added name_eq most_domains nat_list_eq_equiv t.domains.domains (x.domain, _) free.0 free.1 all.domains)
    few-effect (request.InitiateUploadSequence x) none =
        few-uploads _ _ (let same = length-more t.domains.uploads.rows (upload.begun row.client x t.domains.uploads) in
        let less = room most_uploads (length t.domains.uploads.rows) (upload_free x t.domains.domains t.domains.uploads none) in omega (arith, same, less))
    few-effect (request.UploadSegment x) none =
        few-uploads _ t.domains.uploads.given (let same = length-map (upload_after row.client x (size_of row.association) t.domains.domains) t.domains.uploads.rows in
        let few = all.uploads in omega (arith, same, few))
    few-effect (request.TerminateUploadSequence x) none =
        few-uploads _ t.domains.uploads.given (fewer _ (length t.domains.uploads.rows) (length-filter (λ u. not (is_upload row.client x u)) t.domains.uploads.rows) all.uploads)
    few-effect (request.DeleteDomain name) none = few-domains _ (few-removed name_eq most_domains (name_eq name) t.domains.domains all.domains)
    few-effect (request.CreateProgramInvocation x) none =
        let free = program_free x t.domains.domains t.programs none in
        record {
          variables = all.variables;
          lists = all.lists;
          domains = few-used x.domains x.name t.domains.domains all.domains;
          uploads = all.uploads;
          programs = few-added name_eq most_programs nat_list_eq_equiv t.programs (x.name, program.made x) free.0 free.1 all.programs;
          conditions = all.conditions;
          enrolments = all.enrolments;
          journals = all.journals;
          semaphores = all.semaphores;
        }
    few-effect (request.DeleteProgramInvocation name) none = by_found (program.named name t.programs)
      where
        by_found : (o : Option Invocation)
            → Few (record (effect t row invoke (request.DeleteProgramInvocation name)).tables { domains = option_map_or (λ p. programs.with_domains (after_unused p.domains name t.domains.domains) t.domains) o t.domains })
        by_found None = record {
          variables = all.variables;
          lists = all.lists;
          domains = all.domains;
          uploads = all.uploads;
          programs = few-removed name_eq most_programs (name_eq name) t.programs all.programs;
          conditions = all.conditions;
          enrolments = all.enrolments;
          journals = all.journals;
          semaphores = all.semaphores;
        }
        by_found (Some p) = record {
          variables = all.variables;
          lists = all.lists;
          domains = few-unused p.domains name t.domains.domains all.domains;
          uploads = all.uploads;
          programs = few-removed name_eq most_programs (name_eq name) t.programs all.programs;
          conditions = all.conditions;
          enrolments = all.enrolments;
          journals = all.journals;
          semaphores = all.semaphores;
        }
    few-effect (request.Start x) none = few-command x.name _
    few-effect (request.Stop x) none = few-command x _
    few-effect (request.Resume x) none = few-command x.name _
    few-effect (request.Reset x) none = few-command x _
    few-effect (request.Kill x) none = few-command x _
    few-effect (request.DefineEventCondition x) none =
        let asks : Bool = is_of_domain x.name || option_map_or is_in_domain (variable_of x.monitored) false in
        let live : Bool = if asks then is_domain_live (domain_in x.name) t.domains else false in
        let facts : Facts = told_in own_events t row (define_condition x) in
        let free = condition_free live row.client x (facts.cell row.client) t.events.conditions none in
        few-events (record t.events { conditions = after_define row.client facts.now x (facts.cell row.client) t.events.conditions })
        (few-added key_eq most_conditions keys_equal t.events.conditions (key_of row.client x.name, defined facts.now x (facts.cell row.client)) free.0 free.1 all.conditions) all.enrolments
    few-effect (request.DeleteEventCondition x) none =
        let facts : Facts = told_in own_events t row (delete_conditions x) in
        few-events (after_delete row.client facts.now x t.events) (few-kept key_eq most_conditions _ t.events.conditions all.conditions) (few-kept key_eq most_enrolments _ t.events.enrolments all.enrolments)
    few-effect (request.AlterEventConditionMonitoring x) none =
        let facts : Facts = told_in own_events t row (alter_condition x) in
        few-events (after_alter row.client facts.now facts.truth x t.events)
        (few-changed key_eq most_conditions (key_eq (key_of row.client x.name)) _ (named_condition (key_of row.client x.name) t.events.conditions) t.events.conditions all.conditions) all.enrolments
    few-effect (request.TriggerEvent x) none =
        let facts : Facts = told_in own_events t row (trigger x) in
        few-events (after_trigger row.client facts.now x.name t.events)
        (few-changed key_eq most_conditions (key_eq (key_of row.client x.name)) _ (named_condition (key_of row.client x.name) t.events.conditions) t.events.conditions all.conditions) all.enrolments
    few-effect (request.DefineEventEnrollment x) none =
        let asks : Bool = is_of_domain x.name || is_of_domain x.condition in
        let live : Bool = if asks then is_domain_live (domain_in x.name) t.domains else false in
        let free = enrolment_free live (is_there_named row.client t.events.conditions x.condition) row.client x t.events.enrolments none in
        few-events (record t.events { enrolments = enrol.defined row.client x t.events.enrolments }) all.conditions
        (few-added key_eq most_enrolments keys_equal t.events.enrolments
        (key_of row.client x.name, record { client = row.client; condition = key_of row.client x.condition; transitions = x.transitions; rule = x.rule }) free.0 free.1 all.enrolments)
    few-effect (request.DeleteEventEnrollment x) none =
        few-events (record t.events { enrolments = enrol.after_delete row.client x t.events.enrolments }) all.conditions (few-kept key_eq most_enrolments _ t.events.enrolments all.enrolments)
    few-effect (request.CreateJournal given) none =
        let asks : Bool = is_of_domain given in
        let live : Bool = if asks then is_domain_live (domain_in given) t.domains else false in
        let free = journal_free live row.client given t.journals none in
        few-journals _ (few-added key_eq most_journals keys_equal t.journals (key_of row.client given, created) free.0 free.1 all.journals)
    few-effect (request.DeleteJournal given) none = few-journals _ (few-removed key_eq most_journals (key_eq (key_of row.client given)) t.journals all.journals)
    few-effect (request.WriteJournal x) none =
        few-journals (after_write row.client x.name x.entries t.journals)
        (few-changed key_eq most_journals (key_eq (key_of row.client x.name)) (written_by row.client x.entries) (named_journal (key_of row.client x.name) t.journals) t.journals all.journals)
    few-effect (request.InitializeJournal x) none =
        few-journals (after_initialize row.client x t.journals)
        (few-changed key_eq most_journals (key_eq (key_of row.client x.name)) (initialized x.limit) (named_journal (key_of row.client x.name) t.journals) t.journals all.journals)
    few-effect asked none = all

    few-served : (asked : Request) → Few (tables_served t row invoke (area_of asked))
    few-served asked = by_test (is_served_in t row invoke (area_of asked)) refl
      where
        by_test : (b : Bool) → is_served_in t row invoke (area_of asked) ≡ b → Few (if b then (effect t row invoke asked).tables else t)
        by_test true done = few-effect asked (none_refused (size_of row.association) invoke (cause t row asked) (effect t row invoke asked).answer done)
        by_test false done = all

  module _ (row : ClientRow) where
    few-answered : (number : ℕ) (came : Came) → Few (tables_served t row number (reply_in number came))
    few-answered number came = by_test (is_served_in t row number (reply_in number came))
      where
        by_of : (o : Option (Asked × List ℕ)) → Few (among own_domains t (replied_to row.client number came o t.domains)).tables
        by_of None = all
        by_of (Some of) = few-domains (reply_after (reply_of came of) t.domains.domains) (few-replied (reply_of came of) t.domains.domains all.domains)

        by_test : (b : Bool) → Few (if b then (effect_of t row number (reply_in number came)).tables else t)
        by_test true = by_of (asked_of number row.asked)
        by_test false = all

    pub few-heard : (v : Verdict) → Few (tables_heard t row v)
    few-heard (Takes invoke asked) = few-served row invoke asked
    few-heard (Tells effects) = all
    few-heard (Replies number came) = few-answered number came
    few-heard (Exhausts invoke) = few-gone row.client
    few-heard Concludes = few-gone row.client
    few-heard (Cancels invoke) = by_waiting (waiting_of invoke row.waiting)
      where
        by_waiting : (o : Option Waiting) → Few (tables_cancelled o t)
        by_waiting None = all
        by_waiting (Some w) = few-semaphores (cancelled w.key w.entry t.semaphores) (by_test (entry_waits (entry_in w.key w.entry t.semaphores)))
          where
            by_test : (b : Bool) → AreFew key_eq most_semaphores (if b then cancel_after w.key w.entry t.semaphores else t.semaphores)
            by_test true = few-semaphore (without_entry w.entry) w.key t.semaphores all.semaphores
            by_test false = all.semaphores
    few-heard Aborts = few-gone row.client
