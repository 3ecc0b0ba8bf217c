-- Each scope that is a domain is live after an event where it was before.
use Rattle.std.proofs.Common.{◌≡◌, ◌∙◌, ℕ, Bool, true, false, not, List, [], ◌∷◌, length, nat_le, Option, None, Some, is_none, is_some, if◌then◌else◌, refl, sym, subst}
use Rattle.std.specs.Prelude.{◌||◌, ◌&&◌, filter}
use Rattle.std.specs.List.{IsDistinct, list_any}
use Rattle.std.specs.Map.{keys_of, set_value}
use Rattle.std.specs.Option.{option_map_or}
use Rattle.std.proofs.lemmas.Cmp.{nat_list_eq_equiv}
use Rattle.mms_types.proofs.Conditions.{none_holds}
use Rattle.mms_types.specs.Datum.{Datum}
use Rattle.mms_types.specs.Errors.{capability_unavailable, invalid_address, object_exists, object_non_existent, object_undefined, type_inconsistent}
use Rattle.mms_types.specs.Order.{key_eq, key_of, scope_eq}
use Rattle.mms_types.specs.declared.asked.Asked.{Asked}
use Rattle.mms_types.specs.declared.key.Key.{Key}
use Rattle.mms_types.specs.declared.key.Scope.{Scope}
use Rattle.mms_types.specs.declared.key.Scope.TheVariants.{Vmd, Domain, Association as OfClient}
use Rattle.mms_types.specs.declared.moment.Moment.{Moment}
use Rattle.mms_types.specs.declared.object_name.ObjectName.{ObjectName}
use Rattle.mms_types.specs.declared.object_name.ObjectName.TheVariants as name
use Rattle.mms_types.specs.declared.pdu.Answer.{Answer}
use Rattle.mms_types.specs.declared.pdu.Request.{Request}
use Rattle.mms_types.specs.declared.pdu.Request.TheVariants as request
use Rattle.mms_types.specs.declared.semaphore.DefineSemaphore.{DefineSemaphore}
use Rattle.mms_types.specs.declared.semaphore.TakeControl.{TakeControl}
use Rattle.mms_types.specs.declared.service_error.ServiceError.{ServiceError}
use Rattle.mms_types.specs.declared.variable.DefineNamedVariable.{DefineNamedVariable}
use Rattle.mms_types.specs.declared.variable.DefineNamedVariableList.{DefineNamedVariableList}
use Rattle.mms_types.specs.declared.variable.Spec.{Spec}
use Rattle.association.specs.Client.{ClientRow}
use Rattle.association.specs.declared.negotiation.Association.{Association}
use Rattle.association.specs.declared.negotiation.Association.TheVariants.{Idle, Open}
use Rattle.association.specs.declared.waiting.Waiting.{Waiting}
use Rattle.object_names.specs.Deletion.{selects}
use Rattle.object_names.specs.NewName as new
use Rattle.object_names.specs.Scopes.{has_any_of}
use Rattle.variables.specs.Access.{change_named, flagged, with_value, writes, written}
use Rattle.variables.specs.Definitions as variables
use Rattle.variables.specs.Rows.{are_there, cell_at, number_named, variable_named}
use Rattle.variables.specs.Rows as cells
use Rattle.variables.specs.declared.rows.StoredCell.{StoredCell}
use Rattle.variables.specs.declared.rows.Variable.{Variable}
use Rattle.variable_lists.specs.Lists as lists
use Rattle.variable_services.specs.declared.tables.VariableTables.{VariableTables}
use Rattle.variable_services.specs.Services.{lost as variables_lost, pairs}
use Rattle.mms_time.specs.Deadlines.{expire_after, without_due}
use Rattle.mms_time.specs.Loss.{all_changed, lost, without_owners, without_waiters}
use Rattle.mms_time.specs.Semaphores.{Rows, entry_in, entry_waits, semaphore}
use Rattle.mms_time.specs.Services.{cancel_after, cancelled, define_after, define_cause, delete_after, most_semaphores, new_semaphore, relinquish_after, take_after, take_told, with_take, with_token_back, without_entry}
use Rattle.mms_time.specs.Parts.{part_of_row}
use Rattle.mms_time.specs.declared.taking.TakeDone.{TakeDone}
use Rattle.mms_time.specs.declared.taking.TakeDone.TheVariants.{Answered, Waits}
use Rattle.sem_ticks.specs.Granted.{relinquish_granted}
use Rattle.sem_ticks.specs.Ticks.{after_abort, met_as}
use Rattle.mms_types.specs.declared.condition.CellFact.{CellFact}
use Rattle.mms_types.specs.declared.condition.DefineEventCondition.{DefineEventCondition}
use Rattle.mms_types.specs.declared.condition.DefineEventEnrollment.{DefineEventEnrollment}
use Rattle.event_cond.specs.Conditions.{Rows as Conditions, changed as changed_condition, condition, named as named_condition}
use Rattle.event_cond.specs.Deletion as gone
use Rattle.event_cond.specs.Services as services
use Rattle.event_cond.specs.Services.{after_define, defined}
use Rattle.event_cond.specs.declared.condition.Condition.{Condition}
use Rattle.event_enrol.specs.Enrolments as enrol
use Rattle.event_enrol.specs.declared.enrolment.Enrolment.{Enrolment}
use Rattle.cell_client.specs.Facts.{Facts}
use Rattle.serve_events.specs.Events.{after_alter, after_delete, after_trigger, alter_condition, define_condition, delete_conditions, is_in_domain, trigger, variable_of}
use Rattle.serve_events.specs.Events.{is_there as is_there_named}
use Rattle.serve_events.specs.declared.tables.EventTables.{EventTables}
use Rattle.event_cond.specs.Skips.{Saying}
use Rattle.cell_ticks.specs.Ticks.{Ticking, aborted, begun, enrolments_without, ticked_on}
use Rattle.cell_ticks.specs.Ticks.{without_clients as conditions_without}
use Rattle.sem_ticks.specs.declared.granted.Granted.{Granted}
use Rattle.domain_load.specs.Domains.{is_there, name_eq, without, without_loads}
use Rattle.domain_load.specs.Domains as domain
use Rattle.domain_load.specs.Loading.{initiate_after, reply_after}
use Rattle.domain_load.specs.Standing.{is_live}
use Rattle.domain_load.specs.Used.{after_unused, after_used}
use Rattle.domain_upload.specs.Uploads.{uploads_of}
use Rattle.mms_journal.specs.Journals.{Log, Rows as Books, changed as changed_journal, journal, most_journals, named as named_journal}
use Rattle.mms_journal.specs.Services.{after_create, after_delete as after_delete_journal, after_initialize, after_write, create_cause, created, initialized, written_by}
use Rattle.mms_journal.specs.Services.{without_client as journals_lost}
use Rattle.program_inv.specs.Programs as program
use Rattle.program_inv.specs.declared.invocation.Invocation.{Invocation}
use Rattle.cell_client.specs.Areas.{domain_in, is_of_domain}
use Rattle.cell_client.specs.Association.{Came, Verdict, Tells, Takes, Replies, Exhausts, Concludes, Cancels, Aborts}
use Rattle.cell_client.specs.Requests.{is_done, size_of}
use Rattle.serve_domains.proofs.Answered.{IsOfLoad, IsSaid, loads_it}
use Rattle.serve_domains.specs.Domains.{replied_to, reply_of}
use Rattle.serve_domains.specs.Loads.{AreLoads}
use Rattle.serve_domains.specs.Tables.{DomainTables}
use Rattle.serve_domains.specs.Tables as domains
use Rattle.serve_programs.specs.Programs as programs
use Rattle.serve_variables.specs.Variables.{specifies_domain, write}
use Rattle.cell_services.specs.Facts.{is_domain_live, is_scope_used}
use Rattle.cell_services.specs.Requests.{among, told_in}
use Rattle.cell_services.specs.Services.{area_of, cause, effect, effect_of, relinquish_outcome, reply_in, take_outcome}
use Rattle.cell_services.specs.Serving.{domains_without, journals_without, is_served_in, lost_in, meanwhile, passed, saying, tables_cancelled, tables_heard, tables_lost, tables_served, waiting_of, without_client, without_clients}
use Rattle.cell_services.specs.Tables.{Tables, moment_after, moment_of, own_domains, own_events, own_variables}
use Rattle.cell_laws.specs.Scopes.{IsScopeLive}
use Rattle.cell_laws.proofs.EachName.{Each, each_added, each_changed, each_put, each_kept, each_left, each_mapped, each_other, each_removed, each_set, each_weaker, each_without}
use Rattle.cell_laws.proofs.Happened.{from_rows, keeps-ticked}
use Rattle.cell_laws.proofs.LiveStays.{StayLive, begun_stays, deleted_stays, lost_stays, not_scoped, replied_stays, unused_stay, used_stay}

-- ---- something holds of the name of each object that has a scope

pub record NamesAre (P : Key → Type 0) (v : VariableTables) (e : EventTables) (j : Books) (rows : Rows) : Type 0 where
  pub variables : Each P v.vars.variables
  pub lists : Each P v.lists
  pub conditions : Each P e.conditions
  pub enrolments : Each P e.enrolments
  pub journals : Each P j
  pub semaphores : Each P rows

module _ (P Q : Key → Type 0) (v : VariableTables) (e : EventTables) (j : Books) (rows : Rows) where
  pub names_weaker : ((key : Key) → P key → Q key) → NamesAre P v e j rows → NamesAre Q v e j rows
  names_weaker weaker all = record {
    variables = each_weaker P Q weaker v.vars.variables all.variables;
    lists = each_weaker P Q weaker v.lists all.lists;
    conditions = each_weaker P Q weaker e.conditions all.conditions;
    enrolments = each_weaker P Q weaker e.enrolments all.enrolments;
    journals = each_weaker P Q weaker j all.journals;
    semaphores = each_weaker P Q weaker rows all.semaphores;
  }

  neither : (a b : Bool) → (a || b) ≡ false → (a ≡ false) × (b ≡ false)
  neither true b h = absurd (cc h)
  neither false b h = (refl, h)

  -- where none is of that scope
  names_other : (scope : Scope) → ((key : Key) → scope_eq key.scope scope ≡ false → P key → Q key)
      → (has_any_of scope v.vars.variables || has_any_of scope v.lists || has_any_of scope e.conditions || has_any_of scope e.enrolments || has_any_of scope j || has_any_of scope rows) ≡ false
      → NamesAre P v e j rows → NamesAre Q v e j rows
  names_other scope other none all =
      let z = neither (has_any_of scope v.vars.variables || has_any_of scope v.lists || has_any_of scope e.conditions || has_any_of scope e.enrolments || has_any_of scope j) (has_any_of scope rows) none in
      let a = neither (has_any_of scope v.vars.variables || has_any_of scope v.lists || has_any_of scope e.conditions || has_any_of scope e.enrolments) (has_any_of scope j) z.0 in
      let b = neither (has_any_of scope v.vars.variables || has_any_of scope v.lists || has_any_of scope e.conditions) (has_any_of scope e.enrolments) a.0 in
      let c = neither (has_any_of scope v.vars.variables || has_any_of scope v.lists) (has_any_of scope e.conditions) b.0 in
      let d = neither (has_any_of scope v.vars.variables) (has_any_of scope v.lists) c.0 in
      record {
        variables = each_other P Q scope other v.vars.variables d.0 all.variables;
        lists = each_other P Q scope other v.lists d.1 all.lists;
        conditions = each_other P Q scope other e.conditions c.1 all.conditions;
        enrolments = each_other P Q scope other e.enrolments b.1 all.enrolments;
        journals = each_other P Q scope other j a.1 all.journals;
        semaphores = each_other P Q scope other rows z.1 all.semaphores;
      }

-- ---- where its scope is a domain, that is live

abbrev pub HasLive : domain.Rows → Key → Type 0
HasLive domains key = IsScopeLive domains key.scope

abbrev pub AreLive : Tables → Type 0
AreLive t = NamesAre (HasLive t.domains.domains) t.variables t.events t.journals t.semaphores

live_stays : (before after : domain.Rows) → StayLive before after → (key : Key) → HasLive before key → HasLive after key
live_stays before after stays key live = by_scope key.scope live
  where
    by_scope : (s : Scope) → IsScopeLive before s → IsScopeLive after s
    by_scope (Domain name) live = stays name live
    by_scope Vmd live = tt
    by_scope (OfClient client) live = tt

all_stay : (before after : domain.Rows) (v : VariableTables) (e : EventTables) (j : Books) (rows : Rows) → StayLive before after → NamesAre (HasLive before) v e j rows
    → NamesAre (HasLive after) v e j rows
all_stay before after v e j rows stays all = names_weaker (HasLive before) (HasLive after) v e j rows (live_stays before after stays) all

-- another domain is deleted
others_stay : (name : List ℕ) (rows : domain.Rows) → IsDistinct name_eq (keys_of rows) → (key : Key) → scope_eq key.scope (Domain name) ≡ false → HasLive rows key
    → HasLive (without name rows) key
others_stay name rows distinct key apart live = by_scope key.scope apart live
  where
    by_scope : (s : Scope) → scope_eq s (Domain name) ≡ false → IsScopeLive rows s → IsScopeLive (without name rows) s
    by_scope (Domain other) apart live = deleted_stays name other rows distinct (nat_list_eq_equiv.symm name other ∙ apart) live
    by_scope Vmd apart live = tt
    by_scope (OfClient client) apart live = tt

-- ---- a new name isn't refused

not_false : (b : Bool) → not b ≡ false → b ≡ true
not_false true h = refl
not_false false h = absurd (cc h)

or_true : (a b : Bool) → a ≡ true → (a || b) ≡ true
or_true true b e = refl
or_true false b e = absurd (cc e)

-- where the domain is asked of, and nothing stands against it, it is live
new_live : (d : DomainTables) (client : ℕ) (given : ObjectName) (asks : Bool) → (is_of_domain given ≡ true → asks ≡ true)
    → (new.is_of_domain given && not (if asks then is_domain_live (domain_in given) d else false)) ≡ false → HasLive d.domains (key_of client given)
new_live d client (name.Domain domain item) asks of against = by_asks asks (of refl) against
  where
    by_asks : (b : Bool) → b ≡ true → not (if b then is_domain_live (Some domain) d else false) ≡ false → is_there is_live domain d.domains ≡ true
    by_asks true e h = not_false (is_there is_live domain d.domains) h
    by_asks false e h = absurd (cc e)
new_live d client (name.Vmd item) asks of against = tt
new_live d client (name.Association item) asks of against = tt

variable_against : (live : Bool) (client : ℕ) (x : DefineNamedVariable) (rows : cells.Rows) → variables.define_cause live client x rows ≡ None
    → (new.is_of_domain x.name && not live) ≡ false
variable_against live client x rows none =
    (none_holds (new.is_of_domain x.name && not live) object_undefined ((is_some (variable_named client x.name rows), object_exists)
    ∷ (is_none (cell_at x.address rows), invalid_address)
    ∷ (variables.has_other_type x.of (cell_at x.address rows), type_inconsistent)
    ∷ (nat_le variables.most_variables (length rows.variables), capability_unavailable) ∷ []) none).0

list_against : (live there : Bool) (client : ℕ) (x : DefineNamedVariableList) (rows : lists.Rows) → lists.define_cause live there client x rows ≡ None
    → (new.is_of_domain x.name && not live) ≡ false
list_against live there client x rows none =
    (none_holds (new.is_of_domain x.name && not live) object_undefined ((is_some (lists.members client x.name rows), object_exists)
    ∷ (not there, object_non_existent)
    ∷ (nat_le lists.most_lists (length rows), capability_unavailable) ∷ []) none).0

semaphore_against : (live : Bool) (client : ℕ) (x : DefineSemaphore) (rows : Rows) → define_cause live client x rows ≡ None → (new.is_of_domain x.name && not live) ≡ false
semaphore_against live client x rows none =
    (none_holds (new.is_of_domain x.name && not live) object_undefined ((is_some (semaphore client x.name rows), object_exists)
    ∷ (nat_le most_semaphores (length rows), capability_unavailable) ∷ []) none).0

condition_against : (live : Bool) (client : ℕ) (x : DefineEventCondition) (cell : CellFact) (rows : Conditions) → services.define_cause live client x cell rows ≡ None
    → (new.is_of_domain x.name && not live) ≡ false
condition_against live client x cell rows none =
    (none_holds (new.is_of_domain x.name && not live) object_undefined ((is_some (condition client x.name rows), object_exists)
    ∷ (is_some x.monitored && services.is_missing cell, object_undefined)
    ∷ (is_some x.monitored && services.is_other cell, type_inconsistent)
    ∷ (nat_le services.most_conditions (length rows), capability_unavailable) ∷ []) none).0

enrolment_against : (live there : Bool) (client : ℕ) (x : DefineEventEnrollment) (rows : enrol.Rows) → enrol.define_cause live there client x rows ≡ None
    → (new.is_of_domain x.name && not live) ≡ false
enrolment_against live there client x rows none =
    (none_holds (new.is_of_domain x.name && not live) object_undefined ((enrol.is_defined client x.name rows, object_exists)
    ∷ (not there, object_non_existent)
    ∷ (nat_le enrol.most_enrolments (length rows), capability_unavailable) ∷ []) none).0

journal_against : (live : Bool) (client : ℕ) (given : ObjectName) (rows : Books) → create_cause live client given rows ≡ None → (new.is_of_domain given && not live) ≡ false
journal_against live client given rows none =
    (none_holds (new.is_of_domain given && not live) object_undefined ((is_some (journal client given rows), object_exists)
    ∷ (nat_le most_journals (length rows), capability_unavailable) ∷ []) none).0

-- ---- a write changes cells alone

named_stay : (o : Option ℕ) (f : StoredCell → StoredCell) (rows : cells.Rows) → (change_named o f rows).variables ≡ rows.variables
named_stay None f rows = refl
named_stay (Some number) f rows = refl

written_stay : (client : ℕ) (x : Bool × (Spec × Datum)) (rows : cells.Rows) → (written client x rows).variables ≡ rows.variables
written_stay client (owns, x) rows = named_stay (number_named client x.0 rows) (with_value owns x.1) rows

pub writes_stay : (client : ℕ) (xs : List (Bool × (Spec × Datum))) (rows : cells.Rows) → (writes client xs rows).0.variables ≡ rows.variables
writes_stay client [] rows = refl
writes_stay client (x ∷ xs) rows = writes_stay client xs (written client x rows) ∙ written_stay client x rows

-- ---- what is done to event conditions and enrollments

module _ (P : Key → Type 0) where
  pub each_condition : (key : Key) (f : Condition → Condition) (rows : Conditions) → Each P rows → Each P (changed_condition key f rows)
  each_condition key f rows all = by_named (named_condition key rows)
    where
      by_named : (o : Option Condition) → Each P (option_map_or (λ c. set_value (key_eq key) rows (f c)) o rows)
      by_named None = all
      by_named (Some c) = each_set P (key_eq key) (f c) rows all

  pub each_gone : (client : ℕ) (rows : enrol.Rows) → Each P rows → Each P (enrol.without_client client rows)
  each_gone client rows all = each_without P (OfClient client) (filter (λ (row : Key × Enrolment). not (enrol.is_of client row)) rows) (each_kept P _ rows all)

  conditions_gone : (clients : List ℕ) (rows : Conditions) → Each P rows → Each P (conditions_without clients rows)
  conditions_gone [] rows all = all
  conditions_gone (client ∷ clients) rows all = conditions_gone clients (gone.without_client client rows) (each_without P (OfClient client) rows all)

  enrolments_gone : (clients : List ℕ) (rows : enrol.Rows) → Each P rows → Each P (enrolments_without clients rows)
  enrolments_gone [] rows all = all
  enrolments_gone (client ∷ clients) rows all = enrolments_gone clients (enrol.without_client client rows) (each_gone client rows all)

  abbrev EachOf : Ticking → Type 0
  EachOf s = Each P s.conditions × Each P s.enrolments

  events_ticked : (cells : Saying) (until : Moment) (s : Ticking) → EachOf s → EachOf (ticked_on cells until s)
  events_ticked cells until =
      keeps-ticked cells until EachOf
      (λ s d x due is all. (
        conditions_gone (aborted (met_as (from_rows s.semaphores) d x).happened) s.conditions all.0,
        enrolments_gone (aborted (met_as (from_rows s.semaphores) d x).happened) s.enrolments all.1,
      ))
      (λ s d all. (each_condition d.key _ s.conditions all.0, all.1))

-- ---- what is done to journals

module _ (P : Key → Type 0) where
  pub each_journal : (key : Key) (f : Log → Log) (rows : Books) → Each P rows → Each P (changed_journal key f rows)
  each_journal key f rows all = by_named (named_journal key rows)
    where
      by_named : (o : Option Log) → Each P (option_map_or (λ j. set_value (key_eq key) rows (f j)) o rows)
      by_named None = all
      by_named (Some j) = each_set P (key_eq key) (f j) rows all

-- ---- what is done to semaphores

module _ (P : Key → Type 0) where
  pub each_cancelled : (key : Key) (number : ℕ) (rows : Rows) → Each P rows → Each P (cancelled key number rows)
  each_cancelled key number rows all = by_test (entry_waits (entry_in key number rows))
    where
      by_test : (b : Bool) → Each P (if b then cancel_after key number rows else rows)
      by_test true = each_changed P (without_entry number) key rows all
      by_test false = all

  each_lost : (client : ℕ) (now : Moment) (rows : Rows) → Each P rows → Each P (lost client now rows)
  each_lost client now rows all =
      each_without P (OfClient client) (all_changed (without_owners client now) (all_changed (without_waiters client) rows))
      (each_mapped P (without_owners client now) (all_changed (without_waiters client) rows)
      (each_mapped P (without_waiters client) rows all))

  each_aborted : (aborts : Bool) (client : ℕ) (now : Moment) (rows : Rows) → Each P rows → Each P (after_abort aborts client now rows)
  each_aborted true client now rows is = each_lost client now rows is
  each_aborted false client now rows is = is

  each_ticked : (cells : Saying) (until : Moment) (s : Ticking) → Each P s.semaphores → Each P (ticked_on cells until s).semaphores
  each_ticked cells until =
      keeps-ticked cells until (λ s. Each P s.semaphores)
      (λ s d x due is all. each_aborted x.abort x.client d.at (expire_after d.key d.entry d.at s.semaphores) (each_changed P (without_due d.entry d.at) d.key s.semaphores all))
      (λ s d all. all)

-- ---- a request

-- what is done isn't refused
pub none_refused : (size invoke : ℕ) (why : Option ServiceError) (told : Option Answer) → is_done size invoke why told ≡ true → why ≡ None
none_refused size invoke None told done = refl
none_refused size invoke (Some refusal) told done = absurd (cc done)

module _ (t : Tables) (all : AreLive t) where
  abbrev Live : Key → Type 0
  Live key = HasLive t.domains.domains key

  -- variables, lists or semaphores become others
  with_variables : (rows : List (Key × Variable)) → Each Live rows → AreLive (record t { variables = record t.variables { vars = record t.variables.vars { variables = rows } } })
  with_variables rows each = record { variables = each; lists = all.lists; conditions = all.conditions; enrolments = all.enrolments; journals = all.journals; semaphores = all.semaphores }

  with_lists : (rows : lists.Rows) → Each Live rows → AreLive (record t { variables = record t.variables { lists = rows } })
  with_lists rows each = record { variables = all.variables; lists = each; conditions = all.conditions; enrolments = all.enrolments; journals = all.journals; semaphores = all.semaphores }

  with_semaphores : (rows : Rows) → Each Live rows → AreLive (record t { semaphores = rows })
  with_semaphores rows each = record { variables = all.variables; lists = all.lists; conditions = all.conditions; enrolments = all.enrolments; journals = all.journals; semaphores = each }

  -- so do event conditions and enrollments
  with_events : (e : EventTables) → Each Live e.conditions → Each Live e.enrolments → AreLive (record t { events = e })
  with_events e conditions enrolments = record { variables = all.variables; lists = all.lists; conditions = conditions; enrolments = enrolments; journals = all.journals; semaphores = all.semaphores }

  -- so do journals
  with_journals : (rows : Books) → Each Live rows → AreLive (record t { journals = rows })
  with_journals rows each =
      record { variables = all.variables; lists = all.lists; conditions = all.conditions; enrolments = all.enrolments; journals = each; semaphores = all.semaphores }

  -- domains become others
  with_domains : (d : DomainTables) → StayLive t.domains.domains d.domains → AreLive (record t { domains = d })
  with_domains d stay = all_stay t.domains.domains d.domains t.variables t.events t.journals t.semaphores stay all

  module _ (row : ClientRow) (invoke : ℕ) where
    with_take_live : (x : TakeControl) → AreLive (record t { semaphores = take_after row.client invoke (moment_of t) x t.semaphores })
    with_take_live x =
        with_semaphores (take_after row.client invoke (moment_of t) x t.semaphores)
        (each_changed Live (with_take row.client invoke x (moment_of t)) (key_of row.client x.name) t.semaphores all.semaphores)

    taken_live : (x : TakeControl) (o : Option TakeDone) → AreLive (take_outcome t row.client invoke x o).tables
    taken_live x None = all
    taken_live x (Some (Answered told)) = with_take_live x
    taken_live x (Some (Waits entry)) = with_take_live x

    effect_live : (asked : Request) → cause t row asked ≡ None → IsDistinct name_eq (keys_of t.domains.domains) → AreLive (effect t row invoke asked).tables
    effect_live (request.Write x) none distinct = record {
      variables = subst (λ (rows : List (Key × Variable)). Each Live rows)
          (sym (writes_stay row.client (flagged (told_in own_variables t row (write x)).owned (pairs row.client x t.variables)) t.variables.vars)) all.variables;
      lists = all.lists;
      conditions = all.conditions;
      enrolments = all.enrolments;
      journals = all.journals;
      semaphores = all.semaphores;
    }
    effect_live (request.DefineNamedVariable x) none distinct =
        let asks : Bool = is_of_domain x.name in
        let live : Bool = if asks then is_domain_live (domain_in x.name) t.domains else false in
        with_variables (variables.defined row.client x t.variables.vars).variables
        (each_added Live t.variables.vars.variables (key_of row.client x.name, record { cell = x.address; configured = false }) all.variables
        (new_live t.domains row.client x.name asks (λ e. e) (variable_against live row.client x t.variables.vars none)))
    effect_live (request.DeleteVariableAccess x) none distinct =
        with_variables (variables.without (selects row.client x) t.variables.vars).variables
        (each_left Live variables.is_fixed (selects row.client x) t.variables.vars.variables all.variables)
    effect_live (request.DefineNamedVariableList x) none distinct =
        let asks : Bool = is_of_domain x.name || list_any specifies_domain x.variables in
        let live : Bool = if asks then is_domain_live (domain_in x.name) t.domains else false in
        with_lists (lists.defined row.client x t.variables.lists)
        (each_added Live t.variables.lists (key_of row.client x.name, record { variables = x.variables }) all.lists
        (new_live t.domains row.client x.name asks (or_true (is_of_domain x.name) (list_any specifies_domain x.variables))
        (list_against live (are_there row.client x.variables t.variables.vars) row.client x t.variables.lists none)))
    effect_live (request.DeleteNamedVariableList x) none distinct =
        with_lists (lists.without (selects row.client x) t.variables.lists) (each_left Live lists.is_fixed (selects row.client x) t.variables.lists all.lists)
    effect_live (request.TakeControl x) none distinct = taken_live x (take_told row.client x t.semaphores)
    effect_live (request.RelinquishControl x) none distinct = by_grant (relinquish_granted row.client x t.semaphores)
      where
        by_grant : (o : Option (Option Granted)) → AreLive (relinquish_outcome t row.client x o).tables
        by_grant None = all
        by_grant (Some grant) =
            with_semaphores (relinquish_after row.client (moment_of t) x t.semaphores)
            (each_changed Live (with_token_back row.client x.token (moment_of t)) (key_of row.client x.name) t.semaphores all.semaphores)
    effect_live (request.DefineSemaphore x) none distinct =
        let asks : Bool = is_of_domain x.name in
        let live : Bool = if asks then is_domain_live (domain_in x.name) t.domains else false in
        with_semaphores (define_after row.client x t.semaphores)
        (each_put Live part_of_row t.semaphores (key_of row.client x.name, record { configured = false; semaphore = new_semaphore x.tokens }) all.semaphores
        (new_live t.domains row.client x.name asks (λ e. e) (semaphore_against live row.client x t.semaphores none)))
    effect_live (request.DeleteSemaphore x) none distinct =
        with_semaphores (delete_after row.client x t.semaphores) (each_removed Live (key_eq (key_of row.client x)) t.semaphores all.semaphores)
    effect_live (request.InitiateDownloadSequence x) none distinct =
        with_domains (record t.domains { domains = initiate_after row.client x t.domains.domains }) (begun_stays row.client x t.domains.domains)
    effect_live (request.DeleteDomain name) none distinct =
        names_other Live (HasLive (without name t.domains.domains)) t.variables t.events t.journals t.semaphores (Domain name) (others_stay name t.domains.domains distinct)
        (not_scoped name (uploads_of name t.domains.uploads) (is_scope_used name t) t.domains.domains none) all
    effect_live (request.CreateProgramInvocation x) none distinct =
        with_domains (programs.with_domains (after_used x.domains x.name t.domains.domains) t.domains) (used_stay x.domains x.name t.domains.domains)
    effect_live (request.DeleteProgramInvocation name) none distinct = by_found (program.named name t.programs)
      where
        by_found : (o : Option Invocation)
            → AreLive (record t { domains = option_map_or (λ p. programs.with_domains (after_unused p.domains name t.domains.domains) t.domains) o t.domains })
        by_found None = all
        by_found (Some p) = with_domains (programs.with_domains (after_unused p.domains name t.domains.domains) t.domains) (unused_stay p.domains name t.domains.domains)
    effect_live (request.DefineEventCondition x) none distinct =
        let asks : Bool = is_of_domain x.name || option_map_or is_in_domain (variable_of x.monitored) false in
        let live : Bool = if asks then is_domain_live (domain_in x.name) t.domains else false in
        let facts : Facts = told_in own_events t row (define_condition x) in
        with_events (record t.events { conditions = after_define row.client facts.now x (facts.cell row.client) t.events.conditions })
        (each_added Live t.events.conditions (key_of row.client x.name, defined facts.now x (facts.cell row.client)) all.conditions
        (new_live t.domains row.client x.name asks (or_true (is_of_domain x.name) (option_map_or is_in_domain (variable_of x.monitored) false))
        (condition_against live row.client x (facts.cell row.client) t.events.conditions none))) all.enrolments
    effect_live (request.DeleteEventCondition x) none distinct =
        let facts : Facts = told_in own_events t row (delete_conditions x) in
        with_events (after_delete row.client facts.now x t.events) (each_kept Live _ t.events.conditions all.conditions) (each_kept Live _ t.events.enrolments all.enrolments)
    effect_live (request.AlterEventConditionMonitoring x) none distinct =
        let facts : Facts = told_in own_events t row (alter_condition x) in
        with_events (after_alter row.client facts.now facts.truth x t.events) (each_condition Live (key_of row.client x.name) _ t.events.conditions all.conditions) all.enrolments
    effect_live (request.TriggerEvent x) none distinct =
        let facts : Facts = told_in own_events t row (trigger x) in
        with_events (after_trigger row.client facts.now x.name t.events) (each_condition Live (key_of row.client x.name) _ t.events.conditions all.conditions) all.enrolments
    effect_live (request.DefineEventEnrollment x) none distinct =
        let asks : Bool = is_of_domain x.name || is_of_domain x.condition in
        let live : Bool = if asks then is_domain_live (domain_in x.name) t.domains else false in
        with_events (record t.events { enrolments = enrol.defined row.client x t.events.enrolments }) all.conditions
        (each_added Live t.events.enrolments
        (key_of row.client x.name, record { client = row.client; condition = key_of row.client x.condition; transitions = x.transitions; rule = x.rule }) all.enrolments
        (new_live t.domains row.client x.name asks (or_true (is_of_domain x.name) (is_of_domain x.condition))
        (enrolment_against live (is_there_named row.client t.events.conditions x.condition) row.client x t.events.enrolments none)))
    effect_live (request.DeleteEventEnrollment x) none distinct =
        with_events (record t.events { enrolments = enrol.after_delete row.client x t.events.enrolments }) all.conditions (each_kept Live _ t.events.enrolments all.enrolments)
    effect_live (request.CreateJournal given) none distinct =
        let asks : Bool = is_of_domain given in
        let live : Bool = if asks then is_domain_live (domain_in given) t.domains else false in
        with_journals (after_create row.client given t.journals)
        (each_added Live t.journals (key_of row.client given, created) all.journals
        (new_live t.domains row.client given asks (λ e. e) (journal_against live row.client given t.journals none)))
    effect_live (request.DeleteJournal given) none distinct =
        with_journals (after_delete_journal row.client given t.journals) (each_removed Live (key_eq (key_of row.client given)) t.journals all.journals)
    effect_live (request.WriteJournal x) none distinct =
        with_journals (after_write row.client x.name x.entries t.journals) (each_journal Live (key_of row.client x.name) (written_by row.client x.entries) t.journals all.journals)
    effect_live (request.InitializeJournal x) none distinct =
        with_journals (after_initialize row.client x t.journals) (each_journal Live (key_of row.client x.name) (initialized x.limit) t.journals all.journals)
    effect_live asked none distinct = all

    served_live : (asked : Request) → IsDistinct name_eq (keys_of t.domains.domains) → AreLive (tables_served t row invoke (area_of asked))
    served_live asked distinct = by_test (is_served_in t row invoke (area_of asked)) refl
      where
        by_test : (b : Bool) → is_served_in t row invoke (area_of asked) ≡ b → AreLive (if b then (effect t row invoke asked).tables else t)
        by_test true done =
            effect_live asked (none_refused (size_of row.association) invoke (cause t row asked) (effect t row invoke asked).answer done) distinct
        by_test false done = all

  -- ---- a client answers to a request of a load

  module _ (row : ClientRow) where
    replied_live : (number : ℕ) (came : Came) → IsOfLoad row.asked number came → AreLoads row.client row.asked t.domains.domains
        → IsDistinct name_eq (keys_of t.domains.domains) → AreLive (tables_served t row number (reply_in number came))
    replied_live number came is loads distinct = by_test (is_served_in t row number (reply_in number came))
      where
        after : Option (Asked × List ℕ) → Tables
        after o = (among own_domains t (replied_to row.client number came o t.domains)).tables

        by_test : (b : Bool) → AreLive (if b then (effect_of t row number (reply_in number came)).tables else t)
        by_test true =
            subst (λ (o : Option (Asked × List ℕ)). AreLive (after o)) (sym is.asked)
            (with_domains (record t.domains { domains = reply_after (reply_of came is.of) t.domains.domains })
            (replied_stays row.client (reply_of came is.of) t.domains.domains distinct (loads_it t.domains row.client number row.asked came is loads)))
        by_test false = all

    -- ---- a client is lost

    gone_live : (client : ℕ) → AreLive (without_client client t)
    gone_live client =
        let stayed = with_domains (domains.lost client t.domains) (lost_stays client t.domains.domains) in
        let Then : Key → Type 0 = HasLive (without_loads client t.domains.domains) in
        record {
          variables = each_without Then (OfClient client) t.variables.vars.variables stayed.variables;
          lists = each_without Then (OfClient client) t.variables.lists stayed.lists;
          conditions = each_without Then (OfClient client) t.events.conditions stayed.conditions;
          enrolments = each_gone Then client t.events.enrolments stayed.enrolments;
          journals = each_without Then (OfClient client) t.journals stayed.journals;
          semaphores = each_lost Then client (moment_of t) t.semaphores stayed.semaphores;
        }

    pub lost_live : (a : Association) (client : ℕ) → AreLive (tables_lost a client t)
    lost_live Idle client = all
    lost_live (Open values) client = gone_live client

    -- ---- what is heard

    pub heard_live : (v : Verdict) → IsSaid row v → ((number : ℕ) (came : Came) → IsOfLoad row.asked number came → AreLoads row.client row.asked t.domains.domains)
        → IsDistinct name_eq (keys_of t.domains.domains) → AreLive (tables_heard t row v)
    heard_live (Takes invoke asked) said loads distinct = served_live row invoke asked distinct
    heard_live (Tells effects) said loads distinct = all
    heard_live (Replies number came) said loads distinct = replied_live number came said (loads number came said) distinct
    heard_live (Exhausts invoke) said loads distinct = gone_live row.client
    heard_live Concludes said loads distinct = gone_live row.client
    heard_live (Cancels invoke) said loads distinct = by_waiting (waiting_of invoke row.waiting)
      where
        by_waiting : (o : Option Waiting) → AreLive (tables_cancelled o t)
        by_waiting None = all
        by_waiting (Some request) = with_semaphores (cancelled request.key request.entry t.semaphores) (each_cancelled Live request.key request.entry t.semaphores all.semaphores)
    heard_live Aborts said loads distinct = gone_live row.client

  -- ---- time goes by

  module _ (P : Key → Type 0) where
    variables_left : (clients : List ℕ) (v : VariableTables) → Each P v.vars.variables → Each P (without_clients clients v).vars.variables
    variables_left [] v each = each
    variables_left (client ∷ clients) v each = variables_left clients (variables_lost client v) (each_without P (OfClient client) v.vars.variables each)

    lists_left : (clients : List ℕ) (v : VariableTables) → Each P v.lists → Each P (without_clients clients v).lists
    lists_left [] v each = each
    lists_left (client ∷ clients) v each = lists_left clients (variables_lost client v) (each_without P (OfClient client) v.lists each)

    journals_left : (clients : List ℕ) (j : Books) → Each P j → Each P (journals_without clients j)
    journals_left [] j each = each
    journals_left (client ∷ clients) j each = journals_left clients (journals_lost client j) (each_without P (OfClient client) j each)

  domains_stay : (clients : List ℕ) (d : DomainTables) → StayLive d.domains (domains_without clients d).domains
  domains_stay [] d name live = live
  domains_stay (client ∷ clients) d name live = domains_stay clients (domains.lost client d) name (lost_stays client d.domains name live)

  pub passed_live : (ms : ℕ) → AreLive (passed ms t (meanwhile ms t)).tables
  passed_live ms =
      let clients : List ℕ = lost_in (meanwhile ms t).happened in
      let stayed = with_domains (domains_without clients t.domains) (domains_stay clients t.domains) in
      let Then : Key → Type 0 = HasLive (domains_without clients t.domains).domains in
      record {
        variables = variables_left Then clients t.variables stayed.variables;
        lists = lists_left Then clients t.variables stayed.lists;
        conditions = (events_ticked Then (saying t.variables) (moment_after ms t) (begun t.semaphores t.events.conditions t.events.enrolments) (stayed.conditions, stayed.enrolments)).0;
        enrolments = (events_ticked Then (saying t.variables) (moment_after ms t) (begun t.semaphores t.events.conditions t.events.enrolments) (stayed.conditions, stayed.enrolments)).1;
        journals = journals_left Then clients t.journals stayed.journals;
        semaphores = each_ticked Then (saying t.variables) (moment_after ms t) (begun t.semaphores t.events.conditions t.events.enrolments) stayed.semaphores;
      }
