-- Laws of what an event makes of the parts that are held: the device is one of tables and clients, and each event reads
-- and changes the tables that it uses alone.
use Rattle.std.specs.Prelude.{◌≡◌, ℕ, zero, suc, ◌+◌, Bool, true, false, ◌||◌, ◌++◌, Option, None, Some, is_some, List, [], ◌∷◌, if◌then◌else◌, slice_get, refl}
use Rattle.std.specs.List.{list_any}
use Rattle.std.proofs.Common.{ap, ap₂, sym, ◌∙◌, arith}
use Rattle.mms_types.specs.declared.event.CellEvent.{CellEvent}
use Rattle.mms_types.specs.declared.event.CellEvent.TheVariants.{Heard, Lost, Tick, Ends, Drain}
use Rattle.mms_types.specs.declared.name_list.ObjectClass.TheVariants as class
use Rattle.mms_types.specs.declared.service_error.ServiceError.{ServiceError}
use Rattle.mms_types.specs.declared.key.Scope.TheVariants.{Domain}
use Rattle.object_names.specs.Listing.{names_after}
use Rattle.object_names.specs.Scopes.{has_any_of}
use Rattle.variables.specs.Access.{flags_of}
use Rattle.variable_services.specs.declared.tables.VariableTables.{VariableTables}
use Rattle.mms_time.specs.Guards.{owns_guard}
use Rattle.mms_time.specs.Semaphores.{Rows}
use Rattle.association.specs.declared.negotiation.Association.{Association}
use Rattle.association.specs.declared.negotiation.Association.TheVariants.{Idle, Open}
use Rattle.association.specs.declared.waiting.Waiting.{Waiting}
use Rattle.association.specs.Client.{ClientRow}
use Rattle.part_table.specs.Held.{held_at, places_held, laid_over, IsHandOf}
use Rattle.parted_state.specs.Area.{Own, no_table, Area, Plan, area_plan, AllIn, IsTable, IsOwn, AreTold, IsPlan}
use Rattle.parted_state.specs.AreaLaws.{merged_within, none_own, table_same, table_own, both_own, area_law}
use Rattle.parted_state.specs.Cut.{is_in, IsFramed}
use Rattle.parted_state.specs.CutLaws.{in_back, in_front}
use Rattle.parted_state.specs.Served.{Done, IsDevice, IsServed}
use Rattle.parted_state.specs.Served as parted
use Rattle.parted_state.specs.ServedLaws as served
use Rattle.step_parts.specs.declared.part.Part.{Part}
use Rattle.step_parts.specs.declared.part.Part.TheVariants.{Clock, Domains, Events, Journals, Programs, Semaphores, Variables}
use Rattle.step_parts.specs.State.{State}
use Rattle.cell_services.specs.Tables.{Tables, clock_table, variables_table, domains_table, programs_table, conditions_table, journals_table, semaphores_table, loss_tables, moment_after, own_clock, own_variables, own_domains, own_invocations, own_programs, own_events, own_journals, own_semaphores}
use Rattle.mms_journal.specs.Journals as journal
use Rattle.program_inv.specs.Programs as program
use Rattle.domain_upload.specs.Uploads.{has_upload}
use Rattle.cell_client.specs.Areas.{lacks_number_in}
use Rattle.cell_client.specs.Facts.{no_facts}
use Rattle.cell_client.specs.Effects.{Effect, tell}
use Rattle.cell_client.specs.Association.{Verdict, Tells, Takes, Replies, Exhausts, Concludes, Cancels, Aborts, verdict, cancel_told, keeps_open, loss_told}
use Rattle.cell_services.specs.Facts.{Question, Now, Live, Owned, Scoped, Names, Cell, Truth, Facts, cell_of, domains_listed, guard_tables, programs_listed, is_domain_live, is_true, tables_for, noted, tells}
use Rattle.serve_domains.specs.Tables.{DomainTables}
use Rattle.serve_events.specs.declared.tables.EventTables.{EventTables}
use Rattle.event_cond.specs.Skips.{any_due}
use Rattle.cell_ticks.specs.Ticks.{Ticking, begun, most_left}
use Rattle.variable_services.specs.Services.{no_variables}
use Rattle.cell_services.specs.Requests.{OutcomeIn, RequestIn, asks_in, more_in, told_in, cause_in, effect_in}
use Rattle.cell_services.specs.Services.{InArea, OfDevice, OfVariables, OfDomains, OfInvocations, OfPrograms, OfEvents, OfJournals, OfSemaphores, area_of, reply_in, asks_of, more_of, cause_of, effect_of, lacks_number}
use Rattle.cell_client.specs.Requests.{is_done, request_told, size_of}
use Rattle.cell_services.specs.Serving.{tables_cancelled, tables_lost, waiting_of, without_clients, also_lost, all_told, comes_of, domains_without, hears, journals_without, keeps_upload, more_of_verdict, resolved, heard_asks, heard_more, loss_asks, lost_in, meanwhile, abort_asks, aborted_meanwhile, evaluation_asks, passes, saying, time_asks, services, words}
use Rattle.step_parts.specs.Partition.{IsInOrder, cell, clock_in, domains_in, events_in, journals_in, programs_in, semaphores_in, variables_in, parts_of}
use Rattle.step_parts.specs.Step.{step}
use Rattle.step_parts.specs.Needs.{need, wants}
use Rattle.step_parts.specs.After.{after, parts_after}
use Rattle.step_parts.specs.TimeLaws.{none_lost, same_saying}

-- ---- the device is one of tables and clients

by_place : (one other : List (Option Part)) (table : ℕ) → held_at one table ≡ held_at other table
    → slice_get (cell.table_parts (cell.tables_in one)) table ≡ slice_get (cell.table_parts (cell.tables_in other)) table
by_place one other zero same = ap (λ (o : Option Part). Some (Clock (clock_in o))) same
by_place one other (suc zero) same = ap (λ (o : Option Part). Some (Variables (variables_in o))) same
by_place one other (suc (suc zero)) same = ap (λ (o : Option Part). Some (Domains (domains_in o))) same
by_place one other (suc (suc (suc zero))) same = ap (λ (o : Option Part). Some (Programs (programs_in o))) same
by_place one other (suc (suc (suc (suc zero)))) same = ap (λ (o : Option Part). Some (Events (events_in o))) same
by_place one other (suc (suc (suc (suc (suc zero))))) same = ap (λ (o : Option Part). Some (Journals (journals_in o))) same
by_place one other (suc (suc (suc (suc (suc (suc zero)))))) same = ap (λ (o : Option Part). Some (Semaphores (semaphores_in o))) same
by_place one other (suc (suc (suc (suc (suc (suc (suc table))))))) same = refl

pub is_device : IsDevice cell
is_device = record {
  many = λ t. refl;
  behind = omega arith;
  in_order = λ hand. tt;
  shown = λ t. refl;
  whole = λ t ordered. refl;
  by_place = by_place;
  row_back = λ row. refl;
  tables_back = λ t rows. refl;
  clients_back = λ t rows. refl;
  state_back = λ s. refl;
}

-- ---- each event reads and changes the tables that it uses alone

abbrev alone : List ℕ → Tables → Tables
alone us t = parted.masked cell us t

as_it_was : (us : List ℕ) (t : Tables) → parted.merged cell us (alone us t) t ≡ t
as_it_was us t = served.merged_masked cell is_device us t tt

-- ---- each area's table, and each question

abbrev pub is_clock : IsTable cell own_clock
is_clock = record { number = clock_table; part = Clock; part_in = clock_in; one = refl; shown = λ hand. refl; keeps = λ new t ordered. tt; puts = λ new t. refl }

abbrev pub is_variables : IsTable cell own_variables
is_variables = record { number = variables_table; part = Variables; part_in = variables_in; one = refl; shown = λ hand. refl; keeps = λ new t ordered. tt; puts = λ new t. refl }

abbrev pub is_domains : IsTable cell own_domains
is_domains = record { number = domains_table; part = Domains; part_in = domains_in; one = refl; shown = λ hand. refl; keeps = λ new t ordered. tt; puts = λ new t. refl }

abbrev pub is_programs : IsTable cell own_programs
is_programs = record { number = programs_table; part = Programs; part_in = programs_in; one = refl; shown = λ hand. refl; keeps = λ new t ordered. tt; puts = λ new t. refl }

abbrev pub is_events : IsTable cell own_events
is_events = record { number = conditions_table; part = Events; part_in = events_in; one = refl; shown = λ hand. refl; keeps = λ new t ordered. tt; puts = λ new t. refl }

abbrev pub is_journals : IsTable cell own_journals
is_journals = record { number = journals_table; part = Journals; part_in = journals_in; one = refl; shown = λ hand. refl; keeps = λ new t ordered. tt; puts = λ new t. refl }

abbrev pub is_semaphores : IsTable cell own_semaphores
is_semaphores = record { number = semaphores_table; part = Semaphores; part_in = semaphores_in; one = refl; shown = λ hand. refl; keeps = λ new t ordered. tt; puts = λ new t. refl }

-- where no variable is guarded, semaphores tell nothing
none_owned : (client : ℕ) (rows other : Rows) (guards : List (Option (List ℕ))) → list_any is_some guards ≡ false
    → flags_of (λ guard. owns_guard client guard rows) guards ≡ flags_of (λ guard. owns_guard client guard other) guards
none_owned client rows other [] none = refl
none_owned client rows other (None ∷ guards) none = ap (λ (owned : List Bool). false ∷ owned) (none_owned client rows other guards none)
none_owned client rows other (Some guard ∷ guards) none = absurd (cc none)

abbrev scope_used : List ℕ → VariableTables → EventTables → journal.Rows → Rows → Bool
scope_used domain v e j rows =
    has_any_of (Domain domain) v.vars.variables || has_any_of (Domain domain) v.lists || has_any_of (Domain domain) e.conditions || has_any_of (Domain domain) e.enrolments
    || has_any_of (Domain domain) j || has_any_of (Domain domain) rows

told_same : (k : Question) (facts : Facts) (us : List ℕ) (t : Tables) → AllIn cell (tables_for k) us → noted k (alone us t) facts ≡ noted k t facts
told_same Now facts us t all =
    ap (λ (now : ℕ). record facts { now = record { 0 = now } }) (table_same cell is_device own_clock is_clock us t tt (all clock_table refl))
told_same (Live true domain) facts us t all =
    ap (λ (d : DomainTables). record facts { live = is_domain_live domain d }) (table_same cell is_device own_domains is_domains us t tt (all domains_table refl))
told_same (Live false domain) facts us t all = refl
told_same (Scoped domain) facts us t all =
    ap₂ (λ (v : VariableTables) (rows : Rows). record facts { scoped = scope_used domain v (alone us t).events (alone us t).journals rows })
    (table_same cell is_device own_variables is_variables us t tt (all variables_table refl))
    (table_same cell is_device own_semaphores is_semaphores us t tt (all semaphores_table refl))
    ∙ ap₂ (λ (e : EventTables) (j : journal.Rows). record facts { scoped = scope_used domain t.variables e j t.semaphores })
    (table_same cell is_device own_events is_events us t tt (all conditions_table refl))
    (table_same cell is_device own_journals is_journals us t tt (all journals_table refl))
told_same (Owned client guards) facts us t all = by_guards (list_any is_some guards) refl all
  where
    by_guards : (b : Bool) → list_any is_some guards ≡ b → AllIn cell (guard_tables b) us
        → noted (Owned client guards) (alone us t) facts ≡ noted (Owned client guards) t facts
    by_guards true e all =
        ap (λ (rows : Rows). record facts { owned = flags_of (λ guard. owns_guard client guard rows) guards })
        (table_same cell is_device own_semaphores is_semaphores us t tt (all semaphores_table refl))
    by_guards false e all = ap (λ (owned : List Bool). record facts { owned = owned }) (none_owned client (alone us t).semaphores t.semaphores guards e)
told_same (Cell None) facts us t all = refl
told_same (Cell (Some variable)) facts us t all =
    ap (λ (v : VariableTables). record facts { cell = cell_of (Some variable) v.vars })
    (table_same cell is_device own_variables is_variables us t tt (all variables_table refl))
told_same (Truth None) facts us t all = refl
told_same (Truth (Some number)) facts us t all =
    ap (λ (v : VariableTables). record facts { truth = is_true (Some number) v.vars })
    (table_same cell is_device own_variables is_variables us t tt (all variables_table refl))
told_same (Names class.NamedVariable) facts us t all =
    ap (λ (v : VariableTables). record facts { names = λ s after. names_after s after v.vars.variables })
    (table_same cell is_device own_variables is_variables us t tt (all variables_table refl))
told_same (Names class.NamedVariableList) facts us t all =
    ap (λ (v : VariableTables). record facts { names = λ s after. names_after s after v.lists })
    (table_same cell is_device own_variables is_variables us t tt (all variables_table refl))
told_same (Names class.Semaphore) facts us t all =
    ap (λ (rows : Rows). record facts { names = λ s after. names_after s after rows })
    (table_same cell is_device own_semaphores is_semaphores us t tt (all semaphores_table refl))
told_same (Names class.EventCondition) facts us t all =
    ap (λ (e : EventTables). record facts { names = λ s after. names_after s after e.conditions })
    (table_same cell is_device own_events is_events us t tt (all conditions_table refl))
told_same (Names class.EventEnrollment) facts us t all =
    ap (λ (e : EventTables). record facts { names = λ s after. names_after s after e.enrolments })
    (table_same cell is_device own_events is_events us t tt (all conditions_table refl))
told_same (Names class.Journal) facts us t all =
    ap (λ (rows : journal.Rows). record facts { names = λ s after. names_after s after rows })
    (table_same cell is_device own_journals is_journals us t tt (all journals_table refl))
told_same (Names class.Domain) facts us t all =
    ap (λ (d : DomainTables). record facts { names = λ s after. domains_listed d s after })
    (table_same cell is_device own_domains is_domains us t tt (all domains_table refl))
told_same (Names class.ProgramInvocation) facts us t all =
    ap (λ (p : program.Rows). record facts { names = λ s after. programs_listed p s after })
    (table_same cell is_device own_programs is_programs us t tt (all programs_table refl))
told_same (Names c) facts us t all = refl

are_told : AreTold cell tells
are_told = record { same = λ k facts us t ordered all. told_same k facts us t all }

-- ---- each area: a request that is taken is settled by the tables that it uses alone

-- a request of that cause and that outcome is done, or its table stays as it is
abbrev settled : {A : Type 0} → ℕ → ℕ → ℕ → Option ServiceError → OutcomeIn A → A → Done A Effect
settled size client invoke why o own = record {
  tables = if is_done size invoke why o.answer then o.tables else own;
  told = tell client (request_told size invoke why o.answer) ++ (if is_done size invoke why o.answer then o.also else []);
}

-- of a client's row, its number and the invokeID
abbrev requests : {A : Type 0} → Area A (ClientRow × (ℕ × ℕ)) Effect (RequestIn A) Question Facts
requests = record {
  words = λ who r. r.words;
  more = λ own who r. r.more own who.0;
  serves = λ facts own who r. settled (size_of who.0.association) who.1.0 who.1.1 (r.cause facts own who.0) (r.effect facts own who.0 who.1.1) own;
}

module _ {A : Type 0} (own : Own Tables A) (is_own : IsOwn cell own) (stays : (t : Tables) → own.put (own.of t) t ≡ t)
    (row : ClientRow) (client invoke : ℕ) (r : RequestIn A) where
  abbrev plan : Plan Tables Effect
  plan = area_plan own tells requests (row, (client, invoke)) r

  is_plan : IsPlan cell plan
  is_plan = area_law cell is_device tells are_told own is_own requests (row, (client, invoke)) r

  abbrev taken_in : Tables → Done Tables Effect
  taken_in t = settled (size_of row.association) client invoke (cause_in own t row r) (effect_in own t row invoke r) t

  planned : (t : Tables) → taken_in t ≡ plan.does t
  planned t = by_test (is_done (size_of row.association) invoke (cause_in own t row r) (effect_in own t row invoke r).answer)
    where
      told : Bool → List (ℕ × Effect)
      told b = tell client (request_told (size_of row.association) invoke (cause_in own t row r) (effect_in own t row invoke r).answer)
          ++ (if b then (effect_in own t row invoke r).also else [])

      at : Tables → List (ℕ × Effect) → Done Tables Effect
      at x l = record { tables = x; told = l }

      by_test : (b : Bool) → at (if b then (effect_in own t row invoke r).tables else t) (told b)
          ≡ at (own.put (if b then (r.effect (told_in own t row r) (own.of t) row invoke).tables else own.of t) t) (told b)
      by_test true = refl
      by_test false = ap (λ (x : Tables). at x (told false)) (sym (stays t))

  abbrev uses : Tables → List ℕ
  uses t = asks_in own r ++ (more_in own t row r ++ [])

  taken_within : (t : Tables) → taken_in t ≡ parted.done_within cell (uses t) t (taken_in (alone (uses t) t))
  taken_within t =
      planned t ∙ is_plan.within t tt ∙ ap (λ (d : Done Tables Effect). parted.done_within cell (uses t) t d) (sym (planned (alone (uses t) t)))

variables_own : IsOwn cell own_variables
variables_own = table_own cell is_device own_variables is_variables

domains_own : IsOwn cell own_domains
domains_own = table_own cell is_device own_domains is_domains

programs_own : IsOwn cell own_programs
programs_own = table_own cell is_device own_programs is_programs

invocations_own : IsOwn cell own_invocations
invocations_own = both_own cell is_device own_domains own_programs domains_own programs_own

events_own : IsOwn cell own_events
events_own = table_own cell is_device own_events is_events

journals_own : IsOwn cell own_journals
journals_own = table_own cell is_device own_journals is_journals

semaphores_own : IsOwn cell own_semaphores
semaphores_own = table_own cell is_device own_semaphores is_semaphores

-- ---- and so each request

more_law : (t : Tables) (row : ClientRow) (a : InArea) → more_of (alone (asks_of a) t) row a ≡ more_of t row a
more_law t row (OfDevice r) = (is_plan no_table (none_own cell is_device) (λ u. refl) row 0 0 r).more_same t tt
more_law t row (OfVariables r) = (is_plan own_variables variables_own (λ u. refl) row 0 0 r).more_same t tt
more_law t row (OfDomains r) = (is_plan own_domains domains_own (λ u. refl) row 0 0 r).more_same t tt
more_law t row (OfInvocations r) = (is_plan own_invocations invocations_own (λ u. refl) row 0 0 r).more_same t tt
more_law t row (OfPrograms r) = (is_plan own_programs programs_own (λ u. refl) row 0 0 r).more_same t tt
more_law t row (OfEvents r) = (is_plan own_events events_own (λ u. refl) row 0 0 r).more_same t tt
more_law t row (OfJournals r) = (is_plan own_journals journals_own (λ u. refl) row 0 0 r).more_same t tt
more_law t row (OfSemaphores r) = (is_plan own_semaphores semaphores_own (λ u. refl) row 0 0 r).more_same t tt

abbrev area_uses : Tables → ClientRow → InArea → List ℕ
area_uses t row a = asks_of a ++ (more_of t row a ++ [])

abbrev area_taken : Tables → ClientRow → ℕ → ℕ → InArea → Done Tables Effect
area_taken t row client invoke a = settled (size_of row.association) client invoke (cause_of t row a) (effect_of t row invoke a) t

takes_law : (t : Tables) (row : ClientRow) (client invoke : ℕ) (a : InArea)
    → area_taken t row client invoke a ≡ parted.done_within cell (area_uses t row a) t (area_taken (alone (area_uses t row a) t) row client invoke a)
takes_law t row client invoke (OfDevice r) = taken_within no_table (none_own cell is_device) (λ u. refl) row client invoke r t
takes_law t row client invoke (OfVariables r) = taken_within own_variables variables_own (λ u. refl) row client invoke r t
takes_law t row client invoke (OfDomains r) = taken_within own_domains domains_own (λ u. refl) row client invoke r t
takes_law t row client invoke (OfInvocations r) = taken_within own_invocations invocations_own (λ u. refl) row client invoke r t
takes_law t row client invoke (OfPrograms r) = taken_within own_programs programs_own (λ u. refl) row client invoke r t
takes_law t row client invoke (OfEvents r) = taken_within own_events events_own (λ u. refl) row client invoke r t
takes_law t row client invoke (OfJournals r) = taken_within own_journals journals_own (λ u. refl) row client invoke r t
takes_law t row client invoke (OfSemaphores r) = taken_within own_semaphores semaphores_own (λ u. refl) row client invoke r t

-- ---- what is done with all tables in which a client may have anything

-- they are shown as they are; program invocations are no client's
all_shown : (us : List ℕ) (t : Tables) → AllIn cell loss_tables us → alone us t ≡ record t { programs = (alone us t).programs }
all_shown us t all =
    ap₂ (λ (n : ℕ) (v : VariableTables). record (alone us t) { now = n; variables = v })
    (table_same cell is_device own_clock is_clock us t tt (all clock_table refl)) (table_same cell is_device own_variables is_variables us t tt (all variables_table refl))
    ∙ ap₂ (λ (d : DomainTables) (rows : Rows). record t { domains = d; programs = (alone us t).programs; events = (alone us t).events; journals = (alone us t).journals; semaphores = rows })
    (table_same cell is_device own_domains is_domains us t tt (all domains_table refl)) (table_same cell is_device own_semaphores is_semaphores us t tt (all semaphores_table refl))
    ∙ ap₂ (λ (e : EventTables) (j : journal.Rows). record t { programs = (alone us t).programs; events = e; journals = j })
    (table_same cell is_device own_events is_events us t tt (all conditions_table refl))
    (table_same cell is_device own_journals is_journals us t tt (all journals_table refl))

abbrev with_programs : program.Rows → Done Tables Effect → Done Tables Effect
with_programs p done = record { tables = record done.tables { programs = p }; told = done.told }

-- and whatever becomes of them, beside any program invocations, is within these
module _ (us : List ℕ) (f : Tables → Done Tables Effect) (t : Tables) (all : AllIn cell loss_tables us)
    (apart : (u : Tables) (p : program.Rows) → f (record u { programs = p }) ≡ with_programs p (f u)) where
  abbrev seen : program.Rows
  seen = (alone us t).programs

  keeps : (f t).tables.programs ≡ t.programs
  keeps = ap (λ (d : Done Tables Effect). d.tables.programs) (apart t t.programs)

  shown_done : f (alone us t) ≡ with_programs seen (f t)
  shown_done = ap f (all_shown us t all) ∙ apart t seen

  done_shown : alone us (f t).tables ≡ record (f t).tables { programs = seen }
  done_shown =
      all_shown us (f t).tables all
      ∙ ap (λ (p : program.Rows). record (f t).tables { programs = programs_in (if is_in us programs_table then Some (Programs p) else None) }) keeps

  out : (k : ℕ) → is_in loss_tables k ≡ true → is_in us k ≡ false → slice_get (cell.table_parts (f t).tables) k ≡ slice_get (cell.table_parts t) k
  out k there off = absurd (cc (sym (all k there) ∙ off))

  others : (k : ℕ) → is_in us k ≡ false → slice_get (cell.table_parts (f t).tables) k ≡ slice_get (cell.table_parts t) k
  others zero off = out zero refl off
  others (suc zero) off = out 1 refl off
  others (suc (suc zero)) off = out 2 refl off
  others (suc (suc (suc zero))) off = ap (λ (p : program.Rows). Some (Programs p)) keeps
  others (suc (suc (suc (suc zero)))) off = out 4 refl off
  others (suc (suc (suc (suc (suc zero))))) off = out 5 refl off
  others (suc (suc (suc (suc (suc (suc zero)))))) off = out 6 refl off
  others (suc (suc (suc (suc (suc (suc (suc k))))))) off = refl

  all_within : f t ≡ parted.done_within cell us t (f (alone us t))
  all_within =
      ap (λ (u : Tables). record { tables = u; told = (f t).told })
      (merged_within cell is_device us (λ u. (f u).tables) t
      (record { alone = ap (λ (d : Done Tables Effect). d.tables) shown_done ∙ sym done_shown; in_order = tt; others = others }))
      ∙ ap (λ (told : List (ℕ × Effect)). record { tables = parted.merged cell us (f (alone us t)).tables t; told = told })
      (sym (ap (λ (d : Done Tables Effect). d.told) shown_done))

-- ---- each event

-- whether a number is lacking is shown by the tables of its words
lacks_law : (us : List ℕ) (t : Tables) (row : ClientRow) (invoke : ℕ) (a : InArea) → AllIn cell (asks_of a) us
    → lacks_number (alone us t) row invoke a ≡ lacks_number t row invoke a
lacks_law us t row invoke (OfDevice r) all = refl
lacks_law us t row invoke (OfVariables r) all = refl
lacks_law us t row invoke (OfInvocations r) all = refl
lacks_law us t row invoke (OfPrograms r) all = refl
lacks_law us t row invoke (OfEvents r) all = refl
lacks_law us t row invoke (OfJournals r) all = refl
lacks_law us t row invoke (OfSemaphores r) all = refl
lacks_law us t row invoke (OfDomains r) all =
    ap (λ (d : DomainTables). lacks_number_in r no_facts row invoke d) (table_same cell is_device own_domains is_domains us t tt (all domains_table refl))

-- and so is what a verdict comes to
resolved_law : (us : List ℕ) (t : Tables) (row : ClientRow) (v : Verdict) → AllIn cell (heard_asks v) us → resolved (alone us t) row v ≡ resolved t row v
resolved_law us t row (Takes invoke asked) all =
    ap (λ (b : Bool). if b then Exhausts invoke else Takes invoke asked) (lacks_law us t row invoke (area_of asked) all)
resolved_law us t row (Replies number came) all =
    ap (λ (b : Bool). if b then Aborts else Replies number came) (lacks_law us t row number (reply_in number came) all)
resolved_law us t row Concludes all =
    ap (λ (d : DomainTables). if has_upload row.client d.uploads then Tells keeps_open else Concludes)
    (table_same cell is_device own_domains is_domains us t tt (all domains_table refl))
resolved_law us t row other all = refl

itself : (us : List ℕ) → AllIn cell us us
itself us k on = on

-- what a verdict uses beside the tables of its words is shown by these
more_shown : (t : Tables) (row : ClientRow) (v : Verdict)
    → more_of_verdict (alone (heard_asks v) t) row (resolved t row v) ≡ more_of_verdict t row (resolved t row v)
more_shown t row (Takes invoke asked) = by_test (lacks_number t row invoke (area_of asked))
  where
    us : List ℕ
    us = asks_of (area_of asked)

    turned : Bool → Verdict
    turned b = if b then Exhausts invoke else Takes invoke asked

    by_test : (b : Bool) → more_of_verdict (alone us t) row (turned b) ≡ more_of_verdict t row (turned b)
    by_test true = refl
    by_test false = more_law t row (area_of asked)
more_shown t row (Replies number came) = by_test (lacks_number t row number (reply_in number came))
  where
    us : List ℕ
    us = asks_of (reply_in number came)

    turned : Bool → Verdict
    turned b = if b then Aborts else Replies number came

    by_test : (b : Bool) → more_of_verdict (alone us t) row (turned b) ≡ more_of_verdict t row (turned b)
    by_test true = refl
    by_test false = more_law t row (reply_in number came)
more_shown t row Concludes = by_test (keeps_upload t row)
  where
    turned : Bool → Verdict
    turned b = if b then Tells keeps_open else Concludes

    by_test : (b : Bool) → more_of_verdict (alone (heard_asks Concludes) t) row (turned b) ≡ more_of_verdict t row (turned b)
    by_test true = refl
    by_test false = refl
more_shown t row (Tells effects) = refl
more_shown t row (Exhausts invoke) = refl
more_shown t row (Cancels invoke) = refl
more_shown t row Aborts = refl

heard_more_law : (t : Tables) (row : ClientRow) (v : Verdict) → heard_more (alone (heard_asks v) t) row v ≡ heard_more t row v
heard_more_law t row v =
    ap (more_of_verdict (alone (heard_asks v) t) row) (resolved_law (heard_asks v) t row v (itself (heard_asks v)))
    ∙ more_shown t row v

-- what a verdict comes to reads and changes the tables that it uses alone
module _ (t : Tables) (row : ClientRow) (client : ℕ) where
  abbrev ComesWithin : List ℕ → Verdict → Type 0
  ComesWithin us w = comes_of t row client w ≡ parted.done_within cell us t (comes_of (alone us t) row client w)

  lost_within : (asks : List ℕ) (w : Verdict)
      → ((u : Tables) (p : program.Rows) → comes_of (record u { programs = p }) row client w ≡ with_programs p (comes_of u row client w)) → ComesWithin (asks ++ (loss_tables ++ [])) w
  lost_within asks w apart =
      all_within (asks ++ (loss_tables ++ [])) (λ u. comes_of u row client w) t (λ k on. in_back asks (loss_tables ++ []) k (in_front loss_tables [] k on)) apart

  comes_within : (v : Verdict) → ComesWithin (heard_asks v ++ (more_of_verdict t row (resolved t row v) ++ [])) (resolved t row v)
  comes_within (Takes invoke asked) = by_test (lacks_number t row invoke (area_of asked))
    where
      turned : Bool → Verdict
      turned b = if b then Exhausts invoke else Takes invoke asked

      by_test : (b : Bool) → ComesWithin (asks_of (area_of asked) ++ (more_of_verdict t row (turned b) ++ [])) (turned b)
      by_test true = lost_within (asks_of (area_of asked)) (Exhausts invoke) (λ u p. refl)
      by_test false = takes_law t row client invoke (area_of asked)
  comes_within (Replies number came) = by_test (lacks_number t row number (reply_in number came))
    where
      turned : Bool → Verdict
      turned b = if b then Aborts else Replies number came

      by_test : (b : Bool) → ComesWithin (asks_of (reply_in number came) ++ (more_of_verdict t row (turned b) ++ [])) (turned b)
      by_test true = lost_within (asks_of (reply_in number came)) Aborts (λ u p. refl)
      by_test false = takes_law t row client number (reply_in number came)
  comes_within Concludes = by_test (keeps_upload t row)
    where
      turned : Bool → Verdict
      turned b = if b then Tells keeps_open else Concludes

      by_test : (b : Bool) → ComesWithin (heard_asks Concludes ++ (more_of_verdict t row (turned b) ++ [])) (turned b)
      by_test true = served.unchanged cell is_device (heard_asks Concludes) t (tell client keeps_open ++ []) tt
      by_test false = lost_within (heard_asks Concludes) Concludes (λ u p. refl)
  comes_within (Cancels invoke) = by_waiting (waiting_of invoke row.waiting)
    where
      us : List ℕ
      us = clock_table ∷ semaphores_table ∷ []

      at : Option Waiting → Tables → Done Tables Effect
      at o u = record { tables = tables_cancelled o u; told = tell client (cancel_told invoke) ++ [] }

      by_waiting : (o : Option Waiting) → at o t ≡ parted.done_within cell us t (at o (alone us t))
      by_waiting None = refl
      by_waiting (Some request) = refl
  comes_within (Tells effects) = served.unchanged cell is_device [] t (tell client effects ++ []) tt
  comes_within (Exhausts invoke) = lost_within loss_tables (Exhausts invoke) (λ u p. refl)
  comes_within Aborts = lost_within loss_tables Aborts (λ u p. refl)

hears_law : (t : Tables) (row : ClientRow) (client : ℕ) (v : Verdict)
    → hears t row client v ≡ parted.done_within cell (heard_asks v ++ (heard_more t row v ++ [])) t (hears (alone (heard_asks v ++ (heard_more t row v ++ [])) t) row client v)
hears_law t row client v =
    comes_within t row client v
    ∙ ap (λ (w : Verdict). parted.done_within cell us t (comes_of (alone us t) row client w)) (sym (resolved_law us t row v (λ k on. in_front (heard_asks v) (heard_more t row v ++ []) k on)))
  where
    us : List ℕ
    us = heard_asks v ++ (heard_more t row v ++ [])

-- where there is an association, what belongs to it is gone
lost_law : (t : Tables) (number client : ℕ) (a : Association)
    → record { tables = tables_lost a number t; told = tell client (loss_told a) ++ also_lost a number t }
    ≡ parted.done_within cell (loss_asks a ++ []) t
    (record { tables = tables_lost a number (alone (loss_asks a ++ []) t); told = tell client (loss_told a) ++ also_lost a number (alone (loss_asks a ++ []) t) })
lost_law t number client Idle = served.unchanged cell is_device [] t [] tt
lost_law t number client (Open values) = refl

-- time goes by: where no client is lost by what happens to semaphores none is, and what the cells say is used where a
-- condition is evaluated
time_law : (ms : ℕ) (t : Tables)
    → passes ms t ≡ parted.done_within cell (words (Tick ms) ++ (time_asks ms t ++ [])) t (passes ms (alone (words (Tick ms) ++ (time_asks ms t ++ [])) t))
time_law ms t = by_both (any_due (moment_after ms t) t.events.conditions) refl (aborted_meanwhile ms t) refl
  where
    us : Bool → List ℕ → List ℕ
    us due clients = words (Tick ms) ++ ((evaluation_asks due ++ abort_asks clients) ++ [])

    begins : Ticking
    begins = begun t.semaphores t.events.conditions t.events.enrolments

    with_clients : VariableTables → DomainTables → journal.Rows → Ticking → Done Tables Effect
    with_clients v d j s = record {
      tables = record {
        now = t.now + ms;
        variables = v;
        domains = d;
        programs = t.programs;
        events = record { conditions = s.conditions; enrolments = s.enrolments };
        journals = j;
        semaphores = s.semaphores;
      };
      told = all_told s.happened;
    }

    none : aborted_meanwhile ms t ≡ [] → lost_in (meanwhile ms t).happened ≡ []
    none is = none_lost (saying t.variables) (moment_after ms t) (most_left (moment_after ms t) begins) begins is

    by_both : (due : Bool) → any_due (moment_after ms t) t.events.conditions ≡ due → (clients : List ℕ) → aborted_meanwhile ms t ≡ clients
        → passes ms t ≡ parted.done_within cell (us due clients) t (passes ms (alone (us due clients) t))
    by_both true due (client ∷ clients) is = refl
    by_both false due (client ∷ clients) is = refl
    by_both true due [] is =
        ap (λ (l : List ℕ). with_clients (without_clients (lost_in (meanwhile ms t).happened) t.variables) (domains_without l t.domains) (journals_without l t.journals) (meanwhile ms t)) (none is)
    by_both false due [] is =
        ap (λ (l : List ℕ). with_clients (without_clients l t.variables) (domains_without l t.domains) (journals_without l t.journals) (meanwhile ms t)) (none is)
        ∙ ap (with_clients t.variables t.domains t.journals)
        (same_saying (saying t.variables) (saying no_variables) (moment_after ms t) (most_left (moment_after ms t) begins) begins due)

pub each_served : (event : CellEvent) → IsServed cell services event
each_served (Heard client octets) = record {
  stages = λ t row ordered. (refl, (heard_more_law t row (verdict row octets), tt));
  within = λ t row ordered. hears_law t row client (verdict row octets);
}
each_served (Lost client) = record {
  stages = λ t row ordered. (refl, tt);
  within = λ t row ordered. lost_law t row.client client row.association;
}
each_served (Tick ms) = record { stages = λ t row ordered. (refl, tt); within = λ t row ordered. time_law ms t }
each_served (Ends name) = record { stages = λ t row ordered. tt; within = λ t row ordered. refl }
each_served (Drain client) = record { stages = λ t row ordered. tt; within = λ t row ordered. refl }

-- ---- so each event touches what it wants

pub each_framed : (event : CellEvent) (s : State) → IsFramed parts_of IsInOrder (wants event) (λ u. step u event) s
each_framed event s = served.framed cell is_device services event (each_served event) s tt

pub after_holds_the_same : (event : CellEvent) (hand : List (Option Part)) → places_held (after event hand) ≡ places_held hand
after_holds_the_same event = served.after_holds_the_same cell is_device services event (each_served event)

pub after_is_laid_over : (event : CellEvent) (hand : List (Option Part)) (parts : List Part) → IsHandOf hand parts → need event hand ≡ []
    → parts_after event parts ≡ laid_over (after event hand) parts
after_is_laid_over event = served.after_is_laid_over cell is_device services event (each_served event)
