-- Time goes by, and clients are lost by it.
use Rattle.std.specs.Prelude.{◌≡◌, ◌≤◌, ◌+◌, ℕ, None, List, [], ◌∷◌, filter_map, Result, Ok, Err, IfOk}
use Rattle.std.proofs.Common.{ap, ap₂, subst, sym, ◌∙◌, refl}
use Rattle.std.specs.List.{cons_option}
use Rattle.mms_types.specs.declared.moment.Moment.{Moment}
use Rattle.mms_types.specs.declared.memory.Memory.{Memory}
use Rattle.parted_state.specs.Served.{Done}
use Rattle.sem_ticks.specs.Renewed.{renewed}
use Rattle.sem_ticks.specs.declared.ticks.Happening.TheVariants as happens
use Rattle.event_ticks.specs.Ticks as events
use Rattle.event_ticks.specs.declared.ticks.Loss.{Loss}
use Rattle.mms_time.specs.Loss as semaphores
use Rattle.mms_time.specs.Semaphores.{Rows}
use Rattle.variable_services.specs.Services as variables
use Rattle.variable_services.specs.declared.tables.VariableTables.{VariableTables}
use Rattle.serve_domains.specs.Tables as domains
use Rattle.serve_domains.specs.Tables.{DomainTables}
use Rattle.serve_events.specs.Tables as event_tables
use Rattle.serve_events.specs.declared.tables.EventTables.{EventTables}
use Rattle.mms_journal.specs.Services as journals
use Rattle.mms_journal.specs.Journals.{Rows as Journals}
use Rattle.cell_ticks.specs.Deadlines.{next_due}
use Rattle.cell_ticks.specs.Meant.{loss_in, loss_then, state_of}
use Rattle.cell_ticks.specs.Ticks.{Ticking, ticked}
use Rattle.cell_ticks.specs.declared.happening.DatedHappening.{DatedHappening}
use Rattle.cell_ticks.specs.declared.happening.Happening.{Happening}
use Rattle.cell_ticks.specs.declared.happening.Happening.TheVariants as device
use Rattle.cell_ticks.specs.declared.ticking.DeviceTicked.{DeviceTicked}
use Rattle.cell_ticks.proofs.Coded.{nothing_so}
use Rattle.cell_services.specs.declared.planning.Plan.{Plan}
use Rattle.cell_services.specs.declared.tables.Change.{Change}
use Rattle.cell_services.specs.declared.tables.Change.TheVariants.{Passes, Ticks}
use Rattle.cell_client.specs.Effects.{Effect}
use Rattle.cell_client.specs.Telling.{effects_told}
use Rattle.cell_client.specs.declared.told.ClientTold.{ClientTold}
use Rattle.cell_services.specs.Acts.{plan_done}
use Rattle.cell_services.specs.Changes.{MayChange, clients_of, events_after}
use Rattle.cell_services.specs.Serving.{aborted_then, all_told, domains_without, journals_without, lost_in, meanwhile, passed, passes, saying, without_client, without_clients}
use Rattle.cell_services.specs.Tables.{Tables, last_moment, moment_after, moment_of}

pub moment_given : (t : Tables) (now : Moment) → now.0 ≡ t.now → now ≡ moment_of t
moment_given t now is = ap (λ (n : ℕ). moment n) is
  where
    moment : ℕ → Moment
    moment n = record { 0 = n }

-- ---- where no deadline is due, time passes, and nobody is told anything

pub nothing_due : (ms : ℕ) (t : Tables) (told : List (ℕ × ClientTold)) → next_due (moment_after ms t) t.semaphores t.events.conditions ≡ None → told ≡ []
    → plan_done t (Passes ms) told ≡ passes ms t
nothing_due ms t told none nobody =
    ap (λ (l : List (ℕ × ClientTold)). plan_done t (Passes ms) l) nobody
    ∙ sym
    (ap (λ (s : Ticking). passed ms t s) (nothing_so (saying t.variables) (moment_after ms t) t.semaphores t.events.conditions t.events.enrolments none))

-- the moment that many milliseconds later
moment_later : (ms : ℕ) (t : Tables) (until : Moment) → until.0 ≡ t.now + ms → until ≡ moment_after ms t
moment_later ms t until is = ap (λ (n : ℕ). moment n) is
  where
    moment : ℕ → Moment
    moment n = record { 0 = n }

pub none_planned : (ms : ℕ) (u t : Tables) → u ≡ t → (told : List (ℕ × ClientTold)) (until : Moment) → until.0 ≡ u.now + ms → next_due until u.semaphores u.events.conditions ≡ None → told ≡ []
    → plan_done t (Passes ms) told ≡ passes ms t
none_planned ms u t same told until at none nobody =
    subst (λ (x : Tables). plan_done x (Passes ms) told ≡ passes ms x) same
    (nothing_due ms u told (subst (λ (m : Moment). next_due m u.semaphores u.events.conditions ≡ None) (moment_later ms u until at) none) nobody)

-- ---- where one is, all that happens is done

-- the clients that are lost are those that are aborted
lost_one : (at : Moment) (x : Happening) (losses : List Loss) (clients : List ℕ) → clients_of losses ≡ clients
    → clients_of (cons_option (loss_then at x) losses) ≡ cons_option (aborted_then x) clients
lost_one at (device.Semaphores (happens.WaitEnds client invoke)) losses clients is = is
lost_one at (device.Semaphores (happens.Grants granted)) losses clients is = is
lost_one at (device.Semaphores (happens.Aborts client)) losses clients is = ap (λ (l : List ℕ). client ∷ l) is
lost_one at (device.Turns told) losses clients is = is

pub lost_clients : (happened : List DatedHappening) → clients_of (filter_map loss_in happened) ≡ lost_in happened
lost_clients [] = refl
lost_clients (h ∷ happened) = lost_one h.at h.happening (filter_map loss_in happened) (lost_in happened) (lost_clients happened)

module _ (ms : ℕ) (t : Tables) (d : DeviceTicked) where
  abbrev tables_lost : List ℕ → Tables
  tables_lost clients = record {
    now = t.now + ms;
    variables = without_clients clients t.variables;
    domains = domains_without clients t.domains;
    programs = t.programs;
    events = events_after ms d.losses.items t;
    journals = journals_without clients t.journals;
    semaphores = renewed d.changed t.semaphores;
  }

  abbrev at : List ℕ → List (ℕ × Effect) → Done Tables Effect
  at clients told = record { tables = tables_lost clients; told = told }

  pub ticks_done : (told : List (ℕ × ClientTold)) → effects_told told ≡ all_told d.happened.items
      → state_of (saying t.variables) (moment_after ms t) d t.semaphores t.events.conditions t.events.enrolments ≡ meanwhile ms t
      → d.losses.items ≡ filter_map loss_in d.happened.items → plan_done t (Ticks ms d.changed d.losses) told ≡ passes ms t
  ticks_done told tells is lost =
      ap₂ at (ap clients_of lost ∙ lost_clients d.happened.items) tells
      ∙ ap (λ (s : Ticking). passed ms t s) is

-- what becomes of conditions and enrollments, where the clock is at its moment already
pub events_done : (ms : ℕ) (losses : List Loss) (t : Tables) (until : Moment) (new : EventTables) → until.0 ≡ t.now + ms
    → new.conditions ≡ (events.ticked (saying t.variables) until (events.begun t.events.conditions t.events.enrolments losses)).conditions
    → new.enrolments ≡ (events.ticked (saying t.variables) until (events.begun t.events.conditions t.events.enrolments losses)).enrolments → new ≡ events_after ms losses t
events_done ms losses t until new at conditions enrolments =
    (λ i. record { conditions = conditions i; enrolments = enrolments i })
    ∙ ap after at
  where
    after : ℕ → EventTables
    after n =
        let s = events.ticked (saying t.variables) (record { 0 = n }) (events.begun t.events.conditions t.events.enrolments losses) in
        record { conditions = s.conditions; enrolments = s.enrolments }

-- both as clauses of a plan say
pub ticks_planned : (ms : ℕ) (u t : Tables) → u ≡ t → (d : DeviceTicked) (result : Result Plan Memory) (until : Moment) → until.0 ≡ u.now + ms
    → state_of (saying u.variables) until d u.semaphores u.events.conditions u.events.enrolments ≡ ticked (saying u.variables) until u.semaphores u.events.conditions u.events.enrolments
    → d.losses.items ≡ filter_map loss_in d.happened.items
    → IfOk result (λ plan. effects_told plan.told.items ≡ all_told d.happened.items) → IfOk result (λ plan. plan.change ≡ Ticks ms d.changed d.losses)
    → IfOk result (λ plan. plan_done t plan.change plan.told.items ≡ passes ms t)
ticks_planned ms u t same d (Ok plan) until at is lost told change =
    subst (λ (x : Tables). plan_done x plan.change plan.told.items ≡ passes ms x) same
    (ap (λ (c : Change). plan_done u c plan.told.items) change
    ∙ ticks_done ms u d plan.told.items told
    (subst
    (λ (m : Moment). state_of (saying u.variables) m d u.semaphores u.events.conditions u.events.enrolments
    ≡ ticked (saying u.variables) m u.semaphores u.events.conditions u.events.enrolments)
    (moment_later ms u until at) is)
    lost)
ticks_planned ms u t same d (Err memory) until at is lost told change = tt

pub ticks_may : (ms : ℕ) (t : Tables) (d : DeviceTicked) (result : Result Plan Memory) → t.now + ms ≤ last_moment
    → IfOk result (λ plan. plan.change ≡ Ticks ms d.changed d.losses) → IfOk result (λ plan. MayChange plan.change t)
ticks_may ms t d (Ok plan) low change = subst (λ (c : Change). MayChange c t) (sym change) low
ticks_may ms t d (Err memory) low change = tt

-- ---- a client is lost

pub client_lost : (client : ℕ) (u t : Tables) → u ≡ t → (now : Moment) → now ≡ moment_of t → (v : VariableTables) → v ≡ variables.lost client u.variables
    → (d : DomainTables) → d ≡ domains.lost client u.domains → (e : EventTables) → e ≡ event_tables.lost client u.events → (j : Journals) → j ≡ journals.without_client client u.journals
    → (s : Rows) → s ≡ semaphores.lost client now u.semaphores
    → record { now = u.now; variables = v; domains = d; programs = u.programs; events = e; journals = j; semaphores = s } ≡ without_client client t
client_lost client u t same now at v of_variables d of_domains e of_events j of_journals s of_semaphores =
    let then = of_semaphores ∙ ap (λ (m : Moment). semaphores.lost client m u.semaphores) (at ∙ ap moment_of (sym same)) in
    (λ i. record { now = u.now; variables = of_variables i; domains = of_domains i; programs = u.programs; events = of_events i; journals = of_journals i; semaphores = then i })
    ∙ ap (without_client client) same
