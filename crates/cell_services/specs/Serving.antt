-- What each event does, which tables it reads or changes, and whom it tells what (ISO 9506-1, the virtual manufacturing device).
use Rattle.std.specs.Prelude.{ℕ, ◌+◌, List, [], ◌∷◌, ◌++◌, filter_map, fold, if◌then◌else◌, Bool, Option, None, Some}
use Rattle.std.specs.List.{flat_map}
use Rattle.mms_types.specs.Actors.{actor_of}
use Rattle.mms_types.specs.declared.event.CellEvent.{CellEvent}
use Rattle.mms_types.specs.declared.event.CellEvent.TheVariants.{Heard, Lost, Tick, Ends, Drain}
use Rattle.mms_types.specs.declared.pdu.Answer.TheVariants as answer
use Rattle.mms_types.specs.declared.pdu.Pdu.TheVariants as pdu
use Rattle.mms_types.specs.declared.pdu.Request.{Request}
use Rattle.association.specs.declared.negotiation.Association.{Association}
use Rattle.association.specs.declared.negotiation.Association.TheVariants.{Idle, Open}
use Rattle.association.specs.Client.{ClientRow}
use Rattle.association.specs.declared.waiting.Waiting.{Waiting}
use Rattle.mms_types.specs.declared.event.What.TheVariants.{Abort}
use Rattle.mms_time.specs.Loss as semaphores
use Rattle.mms_time.specs.Services.{cancelled}
use Rattle.sem_ticks.specs.Granted.{lost_granted}
use Rattle.sem_ticks.specs.Ticks as sem
use Rattle.sem_ticks.specs.declared.ticks.Happening.{Happening}
use Rattle.sem_ticks.specs.declared.ticks.Happening.TheVariants as happens
use Rattle.event_cond.specs.Skips.{Saying, any_due}
use Rattle.cell_ticks.specs.Ticks.{Ticking, aborted, aborted_one, ticked}
use Rattle.cell_ticks.specs.declared.happening.DatedHappening.{DatedHappening}
use Rattle.cell_ticks.specs.declared.happening.Happening.{Happening as DeviceHappening}
use Rattle.cell_ticks.specs.declared.happening.Happening.TheVariants as device
use Rattle.variable_services.specs.declared.tables.VariableTables.{VariableTables}
use Rattle.variable_services.specs.Services.{lost}
use Rattle.domain_upload.specs.Uploads.{has_upload}
use Rattle.program_inv.specs.Programs.{after_ends}
use Rattle.mms_journal.specs.Journals.{Rows as Journals}
use Rattle.mms_journal.specs.Services as journals
use Rattle.serve_domains.specs.Tables.{DomainTables}
use Rattle.serve_domains.specs.Tables as domains
use Rattle.serve_events.specs.Tables as events
use Rattle.serve_events.specs.Told.{notices_told}
use Rattle.cell_services.specs.Facts.{is_true}
use Rattle.parted_state.specs.Served.{Done, Services}
use Rattle.cell_client.specs.Effects.{Effect, Answers, Closes, Drains, Sends, tell}
use Rattle.cell_services.specs.Tables.{Tables, moment_of, moment_after, clock_table, variables_table, domains_table, programs_table, conditions_table, journals_table, semaphores_table, loss_tables}
use Rattle.cell_client.specs.Association.{Verdict, Tells, Takes, Replies, Exhausts, Concludes, Cancels, Aborts, verdict, sends, conclusion_told, keeps_open, cancel_told, abort_told, loss_told, timeout_error}
use Rattle.cell_services.specs.Services.{InArea, area_of, reply_in, cause_of, effect_of, asks_of, more_of, lacks_number, grant_told, grants_told, request_asks}
use Rattle.cell_client.specs.Requests.{is_done, refuses, request_told, size_of}
pub use Rattle.serve_semaphores.specs.Tokens.{waiting_of}

-- ---- the loss of a client: what belongs to its association is gone

abbrev pub without_client : ℕ → Tables → Tables
without_client client t = record t {
  variables = lost client t.variables;
  domains = domains.lost client t.domains;
  events = events.lost client t.events;
  journals = journals.without_client client t.journals;
  semaphores = semaphores.lost client (moment_of t) t.semaphores;
}

-- and tokens that it had are granted to others
abbrev pub loss_also : ℕ → Tables → List (ℕ × Effect)
loss_also client t = grants_told (lost_granted client (moment_of t) t.semaphores)

-- where there is an association
abbrev pub tables_lost : Association → ℕ → Tables → Tables
tables_lost Idle client t = t
tables_lost (Open values) client t = without_client client t

abbrev pub also_lost : Association → ℕ → Tables → List (ℕ × Effect)
also_lost Idle client t = []
also_lost (Open values) client t = loss_also client t

-- ---- what is heard

-- what is asked of an area is done, or its tables stay as they are
abbrev pub is_served_in : Tables → ClientRow → ℕ → InArea → Bool
is_served_in t row invoke a = is_done (size_of row.association) invoke (cause_of t row a) (effect_of t row invoke a).answer

abbrev pub tables_served : Tables → ClientRow → ℕ → InArea → Tables
tables_served t row invoke a = if is_served_in t row invoke a then (effect_of t row invoke a).tables else t

abbrev pub served_told : Tables → ClientRow → ℕ → InArea → List Effect
served_told t row invoke a = request_told (size_of row.association) invoke (cause_of t row a) (effect_of t row invoke a).answer

abbrev pub also_served : Tables → ClientRow → ℕ → InArea → List (ℕ × Effect)
also_served t row invoke a = if is_served_in t row invoke a then (effect_of t row invoke a).also else []

-- a request that is taken
abbrev pub is_served : Tables → ClientRow → ℕ → Request → Bool
is_served t row invoke asked = is_served_in t row invoke (area_of asked)

-- its entry waits no more
abbrev pub tables_cancelled : Option Waiting → Tables → Tables
tables_cancelled None t = t
tables_cancelled (Some request) t = record t { semaphores = cancelled request.key request.entry t.semaphores }

-- an open upload of the client
abbrev pub keeps_upload : Tables → ClientRow → Bool
keeps_upload t row = has_upload row.client t.domains.uploads

-- What a verdict comes to by what the tables show: a conclusion is refused by an open upload; and where something would be asked of the client, and no number is left
-- for that, it is aborted.
abbrev pub resolved : Tables → ClientRow → Verdict → Verdict
resolved t row (Tells effects) = Tells effects
resolved t row (Takes invoke asked) = if lacks_number t row invoke (area_of asked) then Exhausts invoke else Takes invoke asked
resolved t row (Replies number came) = if lacks_number t row number (reply_in number came) then Aborts else Replies number came
resolved t row (Exhausts invoke) = Exhausts invoke
resolved t row Concludes = if keeps_upload t row then Tells keeps_open else Concludes
resolved t row (Cancels invoke) = Cancels invoke
resolved t row Aborts = Aborts

-- ---- what comes of it then

abbrev pub tables_heard : Tables → ClientRow → Verdict → Tables
tables_heard t row (Takes invoke asked) = tables_served t row invoke (area_of asked)
tables_heard t row (Tells effects) = t
tables_heard t row (Replies number came) = tables_served t row number (reply_in number came)
tables_heard t row (Exhausts invoke) = without_client row.client t
tables_heard t row Concludes = without_client row.client t
tables_heard t row (Cancels invoke) = tables_cancelled (waiting_of invoke row.waiting) t
tables_heard t row Aborts = without_client row.client t

-- what is told to the client itself
abbrev pub own_told : Tables → ClientRow → Verdict → List Effect
own_told t row (Tells effects) = effects
own_told t row (Takes invoke asked) = served_told t row invoke (area_of asked)
own_told t row (Replies number came) = served_told t row number (reply_in number came)
own_told t row (Exhausts invoke) = sends (pdu.ConfirmedResponse invoke answer.InitiateDownloadSequence) ∷ abort_told
own_told t row Concludes = conclusion_told
own_told t row (Cancels invoke) = cancel_told invoke
own_told t row Aborts = abort_told

-- what else is told
abbrev pub also_told : Tables → ClientRow → Verdict → List (ℕ × Effect)
also_told t row (Takes invoke asked) = also_served t row invoke (area_of asked)
also_told t row (Tells effects) = []
also_told t row (Replies number came) = also_served t row number (reply_in number came)
also_told t row (Exhausts invoke) = loss_also row.client t
also_told t row Concludes = loss_also row.client t
also_told t row (Cancels invoke) = []
also_told t row Aborts = loss_also row.client t

abbrev pub comes_of : Tables → ClientRow → ℕ → Verdict → Done Tables Effect
comes_of t row client v = record { tables = tables_heard t row v; told = tell client (own_told t row v) ++ also_told t row v }

abbrev pub hears : Tables → ClientRow → ℕ → Verdict → Done Tables Effect
hears t row client v = comes_of t row client (resolved t row v)

-- the tables that a verdict uses: whether an open upload refuses a conclusion is seen first
abbrev pub heard_asks : Verdict → List ℕ
heard_asks (Tells effects) = []
heard_asks (Takes invoke asked) = request_asks asked
heard_asks (Replies number came) = asks_of (reply_in number came)
heard_asks (Exhausts invoke) = loss_tables
heard_asks Concludes = domains_table ∷ []
heard_asks (Cancels invoke) = clock_table ∷ semaphores_table ∷ []
heard_asks Aborts = loss_tables

-- and those that it uses beside them, by what they show
abbrev pub more_of_verdict : Tables → ClientRow → Verdict → List ℕ
more_of_verdict t row (Takes invoke asked) = more_of t row (area_of asked)
more_of_verdict t row (Replies number came) = more_of t row (reply_in number came)
more_of_verdict t row (Exhausts invoke) = loss_tables
more_of_verdict t row Concludes = loss_tables
more_of_verdict t row (Tells effects) = []
more_of_verdict t row (Cancels invoke) = []
more_of_verdict t row Aborts = loss_tables

abbrev pub heard_more : Tables → ClientRow → Verdict → List ℕ
heard_more t row v = more_of_verdict t row (resolved t row v)

-- ---- a client that is lost

abbrev pub loses : Tables → ClientRow → ℕ → Done Tables Effect
loses t row client = record {
  tables = tables_lost row.association row.client t;
  told = tell client (loss_told row.association) ++ also_lost row.association row.client t;
}

abbrev pub loss_asks : Association → List ℕ
loss_asks Idle = []
loss_asks (Open values) = loss_tables

-- ---- time

-- whom it tells what: a wait that ends is refused, a token is granted, an association is aborted
abbrev pub happening_told : Happening → List (ℕ × Effect)
happening_told (happens.WaitEnds client invoke) = (client, Answers invoke) ∷ (client, refuses invoke timeout_error) ∷ []
happening_told (happens.Grants grant) = grant_told grant
happening_told (happens.Aborts client) = (client, Sends Abort) ∷ (client, Closes) ∷ []

-- and a condition that comes to another state: those that enrolled for it, in the order in which they did
abbrev pub happened_told : DeviceHappening → List (ℕ × Effect)
happened_told (device.Semaphores happening) = happening_told happening
happened_told (device.Turns told) = notices_told told.turned told.notices

abbrev pub dated_told : DatedHappening → List (ℕ × Effect)
dated_told happened = happened_told happened.happening

abbrev pub all_told : List DatedHappening → List (ℕ × Effect)
all_told happened = flat_map dated_told happened

-- the clients that are lost by it
abbrev pub aborted_then : DeviceHappening → Option ℕ
aborted_then (device.Semaphores happening) = aborted_one happening
aborted_then (device.Turns told) = None

abbrev pub aborted_at : DatedHappening → Option ℕ
aborted_at happened = aborted_then happened.happening

abbrev pub lost_in : List DatedHappening → List ℕ
lost_in happened = filter_map aborted_at happened

abbrev pub without_clients : List ℕ → VariableTables → VariableTables
without_clients clients variables = fold (λ v client. lost client v) variables clients

abbrev pub domains_without : List ℕ → DomainTables → DomainTables
domains_without clients t = fold (λ d client. domains.lost client d) t clients

abbrev pub journals_without : List ℕ → Journals → Journals
journals_without clients t = fold (λ j client. journals.without_client client j) t clients

-- what the cells say that conditions watch: none changes while time goes by
abbrev pub saying : VariableTables → Saying
saying variables cell = is_true (Some cell) variables.vars

-- what happens while so many milliseconds go by
abbrev pub meanwhile : ℕ → Tables → Ticking
meanwhile ms t = ticked (saying t.variables) (moment_after ms t) t.semaphores t.events.conditions t.events.enrolments

abbrev pub passed : ℕ → Tables → Ticking → Done Tables Effect
passed ms t s = record {
  tables = record {
    now = t.now + ms;
    variables = without_clients (lost_in s.happened) t.variables;
    domains = domains_without (lost_in s.happened) t.domains;
    programs = t.programs;
    events = record { conditions = s.conditions; enrolments = s.enrolments };
    journals = journals_without (lost_in s.happened) t.journals;
    semaphores = s.semaphores;
  };
  told = all_told s.happened;
}

-- so many milliseconds go by: every deadline up to then is met at its own moment
abbrev pub passes : ℕ → Tables → Done Tables Effect
passes ms t = passed ms t (meanwhile ms t)

-- where a client is lost, whatever it may have anything in is used
abbrev pub abort_asks : List ℕ → List ℕ
abort_asks [] = []
abort_asks (client ∷ clients) = variables_table ∷ domains_table ∷ journals_table ∷ []

-- where a condition is evaluated, its cell is
abbrev pub evaluation_asks : Bool → List ℕ
evaluation_asks due = if due then variables_table ∷ [] else []

-- what the semaphores alone show: who is aborted by them
abbrev pub aborted_meanwhile : ℕ → Tables → List ℕ
aborted_meanwhile ms t = aborted (sem.ticked (moment_after ms t) t.semaphores).happened

abbrev pub time_asks : ℕ → Tables → List ℕ
time_asks ms t = evaluation_asks (any_due (moment_after ms t) t.events.conditions) ++ abort_asks (aborted_meanwhile ms t)

-- ---- events

-- the tables that the words of an event alone tell
abbrev pub words : CellEvent → List ℕ
words (Tick ms) = clock_table ∷ conditions_table ∷ semaphores_table ∷ []
words (Ends name) = programs_table ∷ []
words (Heard client octets) = []
words (Lost client) = []
words (Drain client) = []

-- further tables, by the row of its client, and then by what these show
abbrev pub asks : CellEvent → List (Tables → ClientRow → List ℕ)
asks (Heard client octets) = (λ t row. heard_asks (verdict row octets)) ∷ (λ t row. heard_more t row (verdict row octets)) ∷ []
asks (Lost client) = (λ t row. loss_asks row.association) ∷ []
asks (Tick ms) = (λ t row. time_asks ms t) ∷ []
asks (Ends name) = []
asks (Drain client) = []

-- Octets are heard from a client, its association is lost, time goes by, a program invocation ends by itself, or what is to be sent to a client is taken away.
abbrev pub serves : Tables → ClientRow → CellEvent → Done Tables Effect
serves t row (Heard client octets) = hears t row client (verdict row octets)
serves t row (Lost client) = loses t row client
serves t row (Tick ms) = passes ms t
serves t row (Ends name) = record { tables = record t { programs = after_ends name t.programs }; told = [] }
serves t row (Drain client) = record { tables = t; told = tell client (Drains ∷ []) }

abbrev pub services : Services Tables ClientRow Effect CellEvent
services = record { own = actor_of; words = words; asks = asks; serves = serves }
