-- Time goes by for all tables at once, one deadline after the other: a client whose association is aborted is lost at
-- that moment, as at any loss (ISO 9506-1, TakeControl, abortOnTimeOut).
use Rattle.std.specs.Prelude.{ℕ, ◌+◌, ◌==◌, Bool, List, [], ◌++◌, Option, Some, option_and_then, option_map, if◌then◌else◌}
use Rattle.std.specs.List.{flat_map}
use Rattle.mms_types.specs.declared.moment.Moment.{Moment}
use Rattle.token_sem.specs.declared.entry.Expired.{Expired}
use Rattle.mms_time.specs.Deadlines.{NamedDeadline, expire_after, expired}
use Rattle.sem_ticks.specs.Ticks.{expiry_told}
use Rattle.event_ticks.specs.Settling.{settle}
use Rattle.event_ticks.specs.Ticks as events
use Rattle.event_ticks.specs.declared.ticks.TurnTold.{TurnTold}
use Rattle.cell_ticks.specs.Deadlines.{evaluation, next_due}
use Rattle.cell_ticks.specs.Ticks.{begun, most_left}
use Rattle.parted_state.specs.Served.{Done}
use Rattle.serve_events.specs.Told.{notices_told}
use Rattle.cell_client.specs.Association.{abort_told}
use Rattle.cell_client.specs.Effects.{Effect, tell}
use Rattle.cell_services.specs.Serving.{happening_told, loss_also, saying, without_client}
use Rattle.cell_services.specs.Tables.{Tables, moment_after}

-- ---- a deadline of a semaphore

-- the client is told of the abort, and is lost
abbrev pub aborts : ℕ → Tables → Done Tables Effect
aborts client t = record { tables = without_client client t; told = tell client abort_told ++ loss_also client t }

abbrev pub aborts_if : Bool → ℕ → Tables → Done Tables Effect
aborts_if aborted client t = if aborted then aborts client t else record { tables = t; told = [] }

-- at its moment a wait ends, or control of a token
abbrev pub after_expiry : NamedDeadline → Tables → Tables
after_expiry d t = record t { now = d.at.0; semaphores = expire_after d.key d.entry d.at t.semaphores }

abbrev pub expiry_met : NamedDeadline → Tables → Expired → Done Tables Effect
expiry_met d t x = record {
  tables = (aborts_if x.abort x.client (after_expiry d t)).tables;
  told = flat_map happening_told (expiry_told (after_expiry d t).semaphores d.key x) ++ (aborts_if x.abort x.client (after_expiry d t)).told;
}

-- ---- an evaluation

abbrev pub turn_told : TurnTold → List (ℕ × Effect)
turn_told told = notices_told told.turned told.notices

-- the condition is evaluated by what its cell says then
abbrev pub turned : NamedDeadline → Tables → events.Ticking
turned d t = events.evaluated (saying t.variables) (events.begun t.events.conditions t.events.enrolments []) (d.at, d.key)

abbrev pub evaluation_met : NamedDeadline → Tables → Done Tables Effect
evaluation_met d t = record {
  tables = record t { now = d.at.0; events = record t.events { conditions = (turned d t).conditions } };
  told = flat_map turn_told (turned d t).told;
}

-- ---- one after the other

abbrev pub met : Tables → NamedDeadline → Option (Done Tables Effect)
met t d = if d.kind == evaluation then Some (evaluation_met d t) else option_map (expiry_met d t) (expired d.key d.entry t.semaphores)

-- what is told comes behind what was
abbrev pub behind : List (ℕ × Effect) → Done Tables Effect → Done Tables Effect
behind before done = record { tables = done.tables; told = before ++ done.told }

-- the least of all deadlines is met, where it is at most that moment
abbrev pub next_met : Moment → Done Tables Effect → Option (Done Tables Effect)
next_met until done =
    option_map (behind done.told) (option_and_then (met done.tables) (next_due until done.tables.semaphores done.tables.events.conditions))

-- all of them, of which there are no more than these
abbrev pub all_met : ℕ → Tables → Done Tables Effect
all_met ms t =
    settle (next_met (moment_after ms t)) (most_left (moment_after ms t) (begun t.semaphores t.events.conditions t.events.enrolments))
    (record { tables = t; told = [] })

-- so many milliseconds go by
abbrev pub passes_in_turn : ℕ → Tables → Done Tables Effect
passes_in_turn ms t = record { tables = record (all_met ms t).tables { now = t.now + ms }; told = (all_met ms t).told }
