-- The recording of contending clients, by which a device tries itself (this profile's choice).
use Rattle.std.specs.Prelude.{ℕ, zero, suc, pos, ◌+◌, List, [], ◌∷◌, ◌++◌, map, codes, None}
use Rattle.rand_pcg.specs.Lcg.{Lcg, advance, increment_of, started}
use Rattle.rand_pcg.specs.Pcg.{multiplier_64, pcg32}
use Rattle.mms_types.specs.Actors.{clients_to}
use Rattle.mms_types.specs.Datum as datum
use Rattle.mms_types.specs.Shape as shape
use Rattle.mms_types.specs.declared.cells.CellRow.{CellRow}
use Rattle.mms_types.specs.declared.cells.NamedCell.{NamedCell}
use Rattle.mms_types.specs.declared.event.CellEvent.{CellEvent}
use Rattle.mms_types.specs.declared.event.CellEvent.TheVariants.{Heard, Tick}
use Rattle.mms_types.specs.declared.identifier.Edition.TheVariants.{One}
use Rattle.mms_types.specs.declared.pdu.Pdu.{Pdu}
use Rattle.mms_types.specs.declared.pdu.Pdu.TheVariants.{ConfirmedRequest, InitiateRequest}
use Rattle.mms_pdu.specs.Pdus.{pdu_octets}
use Rattle.cell_config.specs.declared.config.Config.{Config}
use Rattle.cell_stress.specs.declared.phases.Stage.{Stage}
use Rattle.cell_stress.specs.declared.phases.Stage.TheVariants.{Opening, Rounds, Over}
use Rattle.cell_stress.specs.Requests.{asked, define, invoke_of, proposal}

-- ---- the configuration

-- an integer of 32 bits, 0 at the start
abbrev pub cell : CellRow
cell = record { number = 0; of = shape.integer 32; value = datum.integer (pos 0); guard = None }

abbrev pub variable : NamedCell
variable = record { name = codes "V"; cell = 0 }

-- so many clients, one cell and its variable, and what is meant where a configuration says nothing
abbrev pub stress_config : ℕ → Config
stress_config clients = record {
  edition = One;
  clients = clients;
  start = record { 0 = 0 };
  vendor = codes "VMD";
  model = codes "CELL";
  revision = codes "1";
  cells = cell ∷ [];
  variables = variable ∷ [];
  pools = [];
}

-- ---- the phases

-- a client sends a PDU in its one spelling
abbrev pub sent : ℕ → Pdu → CellEvent
sent client p = Heard client (pdu_octets p)

-- each client opens its association, and client 1 makes the semaphore
abbrev pub opening : ℕ → List CellEvent
opening clients = map (λ client. sent client (InitiateRequest proposal)) (clients_to clients)
    ++ sent 1 (ConfirmedRequest 1 define) ∷ []

-- what a client asks in a round by a random word
abbrev pub asking : ℕ → ℕ → ℕ → CellEvent
asking round client word =
    sent client (ConfirmedRequest (invoke_of client round) (asked word round))

-- as many clients, from this one on, ask once each, by the next random words in turn
abbrev pub askings : Lcg → ℕ → ℕ → ℕ → List CellEvent
askings random round client zero = []
askings random round client (suc more) =
    asking round client (pcg32 random).0 ∷ askings (pcg32 random).1 round (client + 1) more

-- a round: each client asks, and then time goes by
abbrev pub round_of : Lcg → ℕ → ℕ → List CellEvent
round_of random clients round = askings random round 1 clients ++ Tick 3 ∷ []

-- as many rounds, from the one of this number on, and then the time in which the last waits end
abbrev pub rounds_from : Lcg → ℕ → ℕ → ℕ → List (List CellEvent)
rounds_from random clients round zero = (Tick 10 ∷ []) ∷ []
rounds_from random clients round (suc more) =
    round_of random clients round
    ∷ rounds_from (advance 64 multiplier_64 clients random) clients (round + 1) more

-- PCG's generator of 32-bit words, begun at the seed, on its stream 54
abbrev pub random_of : ℕ → Lcg
random_of seed = started 64 multiplier_64 seed (increment_of 64 54)

-- the phases of the recording
abbrev pub stress_phases : ℕ → ℕ → ℕ → List (List CellEvent)
stress_phases seed clients rounds = opening clients ∷ rounds_from (random_of seed) clients 1 rounds

-- ---- inside the crate

-- the generator in a state
abbrev pub random_at : ℕ → Lcg
random_at state = record { state = state; increment = increment_of 64 54 }

-- the phases that are left at a stage, with the random words that come next, the number of the next
-- round, and how many are left
abbrev pub phases_left : Stage → Lcg → ℕ → ℕ → ℕ → List (List CellEvent)
phases_left Opening random clients round left =
    opening clients ∷ rounds_from random clients round left
phases_left Rounds random clients round left = rounds_from random clients round left
phases_left Over random clients round left = []
