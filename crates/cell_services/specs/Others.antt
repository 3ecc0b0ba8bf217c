-- Who is told something by what another client does, or by time.
use Rattle.std.specs.Prelude.{◌≡◌, ◌≢◌, ◌==◌, ℕ, Bool, true, false, List, [], ◌∷◌, map}
use Rattle.std.specs.List.{flat_map, list_any}
use Rattle.association.specs.Client.{ClientRow}
use Rattle.parted_state.specs.Served.{is_told}
use Rattle.sem_ticks.specs.declared.granted.Granted.{Granted}
use Rattle.sem_ticks.specs.declared.ticks.Happening.{Happening}
use Rattle.sem_ticks.specs.declared.ticks.Happening.TheVariants.{WaitEnds, Grants, Aborts}
use Rattle.cell_client.specs.Association.{Verdict}
use Rattle.cell_ticks.specs.declared.happening.DatedHappening.{DatedHappening}
use Rattle.cell_ticks.specs.declared.happening.Happening.{Happening as DeviceHappening}
use Rattle.cell_ticks.specs.declared.happening.Happening.TheVariants as device
use Rattle.cell_services.specs.Serving.{also_told, resolved}
use Rattle.cell_services.specs.Tables.{Tables}

-- beside the client of a row, a verdict on what it sends tells these something
abbrev pub AlsoTells : Tables → ClientRow → Verdict → List ℕ → Type 0
AlsoTells t row v clients = (k : ℕ) → row.client ≢ k → is_told (also_told t row (resolved t row v)) k ≡ list_any (λ c. c == k) clients

abbrev pub grant_clients : List Granted → List ℕ
grant_clients grants = map (λ g. g.client) grants

abbrev pub client_of : Happening → ℕ
client_of (WaitEnds client invoke) = client
client_of (Grants grant) = grant.client
client_of (Aborts client) = client

-- those that are told of what happens on the device
abbrev pub clients_told : DeviceHappening → List ℕ
clients_told (device.Semaphores happening) = client_of happening ∷ []
clients_told (device.Turns told) = map (λ n. n.client) told.notices

-- of all that happens, one thing after the other
abbrev pub clients_meanwhile : List DatedHappening → List ℕ
clients_meanwhile happened = flat_map (λ h. clients_told h.happening) happened

abbrev pub is_abort : Happening → Bool
is_abort (WaitEnds client invoke) = false
is_abort (Grants grant) = false
is_abort (Aborts client) = true
