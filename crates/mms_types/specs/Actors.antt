-- Whose event it is, and which clients there are (this profile's choice).
use Rattle.std.specs.Prelude.{ℕ, zero, suc, ◌≤◌, List, [], ◌∷◌, ◌++◌}
use Rattle.mms_types.specs.declared.event.CellEvent.{CellEvent}
use Rattle.mms_types.specs.declared.event.CellEvent.TheVariants.{Heard, Lost, Tick, Ends, Drain}

-- clients 1 to n
abbrev pub clients_to : ℕ → List ℕ
clients_to zero = []
clients_to (suc n) = clients_to n ++ suc n ∷ []

-- the actor of an event: its client, or the cell itself, which is 0
abbrev pub actor_of : CellEvent → ℕ
actor_of (Heard client octets) = client
actor_of (Lost client) = client
actor_of (Tick ms) = 0
actor_of (Ends name) = 0
actor_of (Drain client) = client

-- an event of one of the clients 1 to n, or of the cell
abbrev pub IsAmong : ℕ → CellEvent → Type 0
IsAmong n (Heard client octets) = (1 ≤ client) × (client ≤ n)
IsAmong n (Lost client) = (1 ≤ client) × (client ≤ n)
IsAmong n (Tick ms) = Unit {0}
IsAmong n (Ends name) = Unit {0}
IsAmong n (Drain client) = (1 ≤ client) × (client ≤ n)
