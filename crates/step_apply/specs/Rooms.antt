-- Parts with room for what their clients are told (this profile's choice).
use Rattle.std.specs.Prelude.{◌≡◌, ℕ, ◌-◌, ◌≤◌, ◌==◌, ◌&&◌, Bool, Option, None, Some, List, length, filter, nat_lt, if◌then◌else◌}
use Rattle.std.specs.Option.{option_map}
use Rattle.part_table.specs.Held.{held_at}
use Rattle.parted_state.specs.Cut.{with_places}
use Rattle.step_parts.specs.declared.part.Part.{Part}
use Rattle.step_parts.specs.declared.part.Part.TheVariants.{Client}
use Rattle.step_apply.specs.declared.telling.Room.{Room}
use Rattle.cell_client.specs.declared.told.ClientTold.{ClientTold}
use Rattle.cell_client.specs.Telling.{effect_of, is_output, is_wait, output_count, told_row, wait_count}
use Rattle.step_parts.specs.Partition.{client_place, journals_place}

-- how many outputs a client is told, and how many requests that wait
abbrev pub room_to : List (ℕ × ClientTold) → ℕ → Room
room_to list client = record {
  outputs = length (filter (λ t. (t.0 == client) && is_output t.1) list);
  waiting = length (filter (λ t. (t.0 == client) && is_wait t.1) list);
}

abbrev pub no_room : Room
no_room = record { outputs = 0; waiting = 0 }

-- a client's part with so much room for what the client is told; other parts have none
abbrev pub with_room : Room → Part → Part
with_room room (Client client) = Client (record { row = client.row; output_room = room.outputs; waiting_room = room.waiting; asked_room = 0 })
with_room room other = other

abbrev pub room_or_same : Option Room → Part → Part
room_or_same (Some room) part = with_room room part
room_or_same None part = part

-- whether a client is one of those before this one
abbrev pub is_before : ℕ → ℕ → Bool
is_before last client = nat_lt 0 client && nat_lt client last

abbrev pub room_before : ℕ → (ℕ → Room) → ℕ → Option Room
room_before last room client = if is_before last client then Some (room client) else None

-- the parts of the clients before one have as much room as this says
abbrev pub with_rooms : ℕ → (ℕ → Room) → List (Option Part) → List (Option Part)
with_rooms last room hand = with_places (λ place. option_map (room_or_same (room_before last room (place - journals_place)))) hand

-- they have none
abbrev pub without_rooms : ℕ → List (Option Part) → List (Option Part)
without_rooms last hand = with_rooms last (λ client. no_room) hand

abbrev pub IsSettled : ℕ → List (Option Part) → Type 0
IsSettled last hand = without_rooms last hand ≡ hand

-- ---- a client is told something, which uses room

abbrev pub telling : ClientTold → Part → Part
telling t (Client client) = Client (told_row (effect_of t) (output_count t) (wait_count t) client)
telling t other = other

-- there is room for it, where a client's part is held
abbrev pub HasRoom : ClientTold → Option Part → Type 0
HasRoom t (Some (Client client)) = (output_count t ≤ client.output_room) × (wait_count t ≤ client.waiting_room)
HasRoom t other = Unit {0}

-- where a part is held in the place of a client, it is a client's
abbrev pub MayBeClient : Option Part → Type 0
MayBeClient (Some (Client client)) = Unit {0}
MayBeClient (Some other) = ⊥
MayBeClient other = Unit {0}

abbrev pub AreClients : ℕ → List (Option Part) → Type 0
AreClients n hand = (client : ℕ) → 1 ≤ client → client ≤ n → MayBeClient (held_at hand (client_place client))
