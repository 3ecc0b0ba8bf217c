-- What clients are told: the effects that it means, and the room that it uses (this profile's choice).
use Rattle.std.specs.Prelude.{ℕ, ◌-◌, Bool, true, false, List, map, if◌then◌else◌}
use Rattle.association.specs.Client.{Client as RoomyRow}
use Rattle.cell_client.specs.declared.told.ClientTold.{ClientTold}
use Rattle.cell_client.specs.declared.told.ClientTold.TheVariants as told
use Rattle.cell_client.specs.Effects.{Effect, Sends, Closes, Waits, Answers, felt}

abbrev pub effect_of : ClientTold → Effect
effect_of (told.Sends output) = Sends output
effect_of told.Closes = Closes
effect_of (told.Waits request) = Waits request
effect_of (told.Answers invoke) = Answers invoke

-- what is told to whom, in order
abbrev pub effects_told : List (ℕ × ClientTold) → List (ℕ × Effect)
effects_told list = map (λ t. (t.0, effect_of t.1)) list

-- ---- room

abbrev pub is_output : ClientTold → Bool
is_output (told.Sends output) = true
is_output told.Closes = false
is_output (told.Waits request) = false
is_output (told.Answers invoke) = false

abbrev pub is_wait : ClientTold → Bool
is_wait (told.Sends output) = false
is_wait told.Closes = false
is_wait (told.Waits request) = true
is_wait (told.Answers invoke) = false

-- how many outputs it is, and how many requests that wait
abbrev pub output_count : ClientTold → ℕ
output_count t = if is_output t then 1 else 0

abbrev pub wait_count : ClientTold → ℕ
wait_count t = if is_wait t then 1 else 0

-- a client is told something, which uses room
abbrev pub told_row : Effect → ℕ → ℕ → RoomyRow → RoomyRow
told_row effect outputs waiting client = record {
  row = felt effect client.row;
  output_room = client.output_room - outputs;
  waiting_room = client.waiting_room - waiting;
  asked_room = client.asked_room;
}
