-- The report's text (this profile's choice).
use Rattle.std.specs.Prelude.{ℕ, ◌≡◌, ◌+◌, Bool, true, false, if◌then◌else◌, List, []}
use Rattle.std.specs.Prelude.{◌∷◌, ◌++◌, length, flat_map, codes}
use Rattle.std.specs.Fmt.{decimal}
use Rattle.cell_io.specs.Hex.{upper}
use Rattle.mms_types.specs.declared.event.What.{What}
use Rattle.mms_types.specs.declared.event.What.TheVariants.{Octets, Abort}
use Rattle.mms_types.specs.declared.event.CellEvent.{CellEvent}
use Rattle.mms_types.specs.declared.event.CellEvent.TheVariants.{Heard, Lost, Tick, Ends, Drain}
use Rattle.mms_types.specs.Actors.{clients_to}
use Rattle.cell_record.specs.History.{Interleaves, drains}

-- drains aren't printed
abbrev pub is_printed : CellEvent → Bool
is_printed (Heard client octets) = true
is_printed (Lost client) = true
is_printed (Tick ms) = true
is_printed (Ends name) = true
is_printed (Drain client) = false

-- an event as its line says it
abbrev pub event_text : CellEvent → List ℕ
event_text (Heard client octets) = decimal client ++ codes " " ++ upper octets
event_text (Lost client) = codes "lost " ++ decimal client
event_text (Tick ms) = codes "tick " ++ decimal ms
event_text (Ends name) = codes "ends " ++ name
event_text (Drain client) = []

-- the line of an event at its place
abbrev pub placed_line : ℕ → CellEvent → List ℕ
placed_line place event = if is_printed event then decimal place ++ codes " " ++ event_text event
    ++ codes "\n" else []

abbrev pub served_line : ℕ × CellEvent → List ℕ
served_line placed = placed_line placed.0 placed.1

-- the line of what is sent
abbrev pub output_text : What → List ℕ
output_text (Octets octets) = codes "> " ++ upper octets ++ codes "\n"
output_text Abort = codes "> abort\n"

abbrev pub section_head : ℕ → List ℕ
section_head client = codes "client " ++ decimal client ++ codes "\n"

-- what a client was sent, where it is anything
abbrev pub section : ℕ → List What → List ℕ
section client [] = []
section client (sent ∷ rest) = section_head client ++ flat_map output_text (sent ∷ rest)

-- what each client was sent, from this one on
abbrev pub sections : ℕ → List (List What) → List ℕ
sections client [] = []
sections client (sent ∷ rest) = section client sent ++ sections (client + 1) rest

abbrev pub phase_head : ℕ → List ℕ
phase_head number = codes "phase " ++ decimal number ++ codes "\n"

-- the text of a phase
abbrev pub phase_text : ℕ → List (ℕ × CellEvent) → List (List What) → List ℕ
phase_text number served outputs = phase_head number
    ++ (flat_map served_line served ++ sections 1 outputs)

-- ---- the whole report

-- events with their places, from this one on
abbrev pub placed_from : ℕ → List CellEvent → List (ℕ × CellEvent)
placed_from place [] = []
placed_from place (event ∷ rest) = (place, event) ∷ placed_from (place + 1) rest

-- what each of these clients takes that drain after a history, one after the other, where `said
-- before c` is what client c takes after that history
abbrev pub taken : (List CellEvent → ℕ → List What) → List CellEvent → List ℕ → List (List What)
taken said before [] = []
taken said before (c ∷ cs) = said before c ∷ taken said (before ++ Drain c ∷ []) cs

-- the report of bodies from a phase of this number on, after a history
abbrev pub report_from : (List CellEvent → ℕ → List What) → ℕ → ℕ → List CellEvent
    → List (List CellEvent) → List ℕ
report_from said n number before [] = []
report_from said n number before (body ∷ rest) =
    phase_text number (placed_from (length before + 1) body)
    (taken said (before ++ body) (clients_to n))
    ++ report_from said n (number + 1) (before ++ (body ++ drains (clients_to n))) rest

-- the report of the history of those bodies
abbrev pub report : (List CellEvent → ℕ → List What) → ℕ → List (List CellEvent) → List ℕ
report said n bodies = report_from said n 1 [] bodies

-- bodies that serve these phases, for so many clients, and have the same report are the same
abbrev pub HasOneHistory : (List CellEvent → ℕ → List What) → ℕ → List (List CellEvent) → Type 0
HasOneHistory said clients phases = (bodies others : List (List CellEvent))
    → Interleaves bodies phases → Interleaves others phases
    → report said clients bodies ≡ report said clients others → bodies ≡ others
