-- Which parts an event needs (this profile's choice).
use Rattle.std.specs.Prelude.{ℕ, Bool, true, false, ◌&&◌, nat_le, Option, List, [], ◌++◌, filter, map, if◌then◌else◌}
use Rattle.mms_types.specs.declared.event.CellEvent.{CellEvent}
use Rattle.mms_types.specs.declared.pdu.Request.{Request}
use Rattle.mms_types.specs.declared.pdu.Request.TheVariants as request
use Rattle.parted_state.specs.Cut as cut
use Rattle.parted_state.specs.Lifted.{tables_shown}
use Rattle.parted_state.specs.Served as parted
use Rattle.step_parts.specs.declared.part.Part.{Part}
use Rattle.step_parts.specs.State.{State}
use Rattle.association.specs.Client.{ClientRow}
use Rattle.cell_client.specs.Association.{Verdict, Tells, Takes, verdict}
use Rattle.cell_services.specs.Serving.{services, all_told, also_lost, also_told, heard_asks, heard_more, loss_asks, meanwhile, resolved, time_asks}
use Rattle.step_parts.specs.Partition.{cell, client_place, parts_of, state_in}

abbrev pub is_held : List (Option Part) → ℕ → Bool
is_held hand place = cut.is_held hand place

-- what an event's words alone tell, with n clients
abbrev pub footprint : ℕ → CellEvent → List ℕ
footprint n event = parted.footprint cell services n event

-- what an event wants, in stages: its words, the tables that it uses, by the row of its client and then by what these
-- tables show, and the parts of those that are told something
abbrev pub wants : CellEvent → List (State → List ℕ)
wants event = parted.wants cell services event

-- all that an event wants in a state
abbrev pub wanted : CellEvent → State → List ℕ
wanted event s = cut.wanted_of (wants event) s

-- what an event and the held parts show to be needed
abbrev pub shown : CellEvent → List (Option Part) → List ℕ
shown event hand = cut.shown_of parts_of state_in (wants event) hand

-- the parts of tables, with n clients
abbrev pub placed : ℕ → List ℕ → List ℕ
placed n tables = map (parted.table_place cell n) tables

-- of two stages of places, what isn't held
abbrev pub two_stages : List (Option Part) → List ℕ → List ℕ → List ℕ
two_stages hand first second = cut.missing hand (first ++ (if cut.are_held hand first then second else []))

-- a request, and so a verdict, that uses no table and tells nobody else anything: of its client's part alone
abbrev pub is_own_request : Request → Bool
is_own_request (request.Status asked) = true
is_own_request request.Identify = true
is_own_request other = false

abbrev pub is_own : Verdict → Bool
is_own (Tells effects) = true
is_own (Takes invoke asked) = is_own_request asked
is_own other = false

-- the parts of those of clients 1 to n that are among these
abbrev pub client_parts : ℕ → List ℕ → List ℕ
client_parts n clients = map client_place (filter (λ c. nat_le 1 c && nat_le c n) clients)

-- what a verdict on what a client sends needs, and so what its octets need, once its part is held: the tables that it
-- uses, in two stages, and then the parts of those that are told something besides
abbrev pub also_parts : ℕ → List (Option Part) → ClientRow → Verdict → List ℕ
also_parts n hand row v = parted.told_places cell (also_told (tables_shown cell hand) row (resolved (tables_shown cell hand) row v)) n

abbrev pub verdict_need : ℕ → List (Option Part) → ClientRow → Verdict → List ℕ
verdict_need n hand row v =
    two_stages hand (placed n (heard_asks v))
    (placed n (heard_more (tables_shown cell hand) row v) ++ (if cut.are_held hand (placed n (heard_more (tables_shown cell hand) row v)) then also_parts n hand row v else []))

abbrev pub heard_need : ℕ → List (Option Part) → ClientRow → List ℕ → List ℕ
heard_need n hand row octets = verdict_need n hand row (verdict row octets)

-- what the loss of a client needs, once its part is held
abbrev pub lost_need : ℕ → List (Option Part) → ClientRow → List ℕ
lost_need n hand row =
    two_stages hand (placed n (loss_asks row.association)) (parted.told_places cell (also_lost row.association row.client (tables_shown cell hand)) n)

-- what time that goes by needs, once the clock, the event conditions and the semaphores are held: the variables where a
-- condition is evaluated, and whatever a client may have anything in where one is lost; and then the parts of those
-- that are told of what happens meanwhile
abbrev pub time_need : ℕ → List (Option Part) → ℕ → List ℕ
time_need n hand ms =
    two_stages hand (placed n (time_asks ms (tables_shown cell hand))) (parted.told_places cell (all_told (meanwhile ms (tables_shown cell hand)).happened) n)

-- what is shown and isn't held
abbrev pub need : CellEvent → List (Option Part) → List ℕ
need event hand = parted.need cell services event hand
