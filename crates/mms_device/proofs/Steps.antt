-- What the device of many callers uses of the step of an event and of the parts: all of it that rests on the step's own
-- proofs.
use Rattle.std.specs.Prelude.{◌≡◌, ℕ, ◌+◌, ◌<◌, ◌≤◌, true, Option, None, Some, List, [], ◌∷◌, ◌++◌, is_some, map, length, Contains, refl}
use Rattle.std.proofs.Common.{ap, sym, ◌∙◌, subst, arith}
use Rattle.std.proofs.lemmas.List.{length-map}
use Rattle.std.proofs.lemmas.List.Elements.{Contains-append_left}
use Rattle.mms_types.specs.Actors.{IsAmong}
use Rattle.mms_types.specs.declared.event.CellEvent.{CellEvent}
use Rattle.mms_types.specs.declared.event.CellEvent.TheVariants.{Heard, Lost, Tick, Ends, Drain}
use Rattle.cell_config.specs.declared.config.Config.{Config}
use Rattle.cell_config.specs.Said.{IsConfig}
use Rattle.part_table.specs.Held.{held_at, IsHandOf}
use Rattle.part_table.specs.HeldLaws.{held_of_list, held_within}
use Rattle.parted_state.specs.CutLaws as laws
use Rattle.parted_state.specs.DeviceLaws as device
use Rattle.parted_state.specs.Served as parted
use Rattle.step_parts.specs.declared.part.Part.{Part}
use Rattle.step_parts.specs.declared.part.Part.TheVariants.{Clock}
use Rattle.step_parts.specs.State.{State, start, IsSound}
use Rattle.step_parts.specs.Step.{step, replay, outbox_in, outbox_of}
use Rattle.step_parts.specs.Partition.{IsInOrder, cell, parts_of, state_in, client_part, client_place, clients_among, clock_in, clock_place, outbox_held, IsClient}
use Rattle.step_parts.specs.Needs.{footprint, need, shown, wanted, wants, is_held}
use Rattle.step_parts.specs.After.{parts_after}
use Rattle.step_parts.specs.AfterLaws.{is_device, each_framed}
use Rattle.cell_services.specs.Serving.{services}
use Rattle.step_sound.proofs.AllParts.{nothing_needed}
use Rattle.step_parts.proofs.Holding as holding
pub use Rattle.step_parts.proofs.Holding.{clients_counted, held_client, parts_step}
use Rattle.step_parts.proofs.Needed as needed
pub use Rattle.step_parts.proofs.Needed.{drain_needs_none}
use Rattle.step_parts.proofs.PartsAfter as after
pub use Rattle.step_parts.proofs.PartsAfter.{length-start, step_sized}
pub use Rattle.step_sound.proofs.Sound.{replay_sound}
use Rattle.mms_device.specs.Shared.{goes_by}

pub the_held : (hand : List (Option Part)) (i : ℕ) → is_held hand i ≡ true → (x : Part) × (held_at hand i ≡ Some x)
the_held hand i held = by_value (held_at hand i) refl held
  where
    by_value : (o : Option Part) → held_at hand i ≡ o → is_some o ≡ true → (x : Part) × (held_at hand i ≡ Some x)
    by_value None e h = absurd (cc h)
    by_value (Some x) e h = (x, e)

-- ---- states

pub parts_many : (s t : State) → length s.clients ≡ length t.clients → length (parts_of s) ≡ length (parts_of t)
parts_many s t same = let a = after.length-parts s in let b = after.length-parts t in omega (arith, a, b, same)

pub parts_few : (config : Config) → IsConfig config → (1 ≤ length (parts_of (start config))) × (length (parts_of (start config)) ≤ 256)
parts_few config is =
    let long = after.length-parts (start config) in
    let n = after.length-start config in
    let few = is.few_clients in
    (omega (arith, long, n), omega (arith, long, n, few))

lost_still : (s : State) (client : ℕ) → (step s (Lost client)).now ≡ s.now
lost_still s client = let row = parted.row_of cell services s (Lost client) in after.now_lost row.association row.client (cell.tables_of s)

-- the moment moves by ticks alone
pub now_step : (s : State) (event : CellEvent) → (step s event).now ≡ s.now + goes_by event
now_step s (Heard client octets) = let still = after.step_still s client octets in omega (arith, still)
now_step s (Lost client) = let still = lost_still s client in omega (arith, still)
now_step s (Tick ms) = refl
now_step s (Ends name) = omega arith
now_step s (Drain client) = omega arith

-- ---- what is wanted

shows : (s : State) (hand : List (Option Part)) → IsHandOf hand (parts_of s) → laws.Shows parts_of IsInOrder state_in hand s
shows s hand of = laws.shows_state parts_of IsInOrder state_in (device.cut cell is_device) hand s of

-- the words of an event tell what it wants
pub words_wanted : (s : State) (event : CellEvent) (i : ℕ) → Contains (footprint (length s.clients) event) i → Contains (wanted event s) i
words_wanted s event i is = Contains-append_left (footprint (length s.clients) event) _ i is

-- what held parts show is wanted
pub shown_wanted : (s : State) (hand : List (Option Part)) (event : CellEvent) (i : ℕ) → IsHandOf hand (parts_of s) → Contains (shown event hand) i → Contains (wanted event s) i
shown_wanted s hand event i of is =
    laws.in_contains (wanted event s) i
    (laws.shown_wanted parts_of IsInOrder state_in (wants event) s hand [] (shows s hand of) (each_framed event s).stages_told refl i (laws.contains_in (shown event hand) i is))

-- where nothing is needed, all that is wanted is held
pub wanted_held : (s : State) (hand : List (Option Part)) (event : CellEvent) (i : ℕ) → IsHandOf hand (parts_of s) → need event hand ≡ [] → Contains (wanted event s) i
    → is_held hand i ≡ true
wanted_held s hand event i of enough is =
    laws.held_in hand (wanted event s) i
    (laws.wanted_shown parts_of IsInOrder state_in (wants event) s hand [] (shows s hand of) (each_framed event s).stages_told refl (laws.none_missing hand (shown event hand) enough)).0
    (laws.contains_in (wanted event s) i is)

-- what is wanted is a part
pub wanted_within : (s : State) (event : CellEvent) (i : ℕ) → IsAmong (length s.clients) event → Contains (wanted event s) i → i < length (parts_of s)
wanted_within s event i among is =
    let all = map Some (parts_of s) in
    let held = wanted_held s all event i (laws.all_of_them (parts_of s)) (nothing_needed s event among) is in
    let x = the_held all i held in
    let lt : i < length all = held_within all i x.0 x.1 in
    omega (arith, lt, length-map (parts_of s) Some)

-- ---- the clock

-- a clock that is held shows the moment, and where none is held the moment is shown as 0
pub clock_below : (s : State) (hand : List (Option Part)) → IsHandOf hand (parts_of s) → clock_in (held_at hand clock_place) ≤ s.now
clock_below s hand of = by_value (held_at hand clock_place) refl
  where
    by_value : (o : Option Part) → held_at hand clock_place ≡ o → clock_in o ≤ s.now
    by_value None e = omega arith
    by_value (Some x) e =
        let both : Some (Clock s.now) ≡ Some x = held_of_list hand (parts_of s) clock_place x of e in
        let same : Clock s.now ≡ x = cc both in
        subst (λ (y : Part). clock_in (Some y) ≤ s.now) same (omega arith)

-- ---- the part of a client

-- what it has to send is what its client has to send
pub outputs_held : (s : State) (hand : List (Option Part)) (client : ℕ) → IsHandOf hand (parts_of s) → 1 ≤ client → client ≤ length s.clients
    → is_held hand (client_place client) ≡ true → outbox_held (held_at hand (client_place client)) ≡ outbox_of s client
outputs_held s hand client of some there held =
    let found = holding.client_at s client some there in
    let is = holding.held_part hand (parts_of s) (client_place client) (client_part found.0) of held found.1 in
    ap outbox_held is ∙ sym (ap outbox_in found.2)

-- to drain it, it is what is told to be wanted, and all that is needed
pub client_told : (n client : ℕ) → 1 ≤ client → Contains (footprint n (Drain client)) (client_place client)
client_told n client some = subst (λ (l : List ℕ). Contains l (client_place client)) (sym (needed.own_footprint n client some)) (0, omega arith, refl)
