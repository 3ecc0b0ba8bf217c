-- Where nothing is needed that is not held, the parts that an event changes are held, and become those of the state
-- after it.
use Rattle.std.specs.Prelude.{◌≡◌, ℕ, zero, suc, ◌≤◌, Option, Some, List, [], is_some, length, OnOk, OnErr, Result, Ok, Err, refl}
use Rattle.std.specs.Option.{option_map}
use Rattle.std.proofs.Common.{ap, sym, ◌∙◌, subst, arith}
use Rattle.std.proofs.lemmas.Result.{on_ok_weaker}
use Rattle.mms_types.specs.Actors.{IsAmong, actor_of}
use Rattle.mms_types.specs.declared.memory.Memory.{Memory}
use Rattle.mms_types.specs.declared.event.CellEvent.{CellEvent}
use Rattle.mms_types.specs.declared.event.CellEvent.TheVariants.{Heard, Lost, Tick, Ends, Drain}
use Rattle.association.specs.Client.{ClientRow, drained_row}
use Rattle.part_table.specs.Held.{held_at, places_held, IsHandOf}
use Rattle.parted_state.proofs.Laid.{one_put}
use Rattle.parted_state.proofs.LiftedLaws.{change_holds_the_same}
use Rattle.parted_state.specs.Served.{change}
use Rattle.step_parts.proofs.Words.{OfState, OfSome, client_is_held, first_held, own_is_held, words_held}
use Rattle.step_parts.specs.declared.part.Part.{Part}
use Rattle.step_parts.specs.declared.part.Part.TheVariants.{Client, Programs}
use Rattle.step_parts.specs.State.{State}
use Rattle.cell_client.specs.Association.{verdict}
use Rattle.cell_client.specs.declared.acts.Act.TheVariants as act
use Rattle.step_apply.specs.declared.serving.Task.TheVariants as task
use Rattle.step_parts.specs.Found.{row_held}
use Rattle.step_apply.specs.Tasks.{heard_in_place, task_done, HoldsClient}
use Rattle.step_parts.specs.AfterLaws.{after_holds_the_same, each_served, is_device, is_programs}
use Rattle.parted_state.specs.Lifted.{row_shown, tables_shown, put_in_place}
use Rattle.parted_state.proofs.LiftedLaws as lifted
use Rattle.program_inv.specs.Programs.{after_ends}
use Rattle.cell_services.specs.Serving.{passes, serves, services}
use Rattle.cell_services.specs.Tables.{Tables, own_programs}
use Rattle.step_apply.specs.Lifting.{placed_at}
use Rattle.step_parts.specs.Step.{step}
use Rattle.step_parts.specs.Partition.{cell, parts_of, state_in, client_place, clients_among, on_client, programs_in, IsClient, IsPrograms}
use Rattle.step_parts.specs.Needs.{need}
use Rattle.step_parts.specs.After.{after}
use Rattle.step_parts.proofs.Holding.{clients_counted, held_part, after_of_hand, change_is_held}
use Rattle.step_parts.proofs.Needed.{drain_needs_none}
use Rattle.step_parts.proofs.Shown.{shown_own}
use Rattle.step_parts.proofs.PartsAfter.{with_client, client_changed, step_drained}

-- the part of a client that is lost
pub lost_is_held : (hand : List (Option Part)) (client : ℕ) → OfState hand → IsAmong (clients_among (length hand)) (Lost client) → need (Lost client) hand ≡ []
    → HoldsClient client hand
lost_is_held hand client (s, sound, of) among enough =
    let counted = clients_counted s hand of in
    let few = sound.1.few in
    (omega (arith, counted, few, among.1), client_is_held hand (Lost client) client (s, sound, of) among refl enough)

-- ---- held parts after an event

pub record Becomes (hand new : List (Option Part)) (event : CellEvent) : Type 0 where
  pub step : (s : State) → IsHandOf hand (parts_of s) → IsHandOf new (parts_of (step s event))
  pub parts : new ≡ after event hand
  pub places : places_held new ≡ places_held hand

become : (hand new : List (Option Part)) (event : CellEvent) → OfSome hand → need event hand ≡ [] → places_held new ≡ places_held hand
    → ((s : State) → IsHandOf hand (parts_of s) → IsHandOf new (parts_of (step s event))) → Becomes hand new event
become hand new event (s, of) enough same stepped =
    record { step = stepped; parts = after_of_hand s hand new event of enough (stepped s of) same; places = same }

-- the row of the client of an event is changed
own_becomes : (hand new : List (Option Part)) (event : CellEvent) (client : ℕ) (f : ClientRow → ClientRow) → OfSome hand → (1 ≤ client) × (client ≤ clients_among (length hand))
    → actor_of event ≡ client → need event hand ≡ [] → new ≡ change (option_map (on_client f)) hand (client_place client)
    → ((s : State) → 1 ≤ client → client ≤ length s.clients → step s event ≡ with_client s client f) → Becomes hand new event
own_becomes hand new event client f of_state among whose enough is stepped =
    become hand new event of_state enough (ap (λ (h : List (Option Part)). places_held h) is ∙ change_holds_the_same (on_client f) hand (client_place client))
    (λ s of. let counted = clients_counted s hand of in
    let there : client ≤ length s.clients = omega (arith, counted, among.1) in
    let held = own_is_held hand (length (state_in hand).clients) event client whose among.0 (words_held hand event enough) in
    subst (λ (h : List (Option Part)). IsHandOf h (parts_of (step s event))) (sym is)
    (subst (λ (l : List Part). IsHandOf (change (option_map (on_client f)) hand (client_place client)) l)
    (sym (ap (λ (u : State). parts_of u) (stepped s among.0 there) ∙ client_changed s client f among.0 there))
    (change_is_held (on_client f) hand (parts_of s) (client_place client) of held)))

-- of an event that is this one
becomes_as : (hand new : List (Option Part)) (event told : CellEvent) → event ≡ told → IsAmong (clients_among (length hand)) event → need event hand ≡ []
    → (IsAmong (clients_among (length hand)) told → need told hand ≡ [] → Becomes hand new told) → Becomes hand new event
becomes_as hand new event told is among enough becomes =
    subst (λ (e : CellEvent). Becomes hand new e) (sym is)
    (becomes (subst (λ (e : CellEvent). IsAmong (clients_among (length hand)) e) is among) (subst (λ (e : CellEvent). need e hand ≡ []) is enough))

pub drained_becomes : (hand new : List (Option Part)) (event : CellEvent) (client : ℕ) → event ≡ Drain client → OfState hand → IsAmong (clients_among (length hand)) event → need event hand ≡ []
    → new ≡ change (option_map (on_client drained_row)) hand (client_place client) → Becomes hand new event
drained_becomes hand new event client told of among enough is =
    becomes_as hand new event (Drain client) told among enough
    (λ among enough. own_becomes hand new (Drain client) client drained_row (of.0, of.2) among refl enough is (λ s some there. step_drained s client some there))

-- a client's part that is held alone is enough for its drain
pub drained_is_after : (hand new : List (Option Part)) (client : ℕ) (s : State) → IsHandOf hand (parts_of s) → IsAmong (length s.clients) (Drain client)
    → IsClient (held_at hand (client_place client)) → new ≡ change (option_map (on_client drained_row)) hand (client_place client) → new ≡ after (Drain client) hand
drained_is_after hand new client s of among held is =
    let counted = clients_counted s hand of in
    (own_becomes hand new (Drain client) client drained_row (s, of) (among.0, omega (arith, counted, among.1)) refl
    (drain_needs_none hand client among.0 (ap (λ (o : Option Part). is_some o) held)) is (λ u some there. step_drained u client some there)).parts

-- what is served on the tables and the row that held parts show, and put in place
pub served_becomes : (hand new : List (Option Part)) (event : CellEvent) → OfState hand → actor_of event ≤ clients_among (length hand) → need event hand ≡ []
    → new ≡ put_in_place cell (serves (tables_shown cell hand) (row_shown cell (actor_of event) hand) event) hand → Becomes hand new event
served_becomes hand new event (s, sound, of) few enough put =
    let is : new ≡ after event hand = put ∙ lifted.in_place cell is_device services event (each_served event) s tt hand of enough few in
    record {
      step = λ u of_u. subst (λ (h : List (Option Part)). IsHandOf h (parts_of (step u event))) (sym put)
          (lifted.of_state cell is_device services event (each_served event) u tt hand of_u enough few);
      parts = is;
      places = ap (λ (h : List (Option Part)). places_held h) is ∙ after_holds_the_same event hand;
    }

-- the row of a client whose part is held
pub row_of_held : (hand : List (Option Part)) (client : ℕ) → 1 ≤ client → row_shown cell client hand ≡ row_held hand client
row_of_held hand zero some = absurd (omega (arith, some))
row_of_held hand (suc i) some = refl

pub heard_becomes : (hand new : List (Option Part)) (event : CellEvent) (client : ℕ) (octets given : List ℕ) (result : Result Unit Memory) → event ≡ Heard client octets → given ≡ octets
    → OfState hand → IsAmong (clients_among (length hand)) event → need event hand ≡ [] → OnOk result (new ≡ heard_in_place client (verdict (row_held hand client) given) hand)
    → OnOk result (Becomes hand new event)
heard_becomes hand new event client octets given result told same of among enough =
    on_ok_weaker result (λ put. becomes_as hand new event (Heard client octets) told among enough
    (λ among enough. served_becomes hand new (Heard client octets) of among.1 enough
    (put ∙ ap (λ (o : List ℕ). heard_in_place client (verdict (row_held hand client) o) hand) same
    ∙ ap (λ (r : ClientRow). put_in_place cell (serves (tables_shown cell hand) r (Heard client octets)) hand) (sym (row_of_held hand client among.0)))))

pub lost_becomes : (hand new : List (Option Part)) (event : CellEvent) (client : ℕ) (result : Result Unit Memory) → event ≡ Lost client → OfState hand
    → IsAmong (clients_among (length hand)) event → need event hand ≡ []
    → OnOk result (new ≡ put_in_place cell (task_done (tables_shown cell hand) hand (task.Client client act.Loss)) hand) → OnOk result (Becomes hand new event)
lost_becomes hand new event client result told of among enough =
    on_ok_weaker result (λ put. becomes_as hand new event (Lost client) told among enough
    (λ among enough. served_becomes hand new (Lost client) of among.1 enough
    (put ∙ ap (λ (r : ClientRow). put_in_place cell (serves (tables_shown cell hand) r (Lost client)) hand) (sym (row_of_held hand client among.0)))))

pub ticked_becomes : (hand new : List (Option Part)) (event : CellEvent) (ms : ℕ) (result : Result Unit Memory) → event ≡ Tick ms → OfState hand
    → IsAmong (clients_among (length hand)) event → need event hand ≡ []
    → OnOk result (new ≡ put_in_place cell (passes ms (tables_shown cell hand)) hand) → OnOk result (Becomes hand new event)
ticked_becomes hand new event ms result told of among enough =
    on_ok_weaker result (λ put. becomes_as hand new event (Tick ms) told among enough (λ among enough. served_becomes hand new (Tick ms) of (omega arith) enough put))

-- the part of the program invocations, where one ends
pub programs_are_held : (hand : List (Option Part)) (name : List ℕ) → OfState hand → need (Ends name) hand ≡ [] → IsPrograms (held_at hand 3)
programs_are_held hand name (s, sound, of) enough =
    let there = held_part hand (parts_of s) 3 (Programs s.programs) of (first_held hand 3 [] (words_held hand (Ends name) enough)) refl in
    there ∙ sym (ap (λ (o : Option Part). Some (Programs (programs_in o))) there)

pub ended_becomes : (hand new : List (Option Part)) (event : CellEvent) (name : List ℕ) → event ≡ Ends name → OfState hand → IsAmong (clients_among (length hand)) event → need event hand ≡ []
    → new ≡ placed_at (Programs (after_ends name (programs_in (held_at hand 3)))) hand 3 → Becomes hand new event
ended_becomes hand new event name told (s, sound, of) among enough put =
    becomes_as hand new event (Ends name) told among enough
    (λ among enough. served_becomes hand new (Ends name) (s, sound, of) (omega arith) enough
    (put ∙ sym (one_put cell is_device s hand of own_programs is_programs (after_ends name (programs_in (held_at hand 3))) (omega arith))
    ∙ ap (λ (t : Tables). put_in_place cell (record { tables = record (tables_shown cell hand) { programs = after_ends name t.programs }; told = [] }) hand) (shown_own hand)))

-- and without memory, where nothing changes
pub places_either : (result : Result Unit Memory) (hand new : List (Option Part)) (event : CellEvent) → OnOk result (Becomes hand new event) → OnErr result (new ≡ hand)
    → places_held new ≡ places_held hand
places_either (Ok done) hand new event becomes same = becomes.places
places_either (Err memory) hand new event becomes same = ap (λ (h : List (Option Part)). places_held h) same
