use Rattle.std.proofs.Common.{◌≡◌, List, length, [], ℕ, refl, sym, subst}
use Rattle.std.proofs.lemmas.Result.{on_ok_weaker}
use Rattle.mms_types.specs.Actors.{IsAmong}
use Rattle.mms_types.specs.declared.event.CellEvent.{CellEvent}
use Rattle.mms_types.specs.declared.event.CellEvent.TheVariants.{Heard, Drain}
use Rattle.step_parts.specs.Found.{row_held, IsFoundOf}
use Rattle.step_apply.specs.Tasks.{IsReady}
use Rattle.cell_client.specs.Association.{verdict}
use Rattle.part_table.specs.Held.{held_at}
use Rattle.step_parts.specs.Step.{IsInTime}
use Rattle.step_parts.specs.Partition.{clients_among, clock_in}
use Rattle.step_parts.specs.Needs.{need}
use Rattle.step_parts.proofs.Words.{client_is_held}
use Rattle.step_apply.proofs.Enough.{lost_is_held, heard_becomes, lost_becomes, ticked_becomes, ended_becomes, drained_becomes, places_either, programs_are_held}
use Rattle.step_apply.proofs.Ready.{ready_to_hear, to_serve}
use Rattle.step_parts.proofs.Found.{found_heard}
use Rattle.step_apply.proofs.applying.apply_by.Goals as goal

pub hear_from-requires-clause-serving : goal.hear_from-requires-clause-serving
hear_from-requires-clause-serving c =
    let hand = c.args.held.now in
    let told = Heard c.in-Heard.client c.in-Heard.octets in
    let among = subst (λ (e : CellEvent). IsAmong (clients_among (length hand)) e) c.in-Heard.is c.requires.among in
    let enough = subst (λ (e : CellEvent). need e hand ≡ []) c.in-Heard.is c.requires.held in
    to_serve hand c.in-Heard.client c.requires.of among (client_is_held hand told c.in-Heard.client c.requires.of among refl enough) c.clients_of-clients.result c.clients_of-clients.ensures

pub hear_from-requires-clause-found : goal.hear_from-requires-clause-found
hear_from-requires-clause-found c =
    found_heard c.args.found.now c.args.held.now c.in-Heard.client c.in-Heard.octets c.as_slice.result.now
    (subst (λ (e : CellEvent). IsFoundOf c.args.found.now e c.args.held.now) c.in-Heard.is c.requires.found) c.as_slice.ensures

pub hear_from-requires-clause-ready : goal.hear_from-requires-clause-ready
hear_from-requires-clause-ready c =
    let hand = c.args.held.now in
    let told = Heard c.in-Heard.client c.in-Heard.octets in
    let among = subst (λ (e : CellEvent). IsAmong (clients_among (length hand)) e) c.in-Heard.is c.requires.among in
    let enough = subst (λ (e : CellEvent). need e hand ≡ []) c.in-Heard.is c.requires.held in
    subst (λ (n : ℕ). IsReady n c.in-Heard.client (verdict (row_held hand c.in-Heard.client) c.as_slice.result.now) hand) (sym c.clients_of-clients.ensures)
    (subst (λ (o : List ℕ). IsReady (clients_among (length hand)) c.in-Heard.client (verdict (row_held hand c.in-Heard.client) o) hand) (sym c.as_slice.ensures)
    (ready_to_hear hand c.in-Heard.client c.requires.of among (client_is_held hand told c.in-Heard.client c.requires.of among refl enough) c.in-Heard.octets enough))

pub serve-requires-clause-own : goal.serve-requires-clause-own
serve-requires-clause-own c =
    let hand = c.args.held.now in
    lost_is_held hand c.in-Lost.client c.requires.of (subst (λ (e : CellEvent). IsAmong (clients_among (length hand)) e) c.in-Lost.is c.requires.among)
    (subst (λ (e : CellEvent). need e hand ≡ []) c.in-Lost.is c.requires.held)

pub tick-requires-clause-time : goal.tick-requires-clause-time
tick-requires-clause-time c = subst (λ (e : CellEvent). IsInTime (clock_in (held_at c.args.held.now 0)) e) c.in-Tick.is c.requires.time

pub drain-outputs-requires-clause-held : goal.drain-outputs-requires-clause-held
drain-outputs-requires-clause-held c =
    let hand = c.args.held.now in
    let told = Drain c.in-Drain.client in
    client_is_held hand told c.in-Drain.client c.requires.of (subst (λ (e : CellEvent). IsAmong (clients_among (length hand)) e) c.in-Drain.is c.requires.among) refl
    (subst (λ (e : CellEvent). need e hand ≡ []) c.in-Drain.is c.requires.held)

pub returns-in-Heard-clause-step : goal.returns-in-Heard-clause-step
returns-in-Heard-clause-step c =
    on_ok_weaker c.hear_from.result (λ becomes. becomes.step)
    (heard_becomes c.args.held.now c.hear_from.new.held c.args.event.now c.in-Heard.client c.in-Heard.octets c.as_slice.result.now c.hear_from.result c.in-Heard.is c.as_slice.ensures
    c.requires.of c.requires.among c.requires.held c.hear_from.ensures.heard)

pub returns-in-Heard-clause-parts : goal.returns-in-Heard-clause-parts
returns-in-Heard-clause-parts c =
    on_ok_weaker c.hear_from.result (λ becomes. becomes.parts)
    (heard_becomes c.args.held.now c.hear_from.new.held c.args.event.now c.in-Heard.client c.in-Heard.octets c.as_slice.result.now c.hear_from.result c.in-Heard.is c.as_slice.ensures
    c.requires.of c.requires.among c.requires.held c.hear_from.ensures.heard)

pub returns-in-Heard-clause-places : goal.returns-in-Heard-clause-places
returns-in-Heard-clause-places c =
    places_either c.hear_from.result c.args.held.now c.hear_from.new.held c.args.event.now
    (heard_becomes c.args.held.now c.hear_from.new.held c.args.event.now c.in-Heard.client c.in-Heard.octets c.as_slice.result.now c.hear_from.result c.in-Heard.is c.as_slice.ensures
    c.requires.of c.requires.among c.requires.held c.hear_from.ensures.heard)
    c.hear_from.ensures.kept

pub returns-in-Lost-clause-step : goal.returns-in-Lost-clause-step
returns-in-Lost-clause-step c =
    on_ok_weaker c.serve.result (λ becomes. becomes.step)
    (lost_becomes c.args.held.now c.serve.new.held c.args.event.now c.in-Lost.client c.serve.result c.in-Lost.is c.requires.of c.requires.among c.requires.held c.serve.ensures.put)

pub returns-in-Lost-clause-parts : goal.returns-in-Lost-clause-parts
returns-in-Lost-clause-parts c =
    on_ok_weaker c.serve.result (λ becomes. becomes.parts)
    (lost_becomes c.args.held.now c.serve.new.held c.args.event.now c.in-Lost.client c.serve.result c.in-Lost.is c.requires.of c.requires.among c.requires.held c.serve.ensures.put)

pub returns-in-Lost-clause-places : goal.returns-in-Lost-clause-places
returns-in-Lost-clause-places c =
    places_either c.serve.result c.args.held.now c.serve.new.held c.args.event.now
    (lost_becomes c.args.held.now c.serve.new.held c.args.event.now c.in-Lost.client c.serve.result c.in-Lost.is c.requires.of c.requires.among c.requires.held c.serve.ensures.put)
    c.serve.ensures.kept

pub returns-in-Tick-clause-step : goal.returns-in-Tick-clause-step
returns-in-Tick-clause-step c =
    on_ok_weaker c.tick.result (λ becomes. becomes.step)
    (ticked_becomes c.args.held.now c.tick.new.held c.args.event.now c.in-Tick.ms c.tick.result c.in-Tick.is c.requires.of c.requires.among c.requires.held c.tick.ensures.put)

pub returns-in-Tick-clause-parts : goal.returns-in-Tick-clause-parts
returns-in-Tick-clause-parts c =
    on_ok_weaker c.tick.result (λ becomes. becomes.parts)
    (ticked_becomes c.args.held.now c.tick.new.held c.args.event.now c.in-Tick.ms c.tick.result c.in-Tick.is c.requires.of c.requires.among c.requires.held c.tick.ensures.put)

pub returns-in-Tick-clause-places : goal.returns-in-Tick-clause-places
returns-in-Tick-clause-places c =
    places_either c.tick.result c.args.held.now c.tick.new.held c.args.event.now
    (ticked_becomes c.args.held.now c.tick.new.held c.args.event.now c.in-Tick.ms c.tick.result c.in-Tick.is c.requires.of c.requires.among c.requires.held c.tick.ensures.put)
    c.tick.ensures.kept

pub returns-in-Drain-clause-step : goal.returns-in-Drain-clause-step
returns-in-Drain-clause-step c =
    (drained_becomes c.args.held.now c.drain-outputs.new.held c.args.event.now c.in-Drain.client c.in-Drain.is c.requires.of c.requires.among c.requires.held c.drain-outputs.ensures.emptied).step

pub returns-in-Drain-clause-parts : goal.returns-in-Drain-clause-parts
returns-in-Drain-clause-parts c =
    (drained_becomes c.args.held.now c.drain-outputs.new.held c.args.event.now c.in-Drain.client c.in-Drain.is c.requires.of c.requires.among c.requires.held c.drain-outputs.ensures.emptied).parts

pub returns-in-Drain-clause-places : goal.returns-in-Drain-clause-places
returns-in-Drain-clause-places c =
    (drained_becomes c.args.held.now c.drain-outputs.new.held c.args.event.now c.in-Drain.client c.in-Drain.is c.requires.of c.requires.among c.requires.held c.drain-outputs.ensures.emptied).places

pub end_program-requires : goal.end_program-requires
end_program-requires c =
    programs_are_held c.args.held.now c.in-Ends.name c.requires.of (subst (λ (e : CellEvent). need e c.args.held.now ≡ []) c.in-Ends.is c.requires.held)

pub returns-in-Ends-clause-step : goal.returns-in-Ends-clause-step
returns-in-Ends-clause-step c =
    (ended_becomes c.args.held.now c.end_program.new.held c.args.event.now c.in-Ends.name c.in-Ends.is c.requires.of c.requires.among c.requires.held c.end_program.ensures).step

pub returns-in-Ends-clause-parts : goal.returns-in-Ends-clause-parts
returns-in-Ends-clause-parts c =
    (ended_becomes c.args.held.now c.end_program.new.held c.args.event.now c.in-Ends.name c.in-Ends.is c.requires.of c.requires.among c.requires.held c.end_program.ensures).parts

pub returns-in-Ends-clause-places : goal.returns-in-Ends-clause-places
returns-in-Ends-clause-places c =
    (ended_becomes c.args.held.now c.end_program.new.held c.args.event.now c.in-Ends.name c.in-Ends.is c.requires.of c.requires.among c.requires.held c.end_program.ensures).places
