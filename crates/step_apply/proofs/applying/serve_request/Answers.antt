use Rattle.std.proofs.Common.{◌≡◌, List, None, ℕ, Option, ap, refl, subst, sym}
use Rattle.std.specs.Prelude.{OnOk, Result}
use Rattle.mms_types.specs.Areas.{invocation_request, request_of}
use Rattle.mms_types.specs.declared.area.AreaRequest.{AreaRequest}
use Rattle.mms_types.specs.declared.memory.Memory.{Memory}
use Rattle.parted_state.specs.Cut.{is_in}
use Rattle.cell_client.specs.Association.{Takes}
use Rattle.cell_client.specs.Requests.{plain_answer}
use Rattle.cell_services.specs.Services.{InArea, asks_of}
use Rattle.cell_services.proofs.AreaTableLaws.{in_invocations}
use Rattle.step_parts.specs.AfterLaws.{is_domains, is_programs}
use Rattle.step_parts.specs.declared.part.Part.{Part}
use Rattle.step_parts.specs.Found.{row_held}
use Rattle.step_apply.specs.Tasks.{heard_in_place, IsReady}
use Rattle.step_apply.proofs.Ready.{table_there}
use Rattle.step_apply.proofs.applying.serve_request.Goals as goal

-- of a request that is in one area
ready_in : (n client invoke : ℕ) (hand : List (Option Part)) {asked a : AreaRequest} → asked ≡ a → IsReady n client (Takes invoke (request_of asked)) hand
    → IsReady n client (Takes invoke (request_of a)) hand
ready_in n client invoke hand is ready = subst (λ (a : AreaRequest). IsReady n client (Takes invoke (request_of a)) hand) is ready

put_in : (client invoke : ℕ) (hand new : List (Option Part)) (result : Result Unit Memory) {asked a : AreaRequest} → asked ≡ a
    → OnOk result (new ≡ heard_in_place client (Takes invoke (request_of a)) hand) → OnOk result (new ≡ heard_in_place client (Takes invoke (request_of asked)) hand)
put_in client invoke hand new result is put = subst (λ (a : AreaRequest). OnOk result (new ≡ heard_in_place client (Takes invoke (request_of a)) hand)) (sym is) put

pub serve_on_device-requires-clause-tables : goal.serve_on_device-requires-clause-tables
serve_on_device-requires-clause-tables c =
    subst (λ (a : AreaRequest). plain_answer (row_held c.args.held.now c.args.who.client) (request_of a) ≡ None) c.in-Device.is c.requires.tables

pub make_on_programs-requires-clause-domains : goal.make_on_programs-requires-clause-domains
make_on_programs-requires-clause-domains c =
    table_there c.requires.serving is_domains (λ t. refl) (Takes c.args.invoke (invocation_request c.in-Invocations.asked))
    (ap (λ (a : InArea). is_in (asks_of a) 2) (in_invocations c.in-Invocations.asked)) (ready_in c.args.who.clients c.args.who.client c.args.invoke c.args.held.now c.in-Invocations.is c.requires.ready)

pub make_on_programs-requires-clause-programs : goal.make_on_programs-requires-clause-programs
make_on_programs-requires-clause-programs c =
    table_there c.requires.serving is_programs (λ t. refl) (Takes c.args.invoke (invocation_request c.in-Invocations.asked))
    (ap (λ (a : InArea). is_in (asks_of a) 3) (in_invocations c.in-Invocations.asked)) (ready_in c.args.who.clients c.args.who.client c.args.invoke c.args.held.now c.in-Invocations.is c.requires.ready)

pub serve_on-requires-clause-ready : goal.serve_on-requires-clause-ready
serve_on-requires-clause-ready c = ready_in c.args.who.clients c.args.who.client c.args.invoke c.args.held.now c.in-Variables.is c.requires.ready

pub serve_on-requires-in-Semaphores-clause-ready : goal.serve_on-requires-in-Semaphores-clause-ready
serve_on-requires-in-Semaphores-clause-ready c = ready_in c.args.who.clients c.args.who.client c.args.invoke c.args.held.now c.in-Semaphores.is c.requires.ready

pub serve_on_domains-requires-clause-ready : goal.serve_on_domains-requires-clause-ready
serve_on_domains-requires-clause-ready c = ready_in c.args.who.clients c.args.who.client c.args.invoke c.args.held.now c.in-Domains.is c.requires.ready

pub serve_on-requires-in-Programs-clause-ready : goal.serve_on-requires-in-Programs-clause-ready
serve_on-requires-in-Programs-clause-ready c = ready_in c.args.who.clients c.args.who.client c.args.invoke c.args.held.now c.in-Programs.is c.requires.ready

pub serve_on-requires-in-Events-clause-ready : goal.serve_on-requires-in-Events-clause-ready
serve_on-requires-in-Events-clause-ready c = ready_in c.args.who.clients c.args.who.client c.args.invoke c.args.held.now c.in-Events.is c.requires.ready

pub serve_on-requires-in-Journals-clause-ready : goal.serve_on-requires-in-Journals-clause-ready
serve_on-requires-in-Journals-clause-ready c = ready_in c.args.who.clients c.args.who.client c.args.invoke c.args.held.now c.in-Journals.is c.requires.ready

pub returns-in-Device-clause-put : goal.returns-in-Device-clause-put
returns-in-Device-clause-put c = put_in c.args.who.client c.args.invoke c.args.held.now c.serve_on_device.new.held c.serve_on_device.result c.in-Device.is c.serve_on_device.ensures.put

pub returns-in-Variables-clause-put : goal.returns-in-Variables-clause-put
returns-in-Variables-clause-put c = put_in c.args.who.client c.args.invoke c.args.held.now c.serve_on.new.held c.serve_on.result c.in-Variables.is c.serve_on.ensures.put

pub returns-in-Semaphores-clause-put : goal.returns-in-Semaphores-clause-put
returns-in-Semaphores-clause-put c = put_in c.args.who.client c.args.invoke c.args.held.now c.serve_on-in-Semaphores.new.held c.serve_on-in-Semaphores.result c.in-Semaphores.is c.serve_on-in-Semaphores.ensures.put

pub returns-in-Domains-clause-put : goal.returns-in-Domains-clause-put
returns-in-Domains-clause-put c = put_in c.args.who.client c.args.invoke c.args.held.now c.serve_on_domains.new.held c.serve_on_domains.result c.in-Domains.is c.serve_on_domains.ensures.put

pub returns-in-Invocations-clause-put : goal.returns-in-Invocations-clause-put
returns-in-Invocations-clause-put c = put_in c.args.who.client c.args.invoke c.args.held.now c.make_on_programs.new.held c.make_on_programs.result c.in-Invocations.is c.make_on_programs.ensures.put

pub returns-in-Programs-clause-put : goal.returns-in-Programs-clause-put
returns-in-Programs-clause-put c = put_in c.args.who.client c.args.invoke c.args.held.now c.serve_on-in-Programs.new.held c.serve_on-in-Programs.result c.in-Programs.is c.serve_on-in-Programs.ensures.put

pub returns-in-Events-clause-put : goal.returns-in-Events-clause-put
returns-in-Events-clause-put c = put_in c.args.who.client c.args.invoke c.args.held.now c.serve_on-in-Events.new.held c.serve_on-in-Events.result c.in-Events.is c.serve_on-in-Events.ensures.put

pub returns-in-Journals-clause-put : goal.returns-in-Journals-clause-put
returns-in-Journals-clause-put c = put_in c.args.who.client c.args.invoke c.args.held.now c.serve_on-in-Journals.new.held c.serve_on-in-Journals.result c.in-Journals.is c.serve_on-in-Journals.ensures.put
