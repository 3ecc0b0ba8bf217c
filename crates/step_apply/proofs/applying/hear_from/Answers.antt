use Rattle.std.proofs.Common.{◌≡◌}
use Rattle.mms_pdu.specs.Heard.{pdu_heard}
use Rattle.step_parts.specs.Found.{row_held}
use Rattle.cell_client.specs.Association.{verdict}
use Rattle.cell_client.specs.declared.verdict.Found.{Found}
use Rattle.cell_client.specs.Meant.{meant}
use Rattle.step_parts.proofs.Found.{if_some}
use Rattle.step_apply.proofs.Ready.{put_as, ready_as}
use Rattle.step_apply.proofs.applying.hear_from.Goals as goal

pub returns-in-Some-clause-heard : goal.returns-in-Some-clause-heard
returns-in-Some-clause-heard c =
    let row = row_held c.args.held.now c.args.who.client in
    put_as c.args.who.client c.args.held.now c.hear_found.new.held c.hear_found.result (if_some (λ (f : Found). meant f ≡ verdict row c.args.octets.now) c.args.found.now c.in-Some.found c.in-Some.is c.requires.found) c.hear_found.ensures.heard

pub hear_found-requires-clause-found : goal.hear_found-requires-clause-found
hear_found-requires-clause-found c =
    let row = row_held c.args.held.now c.args.who.client in (
      pdu_heard row.constants.edition c.args.octets.now,
      if_some (λ (f : Found). meant f ≡ verdict row c.args.octets.now) c.args.found.now c.in-Some.found c.in-Some.is c.requires.found,
    )

pub hear_found-requires-clause-ready : goal.hear_found-requires-clause-ready
hear_found-requires-clause-ready c =
    let row = row_held c.args.held.now c.args.who.client in
    ready_as c.args.who.clients c.args.who.client c.args.held.now (if_some (λ (f : Found). meant f ≡ verdict row c.args.octets.now) c.args.found.now c.in-Some.found c.in-Some.is c.requires.found) c.requires.ready
