use Rattle.std.proofs.Common.{◌∙◌}
use Rattle.mms_pdu.specs.Heard.{pdu_heard}
use Rattle.step_apply.proofs.HeardIn.{verdict_of_edition}
use Rattle.step_apply.proofs.Ready.{put_as, ready_as}
use Rattle.step_apply.proofs.applying.hear_octets.Goals as goal

pub hear_found-requires-clause-found : goal.hear_found-requires-clause-found
hear_found-requires-clause-found c = (
  pdu_heard c.constants.result.now.edition c.args.octets.now,
  c.in-Ok.ensures (pdu_heard c.constants.result.now.edition c.args.octets.now) c.read_pdu_to.ensures.pdu,
)

pub hear_found-requires-clause-ready : goal.hear_found-requires-clause-ready
hear_found-requires-clause-ready c =
    ready_as c.args.who.clients c.args.who.client c.args.held.now (c.in-Ok.ensures (pdu_heard c.constants.result.now.edition c.args.octets.now) c.read_pdu_to.ensures.pdu
    ∙ verdict_of_edition c.args.held.now c.args.who.client c.client_held.result.now c.constants.result.now c.args.octets.now c.client_held.ensures c.constants.ensures)
    c.requires.ready

pub returns-in-Ok-clause-heard : goal.returns-in-Ok-clause-heard
returns-in-Ok-clause-heard c =
    put_as c.args.who.client c.args.held.now c.hear_found.new.held c.hear_found.result (c.in-Ok.ensures (pdu_heard c.constants.result.now.edition c.args.octets.now) c.read_pdu_to.ensures.pdu
    ∙ verdict_of_edition c.args.held.now c.args.who.client c.client_held.result.now c.constants.result.now c.args.octets.now c.client_held.ensures c.constants.ensures)
    c.hear_found.ensures.heard
