use Rattle.std.proofs.Common.{◌∙◌, sym}
use Rattle.std.proofs.lemmas.Result.{IfOk-weaker}
use Rattle.cell_client.specs.Meant.{meant}
use Rattle.step_apply.proofs.HeardIn.{verdict_heard}
use Rattle.step_apply.proofs.applying.found_of.Goals as goal

pub returns : goal.returns
returns c =
    IfOk-weaker c.verdict_of.result _ _
    (λ found is told heard.
    verdict_heard c.args.held.now c.args.client c.client_held.result.now c.args.read.now told (meant found) c.client_held.ensures (sym c.wants_memory.ensures ∙ c.if-wants_memory.false) heard is)
    c.verdict_of.ensures.verdict
