use Rattle.std.proofs.Common.{subst}
use Rattle.std.proofs.lemmas.Result.{IfOk-weaker}
use Rattle.parted_state.specs.Sets.{IsSetOf}
use Rattle.cell_client.specs.Association.{Verdict}
use Rattle.step_parts.specs.Needs.{verdict_need}
use Rattle.step_needs.proofs.heard.Sight.read_need.Goals as goal

pub returns : goal.returns
returns c =
    let s = c.args.self in
    IfOk-weaker c.found_need.result _ _
    (λ parts is. subst (λ (v : Verdict). IsSetOf parts (verdict_need s.clients s.held.now s.part.now.row v)) c.in_ok-verdict_of.ensures.verdict is)
    c.found_need.ensures
