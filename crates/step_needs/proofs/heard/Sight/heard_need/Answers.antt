use Rattle.std.proofs.Common.{◌≡◌, subst}
use Rattle.std.proofs.lemmas.Result.{IfOk-weaker}
use Rattle.parted_state.specs.Sets.{IsSetOf}
use Rattle.cell_client.specs.Association.{Verdict, verdict}
use Rattle.cell_client.specs.declared.verdict.Found.{Found}
use Rattle.cell_client.specs.Meant.{meant}
use Rattle.step_parts.specs.Needs.{verdict_need}
use Rattle.step_parts.proofs.Found.{if_some}
use Rattle.step_needs.proofs.heard.Sight.heard_need.Goals as goal

pub returns-in-Some : goal.returns-in-Some
returns-in-Some c =
    let s = c.args.self in
    IfOk-weaker c.found_need.result _ _
    (λ parts is. subst (λ (v : Verdict). IsSetOf parts (verdict_need s.clients s.held.now s.part.now.row v))
    (if_some (λ (f : Found). meant f ≡ verdict s.part.now.row c.args.octets.now) c.args.found.now c.in-Some.found c.in-Some.is c.requires.found) is)
    c.found_need.ensures
