use Rattle.std.proofs.Common.{ℕ, List, subst}
use Rattle.parted_state.specs.Cut.{missing}
use Rattle.parted_state.specs.Sets.{IsSetOf}
use Rattle.step_parts.specs.Needs.{client_parts}
use Rattle.cell_client.specs.Meant.{meant}
use Rattle.step_needs.proofs.TimeNeeds.{also_set}
use Rattle.step_needs.proofs.heard.Sight.also_need.Goals as goal

pub returns : goal.returns
returns c =
    let s = c.args.self in
    also_set s.held.now s.clients s.part.now.row (meant c.args.found.now) c.in_ok-told.told.items c.untold.result c.requires.sight.own c.in_ok-told.ensures
    (subst (λ (l : List ℕ). IsSetOf c.untold.result (missing s.held.now (client_parts s.clients l))) c.deref.ensures.value c.untold.ensures)
