use denote.Param.Send.{sendable}
use Rattle.std.proofs.Crossing.{crosses}
use Rattle.cell_run.proofs.Crossing.{crew_send, phase_send, told_send}
use Rattle.cell_run.proofs.workers.serve_beside.Goals as goal

pub join_mut-requires-send-F : goal.join_mut-requires-send-F
join_mut-requires-send-F g c κs within =
    let crew = crew_send in
    let phase = phase_send in
    let told = told_send in
    let threads = c.type_bounds.sync-R in
    let gates = c.type_bounds.sync-G in
    search (crosses, sendable) depth 30
