use denote.Param.Send.{sendable}
use Rattle.std.proofs.Crossing.{crosses}
use Rattle.part_table.proofs.pass.Pass.TheSendSync as pass
use Rattle.mms_device.proofs.Sent.{part_send}
use Rattle.device_tests.proofs.Crossing.{device_sync}
use Rattle.device_tests.proofs.holding.serve_through.Goals as goal

pub join-first-requires-send-F : goal.join-first-requires-send-F
join-first-requires-send-F g c κs within =
    let part = part_send in
    let shared = device_sync in
    let threads = c.type_bounds.sync-R in
    let gates = c.type_bounds.sync-G in
    search (crosses, sendable, pass.the_send) depth 30

pub join-first-requires-send-A : goal.join-first-requires-send-A
join-first-requires-send-A g c κs within = let part = part_send in search (crosses, sendable, pass.the_send) depth 30
