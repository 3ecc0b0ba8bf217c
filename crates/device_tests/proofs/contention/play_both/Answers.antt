use denote.Param.Send.{IsSend, sendable}
use denote.Param.SendFields.{declared_send}
use Rattle.std.proofs.Crossing.{crosses}
use Rattle.part_table.proofs.pass.Pass.TheSendSync as pass
use Rattle.mms_device.proofs.Sent.{part_send}
use Rattle.mms_device.proofs.whole.Drained.TheSendSync as drained
use Rattle.device_tests.specs.contracts.contention.Played as Played
use Rattle.device_tests.proofs.Crossing.{device_sync}
use Rattle.device_tests.proofs.contention.play_both.Goals as goal

pub join-first-requires-send-F : goal.join-first-requires-send-F
join-first-requires-send-F g c κs within =
    let part = part_send in
    let shared = device_sync in
    let threads = c.type_bounds.sync-R in
    search (crosses, sendable, pass.the_send) depth 30

played_send : IsSend Played.the_row
played_send =
    let part = part_send in
    declared_send Played.the_type (search (crosses, sendable, pass.the_send) depth 30, (search (crosses, sendable) depth 20, (drained.the_send, tt)))

pub join-first-requires-send-A : goal.join-first-requires-send-A
join-first-requires-send-A g c κs within = let played = played_send in search (crosses, sendable) depth 30
