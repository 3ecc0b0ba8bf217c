-- A job may go from thread to thread, and workers may share what gives it turns.
use denote.Ref.{NamedLft}
use denote.Param.Send.{IsSend, IsSync, sendable, shr_sync}
use denote.Param.SendFields.{declared_send, declared_sync}
use Rattle.std.proofs.Crossing.{crosses}
use Rattle.mms_types.proofs.octets.Octets.TheSendSync as octets
use Rattle.mms_types.proofs.identifier.Identifier.TheSendSync as identifier
use Rattle.mms_types.proofs.event.Events.TheSendSync as events
use Rattle.part_table.proofs.pass.Pass.TheSendSync as pass
use Rattle.part_table.proofs.table.PartTable.TheSendSync as table
use Rattle.mms_device.proofs.Sent.{part_send}
use Rattle.mms_device.specs.contracts.turns.CellJob as CellJob
use Rattle.mms_device.specs.contracts.turns.CellTurns as CellTurns
use Rattle.mms_device.specs.contracts.many.Device as Device
use Rattle.mms_device.specs.contracts.many.Device.TheInside as device

pub job_send : IsSend CellJob.the_row
job_send = declared_send CellJob.the_type (let a = part_send in search (sendable, pass.the_send), (events.the_send, (search (crosses, sendable, octets.the_send, identifier.the_send) depth 20, tt)))

pub device_inside : IsSync device.the_row
device_inside = declared_sync device.the_type (let a = part_send in search (sendable, table.the_sync), (search (crosses, sendable) depth 20, (search (crosses, sendable) depth 20, (search (crosses, sendable) depth 20, tt))))

pub device_sync : IsSync Device.the_row
device_sync = let a = device_inside in search sendable

pub turns_sync : (device : NamedLft) → IsSync (CellTurns.the_row device)
turns_sync device = declared_sync (CellTurns.the_type device) (shr_sync _ _ _ device_sync, (search (crosses, sendable) depth 20, tt))
