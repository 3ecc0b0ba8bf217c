-- What serves a phase may go to another thread.
use denote.Param.Send.{IsSend, sendable}
use denote.Param.SendFields.{declared_send}
use Rattle.std.proofs.Crossing.{crosses}
use Rattle.mms_types.proofs.event.Events.TheSendSync as events
use Rattle.part_table.proofs.pass.Pass.TheSendSync as pass
use Rattle.part_table.proofs.table.PartTable.TheSendSync as table
use Rattle.mms_device.proofs.Sent.{part_send}
use Rattle.mms_device.specs.contracts.many.Device as Device
use Rattle.mms_device.specs.contracts.many.Device.TheInside as device
use Rattle.cell_record.specs.contracts.recording.Phase as Phase
use Rattle.cell_record.specs.contracts.told.Told as Told
use Rattle.cell_record.proofs.told.PlacedEvents.TheSendSync as placed
use Rattle.cell_record.proofs.told.ClientOutputs.TheSendSync as outputs
use Rattle.cell_run.specs.contracts.crew.Crew as Crew

device_inside : IsSend device.the_row
device_inside = declared_send device.the_type (let a = part_send in search (sendable, table.the_send), (search (crosses, sendable) depth 20, (search (crosses, sendable) depth 20, (search (crosses, sendable) depth 20, tt))))

device_send : IsSend Device.the_row
device_send = let a = device_inside in search sendable

pub crew_send : IsSend Crew.the_row
crew_send =
    declared_send Crew.the_type (device_send, (let a = part_send in search (crosses, sendable, pass.the_send) depth 30, (search (crosses, sendable) depth 20, (search (crosses, sendable) depth 20, tt))))

pub phase_send : IsSend Phase.the_row
phase_send = declared_send Phase.the_type (search (crosses, sendable) depth 20, (events.the_send, tt))

pub told_send : IsSend Told.the_row
told_send = declared_send Told.the_type (search (crosses, sendable) depth 20, (placed.the_send, (outputs.the_send, tt)))
