-- A device may be shared by threads.
use denote.Param.Send.{IsSync, sendable}
use denote.Param.SendFields.{declared_sync}
use Rattle.std.proofs.Crossing.{crosses}
use Rattle.part_table.proofs.table.PartTable.TheSendSync as table
use Rattle.mms_device.proofs.Sent.{part_send}
use Rattle.mms_device.specs.contracts.many.Device as Device
use Rattle.mms_device.specs.contracts.many.Device.TheInside as device

device_inside : IsSync device.the_row
device_inside = declared_sync device.the_type (let a = part_send in search (sendable, table.the_sync), (search (crosses, sendable) depth 20, (search (crosses, sendable) depth 20, (search (crosses, sendable) depth 20, tt))))

pub device_sync : IsSync Device.the_row
device_sync = let a = device_inside in search sendable
