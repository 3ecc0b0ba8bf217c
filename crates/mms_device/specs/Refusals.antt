-- Why an event was not served.
use Rattle.mms_types.specs.declared.event.CellEvent.{CellEvent}
use Rattle.cell_config.specs.declared.config.Config.{Config}
use Rattle.mms_device.specs.declared.answers.Refused.{Refused}
use Rattle.mms_device.specs.declared.answers.Refused.TheVariants as refused
use Rattle.mms_device.specs.Shared.{Caller, IsBusy, IsAsBefore}

-- a part that it wants was held by another caller, or there was not enough memory
abbrev pub IsRefused : Config → CellEvent → Caller → Caller → Refused → Type 0
IsRefused config event old new (refused.Busy busy) = IsBusy config event old new busy.part busy.by
IsRefused config event old new refused.Memory = IsAsBefore old new
