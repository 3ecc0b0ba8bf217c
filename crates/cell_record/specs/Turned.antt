-- How what fails below is told (this profile's choice).
use Rattle.std.specs.Prelude.{ℕ}
use Rattle.cell_io.specs.declared.lines.Stop.{Stop}
use Rattle.cell_io.specs.declared.lines.Stop.TheVariants as stop
use Rattle.mms_types.specs.declared.identifier.Unnamed.{Unnamed}
use Rattle.mms_types.specs.declared.identifier.Unnamed.TheVariants as name
use Rattle.cell_config.specs.declared.config.BadConfig.{BadConfig as Unconfigured}
use Rattle.cell_config.specs.declared.config.BadConfig.TheVariants as config
use Rattle.cell_record.specs.declared.said.LineError.{LineError}
use Rattle.cell_record.specs.declared.said.LineError.TheVariants as line
use Rattle.cell_record.specs.declared.refusal.BadWord.TheVariants as bad
use Rattle.cell_record.specs.declared.refusal.RecordError.{RecordError}
use Rattle.cell_record.specs.declared.refusal.RecordError.TheVariants.{ReadFault, Bad, BadConfig}
use Rattle.cell_record.specs.declared.refusal.RecordError.TheVariants.{TooMuch, Memory}

-- why the line of this number wasn't given
abbrev pub stop_told : ℕ → Stop → RecordError
stop_told number stop.Fault = ReadFault
stop_told number stop.TooMuch = TooMuch number
stop_told number stop.Memory = Memory

-- why the line of this number says nothing
abbrev pub line_told : ℕ → LineError → RecordError
line_told number (line.Bad word) = Bad number word
line_told number line.Memory = Memory

-- why the configuration's text is none
abbrev pub config_told : Unconfigured → RecordError
config_told (config.Rule rule) = BadConfig rule
config_told config.Memory = Memory

-- why no program invocation has such a name
abbrev pub name_told : Unnamed → LineError
name_told (name.Bad rule) = line.Bad bad.Event
name_told name.Memory = line.Memory
