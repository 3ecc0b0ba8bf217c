-- The exit statuses (this profile's choice).
use Rattle.std.specs.Prelude.{ℕ}
use Rattle.cell_run.specs.declared.status.Status.{Status}
use Rattle.cell_run.specs.declared.status.Status.TheVariants.{Done, Usage, Bad, Memory, ReadFault, WriteFault, BadConfig, TooMuch}

abbrev pub code_of : Status → ℕ
code_of Done = 0
code_of Usage = 1
code_of Bad = 2
code_of Memory = 3
code_of ReadFault = 4
code_of WriteFault = 5
code_of BadConfig = 6
code_of TooMuch = 7
