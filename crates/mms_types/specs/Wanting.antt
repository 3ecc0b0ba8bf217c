-- Want of memory: one value, since nothing more is said of it.
use Rattle.mms_types.specs.declared.memory.Memory.{Memory}

abbrev pub wanting : Memory
wanting = record { told = record {} }
