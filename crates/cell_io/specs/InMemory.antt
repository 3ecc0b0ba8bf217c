-- What a source and a sink in memory were made with, and how often they were called.
use Rattle.std.specs.Prelude.{ℕ, ◌-◌, List, length}
use Rattle.cell_io.specs.declared.in_memory.MemorySource.{MemorySource}
use Rattle.cell_io.specs.declared.in_memory.MemorySink.{MemorySink}

-- the numbers, from 1, of the reads that fail
abbrev pub failing_reads : MemorySource → List ℕ
failing_reads s = s.failing.items

-- how many reads there were
abbrev pub reads_of : MemorySource → ℕ
reads_of s = s.reads

-- the numbers, from 1, of the writes that fail
abbrev pub failing_writes : MemorySink → List ℕ
failing_writes s = s.failing.items

-- how many writes there were
abbrev pub writes_of : MemorySink → ℕ
writes_of s = s.writes

-- how many octets it has room for in all
abbrev pub room_of : MemorySink → ℕ
room_of s = s.room

-- how many octets it still has room for
abbrev pub free_in : MemorySink → ℕ
free_in s = s.room - length s.bytes.items
