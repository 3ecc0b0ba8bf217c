-- What has become of a table of semaphores.
use Rattle.std.specs.Prelude.{ℕ, fold}
use Rattle.indexmap.specs.Layout.{set_value_at}
use Rattle.mms_time.specs.Semaphores.{Rows}
use Rattle.mms_time.specs.declared.row.SemaphoreRow.{SemaphoreRow}
use Rattle.sem_ticks.specs.declared.renewed.Renewed.{Renewed}
use Rattle.sem_ticks.specs.declared.renewed.Renewed.TheVariants.{Places, All}

-- the semaphore at a place, counted from 0, is that one
abbrev pub put_at : Rows → ℕ × SemaphoreRow → Rows
put_at rows (place, row) = set_value_at rows place row

-- those at some places are others, and all else stays; or all are others
abbrev pub renewed : Renewed → Rows → Rows
renewed (Places places) rows = fold put_at rows places.items
renewed (All table) rows = table
