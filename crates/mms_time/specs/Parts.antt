-- The part in which a semaphore lies, which its item tells (this profile's choice).
use Rattle.std.specs.Prelude.{ℕ, ◌%◌, List}
use Rattle.std.specs.List.{sum_by}
use Rattle.mms_types.specs.Order.{key_of}
use Rattle.mms_types.specs.declared.key.Key.{Key}
use Rattle.mms_types.specs.declared.object_name.ObjectName.{ObjectName}
use Rattle.parted_state.specs.Gathered.{IsInOrder, only, put_behind}
use Rattle.mms_time.specs.Semaphores.{Rows}
use Rattle.mms_time.specs.declared.row.SemaphoreRow.{SemaphoreRow}

-- all semaphores lie in one part
abbrev pub parts_many : ℕ
parts_many = 1

-- the sum of an item's octets modulo the number of parts, whatever its scope
abbrev pub part_of : List ℕ → ℕ
part_of item = sum_by (λ o. o) item % parts_many

abbrev pub part_of_key : Key → ℕ
part_of_key key = part_of key.item

abbrev pub part_of_row : Key × SemaphoreRow → ℕ
part_of_row row = part_of_key row.0

-- the part of the semaphore that any client names so
abbrev pub part_named : ObjectName → ℕ
part_named name = part_of_key (key_of 0 name)

-- those of one part
abbrev pub in_part : ℕ → Rows → Rows
in_part k rows = only part_of_row k rows

-- they stand in the order of their parts
abbrev pub StandInOrder : Rows → Type 0
StandInOrder rows = IsInOrder part_of_row parts_many rows

-- one semaphore more: it stands behind those of its part
abbrev pub with_semaphore : Key × SemaphoreRow → Rows → Rows
with_semaphore row rows = put_behind part_of_row row rows
