-- The semaphores of a device under their names, in the order in which they were made (ISO 9506-1, semaphore management).
use Rattle.std.specs.Prelude.{ℕ, Bool, false, List, [], Option, None, Some, option_and_then}
use Rattle.std.specs.Map.{lookup, set_value}
use Rattle.mms_types.specs.Order.{key_eq, key_of}
use Rattle.mms_types.specs.declared.key.Key.{Key}
use Rattle.mms_types.specs.declared.object_name.ObjectName.{ObjectName}
use Rattle.pool_sem.specs.Pools.{IsPool}
use Rattle.token_sem.specs.Semaphore.{IsSem, is_queued, numbered}
use Rattle.token_sem.specs.declared.entry.SemEntry.{SemEntry}
use Rattle.mms_time.specs.declared.row.Semaphore.{Semaphore}
use Rattle.mms_time.specs.declared.row.Semaphore.TheVariants.{Token, Pool}
use Rattle.mms_time.specs.declared.row.SemaphoreRow.{SemaphoreRow}

abbrev pub Rows : Type 0
Rows = List (Key × SemaphoreRow)

-- the semaphore that a client names so
abbrev pub semaphore : ℕ → ObjectName → Rows → Option SemaphoreRow
semaphore client name rows = lookup (key_eq (key_of client name)) rows

-- the entries of a semaphore, in order of number
abbrev pub entries_in : Semaphore → List SemEntry
entries_in (Token s) = s.entries
entries_in (Pool p) = p.entries

abbrev pub entries_of : SemaphoreRow → List SemEntry
entries_of row = entries_in row.semaphore

-- what holds of a semaphore at any time
abbrev pub IsSound : Semaphore → Type 0
IsSound (Token s) = IsSem s
IsSound (Pool p) = IsPool p

-- the names of its tokens, in order of octets: those of a token semaphore have none
abbrev pub names_in : Semaphore → List (List ℕ)
names_in (Token s) = []
names_in (Pool p) = p.tokens

-- the entry of that number in the semaphore of that name
abbrev pub entry_in : Key → ℕ → Rows → Option SemEntry
entry_in key number rows = option_and_then (λ row. numbered number (entries_of row)) (lookup (key_eq key) rows)

-- an entry that is there and waits
abbrev pub entry_waits : Option SemEntry → Bool
entry_waits None = false
entry_waits (Some e) = is_queued e

-- how many entries were made
abbrev pub made_in : Semaphore → ℕ
made_in (Token s) = s.made
made_in (Pool p) = p.made

abbrev pub made_of : Option SemaphoreRow → ℕ
made_of None = 0
made_of (Some row) = made_in row.semaphore

-- a row whose semaphore is changed
abbrev pub changed_row : (Semaphore → Semaphore) → SemaphoreRow → SemaphoreRow
changed_row change row = record row { semaphore = change row.semaphore }

abbrev pub changed_to : Option SemaphoreRow → (Semaphore → Semaphore) → Key → Rows → Rows
changed_to None change key rows = rows
changed_to (Some row) change key rows = set_value (key_eq key) rows (changed_row change row)

-- the semaphore of that name is changed, where there is one, and all others stay
abbrev pub changed : (Semaphore → Semaphore) → Key → Rows → Rows
changed change key rows = changed_to (lookup (key_eq key) rows) change key rows
