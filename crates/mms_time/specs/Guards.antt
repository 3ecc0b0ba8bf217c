-- The guards of variables: semaphores of the VMD, of which a client has to own a token (this profile's choice).
use Rattle.std.specs.Prelude.{ℕ, Bool, false, List, Option, None, Some}
use Rattle.std.specs.List.{list_any}
use Rattle.std.specs.Map.{lookup}
use Rattle.mms_types.specs.Order.{key_eq}
use Rattle.mms_types.specs.declared.key.Scope.TheVariants.{Vmd}
use Rattle.token_sem.specs.Semaphore.{owned_by}
use Rattle.mms_time.specs.Semaphores.{Rows, entries_of}
use Rattle.mms_time.specs.declared.row.SemaphoreRow.{SemaphoreRow}

-- the client has an owner entry; a hung token is owned by nobody
abbrev pub owns_of : ℕ → Option SemaphoreRow → Bool
owns_of client None = false
owns_of client (Some row) = list_any (owned_by client) (entries_of row)

-- of the semaphore of the VMD of that name: of one that isn't there nobody owns a token
abbrev pub owns_guard : ℕ → List ℕ → Rows → Bool
owns_guard client guard rows = owns_of client (lookup (key_eq (record { scope = Vmd; item = guard })) rows)
