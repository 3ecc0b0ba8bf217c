-- The loss of a client in all semaphores (ISO 9506-1, TakeControl, relinquishIfConnectionLost).
use Rattle.std.specs.Prelude.{ℕ, Bool, not, List, [], map, filter, fold, Option, None, Some}
use Rattle.std.specs.List.{flat_map, list_any}
use Rattle.std.specs.Map.{keys_of, lookup}
use Rattle.mms_types.specs.Order.{key_eq, key_order}
use Rattle.mms_types.specs.declared.key.Key.{Key}
use Rattle.mms_types.specs.declared.key.Scope.TheVariants.{Association}
use Rattle.mms_types.specs.declared.moment.Moment.{Moment}
use Rattle.object_names.specs.InOrder.{in_order, inserted}
use Rattle.object_names.specs.Scopes.{without_all_of}
use Rattle.pool_sem.specs.Pools as pool
use Rattle.token_sem.specs.Semaphore.{Loss, after_lose, loss_of, loss_of_one, owned_by, waits_for}
use Rattle.token_sem.specs.declared.entry.Grant.{Grant}
use Rattle.token_sem.specs.declared.entry.SemEntry.{SemEntry}
use Rattle.mms_time.specs.Semaphores.{Rows, changed_row, entries_of}
use Rattle.mms_time.specs.declared.row.Semaphore.{Semaphore}
use Rattle.mms_time.specs.declared.row.Semaphore.TheVariants.{Token, Pool}
use Rattle.mms_time.specs.declared.row.SemaphoreRow.{SemaphoreRow}

abbrev pub all_changed : (Semaphore → Semaphore) → Rows → Rows
all_changed change rows = map (λ row. (row.0, changed_row change row.1)) rows

-- the client has an owner entry of one of them
abbrev pub owns_any : ℕ → Rows → Bool
owns_any client rows = list_any (λ row. list_any (owned_by client) (entries_of row.1)) rows

-- ---- the steps: first the client's queued entries go, in all semaphores

abbrev pub without_waiters : ℕ → Semaphore → Semaphore
without_waiters client (Token s) = Token (record s { entries = filter (λ e. not (waits_for client e)) s.entries })
without_waiters client (Pool p) = Pool (record p { entries = filter (λ e. not (waits_for client e)) p.entries })

-- then each of its owner entries becomes hung, where its token is kept, or goes, and its token is granted or free, in order of number
abbrev pub owners_lost : ℕ → Moment → List SemEntry → Loss
owners_lost client now entries = fold (loss_of_one now) (record { entries = entries; grants = [] }) (filter (owned_by client) entries)

-- the same in a pool, where the token that is granted or free is the one that the entry has
abbrev pub pool_owners_lost : ℕ → Moment → List SemEntry → Loss
pool_owners_lost client now entries = fold (pool.loss_of_one now) (record { entries = entries; grants = [] }) (filter (owned_by client) entries)

abbrev pub owners_lost_in : ℕ → Moment → Semaphore → Loss
owners_lost_in client now (Token s) = owners_lost client now s.entries
owners_lost_in client now (Pool p) = pool_owners_lost client now p.entries

abbrev pub without_owners : ℕ → Moment → Semaphore → Semaphore
without_owners client now (Token s) = Token (record s { entries = (owners_lost client now s.entries).entries })
without_owners client now (Pool p) = Pool (record p { entries = (pool_owners_lost client now p.entries).entries })

-- and then the semaphores of its association go
abbrev pub lost : ℕ → Moment → Rows → Rows
lost client now rows = without_all_of (Association client) (all_changed (without_owners client now) (all_changed (without_waiters client) rows))

-- ---- who is granted a token

-- names in order with one more at its place
abbrev pub insert_key : Key → List Key → List Key
insert_key = inserted key_order

-- names in order
abbrev pub sorted_keys : List Key → List Key
sorted_keys = in_order key_order

abbrev pub owner_grants : ℕ → Moment → Option SemaphoreRow → List Grant
owner_grants client now None = []
owner_grants client now (Some row) = (owners_lost_in client now row.semaphore).grants

-- grants in the semaphore of that name
abbrev pub keyed : Key → List Grant → List (Key × Grant)
keyed key grants = map (λ grant. (key, grant)) grants

-- by name of semaphore and number of the client's entry, when its queued entries are gone
abbrev pub lost_grants : ℕ → Moment → Rows → List (Key × Grant)
lost_grants client now rows =
    flat_map (λ key. keyed key (owner_grants client now (lookup (key_eq key) (all_changed (without_waiters client) rows)))) (sorted_keys (keys_of rows))

-- ---- each semaphore by itself: what is done to one reads no other

-- a semaphore when a client is lost
abbrev pub semaphore_without : ℕ → Moment → Semaphore → Semaphore
semaphore_without client now (Token s) = Token (after_lose s client now)
semaphore_without client now (Pool p) = Pool (pool.after_lose p client now)

abbrev pub loss_in : ℕ → Moment → Semaphore → Loss
loss_in client now (Token s) = loss_of client now s.entries
loss_in client now (Pool p) = pool.loss_of client now p.entries

abbrev pub grants_of : ℕ → Moment → Option SemaphoreRow → List Grant
grants_of client now None = []
grants_of client now (Some row) = (loss_in client now row.semaphore).grants

abbrev pub grants_of_each : ℕ → Moment → Rows → List (Key × Grant)
grants_of_each client now rows = flat_map (λ key. keyed key (grants_of client now (lookup (key_eq key) rows))) (sorted_keys (keys_of rows))

-- the semaphores of which the client owns a token
abbrev pub owned_rows : ℕ → Rows → Rows
owned_rows client rows = filter (λ row. list_any (owned_by client) (entries_of row.1)) rows

-- what is left of them
abbrev pub left_rows : ℕ → Moment → Rows → List SemaphoreRow
left_rows client now rows = map (λ row. changed_row (semaphore_without client now) row.1) (owned_rows client rows)
