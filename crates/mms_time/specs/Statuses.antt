-- What a semaphore tells of itself and of its entries (ISO 9506-2, ReportSemaphoreStatus, ReportPoolSemaphoreStatus, ReportSemaphoreEntryStatus).
use Rattle.std.specs.Prelude.{ℕ, ◌+◌, ◌-◌, Bool, true, not, ◌&&◌, nat_lt, List, [], ◌∷◌, take, map, filter, count_by, length, Option, None, Some, is_none, option_map}
use Rattle.std.specs.Int.{w64, to_be_bytes, from_be_bytes}
use Rattle.std.specs.Ordering.{is_lt}
use Rattle.mms_types.specs.Errors.{first_of, object_non_existent, type_inconsistent}
use Rattle.mms_types.specs.Order.{name_order}
use Rattle.mms_types.specs.declared.moment.Moment.{Moment}
use Rattle.mms_types.specs.declared.object_name.ObjectName.{ObjectName}
use Rattle.mms_types.specs.declared.semaphore.EntryClass.TheVariants.{Simple}
use Rattle.mms_types.specs.declared.semaphore.EntryNumber.{EntryNumber}
use Rattle.mms_types.specs.declared.semaphore.EntryState.{EntryState}
use Rattle.mms_types.specs.declared.semaphore.EntryState.TheVariants.{Queued, Owner, Hung}
use Rattle.mms_types.specs.declared.semaphore.EntryStatus.{EntryStatus}
use Rattle.mms_types.specs.declared.semaphore.EntryStatuses.{EntryStatuses}
use Rattle.mms_types.specs.declared.semaphore.NamedToken.{NamedToken}
use Rattle.mms_types.specs.declared.semaphore.NamedToken.TheVariants as named
use Rattle.mms_types.specs.declared.semaphore.PoolStatus.{PoolStatus}
use Rattle.mms_types.specs.declared.semaphore.ReportPoolSemaphoreStatus.{ReportPoolSemaphoreStatus}
use Rattle.mms_types.specs.declared.semaphore.ReportSemaphoreEntryStatus.{ReportSemaphoreEntryStatus}
use Rattle.mms_types.specs.declared.semaphore.SemaphoreClass.TheVariants as class
use Rattle.mms_types.specs.declared.semaphore.SemaphoreStatus.{SemaphoreStatus}
use Rattle.mms_types.specs.declared.service_error.ServiceError.{ServiceError}
use Rattle.pool_sem.specs.Pools as pool
use Rattle.pool_sem.specs.declared.outcome.TokenState.{TokenState}
use Rattle.pool_sem.specs.declared.outcome.TokenState.TheVariants as token
use Rattle.token_sem.specs.Semaphore.{is_hung, is_owner, is_queued}
use Rattle.token_sem.specs.declared.entry.SemEntry.{SemEntry}
use Rattle.mms_time.specs.Semaphores.{Rows, entries_of, names_in, semaphore}
use Rattle.mms_time.specs.Services.{name_at}
use Rattle.mms_time.specs.declared.row.Semaphore.{Semaphore}
use Rattle.mms_time.specs.declared.row.Semaphore.TheVariants.{Token, Pool}
use Rattle.mms_time.specs.declared.row.SemaphoreRow.{SemaphoreRow}

-- ---- ReportSemaphoreStatus

abbrev pub status_cause : ℕ → ObjectName → Rows → Option ServiceError
status_cause client name rows = first_of ((is_none (semaphore client name rows), object_non_existent) ∷ [])

-- how many tokens there are, how many are owned, and how many are hung
abbrev pub status_in : Bool → Semaphore → SemaphoreStatus
status_in configured (Token s) = record {
  deletable = not configured;
  class = class.Token;
  tokens = s.tokens;
  owned = count_by is_owner s.entries;
  hung = count_by is_hung s.entries;
}
status_in configured (Pool p) = record {
  deletable = not configured;
  class = class.Pool;
  tokens = length p.tokens;
  owned = count_by is_owner p.entries;
  hung = count_by is_hung p.entries;
}

abbrev pub status : ℕ → ObjectName → Rows → Option SemaphoreStatus
status client name rows = option_map (λ row. status_in row.configured row.semaphore) (semaphore client name rows)

-- ---- ReportPoolSemaphoreStatus: the tokens of a token semaphore have no names

abbrev pub pool_status_conditions_in : Semaphore → List (Bool × ServiceError)
pool_status_conditions_in (Token s) = (true, type_inconsistent) ∷ []
pool_status_conditions_in (Pool p) = []

abbrev pub pool_status_conditions : Option SemaphoreRow → List (Bool × ServiceError)
pool_status_conditions None = (true, object_non_existent) ∷ []
pool_status_conditions (Some row) = pool_status_conditions_in row.semaphore

abbrev pub pool_status_cause : ℕ → ObjectName → Rows → Option ServiceError
pool_status_cause client name rows = first_of (pool_status_conditions (semaphore client name rows))

-- the names of tokens, each with its place, counted from that one
abbrev pub places_from : ℕ → List (List ℕ) → List (ℕ × List ℕ)
places_from place [] = []
places_from place (name ∷ names) = (place, name) ∷ places_from (place + 1) names

-- the name comes after that one, which no token need have
abbrev pub name_follows : Option (List ℕ) → List ℕ → Bool
name_follows None name = true
name_follows (Some other) name = is_lt (name_order other name)

abbrev pub is_told : Option (List ℕ) → ℕ × List ℕ → Bool
is_told after t = name_follows after t.1

abbrev pub named_token : TokenState → List ℕ → NamedToken
named_token token.Free name = named.Free name
named_token token.Owned name = named.Owned name
named_token token.Hung name = named.Hung name

abbrev pub token_status : pool.Pool → ℕ × List ℕ → NamedToken
token_status p t = named_token (pool.token_state t.0 p.entries) t.1

-- the most tokens that are told at once (this profile's limit)
abbrev pub most_tokens : ℕ
most_tokens = 12

-- the tokens that come after that name, in order of octets: the first of them, and whether there are more
abbrev pub pool_status : Option (List ℕ) → pool.Pool → PoolStatus
pool_status after p = record {
  tokens = map (token_status p) (take most_tokens (filter (is_told after) (places_from 0 p.tokens)));
  more = nat_lt most_tokens (length (filter (is_told after) (places_from 0 p.tokens)));
}

abbrev pub pool_status_in : Option (List ℕ) → Semaphore → Option PoolStatus
pool_status_in after (Token s) = None
pool_status_in after (Pool p) = Some (pool_status after p)

abbrev pub pool_status_of : Option (List ℕ) → Option SemaphoreRow → Option PoolStatus
pool_status_of after None = None
pool_status_of after (Some row) = pool_status_in after row.semaphore

abbrev pub pool_status_answer : ℕ → ReportPoolSemaphoreStatus → Rows → Option PoolStatus
pool_status_answer client asked rows = pool_status_of asked.after (semaphore client asked.name rows)

-- ---- ReportSemaphoreEntryStatus

abbrev pub entry_status_cause : ℕ → ReportSemaphoreEntryStatus → Rows → Option ServiceError
entry_status_cause client asked rows = first_of ((is_none (semaphore client asked.name rows), object_non_existent) ∷ [])

abbrev pub is_in_state : EntryState → SemEntry → Bool
is_in_state Queued e = is_queued e
is_in_state Owner e = is_owner e
is_in_state Hung e = is_hung e

-- its number is greater than that one, which no entry need have
abbrev pub comes_after : Option EntryNumber → SemEntry → Bool
comes_after None e = true
comes_after (Some number) e = nat_lt (from_be_bytes w64 number.octets) e.number

abbrev pub is_listed : EntryState → Option EntryNumber → SemEntry → Bool
is_listed state after e = is_in_state state e && comes_after after e

-- what is left until a deadline, in milliseconds
abbrev pub left_until : Moment → Moment → ℕ
left_until now at = at.0 - now.0

-- The token of a pool is told by its name, where the entry has one or wants a named one; a token of a token semaphore has no name.
abbrev pub entry_status : List (List ℕ) → Moment → SemEntry → EntryStatus
entry_status names now e = record {
  number = to_be_bytes w64 e.number;
  class = Simple;
  client = e.client;
  token = name_at e.token names;
  priority = e.priority;
  remaining = option_map (left_until now) e.deadline;
  abort = e.abort;
  relinquish = not e.keep;
}

-- the most entries that are told at once (this profile's limit)
abbrev pub most_entries : ℕ
most_entries = 6

-- those that are listed, in order of number: the first of them, and whether there are more
abbrev pub entry_statuses : List (List ℕ) → Moment → EntryState → Option EntryNumber → List SemEntry → EntryStatuses
entry_statuses names now state after entries = record {
  entries = map (entry_status names now) (take most_entries (filter (is_listed state after) entries));
  more = nat_lt most_entries (length (filter (is_listed state after) entries));
}

abbrev pub entry_status_answer : ℕ → Moment → ReportSemaphoreEntryStatus → Rows → Option EntryStatuses
entry_status_answer client now asked rows =
    option_map (λ row. entry_statuses (names_in row.semaphore) now asked.state asked.after (entries_of row)) (semaphore client asked.name rows)
