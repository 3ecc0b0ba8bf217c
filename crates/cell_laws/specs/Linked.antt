-- The requests that wait at the server, and the entries of semaphores that are queued (ISO 9506-1, environment and
-- general management, and TakeControl).
use Rattle.std.specs.Prelude.{◌≡◌, ℕ, List, [], Option, None, Some, Contains, if◌then◌else◌}
use Rattle.mms_types.specs.declared.key.Key.{Key}
use Rattle.association.specs.Waiting.{AreDistinct}
use Rattle.association.specs.declared.negotiation.Association.TheVariants.{Idle}
use Rattle.association.specs.declared.waiting.Waiting.{Waiting}
use Rattle.token_sem.specs.Semaphore.{is_queued}
use Rattle.token_sem.specs.declared.entry.SemEntry.{SemEntry}
use Rattle.mms_time.specs.Semaphores.{Rows, entry_in}
use Rattle.parted_state.specs.Served.{row_at}
use Rattle.step_parts.specs.Partition.{cell}
use Rattle.step_parts.specs.State.{State}

-- the client and the invokeID of the request of an entry that is queued
abbrev pub asker_of : Option SemEntry → Option (ℕ × ℕ)
asker_of None = None
asker_of (Some e) = if is_queued e then Some (e.client, e.invoke) else None

-- of the entry of that number in the semaphore of that name
abbrev pub asker : Rows → Key → ℕ → Option (ℕ × ℕ)
asker rows key number = asker_of (entry_in key number rows)

-- the requests of a client that wait
abbrev pub waiting_at : State → ℕ → List Waiting
waiting_at s client = (row_at cell client s.clients).waiting

-- The requests that wait are those of the entries that are queued.
pub record AreLinked (s : State) : Type 0 where
  -- each request of a client that waits has an entry that is queued,
  pub queued : (client : ℕ) (request : Waiting) → Contains (waiting_at s client) request
      → asker s.semaphores request.key request.entry ≡ Some (client, request.invoke)
  -- and each entry that is queued is a request of its client that waits
  pub waiting : (client invoke : ℕ) (key : Key) (number : ℕ) → asker s.semaphores key number ≡ Some (client, invoke)
      → Contains (waiting_at s client) (record { invoke = invoke; key = key; entry = number })
  -- no two requests of a client that wait have one invokeID
  pub distinct : (client : ℕ) → AreDistinct (waiting_at s client)
  -- where there is no association, no request waits
  pub closed : (client : ℕ) → (row_at cell client s.clients).association ≡ Idle → waiting_at s client ≡ []
