-- Why a token is lost: what becomes, by one event, of an entry that has one (ISO 9506-1, TakeControl and
-- RelinquishControl).
use Rattle.std.specs.Prelude.{◌≡◌, ◌⊎◌, ℕ, true, false, List, Option, None, Some}
use Rattle.std.specs.Map.{lookup}
use Rattle.mms_types.specs.Order.{key_eq, key_of, scope_eq}
use Rattle.mms_types.specs.declared.event.CellEvent.{CellEvent}
use Rattle.mms_types.specs.declared.event.CellEvent.TheVariants.{Heard, Tick}
use Rattle.mms_types.specs.declared.key.Key.{Key}
use Rattle.mms_types.specs.declared.key.Scope.TheVariants.{Association}
use Rattle.mms_types.specs.declared.pdu.Request.TheVariants as request
use Rattle.mms_types.specs.declared.semaphore.TakeControl.{TakeControl}
use Rattle.token_sem.specs.Semaphore.{hung_to_preempt, is_hung, is_owner}
use Rattle.token_sem.specs.declared.entry.SemEntry.{SemEntry}
use Rattle.token_sem.specs.declared.entry.SemState.TheVariants.{Hung}
use Rattle.pool_sem.specs.Pools as pool
use Rattle.mms_time.specs.Deadlines.{NamedDeadline}
use Rattle.mms_time.specs.Semaphores.{Rows, entry_in}
use Rattle.mms_time.specs.Services.{place_asked}
use Rattle.mms_time.specs.declared.row.Semaphore.{Semaphore}
use Rattle.mms_time.specs.declared.row.Semaphore.TheVariants.{Token, Pool}
use Rattle.mms_time.specs.declared.row.SemaphoreRow.{SemaphoreRow}
use Rattle.sem_ticks.specs.Ticks.{Ticking}
use Rattle.parted_state.specs.Served.{row_at}
use Rattle.cell_client.specs.Association.{Takes, verdict}
use Rattle.cell_services.specs.Serving.{is_served}
use Rattle.step_parts.specs.Partition.{cell}
use Rattle.step_parts.specs.State.{State}
use Rattle.step_parts.specs.Step.{step}
use Rattle.cell_laws.specs.Freed.{GivesBack, Leaves, TimesOut, token_held, token_named}

-- the entry, when it is hung
abbrev pub hung : SemEntry → SemEntry
hung e = record e { state = Hung }

-- ---- a client is lost

-- While time goes by the association of a client is aborted: control of one of its owner entries times out, whose
-- request asked for that.
pub record IsAborted (client : ℕ) (s : State) (event : CellEvent) : Type 0 where
  pub ms : ℕ
  pub passes : event ≡ Tick ms
  pub point : Ticking
  pub due : NamedDeadline
  pub entry : SemEntry
  pub times : TimesOut s ms point due entry
  pub its : entry.client ≡ client
  pub owns : is_owner entry ≡ true
  pub abort : entry.abort ≡ Some true

-- its association ends, or is aborted
abbrev pub IsLost : ℕ → State → CellEvent → Type 0
IsLost client s event = Leaves client s event ⊎ IsAborted client s event

-- ---- why an entry of the semaphore of that name has its token no more

-- its client, which owns the token, gives it back
pub record IsGivenBack (s : State) (event : CellEvent) (key : Key) (e : SemEntry) : Type 0 where
  pub octets : List ℕ
  pub heard : event ≡ Heard e.client octets
  pub token : Option (List ℕ)
  pub gives : GivesBack s e.client octets key token
  pub named : token_named key token s.semaphores ≡ token_held key e s.semaphores
  pub owns : is_owner e ≡ true

-- the hung entry that a request for a token of a semaphore preempts, if it preempts one
abbrev pub preempted_in : TakeControl → Semaphore → Option SemEntry
preempted_in asked (Token s) = hung_to_preempt asked.preempt s.entries
preempted_in asked (Pool p) = pool.hung_to_preempt asked.preempt (place_asked asked.token p.tokens) p.entries

abbrev pub preempted_found : TakeControl → Option SemaphoreRow → Option SemEntry
preempted_found asked None = None
preempted_found asked (Some row) = preempted_in asked row.semaphore

-- of the semaphore of that name
abbrev pub preempted_at : TakeControl → Key → Rows → Option SemEntry
preempted_at asked key rows = preempted_found asked (lookup (key_eq key) rows)

-- It is hung, and the one that a request for a token preempts, which names its client and is taken and not refused. An
-- owner entry of the other client has the token after the event.
pub record IsPreempted (s : State) (event : CellEvent) (key : Key) (e : SemEntry) : Type 0 where
  pub client : ℕ
  pub octets : List ℕ
  pub heard : event ≡ Heard client octets
  pub invoke : ℕ
  pub asked : TakeControl
  pub taken : verdict (row_at cell client s.clients) octets ≡ Takes invoke (request.TakeControl asked)
  pub served : is_served (cell.tables_of s) (row_at cell client s.clients) invoke (request.TakeControl asked) ≡ true
  pub named : key ≡ key_of client asked.name
  pub preempts : asked.preempt ≡ Some e.client
  pub lost : is_hung e ≡ true
  pub first : preempted_at asked key s.semaphores ≡ Some e
  pub taker : SemEntry
  pub there : entry_in key taker.number (step s event).semaphores ≡ Some taker
  pub its : taker.client ≡ client
  pub owns : is_owner taker ≡ true
  pub has : token_held key taker (step s event).semaphores ≡ token_held key e s.semaphores

-- its control times out, while time goes by; it may have become hung before
pub record IsTimedOut (s : State) (event : CellEvent) (key : Key) (e : SemEntry) : Type 0 where
  pub ms : ℕ
  pub passes : event ≡ Tick ms
  pub point : Ticking
  pub due : NamedDeadline
  pub entry : SemEntry
  pub times : TimesOut s ms point due entry
  pub in_it : due.key ≡ key
  pub its : (entry ≡ e) ⊎ (entry ≡ hung e)

-- its client, which owns the token, is lost, and doesn't keep it
pub record IsLeft (s : State) (event : CellEvent) (e : SemEntry) : Type 0 where
  pub lost : IsLost e.client s event
  pub owns : is_owner e ≡ true
  pub unkept : e.keep ≡ false

-- the semaphore is one of the association of a client that is lost, and goes with it
pub record GoesWith (s : State) (event : CellEvent) (key : Key) : Type 0 where
  pub client : ℕ
  pub scope : scope_eq key.scope (Association client) ≡ true
  pub lost : IsLost client s event

-- the causes
pub data IsLostFor (s : State) (event : CellEvent) (key : Key) (e : SemEntry) : Type 0 where
  given_back : IsGivenBack s event key e → IsLostFor s event key e
  preempted : IsPreempted s event key e → IsLostFor s event key e
  timed_out : IsTimedOut s event key e → IsLostFor s event key e
  left : IsLeft s event e → IsLostFor s event key e
  gone : GoesWith s event key → IsLostFor s event key e

-- ---- or has it still

-- its client, which owns the token, is lost and keeps it: the entry becomes hung
pub record IsKept (s : State) (event : CellEvent) (key : Key) (e : SemEntry) : Type 0 where
  pub lost : IsLost e.client s event
  pub owns : is_owner e ≡ true
  pub keeps : e.keep ≡ true
  pub there : entry_in key e.number (step s event).semaphores ≡ Some (hung e)

-- the entry is as it was, or is kept so
abbrev pub HasStill : State → CellEvent → Key → SemEntry → Type 0
HasStill s event key e = (entry_in key e.number (step s event).semaphores ≡ Some e) ⊎ IsKept s event key e
