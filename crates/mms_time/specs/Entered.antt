-- What a request for a token makes of a semaphore, told by the entries before and after it (ISO 9506-1, TakeControl).
use Rattle.std.specs.Prelude.{◌≡◌, ℕ, ◌+◌, true, None, Some, is_some, if◌then◌else◌}
use Rattle.mms_types.specs.declared.semaphore.TakeControl.{TakeControl}
use Rattle.mms_types.specs.declared.semaphore.TakeControlAnswer.{TakeControlAnswer}
use Rattle.pool_sem.specs.Pools.{suits}
use Rattle.token_sem.specs.Semaphore.{is_hung, is_owner, is_queued, numbered}
use Rattle.token_sem.specs.declared.entry.SemEntry.{SemEntry}
use Rattle.mms_time.specs.Semaphores.{entries_in, made_in, names_in}
use Rattle.mms_time.specs.Services.{name_at, named_answer, place_asked}
use Rattle.mms_time.specs.declared.row.Semaphore.{Semaphore}
use Rattle.mms_time.specs.declared.taking.TakeDone.{TakeDone}
use Rattle.mms_time.specs.declared.taking.TakeDone.TheVariants.{Answered, Waits}

-- the semaphore has this entry by a client's request, of that number; a token that the request names is the one that it has or waits for
pub record HasEntered (client invoke number : ℕ) (asked : TakeControl) (s : Semaphore) (e : SemEntry) : Type 0 where
  pub found : numbered number (entries_in s) ≡ Some e
  pub number_is : e.number ≡ number
  pub client_is : e.client ≡ client
  pub invoke_is : e.invoke ≡ invoke
  pub priority_is : e.priority ≡ asked.priority
  pub token_is : suits (place_asked asked.token (names_in s)) e.token ≡ true

-- the client owns a token, and is told its name where the token has one that the request doesn't name
pub record IsAnswered (client invoke number : ℕ) (asked : TakeControl) (answer : TakeControlAnswer) (s : Semaphore) : Type 0 where
  pub entry : SemEntry
  pub entered : HasEntered client invoke number asked s entry
  pub owns : is_owner entry ≡ true
  pub named : answer ≡ named_answer (if is_some asked.token then None else name_at entry.token (names_in s))

-- the client waits
pub record IsWaiting (client invoke number : ℕ) (asked : TakeControl) (s : Semaphore) : Type 0 where
  pub entry : SemEntry
  pub entered : HasEntered client invoke number asked s entry
  pub waits : is_queued entry ≡ true

-- what the client is told is what its entry is afterwards, the next of the semaphore in number
abbrev pub IsTaken : ℕ → ℕ → TakeControl → TakeDone → Semaphore → Semaphore → Type 0
IsTaken client invoke asked (Answered answer) old new = IsAnswered client invoke (made_in old + 1) asked answer new
IsTaken client invoke asked (Waits number) old new = (number ≡ made_in old + 1) × IsWaiting client invoke number asked new

-- the entry is hung, of the client whose token the request may take (ISO 9506-1, TakeControl, applicationToPreempt)
abbrev pub MayBePreempted : TakeControl → SemEntry → Type 0
MayBePreempted asked e = (is_hung e ≡ true) × (asked.preempt ≡ Some e.client)
