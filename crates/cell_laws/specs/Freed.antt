-- A token of a semaphore that is freed goes to the waiter of least rank, or is free (ISO 9506-1, TakeControl and
-- RelinquishControl).
use Rattle.std.specs.Prelude.{◌≡◌, ◌⊎◌, ℕ, zero, suc, ◌+◌, ◌-◌, Bool, true, false, not, List, [], ◌∷◌, ◌++◌, filter, fold, length, Option, None, Some, option_and_then, All, Contains}
use Rattle.std.specs.Map.{lookup}
use Rattle.mms_types.specs.Order.{key_eq, key_of, scope_eq}
use Rattle.mms_types.specs.declared.event.CellEvent.{CellEvent}
use Rattle.mms_types.specs.declared.event.CellEvent.TheVariants.{Heard, Lost, Tick, Ends, Drain}
use Rattle.mms_types.specs.declared.key.Key.{Key}
use Rattle.mms_types.specs.declared.key.Scope.TheVariants.{Association}
use Rattle.mms_types.specs.declared.moment.Moment.{Moment}
use Rattle.mms_types.specs.declared.pdu.Request.TheVariants as request
use Rattle.mms_types.specs.declared.semaphore.RelinquishControl.{RelinquishControl}
use Rattle.association.specs.declared.negotiation.Association.TheVariants.{Open}
use Rattle.association.specs.declared.negotiation.Negotiated.{Negotiated}
use Rattle.association.specs.Waiting.{is_waiting}
use Rattle.token_sem.specs.Semaphore.{before, is_owner, is_queued, loss_of_one, owned_by, tokens_held, waits_for}
use Rattle.token_sem.specs.Semaphore as equal
use Rattle.token_sem.specs.declared.entry.Grant.{Grant}
use Rattle.token_sem.specs.declared.entry.SemEntry.{SemEntry}
use Rattle.pool_sem.specs.Pools as pool
use Rattle.mms_time.specs.Deadlines.{NamedDeadline, expire_after, next_due}
use Rattle.mms_time.specs.Loss.{lost}
use Rattle.mms_time.specs.Semaphores.{Rows, changed, entries_of, entry_in}
use Rattle.mms_time.specs.Services.{place_asked}
use Rattle.mms_time.specs.declared.row.Semaphore.{Semaphore}
use Rattle.mms_time.specs.declared.row.Semaphore.TheVariants.{Token, Pool}
use Rattle.mms_time.specs.declared.row.SemaphoreRow.{SemaphoreRow}
use Rattle.sem_ticks.specs.Granted.{granted}
use Rattle.sem_ticks.specs.Ticks.{Ticking, next_met}
use Rattle.parted_state.specs.Served.{row_at}
use Rattle.cell_client.specs.Association.{Takes, verdict}
use Rattle.cell_services.specs.Serving.{is_served, resolved}
use Rattle.cell_services.specs.Tables.{moment_after}
use Rattle.step_sound.specs.Answered.{EndsIt, grant_answer}
use Rattle.step_parts.specs.Partition.{cell}
use Rattle.step_parts.specs.State.{State}
use Rattle.step_parts.specs.Step.{outbox_of, step}
use Rattle.cell_laws.specs.Linked.{waiting_at}

-- ---- the semaphore of a name

abbrev pub entries_found : Option SemaphoreRow → List SemEntry
entries_found None = []
entries_found (Some row) = entries_of row

-- its entries, where it is there
abbrev pub entries_at : Key → Rows → List SemEntry
entries_at key rows = entries_found (lookup (key_eq key) rows)

abbrev pub free_in : Semaphore → ℕ
free_in (Token s) = s.tokens - tokens_held s.entries
free_in (Pool p) = length p.tokens - tokens_held p.entries

abbrev pub free_found : Option SemaphoreRow → ℕ
free_found None = 0
free_found (Some row) = free_in row.semaphore

-- how many of its tokens are free
abbrev pub free_at : Key → Rows → ℕ
free_at key rows = free_found (lookup (key_eq key) rows)

-- ---- a token: that of a pool is told by its place among the names, counted from 0, and equal tokens have none

-- an entry waits for the token, or for any
abbrev pub wants : Option ℕ → SemEntry → Bool
wants None e = is_queued e
wants (Some place) e = pool.wants place e

-- the entries of the semaphore of that name that do
abbrev pub wanting_at : Key → Option ℕ → Rows → List SemEntry
wanting_at key token rows = filter (wants token) (entries_at key rows)

-- an entry, when it becomes owner of the token
abbrev pub owner_from : Option ℕ → Moment → SemEntry → SemEntry
owner_from None now e = equal.owner_from now e
owner_from (Some place) now e = pool.owner_from place now e

-- the token that its answer names: that of a pool, where none was named
abbrev pub token_told : Option ℕ → SemEntry → Option ℕ
token_told None e = None
token_told (Some place) e = pool.token_told e.token (Some place)

-- who is told then
abbrev pub grant_of : Option ℕ → SemEntry → Grant
grant_of token e = record (equal.grant_of e) { token = token_told token e }

-- nobody has the token, if it has a name
abbrev pub IsUnheld : Option ℕ → List SemEntry → Type 0
IsUnheld None entries = Unit {0}
IsUnheld (Some place) entries = pool.is_free place entries ≡ true

-- the token of that name
abbrev pub named_in : Option (List ℕ) → Semaphore → Option ℕ
named_in name (Token s) = None
named_in name (Pool p) = place_asked name p.tokens

abbrev pub named_found : Option (List ℕ) → Option SemaphoreRow → Option ℕ
named_found name None = None
named_found name (Some row) = named_in name row.semaphore

abbrev pub token_named : Key → Option (List ℕ) → Rows → Option ℕ
token_named key name rows = named_found name (lookup (key_eq key) rows)

-- the token that an entry has
abbrev pub held_in : SemEntry → Semaphore → Option ℕ
held_in e (Token s) = None
held_in e (Pool p) = e.token

abbrev pub held_found : SemEntry → Option SemaphoreRow → Option ℕ
held_found e None = None
held_found e (Some row) = held_in e row.semaphore

abbrev pub token_held : Key → SemEntry → Rows → Option ℕ
token_held key e rows = held_found e (lookup (key_eq key) rows)

-- ---- what becomes of a token that is freed at a moment, by the semaphores before that and after it, and the device after the event

-- it goes to a waiter:
pub record GoesTo (key : Key) (token : Option ℕ) (now : Moment) (old new : Rows) (s : State) (waiter : SemEntry) : Type 0 where
  -- this is one of the entries that waited for it, or for any,
  pub waited : Contains (wanting_at key token old) waiter
  -- and none of them has a lesser rank, by priority and then by number;
  pub first : All (λ other. before other waiter ≡ false) (wanting_at key token old)
  -- it is owner entry of the token from that moment on, and as many tokens are free as before;
  pub owner : entry_in key waiter.number new ≡ Some (owner_from token now waiter)
  pub moved : free_at key new ≡ free_at key old
  -- after the event its request waits no more,
  pub waits : is_waiting waiter.invoke (waiting_at s waiter.client) ≡ false
  -- and its positive answer is to be sent to its client
  pub answered : Contains (outbox_of s waiter.client) (grant_answer (granted old (key, grant_of token waiter)))

-- or no entry waited for it, nobody has it, and a token more is free
pub record IsFree (key : Key) (token : Option ℕ) (old new : Rows) : Type 0 where
  pub none : wanting_at key token old ≡ []
  pub unheld : IsUnheld token (entries_at key new)
  pub more : free_at key new ≡ free_at key old + 1

abbrev pub IsPassedOn : Key → Option ℕ → Moment → Rows → Rows → State → Type 0
IsPassedOn key token now old new s = ((waiter : SemEntry) × GoesTo key token now old new s waiter) ⊎ IsFree key token old new

-- the moment of a state
abbrev pub moment_at : State → Moment
moment_at s = record { 0 = s.now }

-- a token is passed on by an event, at the moment at which that comes
abbrev pub PassesOn : State → CellEvent → Key → Option ℕ → Type 0
PassesOn s event key token = IsPassedOn key token (moment_at s) s.semaphores (step s event).semaphores (step s event)

-- ---- where a token is freed

-- By these octets a client gives back a token of the semaphore of that name, which it names where that is a pool: its
-- request for that is taken, and isn't refused.
pub record GivesBack (s : State) (client : ℕ) (octets : List ℕ) (key : Key) (token : Option (List ℕ)) : Type 0 where
  pub invoke : ℕ
  pub asked : RelinquishControl
  pub named : key ≡ key_of client asked.name
  pub which : token ≡ asked.token
  pub taken : verdict (row_at cell client s.clients) octets ≡ Takes invoke (request.RelinquishControl asked)
  pub served : is_served (cell.tables_of s) (row_at cell client s.clients) invoke (request.RelinquishControl asked) ≡ true

-- the semaphores, when so many of their deadlines were met up to a moment, one after the other; event conditions change
-- nothing of this
abbrev pub after_met : Moment → ℕ → Ticking → Option Ticking
after_met until zero t = Some t
after_met until (suc n) t = option_and_then (after_met until n) (next_met until t)

-- While so many milliseconds go by, at a point the next deadline is that of an entry that has a token: its control
-- times out.
pub record TimesOut (s : State) (ms : ℕ) (point : Ticking) (due : NamedDeadline) (entry : SemEntry) : Type 0 where
  -- how many are met before
  pub many : ℕ
  pub reached : after_met (moment_after ms (cell.tables_of s)) many (record { rows = s.semaphores; happened = [] }) ≡ Some point
  pub next : next_due (moment_after ms (cell.tables_of s)) point.rows ≡ Some due
  pub its : entry_in due.key due.entry point.rows ≡ Some entry
  pub holds : is_queued entry ≡ false

-- the semaphores at that point, when that deadline is met: control of its entry has timed out
abbrev pub after_time_out : Ticking → NamedDeadline → Rows
after_time_out point due = expire_after due.key due.entry due.at point.rows

-- The claim holds where control of an owner entry times out at that point, whose request asked that the association be
-- aborted then.
abbrev pub IfAborts : State → ℕ → Ticking → NamedDeadline → SemEntry → Type 0 → Type 0
IfAborts s ms point due entry Claim = TimesOut s ms point due entry → is_owner entry ≡ true → entry.abort ≡ Some true → Claim

-- The association of a client ends by an event: the client concludes, proposes another, has no number left for what
-- would be asked of it, or is lost.
abbrev pub Leaves : ℕ → State → CellEvent → Type 0
Leaves leaver s (Heard client octets) =
    (client ≡ leaver) × EndsIt (resolved (cell.tables_of s) (row_at cell client s.clients) (verdict (row_at cell client s.clients) octets))
Leaves leaver s (Lost client) = (client ≡ leaver) × (values : Negotiated) × ((row_at cell client s.clients).association ≡ Open values)
Leaves leaver s (Tick ms) = ⊥
Leaves leaver s (Ends name) = ⊥
Leaves leaver s (Drain client) = ⊥

abbrev pub named_tokens : Semaphore → Bool
named_tokens (Token s) = false
named_tokens (Pool p) = true

abbrev pub named_tokens_found : Option SemaphoreRow → Bool
named_tokens_found None = false
named_tokens_found (Some row) = named_tokens row.semaphore

-- the semaphore of that name is a pool: its tokens have names
abbrev pub are_named : Key → Rows → Bool
are_named key rows = named_tokens_found (lookup (key_eq key) rows)

-- the owner entries of a client, in order of number
abbrev pub owners_at : Key → ℕ → Rows → List SemEntry
owners_at key client rows = filter (owned_by client) (entries_at key rows)

-- In a semaphore a client that is lost waits no more, and these of its owner entries are lost, one after the other: the
-- token of each is kept, or freed.
abbrev pub with_lost : ℕ → Moment → List SemEntry → Semaphore → Semaphore
with_lost client now owners (Token s) =
    Token (record s { entries = (fold (loss_of_one now) (record { entries = filter (λ e. not (waits_for client e)) s.entries; grants = [] }) owners).entries })
with_lost client now owners (Pool p) =
    Pool (record p { entries = (fold (pool.loss_of_one now) (record { entries = filter (λ e. not (waits_for client e)) p.entries; grants = [] }) owners).entries })

-- so far in the semaphore of that name
abbrev pub lost_so_far : ℕ → Moment → List SemEntry → Key → Rows → Rows
lost_so_far client now owners key rows = changed (with_lost client now owners) key rows

-- A client owns one of equal tokens that isn't kept where the client is lost (ISO 9506-1, TakeControl,
-- relinquishIfConnectionLost), and the semaphore isn't one of its association, which goes with it. A client owns one of
-- them at most.
pub record OwnsUnkept (key : Key) (rows : Rows) (client : ℕ) : Type 0 where
  pub owner : SemEntry
  pub there : Contains (entries_at key rows) owner
  pub its : owner.client ≡ client
  pub owns : is_owner owner ≡ true
  pub unkept : owner.keep ≡ false
  pub equal : are_named key rows ≡ false
  pub lasting : scope_eq key.scope (Association client) ≡ false

-- A client may own several tokens of a pool. In order of number its owner entries are these first ones, then this one,
-- whose token isn't kept where the client is lost, and others; and the pool isn't one of its association.
pub record OwnsNamed (key : Key) (rows : Rows) (client : ℕ) (first : List SemEntry) (owner : SemEntry) : Type 0 where
  pub others : List SemEntry
  pub owners : owners_at key client rows ≡ first ++ owner ∷ others
  pub unkept : owner.keep ≡ false
  pub named : are_named key rows ≡ true
  pub lasting : scope_eq key.scope (Association client) ≡ false

-- ---- the loss of a client, of which tokens are freed

-- A client is lost at a moment within an event: the semaphores before that and after it, and the device after the event.
pub record ClientLoss : Type 0 where
  pub client : ℕ
  pub now : Moment
  pub old : Rows
  pub new : Rows
  pub after : State

-- its association ends by an event
abbrev pub loss_by : State → CellEvent → ℕ → ClientLoss
loss_by s event client = record {
  client = client;
  now = moment_at s;
  old = s.semaphores;
  new = (step s event).semaphores;
  after = step s event;
}

-- or is aborted while so many milliseconds go by, as control of this entry of its times out at that point
abbrev pub abort_at : State → ℕ → Ticking → NamedDeadline → SemEntry → ClientLoss
abort_at s ms point due entry = record {
  client = entry.client;
  now = due.at;
  old = after_time_out point due;
  new = lost entry.client due.at (after_time_out point due);
  after = step s (Tick ms);
}

-- by it a token of that semaphore is passed on, whose tokens are all equal
abbrev pub IsFreedBy : Key → ClientLoss → Type 0
IsFreedBy key l = IsPassedOn key None l.now l.old l.new l.after

-- by it the token of an owner entry is passed on, when these are lost that the client owned before it in order
abbrev pub IsNextFreed : Key → List SemEntry → SemEntry → ClientLoss → Type 0
IsNextFreed key first owner l =
    IsPassedOn key owner.token l.now (lost_so_far l.client l.now first key l.old)
    (lost_so_far l.client l.now (first ++ owner ∷ []) key l.old) l.after

-- the semaphores, when all owner entries of the client are lost in the one of that name
abbrev pub all_lost : Key → ClientLoss → Rows
all_lost key l = lost_so_far l.client l.now (owners_at key l.client l.old) key l.old
