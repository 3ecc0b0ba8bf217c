-- The services for semaphores: why each is refused, what it answers, and the table after it (ISO 9506-1 and ISO 9506-2, semaphore management).
use Rattle.std.specs.Prelude.{ℕ, ◌+◌, Bool, true, false, not, ◌&&◌, ◌==◌, nat_le, List, [], ◌∷◌, ◌++◌, Option, None, Some, is_none, is_some, length, slice_get, if◌then◌else◌}
use Rattle.std.specs.List.{list_any}
use Rattle.std.specs.Map.{lookup, remove_entry}
use Rattle.mms_types.specs.Errors.{first_of, capability_unavailable, object_access_denied, object_constraint_conflict, object_non_existent, object_state_conflict, timeout, type_inconsistent}
use Rattle.mms_types.specs.Order.{key_eq, key_of}
use Rattle.mms_types.specs.declared.key.Key.{Key}
use Rattle.mms_types.specs.declared.moment.Moment.{Moment}
use Rattle.mms_types.specs.declared.object_name.ObjectName.{ObjectName}
use Rattle.mms_types.specs.declared.semaphore.DefineSemaphore.{DefineSemaphore}
use Rattle.mms_types.specs.declared.semaphore.RelinquishControl.{RelinquishControl}
use Rattle.mms_types.specs.declared.semaphore.TakeControl.{TakeControl}
use Rattle.mms_types.specs.declared.semaphore.TakeControlAnswer.{TakeControlAnswer}
use Rattle.mms_types.specs.declared.semaphore.TakeControlAnswer.TheVariants.{NoResult, NamedToken}
use Rattle.mms_types.specs.declared.service_error.ServiceError.{ServiceError}
use Rattle.object_names.specs.NewName.{new_name}
use Rattle.pool_sem.specs.Pools as pool
use Rattle.token_sem.specs.Semaphore.{after_cancel, after_relinquish, after_take, has_claim, has_token, heir_of, makes_entry, outcome, owned_by, owner_of}
use Rattle.token_sem.specs.declared.entry.Ask.{Ask}
use Rattle.token_sem.specs.declared.entry.Grant.{Grant}
use Rattle.mms_time.specs.Parts.{with_semaphore}
use Rattle.mms_time.specs.Semaphores.{Rows, changed, entries_of, entry_in, entry_waits, names_in, semaphore}
use Rattle.mms_time.specs.declared.row.Semaphore.{Semaphore}
use Rattle.mms_time.specs.declared.row.Semaphore.TheVariants.{Token, Pool}
use Rattle.mms_time.specs.declared.row.SemaphoreRow.{SemaphoreRow}
use Rattle.mms_time.specs.declared.taking.TakeDone.{TakeDone}
use Rattle.mms_time.specs.declared.taking.TakeDone.TheVariants.{Answered, Waits}

-- ---- tokens of a pool by their names

-- the place of the token that is named; none also where there is no such token
abbrev pub place_asked : Option (List ℕ) → List (List ℕ) → Option ℕ
place_asked None tokens = None
place_asked (Some name) tokens = pool.place_of name tokens

-- a token is named that isn't there
abbrev pub is_missing : Option (List ℕ) → List (List ℕ) → Bool
is_missing asked tokens = is_some asked && is_none (place_asked asked tokens)

abbrev pub named_answer : Option (List ℕ) → TakeControlAnswer
named_answer None = NoResult
named_answer (Some name) = NamedToken name

abbrev pub name_at : Option ℕ → List (List ℕ) → Option (List ℕ)
name_at None tokens = None
name_at (Some place) tokens = slice_get tokens place

-- What the client that has a token is answered: the token's name, where a pool was asked for any. A grant tells its place then, and none else.
abbrev pub grant_answer_in : Grant → Semaphore → TakeControlAnswer
grant_answer_in grant semaphore = named_answer (name_at grant.token (names_in semaphore))

abbrev pub grant_answer_of : Grant → Option SemaphoreRow → TakeControlAnswer
grant_answer_of grant None = NoResult
grant_answer_of grant (Some row) = grant_answer_in grant row.semaphore

-- a grant in the semaphore of that name
abbrev pub grant_answer : Key → Grant → Rows → TakeControlAnswer
grant_answer key grant rows = grant_answer_of grant (lookup (key_eq key) rows)

-- ---- TakeControl

-- an acceptable delay of 0: the client doesn't wait; without one it waits for ever
abbrev pub is_zero : Option ℕ → Bool
is_zero None = false
is_zero (Some ms) = ms == 0

-- A token of a token semaphore has no name; who waits for a token or owns one can't take another; no token is to be had, and the client doesn't
-- wait. A token that is named has to be one of the pool's; who waits for a token of a pool can't take another, and who owns the one that it names
-- can't take that.
abbrev pub take_conditions_in : ℕ → TakeControl → Semaphore → List (Bool × ServiceError)
take_conditions_in client asked (Token s) =
    (is_some asked.token, type_inconsistent)
    ∷ (has_claim client s.entries, object_state_conflict)
    ∷ (not (has_token asked.preempt s) && is_zero asked.delay, timeout) ∷ []
take_conditions_in client asked (Pool p) =
    (is_missing asked.token p.tokens, object_non_existent)
    ∷ (pool.has_claim client (place_asked asked.token p.tokens) p.entries, object_state_conflict)
    ∷ (not (pool.has_token asked.preempt (place_asked asked.token p.tokens) p) && is_zero asked.delay, timeout) ∷ []

abbrev pub take_conditions : ℕ → TakeControl → Option SemaphoreRow → List (Bool × ServiceError)
take_conditions client asked None = (true, object_non_existent) ∷ []
take_conditions client asked (Some row) = take_conditions_in client asked row.semaphore

abbrev pub take_cause : ℕ → TakeControl → Rows → Option ServiceError
take_cause client asked rows = first_of (take_conditions client asked (semaphore client asked.name rows))

-- a client that gets a token of a pool is told its name, where it asked for any
abbrev pub pool_answer : Option ℕ → Option ℕ → pool.Pool → TakeControlAnswer
pool_answer preempt place p = named_answer (name_at (pool.token_told place (pool.token_got preempt place p)) p.tokens)

-- a client that gets a token is answered; one that waits isn't yet, and has the next entry
abbrev pub take_told_in : TakeControl → Semaphore → TakeDone
take_told_in asked (Token s) = if has_token asked.preempt s then Answered NoResult else Waits (s.made + 1)
take_told_in asked (Pool p) =
    if pool.has_token asked.preempt (place_asked asked.token p.tokens) p
    then Answered (pool_answer asked.preempt (place_asked asked.token p.tokens) p) else Waits (p.made + 1)

abbrev pub take_told_of : TakeControl → Option SemaphoreRow → Option TakeDone
take_told_of asked None = None
take_told_of asked (Some row) = Some (take_told_in asked row.semaphore)

abbrev pub take_told : ℕ → TakeControl → Rows → Option TakeDone
take_told client asked rows = take_told_of asked (semaphore client asked.name rows)

-- the answer names a token
abbrev pub is_named : TakeControlAnswer → Bool
is_named NoResult = false
is_named (NamedToken name) = true

-- the client is told the name of its token
abbrev pub names_token : TakeDone → Bool
names_token (Answered answer) = is_named answer
names_token (Waits entry) = false

-- the request on one semaphore, with the place of the token that it names
abbrev pub ask_of : ℕ → ℕ → Option ℕ → TakeControl → Ask
ask_of client invoke token asked = record {
  client = client;
  invoke = invoke;
  token = token;
  priority = asked.priority;
  delay = asked.delay;
  control = asked.control;
  abort = asked.abort;
  keep = not asked.relinquish;
  preempt = asked.preempt;
}

-- what a client asks of a pool: any of its tokens, or the one that it names
abbrev pub pool_ask : ℕ → ℕ → TakeControl → pool.Pool → Ask
pool_ask client invoke asked p = ask_of client invoke (place_asked asked.token p.tokens) asked

-- and what it is granted, where a token is to be had
abbrev pub pool_grant : ℕ → ℕ → TakeControl → pool.Pool → Grant
pool_grant client invoke asked p =
    pool.grant_to (p.made + 1) (pool_ask client invoke asked p) (pool.token_got asked.preempt (place_asked asked.token p.tokens) p)

abbrev pub with_take : ℕ → ℕ → TakeControl → Moment → Semaphore → Semaphore
with_take client invoke asked now (Token s) = Token (after_take s (ask_of client invoke None asked) now)
with_take client invoke asked now (Pool p) = Pool (pool.after_take p (ask_of client invoke (place_asked asked.token p.tokens) asked) now)

abbrev pub take_after : ℕ → ℕ → Moment → TakeControl → Rows → Rows
take_after client invoke now asked rows = changed (with_take client invoke asked now) (key_of client asked.name) rows

-- the request makes an entry of a semaphore: the client gets a token, or waits
abbrev pub makes_entry_in : ℕ → ℕ → TakeControl → Moment → Semaphore → Bool
makes_entry_in client invoke asked now (Token s) = makes_entry (outcome s (ask_of client invoke None asked) now)
makes_entry_in client invoke asked now (Pool p) =
    pool.makes_entry (pool.outcome p (ask_of client invoke (place_asked asked.token p.tokens) asked) now)

abbrev pub makes_entry_of : ℕ → ℕ → TakeControl → Moment → Option SemaphoreRow → Bool
makes_entry_of client invoke asked now None = false
makes_entry_of client invoke asked now (Some row) = makes_entry_in client invoke asked now row.semaphore

-- ---- RelinquishControl

-- a token of a token semaphore has no name, and one of a pool has; it has to be one of the pool's; only an owner can give back
abbrev pub relinquish_conditions_in : ℕ → RelinquishControl → Semaphore → List (Bool × ServiceError)
relinquish_conditions_in client asked (Token s) =
    (is_some asked.token, type_inconsistent)
    ∷ (not (list_any (owned_by client) s.entries), object_state_conflict) ∷ []
relinquish_conditions_in client asked (Pool p) =
    (is_none asked.token, type_inconsistent)
    ∷ (is_missing asked.token p.tokens, object_non_existent)
    ∷ (is_none (pool.owner_of client (place_asked asked.token p.tokens) p.entries), object_state_conflict) ∷ []

abbrev pub relinquish_conditions : ℕ → RelinquishControl → Option SemaphoreRow → List (Bool × ServiceError)
relinquish_conditions client asked None = (true, object_non_existent) ∷ []
relinquish_conditions client asked (Some row) = relinquish_conditions_in client asked row.semaphore

abbrev pub relinquish_cause : ℕ → RelinquishControl → Rows → Option ServiceError
relinquish_cause client asked rows = first_of (relinquish_conditions client asked (semaphore client asked.name rows))

abbrev pub relinquish_grant_in : ℕ → RelinquishControl → Semaphore → Option Grant
relinquish_grant_in client asked (Token s) = heir_of (owner_of client s.entries) s.entries
relinquish_grant_in client asked (Pool p) = pool.heir_of (pool.owner_of client (place_asked asked.token p.tokens) p.entries) p.entries

abbrev pub relinquish_grant_of : ℕ → RelinquishControl → Option SemaphoreRow → Option (Option Grant)
relinquish_grant_of client asked None = None
relinquish_grant_of client asked (Some row) = Some (relinquish_grant_in client asked row.semaphore)

-- who is granted the token, if anyone is
abbrev pub relinquish_grant : ℕ → RelinquishControl → Rows → Option (Option Grant)
relinquish_grant client asked rows = relinquish_grant_of client asked (semaphore client asked.name rows)

abbrev pub with_token_back : ℕ → Option (List ℕ) → Moment → Semaphore → Semaphore
with_token_back client token now (Token s) = Token (after_relinquish s client now)
with_token_back client token now (Pool p) = Pool (pool.after_relinquish p client (place_asked token p.tokens) now)

-- in the semaphore of that name
abbrev pub relinquished : Key → ℕ → Option (List ℕ) → Moment → Rows → Rows
relinquished key client token now rows = changed (with_token_back client token now) key rows

abbrev pub relinquish_after : ℕ → Moment → RelinquishControl → Rows → Rows
relinquish_after client now asked rows = relinquished (key_of client asked.name) client asked.token now rows

-- ---- Cancel of a TakeControl: the queued entry of that number goes

abbrev pub without_entry : ℕ → Semaphore → Semaphore
without_entry number (Token s) = Token (after_cancel s number)
without_entry number (Pool p) = Pool (pool.after_cancel p number)

abbrev pub cancel_after : Key → ℕ → Rows → Rows
cancel_after key number rows = changed (without_entry number) key rows

-- where it waits there
abbrev pub cancelled : Key → ℕ → Rows → Rows
cancelled key number rows = if entry_waits (entry_in key number rows) then cancel_after key number rows else rows

-- ---- DefineSemaphore, with whether the domain of the name's scope is live

-- the most semaphores (this profile's limit)
abbrev pub most_semaphores : ℕ
most_semaphores = 256

abbrev pub define_cause : Bool → ℕ → DefineSemaphore → Rows → Option ServiceError
define_cause live client asked rows =
    first_of (new_name live asked.name (is_some (semaphore client asked.name rows)) ++ (nat_le most_semaphores (length rows), capability_unavailable) ∷ [])

-- its tokens are free
abbrev pub new_semaphore : ℕ → Semaphore
new_semaphore tokens = Token (record { tokens = tokens; made = 0; entries = [] })

-- it stands behind those of its part
abbrev pub define_after : ℕ → DefineSemaphore → Rows → Rows
define_after client asked rows = with_semaphore (key_of client asked.name, record { configured = false; semaphore = new_semaphore asked.tokens }) rows

-- ---- DeleteSemaphore

abbrev pub delete_conditions : Option SemaphoreRow → List (Bool × ServiceError)
delete_conditions None = (true, object_non_existent) ∷ []
delete_conditions (Some row) = (row.configured, object_access_denied) ∷ (not (length (entries_of row) == 0), object_constraint_conflict) ∷ []

abbrev pub delete_cause : ℕ → ObjectName → Rows → Option ServiceError
delete_cause client name rows = first_of (delete_conditions (semaphore client name rows))

abbrev pub deleted : Key → Rows → Rows
deleted key rows = remove_entry (key_eq key) rows

abbrev pub delete_after : ℕ → ObjectName → Rows → Rows
delete_after client name rows = deleted (key_of client name) rows
