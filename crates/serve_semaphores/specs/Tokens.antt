-- What comes of a request for a token on the one semaphore that it names (ISO 9506-1, TakeControl and RelinquishControl).
use Rattle.std.specs.Prelude.{◌≡◌, ℕ, Bool, true, false, ◌||◌, ◌==◌, find, is_none, is_some, List, [], ◌∷◌, Option, None, Some, if◌then◌else◌}
use Rattle.std.specs.Borrow.{Bor}
use Rattle.std.specs.Map.{lookup}
use Rattle.mms_types.specs.Errors.{first_of}
use Rattle.mms_types.specs.Order.{key_eq, key_of}
use Rattle.mms_types.specs.declared.moment.Moment.{Moment}
use Rattle.mms_types.specs.declared.pdu.Answer.TheVariants as answer
use Rattle.mms_types.specs.declared.area.SemaphoreRequest.{SemaphoreRequest}
use Rattle.mms_types.specs.declared.area.SemaphoreRequest.TheVariants as request
use Rattle.mms_types.specs.declared.semaphore.RelinquishControl.{RelinquishControl}
use Rattle.mms_types.specs.declared.semaphore.TakeControl.{TakeControl}
use Rattle.mms_types.specs.declared.service_error.ServiceError.{ServiceError}
use Rattle.association.specs.Client.{ClientRow}
use Rattle.association.specs.declared.waiting.Waiting.{Waiting}
use Rattle.mms_time.specs.Semaphores.{Rows, changed_row}
use Rattle.mms_time.specs.Services.{cancelled, relinquish_after, relinquish_conditions_in, relinquish_grant_in, take_conditions_in, take_told_in, with_take, with_token_back}
use Rattle.mms_time.specs.declared.row.SemaphoreRow.{SemaphoreRow}
use Rattle.mms_time.specs.declared.taking.TakeDone.{TakeDone}
use Rattle.mms_time.specs.declared.taking.TakeDone.TheVariants.{Answered, Waits as Waits-in}
use Rattle.sem_ticks.specs.Granted.{relinquish_granted}
use Rattle.sem_ticks.specs.declared.granted.Granted.{Granted}
use Rattle.cell_client.specs.Effects.{Effect, Waits}
use Rattle.cell_client.specs.Requests.{fits, is_done, refuses, request_told, size_of}

-- why a client's request for a token of a semaphore is refused
abbrev pub take_cause_on : ℕ → TakeControl → SemaphoreRow → Option ServiceError
take_cause_on client x s = first_of (take_conditions_in client x s.semaphore)

-- the client is told that it has the token, or its request waits
abbrev pub take_done : ℕ → ℕ → ℕ → TakeControl → TakeDone → List Effect
take_done size client invoke x (Answered told) = request_told size invoke None (Some (answer.TakeControl told))
take_done size client invoke x (Waits-in entry) = Waits (record { invoke = invoke; key = key_of client x.name; entry = entry }) ∷ []

-- or that it is refused
abbrev pub take_effects : ℕ → ℕ → ℕ → TakeControl → Option ServiceError → TakeDone → List Effect
take_effects size client invoke x (Some refusal) done = refuses invoke refusal ∷ []
take_effects size client invoke x None done = take_done size client invoke x done

abbrev pub taken_done : ℕ → ℕ → TakeDone → Bool
taken_done size invoke (Answered told) = fits size invoke (Some (answer.TakeControl told))
taken_done size invoke (Waits-in entry) = fits size invoke None

-- whether the semaphore changes
abbrev pub is_taken : ℕ → ℕ → Option ServiceError → TakeDone → Bool
is_taken size invoke (Some refusal) done = false
is_taken size invoke None done = taken_done size invoke done

-- the effects of it on the client, and the semaphore after it
abbrev pub take_on : ClientRow → ℕ → TakeControl → SemaphoreRow → List Effect
take_on row invoke x s =
    take_effects (size_of row.association) row.client invoke x (take_cause_on row.client x s) (take_told_in x s.semaphore)

abbrev pub taken_on : ClientRow → ℕ → Moment → TakeControl → SemaphoreRow → SemaphoreRow
taken_on row invoke now x s =
    if is_taken (size_of row.association) invoke (take_cause_on row.client x s) (take_told_in x s.semaphore)
    then changed_row (with_take row.client invoke x now) s else s

-- why a token is not given back
abbrev pub relinquish_cause_on : ℕ → RelinquishControl → SemaphoreRow → Option ServiceError
relinquish_cause_on client x s = first_of (relinquish_conditions_in client x s.semaphore)

-- where nobody is granted the token: what the client is told, and the semaphore after it
abbrev pub relinquish_on : ClientRow → ℕ → RelinquishControl → SemaphoreRow → List Effect
relinquish_on row invoke x s =
    request_told (size_of row.association) invoke (relinquish_cause_on row.client x s) (Some answer.RelinquishControl)

abbrev pub relinquished_on : ClientRow → ℕ → Moment → RelinquishControl → SemaphoreRow → SemaphoreRow
relinquished_on row invoke now x s =
    if is_done (size_of row.association) invoke (relinquish_cause_on row.client x s) (Some answer.RelinquishControl)
    then changed_row (with_token_back row.client x.token now) s else s

-- ---- who is told

-- nobody is granted the token: it is not given back, or nobody waits for it
abbrev pub grants_nobody_on : ℕ → RelinquishControl → SemaphoreRow → Bool
grants_nobody_on client x s = is_some (relinquish_cause_on client x s) || is_none (relinquish_grant_in client x s.semaphore)

abbrev pub grants_nobody_among : ℕ → RelinquishControl → Option SemaphoreRow → Bool
grants_nobody_among client x None = true
grants_nobody_among client x (Some s) = grants_nobody_on client x s

abbrev pub grants_nobody : ℕ → RelinquishControl → Rows → Bool
grants_nobody client x rows = grants_nobody_among client x (lookup (key_eq (key_of client x.name)) rows)

-- a client's request tells that client alone something: any but one that gives a token back which somebody is granted
abbrev pub tells_alone : ℕ → SemaphoreRequest → Rows → Bool
tells_alone client (request.RelinquishControl x) rows = grants_nobody client x.now rows
tells_alone client other rows = true

-- a client's request gives a token back that this client is granted
pub record GrantsTo (client : ℕ) (asked : SemaphoreRequest) (rows : Rows) (g : Granted) : Type 0 where
  pub back : Bor RelinquishControl
  pub is : asked ≡ request.RelinquishControl back
  pub to : relinquish_granted client back.now rows ≡ Some (Some g)

-- what a request of a client that tells others something makes of the semaphores
abbrev pub told_after : ℕ → Moment → SemaphoreRequest → Rows → Rows
told_after client now (request.RelinquishControl x) rows = relinquish_after client now x.now rows
told_after client now other rows = rows

-- ---- a request that waits is cancelled

-- the request of that invokeID, where it waits
abbrev pub waiting_of : ℕ → List Waiting → Option Waiting
waiting_of invoke rows = find (λ row. row.invoke == invoke) rows

-- its entry waits no more
abbrev pub rows_cancelled : Option Waiting → Rows → Rows
rows_cancelled None rows = rows
rows_cancelled (Some request) rows = cancelled request.key request.entry rows

-- ---- others

-- a client is the one that is told something besides, where there is one
abbrev pub is_the_one : Option ℕ → ℕ → Bool
is_the_one None k = false
is_the_one (Some client) k = client == k
