-- Who is granted a token, with what is answered then (ISO 9506-2, TakeControl).
use Rattle.std.specs.Prelude.{ℕ, List, map, Option, option_map}
use Rattle.mms_types.specs.Order.{key_of}
use Rattle.mms_types.specs.declared.key.Key.{Key}
use Rattle.mms_types.specs.declared.moment.Moment.{Moment}
use Rattle.mms_types.specs.declared.semaphore.RelinquishControl.{RelinquishControl}
use Rattle.token_sem.specs.declared.entry.Grant.{Grant}
use Rattle.mms_time.specs.Loss.{lost_grants}
use Rattle.mms_time.specs.Semaphores.{Rows}
use Rattle.mms_time.specs.Services.{grant_answer, relinquish_grant}
use Rattle.sem_ticks.specs.declared.granted.Granted.{Granted}

-- a grant in the semaphore of that name
abbrev pub granted : Rows → Key × Grant → Granted
granted rows (key, grant) = record { client = grant.client; invoke = grant.invoke; answer = grant_answer key grant rows }

abbrev pub all_granted : Rows → List (Key × Grant) → List Granted
all_granted rows grants = map (granted rows) grants

-- where a client gives a token back, by its request; none where there is no such semaphore
abbrev pub relinquish_granted : ℕ → RelinquishControl → Rows → Option (Option Granted)
relinquish_granted client asked rows = option_map (option_map (λ grant. granted rows (key_of client asked.name, grant))) (relinquish_grant client asked rows)

-- where a client is lost, by name of semaphore and number of the client's entry
abbrev pub lost_granted : ℕ → Moment → Rows → List Granted
lost_granted client now rows = all_granted rows (lost_grants client now rows)
