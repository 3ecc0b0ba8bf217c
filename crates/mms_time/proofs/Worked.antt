-- Worked examples of the services for semaphores: what each is refused for, what it answers and does, typed by hand from the definitions.
use Rattle.std.specs.Prelude.{◌≡◌, ℕ, Bool, true, false, List, [], ◌∷◌, map, replicate, Option, Some, None, option_and_then}
use Rattle.std.specs.Map.{lookup}
use Rattle.std.proofs.Common.{arith, refl}
use Rattle.mms_types.specs.Order.{key_eq}
use Rattle.mms_types.specs.Errors.{capability_unavailable, object_access_denied, object_constraint_conflict, object_exists, object_non_existent, object_state_conflict, object_undefined, timeout, type_inconsistent}
use Rattle.mms_types.specs.declared.key.Key.{Key}
use Rattle.mms_types.specs.declared.key.Scope.TheVariants as scope
use Rattle.mms_types.specs.declared.moment.Moment.{Moment}
use Rattle.mms_types.specs.declared.object_name.ObjectName.{ObjectName}
use Rattle.mms_types.specs.declared.object_name.ObjectName.TheVariants as name
use Rattle.mms_types.specs.declared.semaphore.DefineSemaphore.{DefineSemaphore}
use Rattle.mms_types.specs.declared.semaphore.EntryClass.TheVariants.{Simple}
use Rattle.mms_types.specs.declared.semaphore.EntryState.TheVariants as state
use Rattle.mms_types.specs.declared.semaphore.EntryStatus.{EntryStatus}
use Rattle.mms_types.specs.declared.semaphore.NamedToken.TheVariants as of_pool
use Rattle.mms_types.specs.declared.semaphore.RelinquishControl.{RelinquishControl}
use Rattle.mms_types.specs.declared.semaphore.ReportPoolSemaphoreStatus.{ReportPoolSemaphoreStatus}
use Rattle.mms_types.specs.declared.semaphore.ReportSemaphoreEntryStatus.{ReportSemaphoreEntryStatus}
use Rattle.mms_types.specs.declared.semaphore.SemaphoreClass.TheVariants as class
use Rattle.mms_types.specs.declared.semaphore.TakeControl.{TakeControl}
use Rattle.mms_types.specs.declared.semaphore.TakeControlAnswer.TheVariants.{NoResult, NamedToken}
use Rattle.object_names.specs.Listing.{names_after}
use Rattle.token_sem.specs.Semaphore.{first_deadline as least_deadline}
use Rattle.token_sem.specs.declared.entry.Deadline.{Deadline}
use Rattle.token_sem.specs.declared.entry.Grant.{Grant}
use Rattle.token_sem.specs.declared.entry.SemEntry.{SemEntry}
use Rattle.token_sem.specs.declared.entry.SemState.{SemState}
use Rattle.token_sem.specs.declared.entry.SemState.TheVariants.{Queued, Owner, Hung}
use Rattle.mms_time.specs.Bounds.{IsThere, NoneBefore, sooner_of}
use Rattle.mms_time.specs.Deadlines.{expire_after, expired, next_due}
use Rattle.mms_time.specs.Guards.{owns_guard}
use Rattle.mms_time.specs.Loss.{lost, lost_grants}
use Rattle.mms_time.specs.Semaphores.{Rows, entries_of}
use Rattle.mms_time.specs.Services.{cancelled, define_after, define_cause, delete_after, delete_cause, grant_answer, relinquish_after, relinquish_cause, relinquish_grant, take_after, take_cause, take_told}
use Rattle.mms_time.specs.Statuses.{entry_status_answer, pool_status_answer, pool_status_cause, status, status_cause}
use Rattle.mms_time.specs.declared.row.Semaphore.TheVariants.{Token, Pool}
use Rattle.mms_time.specs.declared.row.SemaphoreRow.{SemaphoreRow}
use Rattle.mms_time.specs.declared.taking.TakeDone.TheVariants.{Answered, Waits}

-- a function answers each row of a table with its second column
abbrev Answers : {A B : Type 0} → (A → B) → List (A × B) → Type 0
Answers f table = map (λ row. f row.0) table ≡ map (λ row. row.1) table

abbrev at : ℕ → Moment
at ms = record { 0 = ms }

-- the semaphores T and U of the VMD, T of the domain D, and T of an association
abbrev t : ObjectName
t = name.Vmd (84 ∷ [])

abbrev u : ObjectName
u = name.Vmd (85 ∷ [])

abbrev of_domain : ObjectName
of_domain = name.Domain (68 ∷ []) (84 ∷ [])

abbrev of_client : ObjectName
of_client = name.Association (84 ∷ [])

abbrev t_key : Key
t_key = record { scope = scope.Vmd; item = 84 ∷ [] }

abbrev u_key : Key
u_key = record { scope = scope.Vmd; item = 85 ∷ [] }

-- a request for a token: what it names, its priority, its delay, its time of control
abbrev take : ObjectName → ℕ → Option ℕ → Option ℕ → TakeControl
take asked priority delay control = record {
  name = asked;
  token = None;
  priority = priority;
  delay = delay;
  control = control;
  abort = None;
  relinquish = true;
  preempt = None;
}

abbrev plain : ObjectName → TakeControl
plain asked = take asked 64 None None

abbrev give : ObjectName → RelinquishControl
give asked = record { name = asked; token = None }

abbrev define : ObjectName → DefineSemaphore
define asked = record { name = asked; tokens = 1 }

-- an entry whose request has invokeID 10 and priority 64
abbrev entry : ℕ → ℕ → SemState → Option Moment → SemEntry
entry number client held deadline = record {
  number = number;
  client = client;
  invoke = 10;
  token = None;
  priority = 64;
  control = None;
  abort = None;
  keep = false;
  state = held;
  deadline = deadline;
}

abbrev row : Key → Bool → ℕ → List SemEntry → Key × SemaphoreRow
row key configured made entries = (key, record { configured = configured; semaphore = Token (record { tokens = 1; made = made; entries = entries }) })

-- T, which client 1 owns
abbrev owned : Rows
owned = row t_key false 1 (entry 1 1 Owner None ∷ []) ∷ []

-- T, which client 1 owns, and client 2 waits
abbrev waited : Rows
waited = row t_key false 2 (entry 1 1 Owner None ∷ entry 2 2 Queued None ∷ []) ∷ []

abbrev free : Rows
free = row t_key false 0 [] ∷ []

abbrev grant : ℕ → ℕ → Grant
grant client number = record { client = client; invoke = 10; entry = number; token = None }

-- ---- the causes, in orders where two hold

define_causes : Answers (λ (x : Bool × ObjectName × Rows). define_cause x.0 7 (define x.1) x.2) (
    ((true, t, []), None) ∷
    ((true, t, owned), Some object_exists) ∷
    ((false, of_domain, []), Some object_undefined) ∷
    ((false, of_domain, row (record { scope = scope.Domain (68 ∷ []); item = 84 ∷ [] }) false 0 [] ∷ []), Some object_undefined) ∷
    ((false, of_client, owned), None) ∷
    ((true, t, replicate 256 (row u_key false 0 [])), Some capability_unavailable) ∷
    ((true, u, replicate 256 (row u_key false 0 [])), Some object_exists) ∷
    ((true, t, replicate 255 (row u_key false 0 [])), None) ∷ [])
define_causes = refl

-- a token name with a token semaphore; a client with a claim; a delay of 0 where no token is to be had
take_causes : Answers (λ (x : ℕ × TakeControl). take_cause x.0 x.1 waited) (
    ((7, plain u), Some object_non_existent) ∷
    ((7, record (plain u) { token = Some (82 ∷ []) }), Some object_non_existent) ∷
    ((1, record (plain t) { token = Some (82 ∷ []) }), Some type_inconsistent) ∷
    ((1, take t 64 (Some 0) None), Some object_state_conflict) ∷
    ((2, plain t), Some object_state_conflict) ∷
    ((7, take t 64 (Some 0) None), Some timeout) ∷
    ((7, take t 64 (Some 1) None), None) ∷
    ((7, plain t), None) ∷ [])
take_causes = refl

relinquish_causes : Answers (λ (x : ℕ × RelinquishControl). relinquish_cause x.0 x.1 waited) (
    ((7, record (give u) { token = Some (82 ∷ []) }), Some object_non_existent) ∷
    ((7, record (give t) { token = Some (82 ∷ []) }), Some type_inconsistent) ∷
    ((7, give t), Some object_state_conflict) ∷
    ((2, give t), Some object_state_conflict) ∷
    ((1, give t), None) ∷ [])
relinquish_causes = refl

delete_causes : Answers (λ (x : ObjectName × Rows). delete_cause 7 x.0 x.1) (
    ((u, owned), Some object_non_existent) ∷
    ((t, row t_key true 1 (entry 1 1 Hung None ∷ []) ∷ []), Some object_access_denied) ∷
    ((t, row t_key true 0 [] ∷ []), Some object_access_denied) ∷
    ((t, row t_key false 1 (entry 1 1 Hung None ∷ []) ∷ []), Some object_constraint_conflict) ∷
    ((t, waited), Some object_constraint_conflict) ∷
    ((t, free), None) ∷ [])
delete_causes = refl

status_causes : Answers (λ (x : ObjectName). status_cause 7 x owned) ((u, Some object_non_existent) ∷ (of_client, Some object_non_existent) ∷ (t, None) ∷ [])
status_causes = refl

pool_status_causes : Answers (λ (x : ObjectName). pool_status_cause 7 x owned) ((u, Some object_non_existent) ∷ (t, Some type_inconsistent) ∷ [])
pool_status_causes = refl

-- ---- T is defined; then its clients ask one after the other

defining : define_after 1 (define t) [] ≡ free
defining = refl

-- client 1 has a token, and client 2 waits; client 1 gives it back, and client 2 has it
two_takes : take_told 1 (plain t) free ∷ take_told 2 (plain t) owned ∷ [] ≡ Some (Answered NoResult) ∷ Some (Waits 2) ∷ []
two_takes = refl

taking : take_after 1 10 (at 0) (plain t) free ∷ take_after 2 10 (at 0) (plain t) owned ∷ [] ≡ owned ∷ waited ∷ []
taking = refl

giving_back : Answers (λ (x : Rows). relinquish_grant 1 (give t) x) ((waited, Some (Some (grant 2 2))) ∷ (owned, Some None) ∷ [])
giving_back = refl

given_back : relinquish_after 1 (at 0) (give t) waited ∷ relinquish_after 1 (at 0) (give t) owned ∷ []
    ≡ (row t_key false 2 (entry 2 2 Owner None ∷ []) ∷ []) ∷ (row t_key false 1 [] ∷ []) ∷ []
given_back = refl

-- client 1 owns T; client 2 asks with priority 64, clients 3 and 4 with 10: granted are 3, 4 and 2
abbrev ranked : Rows
ranked = take_after 4 10 (at 0) (take t 10 None None) (take_after 3 10 (at 0) (take t 10 None None) waited)

abbrev first_given : Rows
first_given = relinquish_after 1 (at 0) (give t) ranked

abbrev second_given : Rows
second_given = relinquish_after 3 (at 0) (give t) first_given

by_rank : relinquish_grant 1 (give t) ranked ∷ relinquish_grant 3 (give t) first_given ∷ relinquish_grant 4 (give t) second_given ∷ []
    ≡ Some (Some (grant 3 3)) ∷ Some (Some (grant 4 4)) ∷ Some (Some (grant 2 2)) ∷ []
by_rank = refl

-- clients 1 and 2 ask with a time of control of 10: the first has its token until 10, the second from then until 20
abbrev timed : Rows
timed = take_after 2 10 (at 0) (take t 64 None (Some 10)) (take_after 1 10 (at 0) (take t 64 None (Some 10)) free)

abbrev once : Rows
once = expire_after t_key 1 (at 10) timed

first_deadline : next_due (at 9) timed ∷ next_due (at 20) timed ∷ [] ≡ None ∷ Some (record { at = at 10; kind = 0; key = t_key; entry = 1 }) ∷ []
first_deadline = refl

first_end : expired t_key 1 timed ≡ Some (record { client = 1; invoke = 10; waited = false; abort = false; grant = Some (grant 2 2) })
first_end = refl

second_deadline : next_due (at 20) once ≡ Some (record { at = at 20; kind = 0; key = t_key; entry = 2 })
second_deadline = refl

second_end : expired t_key 2 once ≡ Some (record { client = 2; invoke = 10; waited = false; abort = false; grant = None })
second_end = refl

at_the_end : next_due (at 99) (expire_after t_key 2 (at 20) once) ≡ None
at_the_end = refl

nobody_left : status 1 t (expire_after t_key 2 (at 20) once) ≡ Some (record { deletable = true; class = class.Token; tokens = 1; owned = 0; hung = 0 })
nobody_left = refl

-- the token of client 1 is kept where it is lost: client 2 waits, and client 3, which names client 1, has it
abbrev kept : Rows
kept = lost 1 (at 5) (take_after 1 10 (at 0) (record (plain t) { relinquish = false }) free)

hung_status : status 2 t kept ≡ Some (record { deletable = true; class = class.Token; tokens = 1; owned = 0; hung = 1 })
hung_status = refl

abbrev naming : TakeControl
naming = record (take t 64 (Some 0) None) { preempt = Some 1 }

preempting : take_told 2 (plain t) kept ∷ take_told 3 naming (take_after 2 10 (at 6) (plain t) kept) ∷ [] ≡ Some (Waits 2) ∷ Some (Answered NoResult) ∷ []
preempting = refl

preempted : take_after 3 10 (at 7) naming (take_after 2 10 (at 6) (plain t) kept) ≡ row t_key false 3 (entry 2 2 Queued None ∷ entry 3 3 Owner None ∷ []) ∷ []
preempted = refl

-- client 2 no longer waits; an owner doesn't wait, and stays
waits_no_more : cancelled t_key 2 waited ∷ cancelled t_key 1 waited ∷ [] ≡ (row t_key false 2 (entry 1 1 Owner None ∷ []) ∷ []) ∷ waited ∷ []
waits_no_more = refl

-- names in order of octets
named : names_after scope.Vmd None (row u_key false 0 [] ∷ owned) ≡ (84 ∷ []) ∷ (85 ∷ []) ∷ []
named = refl

deleted : delete_after 7 t (row u_key false 0 [] ∷ free) ≡ row u_key false 0 [] ∷ []
deleted = refl

-- ---- deadlines of one moment: control time-outs first, then by name, whichever semaphore was defined first

abbrev end : SemState → SemEntry
end held = entry 1 7 held (Some (at 10))

deadlines : Answers (next_due (at 10)) (
    (row u_key false 1 (end Owner ∷ []) ∷ row t_key false 1 (end Owner ∷ []) ∷ [], Some (record { at = at 10; kind = 0; key = t_key; entry = 1 })) ∷
    (row u_key false 1 (end Hung ∷ []) ∷ row t_key false 1 (end Queued ∷ []) ∷ [], Some (record { at = at 10; kind = 0; key = u_key; entry = 1 })) ∷
    (row t_key false 1 (end Queued ∷ []) ∷ row u_key false 1 (entry 1 7 Queued (Some (at 9)) ∷ []) ∷ [], Some (record { at = at 9; kind = 1; key = u_key; entry = 1 })) ∷
    (row t_key false 1 (entry 1 7 Owner (Some (at 11)) ∷ []) ∷ [], None) ∷
    (waited, None) ∷
    ([], None) ∷ [])
deadlines = refl

-- ---- entries: 6 at once, by their numbers after the one that is given

abbrev waiter : ℕ → SemEntry
waiter number = entry number number Queued (Some (at 100))

abbrev seven : Rows
seven = row t_key false 9 (entry 1 1 Owner None ∷ waiter 2 ∷ waiter 3 ∷ waiter 4 ∷ waiter 5 ∷ waiter 6 ∷ waiter 7 ∷ waiter 9 ∷ []) ∷ []

abbrev told : ℕ → EntryStatus
told number = record {
  number = 0 ∷ 0 ∷ 0 ∷ 0 ∷ 0 ∷ 0 ∷ 0 ∷ number ∷ [];
  class = Simple;
  client = number;
  token = None;
  priority = 64;
  remaining = Some 70;
  abort = None;
  relinquish = true;
}

abbrev after : ℕ → ReportSemaphoreEntryStatus
after number = record { name = t; state = state.Queued; after = Some (record { octets = 0 ∷ 0 ∷ 0 ∷ 0 ∷ 0 ∷ 0 ∷ 0 ∷ number ∷ [] }) }

entries : Answers (λ (x : ReportSemaphoreEntryStatus). entry_status_answer 7 (at 30) x seven) (
    (record (after 0) { after = None }, Some (record { entries = told 2 ∷ told 3 ∷ told 4 ∷ told 5 ∷ told 6 ∷ told 7 ∷ []; more = true })) ∷
    (after 2, Some (record { entries = told 3 ∷ told 4 ∷ told 5 ∷ told 6 ∷ told 7 ∷ told 9 ∷ []; more = false })) ∷
    (after 7, Some (record { entries = told 9 ∷ []; more = false })) ∷
    (after 8, Some (record { entries = told 9 ∷ []; more = false })) ∷
    (after 9, Some (record { entries = []; more = false })) ∷
    (record (after 0) { state = state.Hung }, Some (record { entries = []; more = false })) ∷
    (record (after 0) { name = u }, None) ∷ [])
entries = refl

-- ---- the loss of a client: grants by name, whichever semaphore was defined first; its own semaphores go

abbrev both : Rows
both = row u_key false 2 (entry 1 1 Owner None ∷ entry 2 2 Queued None ∷ [])
    ∷ row (record { scope = scope.Association 1; item = 84 ∷ [] }) false 1 (entry 1 1 Owner None ∷ [])
    ∷ row t_key false 3 (entry 1 1 Owner None ∷ entry 2 4 Queued None ∷ entry 3 3 Queued None ∷ []) ∷ []

losing : lost_grants 1 (at 5) both ≡ (t_key, grant 4 2) ∷ (u_key, grant 2 2) ∷ []
losing = refl

after_losing : lost 1 (at 5) both
    ≡ row u_key false 2 (entry 2 2 Owner None ∷ []) ∷ row t_key false 3 (entry 2 4 Owner None ∷ entry 3 3 Queued None ∷ []) ∷ []
after_losing = refl

losing_waiters : lost 4 (at 5) both
    ≡ row u_key false 2 (entry 1 1 Owner None ∷ entry 2 2 Queued None ∷ [])
    ∷ row (record { scope = scope.Association 1; item = 84 ∷ [] }) false 1 (entry 1 1 Owner None ∷ [])
    ∷ row t_key false 3 (entry 1 1 Owner None ∷ entry 3 3 Queued None ∷ []) ∷ []
losing_waiters = refl

-- ---- a pool P that was configured, with the tokens R1 and R2

abbrev p : ObjectName
p = name.Vmd (80 ∷ [])

abbrev p_key : Key
p_key = record { scope = scope.Vmd; item = 80 ∷ [] }

abbrev r : ℕ → List ℕ
r digit = 82 ∷ digit ∷ []

abbrev robots : ℕ → List SemEntry → Rows
robots made entries = (p_key, record { configured = true; semaphore = Pool (record { tokens = r 49 ∷ r 50 ∷ []; made = made; entries = entries }) }) ∷ []

abbrev with_token : Option ℕ → SemEntry → SemEntry
with_token token e = record e { token = token }

-- client 1 owns R1 and client 2 R2
abbrev both_owned : Rows
both_owned = robots 2 (with_token (Some 0) (entry 1 1 Owner None) ∷ with_token (Some 1) (entry 2 2 Owner None) ∷ [])

abbrev named_take : ℕ → TakeControl
named_take digit = record (plain p) { token = Some (r digit) }

abbrev now_or_never : TakeControl → TakeControl
now_or_never asked = record asked { delay = Some 0 }

abbrev give_named : ℕ → RelinquishControl
give_named digit = record { name = p; token = Some (r digit) }

-- a token that the pool doesn't have; one that the client owns, though it may wait for another or for any; a delay of 0 where none is to be had
pool_take_causes : Answers (λ (x : ℕ × TakeControl). take_cause x.0 x.1 both_owned) (
    ((1, now_or_never (named_take 51)), Some object_non_existent) ∷
    ((1, now_or_never (named_take 49)), Some object_state_conflict) ∷
    ((1, now_or_never (named_take 50)), Some timeout) ∷
    ((1, now_or_never (plain p)), Some timeout) ∷
    ((1, named_take 50), None) ∷
    ((1, plain p), None) ∷
    ((7, named_take 49), None) ∷ [])
pool_take_causes = refl

-- who waits can't take another, also where one is free
pool_waiting_cause : take_cause 3 (plain p) (robots 2 (with_token (Some 0) (entry 1 1 Owner None) ∷ with_token (Some 0) (entry 2 3 Queued None) ∷ [])) ≡ Some object_state_conflict
pool_waiting_cause = refl

-- a pool's token is named where it is given back
pool_relinquish_causes : Answers (λ (x : ℕ × RelinquishControl). relinquish_cause x.0 x.1 both_owned) (
    ((7, give p), Some type_inconsistent) ∷
    ((7, give_named 51), Some object_non_existent) ∷
    ((1, give_named 50), Some object_state_conflict) ∷
    ((7, give_named 49), Some object_state_conflict) ∷
    ((1, give_named 49), None) ∷ [])
pool_relinquish_causes = refl

-- it was configured, so it can't be deleted, though nobody has an entry
pool_delete_cause : delete_cause 7 p (robots 0 []) ≡ Some object_access_denied
pool_delete_cause = refl

-- any is asked for: the least free one is told; one that is named isn't told again
pool_told : Answers (λ (x : ℕ × TakeControl × Rows). take_told x.0 x.1 x.2) (
    ((1, plain p, robots 0 []), Some (Answered (NamedToken (r 49)))) ∷
    ((1, named_take 50, robots 0 []), Some (Answered NoResult)) ∷
    ((2, plain p, robots 1 (with_token (Some 0) (entry 1 1 Owner None) ∷ [])), Some (Answered (NamedToken (r 50)))) ∷
    ((2, named_take 49, robots 1 (with_token (Some 0) (entry 1 1 Owner None) ∷ [])), Some (Waits 2)) ∷
    ((3, plain p, both_owned), Some (Waits 3)) ∷ [])
pool_told = refl

pool_taking : take_after 2 10 (at 0) (plain p) (take_after 1 10 (at 0) (plain p) (robots 0 [])) ≡ both_owned
pool_taking = refl

-- client 3 waits for R2, client 4 for any with a better rank, client 5 for any
abbrev three_wait : Rows
three_wait = take_after 5 10 (at 0) (plain p) (take_after 4 10 (at 0) (record (plain p) { priority = 10 }) (take_after 3 10 (at 0) (named_take 50) both_owned))

abbrev one_given : Rows
one_given = relinquish_after 1 (at 0) (give_named 49) three_wait

-- R1 goes to client 4, which is told its name; then R2 goes to client 3, which named it
pool_granted : relinquish_grant 1 (give_named 49) three_wait ∷ relinquish_grant 2 (give_named 50) one_given ∷ []
    ≡ Some (Some (record { client = 4; invoke = 10; entry = 4; token = Some 0 })) ∷ Some (Some (record { client = 3; invoke = 10; entry = 3; token = None })) ∷ []
pool_granted = refl

pool_answers : Answers (λ (x : Key × Grant). grant_answer x.0 x.1 three_wait) (
    ((p_key, record (grant 4 4) { token = Some 0 }), NamedToken (r 49)) ∷
    ((p_key, record (grant 4 4) { token = Some 1 }), NamedToken (r 50)) ∷
    ((p_key, grant 3 3), NoResult) ∷
    ((t_key, grant 3 3), NoResult) ∷ [])
pool_answers = refl

pool_status_told : status 7 p three_wait ≡ Some (record { deletable = false; class = class.Pool; tokens = 2; owned = 2; hung = 0 })
pool_status_told = refl

-- the tokens of a pool, after a name that need not be there
abbrev half_hung : Rows
half_hung = robots 1 (with_token (Some 1) (entry 1 1 Hung None) ∷ [])

abbrev tokens_after : Option (List ℕ) → ReportPoolSemaphoreStatus
tokens_after name = record { name = p; after = name }

pool_tokens : Answers (λ (x : Option (List ℕ) × Rows). pool_status_answer 7 (tokens_after x.0) x.1) (
    ((None, both_owned), Some (record { tokens = of_pool.Owned (r 49) ∷ of_pool.Owned (r 50) ∷ []; more = false })) ∷
    ((None, half_hung), Some (record { tokens = of_pool.Free (r 49) ∷ of_pool.Hung (r 50) ∷ []; more = false })) ∷
    ((Some (r 49), half_hung), Some (record { tokens = of_pool.Hung (r 50) ∷ []; more = false })) ∷
    ((Some (82 ∷ []), half_hung), Some (record { tokens = of_pool.Free (r 49) ∷ of_pool.Hung (r 50) ∷ []; more = false })) ∷
    ((Some (r 50), half_hung), Some (record { tokens = []; more = false })) ∷ [])
pool_tokens = refl

-- 12 at once
abbrev many : ℕ → Rows
many count = (p_key, record { configured = true; semaphore = Pool (record { tokens = replicate count (r 49); made = 0; entries = [] }) }) ∷ []

more_tokens : Answers (λ (count : ℕ). pool_status_answer 7 (tokens_after None) (many count)) (
    (12, Some (record { tokens = replicate 12 (of_pool.Free (r 49)); more = false })) ∷
    (13, Some (record { tokens = replicate 12 (of_pool.Free (r 49)); more = true })) ∷ [])
more_tokens = refl

-- an entry's token is told where it has or wants a named one
pool_entries : Answers (λ (x : ReportSemaphoreEntryStatus). entry_status_answer 7 (at 0) x three_wait) ((
  record { name = p; state = state.Queued; after = None },
  Some (record {
    entries = record (told 3) { token = Some (r 50); remaining = None } ∷ record (told 4) { token = None; priority = 10; remaining = None } ∷ record (told 5) { token = None; remaining = None } ∷ [];
    more = false;
  }),
) ∷ (
  record { name = p; state = state.Owner; after = None },
  Some (record {
    entries = record (told 1) { token = Some (r 49); remaining = None } ∷ record (told 2) { token = Some (r 50); remaining = None } ∷ [];
    more = false;
  }),
) ∷ [])
pool_entries = refl

-- who owns a guard: an owner of any token of it; a hung one is owned by nobody, and so is one that isn't there or isn't the VMD's
guards : Answers (λ (x : ℕ × List ℕ × Rows). owns_guard x.0 x.1 x.2) (
    ((1, 80 ∷ [], both_owned), true) ∷
    ((2, 80 ∷ [], both_owned), true) ∷
    ((3, 80 ∷ [], three_wait), false) ∷
    ((1, 80 ∷ [], half_hung), false) ∷
    ((1, 84 ∷ [], owned), true) ∷
    ((2, 84 ∷ [], waited), false) ∷
    ((1, 85 ∷ [], owned), false) ∷
    ((1, 84 ∷ [], row (record { scope = scope.Association 1; item = 84 ∷ [] }) false 1 (entry 1 1 Owner None ∷ []) ∷ []), false) ∷ [])
guards = refl

-- client 2 is lost, and R2 goes to client 4
pool_losing : lost_grants 2 (at 5) three_wait ≡ (p_key, record (grant 4 4) { token = Some 1 }) ∷ []
pool_losing = refl

pool_after_losing : status 7 p (lost 1 (at 5) (lost 2 (at 5) both_owned)) ≡ Some (record { deletable = false; class = class.Pool; tokens = 2; owned = 0; hung = 0 })
pool_after_losing = refl

-- a time of control of 10 ends, and who waits for that token has it
abbrev pool_timed : Rows
pool_timed = take_after 2 10 (at 0) (named_take 49) (take_after 1 10 (at 0) (record (named_take 49) { control = Some 10 }) (robots 0 []))

pool_end : next_due (at 20) pool_timed ≡ Some (record { at = at 10; kind = 0; key = p_key; entry = 1 })
pool_end = refl

pool_ended : expired p_key 1 pool_timed ≡ Some (record { client = 1; invoke = 10; waited = false; abort = false; grant = Some (grant 2 2) })
pool_ended = refl

pool_after_end : expire_after p_key 1 (at 10) pool_timed ≡ robots 2 (with_token (Some 0) (entry 2 2 Owner None) ∷ [])
pool_after_end = refl

-- ---- the moment that is kept beside the semaphores, which no deadline is before

-- client 1 owns T until 30, and nobody owns U
abbrev until_30 : Rows
until_30 = row t_key false 1 (entry 1 1 Owner (Some (at 30)) ∷ []) ∷ row u_key false 0 [] ∷ []

-- client 2 takes U with a time of control of 10
abbrev until_10 : Rows
until_10 = take_after 2 10 (at 0) (take u 64 None (Some 10)) until_30

-- the soonest deadline of U
abbrev due_of_u : Rows → Option Deadline
due_of_u rows = option_and_then (λ row. least_deadline (entries_of row)) (lookup (key_eq u_key) rows)

a_take_lowers_it : sooner_of (at 30) (due_of_u until_10) ≡ at 10
a_take_lowers_it = refl

and_none_is_before : NoneBefore (at 10) until_10
and_none_is_before = ((omega arith, tt), ((omega arith, tt), tt))

one_is_there : IsThere true (at 10) until_10
one_is_there = λ known. refl

-- a take without a time of control leaves it
a_plain_take_leaves_it : sooner_of (at 30) (due_of_u (take_after 2 10 (at 0) (plain u) until_30)) ≡ at 30
a_plain_take_leaves_it = refl

-- where the entry goes it may stay, though no deadline is there any more
it_stays_where_one_goes : NoneBefore (at 10) (relinquish_after 2 (at 5) (give u) until_10)
it_stays_where_one_goes = ((omega arith, tt), (tt, tt))

none_is_due_then : next_due (at 29) (relinquish_after 2 (at 5) (give u) until_10) ≡ None
none_is_due_then = refl

-- so it may where a client is lost, and where a semaphore is deleted
it_stays_where_one_is_lost : NoneBefore (at 10) (lost 1 (at 5) until_10)
it_stays_where_one_is_lost = (tt, ((omega arith, tt), tt))

it_stays_where_one_is_deleted : NoneBefore (at 30) (delete_after 1 u until_30)
it_stays_where_one_is_deleted = ((omega arith, tt), tt)
