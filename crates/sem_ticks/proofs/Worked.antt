-- Worked examples of time, typed by hand from the definitions.
use Rattle.std.specs.Prelude.{◌≡◌, ℕ, true, false, List, [], ◌∷◌, Option, Some, None, fold}
use Rattle.std.proofs.Common.{refl}
use Rattle.mms_types.specs.declared.key.Key.{Key}
use Rattle.mms_types.specs.declared.key.Scope.TheVariants as scope
use Rattle.mms_types.specs.declared.moment.Moment.{Moment}
use Rattle.mms_types.specs.declared.semaphore.TakeControlAnswer.TheVariants.{NoResult}
use Rattle.token_sem.specs.declared.entry.SemEntry.{SemEntry}
use Rattle.token_sem.specs.declared.entry.SemState.{SemState}
use Rattle.token_sem.specs.declared.entry.SemState.TheVariants.{Queued, Owner, Hung}
use Rattle.mms_time.specs.Semaphores.{Rows}
use Rattle.mms_time.specs.declared.row.Semaphore.TheVariants.{Token}
use Rattle.mms_time.specs.declared.row.SemaphoreRow.{SemaphoreRow}
use Rattle.sem_ticks.specs.declared.granted.Granted.{Granted}
use Rattle.sem_ticks.specs.Drafts.{become, due_rows}
use Rattle.sem_ticks.specs.Renewed.{put_at}
use Rattle.sem_ticks.specs.Ticks.{ticked, ticked_on}
use Rattle.sem_ticks.specs.declared.ticks.Happening.TheVariants.{WaitEnds, Grants, Aborts}

abbrev at : ℕ → Moment
at ms = record { 0 = ms }

-- the semaphores T and U of the VMD, with one token each
abbrev t_key : Key
t_key = record { scope = scope.Vmd; item = 84 ∷ [] }

abbrev u_key : Key
u_key = record { scope = scope.Vmd; item = 85 ∷ [] }

-- an entry of invokeID 10, with its time of control
abbrev entry : ℕ → ℕ → SemState → Option ℕ → Option Moment → SemEntry
entry number client held control deadline = record {
  number = number;
  client = client;
  invoke = 10;
  token = None;
  priority = 64;
  control = control;
  abort = None;
  keep = false;
  state = held;
  deadline = deadline;
}

abbrev row : Key → ℕ → List SemEntry → Key × SemaphoreRow
row key made entries = (key, record { configured = false; semaphore = Token (record { tokens = 1; made = made; entries = entries }) })

abbrev grant : ℕ → Granted
grant client = record { client = client; invoke = 10; answer = NoResult }

-- clients 1 and 2 asked for T with 10 ms of control each: client 1 has it until 10, and client 2 from then until 20
abbrev timed : Rows
timed = row t_key 2 (entry 1 1 Owner (Some 10) (Some (at 10)) ∷ entry 2 2 Queued (Some 10) None ∷ []) ∷ []

too_early : ticked (at 9) timed ≡ record { rows = timed; happened = [] }
too_early = refl

to_the_second : ticked (at 10) timed ≡ record {
  rows = row t_key 2 (entry 2 2 Owner (Some 10) (Some (at 20)) ∷ []) ∷ [];
  happened = Grants (grant 2) ∷ [];
}
to_the_second = refl

-- a deadline that arises meanwhile is met as well, at its own moment
both_over : ticked (at 20) timed ≡ record { rows = row t_key 2 [] ∷ []; happened = Grants (grant 2) ∷ [] }
both_over = refl

in_two_ticks : ticked_on (at 20) (ticked (at 10) timed) ≡ ticked (at 20) timed
in_two_ticks = refl

-- client 1 is to be aborted where its time is over: client 2 has its answer first, and then client 1 is lost, whose token of U goes to client 3
abbrev aborting : Rows
aborting =
    row t_key 2 (record (entry 1 1 Owner (Some 10) (Some (at 10))) { abort = Some true } ∷ entry 2 2 Queued None None ∷ [])
    ∷ row u_key 2 (entry 1 1 Owner None None ∷ entry 2 3 Queued None (Some (at 50)) ∷ []) ∷ []

aborted : ticked (at 10) aborting ≡ record {
  rows = row t_key 2 (entry 2 2 Owner None None ∷ []) ∷ row u_key 2 (entry 2 3 Owner None None ∷ []) ∷ [];
  happened = Grants (grant 2) ∷ Aborts 1 ∷ Grants (grant 3) ∷ [];
}
aborted = refl

-- a hung token is freed without an abort
hung_over : ticked (at 10) (row t_key 1 (record (entry 1 1 Hung (Some 10) (Some (at 10))) { abort = Some true } ∷ []) ∷ []) ≡ record { rows = row t_key 1 [] ∷ []; happened = [] }
hung_over = refl

-- two waits that end at one moment, by the names of their semaphores and not by the order in which these were made
waits_end : ticked (at 5) (row u_key 2 (entry 1 1 Owner None None ∷ entry 2 2 Queued None (Some (at 5)) ∷ [])
    ∷ row t_key 2 (entry 1 1 Owner None None ∷ entry 2 3 Queued None (Some (at 5)) ∷ []) ∷ []) ≡ record {
      rows = row u_key 2 (entry 1 1 Owner None None ∷ []) ∷ row t_key 2 (entry 1 1 Owner None None ∷ []) ∷ [];
      happened = WaitEnds 3 10 ∷ WaitEnds 2 10 ∷ [];
    }
waits_end = refl

-- a control time-out comes before a delay of the same moment: who waits has the token then, and its wait is over
just_in_time : ticked (at 10) (row t_key 2 (entry 1 1 Owner (Some 10) (Some (at 10)) ∷ entry 2 2 Queued None (Some (at 10)) ∷ []) ∷ []) ≡ record {
  rows = row t_key 2 (entry 2 2 Owner None None ∷ []) ∷ [];
  happened = Grants (grant 2) ∷ [];
}
just_in_time = refl

nothing_at_all : ticked (at 3600000) [] ≡ record { rows = []; happened = [] }
nothing_at_all = refl

-- what is put at places: the semaphore of the second place alone, and nothing past the end
put_second : fold put_at aborting ((1, (row u_key 2 []).1) ∷ []) ≡ row t_key 2 (record (entry 1 1 Owner (Some 10) (Some (at 10))) { abort = Some true } ∷ entry 2 2 Queued None None ∷ []) ∷ row u_key 2 [] ∷ []
put_second = refl

put_both : fold put_at aborting ((1, (row u_key 2 []).1) ∷ (0, (row t_key 2 []).1) ∷ []) ≡ row t_key 2 [] ∷ row u_key 2 [] ∷ []
put_both = refl

put_past : fold put_at timed ((1, (row u_key 2 []).1) ∷ []) ≡ timed
put_past = refl

-- of two semaphores the one that is due becomes another
one_becomes : become (row u_key 3 [] ∷ []) aborting ≡ row t_key 2 (record (entry 1 1 Owner (Some 10) (Some (at 10))) { abort = Some true } ∷ entry 2 2 Queued None None ∷ []) ∷ row u_key 3 [] ∷ []
one_becomes = refl

one_is_due : due_rows (at 10) aborting ≡ row t_key 2 (record (entry 1 1 Owner (Some 10) (Some (at 10))) { abort = Some true } ∷ entry 2 2 Queued None None ∷ []) ∷ []
one_is_due = refl

none_is_due : due_rows (at 9) aborting ≡ []
none_is_due = refl
