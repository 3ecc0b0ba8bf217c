-- Worked examples of time on a device, typed by hand.
use Rattle.std.specs.Prelude.{◌≡◌, ◌==◌, ℕ, Bool, true, false, List, [], ◌∷◌, map, Option, Some, None}
use Rattle.std.proofs.Common.{refl}
use Rattle.mms_types.specs.declared.condition.Notice.{Notice}
use Rattle.mms_types.specs.declared.key.Key.{Key}
use Rattle.mms_types.specs.declared.key.Scope.TheVariants as scope
use Rattle.mms_types.specs.declared.moment.Moment.{Moment}
use Rattle.token_sem.specs.declared.entry.SemEntry.{SemEntry}
use Rattle.token_sem.specs.declared.entry.SemState.{SemState}
use Rattle.token_sem.specs.declared.entry.SemState.TheVariants.{Queued, Owner}
use Rattle.mms_time.specs.Semaphores as sem
use Rattle.mms_time.specs.declared.row.Semaphore.TheVariants.{Token}
use Rattle.mms_time.specs.declared.row.SemaphoreRow.{SemaphoreRow}
use Rattle.sem_ticks.specs.declared.ticks.Happening as sem_happening
use Rattle.sem_ticks.specs.declared.ticks.Happening.TheVariants.{WaitEnds, Grants, Aborts}
use Rattle.event_cond.specs.Conditions as cond
use Rattle.event_cond.specs.Evaluations.{evaluations}
use Rattle.event_cond.specs.Skips.{Saying}
use Rattle.event_cond.specs.declared.condition.Condition.{Condition}
use Rattle.event_cond.specs.declared.condition.ConditionClass.TheVariants.{Monitored}
use Rattle.event_enrol.specs.Enrolments as enrol
use Rattle.event_enrol.specs.declared.enrolment.Enrolment.{Enrolment}
use Rattle.cell_ticks.specs.Deadlines.{next_due}
use Rattle.cell_ticks.specs.Parts.{in_parts}
use Rattle.cell_ticks.specs.Ticks.{Ticking, ticked, ticked_on}
use Rattle.cell_ticks.specs.declared.happening.DatedHappening.{DatedHappening}
use Rattle.cell_ticks.specs.declared.happening.Happening.{Happening}
use Rattle.cell_ticks.specs.declared.happening.Happening.TheVariants.{Semaphores, Turns}

abbrev at : ℕ → Moment
at ms = record { 0 = ms }

abbrev vmd : ℕ → Key
vmd octet = record { scope = scope.Vmd; item = octet ∷ [] }

-- cell 0 is TRUE, and cell 1 FALSE
abbrev cells : Saying
cells number = number == 0

-- ---- the semaphore T, which is 84, with one token; client 1 owns it until a moment and is to be aborted then, and client 2 waits until 10

abbrev entry : ℕ → ℕ → SemState → Option Bool → Option Moment → SemEntry
entry number client held abort deadline = record {
  number = number;
  client = client;
  invoke = 5;
  token = None;
  priority = 64;
  control = None;
  abort = abort;
  keep = false;
  state = held;
  deadline = deadline;
}

abbrev token : List SemEntry → sem.Rows
token entries = (vmd 84, record { configured = false; semaphore = Token (record { tokens = 1; made = 2; entries = entries }) }) ∷ []

abbrev owned : ℕ → sem.Rows
owned ms = token (entry 1 1 Owner (Some true) (Some (at ms)) ∷ [])

abbrev waited : sem.Rows
waited = token (entry 1 1 Owner None None ∷ entry 2 2 Queued None (Some (at 10)) ∷ [])

-- ---- the condition M, which is 77, watches the TRUE cell every 10 milliseconds, and is looked at first at 10; each of two clients has an enrollment on it

abbrev watches : ℕ → Bool → ℕ → Condition
watches cell is_active next = record {
  priority = 64;
  severity = 80;
  class = Monitored (record { cell = cell; interval = 10; defined = at 0; evaluation = Some (record { is_active = is_active; next = at next }) });
  to_active = None;
  to_idle = None;
}

abbrev due : cond.Rows
due = (vmd 77, watches 0 false 10) ∷ []

abbrev enrolled : ℕ → Enrolment
enrolled client = record { client = client; condition = vmd 77; transitions = record { octets = 254 ∷ [] }; rule = 0 }

abbrev two_clients : enrol.Rows
two_clients = (vmd 70, enrolled 1) ∷ (vmd 71, enrolled 2) ∷ []

-- ---- what is seen: the moment, what happened, and to whom

data Seen : Type 0 where
  ends : ℕ → Seen
  gets : ℕ → Seen
  aborts : ℕ → Seen
  tells : List ℕ → Seen

abbrev of_semaphore : sem_happening.Happening → Seen
of_semaphore (WaitEnds client invoke) = ends client
of_semaphore (Grants granted) = gets granted.client
of_semaphore (Aborts client) = aborts client

abbrev of_happening : Happening → Seen
of_happening (Semaphores happening) = of_semaphore happening
of_happening (Turns told) = tells (map (λ (n : Notice). n.client) told.notices)

abbrev seen : Ticking → List (ℕ × Seen)
seen s = map (λ (h : DatedHappening). (h.at.0, of_happening h.happening)) s.happened

-- ---- who is aborted at a moment isn't told of an evaluation of that moment

together : seen (ticked cells (at 10) (owned 10) due two_clients) ≡ (10, aborts 1) ∷ (10, tells (2 ∷ [])) ∷ []
together = refl

together_left : map (λ (row : Key × Enrolment). row.1.client) (ticked cells (at 10) (owned 10) due two_clients).enrolments ≡ 2 ∷ []
together_left = refl

-- one millisecond later it is told of it, and aborted then
later : seen (ticked cells (at 30) (owned 11) due two_clients) ≡ (10, tells (1 ∷ 2 ∷ [])) ∷ (11, aborts 1) ∷ []
later = refl

-- and the condition is evaluated on and on
later_next : map (λ (e : Moment × Key). e.0.0) (evaluations (ticked cells (at 30) (owned 11) due two_clients).conditions) ≡ 40 ∷ []
later_next = refl

-- a wait that ends comes before an evaluation of its moment
wait_first : seen (ticked cells (at 10) waited due two_clients) ≡ (10, ends 2) ∷ (10, tells (1 ∷ 2 ∷ [])) ∷ []
wait_first = refl

-- an evaluation at the end of the tick belongs to it, and one after it doesn't
too_early : seen (ticked cells (at 9) waited due two_clients) ≡ []
too_early = refl

in_two_ticks : ticked_on cells (at 30) (ticked cells (at 10) (owned 11) due two_clients) ≡ ticked cells (at 30) (owned 11) due two_clients
in_two_ticks = refl

the_same_in_parts : in_parts cells (at 30) (owned 11) due two_clients ≡ ticked cells (at 30) (owned 11) due two_clients
the_same_in_parts = refl

-- of one moment a delay comes before an evaluation, whatever the names are
next_at_10 : next_due (at 10) waited due ≡ Some (record { at = at 10; kind = 1; key = vmd 84; entry = 2 })
next_at_10 = refl

next_of_conditions : next_due (at 10) (owned 11) due ≡ Some (record { at = at 10; kind = 2; key = vmd 77; entry = 0 })
next_of_conditions = refl

none_next : next_due (at 9) (owned 11) due ≡ None
none_next = refl

nothing_at_all : seen (ticked cells (at 3600000) [] [] two_clients) ≡ []
nothing_at_all = refl
