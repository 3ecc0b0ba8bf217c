-- Worked examples of ticks over event conditions and enrollments, typed by hand.
use Rattle.std.specs.Prelude.{◌≡◌, ◌==◌, ℕ, Bool, true, false, List, [], ◌∷◌, map, Some, None}
use Rattle.std.proofs.Common.{refl}
use Rattle.mms_types.specs.declared.condition.Notice.{Notice}
use Rattle.mms_types.specs.declared.key.Key.{Key}
use Rattle.mms_types.specs.declared.key.Scope.TheVariants as scope
use Rattle.mms_types.specs.declared.moment.Moment.{Moment}
use Rattle.event_cond.specs.Conditions as cond
use Rattle.event_cond.specs.Evaluations.{evaluations}
use Rattle.event_cond.specs.Skips.{Saying}
use Rattle.event_cond.specs.declared.condition.Condition.{Condition}
use Rattle.event_cond.specs.declared.condition.ConditionClass.TheVariants.{Monitored}
use Rattle.event_enrol.specs.Enrolments as enrol
use Rattle.event_enrol.specs.declared.enrolment.Enrolment.{Enrolment}
use Rattle.event_ticks.specs.Skipping.{skipping}
use Rattle.event_ticks.specs.Ticks.{Ticking, begun, ticked}
use Rattle.event_ticks.specs.declared.ticks.Loss.{Loss}
use Rattle.event_ticks.specs.declared.ticks.TurnTold.{TurnTold}

abbrev at : ℕ → Moment
at ms = record { 0 = ms }

abbrev vmd : ℕ → Key
vmd octet = record { scope = scope.Vmd; item = octet ∷ [] }

abbrev own : ℕ → ℕ → Key
own client octet = record { scope = scope.Association client; item = octet ∷ [] }

-- cell 0 is TRUE, and cell 1 FALSE
abbrev cells : Saying
cells number = number == 0

-- a condition that watches a cell, defined at a moment, with its state and its next evaluation
abbrev watches : ℕ → ℕ → ℕ → Bool → ℕ → Condition
watches cell interval defined is_active next = record {
  priority = 64;
  severity = 80;
  class = Monitored (record { cell = cell; interval = interval; defined = at defined; evaluation = Some (record { is_active = is_active; next = at next }) });
  to_active = None;
  to_idle = None;
}

-- an enrollment for all transitions
abbrev enrolled : ℕ → Key → Enrolment
enrolled client condition = record { client = client; condition = condition; transitions = record { octets = 254 ∷ [] }; rule = 0 }

-- what is seen: the moment, the condition's name, the transition, and which clients are told
abbrev seen : TurnTold → ℕ × List ℕ × ℕ × List ℕ
seen t = (t.turned.at.0, t.turned.condition.item, t.turned.transition, map (λ (n : Notice). n.client) t.notices)

abbrev tells : Ticking → List (ℕ × List ℕ × ℕ × List ℕ)
tells s = map seen s.told

-- when each condition is evaluated next
abbrev nexts : Ticking → List (ℕ × List ℕ)
nexts s = map (λ (e : Moment × Key). (e.0.0, e.1.item)) (evaluations s.conditions)

abbrev lost_at : ℕ → ℕ → Loss
lost_at ms client = record { at = at ms; client = client }

-- ---- alone: M, which is 77, watches the TRUE cell from 0 on every 20 milliseconds, and is looked at next at 60

abbrev alone : cond.Rows
alone = (vmd 77, watches 0 20 0 false 60) ∷ []

abbrev first_client : enrol.Rows
first_client = (vmd 70, enrolled 1 (vmd 77)) ∷ []

before : tells (ticked cells (at 59) (begun alone first_client [])) ≡ []
before = refl

on_time : tells (ticked cells (at 60) (begun alone first_client [])) ≡ (60, 77 ∷ [], 5, 1 ∷ []) ∷ []
on_time = refl

after : nexts (ticked cells (at 60) (begun alone first_client [])) ≡ (80, 77 ∷ []) ∷ []
after = refl

-- five evaluations, of which the first alone tells
five : tells (ticked cells (at 159) (begun alone first_client [])) ≡ (60, 77 ∷ [], 5, 1 ∷ []) ∷ []
five = refl

five_after : nexts (ticked cells (at 159) (begun alone first_client [])) ≡ (160, 77 ∷ []) ∷ []
five_after = refl

-- an hour, at an interval of ten minutes
hour : nexts (ticked cells (at 3600000) (begun ((vmd 77, watches 0 600000 0 false 600000) ∷ []) [] [])) ≡ (4200000, 77 ∷ []) ∷ []
hour = refl

-- the same by arithmetic, at 10 milliseconds
hour_skipped : nexts (skipping cells (at 3600000) (begun ((vmd 77, watches 0 10 7 false 17) ∷ []) [] [])) ≡ (3600007, 77 ∷ []) ∷ []
hour_skipped = refl

hour_told : tells (skipping cells (at 3600000) (begun ((vmd 77, watches 0 10 7 false 17) ∷ []) first_client [])) ≡ (17, 77 ∷ [], 5, 1 ∷ []) ∷ []
hour_told = refl

-- ---- several: of one moment by name, whichever was defined first; B goes idle, C stays

abbrev several : cond.Rows
several = (vmd 77, watches 0 10 0 false 20) ∷ (vmd 66, watches 1 10 0 true 20) ∷ (vmd 65, watches 0 10 0 false 30) ∷ (vmd 67, watches 1 10 0 false 10) ∷ []

abbrev both_clients : enrol.Rows
both_clients = (vmd 70, enrolled 1 (vmd 77)) ∷ (vmd 71, enrolled 2 (vmd 66)) ∷ (vmd 72, enrolled 2 (vmd 77)) ∷ []

in_order_told : tells (ticked cells (at 35) (begun several both_clients []))
    ≡ (20, 66 ∷ [], 3, 2 ∷ []) ∷ (20, 77 ∷ [], 5, 1 ∷ 2 ∷ []) ∷ (30, 65 ∷ [], 5, []) ∷ []
in_order_told = refl

in_order_next : nexts (ticked cells (at 35) (begun several both_clients [])) ≡ (40, 77 ∷ []) ∷ (40, 66 ∷ []) ∷ (40, 65 ∷ []) ∷ (40, 67 ∷ []) ∷ []
in_order_next = refl

-- ---- with losses: M is due at 10, and each of two clients has an enrollment on it

abbrev due : cond.Rows
due = (vmd 77, watches 0 10 0 false 10) ∷ []

abbrev two_clients : enrol.Rows
two_clients = (vmd 70, enrolled 1 (vmd 77)) ∷ (vmd 71, enrolled 2 (vmd 77)) ∷ []

-- at the same moment: the loss comes first
loss_first : tells (ticked cells (at 10) (begun due two_clients (lost_at 10 1 ∷ []))) ≡ (10, 77 ∷ [], 5, 2 ∷ []) ∷ []
loss_first = refl

-- one millisecond later: both are told, and the enrollment is gone then
loss_later : tells (ticked cells (at 30) (begun due two_clients (lost_at 11 1 ∷ []))) ≡ (10, 77 ∷ [], 5, 1 ∷ 2 ∷ []) ∷ []
loss_later = refl

loss_leaves : map (λ (row : Key × Enrolment). row.1.client) (ticked cells (at 30) (begun due two_clients (lost_at 11 1 ∷ []))).enrolments ≡ 2 ∷ []
loss_leaves = refl

-- a condition of the association that is lost is evaluated before, and not at that moment
abbrev owned : cond.Rows
owned = (own 1 77, watches 0 10 0 false 10) ∷ (own 1 78, watches 0 10 0 false 20) ∷ []

own_gone : tells (ticked cells (at 40) (begun owned [] (lost_at 20 1 ∷ []))) ≡ (10, 77 ∷ [], 5, []) ∷ []
own_gone = refl

own_none : nexts (ticked cells (at 40) (begun owned [] (lost_at 20 1 ∷ []))) ≡ []
own_none = refl

-- a loss after the tick is left
loss_left : (ticked cells (at 10) (begun due two_clients (lost_at 11 1 ∷ []))).losses ≡ lost_at 11 1 ∷ []
loss_left = refl
