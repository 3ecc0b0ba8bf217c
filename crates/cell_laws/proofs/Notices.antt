-- What clients are told of transitions of event conditions answers no request, and changes nothing but what is to be
-- sent.
use Rattle.std.proofs.Common.{◌≡◌, ℕ, inl, List, [], ◌∷◌, ◌++◌, refl, sym, ap, subst}
use Rattle.mms_types.specs.declared.condition.AlterEventConditionMonitoring.{AlterEventConditionMonitoring}
use Rattle.mms_types.specs.declared.condition.Notice.{Notice}
use Rattle.mms_types.specs.declared.condition.TriggerEvent.{TriggerEvent}
use Rattle.mms_types.specs.declared.condition.Turned.{Turned}
use Rattle.mms_types.specs.declared.object_name.ObjectName.{ObjectName}
use Rattle.mms_types.specs.declared.pdu.Pdu.{Pdu}
use Rattle.mms_types.specs.declared.pdu.Pdu.TheVariants as pdu
use Rattle.mms_types.specs.declared.pdu.Request.TheVariants as request
use Rattle.association.specs.Client.{ClientRow}
use Rattle.event_enrol.specs.Enrolments.{Rows as Enrolments, notices}
use Rattle.parted_state.specs.Served.{reached}
use Rattle.cell_client.specs.Association.{sends}
use Rattle.cell_client.specs.Effects.{Effect}
use Rattle.serve_events.specs.Events.{alter_condition, alter_turns, delete_conditions, delete_turns, trigger, trigger_turns}
use Rattle.serve_events.specs.Told.{notification, notices_told, turn_told, turns_told}
use Rattle.cell_services.specs.Requests.{told_in}
use Rattle.cell_services.specs.Services.{effect}
use Rattle.cell_services.specs.Tables.{Tables, own_events}
use Rattle.step_parts.specs.Partition.{cell}
use Rattle.cell_laws.specs.Tally.{is_opening}
use Rattle.cell_laws.proofs.Fair.{IsQuiet, Outcome, Unopening, join, none_taken, piece-quiet}
use Rattle.cell_laws.proofs.Hears.{AllStill, IsStill}

-- a PDU that answers no request is sent
pub record IsNotice (effect : Effect) : Type 0 where
  pub told : Pdu
  pub is : effect ≡ sends told
  pub quiet : IsQuiet told

abbrev pub AreNotices : List (ℕ × Effect) → Type 0
AreNotices [] = Unit {0}
AreNotices (t ∷ told) = IsNotice t.1 × AreNotices told

pub notices-both : (xs ys : List (ℕ × Effect)) → AreNotices xs → AreNotices ys → AreNotices (xs ++ ys)
notices-both [] ys a b = b
notices-both (x ∷ xs) ys a b = (a.0, notices-both xs ys a.1 b)

-- ---- of transitions

pub told-notices : (turned : Turned) (list : List Notice) → AreNotices (notices_told turned list)
told-notices turned [] = tt
told-notices turned (n ∷ list) = (record { told = pdu.EventNotification (notification turned n); is = refl; quiet = λ i. refl }, told-notices turned list)

pub turns-notices : (rows : Enrolments) (turns : List Turned) → AreNotices (turns_told rows turns)
turns-notices rows [] = tt
turns-notices rows (turned ∷ turns) = notices-both (turn_told rows turned) (turns_told rows turns) (told-notices turned (notices turned rows)) (turns-notices rows turns)

-- of those that a request makes
module _ (t : Tables) (row : ClientRow) (invoke : ℕ) where
  pub deletion-notices : (names : List ObjectName) → AreNotices (effect t row invoke (request.DeleteEventCondition names)).also
  deletion-notices names = turns-notices t.events.enrolments (delete_turns row.client (told_in own_events t row (delete_conditions names)).now names t.events)

  pub alteration-notices : (x : AlterEventConditionMonitoring) → AreNotices (effect t row invoke (request.AlterEventConditionMonitoring x)).also
  alteration-notices x =
      turns-notices t.events.enrolments
      (alter_turns row.client (told_in own_events t row (alter_condition x)).now (told_in own_events t row (alter_condition x)).truth x t.events)

  pub trigger-notices : (x : TriggerEvent) → AreNotices (effect t row invoke (request.TriggerEvent x)).also
  trigger-notices x = turns-notices t.events.enrolments (trigger_turns row.client (told_in own_events t row (trigger x)).now x.name t.events)

-- ---- what they do

-- no request waits more or less
pub notices-still : (told : List (ℕ × Effect)) → AreNotices told → AllStill told
notices-still [] are = tt
notices-still (t ∷ told) are = (subst IsStill (sym are.0.is) tt, notices-still told are.1)

-- no association opens
pub notices-unopening : (told : List (ℕ × Effect)) → AreNotices told → Unopening told
notices-unopening [] are = tt
notices-unopening (t ∷ told) are = (ap is_opening are.0.is, notices-unopening told are.1)

-- and no request is answered
pub notices-fair : (c : ℕ) (told : List (ℕ × Effect)) (rows : List ClientRow) → AreNotices told → Outcome c told rows none_taken
notices-fair c [] rows are = inl (record { pdus = []; spelled = refl; balance = λ i. refl })
notices-fair c (t ∷ told) rows are =
    join c (t ∷ []) told rows none_taken none_taken (notices-unopening told are.1)
    (subst (λ (e : Effect). Outcome c ((t.0, e) ∷ []) rows none_taken) (sym are.0.is) (inl (piece-quiet c t.0 are.0.told rows are.0.quiet)))
    (notices-fair c told (reached cell t.0 t.1 rows) are.1)
