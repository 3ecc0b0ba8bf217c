-- Each request for event conditions and event enrollments that is not refused is answered at once; nobody is asked anything, and only clients that are enrolled are told
-- of transitions.
use Rattle.std.specs.Prelude.{◌≡◌, ℕ, ◌==◌, ◌||◌, Bool, true, false, Option, None, Some, List, [], ◌∷◌, ◌++◌, filter, is_none, map, refl}
use Rattle.std.specs.List.{list_any}
use Rattle.std.specs.Option.{option_map}
use Rattle.std.proofs.Common.{inl, cond, ◌∙◌}
use Rattle.mms_types.specs.Errors.{first_of, object_non_existent}
use Rattle.mms_types.specs.Order.{key_of}
use Rattle.mms_types.specs.declared.area.EventRequest.{EventRequest}
use Rattle.mms_types.specs.declared.area.EventRequest.TheVariants as request
use Rattle.mms_types.specs.declared.condition.Notice.{Notice}
use Rattle.mms_types.specs.declared.condition.Turned.{Turned}
use Rattle.mms_types.specs.declared.pdu.Answer.TheVariants as answer
use Rattle.association.specs.Client.{ClientRow}
use Rattle.event_cond.specs.Conditions.{condition}
use Rattle.event_cond.specs.Services.{status_of}
use Rattle.event_cond.specs.declared.condition.Condition.{Condition}
use Rattle.event_enrol.specs.Enrolments.{Rows, is_of, notice, notices, number_on}
use Rattle.event_enrol.specs.Enrolments as enrol
use Rattle.cell_client.specs.Areas.{AnswersOrWaitsIn, answers}
use Rattle.cell_client.specs.Effects.{Effect, is_ask, waits_told}
use Rattle.cell_client.specs.Facts.{Facts}
use Rattle.serve_events.specs.Events.{request_in}
use Rattle.serve_events.specs.Told.{notices_told, turn_told, turns_told}
use Rattle.serve_events.specs.Turns.{is_told, tells_alone}
use Rattle.serve_events.specs.declared.tables.EventTables.{EventTables}

-- ---- no request waits by what is told of transitions

notices_wait_not : (turned : Turned) (list : List Notice) (rest : List (ℕ × Effect)) → waits_told (notices_told turned list ++ rest) ≡ waits_told rest
notices_wait_not turned [] rest = refl
notices_wait_not turned (n ∷ ns) rest = notices_wait_not turned ns rest

pub turns_wait_not : (rows : Rows) (turns : List Turned) → waits_told (turns_told rows turns) ≡ []
turns_wait_not rows [] = refl
turns_wait_not rows (turned ∷ turns) = notices_wait_not turned (notices turned rows) (turns_told rows turns) ∙ turns_wait_not rows turns

-- ---- and nothing is asked

abbrev pub asks : List (ℕ × Effect) → Bool
asks told = list_any (λ t. is_ask t.1) told

notices_ask_not : (turned : Turned) (list : List Notice) (rest : List (ℕ × Effect)) → asks (notices_told turned list ++ rest) ≡ asks rest
notices_ask_not turned [] rest = refl
notices_ask_not turned (n ∷ ns) rest = notices_ask_not turned ns rest

pub turns_ask_not : (rows : Rows) (turns : List Turned) → asks (turns_told rows turns) ≡ false
turns_ask_not rows [] = refl
turns_ask_not rows (turned ∷ turns) = notices_ask_not turned (notices turned rows) (turns_told rows turns) ∙ turns_ask_not rows turns

-- ---- who is told is enrolled

-- the client has an enrollment
abbrev pub is_enrolled : Rows → ℕ → Bool
is_enrolled rows k = list_any (is_of k) rows

told_either : (k : ℕ) (first rest : List (ℕ × Effect)) (b : Bool) → (is_told first k ≡ true → b ≡ true) → (is_told rest k ≡ true → b ≡ true)
    → is_told (first ++ rest) k ≡ true → b ≡ true
told_either k [] rest b a z e = z e
told_either k (t ∷ ts) rest b a z e = by_first (t.0 == k) a (told_either k ts rest b) e
  where
    by_first : (here : Bool) → ((here || is_told ts k) ≡ true → b ≡ true) → ((is_told ts k ≡ true → b ≡ true) → (is_told rest k ≡ true → b ≡ true) → is_told (ts ++ rest) k ≡ true → b ≡ true)
        → (here || is_told (ts ++ rest) k) ≡ true → b ≡ true
    by_first true a later e = a refl
    by_first false a later e = later a z e

or_right : (a b : Bool) → b ≡ true → (a || b) ≡ true
or_right true b e = refl
or_right false b e = e

noticed_enrolled : (turned : Turned) (k : ℕ) (rows : Rows) → is_told (turn_told rows turned) k ≡ true → is_enrolled rows k ≡ true
noticed_enrolled turned k [] e = absurd (cc e)
noticed_enrolled turned k (row ∷ rows) e = by_told (enrol.is_told turned row) (noticed_enrolled turned k rows) e
  where
    left : Rows
    left = filter (enrol.is_told turned) rows

    by_client : (here : Bool) → (is_told (turn_told rows turned) k ≡ true → is_enrolled rows k ≡ true) → (here || is_told (turn_told rows turned) k) ≡ true
        → (here || is_enrolled rows k) ≡ true
    by_client true later e = refl
    by_client false later e = later e

    by_told : (b : Bool) → (is_told (turn_told rows turned) k ≡ true → is_enrolled rows k ≡ true)
        → is_told (notices_told turned (map (notice turned) (cond b (row ∷ left) left))) k ≡ true → (row.1.client == k || is_enrolled rows k) ≡ true
    by_told true later e = by_client (row.1.client == k) later e
    by_told false later e = or_right (row.1.client == k) (is_enrolled rows k) (later e)

pub turned_enrolled : (rows : Rows) (k : ℕ) (turns : List Turned) → is_told (turns_told rows turns) k ≡ true → is_enrolled rows k ≡ true
turned_enrolled rows k [] e = absurd (cc e)
turned_enrolled rows k (turned ∷ turns) e =
    told_either k (turn_told rows turned) (turns_told rows turns) (is_enrolled rows k) (noticed_enrolled turned k rows) (turned_enrolled rows k turns) e

-- ---- each request

module _ (facts : Facts) (t : EventTables) (row : ClientRow) (invoke : ℕ) where
  -- there is a condition to be told of
  found_one : (n : ℕ) (o : Option Condition) → first_of ((is_none o, object_non_existent) ∷ []) ≡ None
      → AnswersOrWaitsIn row.client invoke (answers t (option_map answer.ReportEventConditionStatus (option_map (status_of n) o)))
  found_one n None e = absurd (cc e)
  found_one n (Some c) e = inl (_, refl, refl)

  pub answers_or_waits : (asked : EventRequest) → (request_in asked).cause facts t row ≡ None
      → AnswersOrWaitsIn row.client invoke ((request_in asked).effect facts t row invoke)
  answers_or_waits (request.DefineEventCondition x) none = inl (_, refl, refl)
  answers_or_waits (request.DeleteEventCondition x) none = inl (_, refl, turns_wait_not t.enrolments _)
  answers_or_waits (request.ReportEventConditionStatus x) none =
      found_one (number_on (key_of row.client x.now) t.enrolments) (condition row.client x.now t.conditions) none
  answers_or_waits (request.AlterEventConditionMonitoring x) none = inl (_, refl, turns_wait_not t.enrolments _)
  answers_or_waits (request.TriggerEvent x) none = inl (_, refl, turns_wait_not t.enrolments _)
  answers_or_waits (request.DefineEventEnrollment x) none = inl (_, refl, refl)
  answers_or_waits (request.DeleteEventEnrollment x) none = inl (_, refl, refl)

  -- nobody is asked anything
  pub nothing_is_asked : (asked : EventRequest) → asks ((request_in asked).effect facts t row invoke).also ≡ false
  nothing_is_asked (request.DefineEventCondition x) = refl
  nothing_is_asked (request.DeleteEventCondition x) = turns_ask_not t.enrolments _
  nothing_is_asked (request.ReportEventConditionStatus x) = refl
  nothing_is_asked (request.AlterEventConditionMonitoring x) = turns_ask_not t.enrolments _
  nothing_is_asked (request.TriggerEvent x) = turns_ask_not t.enrolments _
  nothing_is_asked (request.DefineEventEnrollment x) = refl
  nothing_is_asked (request.DeleteEventEnrollment x) = refl

  -- who is told anything has an enrollment
  pub told_are_enrolled : (asked : EventRequest) (k : ℕ) → is_told ((request_in asked).effect facts t row invoke).also k ≡ true → is_enrolled t.enrolments k ≡ true
  told_are_enrolled (request.DefineEventCondition x) k e = absurd (cc e)
  told_are_enrolled (request.DeleteEventCondition x) k e = turned_enrolled t.enrolments k _ e
  told_are_enrolled (request.ReportEventConditionStatus x) k e = absurd (cc e)
  told_are_enrolled (request.AlterEventConditionMonitoring x) k e = turned_enrolled t.enrolments k _ e
  told_are_enrolled (request.TriggerEvent x) k e = turned_enrolled t.enrolments k _ e
  told_are_enrolled (request.DefineEventEnrollment x) k e = absurd (cc e)
  told_are_enrolled (request.DeleteEventEnrollment x) k e = absurd (cc e)

  -- a request by which no condition comes to another state or goes tells its client alone
  pub others_alone : (asked : EventRequest) → tells_alone asked ≡ true → ((request_in asked).effect facts t row invoke).also ≡ []
  others_alone (request.DefineEventCondition x) e = refl
  others_alone (request.DeleteEventCondition x) e = absurd (cc e)
  others_alone (request.ReportEventConditionStatus x) e = refl
  others_alone (request.AlterEventConditionMonitoring x) e = absurd (cc e)
  others_alone (request.TriggerEvent x) e = absurd (cc e)
  others_alone (request.DefineEventEnrollment x) e = refl
  others_alone (request.DeleteEventEnrollment x) e = refl
