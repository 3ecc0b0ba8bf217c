-- Whom a request tells of transitions.
use Rattle.std.proofs.Common.{◌≡◌, ◌∙◌, ap, sym, refl, ℕ, ◌==◌, ◌||◌, Bool, true, false, List, [], ◌∷◌, ◌++◌, Option, None, Some, if◌then◌else◌, map}
use Rattle.mms_types.specs.declared.condition.Notice.{Notice}
use Rattle.mms_types.specs.declared.condition.Turned.{Turned}
use Rattle.mms_types.specs.declared.pdu.Answer.{Answer}
use Rattle.mms_types.specs.declared.service_error.ServiceError.{ServiceError}
use Rattle.association.specs.Client.{ClientRow}
use Rattle.event_enrol.specs.Enrolments.{Rows, notices}
use Rattle.cell_client.specs.Areas.{OutcomeIn, RequestIn, also_in}
use Rattle.cell_client.specs.Effects.{Effect}
use Rattle.cell_client.specs.Facts.{Facts}
use Rattle.cell_client.specs.Requests.{fits, is_done, size_of}
use Rattle.std.specs.Borrow.{Bor}
use Rattle.std.specs.Prelude.{IfOk, Result, Ok, Err, option_to_list}
use Rattle.mms_types.specs.declared.area.EventRequest.{EventRequest}
use Rattle.mms_types.specs.declared.area.EventRequest.TheVariants as request
use Rattle.mms_types.specs.declared.condition.AlterEventConditionMonitoring.{AlterEventConditionMonitoring}
use Rattle.mms_types.specs.declared.condition.TriggerEvent.{TriggerEvent}
use Rattle.mms_types.specs.declared.memory.Memory.{Memory}
use Rattle.mms_types.specs.declared.moment.Moment.{Moment}
use Rattle.mms_types.specs.declared.object_name.ObjectName.{ObjectName}
use Rattle.mms_types.specs.declared.pdu.Answer.TheVariants as answer
use Rattle.object_names.specs.Deletion.{missing}
use Rattle.event_cond.specs.Deletion.{deletions}
use Rattle.event_cond.specs.Services.{alter_cause, alter_told, trigger_cause, trigger_told}
use Rattle.serve_events.specs.Events.{after_alter, after_delete, after_trigger, alter_condition, alter_turns, delete_conditions, delete_turns, request_in, trigger, trigger_turns, turned}
use Rattle.serve_events.proofs.MovingLaws.{alter_effect, alter_turned, alter_why, delete_effect, delete_turned, trigger_effect, trigger_turned, trigger_why}
use Rattle.serve_events.specs.Told.{clients_of, notices_told, turns_told}
use Rattle.serve_events.specs.Turns.{is_one_of, is_told}
use Rattle.serve_events.specs.declared.tables.EventTables.{EventTables}

told_more : (turn : Turned) (k : ℕ) (list : List Notice) (rest : List (ℕ × Effect)) (clients : List ℕ) → is_told rest k ≡ is_one_of clients k
    → is_told (notices_told turn list ++ rest) k ≡ is_one_of (map (λ (n : Notice). n.client) list ++ clients) k
told_more turn k [] rest clients same = same
told_more turn k (n ∷ ns) rest clients same = ap (λ (b : Bool). n.client == k || b) (told_more turn k ns rest clients same)

pub told_alike : (rows : Rows) (k : ℕ) (turns : List Turned) → is_told (turns_told rows turns) k ≡ is_one_of (clients_of turns rows) k
told_alike rows k [] = refl
told_alike rows k (turn ∷ turns) = told_more turn k (notices turn rows) (turns_told rows turns) (clients_of turns rows) (told_alike rows k turns)

module _ (r : RequestIn EventTables) (facts : Facts) (row : ClientRow) (invoke : ℕ) (t : EventTables) where
  abbrev also_of : Option ServiceError → OutcomeIn EventTables → List (ℕ × Effect)
  also_of why o = if is_done (size_of row.association) invoke why o.answer then o.also else []

  -- refused: nobody is told
  pub none_if_refused : (e : ServiceError) (k : ℕ) → r.cause facts t row ≡ Some e → is_told (also_in r facts row invoke t) k ≡ false
  none_if_refused e k cause = ap (λ (w : Option ServiceError). is_told (also_of w (r.effect facts t row invoke)) k) cause

  -- done, where the answer fits
  pub clients_if_done : (after : EventTables) (answer : Answer) (turns : List Turned) (clients : List ℕ) → r.cause facts t row ≡ None
      → r.effect facts t row invoke ≡ turned t after answer turns
      → clients ≡ (if fits (size_of row.association) invoke (Some answer) then clients_of turns t.enrolments else [])
      → (k : ℕ) → is_told (also_in r facts row invoke t) k ≡ is_one_of clients k
  clients_if_done after answer turns clients cause effect is k =
      ap (λ (w : Option ServiceError). is_told (also_of w (r.effect facts t row invoke)) k) cause
      ∙ ap (λ (o : OutcomeIn EventTables). is_told (also_of None o) k) effect
      ∙ by_fit (fits (size_of row.association) invoke (Some answer))
      ∙ ap (λ (l : List ℕ). is_one_of l k) (sym is)
    where
      by_fit : (b : Bool) → is_told (if b then turns_told t.enrolments turns else []) k ≡ is_one_of (if b then clients_of turns t.enrolments else []) k
      by_fit true = told_alike t.enrolments k turns
      by_fit false = refl

-- ---- by what a call answered

module _ {X : Type 0} (items : X → List ℕ) (t : EventTables) (row : ClientRow) (invoke client : ℕ) (by : client ≡ row.client) (now : Moment) where
  abbrev those : Answer → List Turned → List ℕ
  those a turns = if fits (size_of row.association) invoke (Some a) then clients_of turns t.enrolments else []

  pub deletion_clients : (result : Result X Memory) (names : List ObjectName) (missed : ℕ) (turns : List Turned) → missed ≡ missing client names t.conditions
      → turns ≡ deletions client now names t.conditions → IfOk result (λ x. items x ≡ those (answer.DeleteEventCondition missed) turns)
      → IfOk result (λ x. (facts : Facts) → facts.now ≡ now → (k : ℕ) → is_told (also_in (delete_conditions names) facts row invoke t) k ≡ is_one_of (items x) k)
  deletion_clients (Ok x) names missed turns m all is = λ facts at k.
      clients_if_done (delete_conditions names) facts row invoke t (after_delete row.client now names t) (answer.DeleteEventCondition missed) (delete_turns row.client now names t) (items x) refl
      (delete_effect t row invoke client by now names missed m facts at)
      (is ∙ ap (those (answer.DeleteEventCondition missed)) (delete_turned t row invoke client by now names turns all)) k
  deletion_clients (Err memory) names missed turns m all is = tt

  pub alteration_clients : (result : Result X Memory) (says : Bool) (x : AlterEventConditionMonitoring) (told : Option Turned) (turns : List Turned)
      → (alter_cause client x t.conditions ≡ None) × (Some (alter_told client now says x t.conditions) ≡ Some told) → turns ≡ option_to_list told
      → IfOk result (λ y. items y ≡ those answer.AlterEventConditionMonitoring turns)
      → IfOk result (λ y. (facts : Facts) → facts.now ≡ now → facts.truth ≡ says → (k : ℕ) → is_told (also_in (alter_condition x) facts row invoke t) k ≡ is_one_of (items y) k)
  alteration_clients (Ok y) says x told turns both all is = λ facts at truth k.
      clients_if_done (alter_condition x) facts row invoke t (after_alter row.client now says x t) answer.AlterEventConditionMonitoring (alter_turns row.client now says x t) (items y)
      (alter_why t row invoke client by now x None both.0)
      (alter_effect t row invoke client by now says x facts at truth)
      (is ∙ ap (those answer.AlterEventConditionMonitoring) (alter_turned t row invoke client by now says x told turns both.1 all)) k
  alteration_clients (Err memory) says x told turns both all is = tt

  pub trigger_clients : (result : Result X Memory) (x : TriggerEvent) (turns shown : List Turned)
      → (trigger_cause client x.name t.conditions ≡ None) × (trigger_told client now x.name t.conditions ≡ Some turns) → shown ≡ turns
      → IfOk result (λ y. items y ≡ those answer.TriggerEvent shown)
      → IfOk result (λ y. (facts : Facts) → facts.now ≡ now → (k : ℕ) → is_told (also_in (trigger x) facts row invoke t) k ≡ is_one_of (items y) k)
  trigger_clients (Ok y) x turns shown both same is = λ facts at k.
      clients_if_done (trigger x) facts row invoke t (after_trigger row.client now x.name t) answer.TriggerEvent (trigger_turns row.client now x.name t) (items y)
      (trigger_why t row invoke client by now x None both.0)
      (trigger_effect t row invoke client by now x facts at)
      (is ∙ ap (those answer.TriggerEvent) (same ∙ trigger_turned t row invoke client by now x turns both.1)) k
  trigger_clients (Err memory) x turns shown both same is = tt

-- as one of the requests, whatever the cell says

module _ {X : Type 0} (items : X → List ℕ) (t : EventTables) (row : ClientRow) (invoke : ℕ) (now : Moment) (says : Bool) (asked : EventRequest) where
  pub deletion_as : (result : Result X Memory) (names : Bor (List ObjectName)) → asked ≡ request.DeleteEventCondition names
      → IfOk result (λ x. (facts : Facts) → facts.now ≡ now → (k : ℕ) → is_told (also_in (delete_conditions names.now) facts row invoke t) k ≡ is_one_of (items x) k)
      → IfOk result (λ x. (facts : Facts) → facts.now ≡ now → facts.truth ≡ says → (k : ℕ) → is_told (also_in (request_in asked) facts row invoke t) k ≡ is_one_of (items x) k)
  deletion_as (Ok x) names is told = λ facts at truth k. ap (λ (q : EventRequest). is_told (also_in (request_in q) facts row invoke t) k) is ∙ told facts at k
  deletion_as (Err memory) names is told = tt

  pub trigger_as : (result : Result X Memory) (x : Bor TriggerEvent) → asked ≡ request.TriggerEvent x
      → IfOk result (λ y. (facts : Facts) → facts.now ≡ now → (k : ℕ) → is_told (also_in (trigger x.now) facts row invoke t) k ≡ is_one_of (items y) k)
      → IfOk result (λ y. (facts : Facts) → facts.now ≡ now → facts.truth ≡ says → (k : ℕ) → is_told (also_in (request_in asked) facts row invoke t) k ≡ is_one_of (items y) k)
  trigger_as (Ok y) x is told = λ facts at truth k. ap (λ (q : EventRequest). is_told (also_in (request_in q) facts row invoke t) k) is ∙ told facts at k
  trigger_as (Err memory) x is told = tt
