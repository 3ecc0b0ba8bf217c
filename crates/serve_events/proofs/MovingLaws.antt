-- Conditions are deleted, altered and triggered by a client: the transitions that a call tells, and what the request does.
use Rattle.std.proofs.Common.{◌≡◌, ◌∙◌, ap, ap₂, sym, refl, ℕ, Bool, List, [], Option, Some, subst}
use Rattle.std.specs.Prelude.{option_to_list, unwrap_or, Err}
use Rattle.mms_types.specs.Serves.{Serves}
use Rattle.mms_types.specs.declared.refuse.Refuse.{Refuse}
use Rattle.mms_types.specs.declared.refuse.Refuse.TheVariants as refuse
use Rattle.mms_types.specs.declared.condition.AlterEventConditionMonitoring.{AlterEventConditionMonitoring}
use Rattle.mms_types.specs.declared.condition.Turned.{Turned}
use Rattle.mms_types.specs.declared.moment.Moment.{Moment}
use Rattle.mms_types.specs.declared.condition.TriggerEvent.{TriggerEvent}
use Rattle.mms_types.specs.declared.object_name.ObjectName.{ObjectName}
use Rattle.mms_types.specs.declared.pdu.Answer.TheVariants as answer
use Rattle.mms_types.specs.declared.service_error.ServiceError.{ServiceError}
use Rattle.association.specs.Client.{ClientRow, Client as RoomyRow}
use Rattle.object_names.specs.Deletion.{missing}
use Rattle.event_cond.specs.Deletion.{deletions}
use Rattle.event_cond.specs.Services.{alter_cause, alter_told, trigger_cause, trigger_told}
use Rattle.cell_client.specs.Areas.{IsServedIn}
use Rattle.cell_client.specs.Effects.{felt, settled}
use Rattle.cell_client.specs.Facts.{Facts}
use Rattle.cell_client.specs.Requests.{refuses}
use Rattle.serve_events.specs.Events.{after_alter, after_delete, after_trigger, alter_condition, alter_turns, delete_conditions, delete_turns, trigger, trigger_turns, turned}
use Rattle.serve_events.specs.declared.tables.EventTables.{EventTables}
use Rattle.cell_client.proofs.ServedLaws.{refused}

-- a service is refused for its cause
pub error_said : {X : Type 0} (f : Refuse) (e : ServiceError) (why : Option ServiceError) (told : Option X) → f ≡ refuse.Service e → Serves (Err f) why told → why ≡ Some e
error_said f e why told is said = subst (λ (r : Refuse). Serves (Err r) why told) is said

module _ (t : EventTables) (row : ClientRow) (invoke client : ℕ) (by : client ≡ row.client) (now : Moment) where
  -- ---- a deletion

  pub delete_turned : (names : List ObjectName) (turns : List Turned) → turns ≡ deletions client now names t.conditions → turns ≡ delete_turns row.client now names t
  delete_turned names turns is = is ∙ ap (λ (n : ℕ). deletions n now names t.conditions) by

  pub delete_effect : (names : List ObjectName) (missed : ℕ) → missed ≡ missing client names t.conditions → (facts : Facts) → facts.now ≡ now
      → (delete_conditions names).effect facts t row invoke
      ≡ turned t (after_delete row.client now names t) (answer.DeleteEventCondition missed) (delete_turns row.client now names t)
  delete_effect names missed is facts at =
      ap (λ (m : Moment). turned t (after_delete row.client m names t) (answer.DeleteEventCondition (missing row.client names t.conditions)) (delete_turns row.client m names t)) at
      ∙ ap (λ (n : ℕ). turned t (after_delete row.client now names t) (answer.DeleteEventCondition n) (delete_turns row.client now names t))
      (sym (is ∙ ap (λ (n : ℕ). missing n names t.conditions) by))

  -- ---- an alteration

  pub alter_why : (x : AlterEventConditionMonitoring) (why : Option ServiceError) → alter_cause client x t.conditions ≡ why → alter_cause row.client x t.conditions ≡ why
  alter_why x why is = ap (λ (n : ℕ). alter_cause n x t.conditions) (sym by) ∙ is

  pub alter_turned : (says : Bool) (x : AlterEventConditionMonitoring) (told : Option Turned) (turns : List Turned) → Some (alter_told client now says x t.conditions) ≡ Some told
      → turns ≡ option_to_list told → turns ≡ alter_turns row.client now says x t
  alter_turned says x told turns is turned =
      let same : alter_told client now says x t.conditions ≡ told = cc is in
      turned ∙ ap (λ (o : Option Turned). option_to_list o) (sym same) ∙ ap (λ (n : ℕ). option_to_list (alter_told n now says x t.conditions)) by

  pub alter_effect : (says : Bool) (x : AlterEventConditionMonitoring) (facts : Facts) → facts.now ≡ now → facts.truth ≡ says
      → (alter_condition x).effect facts t row invoke
      ≡ turned t (after_alter row.client now says x t) answer.AlterEventConditionMonitoring (alter_turns row.client now says x t)
  alter_effect says x facts at truth =
      ap₂ (λ (m : Moment) (b : Bool). turned t (after_alter row.client m b x t) answer.AlterEventConditionMonitoring (alter_turns row.client m b x t)) at truth

  pub alter_refused : (x : AlterEventConditionMonitoring) (new : RoomyRow) (e : ServiceError) → alter_cause client x t.conditions ≡ Some e
      → new ≡ settled (felt (refuses invoke e) row) → (facts : Facts) → IsServedIn (alter_condition x) facts invoke row t t new
  alter_refused x new e why is facts = refused (alter_condition x) facts invoke row t t new e (alter_why x (Some e) why) refl is

  -- ---- a trigger

  pub trigger_why : (x : TriggerEvent) (why : Option ServiceError) → trigger_cause client x.name t.conditions ≡ why → trigger_cause row.client x.name t.conditions ≡ why
  trigger_why x why is = ap (λ (n : ℕ). trigger_cause n x.name t.conditions) (sym by) ∙ is

  pub trigger_turned : (x : TriggerEvent) (turns : List Turned) → trigger_told client now x.name t.conditions ≡ Some turns → turns ≡ trigger_turns row.client now x.name t
  trigger_turned x turns is =
      sym (ap (λ (n : ℕ). unwrap_or (trigger_told n now x.name t.conditions) []) (sym by) ∙ ap (λ (o : Option (List Turned)). unwrap_or o []) is)

  pub trigger_effect : (x : TriggerEvent) (facts : Facts) → facts.now ≡ now
      → (trigger x).effect facts t row invoke ≡ turned t (after_trigger row.client now x.name t) answer.TriggerEvent (trigger_turns row.client now x.name t)
  trigger_effect x facts at = ap (λ (m : Moment). turned t (after_trigger row.client m x.name t) answer.TriggerEvent (trigger_turns row.client m x.name t)) at

  pub trigger_refused : (x : TriggerEvent) (new : RoomyRow) (e : ServiceError) → trigger_cause client x.name t.conditions ≡ Some e
      → new ≡ settled (felt (refuses invoke e) row) → (facts : Facts) → IsServedIn (trigger x) facts invoke row t t new
  trigger_refused x new e why is facts = refused (trigger x) facts invoke row t t new e (trigger_why x (Some e) why) refl is
