-- A condition is defined, told of, and an enrollment is defined; some are deleted.
use Rattle.std.proofs.Common.{◌≡◌, ◌∙◌, ap, ap₂, sym, refl, ℕ, Bool, Option, None, Some, [], true, false, if◌then◌else◌}
use Rattle.std.specs.Prelude.{Result, Ok, Err, OnOk}
use Rattle.std.specs.Option.{option_map, option_map_or}
use Rattle.mms_types.specs.declared.condition.CellFact.{CellFact}
use Rattle.mms_types.specs.declared.condition.DefineEventCondition.{DefineEventCondition}
use Rattle.mms_types.specs.declared.condition.DefineEventEnrollment.{DefineEventEnrollment}
use Rattle.mms_types.specs.declared.condition.DeleteEventEnrollment.{DeleteEventEnrollment}
use Rattle.mms_types.specs.declared.memory.Memory.{Memory}
use Rattle.mms_types.specs.declared.moment.Moment.{Moment}
use Rattle.mms_types.specs.Order.{key_of}
use Rattle.mms_types.specs.Serves.{Serves}
use Rattle.mms_types.specs.declared.object_name.ObjectName.{ObjectName}
use Rattle.mms_types.specs.declared.pdu.Answer.{Answer}
use Rattle.mms_types.specs.declared.pdu.Answer.TheVariants as answer
use Rattle.mms_types.specs.declared.refuse.Refuse.{Refuse}
use Rattle.mms_types.specs.declared.service_error.ServiceError.{ServiceError}
use Rattle.association.specs.Client.{ClientRow, Client as RoomyRow}
use Rattle.event_cond.specs.Services as services
use Rattle.event_enrol.specs.Enrolments as enrol
use Rattle.cell_client.specs.Areas.{IsServedIn, OutcomeIn}
use Rattle.cell_client.specs.Effects.{felt, felt_all, settled}
use Rattle.cell_client.specs.Facts.{Facts}
use Rattle.cell_client.specs.Requests.{fits, is_done, refuses, request_told, size_of}
use Rattle.serve_events.specs.Events.{condition_named, define_condition, define_enrolment, delete_enrolments, is_there, report_status}
use Rattle.serve_events.specs.declared.tables.EventTables.{EventTables}
use Rattle.cell_client.proofs.ServedLaws.{became, refused}

module _ (row : ClientRow) (invoke client : ℕ) (by : client ≡ row.client) (t : EventTables) (new : RoomyRow) where
  -- ---- a condition

  cell_same : (x : DefineEventCondition) (facts : Facts) (live : Bool) (cell : CellFact) → facts.live ≡ live → facts.cell row.client ≡ cell
      → services.define_cause facts.live row.client x (facts.cell row.client) t.conditions ≡ services.define_cause live client x cell t.conditions
  cell_same x facts live cell l c =
      ap₂ (λ (b : Bool) (f : CellFact). services.define_cause b row.client x f t.conditions) l c ∙ ap (λ (n : ℕ). services.define_cause live n x cell t.conditions) (sym by)

  pub condition_refused : (result : Result (Unit {0}) Memory) (now : Moment) (live : Bool) (cell : CellFact) (x : DefineEventCondition) (e : ServiceError)
      → Some e ≡ services.define_cause live client x cell t.conditions
      → OnOk result (new ≡ settled (felt (refuses invoke e) row))
      → OnOk result ((facts : Facts) → facts.now ≡ now → facts.live ≡ live → facts.cell row.client ≡ cell → IsServedIn (define_condition x) facts invoke row t t new)
  condition_refused (Ok done) now live cell x e why is =
      λ facts at l c. refused (define_condition x) facts invoke row t t new e (cell_same x facts live cell l c ∙ sym why) refl is
  condition_refused (Err memory) now live cell x e why is = tt

  pub condition_served : (result : Result (Unit {0}) Memory) (become : EventTables) (now : Moment) (live : Bool) (cell : CellFact) (x : DefineEventCondition)
      → None ≡ services.define_cause live client x cell t.conditions
      → OnOk result (become ≡ (if fits (size_of row.association) invoke (Some answer.DefineEventCondition)
      then record t { conditions = services.after_define row.client now x cell t.conditions } else t))
      → OnOk result (new ≡ settled (felt_all (request_told (size_of row.association) invoke None (Some answer.DefineEventCondition)) row))
      → OnOk result ((facts : Facts) → facts.now ≡ now → facts.live ≡ live → facts.cell row.client ≡ cell → IsServedIn (define_condition x) facts invoke row t become new)
  condition_served (Ok done) become now live cell x why table is =
      λ facts at l c. became (define_condition x) facts invoke row t become new None (record t { conditions = services.after_define row.client now x cell t.conditions })
      (Some answer.DefineEventCondition) (cell_same x facts live cell l c ∙ sym why)
      (ap₂ (λ (m : Moment) (f : CellFact). record { tables = record t { conditions = services.after_define row.client m x f t.conditions }; answer = Some answer.DefineEventCondition; also = [] }) at c)
      table is
  condition_served (Err memory) become now live cell x why table is = tt

  -- ---- what one is

  abbrev status_answer : ObjectName → ℕ → Option Answer
  status_answer name n = option_map answer.ReportEventConditionStatus (services.status n name (enrol.number_on (key_of n name) t.enrolments) t.conditions)

  abbrev status_outcome : ObjectName → ℕ → OutcomeIn EventTables
  status_outcome name n = record { tables = t; answer = status_answer name n; also = [] }

  stays : (b : Bool) → t ≡ (if b then t else t)
  stays true = refl
  stays false = refl

  pub status_told : (said : Result Answer Refuse) (name : ObjectName) → Serves said (services.status_cause client name t.conditions) (status_answer name client)
      → ((why : Option ServiceError) (told : Option Answer) → Serves said why told → new ≡ settled (felt_all (request_told (size_of row.association) invoke why told) row))
      → (facts : Facts) → IsServedIn (report_status name) facts invoke row t t new
  status_told said name serves told facts =
      became (report_status name) facts invoke row t t new (services.status_cause client name t.conditions) t (status_answer name client)
      (ap (λ (n : ℕ). services.status_cause n name t.conditions) (sym by)) (ap (status_outcome name) (sym by))
      (stays (is_done (size_of row.association) invoke (services.status_cause client name t.conditions) (status_answer name client)))
      (told (services.status_cause client name t.conditions) (status_answer name client) serves)

  -- ---- an enrollment

  there_same : (x : DefineEventEnrollment) (facts : Facts) (live there : Bool) → there ≡ is_there client t.conditions x.condition → facts.live ≡ live
      → enrol.define_cause facts.live (is_there row.client t.conditions x.condition) row.client x t.enrolments ≡ enrol.define_cause live there client x t.enrolments
  there_same x facts live there is l =
      ap (λ (b : Bool). enrol.define_cause b (is_there row.client t.conditions x.condition) row.client x t.enrolments) l
      ∙ ap (λ (n : ℕ). enrol.define_cause live (is_there n t.conditions x.condition) n x t.enrolments) (sym by)
      ∙ ap (λ (b : Bool). enrol.define_cause live b client x t.enrolments) (sym is)

  pub enrolment_refused : (result : Result (Unit {0}) Memory) (live there : Bool) (x : DefineEventEnrollment) (e : ServiceError) → there ≡ is_there client t.conditions x.condition
      → Some e ≡ enrol.define_cause live there client x t.enrolments → OnOk result (new ≡ settled (felt (refuses invoke e) row))
      → OnOk result ((facts : Facts) → facts.live ≡ live → IsServedIn (define_enrolment x) facts invoke row t t new)
  enrolment_refused (Ok done) live there x e found why is =
      λ facts l. refused (define_enrolment x) facts invoke row t t new e (there_same x facts live there found l ∙ sym why) refl is
  enrolment_refused (Err memory) live there x e found why is = tt

  pub enrolment_served : (result : Result (Unit {0}) Memory) (become : EventTables) (live there : Bool) (x : DefineEventEnrollment) → there ≡ is_there client t.conditions x.condition
      → None ≡ enrol.define_cause live there client x t.enrolments
      → OnOk result (become ≡ (if fits (size_of row.association) invoke (Some answer.DefineEventEnrollment)
      then record t { enrolments = enrol.defined row.client x t.enrolments } else t))
      → OnOk result (new ≡ settled (felt_all (request_told (size_of row.association) invoke None (Some answer.DefineEventEnrollment)) row))
      → OnOk result ((facts : Facts) → facts.live ≡ live → IsServedIn (define_enrolment x) facts invoke row t become new)
  enrolment_served (Ok done) become live there x found why table is =
      λ facts l. became (define_enrolment x) facts invoke row t become new None (record t { enrolments = enrol.defined row.client x t.enrolments })
      (Some answer.DefineEventEnrollment) (there_same x facts live there found l ∙ sym why) refl table is
  enrolment_served (Err memory) become live there x found why table is = tt

  -- ---- enrollments are deleted

  gone_same : (x : DeleteEventEnrollment) (there : Bool) → there ≡ option_map_or (is_there client t.conditions) (condition_named x) false
      → enrol.delete_cause (option_map_or (is_there row.client t.conditions) (condition_named x) false) x ≡ enrol.delete_cause there x
  gone_same x there is =
      ap (λ (n : ℕ). enrol.delete_cause (option_map_or (is_there n t.conditions) (condition_named x) false) x) (sym by) ∙ ap (λ (b : Bool). enrol.delete_cause b x) (sym is)

  pub gone_refused : (result : Result (Unit {0}) Memory) (x : DeleteEventEnrollment) (there : Bool) (e : ServiceError)
      → there ≡ option_map_or (is_there client t.conditions) (condition_named x) false → Some e ≡ enrol.delete_cause there x
      → OnOk result (new ≡ settled (felt (refuses invoke e) row))
      → OnOk result ((facts : Facts) → IsServedIn (delete_enrolments x) facts invoke row t t new)
  gone_refused (Ok done) x there e found why is = λ facts. refused (delete_enrolments x) facts invoke row t t new e (gone_same x there found ∙ sym why) refl is
  gone_refused (Err memory) x there e found why is = tt

  pub gone_served : (result : Result (Unit {0}) Memory) (become : EventTables) (x : DeleteEventEnrollment) (there : Bool)
      → there ≡ option_map_or (is_there client t.conditions) (condition_named x) false → None ≡ enrol.delete_cause there x
      → OnOk result (become ≡ (if fits (size_of row.association) invoke (Some (answer.DeleteEventEnrollment (enrol.undeleted row.client x t.enrolments)))
      then record t { enrolments = enrol.after_delete row.client x t.enrolments } else t))
      → OnOk result (new ≡ settled (felt_all
      (request_told (size_of row.association) invoke None (Some (answer.DeleteEventEnrollment (enrol.undeleted row.client x t.enrolments)))) row))
      → OnOk result ((facts : Facts) → IsServedIn (delete_enrolments x) facts invoke row t become new)
  gone_served (Ok done) become x there found why table is =
      λ facts. became (delete_enrolments x) facts invoke row t become new None (record t { enrolments = enrol.after_delete row.client x t.enrolments })
      (Some (answer.DeleteEventEnrollment (enrol.undeleted row.client x t.enrolments))) (gone_same x there found ∙ sym why) refl table is
  gone_served (Err memory) become x there found why table is = tt
