-- Each service asks all that it uses, and is told it as the tables have it.
use Rattle.std.proofs.Common.{◌≡◌, ℕ, Bool, true, false, List, Option, None, Some, if◌then◌else◌, refl, ap}
use Rattle.std.specs.Prelude.{◌||◌, is_some}
use Rattle.std.specs.List.{list_any}
use Rattle.std.specs.Option.{option_map_or}
use Rattle.mms_types.specs.declared.name_list.ObjectScope.{ObjectScope}
use Rattle.mms_types.specs.declared.name_list.ObjectScope.TheVariants as listed
use Rattle.mms_types.specs.declared.object_name.ObjectName.{ObjectName}
use Rattle.mms_types.specs.declared.object_name.ObjectName.TheVariants as name
use Rattle.mms_types.specs.declared.pdu.Request.{Request}
use Rattle.mms_types.specs.declared.pdu.Request.TheVariants as request
use Rattle.association.specs.Client.{ClientRow}
use Rattle.variable_services.specs.Services as variable
use Rattle.mms_time.specs.Services as semaphore
use Rattle.mms_journal.specs.Services as journal
use Rattle.event_cond.specs.Services as cond
use Rattle.event_enrol.specs.Enrolments as enrol
use Rattle.cell_client.specs.Areas.{domain_in, is_of_domain}
use Rattle.cell_client.specs.Association.{Came}
use Rattle.serve_variables.specs.Variables.{deletes_domain, lists_domain, specifies_domain}
use Rattle.serve_events.specs.Events.{is_in_domain, is_there, variable_of}
use Rattle.serve_domains.specs.Tables.{DomainTables}
use Rattle.cell_services.specs.Device as device
use Rattle.cell_services.specs.Facts.{Facts, cell_of, is_domain_live}
use Rattle.cell_services.specs.Services.{area_of, cause_of, effect_of, reply_in}
use Rattle.cell_services.specs.Tables.{Tables}
use Rattle.cell_laws.specs.Asking.{cause_beside, effect_beside}

-- ---- a domain has to be live alone where its name is written

live_told : (of_domain : Bool) (domain : Option (List ℕ)) (rows : DomainTables) → (is_some domain ≡ true → of_domain ≡ true)
    → is_domain_live domain rows ≡ (if of_domain then is_domain_live domain rows else false)
live_told true domain rows written = refl
live_told false None rows written = refl
live_told false (Some domain) rows written = cc (written refl)

in_name : (x : ObjectName) → is_some (domain_in x) ≡ true → is_of_domain x ≡ true
in_name (name.Domain domain item) h = refl
in_name (name.Vmd item) h = cc
in_name (name.Association item) h = cc

or_more : (a b : Bool) → a ≡ true → (a || b) ≡ true
or_more true b h = refl
or_more false b h = cc

in_scope : (x : ObjectScope) → is_some (device.domain_of x) ≡ true → device.is_domain x ≡ true
in_scope (listed.Domain domain) h = refl
in_scope listed.Vmd h = cc
in_scope listed.Association h = cc

module _ (t : Tables) (row : ClientRow) (facts : Facts) where
  cause_same : (asked : Request) → cause_beside facts t row (area_of asked) ≡ cause_of t row (area_of asked)
  cause_same (request.GetNameList x) =
      ap (λ (live : Bool). device.scope_cause live x.scope) (live_told (device.is_domain x.scope) (device.domain_of x.scope) t.domains (in_scope x.scope))
  cause_same (request.DefineNamedVariable x) =
      ap (λ (live : Bool). variable.define_cause live row.client x t.variables) (live_told (is_of_domain x.name) (domain_in x.name) t.domains (in_name x.name))
  cause_same (request.DeleteVariableAccess x) =
      ap (λ (live : Bool). variable.delete_cause live x) (live_told (deletes_domain x) x.domain t.domains (or_more (is_some x.domain) (lists_domain x.names)))
  cause_same (request.DefineNamedVariableList x) =
      ap (λ (live : Bool). variable.define_list_cause live row.client x t.variables)
      (live_told (is_of_domain x.name || list_any specifies_domain x.variables) (domain_in x.name) t.domains (λ h. or_more (is_of_domain x.name) (list_any specifies_domain x.variables) (in_name x.name h)))
  cause_same (request.DeleteNamedVariableList x) =
      ap (λ (live : Bool). variable.delete_cause live x) (live_told (deletes_domain x) x.domain t.domains (or_more (is_some x.domain) (lists_domain x.names)))
  cause_same (request.DefineSemaphore x) =
      ap (λ (live : Bool). semaphore.define_cause live row.client x t.semaphores) (live_told (is_of_domain x.name) (domain_in x.name) t.domains (in_name x.name))
  cause_same (request.CreateJournal x) =
      ap (λ (live : Bool). journal.create_cause live row.client x t.journals) (live_told (is_of_domain x) (domain_in x) t.domains (in_name x))
  cause_same (request.DefineEventCondition x) =
      ap (λ (live : Bool). cond.define_cause live row.client x (cell_of (variable_of x.monitored) t.variables.vars row.client) t.events.conditions)
      (live_told (is_of_domain x.name || option_map_or is_in_domain (variable_of x.monitored) false) (domain_in x.name) t.domains
      (λ h. or_more (is_of_domain x.name) (option_map_or is_in_domain (variable_of x.monitored) false) (in_name x.name h)))
  cause_same (request.DefineEventEnrollment x) =
      ap (λ (live : Bool). enrol.define_cause live (is_there row.client t.events.conditions x.condition) row.client x t.events.enrolments)
      (live_told (is_of_domain x.name || is_of_domain x.condition) (domain_in x.name) t.domains (λ h. or_more (is_of_domain x.name) (is_of_domain x.condition) (in_name x.name h)))
  cause_same asked = refl

  effect_same : (invoke : ℕ) (asked : Request) → effect_beside facts t row invoke (area_of asked) ≡ effect_of t row invoke (area_of asked)
  effect_same invoke (request.Status x) = refl
  effect_same invoke asked = refl

pub all_causes : (t : Tables) (row : ClientRow) (asked : Request) (facts : Facts) → cause_beside facts t row (area_of asked) ≡ cause_of t row (area_of asked)
all_causes t row asked facts = cause_same t row facts asked

pub all_effects : (t : Tables) (row : ClientRow) (invoke : ℕ) (asked : Request) (facts : Facts) → effect_beside facts t row invoke (area_of asked) ≡ effect_of t row invoke (area_of asked)
all_effects t row invoke asked facts = effect_same t row facts invoke asked

pub reply_causes : (t : Tables) (row : ClientRow) (number : ℕ) (came : Came) (facts : Facts) → cause_beside facts t row (reply_in number came) ≡ cause_of t row (reply_in number came)
reply_causes t row number came facts = refl

pub reply_effects : (t : Tables) (row : ClientRow) (number : ℕ) (came : Came) (facts : Facts) → effect_beside facts t row number (reply_in number came) ≡ effect_of t row number (reply_in number came)
reply_effects t row number came facts = refl
