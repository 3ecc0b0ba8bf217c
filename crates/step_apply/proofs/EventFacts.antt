-- What other tables tell requests for event conditions and event enrollments, as code finds it.
use Rattle.std.specs.Prelude.{◌≡◌, ℕ, ◌||◌, Bool, true, false, if◌then◌else◌, refl}
use Rattle.std.specs.Option.{option_map_or}
use Rattle.mms_types.specs.declared.area.EventRequest.{EventRequest}
use Rattle.mms_types.specs.declared.area.EventRequest.TheVariants as event
use Rattle.mms_types.specs.declared.object_name.ObjectName.{ObjectName}
use Rattle.mms_types.specs.declared.object_name.ObjectName.TheVariants as name
use Rattle.association.specs.Client.{ClientRow}
use Rattle.cell_client.specs.Areas.{domain_in, is_of_domain}
use Rattle.serve_domains.specs.Tables.{DomainTables}
use Rattle.serve_events.specs.Events.{are_of_domain, is_in_domain, names_domain, request_in, variable_of}
use Rattle.serve_events.specs.Turns.{domain_asked, variable_asked}
use Rattle.cell_services.specs.Facts.{cell_of, is_domain_live}
use Rattle.cell_services.specs.Requests.{told_in}
use Rattle.cell_services.specs.Tables.{Tables, own_events}

-- ---- whether the domain is live that has to be

none_live : (b : Bool) → (if b then false else false) ≡ false
none_live true = refl
none_live false = refl

named_live : (n : ObjectName) (b : Bool) (d : DomainTables) → (if is_of_domain n || b then is_domain_live (domain_in n) d else false) ≡ is_domain_live (domain_in n) d
named_live (name.Domain domain item) b d = refl
named_live (name.Vmd item) b d = none_live b
named_live (name.Association item) b d = none_live b

pub live_told : (x : EventRequest) (t : Tables) (row : ClientRow) → (told_in own_events t row (request_in x)).live ≡ is_domain_live (domain_asked x) t.domains
live_told (event.DefineEventCondition x) t row = named_live x.now.name (option_map_or is_in_domain (variable_of x.now.monitored) false) t.domains
live_told (event.DeleteEventCondition names) t row = none_live (are_of_domain names.now)
live_told (event.ReportEventConditionStatus name) t row = none_live (is_of_domain name.now)
live_told (event.AlterEventConditionMonitoring x) t row = none_live (is_of_domain x.now.name)
live_told (event.TriggerEvent x) t row = none_live (is_of_domain x.now.name)
live_told (event.DefineEventEnrollment x) t row = named_live x.now.name (is_of_domain x.now.condition) t.domains
live_told (event.DeleteEventEnrollment x) t row = none_live (names_domain x.now)

-- what becomes of the cell that is to be watched
pub cell_told : (x : EventRequest) (t : Tables) (row : ClientRow) (client : ℕ)
    → (told_in own_events t row (request_in x)).cell client ≡ cell_of (variable_asked x) t.variables.vars client
cell_told (event.DefineEventCondition x) t row client = refl
cell_told (event.DeleteEventCondition names) t row client = refl
cell_told (event.ReportEventConditionStatus name) t row client = refl
cell_told (event.AlterEventConditionMonitoring x) t row client = refl
cell_told (event.TriggerEvent x) t row client = refl
cell_told (event.DefineEventEnrollment x) t row client = refl
cell_told (event.DeleteEventEnrollment x) t row client = refl
