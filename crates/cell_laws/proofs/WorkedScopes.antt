-- Worked examples of domains as scopes of names, typed by hand from the definitions.
use Rattle.std.specs.Prelude.{ℕ, true, false, List, [], ◌∷◌, Option, Some, None}
use Rattle.std.proofs.Common.{refl, arith}
use Rattle.mms_types.specs.declared.key.Key.{Key}
use Rattle.mms_types.specs.declared.key.Scope.{Scope}
use Rattle.mms_types.specs.declared.key.Scope.TheVariants as scope
use Rattle.domain_load.specs.Domains.{Rows, without}
use Rattle.domain_load.specs.declared.domain.Domain.{Domain}
use Rattle.event_cond.specs.declared.condition.Condition.{Condition}
use Rattle.event_cond.specs.declared.condition.ConditionClass.TheVariants.{NetworkTriggered}
use Rattle.event_enrol.specs.declared.enrolment.Enrolment.{Enrolment}
use Rattle.mms_time.specs.Services.{new_semaphore}
use Rattle.mms_time.specs.declared.row.SemaphoreRow.{SemaphoreRow}
use Rattle.serve_events.specs.Tables.{no_events}
use Rattle.step_parts.specs.State.{State}
use Rattle.mms_journal.specs.Services.{created}
use Rattle.cell_laws.specs.Scopes.{AreScopesLive, HaveLiveScopes, IsScopeLive}
use Rattle.cell_laws.proofs.EachName.{each_all}
use Rattle.cell_laws.proofs.ScopesKept.{HasLive}

-- D1 is READY, client 7 loads D2, an invocation has D3, and there is no D4
abbrev d : ℕ → List ℕ
d number = 68 ∷ number ∷ []

abbrev made : Option ℕ → List (List ℕ) → Domain
made loader invocations = record { capabilities = []; sharable = true; loader = loader; segments = []; invocations = invocations }

abbrev there : Rows
there = (d 49, made None []) ∷ (d 50, made (Some 7) []) ∷ (d 51, made None ((80 ∷ []) ∷ [])) ∷ []

-- ---- a scope

ready : IsScopeLive there (scope.Domain (d 49))
ready = refl

in_use : IsScopeLive there (scope.Domain (d 51))
in_use = refl

loading : IsScopeLive there (scope.Domain (d 50)) → ⊥
loading is = cc is

missing : IsScopeLive there (scope.Domain (d 52)) → ⊥
missing is = cc is

of_the_device : IsScopeLive [] scope.Vmd
of_the_device = tt

of_a_client : IsScopeLive [] (scope.Association 7)
of_a_client = tt

-- ---- names

abbrev name_of : Scope → Key
name_of s = record { scope = s; item = 77 ∷ [] }

abbrev semaphore : Scope → Key × SemaphoreRow
semaphore s = (name_of s, record { configured = false; semaphore = new_semaphore 1 })

two_live : AreScopesLive there (name_of (scope.Domain (d 49)) ∷ name_of scope.Vmd ∷ [])
two_live = each_all (HasLive there) (semaphore (scope.Domain (d 49)) ∷ semaphore scope.Vmd ∷ []) (refl, (tt, tt))

one_loading : AreScopesLive there (name_of (scope.Domain (d 49)) ∷ name_of (scope.Domain (d 50)) ∷ []) → ⊥
one_loading are = loading (are 1 (name_of scope.Vmd) (omega arith))

-- ---- a device: a variable, a list and a semaphore of D1, of D3 and of that scope

abbrev device : Rows → Scope → State
device domains s = record {
  now = 0;
  variables = record {
    vars = record { cells = []; variables = (name_of (scope.Domain (d 49)), record { cell = 1; configured = false }) ∷ [] };
    lists = (name_of (scope.Domain (d 51)), record { variables = [] }) ∷ [];
  };
  domains = record { domains = domains; uploads = record { rows = []; given = 0 } };
  programs = [];
  events = no_events;
  journals = [];
  semaphores = semaphore s ∷ [];
  clients = [];
}

-- none of them is of a domain that is LOADING
all_live : HaveLiveScopes (device there (scope.Association 7))
all_live = record {
  variables = each_all (HasLive there) (device there (scope.Association 7)).variables.vars.variables (refl, tt);
  lists = each_all (HasLive there) (device there (scope.Association 7)).variables.lists (refl, tt);
  conditions = each_all (HasLive there) (device there (scope.Association 7)).events.conditions tt;
  enrolments = each_all (HasLive there) (device there (scope.Association 7)).events.enrolments tt;
  journals = each_all (HasLive there) (device there (scope.Association 7)).journals tt;
  semaphores = each_all (HasLive there) (device there (scope.Association 7)).semaphores (tt, tt);
}

semaphore_loading : HaveLiveScopes (device there (scope.Domain (d 50))) → ⊥
semaphore_loading have = loading (have.semaphores 0 (name_of scope.Vmd) (omega arith))

-- neither is an event condition, nor an enrollment on one of the device
abbrev condition : Condition
condition = record { priority = 64; severity = 64; class = NetworkTriggered; to_active = None; to_idle = None }

abbrev enrolment : Enrolment
enrolment = record { client = 7; condition = name_of scope.Vmd; transitions = record { octets = 0 ∷ [] }; rule = 0 }

condition_loading : HaveLiveScopes (record (device there scope.Vmd) { events = record { conditions = (name_of (scope.Domain (d 50)), condition) ∷ []; enrolments = [] } }) → ⊥
condition_loading have = loading (have.conditions 0 (name_of scope.Vmd) (omega arith))

enrolment_missing : HaveLiveScopes (record (device there scope.Vmd) { events = record { conditions = (name_of scope.Vmd, condition) ∷ []; enrolments = (name_of (scope.Domain (d 52)), enrolment) ∷ [] } }) → ⊥
enrolment_missing have = missing (have.enrolments 0 (name_of scope.Vmd) (omega arith))

-- nor a journal
journal_loading : HaveLiveScopes (record (device there scope.Vmd) { journals = (name_of (scope.Domain (d 50)), created) ∷ [] }) → ⊥
journal_loading have = loading (have.journals 0 (name_of scope.Vmd) (omega arith))

-- and none is left behind by a domain that is deleted
variable_left : HaveLiveScopes (device (without (d 49) there) scope.Vmd) → ⊥
variable_left have = cc (have.variables 0 (name_of scope.Vmd) (omega arith))

list_left : HaveLiveScopes (device (without (d 51) there) scope.Vmd) → ⊥
list_left have = cc (have.lists 0 (name_of scope.Vmd) (omega arith))
