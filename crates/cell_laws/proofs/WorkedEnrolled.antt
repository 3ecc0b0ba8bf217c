-- Worked examples of event conditions and enrollments, typed by hand from the definitions.
use Rattle.std.specs.Prelude.{◌≡◌, ◌<◌, ℕ, false, true, [], ◌∷◌, Some, None, is_some}
use Rattle.std.proofs.Common.{refl, arith}
use Rattle.std.proofs.lemmas.List.Elements.{All-from_recursion}
use Rattle.mms_types.specs.declared.key.Key.{Key}
use Rattle.mms_types.specs.declared.key.Scope.TheVariants as scope
use Rattle.mms_types.specs.declared.moment.Moment.{Moment}
use Rattle.association.specs.declared.negotiation.Association.{Association}
use Rattle.association.specs.declared.negotiation.Association.TheVariants.{Idle, Open}
use Rattle.association.specs.declared.negotiation.Negotiated.{Negotiated}
use Rattle.association.specs.Client.{new_row}
use Rattle.event_cond.specs.Conditions.{Rows, named}
use Rattle.event_cond.specs.declared.condition.Condition.{Condition}
use Rattle.event_cond.specs.declared.condition.ConditionClass.TheVariants.{Monitored, NetworkTriggered}
use Rattle.event_enrol.specs.declared.enrolment.Enrolment.{Enrolment}
use Rattle.parted_state.specs.Served.{row_at}
use Rattle.step_parts.specs.Partition.{cell, no_device}
use Rattle.step_parts.specs.State.{State}
use Rattle.cell_laws.specs.Enrolled.{AreToCome, HaveTheirClients, HaveTheirConditions}

-- the conditions C and D, and the enrollment E of client 1 on C
abbrev name_of : ℕ → Key
name_of letter = record { scope = scope.Vmd; item = letter ∷ [] }

abbrev triggered : Condition
triggered = record { priority = 64; severity = 64; class = NetworkTriggered; to_active = None; to_idle = None }

-- one that is evaluated next at that moment
abbrev watching : ℕ → Condition
watching next = record triggered {
  class = Monitored (record {
    cell = 3;
    interval = 100;
    defined = record { 0 = 900 };
    evaluation = Some (record { is_active = false; next = record { 0 = next } });
  });
}

abbrev on_it : Key × Enrolment
on_it = (name_of 69, record { client = 1; condition = name_of 67; transitions = record { octets = 0 ∷ [] }; rule = 0 })

-- the moment is 1,000
abbrev device : Association → Rows → State
device association conditions = record {
  now = 1000;
  variables = record { vars = record { cells = []; variables = [] }; lists = [] };
  domains = record { domains = []; uploads = record { rows = []; given = 0 } };
  programs = [];
  events = record { conditions = conditions; enrolments = on_it ∷ [] };
  journals = [];
  semaphores = [];
  clients = record (new_row 1 no_device) { association = association } ∷ [];
}

-- ---- its condition

there : HaveTheirConditions (device Idle ((name_of 68, triggered) ∷ (name_of 67, triggered) ∷ []))
there =
    All-from_recursion (λ (row : Key × Enrolment). is_some (named row.1.condition ((name_of 68, triggered) ∷ (name_of 67, triggered) ∷ [])) ≡ true) (on_it ∷ []) (refl, tt)

gone : HaveTheirConditions (device Idle ((name_of 68, triggered) ∷ [])) → ⊥
gone have = cc (have 0 on_it (omega arith))

-- ---- its client

open_one : (values : Negotiated) → HaveTheirClients (device (Open values) [])
open_one values =
    All-from_recursion (λ (row : Key × Enrolment). (found : Negotiated) × ((row_at cell row.1.client (device (Open values) []).clients).association ≡ Open found)) (on_it ∷ [])
    ((values, refl), tt)

closed : HaveTheirClients (device Idle []) → ⊥
closed have = let one = have 0 on_it (omega arith) in cc one.1

-- ---- what is evaluated next

ahead : AreToCome (device Idle ((name_of 68, triggered) ∷ (name_of 67, watching 1001) ∷ []))
ahead = All-from_recursion (λ (e : Moment × Key). 1000 < e.0.0) ((record { 0 = 1001 }, name_of 67) ∷ []) (omega arith, tt)

missed : AreToCome (device Idle ((name_of 68, triggered) ∷ (name_of 67, watching 1000) ∷ [])) → ⊥
missed have = let late = have 0 (record { 0 = 0 }, name_of 67) (omega arith) in omega (arith, late)
