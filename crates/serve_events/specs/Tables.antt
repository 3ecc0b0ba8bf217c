-- Event conditions, and the enrollments on them (ISO 9506-1, event management).
use Rattle.std.specs.Prelude.{◌≡◌, ℕ, Bool, true, [], is_some}
use Rattle.std.specs.List.{list_all}
use Rattle.mms_types.specs.declared.key.Key.{Key}
use Rattle.event_cond.specs.Conditions.{Rows as Conditions, named}
use Rattle.event_cond.specs.Deletion as condition
use Rattle.event_enrol.specs.Enrolments as enrolment
use Rattle.event_enrol.specs.declared.enrolment.Enrolment.{Enrolment}
use Rattle.serve_events.specs.declared.tables.EventTables.{EventTables}

-- there is no condition and no enrollment
abbrev pub no_events : EventTables
no_events = record { conditions = []; enrolments = [] }

-- a client that is lost takes its enrollments with it, whatever their names, and then the conditions and the enrollments of its association
abbrev pub lost : ℕ → EventTables → EventTables
lost client t = record { conditions = condition.without_client client t.conditions; enrolments = enrolment.without_client client t.enrolments }

-- ---- the condition of each enrollment is there

abbrev pub is_placed : Conditions → Key × Enrolment → Bool
is_placed conditions row = is_some (named row.1.condition conditions)

abbrev pub ArePlaced : EventTables → Type 0
ArePlaced t = list_all (is_placed t.conditions) t.enrolments ≡ true
