-- Which enrollments go, by their names, their clients and their conditions.
use Rattle.std.specs.Prelude.{◌≡◌, ℕ, ◌==◌, Bool, not, ◌&&◌, ◌||◌, filter}
use Rattle.mms_types.specs.declared.key.Key.{Key}
use Rattle.mms_types.specs.declared.key.Scope.TheVariants.{Association}
use Rattle.mms_types.specs.Order.{key_eq, scope_eq}
use Rattle.object_names.specs.Borrowed.{key_meant}
use Rattle.object_names.specs.Selected.{is_among}
use Rattle.event_enrol.specs.Groups.{Groups, group_of}
use Rattle.event_enrol.specs.declared.enrolment.Enrolment.{Enrolment}
use Rattle.event_enrol.specs.declared.going.Going.{Going}
use Rattle.event_enrol.specs.declared.going.Going.TheVariants as going
use Rattle.event_enrol.specs.declared.group.Member.{Member}

-- that of this name, which this client defined on this condition, goes
abbrev pub goes : Going → Key → ℕ → Key → Bool
goes (going.Names names) key client condition = is_among names.keys key
goes (going.Own own name) key client condition = client == own && key_eq (key_meant name) condition
goes (going.Client lost) key client condition = client == lost || scope_eq key.scope (Association lost)
goes (going.On deleted) key client condition = key_eq deleted.now condition

abbrev pub stays : Going → Key × Enrolment → Bool
stays by row = not (goes by row.0 row.1.client row.1.condition)

abbrev pub member_stays : Going → Key → Member → Bool
member_stays by condition m = not (goes by m.enrolment m.client condition)

-- of each group those are left that stay
abbrev pub AreLeft : Going → Groups → Groups → Type 0
AreLeft by old new = (condition : Key) → group_of condition new ≡ filter (member_stays by condition) (group_of condition old)
