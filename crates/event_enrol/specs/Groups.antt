-- The index of the enrollments: for each condition those on it, in the order in which they were defined, with what a notice needs of each.
use Rattle.std.specs.Prelude.{◌≡◌, Bool, List, [], ◌∷◌, ◌++◌, filter, map}
use Rattle.std.specs.Map.{lookup, set_value}
use Rattle.std.specs.Option.{option_map_or, unwrap_or}
use Rattle.mms_types.specs.declared.condition.Notice.{Notice}
use Rattle.mms_types.specs.declared.condition.Turned.{Turned}
use Rattle.mms_types.specs.declared.key.Key.{Key}
use Rattle.mms_types.specs.Order.{key_eq}
use Rattle.event_enrol.specs.Enrolments.{Rows, has_bit, is_on, name_of}
use Rattle.event_enrol.specs.declared.enrolment.Enrolment.{Enrolment}
use Rattle.event_enrol.specs.declared.group.Member.{Member}

-- what is kept of an enrollment beside the others on its condition
abbrev pub member : Key × Enrolment → Member
member row = record { enrolment = row.0; client = row.1.client; transitions = row.1.transitions }

abbrev pub Groups : Type 0
Groups = List (Key × List Member)

-- those on a condition, where there are any
abbrev pub group_of : Key → Groups → List Member
group_of condition groups = unwrap_or (lookup (key_eq condition) groups) []

-- each condition has its own
abbrev pub IsIndexOf : Rows → Groups → Type 0
IsIndexOf rows groups = (condition : Key) → group_of condition groups ≡ map member (filter (is_on condition) rows)

-- one more on a condition: it is the last of its group
abbrev pub joined : Key → Member → Groups → Groups
joined condition m groups = option_map_or (λ ms. set_value (key_eq condition) groups (ms ++ m ∷ [])) (lookup (key_eq condition) groups) (groups ++ (condition, m ∷ []) ∷ [])

-- the member is told of the transition of its condition
abbrev pub is_member_told : Turned → Member → Bool
is_member_told turned m = has_bit turned.transition m.transitions

abbrev pub member_notice : Turned → Member → Notice
member_notice turned m = record { client = m.client; enrolment = name_of m.enrolment; condition = name_of turned.condition }
