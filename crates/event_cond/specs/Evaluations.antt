-- The evaluations of event conditions that are to come, and the next of all (this profile's order: by moment, and then by name).
use Rattle.std.specs.Prelude.{Bool, List, filter_map, fold, Option, None, Some, option_and_then, if◌then◌else◌}
use Rattle.std.proofs.Common.{Bor}
use Rattle.std.specs.Option.{option_map}
use Rattle.std.specs.declared.cmp.Ordering.{Ordering}
use Rattle.std.specs.Ordering.{is_lt, nat_cmp, ordering_then}
use Rattle.mms_types.specs.Order.{key_order}
use Rattle.mms_types.specs.declared.key.Key.{Key}
use Rattle.mms_types.specs.declared.moment.Moment.{Moment}
use Rattle.event_cond.specs.Conditions.{Rows, named}
use Rattle.event_cond.specs.declared.condition.Condition.{Condition}
use Rattle.event_cond.specs.declared.condition.ConditionClass.{ConditionClass}
use Rattle.event_cond.specs.declared.condition.ConditionClass.TheVariants.{NetworkTriggered, Monitored}

-- when a condition is evaluated next: never where it is network-triggered or disabled
abbrev pub next_of_class : ConditionClass → Option Moment
next_of_class NetworkTriggered = None
next_of_class (Monitored w) = option_map (λ e. e.next) w.evaluation

abbrev pub next_of : Condition → Option Moment
next_of c = next_of_class c.class

-- when the condition of that name is
abbrev pub next_named : Key → Rows → Option Moment
next_named key rows = option_and_then next_of (named key rows)

-- an evaluation, by the name that it borrows
abbrev pub evaluation_meant : Moment × Bor Key → Moment × Key
evaluation_meant e = (e.0, e.1.now)

abbrev pub evaluation_of : Key × Condition → Option (Moment × Key)
evaluation_of row = option_map (λ at. (at, row.0)) (next_of row.1)

-- the evaluations to come, each with its condition's name
abbrev pub evaluations : Rows → List (Moment × Key)
evaluations rows = filter_map evaluation_of rows

abbrev pub evaluation_order : Moment × Key → Moment × Key → Ordering
evaluation_order a b = ordering_then (nat_cmp a.0.0 b.0.0) (key_order a.1 b.1)

abbrev pub sooner : Moment × Key → Moment × Key → Bool
sooner a b = is_lt (evaluation_order a b)

-- the sooner of two, if there are two
abbrev pub sooner_of : Option (Moment × Key) → Moment × Key → Option (Moment × Key)
sooner_of None x = Some x
sooner_of (Some first) x = Some (if sooner x first then x else first)

-- the sooner of two, of which either may be none
abbrev pub sooner_if : Option (Moment × Key) → Option (Moment × Key) → Option (Moment × Key)
sooner_if first None = first
sooner_if first (Some x) = sooner_of first x

-- the next evaluation of all
abbrev pub next_evaluation : Rows → Option (Moment × Key)
next_evaluation rows = fold sooner_of None (evaluations rows)
