-- DeleteEventCondition, and the loss of a client (ISO 9506-1 and ISO 9506-2, event management).
use Rattle.std.specs.Prelude.{ℕ, Bool, false, not, List, None, filter, filter_map}
use Rattle.std.specs.Option.{option_map}
use Rattle.mms_types.specs.Order.{key_eq}
use Rattle.mms_types.specs.declared.condition.Turned.{Turned}
use Rattle.mms_types.specs.declared.key.Key.{Key}
use Rattle.mms_types.specs.declared.key.Scope.TheVariants.{Association}
use Rattle.mms_types.specs.declared.moment.Moment.{Moment}
use Rattle.mms_types.specs.declared.object_name.ObjectName.{ObjectName}
use Rattle.object_names.specs.Deletion.{is_listed_by, mentioned}
use Rattle.object_names.specs.Scopes.{without_all_of}
use Rattle.event_cond.specs.Conditions.{Rows, named}
use Rattle.event_cond.specs.Transitions.{any_to_deleted}
use Rattle.event_cond.specs.declared.condition.Condition.{Condition}

-- a condition is deleted, wherever it stands: no state is told
abbrev pub deletion_turn : Moment → Key → Condition → Turned
deletion_turn now key c = record { condition = key; transition = any_to_deleted; severity = c.severity; state = None; at = now }

-- any condition can be deleted
abbrev pub is_fixed : Condition → Bool
is_fixed c = false

-- what is told of those that are there
abbrev pub deletions_of : Moment → List Key → Rows → List Turned
deletions_of now keys rows = filter_map (λ key. option_map (deletion_turn now key) (named key rows)) keys

abbrev pub deletions : ℕ → Moment → List ObjectName → Rows → List Turned
deletions client now names rows = deletions_of now (mentioned client names) rows

-- the conditions that are left
abbrev pub after_delete : ℕ → List ObjectName → Rows → Rows
after_delete client names rows = filter (λ row. not (is_listed_by client names row.0)) rows

-- one condition is deleted
abbrev pub without : Key → Rows → Rows
without key rows = filter (λ row. not (key_eq key row.0)) rows

-- a client that is lost takes the conditions of its association with it; all others stay, also those that are enabled
abbrev pub without_client : ℕ → Rows → Rows
without_client client rows = without_all_of (Association client) rows
