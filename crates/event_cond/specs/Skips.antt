-- Time goes by up to a moment, and no cell changes meanwhile: the first evaluation of a condition alone can change its state, and each later one changes
-- its next evaluation and nothing else (ISO 9506-1, event condition, monitored).
use Rattle.std.specs.Prelude.{◌≡◌, ⊤, ℕ, nat_le, Bool, false, List, [], ◌∷◌, Option, None, Some, filter_map, is_some, map, if◌then◌else◌}
use Rattle.std.specs.List.{AllByRecursion, list_any}
use Rattle.mms_types.specs.declared.condition.Turned.{Turned}
use Rattle.mms_types.specs.declared.key.Key.{Key}
use Rattle.mms_types.specs.declared.moment.Moment.{Moment}
use Rattle.event_cond.specs.Conditions.{Rows, move_told, moved}
use Rattle.event_cond.specs.Evaluations.{next_of, sooner}
use Rattle.event_cond.specs.Multiples.{least_multiple}
use Rattle.event_cond.specs.declared.condition.Condition.{Condition}
use Rattle.event_cond.specs.declared.condition.ConditionClass.{ConditionClass}
use Rattle.event_cond.specs.declared.condition.ConditionClass.TheVariants.{NetworkTriggered, Monitored}
use Rattle.event_cond.specs.declared.condition.Watch.{Watch}

-- what cells say, each by its number
abbrev pub Saying : Type 0
Saying = ℕ → Bool

-- what the cell says that is watched
abbrev pub says_class : Saying → ConditionClass → Bool
says_class cells NetworkTriggered = false
says_class cells (Monitored w) = cells w.cell

abbrev pub says : Saying → Condition → Bool
says cells c = says_class cells c.class

-- a moment that is at most that one
abbrev pub up_to : Moment → Option Moment → Option Moment
up_to until None = None
up_to until (Some at) = if nat_le at.0 until.0 then Some at else None

-- the first evaluation of a condition, where it is due by then
abbrev pub first_due : Moment → Condition → Option Moment
first_due until c = up_to until (next_of c)

abbrev pub any_due : Moment → Rows → Bool
any_due until rows = list_any (λ row. is_some (first_due until row.1)) rows

-- ---- what becomes of a condition

-- the state is what the cell says, and the next evaluation is the first that lies after that moment
abbrev pub passed : Moment → Bool → Watch → Watch
passed until says w = record w { evaluation = Some (record { is_active = says; next = least_multiple w.defined w.interval until }) }

abbrev pub class_passed : Moment → Bool → ConditionClass → ConditionClass
class_passed until says NetworkTriggered = NetworkTriggered
class_passed until says (Monitored w) = Monitored (passed until says w)

abbrev pub skipped_from : Moment → Saying → Condition → Option Moment → Condition
skipped_from until cells c None = c
skipped_from until cells c (Some first) = moved first (class_passed until (says cells c) c.class) c

abbrev pub skipped : Moment → Saying → Condition → Condition
skipped until cells c = skipped_from until cells c (first_due until c)

abbrev pub row_skipped : Moment → Saying → Key × Condition → Key × Condition
row_skipped until cells row = (row.0, skipped until cells row.1)

abbrev pub after_skip : Moment → Saying → Rows → Rows
after_skip until cells rows = map (row_skipped until cells) rows

-- ---- what is told

abbrev pub turn_from : Moment → Saying → Key → Condition → Option Moment → Option Turned
turn_from until cells key c None = None
turn_from until cells key c (Some first) = move_told key first (class_passed until (says cells c) c.class) c

-- the transition at its first evaluation, if its state changes
abbrev pub first_turn : Moment → Saying → Key × Condition → Option Turned
first_turn until cells row = turn_from until cells row.0 row.1 (first_due until row.1)

-- in order of the moments, and of one moment in order of the names
abbrev pub turns_sooner : Turned → Turned → Bool
turns_sooner a b = sooner (a.at, a.condition) (b.at, b.condition)

abbrev pub with_turn : Turned → List Turned → List Turned
with_turn x [] = x ∷ []
with_turn x (y ∷ ys) = if turns_sooner y x then y ∷ with_turn x ys else x ∷ y ∷ ys

abbrev pub in_order : List Turned → List Turned
in_order [] = []
in_order (x ∷ xs) = with_turn x (in_order xs)

-- no later one comes before an earlier one
abbrev pub IsInOrder : List Turned → Type 0
IsInOrder [] = ⊤
IsInOrder (x ∷ xs) = AllByRecursion (λ y. turns_sooner y x ≡ false) xs × IsInOrder xs

abbrev pub first_turns : Moment → Saying → Rows → List Turned
first_turns until cells rows = in_order (filter_map (first_turn until cells) rows)
