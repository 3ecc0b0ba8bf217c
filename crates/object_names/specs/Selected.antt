-- The names that a selection has.
use Rattle.std.specs.Prelude.{ℕ, Bool, true, false, not, ◌&&◌, if◌then◌else◌, List, Option, None, Some}
use Rattle.std.specs.List.{list_any}
use Rattle.mms_types.specs.declared.key.Key.{Key}
use Rattle.mms_types.specs.Order.{key_eq, scope_eq}
use Rattle.object_names.specs.declared.borrowed.KeyRef.{KeyRef}
use Rattle.object_names.specs.declared.deletion.Selection.{Selection}
use Rattle.object_names.specs.declared.deletion.Selection.TheVariants as selection
use Rattle.object_names.specs.Borrowed.{key_meant, scope_meant}

-- one of the borrowed names
abbrev pub is_among : List KeyRef → Key → Bool
is_among names key = list_any (λ name. key_eq (key_meant name) key) names

abbrev pub selected : Selection → Key → Bool
selected (selection.Names names) = is_among names.keys
selected (selection.Scope scope) = λ key. scope_eq (scope_meant scope) key.scope
selected selection.Nothing = λ key. false

-- ---- what a name that is looked up counts

-- by whether the row has the name, and its value
abbrev pub counted_by : {X : Type 0} → (Bool → X → Bool) → Option X → ℕ
counted_by p None = 0
counted_by p (Some x) = if p true x then 1 else 0

abbrev pub matched_by : {X : Type 0} → Option X → ℕ
matched_by = counted_by (λ has x. has)

abbrev pub deleted_by : {X : Type 0} → (X → Bool) → Option X → ℕ
deleted_by is_fixed = counted_by (λ has x. has && not (is_fixed x))
