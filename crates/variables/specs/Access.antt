-- What a read and a write do (ISO 9506-2, Read and Write).
use Rattle.std.specs.Prelude.{ℕ, nat_eq, Bool, false, not, ◌||◌, ◌&&◌, Option, None, Some, is_none, is_some, List, [], ◌∷◌, map, if◌then◌else◌}
use Rattle.std.specs.List.{list_any}
use Rattle.mms_types.specs.Datum.{Datum}
use Rattle.mms_types.specs.Matches.{matches}
use Rattle.mms_types.specs.declared.variable.Spec.{Spec}
use Rattle.mms_types.specs.declared.access_result.AccessResult.{AccessResult}
use Rattle.mms_types.specs.declared.access_result.AccessResult.TheVariants as read
use Rattle.mms_types.specs.declared.access_result.WriteResult.{WriteResult}
use Rattle.mms_types.specs.declared.access_result.WriteResult.TheVariants as write
use Rattle.mms_types.specs.declared.access_result.DataAccessError.TheVariants.{ObjectAccessDenied, TypeInconsistent, ObjectNonExistent}
use Rattle.variables.specs.declared.rows.StoredCell.{StoredCell}
use Rattle.variables.specs.Rows.{Rows, cell_at, cell_named, number_named}

-- ---- read: the data of each variable, or that it is missing

abbrev pub data_of : Option StoredCell → AccessResult
data_of None = read.Failure ObjectNonExistent
data_of (Some cell) = read.Success cell.value

abbrev pub read_of : ℕ → Rows → Spec → AccessResult
read_of client rows s = data_of (cell_named client s rows)

abbrev pub reads : ℕ → List Spec → Rows → List AccessResult
reads client variables rows = map (read_of client rows) variables

-- ---- write: a variable takes data of its type, from a client that owns a token of its guard, where it has one

-- the cell has no guard, or the client owns a token of it
abbrev pub is_open : Bool → StoredCell → Bool
is_open owns cell = is_none cell.guard || owns

abbrev pub taken_by : Bool → Datum → Option StoredCell → WriteResult
taken_by owns value None = write.Failure ObjectNonExistent
taken_by owns value (Some cell) =
    if not (is_open owns cell) then write.Failure ObjectAccessDenied
    else if matches value cell.of then write.Success else write.Failure TypeInconsistent

abbrev pub with_value : Bool → Datum → StoredCell → StoredCell
with_value owns value cell = if is_open owns cell && matches value cell.of then record cell { value = value } else cell

-- the cell of that number is changed, and all others are as before
abbrev pub change_cell : ℕ → (StoredCell → StoredCell) → List (ℕ × StoredCell) → List (ℕ × StoredCell)
change_cell number f cells = map (λ row. (row.0, if nat_eq number row.0 then f row.1 else row.1)) cells

abbrev pub change_named : Option ℕ → (StoredCell → StoredCell) → Rows → Rows
change_named None f rows = rows
change_named (Some number) f rows = record rows { cells = change_cell number f rows.cells }

-- A write's variables, each beside whether the client owns a token of its guard, which counts only where it has one: flags in the order of the
-- variables. One that isn't told counts as no.
abbrev pub first_flag : List Bool → Bool
first_flag [] = false
first_flag (owns ∷ later) = owns

abbrev pub later_flags : List Bool → List Bool
later_flags [] = []
later_flags (owns ∷ later) = later

abbrev pub flagged : {A : Type 0} → List Bool → List A → List (Bool × A)
flagged flags [] = []
flagged flags (x ∷ xs) = (first_flag flags, x) ∷ flagged (later_flags flags) xs

abbrev pub result_of : ℕ → Rows → Bool × (Spec × Datum) → WriteResult
result_of client rows (owns, x) = taken_by owns x.1 (cell_named client x.0 rows)

abbrev pub written : ℕ → Bool × (Spec × Datum) → Rows → Rows
written client (owns, x) rows = change_named (number_named client x.0 rows) (with_value owns x.1) rows

-- One variable is written after the other, and each sees what those before it did: the rows after all, and what became of each.
abbrev pub writes : ℕ → List (Bool × (Spec × Datum)) → Rows → Rows × List WriteResult
writes client [] rows = (rows, [])
writes client (x ∷ xs) rows = let rest = writes client xs (written client x rows) in (rest.0, result_of client rows x ∷ rest.1)

-- ---- guards

-- the guard of a cell: none where the cell is missing or has none
abbrev pub guard_in : Option StoredCell → Option (List ℕ)
guard_in None = None
guard_in (Some cell) = cell.guard

abbrev pub guard_at : ℕ → Rows → Option (List ℕ)
guard_at number rows = guard_in (cell_at number rows)

abbrev pub guard_named : ℕ → Rows → Spec → Option (List ℕ)
guard_named client rows s = guard_in (cell_named client s rows)

-- the guard of each variable, in order
abbrev pub guards : ℕ → List Spec → Rows → List (Option (List ℕ))
guards client variables rows = map (guard_named client rows) variables

-- some variable has a guard
abbrev pub are_guarded : ℕ → List Spec → Rows → Bool
are_guarded client variables rows = list_any (λ s. is_some (guard_named client rows s)) variables

-- which of the guards are owned: where there is none, it isn't
abbrev pub is_owned : (List ℕ → Bool) → Option (List ℕ) → Bool
is_owned owns None = false
is_owned owns (Some guard) = owns guard

abbrev pub flags_of : (List ℕ → Bool) → List (Option (List ℕ)) → List Bool
flags_of owns guards = map (is_owned owns) guards
