-- The rules of cells, variables and pools, and what they are (this profile's choice).
use Rattle.std.specs.Prelude.{ℕ, nat_eq, nat_le, ℤ, pos, negsuc, Bool, true, false, not, ◌&&◌, List, [], ◌∷◌, map, length, Option, None, Some, unwrap_or, option_and_then}
use Rattle.std.specs.List.{list_all, list_any}
use Rattle.std.specs.Option.{option_map}
use Rattle.std.specs.Result.{result_ok}
use Rattle.hex.specs.Hex.{decode_of}
use Rattle.std.specs.Cmp.Lexicographic.{pointwise}
use Rattle.ber_forms.specs.Reading.{reading}
use Rattle.mms_types.specs.Datum as datum
use Rattle.mms_types.specs.Datum.{Datum}
use Rattle.mms_types.specs.Shape as shape
use Rattle.mms_types.specs.Shape.{Shape}
use Rattle.mms_types.specs.Matches.{matches}
use Rattle.mms_types.specs.Spelling.{is_identifier}
use Rattle.mms_types.specs.declared.identifier.Edition.{Edition}
use Rattle.mms_types.specs.declared.cells.CellRow.{CellRow}
use Rattle.mms_types.specs.declared.cells.NamedCell.{NamedCell}
use Rattle.mms_types.specs.declared.cells.PoolRow.{PoolRow}
use Rattle.pdu_names.specs.Editions.{lengths_of}
use Rattle.pdu_names.specs.Kinds.{Kind, choice}
use Rattle.pdu_data.specs.Data.{data_choice}
use Rattle.pdu_data.specs.Types.{type_choice}
use Rattle.cell_config.specs.Rows.{CellTold, VariableTold, PoolTold}

-- at least this one and at most that one
abbrev pub is_between : ℕ → ℕ → ℤ → Bool
is_between least most (pos n) = nat_le least n && nat_le n most
is_between least most (negsuc n) = false

-- an integer as a number; a document that breaks no rule has no negative ones
abbrev pub number_of : ℤ → ℕ
number_of (pos n) = n
number_of (negsuc n) = 0

-- no two of them are equal
abbrev pub are_distinct : {X : Type 0} → (X → X → Bool) → List X → Bool
are_distinct equal [] = true
are_distinct equal (x ∷ xs) = not (list_any (equal x) xs) && are_distinct equal xs

-- two names have the same octets
abbrev pub same_name : List ℕ → List ℕ → Bool
same_name = pointwise nat_eq

-- ---- names and numbers

-- each variable's name is an identifier of the edition
abbrev pub are_named : Edition → List VariableTold → Bool
are_named edition variables = list_all (λ variable. is_identifier edition variable.name) variables

-- the name of a guard is one, where there is one
abbrev pub is_guard : Edition → Option (List ℕ) → Bool
is_guard edition None = true
is_guard edition (Some name) = is_identifier edition name

abbrev pub are_guarded : Edition → List CellTold → Bool
are_guarded edition cells = list_all (λ cell. is_guard edition cell.guard) cells

-- and so are the names of pools and of their tokens
abbrev pub is_named_pool : Edition → PoolTold → Bool
is_named_pool edition pool = is_identifier edition pool.name && list_all (is_identifier edition) pool.tokens

abbrev pub are_named_pools : Edition → List PoolTold → Bool
are_named_pools edition pools = list_all (is_named_pool edition) pools

-- the numbers that a cell may have
abbrev pub is_number : ℤ → Bool
is_number = is_between 0 4095

abbrev pub numbers_of : List CellTold → List ℕ
numbers_of cells = map (λ cell. number_of cell.number) cells

-- each cell has a number of 0 to 4,095, and no two have the same
abbrev pub are_numbered : List CellTold → Bool
are_numbered cells = list_all (λ cell. is_number cell.number) cells && are_distinct nat_eq (numbers_of cells)

-- ---- types and values

-- what hex says of a kind: nothing where it isn't pairs of digits, or where the octets aren't of the form or nest too deep
abbrev pub hex_says : {X : Type 0} → Kind X → Edition → List ℕ → Option X
hex_says kind edition hex =
    option_map kind.said (option_and_then (λ octets. result_ok (reading (lengths_of edition) (kind.form edition) octets)) (result_ok (decode_of hex)))

-- one element that is a type (ISO 9506-2, TypeSpecification), and one that is a value (ISO 9506-2, Data)
abbrev pub type_told : Edition → List ℕ → Option Shape
type_told = hex_says (choice type_choice)

abbrev pub value_told : Edition → List ℕ → Option Datum
value_told = hex_says (choice data_choice)

-- both are there, and the value is of the type
abbrev pub fits : Option Shape → Option Datum → Bool
fits None value = false
fits (Some of) None = false
fits (Some of) (Some value) = matches value of

-- each cell has a type and a value of it
abbrev pub are_typed : Edition → List CellTold → Bool
are_typed edition cells = list_all (λ cell. fits (type_told edition cell.of) (value_told edition cell.value)) cells

-- ---- variables

-- one of these cells has the number
abbrev pub is_among : List ℕ → ℤ → Bool
is_among numbers number = is_number number && list_any (nat_eq (number_of number)) numbers

-- no two variables share a name, and each has one of the cells with these numbers
abbrev pub are_variables : List ℕ → List VariableTold → Bool
are_variables numbers variables = list_all (λ variable. is_among numbers variable.cell) variables && are_distinct same_name (map (λ variable. variable.name) variables)

-- ---- pools

-- 1 to 256 tokens, no two of the same name
abbrev pub is_pool : List (List ℕ) → Bool
is_pool tokens = nat_le 1 (length tokens) && nat_le (length tokens) 256 && are_distinct same_name tokens

-- such pools, and no two share a name
abbrev pub are_pools : List PoolTold → Bool
are_pools pools = list_all (λ pool. is_pool pool.tokens) pools && are_distinct same_name (map (λ pool. pool.name) pools)

-- at most 4,096 variables and 256 pools
abbrev pub are_few : List VariableTold → List PoolTold → Bool
are_few variables pools = nat_le (length variables) 4096 && nat_le (length pools) 256

-- ---- what they are

-- a cell with its type, its value and its guard; where no rule is broken neither type nor value is missing
abbrev pub cell_row : Edition → CellTold → CellRow
cell_row edition cell = record {
  number = number_of cell.number;
  of = unwrap_or (type_told edition cell.of) shape.boolean;
  value = unwrap_or (value_told edition cell.value) (datum.boolean false);
  guard = cell.guard;
}

abbrev pub named_cell : VariableTold → NamedCell
named_cell variable = record { name = variable.name; cell = number_of variable.cell }

abbrev pub pool_row : PoolTold → PoolRow
pool_row pool = record { name = pool.name; tokens = pool.tokens }
