-- The rows of a configuration: what `[[cell]]`, `[[variable]]` and `[[pool]]` tell (this profile's choice).
use Rattle.std.specs.Prelude.{ℕ, ℤ, pos, Bool, true, false, ◌&&◌, ◌||◌, List, [], ◌∷◌, map, codes, Option, is_some, unwrap_or, option_and_then}
use Rattle.std.specs.Option.{option_map_or}
use Rattle.toml.specs.Data.{Data, Items, no_items, item, Members, no_members, member, get_member, as_integer, as_str, as_array, as_table, same_key}

-- the integer at a key, or this one where there is none
abbrev pub integer_at : List ℕ → ℤ → Members → ℤ
integer_at key missing members = unwrap_or (option_and_then as_integer (get_member key members)) missing

-- the text at a key, or this one where there is none
abbrev pub text_at : List ℕ → List ℕ → Members → List ℕ
text_at key missing members = unwrap_or (option_and_then as_str (get_member key members)) missing

-- ---- the types of what is told

-- there is an integer at the key
abbrev pub has_integer : List ℕ → Members → Bool
has_integer key members = is_some (option_and_then as_integer (get_member key members))

-- there is a text at the key
abbrev pub has_text : List ℕ → Members → Bool
has_text key members = is_some (option_and_then as_str (get_member key members))

-- where there is something at the key, it is a text
abbrev pub may_have_text : List ℕ → Members → Bool
may_have_text key members = option_map_or (λ value. is_some (as_str value)) (get_member key members) true

-- each item is a text
abbrev pub all_texts : Items → Bool
all_texts no_items = true
all_texts (item value others) = is_some (as_str value) && all_texts others

-- there is an array of texts at the key
abbrev pub has_texts : List ℕ → Members → Bool
has_texts key members = option_map_or all_texts (option_and_then as_array (get_member key members)) false

-- each key passes the test
abbrev pub all_keys : (List ℕ → Bool) → Members → Bool
all_keys test no_members = true
all_keys test (member key value others) = test key && all_keys test others

-- a row of `[[cell]]`: a number and two texts, possibly the name of a guard, and nothing else
abbrev pub is_cell_key : List ℕ → Bool
is_cell_key key = same_key (codes "number") key || same_key (codes "type") key || same_key (codes "value") key || same_key (codes "guard") key

abbrev pub is_cell_row : Members → Bool
is_cell_row row =
    has_integer (codes "number") row && has_text (codes "type") row && has_text (codes "value") row && may_have_text (codes "guard") row
    && all_keys is_cell_key row

-- a row of `[[variable]]`: a name and the number of a cell, and nothing else
abbrev pub is_variable_key : List ℕ → Bool
is_variable_key key = same_key (codes "name") key || same_key (codes "cell") key

abbrev pub is_variable_row : Members → Bool
is_variable_row row = has_text (codes "name") row && has_integer (codes "cell") row && all_keys is_variable_key row

-- a row of `[[pool]]`: a name and the names of tokens, and nothing else
abbrev pub is_pool_key : List ℕ → Bool
is_pool_key key = same_key (codes "name") key || same_key (codes "tokens") key

abbrev pub is_pool_row : Members → Bool
is_pool_row row = has_text (codes "name") row && has_texts (codes "tokens") row && all_keys is_pool_key row

-- each item is a table that passes the test
abbrev pub all_tables : (Members → Bool) → Items → Bool
all_tables test no_items = true
all_tables test (item value others) = option_map_or test (as_table value) false && all_tables test others

-- an array of such tables
abbrev pub are_rows : (Members → Bool) → Data → Bool
are_rows test value = option_map_or (all_tables test) (as_array value) false

-- ---- what they tell

-- a cell's number, its type and value in hex, and the name of its guard, where it has one
pub record CellTold : Type 0 where
  pub number : ℤ
  pub of : List ℕ
  pub value : List ℕ
  pub guard : Option (List ℕ)

-- a variable's name, and the number of its cell
pub record VariableTold : Type 0 where
  pub name : List ℕ
  pub cell : ℤ

-- a pool's name, and the names of its tokens
pub record PoolTold : Type 0 where
  pub name : List ℕ
  pub tokens : List (List ℕ)

-- the tables among the items
abbrev pub tables_in : Items → List Members
tables_in no_items = []
tables_in (item value others) = option_map_or (λ row. row ∷ tables_in others) (as_table value) (tables_in others)

-- the texts among the items
abbrev pub texts_in : Items → List (List ℕ)
texts_in no_items = []
texts_in (item value others) = option_map_or (λ text. text ∷ texts_in others) (as_str value) (texts_in others)

-- the texts of the array at a key
abbrev pub texts_at : List ℕ → Members → List (List ℕ)
texts_at key members = option_map_or texts_in (option_and_then as_array (get_member key members)) []

-- the tables of the array at a key
abbrev pub rows_at : List ℕ → Members → List Members
rows_at key document = option_map_or tables_in (option_and_then as_array (get_member key document)) []

abbrev pub cell_told : Members → CellTold
cell_told row = record {
  number = integer_at (codes "number") (pos 0) row;
  of = text_at (codes "type") [] row;
  value = text_at (codes "value") [] row;
  guard = option_and_then as_str (get_member (codes "guard") row);
}

abbrev pub variable_told : Members → VariableTold
variable_told row = record {
  name = text_at (codes "name") [] row;
  cell = integer_at (codes "cell") (pos 0) row;
}

abbrev pub pool_told : Members → PoolTold
pool_told row = record {
  name = text_at (codes "name") [] row;
  tokens = texts_at (codes "tokens") row;
}

-- the cells, the variables and the pools, in the order of the text
abbrev pub cells_told : Members → List CellTold
cells_told document = map cell_told (rows_at (codes "cell") document)

abbrev pub variables_told : Members → List VariableTold
variables_told document = map variable_told (rows_at (codes "variable") document)

abbrev pub pools_told : Members → List PoolTold
pools_told document = map pool_told (rows_at (codes "pool") document)
