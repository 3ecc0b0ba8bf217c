-- The rules of a configuration (this profile's choice). A document is the table that a TOML text is.
use Rattle.std.specs.Prelude.{ℕ, ℤ, pos, Bool, false, not, ◌&&◌, ◌||◌, nat_le, if◌then◌else◌, Option, None, Some, List, length, codes, is_some}
use Rattle.std.specs.Option.{option_map_or, option_or}
use Rattle.std.specs.List.{list_all}
use Rattle.std.specs.Str.{is_utf8}
use Rattle.toml.specs.Data.{Data, Members, no_members, member, as_integer, as_str, same_key}
use Rattle.toml.specs.Parse.{parse_document}
use Rattle.mms_types.specs.declared.identifier.Edition.{Edition}
use Rattle.cell_config.specs.Rows.{integer_at, text_at, are_rows, is_cell_row, is_variable_row, is_pool_row, cells_told, variables_told, pools_told}
use Rattle.cell_config.specs.Cells.{is_between, numbers_of, are_named, are_guarded, are_named_pools, are_numbered, are_typed, are_variables, are_pools, are_few}

-- the document that a text is, where it is one: TOML is written in UTF-8
abbrev pub document_of : List ℕ → Option Members
document_of text = if is_utf8 text then parse_document text else None

-- the keys that take an integer
abbrev pub takes_integer : List ℕ → Bool
takes_integer key = same_key (codes "clients") key || same_key (codes "day") key || same_key (codes "ms") key

-- the keys that take a text
abbrev pub takes_text : List ℕ → Bool
takes_text key = same_key (codes "vendor") key || same_key (codes "model") key || same_key (codes "revision") key

-- the key is listed, and the value is of the type that it takes
abbrev pub is_fit : List ℕ → Data → Bool
is_fit key value =
    (takes_integer key && is_some (as_integer value)) || (takes_text key && is_some (as_str value))
    || (same_key (codes "cell") key && are_rows is_cell_row value) || (same_key (codes "variable") key && are_rows is_variable_row value)
    || (same_key (codes "pool") key && are_rows is_pool_row value)

-- rule 1: a key isn't listed, or a value is of another type than its key takes, in the document or in a row, or a row lacks a key
abbrev pub breaks_keys : Members → Bool
breaks_keys no_members = false
breaks_keys (member key value others) = not (is_fit key value) || breaks_keys others

-- how many clients there are: 4 where nothing is said
abbrev pub clients_of : Members → ℤ
clients_of = integer_at (codes "clients") (pos 4)

-- the day and the millisecond of it at which the cell starts: the first ones where nothing is said
abbrev pub day_of : Members → ℤ
day_of = integer_at (codes "day") (pos 0)

abbrev pub ms_of : Members → ℤ
ms_of = integer_at (codes "ms") (pos 0)

-- the texts of Identify: `VMD`, `CELL` and `1` where nothing is said
abbrev pub vendor_of : Members → List ℕ
vendor_of = text_at (codes "vendor") (codes "VMD")

abbrev pub model_of : Members → List ℕ
model_of = text_at (codes "model") (codes "CELL")

abbrev pub revision_of : Members → List ℕ
revision_of = text_at (codes "revision") (codes "1")

-- rule 2: there aren't 1 to 64 clients, or the day isn't 0 to 65,535, or the millisecond is none of a day's
abbrev pub breaks_ranges : Members → Bool
breaks_ranges document = not (is_between 1 64 (clients_of document) && is_between 0 65535 (day_of document) && is_between 0 86399999 (ms_of document))

-- a space or a visible character of ASCII
abbrev pub is_shown : ℕ → Bool
is_shown octet = nat_le 0x20 octet && nat_le octet 0x7E

-- 1 to 32 octets from 20 to 7E hex
abbrev pub is_short_text : List ℕ → Bool
is_short_text text = nat_le 1 (length text) && nat_le (length text) 32 && list_all is_shown text

-- rule 3: a text of Identify isn't 1 to 32 octets from 20 to 7E hex
abbrev pub breaks_texts : Members → Bool
breaks_texts document = not (is_short_text (vendor_of document) && is_short_text (model_of document) && is_short_text (revision_of document))

-- rule 4: the name of a variable, a guard, a pool or a token is no identifier
abbrev pub breaks_names : Edition → Members → Bool
breaks_names edition document =
    not (are_named edition (variables_told document) && are_guarded edition (cells_told document) && are_named_pools edition (pools_told document))

-- rule 5: a cell's number isn't 0 to 4,095, or two cells share one
abbrev pub breaks_numbers : Members → Bool
breaks_numbers document = not (are_numbered (cells_told document))

-- rule 6: a type or a value isn't hex of one element of its form, no deeper than 10, or the value isn't of the type
abbrev pub breaks_types : Edition → Members → Bool
breaks_types edition document = not (are_typed edition (cells_told document))

-- rule 7: two variables share a name, or a variable's cell is missing
abbrev pub breaks_variables : Members → Bool
breaks_variables document = not (are_variables (numbers_of (cells_told document)) (variables_told document))

-- rule 8: a pool has no token, more than 256, or the same twice, or two pools share a name
abbrev pub breaks_pools : Members → Bool
breaks_pools document = not (are_pools (pools_told document))

-- rule 9: there are more than 4,096 variables or 256 pools
abbrev pub breaks_count : Members → Bool
breaks_count document = not (are_few (variables_told document) (pools_told document))

-- the least rule that the document's own keys and texts break
abbrev pub least_of_keys : Members → Option ℕ
least_of_keys document =
    if breaks_keys document then Some 1
    else if breaks_ranges document then Some 2
    else if breaks_texts document then Some 3 else None

-- the least rule that its cells, variables and pools break
abbrev pub least_of_rows : Edition → Members → Option ℕ
least_of_rows edition document =
    if breaks_names edition document then Some 4
    else if breaks_numbers document then Some 5
    else if breaks_types edition document then Some 6
    else if breaks_variables document then Some 7
    else if breaks_pools document then Some 8
    else if breaks_count document then Some 9 else None

-- the least rule that a document breaks
abbrev pub least_broken_of : Edition → Members → Option ℕ
least_broken_of edition document = option_or (least_of_keys document) (least_of_rows edition document)

-- the least rule that a text breaks in an edition: rule 0 is that it is a TOML document
abbrev pub least_broken : Edition → List ℕ → Option ℕ
least_broken edition text = option_map_or (least_broken_of edition) (document_of text) (Some 0)
