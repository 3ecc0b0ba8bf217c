-- What a text tells that breaks no rule is a configuration.
use Rattle.std.proofs.Common.{◌≡◌, ℕ, suc, nat_eq, nat_lt, ℤ, pos, negsuc, ◌≤◌, ◌&&◌, Bool, true, false, not, refl, sym, ap, ◌∙◌, subst, arith, List, [], ◌∷◌, map, length, Some, None, if◌then◌else◌, nat_le}
use Rattle.std.specs.Prelude.{unwrap_or}
use Rattle.std.specs.declared.option.Option.{Option}
use Rattle.std.specs.Option.{option_map, option_map_or, option_or}
use Rattle.std.specs.List.{list_all, list_any}
use Rattle.std.proofs.lemmas.Bool.Decides.{nat_tests}
use Rattle.toml.specs.Data.{Members}
use Rattle.mms_types.specs.Datum as datum
use Rattle.mms_types.specs.Datum.{Datum}
use Rattle.mms_types.specs.Shape as shape
use Rattle.mms_types.specs.Shape.{Shape}
use Rattle.mms_types.specs.Matches.{matches}
use Rattle.mms_types.specs.declared.cells.CellRow.{CellRow}
use Rattle.mms_types.specs.declared.cells.NamedCell.{NamedCell}
use Rattle.mms_types.specs.declared.cells.PoolRow.{PoolRow}
use Rattle.mms_types.specs.declared.identifier.Edition.{Edition}
use Rattle.cell_config.specs.declared.config.Config.{Config}
use Rattle.cell_config.specs.Rows.{CellTold, VariableTold, PoolTold, cells_told, variables_told, pools_told}
use Rattle.cell_config.specs.Cells.{is_between, number_of, are_distinct, same_name, is_number, numbers_of, are_numbered, type_told, value_told, fits, are_typed, is_among, are_variables, is_pool, are_pools, cell_row, named_cell, pool_row}
use Rattle.cell_config.specs.Rules.{document_of, clients_of, day_of, ms_of, vendor_of, model_of, revision_of, is_short_text, breaks_keys, breaks_ranges, breaks_texts, breaks_names, breaks_numbers, breaks_types, breaks_variables, breaks_pools, breaks_count, least_of_keys, least_of_rows, least_broken_of, least_broken}
use Rattle.cell_config.specs.Said.{config_of, AreCells, AreVariables, ArePools, IsConfig}

both : (a b : Bool) → (a && b) ≡ true → (a ≡ true) × (b ≡ true)
both true b e = (refl, e)
both false b e = cc

holds : (a : Bool) → not a ≡ false → a ≡ true
holds true e = refl
holds false e = cc

-- the least of three rules that is broken, and of six
abbrev first_three : Bool → Bool → Bool → Option ℕ
first_three keys ranges texts = if keys then Some 1 else if ranges then Some 2 else if texts then Some 3 else None

abbrev last_six : Bool → Bool → Bool → Bool → Bool → Bool → Option ℕ
last_six names numbers types variables pools count =
    if names then Some 4 else if numbers then Some 5 else if types then Some 6 else if variables then Some 7 else if pools then Some 8 else if count then Some 9 else None

none_of_three : (keys ranges texts : Bool) → first_three keys ranges texts ≡ None → (ranges ≡ false) × (texts ≡ false)
none_of_three true ranges texts e = cc
none_of_three false true texts e = cc
none_of_three false false true e = cc
none_of_three false false false e = (refl, refl)

none_of_six : (names numbers types variables pools count : Bool) → last_six names numbers types variables pools count ≡ None
    → (numbers ≡ false) × (types ≡ false) × (variables ≡ false) × (pools ≡ false) × (count ≡ false)
none_of_six true numbers types variables pools count e = cc
none_of_six false true types variables pools count e = cc
none_of_six false false true variables pools count e = cc
none_of_six false false false true pools count e = cc
none_of_six false false false false true count e = cc
none_of_six false false false false false true e = cc
none_of_six false false false false false false e = (refl, refl, refl, refl, refl)

none_of_both : (a b : Option ℕ) → option_or a b ≡ None → (a ≡ None) × (b ≡ None)
none_of_both None b e = (refl, e)
none_of_both (Some n) b e = cc

within : (least most : ℕ) (z : ℤ) → is_between least most z ≡ true → (least ≤ number_of z) × (number_of z ≤ most)
within least most (pos n) e =
    let t = both (nat_le least n) (nat_le n most) e in
    (grind (arith, nat_tests, t.0), grind (arith, nat_tests, t.1))
within least most (negsuc n) e = cc

-- ---- cells

numbers_stay : (edition : Edition) (cells : List CellTold) → map (λ (c : CellRow). c.number) (map (cell_row edition) cells) ≡ numbers_of cells
numbers_stay edition [] = refl
numbers_stay edition (c ∷ cells) = ap (λ (ns : List ℕ). number_of c.number ∷ ns) (numbers_stay edition cells)

below : (z : ℤ) → is_number z ≡ true → nat_lt (number_of z) 4096 ≡ true
below z e = let most = (within 0 4095 z e).1 in grind (arith, nat_tests, most)

join : (a b : Bool) → a ≡ true → b ≡ true → (a && b) ≡ true
join true b e f = f
join false b e f = cc

all_below : (edition : Edition) (cells : List CellTold) → list_all (λ (c : CellTold). is_number c.number) cells ≡ true
    → list_all (λ (c : CellRow). nat_lt c.number 4096) (map (cell_row edition) cells) ≡ true
all_below edition [] e = refl
all_below edition (c ∷ cells) e =
    let t = both (is_number c.number) _ e in
    join (nat_lt (number_of c.number) 4096) _ (below c.number t.0) (all_below edition cells t.1)

fits_typed : (of : Option Shape) (value : Option Datum) → fits of value ≡ true → matches (unwrap_or value (datum.boolean false)) (unwrap_or of shape.boolean) ≡ true
fits_typed None value e = cc
fits_typed (Some of) None e = cc
fits_typed (Some of) (Some value) e = e

all_typed : (edition : Edition) (cells : List CellTold) → are_typed edition cells ≡ true → list_all (λ (c : CellRow). matches c.value c.of) (map (cell_row edition) cells) ≡ true
all_typed edition [] e = refl
all_typed edition (c ∷ cells) e =
    let t = both (fits (type_told edition c.of) (value_told edition c.value)) _ e in
    join (matches (cell_row edition c).value (cell_row edition c).of) _ (fits_typed (type_told edition c.of) (value_told edition c.value) t.0) (all_typed edition cells t.1)

cells_hold : (edition : Edition) (cells : List CellTold) → are_numbered cells ≡ true → are_typed edition cells ≡ true → AreCells (map (cell_row edition) cells)
cells_hold edition cells numbered typed =
    let t = both (list_all (λ (c : CellTold). is_number c.number) cells) _ numbered in
    record {
      distinct = ap (are_distinct nat_eq) (numbers_stay edition cells) ∙ t.1;
      small = all_below edition cells t.0;
      typed = all_typed edition cells typed;
    }

-- ---- variables

names_stay : (told : List VariableTold) → map (λ (v : NamedCell). v.name) (map named_cell told) ≡ map (λ (v : VariableTold). v.name) told
names_stay [] = refl
names_stay (v ∷ told) = ap (λ (ns : List (List ℕ)). v.name ∷ ns) (names_stay told)

as_many : (told : List VariableTold) → length (map named_cell told) ≡ length told
as_many [] = refl
as_many (v ∷ told) = ap suc (as_many told)

all_there : (numbers : List ℕ) (told : List VariableTold) → list_all (λ (v : VariableTold). is_among numbers v.cell) told ≡ true
    → list_all (λ (v : NamedCell). list_any (nat_eq v.cell) numbers) (map named_cell told) ≡ true
all_there numbers [] e = refl
all_there numbers (v ∷ told) e =
    let t = both (is_among numbers v.cell) _ e in
    join (list_any (nat_eq (number_of v.cell)) numbers) _ (both (is_number v.cell) _ t.0).1 (all_there numbers told t.1)

few : (n : ℕ) → nat_le n 4096 ≡ true → n ≤ 4096
few n e = grind (arith, nat_tests, e)

variables_hold : (edition : Edition) (cells : List CellTold) (told : List VariableTold) → are_variables (numbers_of cells) told ≡ true → nat_le (length told) 4096 ≡ true
    → AreVariables (map (cell_row edition) cells) (map named_cell told)
variables_hold edition cells told kept count =
    let t = both (list_all (λ (v : VariableTold). is_among (numbers_of cells) v.cell) told) _ kept in
    record {
      distinct = ap (are_distinct same_name) (names_stay told) ∙ t.1;
      present = ap (λ (numbers : List ℕ). list_all (λ (v : NamedCell). list_any (nat_eq v.cell) numbers) (map named_cell told)) (numbers_stay edition cells)
          ∙ all_there (numbers_of cells) told t.0;
      few = subst (λ (n : ℕ). n ≤ 4096) (sym (as_many told)) (few (length told) count);
    }

-- ---- pools

pool_names_stay : (told : List PoolTold) → map (λ (p : PoolRow). p.name) (map pool_row told) ≡ map (λ (p : PoolTold). p.name) told
pool_names_stay [] = refl
pool_names_stay (p ∷ told) = ap (λ (ns : List (List ℕ)). p.name ∷ ns) (pool_names_stay told)

tokens_stay : (told : List PoolTold) → list_all (λ (p : PoolRow). is_pool p.tokens) (map pool_row told) ≡ list_all (λ (p : PoolTold). is_pool p.tokens) told
tokens_stay [] = refl
tokens_stay (p ∷ told) = ap (λ (b : Bool). is_pool p.tokens && b) (tokens_stay told)

as_many_pools : (told : List PoolTold) → length (map pool_row told) ≡ length told
as_many_pools [] = refl
as_many_pools (p ∷ told) = ap suc (as_many_pools told)

few_pools : (n : ℕ) → nat_le n 256 ≡ true → n ≤ 256
few_pools n e = grind (arith, nat_tests, e)

pools_hold : (told : List PoolTold) → are_pools told ≡ true → nat_le (length told) 256 ≡ true → ArePools (map pool_row told)
pools_hold told kept count =
    let t = both (list_all (λ (p : PoolTold). is_pool p.tokens) told) _ kept in
    record {
      distinct = ap (are_distinct same_name) (pool_names_stay told) ∙ t.1;
      tokens = tokens_stay told ∙ t.0;
      few = subst (λ (n : ℕ). n ≤ 256) (sym (as_many_pools told)) (few_pools (length told) count);
    }

document_holds : (edition : Edition) (document : Members) → least_broken_of edition document ≡ None → IsConfig (config_of edition document)
document_holds edition document e =
    let all = none_of_both (least_of_keys document) (least_of_rows edition document) e in
    let none = none_of_three (breaks_keys document) (breaks_ranges document) (breaks_texts document) all.0 in
    let rows = none_of_six (breaks_names edition document) (breaks_numbers document) (breaks_types edition document) (breaks_variables document) (breaks_pools document) (breaks_count document) all.1 in
    let counts = both (nat_le (length (variables_told document)) 4096) (nat_le (length (pools_told document)) 256) (holds _ rows.4) in
    let ranges = both _ (is_between 0 86399999 (ms_of document)) (holds _ none.0) in
    let numbers = both (is_between 1 64 (clients_of document)) (is_between 0 65535 (day_of document)) ranges.0 in
    let texts = both _ (is_short_text (revision_of document)) (holds _ none.1) in
    let names = both (is_short_text (vendor_of document)) (is_short_text (model_of document)) texts.0 in
    let clients = within 1 64 (clients_of document) numbers.0 in
    let day = within 0 65535 (day_of document) numbers.1 in
    let ms = within 0 86399999 (ms_of document) ranges.1 in
    record {
      some_client = clients.0;
      few_clients = clients.1;
      dated = omega (arith, day.1, ms.1);
      vendor = names.0;
      model = names.1;
      revision = texts.1;
      cells = cells_hold edition (cells_told document) (holds _ rows.0) (holds _ rows.1);
      variables = variables_hold edition (cells_told document) (variables_told document) (holds _ rows.2) counts.0;
      pools = pools_hold (pools_told document) (holds _ rows.3) counts.1;
    }

-- what a document tells that breaks no rule
pub told_holds : (edition : Edition) (document : Members) (configured : Config) → configured ≡ config_of edition document → least_broken_of edition document ≡ None → IsConfig configured
told_holds edition document configured is rules = subst IsConfig (sym is) (document_holds edition document rules)

-- what a text tells that breaks no rule
pub configuration_holds : (edition : Edition) (text : List ℕ) (configured : Config) → least_broken edition text ≡ None → option_map (config_of edition) (document_of text) ≡ Some configured → IsConfig configured
configuration_holds edition text configured rules says = by_document (document_of text) rules says
  where
    by_document : (d : Option Members) → option_map_or (least_broken_of edition) d (Some 0) ≡ None → option_map (config_of edition) d ≡ Some configured → IsConfig configured
    by_document None e h = cc
    by_document (Some document) e h =
        let is : config_of edition document ≡ configured = cc in
        subst IsConfig is (document_holds edition document e)

-- and of the edition that it was read in
pub edition_of : (edition : Edition) (document : Option Members) (configured : Config) → option_map (config_of edition) document ≡ Some configured → edition ≡ configured.edition
edition_of edition None configured h = cc
edition_of edition (Some document) configured h =
    let is : config_of edition document ≡ configured = cc in
    ap (λ (c : Config). c.edition) is

-- a text that breaks no rule tells one
pub configuration_there : (edition : Edition) (text : List ℕ) → least_broken edition text ≡ None → option_map (config_of edition) (document_of text) ≡ None → ⊥
configuration_there edition text rules none = by_document (document_of text) rules none
  where
    by_document : (d : Option Members) → option_map_or (least_broken_of edition) d (Some 0) ≡ None → option_map (config_of edition) d ≡ None → ⊥
    by_document None e h = cc
    by_document (Some document) e h = cc
