-- Worked examples: texts that are no hex, documents with the least rule that they break, and what they say of variables, guards and pools.
use Rattle.std.specs.Prelude.{◌≡◌, ℕ, pos, true, false, ◌||◌, List, [], ◌∷◌, map, codes, Some, None, unwrap_or}
use Rattle.std.proofs.Common.{refl}
use Rattle.hex.proofs.OnLiterals.{hex_on_literals}
use Rattle.toml.specs.Data.{Data, string, integer, array, table, Members, no_members, member}
use Rattle.toml.specs.View.{items_of}
use Rattle.mms_types.specs.Datum as datum
use Rattle.mms_types.specs.Shape as shape
use Rattle.mms_types.specs.declared.identifier.Edition.TheVariants.{One}
use Rattle.cell_config.specs.Cells.{type_told, value_told}
use Rattle.cell_config.specs.Rules.{breaks_keys, breaks_names, least_broken_of}
use Rattle.cell_config.specs.Said.{config_of}

-- a function answers each row of a table with its second column
abbrev Answers : {A B : Type 0} → (A → B) → List (A × B) → Type 0
Answers f rows = map (λ row. f row.0) rows ≡ map (λ row. row.1) rows

-- hex is pairs of digits with nothing between them
no_hex : Answers (type_told One) (
    (codes "85012", None) ∷
    (codes "85 01 20", None) ∷
    (codes "8501G0", None) ∷
    (codes "0x850120", None) ∷
    [])
unfolding hex_on_literals
no_hex = refl

-- ---- documents

abbrev cell : ℕ → List ℕ → List ℕ → Data
cell number of value = table (
    member (codes "number") (integer (pos number)) (
    member (codes "type") (string of) (
    member (codes "value") (string value) no_members)))

abbrev variable : List ℕ → ℕ → Data
variable name number = table (
    member (codes "cell") (integer (pos number)) (
    member (codes "name") (string name) no_members))

abbrev document : List Data → List Data → Members
document cells variables = member (codes "cell") (array (items_of cells)) (member (codes "variable") (array (items_of variables)) no_members)

abbrev one : Data
one = cell 4095 (codes "850120") (codes "850107")

-- cell 4095 with a guard, whatever it is
abbrev guarded : Data → Data
guarded guard = table (
    member (codes "guard") guard (
    member (codes "number") (integer (pos 4095)) (
    member (codes "type") (string (codes "850120")) (
    member (codes "value") (string (codes "850107")) no_members))))

abbrev texts : List (List ℕ) → Data
texts names = array (items_of (map (λ name. string name) names))

abbrev pool : List ℕ → List (List ℕ) → Data
pool name tokens = table (member (codes "name") (string name) (member (codes "tokens") (texts tokens) no_members))

abbrev pools : List Data → Members
pools rows = member (codes "pool") (array (items_of rows)) no_members

-- the least rule that each breaks
rules_broken : Answers (least_broken_of One) (
    (document [] [], None) ∷
    (document (one ∷ integer (pos 1) ∷ []) [], Some 1) ∷
    (document (table no_members ∷ []) [], Some 1) ∷
    (document (one ∷ []) (one ∷ []), Some 1) ∷
    (member (codes "cell") one no_members, Some 1) ∷
    (member (codes "clients") (integer (pos 0)) (document [] (variable [] 0 ∷ [])), Some 2) ∷
    (document (one ∷ []) (variable (codes "1") 4095 ∷ []), Some 4) ∷
    (document (cell 4096 [] [] ∷ []) (variable [] 0 ∷ []), Some 4) ∷
    (document (one ∷ cell 0 [] [] ∷ one ∷ []) [], Some 5) ∷
    (document (cell 4096 [] [] ∷ []) [], Some 5) ∷
    (document (cell 0 (codes "8") [] ∷ []) (variable (codes "a") 1 ∷ []), Some 6) ∷
    (document [] (variable (codes "a") 0 ∷ []), Some 7) ∷
    (document (guarded (integer (pos 1)) ∷ []) [], Some 1) ∷
    (document (guarded (string []) ∷ one ∷ []) [], Some 4) ∷
    (document (guarded (string (codes "1")) ∷ []) (variable [] 0 ∷ []), Some 4) ∷
    [])
unfolding hex_on_literals
rules_broken = refl

-- a guard that is named well breaks neither the rule of keys nor that of names, also where nothing has its name
guards_fit : Answers (λ rows. breaks_keys rows || breaks_names One rows) (
    (document (guarded (string (codes "T")) ∷ []) [], false) ∷
    (document (one ∷ guarded (string (codes "_1$")) ∷ []) (variable (codes "a") 0 ∷ []), false) ∷
    (document (guarded (string (codes "a b")) ∷ []) [], true) ∷
    [])
guards_fit = refl

-- a name that is missing, tokens that are no texts, another key; names; no token, one that stands twice, pools of one name
pools_broken : Answers (least_broken_of One) (
    (pools (pool (codes "P") (codes "R1" ∷ codes "R2" ∷ []) ∷ pool (codes "Q") (codes "R1" ∷ []) ∷ []), None) ∷
    (pools (table (member (codes "tokens") (texts (codes "R" ∷ [])) no_members) ∷ []), Some 1) ∷
    (pools (table (member (codes "name") (string (codes "P")) no_members) ∷ []), Some 1) ∷
    (pools (table (member (codes "name") (string (codes "P")) (member (codes "tokens") (string (codes "R")) no_members)) ∷ []), Some 1) ∷
    (pools (table (member (codes "name") (string (codes "P")) (member (codes "tokens") (array (items_of (string (codes "R") ∷ integer (pos 1) ∷ []))) no_members)) ∷ []), Some 1) ∷
    (pools (table (member (codes "cell") (integer (pos 0)) (member (codes "name") (string (codes "P")) (member (codes "tokens") (texts (codes "R" ∷ [])) no_members))) ∷ []), Some 1) ∷
    (pools (pool (codes "1") (codes "R" ∷ []) ∷ pool (codes "P") [] ∷ []), Some 4) ∷
    (pools (pool (codes "P") (codes "R" ∷ codes "" ∷ []) ∷ []), Some 4) ∷
    (pools (pool (codes "P") [] ∷ []), Some 8) ∷
    (pools (pool (codes "P") (codes "R" ∷ codes "S" ∷ codes "R" ∷ []) ∷ []), Some 8) ∷
    (pools (pool (codes "P") (codes "R" ∷ []) ∷ pool (codes "Q") (codes "R" ∷ []) ∷ pool (codes "P") (codes "S" ∷ []) ∷ []), Some 8) ∷
    [])
unfolding hex_on_literals
pools_broken = refl

-- guards, and pools in the order of the text
guards_said : (config_of One (document (guarded (string (codes "T")) ∷ one ∷ []) [])).cells
    ≡ record { number = 4095; of = unwrap_or (type_told One (codes "850120")) shape.boolean; value = unwrap_or (value_told One (codes "850107")) (datum.boolean false); guard = Some (codes "T") }
    ∷ record { number = 4095; of = unwrap_or (type_told One (codes "850120")) shape.boolean; value = unwrap_or (value_told One (codes "850107")) (datum.boolean false); guard = None } ∷ []
guards_said = refl

pools_said : (config_of One (pools (pool (codes "Q") (codes "R2" ∷ codes "R1" ∷ []) ∷ pool (codes "P") (codes "S" ∷ []) ∷ []))).pools
    ≡ record { name = codes "Q"; tokens = codes "R2" ∷ codes "R1" ∷ [] } ∷ record { name = codes "P"; tokens = codes "S" ∷ [] } ∷ []
pools_said = refl

-- variables in the order of the text
variables_said : (config_of One (document [] (variable (codes "b") 7 ∷ variable (codes "a") 0 ∷ []))).variables
    ≡ record { name = codes "b"; cell = 7 } ∷ record { name = codes "a"; cell = 0 } ∷ []
variables_said = refl
