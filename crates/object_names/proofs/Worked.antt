-- Worked examples of the names of a scope: octets typed by hand.
use Rattle.std.specs.Prelude.{◌≡◌, ℕ, List, [], ◌∷◌, map, Option, Some, None}
use Rattle.std.proofs.Common.{refl}
use Rattle.mms_types.specs.declared.key.Key.{Key}
use Rattle.mms_types.specs.declared.key.Scope.{Scope}
use Rattle.mms_types.specs.declared.key.Scope.TheVariants.{Vmd, Domain, Association}
use Rattle.object_names.specs.Listing.{names_after}

-- "Rob", "Robo", "Robot", "Robot_2", "Robot_20", "rob", "_", "A", "D", "DD", "z"
abbrev rob : List ℕ
rob = 82 ∷ 111 ∷ 98 ∷ []

abbrev robo : List ℕ
robo = 82 ∷ 111 ∷ 98 ∷ 111 ∷ []

abbrev robot : List ℕ
robot = 82 ∷ 111 ∷ 98 ∷ 111 ∷ 116 ∷ []

abbrev robot_2 : List ℕ
robot_2 = 82 ∷ 111 ∷ 98 ∷ 111 ∷ 116 ∷ 95 ∷ 50 ∷ []

abbrev robot_20 : List ℕ
robot_20 = 82 ∷ 111 ∷ 98 ∷ 111 ∷ 116 ∷ 95 ∷ 50 ∷ 48 ∷ []

abbrev small_rob : List ℕ
small_rob = 114 ∷ 111 ∷ 98 ∷ []

abbrev underscore : List ℕ
underscore = 95 ∷ []

abbrev a : List ℕ
a = 65 ∷ []

abbrev d : List ℕ
d = 68 ∷ []

abbrev dd : List ℕ
dd = 68 ∷ 68 ∷ []

abbrev z : List ℕ
z = 122 ∷ []

abbrev key : Scope → List ℕ → Key
key scope item = record { scope = scope; item = item }

-- a table in which names of the VMD, of two domains and of two associations stand mixed
abbrev rows : List (Key × ℕ)
rows =
    (key Vmd robot, 0) ∷ (key (Domain d) rob, 1) ∷ (key Vmd rob, 2) ∷ (key (Association 1) rob, 3) ∷
    (key Vmd small_rob, 4) ∷ (key Vmd underscore, 5) ∷ (key (Association 2) rob, 6) ∷ (key Vmd robot_2, 7) ∷
    (key Vmd a, 8) ∷ (key (Domain dd) rob, 9) ∷ []

-- a function answers each row of a table with its second column
abbrev Answers : {A B : Type 0} → (A → B) → List (A × B) → Type 0
Answers f table = map (λ row. f row.0) table ≡ map (λ row. row.1) table

abbrev listed : Scope × Option (List ℕ) → List (List ℕ)
listed asked = names_after asked.0 asked.1 rows

-- all names of a scope in order of octets, capitals before small letters, and those after a name, which need not be there
names_of_scopes : Answers listed (
    ((Vmd, None), a ∷ rob ∷ robot ∷ robot_2 ∷ underscore ∷ small_rob ∷ []) ∷
    ((Vmd, Some rob), robot ∷ robot_2 ∷ underscore ∷ small_rob ∷ []) ∷
    ((Vmd, Some robo), robot ∷ robot_2 ∷ underscore ∷ small_rob ∷ []) ∷
    ((Vmd, Some robot_20), underscore ∷ small_rob ∷ []) ∷
    ((Vmd, Some small_rob), []) ∷
    ((Vmd, Some z), []) ∷
    ((Domain d, None), rob ∷ []) ∷
    ((Domain d, Some rob), []) ∷
    ((Domain z, None), []) ∷
    ((Association 1, None), rob ∷ []) ∷
    ((Association 3, None), []) ∷
    [])
names_of_scopes = refl
