-- Rows that are looked at one after the other, and no two of which are equal.
use Rattle.std.proofs.Common.{◌≡◌, ℕ, nat_eq, ◌+◌, ◌<◌, length, drop, get_or, Bool, true, false, not, ◌&&◌, ◌||◌, List, [], ◌∷◌, ◌++◌, map, if◌then◌else◌, refl, sym, ap, ◌∙◌, Bor}
use Rattle.std.proofs.lemmas.Cmp.{nat_eq_equiv, nat_list_eq_equiv}
use Rattle.std.proofs.lemmas.List.{at_drop_more}
use Rattle.std.specs.List.{list_all, list_any}
use Rattle.indexmap.specs.IndexSet.{insert_key}
use Rattle.cell_config.specs.declared.rows.CellText.{CellText}
use Rattle.cell_config.specs.declared.rows.VariableText.{VariableText}
use Rattle.cell_config.specs.Rows.{CellTold, VariableTold}
use Rattle.cell_config.specs.Cells.{are_distinct, same_name, number_of, numbers_of, is_number, are_numbered, is_among, are_variables}
use Rattle.cell_config.specs.Seen.{cell_seen, variable_seen}

append_more : {Y : Type 0} (done rest : List Y) (y : Y) → (done ++ y ∷ []) ++ rest ≡ done ++ y ∷ rest
append_more [] rest y = refl
append_more (d ∷ done) rest y = ap (λ ys. d ∷ ys) (append_more done rest y)

-- ---- one that stood before

any_here : {X : Type 0} (f : X → Bool) (xs ys : List X) (x : X) → f x ≡ true → list_any f (xs ++ x ∷ ys) ≡ true
any_here f [] ys x h = ap (λ (b : Bool). b || list_any f ys) h
any_here f (y ∷ xs) ys x h = or_later (f y) _ (any_here f xs ys x h)
  where
    or_later : (a b : Bool) → b ≡ true → (a || b) ≡ true
    or_later true b e = refl
    or_later false b e = e

repeated : {X : Type 0} (equal : X → X → Bool) → ((a b : X) → equal a b ≡ equal b a) → (xs ys : List X) (x : X) → list_any (equal x) xs ≡ true
    → are_distinct equal (xs ++ x ∷ ys) ≡ false
repeated equal flips [] ys x h = cc
repeated equal flips (y ∷ xs) ys x h = by_first (equal x y) refl h (λ i. repeated equal flips xs ys x i)
  where
    later : (b c : Bool) → c ≡ false → (b && c) ≡ false
    later true c e = e
    later false c e = refl

    by_first : (b : Bool) → equal x y ≡ b → (b || list_any (equal x) xs) ≡ true → (list_any (equal x) xs ≡ true → are_distinct equal (xs ++ x ∷ ys) ≡ false)
        → are_distinct equal (y ∷ xs ++ x ∷ ys) ≡ false
    by_first true e i rest = ap (λ (b : Bool). not b && are_distinct equal (xs ++ x ∷ ys)) (any_here (equal y) xs ys x (flips y x ∙ e))
    by_first false e i rest = later (not (list_any (equal y) (xs ++ x ∷ ys))) _ (rest i)

-- ---- one that is new

none_more : {X : Type 0} (f : X → Bool) (xs : List X) (x : X) → list_any f xs ≡ false → f x ≡ false → list_any f (xs ++ x ∷ []) ≡ false
none_more f [] x e h = ap (λ (b : Bool). b || false) h
none_more f (y ∷ xs) x e h = by_first (f y) e (λ i. none_more f xs x i h)
  where
    by_first : (b : Bool) → (b || list_any f xs) ≡ false → (list_any f xs ≡ false → list_any f (xs ++ x ∷ []) ≡ false) → (b || list_any f (xs ++ x ∷ [])) ≡ false
    by_first true i rest = cc
    by_first false i rest = rest i

new_one : {X : Type 0} (equal : X → X → Bool) → ((a b : X) → equal a b ≡ equal b a) → (xs : List X) (x : X) → list_any (equal x) xs ≡ false
    → are_distinct equal xs ≡ true → are_distinct equal (xs ++ x ∷ []) ≡ true
new_one equal flips [] x h d = refl
new_one equal flips (y ∷ xs) x h d = by_first (equal x y) refl h (list_any (equal y) xs) refl d (λ i g. new_one equal flips xs x i g)
  where
    by_first : (b : Bool) → equal x y ≡ b → (b || list_any (equal x) xs) ≡ false → (c : Bool) → list_any (equal y) xs ≡ c → (not c && are_distinct equal xs) ≡ true
        → (list_any (equal x) xs ≡ false → are_distinct equal xs ≡ true → are_distinct equal (xs ++ x ∷ []) ≡ true)
        → are_distinct equal (y ∷ xs ++ x ∷ []) ≡ true
    by_first true e i c f g rest = cc
    by_first false e i true f g rest = cc
    by_first false e i false f g rest = ap (λ (b : Bool). not b && are_distinct equal (xs ++ x ∷ [])) (none_more (equal y) xs x f (flips y x ∙ e)) ∙ rest i g

-- ---- a list that is done so far, with what is left

any_mapped : {X Y : Type 0} (f : X → Y) (test : Y → Bool) (xs : List X) → list_any test (map f xs) ≡ list_any (λ x. test (f x)) xs
any_mapped f test [] = refl
any_mapped f test (x ∷ xs) = ap (λ (b : Bool). test (f x) || b) (any_mapped f test xs)

map_more : {X Y : Type 0} (f : X → Y) (xs : List X) (x : X) → map f (xs ++ x ∷ []) ≡ map f xs ++ f x ∷ []
map_more f [] x = refl
map_more f (y ∷ xs) x = ap (λ ys. f y ∷ ys) (map_more f xs x)

-- what stands behind those that are done is what the next one tells, and then the others
next_row : {X Y Z : Type 0} (seen : X → Y) (told : Y → Z) (xs : List X) (i : ℕ) (d : X) (done : List Z) → i < length xs → done ++ map told (map seen (drop i xs)) ≡ map told (map seen xs)
    → done ++ told (seen (get_or xs i d)) ∷ map told (map seen (drop (i + 1) xs)) ≡ map told (map seen xs)
next_row {X} seen told xs i d done h so_far = sym (at_drop_more (λ (ys : List X). done ++ map told (map seen ys)) xs i d h) ∙ so_far

one_done : {X Y Z : Type 0} (seen : X → Y) (told : Y → Z) (xs : List X) (i : ℕ) (d : X) (done : List Z) (z : Z) → i < length xs → done ++ map told (map seen (drop i xs)) ≡ map told (map seen xs)
    → z ≡ told (seen (get_or xs i d)) → (done ++ z ∷ []) ++ map told (map seen (drop (i + 1) xs)) ≡ map told (map seen xs)
one_done {X} {Y} {Z} seen told xs i d done z h so_far is =
    append_more done (map told (map seen (drop (i + 1) xs))) z
    ∙ ap (λ (y : Z). done ++ y ∷ map told (map seen (drop (i + 1) xs))) is
    ∙ next_row seen told xs i d done h so_far

and_false : (a b : Bool) → b ≡ false → false ≡ (a && b)
and_false true b e = sym e
and_false false b e = refl

-- an insertion tells whether the key is new, and puts that one last
was_there : (b c : Bool) → b ≡ not c → b ≡ false → c ≡ true
was_there b true e f = refl
was_there b false e f = sym f ∙ e

is_new : (b c : Bool) → b ≡ not c → b ≡ true → c ≡ false
is_new b false e f = refl
is_new b true e f = sym f ∙ e

-- ---- numbers of cells

-- the numbers so far differ; with those of the cells that are left they are all; and those that are left are in range where all are
abbrev pub NumbersSoFar : List CellText → ℕ → List ℕ → Type 0
NumbersSoFar cells i keys =
    (are_distinct nat_eq keys ≡ true)
    × (keys ++ numbers_of (map cell_seen (drop i cells)) ≡ numbers_of (map cell_seen cells))
    × (list_all (λ (cell : CellTold). is_number cell.number) (map cell_seen (drop i cells)) ≡ list_all (λ (cell : CellTold). is_number cell.number) (map cell_seen cells))

-- a number that stood before
pub number_twice : (cells : List CellText) (i : ℕ) (d : CellText) (keys : List ℕ) (n : ℕ) (b : Bool) → i < length cells → n ≡ number_of (get_or cells i d).number
    → b ≡ not (list_any (nat_eq n) keys) → b ≡ false → NumbersSoFar cells i keys → false ≡ are_numbered (map cell_seen cells)
number_twice cells i d keys n b h is added there so_far =
    and_false (list_all (λ (cell : CellTold). is_number cell.number) (map cell_seen cells)) _
    (sym (ap (are_distinct nat_eq) (next_row cell_seen (λ (cell : CellTold). number_of cell.number) cells i d keys h so_far.1))
    ∙ sym (ap (λ (m : ℕ). are_distinct nat_eq (keys ++ m ∷ numbers_of (map cell_seen (drop (i + 1) cells)))) is)
    ∙ repeated nat_eq nat_eq_equiv.symm keys _ n (was_there b _ added there))

-- a new number, in range
pub number_step : (cells : List CellText) (i : ℕ) (d : CellText) (keys next : List ℕ) (n : ℕ) (b : Bool) → i < length cells → n ≡ number_of (get_or cells i d).number
    → true ≡ is_number (get_or cells i d).number → b ≡ not (list_any (nat_eq n) keys) → b ≡ true → next ≡ insert_key nat_eq keys n → NumbersSoFar cells i keys → NumbersSoFar cells (i + 1) next
number_step cells i d keys next n b h is passed added new keys_are so_far =
    let none = is_new b (list_any (nat_eq n) keys) added new in
    let last : next ≡ keys ++ n ∷ [] = keys_are ∙ ap (λ (c : Bool). if c then keys else keys ++ n ∷ []) none in (
      ap (are_distinct nat_eq) last ∙ new_one nat_eq nat_eq_equiv.symm keys n none so_far.0,
      ap (λ (ks : List ℕ). ks ++ numbers_of (map cell_seen (drop (i + 1) cells))) last
          ∙ one_done cell_seen (λ (cell : CellTold). number_of cell.number) cells i d keys n h so_far.1 is,
      sym (at_drop_more (λ (ys : List CellText). list_all (λ (cell : CellTold). is_number cell.number) (map cell_seen ys)) cells i d h
          ∙ ap (λ (c : Bool). c && list_all (λ (cell : CellTold). is_number cell.number) (map cell_seen (drop (i + 1) cells))) (sym passed))
          ∙ so_far.2,
    )

-- ---- names of variables

abbrev names_in : List (Bor (List ℕ)) → List (List ℕ)
names_in keys = map (λ (k : Bor (List ℕ)). k.now) keys

-- the names so far differ; with those of the variables that are left they are all; and those that are left have cells where all have
abbrev pub NamesSoFar : List VariableText → List ℕ → ℕ → List (Bor (List ℕ)) → Type 0
NamesSoFar variables numbers i keys =
    (are_distinct same_name (names_in keys) ≡ true)
    × (names_in keys ++ map (λ (v : VariableTold). v.name) (map variable_seen (drop i variables)) ≡ map (λ (v : VariableTold). v.name) (map variable_seen variables))
    × (list_all (λ (v : VariableTold). is_among numbers v.cell) (map variable_seen (drop i variables)) ≡ list_all (λ (v : VariableTold). is_among numbers v.cell) (map variable_seen variables))

-- a name that stood before
pub name_twice : (variables : List VariableText) (numbers : List ℕ) (i : ℕ) (d : VariableText) (keys : List (Bor (List ℕ))) (b : Bool) → i < length variables
    → b ≡ not (list_any (λ (k : Bor (List ℕ)). same_name (get_or variables i d).name.now k.now) keys) → b ≡ false
    → NamesSoFar variables numbers i keys → false ≡ are_variables numbers (map variable_seen variables)
name_twice variables numbers i d keys b h added there so_far =
    and_false (list_all (λ (v : VariableTold). is_among numbers v.cell) (map variable_seen variables)) _
    (sym (ap (are_distinct same_name) (next_row variable_seen (λ (v : VariableTold). v.name) variables i d (names_in keys) h so_far.1))
    ∙ repeated same_name nat_list_eq_equiv.symm (names_in keys) _ (get_or variables i d).name.now
    (any_mapped (λ (k : Bor (List ℕ)). k.now) (same_name (get_or variables i d).name.now) keys ∙ was_there b _ added there))

-- a new name, of a cell that is there
pub name_step : (variables : List VariableText) (numbers : List ℕ) (i : ℕ) (d : VariableText) (keys next : List (Bor (List ℕ))) (b : Bool) → i < length variables
    → is_among numbers (get_or variables i d).cell ≡ true
    → b ≡ not (list_any (λ (k : Bor (List ℕ)). same_name (get_or variables i d).name.now k.now) keys) → b ≡ true
    → next ≡ insert_key (λ (j k : Bor (List ℕ)). same_name j.now k.now) keys (get_or variables i d).name
    → NamesSoFar variables numbers i keys → NamesSoFar variables numbers (i + 1) next
name_step variables numbers i d keys next b h passed added new keys_are so_far =
    let n = (get_or variables i d).name in
    let none = is_new b (list_any (λ (k : Bor (List ℕ)). same_name n.now k.now) keys) added new in
    let last : next ≡ keys ++ n ∷ [] = keys_are ∙ ap (λ (c : Bool). if c then keys else keys ++ n ∷ []) none in
    let names : names_in next ≡ names_in keys ++ n.now ∷ [] = ap names_in last ∙ map_more (λ (k : Bor (List ℕ)). k.now) keys n in (
      ap (are_distinct same_name) names
          ∙ new_one same_name nat_list_eq_equiv.symm (names_in keys) n.now (any_mapped (λ (k : Bor (List ℕ)). k.now) (same_name n.now) keys ∙ none) so_far.0,
      ap (λ (done : List (List ℕ)). done ++ map (λ (v : VariableTold). v.name) (map variable_seen (drop (i + 1) variables))) names
          ∙ one_done variable_seen (λ (v : VariableTold). v.name) variables i d (names_in keys) n.now h so_far.1 refl,
      sym (at_drop_more (λ (ys : List VariableText). list_all (λ (v : VariableTold). is_among numbers v.cell) (map variable_seen ys)) variables i d h
          ∙ ap (λ (c : Bool). c && list_all (λ (v : VariableTold). is_among numbers v.cell) (map variable_seen (drop (i + 1) variables))) passed)
          ∙ so_far.2,
    )

-- ---- any names

-- what stands behind those that are done is the next one, and then the others
next_text : (texts : List (Bor (List ℕ))) (i : ℕ) (d : Bor (List ℕ)) (done : List (List ℕ)) → i < length texts → done ++ names_in (drop i texts) ≡ names_in texts
    → done ++ (get_or texts i d).now ∷ names_in (drop (i + 1) texts) ≡ names_in texts
next_text texts i d done h so_far = sym (at_drop_more (λ (ys : List (Bor (List ℕ))). done ++ names_in ys) texts i d h) ∙ so_far

-- the names so far differ, and with those that are left they are all
abbrev pub TextsSoFar : List (Bor (List ℕ)) → ℕ → List (Bor (List ℕ)) → Type 0
TextsSoFar texts i keys = (are_distinct same_name (names_in keys) ≡ true) × (names_in keys ++ names_in (drop i texts) ≡ names_in texts)

-- a name that stood before
pub text_twice : (texts : List (Bor (List ℕ))) (i : ℕ) (d : Bor (List ℕ)) (keys : List (Bor (List ℕ))) (b : Bool) → i < length texts
    → b ≡ not (list_any (λ (k : Bor (List ℕ)). same_name (get_or texts i d).now k.now) keys) → b ≡ false
    → TextsSoFar texts i keys → false ≡ are_distinct same_name (names_in texts)
text_twice texts i d keys b h added there so_far =
    sym (sym (ap (are_distinct same_name) (next_text texts i d (names_in keys) h so_far.1))
    ∙ repeated same_name nat_list_eq_equiv.symm (names_in keys) _ (get_or texts i d).now
    (any_mapped (λ (k : Bor (List ℕ)). k.now) (same_name (get_or texts i d).now) keys ∙ was_there b _ added there))

-- a new name
pub text_step : (texts : List (Bor (List ℕ))) (i : ℕ) (d : Bor (List ℕ)) (keys next : List (Bor (List ℕ))) (b : Bool) → i < length texts
    → b ≡ not (list_any (λ (k : Bor (List ℕ)). same_name (get_or texts i d).now k.now) keys) → b ≡ true
    → next ≡ insert_key (λ (j k : Bor (List ℕ)). same_name j.now k.now) keys (get_or texts i d)
    → TextsSoFar texts i keys → TextsSoFar texts (i + 1) next
text_step texts i d keys next b h added new keys_are so_far =
    let n = get_or texts i d in
    let none = is_new b (list_any (λ (k : Bor (List ℕ)). same_name n.now k.now) keys) added new in
    let last : next ≡ keys ++ n ∷ [] = keys_are ∙ ap (λ (c : Bool). if c then keys else keys ++ n ∷ []) none in
    let names : names_in next ≡ names_in keys ++ n.now ∷ [] = ap names_in last ∙ map_more (λ (k : Bor (List ℕ)). k.now) keys n in (
      ap (are_distinct same_name) names
          ∙ new_one same_name nat_list_eq_equiv.symm (names_in keys) n.now (any_mapped (λ (k : Bor (List ℕ)). k.now) (same_name n.now) keys ∙ none) so_far.0,
      ap (λ (done : List (List ℕ)). done ++ names_in (drop (i + 1) texts)) names
          ∙ append_more (names_in keys) (names_in (drop (i + 1) texts)) n.now ∙ next_text texts i d (names_in keys) h so_far.1,
    )

-- variables whose cells are there have numbers of cells
pub in_range : (numbers : List ℕ) (told : List VariableTold) → are_variables numbers told ≡ true → list_all (λ (v : VariableTold). is_number v.cell) told ≡ true
in_range numbers told h = each told (left (list_all (λ (v : VariableTold). is_among numbers v.cell) told) _ h)
  where
    left : (a b : Bool) → (a && b) ≡ true → a ≡ true
    left true b e = refl
    left false b e = cc

    right : (a b : Bool) → (a && b) ≡ true → b ≡ true
    right true b e = e
    right false b e = cc

    join : (a b : Bool) → a ≡ true → b ≡ true → (a && b) ≡ true
    join true b e f = f
    join false b e f = cc

    each : (vs : List VariableTold) → list_all (λ (v : VariableTold). is_among numbers v.cell) vs ≡ true → list_all (λ (v : VariableTold). is_number v.cell) vs ≡ true
    each [] e = refl
    each (v ∷ vs) e = join (is_number v.cell) _ (left (is_number v.cell) _ (left (is_among numbers v.cell) _ e)) (each vs (right (is_among numbers v.cell) _ e))
