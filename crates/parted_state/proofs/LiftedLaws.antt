-- Where an event is served on the tables and the row that held parts show, and what is done is put in place, they are what the event makes of them.
use Rattle.std.specs.Prelude.{◌≡◌, ◌≢◌, ℕ, zero, suc, ◌+◌, ◌<◌, ◌≤◌, Bool, true, false, Option, None, Some, List, [], ◌∷◌, length, is_some, slice_get, unwrap_or, nat_lt, if◌then◌else◌, refl}
use Rattle.std.specs.Option.{option_map}
use Rattle.std.proofs.Common.{ap, ap₂, sym, ◌∙◌, inl, inr, subst, arith}
use Rattle.std.proofs.lemmas.Bool.Decides.{nat_tests}
use native.Mathlib.Decide.{ℕ_discrete}
use Rattle.part_table.specs.Held.{held_at, places_held, IsHandOf}
use Rattle.part_table.specs.HeldLaws.{free_by_places, held_of_list, held_within, hand_of, length-by_places}
use Rattle.parted_state.specs.Cut.{is_held, are_held, wanted_of}
use Rattle.parted_state.specs.CutLaws as laws
use Rattle.parted_state.specs.DeviceLaws.{as_many, client_at, shown_many, shown_row, shown_rows, spot, cut}
use Rattle.parted_state.specs.Lifted.{tables_shown, row_shown, put_from, with_tables, part_told, told_to, told_all, put_in_place}
use Rattle.parted_state.specs.ListsLaws.{get_change, get_changed}
use Rattle.parted_state.specs.Served.{Done, Device, Services, change, front, client_place, table_place, clients_among, parts_of, state_in, row_at, delivered, is_told, done_of, step, wants, need, after, IsInOrder, IsServed, IsDevice}
use Rattle.parted_state.specs.ServedLaws as served

-- ---- one place is changed

pub held_changed : {P : Type 0} (f : Option P → Option P) (hand : List (Option P)) (i : ℕ) (x : P) → held_at hand i ≡ Some x → held_at (change f hand i) i ≡ f (Some x)
held_changed f [] i x held = absurd (cc held)
held_changed f (h ∷ hand) zero x held = ap f held
held_changed f (h ∷ hand) (suc i) x held = held_changed f hand i x held

pub held_else : {P : Type 0} (f : Option P → Option P) (hand : List (Option P)) (i j : ℕ) → j ≢ i → held_at (change f hand i) j ≡ held_at hand j
held_else {P} f hand i j other = ap (λ (o : Option (Option P)). unwrap_or o None) (get_change f hand i j other)

-- two places are changed in either order
pub change_other : {A : Type 0} (f g : A → A) (xs : List A) (i j : ℕ) → i ≢ j → change f (change g xs i) j ≡ change g (change f xs j) i
change_other f g [] i j other = refl
change_other f g (x ∷ xs) zero zero other = absurd (other refl)
change_other f g (x ∷ xs) zero (suc j) other = refl
change_other f g (x ∷ xs) (suc i) zero other = refl
change_other {A} f g (x ∷ xs) (suc i) (suc j) other = ap (λ (l : List A). x ∷ l) (change_other f g xs i j (λ same. other (ap suc same)))

pub change_holds_the_same : {P : Type 0} (f : P → P) (hand : List (Option P)) (i : ℕ) → places_held (change (option_map f) hand i) ≡ places_held hand
change_holds_the_same f [] i = refl
change_holds_the_same f (None ∷ hand) zero = refl
change_holds_the_same f (Some x ∷ hand) zero = refl
change_holds_the_same f (h ∷ hand) (suc i) = ap (λ (l : List Bool). is_some h ∷ l) (change_holds_the_same f hand i)

module _ {S T R F P : Type 0} (d : Device S T R F P) (is : IsDevice d) (n : ℕ) where
  -- ---- places of tables and of clients

  pub apart : (k i : ℕ) → i < n → table_place d n k ≢ client_place d (suc i)
  apart k i few same = by_test (nat_lt k (front d)) refl same
    where
      by_test : (b : Bool) → nat_lt k (front d) ≡ b → (if b then k else k + n) ≡ client_place d (suc i) → ⊥
      by_test true e s = let below : k < front d = grind (arith, nat_tests) in omega (arith, below, s)
      by_test false e s = let past : front d ≤ k = grind (arith, nat_tests) in omega (arith, past, few, s)

  pub other_table : (k l : ℕ) → k ≢ l → table_place d n k ≢ table_place d n l
  other_table k l other same = by_test (nat_lt k (front d)) (nat_lt l (front d)) refl refl same
    where
      by_test : (b c : Bool) → nat_lt k (front d) ≡ b → nat_lt l (front d) ≡ c → (if b then k else k + n) ≡ (if c then l else l + n) → ⊥
      by_test true true e f s = other s
      by_test false false e f s = other (omega (arith, s))
      by_test true false e f s =
          let below : k < front d = grind (arith, nat_tests) in let past : front d ≤ l = grind (arith, nat_tests) in omega (arith, below, past, s)
      by_test false true e f s =
          let past : front d ≤ k = grind (arith, nat_tests) in let below : l < front d = grind (arith, nat_tests) in omega (arith, below, past, s)

  -- ---- the tables are put back

  put_past : (parts : List P) (k l : ℕ) (hand : List (Option P)) → l < k → held_at (put_from d n k parts hand) (table_place d n l) ≡ held_at hand (table_place d n l)
  put_past [] k l hand before = refl
  put_past (part ∷ parts) k l hand before =
      put_past parts (suc k) l (change (option_map (λ held. part)) hand (table_place d n k)) (omega (arith, before))
      ∙ held_else (option_map (λ held. part)) hand (table_place d n k) (table_place d n l) (other_table l k (λ same. omega (arith, before, same)))

  put_there : (parts : List P) (k l m : ℕ) (hand : List (Option P)) (x y : P) → m ≡ k + l → held_at hand (table_place d n m) ≡ Some y → slice_get parts l ≡ Some x
      → held_at (put_from d n k parts hand) (table_place d n m) ≡ Some x
  put_there [] k l m hand x y at held there = absurd (cc there)
  put_there (part ∷ parts) k zero m hand x y at held there =
      let first : m ≡ k = omega (arith, at) in
      put_past parts (suc k) m (change (option_map (λ held. part)) hand (table_place d n k)) (omega (arith, first))
      ∙ ap (λ (j : ℕ). held_at (change (option_map (λ held. part)) hand (table_place d n j)) (table_place d n m)) (sym first)
      ∙ held_changed (option_map (λ held. part)) hand (table_place d n m) y held
      ∙ there
  put_there (part ∷ parts) k (suc l) m hand x y at held there =
      put_there parts (suc k) l m (change (option_map (λ held. part)) hand (table_place d n k)) x y (omega (arith, at))
      (held_else (option_map (λ held. part)) hand (table_place d n k) (table_place d n m) (other_table m k (λ same. omega (arith, at, same))) ∙ held)
      there

  pub put_beside : (parts : List P) (k i : ℕ) (hand : List (Option P)) → i < n → held_at (put_from d n k parts hand) (client_place d (suc i)) ≡ held_at hand (client_place d (suc i))
  put_beside [] k i hand few = refl
  put_beside (part ∷ parts) k i hand few =
      put_beside parts (suc k) i (change (option_map (λ held. part)) hand (table_place d n k)) few
      ∙ held_else (option_map (λ held. part)) hand (table_place d n k) (client_place d (suc i)) (λ same. apart k i few (sym same))

  -- the part of a client is changed before the tables are put back, or after
  pub put_after : (parts : List P) (k i : ℕ) (f : Option P → Option P) (hand : List (Option P)) → i < n
      → put_from d n k parts (change f hand (client_place d (suc i))) ≡ change f (put_from d n k parts hand) (client_place d (suc i))
  put_after [] k i f hand few = refl
  put_after (part ∷ parts) k i f hand few =
      ap (λ (l : List (Option P)). put_from d n (suc k) parts l)
      (change_other (option_map (λ held. part)) f hand (client_place d (suc i)) (table_place d n k) (λ same. apart k i few (sym same)))
      ∙ put_after parts (suc k) i f (change (option_map (λ held. part)) hand (table_place d n k)) few

  -- parts that are held as they are put back
  pub put_as_held : (parts : List P) (k : ℕ) (hand : List (Option P))
      → ((l : ℕ) (x y : P) → slice_get parts l ≡ Some x → held_at hand (table_place d n (k + l)) ≡ Some y → x ≡ y) → put_from d n k parts hand ≡ hand
  put_as_held [] k hand same = refl
  put_as_held (part ∷ parts) k hand same =
      ap (put_from d n (suc k) parts) (as_there hand (table_place d n k) (λ y held. same 0 part y refl (ap (λ (m : ℕ). held_at hand (table_place d n m)) first ∙ held)))
      ∙ put_as_held parts (suc k) hand (λ l x y there held. same (suc l) x y there (ap (λ (m : ℕ). held_at hand (table_place d n m)) (next l) ∙ held))
    where
      first : k + 0 ≡ k
      first = omega arith

      next : (l : ℕ) → k + suc l ≡ suc k + l
      next l = omega arith

      as_there : (hand : List (Option P)) (i : ℕ) → ((y : P) → held_at hand i ≡ Some y → part ≡ y) → change (option_map (λ held. part)) hand i ≡ hand
      as_there [] i same = refl
      as_there (None ∷ hand) zero same = refl
      as_there (Some y ∷ hand) zero same = ap (λ (x : P). Some x ∷ hand) (same y refl)
      as_there (h ∷ hand) (suc i) same = ap (λ (l : List (Option P)). h ∷ l) (as_there hand i same)

  put_holds_the_same : (parts : List P) (k : ℕ) (hand : List (Option P)) → places_held (put_from d n k parts hand) ≡ places_held hand
  put_holds_the_same [] k hand = refl
  put_holds_the_same (part ∷ parts) k hand =
      put_holds_the_same parts (suc k) (change (option_map (λ held. part)) hand (table_place d n k)) ∙ change_holds_the_same (λ held. part) hand (table_place d n k)

  -- ---- clients are told

  told_holds_the_same : (told : List (ℕ × F)) (hand : List (Option P)) → places_held (told_all d n told hand) ≡ places_held hand
  told_holds_the_same [] hand = refl
  told_holds_the_same ((zero, effect) ∷ told) hand = told_holds_the_same told hand
  told_holds_the_same ((suc i, effect) ∷ told) hand = told_holds_the_same told (told_to d n (suc i) effect hand) ∙ by_test (nat_lt i n)
    where
      by_test : (b : Bool) → places_held (if b then change (option_map (part_told d effect)) hand (client_place d (suc i)) else hand) ≡ places_held hand
      by_test true = change_holds_the_same (part_told d effect) hand (client_place d (suc i))
      by_test false = refl

  told_beside : (told : List (ℕ × F)) (k : ℕ) (hand : List (Option P)) → held_at (told_all d n told hand) (table_place d n k) ≡ held_at hand (table_place d n k)
  told_beside [] k hand = refl
  told_beside ((zero, effect) ∷ told) k hand = told_beside told k hand
  told_beside ((suc i, effect) ∷ told) k hand = told_beside told k (told_to d n (suc i) effect hand) ∙ by_test (nat_lt i n) refl
    where
      by_test : (b : Bool) → nat_lt i n ≡ b
          → held_at (if b then change (option_map (part_told d effect)) hand (client_place d (suc i)) else hand) (table_place d n k) ≡ held_at hand (table_place d n k)
      by_test true e =
          let few : i < n = grind (arith, nat_tests) in
          held_else (option_map (part_told d effect)) hand (client_place d (suc i)) (table_place d n k) (apart k i few)
      by_test false e = refl

  -- the part of a client that is held becomes that of its row
  pub record Told (told : List (ℕ × F)) (hand : List (Option P)) (rows : List R) (j : ℕ) : Type 0 where
    pub row : R
    pub held : held_at (told_all d n told hand) (client_place d (suc j)) ≡ Some (d.client_part row)
    pub there : slice_get (delivered d told rows) j ≡ Some row

  client_told : (told : List (ℕ × F)) (hand : List (Option P)) (rows : List R) (j : ℕ) (row : R) → j < n → held_at hand (client_place d (suc j)) ≡ Some (d.client_part row)
      → slice_get rows j ≡ Some row → Told told hand rows j
  client_told [] hand rows j row few held there = record { row = row; held = held; there = there }
  client_told ((zero, effect) ∷ told) hand rows j row few held there =
      let rest = client_told told hand rows j row few held there in
      record { row = rest.row; held = rest.held; there = rest.there }
  client_told ((suc i, effect) ∷ told) hand rows j row few held there =
      by_place (λ r h t. client_told told (told_to d n (suc i) effect hand) (change (d.felt effect) rows i) j r few h t) (ℕ_discrete i j)
    where
      by_place : ((r : R) → held_at (told_to d n (suc i) effect hand) (client_place d (suc j)) ≡ Some (d.client_part r) → slice_get (change (d.felt effect) rows i) j ≡ Some r
          → Told told (told_to d n (suc i) effect hand) (change (d.felt effect) rows i) j) → Dec (i ≡ j) → Told ((suc i, effect) ∷ told) hand rows j
      by_place rest (yes same) =
          let own : nat_lt i n ≡ true = grind (arith, nat_tests) in
          let new : d.felt effect (d.row_in (Some (d.client_part row))) ≡ d.felt effect row = ap (d.felt effect) (is.row_back row) in
          let now = rest (d.felt effect row)
          (ap (λ (b : Bool). held_at (if b then change (option_map (part_told d effect)) hand (client_place d (suc i)) else hand) (client_place d (suc j))) own
          ∙ ap (λ (m : ℕ). held_at (change (option_map (part_told d effect)) hand (client_place d (suc m))) (client_place d (suc j))) same
          ∙ held_changed (option_map (part_told d effect)) hand (client_place d (suc j)) (d.client_part row) held
          ∙ ap (λ (r : R). Some (d.client_part r)) new)
          (ap (λ (m : ℕ). slice_get (change (d.felt effect) rows m) j) same ∙ get_changed (d.felt effect) rows j ∙ ap (option_map (d.felt effect)) there) in
          record { row = now.row; held = now.held; there = now.there }
      by_place rest (no other) =
          let now = rest row (by_test (nat_lt i n)) (get_change (d.felt effect) rows i j (λ same. other (sym same)) ∙ there) in
          record { row = now.row; held = now.held; there = now.there }
        where
          by_test : (b : Bool) → held_at (if b then change (option_map (part_told d effect)) hand (client_place d (suc i)) else hand) (client_place d (suc j)) ≡ Some (d.client_part row)
          by_test true = held_else (option_map (part_told d effect)) hand (client_place d (suc i)) (client_place d (suc j)) (λ same. other (omega (arith, same))) ∙ held
          by_test false = held

module _ {S T R F P : Type 0} (d : Device S T R F P) (is : IsDevice d) {E : Type 0} (v : Services T R F E) (event : E) (sv : IsServed d v event) where
  -- what is served on what held parts show
  abbrev pub done_shown : List (Option P) → Done T F
  done_shown hand = v.serves (tables_shown d hand) (row_shown d (v.own event) hand) event

  row_same : (hand : List (Option P)) (client : ℕ) → client ≤ clients_among d (length hand) → row_at d client (d.clients_of (state_in d hand)) ≡ row_shown d client hand
  row_same hand zero few = refl
  row_same hand (suc i) few =
      ap (λ (l : List R). unwrap_or (slice_get l i) d.nobody) (is.clients_back (tables_shown d hand) (shown_rows d is hand))
      ∙ ap (λ (o : Option R). unwrap_or o d.nobody) (shown_row d is hand i (omega (arith, few)))

  pub done_same : (hand : List (Option P)) → v.own event ≤ clients_among d (length hand) → done_shown hand ≡ done_of d v (state_in d hand) event
  done_same hand few =
      ap₂ (λ (t : T) (r : R). v.serves t r event) (sym (is.tables_back (tables_shown d hand) (shown_rows d is hand))) (sym (row_same hand (v.own event) few))

  module _ (s : S) (ordered : IsInOrder d s) (hand : List (Option P)) (of : IsHandOf hand (parts_of d s)) where
    abbrev st : S
    st = state_in d hand

    abbrev now : List (Option P)
    now = put_in_place d (done_of d v st event) hand

    abbrev n : ℕ
    n = clients_among d (length hand)

    many : length (d.clients_of st) ≡ n
    many = shown_many d is hand

    many_there : length (d.clients_of s) ≡ n
    many_there = let a = as_many d is s in let b = of.places in omega (arith, a, b)

    places_same : places_held now ≡ places_held hand
    places_same =
        told_holds_the_same d is n (done_of d v st event).told (with_tables d n (done_of d v st event).tables hand)
        ∙ put_holds_the_same d is n (d.table_parts (done_of d v st event).tables) 0 hand

    is_there : {A : Type 0} (xs : List A) (k : ℕ) → k < length xs → (x : A) × (slice_get xs k ≡ Some x)
    is_there [] k below = absurd (omega arith)
    is_there (x ∷ xs) zero below = (x, refl)
    is_there (x ∷ xs) (suc k) below = is_there xs k (omega arith)

    table_now : (k : ℕ) (y : P) → held_at hand (table_place d n k) ≡ Some y → slice_get (parts_of d (step d v st event)) (table_place d n k) ≡ held_at now (table_place d n k)
    table_now k y held =
        let within = held_within hand (table_place d n k) y held in
        let all = as_many d is s in
        let places = of.places in
        let small : k < d.tables = below (nat_lt k (front d)) refl (omega (arith, within, all, places, many_there)) in
        let parts = is.many (done_of d v st event).tables in
        let part = is_there (d.table_parts (done_of d v st event).tables) k (omega (arith, small, parts)) in
        ap (λ (m : ℕ). slice_get (parts_of d (step d v st event)) (table_place d m k)) (sym many)
        ∙ served.step_table d is v event sv st k
        ∙ part.1
        ∙ sym (told_beside d is n (done_of d v st event).told k (with_tables d n (done_of d v st event).tables hand)
        ∙ put_there d is n (d.table_parts (done_of d v st event).tables) 0 k k hand part.0 y (omega arith) held part.1)
      where
        below : (b : Bool) → nat_lt k (front d) ≡ b → (if b then k else k + n) < d.tables + n → k < d.tables
        below true e small = let before : k < front d = grind (arith, nat_tests) in let more = is.behind in omega (arith, before, more)
        below false e small = omega (arith, small)

    client_now : (j : ℕ) (y : P) → j < n → held_at hand (client_place d (suc j)) ≡ Some y
        → slice_get (parts_of d (step d v st event)) (client_place d (suc j)) ≡ held_at now (client_place d (suc j))
    client_now j y few held =
        let row = is_there (d.clients_of s) j (omega (arith, few, many_there)) in
        let part : Some y ≡ Some (d.client_part row.0) =
        sym (held_of_list hand (parts_of d s) (client_place d (suc j)) y of held) ∙ client_at d is s j (omega (arith, few, many_there)) ∙ ap (option_map d.client_part) row.1 in
        let shown : slice_get (d.clients_of st) j ≡ Some row.0 =
        ap (λ (l : List R). slice_get l j) (is.clients_back (tables_shown d hand) (shown_rows d is hand))
        ∙ shown_row d is hand j few ∙ ap (λ (o : Option P). Some (d.row_in o)) (held ∙ part) ∙ ap Some (is.row_back row.0) in
        let told = client_told d is n (done_of d v st event).told (with_tables d n (done_of d v st event).tables hand) (d.clients_of st) j row.0 few
        (put_beside d is n (d.table_parts (done_of d v st event).tables) 0 j hand few ∙ held ∙ part) shown in
        served.step_client d is v event sv st j (omega (arith, few, many)) ∙ ap (option_map d.client_part) told.there ∙ sym told.held

    held_before : (i : ℕ) (x : P) → held_at now i ≡ Some x → (y : P) × (held_at hand i ≡ Some y)
    held_before i x held = by_value (held_at hand i) refl
      where
        by_value : (o : Option P) → held_at hand i ≡ o → (y : P) × (held_at hand i ≡ Some y)
        by_value (Some y) e = (y, e)
        by_value None e = let free = free_by_places hand now i (sym places_same) e in absurd (cc (sym free ∙ held))

    part_now : (i : ℕ) (y : P) → held_at hand i ≡ Some y → slice_get (parts_of d (step d v st event)) i ≡ held_at now i
    part_now i y held =
        elim (spot d is n i) [
          | inl (k, e) ↦
              subst (λ (m : ℕ). slice_get (parts_of d (step d v st event)) m ≡ held_at now m) (sym e)
              (table_now k y (ap (λ (m : ℕ). held_at hand m) (sym e) ∙ held))
          | inr (j, few, e) ↦
              subst (λ (m : ℕ). slice_get (parts_of d (step d v st event)) m ≡ held_at now m) (sym e)
              (client_now j y few (ap (λ (m : ℕ). held_at hand m) (sym e) ∙ held))
        ]

    -- the part of a client that is held
    pub client_held : (j : ℕ) → j < n → is_held hand (client_place d (suc j)) ≡ true → (row : R) × (held_at hand (client_place d (suc j)) ≡ Some (d.client_part row))
    client_held j few held = by_value (held_at hand (client_place d (suc j))) refl held
      where
        by_value : (o : Option P) → held_at hand (client_place d (suc j)) ≡ o → is_some o ≡ true → (row : R) × (held_at hand (client_place d (suc j)) ≡ Some (d.client_part row))
        by_value None e on = absurd (cc on)
        by_value (Some y) e on =
            let row = is_there (d.clients_of s) j (omega (arith, few, many_there)) in
            (row.0, e ∙ sym (held_of_list hand (parts_of d s) (client_place d (suc j)) y of e) ∙ client_at d is s j (omega (arith, few, many_there)) ∙ ap (option_map d.client_part) row.1)

    module _ (enough : need d v event hand ≡ []) where
      shown_ordered : IsInOrder d st
      shown_ordered = (cut d is).in_order hand

      -- all that is wanted is held, so the part of the event's client, and of each that is told something
      wanted_held : are_held hand (wanted_of (wants d v event) st) ≡ true
      wanted_held =
          (laws.wanted_shown (parts_of d) (IsInOrder d) (state_in d) (wants d v event) st hand [] (record { as_many = refl; in_order = shown_ordered; same = λ i held. refl })
          (served.framed d is v event sv st shown_ordered).stages_told refl (laws.none_missing hand _ enough)).0

      pub own_held : (i : ℕ) → v.own event ≡ suc i → is_held hand (client_place d (suc i)) ≡ true
      own_held i own = laws.held_in hand (wanted_of (wants d v event) st) (client_place d (suc i)) wanted_held (served.own_in d is v event sv (length (d.clients_of st)) i _ own)

      pub told_held : (j : ℕ) → j < n → is_told (done_of d v st event).told (suc j) ≡ true → is_held hand (client_place d (suc j)) ≡ true
      told_held j few on =
          laws.held_in hand (wanted_of (wants d v event) st) (client_place d (suc j)) wanted_held (served.told_wanted d is v event sv st j (omega (arith, few, many)) on)

      hand_now : IsHandOf now (parts_of d (step d v s event))
      hand_now =
          let framed = served.framed d is v event sv in
          let shows = laws.shows_state (parts_of d) (IsInOrder d) (state_in d) (cut d is) hand s of in
          let same = length-by_places now hand places_same in
          let kept = (framed s ordered).touches.as_many in
          hand_of now (parts_of d (step d v s event)) (omega (arith, same, of.places, kept))
          (λ i x held.
          let before = held_before i x held in
          laws.held_told (parts_of d) (IsInOrder d) (state_in d) (wants d v event) (λ u. step d v u event) s hand shows (framed s ordered) enough (framed st shown_ordered) i (ap is_some before.1)
          ∙ part_now i before.0 before.1 ∙ held)

      -- held parts of a state, in whose places all is put that is done, are what the event makes of them
      pub in_place : v.own event ≤ clients_among d (length hand) → put_in_place d (done_shown hand) hand ≡ after d v event hand
      in_place few =
          ap (λ (x : Done T F). put_in_place d x hand) (done_same hand few)
          ∙ laws.is_after (parts_of d) (IsInOrder d) (state_in d) (wants d v event) (λ u. step d v u event) (cut d is) s hand now ordered (served.framed d is v event sv) of enough hand_now places_same

      -- and so they are held parts of the state after it
      pub of_state : v.own event ≤ clients_among d (length hand) → IsHandOf (put_in_place d (done_shown hand) hand) (parts_of d (step d v s event))
      of_state few = subst (λ (x : Done T F). IsHandOf (put_in_place d x hand) (parts_of d (step d v s event))) (sym (done_same hand few)) hand_now
