-- A device of tables and clients is a state that is cut into parts.
use Rattle.std.specs.Prelude.{◌≡◌, ℕ, zero, suc, ◌+◌, ◌-◌, ◌<◌, ◌≤◌, Bool, true, false, Option, None, Some, List, [], ◌∷◌, ◌++◌, map, take, drop, length, slice_get, unwrap_or, nat_lt, if◌then◌else◌, refl}
use Rattle.std.specs.Option.{option_map}
use Rattle.std.proofs.Common.{ap, ap₂, sym, subst, ◌∙◌, ◌⊎◌, inl, inr, arith, length-append, length-drop}
use Rattle.std.proofs.lemmas.Bool.Decides.{nat_tests}
use Rattle.std.proofs.lemmas.List.{length-map, length-take}
use Rattle.part_table.specs.Held.{held_at}
use Rattle.parted_state.specs.Cut.{IsCut}
use Rattle.parted_state.specs.Served.{Device, around, front, client_place, table_place, clients_among, parts_of, state_in, IsInOrder, IsDevice}
use Rattle.parted_state.specs.ListsLaws.{get_some, get_front, get_behind, get_past, get_take, get_drop, same_list, around_front, around_behind}

module _ {S T R F P : Type 0} (d : Device S T R F P) (is : IsDevice d) where
  -- ---- where the parts stand

  pub as_many : (s : S) → length (parts_of d s) ≡ d.tables + length (d.clients_of s)
  as_many s =
      let xs = d.table_parts (d.tables_of s) in
      let below = is.behind in
      let all = is.many (d.tables_of s) in
      let rows = length-map (d.clients_of s) d.client_part in
      let a = length-append (take (front d) xs) (map d.client_part (d.clients_of s) ++ drop (front d) xs) in
      let b = length-append (map d.client_part (d.clients_of s)) (drop (front d) xs) in
      let t = length-take (front d) xs in
      let u = length-drop (front d) xs in
      omega (arith, below, all, rows, a, b, t, u)

  front_many : (t : T) → length (take (front d) (d.table_parts t)) ≡ front d
  front_many t =
      let below = is.behind in
      let all = is.many t in
      let l = length-take (front d) (d.table_parts t) in
      omega (arith, below, all, l)

  pub table_at : (s : S) (k : ℕ) → slice_get (parts_of d s) (table_place d (length (d.clients_of s)) k) ≡ slice_get (d.table_parts (d.tables_of s)) k
  table_at s k = by_test (nat_lt k (front d)) refl
    where
      by_test : (b : Bool) → nat_lt k (front d) ≡ b
          → slice_get (parts_of d s) (if b then k else k + length (d.clients_of s)) ≡ slice_get (d.table_parts (d.tables_of s)) k
      by_test true e =
          let below : k < front d = grind (arith, nat_tests) in
          let many = front_many (d.tables_of s) in
          get_front (take (front d) (d.table_parts (d.tables_of s))) (map d.client_part (d.clients_of s) ++ drop (front d) (d.table_parts (d.tables_of s))) k (omega (arith, below, many))
          ∙ get_take (front d) (d.table_parts (d.tables_of s)) k below
      by_test false e =
          let past : front d ≤ k = grind (arith, nat_tests) in
          let many = front_many (d.tables_of s) in
          let rows = length-map (d.clients_of s) d.client_part in
          let n = length (d.clients_of s) in
          get_behind (take (front d) (d.table_parts (d.tables_of s))) (map d.client_part (d.clients_of s) ++ drop (front d) (d.table_parts (d.tables_of s))) (k + n) (k - front d + n)
          (omega (arith, past, many))
          ∙ get_behind (map d.client_part (d.clients_of s)) (drop (front d) (d.table_parts (d.tables_of s))) (k - front d + n) (k - front d) (omega (arith, rows))
          ∙ get_drop (front d) (d.table_parts (d.tables_of s)) k (k - front d) (omega (arith, past))

  get_mapped : (rows : List R) (i : ℕ) → slice_get (map d.client_part rows) i ≡ option_map d.client_part (slice_get rows i)
  get_mapped [] i = refl
  get_mapped (row ∷ rows) zero = refl
  get_mapped (row ∷ rows) (suc i) = get_mapped rows i

  pub client_at : (s : S) (i : ℕ) → i < length (d.clients_of s) → slice_get (parts_of d s) (client_place d (suc i)) ≡ option_map d.client_part (slice_get (d.clients_of s) i)
  client_at s i below =
      let many = front_many (d.tables_of s) in
      let rows = length-map (d.clients_of s) d.client_part in
      get_behind (take (front d) (d.table_parts (d.tables_of s))) (map d.client_part (d.clients_of s) ++ drop (front d) (d.table_parts (d.tables_of s))) (client_place d (suc i)) i
      (omega (arith, many))
      ∙ get_front (map d.client_part (d.clients_of s)) (drop (front d) (d.table_parts (d.tables_of s))) i (omega (arith, rows, below))
      ∙ get_mapped (d.clients_of s) i

  -- each place is a table's or a client's
  pub spot : (n i : ℕ) → ((k : ℕ) × (i ≡ table_place d n k)) ⊎ ((j : ℕ) × (j < n) × (i ≡ client_place d (suc j)))
  spot n i = by_front (nat_lt i (front d)) refl
    where
      by_back : (b : Bool) → nat_lt i (front d) ≡ false → nat_lt i (front d + n) ≡ b → ((k : ℕ) × (i ≡ table_place d n k)) ⊎ ((j : ℕ) × (j < n) × (i ≡ client_place d (suc j)))
      by_back true e f =
          let past : front d ≤ i = grind (arith, nat_tests) in
          let below : i < front d + n = grind (arith, nat_tests) in
          inr (i - front d, omega (arith, past, below), omega (arith, past))
      by_back false e f =
          let past : front d + n ≤ i = grind (arith, nat_tests) in
          let no : nat_lt (i - n) (front d) ≡ false = grind (arith, nat_tests) in
          let same : i ≡ i - n + n = omega (arith, past) in
          inl (i - n, same ∙ ap (λ (b : Bool). if b then i - n else i - n + n) (sym no))

      by_front : (b : Bool) → nat_lt i (front d) ≡ b → ((k : ℕ) × (i ≡ table_place d n k)) ⊎ ((j : ℕ) × (j < n) × (i ≡ client_place d (suc j)))
      by_front true e = inl (i, ap (λ (b : Bool). if b then i else i + n) (sym e))
      by_front false e = by_back (nat_lt i (front d + n)) e refl

  -- ---- held parts show a state

  pub around_at : {A : Type 0} (n : ℕ) (xs : List A) (k : ℕ) → slice_get (around (front d) n xs) k ≡ slice_get xs (table_place d n k)
  around_at {A} n xs k = by_test (nat_lt k (front d)) refl
    where
      by_test : (b : Bool) → nat_lt k (front d) ≡ b → slice_get (around (front d) n xs) k ≡ slice_get xs (if b then k else k + n)
      by_test true e = let below : k < front d = grind (arith, nat_tests) in around_front (front d) n xs k below
      by_test false e = let past : front d ≤ k = grind (arith, nat_tests) in around_behind (front d) n xs k (k + n) past refl

  abbrev pub shown_rows : List (Option P) → List R
  shown_rows hand = map d.row_in (take (clients_among d (length hand)) (drop (front d) hand))

  many_rows : (hand : List (Option P)) → length (shown_rows hand) ≡ clients_among d (length hand)
  many_rows hand =
      let n = clients_among d (length hand) in
      let below = is.behind in
      let a = length-map (take n (drop (front d) hand)) d.row_in in
      let b = length-take n (drop (front d) hand) in
      let c = length-drop (front d) hand in
      omega (arith, below, a, b, c)

  pub shown_many : (hand : List (Option P)) → length (d.clients_of (state_in d hand)) ≡ clients_among d (length hand)
  shown_many hand =
      ap (λ (l : List R). length l) (is.clients_back (d.tables_in (around (front d) (clients_among d (length hand)) hand)) (shown_rows hand)) ∙ many_rows hand

  shown_table : (hand : List (Option P)) (k : ℕ) → slice_get (parts_of d (state_in d hand)) (table_place d (clients_among d (length hand)) k)
      ≡ slice_get (d.table_parts (d.tables_in (around (front d) (clients_among d (length hand)) hand))) k
  shown_table hand k =
      ap (λ (n : ℕ). slice_get (parts_of d (state_in d hand)) (table_place d n k)) (sym (shown_many hand))
      ∙ table_at (state_in d hand) k
      ∙ ap (λ (t : T). slice_get (d.table_parts t) k) (is.tables_back (d.tables_in (around (front d) (clients_among d (length hand)) hand)) (shown_rows hand))

  is_placed : {A : Type 0} (hand : List (Option A)) (i : ℕ) → i < length hand → slice_get hand i ≡ Some (held_at hand i)
  is_placed [] i below = absurd (omega arith)
  is_placed (h ∷ hand) zero below = refl
  is_placed (h ∷ hand) (suc i) below = is_placed hand i (omega arith)

  get_shown : (xs : List (Option P)) (i : ℕ) → slice_get (map d.row_in xs) i ≡ option_map d.row_in (slice_get xs i)
  get_shown [] i = refl
  get_shown (x ∷ xs) zero = refl
  get_shown (x ∷ xs) (suc i) = get_shown xs i

  pub shown_row : (hand : List (Option P)) (j : ℕ) → j < clients_among d (length hand) → slice_get (shown_rows hand) j ≡ Some (d.row_in (held_at hand (client_place d (suc j))))
  shown_row hand j below =
      let n = clients_among d (length hand) in
      let more = is.behind in
      get_shown (take n (drop (front d) hand)) j
      ∙ ap (option_map d.row_in) (get_take n (drop (front d) hand) j below ∙ get_drop (front d) hand (client_place d (suc j)) j (omega arith)
      ∙ is_placed hand (client_place d (suc j)) (omega (arith, below, more)))

  shown_client : (hand : List (Option P)) (j : ℕ) → j < clients_among d (length hand)
      → slice_get (parts_of d (state_in d hand)) (client_place d (suc j)) ≡ Some (d.client_part (d.row_in (held_at hand (client_place d (suc j)))))
  shown_client hand j below =
      let many = shown_many hand in
      client_at (state_in d hand) j (omega (arith, many, below))
      ∙ ap (λ (l : List R). option_map d.client_part (slice_get l j)) (is.clients_back (d.tables_in (around (front d) (clients_among d (length hand)) hand)) (shown_rows hand))
      ∙ ap (option_map d.client_part) (shown_row hand j below)

  by_place : (one other : List (Option P)) (i : ℕ) → length one ≡ length other → held_at one i ≡ held_at other i
      → slice_get (parts_of d (state_in d one)) i ≡ slice_get (parts_of d (state_in d other)) i
  by_place one other i same held =
      elim (spot (clients_among d (length one)) i) [
        | inl (k, e) ↦
            let there : held_at one (table_place d (clients_among d (length one)) k) ≡ held_at other (table_place d (clients_among d (length one)) k) = ap (λ (m : ℕ). held_at one m) (sym e) ∙ held ∙ ap (λ (m : ℕ). held_at other m) e in
            ap (λ (m : ℕ). slice_get (parts_of d (state_in d one)) m) e
            ∙ shown_table one k
            ∙ is.by_place (around (front d) (clients_among d (length one)) one) (around (front d) (clients_among d (length other)) other) k
            (ap (λ (o : Option (Option P)). unwrap_or o None) (around_at (clients_among d (length one)) one k) ∙ there
            ∙ ap (λ (m : ℕ). held_at other (table_place d m k)) counted
            ∙ sym (ap (λ (o : Option (Option P)). unwrap_or o None) (around_at (clients_among d (length other)) other k)))
            ∙ sym (shown_table other k)
            ∙ ap (λ (m : ℕ). slice_get (parts_of d (state_in d other)) (table_place d m k)) (sym counted)
            ∙ ap (λ (m : ℕ). slice_get (parts_of d (state_in d other)) m) (sym e)
        | inr (j, below, e) ↦
            let there : held_at one (client_place d (suc j)) ≡ held_at other (client_place d (suc j)) = ap (λ (m : ℕ). held_at one m) (sym e) ∙ held ∙ ap (λ (m : ℕ). held_at other m) e in
            ap (λ (m : ℕ). slice_get (parts_of d (state_in d one)) m) e
            ∙ shown_client one j below
            ∙ ap (λ (o : Option P). Some (d.client_part (d.row_in o))) there
            ∙ sym (shown_client other j (omega (arith, below, counted)))
            ∙ ap (λ (m : ℕ). slice_get (parts_of d (state_in d other)) m) (sym e)
      ]
    where
      counted : clients_among d (length one) ≡ clients_among d (length other)
      counted = ap (λ (m : ℕ). clients_among d m) same

  module _ (s : S) where
    counted : clients_among d (length (map Some (parts_of d s))) ≡ length (d.clients_of s)
    counted = let a = length-map (parts_of d s) Some in let b = as_many s in omega (arith, a, b)

    seen : (k : ℕ) → slice_get (around (front d) (clients_among d (length (map Some (parts_of d s)))) (map Some (parts_of d s))) k ≡ slice_get (map Some (d.table_parts (d.tables_of s))) k
    seen k =
        around_at (clients_among d (length (map Some (parts_of d s)))) (map Some (parts_of d s)) k
        ∙ ap (λ (n : ℕ). slice_get (map Some (parts_of d s)) (table_place d n k)) counted
        ∙ get_some (parts_of d s) (table_place d (length (d.clients_of s)) k)
        ∙ ap (option_map Some) (table_at s k)
        ∙ sym (get_some (d.table_parts (d.tables_of s)) k)

    tables_same : d.tables_in (around (front d) (clients_among d (length (map Some (parts_of d s)))) (map Some (parts_of d s))) ≡ d.tables_in (map Some (d.table_parts (d.tables_of s)))
    tables_same = ap d.tables_in (same_list (around (front d) (clients_among d (length (map Some (parts_of d s)))) (map Some (parts_of d s))) (map Some (d.table_parts (d.tables_of s))) seen)

    back : (o : Option R) → option_map d.row_in (option_map Some (option_map d.client_part o)) ≡ o
    back None = refl
    back (Some row) = ap Some (is.row_back row)

    row : (j : ℕ) (b : Bool) → nat_lt j (clients_among d (length (map Some (parts_of d s)))) ≡ b → slice_get (shown_rows (map Some (parts_of d s))) j ≡ slice_get (d.clients_of s) j
    row j true e =
        let below : j < clients_among d (length (map Some (parts_of d s))) = grind (arith, nat_tests) in
        let few : j < length (d.clients_of s) = omega (arith, below, counted) in
        let more = is.behind in
        get_shown (take (clients_among d (length (map Some (parts_of d s)))) (drop (front d) (map Some (parts_of d s)))) j
        ∙ ap (option_map d.row_in) (get_take (clients_among d (length (map Some (parts_of d s)))) (drop (front d) (map Some (parts_of d s))) j below ∙ get_drop (front d) (map Some (parts_of d s)) (client_place d (suc j)) j (omega arith)
        ∙ get_some (parts_of d s) (client_place d (suc j)) ∙ ap (option_map Some) (client_at s j few))
        ∙ back (slice_get (d.clients_of s) j)
    row j false e =
        let past : clients_among d (length (map Some (parts_of d s))) ≤ j = grind (arith, nat_tests) in
        let many = many_rows (map Some (parts_of d s)) in
        get_past (shown_rows (map Some (parts_of d s))) j (omega (arith, many, past)) ∙ sym (get_past (d.clients_of s) j (omega (arith, past, counted)))

    rows_same : shown_rows (map Some (parts_of d s)) ≡ d.clients_of s
    rows_same = same_list (shown_rows (map Some (parts_of d s))) (d.clients_of s) (λ j. row j (nat_lt j (clients_among d (length (map Some (parts_of d s))))) refl)

    seen_as : state_in d (map Some (parts_of d s)) ≡ d.state_of (d.tables_in (map Some (d.table_parts (d.tables_of s)))) (d.clients_of s)
    seen_as = ap₂ (λ (t : T) (rows : List R). d.state_of t rows) tables_same rows_same

  whole : (s : S) → IsInOrder d s → state_in d (map Some (parts_of d s)) ≡ s
  whole s in_order = seen_as s ∙ ap (λ (t : T). d.state_of t (d.clients_of s)) (is.whole (d.tables_of s) in_order) ∙ is.state_back s

  shown : (s : S) → parts_of d (state_in d (map Some (parts_of d s))) ≡ parts_of d s
  shown s =
      ap (parts_of d) (seen_as s)
      ∙ ap₂ (λ (xs : List P) (rows : List R). take (front d) xs ++ (map d.client_part rows ++ drop (front d) xs))
      (ap d.table_parts (is.tables_back (d.tables_in (map Some (d.table_parts (d.tables_of s)))) (d.clients_of s)) ∙ is.shown (d.tables_of s))
      (is.clients_back (d.tables_in (map Some (d.table_parts (d.tables_of s)))) (d.clients_of s))

  in_order : (hand : List (Option P)) → IsInOrder d (state_in d hand)
  in_order hand =
      subst d.InOrder (sym (is.tables_back (d.tables_in (around (front d) (clients_among d (length hand)) hand)) (shown_rows hand)))
      (is.in_order (around (front d) (clients_among d (length hand)) hand))

  pub cut : IsCut (parts_of d) (IsInOrder d) (state_in d)
  cut = record { as_many = many; by_place = by_place; in_order = in_order; shown = shown; whole = whole }
    where
      many : (one other : List (Option P)) → length one ≡ length other → length (parts_of d (state_in d one)) ≡ length (parts_of d (state_in d other))
      many one other same =
          let a = as_many (state_in d one) in
          let b = as_many (state_in d other) in
          let e = shown_many one in
          let f = shown_many other in
          omega (arith, a, b, e, f, same)
