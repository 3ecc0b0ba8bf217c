-- The steps of a device of tables and clients touch what they want: proved once, for every such device.
use Rattle.std.specs.Prelude.{◌≡◌, ℕ, zero, suc, ◌+◌, ◌<◌, ◌≤◌, Bool, true, false, ◌==◌, ◌||◌, Option, None, Some, List, [], ◌∷◌, ◌++◌, map, length, slice_get, is_some, unwrap_or, nat_lt, if◌then◌else◌, refl}
use Rattle.std.specs.Option.{option_map}
use Rattle.std.proofs.Common.{ap, ap₂, sym, ◌∙◌, inl, inr, subst, arith, append_assoc}
use Rattle.std.proofs.lemmas.Bool.Decides.{nat_tests}
use native.Mathlib.Decide.{ℕ_discrete}
use Rattle.part_table.specs.Held.{held_at, places_held, laid_over, IsHandOf}
use Rattle.parted_state.specs.CutLaws as laws
use Rattle.parted_state.specs.Cut.{is_in, wanted_of, SameAt, Agree, AreTold, IsFramed}
use Rattle.parted_state.specs.CutLaws.{in_front, in_back, in_either, same_itself, same_number}
use Rattle.parted_state.specs.Served.{Done, Device, Services, change, veiled, chosen, is_told, front, client_place, table_place, parts_of, state_in, masked, merged, done_within, row_at, reached, delivered, told_if, told_places, asked, uses, row_of, done_of, step, own_place, places, footprint, table_stages, wants, need, after, parts_after, AreAsked, IsInOrder, IsServed, IsDevice}
use Rattle.parted_state.specs.ListsLaws.{get_some, get_veiled, chosen_same, held_of_all, get_past, length-change, get_changed, get_change, same_veiled, get_chosen, append_none, in_mapped, no_more}
use Rattle.parted_state.specs.DeviceLaws.{as_many, table_at, client_at, spot, cut}

module _ {S T R F P : Type 0} (d : Device S T R F P) (is : IsDevice d) where
  -- ---- what agreeing places tell

  counted : (ws : List ℕ) (s t : S) → Agree (parts_of d) (IsInOrder d) ws s t → length (d.clients_of t) ≡ length (d.clients_of s)
  counted ws s t agree = let same = agree.as_many in let a = as_many d is s in let b = as_many d is t in omega (arith, same, a, b)

  table_same : (ws : List ℕ) (s t : S) (k : ℕ) → Agree (parts_of d) (IsInOrder d) ws s t → is_in ws (table_place d (length (d.clients_of s)) k) ≡ true
      → slice_get (d.table_parts (d.tables_of s)) k ≡ slice_get (d.table_parts (d.tables_of t)) k
  table_same ws s t k agree inside =
      sym (table_at d is s k)
      ∙ agree.same (table_place d (length (d.clients_of s)) k) inside
      ∙ ap (λ (n : ℕ). slice_get (parts_of d t) (table_place d n k)) (sym (counted ws s t agree))
      ∙ table_at d is t k

  same_row : (a b : Option R) → option_map d.client_part a ≡ option_map d.client_part b → a ≡ b
  same_row None None e = refl
  same_row None (Some y) e = absurd (cc e)
  same_row (Some x) None e = absurd (cc e)
  same_row (Some x) (Some y) e = ap Some (sym (is.row_back x) ∙ ap d.row_in e ∙ is.row_back y)

  client_same : (ws : List ℕ) (s t : S) (j : ℕ) → Agree (parts_of d) (IsInOrder d) ws s t → is_in ws (client_place d (suc j)) ≡ true → slice_get (d.clients_of s) j ≡ slice_get (d.clients_of t) j
  client_same ws s t j agree inside = by_test (nat_lt j (length (d.clients_of s))) refl
    where
      many : length (d.clients_of t) ≡ length (d.clients_of s)
      many = counted ws s t agree

      by_test : (b : Bool) → nat_lt j (length (d.clients_of s)) ≡ b → slice_get (d.clients_of s) j ≡ slice_get (d.clients_of t) j
      by_test true e =
          let below : j < length (d.clients_of s) = grind (arith, nat_tests) in
          same_row (slice_get (d.clients_of s) j) (slice_get (d.clients_of t) j)
          (sym (client_at d is s j below) ∙ agree.same (client_place d (suc j)) inside ∙ client_at d is t j (omega (arith, below, many)))
      by_test false e =
          let past : length (d.clients_of s) ≤ j = grind (arith, nat_tests) in
          get_past (d.clients_of s) j past ∙ sym (get_past (d.clients_of t) j (omega (arith, past, many)))

  row_at_same : (ws : List ℕ) (s t : S) (client : ℕ) → Agree (parts_of d) (IsInOrder d) ws s t → ((i : ℕ) → client ≡ suc i → is_in ws (client_place d (suc i)) ≡ true)
      → row_at d client (d.clients_of t) ≡ row_at d client (d.clients_of s)
  row_at_same ws s t zero agree own = refl
  row_at_same ws s t (suc i) agree own = ap (λ (o : Option R). unwrap_or o d.nobody) (sym (client_same ws s t i agree (own i refl)))

  -- ---- rows that are told something

  length-reached : (client : ℕ) (effect : F) (rows : List R) → length (reached d client effect rows) ≡ length rows
  length-reached zero effect rows = refl
  length-reached (suc i) effect rows = length-change (d.felt effect) rows i

  pub length-delivered : (told : List (ℕ × F)) (rows : List R) → length (delivered d told rows) ≡ length rows
  length-delivered [] rows = refl
  length-delivered (t ∷ told) rows = length-delivered told (reached d t.0 t.1 rows) ∙ length-reached t.0 t.1 rows

  reached_same : (client : ℕ) (effect : F) (rows other : List R) (i : ℕ) → slice_get rows i ≡ slice_get other i
      → slice_get (reached d client effect rows) i ≡ slice_get (reached d client effect other) i
  reached_same zero effect rows other i same = same
  reached_same (suc k) effect rows other i same = by (ℕ_discrete i k)
    where
      by : Dec (i ≡ k) → slice_get (change (d.felt effect) rows k) i ≡ slice_get (change (d.felt effect) other k) i
      by (yes e) =
          ap (λ (j : ℕ). slice_get (change (d.felt effect) rows k) j) e
          ∙ get_changed (d.felt effect) rows k
          ∙ ap (λ (j : ℕ). option_map (d.felt effect) (slice_get rows j)) (sym e)
          ∙ ap (option_map (d.felt effect)) same
          ∙ ap (λ (j : ℕ). option_map (d.felt effect) (slice_get other j)) e
          ∙ sym (get_changed (d.felt effect) other k)
          ∙ ap (λ (j : ℕ). slice_get (change (d.felt effect) other k) j) (sym e)
      by (no ne) = get_change (d.felt effect) rows k i ne ∙ same ∙ sym (get_change (d.felt effect) other k i ne)

  delivered_same : (told : List (ℕ × F)) (rows other : List R) (i : ℕ) → slice_get rows i ≡ slice_get other i
      → slice_get (delivered d told rows) i ≡ slice_get (delivered d told other) i
  delivered_same [] rows other i same = same
  delivered_same (t ∷ told) rows other i same = delivered_same told (reached d t.0 t.1 rows) (reached d t.0 t.1 other) i (reached_same t.0 t.1 rows other i same)

  pub delivered_kept : (told : List (ℕ × F)) (rows : List R) (i : ℕ) → is_told told (suc i) ≡ false → slice_get (delivered d told rows) i ≡ slice_get rows i
  delivered_kept [] rows i off = refl
  delivered_kept ((zero, effect) ∷ told) rows i off = delivered_kept told rows i (no_more (0 == suc i) (is_told told (suc i)) off).1
  delivered_kept ((suc k, effect) ∷ told) rows i off =
      let two = no_more (suc k == suc i) (is_told told (suc i)) off in
      delivered_kept told (change (d.felt effect) rows k) i two.1
      ∙ get_change (d.felt effect) rows k i (λ same. let here : (suc k == suc i) ≡ true = grind (arith, nat_tests) in cc (sym two.0 ∙ here))

  told_is_placed : (told : List (ℕ × F)) (n i : ℕ) → i < n → is_told told (suc i) ≡ true → is_in (told_places d told n) (client_place d (suc i)) ≡ true
  told_is_placed told zero i below on = absurd (omega (arith, below))
  told_is_placed told (suc n) i below on = by (λ less. told_is_placed told n i less on) (ℕ_discrete i n)
    where
      here : (b : Bool) → b ≡ true → is_in (told_if d b (suc i)) (client_place d (suc i)) ≡ true
      here false e = absurd (cc e)
      here true e = ap (λ (b : Bool). b || false) (same_itself (client_place d (suc i)))

      by : (i < n → is_in (told_places d told n) (client_place d (suc i)) ≡ true) → Dec (i ≡ n)
          → is_in (told_places d told n ++ told_if d (is_told told (suc n)) (suc n)) (client_place d (suc i)) ≡ true
      by before (yes same) =
          in_back (told_places d told n) (told_if d (is_told told (suc n)) (suc n)) (client_place d (suc i))
          (ap (λ (m : ℕ). is_in (told_if d (is_told told (suc m)) (suc m)) (client_place d (suc i))) (sym same) ∙ here (is_told told (suc i)) on)
      by before (no other) =
          in_front (told_places d told n) (told_if d (is_told told (suc n)) (suc n)) (client_place d (suc i)) (before (omega (arith, below, other)))

  -- ---- tables of which some are the same

  abbrev SameOn : List ℕ → T → T → Type 0
  SameOn us t u = (k : ℕ) → is_in us k ≡ true → slice_get (d.table_parts t) k ≡ slice_get (d.table_parts u) k

  masked_same : (us : List ℕ) (t u : T) → SameOn us t u → masked d us t ≡ masked d us u
  masked_same us t u same = ap d.tables_in (same_veiled (is_in us) (d.table_parts t) (d.table_parts u) (is.many t ∙ sym (is.many u)) same)

  pub merged_at : (us : List ℕ) (one other : T) (k : ℕ) → slice_get (d.table_parts (merged d us one other)) k ≡ slice_get (d.table_parts (if is_in us k then one else other)) k
  merged_at us one other k =
      is.by_place (chosen (is_in us) (d.table_parts one) (d.table_parts other)) (map Some (d.table_parts (if is_in us k then one else other))) k
      (get_chosen (is_in us) (d.table_parts one) (d.table_parts other) k (is.many one ∙ sym (is.many other)) ∙ by_test (is_in us k))
      ∙ ap (λ (l : List P). slice_get l k) (is.shown (if is_in us k then one else other))
    where
      at_some : (xs : List P) → slice_get xs k ≡ held_at (map Some xs) k
      at_some xs = by_value (slice_get xs k) ∙ sym (ap (λ (o : Option (Option P)). unwrap_or o None) (get_some xs k))
        where
          by_value : (o : Option P) → o ≡ unwrap_or (option_map Some o) None
          by_value None = refl
          by_value (Some x) = refl

      by_test : (b : Bool) → slice_get (if b then d.table_parts one else d.table_parts other) k ≡ held_at (map Some (d.table_parts (if b then one else other))) k
      by_test true = at_some (d.table_parts one)
      by_test false = at_some (d.table_parts other)

  -- some of the tables are as they are among all
  pub masked_at : (us : List ℕ) (t : T) (k : ℕ) → is_in us k ≡ true → slice_get (d.table_parts (masked d us t)) k ≡ slice_get (d.table_parts t) k
  masked_at us t k on =
      is.by_place (veiled (is_in us) (d.table_parts t)) (map Some (d.table_parts t)) k
      (get_veiled (is_in us) (d.table_parts t) k on ∙ held_of_all (d.table_parts t) k)
      ∙ ap (λ (l : List P). slice_get l k) (is.shown t)

  -- and make all tables as they are
  pub merged_masked : (us : List ℕ) (t : T) → d.InOrder t → merged d us (masked d us t) t ≡ t
  merged_masked us t in_order =
      ap d.tables_in (chosen_same (is_in us) (d.table_parts (masked d us t)) (d.table_parts t) (is.many (masked d us t) ∙ sym (is.many t)) (masked_at us t)) ∙ is.whole t in_order

  -- where no table is changed
  pub unchanged : (us : List ℕ) (t : T) (told : List (ℕ × F)) → d.InOrder t
      → record { tables = t; told = told } ≡ done_within d us t (record { tables = masked d us t; told = told })
  unchanged us t told in_order = ap (λ (x : T). at x) (sym (merged_masked us t in_order))
    where
      at : T → Done T F
      at x = record { tables = x; told = told }

  -- ---- what an event asks for, and what it does

  module _ {E : Type 0} (v : Services T R F E) (event : E) (served : IsServed d v event) where
    asked_same : (stages : List (T → R → List ℕ)) (before : List ℕ) (t u : T) (row : R) → AreAsked d v before stages t row → AreAsked d v before stages u row
        → SameOn (before ++ asked d v stages t row) t u → asked d v stages u row ≡ asked d v stages t row
    asked_same [] before t u row a b same = refl
    asked_same (stage ∷ stages) before t u row a b same =
        let here : stage u row ≡ stage t row =
        sym b.0
        ∙ ap (λ (x : T). stage x row) (sym (masked_same before t u (λ k inside. same k (in_front before (stage t row ++ asked d v stages t row) k inside))))
        ∙ a.0 in
        ap₂ (λ (x y : List ℕ). x ++ y) here
        (asked_same stages (before ++ stage t row) t u row a.1 (subst (λ (l : List ℕ). AreAsked d v (before ++ l) stages u row) here b.1)
        (λ k inside. same k (ap (λ (l : List ℕ). is_in l k) (sym (append_assoc before (stage t row) (asked d v stages t row))) ∙ inside)))

    uses_same : (t u : T) (row : R) → d.InOrder t → d.InOrder u → SameOn (uses d v t row event) t u → uses d v u row event ≡ uses d v t row event
    uses_same t u row ordered also same = ap (λ (l : List ℕ). v.words event ++ l) (asked_same (v.asks event) (v.words event) t u row (served.stages t row ordered) (served.stages u row also) same)

    abbrev alone : T → R → Done T F
    alone t row = v.serves (masked d (uses d v t row event) t) row event

    alone_same : (t u : T) (row : R) → d.InOrder t → d.InOrder u → SameOn (uses d v t row event) t u → alone u row ≡ alone t row
    alone_same t u row ordered also same =
        ap (λ (l : List ℕ). v.serves (masked d l u) row event) (uses_same t u row ordered also same)
        ∙ ap (λ (x : T). v.serves x row event) (sym (masked_same (uses d v t row event) t u same))

    told_same : (t u : T) (row : R) → d.InOrder t → d.InOrder u → SameOn (uses d v t row event) t u → (v.serves u row event).told ≡ (v.serves t row event).told
    told_same t u row ordered also same =
        ap (λ (x : Done T F). x.told) (served.within u row also) ∙ ap (λ (x : Done T F). x.told) (alone_same t u row ordered also same) ∙ sym (ap (λ (x : Done T F). x.told) (served.within t row ordered))

    table_after : (t : T) (row : R) (k : ℕ) → d.InOrder t
        → slice_get (d.table_parts (v.serves t row event).tables) k ≡ slice_get (d.table_parts (if is_in (uses d v t row event) k then (alone t row).tables else t)) k
    table_after t row k ordered =
        ap (λ (x : Done T F). slice_get (d.table_parts x.tables) k) (served.within t row ordered) ∙ merged_at (uses d v t row event) (alone t row).tables t k

    -- a table that isn't used stays
    table_kept : (t : T) (row : R) (k : ℕ) → d.InOrder t → is_in (uses d v t row event) k ≡ false → slice_get (d.table_parts (v.serves t row event).tables) k ≡ slice_get (d.table_parts t) k
    table_kept t row k ordered off = table_after t row k ordered ∙ ap (λ (b : Bool). slice_get (d.table_parts (if b then (alone t row).tables else t)) k) off

    table_become : (t u : T) (row : R) (k : ℕ) → d.InOrder t → d.InOrder u → SameOn (uses d v t row event) t u → is_in (uses d v t row event) k ≡ true
        → slice_get (d.table_parts (v.serves t row event).tables) k ≡ slice_get (d.table_parts (v.serves u row event).tables) k
    table_become t u row k ordered also same on =
        table_after t row k ordered
        ∙ ap (λ (b : Bool). slice_get (d.table_parts (if b then (alone t row).tables else t)) k) on
        ∙ sym (ap (λ (x : Done T F). slice_get (d.table_parts x.tables) k) (alone_same t u row ordered also same))
        ∙ sym (ap (λ (b : Bool). slice_get (d.table_parts (if b then (alone u row).tables else u)) k) (ap (λ (l : List ℕ). is_in l k) (uses_same t u row ordered also same) ∙ on))
        ∙ sym (table_after u row k also)

    -- ---- what is wanted

    asked_wanted : (s : S) (stages : List (T → R → List ℕ)) (k : ℕ) → is_in (asked d v stages (d.tables_of s) (row_of d v s event)) k ≡ true
        → is_in (wanted_of (table_stages d v event stages) s) (table_place d (length (d.clients_of s)) k) ≡ true
    asked_wanted s [] k on = absurd (cc on)
    asked_wanted s (stage ∷ stages) k on =
        let n = length (d.clients_of s) in
        let here = stage (d.tables_of s) (row_of d v s event) in
        elim (in_either here (asked d v stages (d.tables_of s) (row_of d v s event)) k on) [
          | inl a ↦ in_front (places d v n here) (wanted_of (table_stages d v event stages) s) (table_place d n k) (in_mapped (table_place d n) here k a)
          | inr b ↦ in_back (places d v n here) (wanted_of (table_stages d v event stages) s) (table_place d n k) (asked_wanted s stages k b)
        ]

    uses_wanted : (s : S) (k : ℕ) → is_in (uses d v (d.tables_of s) (row_of d v s event) event) k ≡ true
        → is_in (wanted_of (wants d v event) s) (table_place d (length (d.clients_of s)) k) ≡ true
    uses_wanted s k on =
        let n = length (d.clients_of s) in
        let rest = wanted_of (table_stages d v event (v.asks event)) s in
        elim (in_either (v.words event) (asked d v (v.asks event) (d.tables_of s) (row_of d v s event)) k on) [
          | inl a ↦ in_front (footprint d v n event) rest (table_place d n k)
              (in_back (own_place d v (v.own event)) (places d v n (v.words event)) (table_place d n k) (in_mapped (table_place d n) (v.words event) k a))
          | inr b ↦ in_back (footprint d v n event) rest (table_place d n k) (asked_wanted s (v.asks event) k b)
        ]

    last_wanted : (s : S) (stages : List (T → R → List ℕ)) (i : ℕ) → is_in (told_places d (done_of d v s event).told (length (d.clients_of s))) i ≡ true
        → is_in (wanted_of (table_stages d v event stages) s) i ≡ true
    last_wanted s [] i on = in_front (told_places d (done_of d v s event).told (length (d.clients_of s))) [] i on
    last_wanted s (stage ∷ stages) i on =
        in_back (places d v (length (d.clients_of s)) (stage (d.tables_of s) (row_of d v s event))) (wanted_of (table_stages d v event stages) s) i (last_wanted s stages i on)

    pub told_wanted : (s : S) (j : ℕ) → j < length (d.clients_of s) → is_told (done_of d v s event).told (suc j) ≡ true
        → is_in (wanted_of (wants d v event) s) (client_place d (suc j)) ≡ true
    told_wanted s j below on =
        let n = length (d.clients_of s) in
        in_back (footprint d v n event) (wanted_of (table_stages d v event (v.asks event)) s) (client_place d (suc j))
        (last_wanted s (v.asks event) (client_place d (suc j)) (told_is_placed (done_of d v s event).told n j below on))

    own_first : (client i : ℕ) (rest : List ℕ) → client ≡ suc i → is_in (own_place d v client ++ rest) (client_place d (suc i)) ≡ true
    own_first zero i rest e = absurd (omega (arith, e))
    own_first (suc j) i rest e =
        let same : i ≡ j = omega (arith, e) in
        in_front (own_place d v (suc j)) rest (client_place d (suc i))
        (ap (λ (m : ℕ). is_in (own_place d v (suc j)) (client_place d (suc m))) same ∙ ap (λ (b : Bool). b || false) (same_itself (client_place d (suc j))))

    pub own_in : (n i : ℕ) (rest : List ℕ) → v.own event ≡ suc i → is_in (footprint d v n event ++ rest) (client_place d (suc i)) ≡ true
    own_in n i rest e = in_front (footprint d v n event) rest (client_place d (suc i)) (own_first (v.own event) i (places d v n (v.words event)) e)

    -- ---- each stage is told by those before it

    fewer : (ws more : List ℕ) (s t : S) → Agree (parts_of d) (IsInOrder d) (ws ++ more) s t → Agree (parts_of d) (IsInOrder d) ws s t
    fewer ws more s t agree = record { as_many = agree.as_many; in_order = agree.in_order; same = λ i inside. agree.same i (in_front ws more i inside) }

    stages_told : (s : S) (stages : List (T → R → List ℕ)) (ws us : List ℕ) → IsInOrder d s
        → ((i : ℕ) → v.own event ≡ suc i → is_in ws (client_place d (suc i)) ≡ true)
        → ((k : ℕ) → is_in us k ≡ true → is_in ws (table_place d (length (d.clients_of s)) k) ≡ true)
        → ((k : ℕ) → is_in (uses d v (d.tables_of s) (row_of d v s event) event) k ≡ true → is_in (us ++ asked d v stages (d.tables_of s) (row_of d v s event)) k ≡ true)
        → AreAsked d v us stages (d.tables_of s) (row_of d v s event)
        → ((t : S) → Agree (parts_of d) (IsInOrder d) ws s t → AreAsked d v us stages (d.tables_of t) (row_of d v s event))
        → AreTold (parts_of d) (IsInOrder d) s ws (table_stages d v event stages)
    stages_told s [] ws us ordered own inside all here there = (last, tt)
      where
        last : (t : S) → Agree (parts_of d) (IsInOrder d) ws s t
            → told_places d (done_of d v t event).told (length (d.clients_of t)) ≡ told_places d (done_of d v s event).told (length (d.clients_of s))
        last t agree =
            let row : row_of d v t event ≡ row_of d v s event = row_at_same ws s t (v.own event) agree own in
            let same : SameOn (uses d v (d.tables_of s) (row_of d v s event) event) (d.tables_of s) (d.tables_of t) =
            (λ k on. table_same ws s t k agree (inside k (subst (λ (l : List ℕ). is_in l k ≡ true) (append_none us) (all k on)))) in
            ap₂ (λ (l : List (ℕ × F)) (n : ℕ). told_places d l n)
            (ap (λ (r : R). (v.serves (d.tables_of t) r event).told) row ∙ told_same (d.tables_of s) (d.tables_of t) (row_of d v s event) ordered agree.in_order same)
            (counted ws s t agree)
    stages_told s (stage ∷ stages) ws us ordered own inside all here there = (
      first,
      stages_told s stages (ws ++ places d v (length (d.clients_of s)) (stage (d.tables_of s) (row_of d v s event))) (us ++ (stage (d.tables_of s) (row_of d v s event))) ordered
          (λ i e. in_front ws (places d v (length (d.clients_of s)) (stage (d.tables_of s) (row_of d v s event))) (client_place d (suc i)) (own i e))
          (λ k on. elim (in_either us (stage (d.tables_of s) (row_of d v s event)) k on) [
            | inl a ↦ in_front ws (places d v (length (d.clients_of s)) (stage (d.tables_of s) (row_of d v s event))) (table_place d (length (d.clients_of s)) k) (inside k a)
            | inr b ↦ in_back ws (places d v (length (d.clients_of s)) (stage (d.tables_of s) (row_of d v s event))) (table_place d (length (d.clients_of s)) k) (in_mapped (table_place d (length (d.clients_of s))) (stage (d.tables_of s) (row_of d v s event)) k b)
          ])
          (λ k on. subst (λ (l : List ℕ). is_in l k ≡ true) (sym (append_assoc us (stage (d.tables_of s) (row_of d v s event)) (asked d v stages (d.tables_of s) (row_of d v s event)))) (all k on))
          here.1
          (λ t agree. subst (λ (l : List ℕ). AreAsked d v (us ++ l) stages (d.tables_of t) (row_of d v s event)) (same t (fewer ws (places d v (length (d.clients_of s)) (stage (d.tables_of s) (row_of d v s event))) s t agree))
          (there t (fewer ws (places d v (length (d.clients_of s)) (stage (d.tables_of s) (row_of d v s event))) s t agree)).1),
    )
      where
        same : (t : S) → Agree (parts_of d) (IsInOrder d) ws s t → stage (d.tables_of t) (row_of d v s event) ≡ stage (d.tables_of s) (row_of d v s event)
        same t agree =
            sym (there t agree).0
            ∙ ap (λ (x : T). stage x (row_of d v s event)) (sym (masked_same us (d.tables_of s) (d.tables_of t) (λ k on. table_same ws s t k agree (inside k on))))
            ∙ here.0

        first : (t : S) → Agree (parts_of d) (IsInOrder d) ws s t
            → places d v (length (d.clients_of t)) (stage (d.tables_of t) (row_of d v t event)) ≡ places d v (length (d.clients_of s)) (stage (d.tables_of s) (row_of d v s event))
        first t agree =
            ap₂ (λ (m : ℕ) (l : List ℕ). places d v m l) (counted ws s t agree)
            (ap (λ (r : R). stage (d.tables_of t) r) (row_at_same ws s t (v.own event) agree own) ∙ same t agree)

    stage_within : (s : S) → IsInOrder d s → AreTold (parts_of d) (IsInOrder d) s [] (wants d v event)
    stage_within s ordered = (
      λ t agree. ap (λ (n : ℕ). footprint d v n event) (counted [] s t agree),
      stages_told s (v.asks event) (footprint d v (length (d.clients_of s)) event) (v.words event) ordered
          (λ i e. own_first (v.own event) i (places d v (length (d.clients_of s)) (v.words event)) e)
          (λ k on. in_back (own_place d v (v.own event)) (places d v (length (d.clients_of s)) (v.words event)) (table_place d (length (d.clients_of s)) k)
          (in_mapped (table_place d (length (d.clients_of s))) (v.words event) k on))
          (λ k on. on)
          (served.stages (d.tables_of s) (row_of d v s event) ordered)
          (λ t agree. served.stages (d.tables_of t) (row_of d v s event) agree.in_order),
    )

    -- ---- what is wanted is all that is touched

    pub step_many : (s : S) → length (d.clients_of (step d v s event)) ≡ length (d.clients_of s)
    step_many s =
        ap (λ (l : List R). length l) (is.clients_back (done_of d v s event).tables (delivered d (done_of d v s event).told (d.clients_of s)))
        ∙ length-delivered (done_of d v s event).told (d.clients_of s)

    pub step_table : (s : S) (k : ℕ) → slice_get (parts_of d (step d v s event)) (table_place d (length (d.clients_of s)) k) ≡ slice_get (d.table_parts (done_of d v s event).tables) k
    step_table s k =
        ap (λ (n : ℕ). slice_get (parts_of d (step d v s event)) (table_place d n k)) (sym (step_many s))
        ∙ table_at d is (step d v s event) k
        ∙ ap (λ (t : T). slice_get (d.table_parts t) k) (is.tables_back (done_of d v s event).tables (delivered d (done_of d v s event).told (d.clients_of s)))

    pub step_client : (s : S) (j : ℕ) → j < length (d.clients_of s)
        → slice_get (parts_of d (step d v s event)) (client_place d (suc j)) ≡ option_map d.client_part (slice_get (delivered d (done_of d v s event).told (d.clients_of s)) j)
    step_client s j below =
        let many = step_many s in
        client_at d is (step d v s event) j (omega (arith, below, many))
        ∙ ap (λ (l : List R). option_map d.client_part (slice_get l j)) (is.clients_back (done_of d v s event).tables (delivered d (done_of d v s event).told (d.clients_of s)))

    parts_many : (s : S) → length (parts_of d (step d v s event)) ≡ length (parts_of d s)
    parts_many s = let a = as_many d is s in let b = as_many d is (step d v s event) in let c = step_many s in omega (arith, a, b, c)

    not_used : (s : S) (k : ℕ) → is_in (wanted_of (wants d v event) s) (table_place d (length (d.clients_of s)) k) ≡ false
        → is_in (uses d v (d.tables_of s) (row_of d v s event) event) k ≡ false
    not_used s k out = by_test (is_in (uses d v (d.tables_of s) (row_of d v s event) event) k) refl
      where
        by_test : (b : Bool) → is_in (uses d v (d.tables_of s) (row_of d v s event) event) k ≡ b → b ≡ false
        by_test false e = refl
        by_test true e = absurd (cc (sym out ∙ uses_wanted s k e))

    not_told : (s : S) (j : ℕ) → j < length (d.clients_of s) → is_in (wanted_of (wants d v event) s) (client_place d (suc j)) ≡ false
        → is_told (done_of d v s event).told (suc j) ≡ false
    not_told s j below out = by_test (is_told (done_of d v s event).told (suc j)) refl
      where
        by_test : (b : Bool) → is_told (done_of d v s event).told (suc j) ≡ b → b ≡ false
        by_test false e = refl
        by_test true e = absurd (cc (sym out ∙ told_wanted s j below e))

    table_stays : (s : S) (k : ℕ) → IsInOrder d s → is_in (uses d v (d.tables_of s) (row_of d v s event) event) k ≡ false
        → slice_get (parts_of d (step d v s event)) (table_place d (length (d.clients_of s)) k) ≡ slice_get (parts_of d s) (table_place d (length (d.clients_of s)) k)
    table_stays s k ordered off = step_table s k ∙ table_kept (d.tables_of s) (row_of d v s event) k ordered off ∙ sym (table_at d is s k)

    others_stay : (s : S) (i : ℕ) → IsInOrder d s → is_in (wanted_of (wants d v event) s) i ≡ false → SameAt (parts_of d) i (step d v s event) s
    others_stay s i ordered out =
        elim (spot d is (length (d.clients_of s)) i) [
          | inl (k, e) ↦
              subst (λ (m : ℕ). SameAt (parts_of d) m (step d v s event) s) (sym e)
              (table_stays s k ordered (not_used s k (ap (λ (m : ℕ). is_in (wanted_of (wants d v event) s) m) (sym e) ∙ out)))
          | inr (j, below, e) ↦
              subst (λ (m : ℕ). SameAt (parts_of d) m (step d v s event) s) (sym e)
              (step_client s j below
              ∙ ap (option_map d.client_part) (delivered_kept (done_of d v s event).told (d.clients_of s) j
              (not_told s j below (ap (λ (m : ℕ). is_in (wanted_of (wants d v event) s) m) (sym e) ∙ out)))
              ∙ sym (client_at d is s j below))
        ]

    module _ (s t : S) (ordered : IsInOrder d s) (agree : Agree (parts_of d) (IsInOrder d) (wanted_of (wants d v event) s) s t) where
      row_told : row_of d v t event ≡ row_of d v s event
      row_told =
          row_at_same (wanted_of (wants d v event) s) s t (v.own event) agree
          (λ i e. own_in (length (d.clients_of s)) i (wanted_of (table_stages d v event (v.asks event)) s) e)

      tables_told : SameOn (uses d v (d.tables_of s) (row_of d v s event) event) (d.tables_of s) (d.tables_of t)
      tables_told k on = table_same (wanted_of (wants d v event) s) s t k agree (uses_wanted s k on)

      effects_told : (done_of d v t event).told ≡ (done_of d v s event).told
      effects_told =
          ap (λ (r : R). (v.serves (d.tables_of t) r event).told) row_told ∙ told_same (d.tables_of s) (d.tables_of t) (row_of d v s event) ordered agree.in_order tables_told

      many_told : length (d.clients_of t) ≡ length (d.clients_of s)
      many_told = counted (wanted_of (wants d v event) s) s t agree

      tables_become : (k : ℕ) → is_in (wanted_of (wants d v event) s) (table_place d (length (d.clients_of s)) k) ≡ true
          → SameAt (parts_of d) (table_place d (length (d.clients_of s)) k) (step d v s event) (step d v t event)
      tables_become k inside = by_test (is_in (uses d v (d.tables_of s) (row_of d v s event) event) k) refl
        where
          after_t : slice_get (d.table_parts (v.serves (d.tables_of t) (row_of d v s event) event).tables) k
              ≡ slice_get (parts_of d (step d v t event)) (table_place d (length (d.clients_of s)) k)
          after_t =
              ap (λ (r : R). slice_get (d.table_parts (v.serves (d.tables_of t) r event).tables) k) (sym row_told)
              ∙ sym (step_table t k)
              ∙ ap (λ (n : ℕ). slice_get (parts_of d (step d v t event)) (table_place d n k)) many_told

          by_test : (b : Bool) → is_in (uses d v (d.tables_of s) (row_of d v s event) event) k ≡ b
              → SameAt (parts_of d) (table_place d (length (d.clients_of s)) k) (step d v s event) (step d v t event)
          by_test true e = step_table s k ∙ table_become (d.tables_of s) (d.tables_of t) (row_of d v s event) k ordered agree.in_order tables_told e ∙ after_t
          by_test false e =
              step_table s k
              ∙ table_kept (d.tables_of s) (row_of d v s event) k ordered e
              ∙ table_same (wanted_of (wants d v event) s) s t k agree inside
              ∙ sym (table_kept (d.tables_of t) (row_of d v s event) k agree.in_order
              (ap (λ (l : List ℕ). is_in l k) (uses_same (d.tables_of s) (d.tables_of t) (row_of d v s event) ordered agree.in_order tables_told) ∙ e))
              ∙ after_t

      become : (i : ℕ) → is_in (wanted_of (wants d v event) s) i ≡ true → SameAt (parts_of d) i (step d v s event) (step d v t event)
      become i inside =
          elim (spot d is (length (d.clients_of s)) i) [
            | inl (k, e) ↦
                subst (λ (m : ℕ). SameAt (parts_of d) m (step d v s event) (step d v t event)) (sym e)
                (tables_become k (ap (λ (m : ℕ). is_in (wanted_of (wants d v event) s) m) (sym e) ∙ inside))
            | inr (j, below, e) ↦
                subst (λ (m : ℕ). SameAt (parts_of d) m (step d v s event) (step d v t event)) (sym e)
                (step_client s j below
                ∙ ap (option_map d.client_part)
                (delivered_same (done_of d v s event).told (d.clients_of s) (d.clients_of t) j
                (client_same (wanted_of (wants d v event) s) s t j agree (ap (λ (m : ℕ). is_in (wanted_of (wants d v event) s) m) (sym e) ∙ inside))
                ∙ ap (λ (l : List (ℕ × F)). slice_get (delivered d l (d.clients_of t)) j) (sym effects_told))
                ∙ sym (step_client t j (omega (arith, below, many_told))))
          ]

    -- what an event makes of tables that are in order is in order
    pub keeps_order : (t : T) (row : R) → d.InOrder t → d.InOrder (v.serves t row event).tables
    keeps_order t row ordered =
        subst (λ (x : Done T F). d.InOrder x.tables) (sym (served.within t row ordered))
        (is.in_order (chosen (is_in (uses d v t row event)) (d.table_parts (alone t row).tables) (d.table_parts t)))

    pub step_in_order : (s : S) → IsInOrder d s → IsInOrder d (step d v s event)
    step_in_order s ordered =
        subst d.InOrder (sym (is.tables_back (done_of d v s event).tables (delivered d (done_of d v s event).told (d.clients_of s))))
        (keeps_order (d.tables_of s) (row_of d v s event) ordered)

    -- an event touches what it wants, and each stage of it is told by those before it
    pub framed : (s : S) → IsInOrder d s → IsFramed (parts_of d) (IsInOrder d) (wants d v event) (λ u. step d v u event) s
    framed s ordered = record {
      stages_told = stage_within s ordered;
      touches = record {
        as_many = parts_many s;
        others = λ i out. others_stay s i ordered out;
        told = λ t agree. record {
          as_many = let a = agree.as_many in let b = parts_many s in let c = parts_many t in omega (arith, a, b, c);
          in_order = step_in_order t agree.in_order;
          same = become s t ordered agree;
        };
      };
    }

    -- ---- so held parts, and all parts, become what the state's are

    pub after_holds_the_same : (hand : List (Option P)) → places_held (after d v event hand) ≡ places_held hand
    after_holds_the_same hand = laws.after_holds_the_same (parts_of d) (IsInOrder d) (state_in d) (wants d v event) (λ u. step d v u event) hand

    pub after_is_laid_over : (hand : List (Option P)) (parts : List P) → IsHandOf hand parts → need d v event hand ≡ []
        → parts_after d v event parts ≡ laid_over (after d v event hand) parts
    after_is_laid_over hand parts of enough =
        laws.after_is_laid_over (parts_of d) (IsInOrder d) (state_in d) (wants d v event) (λ u. step d v u event) (cut d is) hand parts (framed (state_in d (map Some parts)) ((cut d is).in_order (map Some parts))) of enough

    pub parts_step : (s : S) → IsInOrder d s → parts_of d (step d v s event) ≡ parts_after d v event (parts_of d s)
    parts_step s ordered = laws.parts_step (parts_of d) (IsInOrder d) (state_in d) (wants d v event) (λ u. step d v u event) (cut d is) s ordered (framed s ordered)

    pub free_parts_stay : (s : S) (hand : List (Option P)) (place : ℕ) → IsInOrder d s → IsHandOf hand (parts_of d s) → need d v event hand ≡ [] → held_at hand place ≡ None
        → slice_get (parts_of d (step d v s event)) place ≡ slice_get (parts_of d s) place
    free_parts_stay s hand place ordered of enough free =
        laws.others_stay (parts_of d) (IsInOrder d) (state_in d) (wants d v event) (λ u. step d v u event) s hand (laws.shows_state (parts_of d) (IsInOrder d) (state_in d) (cut d is) hand s of)
        (framed s ordered) enough place (ap is_some free)

    -- ---- all that is wanted is among the parts

    placed_below : (n : ℕ) (us : List ℕ) → ((k : ℕ) → is_in us k ≡ true → k < d.tables) → (i : ℕ) → is_in (places d v n us) i ≡ true → i < d.tables + n
    placed_below n [] below i on = absurd (cc on)
    placed_below n (u ∷ us) below i on =
        elim (in_either (table_place d n u ∷ []) (places d v n us) i on) [
          | inl a ↦ here (nat_lt u (front d)) refl (table_place d n u == i) refl a
          | inr b ↦ placed_below n us (λ k inside. below k (in_back (u ∷ []) us k inside)) i b
        ]
      where
        small : u < d.tables
        small = below u (in_front (u ∷ []) us u (ap (λ (b : Bool). b || false) (same_itself u)))

        at : (b : Bool) → nat_lt u (front d) ≡ b → (if b then u else u + n) < d.tables + n
        at true e = omega (arith, small)
        at false e = omega (arith, small)

        here : (b : Bool) → nat_lt u (front d) ≡ b → (c : Bool) → (table_place d n u == i) ≡ c → (c || false) ≡ true → i < d.tables + n
        here b f false e h = absurd (cc h)
        here b f true e h = subst (λ (m : ℕ). m < d.tables + n) (same_number (table_place d n u) i e) (at (nat_lt u (front d)) refl)

    client_below : (n c i : ℕ) → suc c ≤ n → is_in (client_place d (suc c) ∷ []) i ≡ true → i < d.tables + n
    client_below n c i few on = by_test (client_place d (suc c) == i) refl on
      where
        by_test : (b : Bool) → (client_place d (suc c) == i) ≡ b → (b || false) ≡ true → i < d.tables + n
        by_test false e h = absurd (cc h)
        by_test true e h = let more = is.behind in let same = same_number (client_place d (suc c)) i e in omega (arith, few, more, same)

    own_below : (n client i : ℕ) → client ≤ n → is_in (own_place d v client) i ≡ true → i < d.tables + n
    own_below n zero i few on = absurd (cc on)
    own_below n (suc c) i few on = client_below n c i few on

    told_below : (told : List (ℕ × F)) (n some i : ℕ) → some ≤ n → is_in (told_places d told some) i ≡ true → i < d.tables + n
    told_below told n zero i few on = absurd (cc on)
    told_below told n (suc some) i few on =
        elim (in_either (told_places d told some) (told_if d (is_told told (suc some)) (suc some)) i on) [
          | inl a ↦ told_below told n some i (omega (arith, few)) a
          | inr b ↦ here (is_told told (suc some)) b
        ]
      where
        here : (b : Bool) → is_in (told_if d b (suc some)) i ≡ true → i < d.tables + n
        here false h = absurd (cc h)
        here true h = client_below n some i few h

    stages_below : (s : S) (stages : List (T → R → List ℕ)) → ((k : ℕ) → is_in (asked d v stages (d.tables_of s) (row_of d v s event)) k ≡ true → k < d.tables)
        → (i : ℕ) → is_in (wanted_of (table_stages d v event stages) s) i ≡ true → i < d.tables + length (d.clients_of s)
    stages_below s [] below i on =
        told_below (done_of d v s event).told (length (d.clients_of s)) (length (d.clients_of s)) i (omega arith)
        (subst (λ (l : List ℕ). is_in l i ≡ true) (append_none (told_places d (done_of d v s event).told (length (d.clients_of s)))) on)
    stages_below s (stage ∷ stages) below i on =
        let now = stage (d.tables_of s) (row_of d v s event) in
        let n = length (d.clients_of s) in
        elim (in_either (places d v n now) (wanted_of (table_stages d v event stages) s) i on) [
          | inl a ↦ placed_below n now (λ k inside. below k (in_front now (asked d v stages (d.tables_of s) (row_of d v s event)) k inside)) i a
          | inr b ↦ stages_below s stages (λ k inside. below k (in_back now (asked d v stages (d.tables_of s) (row_of d v s event)) k inside)) i b
        ]

    -- where the client of an event is one of the clients, and its words and stages name tables that there are, all that is wanted is among the parts
    pub wanted_within : (s : S) → v.own event ≤ length (d.clients_of s) → ((k : ℕ) → is_in (uses d v (d.tables_of s) (row_of d v s event) event) k ≡ true → k < d.tables)
        → (i : ℕ) → is_in (wanted_of (wants d v event) s) i ≡ true → i < length (parts_of d s)
    wanted_within s own tables i inside =
        let n = length (d.clients_of s) in
        let many = as_many d is s in
        let words = λ (k : ℕ) (on : is_in (v.words event) k ≡ true). tables k (in_front (v.words event) (asked d v (v.asks event) (d.tables_of s) (row_of d v s event)) k on) in
        let later = λ (k : ℕ) (on : is_in (asked d v (v.asks event) (d.tables_of s) (row_of d v s event)) k ≡ true).
        tables k (in_back (v.words event) (asked d v (v.asks event) (d.tables_of s) (row_of d v s event)) k on) in
        let below : i < d.tables + n =
        elim (in_either (footprint d v n event) (wanted_of (table_stages d v event (v.asks event)) s) i inside) [
          | inl a ↦ elim (in_either (own_place d v (v.own event)) (places d v n (v.words event)) i a) [
            | inl x ↦ own_below n (v.own event) i own x
            | inr y ↦ placed_below n (v.words event) words i y
          ]
          | inr b ↦ stages_below s (v.asks event) later i b
        ] in
        omega (arith, below, many)
