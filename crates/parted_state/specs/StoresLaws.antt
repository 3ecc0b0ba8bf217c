-- What is shown of the second example: rows of one list, cut into sixteen parts, are a device; a name is taken on its own part, and time goes by on all of them.
use Rattle.std.specs.Prelude.{◌≡◌, ◌≢◌, ℕ, zero, suc, ◌+◌, ◌<◌, ◌≤◌, ◌==◌, ◌||◌, nat_le, Bool, true, false, Option, None, Some, List, [], ◌∷◌, map, length, slice_get, if◌then◌else◌, refl}
use Rattle.std.specs.Map.{lookup, set_value}
use Rattle.std.specs.Option.{option_map}
use Rattle.std.proofs.Common.{ap, ap₂, sym, ◌∙◌, arith}
use Rattle.std.proofs.lemmas.Bool.Decides.{nat_tests}
use Rattle.std.proofs.lemmas.List.{length-map}
use native.Mathlib.Decide.{ℕ_discrete}
use Rattle.part_table.specs.Held.{held_at}
use Rattle.parted_state.specs.Area.{Plan, Area, AllIn, Within, IsTable, IsOwn, AreTold, IsPlan, area_plan, both}
use Rattle.parted_state.specs.AreaLaws.{table_own, table_same, both_own, area_law}
use Rattle.parted_state.specs.Cut.{is_in}
use Rattle.parted_state.specs.CutLaws.{same_number, same_itself, in_front, in_back}
use Rattle.parted_state.specs.Gathered.{IsInOrder as StandsInOrder, only, cut_from, gathered, put_behind}
use Rattle.parted_state.specs.GatheredLaws.{not_same, only_again, only_joined, gathered_in_order, gathered_cut, same_gathered, map_in_order, behind_in_order, at_place, lookup_only, set_at, set_else, set_in_order}
use Rattle.parted_state.specs.ListsLaws.{get_past, get_changed, get_change, same_list}
use Rattle.parted_state.specs.Served.{Done, IsDevice, IsServed, change, masked, done_within, veiled}
use Rattle.parted_state.specs.Stores.{Tables, Part, Clock, Store, clock_in, rows_in, Asked, Take, TakeFor, Define, Tick, Event, Question, Now, Facts, place_of, stores, own_clock, own_store, own_all, numbers_from, noted, tells, may_take, changed, taken, answer, taking, defined, over, passed, serves, services}

abbrev Rows : Type 0
Rows = List (ℕ × ℕ)

-- ---- lists of parts

get_map : {A B : Type 0} (f : A → B) (xs : List A) (i : ℕ) → slice_get (map f xs) i ≡ option_map f (slice_get xs i)
get_map f [] i = refl
get_map f (x ∷ xs) zero = refl
get_map f (x ∷ xs) (suc i) = get_map f xs i

held_some : {A : Type 0} (xs : List A) (i : ℕ) (x : A) → slice_get xs i ≡ Some x → held_at (map Some xs) i ≡ Some x
held_some [] i x there = absurd (cc there)
held_some (y ∷ xs) zero x there = there
held_some (y ∷ xs) (suc i) x there = held_some xs i x there

module _ (place : ℕ → ℕ) (below : (name : ℕ) → place name < 16) where
  abbrev at : ℕ × ℕ → ℕ
  at e = place_of place e

  cut_many : (k n : ℕ) (rows : Rows) → length (cut_from at k n rows) ≡ n
  cut_many k zero rows = refl
  cut_many k (suc n) rows = omega (arith, cut_many (suc k) n rows)

  cut_same : (k n : ℕ) (one other : Rows) → ((j : ℕ) → k ≤ j → j < k + n → only at j one ≡ only at j other) → cut_from at k n one ≡ cut_from at k n other
  cut_same k zero one other same = refl
  cut_same k (suc n) one other same =
      ap₂ (λ (a : Rows) (l : List Rows). a ∷ l) (same k (omega arith) (omega arith))
      (cut_same (suc k) n one other (λ j from within. same j (omega (arith, from)) (omega (arith, within))))

  part_at : (rows : Rows) (k : ℕ) → k < 16 → slice_get (map Store (cut_from at 0 16 rows)) k ≡ Some (Store (only at k rows))
  part_at rows k few =
      let from : 0 + k ≡ k = omega arith in
      get_map Store (cut_from at 0 16 rows) k ∙ ap (option_map Store) (at_place at 0 16 k rows few ∙ ap (λ (m : ℕ). Some (only at m rows)) from)

  part_past : (rows : Rows) (k : ℕ) → 16 ≤ k → slice_get (map Store (cut_from at 0 16 rows)) k ≡ None
  part_past rows k past =
      let a = length-map (cut_from at 0 16 rows) Store in
      let b = cut_many 0 16 rows in
      get_past (map Store (cut_from at 0 16 rows)) k (omega (arith, past, a, b))

  -- the rows of a place among all parts
  rows_held : (t : Tables) (k : ℕ) → k < 16 → rows_in (held_at (map Some ((stores place).table_parts t)) (suc k)) ≡ only at k t.rows
  rows_held t k few = ap rows_in (held_some (map Store (cut_from at 0 16 t.rows)) k (Store (only at k t.rows)) (part_at t.rows k few))

  -- and as they are put together
  shown_at : (hand : List (Option Part)) (k : ℕ) → k < 16 → only at k ((stores place).tables_in hand).rows ≡ only at k (rows_in (held_at hand (suc k)))
  shown_at hand k few = only_joined at 0 16 (λ j. rows_in (held_at hand (suc j))) k (omega arith) (omega (arith, few))

  few_or_past : {Z : Type 0} (k : ℕ) → (k < 16 → Z) → (16 ≤ k → Z) → Z
  few_or_past {Z} k few past = by_test (nat_le 16 k) refl
    where
      by_test : (b : Bool) → nat_le 16 k ≡ b → Z
      by_test true e = let h : 16 ≤ k = grind (arith, nat_tests) in past h
      by_test false e = let h : k < 16 = grind (arith, nat_tests) in few h

  by_place : (one other : List (Option Part)) (table : ℕ) → held_at one table ≡ held_at other table
      → slice_get ((stores place).table_parts ((stores place).tables_in one)) table ≡ slice_get ((stores place).table_parts ((stores place).tables_in other)) table
  by_place one other zero same = ap (λ (o : Option Part). Some (Clock (clock_in o))) same
  by_place one other (suc k) same =
      few_or_past k
      (λ few. part_at ((stores place).tables_in one).rows k few
      ∙ ap (λ (rows : Rows). Some (Store rows)) (shown_at one k few ∙ ap (λ (o : Option Part). only at k (rows_in o)) same ∙ sym (shown_at other k few))
      ∙ sym (part_at ((stores place).tables_in other).rows k few))
      (λ past. part_past ((stores place).tables_in one).rows k past ∙ sym (part_past ((stores place).tables_in other).rows k past))

  all_at : (t : Tables) (j : ℕ) → j < 16 → only at j (rows_in (held_at (map Some ((stores place).table_parts t)) (suc j))) ≡ only at j t.rows
  all_at t j few = ap (only at j) (rows_held t j few) ∙ only_again at j t.rows

  pub is_device : IsDevice (stores place)
  is_device = record {
    many = λ t. let a = length-map (cut_from at 0 16 t.rows) Store in let b = cut_many 0 16 t.rows in omega (arith, a, b);
    behind = omega arith;
    in_order = λ hand. gathered_in_order at 16 (λ k. rows_in (held_at hand (suc k)));
    shown = λ t. ap (λ (l : List Rows). Clock t.now ∷ map Store l)
        (cut_same 0 16 ((stores place).tables_in (map Some ((stores place).table_parts t))).rows t.rows
        (λ j from within. shown_at (map Some ((stores place).table_parts t)) j (omega (arith, within)) ∙ all_at t j (omega (arith, within))));
    whole = λ t ordered. ap (λ (rows : Rows). record { now = t.now; rows = rows })
        (gathered_cut at 16 (λ k. rows_in (held_at (map Some ((stores place).table_parts t)) (suc k))) t.rows ordered (λ j few. all_at t j few));
    by_place = by_place;
    row_back = λ row. refl;
    tables_back = λ t rows. refl;
    clients_back = λ t rows. refl;
    state_back = λ s. refl;
  }

  -- ---- tables

  abbrev is_clock : IsTable (stores place) (own_clock place)
  is_clock = record { number = 0; part = Clock; part_in = clock_in; one = refl; shown = λ hand. refl; keeps = λ new t ordered. ordered; puts = λ new t. refl }

  module _ (k : ℕ) (few : k < 16) where
    abbrev put_at : Rows → Rows → ℕ → Rows
    put_at new rows j = if j == k then new else rows

    put_here : (new rows : Rows) → only at k (gathered at 16 (put_at new rows)) ≡ only at k new
    put_here new rows =
        only_joined at 0 16 (put_at new rows) k (omega arith) (omega (arith, few)) ∙ ap (λ (b : Bool). only at k (if b then new else rows)) (same_itself k)

    put_there : (new rows : Rows) (j : ℕ) → j < 16 → j ≢ k → only at j (gathered at 16 (put_at new rows)) ≡ only at j rows
    put_there new rows j less other =
        only_joined at 0 16 (put_at new rows) j (omega arith) (omega (arith, less)) ∙ ap (λ (b : Bool). only at j (if b then new else rows)) (not_same j k other)

    store_puts : (new : Rows) (t : Tables)
        → (stores place).table_parts ((own_store place k).put new t) ≡ change (λ old. Store (only at k new)) ((stores place).table_parts t) (suc k)
    store_puts new t = ap (λ (l : List Part). Clock t.now ∷ l) (same_list (map Store (cut_from at 0 16 rows)) (change set parts k) each)
      where
        rows : Rows
        rows = gathered at 16 (put_at new t.rows)

        parts : List Part
        parts = map Store (cut_from at 0 16 t.rows)

        set : Part → Part
        set old = Store (only at k new)

        here : (i : ℕ) → i < 16 → Dec (i ≡ k) → slice_get (map Store (cut_from at 0 16 rows)) i ≡ slice_get (change set parts k) i
        here i less (yes e) =
            part_at rows i less
            ∙ ap (λ (m : ℕ). Some (Store (only at m rows))) e
            ∙ ap (λ (l : Rows). Some (Store l)) (put_here new t.rows)
            ∙ sym (ap (λ (m : ℕ). slice_get (change set parts k) m) e ∙ get_changed set parts k ∙ ap (option_map set) (part_at t.rows k few))
        here i less (no ne) =
            part_at rows i less
            ∙ ap (λ (l : Rows). Some (Store l)) (put_there new t.rows i less ne)
            ∙ sym (get_change set parts k i ne ∙ part_at t.rows i less)

        each : (i : ℕ) → slice_get (map Store (cut_from at 0 16 rows)) i ≡ slice_get (change set parts k) i
        each i =
            few_or_past i (λ less. here i less (ℕ_discrete i k))
            (λ past. part_past rows i past ∙ sym (get_change set parts k i (λ same. omega (arith, past, same, few)) ∙ part_past t.rows i past))

    abbrev is_store : IsTable (stores place) (own_store place k)
    is_store = record {
      number = suc k;
      part = λ new. Store (only at k new);
      part_in = λ o. only at k (rows_in o);
      one = refl;
      shown = λ hand. shown_at hand k few;
      keeps = λ new t ordered. gathered_in_order at 16 (put_at new t.rows);
      puts = store_puts;
    }

    pub store_own : IsOwn (stores place) (own_store place k)
    store_own = table_own (stores place) is_device (own_store place k) is_store

  told_same : (question : Question) (facts : Facts) (us : List ℕ) (t : Tables) → (stores place).InOrder t → AllIn (stores place) ((tells place).tables question) us
      → noted place question (masked (stores place) us t) facts ≡ noted place question t facts
  told_same Now facts us t ordered asked = ap (λ (now : ℕ). record { now = now }) (table_same (stores place) is_device (own_clock place) is_clock us t ordered (asked 0 refl))

  are_told : AreTold (stores place) (tells place)
  are_told = record { same = told_same }

  -- ---- a name is taken: on all rows, and so on those of its place

  module _ (name : ℕ) where
    abbrev k : ℕ
    k = place name

    its_place : (x : ℕ) → (x == name) ≡ true → place x ≡ k
    its_place x same = ap place (same_number x name same)

    found : (rows : Rows) → lookup (λ x. x == name) (only at k rows) ≡ lookup (λ x. x == name) rows
    found rows = lookup_only place (λ x. x == name) k its_place rows

    took_at : (b : Bool) (until : ℕ) (rows : Rows) → only at k (changed place b name until (only at k rows)) ≡ only at k (changed place b name until rows)
    took_at true until rows =
        ap (only at k) (sym (set_at place (λ x. x == name) k its_place rows until)) ∙ only_again at k (set_value (λ x. x == name) rows until)
    took_at false until rows = only_again at k rows

    took_else : (b : Bool) (until : ℕ) (rows : Rows) (j : ℕ) → j ≢ k → only at j (changed place b name until rows) ≡ only at j rows
    took_else true until rows j other = set_else place (λ x. x == name) k its_place rows until j other
    took_else false until rows j other = refl

    took_in_order : (b : Bool) (until : ℕ) (rows : Rows) → StandsInOrder at 16 rows → StandsInOrder at 16 (changed place b name until rows)
    took_in_order true until rows ordered = set_in_order place (λ x. x == name) k its_place 16 rows until ordered
    took_in_order false until rows ordered = ordered

    -- what is done to all rows is done to those of the place, which are put back
    taken_there : (until : ℕ) (t : Tables) → (stores place).InOrder t
        → record t { rows = taken place name until t.rows } ≡ (own_store place k).put (taken place name until ((own_store place k).of t)) t
    taken_there until t ordered =
        ap (λ (rows : Rows). record { now = t.now; rows = rows })
        (same_gathered at 16 (taken place name until t.rows) (gathered at 16 put) (took_in_order b until t.rows ordered) (gathered_in_order at 16 put)
        (λ j few. by_place_of j few (ℕ_discrete j k)))
      where
        b : Bool
        b = may_take place (lookup (λ x. x == name) t.rows)

        put : ℕ → Rows
        put j = put_at k (below name) (taken place name until (only at k t.rows)) t.rows j

        by_place_of : (j : ℕ) → j < 16 → Dec (j ≡ k) → only at j (taken place name until t.rows) ≡ only at j (gathered at 16 put)
        by_place_of j few (yes e) =
            ap (λ (m : ℕ). only at m (taken place name until t.rows)) e
            ∙ sym (took_at b until t.rows)
            ∙ ap (λ (o : Option ℕ). only at k (changed place (may_take place o) name until (only at k t.rows))) (sym (found t.rows))
            ∙ sym (put_here k (below name) (taken place name until (only at k t.rows)) t.rows)
            ∙ ap (λ (m : ℕ). only at m (gathered at 16 put)) (sym e)
        by_place_of j few (no ne) =
            took_else b until t.rows j ne ∙ sym (put_there k (below name) (taken place name until (only at k t.rows)) t.rows j few ne)

    answered_there : (t : Tables) → answer place name t.rows ≡ answer place name ((own_store place k).of t)
    answered_there t = ap (λ (o : Option ℕ). if may_take place o then 1 else 0) (sym (found t.rows))

  -- in its area, whose table is the store of its place
  abbrev plan_in : ℕ → ℕ → Asked → Plan Tables ℕ
  plan_in name client asked = area_plan (own_store place (place name)) (tells place) (taking place) client asked

  in_plan : (name client : ℕ) (asked : Asked) → IsPlan (stores place) (plan_in name client asked)
  in_plan name client asked =
      area_law (stores place) is_device (tells place) are_told (own_store place (place name)) (store_own (place name) (below name)) (taking place) client asked

  abbrev done_on : ℕ → Asked → Tables → Done Tables ℕ
  done_on c asked t = serves place t c asked

  take_is : (client name : ℕ) (t : Tables) → (stores place).InOrder t → done_on client (Take name) t ≡ (plan_in name client (Take name)).does t
  take_is client name t ordered =
      ap₂ (λ (x : Tables) (a : ℕ). of x a) (taken_there name 1 t ordered) (answered_there name t)
    where
      of : Tables → ℕ → Done Tables ℕ
      of x a = record { tables = x; told = (client, a) ∷ [] }

  take_for_is : (client name ms : ℕ) (t : Tables) → (stores place).InOrder t
      → done_on client (TakeFor name ms) t ≡ (plan_in name client (TakeFor name ms)).does t
  take_for_is client name ms t ordered =
      ap₂ (λ (x : Tables) (a : ℕ). of x a) (taken_there name (t.now + ms) t ordered) (answered_there name t)
    where
      of : Tables → ℕ → Done Tables ℕ
      of x a = record { tables = x; told = (client, a) ∷ [] }

  -- ---- all stores

  numbered : (k n i : ℕ) → i < n → is_in (numbers_from place k n) (k + i) ≡ true
  numbered k zero i few = absurd (omega (arith, few))
  numbered k (suc n) zero few =
      let here : k ≡ k + 0 = omega arith in
      in_front (k ∷ []) (numbers_from place (suc k) n) (k + 0) (ap (λ (b : Bool). b || false) (ap (λ (m : ℕ). k == m) (sym here) ∙ same_itself k))
  numbered k (suc n) (suc i) few =
      let there : suc k + i ≡ k + suc i = omega arith in
      in_back (k ∷ []) (numbers_from place (suc k) n) (k + suc i) (ap (λ (m : ℕ). is_in (numbers_from place (suc k) n) m) (sym there) ∙ numbered (suc k) n i (omega (arith, few)))

  all_same : (us : List ℕ) (t : Tables) → (stores place).InOrder t → AllIn (stores place) (own_all place).numbers us → (masked (stores place) us t).rows ≡ t.rows
  all_same us t ordered all =
      same_gathered at 16 (masked (stores place) us t).rows t.rows (is_device.in_order (veiled (is_in us) ((stores place).table_parts t))) ordered each
    where
      on : (j : ℕ) → j < 16 → is_in us (suc j) ≡ true
      on j few = all (suc j) (let e : 1 + j ≡ suc j = omega arith in ap (λ (m : ℕ). is_in (numbers_from place 1 16) m) (sym e) ∙ numbered 1 16 j few)

      each : (j : ℕ) → j < 16 → only at j (masked (stores place) us t).rows ≡ only at j t.rows
      each j few = table_same (stores place) is_device (own_store place j) (is_store j few) us t ordered (on j few)

  all_within : (new : Rows) (us : List ℕ) (t : Tables) → (stores place).InOrder t → AllIn (stores place) (own_all place).numbers us → Within (stores place) us ((own_all place).put new) t
  all_within new us t ordered all = record {
    alone = ap (λ (rows : Rows). record { now = (masked (stores place) us t).now; rows = rows })
        (sym (all_same us ((own_all place).put new t) (gathered_in_order at 16 (λ j. new)) all));
    in_order = gathered_in_order at 16 (λ j. new);
    others = others;
  }
    where
      others : (k : ℕ) → is_in us k ≡ false → slice_get ((stores place).table_parts ((own_all place).put new t)) k ≡ slice_get ((stores place).table_parts t) k
      others zero off = refl
      others (suc j) off =
          few_or_past j
          (λ few. let e : 1 + j ≡ suc j = omega arith in
          absurd (cc (sym off ∙ all (suc j) (ap (λ (m : ℕ). is_in (numbers_from place 1 16) m) (sym e) ∙ numbered 1 16 j few))))
          (λ past. part_past (gathered at 16 (λ i. new)) j past ∙ sym (part_past t.rows j past))

  all_own : IsOwn (stores place) (own_all place)
  all_own = record { same = all_same; within = all_within }

  clock_own : IsOwn (stores place) (own_clock place)
  clock_own = table_own (stores place) is_device (own_clock place) is_clock

  all_put : (rows : Rows) → StandsInOrder at 16 rows → gathered at 16 (λ j. rows) ≡ rows
  all_put rows ordered = gathered_cut at 16 (λ j. rows) rows ordered (λ j few. refl)

  -- ---- one name more, and time: on all stores

  abbrev defining : Area Rows ℕ ℕ ℕ Question Facts
  defining = record { words = λ who asked. []; more = λ rows who asked. []; serves = λ facts rows c name. record { tables = defined place name rows; told = (c, length rows) ∷ [] } }

  abbrev timing : Area (ℕ × Rows) ℕ ℕ ℕ Question Facts
  timing = record {
    words = λ who asked. [];
    more = λ own who asked. [];
    serves = λ facts own c ms. record { tables = (own.0 + ms, passed place (own.0 + ms) own.1); told = (c, length own.1) ∷ [] };
  }

  abbrev define_plan : ℕ → ℕ → Plan Tables ℕ
  define_plan c name = area_plan (own_all place) (tells place) defining c name

  abbrev time_plan : ℕ → ℕ → Plan Tables ℕ
  time_plan c ms = area_plan (both (own_clock place) (own_all place)) (tells place) timing c ms

  define_is : (c name : ℕ) (t : Tables) → (stores place).InOrder t → done_on c (Define name) t ≡ (define_plan c name).does t
  define_is c name t ordered =
      ap (λ (rows : Rows). record { tables = record { now = t.now; rows = rows }; told = (c, length t.rows) ∷ [] })
      (sym (all_put (defined place name t.rows) (by_test (nat_le 256 (length t.rows)))))
    where
      by_test : (b : Bool) → StandsInOrder at 16 (if b then t.rows else put_behind at (name, 0) t.rows)
      by_test true = ordered
      by_test false = behind_in_order at (name, 0) 16 t.rows (below name) ordered

  time_is : (c ms : ℕ) (t : Tables) → (stores place).InOrder t → done_on c (Tick ms) t ≡ (time_plan c ms).does t
  time_is c ms t ordered =
      ap (λ (rows : Rows). record { tables = record { now = t.now + ms; rows = rows }; told = (c, length t.rows) ∷ [] })
      (sym (all_put (passed place (t.now + ms) t.rows) (map_in_order at (over place (t.now + ms)) stays 16 t.rows ordered)))
    where
      stays : (e : ℕ × ℕ) → at (over place (t.now + ms) e) ≡ at e
      stays e = by_test (nat_le e.1 (t.now + ms))
        where
          by_test : (b : Bool) → at (if b then (e.0, 0) else e) ≡ at e
          by_test true = refl
          by_test false = refl

  -- ---- so each event reads and changes the parts that it asks for alone

  shown_ordered : (us : List ℕ) (t : Tables) → (stores place).InOrder (masked (stores place) us t)
  shown_ordered us t = is_device.in_order (veiled (is_in us) ((stores place).table_parts t))

  define_law : (c name : ℕ) → IsPlan (stores place) (define_plan c name)
  define_law c name = area_law (stores place) is_device (tells place) are_told (own_all place) all_own defining c name

  time_law : (c ms : ℕ) → IsPlan (stores place) (time_plan c ms)
  time_law c ms =
      area_law (stores place) is_device (tells place) are_told (both (own_clock place) (own_all place))
      (both_own (stores place) is_device (own_clock place) (own_all place) clock_own all_own) timing c ms

  each_asked : (c : ℕ) (asked : Asked) → IsServed (stores place) (services place) (record { client = c; asked = asked })
  each_asked c (Take name) = record {
    stages = λ t row ordered. tt;
    within = λ t row ordered. take_is c name t ordered ∙ (in_plan name c (Take name)).within t ordered
        ∙ ap (done_within (stores place) us t) (sym (take_is c name (masked (stores place) us t) (shown_ordered us t)));
  }
    where
      us : List ℕ
      us = suc (place name) ∷ []
  each_asked c (TakeFor name ms) = record {
    stages = λ t row ordered. tt;
    within = λ t row ordered. take_for_is c name ms t ordered ∙ (in_plan name c (TakeFor name ms)).within t ordered
        ∙ ap (done_within (stores place) us t) (sym (take_for_is c name ms (masked (stores place) us t) (shown_ordered us t)));
  }
    where
      us : List ℕ
      us = suc (place name) ∷ 0 ∷ []
  each_asked c (Define name) = record {
    stages = λ t row ordered. tt;
    within = λ t row ordered. define_is c name t ordered ∙ (define_law c name).within t ordered
        ∙ ap (done_within (stores place) us t) (sym (define_is c name (masked (stores place) us t) (shown_ordered us t)));
  }
    where
      us : List ℕ
      us = numbers_from place 1 16
  each_asked c (Tick ms) = record {
    stages = λ t row ordered. tt;
    within = λ t row ordered. time_is c ms t ordered ∙ (time_law c ms).within t ordered
        ∙ ap (done_within (stores place) us t) (sym (time_is c ms (masked (stores place) us t) (shown_ordered us t)));
  }
    where
      us : List ℕ
      us = 0 ∷ numbers_from place 1 16

  pub each_served : (e : Event) → IsServed (stores place) (services place) e
  each_served e = each_asked e.client e.asked
