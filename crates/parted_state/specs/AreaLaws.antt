-- A request in an area reads and changes the tables that it uses alone: proved once, for every area of every device.
use Rattle.std.specs.Prelude.{◌≡◌, ◌≢◌, Option, None, ℕ, zero, suc, Bool, true, false, ◌||◌, List, Some, [], ◌∷◌, ◌++◌, map, slice_get, if◌then◌else◌, refl}
use Rattle.std.specs.List.{flat_map}
use Rattle.std.specs.Option.{option_map}
use Rattle.part_table.specs.Held.{held_at}
use Rattle.std.proofs.Common.{ap, ap₂, sym, ◌∙◌, append_assoc}
use native.Mathlib.Decide.{ℕ_discrete}
use Rattle.parted_state.specs.Area.{Own, no_table, both, Within, AllIn, IsTable, Tells, Area, Plan, facts_told, questions, facts_of, area_plan, planned, IsOwn, AreTold, IsPlan}
use Rattle.parted_state.specs.Cut.{is_in}
use Rattle.parted_state.specs.CutLaws.{in_front, in_back, same_itself}
use Rattle.parted_state.specs.ListsLaws.{get_changed, get_change, get_veiled, held_of_all, same_list}
use Rattle.parted_state.specs.Served.{Done, Device, change, veiled, chosen, masked, merged, done_within, IsServed, IsDevice}
use Rattle.parted_state.specs.ServedLaws as served

-- what is at a place of a list that is changed is told by what was there
same_changed : {A : Type 0} (f : A → A) (xs ys : List A) (i k : ℕ) → slice_get xs k ≡ slice_get ys k → slice_get (change f xs i) k ≡ slice_get (change f ys i) k
same_changed {A} f xs ys i k same = by (ℕ_discrete k i)
  where
    by : Dec (k ≡ i) → slice_get (change f xs i) k ≡ slice_get (change f ys i) k
    by (yes e) =
        ap (λ (j : ℕ). slice_get (change f xs i) j) e
        ∙ get_changed f xs i
        ∙ ap (option_map f) (ap (λ (j : ℕ). slice_get xs j) (sym e) ∙ same ∙ ap (λ (j : ℕ). slice_get ys j) e)
        ∙ sym (get_changed f ys i)
        ∙ ap (λ (j : ℕ). slice_get (change f ys i) j) (sym e)
    by (no ne) = get_change f xs i k ne ∙ same ∙ sym (get_change f ys i k ne)

-- what is seen at a place
get_veil : {A : Type 0} (p : ℕ → Bool) (xs : List A) (k : ℕ) → held_at (veiled p xs) k ≡ (if p k then slice_get xs k else None)
get_veil {A} p [] k = by_test (p k) None
  where
    by_test : (b : Bool) (o : Option A) → o ≡ (if b then o else o)
    by_test true o = refl
    by_test false o = refl
get_veil p (x ∷ xs) zero = refl
get_veil p (x ∷ xs) (suc k) = get_veil (λ i. p (suc i)) xs k

module _ {S T R F P : Type 0} (d : Device S T R F P) (is : IsDevice d) where
  same_tables : (t u : T) → d.InOrder t → d.InOrder u → ((k : ℕ) → slice_get (d.table_parts t) k ≡ slice_get (d.table_parts u) k) → t ≡ u
  same_tables t u ordered also same = sym (is.whole t ordered) ∙ ap (λ (l : List P). d.tables_in (map Some l)) (same_list (d.table_parts t) (d.table_parts u) same) ∙ is.whole u also

  -- ---- what becomes of some tables alone

  masked_alike : (us : List ℕ) (t u : T) (k : ℕ) → slice_get (d.table_parts t) k ≡ slice_get (d.table_parts u) k
      → slice_get (d.table_parts (masked d us t)) k ≡ slice_get (d.table_parts (masked d us u)) k
  masked_alike us t u k same =
      is.by_place (veiled (is_in us) (d.table_parts t)) (veiled (is_in us) (d.table_parts u)) k
      (get_veil (is_in us) (d.table_parts t) k ∙ ap (λ (o : Option P). if is_in us k then o else None) same ∙ sym (get_veil (is_in us) (d.table_parts u) k))

  pub merged_within : (us : List ℕ) (becomes : T → T) (t : T) → Within d us becomes t → becomes t ≡ merged d us (becomes (masked d us t)) t
  merged_within us becomes t within =
      same_tables (becomes t) (merged d us (masked d us (becomes t)) t) within.in_order (is.in_order (chosen (is_in us) (d.table_parts (masked d us (becomes t))) (d.table_parts t))) (λ k. by_test k (is_in us k) refl ∙ sym (served.merged_at d is us (masked d us (becomes t)) t k))
      ∙ ap (λ (x : T). merged d us x t) (sym within.alone)
    where
      by_test : (k : ℕ) (b : Bool) → is_in us k ≡ b → slice_get (d.table_parts (becomes t)) k ≡ slice_get (d.table_parts (if is_in us k then masked d us (becomes t) else t)) k
      by_test k true e =
          sym (served.masked_at d is us (becomes t) k e) ∙ ap (λ (b : Bool). slice_get (d.table_parts (if b then masked d us (becomes t) else t)) k) (sym e)
      by_test k false e = within.others k e ∙ ap (λ (b : Bool). slice_get (d.table_parts (if b then masked d us (becomes t) else t)) k) (sym e)

  then_within : (us : List ℕ) (first next : T → T) (t : T) → Within d us first t → Within d us next (first t) → Within d us (λ u. next (first u)) t
  then_within us first next t one two = record { alone = ap next one.alone ∙ two.alone; in_order = two.in_order; others = λ k out. two.others k out ∙ one.others k out }

  -- ---- the tables of an area

  pub none_own : IsOwn d no_table
  none_own = record { same = λ us t ordered inside. refl; within = λ new us t ordered inside. record { alone = refl; in_order = ordered; others = λ k out. refl } }

  pub table_same : {A : Type 0} (own : Own T A) (table : IsTable d own) (us : List ℕ) (t : T) → d.InOrder t → is_in us table.number ≡ true → own.of (masked d us t) ≡ own.of t
  table_same own table us t ordered on =
      table.shown (veiled (is_in us) (d.table_parts t))
      ∙ ap table.part_in (get_veiled (is_in us) (d.table_parts t) table.number on ∙ held_of_all (d.table_parts t) table.number)
      ∙ sym (table.shown (map Some (d.table_parts t)))
      ∙ ap own.of (is.whole t ordered)

  pub table_own : {A : Type 0} (own : Own T A) → IsTable d own → IsOwn d own
  table_own {A} own table = record { same = λ us t ordered all. table_same own table us t ordered (inside us all); within = λ new us t ordered all. within new us t ordered (inside us all) }
    where
      inside : (us : List ℕ) → AllIn d own.numbers us → is_in us table.number ≡ true
      inside us all = all table.number (ap (λ (l : List ℕ). is_in l table.number) table.one ∙ ap (λ (b : Bool). b || false) (same_itself table.number))

      within : (new : A) (us : List ℕ) (t : T) → d.InOrder t → is_in us table.number ≡ true → Within d us (own.put new) t
      within new us t ordered on = record {
        alone = same_tables (own.put new (masked d us t)) (masked d us (own.put new t)) (table.keeps new (masked d us t) (is.in_order (veiled (is_in us) (d.table_parts t))))
            (is.in_order (veiled (is_in us) (d.table_parts (own.put new t)))) (λ k. by_test k (is_in us k) refl);
        in_order = table.keeps new t ordered;
        others = others t;
      }
        where
          set : P → P
          set old = table.part new

          apart : (k : ℕ) → is_in us k ≡ false → k ≢ table.number
          apart k out same = let there : is_in us table.number ≡ false = ap (λ (j : ℕ). is_in us j) (sym same) ∙ out in cc (sym on ∙ there)

          others : (u : T) (k : ℕ) → is_in us k ≡ false → slice_get (d.table_parts (own.put new u)) k ≡ slice_get (d.table_parts u) k
          others u k out = ap (λ (l : List P). slice_get l k) (table.puts new u) ∙ get_change set (d.table_parts u) table.number k (apart k out)

          by_test : (k : ℕ) (b : Bool) → is_in us k ≡ b → slice_get (d.table_parts (own.put new (masked d us t))) k ≡ slice_get (d.table_parts (masked d us (own.put new t))) k
          by_test k true e =
              ap (λ (l : List P). slice_get l k) (table.puts new (masked d us t))
              ∙ same_changed set (d.table_parts (masked d us t)) (d.table_parts t) table.number k (served.masked_at d is us t k e)
              ∙ ap (λ (l : List P). slice_get l k) (sym (table.puts new t))
              ∙ sym (served.masked_at d is us (own.put new t) k e)
          by_test k false e = others (masked d us t) k e ∙ sym (masked_alike us (own.put new t) t k (others t k e))

  pub both_own : {A B : Type 0} (own : Own T A) (other : Own T B) → IsOwn d own → IsOwn d other → IsOwn d (both own other)
  both_own {A} {B} own other is_own is_other = record {
    same = λ us t ordered all. ap₂ (λ (a : A) (b : B). (a, b)) (is_own.same us t ordered (left us all)) (is_other.same us t ordered (right us all));
    within = λ new us t ordered all.
        let one = is_other.within new.1 us t ordered (right us all) in
        then_within us (other.put new.1) (own.put new.0) t one (is_own.within new.0 us (other.put new.1 t) one.in_order (left us all));
  }
    where
      left : (us : List ℕ) → AllIn d (own.numbers ++ other.numbers) us → AllIn d own.numbers us
      left us all k on = all k (in_front own.numbers other.numbers k on)

      right : (us : List ℕ) → AllIn d (own.numbers ++ other.numbers) us → AllIn d other.numbers us
      right us all k on = all k (in_back own.numbers other.numbers k on)

  -- ---- facts

  module _ {K X : Type 0} (tells : Tells T K X) (told : AreTold d tells) where
    facts_same : (ks : List K) (us : List ℕ) (t : T) → d.InOrder t → AllIn d (flat_map tells.tables ks) us → facts_told tells ks (masked d us t) ≡ facts_told tells ks t
    facts_same [] us t ordered all = refl
    facts_same (k ∷ ks) us t ordered all =
        told.same k (facts_told tells ks (masked d us t)) us t ordered (λ i on. all i (in_front (tells.tables k) (flat_map tells.tables ks) i on))
        ∙ ap (λ (facts : X). tells.noted k t facts) (facts_same ks us t ordered (λ i on. all i (in_back (tells.tables k) (flat_map tells.tables ks) i on)))

    -- ---- a request in an area

    module _ {A W Q : Type 0} (own : Own T A) (is_own : IsOwn d own) (area : Area A W F Q K X) (who : W) (asked : Q) where
      abbrev plan : Plan T F
      plan = area_plan own tells area who asked

      abbrev uses : T → List ℕ
      uses t = plan.asks ++ (plan.more t ++ [])

      own_asked : AllIn d own.numbers plan.asks
      own_asked k on = in_front own.numbers (flat_map tells.tables (area.words who asked)) k on

      own_used : (t : T) → AllIn d own.numbers (uses t)
      own_used t k on = in_front plan.asks (plan.more t ++ []) k (own_asked k on)

      -- the tables of all questions are those of its words, and then the others
      asked_apart : (words more : List K) → flat_map tells.tables (words ++ more) ≡ flat_map tells.tables words ++ flat_map tells.tables more
      asked_apart [] more = refl
      asked_apart (k ∷ words) more =
          ap (λ (l : List ℕ). tells.tables k ++ l) (asked_apart words more)
          ∙ sym (append_assoc (tells.tables k) (flat_map tells.tables words) (flat_map tells.tables more))

      asked_used : (t : T) → AllIn d (flat_map tells.tables (questions own tells area who asked t)) (uses t)
      asked_used t i on =
          ap (λ (l : List ℕ). is_in l i) (append_assoc own.numbers words (more ++ []))
          ∙ in_back own.numbers (words ++ (more ++ [])) i
          (ap (λ (l : List ℕ). is_in l i) (sym (append_assoc words more []))
          ∙ in_front (words ++ more) [] i (ap (λ (l : List ℕ). is_in l i) (sym (asked_apart (area.words who asked) (area.more (own.of t) who asked))) ∙ on))
        where
          words : List ℕ
          words = flat_map tells.tables (area.words who asked)

          more : List ℕ
          more = flat_map tells.tables (area.more (own.of t) who asked)

      of_same : (t : T) → d.InOrder t → own.of (masked d (uses t) t) ≡ own.of t
      of_same t ordered = is_own.same (uses t) t ordered (own_used t)

      told_same : (t : T) → d.InOrder t → facts_of own tells area who asked (masked d (uses t) t) ≡ facts_of own tells area who asked t
      told_same t ordered =
          ap (λ (a : A). facts_told tells (area.words who asked ++ area.more a who asked) (masked d (uses t) t)) (of_same t ordered)
          ∙ facts_same (questions own tells area who asked t) (uses t) t ordered (asked_used t)

      -- whatever is made of the facts and the area's table is the same by the tables that are used alone
      pub seen_same : {Z : Type 0} (made : X → A → Z) (t : T) → d.InOrder t
          → made (facts_of own tells area who asked (masked d (uses t) t)) (own.of (masked d (uses t) t)) ≡ made (facts_of own tells area who asked t) (own.of t)
      seen_same made t ordered = ap₂ made (told_same t ordered) (of_same t ordered)

      pub area_law : IsPlan d plan
      area_law = record {
        more_same = λ t ordered. ap (λ (a : A). flat_map tells.tables (area.more a who asked)) (is_own.same plan.asks t ordered own_asked);
        within = within;
      }
        where
          at : T → Done A F → Done T F
          at tables done = record { tables = tables; told = done.told }

          within : (t : T) → d.InOrder t → plan.does t ≡ done_within d (uses t) t (plan.does (masked d (uses t) t))
          within t ordered =
              let done = area.serves (facts_of own tells area who asked t) (own.of t) who asked in
              ap (λ (tables : T). at tables done) (merged_within (uses t) (own.put done.tables) t (is_own.within done.tables (uses t) t ordered (own_used t)))
              ∙ ap (λ (done : Done A F). at (merged d (uses t) (own.put done.tables (masked d (uses t) t)) t) done) (sym (seen_same (λ facts a. area.serves facts a who asked) t ordered))

  -- ---- so each event that has a plan is served by the tables that it uses alone

  pub planned_served : {E : Type 0} (own : E → ℕ) (plan_of : R → E → Plan T F) (event : E) → ((row : R) → IsPlan d (plan_of row event)) → IsServed d (planned own plan_of) event
  planned_served own plan_of event law = record {
    stages = λ t row ordered. (refl, ((law row).more_same t ordered, tt));
    within = λ t row ordered. (law row).within t ordered;
  }
