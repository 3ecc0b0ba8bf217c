-- Tables whose parts are laid over those that are held, or put in their places: proved once, however many tables there are.
use Rattle.std.specs.Prelude.{◌≡◌, ◌≢◌, ℕ, zero, suc, ◌+◌, ◌<◌, ◌≤◌, Option, None, Some, List, [], ◌∷◌, map, length, slice_get, unwrap_or, refl}
use Rattle.std.specs.Option.{option_map}
use Rattle.std.proofs.Common.{ap, sym, ◌∙◌, subst, arith}
use Rattle.part_table.specs.Held.{held_at, IsHandOf}
use Rattle.part_table.specs.HeldLaws.{held_of_list}
use Rattle.parted_state.proofs.LiftedLaws.{change_other, held_else, other_table, put_as_held}
use Rattle.parted_state.specs.Area.{Own, IsTable}
use Rattle.parted_state.specs.DeviceLaws.{as_many, around_at, table_at}
use Rattle.parted_state.specs.Lifted.{laid_from, put_from, tables_shown, with_tables}
use Rattle.parted_state.specs.ListsLaws.{held_of_all, length-change}
use Rattle.parted_state.specs.Served.{Device, around, change, clients_among, front, parts_of, table_place, IsDevice}

-- ---- one place is changed

pub change_as : {P : Type 0} (f g : Option P → Option P) (hand : List (Option P)) (i : ℕ) → f (held_at hand i) ≡ g (held_at hand i) → change f hand i ≡ change g hand i
change_as f g [] i same = refl
change_as {P} f g (held ∷ hand) zero same = ap (λ (o : Option P). o ∷ hand) same
change_as {P} f g (held ∷ hand) (suc i) same = ap (λ (l : List (Option P)). held ∷ l) (change_as f g hand i same)

pub change_twice : {A : Type 0} (f g : A → A) (xs : List A) (i : ℕ) → change f (change g xs i) i ≡ change (λ x. f (g x)) xs i
change_twice f g [] i = refl
change_twice f g (x ∷ xs) zero = refl
change_twice {A} f g (x ∷ xs) (suc i) = ap (λ (l : List A). x ∷ l) (change_twice f g xs i)

-- a part over another over a third is as without the second, where that is so of every third
pub over_twice : {P : Type 0} (f g : P → P) (hand : List (Option P)) (i : ℕ) → ((z : P) → f (g z) ≡ f z) → change (option_map f) (change (option_map g) hand i) i ≡ change (option_map f) hand i
over_twice {P} f g hand i same =
    change_twice (option_map f) (option_map g) hand i
    ∙ change_as (λ held. option_map f (option_map g held)) (option_map f) hand i (here (held_at hand i))
  where
    here : (held : Option P) → option_map f (option_map g held) ≡ option_map f held
    here None = refl
    here (Some z) = ap Some (same z)

module _ {S T R F P : Type 0} (d : Device S T R F P) (is : IsDevice d) (over : P → P → P) (n : ℕ) where
  abbrev laid : ℕ → List P → List (Option P) → List (Option P)
  laid k parts hand = laid_from d over n k parts hand

  -- as many parts
  pub length-laid : (parts : List P) (k : ℕ) (hand : List (Option P)) → length (laid k parts hand) ≡ length hand
  length-laid [] k hand = refl
  length-laid (part ∷ parts) k hand =
      length-laid parts (suc k) (change (option_map (over part)) hand (table_place d n k)) ∙ length-change (option_map (over part)) hand (table_place d n k)

  -- what stands at another place
  pub laid_else : (parts : List P) (k place : ℕ) (hand : List (Option P)) → ((l : ℕ) → k ≤ l → place ≢ table_place d n l) → held_at (laid k parts hand) place ≡ held_at hand place
  laid_else [] k place hand other = refl
  laid_else (part ∷ parts) k place hand other =
      laid_else parts (suc k) place (change (option_map (over part)) hand (table_place d n k)) (λ l past. other l (omega (arith, past)))
      ∙ held_else (option_map (over part)) hand (table_place d n k) place (other k (omega arith))

  -- another place is changed before or after
  pub laid_beside : (parts : List P) (k place : ℕ) (g : Option P → Option P) (hand : List (Option P)) → ((l : ℕ) → k ≤ l → place ≢ table_place d n l)
      → laid k parts (change g hand place) ≡ change g (laid k parts hand) place
  laid_beside [] k place g hand other = refl
  laid_beside (part ∷ parts) k place g hand other =
      ap (λ (l : List (Option P)). laid (suc k) parts l) (change_other (option_map (over part)) g hand place (table_place d n k) (other k (omega arith)))
      ∙ laid_beside parts (suc k) place g (change (option_map (over part)) hand (table_place d n k)) (λ l past. other l (omega (arith, past)))

  behind : (k l : ℕ) → suc k ≤ l → table_place d n k ≢ table_place d n l
  behind k l past = other_table d is n k l (λ same. omega (arith, past, same))

  -- parts of the same tables, one after the other
  abbrev pub AreOver : List P → List P → Type 0
  AreOver [] [] = Unit {0}
  AreOver (x ∷ xs) (y ∷ ys) = ((z : P) → over x (over y z) ≡ over x z) × AreOver xs ys
  AreOver xs ys = ⊥

  -- laid over twice is laid over once
  pub laid_twice : (xs ys : List P) (k : ℕ) (hand : List (Option P)) → AreOver xs ys → laid k xs (laid k ys hand) ≡ laid k xs hand
  laid_twice [] [] k hand are = refl
  laid_twice [] (y ∷ ys) k hand are = absurd are
  laid_twice (x ∷ xs) [] k hand are = absurd are
  laid_twice (x ∷ xs) (y ∷ ys) k hand are =
      ap (λ (l : List (Option P)). laid (suc k) xs l)
      (sym (laid_beside ys (suc k) (table_place d n k) (option_map (over x)) (change (option_map (over y)) hand (table_place d n k)) (behind k)))
      ∙ laid_twice xs ys (suc k) (change (option_map (over x)) (change (option_map (over y)) hand (table_place d n k)) (table_place d n k)) are.1
      ∙ ap (λ (l : List (Option P)). laid (suc k) xs l) (over_twice (over x) (over y) hand (table_place d n k) are.0)

  -- what is done to all that is held, as making room, is done before or after
  pub laid_alike : (f : List (Option P) → List (Option P)) (parts : List P) (k : ℕ) (hand : List (Option P))
      → ((l : ℕ) (x : P) (h : List (Option P)) → slice_get parts l ≡ Some x → change (option_map (over x)) (f h) (table_place d n (k + l)) ≡ f (change (option_map (over x)) h (table_place d n (k + l))))
      → laid k parts (f hand) ≡ f (laid k parts hand)
  laid_alike f [] k hand alike = refl
  laid_alike f (part ∷ parts) k hand alike =
      ap (λ (l : List (Option P)). laid (suc k) parts l)
      (ap (λ (m : ℕ). change (option_map (over part)) (f hand) (table_place d n m)) (sym first) ∙ alike 0 part hand refl
      ∙ ap (λ (m : ℕ). f (change (option_map (over part)) hand (table_place d n m))) first)
      ∙ laid_alike f parts (suc k) (change (option_map (over part)) hand (table_place d n k))
      (λ l x h there. subst (λ (m : ℕ). change (option_map (over x)) (f h) (table_place d n m) ≡ f (change (option_map (over x)) h (table_place d n m))) (next l) (alike (suc l) x h there))
    where
      first : k + 0 ≡ k
      first = omega arith

      next : (l : ℕ) → k + suc l ≡ suc k + l
      next l = omega arith

  -- parts that are held as they are laid over
  pub laid_same : (parts : List P) (k : ℕ) (hand : List (Option P))
      → ((l : ℕ) (x y : P) → slice_get parts l ≡ Some x → held_at hand (table_place d n (k + l)) ≡ Some y → over x y ≡ y) → laid k parts hand ≡ hand
  laid_same [] k hand same = refl
  laid_same (part ∷ parts) k hand same =
      ap (λ (l : List (Option P)). laid (suc k) parts l) (as_there hand (table_place d n k) (λ y held. same 0 part y refl (ap (λ (m : ℕ). held_at hand (table_place d n m)) first ∙ held)))
      ∙ laid_same parts (suc k) hand (λ l x y there held. same (suc l) x y there (ap (λ (m : ℕ). held_at hand (table_place d n m)) (next l) ∙ held))
    where
      first : k + 0 ≡ k
      first = omega arith

      next : (l : ℕ) → k + suc l ≡ suc k + l
      next l = omega arith

      as_there : (hand : List (Option P)) (i : ℕ) → ((y : P) → held_at hand i ≡ Some y → over part y ≡ y) → change (option_map (over part)) hand i ≡ hand
      as_there [] i same = refl
      as_there (None ∷ hand) zero same = refl
      as_there (Some y ∷ hand) zero same = ap (λ (x : P). Some x ∷ hand) (same y refl)
      as_there (h ∷ hand) (suc i) same = ap (λ (l : List (Option P)). h ∷ l) (as_there hand i same)

  -- parts that are laid over those of the same tables stand in their places
  pub laid_put : (parts : List P) (k : ℕ) (hand : List (Option P))
      → ((l : ℕ) (x y : P) → slice_get parts l ≡ Some x → held_at hand (table_place d n (k + l)) ≡ Some y → over x y ≡ x) → laid k parts hand ≡ put_from d n k parts hand
  laid_put [] k hand same = refl
  laid_put (part ∷ parts) k hand same =
      laid_put parts (suc k) (change (option_map (over part)) hand (table_place d n k))
      (λ l x y there held. same (suc l) x y there
      (ap (λ (m : ℕ). held_at hand (table_place d n m)) (next l)
      ∙ sym (held_else (option_map (over part)) hand (table_place d n k) (table_place d n (suc k + l)) (λ e. behind k (suc k + l) (omega arith) (sym e))) ∙ held))
      ∙ ap (λ (l : List (Option P)). put_from d n (suc k) parts l)
      (change_as (option_map (over part)) (option_map (λ held. part)) hand (table_place d n k) (here (held_at hand (table_place d n k)) refl))
    where
      first : k + 0 ≡ k
      first = omega arith

      next : (l : ℕ) → k + suc l ≡ suc k + l
      next l = omega arith

      here : (o : Option P) → held_at hand (table_place d n k) ≡ o → option_map (over part) o ≡ option_map (λ held. part) o
      here None e = refl
      here (Some y) e = ap Some (same 0 part y refl (ap (λ (m : ℕ). held_at hand (table_place d n m)) first ∙ e))

module _ {S T R F P : Type 0} (d : Device S T R F P) (is : IsDevice d) (n : ℕ) where
  put_apart : (parts : List P) (k place : ℕ) (g : Option P → Option P) (hand : List (Option P)) → ((l : ℕ) → k ≤ l → place ≢ table_place d n l)
      → put_from d n k parts (change g hand place) ≡ change g (put_from d n k parts hand) place
  put_apart [] k place g hand other = refl
  put_apart (part ∷ parts) k place g hand other =
      ap (λ (l : List (Option P)). put_from d n (suc k) parts l) (change_other (option_map (λ held. part)) g hand place (table_place d n k) (other k (omega arith)))
      ∙ put_apart parts (suc k) place g (change (option_map (λ held. part)) hand (table_place d n k)) (λ l past. other l (omega (arith, past)))

  -- of all parts one is another
  put_one : (parts : List P) (k i : ℕ) (new : P) (hand : List (Option P)) → i < length parts
      → put_from d n k (change (λ old. new) parts i) hand ≡ change (option_map (λ held. new)) (put_from d n k parts hand) (table_place d n (k + i))
  put_one [] k i new hand below = absurd (omega (arith, below))
  put_one (part ∷ parts) k zero new hand below =
      ap (λ (l : List (Option P)). put_from d n (suc k) parts l) (sym (over_twice (λ held. new) (λ held. part) hand (table_place d n k) (λ z. refl)))
      ∙ put_apart parts (suc k) (table_place d n k) (option_map (λ held. new)) (change (option_map (λ held. part)) hand (table_place d n k))
      (λ l past. other_table d is n k l (λ same. omega (arith, past, same)))
      ∙ ap (λ (m : ℕ). change (option_map (λ held. new)) (put_from d n k (part ∷ parts) hand) (table_place d n m)) (let e : k ≡ k + 0 = omega arith in e)
  put_one (part ∷ parts) k (suc i) new hand below =
      put_one parts (suc k) i new (change (option_map (λ held. part)) hand (table_place d n k)) (omega (arith, below))
      ∙ ap (λ (m : ℕ). change (option_map (λ held. new)) (put_from d n k (part ∷ parts) hand) (table_place d n m)) (let e : suc k + i ≡ k + suc i = omega arith in e)

module _ {S T R F P : Type 0} (d : Device S T R F P) (is : IsDevice d) (s : S) (hand : List (Option P)) (of : IsHandOf hand (parts_of d s)) where
  abbrev n : ℕ
  n = clients_among d (length hand)

  counted : length (d.clients_of s) ≡ n
  counted = let a = as_many d is s in let b = of.places in omega (arith, a, b)

  -- a table's part that is held is that of the state
  pub part_of : (l : ℕ) (y : P) → held_at hand (table_place d n l) ≡ Some y → slice_get (d.table_parts (d.tables_of s)) l ≡ Some y
  part_of l y held =
      sym (table_at d is s l) ∙ ap (λ (m : ℕ). slice_get (parts_of d s) (table_place d m l)) counted ∙ held_of_list hand (parts_of d s) (table_place d n l) y of held

  -- and of the tables that held parts show
  pub part_shown : (l : ℕ) (x y : P) → slice_get (d.table_parts (tables_shown d hand)) l ≡ Some x → held_at hand (table_place d n l) ≡ Some y → x ≡ y
  part_shown l x y there held =
      let own = part_of l y held in
      let shown = is.by_place (around (front d) n hand) (map Some (d.table_parts (d.tables_of s))) l
      (ap (λ (o : Option (Option P)). unwrap_or o None) (around_at d is n hand l) ∙ held ∙ sym own ∙ held_of_all (d.table_parts (d.tables_of s)) l) in
      let both : Some x ≡ Some y = sym there ∙ shown ∙ ap (λ (parts : List P). slice_get parts l) (is.shown (d.tables_of s)) ∙ own in
      cc both

  -- held parts of a state are as their own tables are put back
  pub tables_kept : with_tables d n (tables_shown d hand) hand ≡ hand
  tables_kept =
      put_as_held d is n (d.table_parts (tables_shown d hand)) 0 hand
      (λ l x y there held. part_shown l x y there (ap (λ (m : ℕ). held_at hand (table_place d n m)) (let e : l ≡ 0 + l = omega arith in e) ∙ held))

  -- where the table of one area alone becomes another, its part alone does
  pub one_put : {A : Type 0} (own : Own T A) (table : IsTable d own) (new : A) → table.number < d.tables
      → with_tables d n (own.put new (tables_shown d hand)) hand ≡ change (option_map (λ held. table.part new)) hand (table_place d n table.number)
  one_put own table new below =
      ap (λ (l : List P). put_from d n 0 l hand) (table.puts new (tables_shown d hand))
      ∙ put_one d is n (d.table_parts (tables_shown d hand)) 0 table.number (table.part new) hand (let many = is.many (tables_shown d hand) in omega (arith, below, many))
      ∙ ap (λ (m : ℕ). change (option_map (λ held. table.part new)) (with_tables d n (tables_shown d hand) hand) (table_place d n m)) (let e : 0 + table.number ≡ table.number = omega arith in e)
      ∙ ap (λ (h : List (Option P)). change (option_map (λ held. table.part new)) h (table_place d n table.number)) tables_kept

  -- and so where two areas' do
  pub two_put : {A B : Type 0} (own : Own T A) (table : IsTable d own) (other : Own T B) (its : IsTable d other) (new : A) (more : B) → table.number < d.tables → its.number < d.tables
      → with_tables d n (own.put new (other.put more (tables_shown d hand))) hand
      ≡ change (option_map (λ held. table.part new)) (change (option_map (λ held. its.part more)) hand (table_place d n its.number)) (table_place d n table.number)
  two_put own table other its new more below its_below =
      ap (λ (l : List P). put_from d n 0 l hand) (table.puts new (other.put more (tables_shown d hand)))
      ∙ put_one d is n (d.table_parts (other.put more (tables_shown d hand))) 0 table.number (table.part new) hand (let many = is.many (other.put more (tables_shown d hand)) in omega (arith, below, many))
      ∙ ap (λ (m : ℕ). change (option_map (λ held. table.part new)) (with_tables d n (other.put more (tables_shown d hand)) hand) (table_place d n m)) (let e : 0 + table.number ≡ table.number = omega arith in e)
      ∙ ap (λ (h : List (Option P)). change (option_map (λ held. table.part new)) h (table_place d n table.number)) (one_put other its more its_below)
