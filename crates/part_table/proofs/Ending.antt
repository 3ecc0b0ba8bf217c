-- The table at the end: who keeps all numbers is alone, and each part is at home.
use Rattle.std.proofs.Common.{option_to_list, append_assoc, length-append, ◌≡◌, ◌⊎◌, ℕ, zero, suc, ◌+◌, ◌-◌, ◌<◌, Bool, true, false, List, [], ◌∷◌, ◌++◌, length, map, get_or, slice_get, nat_lt, if◌then◌else◌, Option, None, Some, inl, inr, refl, sym, ◌∙◌, ap, ap₂, subst, arith}
use native.Mathlib.Decide.{ℕ_discrete}
use mathlib.Core.Option.{Option as Maybe, some, some-injective}
use lib.ListN.{get_elem?}
use Rattle.atomic_table.specs.Table.{State, Me, Final, Seen}
use Rattle.part_table.specs.declared.view.Setting.{Setting}
use Rattle.part_table.specs.declared.view.Account.{Account}
use Rattle.part_table.specs.declared.view.View.{View}
use Rattle.part_table.specs.History.{StartsWith, BeginsEach, replayed}
use Rattle.part_table.specs.Held.{held_at}
use Rattle.part_table.specs.Known.{Known, Opened}
use Rattle.part_table.specs.Lines.{owner_word, slot_of}
use Rattle.part_table.specs.Closing.{AreFull, AreOfSlots, IsLongest, account_of, IsSeatOf, IsTold, KnowsAll, OneSaw, HasJoined}
use Rattle.atomic_table.specs.Seated.{TableId}
use Rattle.part_table.specs.Passes.{IsPass, known_with, empties, number_of, own_of, left_of, held_count, one_if_held}
use Rattle.part_table.specs.Plays.{joined}
use Rattle.part_table.specs.Rule.{IsIn, Keeps, parts_after, Kept, KeptAt}
use Rattle.part_table.proofs.Histories.{starts_refl}
use Rattle.part_table.proofs.Order.{at_within, as_slice}
use Rattle.part_table.proofs.Views.{in_left, in_right}

module _ {T E : Type 0} where
  abbrev Knows : View T E → List (ℕ × E) → Type 0
  Knows v h = (v.seen ≡ h) ⊎ IsTold v.told h

  knows_still : (v w : View T E) (h : List (ℕ × E)) → Knows v h → Knows (joined v w) h
  knows_still v w h k = by (nat_lt (length v.seen) (length w.seen)) k
    where
      by : (b : Bool) → (v.seen ≡ h) ⊎ IsTold v.told h → ((if b then w.seen else v.seen) ≡ h) ⊎ (((if b then v.seen else w.seen) ≡ h) ⊎ IsTold v.told h)
      by true (inl e) = inr (inl e)
      by true (inr t) = inr (inr t)
      by false (inl e) = inl e
      by false (inr t) = inr (inr t)

  knows_other : (v w : View T E) → Knows (joined v w) w.seen
  knows_other v w = by (nat_lt (length v.seen) (length w.seen))
    where
      by : (b : Bool) → ((if b then w.seen else v.seen) ≡ w.seen) ⊎ (((if b then v.seen else w.seen) ≡ w.seen) ⊎ IsTold v.told w.seen)
      by true = inl refl
      by false = inr (inl refl)

  all_still : (v w : View T E) (passes : List (Known T E)) → KnowsAll v passes → KnowsAll (joined v w) passes
  all_still v w [] k = tt
  all_still v w (p ∷ passes) k = ((knows_still v w p.seen k.0.0, in_right w.callers v.callers (account_of p) k.0.1), all_still v w passes k.1)

  one_longest : (v w : View T E) (p : Known T E) (passes : List (Known T E)) → w.seen ≡ p.seen → OneSaw v.seen passes → OneSaw (joined v w).seen (p ∷ passes)
  one_longest v w p passes same saw = by (nat_lt (length v.seen) (length w.seen))
    where
      by : (b : Bool) → (p.seen ≡ (if b then w.seen else v.seen)) ⊎ OneSaw (if b then w.seen else v.seen) passes
      by true = inl (sym same)
      by false = inr saw

module _ {S T E : Type 0} where
  pub first_joined : (m : Me S (View T E)) (p : Known T E) → IsSeatOf p m → HasJoined m (p ∷ [])
  first_joined m p s = record {
    slots = s.slots;
    empty = s.empty;
    all = ((inl s.seen, subst (λ l. IsIn l (account_of p)) (sym s.account) (inl refl)), tt);
    longest = inl (sym s.seen);
  }

  pub next_joined : (m n w : Me S (View T E)) (p : Known T E) (passes : List (Known T E)) → HasJoined m passes → IsSeatOf p n → w ≡ (joined m.0 n.0, m.1) → HasJoined w (p ∷ passes)
  next_joined m n w p passes j s is =
      let mine : IsIn n.0.callers (account_of p) = subst (λ l. IsIn l (account_of p)) (sym s.account) (inl refl) in
      let known = subst (λ (h : List (ℕ × E)). ((joined m.0 n.0).seen ≡ h) ⊎ IsTold (joined m.0 n.0).told h) s.seen (knows_other m.0 n.0) in
      let base : HasJoined {S = S} (joined m.0 n.0, m.1) (p ∷ passes) = record {
        slots = j.slots;
        empty = j.empty;
        all = ((known, in_left n.0.callers m.0.callers (account_of p) mine), all_still m.0 n.0 passes j.all);
        longest = one_longest m.0 n.0 p passes s.seen j.longest;
      } in
      subst (λ (q : Me S (View T E)). HasJoined q (p ∷ passes)) (sym is) base

module _ {B T E : Type 0} (value : B → T) (step : E → List T → List T) (may_make : ℕ → E → Type 0) (setting : Setting T) where
  module _ (history : List (ℕ × E)) (s : State (Option B) (View T E)) (k : KeptAt value step may_make setting history s) (id : ℕ) (v : View T E) (at : get_elem? s.views id ≡ some v)
      (passes : List (Known T E)) (every : (c : ℕ) → c < setting.callers → (i : ℕ) × (p : Known T E) × (slice_get passes i ≡ Some p) × (p.by ≡ c)) (empty : (i : ℕ) → held_at v.held i ≡ None) (all : KnowsAll v passes) where
    of_all : (l : List (Known T E)) → KnowsAll v l → (i : ℕ) (p : Known T E) → slice_get l i ≡ Some p → ((v.seen ≡ p.seen) ⊎ IsTold v.told p.seen) × IsIn v.callers (account_of p)
    of_all [] h i p e = absurd (cc e)
    of_all (q ∷ l) h zero p e = let same : q ≡ p = cc e in subst (λ (r : Known T E). ((v.seen ≡ r.seen) ⊎ IsTold v.told r.seen) × IsIn v.callers (account_of r)) same h.0
    of_all (q ∷ l) h (suc i) p e = of_all l h.1 i p e

    keeps_each : (c : ℕ) → c < setting.callers → Keeps v c
    keeps_each c lt = let p = every c lt in (account_of p.1, (of_all passes all p.0 p.1 p.2).1, p.3)

    -- who keeps a number is this one
    alone : (seat : ℕ) (u : View T E) (b : ℕ) → get_elem? s.views seat ≡ some u → Keeps u b → u ≡ v
    alone seat u b there q =
        let below : b < setting.callers = subst (λ n. n < setting.callers) q.2 ((k.fits seat u there).accounts q.0 q.1).number in
        let same : seat ≡ id = k.one seat id u v b there at q (keeps_each b below) in
        some-injective u v (sym there ∙ ap (λ n. get_elem? s.views n) same ∙ at)

    seen_all : v.seen ≡ history
    seen_all =
        let o = k.whole in
        let same : o.1 ≡ v = alone o.0 o.1 o.3.1.0.number o.2 (o.3.1.0, o.3.1.1, refl) in
        sym (ap (λ (u : View T E). u.seen) same) ∙ o.3.0

    at_home : (i : ℕ) → i < length setting.opening → (x : B) × (get_elem? s.homes (slot_of i) ≡ some (some (Some x))) × (slice_get (parts_after value step may_make setting history) i ≡ Some (value x))
    at_home i lt = by (ℕ_discrete (get_or s.words (owner_word i) 0) 0)
      where
        by : Dec (get_or s.words (owner_word i) 0 ≡ 0) → (x : B) × (get_elem? s.homes (slot_of i) ≡ some (some (Some x))) × (slice_get (parts_after value step may_make setting history) i ≡ Some (value x))
        by (yes e) = k.home i lt e
        by (no ne) =
            let o = k.owned i (get_or s.words (owner_word i) 0 - 1) lt (omega arith) in
            let same : o.1 ≡ v = alone o.0 o.1 _ o.2 o.3.0 in
            let held : held_at v.held i ≡ Some o.3.1.0 = subst (λ (u : View T E). held_at u.held i ≡ Some o.3.1.0) same o.3.1.1 in
            absurd (let none = empty i in cc (none, held))

    begun : (told : List (List (ℕ × E))) (h : List (ℕ × E)) → BeginsEach history told → IsTold told h → StartsWith history h
    begun [] h b t = absurd t
    begun (x ∷ told) h b t = elim t [ inl e ↦ subst (StartsWith history) e b.0 | inr r ↦ begun told h b.1 r ]

    known_by : (l : List (Known T E)) → OneSaw v.seen l → (i : ℕ) × (p : Known T E) × (slice_get l i ≡ Some p) × (p.seen ≡ history)
    known_by [] o = absurd o
    known_by (p ∷ l) o = elim o [ inl e ↦ (0, p, refl, e ∙ seen_all) | inr r ↦ (let t = known_by l r in (suc t.0, t.1, t.2, t.3)) ]

    longest : OneSaw v.seen passes → IsLongest may_make setting.callers passes history
    longest saw =
        let f = k.fits id v at in
        record {
          each = λ i p there.
              let t = of_all passes all i p there in
              let account = f.accounts (account_of p) t.1 in
              (elim t.0 [ inl e ↦ subst (StartsWith history) (sym seen_all ∙ e) (starts_refl history) | inr r ↦ begun v.told p.seen f.told r ], account.own);
          known = known_by passes saw;
          made = k.made;
        }

  same_list : (xs ys : List T) → length xs ≡ length ys → ((i : ℕ) → i < length xs → slice_get xs i ≡ slice_get ys i) → xs ≡ ys
  same_list [] [] e h = refl
  same_list [] (y ∷ ys) e h = absurd (omega arith)
  same_list (x ∷ xs) [] e h = absurd (omega arith)
  same_list (x ∷ xs) (y ∷ ys) e h =
      let first : Some x ≡ Some y = h 0 (omega arith) in
      let here : x ≡ y = cc first in
      ap₂ (λ (z : T) (l : List T). z ∷ l) here (same_list xs ys (omega arith) (λ i lt. h (suc i) (omega arith)))

  length_values : (xs : List B) → length (map value xs) ≡ length xs
  length_values [] = refl
  length_values (x ∷ xs) = let h = length_values xs in omega arith

  value_at : (ys : List B) (i : ℕ) (y : B) → slice_get ys i ≡ Some y → slice_get (map value ys) i ≡ Some (value y)
  value_at [] i y e = absurd (cc e)
  value_at (z ∷ ys) zero y e = let same : z ≡ y = cc e in ap (λ (b : B). Some (value b)) same
  value_at (z ∷ ys) (suc i) y e = value_at ys i y e

  -- the value of a part, by what its slot has
  value_of_slot : (n : ℕ) (xs : List (Option B)) (ys : List B) (i : ℕ) (x : B) → AreOfSlots n xs ys → i < n → get_elem? xs (slot_of i) ≡ some (Some x) → slice_get (map value ys) i ≡ Some (value x)
  value_of_slot n xs ys i x of lt there =
      let count = of.count in
      let t = at_within ys i (omega arith) in
      let at = as_slice ys i t.0 t.1 in
      let both : Some t.0 ≡ Some x = some-injective (Some t.0) (Some x) (sym (of.each i t.0 at) ∙ there) in
      let same : t.0 ≡ x = cc both in
      value_at ys i t.0 at ∙ ap (λ (b : B). Some (value b)) same

  -- what a closed table has
  pub record Closes (passes : List (Known T E)) (xs : List (Option B)) : Type 0 where
    pub full : AreFull (length setting.opening) xs
    pub parts : (history : List (ℕ × E)) × IsLongest may_make setting.callers passes history × ((ys : List B) → AreOfSlots (length setting.opening) xs ys → map value ys ≡ replayed step setting.opening history)

  pub closes : (id : ℕ) (m : Me (Option B) (View T E)) (ws : List ℕ) (xs : List (Option B)) (passes : List (Known T E)) → Final (Seen (Kept value step may_make setting) id m.0) ws xs
      → ((c : ℕ) → c < setting.callers → (i : ℕ) × (p : Known T E) × (slice_get passes i ≡ Some p) × (p.by ≡ c)) → HasJoined m passes → Closes passes xs
  closes id m ws xs passes f every j =
      let s = f.0 in
      let H = f.1.0.0 in
      let k = f.1.0.1 in
      let home = at_home H s k id m.0 f.1.1 passes every j.empty j.all in
      let slot : (i : ℕ) → i < length setting.opening → (x : B) × (get_elem? xs (slot_of i) ≡ some (Some x)) × (slice_get (parts_after value step may_make setting H) i ≡ Some (value x)) =
      λ i lt. (let t = home i lt in (t.0, f.4 (slot_of i) (Some t.0) t.1, t.2)) in
      record {
        full = λ i lt. (let t = slot i lt in (t.0, t.1));
        parts = (
          H,
          longest H s k id m.0 f.1.1 passes every j.empty j.all j.longest,
          λ ys of.
              let long = of.count in
              let values = length_values ys in
              let parts_size = k.parts in
              same_list (map value ys) (replayed step setting.opening H) (values ∙ long ∙ sym parts_size)
              (λ i lt.
              let below : i < length setting.opening = omega arith in
              let t = slot i below in
              value_of_slot (length setting.opening) xs ys i t.0 of below t.1 ∙ sym t.2),
        );
      }

module _ {S T E : Type 0} where
  -- those of some passes were joined, and the rest are left
  abbrev pub JoinedSoFar : Me S (View T E) → List (Known T E) → List (Known T E) → Type 0
  JoinedSoFar m all rest = (done : List (Known T E)) × (all ≡ rest ++ done) × HasJoined m done

  pub joined_first : (m : Me S (View T E)) (all rest : List (Known T E)) (p : Known T E) (last : Option (Known T E)) → IsSeatOf p m → last ≡ Some p → all ≡ rest ++ option_to_list last → JoinedSoFar m all rest
  joined_first m all rest p last s is e = (p ∷ [], e ∙ ap (λ o. rest ++ option_to_list o) is, first_joined m p s)

  pub joined_next : (m n w : Me S (View T E)) (all old rest : List (Known T E)) (p : Known T E) (last : Option (Known T E)) → JoinedSoFar m all old → IsSeatOf p n → w ≡ (joined m.0 n.0, m.1)
      → last ≡ Some p → old ≡ rest ++ option_to_list last → JoinedSoFar w all rest
  joined_next m n w all old rest p last j s is some_last e =
      (p ∷ j.0, j.1 ∙ ap (λ l. l ++ j.0) (e ∙ ap (λ o. rest ++ option_to_list o) some_last) ∙ append_assoc rest (p ∷ []) j.0, next_joined m n w p j.0 j.2 s is)

  pub joined_all : (m : Me S (View T E)) (all rest : List (Known T E)) → JoinedSoFar m all rest → length rest ≡ 0 → HasJoined m all
  joined_all m all [] j e = subst (HasJoined m) (sym j.1) j.2
  joined_all m all (p ∷ rest) j e = absurd (omega arith)

-- the one account of a keeper, as it is told
one_account : (by left : ℕ) (callers : List Account) → callers ≡ record { number = by; own = own_of callers; left = left } ∷ [] → callers ≡ record { number = number_of callers; own = own_of callers; left = left_of callers } ∷ []
one_account by left callers e =
    e ∙ ap (λ n. record { number = n; own = own_of callers; left = left } ∷ []) (sym (ap number_of e)) ∙ ap (λ n. record { number = number_of callers; own = own_of callers; left = n } ∷ []) (sym (ap left_of e))

module _ {T : Type 0} where
  pub nothing_in : (hand : List (Option T)) → ((i : ℕ) → held_at hand i ≡ None) → held_count hand ≡ 0
  nothing_in [] h = refl
  nothing_in (x ∷ hand) h =
      let r = nothing_in hand (λ i. h (suc i)) in
      let z : one_if_held x ≡ 0 = ap one_if_held (h 0) in
      omega arith

module _ {B T E : Type 0} where
  -- the seat of a pass that holds nothing
  pub seat_idle : (may_make : ℕ → E → Type 0) (id : TableId) (m : Me (Option B) (View T E)) (order : List ℕ) (capacity by left : ℕ) (hand : List (Option T)) (p : Known T E) → IsPass may_make id m order capacity by left
      → known_with id m.0 hand order ≡ p → ((part : ℕ) → held_at p.taken part ≡ None) → IsSeatOf p m
  seat_idle may_make id m order capacity by left hand p i is idle =
      let empty : (part : ℕ) → held_at m.0.held part ≡ None = λ part. ap (λ (q : Known T E). held_at q.taken part) is ∙ idle part in
      let count = i.count in
      let none = nothing_in m.0.held empty in
      let base : IsSeatOf (known_with id m.0 hand order) m = record {
        slots = i.slots ∙ no_order order (omega arith);
        account = one_account by left m.0.callers i.account;
        seen = refl;
        empty = empty;
      } in
      subst (λ (q : Known T E). IsSeatOf q m) is base
    where
      no_order : (l : List ℕ) → length l ≡ 0 → empties {S = B} l ≡ []
      no_order [] e = refl
      no_order (x ∷ l) e = absurd (omega arith)

-- ---- as calls have them

pub not_none : {B : Type 0} (o : Maybe (Option B)) (x : B) → o ≡ some None → o ≡ some (Some x) → ⊥
not_none o x none there = let e : None ≡ Some x = some-injective None (Some x) (sym none ∙ there) in absurd (cc e)

module _ {B : Type 0} where
  pub none_taken : (xs : List (Option B)) (ys : List B) → ys ≡ [] → AreOfSlots 0 xs ys
  none_taken xs ys e = subst (λ l. AreOfSlots 0 xs l) (sym e) (record { count = refl; each = λ i y none. absurd (cc none) })

  -- what stands in a list with one more at its end
  at_end : (ys : List B) (x : B) (i : ℕ) (y : B) → slice_get (ys ++ x ∷ []) i ≡ Some y → (slice_get ys i ≡ Some y) ⊎ ((i ≡ length ys) × (x ≡ y))
  at_end [] x zero y e = inr (refl, cc e)
  at_end [] x (suc i) y e = absurd (cc e)
  at_end (z ∷ ys) x zero y e = inl e
  at_end (z ∷ ys) x (suc i) y e = elim (at_end ys x i y e) [ inl h ↦ inl h | inr h ↦ inr (ap suc h.0, h.1) ]

  pub one_taken : (n : ℕ) (xs : List (Option B)) (ys new : List B) (x : B) → AreOfSlots n xs ys → new ≡ ys ++ x ∷ [] → get_elem? xs (slot_of n) ≡ some (Some x) → AreOfSlots (n + 1) xs new
  one_taken n xs ys new x so_far more at =
      subst (λ l. AreOfSlots (n + 1) xs l) (sym more) (record {
        count = length-append ys (x ∷ []) ∙ ap (λ q. q + 1) so_far.count;
        each = λ i y there. elim (at_end ys x i y there) [
          | inl h ↦ so_far.each i y h
          | inr h ↦ ap (λ q. get_elem? xs (slot_of q)) (h.0 ∙ so_far.count) ∙ at ∙ ap (λ q. some (Some q)) h.1
        ];
      })

in_length : (l : List Account) (a : Account) → IsIn l a → 0 < length l
in_length [] a h = absurd h
in_length (b ∷ l) a h = omega arith

module _ {T E : Type 0} where
  middle_at : (rest more : List (Known T E)) (p : Known T E) → slice_get (rest ++ p ∷ more) (length rest) ≡ Some p
  middle_at [] more p = refl
  middle_at (x ∷ rest) more p = middle_at rest more p

  -- the pass that was taken from the end stands in the list
  pub last_at : (all old rest done : List (Known T E)) (p : Known T E) (last : Option (Known T E)) → all ≡ old ++ done → old ≡ rest ++ option_to_list last → last ≡ Some p → slice_get all (length rest) ≡ Some p
  last_at all old rest done p last is less there =
      ap (λ l. slice_get l (length rest)) (is ∙ ap (λ l. l ++ done) (less ∙ ap (λ o. rest ++ option_to_list o) there) ∙ append_assoc rest (p ∷ []) done) ∙ middle_at rest done p

module _ {S T E : Type 0} where
  pub joined_keeps : (m : Me S (View T E)) (all rest : List (Known T E)) → JoinedSoFar m all rest → 0 < length m.0.callers
  joined_keeps m all rest j = by j.0 j.2
    where
      by : (done : List (Known T E)) → HasJoined m done → 0 < length m.0.callers
      by [] h = absurd h.longest
      by (p ∷ done) h = let k = h.all in in_length m.0.callers (account_of p) k.0.1

-- what a closed table has, as its value tells
pub closes_as : {B T E : Type 0} (value : B → T) (step : E → List T → List T) (may_make : ℕ → E → Type 0) (setting : Setting T) (xs : List (Option B)) (table : Opened T) (passes : List (Known T E))
    → setting.callers ≡ table.callers → setting.opening ≡ table.opening → Closes value step may_make setting passes xs → (ys : List B) → AreOfSlots (length setting.opening) xs ys
    → (history : List (ℕ × E)) × IsLongest may_make table.callers passes history × (map value ys ≡ replayed step table.opening history)
closes_as value step may_make setting xs table passes callers opening c ys all =
    let p = c.parts in
    (p.0, subst (λ n. IsLongest may_make n passes p.0) callers p.1, p.2 ys all ∙ ap (λ l. replayed step l p.0) opening)
