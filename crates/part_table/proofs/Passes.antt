-- What is inside a pass after each call.
use Rattle.std.proofs.Common.{◌-◌, ◌^◌, ◌≡◌, ℕ, zero, suc, ◌+◌, ◌*◌, ◌<◌, ◌≤◌, List, [], ◌∷◌, ◌++◌, length, set, drop, take, slice_get, eqb, eq-eqb, ne_eqb, cond, Option, None, Some, refl, sym, ◌∙◌, ap, ap₂, subst, arith, length-set, length-append}
use native.Mathlib.Decide.{ℕ_discrete}
use Rattle.atomic_table.specs.Seated.{TableId}
use Rattle.atomic_table.specs.Table.{Me, rest}
use Rattle.part_table.specs.declared.view.Setting.{Setting}
use Rattle.part_table.specs.declared.view.Account.{Account}
use Rattle.part_table.specs.declared.view.View.{View}
use Rattle.part_table.specs.Held.{held_at, places_held}
use Rattle.part_table.specs.HeldLaws.{held_set_here, held_set_else, held_within, length-by_places}
use Rattle.part_table.specs.Known.{IsTrueOf, Known, nothing, without}
use Rattle.part_table.specs.Lines.{slot_of}
use Rattle.part_table.specs.Passes.{own_of, held_count, IsPass, known, known_with, empties, times, one_if_held}
use Rattle.part_table.specs.Plays.{starting, committed, noted}
use Rattle.part_table.proofs.Hands.{nothing_held, nothing_counted, nothing_long, count_put, count_taken, count_lt, count_by_places, one_by_places}
use Rattle.part_table.proofs.Order.{times_turned, drop_next}

sums : (a b c d e : ℕ) → a ≡ c → b ≡ d → e ≡ c + d → a + b ≡ e
sums a b c d e p q r = omega arith

differs : (a b c d e : ℕ) → a ≡ c → a + b ≡ d → d ≡ c + e → b ≡ e
differs a b c d e p q r = omega arith

length_turned : (k : ℕ) (xs : List ℕ) → length (drop k xs ++ take k xs) ≡ length xs
length_turned zero [] = refl
length_turned zero (x ∷ xs) = let h = length-append (x ∷ xs) [] in omega arith
length_turned (suc k) [] = refl
length_turned (suc k) (x ∷ xs) = let h = length_turned k xs in let a = length-append (drop k xs) (take k xs) in let b = length-append (drop k xs) (x ∷ take k xs) in omega arith

module _ {T E : Type 0} (may_make : ℕ → E → Type 0) where
  -- where a view keeps its setting, its number and what it knows, the same is true of what it knows
  same_truth : (id other : TableId) (v w : View T E) → w.setting ≡ v.setting → w.callers ≡ v.callers → w.seen ≡ v.seen
      → ((hand : List (Option T)) → IsTrueOf may_make (known id v hand)) → (hand : List (Option T)) → IsTrueOf may_make (known other w hand)
  same_truth id other v w setting callers seen h hand =
      let t = h hand in
      let P : Setting T → List Account → List (ℕ × E) → Type 0 = λ s c l. IsTrueOf may_make (known other (record w { setting = s; callers = c; seen = l }) hand) in
      let base : P v.setting v.callers v.seen = record { number = t.number; own = t.own; quota = t.quota; made = t.made; size = t.size } in
      subst (λ s. P s w.callers w.seen) (sym setting) (subst (λ c. P v.setting c w.seen) (sym callers) (subst (λ l. P v.setting v.callers l) (sym seen) base))

module _ {B T E : Type 0} (may_make : ℕ → E → Type 0) where
  -- at the start
  pub first_pass : (id : TableId) (m : Me (Option B) (View T E)) (order : List ℕ) (capacity by quota parts : ℕ)
      → m ≡ (starting m.0.setting (record { number = by; own = []; left = quota } ∷ []), []) → quota ≡ m.0.setting.quota → parts ≡ length m.0.setting.opening
      → parts ≤ 256 → by < m.0.setting.callers → m.0.setting.callers ≤ 65 → order ≡ [] → parts ≤ capacity → IsPass may_make id m order capacity by quota
  first_pass id m order capacity by quota parts is same long few below callers none room =
      let s = m.0.setting in
      let n = length s.opening in
      let account : Account = record { number = by; own = []; left = quota } in
      let P : Me (Option B) (View T E) → Type 0 = λ q. IsPass may_make id q [] capacity by quota in
      let size : length (nothing {T = T} n) ≡ n = nothing_long T n in
      let base : P (starting s (account ∷ []), []) = record {
        account = refl;
        slots = refl;
        turns = λ i. ap one_if_held (sym (nothing_held T n i));
        count = sym (nothing_counted T n);
        room = omega arith;
        places = size;
        few = (omega arith, callers);
        true_of = λ hand. record { number = below; own = refl; quota = sym_plus quota s.quota same; made = tt; size = zero_least (65 * 2 ^ 40) };
      } in
      subst (λ l. IsPass may_make id m l capacity by quota) (sym none) (subst P (sym is) base)
    where
      sym_plus : (a b : ℕ) → a ≡ b → 0 + a ≡ b
      sym_plus a b e = omega arith

      zero_least : (n : ℕ) → 0 ≤ n
      zero_least n = omega arith

  module _ (id other : TableId) (m w : Me (Option B) (View T E)) (order : List ℕ) (capacity by left : ℕ) (p : IsPass may_make id m order capacity by left) where
    -- a claim was lost
    pub lost_pass : (lost : List (ℕ × ℕ)) → w ≡ (record m.0 { lost = lost }, m.1) → IsPass may_make other w order capacity by left
    lost_pass lost is =
        subst (λ (q : Me (Option B) (View T E)). IsPass may_make other q order capacity by left) (sym is)
        (record {
          account = p.account;
          slots = p.slots;
          turns = p.turns;
          count = p.count;
          room = p.room;
          places = p.places;
          few = p.few;
          true_of = same_truth may_make id other m.0 (record m.0 { lost = lost }) refl refl refl p.true_of;
        })

    -- there is room for the slot of a part that isn't held
    pub room_for : (i : ℕ) → i < length m.0.setting.opening → held_at m.0.held i ≡ None → length order < capacity
    room_for i lt free = let places = p.places in let c = count_lt m.0.held i (omega arith) free in let n = p.count in let r = p.room in omega arith

    -- a history was seen
    pub seen_pass : (seen : List (ℕ × E)) (told : List (List (ℕ × E))) → w ≡ (record m.0 { seen = seen; told = told }, m.1) → ((hand : List (Option T)) → IsTrueOf may_make (known other (record m.0 { seen = seen }) hand))
        → IsPass may_make other w order capacity by left
    seen_pass seen told is truth =
        subst (λ (q : Me (Option B) (View T E)). IsPass may_make other q order capacity by left) (sym is)
        (record {
          account = p.account;
          slots = p.slots;
          turns = p.turns;
          count = p.count;
          room = p.room;
          places = p.places;
          few = p.few;
          true_of = λ hand. (let t = truth hand in record { number = t.number; own = t.own; quota = t.quota; made = t.made; size = t.size });
        })

    -- an event was added
    pub committed_pass : (after : E → List (Option T) → List (Option T)) (e : E) (h : List (ℕ × E)) (less : ℕ) → w ≡ (committed after e h m.0, m.1) → places_held (after e m.0.held) ≡ places_held m.0.held
        → ((hand : List (Option T)) → IsTrueOf may_make (known other (committed after e h m.0) hand)) → less ≡ left - 1 → IsPass may_make other w order capacity by less
    committed_pass after e h less is same truth fewer =
        let hand = after e m.0.held in
        let long : length hand ≡ length m.0.held = length-by_places hand m.0.held same in
        let few = p.few in
        let fits = p.room in
        let count = p.count in
        let counted : held_count hand ≡ held_count m.0.held = count_by_places hand m.0.held same in
        let v : View T E = committed after e h m.0 in
        let P : ℕ → Type 0 = λ n. IsPass may_make other (v, m.1) order capacity by n in
        let noted_is : noted m.0.callers (length h + 1) ≡ record { number = by; own = own_of m.0.callers ++ (length h + 1) ∷ []; left = left - 1 } ∷ [] = ap (λ (l : List Account). noted l (length h + 1)) p.account in
        let base : P (left - 1) = record {
          account = noted_is ∙ ap (λ (l : List ℕ). record { number = by; own = l; left = left - 1 } ∷ []) (sym (ap own_of noted_is));
          slots = p.slots;
          turns = λ i. p.turns i ∙ one_by_places m.0.held hand i (sym same);
          count = omega arith;
          room = omega arith;
          places = long ∙ p.places;
          few = (let f = few.0 in omega arith, few.1);
          true_of = truth;
        } in
        subst (λ (q : Me (Option B) (View T E)). IsPass may_make other q order capacity by less) (sym is) (subst P (sym fewer) base)

    -- the slots were turned
    pub turned_pass : (k : ℕ) (new : List ℕ) (room : ℕ) → w.0 ≡ m.0 → w.1 ≡ empties new → new ≡ drop k order ++ take k order → room ≡ capacity
        → IsPass may_make other w new room by left
    turned_pass k new room same slots turned as_before =
        let behind = drop k order ++ take k order in
        let few = p.few in
        let fits = p.room in
        let count = p.count in
        let size = length_turned k order in
        let given : Me (Option B) (View T E) = (m.0, empties behind) in
        let P : Me (Option B) (View T E) → List ℕ → ℕ → Type 0 = λ q l n. IsPass may_make other q l n by left in
        let base : P given behind capacity = record {
          account = p.account;
          slots = refl;
          turns = λ j. times_turned j k order ∙ p.turns j;
          count = omega arith;
          room = p.room;
          places = p.places;
          few = p.few;
          true_of = same_truth may_make id other m.0 m.0 refl refl refl p.true_of;
        } in
        let seat_is : w ≡ given = ap₂ {A = View T E} {B = List (ℕ × Option B)} {C = Me (Option B) (View T E)} (λ v l. (v, l)) same (slots ∙ ap (λ (l : List ℕ). empties l) turned) in
        subst (λ q. P q new room) (sym seat_is) (subst (λ l. P given l room) (sym turned) (subst (λ n. P given behind n) (sym as_before) base))

    turns_put : (i : ℕ) (x : T) → i < length m.0.held → held_at m.0.held i ≡ None → (j : ℕ) → Dec (j ≡ i) → times j (i ∷ order) ≡ one_if_held (held_at (set m.0.held i (Some x)) j)
    turns_put i x lt free j (yes e) =
        let one : cond (eqb j i) 1 0 ≡ 1 = ap (λ b. cond b 1 0) (eq-eqb j i e) in
        let before : times j order ≡ 0 = p.turns j ∙ ap (λ q. one_if_held (held_at m.0.held q)) e ∙ ap one_if_held free in
        let after : one_if_held (held_at (set m.0.held i (Some x)) j) ≡ 1 = ap (λ q. one_if_held (held_at (set m.0.held i (Some x)) q)) e ∙ ap one_if_held (held_set_here m.0.held i (Some x) lt) in
        sums (cond (eqb j i) 1 0) (times j order) 1 0 _ one before after
    turns_put i x lt free j (no ne) =
        let none : cond (eqb j i) 1 0 ≡ 0 = ap (λ b. cond b 1 0) (ne_eqb j i ne) in
        let after : held_at (set m.0.held i (Some x)) j ≡ held_at m.0.held j = held_set_else m.0.held i j (Some x) ne in
        sums (cond (eqb j i) 1 0) (times j order) 0 (one_if_held (held_at m.0.held j)) (one_if_held (held_at (set m.0.held i (Some x)) j)) none (p.turns j) (plus (ap one_if_held after))
      where
        plus : {a b : ℕ} → a ≡ b → a ≡ 0 + b
        plus e = omega arith

    -- a part was taken
    pub took_pass : (i : ℕ) (x : T) (longer : List ℕ) (room : ℕ) → w ≡ (record m.0 { held = set m.0.held i (Some x) }, (slot_of i, None) ∷ m.1) → i < length m.0.setting.opening
        → held_at m.0.held i ≡ None → longer ≡ i ∷ order → room ≡ capacity → IsPass may_make other w longer room by left
    took_pass i x longer room is lt free more same =
        let places = p.places in
        let within : i < length m.0.held = omega arith in
        let hand = set m.0.held i (Some x) in
        let long : length hand ≡ length m.0.held = length-set m.0.held i (Some x) in
        let few = p.few in
        let fits = p.room in
        let count = p.count in
        let more_held = count_put m.0.held i x within free in
        let P : Me (Option B) (View T E) → List ℕ → ℕ → Type 0 = λ q l n. IsPass may_make other q l n by left in
        let base : P (record m.0 { held = hand }, (slot_of i, None) ∷ m.1) (i ∷ order) capacity = record {
          account = p.account;
          slots = ap (λ (l : List (ℕ × Option B)). (slot_of i, None) ∷ l) p.slots;
          turns = λ j. turns_put i x within free j (ℕ_discrete j i);
          count = omega arith;
          room = omega arith;
          places = long ∙ p.places;
          few = (let f = few.0 in omega arith, few.1);
          true_of = same_truth may_make id other m.0 (record m.0 { held = hand }) refl refl refl p.true_of;
        } in
        let taken : Me (Option B) (View T E) = (record m.0 { held = hand }, (slot_of i, None) ∷ m.1) in
        subst (λ q. P q longer room) (sym is) (subst (λ l. P taken l room) (sym more) (subst (λ n. P taken (i ∷ order) n) (sym same) base))

    -- the slots that stay out after one was brought to the front and given back
    module _ (i place : ℕ) (x : T) (first others : List ℕ) (m1 : Me (Option B) (View T E)) (room : ℕ) (at : slice_get order place ≡ Some i)
        (turned : first ≡ drop place order ++ take place order) (same : m1.0 ≡ m.0) (slots : m1.1 ≡ empties first) (less : others ≡ drop 1 first)
        (is : w ≡ (record m1.0 { held = set m1.0.held i None }, rest m1.1)) (held : held_at m.0.held i ≡ Some x) (as_before : room ≡ capacity) where
      abbrev behind : List ℕ
      behind = drop (place + 1) order ++ take place order

      abbrev hand : List (Option T)
      hand = set m.0.held i None

      begins : first ≡ i ∷ behind
      begins = turned ∙ ap (λ (l : List ℕ). l ++ take place order) (drop_next order place i at)

      rest_is : others ≡ behind
      rest_is = less ∙ ap (drop 1) begins

      seat_is : w ≡ (record m.0 { held = hand }, empties behind)
      seat_is =
          is ∙ ap (λ (v : View T E). (record v { held = set v.held i None }, rest m1.1)) same
          ∙ ap (λ (l : List (ℕ × Option B)). (record m.0 { held = hand }, rest l)) (slots ∙ ap (λ (l : List ℕ). empties {S = B} l) begins)

      counted : (j : ℕ) → times j (i ∷ behind) ≡ one_if_held (held_at m.0.held j)
      counted j = ap (times j) (sym begins ∙ turned) ∙ times_turned j place order ∙ p.turns j

      within : i < length m.0.held
      within = held_within m.0.held i x held

      turns_given : (j : ℕ) → Dec (j ≡ i) → times j behind ≡ one_if_held (held_at hand j)
      turns_given j (yes e) =
          let one : cond (eqb j i) 1 0 ≡ 1 = ap (λ b. cond b 1 0) (eq-eqb j i e) in
          let before : one_if_held (held_at m.0.held j) ≡ 1 = ap (λ q. one_if_held (held_at m.0.held q)) e ∙ ap one_if_held held in
          let after : one_if_held (held_at hand j) ≡ 0 = ap (λ q. one_if_held (held_at hand q)) e ∙ ap one_if_held (held_set_here m.0.held i None within) in
          differs (cond (eqb j i) 1 0) (times j behind) 1 (one_if_held (held_at m.0.held j)) (one_if_held (held_at hand j)) one (counted j) (minus before after)
        where
          minus : {a b : ℕ} → a ≡ 1 → b ≡ 0 → a ≡ 1 + b
          minus e f = omega arith
      turns_given j (no ne) =
          let none : cond (eqb j i) 1 0 ≡ 0 = ap (λ b. cond b 1 0) (ne_eqb j i ne) in
          differs (cond (eqb j i) 1 0) (times j behind) 0 (one_if_held (held_at m.0.held j)) (one_if_held (held_at hand j)) none (counted j)
          (plus (ap one_if_held (sym (held_set_else m.0.held i j None ne))))
        where
          plus : {a b : ℕ} → a ≡ b → a ≡ 0 + b
          plus e = omega arith

      -- a part was given back
      pub gave_pass : IsPass may_make other w others room by left
      gave_pass =
          let places = p.places in
          let long : length hand ≡ length m.0.held = length-set m.0.held i None in
          let few = p.few in
          let fits = p.room in
          let size : length (i ∷ behind) ≡ length order = ap length (sym begins ∙ turned) ∙ length_turned place order in
          let count = p.count in
          let fewer = count_taken m.0.held i x held in
          let given : Me (Option B) (View T E) = (record m.0 { held = hand }, empties behind) in
          let P : Me (Option B) (View T E) → List ℕ → ℕ → Type 0 = λ q l n. IsPass may_make other q l n by left in
          let base : P given behind capacity = record {
            account = p.account;
            slots = refl;
            turns = λ j. turns_given j (ℕ_discrete j i);
            count = omega arith;
            room = omega arith;
            places = long ∙ p.places;
            few = (let f = few.0 in omega arith, few.1);
            true_of = same_truth may_make id other m.0 (record m.0 { held = hand }) refl refl refl p.true_of;
          } in
          subst (λ q. P q others room) (sym seat_is) (subst (λ l. P given l room) (sym rest_is) (subst (λ n. P given behind n) (sym as_before) base))

-- what is known once a part was given back
module _ {T E : Type 0} where
  pub gave_known : (id other : TableId) (v w : View T E) (before after : List (Option T)) (order later : List ℕ) (part : ℕ) (old : Known T E)
      → known_with id v before order ≡ old → other ≡ id → w ≡ record v { held = set v.held part None } → after ≡ set before part None → later ≡ without part order
      → known_with other w after later ≡ record old { taken = set old.taken part None; hand = set old.hand part None; order = without part old.order }
  gave_known id other v w before after order later part old is same held hand less =
      ap (λ (i : TableId). known_with i w after later) same
      ∙ ap (λ (x : View T E). known_with id x after later) held
      ∙ ap (λ (h : List (Option T)). known_with id (record v { held = set v.held part None }) h later) hand
      ∙ ap (λ (o : List ℕ). known_with id (record v { held = set v.held part None }) (set before part None) o) less
      ∙ ap (λ (k : Known T E). record k { taken = set k.taken part None; hand = set k.hand part None; order = without part k.order }) is

  -- what is true of what is known is true whatever is held
  pub true_with : (may_make : ℕ → E → Type 0) (id : TableId) (v : View T E) (held : List (Option T)) (order : List ℕ) → IsTrueOf may_make (known id v held) → IsTrueOf may_make (known_with id v held order)
  true_with may_make id v held order t = record { number = t.number; own = t.own; quota = t.quota; made = t.made; size = t.size }
