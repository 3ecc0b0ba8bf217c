-- Laws of lists that are cut by places.
use Rattle.std.specs.Prelude.{◌≡◌, ◌≢◌, ℕ, zero, suc, ◌+◌, ◌<◌, ◌≤◌, ◌==◌, nat_le, Bool, true, false, Option, List, [], ◌∷◌, ◌++◌, map, filter, cond, slice_get, Some, refl, if◌then◌else◌}
use Rattle.std.specs.Map.{lookup, remove_entry, set_value}
use Rattle.std.proofs.Common.{ap, ap₂, sym, ◌∙◌, arith, append-nil, subst}
use Rattle.std.proofs.lemmas.Bool.Decides.{nat_tests}
use Rattle.std.proofs.lemmas.List.Elements.{filter-append}
use native.Mathlib.Decide.{ℕ_discrete}
use Rattle.parted_state.specs.CutLaws.{same_number, same_itself}
use Rattle.parted_state.specs.Gathered.{RiseFrom, IsInOrder, only, cut_from, joined_from, gathered, put_behind}

pub not_same : (p q : ℕ) → p ≢ q → (p == q) ≡ false
not_same p q other = grind (arith, nat_tests)

-- ---- numbers that rise

pub rise_lower : (n low lower : ℕ) (ps : List ℕ) → lower ≤ low → RiseFrom n low ps → RiseFrom n lower ps
rise_lower n low lower [] less rise = tt
rise_lower n low lower (p ∷ ps) less (from, below, rest) = (omega (arith, less, from), below, rest)

module _ {A : Type 0} (place : A → ℕ) where
  -- ---- those of one place

  pub only_again : (k : ℕ) (xs : List A) → only place k (only place k xs) ≡ only place k xs
  only_again k [] = refl
  only_again k (x ∷ xs) = by_test (place x == k) refl (only_again k xs)
    where
      by_test : (b : Bool) → (place x == k) ≡ b → only place k (only place k xs) ≡ only place k xs
          → only place k (cond b (x ∷ only place k xs) (only place k xs)) ≡ cond b (x ∷ only place k xs) (only place k xs)
      by_test true e rest = ap (λ (b : Bool). cond b (x ∷ only place k (only place k xs)) (only place k (only place k xs))) e ∙ ap (λ (l : List A). x ∷ l) rest
      by_test false e rest = rest

  only_other : (j k : ℕ) (xs : List A) → j ≢ k → only place j (only place k xs) ≡ []
  only_other j k [] other = refl
  only_other j k (x ∷ xs) other = by_test (place x == k) refl (only_other j k xs other)
    where
      by_test : (b : Bool) → (place x == k) ≡ b → only place j (only place k xs) ≡ [] → only place j (cond b (x ∷ only place k xs) (only place k xs)) ≡ []
      by_test true e rest =
          let here : place x ≢ j = λ at. other (sym at ∙ same_number (place x) k e) in
          ap (λ (b : Bool). cond b (x ∷ only place j (only place k xs)) (only place j (only place k xs))) (not_same (place x) j here) ∙ rest
      by_test false e rest = rest

  only_both : (j : ℕ) (xs ys : List A) → only place j (xs ++ ys) ≡ only place j xs ++ only place j ys
  only_both j xs ys = filter-append (λ x. place x == j) xs ys

  -- ---- lists that are joined

  none_before : (k n : ℕ) (at : ℕ → List A) (j : ℕ) → j < k → only place j (joined_from place k n at) ≡ []
  none_before k zero at j before = refl
  none_before k (suc n) at j before =
      let later : j < suc k = omega (arith, before) in
      only_both j (only place k (at k)) (joined_from place (suc k) n at)
      ∙ ap₂ (λ (a b : List A). a ++ b) (only_other j k (at k) (λ same. omega (arith, same, before))) (none_before (suc k) n at j later)

  pub only_joined : (k n : ℕ) (at : ℕ → List A) (j : ℕ) → k ≤ j → j < k + n → only place j (joined_from place k n at) ≡ only place j (at j)
  only_joined k zero at j from below = absurd (omega (arith, from, below))
  only_joined k (suc n) at j from below = only_both j (only place k (at k)) (joined_from place (suc k) n at) ∙ by (λ above within. only_joined (suc k) n at j above within) (ℕ_discrete j k)
    where
      by : (suc k ≤ j → j < suc k + n → only place j (joined_from place (suc k) n at) ≡ only place j (at j)) → Dec (j ≡ k) → only place j (only place k (at k)) ++ only place j (joined_from place (suc k) n at) ≡ only place j (at j)
      by rest (yes e) =
          let later : j < suc k = omega (arith, e) in
          ap₂ (λ (a b : List A). a ++ b) (ap (λ (m : ℕ). only place j (only place m (at m))) (sym e) ∙ only_again j (at j)) (none_before (suc k) n at j later)
          ∙ append-nil (only place j (at j))
      by rest (no ne) =
          let above : suc k ≤ j = omega (arith, from, ne) in
          let within : j < suc k + n = omega (arith, below) in
          ap₂ (λ (a b : List A). a ++ b) (only_other j k (at k) ne) (rest above within)

  pub joined_same : (k n : ℕ) (at other : ℕ → List A) → ((j : ℕ) → k ≤ j → j < k + n → only place j (at j) ≡ only place j (other j))
      → joined_from place k n at ≡ joined_from place k n other
  joined_same k zero at other same = refl
  joined_same k (suc n) at other same =
      ap₂ (λ (a b : List A). a ++ b) (same k (omega arith) (omega arith))
      (joined_same (suc k) n at other (λ j from below. same j (omega (arith, from)) (omega (arith, below))))

  -- ---- the order

  -- what is joined rises
  rise_only : (n k : ℕ) (xs rest : List A) → k < n → RiseFrom n k (map place rest) → RiseFrom n k (map place (only place k xs ++ rest))
  rise_only n k [] rest below rise = rise
  rise_only n k (x ∷ xs) rest below rise = by_test (place x == k) refl (rise_only n k xs rest below rise)
    where
      by_test : (b : Bool) → (place x == k) ≡ b → RiseFrom n k (map place (only place k xs ++ rest)) → RiseFrom n k (map place (cond b (x ∷ only place k xs) (only place k xs) ++ rest))
      by_test true e more =
          let here = same_number (place x) k e in
          (omega (arith, here), omega (arith, here, below), subst (λ (m : ℕ). RiseFrom n m (map place (only place k xs ++ rest))) (sym here) more)
      by_test false e more = more

  rise_joined : (n k m : ℕ) (at : ℕ → List A) → k + m ≡ n → RiseFrom n k (map place (joined_from place k m at))
  rise_joined n k zero at many = tt
  rise_joined n k (suc m) at many =
      let next : suc k + m ≡ n = omega (arith, many) in
      rise_only n k (at k) (joined_from place (suc k) m at) (omega (arith, many))
      (rise_lower n (suc k) k (map place (joined_from place (suc k) m at)) (omega arith) (rise_joined n (suc k) m at next))

  pub gathered_in_order : (n : ℕ) (at : ℕ → List A) → IsInOrder place n (gathered place n at)
  gathered_in_order n at = rise_joined n 0 n at (omega arith)

  -- what rises from a place has none before it
  none_below : (n low k : ℕ) (xs : List A) → k < low → RiseFrom n low (map place xs) → only place k xs ≡ []
  none_below n low k [] less rise = refl
  none_below n low k (x ∷ xs) less (from, below, rest) =
      let other : place x ≢ k = λ same. omega (arith, same, from, less) in
      let later : k < place x = omega (arith, from, less) in
      ap (λ (b : Bool). cond b (x ∷ only place k xs) (only place k xs)) (not_same (place x) k other) ∙ none_below n (place x) k xs later rest

  -- and so it is what is joined of it
  rise_is : (n k m : ℕ) (xs : List A) → k + m ≡ n → RiseFrom n k (map place xs) → joined_from place k m (λ j. xs) ≡ xs
  rise_is n k zero [] many rise = refl
  rise_is n k zero (x ∷ xs) many (from, below, rest) = absurd (omega (arith, many, from, below))
  rise_is n k (suc m) [] many rise = rise_is n (suc k) m [] (omega (arith, many)) tt
  rise_is n k (suc m) (x ∷ xs) many (from, below, rest) =
      by (λ rise. rise_is n k (suc m) xs many rise) (λ rise. rise_is n (suc k) m (x ∷ xs) (omega (arith, many)) rise) (ℕ_discrete (place x) k)
    where
      by : (RiseFrom n k (map place xs) → joined_from place k (suc m) (λ j. xs) ≡ xs)
          → (RiseFrom n (suc k) (map place (x ∷ xs)) → joined_from place (suc k) m (λ j. x ∷ xs) ≡ x ∷ xs) → Dec (place x ≡ k) → only place k (x ∷ xs) ++ joined_from place (suc k) m (λ j. x ∷ xs) ≡ x ∷ xs
      by here_too later_on (yes e) =
          let here : (place x == k) ≡ true = ap (λ (p : ℕ). p == k) e ∙ same_itself k in
          let others : joined_from place (suc k) m (λ j. x ∷ xs) ≡ joined_from place (suc k) m (λ j. xs) =
          joined_same (suc k) m (λ j. x ∷ xs) (λ j. xs) (λ j above within.
          let other : place x ≢ j = λ same. omega (arith, same, e, above) in
          ap (λ (b : Bool). cond b (x ∷ only place j xs) (only place j xs)) (not_same (place x) j other)) in
          ap₂ (λ (b : Bool) (l : List A). cond b (x ∷ only place k xs) (only place k xs) ++ l) here others
          ∙ ap (λ (l : List A). x ∷ l) (here_too (subst (λ (p : ℕ). RiseFrom n p (map place xs)) e rest))
      by here_too later_on (no ne) =
          let above : suc k ≤ place x = omega (arith, from, ne) in
          let later : k < place x = omega (arith, above) in
          ap (λ (l : List A). l ++ joined_from place (suc k) m (λ j. x ∷ xs))
          (ap (λ (b : Bool). cond b (x ∷ only place k xs) (only place k xs)) (not_same (place x) k ne) ∙ none_below n (place x) k xs later rest)
          ∙ later_on (above, below, rest)

  -- the lists of all places make the whole
  pub gathered_cut : (n : ℕ) (at : ℕ → List A) (xs : List A) → IsInOrder place n xs → ((j : ℕ) → j < n → only place j (at j) ≡ only place j xs) → gathered place n at ≡ xs
  gathered_cut n at xs in_order cut = joined_same 0 n at (λ k. xs) (λ j from below. cut j (omega (arith, below))) ∙ rise_is n 0 n xs (omega arith) in_order

  -- two that are in order are the same where they are at each place
  pub same_gathered : (n : ℕ) (xs ys : List A) → IsInOrder place n xs → IsInOrder place n ys → ((j : ℕ) → j < n → only place j xs ≡ only place j ys) → xs ≡ ys
  same_gathered n xs ys one two same = sym (gathered_cut n (λ j. xs) xs one (λ j below. refl)) ∙ gathered_cut n (λ j. xs) ys two same

  -- ---- what keeps the order

  -- each becomes another of its place
  map_places : (f : A → A) → ((x : A) → place (f x) ≡ place x) → (xs : List A) → map place (map f xs) ≡ map place xs
  map_places f stays [] = refl
  map_places f stays (x ∷ xs) = ap₂ (λ (p : ℕ) (ps : List ℕ). p ∷ ps) (stays x) (map_places f stays xs)

  pub map_in_order : (f : A → A) → ((x : A) → place (f x) ≡ place x) → (n : ℕ) (xs : List A) → IsInOrder place n xs → IsInOrder place n (map f xs)
  map_in_order f stays n xs in_order = subst (RiseFrom n 0) (sym (map_places f stays xs)) in_order

  -- some go
  filter_rises : (p : A → Bool) (n low : ℕ) (xs : List A) → RiseFrom n low (map place xs) → RiseFrom n low (map place (filter p xs))
  filter_rises p n low [] rise = tt
  filter_rises p n low (x ∷ xs) (from, below, rest) = by_test (p x) (filter_rises p n (place x) xs rest)
    where
      by_test : (b : Bool) → RiseFrom n (place x) (map place (filter p xs)) → RiseFrom n low (map place (cond b (x ∷ filter p xs) (filter p xs)))
      by_test true more = (from, below, more)
      by_test false more = rise_lower n (place x) low (map place (filter p xs)) from more

  pub filter_in_order : (p : A → Bool) (n : ℕ) (xs : List A) → IsInOrder place n xs → IsInOrder place n (filter p xs)
  filter_in_order p n xs in_order = filter_rises p n 0 xs in_order

  -- one more comes behind those of its place
  behind_rises : (x : A) (n low : ℕ) (ys : List A) → low ≤ place x → place x < n → RiseFrom n low (map place ys) → RiseFrom n low (map place (put_behind place x ys))
  behind_rises x n low [] from below rise = (from, below, tt)
  behind_rises x n low (y ∷ ys) from below (here, less, rest) = by_test (nat_le (place y) (place x)) refl (λ after. behind_rises x n (place y) ys after below rest)
    where
      by_test : (b : Bool) → nat_le (place y) (place x) ≡ b → (place y ≤ place x → RiseFrom n (place y) (map place (put_behind place x ys))) → RiseFrom n low (map place (if b then y ∷ put_behind place x ys else x ∷ y ∷ ys))
      by_test true e more = let after : place y ≤ place x = grind (arith, nat_tests) in (here, less, more after)
      by_test false e more = let before : place x ≤ place y = grind (arith, nat_tests) in (from, below, (before, less, rest))

  pub behind_in_order : (x : A) (n : ℕ) (ys : List A) → place x < n → IsInOrder place n ys → IsInOrder place n (put_behind place x ys)
  behind_in_order x n ys below in_order = behind_rises x n 0 ys (omega arith) below in_order

  -- and is the last of its place, and no others change
  behind_others : (x : A) (j : ℕ) (ys : List A) → place x ≢ j → only place j (put_behind place x ys) ≡ only place j ys
  behind_others x j [] other = ap (λ (b : Bool). cond b (x ∷ []) []) (not_same (place x) j other)
  behind_others x j (y ∷ ys) other = by_test (nat_le (place y) (place x)) (behind_others x j ys other)
    where
      by_test : (b : Bool) → only place j (put_behind place x ys) ≡ only place j ys → only place j (if b then y ∷ put_behind place x ys else x ∷ y ∷ ys) ≡ only place j (y ∷ ys)
      by_test true more = ap (λ (l : List A). cond (place y == j) (y ∷ l) l) more
      by_test false more = ap (λ (b : Bool). cond b (x ∷ only place j (y ∷ ys)) (only place j (y ∷ ys))) (not_same (place x) j other)

  behind_last : (x : A) (n low : ℕ) (ys : List A) → RiseFrom n low (map place ys) → only place (place x) (put_behind place x ys) ≡ only place (place x) ys ++ x ∷ []
  behind_last x n low [] rise = ap (λ (b : Bool). cond b (x ∷ []) []) (same_itself (place x))
  behind_last x n low (y ∷ ys) (here, less, rest) = by_test (nat_le (place y) (place x)) refl (behind_last x n (place y) ys rest)
    where
      k : ℕ
      k = place x

      in_front : (b : Bool) → cond b (y ∷ (only place k ys ++ x ∷ [])) (only place k ys ++ x ∷ []) ≡ cond b (y ∷ only place k ys) (only place k ys) ++ x ∷ []
      in_front true = refl
      in_front false = refl

      by_test : (b : Bool) → nat_le (place y) (place x) ≡ b → only place k (put_behind place x ys) ≡ only place k ys ++ x ∷ [] → only place k (if b then y ∷ put_behind place x ys else x ∷ y ∷ ys) ≡ only place k (y ∷ ys) ++ x ∷ []
      by_test true e more = ap (λ (l : List A). cond (place y == k) (y ∷ l) l) more ∙ in_front (place y == k)
      by_test false e more =
          let after : place x < place y = grind (arith, nat_tests) in
          let none : only place k (y ∷ ys) ≡ [] = none_below n (place y) k (y ∷ ys) after (omega arith, less, rest) in
          ap (λ (b : Bool). cond b (x ∷ only place k (y ∷ ys)) (only place k (y ∷ ys))) (same_itself k)
          ∙ ap (λ (l : List A). x ∷ l) none ∙ sym (ap (λ (l : List A). l ++ x ∷ []) none)

  pub behind_at : (x : A) (n : ℕ) (ys : List A) → IsInOrder place n ys → only place (place x) (put_behind place x ys) ≡ only place (place x) ys ++ x ∷ []
  behind_at x n ys in_order = behind_last x n 0 ys in_order

  pub behind_else : (x : A) (j : ℕ) (ys : List A) → place x ≢ j → only place j (put_behind place x ys) ≡ only place j ys
  behind_else x j ys other = behind_others x j ys other

  -- ---- at a place

  pub at_place : (k n i : ℕ) (xs : List A) → i < n → slice_get (cut_from place k n xs) i ≡ Some (only place (k + i) xs)
  at_place k zero i xs below = absurd (omega (arith, below))
  at_place k (suc n) zero xs below = let here : k ≡ k + 0 = omega arith in ap (λ (m : ℕ). Some (only place m xs)) here
  at_place k (suc n) (suc i) xs below =
      let less : i < n = omega (arith, below) in
      let there : suc k + i ≡ k + suc i = omega arith in
      at_place (suc k) n i xs less ∙ ap (λ (m : ℕ). Some (only place m xs)) there

-- ---- entries with keys, whose places the keys tell

module _ {K X : Type 0} (place : K → ℕ) where
  abbrev pub place_of : K × X → ℕ
  place_of e = place e.0

  -- a look-up by a test that one key passes is one among those of its place
  module _ (test : K → Bool) (k : ℕ) (tells : (x : K) → test x ≡ true → place x ≡ k) where
    pub lookup_only : (es : List (K × X)) → lookup test (only place_of k es) ≡ lookup test es
    lookup_only [] = refl
    lookup_only (e ∷ es) = by_tests (place e.0 == k) (test e.0) refl refl (lookup_only es)
      where
        by_tests : (b c : Bool) → (place e.0 == k) ≡ b → test e.0 ≡ c → lookup test (only place_of k es) ≡ lookup test es
            → lookup test (cond b (e ∷ only place_of k es) (only place_of k es)) ≡ cond c (Some e.1) (lookup test es)
        by_tests true c f g rest = ap₂ (λ (b : Bool) (o : Option X). cond b (Some e.1) o) g rest
        by_tests false true f g rest = absurd (cc (sym f ∙ (ap (λ (p : ℕ). p == k) (tells e.0 g) ∙ same_itself k)))
        by_tests false false f g rest = rest

    -- the entry that is found has another value
    pub set_at : (es : List (K × X)) (w : X) → only place_of k (set_value test es w) ≡ set_value test (only place_of k es) w
    set_at [] w = refl
    set_at (e ∷ es) w = by_tests (place e.0 == k) (test e.0) refl refl (set_at es w)
      where
        by_tests : (b c : Bool) → (place e.0 == k) ≡ b → test e.0 ≡ c → only place_of k (set_value test es w) ≡ set_value test (only place_of k es) w
            → only place_of k (cond c ((e.0, w) ∷ es) (e ∷ set_value test es w)) ≡ set_value test (cond b (e ∷ only place_of k es) (only place_of k es)) w
        by_tests true true f g rest =
            ap (λ (b : Bool). cond b ((e.0, w) ∷ only place_of k es) (only place_of k es)) f
            ∙ sym (ap (λ (c : Bool). cond c ((e.0, w) ∷ only place_of k es) (e ∷ set_value test (only place_of k es) w)) g)
        by_tests true false f g rest =
            ap (λ (b : Bool). cond b (e ∷ only place_of k (set_value test es w)) (only place_of k (set_value test es w))) f
            ∙ ap (λ (l : List (K × X)). e ∷ l) rest
            ∙ sym (ap (λ (c : Bool). cond c ((e.0, w) ∷ only place_of k es) (e ∷ set_value test (only place_of k es) w)) g)
        by_tests false true f g rest = absurd (cc (sym f ∙ (ap (λ (p : ℕ). p == k) (tells e.0 g) ∙ same_itself k)))
        by_tests false false f g rest = ap (λ (b : Bool). cond b (e ∷ only place_of k (set_value test es w)) (only place_of k (set_value test es w))) f ∙ rest

    pub set_else : (es : List (K × X)) (w : X) (j : ℕ) → j ≢ k → only place_of j (set_value test es w) ≡ only place_of j es
    set_else [] w j other = refl
    set_else (e ∷ es) w j other = by_test (test e.0) refl (set_else es w j other)
      where
        by_test : (c : Bool) → test e.0 ≡ c → only place_of j (set_value test es w) ≡ only place_of j es → only place_of j (cond c ((e.0, w) ∷ es) (e ∷ set_value test es w)) ≡ cond (place e.0 == j) (e ∷ only place_of j es) (only place_of j es)
        by_test true g rest =
            let off : (place e.0 == j) ≡ false = not_same (place e.0) j (λ same. other (sym same ∙ tells e.0 g)) in
            ap (λ (b : Bool). cond b ((e.0, w) ∷ only place_of j es) (only place_of j es)) off ∙ sym (ap (λ (b : Bool). cond b (e ∷ only place_of j es) (only place_of j es)) off)
        by_test false g rest = ap (λ (l : List (K × X)). cond (place e.0 == j) (e ∷ l) l) rest

    set_places : (es : List (K × X)) (w : X) → map place_of (set_value test es w) ≡ map place_of es
    set_places [] w = refl
    set_places (e ∷ es) w = by_test (test e.0) (set_places es w)
      where
        by_test : (c : Bool) → map place_of (set_value test es w) ≡ map place_of es → map place_of (cond c ((e.0, w) ∷ es) (e ∷ set_value test es w)) ≡ place e.0 ∷ map place_of es
        by_test true rest = refl
        by_test false rest = ap (λ (ps : List ℕ). place e.0 ∷ ps) rest

    pub set_in_order : (n : ℕ) (es : List (K × X)) (w : X) → IsInOrder place_of n es → IsInOrder place_of n (set_value test es w)
    set_in_order n es w in_order = subst (RiseFrom n 0) (sym (set_places es w)) in_order

    -- the entry that is found goes
    pub remove_at : (es : List (K × X)) → only place_of k (remove_entry test es) ≡ remove_entry test (only place_of k es)
    remove_at [] = refl
    remove_at (e ∷ es) = by_tests (place e.0 == k) (test e.0) refl refl (remove_at es)
      where
        by_tests : (b c : Bool) → (place e.0 == k) ≡ b → test e.0 ≡ c → only place_of k (remove_entry test es) ≡ remove_entry test (only place_of k es)
            → only place_of k (cond c es (e ∷ remove_entry test es)) ≡ remove_entry test (cond b (e ∷ only place_of k es) (only place_of k es))
        by_tests true true f g rest = sym (ap (λ (c : Bool). cond c (only place_of k es) (e ∷ remove_entry test (only place_of k es))) g)
        by_tests true false f g rest =
            ap (λ (b : Bool). cond b (e ∷ only place_of k (remove_entry test es)) (only place_of k (remove_entry test es))) f
            ∙ ap (λ (l : List (K × X)). e ∷ l) rest
            ∙ sym (ap (λ (c : Bool). cond c (only place_of k es) (e ∷ remove_entry test (only place_of k es))) g)
        by_tests false true f g rest = absurd (cc (sym f ∙ (ap (λ (p : ℕ). p == k) (tells e.0 g) ∙ same_itself k)))
        by_tests false false f g rest = ap (λ (b : Bool). cond b (e ∷ only place_of k (remove_entry test es)) (only place_of k (remove_entry test es))) f ∙ rest

    pub remove_else : (es : List (K × X)) (j : ℕ) → j ≢ k → only place_of j (remove_entry test es) ≡ only place_of j es
    remove_else [] j other = refl
    remove_else (e ∷ es) j other = by_test (test e.0) refl (remove_else es j other)
      where
        by_test : (c : Bool) → test e.0 ≡ c → only place_of j (remove_entry test es) ≡ only place_of j es
            → only place_of j (cond c es (e ∷ remove_entry test es)) ≡ cond (place e.0 == j) (e ∷ only place_of j es) (only place_of j es)
        by_test true g rest =
            sym (ap (λ (b : Bool). cond b (e ∷ only place_of j es) (only place_of j es)) (not_same (place e.0) j (λ same. other (sym same ∙ tells e.0 g))))
        by_test false g rest = ap (λ (l : List (K × X)). cond (place e.0 == j) (e ∷ l) l) rest

    remove_rises : (n low : ℕ) (es : List (K × X)) → RiseFrom n low (map place_of es) → RiseFrom n low (map place_of (remove_entry test es))
    remove_rises n low [] rise = tt
    remove_rises n low (e ∷ es) (from, below, rest) = by_test (test e.0) (remove_rises n (place e.0) es rest)
      where
        by_test : (c : Bool) → RiseFrom n (place e.0) (map place_of (remove_entry test es)) → RiseFrom n low (map place_of (cond c es (e ∷ remove_entry test es)))
        by_test true more = rise_lower n (place e.0) low (map place_of es) from rest
        by_test false more = (from, below, more)

    pub remove_in_order : (n : ℕ) (es : List (K × X)) → IsInOrder place_of n es → IsInOrder place_of n (remove_entry test es)
    remove_in_order n es in_order = remove_rises n 0 es in_order
