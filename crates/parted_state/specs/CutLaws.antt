-- Laws of a step that touches what its stages want: proved once, for every state that is cut into parts.
use Rattle.std.specs.Prelude.{◌≡◌, ◌<◌, ℕ, zero, suc, Bool, true, false, not, ◌==◌, ◌||◌, ◌&&◌, Option, None, Some, List, [], ◌∷◌, ◌++◌, is_some, unwrap_or, map, length, slice_get, Contains, if◌then◌else◌, refl}
use Rattle.std.specs.Option.{option_map}
use Rattle.std.proofs.Common.{ap, ap₂, sym, ◌∙◌, ◌⊎◌, inl, inr, subst, arith}
use Rattle.std.proofs.lemmas.Bool.Decides.{nat_tests}
use Rattle.std.proofs.lemmas.List.{length-map}
use Rattle.part_table.specs.Held.{held_at, places_held, laid_over, IsHandOf}
use Rattle.part_table.specs.HeldLaws.{held_of_list, length-laid_over, length-by_places}
use Rattle.parted_state.specs.Cut.{is_in, with_places, is_held, are_held, missing, as_in, wanted_of, shown_of, after_of, all_after_of, SameAt, Agree, AreTold, IsFramed, IsCut}

pub same_number : (p q : ℕ) → (p == q) ≡ true → p ≡ q
same_number p q is = grind (arith, nat_tests)

pub same_itself : (p : ℕ) → (p == p) ≡ true
same_itself p = grind (arith, nat_tests)

-- ---- membership

pub in_front : (xs ys : List ℕ) (i : ℕ) → is_in xs i ≡ true → is_in (xs ++ ys) i ≡ true
in_front [] ys i is = absurd (cc is)
in_front (x ∷ xs) ys i is = by_test (x == i) (in_front xs ys i) is
  where
    by_test : (b : Bool) → (is_in xs i ≡ true → is_in (xs ++ ys) i ≡ true) → (b || is_in xs i) ≡ true → (b || is_in (xs ++ ys) i) ≡ true
    by_test true rest is = refl
    by_test false rest is = rest is

pub in_back : (xs ys : List ℕ) (i : ℕ) → is_in ys i ≡ true → is_in (xs ++ ys) i ≡ true
in_back [] ys i is = is
in_back (x ∷ xs) ys i is = by_test (x == i) (in_back xs ys i is)
  where
    by_test : (b : Bool) → is_in (xs ++ ys) i ≡ true → (b || is_in (xs ++ ys) i) ≡ true
    by_test true rest = refl
    by_test false rest = rest

pub in_either : (xs ys : List ℕ) (i : ℕ) → is_in (xs ++ ys) i ≡ true → (is_in xs i ≡ true) ⊎ (is_in ys i ≡ true)
in_either [] ys i is = inr is
in_either (x ∷ xs) ys i is = by_test (x == i) (in_either xs ys i) is
  where
    by_test : (b : Bool) → (is_in (xs ++ ys) i ≡ true → (is_in xs i ≡ true) ⊎ (is_in ys i ≡ true)) → (b || is_in (xs ++ ys) i) ≡ true
        → ((b || is_in xs i) ≡ true) ⊎ (is_in ys i ≡ true)
    by_test true rest is = inl refl
    by_test false rest is = rest is

-- membership is what std calls Contains
pub contains_in : (xs : List ℕ) (i : ℕ) → Contains xs i → is_in xs i ≡ true
contains_in [] i (k, below, same) = absurd (omega (arith, below))
contains_in (x ∷ xs) i (zero, below, same) = in_front (x ∷ []) xs i (ap (λ (b : Bool). b || false) (ap (λ (m : ℕ). m == i) same ∙ same_itself i))
contains_in (x ∷ xs) i (suc k, below, same) = in_back (x ∷ []) xs i (contains_in xs i (k, omega (arith, below), same))

pub in_contains : (xs : List ℕ) (i : ℕ) → is_in xs i ≡ true → Contains xs i
in_contains [] i is = absurd (cc is)
in_contains (x ∷ xs) i is = by_test (x == i) refl (in_contains xs i) is
  where
    by_test : (b : Bool) → (x == i) ≡ b → (is_in xs i ≡ true → Contains xs i) → (b || is_in xs i) ≡ true → Contains (x ∷ xs) i
    by_test true e rest h = (0, omega arith, same_number x i e)
    by_test false e rest h = let found = rest h in let below = found.1 in (suc found.0, omega (arith, below), found.2)

-- ---- places that are held

module _ {P : Type 0} where
  pub held_in : (hand : List (Option P)) (places : List ℕ) (i : ℕ) → are_held hand places ≡ true → is_in places i ≡ true → is_held hand i ≡ true
  held_in hand [] i all is = absurd (cc is)
  held_in hand (p ∷ places) i all is = by_test (is_held hand p) (p == i) refl refl (held_in hand places i) all is
    where
      by_test : (h b : Bool) → is_held hand p ≡ h → (p == i) ≡ b → (are_held hand places ≡ true → is_in places i ≡ true → is_held hand i ≡ true)
          → (h && are_held hand places) ≡ true → (b || is_in places i) ≡ true → is_held hand i ≡ true
      by_test false b e f rest all is = absurd (cc all)
      by_test true true e f rest all is = ap (λ (k : ℕ). is_held hand k) (sym (same_number p i f)) ∙ e
      by_test true false e f rest all is = rest all is

  pub all_held_both : (hand : List (Option P)) (xs ys : List ℕ) → are_held hand xs ≡ true → are_held hand ys ≡ true → are_held hand (xs ++ ys) ≡ true
  all_held_both hand [] ys h k = k
  all_held_both hand (x ∷ xs) ys h k = by_test (is_held hand x) (λ g. all_held_both hand xs ys g k) h
    where
      by_test : (b : Bool) → (are_held hand xs ≡ true → are_held hand (xs ++ ys) ≡ true) → (b && are_held hand xs) ≡ true → (b && are_held hand (xs ++ ys)) ≡ true
      by_test false rest h = absurd (cc h)
      by_test true rest h = rest h

  pub held_parted : (hand : List (Option P)) (xs ys : List ℕ) → are_held hand (xs ++ ys) ≡ true → (are_held hand xs ≡ true) × (are_held hand ys ≡ true)
  held_parted hand [] ys h = (refl, h)
  held_parted hand (x ∷ xs) ys h = by_test (is_held hand x) (held_parted hand xs ys) h
    where
      by_test : (b : Bool) → (are_held hand (xs ++ ys) ≡ true → (are_held hand xs ≡ true) × (are_held hand ys ≡ true)) → (b && are_held hand (xs ++ ys)) ≡ true
          → ((b && are_held hand xs) ≡ true) × (are_held hand ys ≡ true)
      by_test false rest h = absurd (cc h)
      by_test true rest h = rest h

  pub held_more : (hand larger : List (Option P)) (places : List ℕ) → ((i : ℕ) → is_held hand i ≡ true → is_held larger i ≡ true)
      → are_held hand places ≡ true → are_held larger places ≡ true
  held_more hand larger [] more h = refl
  held_more hand larger (p ∷ places) more h = by_test (is_held hand p) refl (held_more hand larger places more) h
    where
      by_test : (b : Bool) → is_held hand p ≡ b → (are_held hand places ≡ true → are_held larger places ≡ true) → (b && are_held hand places) ≡ true
          → are_held larger (p ∷ places) ≡ true
      by_test false e rest h = absurd (cc h)
      by_test true e rest h = ap (λ (b : Bool). b && are_held larger places) (more p e) ∙ rest h

  -- nothing is missing where all are held, and the other way round
  pub none_missing : (hand : List (Option P)) (places : List ℕ) → missing hand places ≡ [] → are_held hand places ≡ true
  none_missing hand [] none = refl
  none_missing hand (p ∷ places) none = by_test (is_held hand p) (none_missing hand places) none
    where
      by_test : (b : Bool) → (missing hand places ≡ [] → are_held hand places ≡ true) → (if not b then p ∷ missing hand places else missing hand places) ≡ []
          → (b && are_held hand places) ≡ true
      by_test true rest none = rest none
      by_test false rest none = absurd (cc none)

  pub missing_none : (hand : List (Option P)) (places : List ℕ) → are_held hand places ≡ true → missing hand places ≡ []
  missing_none hand [] all = refl
  missing_none hand (p ∷ places) all = by_test (is_held hand p) (missing_none hand places) all
    where
      by_test : (b : Bool) → (are_held hand places ≡ true → missing hand places ≡ []) → (b && are_held hand places) ≡ true
          → (if not b then p ∷ missing hand places else missing hand places) ≡ []
      by_test true rest all = rest all
      by_test false rest all = absurd (cc all)

  pub all_held_at : (parts : List P) (place : ℕ) (part : P) → slice_get parts place ≡ Some part → held_at (map Some parts) place ≡ Some part
  all_held_at [] place part there = there
  all_held_at (x ∷ parts) zero part there = there
  all_held_at (x ∷ parts) (suc place) part there = all_held_at parts place part there

  pub held_below : (parts : List P) (place : ℕ) → place < length parts → is_held (map Some parts) place ≡ true
  held_below [] place below = absurd (omega arith)
  held_below (x ∷ parts) zero below = refl
  held_below (x ∷ parts) (suc place) below = let rest : place < length parts = omega arith in held_below parts place rest

  laid_all : (parts others : List P) → length parts ≡ length others → laid_over (map Some parts) others ≡ parts
  laid_all [] [] same = refl
  laid_all [] (y ∷ others) same = absurd (omega arith)
  laid_all (x ∷ parts) [] same = absurd (omega arith)
  laid_all (x ∷ parts) (y ∷ others) same = let rest : length parts ≡ length others = omega arith in ap (λ (l : List P). x ∷ l) (laid_all parts others rest)

  -- all parts are parts of what they are
  pub all_of_them : (parts : List P) → IsHandOf (map Some parts) parts
  all_of_them parts = record { places = length-map parts Some; values = laid_all parts parts refl }

  -- ---- hands of a list

  laid_twice : (hand : List (Option P)) (parts : List P) → length hand ≡ length parts → laid_over hand (laid_over hand parts) ≡ laid_over hand parts
  laid_twice [] parts same = refl
  laid_twice (h ∷ hand) [] same = refl
  laid_twice (None ∷ hand) (part ∷ parts) same = let rest : length hand ≡ length parts = omega arith in ap (λ (l : List P). part ∷ l) (laid_twice hand parts rest)
  laid_twice (Some x ∷ hand) (part ∷ parts) same = let rest : length hand ≡ length parts = omega arith in ap (λ (l : List P). x ∷ l) (laid_twice hand parts rest)

  pub hand_laid : (hand : List (Option P)) (parts : List P) → length hand ≡ length parts → IsHandOf hand (laid_over hand parts)
  hand_laid hand parts same = record { places = same ∙ sym (length-laid_over hand parts); values = laid_twice hand parts same }

  -- two hands of one list that hold the same places are the same
  pub same_hand : (one other : List (Option P)) (parts : List P) → IsHandOf one parts → IsHandOf other parts → places_held one ≡ places_held other → one ≡ other
  same_hand [] [] parts a b same = refl
  same_hand [] (y ∷ other) parts a b same = absurd (cc same)
  same_hand (x ∷ one) [] parts a b same = absurd (cc same)
  same_hand (x ∷ one) (y ∷ other) [] a b same = let none = a.places in absurd (omega (arith, none))
  same_hand (x ∷ one) (y ∷ other) (part ∷ parts) a b same =
      let va : unwrap_or x part ≡ part = first a.values in
      let vb : unwrap_or y part ≡ part = first b.values in
      let ra : laid_over one parts ≡ parts = rest a.values in
      let rb : laid_over other parts ≡ parts = rest b.values in
      let pa = a.places in
      let pb = b.places in
      let la : length one ≡ length parts = omega (arith, pa) in
      let lb : length other ≡ length parts = omega (arith, pb) in
      let here : is_some x ≡ is_some y = cc same in
      let more : places_held one ≡ places_held other = cc same in
      ap₂ (λ (o : Option P) (l : List (Option P)). o ∷ l) (by_value x y here va vb)
      (same_hand one other parts (record { places = la; values = ra }) (record { places = lb; values = rb }) more)
    where
      first : {p q : P} {ps qs : List P} → p ∷ ps ≡ q ∷ qs → p ≡ q
      first e = cc e

      rest : {p q : P} {ps qs : List P} → p ∷ ps ≡ q ∷ qs → ps ≡ qs
      rest e = cc e

      by_value : (o u : Option P) → is_some o ≡ is_some u → unwrap_or o part ≡ part → unwrap_or u part ≡ part → o ≡ u
      by_value None None e f g = refl
      by_value None (Some v) e f g = absurd (cc e)
      by_value (Some w) None e f g = absurd (cc e)
      by_value (Some w) (Some v) e f g = ap Some (f ∙ sym g)

  -- where all places are held, they are all parts
  pub still_all : (hand : List (Option P)) (parts before : List P) → IsHandOf hand parts → places_held hand ≡ places_held (map Some before) → hand ≡ map Some parts
  still_all hand parts before of same =
      same_hand hand (map Some parts) parts of (all_of_them parts)
      (same ∙ all_places before parts (sym (length-map before Some) ∙ sym (length-by_places hand (map Some before) same) ∙ of.places))
    where
      all_places : (xs ys : List P) → length xs ≡ length ys → places_held (map Some xs) ≡ places_held (map Some ys)
      all_places [] [] many = refl
      all_places [] (y ∷ ys) many = absurd (omega arith)
      all_places (x ∷ xs) [] many = absurd (omega arith)
      all_places (x ∷ xs) (y ∷ ys) many = let fewer : length xs ≡ length ys = omega arith in ap (λ (l : List Bool). true ∷ l) (all_places xs ys fewer)

  -- ---- lists changed by place

  pub places_kept : (f : ℕ → P → P) (hand : List (Option P)) → places_held (with_places (λ i. option_map (f i)) hand) ≡ places_held hand
  places_kept f [] = refl
  places_kept f (None ∷ hand) = ap (λ (l : List Bool). false ∷ l) (places_kept (λ i. f (suc i)) hand)
  places_kept f (Some x ∷ hand) = ap (λ (l : List Bool). true ∷ l) (places_kept (λ i. f (suc i)) hand)

  pub length-with_places : (f : ℕ → P → P) (xs : List P) → length (with_places f xs) ≡ length xs
  length-with_places f [] = refl
  length-with_places f (x ∷ xs) = omega (arith, length-with_places (λ i. f (suc i)) xs)

  laid_places : (f g : ℕ → P → P) (hand : List (Option P)) (parts : List P) → length hand ≡ length parts → laid_over hand parts ≡ parts
      → ((i : ℕ) (x : P) → held_at hand i ≡ Some x → f i x ≡ g i x)
      → ((i : ℕ) (x : P) → held_at hand i ≡ None → slice_get parts i ≡ Some x → g i x ≡ x)
      → with_places g parts ≡ laid_over (with_places (λ i. option_map (f i)) hand) parts
  laid_places f g [] [] same over held free = refl
  laid_places f g [] (part ∷ parts) same over held free = absurd (omega arith)
  laid_places f g (h ∷ hand) [] same over held free = absurd (omega arith)
  laid_places f g (None ∷ hand) (part ∷ parts) same over held free =
      let fewer : length hand ≡ length parts = omega arith in
      let rest : laid_over hand parts ≡ parts = cc over in
      ap₂ (λ (y : P) (l : List P). y ∷ l) (free 0 part refl refl)
      (laid_places (λ i. f (suc i)) (λ i. g (suc i)) hand parts fewer rest (λ i x e. held (suc i) x e) (λ i x e there. free (suc i) x e there))
  laid_places f g (Some x ∷ hand) (part ∷ parts) same over held free =
      let fewer : length hand ≡ length parts = omega arith in
      let here : x ≡ part = cc over in
      let rest : laid_over hand parts ≡ parts = cc over in
      ap₂ (λ (y : P) (l : List P). y ∷ l) (ap (g 0) (sym here) ∙ sym (held 0 x refl))
      (laid_places (λ i. f (suc i)) (λ i. g (suc i)) hand parts fewer rest (λ i x e. held (suc i) x e) (λ i x e there. free (suc i) x e there))

  -- a list that is changed by place to what another of its length has at each place
  pub placed_as : (f : ℕ → P → P) (xs ys : List P) → length xs ≡ length ys → ((i : ℕ) (x : P) → slice_get xs i ≡ Some x → slice_get ys i ≡ Some (f i x)) → ys ≡ with_places f xs
  placed_as f [] [] same at = refl
  placed_as f [] (y ∷ ys) same at = absurd (omega arith)
  placed_as f (x ∷ xs) [] same at = absurd (omega arith)
  placed_as f (x ∷ xs) (y ∷ ys) same at =
      let fewer : length xs ≡ length ys = omega arith in
      let first : Some y ≡ Some (f 0 x) = at 0 x refl in
      let here : y ≡ f 0 x = cc first in
      ap₂ (λ (p : P) (l : List P). p ∷ l) here (placed_as (λ i. f (suc i)) xs ys fewer (λ i x e. at (suc i) x e))

-- ---- a state that held parts show

module _ {S P : Type 0} (parts_of : S → List P) (InOrder : S → Type 0) (state_in : List (Option P) → S) where
  -- what is held is what the state has
  pub record Shows (hand : List (Option P)) (s : S) : Type 0 where
    pub as_many : length (parts_of (state_in hand)) ≡ length (parts_of s)
    pub in_order : InOrder (state_in hand)
    pub same : (place : ℕ) → is_held hand place ≡ true → SameAt parts_of place s (state_in hand)

  module _ (cut : IsCut parts_of InOrder state_in) where
    -- held parts of a list show what all parts of the list show
    pub shows_parts : (hand : List (Option P)) (parts : List P) → IsHandOf hand parts → Shows hand (state_in (map Some parts))
    shows_parts hand parts of = record { as_many = cut.as_many hand (map Some parts) many; in_order = cut.in_order hand; same = λ place held. by_value place (held_at hand place) refl held }
      where
        many : length hand ≡ length (map Some parts)
        many = of.places ∙ sym (length-map parts Some)

        by_value : (place : ℕ) (o : Option P) → held_at hand place ≡ o → is_some o ≡ true → SameAt parts_of place (state_in (map Some parts)) (state_in hand)
        by_value place None e held = absurd (cc held)
        by_value place (Some x) e held =
            cut.by_place (map Some parts) hand place (sym many) (all_held_at parts place x (held_of_list hand parts place x of e) ∙ sym e)

    pub shows_state : (hand : List (Option P)) (s : S) → IsHandOf hand (parts_of s) → Shows hand s
    shows_state hand s of =
        let shows = shows_parts hand (parts_of s) of in
        record {
          as_many = shows.as_many ∙ ap (λ (l : List P). length l) (cut.shown s);
          in_order = shows.in_order;
          same = λ place held. ap (λ (l : List P). slice_get l place) (sym (cut.shown s)) ∙ shows.same place held;
        }

  agrees : (hand : List (Option P)) (s : S) (places : List ℕ) → Shows hand s → are_held hand places ≡ true → Agree parts_of InOrder places s (state_in hand)
  agrees hand s places shows all = record { as_many = shows.as_many; in_order = shows.in_order; same = λ i is. shows.same i (held_in hand places i all is) }

  -- where all that is shown is held, it is all that is wanted, in the state and in the one that is shown
  pub wanted_shown : (ws : List (S → List ℕ)) (s : S) (hand : List (Option P)) (before : List ℕ) → Shows hand s → AreTold parts_of InOrder s before ws
      → are_held hand before ≡ true → are_held hand (shown_of parts_of state_in ws hand) ≡ true → (are_held hand (wanted_of ws s) ≡ true) × (wanted_of ws (state_in hand) ≡ wanted_of ws s)
  wanted_shown [] s hand before shows told front all = (refl, refl)
  wanted_shown (w ∷ ws) s hand before shows told front all =
      let same : w (state_in hand) ≡ w s = told.0 (state_in hand) (agrees hand s before shows front) in
      let two = held_parted hand (w (state_in hand)) (if are_held hand (w (state_in hand)) then shown_of parts_of state_in ws hand else []) all in
      let here : are_held hand (w s) ≡ true = ap (λ (l : List ℕ). are_held hand l) (sym same) ∙ two.0 in
      let behind : are_held hand (shown_of parts_of state_in ws hand) ≡ true =
      ap (λ (b : Bool). are_held hand (if b then shown_of parts_of state_in ws hand else [])) (sym two.0) ∙ two.1 in
      let rest = wanted_shown ws s hand (before ++ w s) shows told.1 (all_held_both hand before (w s) front here) behind in
      (all_held_both hand (w s) (wanted_of ws s) here rest.0, ap₂ (λ (a b : List ℕ). a ++ b) same rest.1)

  -- what is shown is wanted
  pub shown_wanted : (ws : List (S → List ℕ)) (s : S) (hand : List (Option P)) (before : List ℕ) → Shows hand s → AreTold parts_of InOrder s before ws
      → are_held hand before ≡ true → (i : ℕ) → is_in (shown_of parts_of state_in ws hand) i ≡ true → is_in (wanted_of ws s) i ≡ true
  shown_wanted [] s hand before shows told front i is = is
  shown_wanted (w ∷ ws) s hand before shows told front i is =
      let same : w (state_in hand) ≡ w s = told.0 (state_in hand) (agrees hand s before shows front) in
      elim (in_either (w (state_in hand)) (if are_held hand (w (state_in hand)) then shown_of parts_of state_in ws hand else []) i is) [
        | inl here ↦ in_front (w s) (wanted_of ws s) i (ap (λ (l : List ℕ). is_in l i) (sym same) ∙ here)
        | inr behind ↦ in_back (w s) (wanted_of ws s) i (by_test (are_held hand (w (state_in hand))) refl same
            (λ f b. shown_wanted ws s hand (before ++ w s) shows told.1 f i b) behind)
      ]
    where
      by_test : (b : Bool) → are_held hand (w (state_in hand)) ≡ b → w (state_in hand) ≡ w s
          → (are_held hand (before ++ w s) ≡ true → is_in (shown_of parts_of state_in ws hand) i ≡ true → is_in (wanted_of ws s) i ≡ true)
          → is_in (if b then shown_of parts_of state_in ws hand else []) i ≡ true → is_in (wanted_of ws s) i ≡ true
      by_test false e same next is = absurd (cc is)
      by_test true e same next is = next (all_held_both hand before (w s) front (ap (λ (l : List ℕ). are_held hand l) (sym same) ∙ e)) is

  -- with parts of one state, more held parts show at least as much
  pub shown_grows : (ws : List (S → List ℕ)) (s : S) (hand larger : List (Option P)) (before : List ℕ) → Shows hand s → Shows larger s
      → AreTold parts_of InOrder s before ws → are_held hand before ≡ true → ((i : ℕ) → is_held hand i ≡ true → is_held larger i ≡ true)
      → (i : ℕ) → is_in (shown_of parts_of state_in ws hand) i ≡ true → is_in (shown_of parts_of state_in ws larger) i ≡ true
  shown_grows [] s hand larger before shows shows_more told front more i is = is
  shown_grows (w ∷ ws) s hand larger before shows shows_more told front more i is =
      let same : w (state_in hand) ≡ w s = told.0 (state_in hand) (agrees hand s before shows front) in
      let same_more : w (state_in larger) ≡ w s = told.0 (state_in larger) (agrees larger s before shows_more (held_more hand larger before more front)) in
      elim (in_either (w (state_in hand)) (if are_held hand (w (state_in hand)) then shown_of parts_of state_in ws hand else []) i is) [
        | inl here ↦ in_front (w (state_in larger)) (if are_held larger (w (state_in larger)) then shown_of parts_of state_in ws larger else []) i
            (ap (λ (l : List ℕ). is_in l i) (same_more ∙ sym same) ∙ here)
        | inr behind ↦ in_back (w (state_in larger)) (if are_held larger (w (state_in larger)) then shown_of parts_of state_in ws larger else []) i
            (by_test (are_held hand (w (state_in hand))) refl same same_more
            (λ f b. shown_grows ws s hand larger (before ++ w s) shows shows_more told.1 f more i b) behind)
      ]
    where
      by_test : (b : Bool) → are_held hand (w (state_in hand)) ≡ b → w (state_in hand) ≡ w s → w (state_in larger) ≡ w s
          → (are_held hand (before ++ w s) ≡ true → is_in (shown_of parts_of state_in ws hand) i ≡ true → is_in (shown_of parts_of state_in ws larger) i ≡ true)
          → is_in (if b then shown_of parts_of state_in ws hand else []) i ≡ true
          → is_in (if are_held larger (w (state_in larger)) then shown_of parts_of state_in ws larger else []) i ≡ true
      by_test false e same same_more next is = absurd (cc is)
      by_test true e same same_more next is =
          let here : are_held hand (w s) ≡ true = ap (λ (l : List ℕ). are_held hand l) (sym same) ∙ e in
          let all : are_held larger (w (state_in larger)) ≡ true = ap (λ (l : List ℕ). are_held larger l) same_more ∙ held_more hand larger (w s) more here in
          ap (λ (b : Bool). is_in (if b then shown_of parts_of state_in ws larger else []) i) all ∙ next (all_held_both hand before (w s) front here) is

  -- ---- a step on held parts

  module _ (stages : List (S → List ℕ)) (step : S → S) where
    module _ (s : S) (hand : List (Option P)) (shows : Shows hand s) (framed : IsFramed parts_of InOrder stages step s) (enough : missing hand (shown_of parts_of state_in stages hand) ≡ []) where
      all_shown : (are_held hand (wanted_of stages s) ≡ true) × (wanted_of stages (state_in hand) ≡ wanted_of stages s)
      all_shown = wanted_shown stages s hand [] shows framed.stages_told refl (none_missing hand (shown_of parts_of state_in stages hand) enough)

      -- a part that is held becomes the same
      pub held_become : (i : ℕ) (x : P)
          → as_in (wanted_of stages (state_in hand)) (parts_of (step (state_in hand))) i x ≡ as_in (wanted_of stages s) (parts_of (step s)) i x
      held_become i x =
          ap (λ (l : List ℕ). as_in l (parts_of (step (state_in hand))) i x) all_shown.1 ∙ by_test (is_in (wanted_of stages s) i) refl
        where
          by_test : (b : Bool) → is_in (wanted_of stages s) i ≡ b
              → (if b then unwrap_or (slice_get (parts_of (step (state_in hand))) i) x else x) ≡ (if b then unwrap_or (slice_get (parts_of (step s)) i) x else x)
          by_test false e = refl
          by_test true e =
              ap (λ (o : Option P). unwrap_or o x) (sym ((framed.touches.told (state_in hand) (agrees hand s (wanted_of stages s) shows all_shown.0)).same i e))

      -- a part that isn't held stays
      pub free_stay : (i : ℕ) (x : P) → held_at hand i ≡ None → as_in (wanted_of stages s) (parts_of (step s)) i x ≡ x
      free_stay i x free = by_test (is_in (wanted_of stages s) i) refl
        where
          by_test : (b : Bool) → is_in (wanted_of stages s) i ≡ b → (if b then unwrap_or (slice_get (parts_of (step s)) i) x else x) ≡ x
          by_test false e = refl
          by_test true e =
              let held = held_in hand (wanted_of stages s) i all_shown.0 e in
              let no : is_held hand i ≡ false = ap is_some free in absurd (cc (sym no ∙ held))

      -- what becomes of a part that is held is told by those that are held
      pub held_told : IsFramed parts_of InOrder stages step (state_in hand) → (i : ℕ) → is_held hand i ≡ true → SameAt parts_of i (step s) (step (state_in hand))
      held_told framed_shown i held = by_test (is_in (wanted_of stages s) i) refl
        where
          by_test : (b : Bool) → is_in (wanted_of stages s) i ≡ b → SameAt parts_of i (step s) (step (state_in hand))
          by_test true e = (framed.touches.told (state_in hand) (agrees hand s (wanted_of stages s) shows all_shown.0)).same i e
          by_test false e =
              framed.touches.others i e ∙ shows.same i held ∙ sym (framed_shown.touches.others i (ap (λ (l : List ℕ). is_in l i) all_shown.1 ∙ e))

      -- every part that isn't held stays
      pub others_stay : (i : ℕ) → is_held hand i ≡ false → SameAt parts_of i (step s) s
      others_stay i free = by_test (is_in (wanted_of stages s) i) refl
        where
          by_test : (b : Bool) → is_in (wanted_of stages s) i ≡ b → SameAt parts_of i (step s) s
          by_test false e = framed.touches.others i e
          by_test true e = absurd (cc (sym free ∙ held_in hand (wanted_of stages s) i all_shown.0 e))

    pub after_holds_the_same : (hand : List (Option P)) → places_held (after_of parts_of state_in stages step hand) ≡ places_held hand
    after_holds_the_same hand = places_kept (as_in (wanted_of stages (state_in hand)) (parts_of (step (state_in hand)))) hand

    module _ (cut : IsCut parts_of InOrder state_in) where
      -- where enough is held, the step on all parts is the step on those that are held, laid over the others
      pub after_is_laid_over : (hand : List (Option P)) (parts : List P) → IsFramed parts_of InOrder stages step (state_in (map Some parts)) → IsHandOf hand parts
          → missing hand (shown_of parts_of state_in stages hand) ≡ []
          → all_after_of parts_of state_in stages step parts ≡ laid_over (after_of parts_of state_in stages step hand) parts
      after_is_laid_over hand parts framed of enough =
          let shows = shows_parts cut hand parts of in
          laid_places (as_in (wanted_of stages (state_in hand)) (parts_of (step (state_in hand))))
          (as_in (wanted_of stages (state_in (map Some parts))) (parts_of (step (state_in (map Some parts))))) hand parts of.places of.values
          (λ i x held. held_become (state_in (map Some parts)) hand shows framed enough i x)
          (λ i x free there. free_stay (state_in (map Some parts)) hand shows framed enough i x free)

      -- the step on a state is the step on its parts
      pub parts_step : (s : S) → InOrder s → IsFramed parts_of InOrder stages step s → parts_of (step s) ≡ all_after_of parts_of state_in stages step (parts_of s)
      parts_step s in_order framed =
          subst (λ (t : S). parts_of (step s) ≡ with_places (as_in (wanted_of stages t) (parts_of (step t))) (parts_of s)) (sym (cut.whole s in_order))
          (placed_as (as_in (wanted_of stages s) (parts_of (step s))) (parts_of s) (parts_of (step s)) (sym framed.touches.as_many)
          (λ i x there. by_test i x there (is_in (wanted_of stages s) i) refl))
        where
          by_test : (i : ℕ) (x : P) → slice_get (parts_of s) i ≡ Some x → (b : Bool) → is_in (wanted_of stages s) i ≡ b
              → slice_get (parts_of (step s)) i ≡ Some (if b then unwrap_or (slice_get (parts_of (step s)) i) x else x)
          by_test i x there false e = framed.touches.others i e ∙ there
          by_test i x there true e = is_there (parts_of s) (parts_of (step s)) i (sym framed.touches.as_many) there
            where
              is_there : (old new : List P) (i : ℕ) → length old ≡ length new → slice_get old i ≡ Some x → slice_get new i ≡ Some (unwrap_or (slice_get new i) x)
              is_there [] new i same there = absurd (cc there)
              is_there (a ∷ old) [] i same there = absurd (omega arith)
              is_there (a ∷ old) (b ∷ new) zero same there = refl
              is_there (a ∷ old) (b ∷ new) (suc i) same there = let rest : length old ≡ length new = omega arith in is_there old new i rest there

      -- held parts become parts of the state after the step
      pub hand_after : (s : S) (hand : List (Option P)) → InOrder s → ((t : S) → InOrder t → IsFramed parts_of InOrder stages step t) → IsHandOf hand (parts_of s)
          → missing hand (shown_of parts_of state_in stages hand) ≡ [] → IsHandOf (after_of parts_of state_in stages step hand) (parts_of (step s))
      hand_after s hand in_order framed of enough =
          let over = parts_step s in_order (framed s in_order) ∙ after_is_laid_over hand (parts_of s) (framed (state_in (map Some (parts_of s))) (cut.in_order (map Some (parts_of s)))) of enough in
          let new = after_of parts_of state_in stages step hand in
          let many : length new ≡ length (parts_of s) = length-by_places new hand (after_holds_the_same hand) ∙ of.places in
          subst (λ (l : List P). IsHandOf new l) (sym over) (hand_laid new (parts_of s) many)

      -- and a hand of that state that holds the same is what they become
      pub is_after : (s : S) (hand new : List (Option P)) → InOrder s → ((t : S) → InOrder t → IsFramed parts_of InOrder stages step t) → IsHandOf hand (parts_of s)
          → missing hand (shown_of parts_of state_in stages hand) ≡ [] → IsHandOf new (parts_of (step s)) → places_held new ≡ places_held hand
          → new ≡ after_of parts_of state_in stages step hand
      is_after s hand new in_order framed of enough after same =
          same_hand new (after_of parts_of state_in stages step hand) (parts_of (step s)) after (hand_after s hand in_order framed of enough) (same ∙ sym (after_holds_the_same hand))

      -- where all parts are held and all places that are wanted are among them, nothing is missing
      pub all_are_enough : (s : S) → IsFramed parts_of InOrder stages step s → ((i : ℕ) → is_in (wanted_of stages s) i ≡ true → i < length (parts_of s))
          → missing (map Some (parts_of s)) (shown_of parts_of state_in stages (map Some (parts_of s))) ≡ []
      all_are_enough s framed within =
          missing_none (map Some (parts_of s)) (shown_of parts_of state_in stages (map Some (parts_of s)))
          (each (shown_of parts_of state_in stages (map Some (parts_of s)))
          (λ i is. within i (shown_wanted stages s (map Some (parts_of s)) [] (shows_state cut (map Some (parts_of s)) s (all_of_them (parts_of s))) framed.stages_told refl i is)))
        where
          each : (places : List ℕ) → ((i : ℕ) → is_in places i ≡ true → i < length (parts_of s)) → are_held (map Some (parts_of s)) places ≡ true
          each [] within = refl
          each (p ∷ places) within =
              let here : p < length (parts_of s) = within p (ap (λ (b : Bool). b || is_in places p) (same_itself p)) in
              ap (λ (b : Bool). b && are_held (map Some (parts_of s)) places) (held_below (parts_of s) p here)
              ∙ each places (λ i is. within i (in_back (p ∷ []) places i is))
