-- Items are laid in their places.
use Rattle.std.proofs.Common.{◌≡◌, ◌⊎◌, ℕ, zero, suc, ◌+◌, ◌<◌, ◌≤◌, List, [], ◌∷◌, ◌++◌, length, Option, Some, None, is_some, unwrap_or, slice_get, slice_set, take, subst, inl, inr, true≢false, sym, refl, ap, ◌∙◌, arith, ⊎_elim}
use Rattle.std.specs.List.{range_with_len}
use Rattle.cell_pool.specs.Rule.{weigh, weigh_all, is, pick, IsLaid, HoldsEach, Lies, LiesOnce, LiesOnceIn}
use Rattle.cell_pool.proofs.Lists.{at_seam}
use Rattle.cell_pool.proofs.Rules.{weigh-append}

pub is_cases : (p q : ℕ) → (p ≡ q) ⊎ (is p q ≡ 0)
is_cases zero zero = inl refl
is_cases zero (suc q) = inr refl
is_cases (suc p) zero = inr refl
is_cases (suc p) (suc q) = ⊎_elim (λ e. inl (ap suc e)) (λ z. inr z) (is_cases p q)

pub is_self : (p : ℕ) → is p p ≡ 1
is_self zero = refl
is_self (suc p) = is_self p

some_or_none : (n : ℕ) → (n ≡ 0) ⊎ (0 < n)
some_or_none zero = inl refl
some_or_none (suc n) = inr (omega arith)

module _ {A : Type 0} where
  set_at : (xs : List A) (i : ℕ) (y : A) → i < length xs → slice_get (slice_set xs i y) i ≡ Some y
  set_at [] i y lt = absurd (omega arith)
  set_at (x ∷ xs) zero y lt = refl
  set_at (x ∷ xs) (suc i) y lt = set_at xs i y (omega arith)

  set_else : (xs : List A) (i p : ℕ) (y : A) → is p i ≡ 0 → slice_get (slice_set xs i y) p ≡ slice_get xs p
  set_else [] i p y other = refl
  set_else (x ∷ xs) zero zero y other = absurd (omega (arith, other))
  set_else (x ∷ xs) zero (suc p) y other = refl
  set_else (x ∷ xs) (suc i) zero y other = refl
  set_else (x ∷ xs) (suc i) (suc p) y other = set_else xs i p y other

  pub un_some : (a b : A) → Some a ≡ Some b → a ≡ b
  un_some a b e = ap (λ o. unwrap_or o a) e

module _ {I : Type 0} (at : I → ℕ) where
  pub lay_next : (slots : List (Option I)) (list rest : List I) (x : I) (p : ℕ) → list ≡ rest ++ x ∷ [] → at x < length slots → IsLaid at slots p ⊎ (0 < weigh (λ i. is p (at i)) list)
      → IsLaid at (slice_set slots (at x) (Some x)) p ⊎ (0 < weigh (λ i. is p (at i)) rest)
  lay_next slots list rest x p less inside before = ⊎_elim (λ (here : p ≡ at x). inl (x, ap (slice_get (slice_set slots (at x) (Some x))) here ∙ set_at slots (at x) (Some x) inside, sym here))
      (λ (other : is p (at x) ≡ 0). ⊎_elim (λ (l : IsLaid at slots p). inl (l.0, set_else slots (at x) p (Some x) other ∙ l.1, l.2))
      (λ (w : 0 < weigh (λ i. is p (at i)) list). inr (let e = ap (weigh (λ i. is p (at i))) less in omega (arith, weigh-append (λ i. is p (at i)) rest (x ∷ [])))) before) (is_cases p (at x))

  pub lay_end : (slots : List (Option I)) (list : List I) (p : ℕ) → length list ≡ 0 → IsLaid at slots p ⊎ (0 < weigh (λ i. is p (at i)) list) → IsLaid at slots p
  lay_end slots [] p none l = ⊎_elim (λ (h : IsLaid at slots p). h) (λ w. absurd (omega arith)) l
  lay_end slots (x ∷ list) p none l = absurd (omega arith)

  module _ {L : Type 0} (inside : L → List I) where
    pub all_next : (slots now : List (Option I)) (lists rest : List L) (k : L) (p : ℕ) → lists ≡ rest ++ k ∷ [] → IsLaid at slots p ⊎ (0 < weigh_all inside (λ i. is p (at i)) lists)
        → (IsLaid at slots p ⊎ (0 < weigh (λ i. is p (at i)) (inside k)) → IsLaid at now p) → IsLaid at now p ⊎ (0 < weigh_all inside (λ i. is p (at i)) rest)
    all_next slots now lists rest k p less before laid = ⊎_elim (λ (l : IsLaid at slots p). inl (laid (inl l)))
        (λ (w : 0 < weigh_all inside (λ i. is p (at i)) lists).
        ⊎_elim (λ (none : weigh (λ i. is p (at i)) (inside k) ≡ 0).
        inr (let e = ap (weigh_all inside (λ i. is p (at i))) less in omega (arith, weigh-append (λ l. weigh (λ i. is p (at i)) (inside l)) rest (k ∷ []))))
        (λ some. inl (laid (inr some))) (some_or_none (weigh (λ i. is p (at i)) (inside k)))) before

    pub all_end : (slots : List (Option I)) (lists : List L) (p : ℕ) → length lists ≡ 0 → IsLaid at slots p ⊎ (0 < weigh_all inside (λ i. is p (at i)) lists) → IsLaid at slots p
    all_end slots [] p none l = ⊎_elim (λ (h : IsLaid at slots p). h) (λ w. absurd (omega arith)) l
    all_end slots (x ∷ lists) p none l = absurd (omega arith)

  pub laid_here : (slots ys zs : List (Option I)) (o : Option I) → slots ≡ ys ++ o ∷ zs → IsLaid at slots (length ys) → (i : I) × (o ≡ Some i) × (at i ≡ length ys)
  laid_here slots ys zs o seam l = (l.0, un_some o (Some l.0) (sym (at_seam slots ys zs o seam) ∙ l.1), l.2)

  pub not_empty : (slots ys zs : List (Option I)) (o : Option I) → slots ≡ ys ++ o ∷ zs → IsLaid at slots (length ys) → o ≡ None → ⊥
  not_empty slots ys zs o seam l none = let h = laid_here slots ys zs o seam l in true≢false (sym (ap (λ q. is_some q) (sym none ∙ h.1)))

  pub place_here : (slots ys zs : List (Option I)) (o : Option I) (x : I) → slots ≡ ys ++ o ∷ zs → IsLaid at slots (length ys) → o ≡ Some x → at x ≡ length ys
  place_here slots ys zs o x seam l there = let h = laid_here slots ys zs o seam l in ap at (un_some x h.0 (sym there ∙ h.1)) ∙ h.2

-- each of the first n numbers is there
pub in_range : (n p : ℕ) → p < n → 0 < weigh (is p) (range_with_len 0 n)
in_range n p lt = by n p 0 (omega arith) (omega arith)
  where
    by : (m q a : ℕ) → q < a + m → a ≤ q → 0 < weigh (is q) (range_with_len a m)
    by zero q a below from = absurd (omega arith)
    by (suc m) q a below from = ⊎_elim (λ (here : q ≡ a). let e = is_self q ∙ refl in let f = ap (is q) here in omega (arith, e, f))
        (λ (other : is q a ≡ 0). let h = by m q (a + 1) (omega arith) (above q a from other) in omega arith) (is_cases q a)
      where
        above : (b c : ℕ) → c ≤ b → is b c ≡ 0 → c + 1 ≤ b
        above zero zero le o = absurd (omega (arith, o))
        above zero (suc c) le o = absurd (omega arith)
        above (suc b) zero le o = omega arith
        above (suc b) (suc c) le o = let h = above b c (omega arith) o in omega arith

pub covered : {I L : Type 0} (at : I → ℕ) (inside : L → List I) (n p : ℕ) (lists : List L) → HoldsEach at inside n lists → p < n → 0 < weigh_all inside (λ i. is p (at i)) lists
covered at inside n p lists holds lt = let h = in_range n p lt in let e = holds (is p) in omega arith

pub take_front : {A : Type 0} (n : ℕ) (xs zs : List A) → length xs ≡ n → take n (xs ++ zs) ≡ xs
take_front zero [] zs len = none zs
  where
    none : {A : Type 0} (ys : List A) → take 0 ys ≡ []
    none [] = refl
    none (y ∷ ys) = refl
take_front (suc n) [] zs len = absurd (omega arith)
take_front zero (x ∷ xs) zs len = absurd (omega arith)
take_front (suc n) (x ∷ xs) zs len = ap (λ l. x ∷ l) (take_front n xs zs (omega arith))

pub laid_kept : {I : Type 0} (at : I → ℕ) (slots zs : List (Option I)) (n p : ℕ) → length slots ≡ n → IsLaid at slots p → IsLaid at (take n (slots ++ zs)) p
laid_kept {I = I} at slots zs n p len l = subst (λ (s : List (Option I)). IsLaid at s p) (sym (take_front n slots zs len)) l

pub pick_else : (n x : ℕ) → n ≡ 0 → pick n x ≡ 0
pick_else zero x none = refl
pick_else (suc n) x none = absurd (omega arith)

pub pick_here : (p q x : ℕ) → p ≡ q → pick (is p q) x ≡ x
pick_here p q x here = ap (λ n. pick n x) (ap (is p) (sym here) ∙ is_self p)

pub below : {A : Type 0} (xs : List A) (p : ℕ) (x : A) → slice_get xs p ≡ Some x → p < length xs
below [] p x there = absurd (true≢false (sym (ap (λ q. is_some q) there)))
below (y ∷ xs) zero x there = omega arith
below (y ∷ xs) (suc p) x there = let h = below xs p x there in omega arith

-- each of the first n numbers is there once
pub in_range_once : (n p a : ℕ) → weigh (is p) (range_with_len a n) ≤ 1
in_range_once zero p a = omega arith
in_range_once (suc n) p a = ⊎_elim (λ (here : p ≡ a). let e = ap (is p) (sym here) ∙ is_self p in let h = behind n p (a + 1) (omega arith) in omega arith)
    (λ (other : is p a ≡ 0). let h = in_range_once n p (a + 1) in omega arith) (is_cases p a)
  where
    behind : (m q b : ℕ) → q < b → weigh (is q) (range_with_len b m) ≡ 0
    behind zero q b lt = refl
    behind (suc m) q b lt = ⊎_elim (λ (here : q ≡ b). absurd (omega arith)) (λ (other : is q b ≡ 0). let h = behind m q (b + 1) (omega arith) in omega arith) (is_cases q b)

pub once : {I L : Type 0} (at : I → ℕ) (inside : L → List I) (n p : ℕ) (lists : List L) → HoldsEach at inside n lists → weigh_all inside (λ i. is p (at i)) lists ≤ 1
once at inside n p lists holds = let h = in_range_once n p 0 in let e = holds (is p) in omega arith

abbrev pub StillLie : {I : Type 0} → (I → ℕ) → List (Option I) → List I → List (Option I) → List I → Type 0
StillLie {I} at old all now left = (f : I → ℕ) (p : ℕ) → LiesOnce at f old all p → LiesOnce at f now left p

abbrev pub StillLieIn : {I L : Type 0} → (I → ℕ) → (L → List I) → List (Option I) → List L → List (Option I) → List L → Type 0
StillLieIn {I} at inside old all now left = (f : I → ℕ) (p : ℕ) → LiesOnceIn at inside f old all p → LiesOnceIn at inside f now left p

module _ {I : Type 0} (at : I → ℕ) (f : I → ℕ) where
  none_picked : (p : ℕ) (xs : List I) → weigh (λ i. is p (at i)) xs ≡ 0 → weigh (λ i. pick (is p (at i)) (f i)) xs ≡ 0
  none_picked p [] none = refl
  none_picked p (x ∷ xs) none = let h = none_picked p xs (omega arith) in let e = pick_else (is p (at x)) (f x) (omega arith) in omega arith

  pub once_next : (slots : List (Option I)) (list rest : List I) (x : I) (p : ℕ) → list ≡ rest ++ x ∷ [] → at x < length slots → LiesOnce at f slots list p
      → LiesOnce at f (slice_set slots (at x) (Some x)) rest p
  once_next slots list rest x p less inside before =
      let e = ap (weigh (λ i. is p (at i))) less ∙ weigh-append (λ i. is p (at i)) rest (x ∷ []) in
      let g = ap (weigh (λ i. pick (is p (at i)) (f i))) less ∙ weigh-append (λ i. pick (is p (at i)) (f i)) rest (x ∷ []) in
      ⊎_elim
      (λ (here : p ≡ at x).
      let me = ap (is p) (sym here) ∙ is_self p in
      let mine = pick_here p (at x) (f x) here in
      ⊎_elim (λ (l : Lies at f slots p × (weigh (λ i. is p (at i)) list ≡ 0)). absurd (let z = l.1 in omega arith))
      (λ (w : (0 < weigh (λ i. pick (is p (at i)) (f i)) list) × (weigh (λ i. is p (at i)) list ≤ 1)).
      let none : weigh (λ i. is p (at i)) rest ≡ 0 = (let o = w.1 in omega arith) in
      let z = none_picked p rest none in
      inl ((x, ap (slice_get (slice_set slots (at x) (Some x))) here ∙ set_at slots (at x) (Some x) inside, sym here, (let s = w.0 in omega arith)), none)) before)
      (λ (other : is p (at x) ≡ 0).
      let mine = pick_else (is p (at x)) (f x) other in
      ⊎_elim (λ (l : Lies at f slots p × (weigh (λ i. is p (at i)) list ≡ 0)). inl ((l.0.0, set_else slots (at x) p (Some x) other ∙ l.0.1, l.0.2, l.0.3), (let z = l.1 in omega arith)))
      (λ (w : (0 < weigh (λ i. pick (is p (at i)) (f i)) list) × (weigh (λ i. is p (at i)) list ≤ 1)). inr ((let s = w.0 in omega arith), (let o = w.1 in omega arith))) before) (is_cases p (at x))

  pub once_end : (slots : List (Option I)) (list : List I) (p : ℕ) → length list ≡ 0 → LiesOnce at f slots list p → Lies at f slots p
  once_end slots [] p none before = ⊎_elim (λ (l : Lies at f slots p × (weigh (λ i. is p (at i)) [] ≡ 0)). l.0) (λ w. absurd (let s = w.0 in omega arith)) before
  once_end slots (x ∷ list) p none before = absurd (omega arith)

  module _ {L : Type 0} (inside : L → List I) where
    none_picked_in : (p : ℕ) (lists : List L) → weigh_all inside (λ i. is p (at i)) lists ≡ 0 → weigh_all inside (λ i. pick (is p (at i)) (f i)) lists ≡ 0
    none_picked_in p [] none = refl
    none_picked_in p (k ∷ lists) none = let h = none_picked_in p lists (omega arith) in let g = none_picked p (inside k) (omega arith) in omega arith

    pub once_all_next : (slots now : List (Option I)) (lists rest : List L) (k : L) (p : ℕ) → lists ≡ rest ++ k ∷ [] → LiesOnceIn at inside f slots lists p
        → (LiesOnce at f slots (inside k) p → Lies at f now p) → LiesOnceIn at inside f now rest p
    once_all_next slots now lists rest k p less before lays =
        let e = ap (weigh_all inside (λ i. is p (at i))) less ∙ weigh-append (λ l. weigh (λ i. is p (at i)) (inside l)) rest (k ∷ []) in
        let g = ap (weigh_all inside (λ i. pick (is p (at i)) (f i))) less ∙ weigh-append (λ l. weigh (λ i. pick (is p (at i)) (f i)) (inside l)) rest (k ∷ []) in
        ⊎_elim
        (λ (l : Lies at f slots p × (weigh_all inside (λ i. is p (at i)) lists ≡ 0)). inl (lays (inl (l.0, (let z = l.1 in omega arith))), (let z = l.1 in omega arith)))
        (λ (w : (0 < weigh_all inside (λ i. pick (is p (at i)) (f i)) lists) × (weigh_all inside (λ i. is p (at i)) lists ≤ 1)).
        ⊎_elim
        (λ (none : weigh (λ i. is p (at i)) (inside k) ≡ 0). let z = none_picked p (inside k) none in inr ((let s = w.0 in omega arith), (let o = w.1 in omega arith)))
        (λ (some : 0 < weigh (λ i. is p (at i)) (inside k)).
        let none : weigh_all inside (λ i. is p (at i)) rest ≡ 0 = (let o = w.1 in omega arith) in
        let z = none_picked_in p rest none in
        inl (lays (inr ((let s = w.0 in omega arith), (let o = w.1 in omega arith))), none)) (some_or_none (weigh (λ i. is p (at i)) (inside k)))) before

    pub once_all_end : (slots : List (Option I)) (lists : List L) (p : ℕ) → length lists ≡ 0 → LiesOnceIn at inside f slots lists p → Lies at f slots p
    once_all_end slots [] p none before = ⊎_elim (λ (l : Lies at f slots p × (weigh_all inside (λ i. is p (at i)) [] ≡ 0)). l.0) (λ w. absurd (let s = w.0 in omega arith)) before
    once_all_end slots (x ∷ lists) p none before = absurd (omega arith)
