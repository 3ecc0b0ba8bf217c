-- Jobs at rest: which have ended, and which are short.
use Rattle.std.proofs.Common.{◌≡◌, ◌⊎◌, ℕ, zero, suc, ◌<◌, Bool, true, false, not, ◌||◌, List, [], ◌∷◌, ◌++◌, length, Option, Some, inl, inr, true≢false, sym, refl, ap, ◌∙◌, subst, arith, ⊎_elim}
use Rattle.cell_pool.specs.Rule.{weigh, weigh_all, is, one, pick, HoldsEach, MayRest, InTurn, any_short, Rests, Flagged, Settled, LaysSameIn, Told}
use Rattle.cell_pool.proofs.Rules.{weigh-append}
use Rattle.cell_pool.proofs.Laying.{covered, un_some, below, pick_here, pick_else, is_cases, is_self, once}

or_right : (a b : Bool) → b ≡ true → (a || b) ≡ true
or_right true b t = refl
or_right false b t = t

true_or_false : (b : Bool) → (b ≡ true) ⊎ (b ≡ false)
true_or_false true = inl refl
true_or_false false = inr refl

module _ {I : Type 0} (ended short : I → Bool) where
  in_turn_more : (stopped : Bool) (xs : List I) (x : I) → InTurn ended short stopped xs → MayRest (any_short short stopped xs) (ended x) (short x) → InTurn ended short stopped (xs ++ x ∷ [])
  in_turn_more stopped [] x h m = (m, tt)
  in_turn_more stopped (y ∷ xs) x h m = (h.0, in_turn_more (stopped || short y) xs x h.1 m)

  any_short_more : (stopped : Bool) (xs : List I) (x : I) → any_short short stopped (xs ++ x ∷ []) ≡ (any_short short stopped xs || short x)
  any_short_more stopped [] x = refl
  any_short_more stopped (y ∷ xs) x = any_short_more (stopped || short y) xs x

  -- one more comes to rest
  pub rests_more : (before after now : Bool) (xs ys : List I) (x : I) → ys ≡ xs ++ x ∷ [] → Rests ended short before after xs → MayRest after (ended x) (short x) → now ≡ (after || short x) → Rests ended short before now ys
  rests_more before after now xs ys x is h m n =
      let turn = in_turn_more before xs x h.0 (subst (λ (b : Bool). MayRest b (ended x) (short x)) (sym h.1) m) in
      let any = any_short_more before xs x in
      (subst (InTurn ended short before) (sym is) turn, ap (any_short short before) is ∙ any ∙ ap (λ (b : Bool). b || short x) h.1 ∙ sym n)

  pub rests_none : (xs : List I) → xs ≡ [] → Rests ended short false false xs
  rests_none xs none = subst (Rests ended short false false) (sym none) (tt, refl)

  short_stays : (xs : List I) → any_short short true xs ≡ true
  short_stays [] = refl
  short_stays (x ∷ xs) = short_stays xs

  some_short : (xs : List I) → any_short short false xs ≡ true → 0 < weigh (λ i. one (short i)) xs
  some_short [] any = absurd (true≢false (sym any))
  some_short (x ∷ xs) any = by (short x) (some_short xs) refl any
    where
      by : (b : Bool) → (any_short short false xs ≡ true → 0 < weigh (λ i. one (short i)) xs) → short x ≡ b → any_short short b xs ≡ true → 0 < weigh (λ i. one (short i)) (x ∷ xs)
      by true more so a = let e = ap one so in omega arith
      by false more so a = let h = more a in omega arith

  all_ended : (xs : List I) → InTurn ended short false xs → any_short short false xs ≡ false → weigh (λ i. one (not (ended i))) xs ≡ 0
  all_ended [] turn any = refl
  all_ended (x ∷ xs) turn any = by (short x) (all_ended xs) refl any turn.1
    where
      by : (b : Bool) → (InTurn ended short false xs → any_short short false xs ≡ false → weigh (λ i. one (not (ended i))) xs ≡ 0) → short x ≡ b → any_short short b xs ≡ false → InTurn ended short b xs → weigh (λ i. one (not (ended i))) (x ∷ xs) ≡ 0
      by true more so a t = absurd (true≢false (sym (short_stays xs) ∙ a))
      by false more so a t =
          let h = more t a in
          let mine : ended x ≡ true = ⊎_elim (λ (e : ended x ≡ true). e) (λ (s : short x ≡ true). absurd (true≢false (sym s ∙ so))) turn.0 in
          let e = ap (λ (c : Bool). one (not c)) mine in
          omega arith

  module _ {L : Type 0} (inside : L → List I) where
    flagged_some : (lists : List L) (k : L) (now : List L) (b : Bool) → now ≡ lists ++ k ∷ [] → 0 < weigh_all inside (λ i. one (short i)) lists → Flagged inside ended short true now
    flagged_some lists k now b is h = let e = ap (weigh_all inside (λ i. one (short i))) is in omega (arith, weigh-append (λ l. weigh (λ i. one (short i)) (inside l)) lists (k ∷ []))

    -- what one more list says
    pub flagged_more : (a b c : Bool) (lists now : List L) (k : L) → now ≡ lists ++ k ∷ [] → Flagged inside ended short a lists → Rests ended short false b (inside k) → c ≡ (a || b) → Flagged inside ended short c now
    flagged_more true b c lists now k is h r n = subst (λ (f : Bool). Flagged inside ended short f now) (sym n) (flagged_some lists k now b is h)
    flagged_more false true c lists now k is h r n =
        let e = ap (weigh_all inside (λ i. one (short i))) is in
        let s = some_short (inside k) r.1 in
        let f : Flagged inside ended short true now = omega (arith, weigh-append (λ l. weigh (λ i. one (short i)) (inside l)) lists (k ∷ [])) in
        subst (λ (f : Bool). Flagged inside ended short f now) (sym n) f
    flagged_more false false c lists now k is h r n =
        let e = ap (weigh_all inside (λ i. one (not (ended i)))) is in
        let s = all_ended (inside k) r.0 r.1 in
        let f : Flagged inside ended short false now = omega (arith, weigh-append (λ l. weigh (λ i. one (not (ended i))) (inside l)) lists (k ∷ [])) in
        subst (λ (f : Bool). Flagged inside ended short f now) (sym n) f

    -- what was left says
    pub settles : (before after : Bool) (lists now : List L) (k : L) → now ≡ lists ++ k ∷ [] → Flagged inside ended short before lists → Rests ended short before after (inside k) → Settled inside ended short now
    settles true after lists now k is h r = inr (flagged_some lists k now after is h)
    settles false true lists now k is h r = inr (flagged_more false true true lists now k is h r refl)
    settles false false lists now k is h r = inl (flagged_more false false false lists now k is h r refl)

    pub flagged_first : (lists : List L) → lists ≡ [] → Flagged inside ended short false lists
    flagged_first lists none = ap (weigh_all inside (λ i. one (not (ended i)))) none

module _ {I : Type 0} (at : I → ℕ) where
  -- where all have ended, those of a place are those of it that have
  ended_here : (ended : I → Bool) (p : ℕ) (xs : List I) → weigh (λ i. one (not (ended i))) xs ≡ 0 → weigh (λ i. is p (at i)) xs ≡ weigh (λ i. pick (is p (at i)) (one (ended i))) xs
  ended_here ended p [] none = refl
  ended_here ended p (x ∷ xs) none = by (ended x) (ended_here ended p xs) refl
    where
      by : (b : Bool) → (weigh (λ i. one (not (ended i))) xs ≡ 0 → weigh (λ i. is p (at i)) xs ≡ weigh (λ i. pick (is p (at i)) (one (ended i))) xs) → ended x ≡ b → weigh (λ i. is p (at i)) (x ∷ xs) ≡ weigh (λ i. pick (is p (at i)) (one (ended i))) (x ∷ xs)
      by false more e = absurd (let o = ap (λ (c : Bool). one (not c)) e in omega arith)
      by true more e =
          let h = more (let o = ap (λ (c : Bool). one (not c)) e in omega arith) in
          let o = ap one e in
          ⊎_elim (λ (here : p ≡ at x). let i = pick_here p (at x) (one (ended x)) here in let me = ap (is p) (sym here) ∙ is_self p in omega arith)
          (λ (other : is p (at x) ≡ 0). let i = pick_else (is p (at x)) (one (ended x)) other in omega arith) (is_cases p (at x))

  -- one that weighs something has a place
  a_place : (f : I → ℕ) (xs : List I) → 0 < weigh f xs → (p : ℕ) × (0 < weigh (λ i. pick (is p (at i)) (f i)) xs)
  a_place f [] some = absurd (omega arith)
  a_place f (x ∷ xs) some = by (f x) (a_place f xs) refl
    where
      by : (n : ℕ) → (0 < weigh f xs → (p : ℕ) × (0 < weigh (λ i. pick (is p (at i)) (f i)) xs)) → f x ≡ n → (p : ℕ) × (0 < weigh (λ i. pick (is p (at i)) (f i)) (x ∷ xs))
      by zero more e = let h = more (omega arith) in (h.0, (let k = h.1 in omega arith))
      by (suc n) more e = (at x, (let i = pick_here (at x) (at x) (f x) refl in omega arith))

  module _ {L : Type 0} (inside : L → List I) where
    all_ended_here : (ended : I → Bool) (p : ℕ) (lists : List L) → weigh_all inside (λ i. one (not (ended i))) lists ≡ 0
        → weigh_all inside (λ i. is p (at i)) lists ≡ weigh_all inside (λ i. pick (is p (at i)) (one (ended i))) lists
    all_ended_here ended p [] none = refl
    all_ended_here ended p (k ∷ lists) none =
        let h = all_ended_here ended p lists (omega arith) in
        let g = ended_here ended p (inside k) (omega arith) in
        omega arith

    a_place_in : (f : I → ℕ) (lists : List L) → 0 < weigh_all inside f lists → (p : ℕ) × (0 < weigh_all inside (λ i. pick (is p (at i)) (f i)) lists)
    a_place_in f [] some = absurd (omega arith)
    a_place_in f (k ∷ lists) some = by (weigh f (inside k)) (a_place_in f lists) refl
      where
        by : (n : ℕ) → (0 < weigh_all inside f lists → (p : ℕ) × (0 < weigh_all inside (λ i. pick (is p (at i)) (f i)) lists)) → weigh f (inside k) ≡ n → (p : ℕ) × (0 < weigh_all inside (λ i. pick (is p (at i)) (f i)) (k ∷ lists))
        by zero more e = let h = more (omega arith) in (h.0, (let g = h.1 in omega arith))
        by (suc n) more e = let h = a_place f (inside k) (omega arith) in (h.0, (let g = h.1 in omega arith))

    one_true : (b : Bool) → 0 < one b → b ≡ true
    one_true true lt = refl
    one_true false lt = absurd (omega arith)

    -- what lies in the places tells what the lists told
    pub told : (ended short : I → Bool) (n : ℕ) (lists : List L) (old new : List (Option I)) → length new ≡ n → HoldsEach at inside n lists → Settled inside ended short lists → LaysSameIn at inside old lists new
        → Told ended short new
    told ended short n lists old new len holds settled lays = ⊎_elim
        (λ (all : weigh_all inside (λ i. one (not (ended i))) lists ≡ 0). inl (λ p item there.
        let some = covered at inside n p lists holds (let lt = below new p (Some item) there in omega arith) in
        let l = lays (λ i. one (ended i)) p (inr ((let e = all_ended_here ended p lists all in omega arith), once at inside n p lists holds)) in
        let same = un_some item l.0 (un_some (Some item) (Some l.0) (sym there ∙ l.1)) in
        ap ended same ∙ one_true (ended l.0) l.3))
        (λ (some : 0 < weigh_all inside (λ i. one (short i)) lists).
        let q = a_place_in (λ i. one (short i)) lists some in
        let l = lays (λ i. one (short i)) q.0 (inr (q.1, once at inside n q.0 lists holds)) in
        inr (q.0, l.0, l.1, one_true (short l.0) l.3)) settled
