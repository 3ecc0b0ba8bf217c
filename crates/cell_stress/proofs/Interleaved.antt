-- Bodies that interleave phases have as many events of each kind.
use Rattle.std.proofs.Common.{◌≡◌, ◌≢◌, ◌==◌, ℕ, ◌+◌, Bool, true, false, if◌then◌else◌, cond, List, [], ◌∷◌, ◌++◌, length, refl, sym, ap, subst, ◌∙◌, arith, ne_eqb}
use Rattle.std.specs.List.{count_by, flat_map}
use Rattle.std.proofs.lemmas.Bool.{eqb-true, eq-eqb}
use Rattle.std.proofs.lemmas.List.Sums.{sum_by-append, sum_by-cons}
use Rattle.mms_types.specs.Actors.{actor_of, clients_to}
use Rattle.mms_types.specs.declared.event.CellEvent.{CellEvent}
use Rattle.mms_types.specs.declared.event.CellEvent.TheVariants.{Drain}
use Rattle.cell_record.specs.History.{Interleaves, IsBodyOf, drains, events_of, history}

pub as_many : (bodies phases : List (List CellEvent)) → Interleaves bodies phases → length bodies ≡ length phases
as_many [] [] h = refl
as_many [] (p ∷ phases) h = absurd h
as_many (b ∷ bodies) [] h = absurd h
as_many (b ∷ bodies) (p ∷ phases) h = let rest = as_many bodies phases h.1 in omega (arith, rest)

module _ (is : CellEvent → Bool) where
  counted : (x : CellEvent) (xs : List CellEvent) → count_by is (x ∷ xs) ≡ cond (is x) 1 0 + count_by is xs
  counted x xs = sum_by-cons (λ e. cond (is e) 1 0) x xs

  -- events without an actor's first one
  record Without (a : ℕ) (xs : List CellEvent) (e : CellEvent) (rest : List CellEvent) : Type 0 where
    left : List CellEvent
    count : count_by is xs ≡ cond (is e) 1 0 + count_by is left
    own : events_of a left ≡ rest
    others : (b : ℕ) → b ≢ a → events_of b left ≡ events_of b xs

  without_one : (a : ℕ) (x : CellEvent) (xs : List CellEvent) (e : CellEvent) (rest : List CellEvent) (t : Bool) → (actor_of x == a) ≡ t → (if t then x ∷ events_of a xs else events_of a xs) ≡ e ∷ rest
      → (events_of a xs ≡ e ∷ rest → Without a xs e rest) → Without a (x ∷ xs) e rest
  without_one a x xs e rest true mine k more =
      let first : x ≡ e = cc k in
      record {
        left = xs;
        count = counted x xs ∙ ap (λ y. cond (is y) 1 0 + count_by is xs) first;
        own = cc k;
        others = λ b other. sym (ap (λ t. if t then x ∷ events_of b xs else events_of b xs) (ne_eqb (actor_of x) b (λ same. other (sym same ∙ eqb-true (actor_of x) a mine))));
      }
  without_one a x xs e rest false mine k more =
      let w = more k in
      let n = counted x w.left in
      let m = counted x xs in
      let c = w.count in
      record {
        left = x ∷ w.left;
        count = omega (arith, n, m, c);
        own = ap (λ t. if t then x ∷ events_of a w.left else events_of a w.left) mine ∙ w.own;
        others = λ b other. ap (λ l. if actor_of x == b then x ∷ l else l) (w.others b other);
      }

  without : (a : ℕ) (xs : List CellEvent) (e : CellEvent) (rest : List CellEvent) → events_of a xs ≡ e ∷ rest → Without a xs e rest
  without a [] e rest h = absurd (cc h)
  without a (x ∷ xs) e rest h = without_one a x xs e rest (actor_of x == a) refl h (λ k. without a xs e rest k)

  -- each actor's events are those of the phase, so there are as many
  body_counts : (phase body : List CellEvent) → IsBodyOf body phase → count_by is body ≡ count_by is phase
  body_counts [] [] h = refl
  body_counts [] (x ∷ xs) h =
      let own = h.each (actor_of x) in
      absurd (let mine : x ∷ events_of (actor_of x) xs ≡ [] = sym (ap (λ t. if t then x ∷ events_of (actor_of x) xs else events_of (actor_of x) xs) (eq-eqb (actor_of x) (actor_of x) refl)) ∙ own in cc mine)
  body_counts (e ∷ phase) body h =
      let a = actor_of e in
      let mine : events_of a (e ∷ phase) ≡ e ∷ events_of a phase = ap (λ t. if t then e ∷ events_of a phase else events_of a phase) (eq-eqb a a refl) in
      let w = without a body e (events_of a phase) (h.each a ∙ mine) in
      let rest = body_counts phase w.left (record { each = λ b. each b (b == a) refl w }) in
      let c = w.count in
      let n = counted e phase in
      omega (arith, rest, c, n)
    where
      each : (b : ℕ) (t : Bool) → (b == actor_of e) ≡ t → (w : Without (actor_of e) body e (events_of (actor_of e) phase)) → events_of b w.left ≡ events_of b phase
      each b true same w = let is_it = eqb-true b (actor_of e) same in subst (λ c. events_of c w.left ≡ events_of c phase) (sym is_it) w.own
      each b false same w =
          let other : b ≢ actor_of e = λ eq. absurd (let yes = eq-eqb b (actor_of e) eq in let both : true ≡ false = sym yes ∙ same in cc both) in
          w.others b other ∙ h.each b ∙ ap (λ t. if t then e ∷ events_of b phase else events_of b phase) (ne_eqb (actor_of e) b (λ eq. other (sym eq)))

  none_drained : ((c : ℕ) → is (Drain c) ≡ false) → (cs : List ℕ) → count_by is (drains cs) ≡ 0
  none_drained none [] = refl
  none_drained none (c ∷ cs) = let more = rw (none c) at (counted (Drain c) (drains cs)) in let rest = none_drained none cs in omega (arith, more, rest)

  -- and where drains don't count, as many in the whole history
  pub history_counts : ((c : ℕ) → is (Drain c) ≡ false) → (n : ℕ) (bodies phases : List (List CellEvent)) → Interleaves bodies phases → count_by is (history n bodies) ≡ count_by is (flat_map (λ phase. phase) phases)
  history_counts none n [] [] h = refl
  history_counts none n [] (p ∷ phases) h = absurd h
  history_counts none n (b ∷ bodies) [] h = absurd h
  history_counts none n (b ∷ bodies) (p ∷ phases) h =
      let rest = history_counts none n bodies phases h.1 in
      let same = body_counts p b h.0 in
      let one = sum_by-append (λ e. cond (is e) 1 0) (b ++ drains (clients_to n)) (history n bodies) in
      let two = sum_by-append (λ e. cond (is e) 1 0) b (drains (clients_to n)) in
      let three = sum_by-append (λ e. cond (is e) 1 0) p (flat_map (λ phase. phase) phases) in
      let no = none_drained none (clients_to n) in
      omega (arith, rest, same, one, two, three, no)
