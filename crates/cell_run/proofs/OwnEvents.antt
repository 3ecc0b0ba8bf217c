-- The events of each caller, with their places.
use Rattle.std.proofs.Common.{◌≡◌, ◌++◌, ◌+◌, ◌-◌, ◌==◌, ◌<◌, ◌⊎◌, ℕ, zero, suc, Bool, true, false, if◌then◌else◌, List, [], ◌∷◌, refl, ap, ap₂, sym, ◌∙◌, subst, map, flat_map, length, arith, Option, Some, slice_get, inl, inr, eq-eqb, slice_set, true≢false}
use Rattle.std.proofs.lemmas.Bool.{eqb-true}
use Rattle.std.proofs.lemmas.List.{append_cancel_left}
use Rattle.part_table.specs.History.{events_of, places_from, places_of}
use Rattle.cell_run.specs.Laying.{Has, placed_of, Stands, IsLaid, filled}

module _ {E : Type 0} where
  pub events_append : (caller : ℕ) (xs ys : List (ℕ × E)) → events_of caller (xs ++ ys) ≡ events_of caller xs ++ events_of caller ys
  events_append caller [] ys = refl
  events_append caller (x ∷ xs) ys = by (x.0 == caller) (events_append caller xs ys)
    where
      by : (b : Bool) → events_of caller (xs ++ ys) ≡ events_of caller xs ++ events_of caller ys
          → (if b then x.1 ∷ events_of caller (xs ++ ys) else events_of caller (xs ++ ys)) ≡ (if b then x.1 ∷ events_of caller xs else events_of caller xs) ++ events_of caller ys
      by true r = ap (λ (l : List E). x.1 ∷ l) r
      by false r = r

  places_append : (at caller : ℕ) (xs ys : List (ℕ × E)) → places_from at caller (xs ++ ys) ≡ places_from at caller xs ++ places_from (at + length xs) caller ys
  places_append at caller [] ys = let e : at ≡ at + 0 = omega arith in ap (λ n. places_from n caller ys) e
  places_append at caller (x ∷ xs) ys =
      let next : at + 1 + length xs ≡ at + length (x ∷ xs) = omega arith in
      by (x.0 == caller) (places_append (at + 1) caller xs ys ∙ ap (λ n. places_from (at + 1) caller xs ++ places_from n caller ys) next)
    where
      by : (b : Bool) → places_from (at + 1) caller (xs ++ ys) ≡ places_from (at + 1) caller xs ++ places_from (at + length (x ∷ xs)) caller ys
          → (if b then at ∷ places_from (at + 1) caller (xs ++ ys) else places_from (at + 1) caller (xs ++ ys))
          ≡ (if b then at ∷ places_from (at + 1) caller xs else places_from (at + 1) caller xs) ++ places_from (at + length (x ∷ xs)) caller ys
      by true r = ap (λ (l : List ℕ). at ∷ l) r
      by false r = r

  placed_places : (at caller : ℕ) (h : List (ℕ × E)) → map (λ (p : ℕ × E). p.0) (placed_of at caller h) ≡ places_from at caller h
  placed_places at caller [] = refl
  placed_places at caller (x ∷ h) = by (x.0 == caller) (placed_places (at + 1) caller h)
    where
      by : (b : Bool) → map (λ (p : ℕ × E). p.0) (placed_of (at + 1) caller h) ≡ places_from (at + 1) caller h
          → map (λ (p : ℕ × E). p.0) (if b then (at, x.1) ∷ placed_of (at + 1) caller h else placed_of (at + 1) caller h)
          ≡ (if b then at ∷ places_from (at + 1) caller h else places_from (at + 1) caller h)
      by true r = ap (λ (l : List ℕ). at ∷ l) r
      by false r = r

  pub placed_events : (at caller : ℕ) (h : List (ℕ × E)) → map (λ (p : ℕ × E). p.1) (placed_of at caller h) ≡ events_of caller h
  placed_events at caller [] = refl
  placed_events at caller (x ∷ h) = by (x.0 == caller) (placed_events (at + 1) caller h)
    where
      by : (b : Bool) → map (λ (p : ℕ × E). p.1) (placed_of (at + 1) caller h) ≡ events_of caller h
          → map (λ (p : ℕ × E). p.1) (if b then (at, x.1) ∷ placed_of (at + 1) caller h else placed_of (at + 1) caller h)
          ≡ (if b then x.1 ∷ events_of caller h else events_of caller h)
      by true r = ap (λ (l : List E). x.1 ∷ l) r
      by false r = r

  -- pairs are told by their two sides
  pairs_are : (xs ys : List (ℕ × E)) → map (λ (p : ℕ × E). p.0) xs ≡ map (λ (p : ℕ × E). p.0) ys → map (λ (p : ℕ × E). p.1) xs ≡ map (λ (p : ℕ × E). p.1) ys → xs ≡ ys
  pairs_are [] [] e f = refl
  pairs_are [] (y ∷ ys) e f = cc
  pairs_are (x ∷ xs) [] e f = cc
  pairs_are (x ∷ xs) (y ∷ ys) e f =
      let a : x.0 ≡ y.0 = cc e in
      let b : x.1 ≡ y.1 = cc f in
      let front : map (λ (p : ℕ × E). p.0) xs ≡ map (λ (p : ℕ × E). p.0) ys = cc e in
      let behind : map (λ (p : ℕ × E). p.1) xs ≡ map (λ (p : ℕ × E). p.1) ys = cc f in
      ap₂ (λ (p : ℕ × E) (l : List (ℕ × E)). p ∷ l) (ap₂ (λ n (e : E). (n, e)) a b) (pairs_are xs ys front behind)

  -- what a caller has made beyond what was known, of a history that goes beyond it
  pub made_since : (at caller : ℕ) (known rest : List (ℕ × E)) (new : List (ℕ × E))
      → places_of caller (known ++ rest) ≡ places_of caller known ++ map (λ (p : ℕ × E). p.0) new
      → events_of caller (known ++ rest) ≡ events_of caller known ++ map (λ (p : ℕ × E). p.1) new
      → at ≡ 1 + length known → new ≡ placed_of at caller rest
  made_since at caller known rest new places events is =
      let p = append_cancel_left _ _ _ (sym (places_append 1 caller known rest) ∙ places) in
      let e = append_cancel_left _ _ _ (sym (events_append caller known rest) ∙ events) in
      pairs_are new (placed_of at caller rest)
      (sym p ∙ ap (λ n. places_from n caller rest) (sym is) ∙ sym (placed_places at caller rest))
      (sym e ∙ sym (placed_events at caller rest))

  -- each event of a body is among those of its caller
  pub placed_there : (at caller : ℕ) (body : List (ℕ × E)) (index : ℕ) (event : E) → slice_get body index ≡ Some (caller, event) → Has (placed_of at caller body) (at + index, event)
  placed_there at caller [] index event is = cc
  placed_there at caller (x ∷ body) zero event is =
      let same : x ≡ (caller, event) = cc is in
      let here : at ≡ at + 0 = omega arith in
      subst (λ (b : Bool). Has (if b then (at, x.1) ∷ placed_of (at + 1) caller body else placed_of (at + 1) caller body) (at + 0, event))
      (sym (eq-eqb x.0 caller (ap (λ (p : ℕ × E). p.0) same))) (inl (ap₂ (λ n (e : E). (n, e)) here (ap (λ (p : ℕ × E). p.1) same)))
  placed_there at caller (x ∷ body) (suc index) event is =
      let next : at + 1 + index ≡ at + suc index = omega arith in
      by (x.0 == caller) (subst (λ n. Has (placed_of (at + 1) caller body) (n, event)) next (placed_there (at + 1) caller body index event is))
    where
      by : (b : Bool) → Has (placed_of (at + 1) caller body) (at + suc index, event)
          → Has (if b then (at, x.1) ∷ placed_of (at + 1) caller body else placed_of (at + 1) caller body) (at + suc index, event)
      by true h = inr h
      by false h = h

  -- and each of those stands in the body
  pub placed_stands : (at caller : ℕ) (body : List (ℕ × E)) (q : ℕ × E) → Has (placed_of at caller body) q → Stands at (map (λ (p : ℕ × E). p.1) body) q
  placed_stands at caller [] q h = absurd h
  placed_stands at caller (x ∷ body) q h = by (x.0 == caller) (placed_stands (at + 1) caller body q) h
    where
      further : Stands (at + 1) (map (λ (p : ℕ × E). p.1) body) q → Stands at (x.1 ∷ map (λ (p : ℕ × E). p.1) body) q
      further r =
          let next : q.0 - at ≡ suc (q.0 - (at + 1)) = (let le = r.0 in omega arith) in
          ((let le = r.0 in omega arith), ap (slice_get (x.1 ∷ map (λ (p : ℕ × E). p.1) body)) next ∙ r.1)

      by : (b : Bool) → (Has (placed_of (at + 1) caller body) q → Stands (at + 1) (map (λ (p : ℕ × E). p.1) body) q)
          → Has (if b then (at, x.1) ∷ placed_of (at + 1) caller body else placed_of (at + 1) caller body) q → Stands at (x.1 ∷ map (λ (p : ℕ × E). p.1) body) q
      by true r (inl e) =
          let place : q.0 ≡ at = ap (λ (p : ℕ × E). p.0) (sym e) in
          let none : q.0 - at ≡ 0 = omega arith in
          (omega arith, ap (slice_get (x.1 ∷ map (λ (p : ℕ × E). p.1) body)) none ∙ ap (λ (p : ℕ × E). Some p.1) e)
      by true r (inr h) = further (r h)
      by false r h = further (r h)

module _ {X : Type 0} where
  pub has_left : (xs ys : List X) (x : X) → Has xs x → Has (xs ++ ys) x
  has_left [] ys x h = absurd h
  has_left (y ∷ xs) ys x (inl e) = inl e
  has_left (y ∷ xs) ys x (inr h) = inr (has_left xs ys x h)

  pub has_right : (xs ys : List X) (x : X) → Has ys x → Has (xs ++ ys) x
  has_right [] ys x h = h
  has_right (y ∷ xs) ys x h = inr (has_right xs ys x h)

  pub has_cases : (xs ys : List X) (x : X) → Has (xs ++ ys) x → Has xs x ⊎ Has ys x
  has_cases [] ys x h = inr h
  has_cases (y ∷ xs) ys x (inl e) = inl (inl e)
  has_cases (y ∷ xs) ys x (inr h) = elim (has_cases xs ys x h) [ inl k ↦ inl (inr k) | inr k ↦ inr k ]

module _ {J X : Type 0} (f : J → List X) where
  pub has_flat : (jobs : List J) (i : ℕ) (job : J) (x : X) → slice_get jobs i ≡ Some job → Has (f job) x → Has (flat_map f jobs) x
  has_flat [] i job x is h = cc
  has_flat (j ∷ jobs) zero job x is h = let same : j ≡ job = cc is in has_left (f j) (flat_map f jobs) x (subst (λ k. Has (f k) x) (sym same) h)
  has_flat (j ∷ jobs) (suc i) job x is h = has_right (f j) (flat_map f jobs) x (has_flat jobs i job x is h)

-- ---- laying

module _ {A : Type 0} where
  pub set_at : (xs : List A) (i : ℕ) (y : A) → i < length xs → slice_get (slice_set xs i y) i ≡ Some y
  set_at [] i y lt = absurd (omega arith)
  set_at (x ∷ xs) zero y lt = refl
  set_at (x ∷ xs) (suc i) y lt = set_at xs i y (omega arith)

  pub set_else : (xs : List A) (i p : ℕ) (y : A) → ¬ (i ≡ p) → slice_get (slice_set xs i y) p ≡ slice_get xs p
  set_else [] i p y other = refl
  set_else (x ∷ xs) zero zero y other = absurd (other refl)
  set_else (x ∷ xs) zero (suc p) y other = refl
  set_else (x ∷ xs) (suc i) zero y other = refl
  set_else (x ∷ xs) (suc i) (suc p) y other = set_else xs i p y (λ e. other (ap suc e))

module _ {E : Type 0} where
  -- all are laid: what is there are the events
  pub all_filled : (slots : List (Option E)) (events : List E) → length slots ≡ length events → ((index : ℕ) → IsLaid slots events index) → filled slots ≡ events
  all_filled [] [] size laid = refl
  all_filled [] (e ∷ events) size laid = absurd (omega arith)
  all_filled (s ∷ slots) [] size laid = absurd (omega arith)
  all_filled (s ∷ slots) (e ∷ events) size laid =
      let here : s ≡ Some e = cc (laid 0 e refl) in
      let rest = all_filled slots events (omega arith) (λ index event is. laid (suc index) event is) in
      subst (λ (o : Option E). filled (o ∷ slots) ≡ e ∷ events) (sym here) (ap (λ (l : List E). e ∷ l) rest)

  -- one more is laid, the last of those that were left
  pub lay_one : (first : ℕ) (slots now : List (Option E)) (events : List E) (items : List (ℕ × E)) (x : ℕ × E) (index : ℕ)
      → now ≡ slice_set slots (x.0 - first) (Some x.1) → x.0 - first < length slots → Stands first events x
      → IsLaid slots events index ⊎ ((event : E) → slice_get events index ≡ Some event → Has (items ++ x ∷ []) (first + index, event))
      → IsLaid now events index ⊎ ((event : E) → slice_get events index ≡ Some event → Has items (first + index, event))
  lay_one first slots now events items x index is within stands before = by_place (x.0 - first == index) refl
    where
      here : x.0 - first ≡ index → IsLaid now events index
      here at event there =
          let same : x.1 ≡ event = cc (sym stands.1 ∙ ap (slice_get events) at ∙ there) in
          ap (λ (l : List (Option E)). slice_get l index) is ∙ ap (λ n. slice_get (slice_set slots n (Some x.1)) index) at
          ∙ set_at slots index (Some x.1) (subst (λ n. n < length slots) at within) ∙ ap (λ e. Some (Some e)) same

      else_laid : ¬ (x.0 - first ≡ index) → IsLaid slots events index → IsLaid now events index
      else_laid ne laid event there = ap (λ (l : List (Option E)). slice_get l index) is ∙ set_else slots (x.0 - first) index (Some x.1) ne ∙ laid event there

      still : ¬ (x.0 - first ≡ index) → (event : E) → Has (items ++ x ∷ []) (first + index, event) → Has items (first + index, event)
      still ne event h = elim (has_cases items (x ∷ []) (first + index, event) h) [
        | inl k ↦ k
        | inr k ↦ elim k [
          | inl e ↦ (let at : x.0 ≡ first + index = ap (λ (p : ℕ × E). p.0) e in absurd (ne (omega arith)))
          | inr z ↦ absurd z
        ]
      ]

      by_place : (b : Bool) → (x.0 - first == index) ≡ b → IsLaid now events index ⊎ ((event : E) → slice_get events index ≡ Some event → Has items (first + index, event))
      by_place true e = inl (here (eqb-true _ _ e))
      by_place false e = elim before [ inl laid ↦ inl (else_laid (λ same. absurd (true≢false (sym (eq-eqb _ _ same) ∙ e))) laid) | inr left ↦ inr (λ event there. still (λ same. absurd (true≢false (sym (eq-eqb _ _ same) ∙ e))) event (left event there)) ]
