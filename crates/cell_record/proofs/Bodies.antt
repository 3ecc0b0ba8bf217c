-- The bodies of a served phase: as many events as were recorded, and each of them recorded.
use Rattle.std.proofs.Common.{◌≡◌, ℕ, suc, ◌<◌, ◌==◌, Bool, true, false, if◌then◌else◌, List, [], ◌∷◌, length, drop, refl, sym, ap, ◌∙◌, subst, arith}
use Rattle.std.proofs.lemmas.Bool.Decides.{nat_tests}
use Rattle.mms_types.specs.declared.event.CellEvent.{CellEvent}
use Rattle.mms_types.specs.Actors.{actor_of}
use Rattle.cell_record.specs.History.{events_of, IsBodyOf}

-- ---- the actors' events tell how many events there are

-- all but the first event of an actor
abbrev without : ℕ → List CellEvent → List CellEvent
without a [] = []
without a (e ∷ es) = if actor_of e == a then es else e ∷ without a es

eq_self : (n : ℕ) → (n == n) ≡ true
eq_self n = grind (arith, nat_tests)

own : (e : CellEvent) (es : List CellEvent) → events_of (actor_of e) (e ∷ es) ≡ e ∷ events_of (actor_of e) es
own e es = rw (eq_self (actor_of e)) refl

-- those of the actor itself
without_own : (a : ℕ) (es : List CellEvent) → events_of a (without a es) ≡ drop 1 (events_of a es)
without_own a [] = refl
without_own a (e ∷ es) = by_test (actor_of e == a) refl (without_own a es)
  where
    by_test : (t : Bool) → (actor_of e == a) ≡ t → events_of a (without a es) ≡ drop 1 (events_of a es) → events_of a (without a (e ∷ es)) ≡ drop 1 (events_of a (e ∷ es))
    by_test true q h = rw q refl
    by_test false q h = rw q (rw q h)

-- those of the others
without_other : (a b : ℕ) (es : List CellEvent) → (a == b) ≡ false → events_of b (without a es) ≡ events_of b es
without_other a b [] d = refl
without_other a b (e ∷ es) d = by_tests (actor_of e == a) (actor_of e == b) refl refl (without_other a b es d)
  where
    by_tests : (t u : Bool) → (actor_of e == a) ≡ t → (actor_of e == b) ≡ u → events_of b (without a es) ≡ events_of b es → events_of b (without a (e ∷ es)) ≡ events_of b (e ∷ es)
    by_tests true true q r h = absurd (grind (arith, nat_tests, q, r, d))
    by_tests true false q r h = rw (q, r) refl
    by_tests false true q r h = rw q (rw r (ap (λ (l : List CellEvent). e ∷ l) h))
    by_tests false false q r h = rw q (rw r h)

-- one event fewer
without_length : (a : ℕ) (es : List CellEvent) → 0 < length (events_of a es) → length es ≡ suc (length (without a es))
without_length a [] h = absurd (omega (arith, h))
without_length a (e ∷ es) h = by_test (actor_of e == a) refl (without_length a es)
  where
    by_test : (t : Bool) → (actor_of e == a) ≡ t → (0 < length (events_of a es) → length es ≡ suc (length (without a es))) → length (e ∷ es) ≡ suc (length (without a (e ∷ es)))
    by_test true q k = rw q refl
    by_test false q k = rw q (ap suc (k (rw q at h)))

pub same_length : (xs ys : List CellEvent) → ((a : ℕ) → events_of a xs ≡ events_of a ys) → length xs ≡ length ys
same_length [] [] h = refl
same_length [] (e ∷ es) h = let k = h (actor_of e) ∙ own e es in cc
same_length (e ∷ es) ys h =
    let a = actor_of e in
    let k : events_of a ys ≡ e ∷ events_of a es = sym (h a) ∙ own e es in
    let some : 0 < length (events_of a ys) = omega (arith, ap length k) in
    ap suc (same_length es (without a ys) (λ b. by_test b (a == b) refl k)) ∙ sym (without_length a ys some)
  where
    by_test : (b : ℕ) (t : Bool) → (actor_of e == b) ≡ t → events_of (actor_of e) ys ≡ e ∷ events_of (actor_of e) es → events_of b es ≡ events_of b (without (actor_of e) ys)
    by_test b true q k =
        let s : actor_of e ≡ b = grind (arith, nat_tests, q) in
        subst (λ (n : ℕ). events_of n es ≡ events_of n (without (actor_of e) ys)) s (sym (without_own (actor_of e) ys ∙ ap (drop 1) k))
    by_test b false q k = (rw q at (h b)) ∙ sym (without_other (actor_of e) b ys q)

-- ---- what holds of each recorded event holds of each event of the body

abbrev pub Each : {T : Type 0} → (T → Type 0) → List T → Type 0
Each P [] = Unit {0}
Each P (x ∷ xs) = P x × Each P xs

each_step : (P : CellEvent → Type 0) (a : ℕ) (e : CellEvent) (es : List CellEvent) → P e → Each P (events_of a es) → Each P (events_of a (e ∷ es))
each_step P a e es p h = by_test (actor_of e == a) refl
  where
    by_test : (t : Bool) → (actor_of e == a) ≡ t → Each P (events_of a (e ∷ es))
    by_test true q = rw q (p, h)
    by_test false q = rw q h

each_of_actor : (P : CellEvent → Type 0) (a : ℕ) (es : List CellEvent) → Each P es → Each P (events_of a es)
each_of_actor P a [] h = tt
each_of_actor P a (e ∷ es) h = each_step P a e es h.0 (each_of_actor P a es h.1)

each_behind : (P : CellEvent → Type 0) (a : ℕ) (e : CellEvent) (es : List CellEvent) → Each P (events_of a (e ∷ es)) → Each P (events_of a es)
each_behind P a e es h = by_test (actor_of e == a) refl
  where
    by_test : (t : Bool) → (actor_of e == a) ≡ t → Each P (events_of a es)
    by_test true q = (rw q at h).1
    by_test false q = rw q at h

each_by_actors : (P : CellEvent → Type 0) (es : List CellEvent) → ((a : ℕ) → Each P (events_of a es)) → Each P es
each_by_actors P [] h = tt
each_by_actors P (e ∷ es) h = ((subst (Each P) (own e es) (h (actor_of e))).0, each_by_actors P es (λ a. each_behind P a e es (h a)))

pub each_of_body : (P : CellEvent → Type 0) (body phase : List CellEvent) → IsBodyOf body phase → Each P phase → Each P body
each_of_body P body phase b h = each_by_actors P body (λ a. subst (Each P) (sym (b.each a)) (each_of_actor P a phase h))
