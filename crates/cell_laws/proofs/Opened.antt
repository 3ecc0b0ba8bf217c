-- The client of each enrollment has an association: what clients are told ends none, but where a client is lost, whose
-- enrollments go.
use Rattle.std.proofs.Common.{◌≡◌, ℕ, zero, suc, ◌⊎◌, inl, inr, ◌==◌, Bool, true, false, not, cond, List, [], ◌∷◌, ◌++◌, filter, Option, None, Some, option_map, slice_get, unwrap_or, Result, Ok, Err, refl, sym, ◌∙◌, ap, subst}
use Rattle.std.specs.List.{AllByRecursion}
use Rattle.mms_types.specs.Order.{scope_eq}
use Rattle.mms_types.specs.declared.key.Key.{Key}
use Rattle.mms_types.specs.declared.key.Scope.TheVariants.{Association as OfClient}
use Rattle.association.specs.declared.client_part.NotAdmitted.{NotAdmitted}
use Rattle.association.specs.declared.negotiation.Association.TheVariants.{Open}
use Rattle.association.specs.declared.negotiation.Negotiated.{Negotiated}
use Rattle.association.specs.Admission.{admission, waiting_if}
use Rattle.association.specs.Client.{ClientRow}
use Rattle.event_enrol.specs.Enrolments.{Rows, is_of, without_client}
use Rattle.event_enrol.specs.declared.enrolment.Enrolment.{Enrolment}
use Rattle.sem_ticks.specs.declared.granted.Granted.{Granted}
use Rattle.sem_ticks.specs.declared.ticks.Happening.{Happening}
use Rattle.sem_ticks.specs.declared.ticks.Happening.TheVariants as happens
use Rattle.parted_state.specs.ListsLaws.{get_changed}
use Rattle.parted_state.specs.Served.{delivered, reached, row_at}
use Rattle.cell_ticks.specs.Ticks.{aborted, enrolments_without}
use Rattle.cell_client.specs.Effects.{Effect, Sends, Opens, Closes, Waits, Answers, Asks, Settles, Drains, felt, tell}
use Rattle.cell_services.specs.Services.{grants_told}
use Rattle.cell_services.specs.Serving.{happening_told}
use Rattle.step_parts.specs.Partition.{cell, no_client}
use Rattle.step_parts.proofs.Rows.{delivered_both}
use Rattle.cell_laws.proofs.Bound.{nat-same}
use Rattle.cell_laws.proofs.Happened.{sem_told}
use Rattle.cell_laws.proofs.Hears.{AreStill, IsStill, row-other}
use Rattle.cell_laws.proofs.Notices.{AreNotices}

-- a client has an association
abbrev pub IsOpenAt : ℕ → List ClientRow → Type 0
IsOpenAt c rows = (values : Negotiated) × ((row_at cell c rows).association ≡ Open values)

-- so has the client of each enrollment
abbrev pub AreOpen : List ClientRow → Rows → Type 0
AreOpen rows enrolments = AllByRecursion (λ row. IsOpenAt row.1.client rows) enrolments

-- ---- what ends no association

abbrev pub IsUnclosing : Effect → Type 0
IsUnclosing (Sends output) = Unit {0}
IsUnclosing (Opens values) = Unit {0}
IsUnclosing Closes = ⊥
IsUnclosing (Waits request) = Unit {0}
IsUnclosing (Answers invoke) = Unit {0}
IsUnclosing (Asks kind domain) = Unit {0}
IsUnclosing (Settles number) = Unit {0}
IsUnclosing Drains = Unit {0}

felt-open : (effect : Effect) (row : ClientRow) (values : Negotiated) → IsUnclosing effect → row.association ≡ Open values → (after : Negotiated) × ((felt effect row).association ≡ Open after)
felt-open (Sends output) row values un is = (values, is)
felt-open (Opens others) row values un is = (others, refl)
felt-open Closes row values un is = absurd un
felt-open (Waits request) row values un is = by_admission (admission request.invoke row)
  where
    by_admission : (may : Result Unit NotAdmitted) → (after : Negotiated) × ((waiting_if may request row).association ≡ Open after)
    by_admission (Ok admitted) = (values, is)
    by_admission (Err refusal) = (values, is)
felt-open (Answers invoke) row values un is = (values, is)
felt-open (Asks kind domain) row values un is = (values, is)
felt-open (Settles number) row values un is = (values, is)
felt-open Drains row values un is = (values, is)

-- nobody's but that client's ends
abbrev pub EndsOnly : ℕ → List (ℕ × Effect) → Type 0
EndsOnly client [] = Unit {0}
EndsOnly client (t ∷ told) = (IsUnclosing t.1 ⊎ (t.0 ≡ client)) × EndsOnly client told

-- or none at all
abbrev pub AreUnclosing : List (ℕ × Effect) → Type 0
AreUnclosing [] = Unit {0}
AreUnclosing (t ∷ told) = IsUnclosing t.1 × AreUnclosing told

reached-open : (effect : Effect) (k c : ℕ) (rows : List ClientRow) → IsUnclosing effect ⊎ ((c == k) ≡ false) → IsOpenAt c rows → IsOpenAt c (reached cell k effect rows)
reached-open effect zero c rows either is = is
reached-open effect (suc k) c rows either is = by_test (c == suc k) refl
  where
    by_row : IsUnclosing effect → (o : Option ClientRow) → (values : Negotiated) × ((unwrap_or o no_client).association ≡ Open values)
        → (values : Negotiated) × ((unwrap_or (option_map (felt effect) o) no_client).association ≡ Open values)
    by_row un None h = h
    by_row un (Some row) h = felt-open effect row h.0 un h.1

    unclosing : (c == suc k) ≡ true → IsUnclosing effect ⊎ ((c == suc k) ≡ false) → IsUnclosing effect
    unclosing e (inl un) = un
    unclosing e (inr other) = absurd (cc (sym e ∙ other))

    by_test : (b : Bool) → (c == suc k) ≡ b → IsOpenAt c (reached cell (suc k) effect rows)
    by_test true e =
        let same = nat-same c (suc k) e in
        subst (λ (d : ℕ). IsOpenAt d (reached cell (suc k) effect rows)) (sym same)
        (subst (λ (o : Option ClientRow). (values : Negotiated) × ((unwrap_or o no_client).association ≡ Open values)) (sym (get_changed (felt effect) rows k))
        (by_row (unclosing e either) (slice_get rows k) (subst (λ (d : ℕ). IsOpenAt d rows) same is)))
    by_test false e = (is.0, ap (λ (row : ClientRow). row.association) (row-other effect (suc k) c rows e) ∙ is.1)

-- where it isn't that client's
pub others-open : (client c : ℕ) (told : List (ℕ × Effect)) (rows : List ClientRow) → (c == client) ≡ false → EndsOnly client told → IsOpenAt c rows → IsOpenAt c (delivered cell told rows)
others-open client c [] rows other ends is = is
others-open client c (t ∷ told) rows other ends is =
    others-open client c told (reached cell t.0 t.1 rows) other ends.1 (reached-open t.1 t.0 c rows (by_end ends.0) is)
  where
    by_end : IsUnclosing t.1 ⊎ (t.0 ≡ client) → IsUnclosing t.1 ⊎ ((c == t.0) ≡ false)
    by_end (inl un) = inl un
    by_end (inr same) = inr (subst (λ (k : ℕ). (c == k) ≡ false) (sym same) other)

one-open : (c : ℕ) (told : List (ℕ × Effect)) (rows : List ClientRow) → AreUnclosing told → IsOpenAt c rows → IsOpenAt c (delivered cell told rows)
one-open c [] rows un is = is
one-open c (t ∷ told) rows un is = one-open c told (reached cell t.0 t.1 rows) un.1 (reached-open t.1 t.0 c rows (inl un.0) is)

pub all-open : (told : List (ℕ × Effect)) (rows : List ClientRow) (enrolments : Rows) → AreUnclosing told → AreOpen rows enrolments → AreOpen (delivered cell told rows) enrolments
all-open told rows [] un are = tt
all-open told rows (row ∷ rest) un are = (one-open row.1.client told rows un are.0, all-open told rows rest un are.1)

pub still-open : (c : ℕ) (told : List (ℕ × Effect)) (rows : List ClientRow) → AreUnclosing told → IsOpenAt c rows → IsOpenAt c (delivered cell told rows)
still-open = one-open

-- ---- fewer enrollments

pub fewer-open : (p : Key × Enrolment → Bool) (rows : List ClientRow) (enrolments : Rows) → AreOpen rows enrolments → AreOpen rows (filter p enrolments)
fewer-open p rows [] are = tt
fewer-open p rows (row ∷ rest) are = by_test (p row) (fewer-open p rows rest are.1)
  where
    by_test : (b : Bool) → AreOpen rows (filter p rest) → AreOpen rows (cond b (row ∷ filter p rest) (filter p rest))
    by_test true later = (are.0, later)
    by_test false later = later

-- a client is lost
pub lost-open : (client : ℕ) (told : List (ℕ × Effect)) (rows : List ClientRow) (enrolments : Rows) → EndsOnly client told → AreOpen rows enrolments
    → AreOpen (delivered cell told rows) (without_client client enrolments)
lost-open client told rows enrolments ends are =
    fewer-open (λ (row : Key × Enrolment). not (scope_eq row.0.scope (OfClient client))) (delivered cell told rows) (filter (λ (row : Key × Enrolment). not (is_of client row)) enrolments)
    (of_others enrolments are)
  where
    left : Rows → Rows
    left rows = filter (λ (row : Key × Enrolment). not (is_of client row)) rows

    of_others : (rest : Rows) → AreOpen rows rest → AreOpen (delivered cell told rows) (filter (λ (row : Key × Enrolment). not (is_of client row)) rest)
    of_others [] are = tt
    of_others (row ∷ rest) are = by_test (row.1.client == client) refl (of_others rest are.1)
      where
        by_test : (b : Bool) → (row.1.client == client) ≡ b → AreOpen (delivered cell told rows) (filter (λ (r : Key × Enrolment). not (is_of client r)) rest)
            → AreOpen (delivered cell told rows)
            (cond (not b) (row ∷ filter (λ (r : Key × Enrolment). not (is_of client r)) rest) (filter (λ (r : Key × Enrolment). not (is_of client r)) rest))
        by_test true e later = later
        by_test false e later = (others-open client row.1.client told rows e ends are.0, later)

-- ---- what is told

pub unclosing-both : (xs ys : List (ℕ × Effect)) → AreUnclosing xs → AreUnclosing ys → AreUnclosing (xs ++ ys)
unclosing-both [] ys a b = b
unclosing-both (x ∷ xs) ys a b = (a.0, unclosing-both xs ys a.1 b)

pub ends-both : (client : ℕ) (xs ys : List (ℕ × Effect)) → EndsOnly client xs → EndsOnly client ys → EndsOnly client (xs ++ ys)
ends-both client [] ys a b = b
ends-both client (x ∷ xs) ys a b = (a.0, ends-both client xs ys a.1 b)

pub unclosing-ends : (client : ℕ) (told : List (ℕ × Effect)) → AreUnclosing told → EndsOnly client told
unclosing-ends client [] un = tt
unclosing-ends client (t ∷ told) un = (inl un.0, unclosing-ends client told un.1)

-- that client alone is told
pub own-ends : (client : ℕ) (effects : List Effect) → EndsOnly client (tell client effects)
own-ends client [] = tt
own-ends client (effect ∷ effects) = (inr refl, own-ends client effects)

pub grants-unclosing : (grants : List Granted) → AreUnclosing (grants_told grants)
grants-unclosing [] = tt
grants-unclosing (g ∷ grants) = (tt, (tt, grants-unclosing grants))

pub notices-unclosing : (told : List (ℕ × Effect)) → AreNotices told → AreUnclosing told
notices-unclosing [] are = tt
notices-unclosing (t ∷ told) are = (subst IsUnclosing (sym are.0.is) tt, notices-unclosing told are.1)

still-one : (effect : Effect) → IsStill effect → IsUnclosing effect
still-one (Sends output) s = tt
still-one (Opens values) s = tt
still-one Closes s = s
still-one (Waits request) s = tt
still-one (Answers invoke) s = tt
still-one (Asks kind domain) s = tt
still-one (Settles number) s = tt
still-one Drains s = tt

pub still-unclosing : (client : ℕ) (effects : List Effect) → AreStill effects → AreUnclosing (tell client effects)
still-unclosing client [] still = tt
still-unclosing client (effect ∷ effects) still = (still-one effect still.0, still-unclosing client effects still.1)

-- ---- time goes by

pub happened-open : (happened : List Happening) (rows : List ClientRow) (enrolments : Rows) → AreOpen rows enrolments
    → AreOpen (delivered cell (sem_told happened) rows) (enrolments_without (aborted happened) enrolments)
happened-open [] rows enrolments are = are
happened-open (happens.WaitEnds client invoke ∷ rest) rows enrolments are =
    let told : List (ℕ × Effect) = happening_told (happens.WaitEnds client invoke) in
    subst (λ (l : List ClientRow). AreOpen l (enrolments_without (aborted rest) enrolments)) (sym (delivered_both told (sem_told rest) rows))
    (happened-open rest (delivered cell told rows) enrolments (all-open told rows enrolments (tt, (tt, tt)) are))
happened-open (happens.Grants grant ∷ rest) rows enrolments are =
    let told : List (ℕ × Effect) = happening_told (happens.Grants grant) in
    subst (λ (l : List ClientRow). AreOpen l (enrolments_without (aborted rest) enrolments)) (sym (delivered_both told (sem_told rest) rows))
    (happened-open rest (delivered cell told rows) enrolments (all-open told rows enrolments (tt, (tt, tt)) are))
happened-open (happens.Aborts client ∷ rest) rows enrolments are =
    let told : List (ℕ × Effect) = happening_told (happens.Aborts client) in
    subst (λ (l : List ClientRow). AreOpen l (enrolments_without (aborted rest) (without_client client enrolments))) (sym (delivered_both told (sem_told rest) rows))
    (happened-open rest (delivered cell told rows) (without_client client enrolments) (lost-open client told rows enrolments (inl tt, (inr refl, tt)) are))
