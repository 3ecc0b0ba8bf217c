-- A loss within a tick: it comes to the same before the evaluations that are left out, and after them.
use Rattle.std.proofs.Common.{◌≡◌, ◌∙◌, ap, sym, subst, refl, ℕ, ◌<◌, ◌≤◌, Bool, true, false, cond, not, ◌&&◌, nat_le, List, [], ◌∷◌, ◌++◌, filter, filter_map, length, Option, None, Some, if◌then◌else◌, arith}
use Rattle.std.specs.List.{AllByRecursion, IsDistinct, cons_option, sum_by}
use Rattle.std.specs.Map.{keys_of, values_of}
use Rattle.std.proofs.lemmas.Bool.Decides.{nat_tests}
use Rattle.std.proofs.lemmas.List.Sums.{sum_by-cons}
use Rattle.std.proofs.lemmas.Map.Made.{IsDistinct-keys_filter}
use Rattle.mms_types.specs.Order.{key_eq, scope_eq}
use Rattle.mms_types.specs.declared.condition.Turned.{Turned}
use Rattle.mms_types.specs.declared.key.Key.{Key}
use Rattle.mms_types.specs.declared.key.Scope.TheVariants.{Association}
use Rattle.mms_types.specs.declared.moment.Moment.{Moment}
use Rattle.event_cond.specs.Conditions as cond_rows
use Rattle.event_cond.specs.Deletion as cond_lost
use Rattle.event_cond.specs.Evaluations.{evaluations, next_evaluation}
use Rattle.event_cond.specs.Skips.{Saying, after_skip, first_turn, first_turns, row_skipped}
use Rattle.event_cond.specs.declared.condition.Condition.{Condition}
use Rattle.event_enrol.specs.Enrolments as enrol
use Rattle.event_cond.proofs.Soonest.{In, least_first, next_none}
use Rattle.event_ticks.specs.Skipping.{conditions_left, enrolments_left, is_left, losses_left, skipping, skipping_told, told_left}
use Rattle.event_ticks.specs.Ticks.{Ticking, lost, most_left, most_of, told_of}
use Rattle.event_ticks.specs.declared.ticks.Loss.{Loss}
use Rattle.event_ticks.specs.declared.ticks.TurnTold.{TurnTold}
use Rattle.event_ticks.proofs.Nexts.{NoneBefore}
use Rattle.event_cond.proofs.Orders.{Each, each_in_order, no_earlier}
use Rattle.event_ticks.proofs.Turns.{each_turn, turns_left}

-- ---- rows that are left

all_filtered : {A : Type 0} (P : A → Type 0) (p : A → Bool) (xs : List A) → AllByRecursion P xs → AllByRecursion P (filter p xs)
all_filtered P p [] all = tt
all_filtered P p (x ∷ xs) all = by_test (p x) (all_filtered P p xs all.1)
  where
    by_test : (b : Bool) → AllByRecursion P (filter p xs) → AllByRecursion P (cond b (x ∷ filter p xs) (filter p xs))
    by_test true rest = (all.0, rest)
    by_test false rest = rest

fewer_filtered : (f : Condition → ℕ) (p : Key × Condition → Bool) (rows : cond_rows.Rows) → sum_by f (values_of (filter p rows)) ≤ sum_by f (values_of rows)
fewer_filtered f p [] = omega arith
fewer_filtered f p (row ∷ rows) = by_test (p row) (fewer_filtered f p rows)
  where
    by_test : (b : Bool) → sum_by f (values_of (filter p rows)) ≤ sum_by f (values_of rows)
        → sum_by f (values_of (cond b (row ∷ filter p rows) (filter p rows))) ≤ sum_by f (values_of (row ∷ rows))
    by_test true rest = omega (arith, rest, sum_by-cons f row.1 (values_of (filter p rows)), sum_by-cons f row.1 (values_of rows))
    by_test false rest = omega (arith, rest, sum_by-cons f row.1 (values_of rows))

-- ---- a loss

module _ (cells : Saying) (until : Moment) (s : Ticking) (loss : Loss) (later : List Loss) (are : s.losses ≡ loss ∷ later) where
  -- what names stay
  abbrev stays : Key → Bool
  stays key = not (scope_eq key.scope (Association loss.client))

  pub lost_sound : (P : Key × Condition → Type 0) → IsDistinct key_eq (keys_of s.conditions) → AllByRecursion P s.conditions
      → (IsDistinct key_eq (keys_of (lost s loss later).conditions)) × AllByRecursion P (lost s loss later).conditions
  lost_sound P names all = (
    IsDistinct-keys_filter key_eq (λ row. not (scope_eq row.0.scope (Association loss.client))) s.conditions names,
    all_filtered P (λ row. not (scope_eq row.0.scope (Association loss.client))) s.conditions all,
  )

  pub lost_fewer : most_left until (lost s loss later) < most_left until s
  lost_fewer =
      let losses = ap (λ (l : List Loss). length l) are in
      let rows = fewer_filtered (most_of until) (λ row. not (scope_eq row.0.scope (Association loss.client))) s.conditions in
      omega (arith, losses, rows)

  skipped_left : (rows : cond_rows.Rows) → after_skip until cells (cond_lost.without_client loss.client rows) ≡ cond_lost.without_client loss.client (after_skip until cells rows)
  skipped_left [] = refl
  skipped_left (row ∷ rows) = by_test (not (scope_eq row.0.scope (Association loss.client))) (skipped_left rows)
    where
      by_test : (b : Bool) → after_skip until cells (cond_lost.without_client loss.client rows) ≡ cond_lost.without_client loss.client (after_skip until cells rows)
          → after_skip until cells (cond b (row ∷ cond_lost.without_client loss.client rows) (cond_lost.without_client loss.client rows))
          ≡ cond b (row_skipped until cells row ∷ cond_lost.without_client loss.client (after_skip until cells rows)) (cond_lost.without_client loss.client (after_skip until cells rows))
      by_test true rest = ap (λ l. row_skipped until cells row ∷ l) rest
      by_test false rest = rest

  -- one after the loss
  told_after : (t : Turned) → loss.at.0 ≤ t.at.0 → told_left (loss ∷ later) s.enrolments t
      ≡ (if not (scope_eq t.condition.scope (Association loss.client)) then told_left later (enrol.without_client loss.client s.enrolments) t else None)
  told_after t low =
      let by_then : nat_le loss.at.0 t.at.0 ≡ true = grind (arith, nat_tests) in
      ap (λ (b : Bool). if (if b then not (scope_eq t.condition.scope (Association loss.client)) && is_left t.at later t.condition else true)
      then Some (told_of (if b then enrolments_left t.at later (enrol.without_client loss.client s.enrolments) else s.enrolments) t)
      else None) by_then
      ∙ by_test (not (scope_eq t.condition.scope (Association loss.client)))
    where
      by_test : (b : Bool) → (if b && is_left t.at later t.condition then Some (told_of (enrolments_left t.at later (enrol.without_client loss.client s.enrolments)) t) else None)
          ≡ (if b then told_left later (enrol.without_client loss.client s.enrolments) t else None)
      by_test true = refl
      by_test false = refl

  told_rest : (ts : List Turned) → Each (λ t. loss.at.0 ≤ t.at.0) ts
      → filter_map (told_left later (enrol.without_client loss.client s.enrolments)) (filter (λ t. not (scope_eq t.condition.scope (Association loss.client))) ts)
      ≡ filter_map (told_left (loss ∷ later) s.enrolments) ts
  told_rest [] all = refl
  told_rest (t ∷ ts) all =
      by_test (not (scope_eq t.condition.scope (Association loss.client))) (told_rest ts all.1)
      ∙ ap (λ (o : Option TurnTold). cons_option o (filter_map (told_left (loss ∷ later) s.enrolments) ts)) (sym (told_after t all.0))
    where
      by_test : (b : Bool)
          → filter_map (told_left later (enrol.without_client loss.client s.enrolments)) (filter (λ t. not (scope_eq t.condition.scope (Association loss.client))) ts)
          ≡ filter_map (told_left (loss ∷ later) s.enrolments) ts
          → filter_map (told_left later (enrol.without_client loss.client s.enrolments))
          (cond b (t ∷ filter (λ t. not (scope_eq t.condition.scope (Association loss.client))) ts) (filter (λ t. not (scope_eq t.condition.scope (Association loss.client))) ts))
          ≡ cons_option (if b then told_left later (enrol.without_client loss.client s.enrolments) t else None) (filter_map (told_left (loss ∷ later) s.enrolments) ts)
      by_test true rest = ap (λ l. cons_option (told_left later (enrol.without_client loss.client s.enrolments) t) l) rest
      by_test false rest = rest

  module _ (low : loss.at.0 ≤ until.0) (none : NoneBefore loss.at (next_evaluation s.conditions)) where
    not_earlier : (o : Option (Moment × Key)) → next_evaluation s.conditions ≡ o → NoneBefore loss.at o → (e : Moment × Key) → In (evaluations s.conditions) e → loss.at.0 ≤ e.0.0
    not_earlier None is none e there = absurd (subst (λ (l : List (Moment × Key)). In l e) (next_none s.conditions is) there)
    not_earlier (Some x) is none e there = let first = no_earlier e x (least_first (evaluations s.conditions) x e is there) in omega (arith, first, none)

    by_then : nat_le loss.at.0 until.0 ≡ true
    by_then = grind (arith, nat_tests)

    conditions_same : conditions_left until later (after_skip until cells (cond_lost.without_client loss.client s.conditions)) ≡ conditions_left until s.losses (after_skip until cells s.conditions)
    conditions_same =
        ap (conditions_left until later) (skipped_left s.conditions)
        ∙ sym
        (ap (λ (l : List Loss). conditions_left until l (after_skip until cells s.conditions)) are
        ∙ ap (λ (b : Bool). if b then conditions_left until later (cond_lost.without_client loss.client (after_skip until cells s.conditions)) else after_skip until cells s.conditions) by_then)

    enrolments_same : enrolments_left until later (enrol.without_client loss.client s.enrolments) ≡ enrolments_left until s.losses s.enrolments
    enrolments_same =
        sym
        (ap (λ (l : List Loss). enrolments_left until l s.enrolments) are
        ∙ ap (λ (b : Bool). if b then enrolments_left until later (enrol.without_client loss.client s.enrolments) else s.enrolments) by_then)

    losses_same : losses_left until later ≡ losses_left until s.losses
    losses_same = sym (ap (losses_left until) are ∙ ap (λ (b : Bool). if b then losses_left until later else loss ∷ later) by_then)

    told_same : skipping_told cells until (lost s loss later) ≡ skipping_told cells until s
    told_same =
        ap (filter_map (told_left later (enrol.without_client loss.client s.enrolments))) (turns_left until cells stays s.conditions)
        ∙ told_rest (first_turns until cells s.conditions)
        (each_in_order (λ t. loss.at.0 ≤ t.at.0) (filter_map (first_turn until cells) s.conditions)
        (each_turn until cells (λ e. loss.at.0 ≤ e.0.0) s.conditions (not_earlier (next_evaluation s.conditions) refl none)))
        ∙ ap (λ (l : List Loss). filter_map (told_left l s.enrolments) (first_turns until cells s.conditions)) (sym are)

    pub lost_same : skipping cells until (lost s loss later) ≡ skipping cells until s
    lost_same =
        ap (λ (l : cond_rows.Rows). record {
          conditions = l;
          enrolments = enrolments_left until later (enrol.without_client loss.client s.enrolments);
          losses = losses_left until later;
          told = s.told ++ skipping_told cells until (lost s loss later);
        }) conditions_same
        ∙ ap (λ (l : enrol.Rows). record {
          conditions = conditions_left until s.losses (after_skip until cells s.conditions);
          enrolments = l;
          losses = losses_left until later;
          told = s.told ++ skipping_told cells until (lost s loss later);
        }) enrolments_same
        ∙ ap (λ (l : List Loss). record {
          conditions = conditions_left until s.losses (after_skip until cells s.conditions);
          enrolments = enrolments_left until s.losses s.enrolments;
          losses = l;
          told = s.told ++ skipping_told cells until (lost s loss later);
        }) losses_same
        ∙ ap (λ (l : List TurnTold). record {
          conditions = conditions_left until s.losses (after_skip until cells s.conditions);
          enrolments = enrolments_left until s.losses s.enrolments;
          losses = losses_left until s.losses;
          told = s.told ++ l;
        }) told_same
