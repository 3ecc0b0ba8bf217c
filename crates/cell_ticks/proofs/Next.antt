-- No deadline comes before the next one.
use Rattle.std.proofs.Common.{◌≡◌, ap, subst, refl, ℕ, zero, suc, ◌<◌, ◌≤◌, nat_le, Bool, true, false, if◌then◌else◌, inl, inr, List, [], ◌∷◌, length, get_or, Option, None, Some, arith}
use Rattle.std.proofs.lemmas.Bool.Decides.{nat_tests}
use Rattle.std.specs.List.{All}
use Rattle.mms_types.specs.declared.moment.Moment.{Moment}
use Rattle.token_sem.proofs.Least.{Stands, least-first, least-none}
use Rattle.mms_time.specs.Deadlines.{NamedDeadline, due_sooner, until_only}
use Rattle.mms_time.specs.Semaphores as sem_rows
use Rattle.mms_time.proofs.NextDeadline.{no_earlier}
use Rattle.mms_time.proofs.Soonest.{due_ranks}
use Rattle.event_cond.specs.Conditions as cond
use Rattle.cell_ticks.specs.Deadlines.{all_deadlines, first_due, next_due}

stands_at : {A : Type 0} (xs : List A) (k : ℕ) (d : A) → k < length xs → Stands xs (get_or xs k d)
stands_at [] k d low = absurd (omega arith)
stands_at (x ∷ xs) zero d low = inl refl
stands_at (x ∷ xs) (suc k) d low = inr (stands_at xs k d (omega arith))

module _ (until : Moment) (semaphores : sem_rows.Rows) (conditions : cond.Rows) where
  none_before : (d : NamedDeadline) → first_due semaphores conditions ≡ Some d → All (λ x. due_sooner x d ≡ false) (all_deadlines semaphores conditions)
  none_before d is k e low =
      least-first due_sooner due_ranks (all_deadlines semaphores conditions) d (get_or (all_deadlines semaphores conditions) k e) is (stands_at (all_deadlines semaphores conditions) k e low)

  pub next_least : (d : NamedDeadline) → next_due until semaphores conditions ≡ Some d → All (λ x. due_sooner x d ≡ false) (all_deadlines semaphores conditions)
  next_least d h = by_first (first_due semaphores conditions) refl h
    where
      by_first : (o : Option NamedDeadline) → first_due semaphores conditions ≡ o → until_only until o ≡ Some d → All (λ x. due_sooner x d ≡ false) (all_deadlines semaphores conditions)
      by_first None e k = absurd (cc k)
      by_first (Some x) e k = by_test (nat_le x.at.0 until.0) k
        where
          by_test : (b : Bool) → (if b then Some x else None) ≡ Some d → All (λ x. due_sooner x d ≡ false) (all_deadlines semaphores conditions)
          by_test true g = let same : x ≡ d = cc g in subst (λ (y : NamedDeadline). All (λ z. due_sooner z y ≡ false) (all_deadlines semaphores conditions)) same (none_before x e)
          by_test false g = absurd (cc g)

  pub next_by_then : (d : NamedDeadline) → next_due until semaphores conditions ≡ Some d → d.at.0 ≤ until.0
  next_by_then d h = by_first (first_due semaphores conditions) h
    where
      by_first : (o : Option NamedDeadline) → until_only until o ≡ Some d → d.at.0 ≤ until.0
      by_first None k = absurd (cc k)
      by_first (Some x) k = by_test (nat_le x.at.0 until.0) refl k
        where
          by_test : (b : Bool) → nat_le x.at.0 until.0 ≡ b → (if b then Some x else None) ≡ Some d → d.at.0 ≤ until.0
          by_test true t g =
              let same : x ≡ d = cc g in
              let low : x.at.0 ≤ until.0 = grind (arith, nat_tests) in
              subst (λ (y : NamedDeadline). y.at.0 ≤ until.0) same low
          by_test false t g = absurd (cc g)

  pub next_none : next_due until semaphores conditions ≡ None → All (λ x. until.0 < x.at.0) (all_deadlines semaphores conditions)
  next_none h = by_first (first_due semaphores conditions) refl h
    where
      by_first : (o : Option NamedDeadline) → first_due semaphores conditions ≡ o → until_only until o ≡ None → All (λ x. until.0 < x.at.0) (all_deadlines semaphores conditions)
      by_first None is h k d low = let empty : length (all_deadlines semaphores conditions) ≡ 0 = ap length (least-none due_sooner (all_deadlines semaphores conditions) is) in absurd (omega (arith, empty, low))
      by_first (Some m) is h k d low = by_test (nat_le m.at.0 until.0) refl h
        where
          by_test : (b : Bool) → nat_le m.at.0 until.0 ≡ b → (if b then Some m else None) ≡ None → until.0 < (get_or (all_deadlines semaphores conditions) k d).at.0
          by_test true t g = absurd (cc g)
          by_test false t g =
              let after : m.at.0 ≤ (get_or (all_deadlines semaphores conditions) k d).at.0 = no_earlier (get_or (all_deadlines semaphores conditions) k d) m (none_before m is k d low) in
              let over : until.0 < m.at.0 = grind (arith, nat_tests) in
              omega (arith, after, over)
