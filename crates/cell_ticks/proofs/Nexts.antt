-- Which deadline comes next: one of the semaphores, or an evaluation.
use Rattle.std.proofs.Common.{◌≡◌, ◌∙◌, ap, sym, subst, refl, ◌<◌, ◌≤◌, ◌⊎◌, inl, inr, ◌==◌, nat_le, nat_lt, Bool, true, false, Option, None, Some, option_map, if◌then◌else◌, arith}
use Rattle.std.proofs.lemmas.Bool.Decides.{nat_tests}
use Rattle.mms_types.specs.declared.key.Key.{Key}
use Rattle.mms_types.specs.declared.moment.Moment.{Moment}
use Rattle.mms_time.specs.Deadlines as sem
use Rattle.mms_time.specs.Deadlines.{NamedDeadline, due_sooner, pick, until_only}
use Rattle.mms_time.specs.Semaphores as sem_rows
use Rattle.event_cond.specs.Conditions as cond
use Rattle.event_cond.specs.Evaluations.{next_evaluation}
use Rattle.event_ticks.proofs.Nexts.{NoneBefore, NoneDue}
use Rattle.cell_ticks.specs.Deadlines.{evaluation, evaluation_due, first_due, next_due}
use Rattle.cell_ticks.proofs.Least.{first_is, kind_before, moments_decide}

-- the least deadline of the semaphores, if there is one, lies after that moment
abbrev pub DueAfter : Moment → Option NamedDeadline → Type 0
DueAfter at None = Unit {0}
DueAfter at (Some d) = at.0 < d.at.0

pub record OfSemaphores (until : Moment) (rows : sem_rows.Rows) (watched : cond.Rows) (d : NamedDeadline) : Type 0 where
  pub due : sem.next_due until rows ≡ Some d
  pub kind : (d.kind == evaluation) ≡ false
  pub low : d.at.0 ≤ until.0
  pub evaluations : NoneBefore d.at (next_evaluation watched)

pub record OfConditions (until : Moment) (rows : sem_rows.Rows) (watched : cond.Rows) (d : NamedDeadline) : Type 0 where
  pub next : Moment × Key
  pub first : next_evaluation watched ≡ Some next
  pub is : evaluation_due next ≡ d
  pub low : next.0.0 ≤ until.0
  pub semaphores : DueAfter next.0 (sem.first_due rows)

pub record NothingDue (until : Moment) (rows : sem_rows.Rows) (watched : cond.Rows) : Type 0 where
  pub semaphores : sem.next_due until rows ≡ None
  pub conditions : NoneDue until (next_evaluation watched)

in_time : (until : Moment) (x d : NamedDeadline) → until_only until (Some x) ≡ Some d → (x ≡ d) × (x.at.0 ≤ until.0)
in_time until x d h = by_test (nat_le x.at.0 until.0) refl h
  where
    by_test : (b : Bool) → nat_le x.at.0 until.0 ≡ b → (if b then Some x else None) ≡ Some d → (x ≡ d) × (x.at.0 ≤ until.0)
    by_test true t k = (cc k, grind (arith, nat_tests))
    by_test false t k = absurd (cc k)

late : (until : Moment) (x : NamedDeadline) → until_only until (Some x) ≡ None → until.0 < x.at.0
late until x h = by_test (nat_le x.at.0 until.0) refl h
  where
    by_test : (b : Bool) → nat_le x.at.0 until.0 ≡ b → (if b then Some x else None) ≡ None → until.0 < x.at.0
    by_test true t k = absurd (cc k)
    by_test false t k = grind (arith, nat_tests)

too_late : (until : Moment) (x : NamedDeadline) → until.0 < x.at.0 → until_only until (Some x) ≡ None
too_late until x h = let not_yet : nat_le x.at.0 until.0 ≡ false = grind (arith, nat_tests) in ap (λ (b : Bool). if b then Some x else None) not_yet

module _ (until : Moment) (semaphores : sem_rows.Rows) (conditions : cond.Rows) where
  of_semaphores : (x d : NamedDeadline) → sem.first_due semaphores ≡ Some x → NoneBefore x.at (next_evaluation conditions) → until_only until (Some x) ≡ Some d
      → OfSemaphores until semaphores conditions d
  of_semaphores x d first none h =
      let t = in_time until x d h in
      let low = kind_before semaphores x first in
      subst (OfSemaphores until semaphores conditions) t.0
      (record { due = ap (until_only until) first ∙ h ∙ ap Some (sym t.0); kind = grind (arith, nat_tests); low = t.1; evaluations = none })

  of_conditions : (e : Moment × Key) (d : NamedDeadline) → next_evaluation conditions ≡ Some e → DueAfter e.0 (sem.first_due semaphores) → until_only until (Some (evaluation_due e)) ≡ Some d
      → OfConditions until semaphores conditions d
  of_conditions e d first after h = let t = in_time until (evaluation_due e) d h in record { next = e; first = first; is = t.0; low = t.1; semaphores = after }

  pub what_is_due : (d : NamedDeadline) → next_due until semaphores conditions ≡ Some d → OfSemaphores until semaphores conditions d ⊎ OfConditions until semaphores conditions d
  what_is_due d h =
      by_both (sem.first_due semaphores) refl (next_evaluation conditions) refl (ap (until_only until) (sym (first_is semaphores conditions)) ∙ h)
    where
      by_both : (o : Option NamedDeadline) → sem.first_due semaphores ≡ o → (n : Option (Moment × Key)) → next_evaluation conditions ≡ n
          → until_only until (pick due_sooner o (option_map evaluation_due n)) ≡ Some d → OfSemaphores until semaphores conditions d ⊎ OfConditions until semaphores conditions d
      by_both None is None next k = absurd (cc k)
      by_both (Some x) is None next k = inl (of_semaphores x d is (subst (NoneBefore x.at) (sym next) tt) k)
      by_both None is (Some e) next k = inr (of_conditions e d next (subst (DueAfter e.0) (sym is) tt) k)
      by_both (Some x) is (Some e) next k =
          by_test (nat_lt e.0.0 x.at.0) refl
          (ap (λ (b : Bool). until_only until (Some (if b then evaluation_due e else x))) (sym (moments_decide e x (kind_before semaphores x is))) ∙ k)
        where
          by_test : (b : Bool) → nat_lt e.0.0 x.at.0 ≡ b → until_only until (Some (if b then evaluation_due e else x)) ≡ Some d
              → OfSemaphores until semaphores conditions d ⊎ OfConditions until semaphores conditions d
          by_test true t k = let before : e.0.0 < x.at.0 = grind (arith, nat_tests) in inr (of_conditions e d next (subst (DueAfter e.0) (sym is) before) k)
          by_test false t k = let after : x.at.0 ≤ e.0.0 = grind (arith, nat_tests) in inl (of_semaphores x d is (subst (NoneBefore x.at) (sym next) after) k)

  pub nothing_is_due : next_due until semaphores conditions ≡ None → NothingDue until semaphores conditions
  nothing_is_due h =
      by_both (sem.first_due semaphores) refl (next_evaluation conditions) refl (ap (until_only until) (sym (first_is semaphores conditions)) ∙ h)
    where
      by_both : (o : Option NamedDeadline) → sem.first_due semaphores ≡ o → (n : Option (Moment × Key)) → next_evaluation conditions ≡ n
          → until_only until (pick due_sooner o (option_map evaluation_due n)) ≡ None → NothingDue until semaphores conditions
      by_both None is None next k = record { semaphores = ap (until_only until) is; conditions = subst (NoneDue until) (sym next) tt }
      by_both (Some x) is None next k = record { semaphores = ap (until_only until) is ∙ k; conditions = subst (NoneDue until) (sym next) tt }
      by_both None is (Some e) next k = record { semaphores = ap (until_only until) is; conditions = subst (NoneDue until) (sym next) (late until (evaluation_due e) k) }
      by_both (Some x) is (Some e) next k =
          by_test (nat_lt e.0.0 x.at.0) refl
          (ap (λ (b : Bool). until_only until (Some (if b then evaluation_due e else x))) (sym (moments_decide e x (kind_before semaphores x is))) ∙ k)
        where
          by_test : (b : Bool) → nat_lt e.0.0 x.at.0 ≡ b → until_only until (Some (if b then evaluation_due e else x)) ≡ None → NothingDue until semaphores conditions
          by_test true t k =
              let over : until.0 < e.0.0 = late until (evaluation_due e) k in
              let before : e.0.0 < x.at.0 = grind (arith, nat_tests) in
              record { semaphores = ap (until_only until) is ∙ too_late until x (omega (arith, over, before)); conditions = subst (NoneDue until) (sym next) over }
          by_test false t k =
              let over : until.0 < x.at.0 = late until x k in
              let after : x.at.0 ≤ e.0.0 = grind (arith, nat_tests) in
              record { semaphores = ap (until_only until) is ∙ k; conditions = subst (NoneDue until) (sym next) (omega (arith, over, after)) }
