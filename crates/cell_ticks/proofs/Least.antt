-- The least deadline of a device is the sooner of the least one of its semaphores and of its next evaluation.
use Rattle.std.proofs.Common.{◌≡◌, ◌∙◌, ap, subst, refl, ◌<◌, ◌⊎◌, inl, inr, ◌==◌, nat_lt, Bool, true, false, cond, List, [], ◌∷◌, ◌++◌, fold, map, Option, None, Some, option_map, if◌then◌else◌, arith}
use Rattle.std.specs.List.{cons_option}
use Rattle.std.specs.declared.cmp.Ordering.{Ordering}
use Rattle.std.specs.declared.cmp.Ordering.TheVariants.{Less, Equal, Greater}
use Rattle.std.specs.Ordering.{is_lt, nat_cmp, ordering_then}
use Rattle.std.proofs.lemmas.Bool.Decides.{nat_tests}
use Rattle.mms_types.specs.Order.{key_order}
use Rattle.mms_types.specs.declared.key.Key.{Key}
use Rattle.mms_types.specs.declared.moment.Moment.{Moment}
use Rattle.token_sem.specs.Semaphore.{acceptable_delay, control_time_out, deadline_with, deadlines, earlier, is_queued}
use Rattle.token_sem.specs.declared.entry.SemEntry.{SemEntry}
use Rattle.token_sem.proofs.Least.{Stands, least-stands}
use Rattle.mms_time.specs.Deadlines as sem
use Rattle.mms_time.specs.Deadlines.{NamedDeadline, deadlines_of, due_sooner, named_deadline, pick}
use Rattle.mms_time.specs.Semaphores as sem_rows
use Rattle.mms_time.specs.Semaphores.{entries_of}
use Rattle.mms_time.proofs.Soonest.{due_ranks, least_append}
use Rattle.event_cond.specs.Conditions as cond
use Rattle.event_cond.specs.Evaluations.{evaluations, next_evaluation, sooner, sooner_of}
use Rattle.cell_ticks.specs.Deadlines.{evaluation, evaluation_due, first_due}

-- ---- among evaluations the order is theirs

same_order : (a b : Moment × Key) → due_sooner (evaluation_due a) (evaluation_due b) ≡ sooner a b
same_order a b = by_tests (nat_lt a.0.0 b.0.0) (a.0.0 == b.0.0) (key_order a.1 b.1)
  where
    by_tests : (s t : Bool) (o : Ordering)
        → is_lt (ordering_then (ordering_then (ordering_then (cond s Less (cond t Equal Greater)) (nat_cmp 2 2)) o) (nat_cmp 0 0)) ≡ is_lt (ordering_then (cond s Less (cond t Equal Greater)) o)
    by_tests true t o = refl
    by_tests false true Less = refl
    by_tests false true Equal = refl
    by_tests false true Greater = refl
    by_tests false false o = refl

due_fold : (es : List (Moment × Key)) (best : Option (Moment × Key))
    → fold (earlier due_sooner) (option_map evaluation_due best) (map evaluation_due es) ≡ option_map evaluation_due (fold sooner_of best es)
due_fold [] best = refl
due_fold (e ∷ es) best = ap (λ (o : Option NamedDeadline). fold (earlier due_sooner) o (map evaluation_due es)) (by_best best) ∙ due_fold es (sooner_of best e)
  where
    by_best : (o : Option (Moment × Key)) → earlier due_sooner (option_map evaluation_due o) (evaluation_due e) ≡ option_map evaluation_due (sooner_of o e)
    by_best None = refl
    by_best (Some b) = by_test (sooner e b) (due_sooner (evaluation_due e) (evaluation_due b)) (same_order e b)
      where
        by_test : (t u : Bool) → u ≡ t → Some (if u then evaluation_due e else evaluation_due b) ≡ option_map evaluation_due (Some (if t then e else b))
        by_test true true h = refl
        by_test true false h = absurd (cc h)
        by_test false true h = absurd (cc h)
        by_test false false h = refl

pub first_is : (semaphores : sem_rows.Rows) (conditions : cond.Rows)
    → first_due semaphores conditions ≡ pick due_sooner (sem.first_due semaphores) (option_map evaluation_due (next_evaluation conditions))
first_is semaphores conditions =
    least_append due_sooner due_ranks (sem.all_deadlines semaphores) (map evaluation_due (evaluations conditions))
    ∙ ap (pick due_sooner (sem.first_due semaphores)) (due_fold (evaluations conditions) None)

-- ---- the deadlines of semaphores are of the kinds before

of_entries : (key : Key) (es : List SemEntry) (d : NamedDeadline) → Stands (map (named_deadline key) (deadlines es)) d → d.kind < evaluation
of_entries key [] d h = absurd h
of_entries key (e ∷ es) d h = by_deadline e.deadline h (of_entries key es d)
  where
    by_state : (b : Bool) → (if b then acceptable_delay else control_time_out) < evaluation
    by_state true = omega arith
    by_state false = omega arith

    by_deadline : (o : Option Moment) → Stands (map (named_deadline key) (cons_option (deadline_with o e) (deadlines es))) d
        → (Stands (map (named_deadline key) (deadlines es)) d → d.kind < evaluation) → d.kind < evaluation
    by_deadline None k rest = rest k
    by_deadline (Some m) (inl same) rest = subst (λ (x : NamedDeadline). x.kind < evaluation) same (by_state (is_queued e))
    by_deadline (Some m) (inr k) rest = rest k

either : {A : Type 0} (xs ys : List A) (x : A) → Stands (xs ++ ys) x → Stands xs x ⊎ Stands ys x
either [] ys x h = inr h
either (z ∷ xs) ys x (inl h) = inl (inl h)
either (z ∷ xs) ys x (inr h) = elim (either xs ys x h) [ inl i ↦ inl (inr i) | inr i ↦ inr i ]

of_rows : (rows : sem_rows.Rows) (d : NamedDeadline) → Stands (sem.all_deadlines rows) d → d.kind < evaluation
of_rows [] d h = absurd h
of_rows (row ∷ rows) d h = elim (either (deadlines_of row) (sem.all_deadlines rows) d h) [ inl here ↦ of_entries row.0 (entries_of row.1) d here | inr more ↦ of_rows rows d more ]

pub kind_before : (rows : sem_rows.Rows) (d : NamedDeadline) → sem.first_due rows ≡ Some d → d.kind < evaluation
kind_before rows d is = of_rows rows d (least-stands due_sooner (sem.all_deadlines rows) d is)

-- of one moment they come before an evaluation
pub moments_decide : (e : Moment × Key) (d : NamedDeadline) → d.kind < evaluation → due_sooner (evaluation_due e) d ≡ nat_lt e.0.0 d.at.0
moments_decide e d low = by_tests (nat_lt e.0.0 d.at.0) (e.0.0 == d.at.0) (nat_lt 2 d.kind) (grind (arith, nat_tests)) (2 == d.kind) (grind (arith, nat_tests))
  where
    by_tests : (s t u : Bool) → u ≡ false → (v : Bool) → v ≡ false
        → is_lt (ordering_then (ordering_then (ordering_then (cond s Less (cond t Equal Greater)) (cond u Less (cond v Equal Greater))) (key_order e.1 d.key)) (nat_cmp 0 d.entry)) ≡ s
    by_tests true t u p v q = refl
    by_tests false true true p v q = absurd (cc p)
    by_tests false true false p true q = absurd (cc q)
    by_tests false true false p false q = refl
    by_tests false false u p v q = refl
