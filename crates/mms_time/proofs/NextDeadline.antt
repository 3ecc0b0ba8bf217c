-- No deadline comes before the next one.
use Rattle.std.proofs.Common.{◌≡◌, ap, subst, refl, ℕ, zero, suc, ◌<◌, ◌≤◌, nat_lt, nat_le, ◌==◌, Bool, true, false, cond, if◌then◌else◌, inl, inr, List, [], ◌∷◌, length, get_or, Option, None, Some, arith}
use Rattle.std.proofs.lemmas.Bool.Decides.{nat_tests}
use Rattle.std.specs.List.{All}
use Rattle.std.specs.declared.cmp.Ordering.TheVariants.{Less, Equal, Greater}
use Rattle.std.specs.Ordering.{is_lt, nat_cmp, ordering_then}
use Rattle.mms_types.specs.Order.{key_order}
use Rattle.mms_types.specs.declared.moment.Moment.{Moment}
use Rattle.token_sem.proofs.Least.{Stands, least-first, least-none}
use Rattle.mms_time.specs.Deadlines.{NamedDeadline, all_deadlines, due_sooner, first_due, next_due, until_only}
use Rattle.mms_time.specs.Semaphores.{Rows}
use Rattle.mms_time.proofs.Soonest.{due_ranks}

stands_at : {A : Type 0} (xs : List A) (k : ℕ) (d : A) → k < length xs → Stands xs (get_or xs k d)
stands_at [] k d low = absurd (omega arith)
stands_at (x ∷ xs) zero d low = inl refl
stands_at (x ∷ xs) (suc k) d low = inr (stands_at xs k d (omega arith))

none_before : (rows : Rows) (d : NamedDeadline) → first_due rows ≡ Some d → All (λ x. due_sooner x d ≡ false) (all_deadlines rows)
none_before rows d is k e low = least-first due_sooner due_ranks (all_deadlines rows) d (get_or (all_deadlines rows) k e) is (stands_at (all_deadlines rows) k e low)

-- what comes not before another has no earlier moment
pub no_earlier : (x d : NamedDeadline) → due_sooner x d ≡ false → d.at.0 ≤ x.at.0
no_earlier x d h = by_test (nat_lt x.at.0 d.at.0) refl h
  where
    by_test : (b : Bool) → nat_lt x.at.0 d.at.0 ≡ b
        → is_lt (ordering_then (ordering_then (ordering_then (cond b Less (cond (x.at.0 == d.at.0) Equal Greater)) (nat_cmp x.kind d.kind)) (key_order x.key d.key)) (nat_cmp x.entry d.entry)) ≡ false
        → d.at.0 ≤ x.at.0
    by_test true t k = absurd cc
    by_test false t k = grind (arith, nat_tests)

record In (until : Moment) (o : Option NamedDeadline) (d : NamedDeadline) : Type 0 where
  is : o ≡ Some d
  by_then : d.at.0 ≤ until.0

in_time : (until : Moment) (o : Option NamedDeadline) (d : NamedDeadline) → until_only until o ≡ Some d → In until o d
in_time until None d e = absurd cc
in_time until (Some x) d e = by_test (nat_le x.at.0 until.0) refl e
  where
    by_test : (b : Bool) → nat_le x.at.0 until.0 ≡ b → (if b then Some x else None) ≡ Some d → In until (Some x) d
    by_test true t k =
        let same : x ≡ d = cc in
        let low : x.at.0 ≤ until.0 = grind (arith, nat_tests) in
        record { is = k; by_then = subst (λ (y : NamedDeadline). y.at.0 ≤ until.0) same low }
    by_test false t k = absurd cc

pub next_least : (until : Moment) (rows : Rows) (d : NamedDeadline) → next_due until rows ≡ Some d → All (λ x. due_sooner x d ≡ false) (all_deadlines rows)
next_least until rows d e = none_before rows d (in_time until (first_due rows) d e).is

pub next_by_then : (until : Moment) (rows : Rows) (d : NamedDeadline) → next_due until rows ≡ Some d → d.at.0 ≤ until.0
next_by_then until rows d e = (in_time until (first_due rows) d e).by_then

pub next_none : (until : Moment) (rows : Rows) → next_due until rows ≡ None → All (λ x. until.0 < x.at.0) (all_deadlines rows)
next_none until rows e = by_first (first_due rows) refl e
  where
    by_first : (o : Option NamedDeadline) → first_due rows ≡ o → until_only until o ≡ None → All (λ x. until.0 < x.at.0) (all_deadlines rows)
    by_first None is h k d low = let empty : length (all_deadlines rows) ≡ 0 = ap length (least-none due_sooner (all_deadlines rows) is) in absurd (omega arith)
    by_first (Some m) is h k d low = by_test (nat_le m.at.0 until.0) refl h
      where
        by_test : (b : Bool) → nat_le m.at.0 until.0 ≡ b → (if b then Some m else None) ≡ None → until.0 < (get_or (all_deadlines rows) k d).at.0
        by_test true t g = absurd cc
        by_test false t g =
            let after : m.at.0 ≤ (get_or (all_deadlines rows) k d).at.0 = no_earlier (get_or (all_deadlines rows) k d) m (none_before rows m is k d low) in
            let over : until.0 < m.at.0 = grind (arith, nat_tests, t) in
            omega arith
