-- The first deadline, by the keys in order of deadline.
use Rattle.std.proofs.Common.{◌≡◌, ℕ, ◌<◌, inl, inr, Bool, true, false, not, ◌&&◌, List, length, get_or, count_by, Option, None, Some, is_some, slice_get, [], ◌∷◌, refl, sym, ap, subst, ◌∙◌, arith}
use Rattle.std.proofs.lemmas.Bool.{cases_eq}
use Rattle.std.proofs.lemmas.Bool.Decides.{nat_tests}
use Rattle.mms_types.specs.declared.moment.Moment.{Moment}
use Rattle.sem_queue.specs.declared.row.Row.{Row}
use Rattle.sem_queue.specs.declared.row.Due.{Due}
use Rattle.sem_queue.specs.declared.order.Order.TheVariants.{Deadline}
use Rattle.sem_queue.specs.Rows.{due_of, sooner, first_due, kind_of}
use Rattle.sem_queue.specs.Marks.{no_row, mark_of, precedes, Rises, IsChoice, is_due}
use Rattle.sem_queue.proofs.Lists.{count-agree, count-at, none-from, none-at, passes}
use Rattle.sem_queue.proofs.Least.{same_due, first_due-is, first_due-none}
use Rattle.sem_queue.proofs.Marks.{precedes-one_way}

-- a test of deadlines passes only those that have one
passes-due : (p : Due → Bool) (r : Row) → passes p (due_of r) ≡ (is_due r && passes p (due_of r))
passes-due p r = by_deadline r.deadline refl
  where
    by_deadline : (o : Option Moment) → r.deadline ≡ o → passes p (due_of r) ≡ (is_due r && passes p (due_of r))
    by_deadline None e = let none : due_of r ≡ None = rw e refl in ap (passes p) none ∙ sym (ap (λ b. b && passes p (due_of r)) (ap is_some e))
    by_deadline (Some at) e = sym (ap (λ b. b && passes p (due_of r)) (ap is_some e))

module _ (rows dues : List Row) (choice : IsChoice is_due rows dues) (rises : Rises Deadline dues) where
  moved : (p : Due → Bool) → count_by (λ r. passes p (due_of r)) rows ≡ count_by (λ r. passes p (due_of r)) dues
  moved p = count-agree (λ r. passes p (due_of r)) (λ r. is_due r && passes p (due_of r)) (passes-due p) rows ∙ sym (choice (λ r. passes p (due_of r)))

  pub none-due : length dues ≡ 0 → first_due rows ≡ None
  none-due empty = first_due-none rows (moved (λ d. true) ∙ none-from (λ r. passes (λ d. true) (due_of r)) dues no_row (λ j lt. absurd (omega arith)))

  pub all-due : (j : ℕ) → j < length dues → is_due (get_or dues j no_row) ≡ true
  all-due j lt = turn (is_due (get_or dues j no_row)) (none-at (λ r. not (is_due r)) dues j no_row none lt)
    where
      never : (b : Bool) → (b && not b) ≡ false
      never true = refl
      never false = refl

      none : count_by (λ r. not (is_due r)) dues ≡ 0
      none = choice (λ r. not (is_due r)) ∙ none-from (λ r. is_due r && not (is_due r)) rows no_row (λ j lt. never (is_due (get_or rows j no_row)))

      turn : (b : Bool) → not b ≡ false → b ≡ true
      turn true t = refl
      turn false t = absurd cc

  pub first-due : 0 < length dues → (at : Moment) → (get_or dues 0 no_row).deadline ≡ Some at → due_of (get_or dues 0 no_row) ≡ first_due rows
  first-due some at is = due (get_or dues 0 no_row) at is ∙ sym (first_due-is rows m (moved (λ d. sooner d m) ∙ none-from (λ r. passes (λ d. sooner d m) (due_of r)) dues no_row later)
      (subst (λ (n : ℕ). 0 < n) (sym (moved (same_due m))) (count-at (λ r. passes (same_due m) (due_of r)) dues 0 no_row some here)))
    where
      m : Due
      m = record { at = at; kind = kind_of (get_or dues 0 no_row).queued; number = (get_or dues 0 no_row).number }

      same : (d : Due) → same_due d d ≡ true
      same d = grind (arith, nat_tests)

      due : (r : Row) (at : Moment) → r.deadline ≡ Some at → due_of r ≡ Some (record { at = at; kind = kind_of r.queued; number = r.number })
      due r at e = rw e refl

      here : passes (same_due (record { at = at; kind = kind_of (get_or dues 0 no_row).queued; number = (get_or dues 0 no_row).number })) (due_of (get_or dues 0 no_row)) ≡ true
      here = ap (passes (same_due m)) (due (get_or dues 0 no_row) at is) ∙ same m

      itself : (d : Due) → sooner d d ≡ false
      itself d = grind (arith, nat_tests)

      later : (j : ℕ) → j < length dues → passes (λ d. sooner d (record { at = at; kind = kind_of (get_or dues 0 no_row).queued; number = (get_or dues 0 no_row).number })) (due_of (get_or dues j no_row)) ≡ false
      later j lt = by_deadline (get_or dues j no_row).deadline refl
        where
          by_deadline : (o : Option Moment) → (get_or dues j no_row).deadline ≡ o → passes (λ d. sooner d (record { at = at; kind = kind_of (get_or dues 0 no_row).queued; number = (get_or dues 0 no_row).number })) (due_of (get_or dues j no_row)) ≡ false
          by_deadline None e = let none : due_of (get_or dues j no_row) ≡ None = rw e refl in ap (passes (λ d. sooner d m)) none
          by_deadline (Some other) e =
              ap (passes (λ d. sooner d m)) (due (get_or dues j no_row) other e)
              ∙ elim (cases_eq j 0) [
                | inl zero' ↦
                    let r = get_or dues j no_row in
                    let whole : record { at = other; kind = kind_of r.queued; number = r.number } ≡ m = same_row zero' in
                    ap (λ (d : Due). sooner d m) whole ∙ itself m
                | inr differs ↦
                    let up = rises 0 j no_row (omega arith) lt in
                    let after = precedes-one_way (mark_of Deadline (get_or dues 0 no_row)) (mark_of Deadline (get_or dues j no_row)) up in
                    sooner-is after
              ]
            where
              same_row : j ≡ 0 → record { at = other; kind = kind_of (get_or dues j no_row).queued; number = (get_or dues j no_row).number } ≡ m
              same_row z =
                  let row : get_or dues j no_row ≡ get_or dues 0 no_row = ap (λ (k : ℕ). get_or dues k no_row) z in
                  let both : Some other ≡ Some at = sym e ∙ ap (λ (r : Row). r.deadline) row ∙ is in
                  let at_is : other ≡ at = cc in
                  rw (at_is, row) refl

              sooner-is : precedes (mark_of Deadline (get_or dues j no_row)) (mark_of Deadline (get_or dues 0 no_row)) ≡ false
                  → sooner (record { at = other; kind = kind_of (get_or dues j no_row).queued; number = (get_or dues j no_row).number }) m ≡ false
              sooner-is t = rw (e, is) at t

  pub first-deadline : 0 < length dues → due_of (get_or dues 0 no_row) ≡ first_due rows
  first-deadline some = by_deadline (get_or dues 0 no_row).deadline refl
    where
      by_deadline : (o : Option Moment) → (get_or dues 0 no_row).deadline ≡ o → due_of (get_or dues 0 no_row) ≡ first_due rows
      by_deadline None e = absurd (let there = all-due 0 some in let none : is_due (get_or dues 0 no_row) ≡ false = ap is_some e in cc (there, none))
      by_deadline (Some at) e = first-due some at e

-- the first of a list
pub first-none : (keys : List ℕ) → None ≡ slice_get keys 0 → length keys ≡ 0
first-none [] e = refl
first-none (key ∷ keys) e = absurd cc

pub first-some : (keys : List ℕ) (key : ℕ) → Some key ≡ slice_get keys 0 → (0 < length keys) × (get_or keys 0 0 ≡ key)
first-some [] key e = absurd cc
first-some (k ∷ keys) key e = (omega arith, cc)
