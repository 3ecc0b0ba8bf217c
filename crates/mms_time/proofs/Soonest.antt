-- The least deadline of all semaphores is the least of their least ones, and one of them.
use Rattle.std.proofs.Common.{◌≡◌, ◌∙◌, ap, sym, subst, refl, ℕ, ◌+◌, ◌==◌, nat_lt, Bool, true, false, cond, ◌||◌, ◌&&◌, List, [], ◌∷◌, ◌++◌, append-nil, append_assoc, fold, map, take, slice_get, Option, None, Some, IfSome, option_map, option_and_then}
use Rattle.std.specs.declared.cmp.Ordering.{Ordering}
use Rattle.std.specs.declared.cmp.Ordering.TheVariants.{Less, Equal, Greater}
use Rattle.std.specs.Ordering.{is_lt, nat_cmp, ordering_then}
use Rattle.std.specs.Cmp.{IsStrictWeakOrder, IsTotalOrder, nat_cmp_total, on_total, then_total, tied_itself}
use Rattle.std.specs.List.{IsDistinct, flat_map}
use Rattle.std.specs.Map.{keys_of, lookup}
use Rattle.std.proofs.lemmas.List.Sorted.{ranks_by}
use Rattle.std.proofs.lemmas.List.Sums.{fold-append}
use Rattle.std.proofs.lemmas.Map.Entries.{lookup_from_place}
use Rattle.mms_types.specs.KeyLaws.{keys_equal, keys_total}
use Rattle.mms_types.specs.Order.{key_eq}
use Rattle.mms_types.specs.declared.key.Key.{Key}
use Rattle.object_names.proofs.Listed.{take_next}
use Rattle.token_sem.specs.Semaphore.{deadline_at, deadlines, earlier, first_deadline, least, sooner}
use Rattle.token_sem.specs.declared.entry.Deadline.{Deadline}
use Rattle.mms_time.specs.Deadlines.{NamedDeadline, all_deadlines, deadline_in, deadlines_of, due_meant, due_order, due_sooner, first_due, named_deadline, pick}
use Rattle.mms_time.specs.Semaphores.{Rows, entries_of}
use Rattle.mms_time.specs.declared.due.Due.{Due}
use Rattle.mms_time.specs.declared.row.SemaphoreRow.{SemaphoreRow}

pub due_total : IsTotalOrder due_order
due_total =
    then_total (then_total (then_total (on_total (λ (d : NamedDeadline). d.at.0) nat_cmp_total) (on_total (λ (d : NamedDeadline). d.kind) nat_cmp_total)) (on_total (λ (d : NamedDeadline). d.key) keys_total))
    (on_total (λ (d : NamedDeadline). d.entry) nat_cmp_total)

pub due_ranks : IsStrictWeakOrder due_sooner
due_ranks = ranks_by due_total (λ d. d)

-- the least of two lists is the lesser of their least ones
module _ {A : Type 0} (less : A → A → Bool) (order : IsStrictWeakOrder less) where
  two : (b y m : A) → Some (cond (less m (cond (less y b) y b)) m (cond (less y b) y b)) ≡ Some (cond (less (cond (less m y) m y) b) (cond (less m y) m y) b)
  two b y m = by_tests (less y b) refl (less m y) refl (less m b) refl
    where
      by_tests : (p : Bool) → less y b ≡ p → (q : Bool) → less m y ≡ q → (r : Bool) → less m b ≡ r
          → Some (cond (less m (cond p y b)) m (cond p y b)) ≡ Some (cond (less (cond q m y) b) (cond q m y) b)
      by_tests true p true q true r = ap (λ c. Some (cond c m y)) q ∙ ap (λ c. Some (cond c m b)) (sym r)
      by_tests true p true q false r = absurd (let n = order.chain y m b (order.one_way m y q) r in cc (n, p))
      by_tests true p false q r rr = ap (λ c. Some (cond c m y)) q ∙ ap (λ c. Some (cond c y b)) (sym p)
      by_tests false p true q r rr = refl
      by_tests false p false q true r = absurd (let n = order.chain m y b q p in cc (n, r))
      by_tests false p false q false r = ap (λ c. Some (cond c m b)) r ∙ ap (λ c. Some (cond c y b)) (sym p)

  fold_pick : (ys : List A) (b : A) → fold (earlier less) (Some b) ys ≡ pick less (Some b) (least less ys)
  fold_pick [] b = refl
  fold_pick (y ∷ ys) b = fold_pick ys (cond (less y b) y b) ∙ by_least (least less ys) ∙ ap (pick less (Some b)) (sym (fold_pick ys y))
    where
      by_least : (o : Option A) → pick less (Some (cond (less y b) y b)) o ≡ pick less (Some b) (pick less (Some y) o)
      by_least None = refl
      by_least (Some m) = two b y m

  pub least_append : (xs ys : List A) → least less (xs ++ ys) ≡ pick less (least less xs) (least less ys)
  least_append xs ys = fold-append (earlier less) None xs ys ∙ by_best (least less xs)
    where
      none : (o : Option A) → o ≡ pick less None o
      none None = refl
      none (Some x) = refl

      by_best : (o : Option A) → fold (earlier less) o ys ≡ pick less o (least less ys)
      by_best None = none (least less ys)
      by_best (Some b) = fold_pick ys b

flat_more : {X A : Type 0} (f : X → List A) (xs : List X) (x : X) → flat_map f (xs ++ x ∷ []) ≡ flat_map f xs ++ f x
flat_more f [] x = append-nil (f x)
flat_more f (y ∷ ys) x = ap (λ l. f y ++ l) (flat_more f ys x) ∙ sym (append_assoc (f y) (flat_map f ys) (f x))

-- in one semaphore the order is that of its deadlines
module _ (key : Key) where
  same_order : (a b : Deadline) → due_sooner (named_deadline key a) (named_deadline key b) ≡ sooner a b
  same_order a b =
      ap (λ (o : Ordering). is_lt (ordering_then (ordering_then (ordering_then (nat_cmp a.at.0 b.at.0) (nat_cmp a.kind b.kind)) o) (nat_cmp a.number b.number))) (tied_itself keys_total key)
      ∙ by_tests (nat_lt a.at.0 b.at.0) (a.at.0 == b.at.0) (nat_lt a.kind b.kind) (a.kind == b.kind) (nat_lt a.number b.number) (a.number == b.number)
    where
      by_tests : (s t u v w x : Bool)
          → is_lt (ordering_then (ordering_then (ordering_then (cond s Less (cond t Equal Greater)) (cond u Less (cond v Equal Greater))) Equal) (cond w Less (cond x Equal Greater)))
          ≡ (s || (t && (u || (v && w))))
      by_tests true t u v w x = refl
      by_tests false false u v w x = refl
      by_tests false true true v w x = refl
      by_tests false true false false w x = refl
      by_tests false true false true true x = refl
      by_tests false true false true false true = refl
      by_tests false true false true false false = refl

  named_fold : (ds : List Deadline) (best : Option Deadline)
      → fold (earlier due_sooner) (option_map (named_deadline key) best) (map (named_deadline key) ds) ≡ option_map (named_deadline key) (fold (earlier sooner) best ds)
  named_fold [] best = refl
  named_fold (d ∷ ds) best =
      ap (λ (o : Option NamedDeadline). fold (earlier due_sooner) o (map (named_deadline key) ds)) (step best) ∙ named_fold ds (earlier sooner best d)
    where
      chosen : (t : Bool) (x : Deadline) → cond t (named_deadline key d) (named_deadline key x) ≡ named_deadline key (cond t d x)
      chosen true x = refl
      chosen false x = refl

      step : (o : Option Deadline) → earlier due_sooner (option_map (named_deadline key) o) (named_deadline key d) ≡ option_map (named_deadline key) (earlier sooner o d)
      step None = refl
      step (Some x) = ap (λ (t : Bool). Some (cond t (named_deadline key d) (named_deadline key x))) (same_order d x) ∙ ap (λ (n : NamedDeadline). Some n) (chosen (sooner d x) x)

  pub named_first : (row : SemaphoreRow) (d : Option Deadline) → d ≡ first_deadline (entries_of row) → option_map (named_deadline key) d ≡ least due_sooner (deadlines_of (key, row))
  named_first row d is = ap (option_map (named_deadline key)) is ∙ sym (named_fold (deadlines (entries_of row)) None)

-- one semaphore more
pub first_more : (rows : Rows) (i : ℕ) (key : Key) (row : SemaphoreRow) (a b r : Option NamedDeadline) → slice_get rows i ≡ Some (key, row)
    → a ≡ first_due (take i rows) → b ≡ least due_sooner (deadlines_of (key, row)) → r ≡ pick due_sooner a b → r ≡ first_due (take (i + 1) rows)
first_more rows i key row a b r at before here is =
    is
    ∙ ap (λ (o : Option NamedDeadline). pick due_sooner o b) before
    ∙ ap (pick due_sooner (first_due (take i rows))) here
    ∙ sym (least_append due_sooner due_ranks (all_deadlines (take i rows)) (deadlines_of (key, row)))
    ∙ ap (least due_sooner) (sym (flat_more deadlines_of (take i rows) (key, row)))
    ∙ ap first_due (sym (take_next rows i (key, row) at))

module _ (rows : Rows) where
  -- it is a deadline of the table
  abbrev pub Stands : NamedDeadline → Type 0
  Stands d = deadline_in d.key d.entry rows ≡ Some d.at

  picked : (a : Option NamedDeadline) (d : NamedDeadline) → IfSome a Stands → Stands d → IfSome (earlier due_sooner a d) Stands
  picked None d first here = here
  picked (Some x) d first here = by_test (due_sooner d x)
    where
      by_test : (t : Bool) → Stands (cond t d x)
      by_test true = here
      by_test false = first

  pub stands_more : (i : ℕ) (key : Key) (row : SemaphoreRow) (a b r : Option NamedDeadline) → IsDistinct key_eq (keys_of rows) → slice_get rows i ≡ Some (key, row) → IfSome a Stands
      → IfSome b (λ d. deadline_at d.entry (entries_of row) ≡ Some d.at) → IfSome b (λ d. d.key ≡ key) → r ≡ pick due_sooner a b → IfSome r Stands
  stands_more i key row a None r distinct at first here named is = subst (λ (o : Option NamedDeadline). IfSome o Stands) (sym is) first
  stands_more i key row a (Some d) r distinct at first here named is =
      let found : lookup (key_eq key) rows ≡ Some row = lookup_from_place keys_equal rows i key row distinct at in
      let stands : deadline_in d.key d.entry rows ≡ Some d.at =
      ap (λ (k : Key). deadline_in k d.entry rows) named ∙ ap (option_and_then (λ (r : SemaphoreRow). deadline_at d.entry (entries_of r))) found ∙ here
      in
      subst (λ (o : Option NamedDeadline). IfSome o Stands) (sym is) (picked a d first stands)

-- what is said of a deadline is said of the one that is meant, and back
pub if_meant : (P : NamedDeadline → Type 0) (o : Option Due) → IfSome o (λ due. P (due_meant due)) → IfSome (option_map due_meant o) P
if_meant P None h = tt
if_meant P (Some due) h = h

pub if_due : (P : NamedDeadline → Type 0) (o : Option Due) → IfSome (option_map due_meant o) P → IfSome o (λ due. P (due_meant due))
if_due P None h = tt
if_due P (Some due) h = h
