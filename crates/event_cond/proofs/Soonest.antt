-- The next evaluation of all: one row after the other, and the least of them.
use Rattle.std.proofs.Common.{◌≡◌, ◌∙◌, ap, sym, subst, refl, ℕ, suc, zero, ◌+◌, ◌⊎◌, inl, inr, ◌<◌, Bool, true, false, cond, List, [], ◌∷◌, ◌++◌, fold, get_or, length, take, slice_get, Option, None, Some, IfSome, option_map, option_and_then, arith, All}
use Rattle.std.specs.Cmp.{IsStrictWeakOrder, IsTotalOrder, nat_cmp_total, on_total, then_total}
use Rattle.std.specs.List.{IsDistinct}
use Rattle.std.specs.Map.{keys_of, lookup}
use Rattle.std.proofs.lemmas.List.Sorted.{ranks_by}
use Rattle.std.proofs.lemmas.Map.Entries.{lookup_from_place}
use Rattle.mms_types.specs.KeyLaws.{keys_equal, keys_total}
use Rattle.mms_types.specs.Order.{key_eq}
use Rattle.mms_types.specs.declared.key.Key.{Key}
use Rattle.mms_types.specs.declared.moment.Moment.{Moment}
use Rattle.object_names.proofs.Listed.{take_next}
use Rattle.event_cond.specs.Conditions.{Rows}
use Rattle.event_cond.specs.Evaluations.{evaluation_of, evaluation_order, evaluations, next_evaluation, next_named, next_of, sooner, sooner_if, sooner_of}
use Rattle.event_cond.specs.declared.condition.Condition.{Condition}

-- the evaluations of rows with one more
with_row : (rows : Rows) (key : Key) (c : Condition) (first : Option (Moment × Key))
    → fold sooner_of first (evaluations (rows ++ (key, c) ∷ [])) ≡ sooner_if (fold sooner_of first (evaluations rows)) (evaluation_of (key, c))
with_row [] key c first = by_last (evaluation_of (key, c)) refl
  where
    by_last : (o : Option (Moment × Key)) → evaluation_of (key, c) ≡ o → fold sooner_of first (evaluations ((key, c) ∷ [])) ≡ sooner_if first o
    by_last None e = rw e refl
    by_last (Some x) e = rw e refl
with_row (row ∷ rows) key c first = by_first (evaluation_of row) refl (λ next. with_row rows key c next)
  where
    by_first : (o : Option (Moment × Key)) → evaluation_of row ≡ o
        → ((next : Option (Moment × Key)) → fold sooner_of next (evaluations (rows ++ (key, c) ∷ [])) ≡ sooner_if (fold sooner_of next (evaluations rows)) (evaluation_of (key, c)))
        → fold sooner_of first (evaluations (row ∷ rows ++ (key, c) ∷ [])) ≡ sooner_if (fold sooner_of first (evaluations (row ∷ rows))) (evaluation_of (key, c))
    by_first None e later = rw e (later first)
    by_first (Some x) e later = rw e (later (sooner_of first x))

pub first_more : (rows : Rows) (i : ℕ) (key : Key) (c : Condition) (a r : Option (Moment × Key)) → slice_get rows i ≡ Some (key, c)
    → a ≡ next_evaluation (take i rows) → r ≡ sooner_if a (option_map (λ at. (at, key)) (next_of c)) → r ≡ next_evaluation (take (i + 1) rows)
first_more rows i key c a r at before is =
    is ∙ ap (λ (o : Option (Moment × Key)). sooner_if o (evaluation_of (key, c))) before ∙ sym (with_row (take i rows) key c None)
    ∙ ap next_evaluation (sym (take_next rows i (key, c) at))

module _ (rows : Rows) where
  -- it is when the condition of that name is evaluated
  abbrev pub Stands : Moment × Key → Type 0
  Stands e = next_named e.1 rows ≡ Some e.0

  picked : (a : Option (Moment × Key)) (e : Moment × Key) → IfSome a Stands → Stands e → IfSome (sooner_of a e) Stands
  picked None e first here = here
  picked (Some x) e first here = by_test (sooner e x)
    where
      by_test : (t : Bool) → Stands (cond t e x)
      by_test true = here
      by_test false = first

  pub stands_more : (i : ℕ) (key : Key) (c : Condition) (a r : Option (Moment × Key)) → IsDistinct key_eq (keys_of rows) → slice_get rows i ≡ Some (key, c) → IfSome a Stands
      → r ≡ sooner_if a (option_map (λ at. (at, key)) (next_of c)) → IfSome r Stands
  stands_more i key c a r distinct at first is = by_next (next_of c) refl is
    where
      by_next : (o : Option Moment) → next_of c ≡ o → r ≡ sooner_if a (option_map (λ at. (at, key)) o) → IfSome r Stands
      by_next None none is = subst (λ (o : Option (Moment × Key)). IfSome o Stands) (sym is) first
      by_next (Some when) some is =
          let found : lookup (key_eq key) rows ≡ Some c = lookup_from_place keys_equal rows i key c distinct at in
          let stands : next_named key rows ≡ Some when = ap (option_and_then next_of) found ∙ some in
          subst (λ (o : Option (Moment × Key)). IfSome o Stands) (sym is) (picked a (when, key) first stands)

-- ---- none comes before the least

pub order : IsTotalOrder evaluation_order
order = then_total (on_total (λ (e : Moment × Key). e.0.0) nat_cmp_total) (on_total (λ (e : Moment × Key). e.1) keys_total)

pub ranks : IsStrictWeakOrder sooner
ranks = ranks_by order (λ e. e)

abbrev pub In : List (Moment × Key) → Moment × Key → Type 0
In [] x = ⊥
In (y ∷ ys) x = (y ≡ x) ⊎ In ys x

irreflexive : (x : Moment × Key) → sooner x x ≡ false
irreflexive x = by_test (sooner x x) refl
  where
    by_test : (b : Bool) → sooner x x ≡ b → b ≡ false
    by_test true t = sym t ∙ ranks.one_way x x t
    by_test false t = refl

fold_first : (xs : List (Moment × Key)) (b m x : Moment × Key) → fold sooner_of (Some b) xs ≡ Some m → (sooner x b ≡ false) ⊎ In xs x → sooner x m ≡ false
fold_first [] b m x e (inl h) = let same : b ≡ m = cc e in ap (sooner x) (sym same) ∙ h
fold_first [] b m x e (inr h) = absurd h
fold_first (y ∷ ys) b m x e h = by_test (sooner y b) refl h (λ c. fold_first ys c m x) e
  where
    by_test : (t : Bool) → sooner y b ≡ t → (sooner x b ≡ false) ⊎ In (y ∷ ys) x
        → ((c : Moment × Key) → fold sooner_of (Some c) ys ≡ Some m → (sooner x c ≡ false) ⊎ In ys x → sooner x m ≡ false)
        → fold sooner_of (Some (cond t y b)) ys ≡ Some m → sooner x m ≡ false
    by_test true t (inl h) ih e = ih y e (inl (ranks.chain x b y h (ranks.one_way y b t)))
    by_test true t (inr (inl same)) ih e = ih y e (inl (ap (λ z. sooner z y) (sym same) ∙ irreflexive y))
    by_test true t (inr (inr h)) ih e = ih y e (inr h)
    by_test false t (inl h) ih e = ih b e (inl h)
    by_test false t (inr (inl same)) ih e = ih b e (inl (ap (λ z. sooner z b) (sym same) ∙ t))
    by_test false t (inr (inr h)) ih e = ih b e (inr h)

pub least_first : (xs : List (Moment × Key)) (m x : Moment × Key) → fold sooner_of None xs ≡ Some m → In xs x → sooner x m ≡ false
least_first [] m x e h = absurd h
least_first (y ∷ ys) m x e (inl same) = fold_first ys y m x e (inl (ap (λ z. sooner z y) (sym same) ∙ irreflexive y))
least_first (y ∷ ys) m x e (inr h) = fold_first ys y m x e (inr h)

in_at : (xs : List (Moment × Key)) (k : ℕ) (d : Moment × Key) → k < length xs → In xs (get_or xs k d)
in_at [] k d low = absurd (omega arith)
in_at (x ∷ xs) zero d low = inl refl
in_at (x ∷ xs) (suc k) d low = inr (in_at xs k d (omega arith))

pub next_least : (rows : Rows) (e : Moment × Key) → next_evaluation rows ≡ Some e → All (λ x. sooner x e ≡ false) (evaluations rows)
next_least rows e is k d low = least_first (evaluations rows) e (get_or (evaluations rows) k d) is (in_at (evaluations rows) k d low)

some_stays : (xs : List (Moment × Key)) (b : Moment × Key) → fold sooner_of (Some b) xs ≡ None → ⊥
some_stays [] b e = cc e
some_stays (y ∷ ys) b e = some_stays ys (cond (sooner y b) y b) e

pub next_none : (rows : Rows) → next_evaluation rows ≡ None → evaluations rows ≡ []
next_none rows e = by_list (evaluations rows) e
  where
    by_list : (xs : List (Moment × Key)) → fold sooner_of None xs ≡ None → xs ≡ []
    by_list [] e = refl
    by_list (x ∷ xs) e = absurd (some_stays xs x e)
