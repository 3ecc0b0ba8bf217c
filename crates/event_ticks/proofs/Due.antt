-- The next evaluation of all stands in the table, and no other one is earlier.
use Rattle.std.proofs.Common.{◌≡◌, ◌∙◌, ap, refl, ℕ, zero, suc, ◌⊎◌, inl, inr, Bool, true, false, List, [], ◌∷◌, fold, slice_get, Option, None, Some, option_map, if◌then◌else◌}
use Rattle.std.specs.List.{IsDistinct, cons_option}
use Rattle.std.specs.Map.{keys_of}
use Rattle.std.proofs.lemmas.Map.Entries.{lookup_from_place}
use Rattle.mms_types.specs.KeyLaws.{keys_equal}
use Rattle.mms_types.specs.Order.{key_eq}
use Rattle.mms_types.specs.declared.key.Key.{Key}
use Rattle.mms_types.specs.declared.moment.Moment.{Moment}
use Rattle.event_cond.specs.Conditions.{Rows, named}
use Rattle.event_cond.specs.Evaluations.{evaluations, next_evaluation, next_of, sooner, sooner_of}
use Rattle.event_cond.specs.declared.condition.Condition.{Condition}
use Rattle.event_cond.proofs.Soonest.{In}

-- ---- it is one of them

fold_stands : (xs : List (Moment × Key)) (first : Option (Moment × Key)) (e : Moment × Key) → fold sooner_of first xs ≡ Some e → (first ≡ Some e) ⊎ In xs e
fold_stands [] first e h = inl h
fold_stands (x ∷ xs) first e h = elim (fold_stands xs (sooner_of first x) e h) [ inl here ↦ by_first first here | inr there ↦ inr (inr there) ]
  where
    by_first : (o : Option (Moment × Key)) → sooner_of o x ≡ Some e → (o ≡ Some e) ⊎ In (x ∷ xs) e
    by_first None h = inr (inl (cc h))
    by_first (Some b) h = by_test (sooner x b) h
      where
        by_test : (t : Bool) → Some (if t then x else b) ≡ Some e → (Some b ≡ Some e) ⊎ In (x ∷ xs) e
        by_test true h = inr (inl (cc h))
        by_test false h = inl h

pub stands : (rows : Rows) (e : Moment × Key) → next_evaluation rows ≡ Some e → In (evaluations rows) e
stands rows e h = elim (fold_stands (evaluations rows) None e h) [ inl none ↦ absurd (cc none) | inr there ↦ there ]

-- the condition of that name, with its next evaluation
pub record IsDue (rows : Rows) (e : Moment × Key) : Type 0 where
  pub condition : Condition
  pub found : named e.1 rows ≡ Some condition
  pub next : next_of condition ≡ Some e.0

record IsAt (rows : Rows) (e : Moment × Key) : Type 0 where
  place : ℕ
  condition : Condition
  there : slice_get rows place ≡ Some (e.1, condition)
  next : next_of condition ≡ Some e.0

at_place : (rows : Rows) (e : Moment × Key) → In (evaluations rows) e → IsAt rows e
at_place [] e h = absurd h
at_place (row ∷ rows) e h = by_next (next_of row.1) refl h (at_place rows e)
  where
    further : IsAt rows e → IsAt (row ∷ rows) e
    further r = record { place = suc r.place; condition = r.condition; there = r.there; next = r.next }

    by_next : (o : Option Moment) → next_of row.1 ≡ o → In (cons_option (option_map (λ (at : Moment). (at, row.0)) o) (evaluations rows)) e → (In (evaluations rows) e → IsAt rows e) → IsAt (row ∷ rows) e
    by_next None t h ih = further (ih h)
    by_next (Some at) t (inl same) ih = record {
      place = zero;
      condition = row.1;
      there = ap (λ (x : Moment × Key). Some (x.1, row.1)) same;
      next = t ∙ ap (λ (x : Moment × Key). Some x.0) same;
    }
    by_next (Some at) t (inr h) ih = further (ih h)

pub is_due : (rows : Rows) (e : Moment × Key) → IsDistinct key_eq (keys_of rows) → next_evaluation rows ≡ Some e → IsDue rows e
is_due rows e distinct h =
    let r = at_place rows e (stands rows e h) in
    record { condition = r.condition; found = lookup_from_place keys_equal rows r.place e.1 r.condition distinct r.there; next = r.next }
