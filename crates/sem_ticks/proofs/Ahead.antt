-- After a tick every deadline lies later.
use Rattle.std.proofs.Common.{◌≡◌, ◌≢◌, true, false, ℕ, zero, suc, ◌<◌, ◌⊎◌, inl, inr, Bool, nat_le, List, [], ◌∷◌, ◌++◌, map, slice_get, Option, None, Some, option_and_then, option_map, if◌then◌else◌, refl, sym, ◌∙◌, ap, subst, arith}
use Rattle.std.specs.List.{All, cons_option, flat_map}
use Rattle.std.specs.Map.{lookup}
use Rattle.std.proofs.lemmas.Map.Entries.{lookup_from_place}
use Rattle.mms_types.specs.KeyLaws.{keys_equal}
use Rattle.mms_types.specs.Order.{key_eq}
use Rattle.mms_types.specs.declared.key.Key.{Key}
use Rattle.mms_types.specs.declared.moment.Moment.{Moment}
use Rattle.token_sem.specs.Semaphore.{deadline_of, deadline_with, deadlines, numbered}
use Rattle.token_sem.specs.declared.entry.Deadline.{Deadline}
use Rattle.token_sem.specs.declared.entry.SemEntry.{SemEntry}
use Rattle.token_sem.proofs.Keeping.{Among}
use Rattle.token_sem.proofs.Least.{Stands, least-stands}
use Rattle.token_sem.proofs.Serving.{numbered-at}
use Rattle.mms_time.specs.Deadlines.{NamedDeadline, all_deadlines, deadlines_of, due_sooner, expired, expired_entry, expired_in, first_due, named_deadline, next_due, until_only}
use Rattle.mms_time.specs.Semaphores.{IsSound, Rows, entries_in, entries_of}
use Rattle.mms_time.specs.declared.row.Semaphore.{Semaphore}
use Rattle.mms_time.specs.declared.row.Semaphore.TheVariants.{Token, Pool}
use Rattle.mms_time.specs.declared.row.SemaphoreRow.{SemaphoreRow}
use Rattle.mms_time.proofs.NextDeadline.{next_none}
use Rattle.sem_ticks.specs.Sound.{AreSound}
use Rattle.sem_ticks.specs.Ticks.{Ticking, entries_left, met, met_as, next_met, ticked_on}
use Rattle.sem_ticks.proofs.Fewer.{falls}
use Rattle.sem_ticks.proofs.Kept.{keeps_ticked, row_found}
use Rattle.sem_ticks.proofs.Settling.{settle-ends}

module _ {A : Type 0} where
  stands_append : (xs ys : List A) (x : A) → Stands (xs ++ ys) x → Stands xs x ⊎ Stands ys x
  stands_append [] ys x h = inr h
  stands_append (z ∷ xs) ys x (inl h) = inl (inl h)
  stands_append (z ∷ xs) ys x (inr h) = elim (stands_append xs ys x h) [ inl i ↦ inl (inr i) | inr i ↦ inr i ]

-- the entry of a deadline in one semaphore
record IsOf (entries : List SemEntry) (number : ℕ) : Type 0 where
  entry : SemEntry
  there : Among entries entry
  same : entry.number ≡ number

of_entry : (e : SemEntry) (d : Deadline) → deadline_of e ≡ Some d → e.number ≡ d.number
of_entry e d h = by_deadline e.deadline h
  where
    by_deadline : (o : Option Moment) → deadline_with o e ≡ Some d → e.number ≡ d.number
    by_deadline None g = absurd (cc g)
    by_deadline (Some at) g = cc g

of_deadlines : (entries : List SemEntry) (d : Deadline) → Stands (deadlines entries) d → IsOf entries d.number
of_deadlines [] d h = absurd h
of_deadlines (e ∷ es) d h = by_deadline (deadline_of e) refl h (of_deadlines es d)
  where
    later : IsOf es d.number → IsOf (e ∷ es) d.number
    later r = record { entry = r.entry; there = inr r.there; same = r.same }

    by_deadline : (o : Option Deadline) → deadline_of e ≡ o → Stands (cons_option o (deadlines es)) d → (Stands (deadlines es) d → IsOf es d.number) → IsOf (e ∷ es) d.number
    by_deadline None t h ih = later (ih h)
    by_deadline (Some x) t (inl same) ih = record { entry = e; there = inl refl; same = of_entry e d (t ∙ ap Some same) }
    by_deadline (Some x) t (inr h) ih = later (ih h)

-- under the name of its semaphore
record IsNamed (key : Key) (entries : List SemEntry) (d : NamedDeadline) : Type 0 where
  name : key ≡ d.key
  of : IsOf entries d.entry

of_named : (key : Key) (entries : List SemEntry) (ds : List Deadline) → ((x : Deadline) → Stands ds x → IsOf entries x.number) → (d : NamedDeadline)
    → Stands (map (named_deadline key) ds) d → IsNamed key entries d
of_named key entries [] each d h = absurd h
of_named key entries (x ∷ ds) each d (inl same) = record {
  name = ap (λ (n : NamedDeadline). n.key) same;
  of = subst (IsOf entries) (ap (λ (n : NamedDeadline). n.entry) same) (each x (inl refl));
}
of_named key entries (x ∷ ds) each d (inr h) = of_named key entries ds (λ y there. each y (inr there)) d h

-- among all
record IsIn (rows : Rows) (d : NamedDeadline) : Type 0 where
  place : ℕ
  row : SemaphoreRow
  there : slice_get rows place ≡ Some (d.key, row)
  of : IsOf (entries_of row) d.entry

in_rows : (rows : Rows) (d : NamedDeadline) → Stands (all_deadlines rows) d → IsIn rows d
in_rows [] d h = absurd h
in_rows (row ∷ rows) d h = elim (stands_append (deadlines_of row) (flat_map deadlines_of rows) d h) [
  | inl here ↦ let n = of_named row.0 (entries_of row.1) (deadlines (entries_of row.1)) (of_deadlines (entries_of row.1)) d here in
      record { place = zero; row = row.1; there = ap (λ (k : Key). Some (k, row.1)) n.name; of = n.of }
  | inr more ↦ let r = in_rows rows d more in record { place = suc r.place; row = r.row; there = r.there; of = r.of }
]

-- where entries rise in number, the entry of that number is found
is_numbered : (s : Semaphore) (number : ℕ) → IsSound s → IsOf (entries_in s) number → (e : SemEntry) × (numbered number (entries_in s) ≡ Some e)
is_numbered (Token s) number sound of =
    (of.entry, ap (λ (n : ℕ). numbered n s.entries) (sym of.same) ∙ numbered-at 0 s.made s.entries of.entry sound.rises of.there)
is_numbered (Pool p) number sound of =
    (of.entry, ap (λ (n : ℕ). numbered n p.entries) (sym of.same) ∙ numbered-at 0 p.made p.entries of.entry sound.rises of.there)

pub not_none : (rows : Rows) (d : NamedDeadline) → AreSound rows → Stands (all_deadlines rows) d → expired d.key d.entry rows ≢ None
not_none rows d is stands none =
    let r = in_rows rows d stands in
    let found : lookup (key_eq d.key) rows ≡ Some r.row = lookup_from_place keys_equal rows r.place d.key r.row is.names r.there in
    let e = is_numbered r.row.semaphore d.entry (row_found rows d.key r.row is.each found) r.of in
    let some = ap (option_and_then (expired_in d.entry)) found ∙ ap (expired_entry r.row.semaphore) e.1 in
    cc (sym some ∙ none)

-- what is due is met
pub due_stands : (until : Moment) (rows : Rows) (d : NamedDeadline) → next_due until rows ≡ Some d → Stands (all_deadlines rows) d
due_stands until rows d is = by_first (first_due rows) refl is
  where
    by_first : (o : Option NamedDeadline) → first_due rows ≡ o → until_only until o ≡ Some d → Stands (all_deadlines rows) d
    by_first None e h = absurd (cc h)
    by_first (Some x) e h = by_test (nat_le x.at.0 until.0) h
      where
        by_test : (b : Bool) → (if b then Some x else None) ≡ Some d → Stands (all_deadlines rows) d
        by_test true k = least-stands due_sooner (all_deadlines rows) d (e ∙ k)
        by_test false k = absurd (cc k)

pub none_due : (until : Moment) (s : Ticking) → AreSound s.rows → next_met until s ≡ None → next_due until s.rows ≡ None
none_due until s is none = by_due (next_due until s.rows) refl none
  where
    by_due : (o : Option NamedDeadline) → next_due until s.rows ≡ o → option_and_then (met s) o ≡ None → o ≡ None
    by_due None e h = refl
    by_due (Some d) e h = by_expired (expired d.key d.entry s.rows) refl h
      where
        by_expired : (x : _) → expired d.key d.entry s.rows ≡ x → option_map (met_as s d) x ≡ None → Some d ≡ None
        by_expired None gone g = absurd (not_none s.rows d is (due_stands until s.rows d e) gone)
        by_expired (Some x) gone g = absurd (cc g)

pub ahead : (until : Moment) (s : Ticking) → AreSound s.rows → All (λ d. until.0 < d.at.0) (all_deadlines (ticked_on until s).rows)
ahead until s is =
    let end = ticked_on until s in
    next_none until end.rows
    (none_due until end (keeps_ticked until s is)
    (settle-ends (next_met until) (λ t. entries_left t.rows) (falls until) (entries_left s.rows) s (omega arith)))
