-- What holds of the semaphores of a device at any time stays so.
use Rattle.std.proofs.Common.{◌≡◌, ℕ, zero, suc, Bool, true, false, not, cond, [], ◌∷◌, filter, Option, None, Some, IfSome, option_and_then, option_map, refl, sym, subst, arith}
use Rattle.std.specs.List.{All, IsDistinct}
use Rattle.std.specs.Map.{lookup, values_of}
use Rattle.std.proofs.lemmas.Map.{keys-set_value}
use Rattle.std.proofs.lemmas.Map.Made.{IsDistinct-keys_filter, keys_of-map_values}
use Rattle.std.proofs.lemmas.Map.Views.{All-values-set_value, IfSome-lookup_from_All}
use Rattle.mms_types.specs.Order.{key_eq, scope_eq}
use Rattle.mms_types.specs.declared.key.Key.{Key}
use Rattle.mms_types.specs.declared.key.Scope.TheVariants.{Association}
use Rattle.mms_types.specs.declared.moment.Moment.{Moment}
use Rattle.token_sem.specs.declared.entry.Expired.{Expired}
use Rattle.token_sem.proofs.Keeping.{expire-keeps}
use Rattle.token_sem.proofs.Losing.{lose-keeps}
use Rattle.mms_time.specs.Deadlines.{NamedDeadline, expired, expire_after, next_due, without_due}
use Rattle.mms_time.specs.Loss.{all_changed, lost, semaphore_without}
use Rattle.mms_time.specs.Semaphores.{IsSound, Rows, changed, changed_row, changed_to}
use Rattle.mms_time.specs.declared.row.Semaphore.{Semaphore}
use Rattle.mms_time.specs.declared.row.Semaphore.TheVariants.{Token, Pool}
use Rattle.pool_sem.proofs.Losing as pool-lose
use Rattle.pool_sem.proofs.Freeing as pool-free
use Rattle.mms_time.specs.declared.row.SemaphoreRow.{SemaphoreRow}
use Rattle.mms_time.proofs.TwoSteps.{each_semaphore}
use Rattle.sem_ticks.specs.Sound.{AreSound}
use Rattle.sem_ticks.specs.Ticks.{Ticking, after_abort, entries_left, met, met_as, next_met, ticked_on}
use Rattle.sem_ticks.proofs.Settling.{settle-keeps}

abbrev pub IsSoundRow : SemaphoreRow → Type 0
IsSoundRow row = IsSound row.semaphore

pub row_found : (rows : Rows) (key : Key) (row : SemaphoreRow) → All IsSoundRow (values_of rows) → lookup (key_eq key) rows ≡ Some row → IsSoundRow row
row_found rows key row all found = subst (λ (o : Option SemaphoreRow). IfSome o IsSoundRow) found (IfSome-lookup_from_All IsSoundRow (key_eq key) rows all)

-- one semaphore is changed
pub keeps_changed : (f : Semaphore → Semaphore) (key : Key) (rows : Rows)
    → ((row : SemaphoreRow) → lookup (key_eq key) rows ≡ Some row → IsSoundRow row → IsSound (f row.semaphore)) → AreSound rows → AreSound (changed f key rows)
keeps_changed f key rows each is = by_row (lookup (key_eq key) rows) refl
  where
    by_row : (o : Option SemaphoreRow) → lookup (key_eq key) rows ≡ o → AreSound (changed_to o f key rows)
    by_row None found = is
    by_row (Some row) found = record {
      names = subst (IsDistinct key_eq) (sym (keys-set_value (key_eq key) rows (changed_row f row))) is.names;
      each = All-values-set_value (key_eq key) IsSoundRow rows (changed_row f row) is.each (each row found (row_found rows key row is.each found));
    }

-- all are changed
each_changed : (f : Semaphore → Semaphore) → ((s : Semaphore) → IsSound s → IsSound (f s)) → (rows : Rows) → All IsSoundRow (values_of rows) → All IsSoundRow (values_of (all_changed f rows))
each_changed f keeps [] all k d low = absurd (omega (arith, low))
each_changed f keeps (row ∷ rows) all zero d low = keeps row.1.semaphore (all zero d (omega arith))
each_changed f keeps (row ∷ rows) all (suc k) d low = each_changed f keeps rows (λ j e less. all (suc j) e (omega (arith, less))) k d (omega (arith, low))

pub keeps_all : (f : Semaphore → Semaphore) → ((s : Semaphore) → IsSound s → IsSound (f s)) → (rows : Rows) → AreSound rows → AreSound (all_changed f rows)
keeps_all f keeps rows is = record {
  names = subst (IsDistinct key_eq) (sym (keys_of-map_values (changed_row f) rows)) is.names;
  each = each_changed f keeps rows is.each;
}

-- some are taken away
each_left : (p : Key × SemaphoreRow → Bool) (rows : Rows) → All IsSoundRow (values_of rows) → All IsSoundRow (values_of (filter p rows))
each_left p [] all = all
each_left p (row ∷ rows) all = by_test (p row) (each_left p rows (λ j e less. all (suc j) e (omega (arith, less))))
  where
    by_test : (b : Bool) → All IsSoundRow (values_of (filter p rows)) → All IsSoundRow (values_of (cond b (row ∷ filter p rows) (filter p rows)))
    by_test true rest zero d low = all zero d (omega arith)
    by_test true rest (suc k) d low = rest k d (omega (arith, low))
    by_test false rest k d low = rest k d low

pub keeps_left : (p : Key × SemaphoreRow → Bool) (rows : Rows) → AreSound rows → AreSound (filter p rows)
keeps_left p rows is = record { names = IsDistinct-keys_filter key_eq p rows is.names; each = each_left p rows is.each }

-- a client is lost
client_lost : (client : ℕ) (now : Moment) (s : Semaphore) → IsSound s → IsSound (semaphore_without client now s)
client_lost client now (Token s) is = lose-keeps s client now is
client_lost client now (Pool p) is = pool-lose.lose-keeps p client now is

pub keeps_lost : (client : ℕ) (now : Moment) (rows : Rows) → AreSound rows → AreSound (lost client now rows)
keeps_lost client now rows is =
    subst (λ (all : Rows). AreSound (filter (λ row. not (scope_eq row.0.scope (Association client))) all)) (each_semaphore client now rows)
    (keeps_left (λ row. not (scope_eq row.0.scope (Association client))) (all_changed (semaphore_without client now) rows)
    (keeps_all (semaphore_without client now) (client_lost client now) rows is))

-- a deadline is met
due_met : (number : ℕ) (now : Moment) (s : Semaphore) → IsSound s → IsSound (without_due number now s)
due_met number now (Token s) is = expire-keeps s number now is
due_met number now (Pool p) is = pool-free.expire-keeps p number now is

keeps_aborted : (aborts : Bool) (client : ℕ) (now : Moment) (rows : Rows) → AreSound rows → AreSound (after_abort aborts client now rows)
keeps_aborted true client now rows is = keeps_lost client now rows is
keeps_aborted false client now rows is = is

keeps_met : (s t : Ticking) (d : NamedDeadline) → met s d ≡ Some t → AreSound s.rows → AreSound t.rows
keeps_met s t d same is = by_expired (expired d.key d.entry s.rows) same
  where
    by_expired : (o : Option Expired) → option_map (met_as s d) o ≡ Some t → AreSound t.rows
    by_expired None h = absurd (cc h)
    by_expired (Some x) h =
        let one : met_as s d x ≡ t = cc h in
        subst (λ (u : Ticking). AreSound u.rows) one
        (keeps_aborted x.abort x.client d.at (expire_after d.key d.entry d.at s.rows)
        (keeps_changed (without_due d.entry d.at) d.key s.rows (λ row found sound. due_met d.entry d.at row.semaphore sound) is))

pub keeps_next : (until : Moment) (s t : Ticking) → next_met until s ≡ Some t → AreSound s.rows → AreSound t.rows
keeps_next until s t same is = by_due (next_due until s.rows) same
  where
    by_due : (o : Option NamedDeadline) → option_and_then (met s) o ≡ Some t → AreSound t.rows
    by_due None h = absurd (cc h)
    by_due (Some d) h = keeps_met s t d h is

pub keeps_ticked : (until : Moment) (s : Ticking) → AreSound s.rows → AreSound (ticked_on until s).rows
keeps_ticked until s is = settle-keeps (next_met until) (λ t. AreSound t.rows) (keeps_next until) (entries_left s.rows) s is
