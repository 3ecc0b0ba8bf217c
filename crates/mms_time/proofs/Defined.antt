-- A semaphore that is defined stands behind those of its part, and what is told of all semaphores is as if it stood behind all others.
use Rattle.std.specs.Prelude.{◌≡◌, ◌<◌, ◌≤◌, ℕ, nat_le, Bool, true, false, cond, Option, None, Some, IsPermutation, List, [], ◌∷◌, ◌++◌, if◌then◌else◌, map, refl}
use Rattle.std.specs.List.{All, IsDistinct}
use Rattle.std.specs.Map.{keys_of, lookup, values_of}
use Rattle.std.proofs.Common.{ap, sym, ◌∙◌, arith}
use Rattle.std.proofs.lemmas.Bool.Decides.{nat_tests}
use Rattle.std.proofs.lemmas.List.Sorted.{All-permutation, IsPermutation-append_comm, IsPermutation-cons, IsPermutation-map, IsPermutation-refl}
use Rattle.std.proofs.lemmas.Map.Keys.{IsDistinct-IsPermutation}
use Rattle.mms_types.proofs.Precedence.{key_eq_tells}
use Rattle.mms_types.specs.KeyLaws.{keys_equal}
use Rattle.mms_types.specs.Order.{key_eq, key_of}
use Rattle.mms_types.specs.declared.key.Key.{Key}
use Rattle.mms_types.specs.declared.semaphore.DefineSemaphore.{DefineSemaphore}
use Rattle.mms_time.specs.Deadlines.{NamedDeadline, all_deadlines, deadlines_of}
use Rattle.mms_time.specs.Parts.{part_of_row, with_semaphore}
use Rattle.mms_time.specs.Semaphores.{Rows}
use Rattle.mms_time.specs.Services.{define_after, new_semaphore}
use Rattle.mms_time.specs.declared.row.SemaphoreRow.{SemaphoreRow}

-- ---- any semaphore more

-- no semaphore goes and none comes but that one
pub put_permutes : (row : Key × SemaphoreRow) (rows : Rows) → IsPermutation (rows ++ row ∷ []) (with_semaphore row rows)
put_permutes row [] = IsPermutation-refl (row ∷ [])
put_permutes row (other ∷ rows) = by_test (nat_le (part_of_row other) (part_of_row row)) (put_permutes row rows)
  where
    by_test : (b : Bool) → IsPermutation (rows ++ row ∷ []) (with_semaphore row rows)
        → IsPermutation (other ∷ (rows ++ row ∷ [])) (if b then other ∷ with_semaphore row rows else row ∷ other ∷ rows)
    by_test true more = IsPermutation-cons other (rows ++ row ∷ []) (with_semaphore row rows) more
    by_test false more = IsPermutation-append_comm (other ∷ rows) (row ∷ [])

lookup_push : (test : Key → Bool) (row : Key × SemaphoreRow) (rows : Rows) → test row.0 ≡ false → lookup test (rows ++ row ∷ []) ≡ lookup test rows
lookup_push test row [] off = ap (λ (b : Bool). cond b (Some row.1) None) off
lookup_push test row (other ∷ rows) off = ap (λ (o : Option SemaphoreRow). cond (test other.0) (Some other.1) o) (lookup_push test row rows off)

lookup_none : (test : Key → Bool) (row : Key × SemaphoreRow) (rows : Rows) → lookup test rows ≡ None → lookup test (rows ++ row ∷ []) ≡ cond (test row.0) (Some row.1) None
lookup_none test row [] none = refl
lookup_none test row (other ∷ rows) none = by_test (test other.0) none (lookup_none test row rows)
  where
    by_test : (b : Bool) → cond b (Some other.1) (lookup test rows) ≡ None → (lookup test rows ≡ None → lookup test (rows ++ row ∷ []) ≡ cond (test row.0) (Some row.1) None)
        → cond b (Some other.1) (lookup test (rows ++ row ∷ [])) ≡ cond (test row.0) (Some row.1) None
    by_test true e rest = absurd (cc e)
    by_test false e rest = rest e

-- each name tells the same, where the new name wasn't there
pub put_lookup : (row : Key × SemaphoreRow) (rows : Rows) (key : Key) → lookup (key_eq row.0) rows ≡ None → lookup (key_eq key) (with_semaphore row rows) ≡ lookup (key_eq key) (rows ++ row ∷ [])
put_lookup row [] key new = refl
put_lookup row (other ∷ rows) key new = by_place (nat_le (part_of_row other) (part_of_row row)) (λ n. put_lookup row rows key n)
  where
    later : (b : Bool) → cond b (Some other.1) (lookup (key_eq row.0) rows) ≡ None → lookup (key_eq row.0) rows ≡ None
    later true e = absurd (cc e)
    later false e = e

    by_name : (b : Bool) → key_eq key row.0 ≡ b → cond b (Some row.1) (lookup (key_eq key) (other ∷ rows)) ≡ lookup (key_eq key) ((other ∷ rows) ++ row ∷ [])
    by_name true e =
        let same : key ≡ row.0 = (key_eq_tells key row.0).0 e in
        sym (lookup_none (key_eq key) row (other ∷ rows) (ap (λ (k : Key). lookup (key_eq k) (other ∷ rows)) same ∙ new)
        ∙ ap (λ (b : Bool). cond b (Some row.1) None) e)
    by_name false e = sym (lookup_push (key_eq key) row (other ∷ rows) e)

    by_place : (b : Bool) → (lookup (key_eq row.0) rows ≡ None → lookup (key_eq key) (with_semaphore row rows) ≡ lookup (key_eq key) (rows ++ row ∷ []))
        → lookup (key_eq key) (if b then other ∷ with_semaphore row rows else row ∷ other ∷ rows) ≡ lookup (key_eq key) ((other ∷ rows) ++ row ∷ [])
    by_place true rest = ap (λ (o : Option SemaphoreRow). cond (key_eq key other.0) (Some other.1) o) (rest (later (key_eq row.0 other.0) new))
    by_place false rest = by_name (key_eq key row.0) refl

-- what holds of each of them
pub put_each : (P : SemaphoreRow → Type 0) (row : Key × SemaphoreRow) (rows : Rows) → All P (values_of (rows ++ row ∷ [])) → All P (values_of (with_semaphore row rows))
put_each P row rows all =
    All-permutation P (values_of (rows ++ row ∷ [])) (values_of (with_semaphore row rows))
    (IsPermutation-map (λ e. e.1) (rows ++ row ∷ []) (with_semaphore row rows) (put_permutes row rows)) all

pub put_distinct : (row : Key × SemaphoreRow) (rows : Rows) → IsDistinct key_eq (keys_of (rows ++ row ∷ [])) → IsDistinct key_eq (keys_of (with_semaphore row rows))
put_distinct row rows names =
    IsDistinct-IsPermutation key_eq keys_equal.symm (keys_of (rows ++ row ∷ [])) (keys_of (with_semaphore row rows))
    (IsPermutation-map (λ e. e.0) (rows ++ row ∷ []) (with_semaphore row rows) (put_permutes row rows)) names

-- ---- DefineSemaphore

abbrev pub new_row : ℕ → DefineSemaphore → Key × SemaphoreRow
new_row client x = (key_of client x.name, record { configured = false; semaphore = new_semaphore x.tokens })

-- it has no deadlines
pub defined_dues : (client : ℕ) (x : DefineSemaphore) (rows : Rows) → all_deadlines (define_after client x rows) ≡ all_deadlines rows
defined_dues client x [] = refl
defined_dues client x (other ∷ rows) = by_test (nat_le (part_of_row other) (part_of_row (new_row client x))) (defined_dues client x rows)
  where
    by_test : (b : Bool) → all_deadlines (define_after client x rows) ≡ all_deadlines rows
        → all_deadlines (if b then other ∷ define_after client x rows else new_row client x ∷ other ∷ rows) ≡ all_deadlines (other ∷ rows)
    by_test true rest = ap (λ (l : List NamedDeadline). deadlines_of other ++ l) rest
    by_test false rest = refl

-- ---- in a table of one part it is the last

put_last : (row : Key × SemaphoreRow) (rows : Rows) → rows ++ row ∷ [] ≡ with_semaphore row rows
put_last row [] = refl
put_last row (other ∷ rows) = by_test (nat_le (part_of_row other) (part_of_row row)) refl (put_last row rows)
  where
    by_test : (b : Bool) → nat_le (part_of_row other) (part_of_row row) ≡ b → rows ++ row ∷ [] ≡ with_semaphore row rows
        → other ∷ (rows ++ row ∷ []) ≡ (if b then other ∷ with_semaphore row rows else row ∷ other ∷ rows)
    by_test true e rest = ap (λ (l : Rows). other ∷ l) rest
    by_test false e rest = let past : part_of_row row < part_of_row other = grind (arith, nat_tests) in absurd (omega (arith, past))

pub defined_last : (client : ℕ) (x : DefineSemaphore) (rows : Rows) → rows ++ new_row client x ∷ [] ≡ define_after client x rows
defined_last client x rows = put_last (new_row client x) rows
