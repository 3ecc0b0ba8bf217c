-- A client that owns no token leaves none: who waits, waits on.
use Rattle.std.proofs.Common.{◌≡◌, ◌∙◌, ap, refl, sym, ℕ, suc, zero, ◌+◌, Bool, true, false, ◌||◌, cond, List, [], ◌∷◌, ◌++◌, map, take, drop, slice_get, Some, arith, OnErr, Result, Ok, Err}
use Rattle.std.specs.List.{flat_map, list_any}
use Rattle.std.specs.Map.{keys_of, lookup, values_of}
use Rattle.mms_types.specs.Order.{key_eq}
use Rattle.mms_types.specs.declared.key.Key.{Key}
use Rattle.mms_types.specs.declared.moment.Moment.{Moment}
use Rattle.pool_sem.proofs.Unowned as pool
use Rattle.pool_sem.specs.Pools as pools
use Rattle.token_sem.proofs.Unowned as token
use Rattle.token_sem.specs.Semaphore.{Loss, loss_of, owned_by}
use Rattle.token_sem.specs.declared.entry.Grant.{Grant}
use Rattle.token_sem.specs.declared.entry.SemEntry.{SemEntry}
use Rattle.mms_time.proofs.TwoSteps.{each_grant}
use Rattle.mms_time.specs.Loss.{grants_of, keyed, loss_in, lost_grants, owns_any, sorted_keys}
use Rattle.mms_time.specs.Semaphores.{Rows, entries_in, entries_of}
use Rattle.mms_time.specs.declared.row.Semaphore.{Semaphore}
use Rattle.mms_time.specs.declared.row.Semaphore.TheVariants.{Token, Pool}
use Rattle.mms_time.specs.declared.row.SemaphoreRow.{SemaphoreRow}

pub none_granted : (client : ℕ) (now : Moment) (es : List SemEntry) → list_any (owned_by client) es ≡ false → (loss_of client now es).grants ≡ []
none_granted client now es e = ap (λ (l : Loss). l.grants) (token.none_lost client now es e)

pub none_granted_in : (client : ℕ) (now : Moment) (es : List SemEntry) → list_any (owned_by client) es ≡ false → (pools.loss_of client now es).grants ≡ []
none_granted_in client now es e = ap (λ (l : Loss). l.grants) (pool.none_lost client now es e)

pub none_granted_by : (client : ℕ) (now : Moment) (s : Semaphore) → list_any (owned_by client) (entries_in s) ≡ false → (loss_in client now s).grants ≡ []
none_granted_by client now (Token s) e = none_granted client now s.entries e
none_granted_by client now (Pool p) e = none_granted_in client now p.entries e

neither : (a b : Bool) → (a || b) ≡ false → (a ≡ false) × (b ≡ false)
neither true b e = absurd cc
neither false b e = (refl, e)

none_named : (client : ℕ) (now : Moment) (key : Key) (rows : Rows) → owns_any client rows ≡ false → grants_of client now (lookup (key_eq key) rows) ≡ []
none_named client now key [] e = refl
none_named client now key ((k, row) ∷ rows) e = by_name (key_eq key k) both.0 (none_named client now key rows both.1)
  where
    both : (list_any (owned_by client) (entries_of row) ≡ false) × (owns_any client rows ≡ false)
    both = neither (list_any (owned_by client) (entries_of row)) (owns_any client rows) e

    by_name : (b : Bool) → list_any (owned_by client) (entries_of row) ≡ false → grants_of client now (lookup (key_eq key) rows) ≡ []
        → grants_of client now (cond b (Some row) (lookup (key_eq key) rows)) ≡ []
    by_name true here later = none_granted_by client now row.semaphore here
    by_name false here later = later

none_of_each : (client : ℕ) (now : Moment) (rows : Rows) → owns_any client rows ≡ false → (keys : List Key)
    → flat_map (λ key. keyed key (grants_of client now (lookup (key_eq key) rows))) keys ≡ []
none_of_each client now rows e [] = refl
none_of_each client now rows e (key ∷ keys) =
    ap (λ (l : List Grant). keyed key l ++ flat_map (λ key. keyed key (grants_of client now (lookup (key_eq key) rows))) keys) (none_named client now key rows e)
    ∙ none_of_each client now rows e keys

pub none_told : (client : ℕ) (now : Moment) (rows : Rows) → owns_any client rows ≡ false → lost_grants client now rows ≡ []
none_told client now rows e = sym (each_grant client now rows (sorted_keys (keys_of rows))) ∙ none_of_each client now rows e (sorted_keys (keys_of rows))

-- ---- rows one after the other

module _ {K X : Type 0} (p : K × X → Bool) where
  pub any_at : (rows : List (K × X)) (i : ℕ) (row : K × X) → slice_get rows i ≡ Some row → p row ≡ true → list_any p rows ≡ true
  any_at [] zero row e h = absurd cc
  any_at [] (suc i) row e h = absurd cc
  any_at (r ∷ rows) zero row e h = let same : r ≡ row = cc in ap (λ (x : K × X). p x || list_any p rows) same ∙ ap (λ (b : Bool). b || list_any p rows) h
  any_at (r ∷ rows) (suc i) row e h = or_true (p r) (any_at rows i row e h)
    where
      or_true : (a : Bool) → list_any p rows ≡ true → (a || list_any p rows) ≡ true
      or_true true h = refl
      or_true false h = h

  pub none_more : (rows : List (K × X)) (i : ℕ) (row : K × X) → slice_get rows i ≡ Some row → p row ≡ false → list_any p (take i rows) ≡ false → list_any p (take (i + 1) rows) ≡ false
  none_more rows i row e h before = ap (λ (n : ℕ). list_any p (take n rows)) (let s : i + 1 ≡ suc i = omega arith in s) ∙ further rows i e before
    where
      further : (rows : List (K × X)) (i : ℕ) → slice_get rows i ≡ Some row → list_any p (take i rows) ≡ false → list_any p (take (suc i) rows) ≡ false
      further [] zero e before = absurd cc
      further [] (suc i) e before = absurd cc
      further (r ∷ rows) zero e before = let same : r ≡ row = cc in ap (λ (x : K × X). p x || false) same ∙ ap (λ (b : Bool). b || false) h
      further (r ∷ rows) (suc i) e before =
          let both = neither (p r) (list_any p (take i rows)) before in
          ap (λ (b : Bool). b || list_any p (take (suc i) rows)) both.0 ∙ further rows i e both.1

-- the value at a place of rows of which those before it were changed
module _ {K X : Type 0} where
  pub still_at : (g : X → X) (rows : List (K × X)) (i : ℕ) (x : X) → slice_get (values_of (map (λ row. (row.0, g row.1)) (take i rows) ++ drop i rows)) i ≡ Some x
      → slice_get (values_of rows) i ≡ Some x
  still_at g [] zero x e = e
  still_at g [] (suc i) x e = e
  still_at g (r ∷ rows) zero x e = e
  still_at g (r ∷ rows) (suc i) x e = still_at g rows i x e

pub owned_at : (client : ℕ) (rows : Rows) (i : ℕ) (row : SemaphoreRow) → slice_get (values_of rows) i ≡ Some row → list_any (owned_by client) (entries_of row) ≡ true → owns_any client rows ≡ true
owned_at client [] zero row e h = absurd cc
owned_at client [] (suc i) row e h = absurd cc
owned_at client ((k, r) ∷ rows) zero row e h =
    let same : r ≡ row = cc in
    ap (λ (x : SemaphoreRow). list_any (owned_by client) (entries_of x) || owns_any client rows) same ∙ ap (λ (b : Bool). b || owns_any client rows) h
owned_at client ((k, r) ∷ rows) (suc i) row e h = or_true (list_any (owned_by client) (entries_of r)) (owned_at client rows i row e h)
  where
    or_true : (a : Bool) → owns_any client rows ≡ true → (a || owns_any client rows) ≡ true
    or_true true h = refl
    or_true false h = h

pub on_err : {X Y P : Type 0} (r : Result X Y) → P → OnErr r P
on_err (Ok x) p = _
on_err (Err e) p = p
