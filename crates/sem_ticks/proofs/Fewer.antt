-- Each deadline that is met leaves fewer entries.
use Rattle.std.proofs.Common.{◌≡◌, ℕ, suc, ◌+◌, ◌<◌, ◌≤◌, inl, inr, Bool, true, false, not, cond, ◌==◌, List, [], ◌∷◌, ◌++◌, map, filter, fold, length, Option, None, Some, option_and_then, option_map, option_to_list, if◌then◌else◌, refl, ap, subst, arith}
use Rattle.std.specs.Map.{lookup, set_value, values_of}
use Rattle.std.proofs.lemmas.Bool.Decides.{nat_tests}
use Rattle.std.proofs.lemmas.List.{length-map}
use Rattle.std.proofs.lemmas.List.Filters.{length-filter_both}
use Rattle.std.proofs.lemmas.List.Sums.{sum_by-cons}
use Rattle.std.proofs.lemmas.Map.Entries.{sum_by-set_value}
use Rattle.mms_types.specs.Order.{key_eq, scope_eq}
use Rattle.mms_types.specs.declared.key.Key.{Key}
use Rattle.mms_types.specs.declared.key.Scope.TheVariants.{Association}
use Rattle.mms_types.specs.declared.moment.Moment.{Moment}
use Rattle.token_sem.specs.Semaphore.{Loss, Sem, after_cancel, after_expire, after_freeing, grant_of, granted_entry, granted_to, hung_entry, is_queued, loss_of_one, next, numbered, owned_by, waits_for, without}
use Rattle.token_sem.specs.Semaphore as token
use Rattle.token_sem.specs.declared.entry.Expired.{Expired}
use Rattle.token_sem.specs.declared.entry.SemEntry.{SemEntry}
use Rattle.token_sem.proofs.Keeping.{Among, among-find}
use Rattle.mms_time.specs.Deadlines.{NamedDeadline, expire_after, expired, expired_entry, expired_in, next_due, without_due}
use Rattle.mms_time.specs.Loss.{all_changed, lost, without_owners, without_waiters}
use Rattle.mms_time.specs.Semaphores.{Rows, changed_row, changed_to, entries_in, entries_of}
use Rattle.mms_time.specs.declared.row.Semaphore.{Semaphore}
use Rattle.mms_time.specs.declared.row.Semaphore.TheVariants.{Token, Pool}
use Rattle.pool_sem.specs.Pools as pool
use Rattle.mms_time.specs.declared.row.SemaphoreRow.{SemaphoreRow}
use Rattle.sem_ticks.specs.Ticks.{Ticking, after_abort, entries_left, met, met_as, next_met}

-- ---- the entries of one semaphore

fewer_filtered : {X : Type 0} (p : X → Bool) (xs : List X) → length (filter p xs) ≤ length xs
fewer_filtered p xs = omega (arith, length-filter_both p (λ x. not (p x)) (λ x. refl) xs)

fewer_among : (es : List SemEntry) (o : SemEntry) → Among es o → length (without o.number es) < length es
fewer_among [] o h = absurd h
fewer_among (e ∷ es) o (inl same) =
    let out : (e.number == o.number) ≡ true = (let n : e.number ≡ o.number = ap (λ x. x.number) same in grind (arith, nat_tests)) in
    let gone : length (without o.number (e ∷ es)) ≡ length (without o.number es) = ap (λ b. length (cond (not b) (e ∷ without o.number es) (without o.number es))) out in
    omega (arith, gone, fewer_filtered (λ x. not (x.number == o.number)) es)
fewer_among (e ∷ es) o (inr h) = by_test (e.number == o.number) (fewer_among es o h)
  where
    by_test : (b : Bool) → length (without o.number es) < length es → length (cond (not b) (e ∷ without o.number es) (without o.number es)) < suc (length es)
    by_test true rest = omega (arith, rest)
    by_test false rest = omega (arith, rest)

as_many_freed : (now : Moment) (es : List SemEntry) → length (after_freeing now es) ≡ length es
as_many_freed now es = by_next (next es)
  where
    by_next : (o : Option SemEntry) → length (granted_to o now es) ≡ length es
    by_next None = refl
    by_next (Some e) = length-map es (granted_entry e.number now)

fewer_expired : (s : Sem) (e : SemEntry) (now : Moment) → Among s.entries e → length (token.expired_entry (Some e) now s).entries < length s.entries
fewer_expired s e now there = by_state (is_queued e)
  where
    by_state : (b : Bool) → length (if b then after_cancel s e.number else record s { entries = after_freeing now (without e.number s.entries) }).entries < length s.entries
    by_state true = fewer_among s.entries e there
    by_state false = omega (arith, as_many_freed now (without e.number s.entries), fewer_among s.entries e there)

-- ---- the entries of one pool

as_many_freed_in_pool : (token : ℕ) (now : Moment) (es : List SemEntry) → length (pool.after_freeing token now es) ≡ length es
as_many_freed_in_pool token now es = by_next (pool.next token es)
  where
    by_next : (o : Option SemEntry) → length (pool.granted_to o token now es) ≡ length es
    by_next None = refl
    by_next (Some e) = length-map es (pool.granted_entry e.number token now)

as_many_left : (o : SemEntry) (now : Moment) (es : List SemEntry) → length (pool.after_leaving o now es) ≡ length (without o.number es)
as_many_left o now es = by_token o.token
  where
    by_token : (t : Option ℕ) → length (pool.after_freeing_of t now (without o.number es)) ≡ length (without o.number es)
    by_token None = refl
    by_token (Some t) = as_many_freed_in_pool t now (without o.number es)

fewer_expired_in_pool : (p : pool.Pool) (e : SemEntry) (now : Moment) → Among p.entries e → length (pool.expired_entry (Some e) now p).entries < length p.entries
fewer_expired_in_pool p e now there = by_state (is_queued e)
  where
    by_state : (b : Bool) → length (if b then pool.after_cancel p e.number else record p { entries = pool.after_leaving e now p.entries }).entries < length p.entries
    by_state true = fewer_among p.entries e there
    by_state false = omega (arith, as_many_left e now p.entries, fewer_among p.entries e there)

pool_one_lost : (now : Moment) (l : Loss) (o : SemEntry) → length (pool.loss_of_one now l o).entries ≤ length l.entries
pool_one_lost now l o = by_keep o.keep
  where
    by_keep : (b : Bool)
        → length (if b then record l { entries = map (hung_entry o.number) l.entries } else record {
          entries = pool.after_leaving o now l.entries;
          grants = l.grants ++ option_to_list (pool.grant_leaving o l.entries);
        }).entries ≤ length l.entries
    by_keep true = omega (arith, length-map l.entries (hung_entry o.number))
    by_keep false = omega (arith, as_many_left o now l.entries, fewer_filtered (λ e. not (e.number == o.number)) l.entries)

pool_all_lost : (now : Moment) (os : List SemEntry) (l : Loss) → length (fold (pool.loss_of_one now) l os).entries ≤ length l.entries
pool_all_lost now [] l = omega arith
pool_all_lost now (o ∷ os) l = omega (arith, pool_all_lost now os (pool.loss_of_one now l o), pool_one_lost now l o)

-- ---- either

fewer_due : (s : Semaphore) (number : ℕ) (e : SemEntry) (now : Moment) → numbered number (entries_in s) ≡ Some e → length (entries_in (without_due number now s)) < length (entries_in s)
fewer_due (Token s) number e now found =
    let is : length (after_expire s number now).entries ≡ length (token.expired_entry (Some e) now s).entries = ap (λ (o : Option SemEntry). length (token.expired_entry o now s).entries) found in
    let there = (among-find (λ x. x.number == number) s.entries e found).0 in
    omega (arith, is, fewer_expired s e now there)
fewer_due (Pool p) number e now found =
    let is : length (pool.after_expire p number now).entries ≡ length (pool.expired_entry (Some e) now p).entries = ap (λ (o : Option SemEntry). length (pool.expired_entry o now p).entries) found in
    let there = (among-find (λ x. x.number == number) p.entries e found).0 in
    omega (arith, is, fewer_expired_in_pool p e now there)

no_more_waiters : (client : ℕ) (s : Semaphore) → length (entries_in (without_waiters client s)) ≤ length (entries_in s)
no_more_waiters client (Token s) = fewer_filtered (λ e. not (waits_for client e)) s.entries
no_more_waiters client (Pool p) = fewer_filtered (λ e. not (waits_for client e)) p.entries

one_lost : (now : Moment) (l : Loss) (o : SemEntry) → length (loss_of_one now l o).entries ≤ length l.entries
one_lost now l o = by_keep o.keep
  where
    by_keep : (b : Bool)
        → length (if b then record l { entries = map (hung_entry o.number) l.entries } else record {
          entries = after_freeing now (without o.number l.entries);
          grants = l.grants ++ option_to_list (option_map grant_of (next (without o.number l.entries)));
        }).entries ≤ length l.entries
    by_keep true = omega (arith, length-map l.entries (hung_entry o.number))
    by_keep false = omega (arith, as_many_freed now (without o.number l.entries), fewer_filtered (λ e. not (e.number == o.number)) l.entries)

all_lost : (now : Moment) (os : List SemEntry) (l : Loss) → length (fold (loss_of_one now) l os).entries ≤ length l.entries
all_lost now [] l = omega arith
all_lost now (o ∷ os) l = omega (arith, all_lost now os (loss_of_one now l o), one_lost now l o)

no_more_owners : (client : ℕ) (now : Moment) (s : Semaphore) → length (entries_in (without_owners client now s)) ≤ length (entries_in s)
no_more_owners client now (Token s) = all_lost now (filter (owned_by client) s.entries) (record { entries = s.entries; grants = [] })
no_more_owners client now (Pool p) = pool_all_lost now (filter (owned_by client) p.entries) (record { entries = p.entries; grants = [] })

-- ---- the entries of all

abbrev size : SemaphoreRow → ℕ
size row = length (entries_of row)

left_cons : (row : Key × SemaphoreRow) (rows : Rows) → entries_left (row ∷ rows) ≡ size row.1 + entries_left rows
left_cons row rows = sum_by-cons size row.1 (values_of rows)

left_filtered : (p : Key × SemaphoreRow → Bool) (rows : Rows) → entries_left (filter p rows) ≤ entries_left rows
left_filtered p [] = omega arith
left_filtered p (row ∷ rows) = by_test (p row) (left_filtered p rows)
  where
    by_test : (b : Bool) → entries_left (filter p rows) ≤ entries_left rows → entries_left (cond b (row ∷ filter p rows) (filter p rows)) ≤ entries_left (row ∷ rows)
    by_test true rest = omega (arith, rest, left_cons row (filter p rows), left_cons row rows)
    by_test false rest = omega (arith, rest, left_cons row rows)

left_changed : (f : Semaphore → Semaphore) → ((s : Semaphore) → length (entries_in (f s)) ≤ length (entries_in s)) → (rows : Rows) → entries_left (all_changed f rows) ≤ entries_left rows
left_changed f fewer [] = omega arith
left_changed f fewer (row ∷ rows) =
    omega (arith, fewer row.1.semaphore, left_changed f fewer rows, left_cons (row.0, changed_row f row.1) (all_changed f rows), left_cons row rows)

left_lost : (client : ℕ) (now : Moment) (rows : Rows) → entries_left (lost client now rows) ≤ entries_left rows
left_lost client now rows =
    let waiters = all_changed (without_waiters client) rows in
    let owners = all_changed (without_owners client now) waiters in
    omega (
      arith,
      left_filtered (λ row. not (scope_eq row.0.scope (Association client))) owners,
      left_changed (without_owners client now) (no_more_owners client now) waiters,
      left_changed (without_waiters client) (no_more_waiters client) rows,
    )

left_aborted : (aborts : Bool) (client : ℕ) (now : Moment) (rows : Rows) → entries_left (after_abort aborts client now rows) ≤ entries_left rows
left_aborted true client now rows = left_lost client now rows
left_aborted false client now rows = omega arith

left_expired : (key : Key) (number : ℕ) (now : Moment) (rows : Rows) (x : Expired) → expired key number rows ≡ Some x → entries_left (expire_after key number now rows) < entries_left rows
left_expired key number now rows x is = by_row (lookup (key_eq key) rows) refl is
  where
    by_row : (o : Option SemaphoreRow) → lookup (key_eq key) rows ≡ o → option_and_then (expired_in number) o ≡ Some x
        → entries_left (changed_to o (without_due number now) key rows) < entries_left rows
    by_row None found h = absurd (cc h)
    by_row (Some row) found h = by_entry (numbered number (entries_of row)) refl h
      where
        by_entry : (o : Option SemEntry) → numbered number (entries_of row) ≡ o → expired_entry row.semaphore o ≡ Some x
            → entries_left (set_value (key_eq key) rows (changed_row (without_due number now) row)) < entries_left rows
        by_entry None there k = absurd (cc k)
        by_entry (Some e) there k =
            omega (arith, sum_by-set_value size (key_eq key) rows row (changed_row (without_due number now) row) found, fewer_due row.semaphore number e now there)

fewer_met : (s t : Ticking) (d : NamedDeadline) → met s d ≡ Some t → entries_left t.rows < entries_left s.rows
fewer_met s t d is = by_expired (expired d.key d.entry s.rows) refl is
  where
    by_expired : (o : Option Expired) → expired d.key d.entry s.rows ≡ o → option_map (met_as s d) o ≡ Some t → entries_left t.rows < entries_left s.rows
    by_expired None e h = absurd (cc h)
    by_expired (Some x) e h =
        let same : met_as s d x ≡ t = cc h in
        let less = left_expired d.key d.entry d.at s.rows x e in
        let after = left_aborted x.abort x.client d.at (expire_after d.key d.entry d.at s.rows) in
        subst (λ (u : Ticking). entries_left u.rows < entries_left s.rows) same (omega (arith, less, after))

pub falls : (until : Moment) (s t : Ticking) → next_met until s ≡ Some t → entries_left t.rows < entries_left s.rows
falls until s t is = by_due (next_due until s.rows) is
  where
    by_due : (o : Option NamedDeadline) → option_and_then (met s) o ≡ Some t → entries_left t.rows < entries_left s.rows
    by_due None h = absurd (cc h)
    by_due (Some d) h = fewer_met s t d h
