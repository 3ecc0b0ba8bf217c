-- What holds of each entry of each semaphore holds also after a request, a cancel, a loss or a deadline that is met, where an entry keeps it as it becomes an owner or hung, and has it as it is made.
use Rattle.std.proofs.Common.{◌≡◌, ℕ, ◌+◌, ◌==◌, inl, inr, Bool, true, false, not, cond, nat_lt, nat_le, List, [], ◌∷◌, ◌++◌, map, filter, fold, length, Option, None, Some, option_map, option_to_list, if◌then◌else◌, refl, sym, subst}
use Rattle.std.specs.Map.{lookup, remove_entry, set_value}
use Rattle.mms_types.specs.Order.{key_eq, key_of, scope_eq}
use Rattle.mms_types.specs.declared.key.Key.{Key}
use Rattle.mms_types.specs.declared.key.Scope.TheVariants.{Association}
use Rattle.mms_types.specs.declared.moment.Moment.{Moment}
use Rattle.mms_types.specs.declared.semaphore.DefineSemaphore.{DefineSemaphore}
use Rattle.mms_types.specs.declared.semaphore.TakeControl.{TakeControl}
use Rattle.token_sem.specs.Semaphore.{Loss, Sem, after, after_cancel, after_freeing, after_giving_back, deadline_after, effect_of, entry_of, expired_entry, grant_of, granted_entry, granted_to, has_claim, hung_entry, hung_to_preempt, is_queued, loss_of_one, next, numbered, outcome, outcome_later, outcome_now, owned_by, owner_from, owner_of, tokens_held, waits_for, without}
use Rattle.token_sem.specs.declared.entry.Ask.{Ask}
use Rattle.token_sem.specs.declared.entry.SemEntry.{SemEntry}
use Rattle.token_sem.specs.declared.entry.SemState.{SemState}
use Rattle.token_sem.specs.declared.entry.TakeOutcome.TheVariants.{Refused, Gets, TimesOut, WaitsUntil}
use Rattle.token_sem.proofs.Keeping.{Among}
use Rattle.pool_sem.specs.Pools as pool
use Rattle.pool_sem.specs.declared.outcome.PoolOutcome.TheVariants as pooled
use Rattle.mms_time.specs.Deadlines.{expire_after, without_due}
use Rattle.mms_time.specs.Loss.{all_changed, lost, without_owners, without_waiters}
use Rattle.mms_time.specs.Parts.{part_of_row, with_semaphore}
use Rattle.mms_time.specs.Semaphores.{Rows, changed, changed_row, changed_to, entries_in, entries_of, entry_in, entry_waits}
use Rattle.mms_time.specs.Services.{ask_of, cancel_after, cancelled, define_after, deleted, place_asked, relinquished, take_after, with_take, with_token_back, without_entry}
use Rattle.mms_time.specs.declared.row.Semaphore.{Semaphore}
use Rattle.mms_time.specs.declared.row.Semaphore.TheVariants.{Token, Pool}
use Rattle.mms_time.specs.declared.row.SemaphoreRow.{SemaphoreRow}

module _ (P : SemEntry → Type 0) where
  -- ---- some entries

  abbrev pub Each : List SemEntry → Type 0
  Each [] = Unit {0}
  Each (e ∷ es) = P e × Each es

  pub each_kept : (p : SemEntry → Bool) (es : List SemEntry) → Each es → Each (filter p es)
  each_kept p [] all = tt
  each_kept p (e ∷ es) all = by_test (p e) (each_kept p es all.1)
    where
      by_test : (b : Bool) → Each (filter p es) → Each (cond b (e ∷ filter p es) (filter p es))
      by_test true rest = (all.0, rest)
      by_test false rest = rest

  pub each_mapped : (f : SemEntry → SemEntry) → ((e : SemEntry) → P e → P (f e)) → (es : List SemEntry) → Each es → Each (map f es)
  each_mapped f each [] all = tt
  each_mapped f each (e ∷ es) all = (each e all.0, each_mapped f each es all.1)

  pub each_more : (es : List SemEntry) (e : SemEntry) → Each es → P e → Each (es ++ e ∷ [])
  each_more [] e all last = (last, tt)
  each_more (x ∷ es) e all last = (all.0, each_more es e all.1 last)

  pub each_among : (es : List SemEntry) (e : SemEntry) → Each es → Among es e → P e
  each_among [] e all a = absurd a
  each_among (x ∷ es) e all (inl same) = subst P same all.0
  each_among (x ∷ es) e all (inr a) = each_among es e all.1 a

  -- ---- those of all semaphores

  abbrev pub RowsEach : Rows → Type 0
  RowsEach [] = Unit {0}
  RowsEach (row ∷ rows) = Each (entries_of row.1) × RowsEach rows

  rows_set : (test : Key → Bool) (new : SemaphoreRow) (rows : Rows) → Each (entries_of new) → RowsEach rows → RowsEach (set_value test rows new)
  rows_set test new [] at all = tt
  rows_set test new (row ∷ rows) at all = by_test (test row.0) (rows_set test new rows at all.1)
    where
      by_test : (b : Bool) → RowsEach (set_value test rows new) → RowsEach (cond b ((row.0, new) ∷ rows) (row ∷ set_value test rows new))
      by_test true rest = (at, all.1)
      by_test false rest = (all.0, rest)

  pub found_each : (test : Key → Bool) (rows : Rows) (row : SemaphoreRow) → RowsEach rows → lookup test rows ≡ Some row → Each (entries_of row)
  found_each test [] row all is = absurd (cc is)
  found_each test (first ∷ rows) row all is = by_test (test first.0) is (found_each test rows row all.1)
    where
      by_test : (b : Bool) → cond b (Some first.1) (lookup test rows) ≡ Some row → (lookup test rows ≡ Some row → Each (entries_of row)) → Each (entries_of row)
      by_test true h rest = let same : first.1 ≡ row = cc h in subst (λ (r : SemaphoreRow). Each (entries_of r)) same all.0
      by_test false h rest = rest h

  rows_changed : (f : Semaphore → Semaphore) → ((s : Semaphore) → Each (entries_in s) → Each (entries_in (f s))) → (key : Key) (rows : Rows) → RowsEach rows → RowsEach (changed f key rows)
  rows_changed f each key rows all = by_row (lookup (key_eq key) rows) refl
    where
      by_row : (o : Option SemaphoreRow) → lookup (key_eq key) rows ≡ o → RowsEach (changed_to o f key rows)
      by_row None found = all
      by_row (Some row) found = rows_set (key_eq key) (changed_row f row) rows (each row.semaphore (found_each (key_eq key) rows row all found)) all

  rows_mapped : (f : Semaphore → Semaphore) → ((s : Semaphore) → Each (entries_in s) → Each (entries_in (f s))) → (rows : Rows) → RowsEach rows → RowsEach (all_changed f rows)
  rows_mapped f each [] all = tt
  rows_mapped f each (row ∷ rows) all = (each row.1.semaphore all.0, rows_mapped f each rows all.1)

  rows_left : (p : Key × SemaphoreRow → Bool) (rows : Rows) → RowsEach rows → RowsEach (filter p rows)
  rows_left p [] all = tt
  rows_left p (row ∷ rows) all = by_test (p row) (rows_left p rows all.1)
    where
      by_test : (b : Bool) → RowsEach (filter p rows) → RowsEach (cond b (row ∷ filter p rows) (filter p rows))
      by_test true rest = (all.0, rest)
      by_test false rest = rest

  rows_removed : (test : Key → Bool) (rows : Rows) → RowsEach rows → RowsEach (remove_entry test rows)
  rows_removed test [] all = tt
  rows_removed test (row ∷ rows) all = by_test (test row.0) (rows_removed test rows all.1)
    where
      by_test : (b : Bool) → RowsEach (remove_entry test rows) → RowsEach (cond b rows (row ∷ remove_entry test rows))
      by_test true rest = all.1
      by_test false rest = (all.0, rest)

  rows_added : (rows : Rows) (row : Key × SemaphoreRow) → RowsEach rows → Each (entries_of row.1) → RowsEach (with_semaphore row rows)
  rows_added [] row all new = (new, tt)
  rows_added (first ∷ rows) row all new = by_test (nat_le (part_of_row first) (part_of_row row)) (rows_added rows row all.1 new)
    where
      by_test : (b : Bool) → RowsEach (with_semaphore row rows) → RowsEach (if b then first ∷ with_semaphore row rows else row ∷ first ∷ rows)
      by_test true rest = (all.0, rest)
      by_test false rest = (new, all)

-- what each has of one rule it has of another that follows
each_so : (P Q : SemEntry → Type 0) → ((e : SemEntry) → P e → Q e) → (es : List SemEntry) → Each P es → Each Q es
each_so P Q so [] all = tt
each_so P Q so (e ∷ es) all = (so e all.0, each_so P Q so es all.1)

pub rows_so : (P Q : SemEntry → Type 0) → ((e : SemEntry) → P e → Q e) → (rows : Rows) → RowsEach P rows → RowsEach Q rows
rows_so P Q so [] all = tt
rows_so P Q so (row ∷ rows) all = (each_so P Q so (entries_of row.1) all.0, rows_so P Q so rows all.1)

-- an entry keeps it as it becomes an owner at that moment, or hung
pub record IsKept (P : SemEntry → Type 0) (now : Moment) : Type 0 where
  pub owns : (e : SemEntry) → P e → P (owner_from now e)
  pub owns_named : (token : ℕ) (e : SemEntry) → P e → P (pool.owner_from token now e)
  pub hangs : (e : SemEntry) → P e → P (record e { state = SemState.Hung })

-- the entry that a request makes has it, as an owner and as one that waits
pub record IsMade (P : SemEntry → Type 0) (now : Moment) (ask : Ask) : Type 0 where
  pub owns : (number : ℕ) (token : Option ℕ) → P (record (entry_of number ask SemState.Owner (deadline_after now ask.control)) { token = token })
  pub waits : (number : ℕ) (token : Option ℕ) → P (record (entry_of number ask SemState.Queued (deadline_after now ask.delay)) { token = token })

module _ (P : SemEntry → Type 0) (now : Moment) (keeps : IsKept P now) where
  -- ---- a token is freed

  granted_one : (n : ℕ) (e : SemEntry) → P e → P (granted_entry n now e)
  granted_one n e is = by_test (e.number == n)
    where
      by_test : (b : Bool) → P (cond b (owner_from now e) e)
      by_test true = keeps.owns e is
      by_test false = is

  freed : (es : List SemEntry) → Each P es → Each P (after_freeing now es)
  freed es all = by_next (next es)
    where
      by_next : (o : Option SemEntry) → Each P (granted_to o now es)
      by_next None = all
      by_next (Some e) = each_mapped P (granted_entry e.number now) (granted_one e.number) es all

  pool_granted_one : (n token : ℕ) (e : SemEntry) → P e → P (pool.granted_entry n token now e)
  pool_granted_one n token e is = by_test (e.number == n)
    where
      by_test : (b : Bool) → P (cond b (pool.owner_from token now e) e)
      by_test true = keeps.owns_named token e is
      by_test false = is

  pool_freed : (token : ℕ) (es : List SemEntry) → Each P es → Each P (pool.after_freeing token now es)
  pool_freed token es all = by_next (pool.next token es)
    where
      by_next : (o : Option SemEntry) → Each P (pool.granted_to o token now es)
      by_next None = all
      by_next (Some e) = each_mapped P (pool.granted_entry e.number token now) (pool_granted_one e.number token) es all

  -- the entries but one
  others : (number : ℕ) (es : List SemEntry) → Each P es → Each P (without number es)
  others number es all = each_kept P (λ e. not (e.number == number)) es all

  left : (o : SemEntry) (es : List SemEntry) → Each P es → Each P (pool.after_leaving o now es)
  left o es all = by_token o.token
    where
      by_token : (t : Option ℕ) → Each P (pool.after_freeing_of t now (without o.number es))
      by_token None = others o.number es all
      by_token (Some t) = pool_freed t (without o.number es) (others o.number es all)

  -- ---- a token is taken

  module _ (ask : Ask) (made : IsMade P now ask) where
    waits_until : (number : ℕ) (token deadline : Option ℕ) → deadline ≡ ask.delay → P (record (entry_of number ask SemState.Queued (deadline_after now deadline)) { token = token })
    waits_until number token deadline is =
        subst (λ (o : Option ℕ). P (record (entry_of number ask SemState.Queued (deadline_after now o)) { token = token })) (sym is) (made.waits number token)

    waits_then : (number : ℕ) (token : Option ℕ) (ms : ℕ) → Some ms ≡ ask.delay → (ms == 0) ≡ false → P (record (entry_of number ask SemState.Queued (Some (after now ms))) { token = token })
    waits_then number token ms is some =
        subst (λ (b : Bool). P (record (entry_of number ask SemState.Queued (if b then None else Some (after now ms))) { token = token })) some (waits_until number token (Some ms) is)

    taken_equal : (s : Sem) → Each P s.entries → Each P (effect_of (outcome s ask now) s ask now).entries
    taken_equal s all = by_claim (has_claim ask.client s.entries)
      where
        by_zero : (ms : ℕ) → Some ms ≡ ask.delay → (b : Bool) → (ms == 0) ≡ b → Each P (effect_of (if b then TimesOut else WaitsUntil (after now ms)) s ask now).entries
        by_zero ms is true zero = all
        by_zero ms is false some = each_more P s.entries _ all (waits_then (s.made + 1) None ms is some)

        by_delay : (o : Option ℕ) → o ≡ ask.delay → Each P (effect_of (outcome_later o now) s ask now).entries
        by_delay None is = each_more P s.entries _ all (waits_until (s.made + 1) None None is)
        by_delay (Some ms) is = by_zero ms is (ms == 0) refl

        by_free : (b : Bool) → Each P (effect_of (if b then Gets else outcome_later ask.delay now) s ask now).entries
        by_free true = each_more P s.entries _ all (made.owns (s.made + 1) None)
        by_free false = by_delay ask.delay refl

        by_hung : (o : Option SemEntry) → Each P (effect_of (outcome_now o s ask.delay now) s ask now).entries
        by_hung None = by_free (nat_lt (tokens_held s.entries) s.tokens)
        by_hung (Some hung) = each_more P (without hung.number s.entries) _ (others hung.number s.entries all) (made.owns (s.made + 1) None)

        by_claim : (b : Bool) → Each P (effect_of (if b then Refused else outcome_now (hung_to_preempt ask.preempt s.entries) s ask.delay now) s ask now).entries
        by_claim true = all
        by_claim false = by_hung (hung_to_preempt ask.preempt s.entries)

    taken_named : (p : pool.Pool) → Each P p.entries → Each P (pool.effect_of (pool.outcome p ask now) p ask now).entries
    taken_named p all = by_claim (pool.has_claim ask.client ask.token p.entries)
      where
        by_zero : (ms : ℕ) → Some ms ≡ ask.delay → (b : Bool) → (ms == 0) ≡ b → Each P (pool.effect_of (if b then pooled.TimesOut else pooled.WaitsUntil (after now ms)) p ask now).entries
        by_zero ms is true zero = all
        by_zero ms is false some = each_more P p.entries _ all (waits_then (p.made + 1) ask.token ms is some)

        by_delay : (o : Option ℕ) → o ≡ ask.delay → Each P (pool.effect_of (pool.outcome_later o now) p ask now).entries
        by_delay None is = each_more P p.entries _ all (waits_until (p.made + 1) ask.token None is)
        by_delay (Some ms) is = by_zero ms is (ms == 0) refl

        by_free : (o : Option ℕ) → Each P (pool.effect_of (pool.outcome_free o ask.delay now) p ask now).entries
        by_free (Some token) = each_more P p.entries _ all (made.owns (p.made + 1) (Some token))
        by_free None = by_delay ask.delay refl

        by_hung : (o : Option SemEntry) → Each P (pool.effect_of (pool.outcome_now o p ask now) p ask now).entries
        by_hung None = by_free (pool.free_token ask.token (length p.tokens) p.entries)
        by_hung (Some hung) = each_more P (without hung.number p.entries) _ (others hung.number p.entries all) (made.owns (p.made + 1) hung.token)

        by_claim : (b : Bool) → Each P (pool.effect_of (if b then pooled.Refused else pool.outcome_now (pool.hung_to_preempt ask.preempt ask.token p.entries) p ask now) p ask now).entries
        by_claim true = all
        by_claim false = by_hung (pool.hung_to_preempt ask.preempt ask.token p.entries)

  taken : (client invoke : ℕ) (asked : TakeControl) → ((place : Option ℕ) → IsMade P now (ask_of client invoke place asked)) → (s : Semaphore)
      → Each P (entries_in s) → Each P (entries_in (with_take client invoke asked now s))
  taken client invoke asked made (Token s) all = taken_equal (ask_of client invoke None asked) (made None) s all
  taken client invoke asked made (Pool p) all = taken_named (ask_of client invoke (place_asked asked.token p.tokens) asked) (made (place_asked asked.token p.tokens)) p all

  -- ---- a token is given back, and an entry goes

  given_back : (client : ℕ) (token : Option (List ℕ)) (s : Semaphore) → Each P (entries_in s) → Each P (entries_in (with_token_back client token now s))
  given_back client token (Token s) all = by_owner (owner_of client s.entries)
    where
      by_owner : (o : Option SemEntry) → Each P (after_giving_back o now s).entries
      by_owner None = all
      by_owner (Some owner) = freed (without owner.number s.entries) (others owner.number s.entries all)
  given_back client token (Pool p) all = by_owner (pool.owner_of client (place_asked token p.tokens) p.entries)
    where
      by_owner : (o : Option SemEntry) → Each P (pool.after_giving_back o now p).entries
      by_owner None = all
      by_owner (Some owner) = left owner p.entries all

  waits_no_more : (number : ℕ) (s : Semaphore) → Each P (entries_in s) → Each P (entries_in (without_entry number s))
  waits_no_more number (Token s) all = others number s.entries all
  waits_no_more number (Pool p) all = others number p.entries all

  gone_due : (number : ℕ) (s : Semaphore) → Each P (entries_in s) → Each P (entries_in (without_due number now s))
  gone_due number (Token s) all = by_entry (numbered number s.entries)
    where
      by_test : (e : SemEntry) (b : Bool) → Each P (if b then after_cancel s e.number else record s { entries = after_freeing now (without e.number s.entries) }).entries
      by_test e true = others e.number s.entries all
      by_test e false = freed (without e.number s.entries) (others e.number s.entries all)

      by_entry : (o : Option SemEntry) → Each P (expired_entry o now s).entries
      by_entry None = all
      by_entry (Some e) = by_test e (is_queued e)
  gone_due number (Pool p) all = by_entry (numbered number p.entries)
    where
      by_test : (e : SemEntry) (b : Bool) → Each P (if b then pool.after_cancel p e.number else record p { entries = pool.after_leaving e now p.entries }).entries
      by_test e true = others e.number p.entries all
      by_test e false = left e p.entries all

      by_entry : (o : Option SemEntry) → Each P (pool.expired_entry o now p).entries
      by_entry None = all
      by_entry (Some e) = by_test e (is_queued e)

  -- ---- a client is lost

  no_waiters : (client : ℕ) (s : Semaphore) → Each P (entries_in s) → Each P (entries_in (without_waiters client s))
  no_waiters client (Token s) all = each_kept P (λ e. not (waits_for client e)) s.entries all
  no_waiters client (Pool p) all = each_kept P (λ e. not (waits_for client e)) p.entries all

  hung_one : (n : ℕ) (e : SemEntry) → P e → P (hung_entry n e)
  hung_one n e is = by_test (e.number == n)
    where
      by_test : (b : Bool) → P (cond b (record e { state = SemState.Hung }) e)
      by_test true = keeps.hangs e is
      by_test false = is

  one_lost : (l : Loss) (o : SemEntry) → Each P l.entries → Each P (loss_of_one now l o).entries
  one_lost l o all = by_keep o.keep
    where
      by_keep : (b : Bool) → Each P (if b then record l { entries = map (hung_entry o.number) l.entries } else record {
        entries = after_freeing now (without o.number l.entries);
        grants = l.grants ++ option_to_list (option_map grant_of (next (without o.number l.entries)));
      }).entries
      by_keep true = each_mapped P (hung_entry o.number) (hung_one o.number) l.entries all
      by_keep false = freed (without o.number l.entries) (others o.number l.entries all)

  all_lost : (os : List SemEntry) (l : Loss) → Each P l.entries → Each P (fold (loss_of_one now) l os).entries
  all_lost [] l all = all
  all_lost (o ∷ os) l all = all_lost os (loss_of_one now l o) (one_lost l o all)

  pool_one_lost : (l : Loss) (o : SemEntry) → Each P l.entries → Each P (pool.loss_of_one now l o).entries
  pool_one_lost l o all = by_keep o.keep
    where
      by_keep : (b : Bool) → Each P (if b then record l { entries = map (hung_entry o.number) l.entries } else record {
        entries = pool.after_leaving o now l.entries;
        grants = l.grants ++ option_to_list (pool.grant_leaving o l.entries);
      }).entries
      by_keep true = each_mapped P (hung_entry o.number) (hung_one o.number) l.entries all
      by_keep false = left o l.entries all

  pool_all_lost : (os : List SemEntry) (l : Loss) → Each P l.entries → Each P (fold (pool.loss_of_one now) l os).entries
  pool_all_lost [] l all = all
  pool_all_lost (o ∷ os) l all = pool_all_lost os (pool.loss_of_one now l o) (pool_one_lost l o all)

  no_owners : (client : ℕ) (s : Semaphore) → Each P (entries_in s) → Each P (entries_in (without_owners client now s))
  no_owners client (Token s) all = all_lost (filter (owned_by client) s.entries) (record { entries = s.entries; grants = [] }) all
  no_owners client (Pool p) all = pool_all_lost (filter (owned_by client) p.entries) (record { entries = p.entries; grants = [] }) all

  -- ---- in all semaphores

  pub each_taken : (client invoke : ℕ) (asked : TakeControl) → ((place : Option ℕ) → IsMade P now (ask_of client invoke place asked)) → (rows : Rows)
      → RowsEach P rows → RowsEach P (take_after client invoke now asked rows)
  each_taken client invoke asked made rows all = rows_changed P (with_take client invoke asked now) (taken client invoke asked made) (key_of client asked.name) rows all

  pub each_relinquished : (key : Key) (client : ℕ) (token : Option (List ℕ)) (rows : Rows) → RowsEach P rows → RowsEach P (relinquished key client token now rows)
  each_relinquished key client token rows all = rows_changed P (with_token_back client token now) (given_back client token) key rows all

  pub each_cancelled : (key : Key) (number : ℕ) (rows : Rows) → RowsEach P rows → RowsEach P (cancelled key number rows)
  each_cancelled key number rows all = by_test (entry_waits (entry_in key number rows))
    where
      by_test : (b : Bool) → RowsEach P (if b then cancel_after key number rows else rows)
      by_test true = rows_changed P (without_entry number) (waits_no_more number) key rows all
      by_test false = all

  pub each_defined : (client : ℕ) (asked : DefineSemaphore) (rows : Rows) → RowsEach P rows → RowsEach P (define_after client asked rows)
  each_defined client asked rows all = rows_added P rows _ all tt

  pub each_deleted : (key : Key) (rows : Rows) → RowsEach P rows → RowsEach P (deleted key rows)
  each_deleted key rows all = rows_removed P (key_eq key) rows all

  pub each_lost : (client : ℕ) (rows : Rows) → RowsEach P rows → RowsEach P (lost client now rows)
  each_lost client rows all =
      rows_left P (λ row. not (scope_eq row.0.scope (Association client))) (all_changed (without_owners client now) (all_changed (without_waiters client) rows))
      (rows_mapped P (without_owners client now) (no_owners client) (all_changed (without_waiters client) rows)
      (rows_mapped P (without_waiters client) (no_waiters client) rows all))

  pub each_expired : (key : Key) (number : ℕ) (rows : Rows) → RowsEach P rows → RowsEach P (expire_after key number now rows)
  each_expired key number rows all = rows_changed P (without_due number now) (gone_due number) key rows all
