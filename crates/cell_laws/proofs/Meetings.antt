-- A deadline that is met, and all that are met meanwhile, keep what links requests that wait and entries that are
-- queued.
use Rattle.std.proofs.Common.{◌≡◌, ℕ, Bool, true, false, cond, ◌==◌, ◌&&◌, List, Option, None, Some, option_and_then, option_to_list, if◌then◌else◌, refl, sym, ◌∙◌, ap}
use Rattle.std.specs.Map.{lookup}
use Rattle.mms_types.specs.Order.{key_eq}
use Rattle.mms_types.specs.declared.key.Key.{Key}
use Rattle.mms_types.specs.declared.moment.Moment.{Moment}
use Rattle.association.specs.declared.waiting.Waiting.{Waiting}
use Rattle.token_sem.specs.declared.entry.Expired.{Expired}
use Rattle.token_sem.specs.declared.entry.SemEntry.{SemEntry}
use Rattle.token_sem.specs.Semaphore.{aborts, is_owner, is_queued, numbered, without}
use Rattle.token_sem.specs.Semaphore as token
use Rattle.token_sem.proofs.Keeping.{among-find, expire-keeps}
use Rattle.pool_sem.specs.Pools as pool
use Rattle.pool_sem.proofs.Freeing as pool-free
use Rattle.mms_time.specs.Deadlines.{expired, expired_entry, expired_from, expired_in, expire_after, without_due}
use Rattle.mms_time.specs.Semaphores.{IsSound, Rows, entries_in, entries_of, made_in}
use Rattle.mms_time.specs.declared.row.Semaphore.{Semaphore}
use Rattle.mms_time.specs.declared.row.Semaphore.TheVariants.{Token, Pool}
use Rattle.mms_time.specs.declared.row.SemaphoreRow.{SemaphoreRow}
use Rattle.sem_ticks.specs.Sound.{AreSound}
use Rattle.sem_ticks.proofs.Kept.{keeps_changed, row_found}
use Rattle.cell_laws.specs.Linked.{asker, asker_of}
use Rattle.cell_laws.proofs.Bound.{Bound, bound-drop, nat-same}
use Rattle.cell_laws.proofs.Bounds.{bound-freed, told_of}
use Rattle.cell_laws.proofs.Entries.{Frees, Leaving, asker_at, drops-without, freeing, leaving, not_queued, rises-in}
use Rattle.cell_laws.proofs.Queues.{asker_in, changed-less, is_answered}

-- ---- the entry in its semaphore

-- what is told of it, by how it goes
abbrev pub expiry_by : Leaving → SemEntry → List SemEntry → Expired
expiry_by v e es = record {
  client = e.client;
  invoke = e.invoke;
  waited = is_queued e;
  abort = is_owner e && aborts e.abort;
  grant = if is_queued e then None else v.heir e es;
}

pub expiry-is : (e : SemEntry) (s : Semaphore) → expired_from e s ≡ expiry_by (leaving s) e (entries_in s)
expiry-is e (Token s) = refl
expiry-is e (Pool p) = refl

-- the entries then
pub due-entries : (s : Semaphore) (number : ℕ) (now : Moment) (e : SemEntry) → numbered number (entries_in s) ≡ Some e
    → entries_in (without_due number now s) ≡ cond (is_queued e) (without e.number (entries_in s)) ((leaving s).entries now e (entries_in s))
due-entries (Token s) number now e at = ap (λ (o : Option SemEntry). (token.expired_entry o now s).entries) at ∙ by_test (is_queued e)
  where
    by_test : (b : Bool) → (if b then token.after_cancel s e.number else record s { entries = token.after_freeing now (without e.number s.entries) }).entries
        ≡ cond b (without e.number s.entries) (token.after_freeing now (without e.number s.entries))
    by_test true = refl
    by_test false = refl
due-entries (Pool p) number now e at = ap (λ (o : Option SemEntry). (pool.expired_entry o now p).entries) at ∙ by_test (is_queued e)
  where
    by_test : (b : Bool) → (if b then pool.after_cancel p e.number else record p { entries = pool.after_leaving e now p.entries }).entries
        ≡ cond b (without e.number p.entries) (pool.after_leaving e now p.entries)
    by_test true = refl
    by_test false = refl

-- one that has a token goes, which another is granted
pub due-frees : (s : Semaphore) (number : ℕ) (now : Moment) (e : SemEntry) → IsSound s → numbered number (entries_in s) ≡ Some e → is_queued e ≡ false
    → Frees (entries_in s) (option_to_list ((leaving s).heir e (entries_in s))) ((leaving s).entries now e (entries_in s))
due-frees s number now e is at q =
    (freeing s).frees (made_in s) now (entries_in s) e (rises-in s is)
    (not_queued (made_in s) (entries_in s) e (rises-in s is) (among-find (λ y. y.number == number) (entries_in s) e at).0 q)

-- ---- in all semaphores

-- what becomes of the requests of an entry whose deadline is met: it waits no more, or one is granted its token
abbrev pub is_met : Rows → Key → Expired → ℕ → ℕ → Bool
is_met named key x c i = if x.waited then c == x.client && i == x.invoke else is_answered (option_to_list (told_of named key x.grant)) c i

module _ (rows : Rows) (f g : ℕ → ℕ → Option Waiting) (bound : Bound (asker rows) f) (sound : AreSound rows) where
  pub bound-met : (named : Rows) (key : Key) (number : ℕ) (now : Moment) (x : Expired) → expired key number rows ≡ Some x
      → ((c i : ℕ) → g c i ≡ cond (is_met named key x c i) None (f c i)) → Bound (asker (expire_after key number now rows)) g
  bound-met named key number now x is left = by_row (lookup (key_eq key) rows) refl is
    where
      in_semaphore : (row : SemaphoreRow) → lookup (key_eq key) rows ≡ Some row → IsSound row.semaphore → (o : Option SemEntry) → numbered number (entries_of row) ≡ o
          → expired_entry row.semaphore o ≡ Some x → Bound (asker (expire_after key number now rows)) g
      in_semaphore row found is_sound None e h = absurd (cc h)
      in_semaphore row found is_sound (Some e) at h = by_state (is_queued e) refl
        where
          same : expiry_by (leaving row.semaphore) e (entries_of row) ≡ x
          same = let from : expired_from e row.semaphore ≡ x = cc h in sym (expiry-is e row.semaphore) ∙ from

          met : (c i : ℕ) → g c i ≡ cond (is_met named key (expiry_by (leaving row.semaphore) e (entries_of row)) c i) None (f c i)
          met c i = left c i ∙ ap (λ (y : Expired). cond (is_met named key y c i) None (f c i)) (sym same)

          its : e.number ≡ number
          its = nat-same e.number number (among-find (λ y. y.number == number) (entries_of row) e at).1

          after : (b : Bool) → is_queued e ≡ b → (n : ℕ)
              → asker_at n (entries_in (without_due number now row.semaphore)) ≡ asker_at n (cond b (without e.number (entries_of row)) ((leaving row.semaphore).entries now e (entries_of row)))
          after b q n =
              ap (asker_at n) (due-entries row.semaphore number now e at)
              ∙ ap (λ (t : Bool). asker_at n (cond t (without e.number (entries_of row)) ((leaving row.semaphore).entries now e (entries_of row)))) q

          by_state : (b : Bool) → is_queued e ≡ b → Bound (asker (expire_after key number now rows)) g
          by_state true q =
              bound-drop (asker rows) f bound (asker (expire_after key number now rows)) g key e.number e.client e.invoke
              (ap (asker_in e.number) found ∙ ap (λ m. asker_at m (entries_of row)) its ∙ ap asker_of at ∙ ap (λ t. cond t (Some (e.client, e.invoke)) None) q)
              (changed-less (without_due number now) key rows row e.number found (λ n. after true q n ∙ drops-without e.number (entries_of row) n))
              (λ c i. met c i
              ∙ ap (λ (t : Bool). cond (if t then c == e.client && i == e.invoke else is_answered (option_to_list (told_of named key (if is_queued e then None else (leaving row.semaphore).heir e (entries_of row)))) c i) None (f c i)) q)
          by_state false q =
              bound-freed rows f bound (without_due number now) key row ((leaving row.semaphore).heir e (entries_of row)) named g found
              (record { left = λ n. after false q n ∙ frees.left n; each = frees.each })
              (λ c i. met c i
              ∙ ap (λ (t : Bool). cond (if t then c == e.client && i == e.invoke else is_answered (option_to_list (told_of named key (if t then None else (leaving row.semaphore).heir e (entries_of row)))) c i) None (f c i)) q)
            where
              frees : Frees (entries_of row) (option_to_list ((leaving row.semaphore).heir e (entries_of row))) ((leaving row.semaphore).entries now e (entries_of row))
              frees = due-frees row.semaphore number now e is_sound at q

      by_row : (p : Option SemaphoreRow) → lookup (key_eq key) rows ≡ p → option_and_then (expired_in number) p ≡ Some x → Bound (asker (expire_after key number now rows)) g
      by_row None e h = absurd (cc h)
      by_row (Some row) e h = in_semaphore row e (row_found rows key row sound.each e) (numbered number (entries_of row)) refl h

  -- each stays sound
  pub sound-met : (key : Key) (number : ℕ) (now : Moment) → AreSound (expire_after key number now rows)
  sound-met key number now = keeps_changed (without_due number now) key rows (λ row found is. in_semaphore row.semaphore is) sound
    where
      in_semaphore : (s : Semaphore) → IsSound s → IsSound (without_due number now s)
      in_semaphore (Token s) is = expire-keeps s number now is
      in_semaphore (Pool p) is = pool-free.expire-keeps p number now is
