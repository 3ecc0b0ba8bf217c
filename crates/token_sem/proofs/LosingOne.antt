-- Losing one of a client's owners keeps what holds of a semaphore.
use Rattle.std.proofs.Common.{◌≡◌, ℕ, Bool, true, false, not, ◌==◌, ◌&&◌, [], ◌∷◌, Option, None, Some, refl, ap}
use Rattle.mms_types.specs.declared.moment.Moment.{Moment}
use Rattle.token_sem.specs.declared.entry.SemEntry.{SemEntry}
use Rattle.token_sem.specs.Semaphore.{Sem, IsSem, owner_of, is_queued, without_waiters, waits_for, losing, after_lose_one}
use Rattle.token_sem.proofs.Keeping.{rises-above}
use Rattle.token_sem.proofs.Losing.{lost-fold, unqueued, among-filter, owner-not_queued}
use Rattle.token_sem.proofs.Tabled.{owner-is}

pub stays : (client : ℕ) (o : SemEntry) → is_queued o ≡ false → not (waits_for client o) ≡ true
stays client o q = by_client (o.client == client) q
  where
    by_client : (b : Bool) → is_queued o ≡ false → not (b && is_queued o) ≡ true
    by_client true q = ap not q
    by_client false q = refl

pub lose_one-keeps : (s : Sem) (client : ℕ) (now : Moment) → IsSem s → IsSem (after_lose_one s client now)
lose_one-keeps s client now is = by_owner (owner_of client s.entries) refl
  where
    by_owner : (o : Option SemEntry) → owner_of client s.entries ≡ o → IsSem (record s { entries = (losing o now (record { entries = without_waiters client s.entries; grants = [] })).entries })
    by_owner None f = unqueued s client is
    by_owner (Some o) f =
        let there = owner-is client s.entries o f in
        let kept = among-filter (λ e. not (waits_for client e)) s.entries o there.0 (stays client o (owner-not_queued o there.1)) in
        lost-fold (o ∷ []) (record { entries = without_waiters client s.entries; grants = [] }) s.tokens s.made 0 now (unqueued s client is) ((kept, there.1), tt)
        (rises-above 0 s.made s.entries o is.rises there.0)
