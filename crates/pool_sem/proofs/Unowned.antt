-- A client that owns no token of a pool leaves none: its queued entries go, and that is all.
use Rattle.std.proofs.Common.{◌≡◌, ap, ℕ, false, not, List, [], filter, fold}
use Rattle.std.specs.List.{list_any}
use Rattle.mms_types.specs.declared.moment.Moment.{Moment}
use Rattle.pool_sem.specs.Pools.{loss_of, loss_of_one}
use Rattle.token_sem.proofs.Unowned.{none_passes}
use Rattle.token_sem.specs.Semaphore.{owned_by, waits_for}
use Rattle.token_sem.specs.declared.entry.SemEntry.{SemEntry}

pub none_lost : (client : ℕ) (now : Moment) (es : List SemEntry) → list_any (owned_by client) es ≡ false
    → loss_of client now es ≡ record { entries = filter (λ e. not (waits_for client e)) es; grants = [] }
none_lost client now es e =
    ap (λ (owners : List SemEntry). fold (loss_of_one now) (record { entries = filter (λ x. not (waits_for client x)) es; grants = [] }) owners) (none_passes (owned_by client) es e)
