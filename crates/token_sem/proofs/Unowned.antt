-- A client that owns no token leaves none: its queued entries go, and that is all.
use Rattle.std.proofs.Common.{◌≡◌, ap, refl, ℕ, Bool, true, false, not, ◌||◌, cond, List, [], ◌∷◌, filter, fold}
use Rattle.std.specs.List.{list_any}
use Rattle.mms_types.specs.declared.moment.Moment.{Moment}
use Rattle.token_sem.specs.Semaphore.{loss_of, loss_of_one, owned_by, waits_for}
use Rattle.token_sem.specs.declared.entry.SemEntry.{SemEntry}

pub none_passes : (p : SemEntry → Bool) (es : List SemEntry) → list_any p es ≡ false → filter p es ≡ []
none_passes p [] e = refl
none_passes p (x ∷ es) e = by_first (p x) (none_passes p es) e
  where
    by_first : (b : Bool) → (list_any p es ≡ false → filter p es ≡ []) → (b || list_any p es) ≡ false → cond b (x ∷ filter p es) (filter p es) ≡ []
    by_first true rest h = absurd cc
    by_first false rest h = rest h

pub none_lost : (client : ℕ) (now : Moment) (es : List SemEntry) → list_any (owned_by client) es ≡ false
    → loss_of client now es ≡ record { entries = filter (λ e. not (waits_for client e)) es; grants = [] }
none_lost client now es e =
    ap (λ (owners : List SemEntry). fold (loss_of_one now) (record { entries = filter (λ x. not (waits_for client x)) es; grants = [] }) owners) (none_passes (owned_by client) es e)
