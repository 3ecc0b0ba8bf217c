-- Who is lost and owns no token leaves none to be granted.
use Rattle.std.proofs.Common.{◌≡◌, ◌≢◌, ◌∙◌, refl, Bool, true, false, List, [], ℕ, Result, Ok, Err, OnErr}
use Rattle.mms_types.specs.declared.key.Key.{Key}
use Rattle.mms_types.specs.declared.moment.Moment.{Moment}
use Rattle.token_sem.specs.declared.entry.Grant.{Grant}
use Rattle.mms_time.proofs.Unowned.{none_told}
use Rattle.mms_time.specs.Loss.{lost_grants, owns_any}
use Rattle.mms_time.specs.Semaphores.{Rows}

pub on_err_then : {X Y P Q : Type 0} (r : Result X Y) → OnErr r P → (P → Q) → OnErr r Q
on_err_then (Ok x) p more = _
on_err_then (Err e) p more = more p

pub some_owned : (client : ℕ) (now : Moment) (rows : Rows) (grants : List (Key × Grant)) → grants ≡ lost_grants client now rows → grants ≢ [] → owns_any client rows ≡ true
some_owned client now rows grants told some = by_owned (owns_any client rows) (λ none. some (told ∙ none_told client now rows none))
  where
    by_owned : (b : Bool) → (b ≡ false → ⊥) → b ≡ true
    by_owned true h = refl
    by_owned false h = absurd (h refl)
