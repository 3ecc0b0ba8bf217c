-- Lemmas on the requests that wait, and on those that are unanswered.
use Rattle.std.proofs.Common.{◌≡◌, ℕ, false, List, [], ◌∷◌, refl, arith}
use Rattle.association.specs.declared.waiting.Waiting.{Waiting}
use Rattle.association.specs.declared.unanswered.Unanswered.{Unanswered}
use Rattle.association.specs.Asked.{is_asked, unsettled}
use Rattle.association.specs.Waiting.{is_waiting, without}

-- where the request doesn't wait, those that wait but for it are all
pub without_none : (invoke : ℕ) (rows : List Waiting) → is_waiting invoke rows ≡ false → without invoke rows ≡ rows
without_none invoke [] none = refl
without_none invoke (row ∷ rows) none = grind (arith, without_none invoke rows)

-- where none of that number is unanswered, those that are but for it are all
pub unsettled_none : (number : ℕ) (rows : List Unanswered) → is_asked number rows ≡ false → unsettled number rows ≡ rows
unsettled_none number [] none = refl
unsettled_none number (row ∷ rows) none = grind (arith, unsettled_none number rows)
