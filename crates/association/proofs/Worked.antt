-- Worked examples of the admission of requests and of what waits: no service makes a request wait yet.
use Rattle.std.specs.Prelude.{◌≡◌, ℕ, List, [], ◌∷◌, map, Ok, Err}
use Rattle.std.proofs.Common.{refl}
use Rattle.mms_types.specs.declared.identifier.Edition.TheVariants.{One}
use Rattle.mms_types.specs.declared.key.Scope.TheVariants.{Vmd}
use Rattle.mms_types.specs.declared.event.What.TheVariants.{Abort}
use Rattle.association.specs.declared.client_part.NotAdmitted.TheVariants as refused
use Rattle.association.specs.declared.constants.Constants.{Constants}
use Rattle.association.specs.declared.waiting.Waiting.{Waiting}
use Rattle.association.specs.Admission.{admission}
use Rattle.association.specs.Client.{ClientRow, new_row, opened_row, closed_row, row_with_output, row_with_waiting, row_without_waiting}

-- a function answers each row of a table with its second column
abbrev Answers : {A B : Type 0} → (A → B) → List (A × B) → Type 0
Answers f table = map (λ row. f row.0) table ≡ map (λ row. row.1) table

abbrev device : Constants
device = record { edition = One; vendor = 86 ∷ []; model = 77 ∷ []; revision = 49 ∷ [] }

-- client 7 with an association in which two of its requests may wait
abbrev opened : ClientRow
opened = opened_row (new_row 7 device) (record { size = 512; calling = 1; called = 2; nesting = 5 })

-- a request of that invokeID waits at the semaphore T, by that entry
abbrev at_t : ℕ → ℕ → Waiting
at_t invoke entry = record { invoke = invoke; key = record { scope = Vmd; item = 84 ∷ [] }; entry = entry }

abbrev one_waits : ClientRow
one_waits = row_with_waiting opened (at_t 5 31)

abbrev two_wait : ClientRow
two_wait = row_with_waiting one_waits (at_t 6 32)

-- an invokeID that waits is told before that as many wait as may; where there is no association none may
admitted : Answers (λ (asked : ℕ × ClientRow). admission asked.0 asked.1) (
    ((5, opened), Ok tt) ∷
    ((5, one_waits), Err refused.Waiting) ∷
    ((6, one_waits), Ok tt) ∷
    ((5, two_wait), Err refused.Waiting) ∷
    ((6, two_wait), Err refused.Waiting) ∷
    ((7, two_wait), Err refused.Outstanding) ∷
    ((7, row_without_waiting two_wait 5), Ok tt) ∷
    ((6, row_without_waiting two_wait 5), Err refused.Waiting) ∷
    ((1, closed_row two_wait), Err refused.Outstanding) ∷
    [])
admitted = refl

-- requests wait in the order in which they came, whatever is answered between
in_order : Answers (λ (row : ClientRow). row.waiting) (
    (two_wait, at_t 5 31 ∷ at_t 6 32 ∷ []) ∷
    (row_without_waiting two_wait 5, at_t 6 32 ∷ []) ∷
    (row_without_waiting two_wait 6, at_t 5 31 ∷ []) ∷
    (row_without_waiting two_wait 7, at_t 5 31 ∷ at_t 6 32 ∷ []) ∷
    (closed_row two_wait, []) ∷
    [])
in_order = refl

-- what is to be sent outlasts the association, and what waits does not
outlasts : closed_row (row_with_waiting (row_with_output opened Abort) (at_t 1 1)) ≡ row_with_output (new_row 7 device) Abort
outlasts = refl
