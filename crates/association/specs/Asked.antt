-- The requests that the server makes of a client, and their numbers (ISO 9506-1, environment and general management).
use Rattle.std.specs.Prelude.{ℕ, ◌<◌, ◌≡◌, ◌≢◌, Bool, true, false, not, ◌==◌, List, [], All, AllPairs, filter, find, Option, Some, None, nat_le, option_map, if◌then◌else◌}
use Rattle.std.specs.List.{list_any}
use Rattle.mms_types.specs.declared.asked.Asked.{Asked}
use Rattle.association.specs.declared.negotiation.Association.{Association}
use Rattle.association.specs.declared.negotiation.Association.TheVariants.{Idle, Open}
use Rattle.association.specs.declared.unanswered.Unanswered.{Unanswered}

-- there is an association
abbrev pub is_open : Association → Bool
is_open Idle = false
is_open (Open values) = true

-- a request of that number is unanswered
abbrev pub is_asked : ℕ → List Unanswered → Bool
is_asked number rows = list_any (λ row. row.invoke == number) rows

-- the request of that number, where it is unanswered
abbrev pub row_asked : ℕ → List Unanswered → Option Unanswered
row_asked number rows = find (λ row. row.invoke == number) rows

-- what it asks, and of which domain
abbrev pub asked_of : ℕ → List Unanswered → Option (Asked × List ℕ)
asked_of number rows = option_map (λ row. (row.kind, row.domain)) (row_asked number rows)

-- the unanswered requests but for that of the number
abbrev pub unsettled : ℕ → List Unanswered → List Unanswered
unsettled number rows = filter (λ row. not (row.invoke == number)) rows

-- the number of a request is an invokeID, which has 32 bits: behind the greatest there is none
abbrev pub number_of : ℕ → Option ℕ
number_of next = if nat_le next 4294967295 then Some next else None

-- no two unanswered requests have one number
abbrev pub AreApart : List Unanswered → Type 0
AreApart rows = AllPairs (λ one other. one.invoke ≢ other.invoke) rows

-- their numbers were given before the next one
abbrev pub AreBelow : ℕ → List Unanswered → Type 0
AreBelow next rows = All (λ row. row.invoke < next) rows

-- the numbers of unanswered requests are distinct and below the next one; without an association there is none, and the next
-- one is 1
abbrev pub AskedAreNumbered : Association → List Unanswered → ℕ → Type 0
AskedAreNumbered association rows next =
    AreApart rows × AreBelow next rows × (is_open association ≡ false → (rows ≡ []) × (next ≡ 1))
