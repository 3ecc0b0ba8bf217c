-- The requests of a client that wait at the server (ISO 9506-1, environment and general management).
use Rattle.std.specs.Prelude.{ℕ, Bool, not, ◌==◌, ◌≢◌, List, AllPairs, filter}
use Rattle.std.specs.List.{list_any}
use Rattle.association.specs.declared.waiting.Waiting.{Waiting}

-- the request of that invokeID waits
abbrev pub is_waiting : ℕ → List Waiting → Bool
is_waiting invoke rows = list_any (λ row. row.invoke == invoke) rows

-- the requests that wait but for that of the invokeID
abbrev pub without : ℕ → List Waiting → List Waiting
without invoke rows = filter (λ row. not (row.invoke == invoke)) rows

-- no two requests that wait have one invokeID
abbrev pub AreDistinct : List Waiting → Type 0
AreDistinct rows = AllPairs (λ one other. one.invoke ≢ other.invoke) rows
