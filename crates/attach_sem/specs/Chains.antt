-- Who is served with a token that is freed, where requests are attached: each attached one gets the token, is carried
-- out and lets it go, so that the next by rank gets it, up to one that keeps it (ISO 9506-1, semaphore management).
use Rattle.std.specs.Prelude.{◌≡◌, ℕ, zero, suc, Bool, true, not, ◌&&◌, if◌then◌else◌, List, [], ◌∷◌, ◌++◌, filter, length, All, Option, None, Some, is_some, option_to_list}
use Rattle.mms_types.specs.declared.key.Key.{Key}
use Rattle.sem_queue.specs.declared.row.Row.{Row}
use Rattle.sem_queue.specs.Rows.{least, before, wants}
use Rattle.attach_sem.specs.Table.{found}
use Rattle.attach_sem.specs.declared.table.Pair.{Pair}
use Rattle.attach_sem.specs.declared.chain.Chain.{Chain}

-- the entry of that number has a request
abbrev pub is_attached : Key → List Pair → ℕ → Bool
is_attached key pairs entry = is_some (found key entry pairs)

-- nobody more is served but that one
abbrev pub ended : Option ℕ → Chain
ended last = record { attached = []; last = last }

-- the first is attached: it is served, and then the others; else it keeps the token
abbrev pub link : (ℕ → Bool) → Option Row → (Row → Chain) → Chain
link attached None others = ended None
link attached (Some r) others =
    if attached r.number then record (others r) { attached = r.number ∷ (others r).attached } else ended (Some r.number)

-- the first of the rows by rank, and then those that it comes before; so many rows at most
abbrev pub links : (ℕ → Bool) → ℕ → List Row → Chain
links attached zero rows = ended None
links attached (suc most) rows = link attached (least before rows) (λ r. links attached most (filter (before r) rows))

-- who is served with the token, of rows by rank
abbrev pub chain : (ℕ → Bool) → ℕ → List Row → Chain
chain attached token rows = links attached (length rows) (filter (wants token) rows)

-- all that are served
abbrev pub all_served : Chain → List ℕ
all_served c = c.attached ++ option_to_list c.last

-- the row wants the token, and its entry has no attached request: it is that of a take
abbrev pub takes : (ℕ → Bool) → ℕ → Row → Bool
takes attached token r = wants token r && not (attached r.number)

-- each comes before those that follow it
abbrev pub AreInOrder : List Row → Type 0
AreInOrder [] = Unit {0}
AreInOrder (r ∷ rows) = All (λ x. before r x ≡ true) rows × AreInOrder rows
