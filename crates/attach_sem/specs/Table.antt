-- Requests that are attached to a semaphore: each with the entry that waits for its token (ISO 9506-1, semaphore management).
use Rattle.std.specs.Prelude.{ℕ, ◌+◌, ◌≤◌, Bool, not, ◌&&◌, ◌==◌, List, filter, find, count_by, Option}
use Rattle.mms_types.specs.Order.{key_eq}
use Rattle.mms_types.specs.declared.key.Key.{Key}
use Rattle.attach_sem.specs.declared.table.Pair.{Pair}

-- the requests in the order in which they came, and for how many more there is room
pub record Table : Type 0 where
  pub pairs : List Pair
  pub spare : ℕ

-- it is the request of the entry of that number, of the semaphore of that name
abbrev pub is_of : Key → ℕ → Pair → Bool
is_of key entry p = p.entry == entry && key_eq p.key key

-- it is a request of that client
abbrev pub is_by : ℕ → Pair → Bool
is_by client p = p.waiting.client == client

abbrev pub found : Key → ℕ → List Pair → Option Pair
found key entry pairs = find (is_of key entry) pairs

-- those that pass go, and leave their room
abbrev pub after_going : (Pair → Bool) → Table → Table
after_going goes t = record { pairs = filter (λ p. not (goes p)) t.pairs; spare = t.spare + count_by goes t.pairs }

-- no entry has two
abbrev pub AreDistinct : List Pair → Type 0
AreDistinct pairs = (key : Key) (entry : ℕ) → count_by (is_of key entry) pairs ≤ 1
