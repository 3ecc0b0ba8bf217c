-- How the rows stand inside: under keys, which are kept in three orders.
use Rattle.std.specs.Prelude.{◌≡◌, ℕ, ◌+◌, ◌<◌, ◌≤◌, Bool, true, false, not, ◌&&◌, ◌||◌, ◌==◌, nat_lt, List, map, length, All, AllPairs, count_by, if◌then◌else◌, Option, None, Some, is_some, unwrap_or, slice_index, slice_index_or, Vec, vec_len, vec_capacity}
use Rattle.std.specs.declared.alloc.Global.{Global}
use Rattle.mms_types.specs.declared.moment.Moment.{Moment}
use Rattle.slab.specs.Slab.{Slab, get, ContainsKey, slab_len}
use Rattle.sem_queue.specs.declared.row.Row.{Row}
use Rattle.sem_queue.specs.declared.order.Order.{Order}
use Rattle.sem_queue.specs.declared.order.Order.TheVariants.{Number, Rank, Deadline}
use Rattle.sem_queue.specs.declared.order.Mark.{Mark}
use Rattle.sem_queue.specs.Rows.{list_of, kind_of, is_placed, before, AreDistinct}

-- what stands for a row where there is none
abbrev pub no_row : Row
no_row = record { number = 0; priority = 0; queued = false; token = None; deadline = None }

-- the row under a key
abbrev pub row_at : Slab Row → ℕ → Row
row_at slots key = unwrap_or (get slots key) no_row

-- the rows under keys, in their order
abbrev pub rows_at : Slab Row → List ℕ → List Row
rows_at slots keys = map (row_at slots) keys

abbrev pub moment_of : Option Moment → ℕ
moment_of None = 0
moment_of (Some at) = at.0

-- what a row is compared by
abbrev pub mark_of : Order → Row → Mark
mark_of Number r = record { first = 0; second = 0; number = r.number }
mark_of (Rank tokens) r = record { first = list_of tokens r.token; second = r.priority; number = r.number }
mark_of Deadline r = record { first = moment_of r.deadline; second = kind_of r.queued; number = r.number }

abbrev pub precedes : Mark → Mark → Bool
precedes a b = nat_lt a.first b.first || (a.first == b.first && (nat_lt a.second b.second || (a.second == b.second && nat_lt a.number b.number)))

-- a key has a row
abbrev pub IsHeld : Slab Row → ℕ → Type 0
IsHeld slots key = ContainsKey slots key

-- the marks rise
abbrev pub Rises : Order → List Row → Type 0
Rises order rows = AllPairs (λ a b. precedes (mark_of order a) (mark_of order b) ≡ true) rows

-- the mark at a place
abbrev pub mark_at : Order → List Row → ℕ → Mark
mark_at order rows place = mark_of order (slice_index_or rows place no_row)

-- the rows before one place stand before the mark, and those from another on after it
pub record IsWithin (order : Order) (rows : List Row) (sought : Mark) (from to : ℕ) : Type 0 where
  pub before : (j : ℕ) → j < from → precedes (mark_at order rows j) sought ≡ true
  pub after : (j : ℕ) → to ≤ j → j < length rows → precedes sought (mark_at order rows j) ≡ true

-- the row at the place has the mark
pub record Stands (order : Order) (rows : List Row) (sought : Mark) (place : ℕ) : Type 0 where
  pub in_range : place < length rows
  pub is : mark_at order rows place ≡ sought

-- keys of rows in an order: each has a row, and their marks rise
pub record IsIndex (slots : Slab Row) (order : Order) (keys : List ℕ) : Type 0 where
  pub held : All (IsHeld slots) keys
  pub rises : Rises order (rows_at slots keys)

-- the list has, of the rows, those that are kept, each as often
abbrev pub IsChoice : (Row → Bool) → List Row → List Row → Type 0
IsChoice kept rows chosen = (test : Row → Bool) → count_by test chosen ≡ count_by (λ r. kept r && test r) rows

-- the row of that number, if it is wanted, is there once, and no other of its number
abbrev pub IsOnly : List Row → Bool → Row → Type 0
IsOnly rows wanted row = (test : Row → Bool) → count_by (λ r. r.number == row.number && test r) rows ≡ (if wanted && test row then 1 else 0)

-- a row comes, if it is wanted
abbrev pub Comes : Row → Bool → List Row → List Row → Type 0
Comes row wanted old new = (test : Row → Bool) → count_by test new ≡ count_by test old + (if wanted && test row then 1 else 0)

-- a row goes, if it was wanted
abbrev pub Goes : Row → Bool → List Row → List Row → Type 0
Goes row wanted old new = (test : Row → Bool) → count_by test new + (if wanted && test row then 1 else 0) ≡ count_by test old

abbrev pub is_due : Row → Bool
is_due r = is_some r.deadline

-- the row's list comes before that one
abbrev pub lists_below : ℕ → ℕ → Row → Bool
lists_below tokens list r = nat_lt (list_of tokens r.token) list

-- the row's mark is at most that of the rank in the list
abbrev pub is_up_to : ℕ → ℕ → Row → Row → Bool
is_up_to tokens list rank r = not (precedes (record { first = list; second = rank.priority; number = rank.number }) (mark_of (Rank tokens) r))

-- the row under the key at a place, where the place comes before an end
abbrev pub row_from : Slab Row → List ℕ → ℕ → ℕ → Option Row
row_from slots keys end place = if nat_lt place end then Some (slice_index_or (rows_at slots keys) place no_row) else None

-- what holds of the rows at any time
pub record IsRanks (tokens spare : ℕ) (slots : Slab Row) (by_number by_rank by_deadline : Vec ℕ Global) (starts : List ℕ) : Type 0 where
  pub numbers : IsIndex slots Number by_number.items
  pub ranks : IsIndex slots (Rank tokens) by_rank.items
  pub deadlines : IsIndex slots Deadline by_deadline.items
  -- those that wait stand in order of rank, and those with a deadline in order of deadline
  pub queued : IsChoice (λ r. r.queued) (rows_at slots by_number.items) (rows_at slots by_rank.items)
  pub due : IsChoice is_due (rows_at slots by_number.items) (rows_at slots by_deadline.items)
  -- each token is one of so many
  pub placed : count_by (λ r. not (is_placed tokens r.token)) (rows_at slots by_number.items) ≡ 0
  -- where each list of rows that wait begins
  pub lists : length starts ≡ tokens + 2
  pub begins : (list : ℕ) → list < tokens + 2 → slice_index starts list ≡ count_by (lists_below tokens list) (rows_at slots by_rank.items)
  -- there is room for so many rows more
  pub slots_room : slab_len slots + spare ≤ slots.capacity
  pub numbers_room : vec_len by_number + spare ≤ vec_capacity by_number
  pub ranks_room : vec_len by_number + spare ≤ vec_capacity by_rank
  pub deadlines_room : vec_len by_number + spare ≤ vec_capacity by_deadline

-- each row from one place to another comes before each of those from a third place to a fourth
abbrev pub AreBefore : List Row → ℕ → ℕ → ℕ → ℕ → Type 0
AreBefore rows from to other end =
    (i j : ℕ) → from ≤ i → i < to → other ≤ j → j < end → before (slice_index_or rows i no_row) (slice_index_or rows j no_row) ≡ true

-- what holds where rows are served one after the other: those before the places in the two lists come before those left
pub record IsServing (tokens token : ℕ) (slots : Slab Row) (by_rank starts : List ℕ) (rows : List Row) (own any : ℕ) : Type 0 where
  pub small : token < tokens
  pub ranks : IsIndex slots (Rank tokens) by_rank
  pub queued : IsChoice (λ r. r.queued) rows (rows_at slots by_rank)
  pub placed : count_by (λ r. not (is_placed tokens r.token)) rows ≡ 0
  pub distinct : AreDistinct rows
  pub lists : length starts ≡ tokens + 2
  pub begins : (list : ℕ) → list < tokens + 2 → slice_index starts list ≡ count_by (lists_below tokens list) (rows_at slots by_rank)
  pub own_from : slice_index starts token ≤ own
  pub own_to : own ≤ slice_index starts (token + 1)
  pub any_from : slice_index starts tokens ≤ any
  pub any_to : any ≤ slice_index starts (tokens + 1)
  pub own_before : AreBefore (rows_at slots by_rank) (slice_index starts token) own any (slice_index starts (tokens + 1))
  pub any_before : AreBefore (rows_at slots by_rank) (slice_index starts tokens) any own (slice_index starts (token + 1))
