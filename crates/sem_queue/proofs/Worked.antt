-- Worked examples of rows by rank and by deadline, typed by hand from the definitions.
use Rattle.std.specs.Prelude.{◌≡◌, ℕ, zero, suc, ◌*◌, ◌%◌, ◌==◌, Bool, true, false, List, [], ◌∷◌, ◌++◌, map, filter, Option, Some, None, Ok, Err}
use Rattle.std.specs.List.{range_with_len}
use Rattle.std.proofs.Common.{refl}
use Rattle.mms_types.specs.declared.moment.Moment.{Moment}
use Rattle.sem_queue.specs.declared.row.Row.{Row}
use Rattle.sem_queue.specs.Rows.{least_number, number_after, listed, place_of, first_deadline, numbered, with_row, without}

-- a function answers each row of a table with its second column
abbrev Answers : {A B : Type 0} → (A → B) → List (A × B) → Type 0
Answers f table = map (λ row. f row.0) table ≡ map (λ row. row.1) table

abbrev at : ℕ → Moment
at ms = record { 0 = ms }

abbrev row : ℕ → ℕ → Bool → Option ℕ → Option Moment → Row
row number priority queued token deadline = record { number = number; priority = priority; queued = queued; token = token; deadline = deadline }

-- three tokens: 1 has token 0 until 500, 2 to 6 wait; 7 waits with the best rank, for token 2 alone
abbrev rows : List Row
rows =
    row 1 64 false (Some 0) (Some (at 500)) ∷ row 2 64 true (Some 0) None ∷ row 3 64 true None (Some (at 500)) ∷
    row 4 10 true (Some 1) None ∷ row 5 10 true (Some 0) None ∷ row 6 64 true (Some 0) None ∷ row 7 1 true (Some 2) (Some (at 900)) ∷ []

-- the lower priority, then the lower number, of those that want the token or any
first_served : Answers (λ token. least_number token rows) ((0, Some 5) ∷ (1, Some 4) ∷ (2, Some 7) ∷ [])
first_served = refl

none_waits : least_number 0 (row 1 64 false (Some 0) None ∷ row 4 10 true (Some 1) None ∷ []) ≡ None
none_waits = refl

next_served : Answers (λ (x : ℕ × ℕ). number_after x.1 x.0 rows) (((0, 5), Some 2) ∷ ((0, 2), Some 3) ∷ ((0, 3), Some 6) ∷ ((0, 6), None) ∷ ((0, 7), Some 5) ∷ ((2, 3), None) ∷ [])
next_served = refl

-- list 0 has 5, 2 and 6 in order of rank; list 3 has those that want any
places : Answers (λ (x : ℕ × (ℕ × ℕ)). place_of x.1.0 x.1.1 (listed 3 x.0 rows)) (
    ((0, (10, 5)), Ok 0) ∷ ((0, (64, 2)), Ok 1) ∷ ((0, (64, 6)), Ok 2) ∷ ((0, (64, 3)), Err 2) ∷ ((0, (0, 9)), Err 0) ∷ ((0, (65, 0)), Err 3) ∷
    ((3, (64, 3)), Ok 0) ∷ ((1, (64, 4)), Err 1) ∷ [])
places = refl

-- at one moment that of a row that has a token before that of one that waits
deadlines : Answers first_deadline (
    (rows, Some (at 500, 1)) ∷ (without 1 rows, Some (at 500, 3)) ∷ (without 3 (without 1 rows), Some (at 900, 7)) ∷ (row 2 64 true None None ∷ [], None) ∷ [])
deadlines = refl

-- a row comes where its number says, and goes by its number
comes : with_row (row 4 1 true None None) (row 3 1 true None None ∷ row 5 1 true None None ∷ []) ≡ row 3 1 true None None ∷ row 4 1 true None None ∷ row 5 1 true None None ∷ []
comes = refl

found : Answers (λ number. numbered number rows) ((4, Some (row 4 10 true (Some 1) None)) ∷ (8, None) ∷ [])
found = refl

-- three hundred rows that wait for any token, with priorities that rise and fall: each time a token is free, the lower
-- priority is served first, and of one priority the lower number

abbrev waiting : ℕ → Row
waiting n = row n ((n * 5) % 7) true None None

abbrev crowd : ℕ → List Row
crowd n = map waiting (range_with_len 1 n)

abbrev next_row : Option ℕ → ℕ
next_row None = 0
next_row (Some number) = number

-- the numbers of those that are served, one after the other
abbrev served : ℕ → List Row → List ℕ
served zero waits = []
served (suc n) waits = next_row (least_number 0 waits) ∷ served n (without (next_row (least_number 0 waits)) waits)

abbrev of_priority : ℕ → ℕ → List ℕ
of_priority n priority = filter (λ k. (k * 5) % 7 == priority) (range_with_len 1 n)

served_by_rank : served 300 (crowd 300) ≡ of_priority 300 0 ++ of_priority 300 1 ++ of_priority 300 2 ++ of_priority 300 3 ++ of_priority 300 4 ++ of_priority 300 5 ++ of_priority 300 6
served_by_rank = refl
