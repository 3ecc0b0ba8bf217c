-- Rows by rank and by deadline: ISO 9506-1, semaphore management.
use Rattle.std.specs.Prelude.{◌≡◌, ℕ, ◌+◌, ◌≤◌, Bool, true, false, not, ◌&&◌, ◌||◌, ◌==◌, nat_lt, if◌then◌else◌, List, ◌∷◌, ◌++◌, filter, filter_map, find, fold, count_by, All, Contains, Option, None, Some, IfSome, option_map, Result, Ok, Err}
use Rattle.std.specs.List.{list_any}
use Rattle.mms_types.specs.declared.moment.Moment.{Moment}
use Rattle.sem_queue.specs.declared.row.Row.{Row}
use Rattle.sem_queue.specs.declared.row.Due.{Due}

-- the rows in order of number, of how many tokens there are, and for how many more rows there is room
pub record Queue : Type 0 where
  pub rows : List Row
  pub tokens : ℕ
  pub spare : ℕ

-- the row of that number
abbrev pub numbered : ℕ → List Row → Option Row
numbered number rows = find (λ r. r.number == number) rows

-- how many rows have that number
abbrev pub count_numbered : ℕ → List Row → ℕ
count_numbered number rows = count_by (λ r. r.number == number) rows

-- the rows but the one of that number
abbrev pub without : ℕ → List Row → List Row
without number rows = filter (λ r. not (r.number == number)) rows

-- the rows with one more, in order of number
abbrev pub with_row : Row → List Row → List Row
with_row row rows = filter (λ r. nat_lt r.number row.number) rows ++ row ∷ filter (λ r. nat_lt row.number r.number) rows

-- served first: the lower priority, and of one priority the lower number (ISO 9506-1, TakeControl, priority)
abbrev pub before : Row → Row → Bool
before a b = nat_lt a.priority b.priority || (a.priority == b.priority && nat_lt a.number b.number)

-- the earlier of two, if there are two
abbrev pub earlier : {A : Type 0} → (A → A → Bool) → Option A → A → Option A
earlier less None x = Some x
earlier less (Some best) x = Some (if less x best then x else best)

-- the least of a list, and of equal ones the first
abbrev pub least : {A : Type 0} → (A → A → Bool) → List A → Option A
least less xs = fold (earlier less) None xs

-- no token was named, or it is that one
abbrev pub suits : ℕ → Option ℕ → Bool
suits token None = true
suits token (Some named) = named == token

-- the row waits for that token, or for any
abbrev pub wants : ℕ → Row → Bool
wants token r = r.queued && suits token r.token

-- the number of the row that gets the token
abbrev pub least_number : ℕ → List Row → Option ℕ
least_number token rows = option_map (λ r. r.number) (least before (filter (wants token) rows))

-- the number of the row that gets the token after that one
abbrev pub number_above : Option Row → ℕ → List Row → Option ℕ
number_above None token rows = None
number_above (Some row) token rows = option_map (λ r. r.number) (least before (filter (λ r. wants token r && before row r) rows))

abbrev pub number_after : ℕ → ℕ → List Row → Option ℕ
number_after number token rows = number_above (numbered number rows) token rows

-- the rows, a token that they are served with one after the other, and the number of the row that is next
pub record Following : Type 0 where
  pub rows : List Row
  pub token : ℕ
  pub next : Option ℕ

-- the number of the row that gets the token after that one, if there is one
abbrev pub next_after : Option ℕ → ℕ → List Row → Option ℕ
next_after None token rows = None
next_after (Some number) token rows = number_after number token rows

-- the next is served
abbrev pub after_next : Following → Following
after_next f = record f { next = next_after f.next f.token f.rows }

-- the number of the row of two that is served first
abbrev pub earlier_number : Option Row → Option Row → Option ℕ
earlier_number None None = None
earlier_number None (Some any) = Some any.number
earlier_number (Some own) None = Some own.number
earlier_number (Some own) (Some any) = Some (if before own any then own.number else any.number)

-- whether the row of that number waits, if there is one
abbrev pub waits_numbered : ℕ → List Row → Option Bool
waits_numbered number rows = option_map (λ r. r.queued) (numbered number rows)

-- a row goes, and leaves room for one more
abbrev pub after_remove : Option Row → Queue → Queue
after_remove None q = q
after_remove (Some row) q = record q { rows = without row.number q.rows; spare = q.spare + 1 }

-- a named token is one of so many
abbrev pub is_placed : ℕ → Option ℕ → Bool
is_placed tokens None = true
is_placed tokens (Some token) = nat_lt token tokens

-- the list that a row is in: that of the token that it wants, or the last, of those that want any
abbrev pub list_of : ℕ → Option ℕ → ℕ
list_of tokens None = tokens
list_of tokens (Some token) = token

-- the rows of a list
abbrev pub listed : ℕ → ℕ → List Row → List Row
listed tokens list rows = filter (λ r. r.queued && list_of tokens r.token == list) rows

abbrev pub has_rank : ℕ → ℕ → Row → Bool
has_rank priority number r = r.priority == priority && r.number == number

abbrev pub is_below : ℕ → ℕ → Row → Bool
is_below priority number r = nat_lt r.priority priority || (r.priority == priority && nat_lt r.number number)

-- how many rows of a list stand below that rank: the place of the rank, or the place where it would stand
abbrev pub place_of : ℕ → ℕ → List Row → Result ℕ ℕ
place_of priority number rows =
    if list_any (has_rank priority number) rows then Ok (count_by (is_below priority number) rows) else Err (count_by (is_below priority number) rows)

-- the kind of a deadline: 1 of a row that waits and 0 of another
abbrev pub kind_of : Bool → ℕ
kind_of false = 0
kind_of true = 1

-- met first: by moment, then by kind, then by number
abbrev pub sooner : Due → Due → Bool
sooner a b = nat_lt a.at.0 b.at.0 || (a.at.0 == b.at.0 && (nat_lt a.kind b.kind || (a.kind == b.kind && nat_lt a.number b.number)))

abbrev pub due_of : Row → Option Due
due_of r = option_map (λ at. record { at = at; kind = kind_of r.queued; number = r.number }) r.deadline

-- the deadline that is met first
abbrev pub first_due : List Row → Option Due
first_due rows = least sooner (filter_map due_of rows)

-- its moment, and the number of its row
abbrev pub first_deadline : List Row → Option (Moment × ℕ)
first_deadline rows = option_map (λ d. (d.at, d.number)) (first_due rows)

-- no two rows have one number
abbrev pub AreDistinct : List Row → Type 0
AreDistinct rows = (number : ℕ) → count_numbered number rows ≤ 1

-- the row stands among the rows and wants the token, and no other that wants it comes before it
pub record IsServedFirst (token : ℕ) (rows : List Row) (r : Row) : Type 0 where
  pub there : Contains rows r
  pub waits : wants token r ≡ true
  pub first : All (λ x. wants token x ≡ true → before x r ≡ false) rows

-- the deadline is that of one of the rows, and no row has a sooner one
pub record IsFirstDue (rows : List Row) (d : Due) : Type 0 where
  pub had : (r : Row) × Contains rows r × (due_of r ≡ Some d)
  pub first : All (λ x. IfSome (due_of x) (λ other. sooner other d ≡ false)) rows
