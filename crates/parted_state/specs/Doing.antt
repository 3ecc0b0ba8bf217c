-- What events do to a state of tables and clients, whatever parts it is cut into (this profile's choice). An event makes something of the tables and tells clients
-- something, in order. The row of a client is changed by what it is told alone.
use Rattle.std.specs.Prelude.{ℕ, zero, suc, List, [], ◌∷◌, slice_get, unwrap_or}

-- what an event does: the tables after it, and what is told to whom
pub record Done (T F : Type 0) : Type 0 where
  pub tables : T
  pub told : List (ℕ × F)

-- A state S is tables T and the rows R of clients 1 to n; a client is told effects F; an event is an E.
pub record Doing (S T R F E : Type 0) : Type 0 where
  pub tables_of : S → T
  pub clients_of : S → List R
  pub state_of : T → List R → S
  -- the row of nobody
  pub nobody : R
  -- what an effect makes of a row
  pub felt : F → R → R
  -- whose an event is (0 is the device itself), and what it does with the tables by the row of its client
  pub own : E → ℕ
  pub serves : T → R → E → Done T F

-- the one at a place is changed
abbrev pub change : {A : Type 0} → (A → A) → List A → ℕ → List A
change f [] place = []
change f (x ∷ xs) zero = f x ∷ xs
change f (x ∷ xs) (suc place) = x ∷ change f xs place

-- the row of a client, or nobody's
abbrev pub row_at : {R : Type 0} → R → ℕ → List R → R
row_at nobody zero rows = nobody
row_at nobody (suc i) rows = unwrap_or (slice_get rows i) nobody

module _ {R F : Type 0} (felt : F → R → R) where
  -- an effect on the row of a client
  abbrev pub reached : ℕ → F → List R → List R
  reached zero effect rows = rows
  reached (suc i) effect rows = change (felt effect) rows i

  -- the rows after what is told, in order
  abbrev pub delivered : List (ℕ × F) → List R → List R
  delivered [] rows = rows
  delivered (t ∷ told) rows = delivered told (reached t.0 t.1 rows)

module _ {S T R F E : Type 0} (d : Doing S T R F E) where
  abbrev pub row_of : S → E → R
  row_of s event = row_at d.nobody (d.own event) (d.clients_of s)

  abbrev pub done_of : S → E → Done T F
  done_of s event = d.serves (d.tables_of s) (row_of s event) event

  -- the state after an event
  abbrev pub after : S → E → S
  after s event = d.state_of (done_of s event).tables (delivered d.felt (done_of s event).told (d.clients_of s))
