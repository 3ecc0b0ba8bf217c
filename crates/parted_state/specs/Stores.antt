-- A second example: rows with names that stand in one list of the state and in sixteen parts, each in the part that its name tells (this profile's choice).
use Rattle.std.specs.Prelude.{ℕ, zero, suc, ◌+◌, ◌==◌, nat_le, Bool, false, Option, None, Some, List, [], ◌∷◌, ◌++◌, map, length, if◌then◌else◌}
use Rattle.std.specs.Map.{lookup, set_value}
use Rattle.part_table.specs.Held.{held_at}
use Rattle.parted_state.specs.Area.{Own, Tells, Area}
use Rattle.parted_state.specs.Gathered.{IsInOrder as StandsInOrder, only, cut_from, gathered, put_behind}
use Rattle.parted_state.specs.Served.{Device, Services, Done}

-- the moment, and rows: a name, and the moment until which it is taken, 0 where it is free
pub record Tables : Type 0 where
  pub now : ℕ
  pub rows : List (ℕ × ℕ)

pub record State : Type 0 where
  pub tables : Tables
  pub clients : List (List ℕ)

pub data Part : Type 0 where
  Clock : ℕ → Part
  Store : List (ℕ × ℕ) → Part
  Client : List ℕ → Part

abbrev pub clock_in : Option Part → ℕ
clock_in (Some (Clock now)) = now
clock_in other = 0

abbrev pub rows_in : Option Part → List (ℕ × ℕ)
rows_in (Some (Store rows)) = rows
rows_in other = []

abbrev pub row_in : Option Part → List ℕ
row_in (Some (Client row)) = row
row_in other = []

-- what is asked: a name for ever, a name for so long, one name more, or that time goes by
pub data Asked : Type 0 where
  Take : ℕ → Asked
  TakeFor : ℕ → ℕ → Asked
  Define : ℕ → Asked
  Tick : ℕ → Asked

pub record Event : Type 0 where
  pub client : ℕ
  pub asked : Asked

pub data Question : Type 0 where
  Now : Question

pub record Facts : Type 0 where
  pub now : ℕ

abbrev pub parts_many : ℕ
parts_many = 16

module _ (place : ℕ → ℕ) where
  abbrev pub place_of : ℕ × ℕ → ℕ
  place_of e = place e.0

  abbrev pub stores : Device State Tables (List ℕ) ℕ Part
  stores = record {
    tables_of = λ s. s.tables;
    clients_of = λ s. s.clients;
    state_of = λ t rows. record { tables = t; clients = rows };
    table_parts = λ t. Clock t.now ∷ map Store (cut_from place_of 0 parts_many t.rows);
    tables = 17;
    last = 0;
    client_part = Client;
    InOrder = λ t. StandsInOrder place_of parts_many t.rows;
    tables_in = λ hand. record { now = clock_in (held_at hand 0); rows = gathered place_of parts_many (λ k. rows_in (held_at hand (suc k))) };
    row_in = row_in;
    nobody = [];
    felt = λ told row. row ++ told ∷ [];
  }

  -- ---- tables: the clock, the store of a place, and all of them

  abbrev pub own_clock : Own Tables ℕ
  own_clock = record { numbers = 0 ∷ []; of = λ t. t.now; put = λ new t. record t { now = new } }

  abbrev pub own_store : ℕ → Own Tables (List (ℕ × ℕ))
  own_store k = record {
    numbers = suc k ∷ [];
    of = λ t. only place_of k t.rows;
    put = λ new t. record t { rows = gathered place_of parts_many (λ j. if j == k then new else t.rows) };
  }

  abbrev pub numbers_from : ℕ → ℕ → List ℕ
  numbers_from k zero = []
  numbers_from k (suc n) = k ∷ numbers_from (suc k) n

  abbrev pub own_all : Own Tables (List (ℕ × ℕ))
  own_all = record {
    numbers = numbers_from 1 parts_many;
    of = λ t. t.rows;
    put = λ new t. record t { rows = gathered place_of parts_many (λ j. new) };
  }

  abbrev pub noted : Question → Tables → Facts → Facts
  noted Now t facts = record { now = t.now }

  abbrev pub tells : Tells Tables Question Facts
  tells = record { nothing = record { now = 0 }; tables = λ k. 0 ∷ []; noted = noted }

  -- ---- what is served, on rows: on all of them, and so on those of one place

  -- a name is taken that is there and free
  abbrev pub may_take : Option ℕ → Bool
  may_take None = false
  may_take (Some until) = until == 0

  abbrev pub changed : Bool → ℕ → ℕ → List (ℕ × ℕ) → List (ℕ × ℕ)
  changed takes name until rows = if takes then set_value (λ k. k == name) rows until else rows

  abbrev pub taken : ℕ → ℕ → List (ℕ × ℕ) → List (ℕ × ℕ)
  taken name until rows = changed (may_take (lookup (λ k. k == name) rows)) name until rows

  abbrev pub answer : ℕ → List (ℕ × ℕ) → ℕ
  answer name rows = if may_take (lookup (λ k. k == name) rows) then 1 else 0

  abbrev pub take_done : ℕ → ℕ → ℕ → List (ℕ × ℕ) → Done (List (ℕ × ℕ)) ℕ
  take_done client name until rows = record { tables = taken name until rows; told = (client, answer name rows) ∷ [] }

  -- the name of a request, and whether it asks for the moment: one that sets none doesn't
  abbrev pub take_words : ℕ → Asked → List Question
  take_words who (TakeFor name ms) = Now ∷ []
  take_words who other = []

  abbrev pub take_serves : Facts → List (ℕ × ℕ) → ℕ → Asked → Done (List (ℕ × ℕ)) ℕ
  take_serves facts rows client (Take name) = take_done client name 1 rows
  take_serves facts rows client (TakeFor name ms) = take_done client name (facts.now + ms) rows
  take_serves facts rows client other = record { tables = rows; told = [] }

  abbrev pub taking : Area (List (ℕ × ℕ)) ℕ ℕ Asked Question Facts
  taking = record { words = take_words; more = λ rows who asked. []; serves = take_serves }

  -- one name more, where there are few in all
  abbrev pub defined : ℕ → List (ℕ × ℕ) → List (ℕ × ℕ)
  defined name rows = if nat_le 256 (length rows) then rows else put_behind place_of (name, 0) rows

  -- those whose time is over are free, and who asks is told how many rows there are
  abbrev pub over : ℕ → ℕ × ℕ → ℕ × ℕ
  over now e = if nat_le e.1 now then (e.0, 0) else e

  abbrev pub passed : ℕ → List (ℕ × ℕ) → List (ℕ × ℕ)
  passed now rows = map (over now) rows

  -- ---- each event, on the tables as they are: one list

  abbrev pub serves : Tables → ℕ → Asked → Done Tables ℕ
  serves t c (Take name) = record { tables = record t { rows = taken name 1 t.rows }; told = (c, answer name t.rows) ∷ [] }
  serves t c (TakeFor name ms) = record { tables = record t { rows = taken name (t.now + ms) t.rows }; told = (c, answer name t.rows) ∷ [] }
  serves t c (Define name) = record { tables = record t { rows = defined name t.rows }; told = (c, length t.rows) ∷ [] }
  serves t c (Tick ms) = record { tables = record { now = t.now + ms; rows = passed (t.now + ms) t.rows }; told = (c, length t.rows) ∷ [] }

  abbrev pub words : Asked → List ℕ
  words (Take name) = suc (place name) ∷ []
  words (TakeFor name ms) = suc (place name) ∷ 0 ∷ []
  words (Define name) = numbers_from 1 parts_many
  words (Tick ms) = 0 ∷ numbers_from 1 parts_many

  abbrev pub services : Services Tables (List ℕ) ℕ Event
  services = record { own = λ e. e.client; words = λ e. words e.asked; asks = λ e. []; serves = λ t row e. serves t e.client e.asked }
