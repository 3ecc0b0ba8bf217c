-- A device of tables and clients (this profile's choice). An event makes something of the tables and tells clients something, in order. The row of a client is
-- changed by what it is told alone.
use Rattle.std.specs.Prelude.{◌≡◌, ℕ, zero, suc, ◌+◌, ◌-◌, ◌<◌, ◌==◌, Bool, Option, None, Some, List, [], ◌∷◌, ◌++◌, map, take, drop, length, slice_get, unwrap_or, nat_lt, if◌then◌else◌}
use Rattle.std.specs.List.{list_any}
use Rattle.part_table.specs.Held.{held_at}
use Rattle.parted_state.specs.Cut.{is_in, missing, shown_of, after_of, all_after_of}
pub use Rattle.parted_state.specs.Doing.{Done, change}
use Rattle.parted_state.specs.Doing.{Doing}
use Rattle.parted_state.specs.Doing as doing

-- A state S is tables T and the rows R of clients 1 to n; a client is told effects F; the parts are P.
pub record Device (S T R F P : Type 0) : Type 1 where
  pub tables_of : S → T
  pub clients_of : S → List R
  pub state_of : T → List R → S
  -- the parts of the tables, numbered from 0, and how many they are
  pub table_parts : T → List P
  pub tables : ℕ
  -- the last of them that stands in front of the clients' parts
  pub last : ℕ
  pub client_part : R → P
  -- whatever parts show is in order, and what is in order is what its parts show
  pub InOrder : T → Type 0
  -- what held parts show, and where a part isn't held, something in its place
  pub tables_in : List (Option P) → T
  pub row_in : Option P → R
  -- the row of nobody
  pub nobody : R
  -- what an effect makes of a row
  pub felt : F → R → R

-- What an event E does and wants: whose it is (0 is the device itself), the numbers of the tables that its words alone tell, stages of further tables, each told by
-- the row of its client and the tables before it, and what it does with these.
pub record Services (T R F E : Type 0) : Type 0 where
  pub own : E → ℕ
  pub words : E → List ℕ
  pub asks : E → List (T → R → List ℕ)
  pub serves : T → R → E → Done T F

-- what is seen of a list where some places pass
abbrev pub veiled : {P : Type 0} → (ℕ → Bool) → List P → List (Option P)
veiled passes [] = []
veiled passes (x ∷ xs) = (if passes 0 then Some x else None) ∷ veiled (λ i. passes (suc i)) xs

-- of each place that passes the one list's, and of the others the other's
abbrev pub chosen : {P : Type 0} → (ℕ → Bool) → List P → List P → List (Option P)
chosen passes [] other = []
chosen passes (x ∷ one) [] = []
chosen passes (x ∷ one) (y ∷ other) = Some (if passes 0 then x else y) ∷ chosen (λ i. passes (suc i)) one other

-- the first so many, and what stands behind a gap of n
abbrev pub around : {A : Type 0} → ℕ → ℕ → List A → List A
around front n xs = take front xs ++ drop (front + n) xs

-- whether a client is told something
abbrev pub is_told : {F : Type 0} → List (ℕ × F) → ℕ → Bool
is_told told client = list_any (λ t. t.0 == client) told

module _ {S T R F P : Type 0} (d : Device S T R F P) where
  -- how many parts stand in front of the clients'
  abbrev pub front : ℕ
  front = suc d.last

  -- ---- places

  abbrev pub client_place : ℕ → ℕ
  client_place client = d.last + client

  -- the place of a table's part, with n clients
  abbrev pub table_place : ℕ → ℕ → ℕ
  table_place n table = if nat_lt table front then table else table + n

  -- how many clients there are, by the number of parts
  abbrev pub clients_among : ℕ → ℕ
  clients_among places = places - d.tables

  -- ---- parts

  abbrev pub parts_of : S → List P
  parts_of s = take front (d.table_parts (d.tables_of s)) ++ (map d.client_part (d.clients_of s) ++ drop front (d.table_parts (d.tables_of s)))

  -- the state that held parts show
  abbrev pub state_in : List (Option P) → S
  state_in hand =
      d.state_of (d.tables_in (around front (clients_among (length hand)) hand)) (map d.row_in (take (clients_among (length hand)) (drop front hand)))

  -- the state's tables are in order
  abbrev pub IsInOrder : S → Type 0
  IsInOrder s = d.InOrder (d.tables_of s)

  -- ---- some of the tables

  -- these tables alone
  abbrev pub masked : List ℕ → T → T
  masked uses t = d.tables_in (veiled (is_in uses) (d.table_parts t))

  -- these tables of the one, and the others of the other
  abbrev pub merged : List ℕ → T → T → T
  merged uses one other = d.tables_in (chosen (is_in uses) (d.table_parts one) (d.table_parts other))

  -- what was done with these tables alone, beside the others
  abbrev pub done_within : List ℕ → T → Done T F → Done T F
  done_within uses t done = record { tables = merged uses done.tables t; told = done.told }

  -- ---- clients

  -- the row of a client
  abbrev pub row_at : ℕ → List R → R
  row_at client rows = doing.row_at d.nobody client rows

  -- an effect on the row of a client
  abbrev pub reached : ℕ → F → List R → List R
  reached client effect rows = doing.reached d.felt client effect rows

  -- the rows after what is told, in order
  abbrev pub delivered : List (ℕ × F) → List R → List R
  delivered told rows = doing.delivered d.felt told rows

  abbrev pub told_if : Bool → ℕ → List ℕ
  told_if told client = if told then client_place client ∷ [] else []

  -- the parts of those of clients 1 to n that are told something
  abbrev pub told_places : List (ℕ × F) → ℕ → List ℕ
  told_places told zero = []
  told_places told (suc n) = told_places told n ++ told_if (is_told told (suc n)) (suc n)

  -- ---- one event

  module _ {E : Type 0} (v : Services T R F E) where
    -- the tables that stages name
    abbrev pub asked : List (T → R → List ℕ) → T → R → List ℕ
    asked [] t row = []
    asked (stage ∷ stages) t row = stage t row ++ asked stages t row

    -- all tables that an event reads or changes
    abbrev pub uses : T → R → E → List ℕ
    uses t row event = v.words event ++ asked (v.asks event) t row

    -- what events do, apart from what they want
    abbrev pub doing_of : Doing S T R F E
    doing_of = record {
      tables_of = d.tables_of;
      clients_of = d.clients_of;
      state_of = d.state_of;
      nobody = d.nobody;
      felt = d.felt;
      own = v.own;
      serves = v.serves;
    }

    abbrev pub row_of : S → E → R
    row_of s event = doing.row_of doing_of s event

    abbrev pub done_of : S → E → Done T F
    done_of s event = doing.done_of doing_of s event

    abbrev pub step : S → E → S
    step s event = doing.after doing_of s event

    abbrev pub own_place : ℕ → List ℕ
    own_place zero = []
    own_place (suc i) = client_place (suc i) ∷ []

    abbrev pub places : ℕ → List ℕ → List ℕ
    places n tables = map (table_place n) tables

    -- what an event's words alone tell, with n clients
    abbrev pub footprint : ℕ → E → List ℕ
    footprint n event = own_place (v.own event) ++ places n (v.words event)

    abbrev pub table_stages : E → List (T → R → List ℕ) → List (S → List ℕ)
    table_stages event [] = (λ s. told_places (done_of s event).told (length (d.clients_of s))) ∷ []
    table_stages event (stage ∷ stages) = (λ s. places (length (d.clients_of s)) (stage (d.tables_of s) (row_of s event))) ∷ table_stages event stages

    -- an event wants what its words tell, then the tables that it uses, stage by stage, and then the parts of those that are told something
    abbrev pub wants : E → List (S → List ℕ)
    wants event = (λ s. footprint (length (d.clients_of s)) event) ∷ table_stages event (v.asks event)

    -- what held parts show to be wanted, and isn't held
    abbrev pub need : E → List (Option P) → List ℕ
    need event hand = missing hand (shown_of parts_of state_in (wants event) hand)

    -- held parts after an event, and all parts after it
    abbrev pub after : E → List (Option P) → List (Option P)
    after event hand = after_of parts_of state_in (wants event) (λ s. step s event) hand

    abbrev pub parts_after : E → List P → List P
    parts_after event parts = all_after_of parts_of state_in (wants event) (λ s. step s event) parts

    -- ---- what is to be shown of a device, and of each event

    -- each stage is told by the tables before it
    abbrev pub AreAsked : List ℕ → List (T → R → List ℕ) → T → R → Type 0
    AreAsked before [] t row = Unit {0}
    AreAsked before (stage ∷ stages) t row = (stage (masked before t) row ≡ stage t row) × AreAsked (before ++ stage t row) stages t row

    -- where tables are in order, an event is served by the tables that it uses alone, and leaves the others as they are
    pub record IsServed (event : E) : Type 0 where
      pub stages : (t : T) (row : R) → d.InOrder t → AreAsked (v.words event) (v.asks event) t row
      pub within : (t : T) (row : R) → d.InOrder t → v.serves t row event ≡ done_within (uses t row event) t (v.serves (masked (uses t row event) t) row event)

  -- tables are cut into their parts, and a state into tables and clients
  pub record IsDevice : Type 0 where
    pub many : (t : T) → length (d.table_parts t) ≡ d.tables
    pub behind : d.last < d.tables
    pub in_order : (hand : List (Option P)) → d.InOrder (d.tables_in hand)
    pub shown : (t : T) → d.table_parts (d.tables_in (map Some (d.table_parts t))) ≡ d.table_parts t
    pub whole : (t : T) → d.InOrder t → d.tables_in (map Some (d.table_parts t)) ≡ t
    pub by_place : (one other : List (Option P)) (table : ℕ) → held_at one table ≡ held_at other table
        → slice_get (d.table_parts (d.tables_in one)) table ≡ slice_get (d.table_parts (d.tables_in other)) table
    pub row_back : (row : R) → d.row_in (Some (d.client_part row)) ≡ row
    pub tables_back : (t : T) (rows : List R) → d.tables_of (d.state_of t rows) ≡ t
    pub clients_back : (t : T) (rows : List R) → d.clients_of (d.state_of t rows) ≡ rows
    pub state_back : (s : S) → d.state_of (d.tables_of s) (d.clients_of s) ≡ s
