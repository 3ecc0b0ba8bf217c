-- How code serves an event on held parts (this profile's choice): it lifts the tables out of them, serves the event, puts the tables back, and tells clients.
use Rattle.std.specs.Prelude.{ℕ, zero, suc, Option, Some, List, [], ◌∷◌, length, nat_lt, if◌then◌else◌}
use Rattle.std.specs.Option.{option_map}
use Rattle.part_table.specs.Held.{held_at}
use Rattle.parted_state.specs.Served.{Done, Device, change, around, front, client_place, table_place, clients_among}

module _ {S T R F P : Type 0} (d : Device S T R F P) where
  -- the tables that held parts show, and the row of a client
  abbrev pub tables_shown : List (Option P) → T
  tables_shown hand = d.tables_in (around (front d) (clients_among d (length hand)) hand)

  abbrev pub row_shown : ℕ → List (Option P) → R
  row_shown zero hand = d.nobody
  row_shown (suc i) hand = d.row_in (held_at hand (client_place d (suc i)))

  -- with n clients, each of these parts, of the tables from k on, is laid over the one that is held in its place
  abbrev pub laid_from : (P → P → P) → ℕ → ℕ → List P → List (Option P) → List (Option P)
  laid_from over n k [] hand = hand
  laid_from over n k (part ∷ parts) hand = laid_from over n (suc k) parts (change (option_map (over part)) hand (table_place d n k))

  -- or each stands in its place, where one is held there
  abbrev pub put_from : ℕ → ℕ → List P → List (Option P) → List (Option P)
  put_from n k [] hand = hand
  put_from n k (part ∷ parts) hand = put_from n (suc k) parts (change (option_map (λ held. part)) hand (table_place d n k))

  -- the tables are put back
  abbrev pub with_tables : ℕ → T → List (Option P) → List (Option P)
  with_tables n t hand = put_from n 0 (d.table_parts t) hand

  -- a part of a client that is told something
  abbrev pub part_told : F → P → P
  part_told effect part = d.client_part (d.felt effect (d.row_in (Some part)))

  -- of n clients one is told something, whose part is held
  abbrev pub told_to : ℕ → ℕ → F → List (Option P) → List (Option P)
  told_to n zero effect hand = hand
  told_to n (suc i) effect hand = if nat_lt i n then change (option_map (part_told effect)) hand (client_place d (suc i)) else hand

  -- some are told something, in order
  abbrev pub told_all : ℕ → List (ℕ × F) → List (Option P) → List (Option P)
  told_all n [] hand = hand
  told_all n (t ∷ told) hand = told_all n told (told_to n t.0 t.1 hand)

  -- what is done is put in place, among held parts
  abbrev pub put_in_place : Done T F → List (Option P) → List (Option P)
  put_in_place done hand = told_all (clients_among d (length hand)) done.told (with_tables (clients_among d (length hand)) done.tables hand)
