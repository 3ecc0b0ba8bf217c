-- What a client does on the tables, and how code plans it (this profile's choice).
use Rattle.std.specs.Prelude.{◌≡◌, ℕ, List}
use Rattle.association.specs.Client.{ClientRow, Client as RoomyRow}
use Rattle.parted_state.specs.Area.{Own}
use Rattle.parted_state.specs.Served.{Done}
use Rattle.cell_services.specs.declared.tables.Change.{Change}
use Rattle.cell_client.specs.declared.acts.Act.{Act}
use Rattle.cell_client.specs.declared.acts.Act.TheVariants as act
use Rattle.cell_client.specs.declared.told.ClientTold.{ClientTold}
use Rattle.cell_client.specs.Association.{Verdict, Takes, Replies, Exhausts, Concludes, Cancels, Aborts}
use Rattle.cell_client.specs.Meant.{came}
use Rattle.cell_services.specs.Changes.{changed}
use Rattle.cell_client.specs.Effects.{Effect, felt_all, settled, tell}
use Rattle.cell_services.specs.Serving.{comes_of, hears, loses}
use Rattle.cell_services.specs.Tables.{Tables}
use Rattle.cell_client.specs.Telling.{effects_told}

-- what a client of a row does
abbrev pub act_done : Tables → ClientRow → ℕ → Act → Done Tables Effect
act_done t row client (act.Request invoke asked) = hears t row client (Takes invoke asked.now)
act_done t row client (act.Reply number answer) = hears t row client (Replies number (came answer))
act_done t row client act.Conclusion = hears t row client Concludes
act_done t row client (act.Cancel invoke) = hears t row client (Cancels invoke)
act_done t row client act.Abort = hears t row client Aborts
act_done t row client (act.Exhausts invoke) = comes_of t row client (Exhausts invoke)
act_done t row client act.Loss = loses t row client

-- ---- plans

abbrev pub all_done : Tables → List (ℕ × ClientTold) → Done Tables Effect
all_done t told = record { tables = t; told = effects_told told }

abbrev pub plan_done : Tables → Change → List (ℕ × ClientTold) → Done Tables Effect
plan_done t change told = all_done (changed change t) told

-- it is what a verdict on what the client of a row sends leaves to be done on the tables
abbrev pub IsActOf : ClientRow → Verdict → Act → Type 0
IsActOf row v a = (t : Tables) (client : ℕ) → act_done t row client a ≡ hears t row client v

-- With these tables a verdict on what the client of a row sends is done on that row and the table of one area alone: the client is told something, nobody else is,
-- and that table becomes another.
pub record IsDoneIn {A : Type 0} (own : Own Tables A) (t : Tables) (row : ClientRow) (now : A) (new : RoomyRow) (v : Verdict) : Type 0 where
  pub effects : List Effect
  pub is : new ≡ settled (felt_all effects row)
  pub done : hears t row row.client v ≡ record { tables = own.put now t; told = tell row.client effects }

-- Or it is done on the table of one area, which becomes another, and several clients are told something: all that is
-- told, in order.
abbrev pub TellsSeveral : {A : Type 0} → Own Tables A → Tables → ClientRow → A → List (ℕ × ClientTold) → Verdict → Type 0
TellsSeveral own t row now told v = hears t row row.client v ≡ all_done (own.put now t) told

-- what is left to be done on several tables: a client is lost
abbrev pub IsLeft : Act → Type 0
IsLeft (act.Request invoke asked) = ⊥
IsLeft (act.Reply number answer) = ⊥
IsLeft (act.Cancel invoke) = ⊥
IsLeft other = Unit {0}
