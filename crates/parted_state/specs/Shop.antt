-- The example: a shelf with pieces, and a tool that one client has at a time. They share nothing but a fact.
use Rattle.std.specs.Prelude.{◌≡◌, ℕ, ◌+◌, ◌-◌, ◌==◌, ◌||◌, ◌&&◌, not, Bool, false, nat_le, nat_lt, Option, Some, List, [], ◌∷◌, ◌++◌, if◌then◌else◌}
use Rattle.part_table.specs.Held.{held_at}
use Rattle.parted_state.specs.Rows.{Roomy, settled}
use Rattle.parted_state.specs.Area.{Own, Tells, Area, Plan, area_plan, facts_of, planned}
use Rattle.parted_state.specs.Served.{Device, Services, Done}
use Rattle.parted_state.specs.Served as parted
use Rattle.parted_state.specs.declared.example.Word.{Word}
use Rattle.parted_state.specs.declared.example.Word.TheVariants as word
use Rattle.parted_state.specs.declared.example.Ask.{Ask}
use Rattle.parted_state.specs.declared.example.Ask.TheVariants as ask
use Rattle.parted_state.specs.declared.example.ToolAsk.{ToolAsk}
use Rattle.parted_state.specs.declared.example.ToolAsk.TheVariants.{Take, Give}
use Rattle.parted_state.specs.declared.example.ShelfAsk.{ShelfAsk}
use Rattle.parted_state.specs.declared.example.ShelfAsk.TheVariants.{Fetch, Stock}
use Rattle.parted_state.specs.declared.example.Asked.{Asked}
use Rattle.parted_state.specs.declared.example.Facts.{Facts}
use Rattle.parted_state.specs.declared.example.Shelf.{Shelf}
use Rattle.parted_state.specs.declared.example.Tool.{Tool}
use Rattle.parted_state.specs.declared.example.Tables.{Tables}
use Rattle.parted_state.specs.declared.example.ShopPart.{ShopPart}
use Rattle.parted_state.specs.declared.example.ShopPart.TheVariants as part

-- the tables, and what clients 1 to n were told
pub record State : Type 0 where
  pub tables : Tables
  pub clients : List (List Word)

-- ---- parts

abbrev pub shelf_in : Option ShopPart → Shelf
shelf_in (Some (part.Shelf shelf)) = shelf
shelf_in other = record { pieces = 0 }

abbrev pub tool_in : Option ShopPart → Tool
tool_in (Some (part.Tool tool)) = tool
tool_in other = record { owner = 0; next = 0 }

abbrev pub row_in : Option ShopPart → List Word
row_in (Some (part.Client row)) = row.words
row_in other = []

abbrev pub shop : Device State Tables (List Word) Word ShopPart
shop = record {
  tables_of = λ s. s.tables;
  clients_of = λ s. s.clients;
  state_of = λ t rows. record { tables = t; clients = rows };
  table_parts = λ t. part.Shelf t.shelf ∷ part.Tool t.tool ∷ [];
  tables = 2;
  last = 0;
  client_part = λ row. part.Client (settled row);
  InOrder = λ t. Unit {0};
  tables_in = λ hand. record { shelf = shelf_in (held_at hand 0); tool = tool_in (held_at hand 1) };
  row_in = row_in;
  nobody = [];
  felt = λ told row. row ++ told ∷ [];
}

abbrev pub parts_of : State → List ShopPart
parts_of s = parted.parts_of shop s

-- ---- on held parts

-- the part of a client that is held, with its row changed
abbrev pub on_row : (Roomy → Roomy) → ShopPart → ShopPart
on_row f (part.Client row) = part.Client (f row)
on_row f other = other

abbrev pub roomy_in : Option ShopPart → Roomy
roomy_in (Some (part.Client row)) = row
roomy_in other = settled []

-- a client's part is held
abbrev pub IsRow : Option ShopPart → Type 0
IsRow held = held ≡ Some (part.Client (roomy_in held))

-- how many clients there are, by the number of parts
abbrev pub clients_among : ℕ → ℕ
clients_among places = places - 2

-- ---- the areas' tables, and what one is told of the other's

abbrev pub shelf_table : Own Tables Shelf
shelf_table = record { numbers = 0 ∷ []; of = λ t. t.shelf; put = λ new t. record t { shelf = new } }

abbrev pub tool_table : Own Tables Tool
tool_table = record { numbers = 1 ∷ []; of = λ t. t.tool; put = λ new t. record t { tool = new } }

pub data Question : Type 0 where
  -- whether a client has the tool
  HasTool : ℕ → Question

abbrev pub tables_for : Question → List ℕ
tables_for (HasTool client) = 1 ∷ []

abbrev pub noted : Question → Tables → Facts → Facts
noted (HasTool client) t facts = record { has_tool = t.tool.owner == client }

abbrev pub tells : Tells Tables Question Facts
tells = record { nothing = record { has_tool = false }; tables = tables_for; noted = noted }

-- ---- the tool

-- a client takes the tool, or waits for it
abbrev pub taken : ℕ → Tool → Tool
taken c tool = if tool.owner == 0 then record tool { owner = c } else if tool.next == 0 then record tool { next = c } else tool

abbrev pub take_word : Tool → Word
take_word tool = if tool.owner == 0 then word.Yours else if tool.next == 0 then word.Wait else word.No

-- it goes to the one that waits
abbrev pub given : ℕ → Tool → Tool
given c tool = if tool.owner == c then record { owner = tool.next; next = 0 } else tool

-- the one that has it then
abbrev pub heir : ℕ → Tool → ℕ
heir c tool = if tool.owner == c then tool.next else 0

abbrev pub told_heir : ℕ → List (ℕ × Word)
told_heir client = if client == 0 then [] else (client, word.Yours) ∷ []

abbrev pub give_word : ℕ → Tool → Word
give_word c tool = if tool.owner == c then word.Done else word.No

abbrev pub serve_tool : Tool → ℕ → ToolAsk → Done Tool Word
serve_tool tool c Take = record { tables = taken c tool; told = (c, take_word tool) ∷ [] }
serve_tool tool c Give = record { tables = given c tool; told = (c, give_word c tool) ∷ told_heir (heir c tool) }

-- it asks nothing of the shelf
abbrev pub tool_area : Area Tool ℕ Word ToolAsk Question Facts
tool_area = record { words = λ c asked. []; more = λ tool c asked. []; serves = λ facts tool c asked. serve_tool tool c asked }

-- ---- the shelf

-- pieces are fetched where there are as many, and where few are left, by the one that has the tool
abbrev pub are_few : Shelf → Bool
are_few shelf = nat_lt shelf.pieces 10

abbrev pub may_fetch : ℕ → Facts → Shelf → Bool
may_fetch n facts shelf = (not (are_few shelf) || facts.has_tool) && nat_le n shelf.pieces

abbrev pub fetched : ℕ → Facts → Shelf → Shelf
fetched n facts shelf = if may_fetch n facts shelf then record { pieces = shelf.pieces - n } else shelf

abbrev pub fetch_word : ℕ → Facts → Shelf → Word
fetch_word n facts shelf = if may_fetch n facts shelf then word.Done else word.No

-- pieces are put on the shelf, up to a thousand, by the one that has the tool
abbrev pub may_stock : ℕ → Facts → Shelf → Bool
may_stock n facts shelf = facts.has_tool && nat_le shelf.pieces 1000 && nat_le n (1000 - shelf.pieces)

abbrev pub stocked : ℕ → Facts → Shelf → Shelf
stocked n facts shelf = if may_stock n facts shelf then record { pieces = shelf.pieces + n } else shelf

abbrev pub stock_word : ℕ → Facts → Shelf → Word
stock_word n facts shelf = if may_stock n facts shelf then word.Done else word.No

abbrev pub serve_shelf : Facts → Shelf → ℕ → ShelfAsk → Done Shelf Word
serve_shelf facts shelf c (Fetch n) = record { tables = fetched n facts shelf; told = (c, fetch_word n facts shelf) ∷ [] }
serve_shelf facts shelf c (Stock n) = record { tables = stocked n facts shelf; told = (c, stock_word n facts shelf) ∷ [] }

-- who has the tool is asked where few pieces are left
abbrev pub ask_tool : Shelf → ℕ → ShelfAsk → List Question
ask_tool shelf c (Fetch n) = if are_few shelf then HasTool c ∷ [] else []
ask_tool shelf c (Stock n) = []

-- or by the words of the request
abbrev pub words_ask : ℕ → ShelfAsk → List Question
words_ask c (Fetch n) = []
words_ask c (Stock n) = HasTool c ∷ []

abbrev pub shelf_area : Area Shelf ℕ Word ShelfAsk Question Facts
shelf_area = record { words = words_ask; more = ask_tool; serves = serve_shelf }

abbrev pub shelf_facts : ℕ → ShelfAsk → Tables → Facts
shelf_facts c asked t = facts_of shelf_table tells shelf_area c asked t

-- ---- all areas

abbrev pub plan_of : ℕ → Ask → Plan Tables Word
plan_of c (ask.Tool asked) = area_plan tool_table tells tool_area c asked
plan_of c (ask.Shelf asked) = area_plan shelf_table tells shelf_area c asked

abbrev pub serve : Tables → ℕ → Ask → Done Tables Word
serve t c asked = (plan_of c asked).does t

abbrev pub services : Services Tables (List Word) Word Asked
services = planned (λ asked. asked.client) (λ row asked. plan_of asked.client asked.ask)

-- ---- derived, for every event

abbrev pub step : State → Asked → State
step s asked = parted.step shop services s asked

abbrev pub wants : Asked → List (State → List ℕ)
wants asked = parted.wants shop services asked

abbrev pub state_in : List (Option ShopPart) → State
state_in hand = parted.state_in shop hand

abbrev pub need : Asked → List (Option ShopPart) → List ℕ
need asked hand = parted.need shop services asked hand

abbrev pub after : Asked → List (Option ShopPart) → List (Option ShopPart)
after asked hand = parted.after shop services asked hand

abbrev pub parts_after : Asked → List ShopPart → List ShopPart
parts_after asked parts = parted.parts_after shop services asked parts
