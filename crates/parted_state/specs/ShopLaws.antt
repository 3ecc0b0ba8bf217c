-- What is shown of the example: how it is cut, of each area that it has a table, and of each question that a table answers it. Of a request nothing is to be shown.
use Rattle.std.specs.Prelude.{◌≡◌, ℕ, zero, suc, ◌==◌, Option, None, Some, List, [], slice_get, refl}
use Rattle.std.proofs.Common.{ap, arith}
use Rattle.part_table.specs.Held.{held_at, places_held, laid_over, IsHandOf}
use Rattle.parted_state.specs.Area.{AllIn, IsTable, AreTold, IsPlan}
use Rattle.parted_state.specs.AreaLaws.{table_own, table_same, area_law, planned_served}
use Rattle.parted_state.specs.Served.{IsDevice, IsServed, masked}
use Rattle.parted_state.specs.ServedLaws as served
use Rattle.parted_state.specs.declared.example.Ask.{Ask}
use Rattle.parted_state.specs.declared.example.Ask.TheVariants as ask
use Rattle.parted_state.specs.declared.example.Asked.{Asked}
use Rattle.parted_state.specs.declared.example.Facts.{Facts}
use Rattle.parted_state.specs.declared.example.Tables.{Tables}
use Rattle.parted_state.specs.declared.example.Tool.{Tool}
use Rattle.parted_state.specs.declared.example.ShopPart.{ShopPart}
use Rattle.parted_state.specs.declared.example.ShopPart.TheVariants as part
use Rattle.parted_state.specs.Shop.{State, Question, HasTool, tables_for, shop, services, shelf_table, tool_table, tells, noted, shelf_area, tool_area, plan_of, parts_of, shelf_in, tool_in, step, need, after, parts_after}

-- ---- once

by_place : (one other : List (Option ShopPart)) (table : ℕ) → held_at one table ≡ held_at other table
    → slice_get (shop.table_parts (shop.tables_in one)) table ≡ slice_get (shop.table_parts (shop.tables_in other)) table
by_place one other zero same = ap (λ (o : Option ShopPart). Some (part.Shelf (shelf_in o))) same
by_place one other (suc zero) same = ap (λ (o : Option ShopPart). Some (part.Tool (tool_in o))) same
by_place one other (suc (suc table)) same = refl

pub is_device : IsDevice shop
is_device = record {
  many = λ t. refl;
  behind = omega arith;
  in_order = λ hand. tt;
  shown = λ t. refl;
  whole = λ t ordered. refl;
  by_place = by_place;
  row_back = λ row. refl;
  tables_back = λ t rows. refl;
  clients_back = λ t rows. refl;
  state_back = λ s. refl;
}

-- ---- each area, and each question

abbrev pub is_shelf : IsTable shop shelf_table
is_shelf = record { number = 0; part = part.Shelf; part_in = shelf_in; one = refl; shown = λ hand. refl; keeps = λ new t ordered. tt; puts = λ new t. refl }

abbrev pub is_tool : IsTable shop tool_table
is_tool = record { number = 1; part = part.Tool; part_in = tool_in; one = refl; shown = λ hand. refl; keeps = λ new t ordered. tt; puts = λ new t. refl }

told_same : (question : Question) (facts : Facts) (us : List ℕ) (t : Tables) → shop.InOrder t → AllIn shop (tables_for question) us
    → noted question (masked shop us t) facts ≡ noted question t facts
told_same (HasTool c) facts us t ordered asked = ap (λ (x : Tool). record { has_tool = x.owner == c }) (table_same shop is_device tool_table is_tool us t ordered (asked 1 refl))

are_told : AreTold shop tells
are_told = record { same = told_same }

is_plan : (c : ℕ) (asked : Ask) → IsPlan shop (plan_of c asked)
is_plan c (ask.Tool asked) = area_law shop is_device tells are_told tool_table (table_own shop is_device tool_table is_tool) tool_area c asked
is_plan c (ask.Shelf asked) = area_law shop is_device tells are_told shelf_table (table_own shop is_device shelf_table is_shelf) shelf_area c asked

pub each_served : (asked : Asked) → IsServed shop services asked
each_served asked = planned_served shop is_device (λ asked. asked.client) (λ row asked. plan_of asked.client asked.ask) asked (λ row. is_plan asked.client asked.ask)

-- ---- and so, for every event

pub after_holds_the_same : (asked : Asked) (hand : List (Option ShopPart)) → places_held (after asked hand) ≡ places_held hand
after_holds_the_same asked = served.after_holds_the_same shop is_device services asked (each_served asked)

pub after_is_laid_over : (asked : Asked) (hand : List (Option ShopPart)) (parts : List ShopPart) → IsHandOf hand parts → need asked hand ≡ []
    → parts_after asked parts ≡ laid_over (after asked hand) parts
after_is_laid_over asked = served.after_is_laid_over shop is_device services asked (each_served asked)

pub parts_step : (s : State) (asked : Asked) → parts_of (step s asked) ≡ parts_after asked (parts_of s)
parts_step s asked = served.parts_step shop is_device services asked (each_served asked) s tt

pub others_stay : (s : State) (hand : List (Option ShopPart)) (asked : Asked) (place : ℕ) → IsHandOf hand (parts_of s) → need asked hand ≡ [] → held_at hand place ≡ None
    → slice_get (parts_of (step s asked)) place ≡ slice_get (parts_of s) place
others_stay s hand asked place = served.free_parts_stay shop is_device services asked (each_served asked) s hand place tt
