-- Worked examples of areas: what is asked for a request, what it is told then, and what it is told where nobody asked.
use Rattle.std.specs.Prelude.{◌≡◌, ℕ, true, false, List, [], ◌∷◌, map, refl}
use Rattle.parted_state.specs.Area.{Own, IsOwn, both, facts_told}
use Rattle.parted_state.specs.AreaLaws.{both_own, table_own}
use Rattle.parted_state.specs.ShopLaws.{is_device, is_shelf, is_tool}
use Rattle.parted_state.specs.declared.example.Facts.{Facts}
use Rattle.parted_state.specs.declared.example.Shelf.{Shelf}
use Rattle.parted_state.specs.declared.example.Tool.{Tool}
use Rattle.parted_state.specs.declared.example.ShelfAsk.{ShelfAsk}
use Rattle.parted_state.specs.declared.example.ShelfAsk.TheVariants.{Fetch, Stock}
use Rattle.parted_state.specs.declared.example.Tables.{Tables}
use Rattle.parted_state.specs.declared.example.Word.{Word}
use Rattle.parted_state.specs.declared.example.Word.TheVariants as word
use Rattle.parted_state.specs.Shop.{HasTool, fetch_word, plan_of, serve, shelf_facts, shelf_table, shop, stock_word, tells, tool_table}
use Rattle.parted_state.specs.declared.example.Ask.{Ask}
use Rattle.parted_state.specs.declared.example.Ask.TheVariants as ask
use Rattle.parted_state.specs.declared.example.ToolAsk.TheVariants.{Take, Give}

-- a function answers each row of a table with its second column
abbrev Answers : {A B : Type 0} → (A → B) → List (A × B) → Type 0
Answers f table = map (λ row. f row.0) table ≡ map (λ row. row.1) table

-- client 2 has the tool, and so many pieces are left
abbrev shop_with : ℕ → Tables
shop_with pieces = record { shelf = record { pieces = pieces }; tool = record { owner = 2; next = 0 } }

-- the tables that a request uses: by its words, and by what the shelf shows
used : Answers {B = List ℕ × List ℕ} (λ (r : ℕ × Ask). ((plan_of 2 r.1).asks, (plan_of 2 r.1).more (shop_with r.0))) (
    ((50, ask.Tool Take), (1 ∷ [], [])) ∷
    ((5, ask.Tool Give), (1 ∷ [], [])) ∷
    ((50, ask.Shelf (Fetch 3)), (0 ∷ [], [])) ∷
    ((5, ask.Shelf (Fetch 3)), (0 ∷ [], 1 ∷ [])) ∷
    ((50, ask.Shelf (Stock 3)), (0 ∷ 1 ∷ [], [])) ∷
    [])
used = refl

-- what a client is told: of few pieces, and of more, that client 2 alone may have
fetched_or_not : Answers (λ (r : ℕ × (ℕ × ShelfAsk)). (serve (shop_with r.0) r.1.0 (ask.Shelf r.1.1)).told) (
    ((50, (1, Fetch 3)), (1, word.Done) ∷ []) ∷
    ((5, (1, Fetch 3)), (1, word.No) ∷ []) ∷
    ((5, (2, Fetch 3)), (2, word.Done) ∷ []) ∷
    ((50, (1, Stock 3)), (1, word.No) ∷ []) ∷
    ((50, (2, Stock 3)), (2, word.Done) ∷ []) ∷
    [])
fetched_or_not = refl

-- client 2 has the tool, but nobody asked whether it has: it is refused
abbrev not_asked : Tables → Facts
not_asked t = facts_told tells [] t

abbrev asked : Tables → Facts
asked t = facts_told tells (HasTool 2 ∷ []) t

refused_where_nobody_asks : Answers {B = Word × Word} (λ (f : Tables → Facts). (fetch_word 3 (f (shop_with 5)) (record { pieces = 5 }), stock_word 3 (f (shop_with 5)) (record { pieces = 5 }))) (
    (not_asked, (word.No, word.No)) ∷
    (asked, (word.Done, word.Done)) ∷
    [])
refused_where_nobody_asks = refl

-- and where many pieces are left nobody asks, since anybody may have some
many_are_left : Answers (λ (r : ℕ × ShelfAsk). (shelf_facts 2 r.1 (shop_with r.0)).has_tool) (
    ((50, Fetch 3), false) ∷
    ((5, Fetch 3), true) ∷
    ((50, Stock 3), true) ∷
    [])
many_are_left = refl

-- ---- both tables as one area's

abbrev whole_shop : Own Tables (Shelf × Tool)
whole_shop = both shelf_table tool_table

put_both : whole_shop.put (record { pieces = 3 }, record { owner = 0; next = 0 }) (shop_with 5) ≡ record { shelf = record { pieces = 3 }; tool = record { owner = 0; next = 0 } }
put_both = refl

is_whole : IsOwn shop whole_shop
is_whole = both_own shop is_device shelf_table tool_table (table_own shop is_device shelf_table is_shelf) (table_own shop is_device tool_table is_tool)
