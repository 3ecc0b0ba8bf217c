-- The example: room is made, the tables are put back, and clients are told words, which uses up the room.
use Rattle.std.proofs.Common.{◌≡◌, ◌≢◌, ◌∙◌, ℕ, zero, suc, ◌+◌, subst, ◌≤◌, nat_lt, Bool, true, if◌then◌else◌, List, [], ◌∷◌, Option, Some, ap, sym, arith}
use Rattle.std.proofs.lemmas.Bool.Decides.{nat_tests}
use Rattle.std.specs.Option.{option_map}
use Rattle.part_table.specs.Held.{held_at}
use Rattle.parted_state.specs.declared.example.ShopPart.{ShopPart}
use Rattle.parted_state.specs.declared.example.ShopPart.TheVariants as part
use Rattle.parted_state.specs.declared.example.Tables.{Tables}
use Rattle.parted_state.specs.declared.example.Word.{Word}
use Rattle.parted_state.specs.Lifted.{with_tables, part_told, told_to, told_all}
use Rattle.parted_state.proofs.LiftedLaws.{held_changed, held_else, change_other, put_beside, put_after}
use Rattle.parted_state.specs.Rows.{Roomy, with_room, with_word}
use Rattle.parted_state.specs.Served.{change}
use Rattle.parted_state.specs.Shop.{shop, on_row, roomy_in, IsRow}
use Rattle.parted_state.specs.ShopLaws.{is_device}
use Rattle.parted_state.proofs.Places.{changed_twice, changed_as, as_before}

abbrev pub roomed : ℕ → ℕ → List (Option ShopPart) → List (Option ShopPart)
roomed room client hand = change (option_map (on_row (with_room room))) hand client

abbrev pub worded : Word → ℕ → List (Option ShopPart) → List (Option ShopPart)
worded word client hand = change (option_map (on_row (with_word word))) hand client

-- a client's part stands in the place of its number
pub at_place : (client : ℕ) → 0 + client ≡ client
at_place client = omega arith

-- ---- what is held

pub is_row : (held : Option ShopPart) (row : Roomy) → held ≡ Some (part.Client row) → IsRow held
is_row held row is = is ∙ ap (λ (o : Option ShopPart). Some (part.Client (roomy_in o))) (sym is)

pub room_is : (held : Option ShopPart) (row : Roomy) → held ≡ Some (part.Client row) → (roomy_in held).room ≡ row.room
room_is held row is = ap (λ (o : Option ShopPart). (roomy_in o).room) is

pub beside_tables : (n : ℕ) (t : Tables) (hand : List (Option ShopPart)) (client : ℕ) → 1 ≤ client → client ≤ n → held_at (with_tables shop n t hand) client ≡ held_at hand client
beside_tables n t hand zero some few = absurd (omega (arith, some))
beside_tables n t hand (suc i) some few =
    subst (λ (m : ℕ). held_at (with_tables shop n t hand) m ≡ held_at hand m) (at_place (suc i)) (put_beside shop is_device n (shop.table_parts t) 0 i hand (omega (arith, few)))

pub row_at : (f : Roomy → Roomy) (hand : List (Option ShopPart)) (client : ℕ) (row : Roomy) → held_at hand client ≡ Some (part.Client row)
    → held_at (change (option_map (on_row f)) hand client) client ≡ Some (part.Client (f row))
row_at f hand client row held = held_changed (option_map (on_row f)) hand client (part.Client row) held

pub row_beside : (f : Roomy → Roomy) (hand : List (Option ShopPart)) (client other : ℕ) → other ≢ client
    → held_at (change (option_map (on_row f)) hand client) other ≡ held_at hand other
row_beside f hand client other apart = held_else (option_map (on_row f)) hand client other apart

-- ---- room before the tables are put back is room after it

after_tables : (n : ℕ) (t : Tables) (room client : ℕ) (hand : List (Option ShopPart)) → 1 ≤ client → client ≤ n
    → with_tables shop n t (roomed room client hand) ≡ roomed room client (with_tables shop n t hand)
after_tables n t room zero hand some few = absurd (omega (arith, some))
after_tables n t room (suc i) hand some few =
    subst (λ (m : ℕ). with_tables shop n t (roomed room m hand) ≡ roomed room m (with_tables shop n t hand)) (at_place (suc i))
    (put_after shop is_device n (shop.table_parts t) 0 i (option_map (on_row (with_room room))) hand (omega (arith, few)))

told_there : (n : ℕ) (client : ℕ) (word : Word) (hand : List (Option ShopPart)) → 1 ≤ client → client ≤ n
    → told_to shop n client word hand ≡ change (option_map (part_told shop word)) hand client
told_there n zero word hand some few = absurd (omega (arith, some))
told_there n (suc i) word hand some few =
    let below : nat_lt i n ≡ true = grind (arith, nat_tests) in
    ap (λ (b : Bool). if b then change (option_map (part_told shop word)) hand (0 + suc i) else hand) below
    ∙ ap (λ (m : ℕ). change (option_map (part_told shop word)) hand m) (at_place (suc i))

-- one word, for which there is room
one_word : (client : ℕ) (word : Word) (hand : List (Option ShopPart)) (row : Roomy) → held_at hand client ≡ Some (part.Client row)
    → worded word client (roomed 1 client hand) ≡ change (option_map (part_told shop word)) hand client
one_word client word hand row held =
    changed_twice (option_map (on_row (with_word word))) (option_map (on_row (with_room 1))) hand client
    ∙ changed_as (λ o. option_map (on_row (with_word word)) (option_map (on_row (with_room 1)) o)) (option_map (part_told shop word)) hand client
    (ap (λ (o : Option ShopPart). option_map (on_row (with_word word)) (option_map (on_row (with_room 1)) o)) held ∙ sym (ap (option_map (part_told shop word)) held))

pub word_put : (n : ℕ) (t : Tables) (client : ℕ) (word : Word) (hand : List (Option ShopPart)) (row : Roomy) → 1 ≤ client → client ≤ n → held_at hand client ≡ Some (part.Client row)
    → worded word client (with_tables shop n t (roomed 1 client hand)) ≡ told_all shop n ((client, word) ∷ []) (with_tables shop n t hand)
word_put n t client word hand row some few held =
    ap (worded word client) (after_tables n t 1 client hand some few)
    ∙ one_word client word (with_tables shop n t hand) row (beside_tables n t hand client some few ∙ held)
    ∙ sym (told_there n client word (with_tables shop n t hand) some few)

two_words : (client : ℕ) (first second : Word) (hand : List (Option ShopPart)) (row : Roomy) → held_at hand client ≡ Some (part.Client row)
    → worded second client (worded first client (roomed 2 client hand)) ≡ change (option_map (part_told shop second)) (change (option_map (part_told shop first)) hand client) client
two_words client first second hand row held =
    ap (worded second client) (changed_twice tells makes hand client)
    ∙ changed_twice (option_map (on_row (with_word second))) (λ o. tells (makes o)) hand client
    ∙ changed_as (λ o. option_map (on_row (with_word second)) (tells (makes o))) (λ o. option_map (part_told shop second) (option_map (part_told shop first) o)) hand client
    (ap (λ (o : Option ShopPart). option_map (on_row (with_word second)) (tells (makes o))) held
    ∙ sym (ap (λ (o : Option ShopPart). option_map (part_told shop second) (option_map (part_told shop first) o)) held))
    ∙ sym (changed_twice (option_map (part_told shop second)) (option_map (part_told shop first)) hand client)
  where
    tells : Option ShopPart → Option ShopPart
    tells o = option_map (on_row (with_word first)) o

    makes : Option ShopPart → Option ShopPart
    makes o = option_map (on_row (with_room 2)) o

pub words_put : (n : ℕ) (t : Tables) (client : ℕ) (first second : Word) (hand : List (Option ShopPart)) (row : Roomy) → 1 ≤ client → client ≤ n
    → held_at hand client ≡ Some (part.Client row)
    → worded second client (worded first client (with_tables shop n t (roomed 2 client hand)))
    ≡ told_all shop n ((client, first) ∷ (client, second) ∷ []) (with_tables shop n t hand)
words_put n t client first second hand row some few held =
    ap (λ (l : List (Option ShopPart)). worded second client (worded first client l)) (after_tables n t 2 client hand some few)
    ∙ two_words client first second (with_tables shop n t hand) row (beside_tables n t hand client some few ∙ held)
    ∙ sym (told_there n client second (told_to shop n client first (with_tables shop n t hand)) some few
    ∙ ap (λ (l : List (Option ShopPart)). change (option_map (part_told shop second)) l client) (told_there n client first (with_tables shop n t hand) some few))

-- a word for each of two clients
pub each_put : (n : ℕ) (t : Tables) (client other : ℕ) (word also : Word) (hand : List (Option ShopPart)) (row row_other : Roomy) → client ≢ other
    → 1 ≤ client → client ≤ n → 1 ≤ other → other ≤ n → held_at hand client ≡ Some (part.Client row) → held_at hand other ≡ Some (part.Client row_other)
    → worded also other (worded word client (with_tables shop n t (roomed 1 other (roomed 1 client hand))))
    ≡ told_all shop n ((client, word) ∷ (other, also) ∷ []) (with_tables shop n t hand)
each_put n t client other word also hand row row_other apart some few some_other few_other held held_other =
    let tables = with_tables shop n t hand in
    let told = change (option_map (part_told shop word)) tables client in
    ap (λ (l : List (Option ShopPart)). worded also other (worded word client l))
    (after_tables n t 1 other (roomed 1 client hand) some_other few_other ∙ ap (roomed 1 other) (after_tables n t 1 client hand some few))
    ∙ ap (worded also other) (change_other (option_map (on_row (with_word word))) (option_map (on_row (with_room 1))) (roomed 1 client tables) other client (λ same. apart (sym same)))
    ∙ ap (λ (l : List (Option ShopPart)). worded also other (roomed 1 other l)) (one_word client word tables row (beside_tables n t hand client some few ∙ held))
    ∙ one_word other also told row_other (held_else (option_map (part_told shop word)) tables client other (λ same. apart (sym same)) ∙ beside_tables n t hand other some_other few_other ∙ held_other)
    ∙ sym (told_there n other also (told_to shop n client word tables) some_other few_other
    ∙ ap (λ (l : List (Option ShopPart)). change (option_map (part_told shop also)) l other) (told_there n client word tables some few))

-- what is held while they are told
pub first_held : (n : ℕ) (t : Tables) (client other : ℕ) (hand : List (Option ShopPart)) (row : Roomy) → client ≢ other → 1 ≤ client → client ≤ n
    → held_at hand client ≡ Some (part.Client row) → held_at (with_tables shop n t (roomed 1 other (roomed 1 client hand))) client ≡ Some (part.Client (with_room 1 row))
first_held n t client other hand row apart some few held =
    beside_tables n t (roomed 1 other (roomed 1 client hand)) client some few ∙ row_beside (with_room 1) (roomed 1 client hand) other client apart ∙ row_at (with_room 1) hand client row held

pub second_held : (n : ℕ) (t : Tables) (client other : ℕ) (word : Word) (hand : List (Option ShopPart)) (row : Roomy) → client ≢ other → 1 ≤ other → other ≤ n
    → held_at hand other ≡ Some (part.Client row)
    → held_at (worded word client (with_tables shop n t (roomed 1 other (roomed 1 client hand)))) other ≡ Some (part.Client (with_room 1 row))
second_held n t client other word hand row apart some few held =
    row_beside (with_word word) (with_tables shop n t (roomed 1 other (roomed 1 client hand))) client other (λ same. apart (sym same))
    ∙ beside_tables n t (roomed 1 other (roomed 1 client hand)) other some few
    ∙ row_at (with_room 1) (roomed 1 client hand) other row (row_beside (with_room 1) hand client other (λ same. apart (sym same)) ∙ held)

-- room that is given up again
pub room_given_up : (client : ℕ) (hand : List (Option ShopPart)) → IsRow (held_at hand client) → (roomy_in (held_at hand client)).room ≡ 0
    → roomed 0 client (roomed 1 client hand) ≡ hand
room_given_up client hand held empty =
    changed_twice (option_map (on_row (with_room 0))) (option_map (on_row (with_room 1))) hand client
    ∙ as_before (λ o. option_map (on_row (with_room 0)) (option_map (on_row (with_room 1)) o)) hand client
    (ap (λ (o : Option ShopPart). option_map (on_row (with_room 0)) (option_map (on_row (with_room 1)) o)) held
    ∙ ap (λ (k : ℕ). Some (part.Client (record { words = (roomy_in (held_at hand client)).words; room = k }))) (sym empty)
    ∙ sym held)
