-- The example: what is lifted out of held parts are the tables that they show, and what is put in place is what the request makes of them.
use Rattle.std.proofs.Common.{◌≡◌, ◌∙◌, ℕ, zero, suc, ◌+◌, ◌≤◌, ◌==◌, Bool, true, ◌||◌, false, if◌then◌else◌, List, [], ◌∷◌, length, unwrap_or, Option, None, Some, refl, ap, ap₂, sym, subst, arith}
use Rattle.std.proofs.lemmas.Bool.Decides.{nat_tests}
use Rattle.part_table.specs.Held.{held_at, IsHandOf}
use Rattle.parted_state.specs.declared.example.Asked.{Asked}
use Rattle.parted_state.specs.declared.example.ShopPart.{ShopPart}
use Rattle.parted_state.specs.declared.example.ShopPart.TheVariants as part
use Rattle.parted_state.specs.declared.example.Tables.{Tables}
use Rattle.parted_state.specs.declared.example.Word.{Word}
use Rattle.parted_state.specs.declared.example.Word.TheVariants as word
use Rattle.parted_state.specs.Cut.{is_held}
use Rattle.parted_state.specs.CutLaws.{same_itself}
use Rattle.parted_state.specs.DeviceLaws.{around_at}
use Rattle.parted_state.specs.Lifted.{tables_shown, with_tables, told_all, put_in_place}
use Rattle.parted_state.proofs.LiftedLaws as lifted
use Rattle.parted_state.specs.Rows.{settled}
use Rattle.parted_state.specs.Served.{Done, around, is_told, done_of, table_place}
use Rattle.parted_state.specs.Shop.{State, shop, services, parts_of, state_in, clients_among, shelf_in, tool_in, told_heir, serve, step, need, after, roomy_in, IsRow}
use Rattle.parted_state.specs.ShopLaws.{is_device, each_served}
use Rattle.parted_state.proofs.Putting.{is_row, room_is, at_place}

pub shown_there : (hand : List (Option ShopPart)) (n : ℕ) → n ≡ clients_among (length hand)
    → record { shelf = shelf_in (held_at hand 0); tool = tool_in (held_at hand (1 + n)) } ≡ tables_shown shop hand
shown_there hand n many =
    ap (λ (m : ℕ). of (held_at hand 0) (held_at hand (1 + m))) many
    ∙ sym (ap₂ (λ (o q : Option ShopPart). of o q) (at 0) (at 1))
  where
    of : Option ShopPart → Option ShopPart → Tables
    of o q = record { shelf = shelf_in o; tool = tool_in q }

    at : (k : ℕ) → held_at (around 1 (clients_among (length hand)) hand) k ≡ held_at hand (table_place shop (clients_among (length hand)) k)
    at k = ap (λ (o : Option (Option ShopPart)). unwrap_or o None) (around_at shop is_device (clients_among (length hand)) hand k)

module _ (hand : List (Option ShopPart)) (asked : Asked) (s : State) (of : IsHandOf hand (parts_of s)) (enough : need asked hand ≡ [])
    (some : 1 ≤ asked.client) (few : asked.client ≤ clients_among (length hand)) (found : Tables) (shows : found ≡ tables_shown shop hand) where
  -- ---- parts that are held

  held_row : (client : ℕ) → 1 ≤ client → client ≤ clients_among (length hand) → is_held hand client ≡ true → (words : List Word) × (held_at hand client ≡ Some (part.Client (settled words)))
  held_row zero some few held = absurd (omega (arith, some))
  held_row (suc i) some few held =
      let there = lifted.client_held shop is_device services asked (each_served asked) s tt hand of i (omega (arith, few))
      (ap (λ (m : ℕ). is_held hand m) (at_place (suc i)) ∙ held) in
      (there.0, ap (λ (m : ℕ). held_at hand m) (sym (at_place (suc i))) ∙ there.1)

  own_held : (client : ℕ) → asked.client ≡ client → 1 ≤ client → is_held hand client ≡ true
  own_held zero own some = absurd (omega (arith, some))
  own_held (suc i) own some =
      ap (λ (m : ℕ). is_held hand m) (sym (at_place (suc i))) ∙ lifted.own_held shop is_device services asked (each_served asked) s tt hand of enough i own

  own_row : (words : List Word) × (held_at hand asked.client ≡ Some (part.Client (settled words)))
  own_row = held_row asked.client some few (own_held asked.client refl some)

  pub is_own : IsRow (held_at hand asked.client)
  is_own = is_row (held_at hand asked.client) (settled own_row.0) own_row.1

  pub has_no_room : (roomy_in (held_at hand asked.client)).room ≡ 0
  has_no_room = room_is (held_at hand asked.client) (settled own_row.0) own_row.1

  done_same : serve found asked.client asked.ask ≡ done_of shop services (state_in hand) asked
  done_same = ap (λ (t : Tables). serve t asked.client asked.ask) shows ∙ lifted.done_same shop is_device services asked (each_served asked) hand few

  heir_told : (heir : ℕ) → 1 ≤ heir → told_heir heir ≡ (heir, word.Yours) ∷ []
  heir_told heir some =
      let no : (heir == 0) ≡ false = grind (arith, nat_tests) in
      ap (λ (b : Bool). if b then [] else (heir, word.Yours) ∷ []) no

  is_told_there : (first : Word) (heir : ℕ) → 1 ≤ heir → is_told ((asked.client, first) ∷ told_heir heir) heir ≡ true
  is_told_there first heir some =
      ap (λ (l : List (ℕ × Word)). is_told ((asked.client, first) ∷ l) heir) (heir_told heir some)
      ∙ by_test (asked.client == heir) (ap (λ (b : Bool). b || false) (same_itself heir))
    where
      by_test : (b : Bool) → ((heir == heir) || false) ≡ true → (b || ((heir == heir) || false)) ≡ true
      by_test true here = refl
      by_test false here = here

  pub is_heir : (first : Word) (heir : ℕ) → (asked.client, first) ∷ told_heir heir ≡ (serve found asked.client asked.ask).told → 1 ≤ heir → heir ≤ clients_among (length hand)
      → IsRow (held_at hand heir)
  is_heir first heir told some few = let row = held_row heir some few (held heir some few on) in is_row (held_at hand heir) (settled row.0) row.1
    where
      on : is_told (done_of shop services (state_in hand) asked).told heir ≡ true
      on = ap (λ (x : Done Tables Word). is_told x.told heir) (sym done_same) ∙ ap (λ (l : List (ℕ × Word)). is_told l heir) (sym told) ∙ is_told_there first heir some

      held : (client : ℕ) → 1 ≤ client → client ≤ clients_among (length hand) → is_told (done_of shop services (state_in hand) asked).told client ≡ true → is_held hand client ≡ true
      held zero some few on = absurd (omega (arith, some))
      held (suc i) some few on =
          ap (λ (m : ℕ). is_held hand m) (sym (at_place (suc i)))
          ∙ lifted.told_held shop is_device services asked (each_served asked) s tt hand of enough i (omega (arith, few)) on

  -- ---- what is put in place

  module _ (new : List (Option ShopPart)) (n : ℕ) (tables : Tables) (told : List (ℕ × Word)) (many : n ≡ clients_among (length hand))
      (same_tables : tables ≡ (serve found asked.client asked.ask).tables) (same_told : told ≡ (serve found asked.client asked.ask).told)
      (put : new ≡ told_all shop n told (with_tables shop n tables hand)) where
    in_place : new ≡ put_in_place shop (serve (tables_shown shop hand) asked.client asked.ask) hand
    in_place =
        put
        ∙ ap (λ (m : ℕ). told_all shop m told (with_tables shop m tables hand)) many
        ∙ ap₂ (λ (l : List (ℕ × Word)) (t : Tables). told_all shop (clients_among (length hand)) l (with_tables shop (clients_among (length hand)) t hand)) same_told same_tables
        ∙ ap (λ (t : Tables). put_in_place shop (serve t asked.client asked.ask) hand) shows

    pub is_after : new ≡ after asked hand
    is_after = in_place ∙ lifted.in_place shop is_device services asked (each_served asked) s tt hand of enough few

    pub of_state : IsHandOf new (parts_of (step s asked))
    of_state = subst (λ (l : List (Option ShopPart)). IsHandOf l (parts_of (step s asked))) (sym in_place) (lifted.of_state shop is_device services asked (each_served asked) s tt hand of enough few)
