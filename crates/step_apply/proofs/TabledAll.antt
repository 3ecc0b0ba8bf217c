-- Tables that are put in place of those of held parts: laid over them all.
use Rattle.std.specs.Prelude.{◌≡◌, ℕ, zero, suc, ◌+◌, ◌-◌, ◌≤◌, Option, None, Some, List, [], ◌∷◌, length, slice_get, refl}
use Rattle.std.specs.Option.{option_map}
use Rattle.std.proofs.Common.{ap, sym, ◌∙◌, subst, arith}
use native.Mathlib.Decide.{ℕ_discrete}
use Rattle.part_table.specs.Held.{held_at, IsHandOf}
use Rattle.parted_state.specs.CutLaws.{length-with_places}
use Rattle.parted_state.specs.Lifted.{laid_from, tables_shown, with_tables}
use Rattle.parted_state.specs.Served.{change, table_place}
use Rattle.parted_state.proofs.Laid.{laid_alike, laid_else, laid_put, laid_twice, length-laid, part_of, tables_kept, AreOver}
use Rattle.parted_state.proofs.LiftedLaws.{apart, held_changed, held_else}
use Rattle.association.specs.Client.{Client as RoomyRow}
use Rattle.cell_services.specs.Tables.{Tables}
use Rattle.step_parts.specs.declared.part.Part.{Part}
use Rattle.step_parts.specs.declared.part.Part.TheVariants.{Clock, Client, Variables, Domains, Programs, Events, Journals, Semaphores}
use Rattle.step_parts.specs.AfterLaws.{is_device}
use Rattle.step_parts.specs.Partition.{cell, client_in, client_place, clients_among, parts_of, IsClient}
use Rattle.step_parts.specs.State.{State}
use Rattle.step_apply.specs.declared.telling.Room.{Room}
use Rattle.step_apply.specs.Lifting.{tabled}
use Rattle.step_apply.specs.Rooms.{room_before, room_or_same, with_room, with_rooms}
use Rattle.step_parts.specs.Slots.{over}
use Rattle.step_apply.proofs.ToldLaws.{at_place, change_placed}

-- ---- what is to be shown of each table, by computing

-- a part over one of its kind over a third is as without the second
over_again : (x y z : Part) → over x y ≡ x → over x (over y z) ≡ over x z
over_again (Clock x) (Clock y) (Clock z) same = refl
over_again (Clock x) (Clock y) other same = refl
over_again (Clock x) other z same = absurd (cc same)
over_again (Variables x) (Variables y) (Variables z) same = refl
over_again (Variables x) (Variables y) other same = refl
over_again (Variables x) other z same = absurd (cc same)
over_again (Domains x) (Domains y) (Domains z) same = refl
over_again (Domains x) (Domains y) other same = refl
over_again (Domains x) other z same = absurd (cc same)
over_again (Programs x) (Programs y) (Programs z) same = refl
over_again (Programs x) (Programs y) other same = refl
over_again (Programs x) other z same = absurd (cc same)
over_again (Events x) (Events y) (Events z) same = refl
over_again (Events x) (Events y) other same = refl
over_again (Events x) other z same = absurd (cc same)
over_again (Journals x) (Journals y) (Journals z) same = refl
over_again (Journals x) (Journals y) other same = refl
over_again (Journals x) other z same = absurd (cc same)
over_again (Semaphores x) (Semaphores y) (Semaphores z) same = refl
over_again (Semaphores x) (Semaphores y) other same = refl
over_again (Semaphores x) other z same = absurd (cc same)
over_again (Client x) (Client y) z same = refl
over_again (Client x) other z same = absurd (cc same)

-- a client's part stays
over_client : (x : Part) (client : RoomyRow) → over x (Client client) ≡ Client client
over_client (Clock x) client = refl
over_client (Variables x) client = refl
over_client (Domains x) client = refl
over_client (Programs x) client = refl
over_client (Events x) client = refl
over_client (Journals x) client = refl
over_client (Semaphores x) client = refl
over_client (Client x) client = refl

-- a part with room is laid over as without
over_room : (room : Option Room) (x part : Part) → over x (room_or_same room part) ≡ room_or_same room (over x part)
over_room None x part = refl
over_room (Some r) x (Client c) =
    over_client x (record { row = c.row; output_room = r.outputs; waiting_room = r.waiting; asked_room = 0 }) ∙ sym (ap (with_room r) (over_client x c))
over_room (Some r) (Clock x) (Clock y) = refl
over_room (Some r) (Clock x) other = refl
over_room (Some r) (Variables x) (Variables y) = refl
over_room (Some r) (Variables x) other = refl
over_room (Some r) (Domains x) (Domains y) = refl
over_room (Some r) (Domains x) other = refl
over_room (Some r) (Programs x) (Programs y) = refl
over_room (Some r) (Programs x) other = refl
over_room (Some r) (Events x) (Events y) = refl
over_room (Some r) (Events x) other = refl
over_room (Some r) (Journals x) (Journals y) = refl
over_room (Some r) (Journals x) other = refl
over_room (Some r) (Semaphores x) (Semaphores y) = refl
over_room (Some r) (Semaphores x) other = refl
over_room (Some r) (Client x) other = refl

-- tables are no client's parts, which alone are given room, and those of two devices are of the same kinds
abbrev AreAlike : List Part → List Part → Type 0
AreAlike [] [] = Unit {0}
AreAlike (x ∷ xs) (y ∷ ys) = (over x y ≡ x) × AreAlike xs ys
AreAlike xs ys = ⊥

alike : (t u : Tables) → AreAlike (cell.table_parts t) (cell.table_parts u)
alike t u = (refl, (refl, (refl, (refl, (refl, (refl, (refl, tt)))))))

-- with this room these parts are as they are
abbrev pub AreRoomless : Room → List Part → Type 0
AreRoomless room [] = Unit {0}
AreRoomless room (x ∷ xs) = (with_room room x ≡ x) × AreRoomless room xs

roomless : (room : Room) (t : Tables) → AreRoomless room (cell.table_parts t)
roomless room t = (refl, (refl, (refl, (refl, (refl, (refl, (refl, tt)))))))

-- ---- and what follows for all

over_alike : (xs ys : List Part) (l : ℕ) (x y : Part) → AreAlike xs ys → slice_get xs l ≡ Some x → slice_get ys l ≡ Some y → over x y ≡ x
over_alike [] ys l x y are one other = absurd (cc one)
over_alike (a ∷ xs) [] l x y are one other = absurd are
over_alike (a ∷ xs) (b ∷ ys) zero x y are one other =
    let a_is : a ≡ x = cc one in
    let b_is : b ≡ y = cc other in
    subst (λ (p : Part). over p y ≡ p) a_is (subst (λ (q : Part). over a q ≡ a) b_is are.0)
over_alike (a ∷ xs) (b ∷ ys) (suc l) x y are one other = over_alike xs ys l x y are.1 one other

are_over : (n : ℕ) (xs ys : List Part) → AreAlike xs ys → AreOver cell is_device over n xs ys
are_over n [] [] are = tt
are_over n [] (y ∷ ys) are = absurd are
are_over n (x ∷ xs) [] are = absurd are
are_over n (x ∷ xs) (y ∷ ys) are = (λ z. over_again x y z are.0, are_over n xs ys are.1)

pub one_roomless : (room : Room) (parts : List Part) (i : ℕ) (part : Part) → AreRoomless room parts → slice_get parts i ≡ Some part → with_room room part ≡ part
one_roomless room [] i part are there = absurd (cc there)
one_roomless room (x ∷ parts) zero part are there = let same : x ≡ part = cc there in subst (λ (p : Part). with_room room p ≡ p) same are.0
one_roomless room (x ∷ parts) (suc i) part are there = one_roomless room parts i part are.1 there

-- the part of a table has no room
pub table_roomless : (t : Tables) (l : ℕ) (part : Part) (room : Room) → slice_get (cell.table_parts t) l ≡ Some part → with_room room part ≡ part
table_roomless t l part room there = one_roomless room (cell.table_parts t) l part (roomless room t) there

pub length-tabled : (t : Tables) (hand : List (Option Part)) → length (tabled t hand) ≡ length hand
length-tabled t hand = length-laid cell is_device over (clients_among (length hand)) (cell.table_parts t) 0 hand

pub tabled_twice : (t u : Tables) (hand : List (Option Part)) → tabled t (tabled u hand) ≡ tabled t hand
tabled_twice t u hand =
    ap (λ (m : ℕ). laid_from cell over m 0 (cell.table_parts t) (tabled u hand)) (ap clients_among (length-tabled u hand))
    ∙ laid_twice cell is_device over (clients_among (length hand)) (cell.table_parts t) (cell.table_parts u) 0 hand
    (are_over (clients_among (length hand)) (cell.table_parts t) (cell.table_parts u) (alike t u))

pub tabled_rooms : (t : Tables) (last : ℕ) (room : ℕ → Room) (hand : List (Option Part)) → tabled t (with_rooms last room hand) ≡ with_rooms last room (tabled t hand)
tabled_rooms t last room hand =
    ap (λ (m : ℕ). laid_from cell over m 0 (cell.table_parts t) (with_rooms last room hand)) (ap clients_among (length-with_places (at_place last room) hand))
    ∙ laid_alike cell is_device over (clients_among (length hand)) (with_rooms last room) (cell.table_parts t) 0 hand (λ l x h there. each x h (table_place cell (clients_among (length hand)) (0 + l)))
  where
    here : (x : Part) (place : ℕ) (held : Option Part) → option_map (over x) (at_place last room place held) ≡ at_place last room place (option_map (over x) held)
    here x place None = refl
    here x place (Some part) = ap Some (over_room (room_before last room (place - 5)) x part)

    each : (x : Part) (h : List (Option Part)) (place : ℕ) → change (option_map (over x)) (with_rooms last room h) place ≡ with_rooms last room (change (option_map (over x)) h place)
    each x h place =
        change_placed (at_place last room) (at_place last room) (option_map (over x)) (option_map (over x)) h place (λ j other held there. refl) (λ held there. here x place held)

pub beside_tables : (t : Tables) (hand : List (Option Part)) (client : ℕ) → 1 ≤ client → client ≤ clients_among (length hand)
    → held_at (tabled t hand) (client_place client) ≡ held_at hand (client_place client)
beside_tables t hand client some few =
    laid_else cell is_device over (clients_among (length hand)) (cell.table_parts t) 0 (client_place client) hand
    (λ l past same.
    apart cell is_device (clients_among (length hand)) l (client - 1) (omega (arith, some, few)) (sym same ∙ ap (λ (c : ℕ). client_place c) (let as_suc : client ≡ suc (client - 1) = omega (arith, some) in as_suc)))

-- a client's part that is held stays, wherever it stands
pub beside_client : (t : Tables) (hand : List (Option Part)) (client : ℕ) → IsClient (held_at hand (client_place client))
    → held_at (tabled t hand) (client_place client) ≡ held_at hand (client_place client)
beside_client t hand client held = stays (clients_among (length hand)) (cell.table_parts t) 0 hand held
  where
    own : Part
    own = Client (client_in (held_at hand (client_place client)))

    laid_beside : (x : Part) (h : List (Option Part)) (place : ℕ) → held_at h (client_place client) ≡ Some own → Dec (client_place client ≡ place)
        → held_at (change (option_map (over x)) h place) (client_place client) ≡ Some own
    laid_beside x h place is (yes same) =
        ap (λ (i : ℕ). held_at (change (option_map (over x)) h i) (client_place client)) (sym same)
        ∙ held_changed (option_map (over x)) h (client_place client) own is
        ∙ ap Some (over_client x (client_in (held_at hand (client_place client))))
    laid_beside x h place is (no other) = held_else (option_map (over x)) h place (client_place client) other ∙ is

    stays : (n : ℕ) (parts : List Part) (k : ℕ) (h : List (Option Part)) → held_at h (client_place client) ≡ Some own
        → held_at (laid_from cell over n k parts h) (client_place client) ≡ held_at hand (client_place client)
    stays n [] k h is = is ∙ sym held
    stays n (x ∷ parts) k h is =
        stays n parts (suc k) (change (option_map (over x)) h (table_place cell n k))
        (laid_beside x h (table_place cell n k) is (ℕ_discrete (client_place client) (table_place cell n k)))

module _ (s : State) (hand : List (Option Part)) (of : IsHandOf hand (parts_of s)) where
  -- all tables are put back
  pub put_tables : (t : Tables) → with_tables cell (clients_among (length hand)) t hand ≡ tabled t hand
  put_tables t =
      sym (laid_put cell is_device over (clients_among (length hand)) (cell.table_parts t) 0 hand
      (λ l x y there held. over_alike (cell.table_parts t) (cell.table_parts (cell.tables_of s)) l x y (alike t (cell.tables_of s)) there
      (part_of cell is_device s hand of l y (ap (λ (m : ℕ). held_at hand (table_place cell (clients_among (length hand)) m)) (let e : l ≡ 0 + l = omega arith in e) ∙ held))))

  -- those of the parts themselves change nothing
  pub tabled_same : tabled (tables_shown cell hand) hand ≡ hand
  tabled_same = sym (put_tables (tables_shown cell hand)) ∙ tables_kept cell is_device s hand of
