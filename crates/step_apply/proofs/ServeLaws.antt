-- What is done on the tables that are lifted out of held parts is put in place.
use Rattle.std.specs.Prelude.{◌≡◌, ℕ, ◌+◌, ◌≤◌, Bool, true, false, Option, None, Some, List, [], ◌∷◌, ◌++◌, map, length, slice_get, unwrap_or, if◌then◌else◌, refl}
use Rattle.std.specs.Option.{option_map}
use Rattle.std.proofs.Common.{ap, sym, ◌∙◌, subst, arith}
use Rattle.association.specs.Client.{ClientRow}
use Rattle.part_table.specs.Held.{held_at, IsHandOf}
use Rattle.part_table.specs.HeldLaws.{held_of_list}
use Rattle.parted_state.specs.Lifted.{with_tables, tables_shown, part_told, told_to, told_all, put_in_place}
use Rattle.parted_state.specs.CutLaws.{length-with_places}
use Rattle.parted_state.specs.Served.{change}
use Rattle.parted_state.proofs.Laid.{change_as, change_twice}
use Rattle.parted_state.proofs.LiftedLaws.{held_changed}
use Rattle.cell_client.specs.Effects.{Effect, felt, felt_all, tell}
use Rattle.cell_client.specs.Telling.{effects_told}
use Rattle.cell_client.specs.declared.told.ClientTold.{ClientTold}
use Rattle.cell_services.specs.Acts.{act_done}
use Rattle.cell_services.specs.Tables.{Tables}
use Rattle.step_parts.proofs.Holding.{client_at, clients_counted}
use Rattle.step_parts.proofs.Shown.{shown_own}
use Rattle.step_parts.specs.Partition.{cell, parts_of, client_part, client_place, clients_among, row_in, tables_held, IsClient}
use Rattle.step_parts.specs.State.{State}
use Rattle.step_parts.specs.declared.part.Part.{Part}
use Rattle.step_parts.specs.declared.part.Part.TheVariants.{Semaphores}
use Rattle.step_apply.specs.Lifting.{tabled}
use Rattle.step_apply.specs.Rooms.{no_room, room_to, with_room, room_or_same, with_rooms, without_rooms, IsSettled, MayBeClient, AreClients}
use Rattle.step_apply.specs.Tasks.{task_done, HoldsOwn, IsTimely}
use Rattle.step_apply.specs.declared.serving.Task.{Task}
use Rattle.step_apply.specs.declared.serving.Task.TheVariants as task
use Rattle.step_apply.specs.declared.telling.Room.{Room}
use Rattle.step_apply.proofs.TabledAll.{beside_client, beside_tables, length-tabled, one_roomless, put_tables, tabled_rooms, tabled_same, tabled_twice, AreRoomless}
use Rattle.step_apply.proofs.ToldLaws.{at_place, change_same, clients_roomed, placed_none, placed_same, rooms_gone, told_to_one}

-- ---- held parts of a state have no room

clients_roomless : (rows : List ClientRow) (rest : List Part) → AreRoomless no_room rest → AreRoomless no_room (map client_part rows ++ rest)
clients_roomless [] rest are = are
clients_roomless (row ∷ rows) rest are = (refl, clients_roomless rows rest are)

pub part_settled : (s : State) (i : ℕ) (part : Part) → slice_get (parts_of s) i ≡ Some part → with_room no_room part ≡ part
part_settled s i part there =
    one_roomless no_room (parts_of s) i part (refl, (refl, (refl, (refl, (refl, (refl, clients_roomless s.clients (Semaphores s.semaphores ∷ []) (refl, tt))))))) there

module _ (s : State) (hand : List (Option Part)) (of : IsHandOf hand (parts_of s)) where
  part_there : (place : ℕ) (part : Part) → slice_get hand place ≡ Some (Some part) → slice_get (parts_of s) place ≡ Some part
  part_there place part there = held_of_list hand (parts_of s) place part of (ap (λ (o : Option (Option Part)). unwrap_or o None) there)

  pub is_settled : (last : ℕ) → IsSettled last hand
  is_settled last = placed_same (at_place last (λ client. no_room)) (λ j held. held) hand (λ j held there. here j held there) ∙ placed_none hand
    where
      by_room : (b : Bool) (part : Part) → with_room no_room part ≡ part → room_or_same (if b then Some no_room else None) part ≡ part
      by_room true part same = same
      by_room false part same = refl

      here : (j : ℕ) (held : Option Part) → slice_get hand j ≡ Some held → at_place last (λ client. no_room) j held ≡ held
      here j None there = refl
      here j (Some part) there = ap Some (by_room _ part (part_settled s j part (part_there j part there)))

  pub are_clients : AreClients (clients_among (length hand)) hand
  are_clients client some few = by_value (slice_get hand (client_place client)) refl
    where
      counted : clients_among (length hand) ≡ length s.clients
      counted = clients_counted s hand of

      by_value : (o : Option (Option Part)) → slice_get hand (client_place client) ≡ o → MayBeClient (unwrap_or o None)
      by_value None e = tt
      by_value (Some None) e = tt
      by_value (Some (Some part)) e =
          let found = client_at s client some (omega (arith, few, counted)) in
          let both : Some (client_part found.0) ≡ Some part = sym found.1 ∙ part_there (client_place client) part e in
          let same : client_part found.0 ≡ part = cc both in
          subst (λ (p : Part). MayBeClient (Some p)) same tt

-- ---- rooms are made on held parts whose tables are lifted, and clients are told once they are put back

pub clients_tabled : (n : ℕ) (t : Tables) (hand : List (Option Part)) → n ≤ clients_among (length hand) → AreClients n hand → AreClients n (tabled t hand)
clients_tabled n t hand few_clients clients client some few = subst MayBeClient (sym (beside_tables t hand client some (omega (arith, few, few_clients)))) (clients client some few)

pub settled_tabled : (last : ℕ) (t : Tables) (hand : List (Option Part)) → IsSettled last hand → IsSettled last (tabled t hand)
settled_tabled last t hand settled = sym (tabled_rooms t last (λ client. no_room) hand) ∙ ap (tabled t) settled

module _ (s : State) (hand : List (Option Part)) (of : IsHandOf hand (parts_of s)) (n : ℕ) (many : n ≡ clients_among (length hand)) (told : List (ℕ × ClientTold)) (u t : Tables)
    (lowered : List (Option Part)) (is : lowered ≡ tabled t (with_rooms (n + 1) (room_to told) (tabled u hand))) where
  roomed : lowered ≡ with_rooms (n + 1) (room_to told) (tabled t hand)
  roomed =
      is ∙ tabled_rooms t (n + 1) (room_to told) (tabled u hand) ∙ ap (with_rooms (n + 1) (room_to told)) (tabled_twice t u hand)

  bare : without_rooms (n + 1) lowered ≡ tabled t hand
  bare =
      ap (without_rooms (n + 1)) roomed
      ∙ rooms_gone (n + 1) (n + 1) (room_to told) (tabled t hand) (omega arith)
      ∙ settled_tabled (n + 1) t hand (is_settled s hand of (n + 1))

  pub rooms_kept : lowered ≡ with_rooms (n + 1) (room_to told) (without_rooms (n + 1) lowered)
  rooms_kept = roomed ∙ ap (with_rooms (n + 1) (room_to told)) (sym bare)

  pub clients_kept : AreClients n lowered
  clients_kept =
      subst (AreClients n) (sym roomed)
      (clients_roomed n (n + 1) (room_to told) (tabled t hand)
      (clients_tabled n t hand (omega (arith, many)) (subst (λ (m : ℕ). AreClients m hand) (sym many) (are_clients s hand of))))

  pub told_in_place : told_all cell n (effects_told told) (without_rooms (n + 1) lowered) ≡ put_in_place cell (record { tables = t; told = effects_told told }) hand
  told_in_place =
      ap (told_all cell n (effects_told told)) (bare ∙ sym (put_tables s hand of t))
      ∙ ap (λ (m : ℕ). told_all cell m (effects_told told) (with_tables cell (clients_among (length hand)) t hand)) many

-- as many parts while the tables are lifted, and where rooms are made
pub many_lifted : (n : ℕ) (u : Tables) (hand lifted : List (Option Part)) → n ≡ clients_among (length hand) → lifted ≡ tabled u hand → n ≡ clients_among (length lifted)
many_lifted n u hand lifted many is =
    many ∙ ap clients_among (sym (length-tabled u hand)) ∙ ap (λ (h : List (Option Part)). clients_among (length h)) (sym is)

pub many_roomed : (n last : ℕ) (room : ℕ → Room) (u : Tables) (hand lifted now : List (Option Part)) → n ≡ clients_among (length hand) → lifted ≡ tabled u hand
    → now ≡ with_rooms last room lifted → n ≡ clients_among (length now)
many_roomed n last room u hand lifted now many is roomed =
    many_lifted n u hand lifted many is
    ∙ ap clients_among (sym (length-with_places (at_place last room) lifted))
    ∙ ap (λ (h : List (Option Part)). clients_among (length h)) (sym roomed)

-- the tables that are lifted are those that the parts show
pub lifted_shown : (t : Tables) (n : ℕ) (hand : List (Option Part)) → n ≡ clients_among (length hand) → t ≡ tables_held n hand → t ≡ tables_shown cell hand
lifted_shown t n hand many is = is ∙ ap (λ (m : ℕ). tables_held m hand) many ∙ shown_own hand

pub timely_kept : (a : Task) (t u : Tables) → t ≡ u → IsTimely a u → IsTimely a t
timely_kept a t u same may = subst (IsTimely a) (sym same) may

-- the parts are as they were where their own tables are put back
pub put_back_own : (s : State) (u : Tables) (hand lifted new : List (Option Part)) → IsHandOf hand (parts_of s) → lifted ≡ tabled u hand
    → new ≡ tabled (tables_shown cell hand) lifted → new ≡ hand
put_back_own s u hand lifted new of out back =
    back ∙ ap (tabled (tables_shown cell hand)) out ∙ tabled_twice (tables_shown cell hand) u hand ∙ tabled_same s hand of

-- rooms that were made are given up
pub rooms_given_up : (n : ℕ) (room : ℕ → Room) (hand : List (Option Part)) → IsSettled (n + 1) hand → without_rooms (n + 1) (with_rooms (n + 1) room hand) ≡ hand
rooms_given_up n room hand settled = rooms_gone (n + 1) (n + 1) room hand (omega arith) ∙ settled

-- ---- the part of a client is as it was while the tables are lifted

pub own_kept : (a : Task) (t : Tables) (hand : List (Option Part)) → HoldsOwn a hand → HoldsOwn a (tabled t hand)
own_kept (task.Client client act) t hand own = (own.0, subst IsClient (sym (beside_client t hand client own.1)) own.1)
own_kept (task.Time ms) t hand own = tt

pub done_kept : (a : Task) (t u : Tables) (hand : List (Option Part)) → HoldsOwn a hand → task_done t (tabled u hand) a ≡ task_done t hand a
done_kept (task.Client client act) t u hand own = ap (λ (o : Option Part). act_done t (row_in o) client act) (beside_client u hand client own.1)
done_kept (task.Time ms) t u hand own = refl

-- ---- what a client is told by an event that uses no table

-- a client's part that is held without room
abbrev IsRowAt : List (Option Part) → ℕ → ClientRow → Type 0
IsRowAt hand client row = held_at hand (client_place client) ≡ Some (client_part row)

pub told_row_at : (n : ℕ) (effects : List Effect) (client : ℕ) (hand : List (Option Part)) (row : ClientRow) → 1 ≤ client → client ≤ n → IsRowAt hand client row
    → told_all cell n (tell client effects) hand ≡ change (λ held. Some (client_part (felt_all effects row))) hand (client_place client)
told_row_at n [] client hand row some few held =
    sym (change_same hand (client_place client)) ∙ change_as (λ o. o) (λ o. Some (client_part row)) hand (client_place client) held
told_row_at n (effect ∷ effects) client hand row some few held =
    ap (told_all cell n (tell client effects)) first
    ∙ told_row_at n effects client (change (λ o. Some (client_part (felt effect row))) hand (client_place client)) (felt effect row) some few
    (held_changed (λ o. Some (client_part (felt effect row))) hand (client_place client) (client_part row) held)
    ∙ change_twice (λ o. Some (client_part (felt_all effects (felt effect row)))) (λ o. Some (client_part (felt effect row))) hand (client_place client)
  where
    first : told_to cell n client effect hand ≡ change (λ o. Some (client_part (felt effect row))) hand (client_place client)
    first =
        told_to_one n client effect hand some few
        ∙ change_as (option_map (part_told cell effect)) (λ o. Some (client_part (felt effect row))) hand (client_place client)
        (ap (option_map (part_told cell effect)) held)
