-- What a request left that tells others something is done: the table of its area alone becomes another, beside room that
-- was made. Proved once for all tables.
use Rattle.std.specs.Prelude.{◌≡◌, ℕ, zero, suc, ◌+◌, ◌-◌, ◌<◌, Option, None, Some, List, [], ◌∷◌, length, slice_get, unwrap_or, refl}
use Rattle.std.specs.Option.{option_map}
use Rattle.std.proofs.Common.{set, ap, sym, ◌∙◌, arith}
use Rattle.part_table.specs.Held.{held_at}
use Rattle.parted_state.specs.Area.{Own, IsTable}
use Rattle.parted_state.specs.Lifted.{put_in_place, tables_shown, told_all}
use Rattle.parted_state.specs.Served.{change, table_place}
use Rattle.parted_state.proofs.Laid.{one_put}
use Rattle.cell_client.specs.Telling.{effects_told}
use Rattle.cell_client.specs.declared.told.ClientTold.{ClientTold}
use Rattle.cell_services.specs.Acts.{all_done}
use Rattle.cell_services.specs.Tables.{Tables}
use Rattle.step_parts.specs.declared.part.Part.{Part}
use Rattle.step_parts.specs.AfterLaws.{is_device}
use Rattle.step_parts.specs.Partition.{cell}
use Rattle.step_parts.specs.State.{State}
use Rattle.step_parts.proofs.Changed.{changed_part}
use Rattle.step_apply.specs.Lifting.{tabled}
use Rattle.step_apply.specs.Placing.{IsPartOf}
use Rattle.step_apply.specs.Rooms.{room_before, room_or_same, room_to, with_rooms, without_rooms, AreClients}
use Rattle.step_apply.specs.Tasks.{IsServing}
use Rattle.step_apply.specs.declared.telling.Room.{Room}
use Rattle.step_apply.proofs.ServeLaws.{clients_kept, rooms_kept, told_in_place}
use Rattle.step_apply.proofs.TabledAll.{put_tables, tabled_rooms, tabled_same, table_roomless}
use Rattle.step_apply.proofs.ToldLaws.{at_place, change_placed, get_placed}

got : (parts : List Part) (i : ℕ) (part : Part) → i < length parts → slice_get (change (λ old. part) parts i) i ≡ Some part
got [] i part below = absurd (omega (arith, below))
got (x ∷ parts) zero part below = refl
got (x ∷ parts) (suc i) part below = got parts i part (omega (arith, below))

module _ {n client : ℕ} {hand : List (Option Part)} (serving : IsServing n client hand) {A : Type 0} {own : Own Tables A} (its : IsTable cell own) (below : its.number < 7)
    (at : ℕ) (there : IsPartOf its (held_at hand at)) where
  -- the part of the table has no room
  part_roomless : (x : A) (o : Option Room) → room_or_same o (its.part x) ≡ its.part x
  part_roomless x None = refl
  part_roomless x (Some room) =
      table_roomless (own.put x (tables_shown cell hand)) its.number (its.part x) room
      (ap (λ (l : List Part). slice_get l its.number) (its.puts x (tables_shown cell hand)) ∙ got (cell.table_parts (tables_shown cell hand)) its.number (its.part x) below)

  -- room is made for clients alone
  pub roomed_part : (last : ℕ) (room : ℕ → Room) → held_at (with_rooms last room hand) at ≡ held_at hand at
  roomed_part last room = ap (λ (o : Option (Option Part)). unwrap_or o None) (get_placed (at_place last room) hand at) ∙ by_value (slice_get hand at) there
    where
      by_value : (o : Option (Option Part)) → unwrap_or o None ≡ Some (its.part (its.part_in (held_at hand at))) → unwrap_or (option_map (at_place last room at) o) None ≡ unwrap_or o None
      by_value None is = refl
      by_value (Some None) is = refl
      by_value (Some (Some part)) is =
          let same : part ≡ its.part (its.part_in (held_at hand at)) = cc is in
          ap Some (ap (room_or_same (room_before last room (at - 5))) same ∙ part_roomless (its.part_in (held_at hand at)) (room_before last room (at - 5)) ∙ sym same)

  module _ (is_at : at ≡ table_place cell n its.number) (told : List (ℕ × ClientTold)) {roomy out new : List (Option Part)}
      {table after : Part} (become : A → A) (made : roomy ≡ with_rooms (n + 1) (room_to told) hand) (taken : Some table ≡ held_at roomy at) (left : out ≡ set roomy at None)
      (changed : after ≡ its.part (become (its.part_in (Some table)))) (put : new ≡ set out at (Some after)) where
    abbrev s : State
    s = serving.of.0

    abbrev now : A
    now = become (its.part_in (held_at hand at))

    abbrev tables_after : Tables
    tables_after = own.put now (tables_shown cell hand)

    -- it is what was held
    pub table_was : Some table ≡ held_at hand at
    table_was = taken ∙ ap (λ (h : List (Option Part)). held_at h at) made ∙ roomed_part (n + 1) (room_to told)

    roomed : new ≡ with_rooms (n + 1) (room_to told) (tabled tables_after hand)
    roomed =
        put
        ∙ ap (λ (l : List (Option Part)). set l at (Some after)) left
        ∙ ap (λ (p : Part). set (set roomy at None) at (Some p)) (changed ∙ ap (λ (o : Option Part). its.part (become (its.part_in o))) table_was)
        ∙ changed_part (λ old. its.part now) roomy at table (sym taken)
        ∙ ap (λ (h : List (Option Part)). change (option_map (λ old. its.part now)) h at) made
        ∙ change_placed (at_place (n + 1) (room_to told)) (at_place (n + 1) (room_to told)) (option_map (λ old. its.part now)) (option_map (λ old. its.part now)) hand at
        (λ j other held there. refl) (λ held there. here held)
        ∙ ap (with_rooms (n + 1) (room_to told))
        (ap (λ (k : ℕ). change (option_map (λ old. its.part now)) hand k) (is_at ∙ ap (λ (m : ℕ). table_place cell m its.number) serving.many)
        ∙ sym (one_put cell is_device s hand serving.of.1 own its now below)
        ∙ put_tables s hand serving.of.1 tables_after)
      where
        here : (held : Option Part) → option_map (λ old. its.part now) (at_place (n + 1) (room_to told) at held) ≡ at_place (n + 1) (room_to told) at (option_map (λ old. its.part now) held)
        here None = refl
        here (Some part) = ap Some (sym (part_roomless now (room_before (n + 1) (room_to told) (at - 5))))

    are_changed : new ≡ tabled tables_after (with_rooms (n + 1) (room_to told) (tabled (tables_shown cell hand) hand))
    are_changed =
        roomed ∙ sym (tabled_rooms tables_after (n + 1) (room_to told) hand)
        ∙ ap (λ (h : List (Option Part)). tabled tables_after (with_rooms (n + 1) (room_to told) h)) (sym (tabled_same s hand serving.of.1))

    pub finish_rooms : new ≡ with_rooms (n + 1) (room_to told) (without_rooms (n + 1) new)
    finish_rooms = rooms_kept s hand serving.of.1 n serving.many told (tables_shown cell hand) tables_after new are_changed

    pub finish_clients : AreClients n new
    finish_clients = clients_kept s hand serving.of.1 n serving.many told (tables_shown cell hand) tables_after new are_changed

    pub finished_in_place : told_all cell n (effects_told told) (without_rooms (n + 1) new) ≡ put_in_place cell (all_done tables_after told) hand
    finished_in_place = told_in_place s hand serving.of.1 n serving.many told (tables_shown cell hand) tables_after new are_changed
