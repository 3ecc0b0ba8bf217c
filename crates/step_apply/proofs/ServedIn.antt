-- A request is served on the part of its client and that of a table, whichever it is: proved once for all tables.
use Rattle.std.specs.Prelude.{◌≡◌, ◌≢◌, ℕ, zero, suc, ◌-◌, ◌<◌, ◌≤◌, true, Option, None, Some, List, [], ◌∷◌, is_some, length, unwrap_or, refl}
use Rattle.std.specs.Option.{option_map}
use Rattle.std.proofs.Common.{set, ap, sym, ◌∙◌, subst, arith, length-set}
use Rattle.part_table.specs.Held.{held_at}
use Rattle.part_table.specs.HeldLaws.{held_of_list}
use Rattle.association.specs.Client.{ClientRow, Client as RoomyRow}
use Rattle.parted_state.specs.Area.{no_table, Own, IsTable}
use Rattle.parted_state.specs.DeviceLaws.{around_at}
use Rattle.parted_state.specs.Lifted.{put_in_place, tables_shown, with_tables}
use Rattle.parted_state.specs.Served.{Done, around, change, table_place}
use Rattle.parted_state.proofs.Laid.{change_as, one_put, tables_kept, two_put}
use Rattle.parted_state.proofs.LiftedLaws.{apart, held_else, other_table}
use Rattle.cell_client.specs.Association.{Verdict}
use Rattle.cell_client.specs.Effects.{Effect, felt_all, settled, tell}
use Rattle.cell_services.specs.Acts.{IsDoneIn}
use Rattle.cell_services.specs.Serving.{hears}
use Rattle.cell_services.specs.Tables.{Tables, own_domains, own_invocations, own_programs}
use Rattle.step_parts.specs.declared.part.Part.{Part}
use Rattle.step_parts.specs.declared.part.Part.TheVariants.{Client, Domains, Programs}
use Rattle.step_parts.specs.AfterLaws.{is_device, is_domains, is_programs}
use Rattle.step_parts.specs.Found.{row_held}
use Rattle.step_parts.specs.Needs.{is_held}
use Rattle.step_parts.specs.Partition.{cell, client_part, client_place, clients_among, domains_in, on_client, parts_of, programs_in, row_in}
use Rattle.step_parts.specs.State.{State}
use Rattle.step_parts.proofs.Changed.{as_it_was, changed_part}
use Rattle.step_parts.proofs.Holding.{client_at, clients_counted, held_part}
use Rattle.step_apply.specs.Placing.{AreBeside, IsPartOf}
use Rattle.step_apply.specs.Rooms.{no_room, with_room}
use Rattle.step_apply.specs.Tasks.{heard_in_place, AreMade, IsRoomless, IsServing}
use Rattle.step_apply.proofs.Changed.{client_arm}
use Rattle.step_apply.proofs.ServeLaws.{part_settled, told_row_at}
use Rattle.step_apply.proofs.TabledAll.{beside_tables, put_tables}

-- ---- a part that is taken out beside a client's

change_set : (g : Option Part → Option Part) (hand : List (Option Part)) (i j : ℕ) (y : Option Part) → i ≢ j → change g (set hand i y) j ≡ set (change g hand j) i y
change_set g [] i j y other = refl
change_set g (held ∷ hand) zero zero y other = absurd (other refl)
change_set g (held ∷ hand) zero (suc j) y other = refl
change_set g (held ∷ hand) (suc i) zero y other = refl
change_set g (held ∷ hand) (suc i) (suc j) y other = ap (λ (l : List (Option Part)). held ∷ l) (change_set g hand i j y (λ same. other (ap suc same)))

pub held_after_set : (hand : List (Option Part)) (i j : ℕ) (y : Option Part) → i ≢ j → held_at (set hand i y) j ≡ held_at hand j
held_after_set [] i j y other = refl
held_after_set (held ∷ hand) zero zero y other = absurd (other refl)
held_after_set (held ∷ hand) zero (suc j) y other = refl
held_after_set (held ∷ hand) (suc i) zero y other = refl
held_after_set (held ∷ hand) (suc i) (suc j) y other = held_after_set hand i j y (λ same. other (ap suc same))

-- a client's part and one more are taken out, and that one is put back first
pub both_changed : (f : ClientRow → ClientRow) (g : Part → Part) (hand out gone there new : List (Option Part)) (place other : ℕ) (part table : Part) (own after : RoomyRow)
    → place ≢ other → Some part ≡ held_at hand place → out ≡ set hand place None → Some table ≡ held_at out other → gone ≡ set out other None
    → part ≡ Client own → after ≡ settled (f own.row) → there ≡ set gone other (Some (g table)) → new ≡ set there place (Some (Client after))
    → new ≡ change (option_map (on_client f)) (change (option_map g) hand other) place
both_changed f g hand out gone there new place other part table own after apart held taken second left is done put back =
    back
    ∙ ap (λ (l : List (Option Part)). set l place (Some (Client after))) (put ∙ ap (λ (l : List (Option Part)). set l other (Some (g table))) left
    ∙ changed_part g out other table (sym second)
    ∙ ap (λ (l : List (Option Part)). change (option_map g) l other) taken
    ∙ change_set (option_map g) hand place other None apart)
    ∙ ap (λ (r : RoomyRow). set (set (change (option_map g) hand other) place None) place (Some (Client r))) done
    ∙ changed_part (on_client f) (change (option_map g) hand other) place (Client own)
    (held_else (option_map g) hand other place apart ∙ sym held ∙ ap Some is)

-- so are a client's and two more: of these that which was taken out last is put back first
pub three_changed : (f : ClientRow → ClientRow) (g h : Part → Part) (hand out less gone put there new : List (Option Part)) (place at by : ℕ) (part table more : Part) (own after : RoomyRow)
    → place ≢ at → place ≢ by → at ≢ by → Some part ≡ held_at hand place → out ≡ set hand place None → Some table ≡ held_at out at → less ≡ set out at None → Some more ≡ held_at less by
    → gone ≡ set less by None → part ≡ Client own → after ≡ settled (f own.row) → put ≡ set gone by (Some (h more)) → there ≡ set put at (Some (g table))
    → new ≡ set there place (Some (Client after)) → new ≡ change (option_map (on_client f)) (change (option_map g) (change (option_map h) hand by) at) place
three_changed f g h hand out less gone put there new place at by part table more own after apart beside other held taken second left third gone_too is done put_first put_next back =
    both_changed f g (change (option_map h) hand by) (change (option_map h) out by) put there new place at part table own after apart
    (held ∙ sym (held_else (option_map h) hand by place beside))
    (ap (λ (l : List (Option Part)). change (option_map h) l by) taken ∙ change_set (option_map h) hand place by None beside)
    (second ∙ sym (held_else (option_map h) out by at other))
    (put_first ∙ ap (λ (l : List (Option Part)). set l by (Some (h more))) gone_too
    ∙ changed_part h less by more (sym third)
    ∙ ap (λ (l : List (Option Part)). change (option_map h) l by) left
    ∙ change_set (option_map h) out at by None other)
    is done put_next back

-- both parts are put back as they were
pub both_back : (hand out gone there new : List (Option Part)) (place other : ℕ) (part table : Part) → Some part ≡ held_at hand place → out ≡ set hand place None
    → Some table ≡ held_at out other → gone ≡ set out other None → there ≡ set gone other (Some table) → new ≡ set there place (Some part) → new ≡ hand
both_back hand out gone there new place other part table own taken second left put back =
    as_it_was hand there new place part own (as_it_was out gone there other table second left put ∙ taken) back

-- and so are three
pub three_back : (hand out less gone put there new : List (Option Part)) (place at by : ℕ) (part table more : Part) → Some part ≡ held_at hand place → out ≡ set hand place None
    → Some table ≡ held_at out at → less ≡ set out at None → Some more ≡ held_at less by → gone ≡ set less by None → put ≡ set gone by (Some more) → there ≡ set put at (Some table)
    → new ≡ set there place (Some part) → new ≡ hand
three_back hand out less gone put there new place at by part table more own taken second left third gone_too put_first put_next back =
    both_back hand out less there new place at part table own taken second left
    (put_next ∙ ap (λ (l : List (Option Part)). set l at (Some table)) (as_it_was less gone put by more third gone_too put_first)) back

-- as many parts where two are taken out
pub still_many : (hand out gone : List (Option Part)) (i j n : ℕ) → out ≡ set hand i None → gone ≡ set out j None → n ≡ clients_among (length hand) → n ≡ clients_among (length gone)
still_many hand out gone i j n taken left many =
    many ∙ ap clients_among (sym (ap (λ (h : List (Option Part)). length h) left ∙ length-set out j None ∙ ap (λ (h : List (Option Part)). length h) taken ∙ length-set hand i None))

-- ---- a held part of a state has no room

roomless : (part : Part) → with_room no_room part ≡ part → IsRoomless part
roomless (Client own) same = let none : settled own.row ≡ own = cc same in sym none
roomless other same = tt

-- ---- where a client is served

module _ {m client : ℕ} {hand : List (Option Part)} (serving : IsServing m client hand) where
  abbrev s : State
  s = serving.of.0

  abbrev n : ℕ
  n = clients_among (length hand)

  abbrev all : Tables
  all = tables_shown cell hand

  few : client ≤ n
  few = subst (λ (k : ℕ). client ≤ k) serving.many serving.among.1

  pub held_roomless : (place : ℕ) (part : Part) → Some part ≡ held_at hand place → IsRoomless part
  held_roomless place part held = roomless part (part_settled s place part (held_of_list hand (parts_of s) place part serving.of.1 (sym held)))

  -- what stands in a table's place is shown
  shown_place : (l : ℕ) (h : List (Option Part)) → held_at (around 6 (clients_among (length h)) h) l ≡ held_at h (table_place cell (clients_among (length h)) l)
  shown_place l h = ap (λ (o : Option (Option Part)). unwrap_or o None) (around_at cell is_device (clients_among (length h)) h l)

  pub beside : (l : ℕ) → client_place client ≢ table_place cell n l
  beside l same =
      let some = serving.among.0 in
      let as_suc : client ≡ suc (client - 1) = omega (arith, some) in
      apart cell is_device n l (client - 1) (omega (arith, some, few)) (sym same ∙ ap (λ (c : ℕ). client_place c) as_suc)

  -- once tables are put in place, and the client is told, all is in place
  told_beside : (t : Tables) (effects : List Effect) → change (option_map (on_client (felt_all effects))) (with_tables cell n t hand) (client_place client)
      ≡ put_in_place cell (record { tables = t; told = tell client effects }) hand
  told_beside t effects =
      let some = serving.among.0 in
      let counted = clients_counted s hand serving.of.1 in
      let found = client_at s client some (omega (arith, few, counted)) in
      let is_on : is_held hand (client_place client) ≡ true = ap (λ (o : Option Part). is_some o) serving.held in
      let there : held_at hand (client_place client) ≡ Some (client_part found.0) =
      held_part hand (parts_of s) (client_place client) (client_part found.0) serving.of.1 is_on found.1 in
      let row : held_at (with_tables cell n t hand) (client_place client) ≡ Some (client_part found.0) =
      ap (λ (h : List (Option Part)). held_at h (client_place client)) (put_tables s hand serving.of.1 t) ∙ beside_tables t hand client some few ∙ there in
      change_as (option_map (on_client (felt_all effects))) (λ o. Some (client_part (felt_all effects found.0))) (with_tables cell n t hand) (client_place client)
      (ap (option_map (on_client (felt_all effects))) row)
      ∙ sym (told_row_at n effects client (with_tables cell n t hand) found.0 some few row)

  module _ {before : RoomyRow} (own : Some (Client before) ≡ held_at hand (client_place client)) where
    pub row_is : before.row ≡ row_held hand client
    row_is = ap row_in own

    client_is : before.row.client ≡ client
    client_is = ap (λ (r : ClientRow). r.client) row_is ∙ serving.number

    -- what is done on the row of the client is what is heard of it
    heard_in : (v : Verdict) (t : Tables) (effects : List Effect) → hears all before.row before.row.client v ≡ record { tables = t; told = tell before.row.client effects }
        → put_in_place cell (record { tables = t; told = tell client effects }) hand ≡ heard_in_place client v hand
    heard_in v t effects done =
        ap (λ (d : Done Tables Effect). put_in_place cell d hand)
        (sym (subst (λ (k : ℕ). hears all (row_held hand client) k v ≡ at k) serving.number (subst (λ (r : ClientRow). hears all r r.client v ≡ at r.client) row_is done)))
      where
        at : ℕ → Done Tables Effect
        at k = record { tables = t; told = tell k effects }

    -- no table becomes another
    pub alone_served : {out new : List (Option Part)} {after : RoomyRow} (v : Verdict) → out ≡ set hand (client_place client) None → IsDoneIn no_table all before.row tt after v
        → new ≡ set out (client_place client) (Some (Client after)) → new ≡ heard_in_place client v hand
    alone_served {out = out} {new = new} {after = after} v taken done back =
        client_arm (on_client (felt_all done.effects)) hand out new (client_place client) (Client before) (Client before) before after own taken refl refl (ap Client done.is) back
        ∙ ap (λ (h : List (Option Part)). change (option_map (on_client (felt_all done.effects))) h (client_place client)) (sym (tables_kept cell is_device s hand serving.of.1))
        ∙ told_beside all done.effects
        ∙ heard_in v all done.effects done.done

  -- the tables of domains and of program invocations become others
  module _ (v : Verdict) {part : Part} (own_part : Some part ≡ held_at hand (client_place client)) where
    pub made_at : {out less gone put there new : List (Option Part)} {table more after now changed : Part} → out ≡ set hand (client_place client) None
        → Some table ≡ held_at out 2 → less ≡ set out 2 None → Some more ≡ held_at less 3 → gone ≡ set less 3 None
        → ((t : Tables) → t.domains ≡ domains_in (Some table) → t.programs ≡ programs_in (Some more) → AreMade t v part after now changed)
        → put ≡ set gone 3 (Some changed) → there ≡ set put 2 (Some now) → new ≡ set there (client_place client) (Some after)
        → new ≡ heard_in_place client v hand
    made_at {out = out} {less = less} {gone = gone} {put = put} {there = there} {new = new} {table = table} {more = more} taken second left third gone_too served put_first put_next back =
        let is = served all (is_domains.shown (around 6 n hand) ∙ ap domains_in (shown_place 2 hand ∙ sym second_is)) (is_programs.shown (around 6 n hand) ∙ ap programs_in (shown_place 3 hand ∙ sym third_is)) in
        three_changed (felt_all is.done.effects) (λ old. Domains is.become.0) (λ old. Programs is.become.1) hand out less gone put there new (client_place client) 2 3 part table more is.before is.after
        (beside 2) (beside 3) (λ same. omega (arith, same)) own_part taken second left third gone_too is.is_own is.done.is
        (put_first ∙ ap (λ (p : Part). set gone 3 (Some p)) is.is_programs) (put_next ∙ ap (λ (p : Part). set put 2 (Some p)) is.is_domains)
        (back ∙ ap (λ (p : Part). set there (client_place client) (Some p)) is.is_after)
        ∙ ap (λ (h : List (Option Part)). change (option_map (on_client (felt_all is.done.effects))) h (client_place client))
        (sym (two_put cell is_device s hand serving.of.1 own_domains is_domains own_programs is_programs is.become.0 is.become.1 (omega arith) (omega arith)))
        ∙ told_beside (own_invocations.put is.become all) is.done.effects
        ∙ heard_in (ap Some (sym is.is_own) ∙ own_part) v (own_invocations.put is.become all) is.done.effects is.done.done
      where
        second_is : Some table ≡ held_at hand 2
        second_is = second ∙ ap (λ (l : List (Option Part)). held_at l 2) taken ∙ held_after_set hand (client_place client) 2 None (beside 2)

        third_is : Some more ≡ held_at hand 3
        third_is =
            third ∙ ap (λ (l : List (Option Part)). held_at l 3) left ∙ held_after_set out 2 3 None (λ same. omega (arith, same))
            ∙ ap (λ (l : List (Option Part)). held_at l 3) taken ∙ held_after_set hand (client_place client) 3 None (beside 3)

  -- ---- at a place that is a table's

  module _ {A : Type 0} {own : Own Tables A} (its : IsTable cell own) (below : its.number < 7) {at : ℕ} (placed : at ≡ table_place cell m its.number) where
    is_at : at ≡ table_place cell n its.number
    is_at = placed ∙ ap (λ (k : ℕ). table_place cell k its.number) serving.many

    apart_at : client_place client ≢ at
    apart_at same = beside its.number (same ∙ is_at)

    module _ {out : List (Option Part)} (taken : out ≡ set hand (client_place client) None) where
      pub still_there : held_at out at ≡ held_at hand at
      still_there = ap (λ (l : List (Option Part)). held_at l at) taken ∙ held_after_set hand (client_place client) at None apart_at

      -- what is shown of the table while the part of the client is taken out
      pub beside_at : own.of all ≡ its.part_in (held_at out at)
      beside_at = its.shown (around 6 n hand) ∙ ap its.part_in (shown_place its.number hand ∙ ap (λ (k : ℕ). held_at hand k) (sym is_at) ∙ sym still_there)

      -- other tables are shown while its part is taken out, too
      others_beside : (gone : List (Option Part)) → gone ≡ set out at None → AreBeside its.number gone all
      others_beside gone left l other =
          is_device.by_place (around 6 n hand) (around 6 (clients_among (length gone)) gone) l
          (shown_place l hand ∙ sym same ∙ ap (λ (k : ℕ). held_at gone (table_place cell k l)) (still_many hand out gone (client_place client) at n taken left refl) ∙ sym (shown_place l gone))
        where
          same : held_at gone (table_place cell n l) ≡ held_at hand (table_place cell n l)
          same =
              ap (λ (h : List (Option Part)). held_at h (table_place cell n l)) left
              ∙ held_after_set out at (table_place cell n l) None (λ e. other_table cell is_device n its.number l (λ k. other (sym k)) (sym is_at ∙ e))
              ∙ ap (λ (h : List (Option Part)). held_at h (table_place cell n l)) taken
              ∙ held_after_set hand (client_place client) (table_place cell n l) None (beside l)

      module _ {before : RoomyRow} {table : Part} (own_part : Some (Client before) ≡ held_at hand (client_place client)) (second : Some table ≡ held_at out at) where
        -- what is so of the row and the table that are held is so of those that are taken out, and the other way round
        pub as_taken : (P : ClientRow → A → Type 0) → P (row_held hand client) (its.part_in (held_at hand at)) → P before.row (its.part_in (Some table))
        as_taken P is =
            subst (λ (r : ClientRow). P r (its.part_in (Some table))) (sym (row_is own_part))
            (subst (λ (o : Option Part). P (row_held hand client) (its.part_in o)) (sym (second ∙ still_there)) is)

        pub as_held : (P : ℕ → ClientRow → A → Type 0) → P before.row.client before.row (its.part_in (Some table)) → P client (row_held hand client) (its.part_in (held_at hand at))
        as_held P is =
            subst (λ (k : ℕ). P k (row_held hand client) (its.part_in (held_at hand at))) serving.number
            (subst (λ (r : ClientRow). P r.client r (its.part_in (held_at hand at))) (row_is own_part)
            (subst (λ (o : Option Part). P before.row.client before.row (its.part_in o)) (second ∙ still_there) is))

        -- its client has the number of the one that is served
        pub of_client : (P : ℕ → Type 0) → P client → P before.row.client
        of_client P is = subst P (sym (client_is own_part)) is

        pub shown : own.of all ≡ its.part_in (Some table)
        shown = beside_at ∙ ap its.part_in (sym second)

        -- once both parts are put back, all is in place that is done
        pub served_at : {gone there new : List (Option Part)} {after : RoomyRow} {now : Part} (v : Verdict) → gone ≡ set out at None → IsPartOf its (Some now)
            → (own.of all ≡ its.part_in (Some table) → AreBeside its.number gone all → IsDoneIn own all before.row (its.part_in (Some now)) after v)
            → there ≡ set gone at (Some now) → new ≡ set there (client_place client) (Some (Client after)) → new ≡ heard_in_place client v hand
        served_at {gone = gone} {there = there} {new = new} {after = after} {now = now} v left kind served put back =
            let done = served shown (others_beside gone left) in
            let is_now : now ≡ its.part (its.part_in (Some now)) = cc kind in
            both_changed (felt_all done.effects) (λ old. its.part (its.part_in (Some now))) hand out gone there new (client_place client) at (Client before) table before after apart_at
            own_part taken second left refl done.is (put ∙ ap (λ (p : Part). set gone at (Some p)) is_now) back
            ∙ ap (λ (h : List (Option Part)). change (option_map (on_client (felt_all done.effects))) h (client_place client))
            (ap (λ (k : ℕ). change (option_map (λ old. its.part (its.part_in (Some now)))) hand k) is_at ∙ sym (one_put cell is_device s hand serving.of.1 own its (its.part_in (Some now)) below))
            ∙ told_beside (own.put (its.part_in (Some now)) all) done.effects
            ∙ heard_in own_part v (own.put (its.part_in (Some now)) all) done.effects done.done
