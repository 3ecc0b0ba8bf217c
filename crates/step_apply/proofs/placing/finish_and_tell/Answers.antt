use Rattle.std.proofs.Common.{◌≡◌, ◌+◌, ◌∙◌, List, ℕ, Option, Some, ap, sym, subst, is_some}
use Rattle.part_table.specs.Held.{held_at}
use Rattle.cell_client.specs.declared.told.ClientTold.{ClientTold}
use Rattle.step_parts.specs.declared.part.Part.{Part}
use Rattle.step_apply.specs.Rooms.{room_to, with_rooms}
use Rattle.step_apply.proofs.FinishedIn.{finish_clients, finish_rooms, finished_in_place, roomed_part}
use Rattle.step_apply.proofs.ServeLaws.{is_settled}
use Rattle.step_apply.proofs.placing.finish_and_tell.Goals as goal

pub make_rooms-requires-clause-settled : goal.make_rooms-requires-clause-settled
make_rooms-requires-clause-settled g c = is_settled c.requires.serving.of.0 c.args.held.now c.requires.serving.of.1 (c.args.who.clients + 1)

pub take-table-requires : goal.take-table-requires
take-table-requires g c = record {
  held = ap (λ (o : Option Part). is_some o)
      (ap (λ (h : List (Option Part)). held_at h c.args.place) c.in_ok-make_rooms.ensures.made
      ∙ roomed_part c.requires.serving (g.S.OnParts.its c.args.asked.now) c.requires.below c.args.place c.requires.table (c.args.who.clients + 1) (room_to c.as_slice.result.now)
      ∙ c.requires.table);
}

pub finish-requires-clause-table : goal.finish-requires-clause-table
finish-requires-clause-table g c =
    subst (λ (o : Option Part). o ≡ Some ((g.S.OnParts.its c.args.asked.now).part ((g.S.OnParts.its c.args.asked.now).part_in o)))
    (sym (ap Some c.deref_mut.ensures.value ∙ c.take-table.ensures.part ∙ ap (λ (h : List (Option Part)). held_at h c.args.place) c.in_ok-make_rooms.ensures.made
    ∙ roomed_part c.requires.serving (g.S.OnParts.its c.args.asked.now) c.requires.below c.args.place c.requires.table (c.args.who.clients + 1) (room_to c.as_slice.result.now)))
    c.requires.table

pub finish-requires-clause-fits : goal.finish-requires-clause-fits
finish-requires-clause-fits g c =
    subst (λ (o : Option Part). g.S.OnParts.fits c.args.asked.now c.args.facts c.args.left.1 c.args.who.client ((g.S.OnParts.its c.args.asked.now).part_in o))
    (sym (ap Some c.deref_mut.ensures.value ∙ c.take-table.ensures.part ∙ ap (λ (h : List (Option Part)). held_at h c.args.place) c.in_ok-make_rooms.ensures.made
    ∙ roomed_part c.requires.serving (g.S.OnParts.its c.args.asked.now) c.requires.below c.args.place c.requires.table (c.args.who.clients + 1) (room_to c.as_slice.result.now)))
    c.requires.fits

pub tell_all-requires-clause-rooms : goal.tell_all-requires-clause-rooms
tell_all-requires-clause-rooms g c =
    finish_rooms c.requires.serving (g.S.OnParts.its c.args.asked.now) c.requires.below c.args.place c.requires.table c.requires.place c.args.left.0.items (g.S.OnParts.becomes c.args.asked.now c.args.facts c.args.who.client)
    (c.in_ok-make_rooms.ensures.made ∙ ap (λ (l : List (ℕ × ClientTold)). with_rooms (c.args.who.clients + 1) (room_to l) c.args.held.now) c.as_slice.ensures.value)
    c.take-table.ensures.part c.take-table.ensures.left
    (c.finish.ensures ∙ ap (λ (p : Part). (g.S.OnParts.its c.args.asked.now).part (g.S.OnParts.becomes c.args.asked.now c.args.facts c.args.who.client ((g.S.OnParts.its c.args.asked.now).part_in (Some p)))) c.deref_mut.ensures.value)
    c.put.ensures

pub tell_all-requires-clause-are : goal.tell_all-requires-clause-are
tell_all-requires-clause-are g c =
    finish_clients c.requires.serving (g.S.OnParts.its c.args.asked.now) c.requires.below c.args.place c.requires.table c.requires.place c.args.left.0.items (g.S.OnParts.becomes c.args.asked.now c.args.facts c.args.who.client)
    (c.in_ok-make_rooms.ensures.made ∙ ap (λ (l : List (ℕ × ClientTold)). with_rooms (c.args.who.clients + 1) (room_to l) c.args.held.now) c.as_slice.ensures.value)
    c.take-table.ensures.part c.take-table.ensures.left
    (c.finish.ensures ∙ ap (λ (p : Part). (g.S.OnParts.its c.args.asked.now).part (g.S.OnParts.becomes c.args.asked.now c.args.facts c.args.who.client ((g.S.OnParts.its c.args.asked.now).part_in (Some p)))) c.deref_mut.ensures.value)
    c.put.ensures

pub returns-clause-put : goal.returns-clause-put
returns-clause-put g c =
    c.tell_all.ensures
    ∙ finished_in_place c.requires.serving (g.S.OnParts.its c.args.asked.now) c.requires.below c.args.place c.requires.table c.requires.place c.args.left.0.items (g.S.OnParts.becomes c.args.asked.now c.args.facts c.args.who.client)
    (c.in_ok-make_rooms.ensures.made ∙ ap (λ (l : List (ℕ × ClientTold)). with_rooms (c.args.who.clients + 1) (room_to l) c.args.held.now) c.as_slice.ensures.value)
    c.take-table.ensures.part c.take-table.ensures.left
    (c.finish.ensures ∙ ap (λ (p : Part). (g.S.OnParts.its c.args.asked.now).part (g.S.OnParts.becomes c.args.asked.now c.args.facts c.args.who.client ((g.S.OnParts.its c.args.asked.now).part_in (Some p)))) c.deref_mut.ensures.value)
    c.put.ensures
