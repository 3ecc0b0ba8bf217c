use Rattle.std.proofs.Common.{◌≡◌, ◌+◌, ◌++◌, sym, ◌∙◌, ap, cond, drop, is_some, set, slice_get, take, true, None, Some, option_map}
use Rattle.std.specs.Box.{box_value}
use Rattle.part_table.specs.Held.{held_at}
use Rattle.part_table.specs.declared.view.View.{View}
use Rattle.part_table.specs.Known.{without}
use Rattle.part_table.specs.Passes.{times}
use Rattle.part_table.proofs.Order.{back_in_order, behind_one}
use Rattle.part_table.proofs.Passes.{gave_known, gave_pass, turned_pass}
use Rattle.part_table.proofs.table.PartTable.give.Goals as goal

pub invariant_of-pass : goal.invariant_of-pass
invariant_of-pass g c =
    let same = c.pass.view_is in
    let held : held_at c.pass.inside.seat.me.0.held c.args.part ≡ Some c.in-Some.value.value =
    ap (λ k. held_at k.taken c.args.part) same ∙ sym c.requires.unchanged ∙ sym (ap (λ k. held_at k.hand c.args.part) same) ∙ sym c.take.ensures.part
    ∙ ap (option_map box_value) c.in-Some.is in
    let gave = gave_pass g.O.Object.may_make c.pass.inside.seat.table_id _ c.pass.inside.seat.me _ c.pass.inside.order.items _ _ _ c.pass.invariant c.args.part c.place_of-place.result c.in-Some.value.value
    c.bring.new.order.items c.remove.new.self.items c.bring.new.seat.me _ (ap (λ l. Rattle.std.specs.List.slice_get l c.place_of-place.result) (sym c.as_slice.ensures.value) ∙ c.place_of-place.ensures) c.bring.ensures.order c.bring.ensures.seat.2 c.bring.ensures.slots c.remove.ensures.items
    c.release.ensures.given held (c.remove.ensures.capacity ∙ c.bring.ensures.room) in
    turned_pass g.O.Object.may_make c.release.new.seat.table_id _ c.release.new.seat.me c.turn_back.new.seat.me c.remove.new.self.items _ _ _ gave _ c.turn_back.new.order.items _
    c.turn_back.ensures.seat.2 c.turn_back.ensures.slots c.turn_back.ensures.order c.turn_back.ensures.room

pub returns : goal.returns
returns g c =
    let at : slice_get c.pass.inside.order.items c.place_of-place.result ≡ Some c.args.part =
    ap (λ l. slice_get l c.place_of-place.result) (sym c.as_slice.ensures.value) ∙ c.place_of-place.ensures in
    let held : is_some (held_at c.pass.inside.seat.me.0.held c.args.part) ≡ true = ap (λ k. is_some (held_at k.taken c.args.part)) c.pass.view_is ∙ c.requires.held in
    let one : times c.args.part c.pass.inside.order.items ≡ 1 = c.pass.invariant.turns c.args.part ∙ ap (λ b. cond b 1 0) held in
    let behind : c.remove.new.self.items ≡ drop (c.place_of-place.result + 1) c.pass.inside.order.items ++ take c.place_of-place.result c.pass.inside.order.items =
    behind_one c.args.part c.place_of-place.result c.pass.inside.order.items _ _ at c.bring.ensures.order c.remove.ensures.items in
    let order : c.turn_back.new.order.items ≡ without c.args.part c.pass.inside.order.items =
    c.turn_back.ensures.order ∙ back_in_order c.args.part c.place_of-place.result c.pass.inside.order.items c.remove.new.self.items at one behind in
    record {
      given = gave_known c.pass.inside.seat.table_id c.turn_back.new.seat.table_id c.pass.inside.seat.me.0 c.turn_back.new.seat.me.0 _ _ c.pass.inside.order.items _ c.args.part c.args.pass.now c.pass.view_is
          (c.turn_back.ensures.seat.0 ∙ c.release.ensures.same.0 ∙ c.bring.ensures.seat.0)
          (c.turn_back.ensures.seat.2 ∙ ap (λ m. m.0) c.release.ensures.given ∙ ap {A = View g.row.O-Part.Denot g.row.O-Event.Denot} {B = View g.row.O-Part.Denot g.row.O-Event.Denot} (λ v. record v { held = set v.held c.args.part None }) c.bring.ensures.seat.2)
          c.take.ensures.left order;
    }
