use Rattle.std.proofs.Common.{length, arith, sym, ◌∙◌, ap, subst}
use Rattle.part_table.specs.Closing.{AreAllIdle}
use Rattle.part_table.specs.Gathered.{AreAll}
use Rattle.part_table.proofs.Moving.{take_as_many}
use Rattle.mms_device.specs.Callers.{AreInOrder}
use Rattle.mms_device.proofs.Gathering.{all_in_order, idle_gathered}
use Rattle.device_tests.proofs.callers.closed.Goals as goal

pub gather-places-requires : goal.gather-places-requires
gather-places-requires c = record {
  all = subst (AreAll c.args.device.table) (sym c.as_mut_slice.ensures.value) (all_in_order c.args.device.table c.args.passes.items c.requires.count c.requires.order);
}

pub close-requires : goal.close-requires
close-requires c =
    let table = c.args.device.table in
    let g = c.gather-places.ensures.gathered in
    let same = c.as_mut_slice.ensures.value in
    let size = g.1.same in
    let idle = idle_gathered table c.as_mut_slice.result.now c.gather-places.new.passes c.gather-places.result g.0 (ap (λ l. length l) same ∙ c.requires.count)
    (subst (λ l. AreInOrder table 0 l) (sym same) c.requires.order) g.1 in
    record {
      all = subst (AreAllIdle table) (take_as_many c.gather-places.new.passes _ c.args.passes.len (let long = ap (λ l. length l) same in omega (arith, size, long, c.args.passes.ok))) idle;
    }
