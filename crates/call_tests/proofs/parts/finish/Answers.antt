use Rattle.std.proofs.Common.{length, arith, sym, ◌∙◌, ap, subst}
use Rattle.part_table.specs.Closing.{AreAllIdle}
use Rattle.part_table.specs.Gathered.{AreAll}
use Rattle.part_table.proofs.Moving.{all_in_order, idle_gathered, take_as_many}
use Rattle.call_tests.proofs.parts.finish.Goals as goal

pub gather-places-requires : goal.gather-places-requires
gather-places-requires c = record { all = subst (AreAll c.args.table) (sym c.as_mut_slice.ensures.value) (all_in_order c.args.table c.args.passes.items c.requires.all.0 c.requires.all.1) }

pub close-requires : goal.close-requires
close-requires c =
    let g = c.gather-places.ensures.gathered in
    let same = c.as_mut_slice.ensures.value in
    let size = g.1.same in
    let idle = idle_gathered _ c.args.table c.as_mut_slice.result.now c.gather-places.new.passes _ g.0 (ap (λ l. length l) same ∙ c.requires.all.0)
    (subst (λ l. Rattle.part_table.specs.Amounts.AreInOrder c.args.table 0 l) (sym same) c.requires.all.1) g.1 in
    record { all = subst (AreAllIdle c.args.table) (take_as_many c.gather-places.new.passes _ c.args.passes.len (let long = ap (λ l. length l) same in omega (arith, size, long, c.args.passes.ok))) idle }
