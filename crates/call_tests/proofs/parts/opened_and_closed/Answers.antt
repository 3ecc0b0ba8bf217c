use Rattle.std.proofs.Common.{rules, ◌≡◌, map, length, ap, sym, subst, ◌∙◌}
use Rattle.std.specs.List.{range_with_len}
use Rattle.std.proofs.lemmas.List.FromFn.{length-map-range_with_len}
use Rattle.part_table.specs.Amounts.{AreInOrder}
use Rattle.part_table.specs.Known.{newcomer}
use Rattle.call_tests.proofs.Newcomers.{newcomers}
use Rattle.call_tests.proofs.parts.opened_and_closed.Goals as goal

pub finish-requires : goal.finish-requires
finish-requires c =
    let table = c.in_ok-table.table in
    let all : c.in_ok-table.passes.items ≡ map (newcomer table) (range_with_len 0 c.args.callers) = search rules in
    let many : table.callers ≡ c.args.callers = search rules in
    record { all = (ap (λ l. length l) all ∙ length-map-range_with_len (newcomer table) 0 c.args.callers ∙ sym many, subst (AreInOrder table 0) (sym all) (newcomers _ table 0 c.args.callers)) }
