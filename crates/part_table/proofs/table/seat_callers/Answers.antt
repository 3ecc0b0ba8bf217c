use Rattle.std.proofs.Common.{◌≡◌, ◌+◌, ◌-◌, ◌<◌, map, rules, arith, ◌∙◌, ap}
use Rattle.std.specs.Box.{box_value}
use Rattle.std.specs.List.{range_with_len}
use Rattle.part_table.specs.Rule.{setting_of}
use Rattle.part_table.specs.Known.{newcomer}
use Rattle.part_table.specs.Tables.{opened}
use Rattle.part_table.proofs.Cuts.{splits_next, first_starts, rest_starts, settled, starts_so, seated, one_pass_more}
use Rattle.part_table.proofs.table.seat_callers.Goals as goal

pub split_seat-own-requires : goal.split_seat-own-requires
split_seat-own-requires g c =
    let o = g.O.Object in
    let key = c.args.table.now.shared.key in
    let lt : c.loop-by.by < key.callers = omega (arith, c.loop-by-test.true, c.requires.told.0) in (
      c.loop-by.invariant.table,
      c.requires.words,
      splits_next box_value o.step o.may_make (setting_of key) _ c.loop-by.seat.me key.quota c.loop-by.by key.callers c.loop-by.invariant.seat lt,
    )

pub of-requires-clause-seat : goal.of-requires-clause-seat
of-requires-clause-seat g c =
    let key = c.args.table.now.shared.key in
    let lt : c.loop-by.by < key.callers = omega (arith, c.loop-by-test.true, c.requires.told.0) in
    let first = first_starts (setting_of key) c.loop-by.seat.me _ key.quota c.loop-by.by key.callers c.loop-by.invariant.seat lt c.split_seat-own.ensures.4 in
    rw c.requires.told.1 (starts_so (setting_of key) _ _ first)

pub of-requires-clause-told : goal.of-requires-clause-told
of-requires-clause-told g c =
    let key = c.args.table.now.shared.key in
    let lt : c.loop-by.by < key.callers = omega (arith, c.loop-by-test.true, c.requires.told.0) in
    let first = first_starts (setting_of key) c.loop-by.seat.me _ key.quota c.loop-by.by key.callers c.loop-by.invariant.seat lt c.split_seat-own.ensures.4 in
    rw (settled (setting_of key) _ _ first) (c.requires.told.1, c.requires.told.2)

pub of-requires-clause-few : goal.of-requires-clause-few
of-requires-clause-few g c =
    let key = c.args.table.now.shared.key in
    let lt : c.loop-by.by < key.callers = omega (arith, c.loop-by-test.true, c.requires.told.0) in
    let first = first_starts (setting_of key) c.loop-by.seat.me _ key.quota c.loop-by.by key.callers c.loop-by.invariant.seat lt c.split_seat-own.ensures.4 in
    rw (settled (setting_of key) _ _ first) (c.requires.few.0, lt, omega (arith, c.requires.few.2, c.requires.told.0))

pub loop-by-preserved : goal.loop-by-preserved
loop-by-preserved g c =
    let key = c.args.table.now.shared.key in
    let i = c.loop-by.invariant in
    let lt : c.loop-by.by < key.callers = omega (arith, c.loop-by-test.true, c.requires.told.0) in
    let split = c.split_seat-own.ensures in
    let first = first_starts (setting_of key) c.loop-by.seat.me _ key.quota c.loop-by.by key.callers i.seat lt split.4 in record {
      table = split.0 ∙ i.table;
      seat = rest_starts (setting_of key) c.loop-by.seat.me _ key.quota c.loop-by.by key.callers i.seat lt split.2;
      passes = one_pass_more c.args.table.now.shared.table_id key _ _ c.loop-by.by _ i.passes c.push_reserved.ensures.items
          (seated c.args.table.now.shared.table_id key _ c.split_seat-own.result.me _ c.loop-by.by _ (split.3 ∙ i.table) first c.in_ok-of.ensures);
      many = omega (arith, i.many, c.push_reserved.ensures.len);
      room = search rules;
    }

pub returns : goal.returns
returns g c =
    let key = c.args.table.now.shared.key in
    let id = c.args.table.now.shared.table_id in
    let i = c.loop-by.invariant in
    let last : c.loop-by.by ≡ c.args.callers - 1 = omega (arith, c.loop-by-test.false, c.loop-by.auto.by-end) in
    let all : c.args.callers - 1 + 1 ≡ c.args.callers = omega (arith, c.requires.few.1) in
    let before = i.passes ∙ ap (λ n. map (newcomer (opened id key)) (range_with_len 0 n)) last in
    one_pass_more id key _ _ (c.args.callers - 1) _ before c.push_reserved-2.ensures.items (seated id key _ c.loop-by.seat.me _ (c.args.callers - 1) _ i.table i.seat c.in_ok-of-2.ensures)
    ∙ ap (λ n. map (newcomer (opened id key)) (range_with_len 0 n)) all
