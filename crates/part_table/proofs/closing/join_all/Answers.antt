use Rattle.std.proofs.Common.{[], sym, ◌∙◌, append-nil}
use Rattle.part_table.proofs.Ending.{joined_first, joined_next, joined_keeps, last_at}
use Rattle.part_table.proofs.closing.join_all.Goals as goal

pub seat_of-seat-requires : goal.seat_of-seat-requires
seat_of-seat-requires g c =
    let at = last_at c.args.passes.items c.args.passes.items c.pop.new.self.items [] c.in-Some.last c.pop.result (sym (append-nil _)) c.pop.ensures.items c.in-Some.is in
    let t = c.requires.idle _ c.in-Some.last at in record { idle = t.1 }

pub loop-pass-init : goal.loop-pass-init
loop-pass-init g c =
    let at = last_at c.args.passes.items c.args.passes.items c.pop.new.self.items [] c.in-Some.last c.pop.result (sym (append-nil _)) c.pop.ensures.items c.in-Some.is in
    let t = c.requires.idle _ c.in-Some.last at in
    record {
      table = c.seat_of-seat.ensures.table ∙ t.0;
      joined = joined_first _ _ _ c.in-Some.last c.pop.result c.seat_of-seat.ensures.seat c.in-Some.is c.pop.ensures.items;
    }

pub seat_of-requires : goal.seat_of-requires
seat_of-requires g c =
    let j = c.loop-pass.invariant.joined in
    let at = last_at c.args.passes.items c.loop-pass.passes.items c.pop-in-loop-pass.new.self.items j.0 c.in-Some-pop.pass c.pop-in-loop-pass.result j.1 c.pop-in-loop-pass.ensures.items c.in-Some-pop.is in
    let t = c.requires.idle _ c.in-Some-pop.pass at in record { idle = t.1 }

pub take_in-requires-clause-tables : goal.take_in-requires-clause-tables
take_in-requires-clause-tables g c =
    let j = c.loop-pass.invariant.joined in
    let at = last_at c.args.passes.items c.loop-pass.passes.items c.pop-in-loop-pass.new.self.items j.0 c.in-Some-pop.pass c.pop-in-loop-pass.result j.1 c.pop-in-loop-pass.ensures.items c.in-Some-pop.is in
    let t = c.requires.idle _ c.in-Some-pop.pass at in
    (c.loop-pass.invariant.table, c.seat_of.ensures.table ∙ t.0)

pub take_in-requires-clause-number : goal.take_in-requires-clause-number
take_in-requires-clause-number g c = joined_keeps c.loop-pass.seat.me _ _ c.loop-pass.invariant.joined

pub loop-pass-preserved : goal.loop-pass-preserved
loop-pass-preserved g c = record {
  table = c.take_in.ensures.same.0 ∙ c.loop-pass.invariant.table;
  joined = joined_next c.loop-pass.seat.me _ _ _ _ _ c.in-Some-pop.pass c.pop-in-loop-pass.result c.loop-pass.invariant.joined c.seat_of.ensures.seat c.take_in.ensures.joined c.in-Some-pop.is
      c.pop-in-loop-pass.ensures.items;
}
