use Rattle.std.specs.Box.{box_value}
use Rattle.part_table.specs.Rule.{setting_of}
use Rattle.part_table.proofs.Joins.{joins_any}
use Rattle.part_table.proofs.steps.take_in.Goals as goal

pub join_seat-requires : goal.join_seat-requires
join_seat-requires g c =
    let o = g.O.Object in (
      c.requires.tables.0,
      c.requires.tables.1,
      c.requires.empty.0,
      c.requires.words,
      joins_any box_value o.step o.may_make (setting_of c.args.table.now.shared.key) _ _ _ _ c.requires.number c.requires.empty.1,
    )
