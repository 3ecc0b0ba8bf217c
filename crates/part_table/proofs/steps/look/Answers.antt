use Rattle.std.specs.Box.{box_value}
use Rattle.part_table.specs.Rule.{setting_of}
use Rattle.part_table.proofs.Commits.{sees}
use Rattle.part_table.proofs.steps.look.Goals as goal

pub load-requires : goal.load-requires
load-requires g c =
    let o = g.O.Object in
    (c.requires.table, c.requires.words, sees box_value o.step o.may_make (setting_of c.args.table.now.shared.key) _ _ c.args.seat.now.me _ c.requires.number)
