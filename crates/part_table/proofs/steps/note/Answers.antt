use Rattle.std.specs.Box.{box_value}
use Rattle.part_table.specs.Rule.{setting_of}
use Rattle.part_table.proofs.Cuts.{splits_note}
use Rattle.part_table.proofs.steps.note.Goals as goal

pub split_seat-requires : goal.split_seat-requires
split_seat-requires g c =
    let o = g.O.Object in (c.requires.table, c.requires.words, splits_note box_value o.step o.may_make (setting_of c.args.table.now.shared.key) _ _)
