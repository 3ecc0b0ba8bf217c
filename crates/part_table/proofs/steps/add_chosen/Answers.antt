use Rattle.std.specs.Box.{box_value}
use Rattle.part_table.specs.Rule.{setting_of}
use Rattle.part_table.proofs.Commits.{commits_chosen}
use Rattle.part_table.proofs.steps.add_chosen.Goals as goal

pub fetch_add-requires : goal.fetch_add-requires
fetch_add-requires g c =
    let o = g.O.Object in (
      c.requires.table,
      c.requires.words,
      commits_chosen box_value o.step o.may_make (setting_of c.args.table.now.shared.key) o.suffices o.after o.same_parts o.stepped _ _ c.args.seat.now.me _ g.C.Chosen.chosen c.args.event.now
          c.requires.chosen c.requires.number c.requires.left c.requires.enough c.requires.may,
    )
