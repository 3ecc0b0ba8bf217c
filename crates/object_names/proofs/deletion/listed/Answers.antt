use Rattle.std.proofs.Common.{take, sym, ap, ◌∙◌}
use Rattle.object_names.specs.Deletion.{is_listed_by}
use Rattle.object_names.specs.Selected.{is_among}
use Rattle.object_names.proofs.Listed.{listed_more, take_more}
use Rattle.object_names.proofs.deletion.listed.Goals as goal

-- src/deletion.rt:34:5
pub loop-name-preserved : goal.loop-name-preserved
loop-name-preserved c =
    let before = take c.loop-name.name-index c.args.names.now in
    let one_more = take_more c.loop-name.name-index c.args.names.now c.name-item.result c.loop-name-test.true c.name-item.is in
    ap is_among c.in_ok-insert.ensures.keys
    ∙ listed_more c.args.client before c.name-item.result c.loop-name.set.keys c.of.result c.of.ensures c.loop-name.invariant
    ∙ ap (is_listed_by c.args.client) (sym one_more)
