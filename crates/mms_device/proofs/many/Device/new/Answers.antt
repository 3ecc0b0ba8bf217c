use Rattle.std.proofs.Common.{ap, length, subst, sym, ◌∙◌, arith}
use Rattle.std.proofs.lemmas.List.{length-map}
use Rattle.std.specs.Box.{box_value}
use Rattle.mms_device.proofs.Steps.{parts_few}
use Rattle.mms_device.proofs.many.Device.new.Goals as goal

pub new-requires-clause-parts : goal.new-requires-clause-parts
new-requires-clause-parts c =
    let boxes = length-map c.in_ok-parts.parts.items box_value in
    let same = ap length c.in_ok-parts.ensures in
    let few = parts_few c.args.config.now c.requires.config in
    let some = few.0 in
    let most = few.1 in
    let len = c.in_ok-parts.parts.ok.0 in
    (omega (arith, boxes, same, some, len), omega (arith, boxes, same, most, len))
