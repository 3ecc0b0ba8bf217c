use Rattle.std.proofs.Common.{sym, ap, ◌∙◌, subst}
use Rattle.part_table.specs.Held.{IsHandOf}
use Rattle.step_parts.specs.Partition.{parts_of}
use Rattle.mms_device.specs.Shared.{IsOf, Caller, Shared, led_to}
use Rattle.mms_device.proofs.Outcomes.{hand_led}
use Rattle.mms_device.proofs.many.Device.see.Goals as goal

pub returns-clause-parts : goal.returns-clause-parts
returns-clause-parts c =
    let config = c.self.inside.config.value in
    let table = ap (λ (x : Caller). x.table) c.see.ensures.kept ∙ c.requires.table ∙ sym (ap (λ (d : Shared). d.table) c.self.view_is) in
    subst (λ (d : Shared). IsHandOf c.see.new.pass.taken (parts_of (led_to d.config c.see.new.pass.seen))) c.self.view_is
    (hand_led config c.see.new.pass (subst (λ t. IsOf t config) (sym table) c.self.invariant.0) c.see.ensures.parts)
