use Rattle.std.proofs.Common.{◌≡◌, ℕ, List, map, ap, ◌∙◌, subst}
use Rattle.std.specs.Box.{box_value}
use Rattle.mms_types.specs.declared.event.CellEvent.{CellEvent}
use Rattle.part_table.specs.Closing.{IsLongest}
use Rattle.part_table.specs.History.{replayed}
use Rattle.step_parts.specs.declared.part.Part.{Part}
use Rattle.step_parts.specs.Partition.{parts_of}
use Rattle.step_parts.specs.After.{parts_after}
use Rattle.mms_device.specs.Making.{MayMake}
use Rattle.mms_device.specs.Shared.{Shared, led_to}
use Rattle.mms_device.proofs.Leading.{leads}
use Rattle.mms_device.proofs.many.Device.close.Goals as goal

pub returns-in-Ok-clause-parts : goal.returns-in-Ok-clause-parts
returns-in-Ok-clause-parts c =
    let config = c.self.inside.config.value in
    let found = c.in-Ok.ensures.parts in
    let is = c.self.invariant.0 in
    subst (λ (d : Shared). (h : List (ℕ × CellEvent)) × IsLongest MayMake d.table.callers c.args.passes.items h × (map box_value c.in-Ok.parts.items ≡ parts_of (led_to d.config h))) c.self.view_is
    (found.0, found.1, found.2 ∙ ap (λ (l : List Part). replayed parts_after l found.0) is.opening ∙ (leads config found.0).0)
