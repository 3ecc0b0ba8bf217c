use Rattle.std.proofs.Common.{◌≡◌, length, ap, ◌∙◌, arith}
use Rattle.std.proofs.lemmas.List.{length-map}
use Rattle.mms_device.specs.Shared.{all_events}
use Rattle.cell_record.specs.Report.{placed_from}
use Rattle.cell_run.proofs.EachDrained.{if_ok}
use Rattle.cell_run.proofs.Laid.{body_laid}
use Rattle.cell_run.proofs.Worked.{written}
use Rattle.cell_run.proofs.laying.placed.Goals as goal

pub consecutive-requires : goal.consecutive-requires
consecutive-requires c =
    let b = c.requires.body in
    let slots = c.in_ok-slots.slots in
    let same : length c.lay_all.new.slots ≡ length slots.items = c.lay_all.ensures.count ∙ ap length c.as_mut_slice.ensures.value in
    let events : c.in_ok-events.events.items ≡ all_events b.0 = body_laid b.0 c.args.count slots.items c.lay_all.new.slots _ c.in_ok-events.events.items b.1 c.in_ok-slots.ensures same
    (written slots.items c.lay_all.new.slots slots.len same (omega (arith, slots.ok))) c.in_ok-events.ensures (λ index. c.lay_all.ensures.laid b.0 b.2 index) in
    let n : length c.in_ok-events.events.items ≡ c.args.count = ap length events ∙ length-map b.0 _ ∙ b.1 in
    omega (arith, n, c.requires.few)

pub returns : goal.returns
returns c = λ body size s.
    let slots = c.in_ok-slots.slots in
    let same : length c.lay_all.new.slots ≡ length slots.items = c.lay_all.ensures.count ∙ ap length c.as_mut_slice.ensures.value in
    let events : c.in_ok-events.events.items ≡ all_events body = body_laid body c.args.count slots.items c.lay_all.new.slots _ c.in_ok-events.events.items size c.in_ok-slots.ensures same
    (written slots.items c.lay_all.new.slots slots.len same (omega (arith, slots.ok))) c.in_ok-events.ensures (λ index. c.lay_all.ensures.laid body s index) in
    if_ok c.consecutive.result _ _ c.consecutive.ensures (λ served e. e ∙ ap (placed_from c.args.first) events)
