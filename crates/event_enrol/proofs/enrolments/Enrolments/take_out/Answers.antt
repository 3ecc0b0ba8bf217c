use Rattle.std.proofs.Common.{◌≡◌, ◌∙◌, ap, arith, filter, length, subst, sym}
use Rattle.std.specs.List.{list_all}
use Rattle.object_names.proofs.Fewer.{still_few}
use Rattle.event_enrol.specs.Enrolments.{has_own_names}
use Rattle.event_enrol.specs.Going.{stays}
use Rattle.event_enrol.specs.Groups.{IsIndexOf}
use Rattle.event_enrol.proofs.Indexed.{leaves}
use Rattle.event_enrol.proofs.Kept.{all_left}
use Rattle.event_enrol.proofs.enrolments.Enrolments.take_out.Goals as goal

pub invariant_of-self : goal.invariant_of-self
invariant_of-self c =
    let rows = c.self.inside.rows.entries in
    let keep : c.drop_rows.new.rows.entries ≡ filter (stays c.args.by.now) rows = c.drop_rows.ensures in
    let few = still_few (stays c.args.by.now) rows 1024 c.self.invariant.0 in
    let long = ap (λ es. length es) keep in (
      omega (arith, few, long),
      ap (list_all has_own_names) keep ∙ all_left has_own_names (stays c.args.by.now) rows c.self.invariant.1,
      subst (λ es. IsIndexOf es c.leave.new.groups.entries) (sym keep) (leaves c.args.by.now rows c.self.inside.groups.entries _ c.self.invariant.2 c.leave.ensures),
    )
