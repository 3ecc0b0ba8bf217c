use Rattle.std.proofs.Common.{◌∙◌, sym}
use Rattle.object_names.proofs.Counted.{none_goes}
use Rattle.event_enrol.specs.Enrolments.{is_on}
use Rattle.event_enrol.proofs.enrolments.Enrolments.forget.Goals as goal

-- where there is none on the condition all stay
pub returns-then-number_on-eq0 : goal.returns-then-number_on-eq0
returns-then-number_on-eq0 c =
    sym (none_goes (is_on c.args.condition.now) c.args.self.now (sym c.number_on.ensures ∙ c.if-number_on-eq0.true))
