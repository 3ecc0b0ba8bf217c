use Rattle.std.proofs.Common.{◌∙◌, ap, sym}
use Rattle.mms_types.specs.declared.condition.DeleteEventEnrollment.TheVariants as asked
use Rattle.event_enrol.specs.Enrolments.{is_deleted}
use Rattle.event_enrol.proofs.enrolments.Enrolments.deletion.Goals as goal

pub returns-in-Some-clause-selected : goal.returns-in-Some-clause-selected
returns-in-Some-clause-selected c =
    (λ i row. c.in_ok-names-in-Names.ensures.set i row.0)
    ∙ ap (λ names. is_deleted c.args.client (asked.Names names)) c.as_slice.ensures
    ∙ sym (ap (is_deleted c.args.client) c.in-Names.is)
