use Rattle.std.proofs.Common.{◌∙◌, Bool, ap, filter, not}
use Rattle.mms_types.specs.declared.key.Key.{Key}
use Rattle.event_enrol.specs.declared.enrolment.Enrolment.{Enrolment}
use Rattle.serve_events.proofs.enrolments.drop_selected.Goals as goal

pub returns : goal.returns
returns c = c.delete.ensures ∙ ap (λ (p : Key × Enrolment → Bool). filter (λ row. not (p row)) c.args.enrolments.now) c.requires
