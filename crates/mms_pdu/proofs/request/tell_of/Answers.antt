use Rattle.std.proofs.Common.{Option, Result, Ok, ap, ◌∙◌}
use Rattle.std.specs.Option.{option_map}
use Rattle.ber_core.specs.Part.{part}
use Rattle.ber_forms.specs.Fault.{Fault}
use Rattle.ber_forms.specs.Value.{Value}
use Rattle.mms_types.specs.declared.pdu.Request.{Request}
use Rattle.pdu_names.specs.Editions.{lengths_of}
use Rattle.mms_pdu.proofs.ByArea.{request_by, not_offered, unread_request}
use Rattle.mms_pdu.proofs.request.tell_of.Goals as goal

abbrev seen : (Request → Option Value) → Option Request → Result (Option (Option Value)) Fault
seen value o = Ok (option_map value o)

pub returns-in-Ok-Some-clause-told : goal.returns-in-Ok-Some-clause-told
returns-in-Ok-Some-clause-told g c =
    rw c.tell_asked.ensures
    (request_by (lengths_of c.args.edition) c.args.edition c.args.invoke (part c.args.service) g.A.Area.area.requests c.in-Ok-Some.request c.requires.form c.requires.value
    (c.in-Ok-Some.ensures ∙ ap (seen g.A.Area.area.requests.value) c.in-Ok-Some.field-0-is))

pub returns-in-Ok-None-clause-told : goal.returns-in-Ok-None-clause-told
returns-in-Ok-None-clause-told g c =
    rw c.tell.ensures
    (not_offered (lengths_of c.args.edition) c.args.edition c.args.invoke (part c.args.service) g.A.Area.area.requests c.requires.form
    (c.in-Ok-None.ensures ∙ ap (seen g.A.Area.area.requests.value) c.in-Ok-None.field-0-is))

pub returns-in-Err-clause-told : goal.returns-in-Err-clause-told
returns-in-Err-clause-told g c =
    rw (c.tell-in-Err.ensures, c.refusal_of_argument.ensures)
    (unread_request (lengths_of c.args.edition) c.args.edition c.args.invoke (part c.args.service) g.A.Area.area.requests c.in-Err.unread c.requires.form c.in-Err.ensures)
