use Rattle.std.proofs.Common.{ℕ, ◌∙◌, ap, sym, subst, Some}
use Rattle.association.specs.Client.{Client as RoomyRow}
use Rattle.mms_types.specs.Areas.{device_request}
use Rattle.mms_types.specs.Serves.{Serves}
use Rattle.mms_types.specs.declared.area.DeviceRequest.{DeviceRequest}
use Rattle.mms_types.specs.declared.pdu.Answer.TheVariants as answer
use Rattle.cell_client.specs.Association.{Takes}
use Rattle.parted_state.specs.Area.{no_table}
use Rattle.cell_services.specs.Acts.{IsDoneIn}
use Rattle.cell_services.specs.Device.{domain_of, listed, scope_cause, scope_of}
use Rattle.cell_services.specs.Facts.{is_domain_live, names_in}
use Rattle.cell_services.proofs.AreaLaws.{names_served}
use Rattle.cell_services.proofs.device.serve_device.Goals as goal

pub returns-clause-served : goal.returns-clause-served
returns-clause-served c t looked =
    subst (λ (x : DeviceRequest). IsDoneIn no_table t c.args.own.now.row tt c.settle.new.self (Takes c.args.invoke (device_request x))) (sym c.in-GetNameList.is)
    (names_served c.in-GetNameList.asked.now t c.args.own.now.row c.args.invoke c.settle.new.self
    (c.in_ok-_answered-in-GetNameList.ensures.told _ _
    (subst
    (λ (n : ℕ). Serves c.name_list-said.result (scope_cause (is_domain_live (domain_of c.in-GetNameList.asked.now.scope) t.domains) c.in-GetNameList.asked.now.scope)
    (Some (answer.GetNameList (listed (names_in t (scope_of n c.in-GetNameList.asked.now.scope) c.in-GetNameList.asked.now.class c.in-GetNameList.asked.now.after)))))
    (c.client-client.ensures ∙ ap (λ (p : RoomyRow). p.row.client) c.part.ensures) (c.name_list-said.ensures t looked))))
