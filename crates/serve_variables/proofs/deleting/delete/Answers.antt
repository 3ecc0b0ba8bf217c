use Rattle.std.specs.Prelude.{◌≡◌, Bool, refl}
use Rattle.std.proofs.Common.{ap, sym, ◌∙◌}
use Rattle.std.proofs.lemmas.Result.{on_ok_weaker}
use Rattle.mms_types.specs.declared.pdu.Answer.TheVariants as answer
use Rattle.variable_services.specs.Services.{delete_cause}
use Rattle.serve_variables.specs.Variables.{delete_variables}
use Rattle.serve_variables.proofs.Deletions.{variables_left, variables_told}
use Rattle.serve_variables.proofs.InLaws.{done, refused, same_client, too_long}
use Rattle.serve_variables.proofs.deleting.delete.Goals as goal

pub returns-in-Some-clause-served : goal.returns-in-Some-clause-served
returns-in-Some-clause-served c =
    on_ok_weaker c.refuse.result
    (λ sent facts live. refused (delete_variables c.args.asked.now) facts c.args.own.now.row c.args.invoke c.args.tables.now c.in-Some.error c.refuse.new.self refl
    (ap (λ (l : Bool). delete_cause l c.args.asked.now) live ∙ sym c.in-Some.ensures) sent)
    c.refuse.ensures.sent

pub returns-in_default-2-clause-served : goal.returns-in_default-2-clause-served
returns-in_default-2-clause-served c = λ facts live.
    let client : c.args.own.now.row.client ≡ c.client.result = same_client c.client.result c.part.result.now c.args.own.now c.client.ensures c.part.ensures in
    too_long (delete_variables c.args.asked.now) facts c.args.own.now.row c.args.invoke c.args.tables.now (answer.DeleteVariableAccess c.deletion.result) c.in_ok-octets.field-0 c.ready.new.self refl
    (ap (λ (l : Bool). delete_cause l c.args.asked.now) live ∙ sym c.in_default.ensures)
    (variables_told c.client.result c.args.own.now.row.client c.args.asked.now c.args.tables.now _ client c.in_ok-selection.ensures c.deletion.result c.deletion.ensures)
    c.in_default-2.is c.in_ok-octets.ensures.fits c.in_ok-octets.ensures.refused

pub returns-clause-served : goal.returns-clause-served
returns-clause-served c = λ facts live.
    let client : c.args.own.now.row.client ≡ c.client.result = same_client c.client.result c.part.result.now c.args.own.now c.client.ensures c.part.ensures in
    done (delete_variables c.args.asked.now) facts c.args.own.now.row c.args.invoke c.args.tables.now (answer.DeleteVariableAccess c.deletion.result) _ c.in_ok-octets.field-0 c.in-Some-2.octets c.ready.new.self c.push.new.self refl
    (ap (λ (l : Bool). delete_cause l c.args.asked.now) live ∙ sym c.in_default.ensures)
    (variables_told c.client.result c.args.own.now.row.client c.args.asked.now c.args.tables.now _ client c.in_ok-selection.ensures c.deletion.result c.deletion.ensures)
    (variables_left c.client.result c.args.own.now.row.client c.args.asked.now c.args.tables.now _ client c.in_ok-selection.ensures c.delete.new.self c.delete.ensures)
    c.in-Some-2.is c.in_ok-octets.ensures.fits c.in_ok-octets.ensures.octets c.in_ok-octets.ensures.room c.push.ensures
