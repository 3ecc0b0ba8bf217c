use Rattle.std.specs.Prelude.{◌≡◌, ℕ, List, Bool, Option, Some, refl}
use Rattle.std.specs.Option.{option_map}
use Rattle.std.proofs.Common.{ap, sym, ◌∙◌}
use Rattle.std.proofs.lemmas.Result.{on_ok_weaker}
use Rattle.mms_types.specs.declared.access_result.WriteResult.{WriteResult}
use Rattle.mms_types.specs.declared.pdu.Answer.TheVariants as answer
use Rattle.mms_types.specs.declared.variable.Write.{Write}
use Rattle.variable_services.specs.declared.tables.VariableTables.{VariableTables}
use Rattle.variable_services.specs.Services.{guards_owned, write_after, write_answer, write_cause}
use Rattle.serve_variables.specs.Variables.{write}
use Rattle.serve_variables.proofs.InLaws.{done, error_said, refused, same_client, too_long}
use Rattle.serve_variables.proofs.writing.write.Goals as goal

told : (owns : List ℕ → Bool) (client own : ℕ) (x : Write) (v : VariableTables) (flags : List Bool) (results : List WriteResult) → own ≡ client → flags ≡ guards_owned owns own x v
    → Some (write_answer (guards_owned owns client x v) client x v) ≡ Some results → Some (answer.Write (write_answer flags own x v)) ≡ Some (answer.Write results)
told owns client own x v flags results same are is =
    ap (λ (l : List Bool). Some (answer.Write (write_answer l own x v))) are ∙ ap (λ (k : ℕ). Some (answer.Write (write_answer (guards_owned owns k x v) k x v))) same
    ∙ ap (λ (o : Option (List WriteResult)). option_map answer.Write o) is

pub returns-in-Err-Service-clause-served : goal.returns-in-Err-Service-clause-served
returns-in-Err-Service-clause-served g c =
    let client : c.args.own.now.row.client ≡ c.client-client.result = same_client c.client-client.result c.part.result.now c.args.own.now c.client-client.ensures c.part.ensures in
    on_ok_weaker c.refuse.result
    (λ sent facts flags. refused (write c.args.asked.now) facts c.args.own.now.row c.args.invoke c.args.tables.now c.in-Err-Service.error c.refuse.new.self refl
    (ap (λ (k : ℕ). write_cause k c.args.asked.now c.args.tables.now) client ∙ error_said _ c.in-Err-Service.error _ _ c.in-Err-Service.field-0-is c.in-Err-Service.ensures.answer) sent)
    c.refuse.ensures.sent

pub returns-in_default-clause-served : goal.returns-in_default-clause-served
returns-in_default-clause-served g c = λ facts flags.
    let client : c.args.own.now.row.client ≡ c.client-client.result = same_client c.client-client.result c.part.result.now c.args.own.now c.client-client.ensures c.part.ensures in
    too_long (write c.args.asked.now) facts c.args.own.now.row c.args.invoke c.args.tables.now (answer.Write c.in-Ok.results) c.in_ok-octets-in-Ok.field-0 c.ready.new.self refl
    (ap (λ (k : ℕ). write_cause k c.args.asked.now c.args.tables.now) client ∙ c.in-Ok.ensures.answer.0)
    (told (g.O.OwnsGuards.owns c.args.by.now) c.client-client.result c.args.own.now.row.client c.args.asked.now c.args.tables.now facts.owned c.in-Ok.results client flags c.in-Ok.ensures.answer.1)
    c.in_default.is c.in_ok-octets-in-Ok.ensures.fits c.in_ok-octets-in-Ok.ensures.refused

pub returns-in-Some-clause-served : goal.returns-in-Some-clause-served
returns-in-Some-clause-served g c = λ facts flags.
    let client : c.args.own.now.row.client ≡ c.client-client.result = same_client c.client-client.result c.part.result.now c.args.own.now c.client-client.ensures c.part.ensures in
    done (write c.args.asked.now) facts c.args.own.now.row c.args.invoke c.args.tables.now (answer.Write c.in-Ok.results) _ c.in_ok-octets-in-Ok.field-0 c.in-Some.octets c.ready.new.self c.push.new.self refl
    (ap (λ (k : ℕ). write_cause k c.args.asked.now c.args.tables.now) client ∙ c.in-Ok.ensures.answer.0)
    (told (g.O.OwnsGuards.owns c.args.by.now) c.client-client.result c.args.own.now.row.client c.args.asked.now c.args.tables.now facts.owned c.in-Ok.results client flags c.in-Ok.ensures.answer.1)
    (c.write.ensures ∙ c.in-Ok.ensures.values
    ∙ ap (λ (k : ℕ). write_after (guards_owned (g.O.OwnsGuards.owns c.args.by.now) k c.args.asked.now c.args.tables.now) k c.args.asked.now c.args.tables.now) (sym client)
    ∙ ap (λ (l : List Bool). write_after l c.args.own.now.row.client c.args.asked.now c.args.tables.now) (sym flags))
    c.in-Some.is c.in_ok-octets-in-Ok.ensures.fits c.in_ok-octets-in-Ok.ensures.octets c.in_ok-octets-in-Ok.ensures.room c.push.ensures
