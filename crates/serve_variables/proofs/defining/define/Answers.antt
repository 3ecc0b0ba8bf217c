use Rattle.std.specs.Prelude.{◌≡◌, ℕ, Bool, refl}
use Rattle.std.proofs.Common.{ap, ap₂, sym, ◌∙◌}
use Rattle.std.proofs.lemmas.Result.{on_ok_weaker}
use Rattle.mms_types.specs.declared.pdu.Answer.TheVariants as answer
use Rattle.variable_services.specs.Services.{define_after, define_cause}
use Rattle.serve_variables.specs.Variables.{define_variable}
use Rattle.serve_variables.proofs.InLaws.{done, refused, same_client, too_long}
use Rattle.serve_variables.proofs.defining.define.Goals as goal

pub returns-in-Some-clause-served : goal.returns-in-Some-clause-served
returns-in-Some-clause-served c =
    let client : c.args.own.now.row.client ≡ c.client-client.result = same_client c.client-client.result c.part.result.now c.args.own.now c.client-client.ensures c.part.ensures in
    on_ok_weaker c.refuse.result
    (λ sent facts live. refused (define_variable c.args.asked.now) facts c.args.own.now.row c.args.invoke c.args.tables.now c.in-Some.error c.refuse.new.self refl
    (ap₂ (λ (l : Bool) (k : ℕ). define_cause l k c.args.asked.now c.args.tables.now) live client ∙ sym c.in-Some.ensures) sent)
    c.refuse.ensures.sent

pub returns-in_default-2-clause-served : goal.returns-in_default-2-clause-served
returns-in_default-2-clause-served c = λ facts live.
    let client : c.args.own.now.row.client ≡ c.client-client.result = same_client c.client-client.result c.part.result.now c.args.own.now c.client-client.ensures c.part.ensures in
    too_long (define_variable c.args.asked.now) facts c.args.own.now.row c.args.invoke c.args.tables.now answer.DefineNamedVariable c.in_ok-octets.field-0 c.ready.new.self refl
    (ap₂ (λ (l : Bool) (k : ℕ). define_cause l k c.args.asked.now c.args.tables.now) live client ∙ sym c.in_default.ensures) refl
    c.in_default-2.is c.in_ok-octets.ensures.fits c.in_ok-octets.ensures.refused

pub returns-clause-served : goal.returns-clause-served
returns-clause-served c = λ facts live.
    let client : c.args.own.now.row.client ≡ c.client-client.result = same_client c.client-client.result c.part.result.now c.args.own.now c.client-client.ensures c.part.ensures in
    done (define_variable c.args.asked.now) facts c.args.own.now.row c.args.invoke c.args.tables.now answer.DefineNamedVariable c.define.new.self c.in_ok-octets.field-0 c.in-Some-2.octets c.ready.new.self c.push.new.self refl
    (ap₂ (λ (l : Bool) (k : ℕ). define_cause l k c.args.asked.now c.args.tables.now) live client ∙ sym c.in_default.ensures) refl
    (c.in_default-define.ensures.defined ∙ ap (λ (k : ℕ). define_after k c.args.asked.now c.args.tables.now) (sym client))
    c.in-Some-2.is c.in_ok-octets.ensures.fits c.in_ok-octets.ensures.octets c.in_ok-octets.ensures.room c.push.ensures
