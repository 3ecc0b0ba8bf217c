use Rattle.std.proofs.Common.{◌∙◌, ap, sym}
use Rattle.std.proofs.lemmas.Result.{on_err_weaker}
use Rattle.std.specs.Map.{set_value}
use Rattle.domain_load.specs.Domains.{name_eq}
use Rattle.std.proofs.lemmas.Map.Steps.{set_value_same}
use Rattle.domain_load.proofs.used.put_one.Goals as goal

pub returns-in-Some-clause-kept : goal.returns-in-Some-clause-kept
returns-in-Some-clause-kept c =
    let rows = c.args.rows.now.entries in
    let test = name_eq c.args.domain.now in
    let through = c.get_mut.follows.holds c.put_name.new.self in
    on_err_weaker c.put_name.result
    (λ kept. through.0 ∙ ap (λ domain. set_value test rows domain) kept ∙ set_value_same test rows c.in-Some.found.now (sym c.in-Some.ensures.value))
    c.put_name.ensures.kept
