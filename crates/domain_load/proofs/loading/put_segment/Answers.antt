use Rattle.std.proofs.Common.{◌∙◌, ap, length, sym}
use Rattle.std.proofs.lemmas.Result.{on_err_weaker}
use Rattle.std.specs.Map.{set_value}
use Rattle.domain_load.specs.Domains.{name_eq}
use Rattle.std.proofs.lemmas.Map.{length-set_value}
use Rattle.std.proofs.lemmas.Map.Steps.{set_value_same}
use Rattle.domain_load.proofs.loading.put_segment.Goals as goal

pub returns-in-Some-clause-kept : goal.returns-in-Some-clause-kept
returns-in-Some-clause-kept c =
    let rows = c.args.rows.now.entries in
    let through = c.get_mut.follows.holds c.append.new.self in
    on_err_weaker c.append.result
    (λ kept. through.0 ∙ ap (λ domain. set_value (name_eq c.args.name.now) rows domain) kept ∙ set_value_same (name_eq c.args.name.now) rows c.in-Some.domain.now (sym c.in-Some.ensures.value))
    c.append.ensures.kept

pub returns-in-Some-clause-many : goal.returns-in-Some-clause-many
returns-in-Some-clause-many c =
    let through = c.get_mut.follows.holds c.append.new.self in
    ap length through.0 ∙ length-set_value (name_eq c.args.name.now) c.args.rows.now.entries c.append.new.self
